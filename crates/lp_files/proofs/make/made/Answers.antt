use Rattle.std.proofs.Common.{sym, subst}
use Rattle.std.specs.Prelude.{IfErr, IfOk}
use Rattle.lp_files.specs.Made.{IsMade}
use Rattle.lp_files.specs.Refused.{IsRefused}
use Rattle.lp_files.proofs.make.made.Goals as goal

pub returns-in-Compile-clause-made : goal.returns-in-Compile-clause-made
returns-in-Compile-clause-made g c =
    subst (λ x. IfOk c.compiled.result (λ bytes. IsMade (g.F.Folder.held c.args.folder.now) x c.args.name.now bytes.items)) (sym c.in-Compile.is) c.compiled.ensures.object

pub returns-in-Link-clause-made : goal.returns-in-Link-clause-made
returns-in-Link-clause-made g c =
    subst (λ x. IfOk c.linked.result (λ bytes. IsMade (g.F.Folder.held c.args.folder.now) x c.args.name.now bytes.items)) (sym c.in-Link.is) c.linked.ensures.image

pub returns-in-Migrate-clause-made : goal.returns-in-Migrate-clause-made
returns-in-Migrate-clause-made g c =
    subst (λ x. IfOk c.migrated.result (λ bytes. IsMade (g.F.Folder.held c.args.folder.now) x c.args.name.now bytes.items)) (sym c.in-Migrate.is) c.migrated.ensures.same

pub returns-in-Compile-clause-cause : goal.returns-in-Compile-clause-cause
returns-in-Compile-clause-cause g c =
    subst (λ x. IfErr c.compiled.result (IsRefused (g.F.Folder.held c.args.folder.now) x c.args.name.now)) (sym c.in-Compile.is) c.compiled.ensures.cause

pub returns-in-Link-clause-cause : goal.returns-in-Link-clause-cause
returns-in-Link-clause-cause g c =
    subst (λ x. IfErr c.linked.result (IsRefused (g.F.Folder.held c.args.folder.now) x c.args.name.now)) (sym c.in-Link.is) c.linked.ensures.cause

pub returns-in-Migrate-clause-cause : goal.returns-in-Migrate-clause-cause
returns-in-Migrate-clause-cause g c =
    subst (λ x. IfErr c.migrated.result (IsRefused (g.F.Folder.held c.args.folder.now) x c.args.name.now)) (sym c.in-Migrate.is) c.migrated.ensures.cause
