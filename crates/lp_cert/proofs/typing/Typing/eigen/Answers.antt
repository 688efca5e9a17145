use Rattle.std.proofs.Common.{◌∙◌, ◌-◌, ap, sym, arith}
use Rattle.std.specs.Prelude.{Some}
use Rattle.std.proofs.lemmas.Option.{slice_get-get_or}
use Rattle.lp_cert.proofs.Deriving.{eigen_moves}
use Rattle.lp_cert.proofs.Keeping.{eigen_none}
use Rattle.lp_cert.proofs.Visiting.{eigen_kept, eigen_past}
use Rattle.lp_calculus.specs.Typing.{eigen_type}
use Rattle.lp_cert.specs.Same.{types_in}
use Rattle.lp_cert.proofs.typing.Typing.eigen.Goals as goal

pub returns-in-Some-clause-moves : goal.returns-in-Some-clause-moves
returns-in-Some-clause-moves c =
    eigen_moves c.args.bank.now c.args.self.now c.closed.new.self c.closed.result c.args.level (c.args.level - 1) c.in-Some.of.now
    (omega (arith, c.if-level-eq0.false)) (slice_get-get_or c.args.self.now.eigens.now _ _ c.in-Some.ensures.lookup.3.0 ∙ ap Some
    (sym c.in-Some.ensures.lookup.1)) c.closed.ensures.pushes

pub returns-then-level-eq0-clause-keeps : goal.returns-then-level-eq0-clause-keeps
returns-then-level-eq0-clause-keeps c = λ y. eigen_none c.args.bank.now c.args.self.now _ c.args.level (λ b. ap (eigen_type (types_in b c.args.self.now.eigens.now)) c.if-level-eq0.true)

pub returns-in-None-clause-keeps : goal.returns-in-None-clause-keeps
returns-in-None-clause-keeps c = λ y. eigen_none c.args.bank.now c.args.self.now _ c.args.level (eigen_past c.args.self.now.eigens.now c.args.level (c.args.level - 1) (omega (arith, c.if-level-eq0.false)) c.in-None.ensures.lookup.3)

pub returns-in-Some-clause-keeps : goal.returns-in-Some-clause-keeps
returns-in-Some-clause-keeps c =
    eigen_kept c.args.bank.now c.args.self.now c.closed.new.self c.closed.result c.args.level (c.args.level - 1) c.in-Some.of.now
    (omega (arith, c.if-level-eq0.false)) (slice_get-get_or c.args.self.now.eigens.now _ _ c.in-Some.ensures.lookup.3.0 ∙ ap Some
    (sym c.in-Some.ensures.lookup.1)) c.closed.ensures.held
