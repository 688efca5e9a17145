use Rattle.lp_lemmas.proofs.Results.{passed_up}
use Rattle.lp_lines.specs.declared.refusal.Refusal.TheVariants as refusal
use Rattle.lp_files.specs.Refused.{IsRefused}
use Rattle.lp_files.proofs.Making.{refused_for_memory}
use Rattle.lp_files.proofs.store.make_ready.Goals as goal

pub returns-in_err-target-clause-cause : goal.returns-in_err-target-clause-cause
returns-in_err-target-clause-cause g c =
    passed_up c.from_residual.result refusal.Memory (IsRefused (g.F.Folder.held c.args.folder.now) c.args.command c.args.name.now) c.from_residual.ensures.1 (refused_for_memory _ c.args.command c.args.name.now)
