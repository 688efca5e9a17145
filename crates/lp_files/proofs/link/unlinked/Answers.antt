use Rattle.std.proofs.Common.{◌≡◌, ◌⊎◌, subst, sym}
use Rattle.lp_lines.specs.declared.refusal.Refusal.TheVariants as refusal
use Rattle.lp_files.specs.Said.{TellsUnlinked}
use Rattle.lp_files.proofs.link.unlinked.Goals as goal

pub returns-in-Differ-clause-says : goal.returns-in-Differ-clause-says
returns-in-Differ-clause-says c =
    subst (λ e. (c.differing_at.result ≡ refusal.Memory) ⊎ TellsUnlinked c.args.objects.now e c.differing_at.result) (sym c.in-Differ.is) c.differing_at.ensures.says
