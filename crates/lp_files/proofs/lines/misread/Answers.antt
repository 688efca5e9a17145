use Rattle.std.proofs.Common.{◌++◌, subst, sym}
use Rattle.std.specs.Prelude.{codes}
use Rattle.std.specs.Fmt.{decimal}
use Rattle.lp_lines.specs.Refusals.{TellsImage}
use Rattle.lp_files.specs.Said.{TellsMisread}
use Rattle.lp_files.proofs.lines.misread.Goals as goal

pub returns-in-BadVersion-clause-says : goal.returns-in-BadVersion-clause-says
returns-in-BadVersion-clause-says c =
    subst (λ e. TellsMisread c.args.file.now e c.said_with.result) (sym c.in-BadVersion.is)
    (subst (λ v. TellsImage c.args.file.now (codes "bad version " ++ decimal v) c.said_with.result) c.from.ensures c.said_with.ensures.says)
