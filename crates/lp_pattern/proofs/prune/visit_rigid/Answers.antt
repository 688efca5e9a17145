use Rattle.std.proofs.Common.{◌∙◌, ◌++◌, ap, reverse, false}
use Rattle.lp_term.proofs.Walking.{on_ok}
use Rattle.lp_pattern.specs.Reading.{side_of}
use Rattle.lp_pattern.specs.Scanning.{visits}
use Rattle.lp_pattern.proofs.PruneMoves.{rigid_prunes}
use Rattle.lp_pattern.proofs.prune.visit_rigid.Goals as goal

pub returns : goal.returns
returns c =
    on_ok c.push_arguments.result _ _
    (λ q next.
    rigid_prunes (side_of c.args.side.now) c.args.bank.now c.args.bindings.now next c.args.left.now.items c.push_arguments.new.left.items c.args.visit c.args.looked.now c.requires.looked c.requires.head
    (q ∙ ap (λ l. c.args.left.now.items ++ reverse (visits c.args.visit false l)) c.as_slice.ensures.value))
    c.push_arguments.ensures
