use Rattle.std.proofs.Common.{arith, ◌+◌, ◌≤◌, length, inl, inr}
use Rattle.lp_term.specs.Nodes.{tree}
use Rattle.lp_term.proofs.Ways.{put_low_given, put_above_given}
use Rattle.lp_term.proofs.carry.lower.Goals as goal

pub returns-then-at-depth-clause-tree : goal.returns-then-at-depth-clause-tree
returns-then-at-depth-clause-tree c = put_low_given c.args.bank.now c.args.given.now c.args.depth c.args.at (tree c.args.bank.now c.args.id.0) c.requires.index c.if-at-depth.true

pub returns-clause-tree : goal.returns-clause-tree
returns-clause-tree c =
    let l : c.args.depth + length c.args.given.now ≤ c.args.at = elim c.requires.other [ inl l ↦ absurd (omega (arith, l, c.if-at-depth.false)) | inr l ↦ l ] in
    put_above_given c.args.bank.now c.args.given.now c.args.depth c.args.at (tree c.put_term.new.self c.in_ok-made.made.0) c.in_ok-made.ensures.tree l
