use Rattle.std.proofs.Common.{◌∙◌, arith}
use Rattle.lp_term.proofs.Spines.{unwound_application, smaller_head, args_after}
use Rattle.lp_term.proofs.unwind.unwind.Goals as goal

pub down-smaller-in-App : goal.down-smaller-in-App
down-smaller-in-App c = smaller_head c.args.bank.now c.down.head c.in-App.next c.in-App.more.now c.in-App.ensures.tree c.in-App.ensures.older.2

pub down-preserved-in-App : goal.down-preserved-in-App
down-preserved-in-App c = record {
  same =
      unwound_application c.args.bank.now c.down.depth c.down.head c.in-App.next c.in-App.more.now c.down.args.items c.push_reversed.new.args.items c.in-App.ensures.tree
      c.in_ok-push_reversed-in-App.ensures ∙ c.down.invariant.same;
  depth = c.down.invariant.depth;
  head = omega (arith, c.in-App.ensures.older.0, c.down.invariant.head);
  args =
      args_after c.down.head.0 _ c.down.args.items c.in-App.more.now c.push_reversed.new.args.items (omega arith) c.down.invariant.args c.in-App.ensures.older.1
      c.in_ok-push_reversed-in-App.ensures;
}
