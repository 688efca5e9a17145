use Rattle.std.proofs.Common.{◌∙◌, sym, arith}
use Rattle.lp_term.proofs.Spines.{unwound_application, smaller_head, args_after}
use Rattle.lp_show.proofs.spine.spine_of.Goals as goal

pub down-smaller : goal.down-smaller
down-smaller c = smaller_head c.args.bank.now c.down.head c.in-App.next c.in-App.more.now c.in-App.ensures.tree c.in-App.ensures.older.2

pub down-preserved : goal.down-preserved
down-preserved c = record {
  same =
      c.down.invariant.same ∙
      sym (unwound_application c.args.bank.now 0 c.down.head c.in-App.next c.in-App.more.now c.down.arguments.items c.push_reversed.new.terms.items c.in-App.ensures.tree c.in_ok-push_reversed-in-App.ensures);
  head = omega (arith, c.in-App.ensures.older.0, c.down.invariant.head);
  arguments =
      args_after c.down.head.0 _ c.down.arguments.items c.in-App.more.now c.push_reversed.new.terms.items (omega arith) c.down.invariant.arguments c.in-App.ensures.older.1
      c.in_ok-push_reversed-in-App.ensures;
}
