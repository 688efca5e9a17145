use Rattle.std.proofs.Common.{refl}
use Rattle.lp_goal.proofs.Tops.{head_top, seen_alone, seen_applied}
use Rattle.lp_goal.proofs.spine.glance.Goals as goal

pub returns-else-not-is_head-clause-spine : goal.returns-else-not-is_head-clause-spine
returns-else-not-is_head-clause-spine c =
    seen_applied c.args.store.now c.args.term.0 c.referred-at.result.0 _ c.in-App.head c.in-App.list c.cell-in-App.result c.referred-at.ensures.refers c.in-App.ensures.cell c.referred-top.ensures.refers c.cell-in-App.ensures.cell
    (c.is_head.ensures c.if-not-is_head.false) refl

pub returns-else-not-is_head-2 : goal.returns-else-not-is_head-2
returns-else-not-is_head-2 c =
    let h = c.is_head-in_default.ensures c.if-not-is_head-2.false in
    record {
      there = (c.referred-at.ensures.within, tt);
      top = head_top c.cell.result _ c.cell.ensures.cell h;
      spine = seen_alone c.args.store.now c.args.term.0 _ c.cell.result c.referred-at.ensures.refers c.cell.ensures.cell h refl;
    }
