use Rattle.std.proofs.Common.{sym}
use Rattle.lp_unify.proofs.Ways.{con_absent, arrow_absent}
use Rattle.lp_unify.proofs.TypeVisits.{visited_con, visited_arrow}
use Rattle.lp_unify.proofs.types.visit.Goals as goal

pub returns-in_ok-push_reversed-in-TypeCon-clause-avoids : goal.returns-in_ok-push_reversed-in-TypeCon-clause-avoids
returns-in_ok-push_reversed-in-TypeCon-clause-avoids c = λ e u a.
    con_absent c.args.store.now c.args.variable.0 c.args.top.0 c.in-TypeCon.field-0 c.in-TypeCon.types c.items.result.now c.args.stack.now.items c.push_reversed.new.stack.items (sym c.in-TypeCon.ensures.cell) u c.items.ensures.items c.in_ok-push_reversed-in-TypeCon.ensures a

pub returns-in_ok-push_reversed-in-TypeCon-clause-visited : goal.returns-in_ok-push_reversed-in-TypeCon-clause-visited
returns-in_ok-push_reversed-in-TypeCon-clause-visited c = λ h T r.
    visited_con c.args.store.now c.args.variable.0 c.args.top.0 c.in-TypeCon.field-0 c.in-TypeCon.types c.items.result.now c.args.stack.now.items c.push_reversed.new.stack.items T c.in-TypeCon.ensures.cell c.items.ensures.items c.in_ok-push_reversed-in-TypeCon.ensures r

pub returns-in_ok-push-in-TypeArrow-2-clause-avoids : goal.returns-in_ok-push-in-TypeArrow-2-clause-avoids
returns-in_ok-push-in-TypeArrow-2-clause-avoids c = λ e u a.
    arrow_absent c.args.store.now c.args.variable.0 c.args.top.0 c.in-TypeArrow.from c.in-TypeArrow.to c.args.stack.now.items _ _ (sym c.in-TypeArrow.ensures.cell) u c.in_ok-push-in-TypeArrow.ensures.items c.in_ok-push-in-TypeArrow-2.ensures.items a

pub returns-in_ok-push-in-TypeArrow-2-clause-visited : goal.returns-in_ok-push-in-TypeArrow-2-clause-visited
returns-in_ok-push-in-TypeArrow-2-clause-visited c = λ h T r.
    visited_arrow c.args.store.now c.args.variable.0 c.args.top.0 c.in-TypeArrow.from c.in-TypeArrow.to c.args.stack.now.items _ _ T c.in-TypeArrow.ensures.cell c.in_ok-push-in-TypeArrow.ensures.items c.in_ok-push-in-TypeArrow-2.ensures.items r
