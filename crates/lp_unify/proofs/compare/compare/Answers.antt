use Rattle.lp_unify.proofs.Frames.{stays_then}
use Rattle.lp_unify.proofs.compare.compare.Goals as goal

pub returns-in_err-inner : goal.returns-in_err-inner
returns-in_err-inner c =
    let o = c.args.store.now in
    let l = c.look-2.new.store in
    stays_then o l c.opened.new.store (stays_then o c.look.new.store l c.in_ok-one.ensures c.in_ok-other.ensures) c.in_err-inner.ensures

pub returns-in_err-push : goal.returns-in_err-push
returns-in_err-push c =
    let o = c.args.store.now in
    let l = c.look-2.new.store in
    stays_then o l c.opened.new.store (stays_then o c.look.new.store l c.in_ok-one.ensures c.in_ok-other.ensures) c.in_ok-inner.ensures

pub returns-then-is_some_abstraction : goal.returns-then-is_some_abstraction
returns-then-is_some_abstraction c =
    let o = c.args.store.now in
    let l = c.look-2.new.store in
    stays_then o l c.opened.new.store (stays_then o c.look.new.store l c.in_ok-one.ensures c.in_ok-other.ensures) c.in_ok-inner.ensures
