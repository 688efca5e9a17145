use Rattle.lp_unify.proofs.Frames.{stays_then}
use Rattle.lp_unify.proofs.compare.opened.Goals as goal

pub returns-in_err-right : goal.returns-in_err-right
returns-in_err-right c =
    let o = c.args.store.now in
    let l = c.put_application.new.store in
    stays_then o l c.put_application-2.new.store (stays_then o c.put_eigen.new.store l c.in_ok-eigen.ensures.stays c.in_ok-left.ensures.stays) c.in_err-right.ensures.stays

pub returns : goal.returns
returns c =
    let o = c.args.store.now in
    let l = c.put_application.new.store in
    stays_then o l c.put_application-2.new.store (stays_then o c.put_eigen.new.store l c.in_ok-eigen.ensures.stays c.in_ok-left.ensures.stays) c.in_ok-right.ensures.stays
