use Rattle.std.proofs.lemmas.Result.{err_from_is_err_and}
use Rattle.lp_lemmas.proofs.Lists.{map_pushed}
use Rattle.lp_bytes.proofs.Looping.{goes_on, ends, is_done}
use Rattle.lp_object.specs.Plain.{plain_record}
use Rattle.lp_object.specs.Reading.{record_at}
use Rattle.lp_object.proofs.Pushed.{one_longer, record_fits}
use Rattle.lp_object.proofs.records.read_counted.Goals as goal

pub loop-preserved : goal.loop-preserved
loop-preserved c = (
  one_longer _ c.push.new.self.items c.in_ok-next.next _ c.in_ok-push.ensures.items c.loop.invariant.0,
  record_fits _ c.push.new.self.items c.in_ok-next.next c.in_ok-push.ensures.items c.loop.invariant.1 c.in_ok-next.ensures.fits,
  goes_on (λ before. record_at c.args.width) _ _ _ _ _ _ _ _ (map_pushed plain_record _ _ c.in_ok-next.next c.in_ok-push.ensures.items) c.loop-test.true c.in_ok-next.ensures.read c.loop.invariant.2,
)

pub returns-in_err-next-clause-read : goal.returns-in_err-next-clause-read
returns-in_err-next-clause-read c =
    let p = err_from_is_err_and c.from_residual.result c.from_residual.ensures.1 in
    rw (p.1, p.2) (ends _ (λ before. record_at c.args.width) _ _ _ _ _ c.loop-test.true c.in_err-next.ensures.read c.loop.invariant.2)

pub returns-clause-read : goal.returns-clause-read
returns-clause-read c = is_done (λ before. record_at c.args.width) _ _ _ _ _ c.loop-test.false c.loop.invariant.2
