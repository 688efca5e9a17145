use Rattle.std.proofs.lemmas.Result.{err_from_is_err_and}
use Rattle.lp_bytes.specs.Reading.{four_at}
use Rattle.lp_bytes.proofs.Looping.{goes_on, ends, is_done}
use Rattle.lp_object.proofs.Pushed.{one_longer}
use Rattle.lp_object.proofs.fields.read_numbers.Goals as goal

pub loop-preserved : goal.loop-preserved
loop-preserved c = (
  one_longer _ c.push.new.self.items c.in_ok-record.record _ c.in_ok-push.ensures.items c.loop.invariant.0,
  goes_on (λ before. four_at) _ _ _ _ _ _ _ _ c.in_ok-push.ensures.items c.loop-test.true c.in_ok-record.ensures c.loop.invariant.1,
)

pub returns-in_err-record-clause-read : goal.returns-in_err-record-clause-read
returns-in_err-record-clause-read c =
    let p = err_from_is_err_and c.from_residual.result c.from_residual.ensures.1 in
    rw (p.1, p.2) (ends _ (λ before. four_at) _ _ _ _ _ c.loop-test.true c.in_err-record.ensures c.loop.invariant.1)

pub returns-clause-read : goal.returns-clause-read
returns-clause-read c = is_done (λ before. four_at) _ _ _ _ _ c.loop-test.false c.loop.invariant.1
