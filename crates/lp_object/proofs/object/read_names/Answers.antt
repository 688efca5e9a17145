use Rattle.std.proofs.lemmas.Result.{err_from_is_err_and}
use Rattle.lp_lemmas.proofs.Lists.{map_pushed}
use Rattle.lp_bytes.proofs.Looping.{goes_on, ends, is_done}
use Rattle.lp_object.specs.Reading.{name_at}
use Rattle.lp_object.proofs.object.read_names.Goals as goal

pub loop-preserved : goal.loop-preserved
loop-preserved c = goes_on (λ before. name_at) _ _ _ _ _ _ _ _ (map_pushed (λ u. u.items) _ _ c.in_ok-name.name c.in_ok-push.ensures.items) c.loop-test.true c.in_ok-name.ensures c.loop.invariant

pub returns-in_err-name : goal.returns-in_err-name
returns-in_err-name c =
    let p = err_from_is_err_and c.from_residual.result c.from_residual.ensures.1 in
    rw (p.1, p.2) (ends _ (λ before. name_at) _ _ _ _ _ c.loop-test.true c.in_err-name.ensures c.loop.invariant)

pub returns : goal.returns
returns c = is_done (λ before. name_at) _ _ _ _ _ c.loop-test.false c.loop.invariant
