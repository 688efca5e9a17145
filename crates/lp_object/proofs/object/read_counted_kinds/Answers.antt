use Rattle.std.proofs.Common.{sym, subst}
use Rattle.std.proofs.lemmas.Result.{err_from_is_err_and}
use Rattle.lp_lemmas.proofs.Lists.{map_pushed}
use Rattle.lp_bytes.proofs.Looping.{goes_on, ends, is_done}
use Rattle.lp_object.specs.Plain.{plain_object_kind}
use Rattle.lp_object.specs.Reading.{object_kind_name, object_kind_at}
use Rattle.lp_object.specs.inner.Known.{Knows}
use Rattle.lp_object.proofs.object.read_counted_kinds.Goals as goal

pub loop-preserved : goal.loop-preserved
loop-preserved c =
    let more = map_pushed plain_object_kind c.loop.kinds.items c.push.new.self.items c.in_ok-kind.kind c.in_ok-push.ensures.items in (
      subst (Knows c.read_kind.new.names) (sym (map_pushed object_kind_name _ _ _ more)) (c.in_ok-kind.ensures.known _ c.loop.invariant.0),
      goes_on object_kind_at _ _ _ _ _ _ _ _ more c.loop-test.true (c.in_ok-kind.ensures.read _ c.loop.invariant.0) c.loop.invariant.1,
    )

pub returns-in_err-kind : goal.returns-in_err-kind
returns-in_err-kind c =
    let p = err_from_is_err_and c.from_residual.result c.from_residual.ensures.1 in
    rw (p.1, p.2) (ends _ object_kind_at _ _ _ _ _ c.loop-test.true (c.in_err-kind.ensures.read _ c.loop.invariant.0) c.loop.invariant.1)

pub returns : goal.returns
returns c = is_done object_kind_at _ _ _ _ _ c.loop-test.false c.loop.invariant.1
