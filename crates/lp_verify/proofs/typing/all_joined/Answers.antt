use Rattle.std.proofs.Common.{refl}
use Rattle.std.proofs.lemmas.Option.{slice_get-get_or}
use Rattle.lp_verify.specs.inner.Indices.{store}
use Rattle.lp_verify.specs.inner.Handed.{SameTerm}
use Rattle.std.proofs.lemmas.List.{drop_all}
use Rattle.lp_verify.proofs.LooseSeen.{grows_same, grows_then}
use Rattle.lp_verify.proofs.UsedConstants.{types_same}
use Rattle.lp_verify.proofs.TermsMade.{none_joined, one_joined, every_joined, as_long}
use Rattle.lp_verify.proofs.typing.all_joined.Goals as goal

pub loop-other-init : goal.loop-other-init
loop-other-init c = (grows_same c.args.lists.now, λ x ts bs s alike. (ts, s, refl, refl))

pub loop-other-preserved : goal.loop-other-preserved
loop-other-preserved c =
    let first = c.args.lists.now in
    let old = c.loop-other.lists in
    let new = c.joined.new.self in
    let n = c.loop-other.other-index in
    let others = c.args.others.now in
    let inv = c.loop-other.invariant in (
      grows_then first old new inv.0 c.in_ok-joined.ensures.grow,
      λ x ts bs s alike.
          one_joined (store x first) (store x old) (store x new) c.loop-other.loose n _ others ts bs (slice_get-get_or others n _ c.loop-other-test.true) (inv.0, types_same x) alike (inv.1 x ts bs s alike) _ (c.in_ok-joined.ensures.joined x) c.in-Some.joined c.in-Some.is,
    )

pub returns-in-None-clause-joined : goal.returns-in-None-clause-joined
returns-in-None-clause-joined c = λ x ts bs s alike.
    let first = c.args.lists.now in
    let old = c.loop-other.lists in
    let new = c.joined.new.self in
    let n = c.loop-other.other-index in
    let others = c.args.others.now in
    let inv = c.loop-other.invariant in
    none_joined (store x first) (store x old) (store x new) c.loop-other.loose n _ others ts bs (slice_get-get_or others n _ c.loop-other-test.true) (inv.0, types_same x) alike (inv.1 x ts bs s alike) _ (c.in_ok-joined.ensures.joined x) c.in-None.is

pub returns-in-None-clause-grow : goal.returns-in-None-clause-grow
returns-in-None-clause-grow c = grows_then c.args.lists.now c.loop-other.lists c.joined.new.self c.loop-other.invariant.0 c.in_ok-joined.ensures.grow

pub returns-clause-joined : goal.returns-clause-joined
returns-clause-joined c = λ x ts bs s alike.
    let first = c.args.lists.now in
    let now = c.loop-other.lists in
    let others = c.args.others.now in
    let n = c.loop-other.other-index in
    every_joined (store x now) c.loop-other.loose n ts bs (as_long (SameTerm (store x first)) n others bs alike (drop_all n others c.loop-other-test.false)) (c.loop-other.invariant.1 x ts bs s alike)
