use Rattle.lp_impl.proofs.Chained.{get_is, get_none, left_none, left_past, left_here, left_on}
use Rattle.lp_impl.proofs.assumptions.behind_newest.Goals as goal

pub returns-in_default-get : goal.returns-in_default-get
returns-in_default-get c = λ ss h.
    left_past _ _ c.in-Some.number c.in-Some.is (get_none _ c.deref.result.now c.in-Some.number c.deref.ensures.value c.in_default-get.ensures.lookup.3) ss (c.entries.invariant ss h)

pub returns-in-None : goal.returns-in-None
returns-in-None c = λ ss h.
    let g = get_is _ c.deref.result.now c.in-Some.number c.in-Some-get.entry.now c.deref.ensures.value c.in-Some-get.ensures.lookup.3.0 c.in-Some-get.ensures.lookup.1 in
    left_here _ _ _ _ c.in-Some.is g c.in-None.is _ c.older-at.ensures.same ss (c.entries.invariant ss h)

pub entries-preserved : goal.entries-preserved
entries-preserved c = λ ss h.
    let g = get_is _ c.deref.result.now c.in-Some.number c.in-Some-get.entry.now c.deref.ensures.value c.in-Some-get.ensures.lookup.3.0 c.in-Some-get.ensures.lookup.1 in
    left_on _ _ _ _ c.in-Some.is g _ c.in-Some-assumed.is _ c.older-at.ensures.same ss (c.entries.invariant ss h)

pub returns : goal.returns
returns c = λ ss h. left_none _ _ c.in_default.is ss (c.entries.invariant ss h)
