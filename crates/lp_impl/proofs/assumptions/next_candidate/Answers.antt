use Rattle.std.proofs.Common.{refl, sym, ◌∙◌}
use Rattle.lp_impl.proofs.Chained.{get_is, get_none, matched_none, matched_past, matched_here, matched_on}
use Rattle.lp_impl.proofs.assumptions.next_candidate.Goals as goal

pub returns-in_default-get : goal.returns-in_default-get
returns-in_default-get c = λ ss h.
    matched_past _ _ _ c.in-Some.number c.in-Some.is (get_none _ c.deref.result.now c.in-Some.number c.deref.ensures.value c.in_default-get.ensures.lookup.3) ss (c.entries.invariant ss h)

pub returns-in-Some-clause_of : goal.returns-in-Some-clause_of
returns-in-Some-clause_of c = λ ss h.
    let g = get_is _ c.deref.result.now c.in-Some.number c.in-Some-get.entry.now c.deref.ensures.value c.in-Some-get.ensures.lookup.3.0 c.in-Some-get.ensures.lookup.1 in
    let m = matched_here _ _ _ _ _ c.in-Some.is g _ (sym c.in-Some-clause_of.ensures) _ c.older-at.ensures.same ss (c.entries.invariant ss h) in
    (m.0, _, refl, m.1, m.2)

pub entries-preserved : goal.entries-preserved
entries-preserved c = λ ss h.
    let g = get_is _ c.deref.result.now c.in-Some.number c.in-Some-get.entry.now c.deref.ensures.value c.in-Some-get.ensures.lookup.3.0 c.in-Some-get.ensures.lookup.1 in
    matched_on _ _ _ _ _ c.in-Some.is g (sym c.in_default-clause_of.ensures) _ c.older-at.ensures.same ss (c.entries.invariant ss h)

pub returns : goal.returns
returns c = λ ss h. matched_none _ _ _ c.in_default.is ss (c.entries.invariant ss h)
