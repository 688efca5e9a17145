use Rattle.std.proofs.Common.{◌∙◌, sym, arith, take}
use Rattle.lp_plain.proofs.Scoped.{way_begins, way_outwards, value_at, none_found, block_there, steps_out, get_is, get_none}
use Rattle.lp_plain.proofs.scope.Scopes.value.Goals as goal

pub outwards-init : goal.outwards-init
outwards-init c = λ nb nv vs w. way_begins c.args.self.now nb nv c.args.scope vs c.args.index w

pub outwards-preserved : goal.outwards-preserved
outwards-preserved c = λ nb nv vs w.
    way_outwards _ (take nv c.args.self.now.values.items) vs c.args.index c.in-Some.number c.outwards.left _ c.in-Some-get.block.now c.outwards.at c.older-at.result (c.outwards.invariant nb nv vs w) c.in-Some.is
    (get_is _ c.deref.result.now c.in-Some.number c.in-Some-get.block.now c.deref.ensures.value c.in-Some-get.ensures.lookup.3.0 c.in-Some-get.ensures.lookup.1) c.older-at.ensures.same (omega (arith, c.if-left-count.false))

pub outwards-smaller : goal.outwards-smaller
outwards-smaller c = steps_out c.outwards.at c.older-at.result c.in-Some.number c.in-Some.is c.older-at.ensures.older

pub returns : goal.returns
returns c = λ nb nv vs w. none_found _ (take nv c.args.self.now.values.items) vs c.args.index c.outwards.left c.outwards.at (c.outwards.invariant nb nv vs w) c.in_default.is

pub returns-in_default-get : goal.returns-in_default-get
returns-in_default-get c = λ nb nv vs w.
    absurd (block_there _ (take nv c.args.self.now.values.items) vs c.args.index c.in-Some.number c.outwards.left c.outwards.at (c.outwards.invariant nb nv vs w) c.in-Some.is
    (get_none _ c.deref.result.now c.in-Some.number c.deref.ensures.value c.in_default-get.ensures.lookup.3))

pub returns-then-left-count : goal.returns-then-left-count
returns-then-left-count c = λ nb nv vs w.
    let v = c.args.self.now.values in
    sym (get_is v.items c.deref-then-left-count.result.now c.saturating_add-place.result c.in-Some-get-2.value.now c.deref-then-left-count.ensures.value c.in-Some-get-2.ensures.lookup.3.0 c.in-Some-get-2.ensures.lookup.1) ∙
    value_at _ nv v.items vs c.args.index c.in-Some.number c.outwards.left c.saturating_add-place.result c.in-Some-get.block.now c.outwards.at (c.outwards.invariant nb nv vs w) c.in-Some.is
    (get_is _ c.deref.result.now c.in-Some.number c.in-Some-get.block.now c.deref.ensures.value c.in-Some-get.ensures.lookup.3.0 c.in-Some-get.ensures.lookup.1) c.if-left-count.true
    (λ fits. omega (arith, c.saturating_add-place.ensures, fits, c.if-left-count.true, v.small, v.ok))

pub returns-in_default-get-2 : goal.returns-in_default-get-2
returns-in_default-get-2 c = λ nb nv vs w.
    let v = c.args.self.now.values in
    sym (get_none v.items c.deref-then-left-count.result.now c.saturating_add-place.result c.deref-then-left-count.ensures.value c.in_default-get-2.ensures.lookup.3) ∙
    value_at _ nv v.items vs c.args.index c.in-Some.number c.outwards.left c.saturating_add-place.result c.in-Some-get.block.now c.outwards.at (c.outwards.invariant nb nv vs w) c.in-Some.is
    (get_is _ c.deref.result.now c.in-Some.number c.in-Some-get.block.now c.deref.ensures.value c.in-Some-get.ensures.lookup.3.0 c.in-Some-get.ensures.lookup.1) c.if-left-count.true
    (λ fits. omega (arith, c.saturating_add-place.ensures, fits, c.if-left-count.true, v.small, v.ok))
