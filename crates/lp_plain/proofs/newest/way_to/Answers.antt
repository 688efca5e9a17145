use Rattle.std.proofs.Common.{refl, subst, reverse, sym, ap}
use Rattle.lp_plain.specs.Newest.{Comes}
use Rattle.lp_plain.proofs.ListReads.{read_at}
use Rattle.lp_plain.proofs.Scoped.{get_none}
use Rattle.lp_plain.proofs.NewestTrees.{goes_down_to, way_begins, way_ends, way_further, way_outside}
use Rattle.lp_plain.proofs.newest.way_to.Goals as goal

pub nodes-init : goal.nodes-init
nodes-init c = subst (λ z. Comes c.args.nodes.now.items c.args.head c.args.tree z c.args.tree c.code-bits.result) (sym (ap reverse c.new-steps.ensures.items)) (way_begins c.args.nodes.now.items c.args.head c.args.tree c.code-bits.result c.code-bits.ensures)

pub returns : goal.returns
returns c = record { place = c.nodes.at; bits = c.nodes.bits; comes = c.nodes.invariant; is_end = way_ends c.args.nodes.now.items c.args.head c.nodes.at c.in_default.is }

pub returns-in_default-get : goal.returns-in_default-get
returns-in_default-get c = record {
  place = c.nodes.at;
  bits = c.nodes.bits;
  comes = c.nodes.invariant;
  is_end = way_outside c.args.nodes.now.items c.args.head c.nodes.at c.in-Some.number c.in-Some.is
      (get_none c.args.nodes.now.items c.deref.result.now c.in-Some.number c.deref.ensures.value c.in_default-get.ensures.lookup.3);
}

pub nodes-smaller : goal.nodes-smaller
nodes-smaller c = goes_down_to c.nodes.at c.older-at.result c.in-Some.number c.in-Some.is c.older-at.ensures.older

pub returns-then-same_head : goal.returns-then-same_head
returns-then-same_head c =
    let s = read_at c.args.nodes.now.items c.deref.result.now c.in-Some.number c.in-Some-get.node.now _ c.deref.ensures.value c.in-Some-get.ensures.lookup.3.0 c.in-Some-get.ensures.lookup.1 in
    record { place = c.nodes.at; bits = c.nodes.bits; comes = c.nodes.invariant; is_end = (c.in-Some.number, c.in-Some.is, s, c.same_head.ensures.same c.if-same_head.true) }

pub nodes-preserved : goal.nodes-preserved
nodes-preserved c =
    let s = read_at c.args.nodes.now.items c.deref.result.now c.in-Some.number c.in-Some-get.node.now _ c.deref.ensures.value c.in-Some-get.ensures.lookup.3.0 c.in-Some-get.ensures.lookup.1 in
    way_further c.args.nodes.now.items c.args.head c.args.tree c.nodes.at c.child.result c.older-at.result c.nodes.bits _ c.in-Some.number c.nodes.steps.items
    c.push.new.self.items (record { node = c.in-Some-get.node.now; is_odd = c.leads_to_odd-is_odd.result }) c.nodes.invariant c.in-Some.is s
    (c.same_head.ensures.other c.if-same_head.false)
    c.in_ok-push.ensures.items c.leads_to_odd-is_odd.ensures c.child.ensures c.older-at.ensures.same refl
