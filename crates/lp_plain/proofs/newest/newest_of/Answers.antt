use Rattle.std.proofs.Common.{sym, subst}
use Rattle.lp_plain.specs.Newest.{Finds}
use Rattle.lp_plain.proofs.ListReads.{read_at}
use Rattle.lp_plain.proofs.Scoped.{get_none}
use Rattle.lp_plain.proofs.NewestTrees.{found_below, found_here, found_none, found_outside, goes_down_to}
use Rattle.lp_plain.proofs.newest.newest_of.Goals as goal

pub nodes-init : goal.nodes-init
nodes-init c = λ found r. subst (λ n. Finds c.args.nodes.now.items c.args.head c.args.tree n found) (sym c.code-bits.ensures) r

pub returns : goal.returns
returns c = λ found r. sym (found_none c.args.nodes.now.items c.args.head (c.nodes.invariant found r) c.in_default.is)

pub returns-in_default-get : goal.returns-in_default-get
returns-in_default-get c = λ found r.
    absurd (found_outside c.args.nodes.now.items c.args.head (c.nodes.invariant found r) c.in-Some.number c.in-Some.is
    (get_none c.args.nodes.now.items c.deref.result.now c.in-Some.number c.deref.ensures.value c.in_default-get.ensures.lookup.3))

pub returns-then-same_head : goal.returns-then-same_head
returns-then-same_head c = λ found r.
    let s = read_at c.args.nodes.now.items c.deref.result.now c.in-Some.number c.in-Some-get.node.now _ c.deref.ensures.value c.in-Some-get.ensures.lookup.3.0 c.in-Some-get.ensures.lookup.1 in
    found_here c.args.nodes.now.items c.args.head (c.nodes.invariant found r) c.in-Some.number c.in-Some-get.node.now c.in-Some.is s (c.same_head.ensures.same c.if-same_head.true)

pub nodes-preserved : goal.nodes-preserved
nodes-preserved c = λ found r.
    let s = read_at c.args.nodes.now.items c.deref.result.now c.in-Some.number c.in-Some-get.node.now _ c.deref.ensures.value c.in-Some-get.ensures.lookup.3.0 c.in-Some-get.ensures.lookup.1 in
    found_below c.args.nodes.now.items c.args.head (c.nodes.invariant found r) c.in-Some.number c.in-Some-get.node.now c.child.result c.older-at.result c.leads_to_odd.result
    c.in-Some.is s (c.same_head.ensures.other c.if-same_head.false) c.leads_to_odd.ensures c.child.ensures c.older-at.ensures.same

pub nodes-smaller : goal.nodes-smaller
nodes-smaller c = goes_down_to c.nodes.at c.older-at.result c.in-Some.number c.in-Some.is c.older-at.ensures.older
