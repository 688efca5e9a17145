use Rattle.std.proofs.Common.{◌≡◌, ◌<◌, ◌≤◌, ◌+◌, ◌∙◌, refl, sym, ap, subst, length, get_or, arith, Some}
use Rattle.std.specs.Prelude.{slice_get}
use Rattle.std.proofs.lemmas.Option.{slice_get_read}
use Rattle.std.proofs.lemmas.List.{length-append}
use Rattle.lp_infer.specs.Noted.{known_at, AreNoted, NodeNoted}
use Rattle.lp_infer.proofs.Noting.{grows_same, grows_then, noted_pushed, none_noted, note_read}
use Rattle.lp_infer.proofs.lookup.Lookup.annotation.Goals as goal

pub loop-node-init : goal.loop-node-init
loop-node-init c = record {
  count = ap length c.new-done.ensures.items;
  grows = λ firsts. grows_same c.args.source.now c.args.self.now;
  noted = λ firsts. none_noted c.args.signature.now c.args.source.now c.args.raw.now.nodes.items c.args.self.now c.new-done.result.items c.new-done.ensures.items;
}

pub loop-node-preserved : goal.loop-node-preserved
loop-node-preserved c =
    let nodes = c.args.raw.now.nodes.items in
    let i = c.loop-node.node-index in
    let done = c.loop-node.done.items in
    let node = c.node-item.result in
    let h : i < length nodes = subst (λ l. i < length l) c.deref-node-items.ensures.value c.loop-node-test.true in
    let is : node ≡ get_or nodes i node = c.node-item.is ∙ ap (λ l. get_or l i node) c.deref-node-items.ensures.value in
    let at : slice_get nodes (length c.as_slice.result.now) ≡ Some node =
    ap (λ l. slice_get nodes (length l)) c.as_slice.ensures.value ∙ ap (slice_get nodes) c.loop-node.invariant.count ∙ slice_get_read nodes (length nodes) i node refl h is in
    record {
      count = ap length c.in_ok-push.ensures.items ∙ length-append done _ ∙ ap (λ n. n + 1) c.loop-node.invariant.count;
      grows = λ firsts.
          let G = c.loop-node.invariant.grows firsts in
          grows_then c.args.source.now c.args.self.now c.loop-node.self c.note_node.new.self G (c.in_ok-made.ensures.grows (G.firsts firsts));
      noted = λ firsts.
          let G = c.loop-node.invariant.grows firsts in
          let N = c.loop-node.invariant.noted firsts in
          noted_pushed c.args.signature.now c.args.source.now nodes c.loop-node.self c.note_node.new.self (c.in_ok-made.ensures.grows (G.firsts firsts)) done c.push.new.self.items c.in_ok-made.made N c.in_ok-push.ensures.items
          (subst (λ l. NodeNoted c.args.signature.now c.args.source.now nodes c.note_node.new.self (length l) c.in_ok-made.made) c.as_slice.ensures.value
          (c.in_ok-made.ensures.node (G.firsts firsts) nodes at (subst (AreNoted c.args.signature.now c.args.source.now nodes c.loop-node.self) (sym c.as_slice.ensures.value) N)));
    }

pub returns-clause-grows : goal.returns-clause-grows
returns-clause-grows c = c.loop-node.invariant.grows

pub returns-clause-note : goal.returns-clause-note
returns-clause-note c = λ firsts.
    let nodes = c.args.raw.now.nodes.items in
    note_read c.args.signature.now c.args.source.now c.args.raw.now c.args.self.now c.loop-node.self c.loop-node.done.items (c.loop-node.invariant.noted firsts)
    (subst (λ l. length l ≤ length c.loop-node.done.items) c.deref-node-items.ensures.value (omega (arith, c.loop-node-test.false, c.loop-node.invariant.count))) c.type_at.result
    (c.type_at.ensures ∙ ap (λ l. known_at l c.args.raw.now.root) c.as_slice-2.ensures.value)
