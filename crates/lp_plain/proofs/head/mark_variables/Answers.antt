use Rattle.std.proofs.Common.{subst}
use Rattle.std.specs.Prelude.{All}
use Rattle.lp_lemmas.proofs.Elements.{All_push_parts}
use Rattle.lp_plain.specs.inner.Placing.{IsShallow}
use Rattle.lp_plain.proofs.Placed.{root_shallow}
use Rattle.std.proofs.Common.{◌∙◌, refl, ap, arith}
use Rattle.lp_term.specs.Nodes.{tree}
use Rattle.lp_plain.proofs.HeadPlaces.{walk_begins, walk_goes_on, walk_ends, empty}
use Rattle.lp_plain.specs.inner.Placing.{places_weight}
use Rattle.lp_plain.proofs.head.mark_variables.Goals as goal

pub places-init : goal.places-init
places-init c = record {
  count = refl;
  marks = walk_begins c.args.bank.now c.args.seen.now.items c.args.term c.new-places.result.items c.push.new.self.items c.new-places.ensures.items c.in_ok-push.ensures.items;
  shallow = root_shallow c.args.bank.now c.args.term c.new-places.result.items c.push.new.self.items c.term_count-count.ensures.few c.new-places.ensures.items c.in_ok-push.ensures.items;
}

pub places-preserved : goal.places-preserved
places-preserved c = record {
  count = c.in_ok-mark_node.ensures.count ∙ c.places.invariant.count;
  marks = λ k.
      walk_goes_on c.args.bank.now c.mark_node.new.seen.items c.places.seen.items c.places.places.items c.pop.new.self.items
      c.mark_node.new.places.items c.in-Some.place k _ c.in-Some.ensures.items (c.in_ok-mark_node.ensures.marks k)
      (c.places.invariant.marks k);
  shallow = c.in_ok-mark_node.ensures.shallow (All_push_parts (IsShallow c.args.bank.now) c.pop.new.self.items c.in-Some.place
      (subst (All (IsShallow c.args.bank.now)) c.in-Some.ensures.items c.places.invariant.shallow)).0;
}

pub returns : goal.returns
returns c =
    walk_ends c.args.bank.now c.args.seen.now.items c.places.seen.items c.places.places.items (tree c.args.bank.now c.args.term.0) c.places.invariant.count
    (empty c.places.places.items (omega (arith, c.in_default.ensures.cases.0, c.places.places.ok))) c.places.invariant.marks

pub places-smaller : goal.places-smaller
places-smaller c =
    let b = c.args.bank.now in
    let l = c.in_ok-mark_node.ensures.lighter in
    let e = ap (places_weight b) c.in-Some.ensures.items in
    omega (arith, l, e)

pub mark_node-requires : goal.mark_node-requires
mark_node-requires c = (All_push_parts (IsShallow c.args.bank.now) c.pop.new.self.items c.in-Some.place (subst (All (IsShallow c.args.bank.now)) c.in-Some.ensures.items c.places.invariant.shallow)).1
