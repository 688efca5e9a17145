use Rattle.std.proofs.Common.{[], ◌∷◌, refl, sym, subst, ap, ◌∙◌, ◌≡◌, get_or, length, ◌<◌, ◌+◌}
use Rattle.lp_term.proofs.Within.{kept_then}
use Rattle.lp_term.proofs.Trees.{extends_same}
use Rattle.lp_sig.proofs.Wording.{finds_nothing, finds_more, finds_all, first_found, nothing_found}
use Rattle.lp_sig.specs.Types.{IsNode, by_parameters}
use Rattle.lp_sig.proofs.Typing.{nothing_done, bodies_stay, as_parameters, if_done}
use Rattle.lp_sig.specs.Ordering.{HasNames, names_by, in_order}
use Rattle.lp_sig.proofs.InOrder.{names_more, as_in_order}
use Rattle.lp_sig.specs.Abbreviations.{abbreviation_names, uses_in}
use Rattle.lp_sig.specs.Constants.{AreUsesSettled, AllMade}
use Rattle.lp_sig.proofs.Settled.{nothing_made, neither}
use Rattle.lp_sig.proofs.UsesSettled.{uses_at}
use Rattle.lp_sig.proofs.bodies.Bodies.expand.Goals as goal

pub loop-node-init : goal.loop-node-init
loop-node-init c = record {
  found = λ said vs k h. finds_nothing c.args.source.now said vs;
  held = λ vs h. h;
  kept = extends_same c.args.self.now.types.bank;
  bodies = refl;
  closed = λ ps h. h;
  count = ap length c.new-done.ensures.items;
  typed = λ said defs ps k h g. nothing_done c.args.self.now.types.bank said defs c.args.source.now (by_parameters c.args.source.now ps) c.args.raw.now.nodes.items c.new-done.result.items c.new-done.ensures.items;
  names = λ h. h;
  settled = λ said k s none. nothing_made c.new-done.result.items c.new-done.ensures.items;
  ordered = λ said defs k h g. nothing_done c.args.self.now.types.bank said defs c.args.source.now (in_order c.args.source.now c.args.raw.now.nodes.items) c.args.raw.now.nodes.items c.new-done.result.items c.new-done.ensures.items;
}

pub loop-node-preserved : goal.loop-node-preserved
loop-node-preserved c =
    let same = c.deref-node-items.ensures.value in
    let i = c.loop-node.node-index in
    let h : i < length c.args.raw.now.nodes.items = subst (λ l. i < length l) same c.loop-node-test.true in
    let at : c.node-item.result ≡ get_or c.args.raw.now.nodes.items i c.node-item.result = c.node-item.is ∙ ap (λ l. get_or l i c.node-item.result) same in
    record {
      found = λ said vs k g. finds_more c.args.source.now said vs c.args.raw.now.nodes.items c.deref-node-items.result.now i c.node-item.result c.loop-node.fault c.in_ok-found.found c.earlier-fault.result same c.loop-node-test.true c.node-item.is
          (c.loop-node.invariant.found said vs k g) (c.in_ok-found.ensures.fault said vs k (c.loop-node.invariant.held vs g)) c.earlier-fault.ensures.is;
      held = λ vs g. c.expand_node.ensures.held vs (c.loop-node.invariant.held vs g);
      kept = kept_then c.args.self.now.types.bank c.loop-node.self.types.bank c.expand_node.new.self.types.bank c.loop-node.invariant.kept c.expand_node.ensures.kept;
      bodies = c.expand_node.ensures.bodies ∙ c.loop-node.invariant.bodies;
      closed = λ ps g. c.expand_node.ensures.closed c.args.source.now ps (c.loop-node.invariant.closed ps g);
      count = c.in_ok-found.ensures.more ∙ ap (λ n. n + 1) c.loop-node.invariant.count;
      typed = λ said defs ps k b g.
          c.in_ok-found.ensures.typed said defs (by_parameters c.args.source.now ps) c.args.raw.now.nodes.items k
          (bodies_stay c.args.self.now.types.bank c.loop-node.self.types.bank c.args.self.now.bodies.items c.loop-node.self.bodies.items said defs c.loop-node.invariant.kept (ap (λ v. v.items) c.loop-node.invariant.bodies) b) (c.loop-node.invariant.typed said defs ps k b g)
          (subst (λ j. IsNode c.args.raw.now.nodes.items j c.node-item.result) (sym c.loop-node.invariant.count) (h, sym at)) (as_parameters c.loop-node.variables c.args.source.now ps (length c.loop-node.done.items) c.node-item.result (c.loop-node.invariant.closed ps g));
      names = λ g. names_more c.loop-node.variables c.expand_node.new.variables c.args.source.now c.args.raw.now.nodes.items i c.node-item.result h
          (λ ks n. subst (λ n. HasNames c.expand_node.new.variables (names_by c.args.source.now ks n)) at (c.in_ok-found.ensures.names ks n)) (c.loop-node.invariant.names g);
      settled = λ said k s none.
          let both = neither c.loop-node.fault c.in_ok-found.found (sym c.earlier-fault.ensures.is ∙ none) in
          c.in_ok-found.ensures.settled said k (subst (λ bs. AreUsesSettled bs (uses_in (abbreviation_names said) c.args.source.now
          (c.node-item.result ∷ []))) (sym (ap (λ v. v.items) c.loop-node.invariant.bodies))
          (λ w d. s w (uses_at (abbreviation_names said) c.args.source.now c.args.raw.now.nodes.items i c.node-item.result h at w d)))
          (c.loop-node.invariant.settled said k s both.0) both.1;
      ordered = λ said defs k b g.
          c.in_ok-found.ensures.typed said defs (in_order c.args.source.now c.args.raw.now.nodes.items) c.args.raw.now.nodes.items k
          (bodies_stay c.args.self.now.types.bank c.loop-node.self.types.bank c.args.self.now.bodies.items c.loop-node.self.bodies.items said defs c.loop-node.invariant.kept (ap (λ v. v.items) c.loop-node.invariant.bodies) b) (c.loop-node.invariant.ordered said defs k b g)
          (subst (λ j. IsNode c.args.raw.now.nodes.items j c.node-item.result) (sym c.loop-node.invariant.count) (h, sym at))
          (as_in_order c.loop-node.variables c.args.source.now c.args.raw.now.nodes.items i (length c.loop-node.done.items) c.node-item.result (c.loop-node.invariant.names g) c.loop-node.invariant.count);
    }

pub returns-in-Some-clause-first : goal.returns-in-Some-clause-first
returns-in-Some-clause-first c = λ said vs k h.
    let nodes = c.args.raw.now.nodes.items in
    first_found c.args.source.now said vs nodes c.loop-node.fault c.in-Some.field-0-0 c.in-Some.first c.in-Some.is
    (finds_all c.args.source.now said vs nodes c.deref-node-items.result.now c.loop-node.node-index c.loop-node.fault c.deref-node-items.ensures.value c.loop-node-test.false (c.loop-node.invariant.found said vs k h))

pub returns-clause-stand : goal.returns-clause-stand
returns-clause-stand c = λ said vs k h.
    let nodes = c.args.raw.now.nodes.items in
    nothing_found c.args.source.now said vs nodes c.loop-node.fault c.in_default.is
    (finds_all c.args.source.now said vs nodes c.deref-node-items.result.now c.loop-node.node-index c.loop-node.fault c.deref-node-items.ensures.value c.loop-node-test.false (c.loop-node.invariant.found said vs k h))

pub returns-clause-body : goal.returns-clause-body
returns-clause-body c = λ said defs ps k b g.
    if_done c.loop-node.self.types.bank said defs c.args.source.now (by_parameters c.args.source.now ps) c.args.raw.now.nodes.items
    c.loop-node.done.items c.as_slice.result.now (c.loop-node.invariant.typed said defs ps k b g) c.args.raw.now.root c.in_ok-made.made
    c.as_slice.ensures.value c.in_ok-made.ensures.is

pub returns-clause-open : goal.returns-clause-open
returns-clause-open c = λ said defs k b g.
    if_done c.loop-node.self.types.bank said defs c.args.source.now (in_order c.args.source.now c.args.raw.now.nodes.items) c.args.raw.now.nodes.items
    c.loop-node.done.items c.as_slice.result.now (c.loop-node.invariant.ordered said defs k b g) c.args.raw.now.root c.in_ok-made.made
    c.as_slice.ensures.value c.in_ok-made.ensures.is

pub returns-clause-settled : goal.returns-clause-settled
returns-clause-settled c = λ said k s. c.in_ok-made.ensures.made (subst AllMade (sym c.as_slice.ensures.value) (c.loop-node.invariant.settled said k s c.in_default.is))
