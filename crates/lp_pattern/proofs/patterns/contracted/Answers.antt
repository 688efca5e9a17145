use Rattle.std.proofs.Common.{ℕ, ◌≤◌, ◌∙◌, ap, ◌++◌, arith, length, ◌<◌, subst as transport}
use Rattle.lp_term.proofs.Trees.{extends-trans}
use Rattle.lp_term.proofs.Moves.{passed_up, nothing}
use Rattle.lp_model.specs.Pair.{Closing}
use Rattle.lp_lemmas.proofs.Elements.{All_popped}
use Rattle.lp_pattern.specs.Under.{IsReading, under}
use Rattle.lp_pattern.specs.Stripping.{IsShut, IsStripped, HasNoEigen, read_at}
use Rattle.lp_pattern.proofs.ArgumentRuns.{left_start, left_none, left_form, left_fails, left_goes, no_form_no_eigen, one_no_form, named_none, formed_by}
use Rattle.lp_pattern.proofs.Walking.{reading_kept}
use Rattle.lp_pattern.proofs.patterns.contracted.Goals as goal

pub returns-in_err-name-clause-refused : goal.returns-in_err-name-clause-refused
returns-in_err-name-clause-refused c =
    passed_up c.from_residual.result c.in_err-name.field-0.0
    (λ e. (r : Closing) → IsReading c.args.bank.now c.args.bindings.now r → IsShut r → (m : ℕ) → m ≤ 1000000 → HasNoEigen m (read_at c.args.bank.now r c.args.opened.level c.args.opened.depth c.args.term) e)
    c.from_residual.ensures.1 (λ r i h m l. no_form_no_eigen m c.args.opened.level c.args.opened.depth c.args.bank.now r c.args.term c.in_err-name.field-0.0 (c.in_err-name.ensures.refused r i h m l))

pub returns-in_default-clause-eigen : goal.returns-in_default-clause-eigen
returns-in_default-clause-eigen c = λ r i h m.
    named_none m c.args.opened.level c.args.opened.depth c.args.bank.now r c.args.term
    (λ f. transport (λ o. IsStripped m (under c.args.bank.now r c.args.term) c.stripped_name.new.bank r o c.new-left.result.items c.stripped_name.new.left.items) c.in_default.is (c.in_ok-name.ensures.stripped r i h m f))

pub parts-init : goal.parts-init
parts-init c = record {
  kept = c.in_ok-name.ensures.kept;
  known = c.in_ok-name.ensures.known;
  parts = λ r i h m o e.
      let w = transport (λ o. IsStripped m (under c.args.bank.now r c.args.term) c.stripped_name.new.bank r o c.new-left.result.items c.stripped_name.new.left.items) c.in-Some.is
      (c.in_ok-name.ensures.stripped r i h m (formed_by m c.args.opened.level c.args.opened.depth c.args.bank.now r c.args.term o e)) in
      left_start m c.in-Some.count c.args.bank.now c.stripped_name.new.bank r c.args.opened.level c.args.opened.depth c.args.term o c.in_ok-found.found c.in-Some.name w.0 c.stripped_name.new.left.items e w.2
      (w.1 ∙ ap (λ l. l ++ w.0) c.new-left.ensures.items) c.in_ok-found.ensures;
}

pub returns-in_default-pop-clause-eigen : goal.returns-in_default-pop-clause-eigen
returns-in_default-pop-clause-eigen c = λ r i h m p e.
    left_none m c.parts.bank r c.parts.left.items p c.in_ok-found.found (nothing c.parts.left.items (omega (arith, c.in_default-pop.ensures.cases.0, c.parts.left.ok))) (c.parts.invariant.parts r i h m p e)

pub comes-requires : goal.comes-requires
comes-requires c = record { known = (All_popped (λ w. w.term.0 < length c.parts.bank.terms) c.parts.left.items c.pop.new.self.items c.in-Some-pop.wanted c.in-Some-pop.ensures.items c.parts.invariant.known).0 }

pub returns-in_err-goes-clause-refused : goal.returns-in_err-goes-clause-refused
returns-in_err-goes-clause-refused c =
    passed_up c.from_residual-in_err-goes.result c.in_err-goes.field-0.0
    (λ e. (r : Closing) → IsReading c.args.bank.now c.args.bindings.now r → IsShut r → (m : ℕ) → m ≤ 1000000 → HasNoEigen m (read_at c.args.bank.now r c.args.opened.level c.args.opened.depth c.args.term) e)
    c.from_residual-in_err-goes.ensures.1
    (λ r i h m l.
    one_no_form m (read_at c.args.bank.now r c.args.opened.level c.args.opened.depth c.args.term) (under c.parts.bank r c.in-Some-pop.wanted.term) c.in_err-goes.field-0.0
    (λ o e. left_form m c.parts.bank r c.parts.left.items c.pop.new.self.items c.in-Some-pop.wanted o c.in_ok-found.found c.in-Some-pop.ensures.items (c.parts.invariant.parts r i h m o e))
    (c.in_err-goes.ensures.refused r (reading_kept c.args.bank.now c.parts.bank c.args.bindings.now r c.parts.invariant.kept i) h m l))

pub returns-then-not-goes-clause-eigen : goal.returns-then-not-goes-clause-eigen
returns-then-not-goes-clause-eigen c = λ r i h m p e.
    let w = c.parts.invariant.parts r i h m p e in
    left_fails m c.parts.bank c.comes.new.bank r c.parts.left.items c.pop.new.self.items c.comes.new.left.items c.in-Some-pop.wanted c.in_ok-goes.goes p c.in_ok-found.found c.in-Some-pop.ensures.items w c.if-not-goes.true
    (c.in_ok-goes.ensures.comes r (reading_kept c.args.bank.now c.parts.bank c.args.bindings.now r c.parts.invariant.kept i) h m
    (left_form m c.parts.bank r c.parts.left.items c.pop.new.self.items c.in-Some-pop.wanted p c.in_ok-found.found c.in-Some-pop.ensures.items w))

pub parts-preserved : goal.parts-preserved
parts-preserved c = record {
  kept = extends-trans c.args.bank.now c.parts.bank c.comes.new.bank c.parts.invariant.kept c.in_ok-goes.ensures.kept;
  known = c.in_ok-goes.ensures.known;
  parts = λ r i h m p e.
      let w = c.parts.invariant.parts r i h m p e in
      left_goes m c.parts.bank c.comes.new.bank r c.parts.left.items c.pop.new.self.items c.comes.new.left.items c.in-Some-pop.wanted c.in_ok-goes.goes p c.in_ok-found.found c.in_ok-goes.ensures.kept
      (All_popped (λ w. w.term.0 < length c.parts.bank.terms) c.parts.left.items c.pop.new.self.items c.in-Some-pop.wanted c.in-Some-pop.ensures.items c.parts.invariant.known).0 c.in-Some-pop.ensures.items w
      c.if-not-goes.false
      (c.in_ok-goes.ensures.comes r (reading_kept c.args.bank.now c.parts.bank c.args.bindings.now r c.parts.invariant.kept i) h m
      (left_form m c.parts.bank r c.parts.left.items c.pop.new.self.items c.in-Some-pop.wanted p c.in_ok-found.found c.in-Some-pop.ensures.items w));
}
