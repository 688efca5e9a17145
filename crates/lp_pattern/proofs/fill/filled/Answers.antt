use Rattle.std.proofs.Common.{◌∙◌, ◌<◌, ap, arith, sym, length, subst as transport}
use Rattle.std.specs.Prelude.{All}
use Rattle.std.proofs.lemmas.List.Elements.{All-nil}
use Rattle.lp_lemmas.proofs.Elements.{All_front, All_popped}
use Rattle.lp_term.proofs.Moves.{nothing}
use Rattle.lp_pattern.specs.inner.Making.{terms_left}
use Rattle.lp_pattern.proofs.Making.{further_falls}
use Rattle.lp_term.proofs.Trees.{extends_same}
use Rattle.lp_model.specs.Pair.{closed}
use Rattle.lp_term.proofs.Within.{kept_then}
use Rattle.lp_pattern.proofs.FilledTypes.{some_given}
use Rattle.lp_pattern.proofs.Walking.{reading_kept}
use Rattle.lp_pattern.proofs.fill.filled.Goals as goal

pub terms-init : goal.terms-init
terms-init c = record {
  kept = c.in_ok-root.ensures.kept;
  later = extends_same c.inside.new.self;
  inside = transport (All (λ t. t.0 < length c.inside.new.self.terms)) (sym c.new-left.ensures.items) (All-nil (λ t. t.0 < length c.inside.new.self.terms));
  filled = λ d R h. c.new-done.ensures c.inside.new.self d;
}

pub terms-preserved : goal.terms-preserved
terms-preserved c = record {
  kept = kept_then c.args.bank.now c.terms.bank c.step.new.bank c.terms.invariant.kept c.in_ok-step.ensures.kept;
  later = kept_then c.inside.new.self c.terms.bank c.step.new.bank c.terms.invariant.later c.in_ok-step.ensures.kept;
  inside = c.in_ok-step.ensures.within;
  filled = λ d R h.
      c.in_ok-step.ensures.filled d (reading_kept c.args.bank.now c.terms.bank c.args.bindings.now d c.terms.invariant.kept R) h (c.terms.invariant.filled d R h);
}

pub terms-preserved-in_default-2 : goal.terms-preserved-in_default-2
terms-preserved-in_default-2 c = record {
  kept = kept_then c.args.bank.now c.terms.bank c.made_of.new.bank c.terms.invariant.kept c.in_ok-made.ensures.kept;
  later = kept_then c.inside.new.self c.terms.bank c.made_of.new.bank c.terms.invariant.later c.in_ok-made.ensures.kept;
  inside =
      c.in_ok-made.ensures.within
      (All_front (λ t. t.0 < length c.terms.bank.terms) c.pop.new.self.items _ (transport (All (λ t. t.0 < length c.terms.bank.terms)) c.in_default.ensures.items c.terms.invariant.inside));
  filled = λ d R h.
      c.in_ok-made.ensures.filled d (reading_kept c.args.bank.now c.terms.bank c.args.bindings.now d c.terms.invariant.kept R) h (c.terms.invariant.filled d R h);
}

pub made_of-requires : goal.made_of-requires
made_of-requires c = omega (arith, c.in_ok-root.ensures.within, c.terms.invariant.later.more_terms)

pub returns-in_default-clause-filled : goal.returns-in_default-clause-filled
returns-in_default-clause-filled c = λ d R h.
    c.in_ok-made-2.ensures.tree ∙
    (some_given _ _ _ c.in-Some-2.is c.in_ok-made.ensures.made d (reading_kept c.args.bank.now c.terms.bank c.args.bindings.now d c.terms.invariant.kept R) h (c.terms.invariant.filled d R h)).is ∙
    ap (closed d) (c.terms.invariant.later.same_terms c.in_ok-root.root.0 c.in_ok-root.ensures.within ∙ c.in_ok-root.ensures.tree)

pub returns-in_default-clause-kept : goal.returns-in_default-clause-kept
returns-in_default-clause-kept c =
    kept_then c.args.bank.now c.made_of.new.bank c.inside-in_default.new.self (kept_then c.args.bank.now c.terms.bank c.made_of.new.bank c.terms.invariant.kept c.in_ok-made.ensures.kept) c.in_ok-made-2.ensures.kept

pub returns-in_err-made-2-clause-kept : goal.returns-in_err-made-2-clause-kept
returns-in_err-made-2-clause-kept c =
    kept_then c.args.bank.now c.made_of.new.bank c.inside-in_default.new.self (kept_then c.args.bank.now c.terms.bank c.made_of.new.bank c.terms.invariant.kept c.in_ok-made.ensures.kept) c.in_err-made-2.ensures.kept

pub step-requires : goal.step-requires
step-requires c =
    let w = All_popped (λ t. t.0 < length c.terms.bank.terms) c.terms.left.items c.pop.new.self.items c.in-Some.top c.in-Some.ensures.items c.terms.invariant.inside in
    record { top = w.1; within = w.0 }

pub terms-smaller : goal.terms-smaller
terms-smaller c = transport (λ l. terms_left c.step.new.done c.step.new.left.items < terms_left c.terms.done l) (sym c.in-Some.ensures.items) c.in_ok-step.ensures.falls

pub terms-smaller-in_default-2 : goal.terms-smaller-in_default-2
terms-smaller-in_default-2 c =
    let e = nothing c.pop.new.self.items (omega (arith, c.in_default.ensures.cases.1, c.pop.new.self.ok)) ∙ sym (nothing c.terms.left.items (omega (arith, c.in_default.ensures.cases.0, c.terms.left.ok))) in
    transport (λ l. terms_left c.made_of.new.done c.made_of.new.left.items < terms_left c.terms.done l) e
    (further_falls c.terms.done c.made_of.new.done c.pop.new.self.items c.made_of.new.left.items _ c.in_ok-made.ensures.terms c.in_default-2.is c.in_ok-made.ensures.further (omega (arith, c.made_of.new.left.ok, c.made_of.new.left.small)))
