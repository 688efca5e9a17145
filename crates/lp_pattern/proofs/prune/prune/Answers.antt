use Rattle.std.proofs.Common.{◌≡◌, ◌<◌, ◌∙◌, ◌++◌, ◌∷◌, [], ap, refl, arith, false, ℕ, length, Some, subst as transport}
use Rattle.lp_calculus.specs.Fill.{Within}
use Rattle.lp_model.specs.Pair.{Closing}
use Rattle.lp_model.specs.Scan.{prune}
use Rattle.lp_pattern.specs.Putting.{Known}
use Rattle.lp_pattern.specs.Refusing.{IsNothing}
use Rattle.lp_pattern.specs.Turning.{IsOpenReading}
use Rattle.lp_pattern.specs.Under.{under}
use Rattle.lp_term.proofs.Moves.{nothing, passed_up}
use Rattle.lp_term.proofs.Trees.{extends_same, extends-trans}
use Rattle.lp_pattern.specs.Pruning.{IsPruning}
use Rattle.lp_pattern.specs.Reading.{side_of}
use Rattle.lp_pattern.proofs.Keeps.{grows_same, grows_then}
use Rattle.lp_pattern.proofs.GivenUp.{given_before, nothing_given}
use Rattle.lp_pattern.proofs.PruneMoves.{pruning_starts}
use Rattle.lp_pattern.proofs.PruneSteps.{pruned_there}
use Rattle.lp_pattern.proofs.prune.prune.Goals as goal

pub parts-init : goal.parts-init
parts-init c = record {
  kept = extends_same c.args.bank.now;
  more = omega arith;
  grown = grows_same c.args.bindings.now;
  prunes = λ i t r h levels w n p e.
      pruning_starts (side_of c.args.side.now) c.args.bank.now c.args.bindings.now c.args.next.now c.args.term c.push.new.self.items (record { term = c.args.term; opened = c.closed.result; is_inside = false }) r levels n p
      (c.in_ok-push.ensures.items ∙ ap (λ l. l ++ (record { term = c.args.term; opened = c.closed.result; is_inside = false }) ∷ []) c.new-left.ensures.items) refl c.closed.ensures.level c.closed.ensures.depth t h w e;
}

pub returns-in_default-clause-pruned : goal.returns-in_default-clause-pruned
returns-in_default-clause-pruned c = λ i t r h levels w n p e.
    pruned_there (side_of c.args.side.now) (record { closing = r; levels = levels; next = c.args.next.now; bindings = c.args.bindings.now }) n
    c.parts.bank c.parts.bindings c.parts.next c.args.term c.parts.left.items p
    (nothing c.parts.left.items (omega (arith, c.in_default.ensures.cases.0, c.parts.left.ok)))
    (c.parts.invariant.prunes i t r h levels w n p e)

pub parts-preserved : goal.parts-preserved
parts-preserved c = record {
  kept = extends-trans c.args.bank.now c.parts.bank c.visit_part.new.bank c.parts.invariant.kept c.in_ok-visit_part.ensures.kept;
  more = omega (arith, c.parts.invariant.more, c.in_ok-visit_part.ensures.more);
  grown = grows_then c.args.bindings.now c.parts.bindings c.visit_part.new.bindings c.parts.invariant.grown c.in_ok-visit_part.ensures.grown;
  prunes = λ i t r h levels w n p e.
      c.in_ok-visit_part.ensures.prunes (omega (arith, i, c.parts.invariant.more)) (record { closing = r; levels = levels; next = c.args.next.now; bindings = c.args.bindings.now }) n c.args.term p
      (transport (λ l. IsPruning (side_of c.args.side.now) (record { closing = r; levels = levels; next = c.args.next.now; bindings = c.args.bindings.now }) n c.parts.bank c.parts.bindings c.parts.next c.args.term l p) c.in-Some.ensures.items (c.parts.invariant.prunes i t r h levels w n p e));
}

pub returns-in_err-visit_part-clause-refused : goal.returns-in_err-visit_part-clause-refused
returns-in_err-visit_part-clause-refused c =
    passed_up c.from_residual-in_err-visit_part.result c.in_err-visit_part.field-0.0
    (λ e. c.args.side.now.id < c.args.next.now → c.args.term.0 < length c.args.bank.now.terms → (r : Closing) → IsOpenReading c.args.bank.now c.args.bindings.now c.args.next.now r → (levels : ℕ → ℕ) →
    Within (Known levels c.args.next.now) 0 (under c.args.bank.now r c.args.term) → (n : ℕ) → IsNothing n e (prune n (side_of c.args.side.now) c.args.next.now (under c.args.bank.now r c.args.term)))
    c.from_residual-in_err-visit_part.ensures.1
    (λ i t r h levels w n.
    nothing_given n c.in_err-visit_part.field-0.0 (prune n (side_of c.args.side.now) c.args.next.now (under c.args.bank.now r c.args.term)) c.in_err-visit_part.ensures.unfailing
    (λ p q.
    given_before n c.in_err-visit_part.field-0.0 (prune n (side_of c.args.side.now) c.args.next.now (under c.args.bank.now r c.args.term) ≡ Some p)
    (IsPruning (side_of c.args.side.now) (record { closing = r; levels = levels; next = c.args.next.now; bindings = c.args.bindings.now }) n c.parts.bank c.parts.bindings c.parts.next c.args.term (c.pop.new.self.items ++ c.in-Some.visit ∷ []) p)
    (λ e. transport (λ l. IsPruning (side_of c.args.side.now) (record { closing = r; levels = levels; next = c.args.next.now; bindings = c.args.bindings.now }) n c.parts.bank c.parts.bindings c.parts.next c.args.term l p) c.in-Some.ensures.items
    (c.parts.invariant.prunes i t r h levels w n p e))
    (c.in_err-visit_part.ensures.refused (omega (arith, i, c.parts.invariant.more)) (record { closing = r; levels = levels; next = c.args.next.now; bindings = c.args.bindings.now }) n c.args.term p)))
