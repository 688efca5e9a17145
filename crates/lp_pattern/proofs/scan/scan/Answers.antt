use Rattle.std.proofs.Common.{ℕ, ◌∷◌, ◌∙◌, ap, ◌++◌, [], arith, length, refl, false}
use Rattle.std.proofs.lemmas.List.Elements.{All-nil}
use Rattle.lp_term.proofs.Trees.{extends_same, extends-trans}
use Rattle.lp_term.proofs.Moves.{passed_up, nothing}
use Rattle.lp_model.specs.Pair.{Closing}
use Rattle.lp_model.specs.Scan.{scan}
use Rattle.lp_lemmas.proofs.Elements.{All_popped}
use Rattle.lp_pattern.specs.Reading.{side_of}
use Rattle.lp_pattern.specs.Stripping.{IsShut}
use Rattle.lp_pattern.specs.Under.{IsReading, under}
use Rattle.lp_pattern.specs.Visiting.{IsVisitOf, IsStopped}
use Rattle.lp_pattern.proofs.Falls.{turn_falls}
use Rattle.lp_pattern.proofs.Scannings.{scan_first, scan_next, scan_done, scan_stops, one_known}
use Rattle.lp_pattern.proofs.Walking.{reading_kept}
use Rattle.lp_pattern.proofs.scan.scan.Goals as goal

pub parts-init : goal.parts-init
parts-init c = record {
  fewer = omega arith;
  kept = extends_same c.args.bank.now;
  left = one_known (length c.args.bank.now.terms) c.args.side.now.pair
      (record { term = c.args.term; opened = c.closed.result; is_inside = false }) [] c.push.new.self.items (c.requires.term, c.closed.ensures.level) (All-nil (IsVisitOf (length c.args.bank.now.terms) c.args.side.now.pair))
      (c.in_ok-push.ensures.items ∙ ap (λ l. l ++ (record { term = c.args.term; opened = c.closed.result; is_inside = false }) ∷ []) c.new-left.ensures.items);
  rest = λ r i h n. scan_first n (side_of c.args.side.now) c.args.bank.now r
      (record { term = c.args.term; opened = c.closed.result; is_inside = false }) c.args.term c.push.new.self.items c.args.units.now (record { is_delayed = false; has_misfit = false })
      (c.in_ok-push.ensures.items ∙ ap (λ l. l ++ (record { term = c.args.term; opened = c.closed.result; is_inside = false }) ∷ []) c.new-left.ensures.items) refl refl c.closed.ensures.level c.closed.ensures.depth;
}

pub returns-in_default-clause-scanned : goal.returns-in_default-clause-scanned
returns-in_default-clause-scanned c = λ r i h n.
    scan_done n (side_of c.args.side.now) c.parts.bank r c.parts.left.items c.args.units.now c.parts.units (record { is_delayed = false; has_misfit = false }) c.parts.found (scan n (side_of c.args.side.now) false c.args.side.now.pair (under c.args.bank.now r c.args.term)) refl refl
    (nothing c.parts.left.items (omega (arith, c.in_default.ensures.cases.0, c.parts.left.ok))) (c.parts.invariant.rest r i h n)

pub visit_part-requires-clause-visit : goal.visit_part-requires-clause-visit
visit_part-requires-clause-visit c =
    (All_popped (IsVisitOf (length c.parts.bank.terms) c.args.side.now.pair) c.parts.left.items c.pop.new.self.items c.in-Some.visit c.in-Some.ensures.items c.parts.invariant.left).1

pub visit_part-requires-clause-left : goal.visit_part-requires-clause-left
visit_part-requires-clause-left c =
    (All_popped (IsVisitOf (length c.parts.bank.terms) c.args.side.now.pair) c.parts.left.items c.pop.new.self.items c.in-Some.visit c.in-Some.ensures.items c.parts.invariant.left).0

pub returns-in_err-visit_part-clause-stopped : goal.returns-in_err-visit_part-clause-stopped
returns-in_err-visit_part-clause-stopped c =
    passed_up c.from_residual-in_err-visit_part.result c.in_err-visit_part.field-0.0
    (λ e. (r : Closing) → IsReading c.args.bank.now c.args.bindings.now r → IsShut r → (n : ℕ) → IsStopped n e c.args.units.now (scan n (side_of c.args.side.now) false c.args.side.now.pair (under c.args.bank.now r c.args.term)))
    c.from_residual-in_err-visit_part.ensures.1
    (λ r i h n.
    scan_stops n (side_of c.args.side.now) c.parts.bank r c.parts.left.items c.pop.new.self.items c.in-Some.visit c.args.units.now c.parts.units (record { is_delayed = false; has_misfit = false }) c.parts.found c.in_err-visit_part.field-0.0 _ c.in-Some.ensures.items
    (c.parts.invariant.rest r i h n) (c.in_err-visit_part.ensures.stopped r (reading_kept c.args.bank.now c.parts.bank c.args.bindings.now r c.parts.invariant.kept i) h n n))

pub parts-preserved : goal.parts-preserved
parts-preserved c = record {
  fewer = omega (arith, c.parts.invariant.fewer, c.in_ok-visit_part.ensures.fewer);
  kept = extends-trans c.args.bank.now c.parts.bank c.visit_part.new.bank c.parts.invariant.kept c.in_ok-visit_part.ensures.kept;
  left = c.in_ok-visit_part.ensures.left;
  rest = λ r i h n.
      scan_next n (side_of c.args.side.now) c.parts.bank c.visit_part.new.bank r c.parts.left.items c.pop.new.self.items c.visit_part.new.left.items c.in-Some.visit c.args.units.now c.parts.units c.visit_part.new.units (record { is_delayed = false; has_misfit = false }) c.parts.found
      c.visit_part.new.found _ c.in-Some.ensures.items (c.parts.invariant.rest r i h n)
      (c.in_ok-visit_part.ensures.scanned r (reading_kept c.args.bank.now c.parts.bank c.args.bindings.now r c.parts.invariant.kept i) h n n);
}

pub parts-smaller : goal.parts-smaller
parts-smaller c = turn_falls _ _ _ c.pop.new.self.items c.parts.left.items c.in-Some.visit c.in-Some.ensures.items c.in_ok-visit_part.ensures.falls

pub returns-in_default-clause-fewer : goal.returns-in_default-clause-fewer
returns-in_default-clause-fewer c = c.parts.invariant.fewer
