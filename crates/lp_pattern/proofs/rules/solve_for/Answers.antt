use Rattle.std.proofs.Common.{◌≡◌, ℕ, Some, sym, ◌∙◌, subst as transport, arith}
use Rattle.lp_calculus.specs.Fill.{Within}
use Rattle.lp_calculus.proofs.Steps.{within_reduces}
use Rattle.lp_term.proofs.Trees.{extends_same}
use Rattle.lp_term.proofs.Moves.{passed_up}
use Rattle.lp_calculus.specs.Convert.{steps}
use Rattle.lp_calculus.specs.Term.{Term}
use Rattle.lp_model.specs.Pair.{Closing}
use Rattle.lp_model.specs.Rule.{solve_for}
use Rattle.lp_model.specs.Look.{weak_step}
use Rattle.lp_pattern.proofs.Walking.{open_kept}
use Rattle.lp_pattern.specs.Reading.{side_of}
use Rattle.lp_pattern.specs.Ruling.{view, IsRuledOut}
use Rattle.lp_pattern.specs.Turning.{IsOpenReading}
use Rattle.lp_pattern.specs.Under.{under}
use Rattle.lp_pattern.specs.Putting.{Known}
use Rattle.lp_pattern.specs.Valuing.{IsKnownSide, Values, HasNoValue}
use Rattle.lp_pattern.proofs.BoundOnce.{kept_behind}
use Rattle.lp_pattern.proofs.PruneSteps.{weak_reduces}
use Rattle.lp_pattern.proofs.SidesBound.{bound_done}
use Rattle.lp_pattern.proofs.Stacks.{under_kept}
use Rattle.lp_pattern.proofs.Judging.{on_head, on_delayed, on_bound, scan_out}
use Rattle.lp_pattern.proofs.RuledOut.{value_out}
use Rattle.lp_pattern.proofs.rules.solve_for.Goals as goal

pub scan-requires : goal.scan-requires
scan-requires c = record { term = c.requires.other.known }

pub returns-then-has_head-clause-judged : goal.returns-then-has_head-clause-judged
returns-then-has_head-clause-judged c = λ r i h n j t e.
    on_head n c.args.next.now c.args.units.now (side_of c.args.side.now) t (view c.args.bank.now r c.args.other.now) (sym (c.has_head.ensures c.args.bank.now r) ∙ c.if-has_head.true)

pub returns-in_err-found-clause-refused : goal.returns-in_err-found-clause-refused
returns-in_err-found-clause-refused c =
    passed_up c.from_residual.result c.in_err-found.field-0.0
    (λ e. (r : Closing) → IsOpenReading c.args.bank.now c.args.bindings.now c.args.next.now r → (levels : ℕ → ℕ) → IsKnownSide levels c.args.next.now
    (side_of c.args.side.now) → (n j : ℕ) (t : Term) → steps weak_step j t ≡ Some (under c.args.bank.now r c.args.other.now.whole) → Within
    (Known levels c.args.next.now) 0 t →
    IsRuledOut n e c.args.units.now (solve_for n c.args.next.now (side_of c.args.side.now) t (view c.args.bank.now r c.args.other.now)))
    c.from_residual.ensures.1
    (λ r o levels k n j t e w.
    scan_out n c.args.next.now j c.args.units.now (side_of c.args.side.now) t (under c.args.bank.now r c.args.other.now.whole) (view c.args.bank.now r c.args.other.now) c.in_err-found.field-0.0 e
    (sym (c.has_head.ensures c.args.bank.now r) ∙ c.if-has_head.false) (c.in_err-found.ensures.stopped r o.reading o.shut n))

pub returns-then-found-clause-judged : goal.returns-then-found-clause-judged
returns-then-found-clause-judged c = λ r i h n j t e.
    on_delayed n c.args.next.now j c.args.units.now c.scan.new.units (side_of c.args.side.now) t (under c.args.bank.now r c.args.other.now.whole) (view c.args.bank.now r c.args.other.now) c.in_ok-found.found e
    (sym (c.has_head.ensures c.args.bank.now r) ∙ c.if-has_head.false) (c.in_ok-found.ensures.scanned r i h n) c.if-found.true

pub returns-in_err-value-clause-refused : goal.returns-in_err-value-clause-refused
returns-in_err-value-clause-refused c =
    passed_up c.from_residual-in_err-value.result c.in_err-value.field-0.0
    (λ e. (r : Closing) → IsOpenReading c.args.bank.now c.args.bindings.now c.args.next.now r → (levels : ℕ → ℕ) → IsKnownSide levels c.args.next.now
    (side_of c.args.side.now) → (n j : ℕ) (t : Term) → steps weak_step j t ≡ Some (under c.args.bank.now r c.args.other.now.whole) → Within
    (Known levels c.args.next.now) 0 t →
    IsRuledOut n e c.args.units.now (solve_for n c.args.next.now (side_of c.args.side.now) t (view c.args.bank.now r c.args.other.now)))
    c.from_residual-in_err-value.ensures.1
    (λ r o levels k n j t e w.
    let x = under c.args.bank.now r c.args.other.now.whole in
    let same = under_kept c.args.bank.now c.scan.new.bank r c.args.other.now.whole c.in_ok-found.ensures.kept c.requires.other.known in
    let known = within_reduces (Known levels c.args.next.now) 0 (weak_reduces j t x e) w in
    value_out n c.args.next.now j c.args.units.now c.scan.new.units (side_of c.args.side.now) t x (view c.args.bank.now r c.args.other.now) c.in_ok-found.found c.in_err-value.field-0.0 e
    (sym (c.has_head.ensures c.args.bank.now r) ∙ c.if-has_head.false) (λ m. c.in_ok-found.ensures.scanned r o.reading o.shut m) c.if-found.false
    (transport (HasNoValue n c.in_err-value.field-0.0 (side_of c.args.side.now) c.args.next.now c.in_ok-found.found) same
    (c.in_err-value.ensures.refused (omega (arith, c.requires.other.known, c.in_ok-found.ensures.kept.more_terms)) r (open_kept c.args.bank.now c.scan.new.bank c.args.bindings.now c.args.next.now r c.in_ok-found.ensures.kept o) levels k
    (transport (Within (Known levels c.args.next.now) 0) (sym same) known) n)))

pub returns-clause-judged : goal.returns-clause-judged
returns-clause-judged c = λ r i h n j t e.
    on_bound n c.args.next.now j c.args.units.now c.scan.new.units (side_of c.args.side.now) t (under c.args.bank.now r c.args.other.now.whole) (view c.args.bank.now r c.args.other.now) c.in_ok-found.found e
    (sym (c.has_head.ensures c.args.bank.now r) ∙ c.if-has_head.false) (c.in_ok-found.ensures.scanned r i h n) c.if-found.false

pub returns-then-has_head-clause-done : goal.returns-then-has_head-clause-done
returns-then-has_head-clause-done c = λ r o levels k n j t e w q a. (
  (on_head n c.args.next.now c.args.units.now (side_of c.args.side.now) t (view c.args.bank.now r c.args.other.now) (sym (c.has_head.ensures c.args.bank.now r) ∙ c.if-has_head.true) q a).1,
  kept_behind c.args.bank.now c.args.bank.now c.args.bindings.now c.args.next.now r (extends_same c.args.bank.now) o,
)

pub returns-then-found-clause-done : goal.returns-then-found-clause-done
returns-then-found-clause-done c = λ r o levels k n j t e w q a. (
  (on_delayed n c.args.next.now j c.args.units.now c.scan.new.units (side_of c.args.side.now) t (under c.args.bank.now r c.args.other.now.whole) (view c.args.bank.now r c.args.other.now) c.in_ok-found.found e
      (sym (c.has_head.ensures c.args.bank.now r) ∙ c.if-has_head.false) (c.in_ok-found.ensures.scanned r o.reading o.shut n) c.if-found.true q a).1,
  kept_behind c.args.bank.now c.scan.new.bank c.args.bindings.now c.args.next.now r c.in_ok-found.ensures.kept o,
)

pub returns-clause-done : goal.returns-clause-done
returns-clause-done c = λ r o levels k n j t e w q a.
    let x = under c.args.bank.now r c.args.other.now.whole in
    let same = under_kept c.args.bank.now c.scan.new.bank r c.args.other.now.whole c.in_ok-found.ensures.kept c.requires.other.known in
    let known = within_reduces (Known levels c.args.next.now) 0 (weak_reduces j t x e) w in
    bound_done n c.args.next.now j c.args.units.now c.scan.new.units (side_of c.args.side.now) t x (view c.args.bank.now r c.args.other.now) c.in_ok-found.found levels r c.args.bindings.now c.value_for.new.bindings c.bind.new.self
    c.value_for.new.bank c.value_for.new.next c.in_ok-value.value e (sym (c.has_head.ensures c.args.bank.now r) ∙ c.if-has_head.false) (λ m. c.in_ok-found.ensures.scanned r o.reading o.shut m) c.if-found.false k
    (transport (Values (side_of c.args.side.now) levels c.args.next.now r c.args.bindings.now c.value_for.new.bank c.value_for.new.bindings c.value_for.new.next c.in_ok-value.value n c.in_ok-found.found) same
    (c.in_ok-value.ensures.value (omega (arith, c.requires.other.known, c.in_ok-found.ensures.kept.more_terms)) r (open_kept c.args.bank.now c.scan.new.bank c.args.bindings.now c.args.next.now r c.in_ok-found.ensures.kept o) levels k
    (transport (Within (Known levels c.args.next.now) 0) (sym same) known) n))
    c.in_ok-bind.ensures.made c.in_ok-bind.ensures.types q a
