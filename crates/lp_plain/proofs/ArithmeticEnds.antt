-- How the turn of `is` and that of an order may end.
use Rattle.std.proofs.Common.{◌≡◌, ℕ, Bool, true, false, refl, subst, sym, Ok, Err}
use Rattle.std.specs.Prelude.{ℤ, Result}
use Rattle.lp_base.specs.declared.compare.Compare.{Compare}
use Rattle.lp_term.specs.declared.node.TermId.{TermId}
use Rattle.lp_model.specs.Values.{ordered}
use Rattle.lp_model.specs.declared.ending.Ending.{Ending}
use Rattle.lp_model.specs.declared.ending.Ending.TheVariants.{Arithmetic, Deep}
use Rattle.lp_model.specs.declared.ending.Fault.TheVariants.{NotClosed}
use Rattle.lp_plain.specs.declared.arithmetic.Outcome.{Outcome}
use Rattle.lp_plain.specs.declared.arithmetic.Outcome.TheVariants as code
use Rattle.lp_plain.specs.declared.arithmetic.Value.TheVariants as kept
use Rattle.lp_plain.specs.declared.machine.Machine.{Machine}
use Rattle.lp_plain.specs.declared.outcome.Turn.{Turn}
use Rattle.lp_plain.specs.Assigned.{AssignsBy, Compares, ComparesBy, ComparesWith, IsNumberOr, turn_if}
use Rattle.lp_plain.specs.Forms.{order_number}
use Rattle.lp_plain.specs.Turns.{EndsAll, IsGoalTurn}
use Rattle.lp_plain.proofs.ProgramKept.{unified_ends}

pub assigned_ends : (o : Outcome) (m n : Machine) (l : TermId) (i : ℕ) (turn : Turn) → AssignsBy o m n l i turn → IsGoalTurn turn
assigned_ends (code.Is v) m n l i turn h = subst IsGoalTurn (sym h.is) (unified_ends h.same)
assigned_ends (code.Faults f) m n l i turn h = subst IsGoalTurn (sym h) tt
assigned_ends code.Deep m n l i turn h = subst IsGoalTurn (sym h) tt

test_ends : (b : Bool) → IsGoalTurn (turn_if b)
test_ends true = tt
test_ends false = tt

-- no number
ends_all : (o : Outcome) (e : Ending) → IsNumberOr o (Err e) → EndsAll e
ends_all (code.Is (kept.Number x)) e h = absurd (cc)
ends_all (code.Is (kept.Text t)) e h = let q : e ≡ Arithmetic NotClosed = cc in subst EndsAll (sym q) tt
ends_all (code.Faults f) e h = let q : e ≡ Arithmetic f = cc in subst EndsAll (sym q) tt
ends_all code.Deep e h = let q : e ≡ Deep = cc in subst EndsAll (sym q) tt

with_ends : (x : ℤ) (r : Result ℤ Ending) (o : Compare) (turn : Turn) → ((e : Ending) → r ≡ Err e → EndsAll e) → ComparesWith x r o turn → IsGoalTurn turn
with_ends x (Err e) o turn f h = subst IsGoalTurn (sym h) (f e refl)
with_ends x (Ok y) o turn f h = subst IsGoalTurn (sym h) (test_ends (ordered (order_number o) x y))

by_ends : (r : Result ℤ Ending) (m n : Machine) (o : Compare) (right : TermId) (turn : Turn) → ((e : Ending) → r ≡ Err e → EndsAll e) → ComparesBy r m n o right turn → IsGoalTurn turn
by_ends (Err e) m n o right turn f h = subst IsGoalTurn (sym h) (f e refl)
by_ends (Ok x) m n o right turn f h = with_ends x h.0 o turn (λ e q. ends_all h.1.outcome e (subst (IsNumberOr h.1.outcome) q h.1.is)) h.2

pub compared_ends : (m n : Machine) (o : Compare) (l r : TermId) (turn : Turn) → Compares m n o l r turn → IsGoalTurn turn
compared_ends m n o l r turn h = by_ends h.first h.between n o r turn (λ e q. ends_all h.number.outcome e (subst (IsNumberOr h.number.outcome) q h.number.is)) h.by
