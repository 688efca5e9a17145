-- A turn that leads there: what stands behind it.
use Rattle.std.proofs.Common.{ℕ, sym, subst}
use Rattle.lp_model.specs.Branch.{Task}
use Rattle.lp_model.specs.Skeleton.{State}
use Rattle.lp_plain.specs.declared.machine.Machine.{Machine}
use Rattle.lp_plain.specs.declared.outcome.Turn.{Turn}
use Rattle.lp_plain.specs.Between.{HasClauses}
use Rattle.lp_plain.specs.Calling.{IsProgramIn, LeadsOf, LeadsOver, WrittenBehind}
use Rattle.lp_plain.specs.Moving.{LeadsTo, Query, Tally}
use Rattle.lp_plain.specs.Turns.{IsNoEnd, KeepsProgram}
use Rattle.lp_plain.specs.WrittenSearch.{IsWrittenSearch}
use Rattle.lp_plain.specs.inner.Following.{Comes, Course, IsOfQuery, Leaves}
use Rattle.lp_plain.proofs.CallArm.{over_one, written_behind}
use Rattle.lp_plain.proofs.Following.{IsInnerTurn, led_over}
use Rattle.lp_plain.proofs.ProgramKept.{clauses_on}

pub behind_written : (turn : Turn) (n : Machine) (ar : ℕ → ℕ) → IsNoEnd turn → WrittenBehind turn n ar → IsWrittenSearch n ar
behind_written Turn.On n ar k w = w
behind_written Turn.Back n ar k w = w
behind_written Turn.Answered n ar k w = w
behind_written (Turn.Ended e) n ar k w = absurd k

module _ (c : Course) (qv : Query) (m n : Machine) (within : IsOfQuery c.query qv) (keeps : KeepsProgram m n) (cl : HasClauses c.program c.query.arity m) where
  serves : IsWrittenSearch n qv.arity → HasClauses c.program c.query.arity n
  serves w = clauses_on c.program c.query.arity m n keeps (subst (IsWrittenSearch n) within.0 w) cl

  -- over the clauses of the search's program
  pub led_stands : (turn : Turn) (y : Tally) (s : State Task) (x : Tally) → IsInnerTurn qv.outer turn → LeadsOf y m n qv turn s → Comes c qv.outer x s → Leaves c x y turn n
  led_stands turn y s x p l o =
      led_over c qv n within serves 2 turn y s x p
      (subst (LeadsOver 2 y qv turn n s) (sym cl.are) (l cl.clauses (subst (λ ar. IsProgramIn m ar cl.clauses) (sym within.0) cl.program) (subst (IsWrittenSearch m) (sym within.0) cl.written))) o

  -- over each program
  pub led_to : (turn : Turn) (y : Tally) (s : State Task) (x : Tally) → IsInnerTurn qv.outer turn → LeadsTo 1 y qv turn n s → IsWrittenSearch n qv.arity → Comes c qv.outer x s → Leaves c x y turn n
  led_to turn y s x p l w o = led_over c qv n within serves 2 turn y s x p (over_one y qv turn n s l (written_behind turn n qv.arity w) c.program) o
