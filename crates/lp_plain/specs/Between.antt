-- A search between two events, as a state of the definition's.
use Rattle.std.specs.Prelude.{◌≡◌, ℕ, ◌-◌, ◌<◌, List, [], length, None, Some}
use Rattle.lp_model.specs.Branch.{Answer, Task}
use Rattle.lp_model.specs.Events.{Advances, Event, Over}
use Rattle.lp_model.specs.Flat.{Clause, Clauses}
use Rattle.lp_model.specs.Search.{look}
use Rattle.lp_model.specs.Skeleton.{State}
use Rattle.lp_model.specs.Unify.{unit_limit}
use Rattle.lp_model.specs.declared.answer.Event.{Event as Told}
use Rattle.lp_model.specs.declared.answer.Event.TheVariants as told
use Rattle.lp_model.specs.declared.ending.Ending.{Ending}
use Rattle.lp_model.specs.declared.ending.Ending.TheVariants.{Deep}
use Rattle.lp_plain.specs.declared.machine.Machine.{Machine}
use Rattle.lp_plain.specs.declared.search.Search.{Search}
use Rattle.lp_plain.specs.Calling.{IsProgramIn}
use Rattle.lp_plain.specs.Moving.{IsBack, IsState, Query}
use Rattle.lp_plain.specs.Reached.{HasSmallGoal, IsReached}
use Rattle.lp_plain.specs.Trying.{all_clauses}
use Rattle.lp_plain.specs.TypedStates.{IsTypedOver}
use Rattle.lp_plain.specs.WrittenSearch.{IsWrittenSearch}

-- the query's variables are those of the search
pub record HasVariables (qv : Query) (s : Search) : Type 0 where
  pub alone : qv.outer ≡ []
  pub are : length s.variables.items ≡ qv.vars

-- so many answers are given, and so many are left
pub record HasGiven (s : Search) (t : State Task) : Type 0 where
  pub given : t.given ≡ s.given
  pub left : t.answers ≡ s.answers - s.given

-- the search has not begun, or stands behind an answer
pub data IsGoing (qv : Query) (s : Search) (t : State Task) : Type 0 where
  begins : s.given ≡ 0 → IsState qv s.machine t → IsGoing qv s t
  answered : 0 < s.given → IsBack qv s.machine t → IsGoing qv s t

-- the program's clauses stand in the table of a machine, and all in it is written
pub record HasClauses (P : List Clause) (arity : ℕ → ℕ) (m : Machine) : Type 0 where
  pub clauses : List Clauses
  pub are : P ≡ all_clauses clauses
  pub program : IsProgramIn m arity clauses
  pub written : IsWrittenSearch m arity

-- the definition's search is over with this end
abbrev pub IsOver : List Clause → (steps : ℕ) → Ending → State Task → Type 0
IsOver P n e t = (x : Event Answer) (u : State Task) → Advances (look unit_limit n P) t x u → x ≡ Over e

-- between two events the search is in this state of the definition's search over these clauses, with so many steps for each look
pub data IsBetween (P : List Clause) (n : ℕ) (s : Search) (t : State Task) : Type 0 where
  goes_on : (qv : Query) → s.ended ≡ None → HasVariables qv s → HasGiven s t → IsGoing qv s t → HasClauses P qv.arity s.machine → IsTypedOver qv.arity n P t → IsBetween P n s t
  is_over : (e : Ending) → s.ended ≡ Some e → IsOver P n e t → IsBetween P n s t

-- that the search is too deep may be told before the definition's search tells something, where on the way to its next event a look takes a million steps, or what is evaluated, or
-- tested for variables at a negated goal, has more than a million nodes
abbrev pub AreEnough : List Clause → (steps : ℕ) → State Task → Told → Type 0
AreEnough P n s event = event ≡ told.Ended Deep → (n < 1000000) × ((u : State Task) → IsReached (look unit_limit n P) s u → HasSmallGoal u.stack)
