-- The states to which moves of the definition's search lead, and the expressions that are evaluated in them.
use Rattle.std.specs.Prelude.{◌≡◌, ℕ, suc, Bool, List, [], ◌∷◌, length, Some}
use Rattle.lp_calculus.specs.Spine.{arguments, head_of}
use Rattle.lp_lemmas.specs.Each.{EachOf}
use Rattle.lp_calculus.specs.Term.{Term, atom, constant}
use Rattle.lp_standard.specs.Connectives.{connective_of}
use Rattle.lp_standard.specs.Connectives as connective
use Rattle.lp_standard.specs.Constants.{IsOrder}
use Rattle.lp_standard.specs.Numbers as number
use Rattle.lp_model.specs.Branch.{Answer, Entry, Task, Go, Try, Stop, Lack, both_written}
use Rattle.lp_model.specs.Flat.{Goal, Atomic, Cut, Either, Exists, Forall, Assume, Not, Written}
use Rattle.lp_model.specs.Look.{head_normal}
use Rattle.lp_model.specs.Skeleton.{Denies, Goes, Note, State, View, inner, move, starts_within}
use Rattle.lp_plain.specs.AtRunTime.{IsSmallExpression}

-- from the one state moves lead to the other before anything is told, inside of negated goals, too
pub data IsReached (see : ℕ → Task → View Task Answer) : State Task → State Task → Type 0 where
  at_once : {s u : State Task} → s ≡ u → IsReached see s u
  behind_move : {s u : State Task} (j k : ℕ) (ns : List Note) (t : State Task) → move (inner see j) see s ≡ Goes k ns t → IsReached see t u → IsReached see s u
  inside_denied : {s u : State Task} (n : ℕ) (t i : Task) (f : Answer → Bool) (ts rest : List Task) → s.stack ≡ t ∷ rest → s.steps ≡ suc n → see
      (length rest) t ≡ Denies i f ts → IsReached see (starts_within s.rows i n 1) u → IsReached see s u

-- an atom by its head and arguments: the expressions of an `is` or of an order have normal forms of at most a million nodes
abbrev pub IsSmallAtom : (head : Term) → List Term → Type 0
IsSmallAtom (atom (constant c ts)) (l ∷ r ∷ []) = (c ≡ number.Is → IsSmallExpression r) × (IsOrder c → IsSmallExpression l × IsSmallExpression r)
IsSmallAtom t us = Unit {0}

-- so what a goal comes to; of a negated one what is written in it and in the clauses that are assumed at it
abbrev pub IsSmallGoal : Goal → (w : Written) → Type 0
IsSmallGoal (Atomic u) w = (n : ℕ) (t : Term) → head_normal n u ≡ Some t → connective_of t ≡ connective.Atomic → IsSmallAtom (head_of t) (arguments t)
IsSmallGoal Cut w = Unit {0}
IsSmallGoal (Either gs hs) w = Unit {0}
IsSmallGoal (Exists T gs) w = Unit {0}
IsSmallGoal (Forall T gs) w = Unit {0}
IsSmallGoal (Assume v cs gs) w = Unit {0}
IsSmallGoal (Not v gs) w = EachOf IsSmallExpression (both_written v w).terms

-- so the goal in front
abbrev pub HasSmallFirst : List Entry → Type 0
HasSmallFirst [] = Unit {0}
HasSmallFirst (e ∷ es) = IsSmallGoal e.goal e.written

-- so in the first task
abbrev pub HasSmallGoal : List Task → Type 0
HasSmallGoal [] = Unit {0}
HasSmallGoal (Go b ∷ ts) = HasSmallFirst b.goals
HasSmallGoal (Try c t e b k ∷ ts) = Unit {0}
HasSmallGoal (Stop e ∷ ts) = Unit {0}
HasSmallGoal (Lack ∷ ts) = Unit {0}
