-- Plain unification (Miller 1991, Nadathur 1993): type equations first, then pairs from the front; delayed pairs are taken up when
-- something was bound. A state counts its units: one for each pair taken, and what the rules count.
use Rattle.std.specs.Prelude.{ℕ, zero, suc, ◌+◌, nat_lt, Bool, true, false, ◌||◌, List, [], ◌∷◌, ◌++◌, map, Option, Some, None, option_map}
use Rattle.lp_calculus.specs.Fill.{Binding}
use Rattle.lp_model.specs.Look.{◌>>=◌}
use Rattle.lp_model.specs.Types.{TypeBinding, TypePair, TypeOutcome, none, solved, solve_types}
use Rattle.lp_model.specs.Pair.{Pair, put_pair, type_pair}
use Rattle.lp_model.specs.Rule.{Verdict, fails, gives, binds, delays, rule}

-- `bindings` and `types` in the order in which they were made; the pairs have all of them applied
pub record State : Type 0 where
  pub pairs : List Pair
  pub delayed : List Pair
  pub bindings : List Binding
  pub types : List TypeBinding
  -- a variable was bound since the delayed pairs were last taken up
  pub changed : Bool
  pub next : ℕ
  pub units : ℕ

pub data Turn : Type 0 where
  Goes : State → Turn
  Fails : (units : ℕ) → Turn
  Solved : State → Turn

abbrev pub put_pairs : List Binding → List Pair → List Pair
put_pairs [] ps = ps
put_pairs (b ∷ bs) ps = put_pairs bs (map (put_pair b) ps)

abbrev pub type_pairs_in : List TypeBinding → List Pair → List Pair
type_pairs_in [] ps = ps
type_pairs_in (b ∷ bs) ps = type_pairs_in bs (map (type_pair b) ps)

abbrev pub is_some_bound : List TypeBinding → Bool
is_some_bound [] = false
is_some_bound (b ∷ bs) = true

-- the state behind a verdict on its first pair, p, with `rest` behind it
abbrev pub judged : State → Pair → List Pair → (units : ℕ) → Verdict → Turn
judged s p rest u fails = Fails u
judged s p rest u (gives ts ps) = Goes (record {
  pairs = ps ++ type_pairs_in ts rest;
  delayed = type_pairs_in ts s.delayed;
  bindings = s.bindings;
  types = s.types ++ ts;
  changed = s.changed || is_some_bound ts;
  next = s.next;
  units = u;
})
judged s p rest u (binds bs next) = Goes (record {
  pairs = put_pairs bs rest;
  delayed = put_pairs bs s.delayed;
  bindings = s.bindings ++ bs;
  types = s.types;
  changed = true;
  next = next;
  units = u;
})
judged s p rest u delays = Goes (record s { pairs = rest; delayed = s.delayed ++ p ∷ []; units = u })

abbrev pub turn_on : ℕ → State → List Pair → Option Turn
turn_on n s (p ∷ rest) = option_map (λ r. judged s p rest (suc s.units + r.units) r.verdict) (rule n s.next p)
turn_on n s [] = elim s.changed [
  | true ↦ Some (Goes (record s { pairs = s.delayed; delayed = []; changed = false }))
  | false ↦ Some (Solved s)
]

abbrev pub turn : ℕ → State → Option Turn
turn n s = turn_on n s s.pairs

-- how a unification ends
pub data Unified : Type 0 where
  -- there is no solution
  Fail : Unified
  -- bindings, types and residual pairs
  Solution : State → Unified
  -- some unit passed the limit
  Spent : Unified

-- within the limit
abbrev pub limited : (limit units : ℕ) → Unified → Unified
limited limit u r = elim (nat_lt limit u) [ true ↦ Spent | false ↦ r ]

-- what at most m turns come to, each with n steps
abbrev pub unify : ℕ → ℕ → (limit : ℕ) → State → Option Unified
unify zero n limit s = None
unify (suc m) n limit s = turn n s >>= λ t. elim t [
  | Goes s' ↦ elim (nat_lt limit s'.units) [ true ↦ Some Spent | false ↦ unify m n limit s' ]
  | Fails u ↦ Some (limited limit u Fail)
  | Solved s' ↦ Some (Solution s')
]

abbrev pub begun : (pairs delayed : List Pair) → (next : ℕ) → TypeOutcome → State
begun ps ds next (none u) = record { pairs = []; delayed = []; bindings = []; types = []; changed = false; next = next; units = u }
begun ps ds next (solved ts u) = record { pairs = type_pairs_in ts ps; delayed = type_pairs_in ts ds; bindings = []; types = ts; changed = is_some_bound ts; next = next; units = u }

abbrev pub go_on : ℕ → (limit : ℕ) → (pairs delayed : List Pair) → (next : ℕ) → TypeOutcome → Option Unified
go_on n limit ps ds next (none u) = Some (limited limit u Fail)
go_on n limit ps ds next (solved ts u) = elim (nat_lt limit u) [
  | true ↦ Some Spent
  | false ↦ unify n n limit (begun ps ds next (solved ts u))
]

-- type equations, pairs, the delayed pairs at the start, and the number of the next variable; None where more than n steps of some kind are needed
abbrev pub solve : ℕ → (limit : ℕ) → List TypePair → (pairs delayed : List Pair) → (next : ℕ) → Option Unified
solve n limit types ps ds next = solve_types n types [] 0 >>= go_on n limit ps ds next

-- as many units may be taken
abbrev pub unit_limit : ℕ
unit_limit = 1000000
