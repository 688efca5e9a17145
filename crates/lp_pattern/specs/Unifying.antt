-- What whole runs come to: the outcome of the definition, read off the code's bindings and pairs.
use Rattle.std.specs.Prelude.{◌≡◌, ℕ, ◌<◌, ◌≤◌, nat_eq, List, length, map, Option, Some}
use Rattle.std.specs.Map.{lookup}
use Rattle.lp_calculus.specs.Types.{Ty, var}
use Rattle.lp_calculus.specs.Term.{Term, atom, logic}
use Rattle.lp_calculus.specs.Fill.{Within, put_all}
use Rattle.lp_term.specs.Nodes.{Nodes, tree}
use Rattle.lp_term.specs.declared.node.TermId.{TermId}
use Rattle.lp_term.specs.declared.node.TypeId.{TypeId}
use Rattle.lp_model.specs.Pair.{Pair, Closing, closed, put_types_in}
use Rattle.lp_model.specs.Answers.{Variable}
use Rattle.lp_model.specs.Proofs.{Declared}
use Rattle.lp_model.specs.Unify.{State, Unified, Fail, Solution, Spent, solve}
use Rattle.lp_unify_laws.specs.Solutions.{instance_variable, IsTypedInput}
use Rattle.lp_model.specs.declared.answer.Pair.{Pair as Numbers}
use Rattle.lp_pattern.specs.declared.bindings.Bindings.{Bindings}
use Rattle.lp_pattern.specs.declared.fault.PatternRefusal.{PatternRefusal}
use Rattle.lp_pattern.specs.declared.unify.Solved.{Solved}
use Rattle.lp_pattern.specs.Pruning.{Known}
use Rattle.lp_pattern.specs.Reading.{type_pairs_of}
use Rattle.lp_pattern.specs.Turning.{IsOpenReading, AreKnownPairs, ArePairsFor}
use Rattle.lp_pattern.specs.Under.{ValueIs, TypeIs}

-- a pair at numbers of a bank
abbrev pub pair_of : Nodes → Numbers → Pair
pair_of b p = record { left = tree b p.left.0; right = tree b p.right.0; level = p.level }

abbrev pub pairs_at : Nodes → List Numbers → List Pair
pairs_at b ps = map (pair_of b) ps

-- what the definition makes of equations of types and pairs at numbers of a bank
abbrev pub run : (n limit : ℕ) → Nodes → List (TypeId × TypeId) → (pairs delayed : List Numbers) → (next : ℕ) → Option Unified
run n limit b types ps ds next = solve n limit (type_pairs_of b var types) (pairs_at b ps) (pairs_at b ds) next

-- the input is typed over these variables, which are all those below the next one, under each choice of types that solves the equations
pub record IsTypedRun (d : Declared) (V : List Variable) (b : Nodes) (types : List (TypeId × TypeId)) (ps ds : List Numbers) (next : ℕ) : Type 0 where
  pub count : length V ≡ next
  pub typed : (θ : ℕ → Ty) → IsTypedInput θ d (map (instance_variable θ) V) (type_pairs_of b var types) (pairs_at b ps) (pairs_at b ds)

-- the definition comes to an outcome, in some number of steps of each kind, of which this holds
pub record ComesToOutcome (limit : ℕ) (b : Nodes) (types : List (TypeId × TypeId)) (ps ds : List Numbers) (next : ℕ) (P : (steps : ℕ) → Unified → Type 0) : Type 0 where
  pub steps : ℕ
  pub outcome : Unified
  pub comes : run steps limit b types ps ds next ≡ Some outcome
  pub is : P steps outcome

-- nothing is bound
abbrev pub unbound : Closing
unbound = record { types = var; terms = λ x l. atom (logic x l) }

-- a closing gives each variable what its value in these lists is under the closing
pub record Reads (b : Nodes) (values : List (ℕ × TermId)) (type_values : List (ℕ × TypeId)) (c : Closing) : Type 0 where
  pub terms : (x : ℕ) → ValueIs b c x (lookup (nat_eq x) values)
  pub types : (x : ℕ) → TypeIs b c.types x (lookup (nat_eq x) type_values)

-- bindings and pairs left are those of the definition: each term of before, of any number of loose indices, is, with all bindings put in, what the definition's
-- bindings and types make of it, and steps at the top lead from the definition's pairs to those that are left
pub record IsFound (levels : ℕ → ℕ) (next : ℕ) (c : Closing) (b : Nodes) (next' : ℕ) (residual : List Numbers) (closing : Closing) (s : State) : Type 0 where
  pub puts : (depth : ℕ) (t : Term) → Within (Known levels next) depth (closed c t) → closed closing t ≡ put_types_in s.types (put_all s.bindings (closed c t))
  pub last : next' ≡ s.next
  pub left : ArePairsFor b closing residual s.delayed
  pub levels' : ℕ → ℕ
  pub older : (x : ℕ) → x < next → levels' x ≡ levels x
  pub known : AreKnownPairs levels' next' s.delayed
  pub knows : (depth : ℕ) (t : Term) → Within (Known levels next) depth t → Within (Known levels' next') depth (put_types_in s.types (put_all s.bindings t))

-- the bindings behind a run
abbrev pub IsSolutionUnder : (levels : ℕ → ℕ) → (next : ℕ) → Closing → Nodes → Bindings → (next' : ℕ) → List Numbers → Unified → Type 0
IsSolutionUnder lv n c b s n' left Fail = ⊥
IsSolutionUnder lv n c b s n' left Spent = ⊥
IsSolutionUnder lv n c b s n' left (Solution st) = (z : Closing) × IsOpenReading b s n' z × IsFound lv n c b n' left z st

-- lists of bindings, from nothing
abbrev pub IsSolution : (levels : ℕ → ℕ) → (next : ℕ) → Nodes → (next' : ℕ) → Solved → Unified → Type 0
IsSolution lv n b n' found Fail = ⊥
IsSolution lv n b n' found Spent = ⊥
IsSolution lv n b n' found (Solution st) = (z : Closing) × Reads b found.bindings.items found.types.items z × IsFound lv n unbound b n' found.residual.items z st

-- it fails where the definition does; the units pass the limit where the definition's do, and else a million steps are too few for it
abbrev pub IsRefusedAs : PatternRefusal → (steps : ℕ) → Unified → Type 0
IsRefusedAs PatternRefusal.Fails n u = u ≡ Fail
IsRefusedAs PatternRefusal.Deep n u = n ≤ 1000000 → u ≡ Spent
IsRefusedAs PatternRefusal.Memory n u = Unit {0}
