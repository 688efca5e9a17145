-- What a unification in the branch at work comes to.
use Rattle.std.specs.Prelude.{◌≡◌, ℕ, ◌≤◌, List, [], ◌∷◌, All, length, Some}
use Rattle.lp_calculus.specs.Fill.{Within}
use Rattle.lp_calculus.specs.Term.{Term}
use Rattle.lp_term.specs.Nodes.{Extends, tree}
use Rattle.lp_term.specs.declared.node.TermId.{TermId}
use Rattle.lp_model.specs.Pair.{Closing, Pair as Equation, closed}
use Rattle.lp_model.specs.Unify.{Unified as Outcome, Fail, Spent, solve}
use Rattle.lp_pattern.specs.Growing.{GoesOn, Grows, IsPairOf}
use Rattle.lp_pattern.specs.Putting.{Known}
use Rattle.lp_pattern.specs.Turning.{AreKnownPairs, ArePairsFor, IsOpenReading}
use Rattle.lp_pattern.specs.Unifying.{IsSolutionUnder}
use Rattle.lp_plain.specs.declared.machine.Machine.{Machine}
use Rattle.lp_plain.specs.declared.unified.Unified.{Unified}

-- a unification changes the bank, the bindings, the number of the next logic variable and the residual pairs, and nothing else
pub record IsBoundIn (old new : Machine) : Type 0 where
  pub bank : Extends old.bank new.bank
  pub bindings : Grows old.bindings new.bindings
  pub more : old.branch.next ≤ new.branch.next
  pub table : new.table ≡ old.table
  pub index : new.index ≡ old.index
  pub scopes : new.scopes ≡ old.scopes
  pub frames : new.frames ≡ old.frames
  pub assumptions : new.assumptions ≡ old.assumptions
  pub newest : new.newest ≡ old.newest
  pub standings : new.standings ≡ old.standings
  pub choices : new.choices ≡ old.choices
  pub denied : new.denied ≡ old.denied
  pub counts : new.counts ≡ old.counts
  pub goals : new.branch.goals ≡ old.branch.goals
  pub next_type : new.branch.next_type ≡ old.branch.next_type

-- bank, bindings, scopes and the next numbers may grow, the branch at work may change, and nothing else does
pub record IsMore (old new : Machine) : Type 0 where
  pub bank : Extends old.bank new.bank
  pub bindings : Grows old.bindings new.bindings
  pub blocks : GoesOn old.scopes.blocks.items new.scopes.blocks.items
  pub values : GoesOn old.scopes.values.items new.scopes.values.items
  pub next : old.branch.next ≤ new.branch.next
  pub next_type : old.branch.next_type ≤ new.branch.next_type
  pub table : new.table ≡ old.table
  pub index : new.index ≡ old.index
  pub frames : new.frames ≡ old.frames
  pub assumptions : new.assumptions ≡ old.assumptions
  pub newest : new.newest ≡ old.newest
  pub standings : new.standings ≡ old.standings
  pub choices : new.choices ≡ old.choices
  pub denied : new.denied ≡ old.denied
  pub counts : new.counts ≡ old.counts

-- the residual pairs stand in the bank
abbrev pub StandPairs : Machine → Type 0
StandPairs m = All (IsPairOf (length m.bank.terms)) m.branch.pairs.items

-- a unification under these bindings, with this next number of a variable, comes to what the definition's comes to in n steps of each kind: a solution that the new
-- bindings read, with its residual pairs; no solution; or its units pass the limit, and else a million steps are too few for it
abbrev pub IsUnifiedAs : Unified → (levels : ℕ → ℕ) → (next : ℕ) → Closing → (new : Machine) → (n : ℕ) → Outcome → Type 0
IsUnifiedAs Unified.Fits lv next c new n u = IsSolutionUnder lv next c new.bank new.bindings new.branch.next new.branch.pairs.items u
IsUnifiedAs Unified.Fails lv next c new n u = u ≡ Fail
IsUnifiedAs Unified.Deep lv next c new n u = n ≤ 1000000 → u ≡ Spent

-- so two terms that are made one, for this level
abbrev pub IsEquatedAs : (old new : Machine) → (left right : TermId) → (level : ℕ) → Unified → Type 0
IsEquatedAs m n l r level u =
    (z : Closing) → IsOpenReading m.bank m.bindings m.branch.next z → (levels : ℕ → ℕ) (ds : List Equation) (s t : Term) → s ≡ closed z (tree m.bank l.0) → t ≡ closed z (tree m.bank r.0) →
    Within (Known levels m.branch.next) 0 s → Within (Known levels m.branch.next) 0 t → ArePairsFor m.bank z m.branch.pairs.items ds → AreKnownPairs levels m.branch.next ds → (i : ℕ) (o : Outcome) →
    solve i 1000000 [] (record { left = s; right = t; level = level } ∷ []) ds m.branch.next ≡ Some o → IsUnifiedAs u levels m.branch.next z n i o
