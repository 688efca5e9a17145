-- Equations of types between cells, and what solving them does to a store (Robinson 1965; Martelli and Montanari 1982). What a cell reads as has all
-- bindings put in already, so solving goes on from what the two cells of each pair read as.
use Rattle.std.specs.Prelude.{◌≡◌, ℕ, ◌+◌, ◌<◌, ◌≤◌, List, [], ◌∷◌, Bool, Some, ◌||◌}
use Rattle.lp_calculus.specs.Types.{Ty}
use Rattle.lp_calculus.specs.Term.{Term}
use Rattle.lp_store.specs.declared.cell.CellId.{CellId}
use Rattle.lp_store.specs.Contents.{Contents}
use Rattle.lp_store.specs.Reading.{Reads, ReadsType}
use Rattle.lp_model.specs.Types.{TypePair, TypeBinding, put_types, TypeOutcome, none, solved, solve_types}
use Rattle.lp_model.specs.Pair.{put_types_in}
use Rattle.lp_model.specs.Rule.{Compared, compare_types}
use Rattle.lp_model.specs.Unify.{is_some_bound}
use Rattle.lp_unify.specs.declared.fault.PatternRefusal.{PatternRefusal}
use Rattle.lp_unify.specs.declared.round.Round.{Round}

abbrev pub pair_of_types : (A B : Ty) → TypePair
pair_of_types A B = record { left = A; right = B }

-- two cells read as two types
pub record ReadsPair (s : Contents) (p : CellId × CellId) (q : TypePair) : Type 0 where
  pub left : ReadsType s p.0.0 q.left
  pub right : ReadsType s p.1.0 q.right

abbrev pub ReadPairs : Contents → List (CellId × CellId) → List TypePair → Type 0
ReadPairs s [] [] = Unit {0}
ReadPairs s [] (q ∷ qs) = ⊥
ReadPairs s (p ∷ ps) [] = ⊥
ReadPairs s (p ∷ ps) (q ∷ qs) = ReadsPair s p q × ReadPairs s ps qs

-- each cell reads as before, with these types put for type variables
pub record AreTypesPut (bs : List TypeBinding) (old new : Contents) : Type 0 where
  pub types : (i : ℕ) (T : Ty) → ReadsType old i T → ReadsType new i (put_types bs T)
  pub terms : (i : ℕ) (t : Term) → Reads old i t → Reads new i (put_types_in bs t)

-- the definition solves the equations: its bindings are put into what each cell reads as, and its units are taken
pub record AreSolved (old new : Contents) (before after : Round) (ps : List TypePair) : Type 0 where
  pub bindings : List TypeBinding
  pub used : ℕ
  pub steps : ℕ
  pub comes : solve_types steps ps [] 0 ≡ Some (solved bindings used)
  pub put : AreTypesPut bindings old new
  pub units : before.units ≡ used + after.units
  pub bound : after.is_bound ≡ (before.is_bound || is_some_bound bindings)

abbrev pub units_of : TypeOutcome → ℕ
units_of (none used) = used
units_of (solved bindings used) = used

-- the definition finds that there is no solution; or it takes more units than this, whatever it comes to
abbrev pub AreRefused : PatternRefusal → (limit : ℕ) → List TypePair → Type 0
AreRefused PatternRefusal.Fails limit ps = (steps : ℕ) × (used : ℕ) × (solve_types steps ps [] 0 ≡ Some (none used)) × (used ≤ limit)
AreRefused PatternRefusal.Deep limit ps = (steps : ℕ) → (outcome : TypeOutcome) → solve_types steps ps [] 0 ≡ Some outcome → limit < units_of outcome
AreRefused PatternRefusal.Memory limit ps = Unit {0}

-- the definition compares the types of all pairs, with this answer, and its units are taken
pub record AreCompared (same : Bool) (before after : ℕ) (ps : List TypePair) : Type 0 where
  pub used : ℕ
  pub steps : ℕ
  pub comes : compare_types steps ps ≡ Some (record { same = same; units = used })
  pub units : before ≡ used + after

-- it takes more units than this, whatever it comes to
abbrev pub IsComparedOver : (limit : ℕ) → List TypePair → Type 0
IsComparedOver limit ps = (steps : ℕ) (r : Compared) → compare_types steps ps ≡ Some r → limit < r.units
