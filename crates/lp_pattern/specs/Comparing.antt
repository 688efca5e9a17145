-- What a comparison comes to, with its units.
use Rattle.std.specs.Prelude.{◌≡◌, ℕ, suc, nat_eq, ◌&&◌, ◌⊎◌, ◌+◌, ◌<◌, List, [], ◌∷◌, ◌++◌, map, reverse, Option, Some, None, option_map, Bool, true, false}
use Rattle.lp_calculus.specs.Types.{Ty, var, param, con, arrow}
use Rattle.lp_model.specs.Types.{TypePair}
use Rattle.lp_term.specs.Nodes.{Nodes}
use Rattle.lp_model.specs.Look.{◌>>=◌}
use Rattle.lp_model.specs.Pair.{Pair, Closing}
use Rattle.lp_calculus.specs.Term.{Term, abs}
use Rattle.lp_model.specs.Same.{same_name}
use Rattle.lp_model.specs.Rule.{Compared, dearer, compare, compare_types, type_pairs, open_with}
use Rattle.lp_model.specs.declared.answer.Pair.{Pair as Numbers}
use Rattle.lp_term.specs.declared.node.TermId.{TermId}
use Rattle.lp_pattern.specs.declared.look.Head.{Head}
use Rattle.lp_pattern.specs.Under.{under}
use Rattle.lp_pattern.specs.declared.fault.PatternRefusal.{PatternRefusal}

-- a variable is left as it is
abbrev pub IsLoose : (ℕ → Ty) → Ty → Type 0
IsLoose θ (var x) = θ x ≡ var x
IsLoose θ (param k) = Unit {0}
IsLoose θ (con c ts) = Unit {0}
IsLoose θ (arrow a b) = Unit {0}

-- the parts are put in front, or the tops differ
abbrev pub HasSameTop : Bool → Option (List TypePair) → (old new : List TypePair) → Type 0
HasSameTop true o old new = (ps : List TypePair) × (o ≡ Some ps) × (new ≡ ps ++ old)
HasSameTop false o old new = o ≡ None

-- where the definition gives an answer it is this one, and its units are taken
abbrev pub IsComparedTo : Bool → (old new : ℕ) → Option Compared → Type 0
IsComparedTo same old new o = (r : Compared) → o ≡ Some r → (same ≡ r.same) × (old ≡ r.units + new)

-- where the definition gives an answer its units are more than there were
abbrev pub IsPassed : PatternRefusal → (old : ℕ) → Option Compared → Type 0
IsPassed PatternRefusal.Deep old o = (r : Compared) → o ≡ Some r → old < r.units
IsPassed PatternRefusal.Fails old o = ⊥
IsPassed PatternRefusal.Memory old o = Unit {0}

-- the rest comes to what the whole came to, with the units that were taken between
abbrev pub IsRest : (old now : ℕ) → Option Compared → Option Compared → Type 0
IsRest old now o o' = (r : Compared) → o ≡ Some r → (s : Compared) × (o' ≡ Some s) × (r.same ≡ s.same) × (r.units + now ≡ s.units + old)

-- pairs one after the other, until one differs
abbrev pub compare_pairs : ℕ → List Pair → Option Compared
compare_pairs n [] = Some (record { same = true; units = 0 })
compare_pairs n (p ∷ ps) = compare n p.level p.left p.right >>= λ c. elim c.same [
  | true ↦ option_map (dearer c.units) (compare_pairs n ps)
  | false ↦ Some c
]

-- the pairs at numbers of a bank, the last one first
abbrev pub pair_under : Nodes → Closing → Numbers → Pair
pair_under b c p = record { left = under b c p.left; right = under b c p.right; level = p.level }

abbrev pub pairs_under : Nodes → Closing → List Numbers → List Pair
pairs_under b c ps = map (pair_under b c) (reverse ps)

-- the pairs of arguments, place by place
abbrev pub pairs_of : (level : ℕ) → (ts us : List TermId) → List Numbers
pairs_of level (t ∷ ts) (u ∷ us) = record { left = t; right = u; level = level } ∷ pairs_of level ts us
pairs_of level ts us = []

-- some pairs are left of the others, or they differ
abbrev pub IsStep : Bool → (old now : ℕ) → Option Compared → Option Compared → Type 0
IsStep true old now o o' = IsRest old now o o'
IsStep false old now o o' = IsComparedTo false old now o

abbrev pub pair_at : (level : ℕ) → (t u : Term) → Pair
pair_at level t u = record { left = t; right = u; level = level }

-- both sides on the eigenconstant of the level plus one
abbrev pub opened_pair : (level : ℕ) → (t u : Term) → Pair
opened_pair level t u = record { left = open_with (suc level) t; right = open_with (suc level) u; level = suc level }

-- two rigid heads with so many arguments are the same, with their types; or they are not, or their types differ
abbrev pub IsHeadCompared : Bool → (old now : ℕ) → (h g : Term) → (m n : ℕ) → Type 0
IsHeadCompared true old now h g m n = ((same_name h g && nat_eq m n) ≡ true) × ((k : ℕ) → IsComparedTo true old now (compare_types k (type_pairs h g)))
IsHeadCompared false old now h g m n =
    (((same_name h g && nat_eq m n) ≡ false) × (old ≡ now)) ⊎ (((same_name h g && nat_eq m n) ≡ true) × ((k : ℕ) → IsComparedTo false old now (compare_types k (type_pairs h g))))

-- where their types are compared their units are more than there were
abbrev pub IsHeadPassed : PatternRefusal → (old : ℕ) → (h g : Term) → (m n : ℕ) → Type 0
IsHeadPassed PatternRefusal.Deep old h g m n = ((same_name h g && nat_eq m n) ≡ true) × ((k : ℕ) → IsPassed PatternRefusal.Deep old (compare_types k (type_pairs h g)))
IsHeadPassed PatternRefusal.Fails old h g m n = ⊥
IsHeadPassed PatternRefusal.Memory old h g m n = Unit {0}

abbrev pub IsAbstraction : Term → Type 0
IsAbstraction t = (b : Term) × (t ≡ abs b)

-- a variable beside a rigid head
abbrev pub are_apart : Head → Head → Bool
are_apart (Head.Abstraction b) h = false
are_apart Head.Rigid (Head.Abstraction b) = false
are_apart Head.Rigid Head.Rigid = false
are_apart Head.Rigid (Head.Variable y m) = true
are_apart (Head.Variable x l) (Head.Abstraction b) = false
are_apart (Head.Variable x l) Head.Rigid = true
are_apart (Head.Variable x l) (Head.Variable y m) = false
