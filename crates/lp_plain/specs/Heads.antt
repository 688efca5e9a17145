-- The arguments of a clause's head: which of its variables are arguments, which arguments are to be unified, and the key of the first one.
use Rattle.std.specs.Prelude.{◌≡◌, ℕ, suc, ◌+◌, ◌<◌, nat_eq, nat_lt, Bool, true, false, not, ◌&&◌, ◌||◌, if◌then◌else◌, List, [], ◌∷◌, ◌++◌, map, length, get_or, set, Option, Some, None}
use Rattle.lp_calculus.specs.Term.{Term, index, atom, abs, app, Atom, constant, integer, text, eigen, logic}
use Rattle.lp_calculus.specs.Normal.{is_absent}
use Rattle.lp_term.specs.Nodes.{Nodes, tree}
use Rattle.lp_term.specs.declared.node.TermId.{TermId}
use Rattle.lp_model.specs.Index.{instantiate}
use Rattle.lp_model.specs.Pair.{Pair}
use Rattle.lp_model.specs.Search.{are_absent}
use Rattle.lp_plain.specs.declared.head.Key.{Key}
use Rattle.lp_plain.specs.declared.head.HeadPair.{HeadPair}
use Rattle.lp_plain.specs.declared.head.Place.{Place}

-- the term is a text, and this is its key
abbrev pub IsTextKey : Nodes → TermId → Option Atom → Type 0
IsTextKey b t a = (s : List ℕ) × (tree b t.0 ≡ atom (text s)) × (a ≡ Some (text s))

-- what a key stands for
abbrev pub IsKey : Nodes → Option Key → Option Atom → Type 0
IsKey b None a = a ≡ None
IsKey b (Some (Key.Constant n)) a = a ≡ Some (constant n [])
IsKey b (Some (Key.Number z)) a = a ≡ Some (integer z)
IsKey b (Some (Key.Text t)) a = IsTextKey b t a
IsKey b (Some (Key.Eigen k)) a = a ≡ Some (eigen k)

abbrev pub trees_of : Nodes → List TermId → List Term
trees_of b ts = map (λ t. tree b t.0) ts

abbrev pub is_index : ℕ → Term → Bool
is_index k (index i) = nat_eq i k
is_index k (atom a) = false
is_index k (abs t) = false
is_index k (app t u) = false

-- the argument that the variable k is, if k stands in no earlier one
abbrev pub slot_place : (k place : ℕ) → (earlier heads : List Term) → Option ℕ
slot_place k place earlier [] = None
slot_place k place earlier (h ∷ hs) = if is_index k h && are_absent k earlier then Some place else slot_place k (suc place) (h ∷ earlier) hs

-- whether the argument is one of so many variables, and stands in no earlier one
abbrev pub is_first : (vars : ℕ) → Term → (earlier : List Term) → Bool
is_first n (index i) earlier = nat_lt i n && are_absent i earlier
is_first n (atom a) earlier = false
is_first n (abs t) earlier = false
is_first n (app t u) earlier = false

-- all other arguments, with their places
abbrev pub pair_places : (vars place : ℕ) → (earlier heads : List Term) → List (ℕ × Term)
pair_places n place earlier [] = []
pair_places n place earlier (h ∷ hs) = (if is_first n h earlier then [] else (place, h) ∷ []) ++ pair_places n (suc place) (h ∷ earlier) hs

abbrev pub pair_in : Nodes → HeadPair → ℕ × Term
pair_in b p = (p.place, tree b p.term.0)

-- the variable that the term is, if it has no mark
abbrev pub new_among : List Bool → Term → Option ℕ
new_among seen (index i) = if get_or seen i true then None else Some i
new_among seen (atom a) = None
new_among seen (abs t) = None
new_among seen (app t u) = None

abbrev pub with_slot : Option ℕ → (place : ℕ) → List (Option ℕ) → List (Option ℕ)
with_slot None place slots = slots
with_slot (Some i) place slots = set slots i (Some place)

abbrev pub with_pair : Option ℕ → (place : ℕ) → TermId → List HeadPair
with_pair None place t = record { place = place; term = t } ∷ []
with_pair (Some i) place t = []

-- terms below so many abstractions
abbrev pub places_of : (depth : ℕ) → List TermId → List Place
places_of d ts = map (λ t. record { term = t; depth = d }) ts

-- the variable k stands in one of the places
abbrev pub stands : Nodes → ℕ → List Place → Bool
stands b k [] = false
stands b k (p ∷ ps) = not (is_absent (k + p.depth) (tree b p.term.0)) || stands b k ps

-- the marks are those from before, and those of the variables in the term
abbrev pub MarksMore : (before after : List Bool) → Term → Type 0
MarksMore before after t = (length after ≡ length before) × ((k : ℕ) → get_or after k true ≡ (get_or before k true || not (is_absent k t)))

-- each element is this one
abbrev pub AreAll : {A : Type 0} → A → List A → Type 0
AreAll x [] = Unit {0}
AreAll x (y ∷ ys) = (y ≡ x) × AreAll x ys

-- the terms in reverse order, in front of the earlier ones
abbrev pub onto : List Term → (earlier : List Term) → List Term
onto [] earlier = earlier
onto (h ∷ hs) earlier = onto hs (h ∷ earlier)

-- after these arguments the marks, slots and pairs are so
pub record IsDone (n : ℕ) (heads : List Term) (seen : List Bool) (slots : List (Option ℕ)) (pairs : List (ℕ × Term)) : Type 0 where
  pub count : length seen ≡ n
  pub slot_count : length slots ≡ n
  pub marks : (k : ℕ) → k < n → get_or seen k true ≡ not (are_absent k (onto heads []))
  pub slots_are : (k : ℕ) → k < n → get_or slots k None ≡ slot_place k 0 [] heads
  pub pairs_are : pairs ≡ pair_places n 0 [] heads

-- with values for all variables but the clause's own, of which there are so many, the argument has become this one
pub record HasBecome (n : ℕ) (old new : Term) : Type 0 where
  pub own : (k : ℕ) → k < n → is_index k new ≡ is_index k old
  pub absent : (k : ℕ) → k < n → is_absent k new ≡ is_absent k old
  pub closed : (k : ℕ) → new ≡ index k → k < n

abbrev pub HaveBecome : ℕ → (olds news : List Term) → Type 0
HaveBecome n [] [] = Unit {0}
HaveBecome n [] (h ∷ hs) = ⊥
HaveBecome n (t ∷ ts) [] = ⊥
HaveBecome n (t ∷ ts) (h ∷ hs) = HasBecome n t h × HaveBecome n ts hs

-- what the variable k is where the goal has these arguments: one of them, or a new variable
abbrev pub slot_term : (goals : List Term) → (next level k : ℕ) → (place : Option ℕ) → Term
slot_term ts next level k None = atom (logic (next + k) level)
slot_term ts next level k (Some p) = get_or ts p (atom (logic (next + k) level))

-- the pairs of the head's arguments and the goal's in these places
abbrev pub pairs_at : (ℕ → Term) → (level : ℕ) → (heads goals : List Term) → List (ℕ × Term) → List Pair
pairs_at σ level hs ts [] = []
pairs_at σ level hs ts (p ∷ ps) = (if nat_lt p.0 (length ts) then record { left = get_or ts p.0 (index 0); right = instantiate σ (get_or hs p.0 (index 0)); level = level } ∷ [] else []) ++ pairs_at σ level hs ts ps
