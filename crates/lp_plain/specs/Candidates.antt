-- The clauses that may meet a goal, by their numbers: the program's are linked by the constants at their heads, the assumed ones by their heads.
use Rattle.std.specs.Prelude.{◌≡◌, ℕ, zero, suc, ◌-◌, ◌≤◌, Bool, true, false, if◌then◌else◌, nat_eq, nat_lt, List, [], ◌∷◌, ◌++◌, map, filter, Option, Some, None, slice_get}
use Rattle.std.specs.Ordering.{int_eq}
use Rattle.lp_calculus.specs.Term.{Term, atom, constant, text}
use Rattle.lp_model.specs.Same.{same_name}
use Rattle.lp_term.specs.Nodes.{Nodes, tree}
use Rattle.lp_plain.specs.declared.table.Rule.{Rule}
use Rattle.lp_plain.specs.declared.table.Span.{Span}
use Rattle.lp_plain.specs.declared.head.Head.{Head}
use Rattle.lp_plain.specs.declared.head.Head.TheVariants as head
use Rattle.lp_plain.specs.declared.head.Key.{Key}
use Rattle.lp_plain.specs.declared.head.Key.TheVariants as key
use Rattle.lp_plain.specs.declared.candidates.Candidate.{Candidate}
use Rattle.lp_plain.specs.declared.candidates.Candidate.TheVariants as candidate

-- from the first number on, each number's link leads to the next one of these, and the last one's to none
abbrev pub IsChain : (links : List (Option ℕ)) → (first : Option ℕ) → List ℕ → Type 0
IsChain links o [] = o ≡ None
IsChain links o (k ∷ ks) = (next : Option ℕ) × (o ≡ Some k) × (slice_get links k ≡ Some next) × IsChain links next ks

-- a link of a number that leads to a greater one, and one that leads to a smaller one; any other is none

abbrev pub ahead : ℕ → Option ℕ → Option ℕ
ahead k None = None
ahead k (Some i) = if nat_lt k i then Some i else None

abbrev pub back : ℕ → Option ℕ → Option ℕ
back k None = None
back k (Some i) = if nat_lt i k then Some i else None

-- the links of a list, whose first number is this one, with the kept ones of each
abbrev pub in_order : (keep : ℕ → Option ℕ → Option ℕ) → (first : ℕ) → List (Option ℕ) → List (Option ℕ)
in_order keep n [] = []
in_order keep n (o ∷ os) = keep n o ∷ in_order keep (suc n) os

-- the program's clauses

abbrev pub nexts : List Rule → List (Option ℕ)
nexts rules = in_order ahead 0 (map (λ (r : Rule). r.next) rules)

abbrev pub constant_of : Term → Option ℕ
constant_of (atom (constant c ts)) = Some c
constant_of _ = None

-- the constant at the head of a clause
abbrev pub constant_at : Nodes → Option Rule → Option ℕ
constant_at b None = None
constant_at b (Some r) = constant_of (tree b r.head.0)

abbrev pub is_number : ℕ → Option ℕ → Bool
is_number c None = false
is_number c (Some d) = nat_eq d c

-- whether the clause of this number has this constant at its head
abbrev pub is_of : Nodes → List Rule → (constant number : ℕ) → Bool
is_of b rules c k = is_number c (constant_at b (slice_get rules k))

abbrev pub numbers_from : (count from : ℕ) → List ℕ
numbers_from zero i = []
numbers_from (suc n) i = i ∷ numbers_from n (suc i)

abbrev pub numbers_in : Span → List ℕ
numbers_in s = numbers_from (s.to - s.from) s.from

-- the numbers of the program's clauses, in order
abbrev pub numbers : List Span → List ℕ
numbers [] = []
numbers (s ∷ ss) = numbers_in s ++ numbers ss

-- each span begins where those before it have ended, or behind
abbrev pub AreInOrder : (low : ℕ) → List Span → Type 0
AreInOrder low [] = Unit {0}
AreInOrder low (s ∷ ss) = (low ≤ s.from) × (s.from ≤ s.to) × AreInOrder s.to ss

-- for each constant the table finds the first of these clauses that has it at its head, and the links lead to the others in order
abbrev pub IsIndex : Nodes → List Rule → (first : ℕ → Option ℕ) → (clauses : List ℕ) → Type 0
IsIndex b rules first ks = (c : ℕ) → IsChain (nexts rules) (first c) (filter (is_of b rules c) ks)

-- all but the link
abbrev pub unlinked : Rule → Rule
unlinked r = record { type_vars = r.type_vars; head = r.head; slots = r.slots; pairs = r.pairs; key = r.key; body = r.body; next = None }

abbrev pub set_next : List Rule → ℕ → Option ℕ → List Rule
set_next [] i o = []
set_next (r ∷ rs) zero o = record { type_vars = r.type_vars; head = r.head; slots = r.slots; pairs = r.pairs; key = r.key; body = r.body; next = o } ∷ rs
set_next (r ∷ rs) (suc i) o = r ∷ set_next rs i o

-- none of the numbers is below this one
abbrev pub AreFrom : ℕ → List ℕ → Type 0
AreFrom n [] = Unit {0}
AreFrom n (k ∷ ks) = (n ≤ k) × AreFrom n ks

-- more clauses are linked before those from a number on
pub record IsLinked (b : Nodes) (old new : List Rule) (first later : ℕ → Option ℕ) (more : List ℕ) (above low : ℕ) : Type 0 where
  pub same : map unlinked new ≡ map unlinked old
  pub chains : (ks : List ℕ) → AreFrom above ks → IsIndex b old first ks → AreFrom low (more ++ ks) × IsIndex b new later (more ++ ks)

-- the filter by first arguments

abbrev pub is_text_of : Term → Term → Bool
is_text_of (atom (text s)) t = same_name (atom (text s)) t
is_text_of _ t = false

abbrev pub same_texts : Nodes → ℕ → ℕ → Bool
same_texts b i j = is_text_of (tree b i) (tree b j)

abbrev pub same_keys : Nodes → Key → Key → Bool
same_keys b (key.Constant c) (key.Constant d) = nat_eq c d
same_keys b (key.Number x) (key.Number y) = int_eq x y
same_keys b (key.Text s) (key.Text t) = same_texts b s.0 t.0
same_keys b (key.Eigen i) (key.Eigen j) = nat_eq i j
same_keys b _ _ = false

-- whether a clause with the first key passes the filter for a goal with the second
abbrev pub meets : Nodes → Option Key → Option Key → Bool
meets b None o = true
meets b (Some k) None = true
meets b (Some k) (Some l) = same_keys b k l

abbrev pub meets_at : Nodes → Option Key → Option Rule → Bool
meets_at b k None = false
meets_at b k (Some r) = meets b r.key k

-- whether the clause of this number passes the filter
abbrev pub passes : Nodes → List Rule → Option Key → (number : ℕ) → Bool
passes b rules k i = meets_at b k (slice_get rules i)

-- the clause that was found passes the filter
abbrev pub Passes : Nodes → List Rule → Option Key → (found : Option ℕ) → Type 0
Passes b rules k None = Unit {0}
Passes b rules k (Some i) = passes b rules k i ≡ true

-- these clauses of a chain are left from the one that was found on
abbrev pub IsLeft : Nodes → List Rule → Option Key → (found : Option ℕ) → (left : List ℕ) → Type 0
IsLeft b rules k found left = (ks : List ℕ) × IsChain (nexts rules) found ks × (left ≡ filter (passes b rules k) ks) × Passes b rules k found

-- the first program clause for a goal's head
abbrev pub first_for : (first : ℕ → Option ℕ) → Head → Option ℕ
first_for first (head.Constant c) = first c
first_for first (head.Eigen k) = None

-- these candidates: the assumed clauses, and behind them the program's that pass the filter
abbrev pub in_turn : Nodes → List Rule → Option Key → (assumed program : List ℕ) → List Candidate
in_turn b rules k assumed program = map (λ i. candidate.Assumed i) assumed ++ map (λ i. candidate.Program i) (filter (passes b rules k) program)

-- from the candidate that was found on these are left; first is the first program clause with the goal's head
abbrev pub AreLeft : Nodes → List Rule → (older : List (Option ℕ)) → (first : Option ℕ) → Option Key → (found : Option Candidate) → (left : List Candidate) → Type 0
AreLeft b rules older first k None left = left ≡ []
AreLeft b rules older first k (Some (candidate.Assumed i)) left = (assumed program : List ℕ) × IsChain older (Some i) assumed × IsChain (nexts rules)
    first program × (left ≡ in_turn b rules k assumed program)
AreLeft b rules older first k (Some (candidate.Program i)) left = (program : List ℕ) × IsLeft b rules k (Some i) program × (left ≡ map (λ i. candidate.Program i) program)
