-- What the law of terms speaks of: variables that stand in registers, and what the steps of a term make where its indices are those of a list of types.
use Rattle.std.specs.Prelude.{◌≡◌, ◌⊎◌, ℕ, suc, ◌-◌, ◌<◌, ◌≤◌, Bool, true, false, nat_lt, if◌then◌else◌, List, [], ◌∷◌, ◌++◌, length, Option, Some, None, option_map, slice_get}
use Rattle.lp_calculus.specs.Types.{Ty, var, param as type_param, con, arrow}
use Rattle.lp_calculus.specs.Term.{Term, Atom, index, atom, abs, app, constant, integer, text, eigen, logic, param, apply, replace}
use Rattle.lp_calculus.specs.Typing.{scheme_type}
use Rattle.lp_code.specs.Symbolic.{Tables, Built, variable, held, whole, applied_type, plain_terms}
use Rattle.lp_code.specs.States.{Home}
use Rattle.lp_code.specs.Rules.{built_types, stands_in}
use Rattle.lp_gen.specs.Sources.{IsKnownType, IsKnownAtom}
use Rattle.lp_gen.specs.Steps.{from_of, to_of, Seen, Around, at_level, level_in, Listed, Headed}
use Rattle.lp_gen.specs.inner.TermSteps.{stack, steps_built, AreFine}

-- what is read of a function's type, for its arguments: where an abstraction can stand its type, else any
abbrev pub SameSides : (read T : Ty) → Type 0
SameSides F T = (from_of F ≡ from_of T) × (to_of F ≡ to_of T)

abbrev pub Asks : (read T : Ty) → Type 0
Asks F (var i) = Unit {0}
Asks F (type_param k) = Unit {0}
Asks F (con k ts) = Unit {0}
Asks F (arrow A B) = SameSides (from_of F) A × Asks (to_of F) B

-- of each constant as much is read
abbrev pub AsksConstants : Tables → (constants : ℕ → List Ty → Ty) → Type 0
AsksConstants t K = (c : ℕ) (Ts : List Ty) (T : Ty) → scheme_type Ts (t.constants c) ≡ Some T → Asks (K c Ts) T

-- the variables by their levels stand in registers, for terms of levels, or are not set yet; these have registers of their own
pub record Standing (h : Home) (vars next : ℕ) (in_body : Bool) (σ : ℕ → Term) (a : Around) (xs : List (Option Built)) : Type 0 where
  pub low : (l : ℕ) (v : Seen) → at_level a l ≡ Some v → v.register < next
  pub set : (l : ℕ) (v : Seen) → at_level a l ≡ Some v → v.is_set ≡ true → held xs v.register ≡ Some (whole (σ l) v.of)
  pub unset : (l : ℕ) (v : Seen) → at_level a l ≡ Some v → v.is_set ≡ false → held xs v.register ≡ None
  pub unmade : (l : ℕ) (v : Seen) → at_level a l ≡ Some v → v.is_set ≡ false → (in_body ≡ false) × (σ l ≡ variable v.register h.number) × (a.base ≤ l)
  pub apart : (l m : ℕ) (v w : Seen) → at_level a l ≡ Some v → at_level a m ≡ Some w → v.is_set ≡ false → w.is_set ≡ false → v.register ≡ w.register → l ≡ m
  pub known : (l : ℕ) (v : Seen) → at_level a l ≡ Some v → IsKnownType h.tables.kinds vars v.of
  pub long : next ≤ length xs

-- an atom of which there is an instruction: a known one, and no string that is too long
abbrev pub IsShortAtom : (kinds : ℕ → Option ℕ) → (vars : ℕ) → Atom → Type 0
IsShortAtom κ n (constant c ts) = IsKnownAtom κ n (constant c ts)
IsShortAtom κ n (integer z) = Unit {0}
IsShortAtom κ n (text s) = nat_lt (length s) 65536 ≡ true
IsShortAtom κ n (eigen k) = ⊥
IsShortAtom κ n (logic x l) = ⊥
IsShortAtom κ n (param k T) = ⊥

-- all of a term are such
abbrev pub KnownAtoms : (kinds : ℕ → Option ℕ) → (vars : ℕ) → Term → Type 0
KnownAtoms κ n (index i) = Unit {0}
KnownAtoms κ n (atom s) = IsShortAtom κ n s
KnownAtoms κ n (abs b) = KnownAtoms κ n b
KnownAtoms κ n (app t u) = KnownAtoms κ n t × KnownAtoms κ n u

-- a predicate on the loose indices of a term, which stands under d abstractions
abbrev pub AllLoose : (ℕ → Type 0) → ℕ → Term → Type 0
AllLoose P d (index i) = d ≤ i → P (i - d)
AllLoose P d (atom s) = Unit {0}
AllLoose P d (abs b) = AllLoose P (suc d) b
AllLoose P d (app t u) = AllLoose P d t × AllLoose P d u

-- an index is that of a variable of this type
abbrev pub IsSeen : Around → List Ty → ℕ → Type 0
IsSeen a Γ i = (l : ℕ) × (v : Seen) × (level_in a i ≡ Some l) × (at_level a l ≡ Some v) × (slice_get Γ i ≡ Some v.of)

-- the term with terms for its loose indices
abbrev pub level_term : (ℕ → Term) → Option ℕ → Term
level_term σ None = index 0
level_term σ (Some l) = σ l

abbrev pub index_term : (σ : ℕ → Term) → Around → ℕ → ℕ → Term
index_term σ a d i = if nat_lt i d then index i else level_term σ (level_in a (i - d))

abbrev pub with_variables : (σ : ℕ → Term) → Around → ℕ → Term → Term
with_variables σ a d t = replace (index_term σ a) d t

-- types of loose indices, where they stand, are those of a list
abbrev pub IsOf : Option Ty → Ty → Type 0
IsOf None T = Unit {0}
IsOf (Some U) T = U ≡ T

abbrev pub AreOf : List Ty → List (Option Ty) → Type 0
AreOf C [] = Unit {0}
AreOf [] (o ∷ os) = ⊥
AreOf (T ∷ C) (o ∷ os) = IsOf o T × AreOf C os

abbrev pub AllOf : List Ty → List Built → Type 0
AllOf C [] = Unit {0}
AllOf C (b ∷ bs) = AreOf C b.loose × AllOf C bs

pub record IsBuilt (C : List Ty) (T : Ty) (u : Term) (b : Built) : Type 0 where
  pub term : b.term ≡ u
  pub type : b.type ≡ T
  pub loose : AreOf C b.loose

-- what stands around has the same variables, of which more may be set
abbrev pub as_set : Seen → Seen
as_set v = record { register = v.register; of = v.of; is_set = true }

pub record SameAround (a b : Around) : Type 0 where
  pub base : b.base ≡ a.base
  pub count : length b.own ≡ length a.own
  pub variables : (l : ℕ) → option_map as_set (at_level b l) ≡ option_map as_set (at_level a l)

-- all variables are set
abbrev pub AreSet : Around → Type 0
AreSet a = (l : ℕ) (v : Seen) → at_level a l ≡ Some v → v.is_set ≡ true

-- a variable that is set now was set before, or stands in the term
abbrev pub Made : (home : ℕ) → (a b : Around) → Term → Type 0
Made k a b u = (l : ℕ) (v : Seen) → at_level b l ≡ Some v → v.is_set ≡ true → (at_level a l ≡ Some v) ⊎ (stands_in v.register k u ≡ true)

-- the steps are fine behind any stack, and add one term to it
pub record Comes (h : Home) (vars next : ℕ) (in_body : Bool) (σ : ℕ → Term) (C : List Ty) (T : Ty) (u : Term) (l : Listed) (xs : List (Option Built)) (bs : List Built) : Type 0 where
  pub fine : AreFine h vars next in_body l.steps (stack xs bs)
  pub registers : List (Option Built)
  pub built : Built
  pub is : steps_built h l.steps (stack xs bs) ≡ stack registers (bs ++ built ∷ [])
  pub good : IsBuilt C T u built
  pub stands : Standing h vars next in_body σ l.around registers

-- the same of a head and arguments
pub record ComesWith (h : Home) (vars next : ℕ) (in_body : Bool) (σ : ℕ → Term) (C : List Ty) (T : Ty) (u : Term) (g : Headed) (xs : List (Option Built)) (bs : List Built) : Type 0 where
  pub fine : AreFine h vars next in_body g.steps (stack xs bs)
  pub registers : List (Option Built)
  pub head : Built
  pub args : List Built
  pub is : steps_built h g.steps (stack xs bs) ≡ stack registers (bs ++ head ∷ args)
  pub count : length args ≡ g.count
  pub term : apply head.term (plain_terms args) ≡ u
  pub type : applied_type head.type (built_types args) ≡ Some T
  pub loose : AreOf C head.loose
  pub all_loose : AllOf C args
  pub stands : Standing h vars next in_body σ g.around registers
