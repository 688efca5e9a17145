-- The variables that stand in arguments of a head, as they are looked up: by register, the first instruction of the head that takes an argument in which the register's term stands.
use Rattle.std.specs.Prelude.{◌≡◌, ◌≤◌, ℕ, suc, nat_lt, Bool, true, false, ◌||◌, ◌&&◌, ◌⊎◌, if◌then◌else◌, List, [], ◌∷◌, Option, None, Some}
use Rattle.std.specs.List.{list_any}
use Rattle.std.specs.Ordering.{nat_cmp}
use Rattle.std.specs.BTreeMap.{BTreeMap, get}
use Rattle.lp_calculus.specs.Term.{atom, integer, text}
use Rattle.lp_calculus.specs.Typing.{int_type, string_type}
use Rattle.lp_code.specs.declared.instruction.Instr.{Instr}
use Rattle.lp_code.specs.declared.instruction.Instr.TheVariants as on
use Rattle.lp_code.specs.Operands.{term_set}
use Rattle.lp_code.specs.Rules.{stands_in}
use Rattle.lp_code.specs.Symbolic.{Built, variable, whole, types_in, term_in}
use Rattle.lp_code.specs.States.{State, Home, member}
use Rattle.lp_code.specs.Steps.{own_variables, constant_of, argument_at}
use Rattle.lp_verify.specs.inner.Outline.{body_behind}

-- registers whose terms stand in the one that an instruction makes
abbrev pub parts : Instr → List ℕ
parts (on.PutAbs d b t) = b ∷ []
parts (on.PutApp d f rs) = f ∷ rs.items
parts i = []

-- the register whose term an instruction takes as an argument of the head
abbrev pub takes : Instr → List ℕ
takes (on.GetVar i d) = d ∷ []
takes (on.Get i r) = r ∷ []
takes i = []

-- an instruction of this number takes the register's term, or one in which it stands is taken behind it, or it is taken itself there: before an instruction of another number
abbrev pub passed_by : Instr → (number until : ℕ) → (behind : ℕ → Bool) → ℕ → Bool
passed_by i k n f x = (member x (takes i) && nat_lt k n) || ((member x (parts i) && list_any f (term_set i)) || f x)

-- of instructions from this number on
abbrev pub taken_from : (number until : ℕ) → List Instr → ℕ → Bool
taken_from k n [] x = false
taken_from k n (i ∷ is) x = passed_by i k n (taken_from (suc k) n is) x

-- the instructions before the first NECK
abbrev pub before_neck : List Instr → List Instr
before_neck [] = []
before_neck (i ∷ is) = if body_behind i false then [] else i ∷ before_neck is

-- what is kept of a register is the number of the first instruction that takes its term
abbrev pub is_before : ℕ → Option ℕ → Bool
is_before n None = false
is_before n (Some j) = nat_lt j n

abbrev pub AreFirstTaken : (number : ℕ) → List Instr → BTreeMap ℕ ℕ → Type 0
AreFirstTaken k is m = (x n : ℕ) → is_before n (get nat_cmp m x) ≡ taken_from k n is x

-- the argument of the head that an instruction takes
abbrev pub argument_made : Home → State → Instr → List Built
argument_made h s (on.GetVar i d) = whole (variable d h.number) (argument_at h s i) ∷ []
argument_made h s (on.Get i r) = term_in s.now r ∷ []
argument_made h s (on.GetConst i c ts) = constant_of h.tables c (types_in s.now ts.items) ∷ []
argument_made h s (on.GetInt i z) = whole (atom (integer z)) int_type ∷ []
argument_made h s (on.GetStr i b) = whole (atom (text b.items)) string_type ∷ []
argument_made h s i = []

-- the variable stands in one of these
abbrev pub stands_in_some : (register home : ℕ) → List Built → Bool
stands_in_some v home bs = list_any (λ (b : Built). stands_in v home b.term) bs

-- a record in its head, of which these instructions are left: variables that stand somewhere are its own, and one stands in an argument where an instruction before took it
pub record TakenIn (h : Home) (all left : List Instr) (number : ℕ) (s : State) : Type 0 where
  pub closed : s.frames ≡ []
  pub own : (v x : ℕ) → stands_in v h.number (term_in s.now x).term ≡ true → ((term_in s.now v).term ≡ variable v h.number) × (member v (own_variables h.self) ≡ true)
  pub argued : (v : ℕ) → stands_in_some v h.number s.head_arguments ≡ true → (term_in s.now v).term ≡ variable v h.number
  pub unset : (x n : ℕ) → member x s.terms_set ≡ false → taken_from 0 n (before_neck all) x ≡ taken_from number n (before_neck left) x
  pub flows : (v n : ℕ) → (term_in s.now v).term ≡ variable v h.number → number ≤ n → taken_from 0 n (before_neck all) v ≡ true
      → (stands_in_some v h.number s.head_arguments ≡ true) ⊎ ((x : ℕ) × (stands_in v h.number (term_in s.now x).term ≡ true) × (taken_from number n (before_neck left) x ≡ true))
  pub argument_flows : (v n : ℕ) → number ≤ n → stands_in_some v h.number s.head_arguments ≡ true → taken_from 0 n (before_neck all) v ≡ true
  pub term_flows : (v x n : ℕ) → number ≤ n → stands_in v h.number (term_in s.now x).term ≡ true → taken_from number n (before_neck left) x ≡ true → taken_from 0 n (before_neck all) v ≡ true
