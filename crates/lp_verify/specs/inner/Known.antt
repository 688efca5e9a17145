-- What is known of types before an instruction: those of the registers, of the head and of constants.
use Rattle.std.specs.Prelude.{◌≡◌, ◌≤◌, ◌<◌, slice_get, ℕ, suc, Bool, true, false, nat_lt, List, [], ◌∷◌, ◌++◌, Option, None, Some, option_map, length}
use Rattle.std.specs.Ordering.{nat_cmp}
use Rattle.std.specs.BTreeMap.{BTreeMap, get}
use Rattle.lp_code.specs.declared.instruction.Instr.{Instr}
use Rattle.lp_code.specs.declared.instruction.Instr.TheVariants as on
use Rattle.lp_code.specs.declared.record.Record.{Record}
use Rattle.lp_code.specs.declared.record.RecordHead.{RecordHead}
use Rattle.lp_code.specs.declared.record.RecordHead.TheVariants.{Const, Register}
use Rattle.lp_calculus.specs.Types.{Ty}
use Rattle.lp_code.specs.Symbolic.{Built, variable, held, term_in, result_type}
use Rattle.lp_code.specs.States.{State, Home, member, passing}
use Rattle.lp_code.specs.Steps.{own_variables, head_built, is_own_type}
use Rattle.lp_code.specs.Rules.{head_count}
use Rattle.lp_verify.specs.inner.Outline.{taken_by, arguments_behind, with_more}
use Rattle.lp_verify.specs.inner.Stack.{stack_of, terms_in_stack}
use Rattle.lp_term.specs.declared.node.TypeId.{TypeId}
use Rattle.lp_verify.specs.declared.built.Built.{Built as Kept}
use Rattle.lp_verify.specs.declared.registers.Registers.{Registers}
use Rattle.lp_verify.specs.Held.{value_in}
use Rattle.lp_verify.specs.declared.head.HeadSoFar.{HeadSoFar}
use Rattle.lp_verify.specs.declared.record.Work.{Work}
use Rattle.lp_verify.specs.declared.tables.Tables as kept_tables
use Rattle.lp_verify.specs.declared.types.Types.{Types}
use Rattle.lp_verify.specs.Scheme.{tables_in}
use Rattle.lp_verify.specs.inner.FirstNumbers.{IsType, AreTypes, HasBasics, UsesAre}
use Rattle.lp_verify.specs.inner.Language.{HasLanguage}
use Rattle.lp_verify.specs.inner.Indices.{Store}
use Rattle.lp_verify.specs.inner.Handed.{SameType, SameTerm, IsSame}
use Rattle.lp_verify.specs.inner.Taken.{is_before, stands_in_some}

-- the head so far: its type arguments, the type of the predicate on these, and what is left of it behind the arguments
pub record IsHead (x : Types) (p : HeadSoFar) (h : Home) (s : State) : Type 0 where
  pub predicate : p.predicate ≡ h.self.head
  pub count : p.count ≡ head_count h
  pub types : AreTypes x p.types.items s.head_types
  pub arguments : p.arguments ≡ length s.head_arguments
  pub whole : IsType x p.whole (head_built h s).type
  pub left : IsType x p.left (result_type (head_built h s).type (length s.head_arguments))

-- what the head keeps of a state where a type argument or an argument is taken, or nothing is
abbrev pub KeepsRegister : Home → (s t : State) → Type 0
KeepsRegister h s t = (r : ℕ) → h.self.head ≡ Some (Register r) → term_in t.now r ≡ term_in s.now r

abbrev pub TakesType : Home → State → Ty → State → Type 0
TakesType h s T t = (t.head_types ≡ s.head_types ++ T ∷ []) × (length s.head_arguments ≡ 0) × (length t.head_arguments ≡ 0) × KeepsRegister h s t

abbrev pub TakesArgument : Home → State → State → Type 0
TakesArgument h s t = (t.head_types ≡ s.head_types) × (length t.head_arguments ≡ suc (length s.head_arguments)) × KeepsRegister h s t

abbrev pub constant_in : Option RecordHead → Option ℕ
constant_in (Some (Const c)) = Some c
constant_in (Some (Register r)) = None
constant_in None = None

abbrev pub IsNoConstant : Option RecordHead → Type 0
IsNoConstant (Some (Const c)) = ⊥
IsNoConstant (Some (Register r)) = Unit {0}
IsNoConstant None = Unit {0}

-- the type that is kept of a head that is a register
abbrev pub given_in : Registers Kept → Option RecordHead → Option TypeId
given_in rs (Some (Register r)) = option_map (λ (t : Kept). t.of) (value_in rs r)
given_in rs p = None

-- the register of a type variable that an instruction makes
abbrev pub type_made_in : Instr → List ℕ
type_made_in (on.TyNew d) = d ∷ []
type_made_in i = []

-- each register is above those before it
abbrev pub AreAbove : ℕ → List ℕ → Type 0
AreAbove n [] = Unit {0}
AreAbove n (r ∷ rs) = (n ≤ r) × AreAbove (suc r) rs

-- each of the first n has its place as number
abbrev pub AreNumbered : List ℕ → ℕ → BTreeMap ℕ ℕ → Type 0
AreNumbered rs n m = (k d : ℕ) → k < n → slice_get rs k ≡ Some d → get nat_cmp m d ≡ Some k

-- the numbers of the type variables that a record makes
abbrev pub HasOwnTypes : Record → BTreeMap ℕ ℕ → Type 0
HasOwnTypes r m = (d : ℕ) → is_own_type r d ≡ true → get nat_cmp m d ≡ Some (length (passing d (is_own_type r)))

-- a type variable is made in a register of which the record says so
abbrev pub makes_own_type : Record → Instr → Bool
makes_own_type r (on.TyNew d) = is_own_type r d
makes_own_type r i = true

-- a state behind an instruction, as far as the head is concerned
pub record FollowsHead (h : Home) (s : State) (i : Instr) (t : State) : Type 0 where
  pub types : t.head_types ≡ with_more s.head_types (taken_by s i)
  pub arguments : length t.head_arguments ≡ arguments_behind i (length s.head_arguments)
  pub register : KeepsRegister h s t

-- a head that is a register is one that the record starts with
abbrev pub HeadIsLow : Home → Type 0
HeadIsLow h = (r : ℕ) → h.self.head ≡ Some (Register r) → nat_lt r h.self.captured ≡ true

-- what stands in a register now stood there before each open block, and it was set
abbrev pub AreStill : ℕ → Option Built → List (List (Option Built)) → Type 0
AreStill r o [] = Unit {0}
AreStill r o (xs ∷ xss) = (held xs r ≡ o) × AreStill r o xss

abbrev pub IsStill : ℕ → State → Type 0
IsStill r s = (member r s.terms_set ≡ true) × AreStill r (held s.now.terms r) (terms_in_stack (stack_of s))

abbrev pub HeadStays : Home → State → Type 0
HeadStays h s = (r : ℕ) → h.self.head ≡ Some (Register r) → nat_lt r h.self.captured ≡ true → IsStill r s

-- the constants of the tables, as they are kept
pub record KnowsTables (t : kept_tables.Tables) (x : Types) (h : Home) : Type 0 where
  pub tables : h.tables ≡ tables_in t
  pub language : HasLanguage t
  pub basics : HasBasics x
  pub uses : UsesAre h.tables x

-- the same whatever stands in registers
pub record KnowsHead (l : Store) (w : Work) (h : Home) (s : State) : Type 0 where
  pub number : w.home.number ≡ h.number
  pub constants : KnowsTables w.home.tables.now l.types h
  pub own : HasOwnTypes h.self w.own_types
  pub head : IsHead l.types w.head h s

-- in a head, a variable of the record that stands in a register is one that it makes there, and it is told whether it stands in an argument so far
abbrev pub KnowsTaken : Work → Home → State → Type 0
KnowsTaken w h s =
    (v r : ℕ) → w.in_body ≡ false → (term_in s.now r).term ≡ variable v h.number → (member v (own_variables h.self) ≡ true) × (is_before w.number (get nat_cmp w.takings.first v) ≡ stands_in_some v h.number s.head_arguments)

pub record Knows (l : Store) (w : Work) (h : Home) (s : State) : Type 0 where
  pub of_head : KnowsHead l w h s
  pub taken : KnowsTaken w h s
  pub types : IsSame (SameType l) w.types s.now.types
  pub terms : IsSame (SameTerm l) w.terms s.now.terms
