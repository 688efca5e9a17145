-- What the code of types and terms does where it is run: from a state in which no rule is broken to one in which the type or term stands in its register.
use Rattle.std.specs.Prelude.{◌≡◌, ℕ, ℤ, All, ◌+◌, ◌≤◌, ◌<◌, nat_eq, nat_lt, Bool, true, false, List, [], ◌∷◌, ◌++◌, length, map, sum_by, is_none, Option, Some, None}
use Rattle.std.specs.List.{list_any}
use Rattle.lp_calculus.specs.Types.{Ty, Tys, var, no_types, types, tys}
use Rattle.lp_calculus.specs.Term.{atom, integer, text}
use Rattle.lp_calculus.specs.Typing.{int_type, string_type}
use Rattle.lp_code.specs.declared.instruction.Instr.{Instr}
use Rattle.lp_code.specs.declared.rule.Rule.{Rule}
use Rattle.lp_code.specs.Length.{length_of}
use Rattle.lp_code.specs.Symbolic.{held, Built, whole, bound_index, term_in, application_of, abstraction_of, agree_at, innermost}
use Rattle.lp_code.specs.States.{Block, left_side, right_side, Frame, State, Home, member}
use Rattle.lp_code.specs.Steps.{Later, constant_of}
use Rattle.lp_code.specs.Rules.{is_passed, has_count, is_no_term, applies}
use Rattle.lp_code.specs.Denote.{run, broken_by_record}
use Rattle.lp_gen.specs.declared.emitter.Emitter.{Emitter}
use Rattle.lp_gen.specs.Sources.{IsKnownType}
use Rattle.lp_gen.specs.inner.Owned.{IsPlain}

-- so many registers are there, and what is set stands in one of them
pub record HasRegisters {A : Type 0} (xs : List (Option A)) (n : ℕ) : Type 0 where
  pub enough : n ≤ length xs
  pub inside : (r : ℕ) (x : A) → held xs r ≡ Some x → r < n

-- the type variables of the clause stand in the first registers, and those from one on were never set; at the first byte the record as a whole breaks no rule
pub record TypesStand (h : Home) (vars next : ℕ) (s : State) : Type 0 where
  pub few : vars ≤ 65535
  pub own : vars ≤ next
  pub as_many : HasRegisters s.now.types h.self.types
  pub stand : (i : ℕ) → i < vars → held s.now.types i ≡ Some (var i)
  pub unset : (r : ℕ) → next ≤ r → member r s.types_set ≡ false
  pub sound : nat_eq s.place 0 ≡ true → (r : Rule) → broken_by_record h s r ≡ false

-- no side of a block ends up to this offset
abbrev pub HasRoom : State → ℕ → Type 0
HasRoom s n = list_any (is_passed n) s.frames ≡ false

-- a side of a block may end at this offset, but none ends before it
abbrev pub ends_before : ℕ → Block → Bool
ends_before n (left_side e) = nat_lt e n
ends_before n (right_side e l) = nat_lt e n
ends_before n b = false

abbrev pub MayEnd : State → ℕ → Type 0
MayEnd s n = list_any (λ (f : Frame). ends_before n f.block) s.frames ≡ false

-- the states differ in the types that are set, and in the place
pub record SameButTypes (s t : State) : Type 0 where
  pub terms : t.now.terms ≡ s.now.terms
  pub terms_set : t.terms_set ≡ s.terms_set
  pub in_body : t.in_body ≡ s.in_body
  pub head_types : t.head_types ≡ s.head_types
  pub head_arguments : t.head_arguments ≡ s.head_arguments
  pub goals : t.goals ≡ s.goals
  pub frames : t.frames ≡ s.frames
  pub assumed : t.assumed ≡ s.assumed

-- instructions that make types lead from one state to another
pub record Leads (h : Home) (later : Later) (vars next next' : ℕ) (s : State) (is : List Instr) (t : State) : Type 0 where
  pub runs : (rest : List Instr) → run h later s (is ++ rest) ≡ run h later t rest
  pub place_is : t.place ≡ s.place + sum_by length_of is
  pub same : SameButTypes s t
  pub kept : (r : ℕ) → r < next → held t.now.types r ≡ held s.now.types r
  pub stands : TypesStand h vars next' t

abbrev pub Hold : State → (register : ℕ) → Ty → Type 0
Hold s r T = held s.now.types r ≡ Some T

abbrev pub HoldAll : State → (registers : List ℕ) → Tys → Type 0
HoldAll s [] no_types = Unit {0}
HoldAll s [] (types T Ts) = ⊥
HoldAll s (r ∷ rs) no_types = ⊥
HoldAll s (r ∷ rs) (types T Ts) = Hold s r T × HoldAll s rs Ts

-- more code, which makes a known type in a register wherever it is run
pub record IsTypePut (old new : Emitter) (register : ℕ) (T : Ty) : Type 0 where
  pub more : List Instr
  pub code_is : new.code.items ≡ old.code.items ++ more
  pub registers_stay : new.registers ≡ old.registers
  pub types_grow : old.types ≤ new.types
  pub plain : IsPlain more
  pub denotes : (h : Home) (later : Later) (vars : ℕ) (s : State) → TypesStand h vars old.types s → new.types ≤ h.self.types → IsKnownType h.tables.kinds vars T →
      HasRoom s (s.place + sum_by length_of more) → (t : State) × Leads h later vars old.types new.types s more t × Hold t register T × (register < new.types)

-- the same for types in registers
pub record AreTypesPut (old new : Emitter) (rs : List ℕ) (Ts : List Ty) : Type 0 where
  pub more : List Instr
  pub code_is : new.code.items ≡ old.code.items ++ more
  pub registers_stay : new.registers ≡ old.registers
  pub types_grow : old.types ≤ new.types
  pub plain : IsPlain more
  pub denotes : (h : Home) (later : Later) (vars : ℕ) (s : State) → TypesStand h vars old.types s → new.types ≤ h.self.types → All (IsKnownType h.tables.kinds vars) Ts →
      HasRoom s (s.place + sum_by length_of more) →
      (t : State) × Leads h later vars old.types new.types s more t × HoldAll t rs (tys Ts) × All (λ r. r < new.types) rs

-- the registers of terms from one on were never set, nor before NECK any that does not hold a term
pub record TermsStand (h : Home) (next : ℕ) (s : State) : Type 0 where
  pub as_many : HasRegisters s.now.terms h.self.registers
  pub unset : (r : ℕ) → next ≤ r → member r s.terms_set ≡ false
  -- before NECK nothing that was set is unset
  pub fresh : s.in_body ≡ false → (r : ℕ) → held s.now.terms r ≡ None → member r s.terms_set ≡ false

pub record SameButRegisters (s t : State) : Type 0 where
  pub in_body : t.in_body ≡ s.in_body
  pub head_types : t.head_types ≡ s.head_types
  pub head_arguments : t.head_arguments ≡ s.head_arguments
  pub goals : t.goals ≡ s.goals
  pub frames : t.frames ≡ s.frames
  pub assumed : t.assumed ≡ s.assumed

-- instructions that make types and terms lead from one state to another, in which these terms stand below the first register that was new
pub record Moves (h : Home) (later : Later) (vars types types' terms terms' : ℕ) (xs : List (Option Built)) (s : State) (is : List Instr) (t : State) : Type 0 where
  pub runs : (rest : List Instr) → run h later s (is ++ rest) ≡ run h later t rest
  pub place_is : t.place ≡ s.place + sum_by length_of is
  pub same : SameButRegisters s t
  pub types_kept : (r : ℕ) → r < types → held t.now.types r ≡ held s.now.types r
  pub terms_kept : (r : ℕ) → r < terms → held t.now.terms r ≡ held xs r
  pub types_stand : TypesStand h vars types' t
  pub terms_stand : TermsStand h terms' t

abbrev pub HoldTerm : State → (register : ℕ) → Built → Type 0
HoldTerm s r b = held s.now.terms r ≡ Some b

-- more code, which makes a term in a register wherever it is run, and what it asks of the terms that are set is so
pub record IsTermPut (old new : Emitter) (register : ℕ) (asks : Home → (vars : ℕ) → List (Option Built) → Type 0) (built : Home → List (Option Built) → Built) : Type 0 where
  pub more : List Instr
  pub code_is : new.code.items ≡ old.code.items ++ more
  pub types_grow : old.types ≤ new.types
  pub terms_grow : old.registers ≤ new.registers
  pub plain : IsPlain more
  pub denotes : (h : Home) (later : Later) (vars : ℕ) (s : State) → TypesStand h vars old.types s → TermsStand h old.registers s → new.types ≤ h.self.types →
      new.registers ≤ h.self.registers → asks h vars s.now.terms → HasRoom s (s.place + sum_by length_of more) →
      (t : State) × Moves h later vars old.types new.types old.registers new.registers s.now.terms s more t × HoldTerm t register (built h s.now.terms) × (register < new.registers)

-- a constant that may stand in terms, with as many known types as it has type variables
pub record IsKnownConstant (h : Home) (vars c : ℕ) (Ts : List Ty) : Type 0 where
  pub known : All (IsKnownType h.tables.kinds vars) Ts
  pub declared : has_count (h.tables.constants c) (length Ts) ≡ true
  pub in_terms : is_no_term c ≡ false

abbrev pub ConstantPut : (old new : Emitter) → (register c : ℕ) → List Ty → Type 0
ConstantPut old new r c Ts = IsTermPut old new r (λ h vars xs. IsKnownConstant h vars c Ts) (λ h xs. constant_of h.tables c Ts)

abbrev pub IntegerPut : (old new : Emitter) → (register : ℕ) → ℤ → Type 0
IntegerPut old new r z = IsTermPut old new r (λ h vars xs. Unit {0}) (λ h xs. whole (atom (integer z)) int_type)

abbrev pub TextPut : (old new : Emitter) → (register : ℕ) → List ℕ → Type 0
TextPut old new r s = IsTermPut old new r (λ h vars xs. nat_lt (length s) 65536 ≡ true) (λ h xs. whole (atom (text s)) string_type)

abbrev pub IndexPut : (old new : Emitter) → (register i : ℕ) → Ty → Type 0
IndexPut old new r i T = IsTermPut old new r (λ h vars xs. IsKnownType h.tables.kinds vars T) (λ h xs. bound_index i T)

-- what stands in a register of a term
abbrev pub built_at : List (Option Built) → ℕ → Built
built_at xs r = term_in (record { types = []; terms = xs }) r

-- a head and its arguments, which are set and fit together
pub record AreParts (xs : List (Option Built)) (head : ℕ) (args : List ℕ) : Type 0 where
  pub head_set : is_none (held xs head) ≡ false
  pub args_set : list_any (λ r. is_none (held xs r)) args ≡ false
  pub fit : applies (built_at xs head) (map (built_at xs) args) ≡ true

abbrev pub ApplicationPut : (old new : Emitter) → (register head : ℕ) → (args : List ℕ) → Type 0
ApplicationPut old new r head args = IsTermPut old new r (λ h vars xs. AreParts xs head args) (λ h xs. application_of (built_at xs head) (map (built_at xs) args))

-- the body of an abstraction, which is set and has no index 0 of another type
pub record IsBody (h : Home) (vars : ℕ) (xs : List (Option Built)) (body : ℕ) (T : Ty) : Type 0 where
  pub known : IsKnownType h.tables.kinds vars T
  pub body_set : is_none (held xs body) ≡ false
  pub fits : agree_at (innermost (built_at xs body).loose) (Some T) ≡ true

abbrev pub AbstractionPut : (old new : Emitter) → (register body : ℕ) → Ty → Type 0
AbstractionPut old new r body T = IsTermPut old new r (λ h vars xs. IsBody h vars xs body T) (λ h xs. abstraction_of (built_at xs body) T)
