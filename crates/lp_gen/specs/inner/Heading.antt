-- The code of an argument of the head.
use Rattle.std.specs.Prelude.{◌≡◌, ℕ, ◌+◌, ◌≤◌, ◌<◌, true, false, is_some, All, List, [], ◌∷◌, ◌++◌, map, length, sum_by, Option, Some, None, slice_get, slice_set}
use Rattle.std.specs.List.{list_any}
use Rattle.lp_calculus.specs.Types.{Ty}
use Rattle.lp_calculus.specs.Term.{Term, Atom, index, atom, abs, app, constant, integer, text, eigen, logic, param}
use Rattle.lp_calculus.specs.Typing.{o_type, HasType}
use Rattle.lp_calculus.specs.Convert.{leftmost_step}
use Rattle.lp_calculus.specs.Spine.{head_of, arguments}
use Rattle.lp_standard.specs.Positive.{are_positive}
use Rattle.lp_standard.specs.Schemes.{IsStandard}
use Rattle.lp_code.specs.declared.instruction.Instr.{Instr}
use Rattle.lp_code.specs.declared.instruction.Instr.TheVariants.{Neck}
use Rattle.lp_code.specs.Denote.{head_term}
use Rattle.lp_code.specs.declared.record.RecordHead.{RecordHead}
use Rattle.lp_code.specs.declared.record.RecordHead.TheVariants.{Const, Register}
use Rattle.lp_code.specs.Length.{length_of}
use Rattle.lp_code.specs.Symbolic.{Built, variable, held, whole, argument_type, plain_terms}
use Rattle.lp_code.specs.States.{State, Home}
use Rattle.lp_code.specs.Steps.{Later, head_built}
use Rattle.lp_code.specs.Rules.{breaks_head, head_count, out_of_turn, is_variable_of, stands_in}
use Rattle.lp_gen.specs.declared.emitter.Emitter.{Emitter}
use Rattle.lp_gen.specs.inner.Running.{TypesStand, TermsStand, HasRoom}
use Rattle.lp_gen.specs.Steps.{Seen, Around, level_in, at_level}
use Rattle.lp_gen.specs.inner.TermLaw.{SameSides, Asks, Standing, KnownAtoms, AllLoose, IsSeen, with_variables, SameAround}
use Rattle.lp_gen.specs.Sources.{types_by, IsKnownType}
use Rattle.lp_gen.specs.inner.Owned.{makes, makes_types, IsPlain, AreStarted}
use Rattle.lp_gen.specs.inner.Written.{CodeOwns, AreAsked, IsWell, AreWell, wholes}
use Rattle.lp_gen.specs.inner.Doing.{Does}

-- an argument that is a variable at its first place
pub record VariableGot (old new : Emitter) (i register : ℕ) : Type 0 where
  pub more : List Instr
  pub code_is : new.code.items ≡ old.code.items ++ more
  pub types_stay : new.types ≡ old.types
  pub registers_stay : new.registers ≡ old.registers
  pub own : makes more ≡ register ∷ []
  pub no_types : makes_types more ≡ []
  pub denotes : (h : Home) (later : Later) (vars : ℕ) (s : State) (T : Ty) → TypesStand h vars old.types s → TermsStand h old.registers s → register <
      old.registers → old.registers ≤ h.self.registers →
      s.in_body ≡ false → held s.now.terms register ≡ None → out_of_turn s i ≡ false → argument_type (head_built h s).type i ≡ Some T → HasRoom s (s.place + sum_by length_of more) →
      (t : State)
      × Does h later vars old.types old.types old.registers old.registers s more s.goals s.head_types (s.head_arguments ++ whole (variable register h.number) T ∷ []) t
      × (t.now.terms ≡ slice_set s.now.terms register (Some (whole (variable register h.number) T)))

-- the own variables of a record are made by it, and those that it starts with are other ones
pub record AreOwn (h : Home) (σ : ℕ → Term) (a : Around) : Type 0 where
  pub own : (l : ℕ) (v : Seen) → at_level a l ≡ Some v → a.base ≤ l → σ l ≡ variable v.register h.number
  pub others : (l r : ℕ) (v : Seen) → at_level a l ≡ Some v → l < a.base → is_variable_of (σ l) r h.number ≡ false

-- those that are set stand in arguments so far
abbrev pub HaveStood : Home → Around → List Built → Type 0
HaveStood h a bs = (l : ℕ) (v : Seen) → at_level a l ≡ Some v → a.base ≤ l → v.is_set ≡ true → list_any (λ (b : Built). stands_in v.register h.number b.term) bs ≡ true

-- the register of the head's predicate is set, if it stands in one
abbrev pub PredicateStands : Option RecordHead → (next : ℕ) → State → Type 0
PredicateStands None n s = Unit {0}
PredicateStands (Some (Const c)) n s = Unit {0}
PredicateStands (Some (Register r)) n s = (r < n) × (b : Built) × (held s.now.terms r ≡ Some b)

-- more code, which matches an argument of the head
pub record ArgumentGot (K : ℕ → List Ty → Ty) (old new : Emitter) (a a' : Around) (i : ℕ) (F : Ty) (t : Term) : Type 0 where
  pub more : List Instr
  pub code_is : new.code.items ≡ old.code.items ++ more
  pub types_grow : old.types ≤ new.types
  pub terms_grow : old.registers ≤ new.registers
  pub owns : AreStarted a → CodeOwns a a' more
  pub no_types : makes_types more ≡ []
  pub denotes : (h : Home) (later : Later) (vars : ℕ) (s : State) (σ : ℕ → Term) (Γ : List Ty) (T : Ty) → IsStandard h.tables.constants → AreAsked h K → TypesStand h vars old.types s →
      TermsStand h old.registers s → new.types ≤ h.self.types → new.registers ≤ h.self.registers → s.in_body ≡ false → length s.head_arguments ≡ i →
      argument_type (head_built h s).type i ≡ Some T → Standing h vars old.registers s.in_body σ a s.now.terms → IsWell h vars Γ a t T → SameSides F T
      → PredicateStands h.self.head old.registers s → AreOwn h σ a →
      HaveStood h a s.head_arguments → HasRoom s (s.place + sum_by length_of more) →
      (u : State)
      × Does h later vars old.types new.types old.registers new.registers s more s.goals s.head_types (s.head_arguments ++ whole (with_variables σ a 0 t) T ∷ []) u
      × Standing h vars new.registers s.in_body σ a' u.now.terms × SameAround a a' × HaveStood h a' (s.head_arguments ++ whole (with_variables σ a 0 t) T ∷ [])

-- more code, which matches all arguments of the head
pub record ArgumentsGot (K : ℕ → List Ty → Ty) (old new : Emitter) (a a' : Around) (F : Ty) (ts : List Term) : Type 0 where
  pub more : List Instr
  pub code_is : new.code.items ≡ old.code.items ++ more
  pub types_grow : old.types ≤ new.types
  pub terms_grow : old.registers ≤ new.registers
  pub owns : AreStarted a → CodeOwns a a' more
  pub no_types : makes_types more ≡ []
  pub denotes : (h : Home) (later : Later) (vars : ℕ) (s : State) (σ : ℕ → Term) (Γ : List Ty) (R : Ty) → IsStandard h.tables.constants → AreAsked h K → TypesStand h vars old.types s →
      TermsStand h old.registers s → new.types ≤ h.self.types → new.registers ≤ h.self.registers → s.in_body ≡ false → s.head_arguments ≡ [] → Standing h vars old.registers s.in_body σ a s.now.terms →
      AreWell h vars Γ a (head_built h s).type ts R → Asks F (head_built h s).type → PredicateStands h.self.head old.registers s → AreOwn h σ a → HaveStood h a [] →
      HasRoom s (s.place + sum_by length_of more) →
      (u : State)
      × Does h later vars old.types new.types old.registers new.registers s more s.goals s.head_types (wholes (head_built h s).type (map (with_variables σ a 0) ts)) u
      × Standing h vars new.registers s.in_body σ a' u.now.terms × SameAround a a' × HaveStood h a' (wholes (head_built h s).type (map (with_variables σ a 0) ts))

-- more code, which matches types of the head
pub record TypesGot (old new : Emitter) (Ts : List Ty) : Type 0 where
  pub more : List Instr
  pub code_is : new.code.items ≡ old.code.items ++ more
  pub registers_stay : new.registers ≡ old.registers
  pub types_grow : old.types ≤ new.types
  pub plain : IsPlain more
  pub denotes : (h : Home) (later : Later) (vars : ℕ) (s : State) → IsStandard h.tables.constants → TypesStand h vars old.types s → TermsStand h old.registers s → new.types ≤ h.self.types →
      s.in_body ≡ false → s.head_types ≡ [] → s.head_arguments ≡ [] → All (IsKnownType h.tables.kinds vars) Ts → (is_some h.self.head ≡ true → length Ts ≤ head_count h) →
      HasRoom s (s.place + sum_by length_of more) →
      (u : State) × Does h later vars old.types new.types old.registers new.registers s more s.goals Ts [] u × (u.now.terms ≡ s.now.terms)

-- the predicate of a head
abbrev pub seen_register : Option Seen → RecordHead
seen_register None = Register 0
seen_register (Some v) = Register v.register

abbrev pub level_register : Around → Option ℕ → RecordHead
level_register a None = Register 0
level_register a (Some l) = seen_register (at_level a l)

abbrev pub atom_predicate : Atom → RecordHead
atom_predicate (constant c Ts) = Const c
atom_predicate (integer z) = Register 0
atom_predicate (text s) = Register 0
atom_predicate (eigen k) = Register 0
atom_predicate (logic x l) = Register 0
atom_predicate (param k T) = Register 0

abbrev pub predicate_of : Around → Term → RecordHead
predicate_of a (index i) = level_register a (level_in a i)
predicate_of a (atom s) = atom_predicate s
predicate_of a (abs b) = Register 0
predicate_of a (app t u) = Register 0

abbrev pub IsPredicate : Term → Type 0
IsPredicate (index i) = Unit {0}
IsPredicate (atom (constant c Ts)) = Unit {0}
IsPredicate (atom (integer z)) = ⊥
IsPredicate (atom (text s)) = ⊥
IsPredicate (atom (eigen k)) = ⊥
IsPredicate (atom (logic x l)) = ⊥
IsPredicate (atom (param k T)) = ⊥
IsPredicate (abs b) = ⊥
IsPredicate (app t u) = ⊥

-- an atom of which there is code as a head: a variable that is its predicate is set
pub record IsHeadAtom (h : Home) (vars : ℕ) (Γ : List Ty) (a : Around) (t : Term) : Type 0 where
  pub typed : HasType (types_by h.tables) Γ t o_type
  pub normal : leftmost_step t ≡ None
  pub known : KnownAtoms h.tables.kinds vars t
  pub positive : are_positive (arguments t) ≡ true
  pub predicate : IsPredicate (head_of t)
  pub captured : (j : ℕ) → head_of t ≡ index j → (l : ℕ) (v : Seen) → level_in a j ≡ Some l → at_level a l ≡ Some v → v.is_set ≡ true
  pub indices : (k : ℕ) (U : Ty) → slice_get Γ k ≡ Some U → IsKnownType h.tables.kinds vars U
  pub seen : AllLoose (IsSeen a Γ) 0 t

-- more code, which matches the head; then NECK may stand
pub record HeadMatched (K : ℕ → List Ty → Ty) (old new : Emitter) (a a' : Around) (predicate : RecordHead) (t : Term) : Type 0 where
  pub more : List Instr
  pub code_is : new.code.items ≡ old.code.items ++ more
  pub types_grow : old.types ≤ new.types
  pub terms_grow : old.registers ≤ new.registers
  pub owns : AreStarted a → CodeOwns a a' more
  pub predicate_is : predicate ≡ predicate_of a (head_of t)
  pub no_types : makes_types more ≡ []
  pub denotes : (h : Home) (later : Later) (vars : ℕ) (s : State) (σ : ℕ → Term) (Γ : List Ty) → IsStandard h.tables.constants → AreAsked h K → TypesStand h vars old.types s →
      TermsStand h old.registers s → new.types ≤ h.self.types → new.registers ≤ h.self.registers → s.in_body ≡ false → s.head_types ≡ [] → s.head_arguments ≡ [] → h.self.head ≡ Some predicate →
      Standing h vars old.registers s.in_body σ a s.now.terms → IsHeadAtom h vars Γ a t → PredicateStands h.self.head old.registers s → AreOwn h σ a → HaveStood h a [] →
      HasRoom s (s.place + sum_by length_of more) →
      (u : State)
      × Does h later vars old.types new.types old.registers new.registers s more s.goals u.head_types u.head_arguments u
      × Standing h vars new.registers s.in_body σ a' u.now.terms × SameAround a a' × (head_term h u ≡ with_variables σ a 0 t) × (breaks_head h u Neck ≡ false)
      × (plain_terms u.head_arguments ≡ map (with_variables σ a 0) (arguments t))
