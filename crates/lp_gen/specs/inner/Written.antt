-- What the code of a term and of arguments does where it is run: from a state in which the variables around stand to one in which the term stands in its register.
use Rattle.std.specs.Prelude.{◌≡◌, ℕ, zero, suc, ◌+◌, ◌≤◌, ◌<◌, All, true, List, [], ◌∷◌, ◌++◌, map, sum_by, Some, None, slice_get}
use Rattle.lp_calculus.specs.Types.{Ty, arrow}
use Rattle.lp_calculus.specs.Term.{Term}
use Rattle.lp_calculus.specs.Typing.{HasType}
use Rattle.lp_calculus.specs.Convert.{leftmost_step}
use Rattle.lp_standard.specs.Positive.{is_positive}
use Rattle.lp_code.specs.declared.instruction.Instr.{Instr}
use Rattle.lp_code.specs.Length.{length_of}
use Rattle.lp_code.specs.Symbolic.{Built, held, whole}
use Rattle.lp_code.specs.States.{State, Home}
use Rattle.lp_code.specs.Steps.{Later}
use Rattle.lp_code.specs.Denote.{run}
use Rattle.lp_gen.specs.declared.emitter.Emitter.{Emitter}
use Rattle.lp_gen.specs.Sources.{AreKnownSchemes, types_by, IsKnownType}
use Rattle.lp_gen.specs.Steps.{from_of, to_of, Around}
use Rattle.lp_gen.specs.inner.Running.{TypesStand, TermsStand, SameButRegisters, HasRoom}
use Rattle.lp_gen.specs.inner.TermSteps.{StandIn}
use Rattle.lp_gen.specs.inner.Owned.{makes, makes_types, AreStarted, MakesOwn, StaysSet}
use Rattle.lp_gen.specs.inner.TermLaw.{SameSides, Asks, AsksConstants, Standing, KnownAtoms, AllLoose, IsSeen, with_variables, SameAround, AreSet, Made}

-- instructions lead from one state to another, in which what was set stays
pub record Goes (h : Home) (later : Later) (vars types types' terms terms' : ℕ) (s : State) (is : List Instr) (t : State) : Type 0 where
  pub runs : (rest : List Instr) → run h later s (is ++ rest) ≡ run h later t rest
  pub place_is : t.place ≡ s.place + sum_by length_of is
  pub same : SameButRegisters s t
  pub types_kept : (r : ℕ) → r < types → held t.now.types r ≡ held s.now.types r
  pub terms_keep : (r : ℕ) (b : Built) → r < terms → held s.now.terms r ≡ Some b → held t.now.terms r ≡ Some b
  pub types_stand : TypesStand h vars types' t
  pub terms_stand : TermsStand h terms' t

-- what is read of constants is enough, and each has a known type
pub record AreAsked (h : Home) (K : ℕ → List Ty → Ty) : Type 0 where
  pub asks : AsksConstants h.tables K
  pub known : AreKnownSchemes h.tables

-- a term of which there is code: typed under indices of these types, which are those of variables, in normal form, and known
pub record IsWell (h : Home) (vars : ℕ) (Γ : List Ty) (a : Around) (t : Term) (T : Ty) : Type 0 where
  pub typed : HasType (types_by h.tables) Γ t T
  pub normal : leftmost_step t ≡ None
  pub known : KnownAtoms h.tables.kinds vars t
  pub positive : is_positive t ≡ true
  pub of : IsKnownType h.tables.kinds vars T
  pub indices : (k : ℕ) (U : Ty) → slice_get Γ k ≡ Some U → IsKnownType h.tables.kinds vars U
  pub seen : AllLoose (IsSeen a Γ) 0 t

-- code makes just the variables that are set behind it and were not before, and changes nothing else of them
pub record CodeOwns (a a' : Around) (is : List Instr) : Type 0 where
  pub made : MakesOwn a a' (makes is)
  pub same : SameAround a a'
  pub stays : StaysSet a a'

-- more code, which makes the term in a register, and the variables in it that were not set
pub record TermWritten (K : ℕ → List Ty → Ty) (old new : Emitter) (a a' : Around) (register : ℕ) (F : Ty) (t : Term) : Type 0 where
  pub more : List Instr
  pub code_is : new.code.items ≡ old.code.items ++ more
  pub types_grow : old.types ≤ new.types
  pub terms_grow : old.registers ≤ new.registers
  -- where all variables are set, none is made
  pub calm : AreSet a → a' ≡ a
  pub owns : AreStarted a → CodeOwns a a' more
  pub no_types : makes_types more ≡ []
  pub denotes : (h : Home) (later : Later) (vars : ℕ) (s : State) (σ : ℕ → Term) (Γ : List Ty) (T : Ty) → AreAsked h K → TypesStand h vars old.types s → TermsStand h old.registers s →
      new.types ≤ h.self.types → new.registers ≤ h.self.registers → Standing h vars old.registers s.in_body σ a s.now.terms → IsWell h vars Γ a t T → SameSides F T →
      HasRoom s (s.place + sum_by length_of more) →
      (u : State) × Goes h later vars old.types new.types old.registers new.registers s more u × (held u.now.terms register ≡ Some (whole (with_variables σ a 0 t) T)) × (register < new.registers)
      × Standing h vars new.registers s.in_body σ a' u.now.terms × SameAround a a' × Made h.number a a' (with_variables σ a 0 t)

-- arguments of a function of this type, behind which another one is left

abbrev pub AreWell : Home → (vars : ℕ) → List Ty → Around → (A : Ty) → List Term → (R : Ty) → Type 0
AreWell h v Γ a A [] R = A ≡ R
AreWell h v Γ a A (t ∷ ts) R = (B : Ty) × (D : Ty) × (A ≡ arrow B D) × IsWell h v Γ a t B × AreWell h v Γ a D ts R

abbrev pub left_by : Ty → ℕ → Ty
left_by F zero = F
left_by F (suc n) = left_by (to_of F) n

abbrev pub wholes : Ty → List Term → List Built
wholes A [] = []
wholes A (t ∷ ts) = whole t (from_of A) ∷ wholes (to_of A) ts

-- more code, which makes arguments in registers
pub record ArgumentsWritten (K : ℕ → List Ty → Ty) (old new : Emitter) (a a' : Around) (registers : List ℕ) (F : Ty) (ts : List Term) : Type 0 where
  pub more : List Instr
  pub code_is : new.code.items ≡ old.code.items ++ more
  pub types_grow : old.types ≤ new.types
  pub terms_grow : old.registers ≤ new.registers
  pub calm : AreSet a → a' ≡ a
  pub owns : AreStarted a → CodeOwns a a' more
  pub no_types : makes_types more ≡ []
  pub denotes : (h : Home) (later : Later) (vars : ℕ) (s : State) (σ : ℕ → Term) (Γ : List Ty) (A R : Ty) → AreAsked h K → TypesStand h vars old.types s → TermsStand h old.registers s →
      new.types ≤ h.self.types → new.registers ≤ h.self.registers → Standing h vars old.registers s.in_body σ a s.now.terms → AreWell h vars Γ a A ts R → Asks F A →
      HasRoom s (s.place + sum_by length_of more) →
      (u : State) × Goes h later vars old.types new.types old.registers new.registers s more u × StandIn u.now.terms registers (wholes A (map (with_variables σ a 0) ts))
      × All (λ r. r < new.registers) registers × Standing h vars new.registers s.in_body σ a' u.now.terms × SameAround a a'
