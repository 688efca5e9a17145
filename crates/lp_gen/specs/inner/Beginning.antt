-- The code between the head and the body: variables that do not stand in the head are made, and NECK.
use Rattle.std.specs.Prelude.{◌≡◌, ℕ, ◌+◌, ◌<◌, ◌≤◌, Bool, true, false, List, [], ◌∷◌, ◌++◌, length, sum_by, Some, slice_get}
use Rattle.lp_calculus.specs.Term.{Term}
use Rattle.lp_code.specs.declared.instruction.Instr.{Instr}
use Rattle.lp_code.specs.declared.instruction.Instr.TheVariants.{Neck}
use Rattle.lp_code.specs.Length.{length_of}
use Rattle.lp_code.specs.States.{State, Home}
use Rattle.lp_code.specs.Steps.{Later}
use Rattle.lp_code.specs.Rules.{breaks_head}
use Rattle.lp_code.specs.Denote.{run}
use Rattle.lp_gen.specs.declared.emitter.Emitter.{Emitter}
use Rattle.lp_gen.specs.inner.Running.{TypesStand, TermsStand, HasRoom}
use Rattle.lp_gen.specs.Steps.{Seen, Around, at_level, set_level}
use Rattle.lp_gen.specs.inner.TermLaw.{Standing, SameAround}
use Rattle.lp_gen.specs.inner.Owned.{makes, makes_types, IsPlain, AreStarted}
use Rattle.lp_gen.specs.inner.Written.{Goes, CodeOwns}
use Rattle.lp_gen.specs.inner.Bodies.{IsShort}

-- more code, which makes the variable of a level
pub record VariableMade (old new : Emitter) (a : Around) (l : ℕ) (v : Seen) : Type 0 where
  pub more : List Instr
  pub code_is : new.code.items ≡ old.code.items ++ more
  pub types_grow : old.types ≤ new.types
  pub registers_stay : new.registers ≡ old.registers
  pub own : makes more ≡ v.register ∷ []
  pub no_types : makes_types more ≡ []
  pub denotes : (h : Home) (later : Later) (vars : ℕ) (s : State) (σ : ℕ → Term) → TypesStand h vars old.types s → TermsStand h old.registers s → new.types ≤ h.self.types →
      old.registers ≤ h.self.registers → Standing h vars old.registers s.in_body σ a s.now.terms → at_level a l ≡ Some v → v.is_set ≡ false → HasRoom s (s.place + sum_by length_of more) →
      (u : State) × Goes h later vars old.types new.types old.registers old.registers s more u × Standing h vars old.registers s.in_body σ (set_level a l) u.now.terms

-- more code, which makes all variables that are not set
pub record VariablesMade (old new : Emitter) (a a' : Around) : Type 0 where
  pub more : List Instr
  pub code_is : new.code.items ≡ old.code.items ++ more
  pub types_grow : old.types ≤ new.types
  pub registers_stay : new.registers ≡ old.registers
  pub owns : AreStarted a → CodeOwns a a' more
  pub no_types : makes_types more ≡ []
  pub denotes : (h : Home) (later : Later) (vars : ℕ) (s : State) (σ : ℕ → Term) → TypesStand h vars old.types s → TermsStand h old.registers s → new.types ≤ h.self.types →
      old.registers ≤ h.self.registers → Standing h vars old.registers s.in_body σ a s.now.terms → HasRoom s (s.place + sum_by length_of more) →
      (u : State) × Goes h later vars old.types new.types old.registers old.registers s more u × Standing h vars old.registers s.in_body σ a' u.now.terms × SameAround a a'

-- the own variable at a place is set
abbrev pub IsSetAt : Around → ℕ → Type 0
IsSetAt a p = (v : Seen) → slice_get a.own p ≡ Some v → v.is_set ≡ true

-- the same variables, some of which are made; what was set is set
pub record SomeMade (old new : Emitter) (a a' : Around) : Type 0 where
  pub made : VariablesMade old new a a'
  pub base : a'.base ≡ a.base
  pub count : length a'.own ≡ length a.own
  pub captured : (l : ℕ) → a'.captured l ≡ a.captured l
  pub kept : (p : ℕ) → IsSetAt a p → IsSetAt a' p

-- that of a place among them
pub record PlaceMade (old new : Emitter) (a a' : Around) (p : ℕ) : Type 0 where
  pub some : SomeMade old new a a'
  pub set : IsShort a → IsSetAt a' p

-- so many places from the last one, or from the first one on
abbrev pub IsPassed : (is_clause : Bool) → (count n p : ℕ) → Type 0
IsPassed true count n p = count ≤ p + n
IsPassed false count n p = p < n

pub record PlacesMade (old new : Emitter) (a a' : Around) (is_clause : Bool) (count n : ℕ) : Type 0 where
  pub some : SomeMade old new a a'
  pub set : IsShort a → (p : ℕ) → IsPassed is_clause count n p → IsSetAt a' p

-- all of them
pub record OwnMade (old new : Emitter) (a a' : Around) : Type 0 where
  pub some : SomeMade old new a a'
  pub set : IsShort a → (p : ℕ) → IsSetAt a' p

-- the state behind the head
abbrev pub behind_head : State → State
behind_head s = record {
  place = s.place + 1;
  now = s.now;
  types_set = s.types_set;
  terms_set = s.terms_set;
  in_body = true;
  head_types = s.head_types;
  head_arguments = s.head_arguments;
  goals = s.goals;
  frames = s.frames;
  assumed = s.assumed;
}

-- NECK, where no rule of the head is broken
pub record NeckPut (old new : Emitter) : Type 0 where
  pub more : List Instr
  pub code_is : new.code.items ≡ old.code.items ++ more
  pub types_stay : new.types ≡ old.types
  pub registers_stay : new.registers ≡ old.registers
  pub is_neck : more ≡ Neck ∷ []
  pub bytes : sum_by length_of more ≡ 1
  pub plain : IsPlain more
  pub denotes : (h : Home) (later : Later) (vars : ℕ) (s : State) → TypesStand h vars old.types s → TermsStand h old.registers s → s.in_body ≡ false → breaks_head h s Neck ≡ false →
      HasRoom s (s.place + 1) →
      ((rest : List Instr) → run h later s (more ++ rest) ≡ run h later (behind_head s) rest) × TypesStand h vars new.types (behind_head s) × TermsStand h new.registers (behind_head s)
