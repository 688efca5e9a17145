-- What the steps of a term make: a stack of terms, the last one last, and the code that makes them in registers.
use Rattle.std.specs.Prelude.{◌≡◌, ℕ, ◌+◌, ◌-◌, ◌≤◌, ◌<◌, All, Bool, true, false, List, [], ◌∷◌, ◌++◌, length, map, take, drop, sum_by, nat_lt, is_none, Option, Some, None, slice_index_or, slice_set}
use Rattle.lp_calculus.specs.Types.{Ty}
use Rattle.lp_calculus.specs.Term.{index, atom, integer, text}
use Rattle.lp_calculus.specs.Typing.{o_type, int_type, string_type}
use Rattle.lp_term.specs.Nodes.{Nodes}
use Rattle.lp_code.specs.declared.instruction.Instr.{Instr}
use Rattle.lp_code.specs.Length.{length_of}
use Rattle.lp_code.specs.Symbolic.{Built, variable, held, whole, bound_index, application_of, abstraction_of, agree_at, innermost}
use Rattle.lp_code.specs.States.{State, Home}
use Rattle.lp_code.specs.Steps.{Later, constant_of}
use Rattle.lp_code.specs.Rules.{applies}
use Rattle.lp_gen.specs.declared.emitter.Emitter.{Emitter}
use Rattle.lp_gen.specs.declared.term_steps.TermStep.{TermStep}
use Rattle.lp_gen.specs.Sources.{IsKnownType}
use Rattle.lp_gen.specs.Steps.{Step, make_constant, make_integer, make_text, make_index, make_variable, from_register, apply_last, abstract_last}
use Rattle.lp_gen.specs.inner.Listing.{plain_step}
use Rattle.lp_gen.specs.inner.Owned.{makes, makes_types, made_by}
use Rattle.lp_gen.specs.inner.Running.{TypesStand, TermsStand, HasRoom, Moves, IsKnownConstant, built_at}

-- what stands in registers, and a stack of terms
pub record Stack : Type 0 where
  pub registers : List (Option Built)
  pub made : List Built

abbrev pub stack : List (Option Built) → List Built → Stack
stack xs bs = record { registers = xs; made = bs }

-- the last term of a stack, and those before it
abbrev pub last_built : List Built → Built
last_built bs = slice_index_or bs (length bs - 1) (whole (index 0) o_type)

abbrev pub before_last : List Built → List Built
before_last bs = take (length bs - 1) bs

-- a head and so many arguments behind it
abbrev pub head_and : (rest args : List Built) → List Built
head_and rest args = before_last rest ++ application_of (last_built rest) args ∷ []

abbrev pub made_variable : Home → (register : ℕ) → Ty → List (Option Built) → List (Option Built)
made_variable h r T xs = slice_set xs r (Some (whole (variable r h.number) T))

-- what a step makes of the registers and the stack
abbrev pub step_built : Home → Step → Stack → Stack
step_built h (make_constant c Ts) s = stack s.registers (s.made ++ constant_of h.tables c Ts ∷ [])
step_built h (make_integer z) s = stack s.registers (s.made ++ whole (atom (integer z)) int_type ∷ [])
step_built h (make_text b) s = stack s.registers (s.made ++ whole (atom (text b)) string_type ∷ [])
step_built h (make_index i T) s = stack s.registers (s.made ++ bound_index i T ∷ [])
step_built h (make_variable r T) s = stack (made_variable h r T s.registers) s.made
step_built h (from_register r) s = stack s.registers (s.made ++ built_at s.registers r ∷ [])
step_built h (apply_last n) s = stack s.registers (head_and (take (length s.made - n) s.made) (drop (length s.made - n) s.made))
step_built h (abstract_last T) s = stack s.registers (before_last s.made ++ abstraction_of (last_built s.made) T ∷ [])

-- and where it may be made: a variable before NECK in a register that is not set, a register below one holds something, an application fits, and an abstraction has no
-- index 0 of another type
abbrev pub IsFine : Home → (vars next : ℕ) → (in_body : Bool) → Step → Stack → Type 0
IsFine h v n i (make_constant c Ts) s = IsKnownConstant h v c Ts
IsFine h v n i (make_integer z) s = Unit {0}
IsFine h v n i (make_text b) s = nat_lt (length b) 65536 ≡ true
IsFine h v n i (make_index k T) s = IsKnownType h.tables.kinds v T
IsFine h v n i (make_variable r T) s = (r < n) × (i ≡ false) × (held s.registers r ≡ None) × IsKnownType h.tables.kinds v T
IsFine h v n i (from_register r) s = (r < n) × (is_none (held s.registers r) ≡ false)
IsFine h v n i (apply_last m) s = (m < length s.made) × (applies (last_built (take (length s.made - m) s.made)) (drop (length s.made - m) s.made) ≡ true)
IsFine h v n i (abstract_last T) s = (0 < length s.made) × IsKnownType h.tables.kinds v T × (agree_at (innermost (last_built s.made).loose) (Some T) ≡ true)

abbrev pub steps_built : Home → List Step → Stack → Stack
steps_built h [] s = s
steps_built h (o ∷ os) s = steps_built h os (step_built h o s)

abbrev pub AreFine : Home → (vars next : ℕ) → (in_body : Bool) → List Step → Stack → Type 0
AreFine h v n i [] s = Unit {0}
AreFine h v n i (o ∷ os) s = IsFine h v n i o s × AreFine h v n i os (step_built h o s)

-- these terms stand in these registers
abbrev pub StandIn : List (Option Built) → (registers : List ℕ) → List Built → Type 0
StandIn xs [] [] = Unit {0}
StandIn xs [] (b ∷ bs) = ⊥
StandIn xs (r ∷ rs) [] = ⊥
StandIn xs (r ∷ rs) (b ∷ bs) = (held xs r ≡ Some b) × StandIn xs rs bs

-- more code, which makes the stack in registers wherever it is run and each step is fine
pub record StepsPut (b : Nodes) (old new : Emitter) (steps : List TermStep) (made : List ℕ) : Type 0 where
  pub more : List Instr
  pub code_is : new.code.items ≡ old.code.items ++ more
  pub types_grow : old.types ≤ new.types
  pub terms_grow : old.registers ≤ new.registers
  pub own : makes more ≡ made_by (map (plain_step b) steps)
  pub no_types : makes_types more ≡ []
  pub denotes : (h : Home) (later : Later) (vars : ℕ) (s : State) → TypesStand h vars old.types s → TermsStand h old.registers s → new.types ≤ h.self.types → new.registers ≤ h.self.registers →
      AreFine h vars old.registers s.in_body (map (plain_step b) steps) (stack s.now.terms []) → HasRoom s (s.place + sum_by length_of more) →
      (t : State) × Moves h later vars old.types new.types old.registers new.registers (steps_built h (map (plain_step b) steps) (stack s.now.terms [])).registers s more t
      × StandIn t.now.terms made (steps_built h (map (plain_step b) steps) (stack s.now.terms [])).made × All (λ r. r < new.registers) made

-- more code, which makes the term of these steps in a register wherever it is run, each step is fine, and they come to one term
pub record TermOfSteps (b : Nodes) (old new : Emitter) (register : ℕ) (steps : List TermStep) : Type 0 where
  pub more : List Instr
  pub code_is : new.code.items ≡ old.code.items ++ more
  pub types_grow : old.types ≤ new.types
  pub terms_grow : old.registers ≤ new.registers
  pub own : makes more ≡ made_by (map (plain_step b) steps)
  pub no_types : makes_types more ≡ []
  pub denotes : (h : Home) (later : Later) (vars : ℕ) (s : State) (xs : List (Option Built)) (built : Built) → TypesStand h vars old.types s → TermsStand h old.registers s → new.types ≤ h.self.types →
      new.registers ≤ h.self.registers → AreFine h vars old.registers s.in_body (map (plain_step b) steps) (stack s.now.terms []) →
      steps_built h (map (plain_step b) steps) (stack s.now.terms []) ≡ stack xs (built ∷ []) → HasRoom s (s.place + sum_by length_of more) →
      (t : State) × Moves h later vars old.types new.types old.registers new.registers xs s more t × (held t.now.terms register ≡ Some built) × (register < new.registers)
