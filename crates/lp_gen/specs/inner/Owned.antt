-- The own variables and the type variables that code makes: what a record as a whole is read for.
use Rattle.std.specs.Prelude.{◌≡◌, ℕ, ◌<◌, true, false, List, [], ◌∷◌, ◌++◌, Some}
use Rattle.lp_code.specs.declared.instruction.Instr.{Instr}
use Rattle.lp_code.specs.declared.instruction.Instr.TheVariants as on
use Rattle.lp_code.specs.Operands.{own_set}
use Rattle.lp_code.specs.States.{member}
use Rattle.lp_gen.specs.Steps.{Step, make_constant, make_integer, make_text, make_index, make_variable, from_register, apply_last, abstract_last, Seen, Around, at_level}

abbrev pub makes : List Instr → List ℕ
makes [] = []
makes (i ∷ is) = own_set i ++ makes is

-- type variables that are made, and records that are assumed
abbrev pub new_type : Instr → List ℕ
new_type (on.TyNew d) = d ∷ []
new_type (on.Assume ns ts rs) = ns.items
new_type i = []

abbrev pub makes_types : List Instr → List ℕ
makes_types [] = []
makes_types (i ∷ is) = new_type i ++ makes_types is

-- code that makes none, and assumes none
pub record IsPlain (is : List Instr) : Type 0 where
  pub no_own : makes is ≡ []
  pub no_types : makes_types is ≡ []

-- the registers that steps of a term make
abbrev pub made_by : List Step → List ℕ
made_by [] = []
made_by (make_constant c Ts ∷ os) = made_by os
made_by (make_integer z ∷ os) = made_by os
made_by (make_text b ∷ os) = made_by os
made_by (make_index i T ∷ os) = made_by os
made_by (make_variable r T ∷ os) = r ∷ made_by os
made_by (from_register r ∷ os) = made_by os
made_by (apply_last n ∷ os) = made_by os
made_by (abstract_last T ∷ os) = made_by os

-- the variables with which a record starts are set
abbrev pub AreStarted : Around → Type 0
AreStarted a = (l : ℕ) (v : Seen) → l < a.base → at_level a l ≡ Some v → v.is_set ≡ true

-- registers are those of variables that were not set, and of each one that is set now
pub record MakesOwn (a a' : Around) (rs : List ℕ) : Type 0 where
  pub sound : (r : ℕ) → member r rs ≡ true → (l : ℕ) × (v : Seen) × (at_level a l ≡ Some v) × (v.is_set ≡ false) × (v.register ≡ r)
  pub complete : (l : ℕ) (v w : Seen) → at_level a l ≡ Some v → v.is_set ≡ false → at_level a' l ≡ Some w → w.is_set ≡ true → member v.register rs ≡ true

-- what was set stays set
abbrev pub StaysSet : Around → Around → Type 0
StaysSet a b = (l : ℕ) (v w : Seen) → at_level a l ≡ Some v → v.is_set ≡ true → at_level b l ≡ Some w → w.is_set ≡ true
