-- The tree of copies: below each copy stands one for each entry of its accumulate list, in order, a repeated entry giving a further copy.
use Rattle.std.specs.Prelude.{ℕ, ◌+◌, ◌-◌, ◌<◌, ◌⊎◌, List, [], ◌∷◌, ◌++◌, map, length, get_or, sum_by, Option, Some, None}
use Rattle.lp_base.specs.declared.limits.TheConstants.{MAX_COPIES}
use Rattle.lp_copies.specs.declared.names.TheConstants.{END_OF_IMAGE_NUMBERS}
use Rattle.lp_base.specs.declared.limit.Limit.TheVariants as limit
use Rattle.lp_sig.specs.Places.{first_place}
use Rattle.lp_copies.specs.Copies.{Copies}
use Rattle.lp_module.specs.declared.fault.ModuleFault.{ModuleFault}
use Rattle.lp_module.specs.declared.fault.ModuleFault.TheVariants as fault
use Rattle.lp_module.specs.declared.module.Module.{Module}

-- the numbers of the modules of these names, the first of a name; a name without a module has none
abbrev pub number_list : Option ℕ → List ℕ
number_list None = []
number_list (Some m) = m ∷ []

abbrev pub numbers_of : List (List ℕ) → List (List ℕ) → List ℕ
numbers_of names [] = []
numbers_of names (u ∷ us) = number_list (first_place u names) ++ numbers_of names us

abbrev pub names_of : List Module → List (List ℕ)
names_of modules = map (λ m. m.name.items) modules

abbrev pub uses_of : List Module → List (List ℕ)
uses_of modules = map (λ m. numbers_of (names_of modules) (map (λ u. u.items) m.uses.items)) modules

-- the modules of all copies
abbrev pub IsOrder : List Module → ℕ → List ℕ → Type 0
IsOrder modules root order = Copies (uses_of modules) (root ∷ []) order

-- how much all copies have together
abbrev pub total : (Module → ℕ) → List Module → List ℕ → ℕ
total f modules order = sum_by (λ m. get_or (map f modules) m 0) order

-- the end of the numbers: the global kinds or constants, those of all copies and the standard ones
abbrev pub kinds_end : List Module → ℕ → List ℕ → ℕ
kinds_end modules root order = 8 + get_or (map (λ m. length m.signature.kinds.items - length m.hidden_kinds.items) modules) root 0 + total (λ m. length m.hidden_kinds.items) modules order

abbrev pub constants_end : List Module → ℕ → List ℕ → ℕ
constants_end modules root order = 32 + get_or (map (λ m. length m.signature.constants.items - length m.hidden_constants.items) modules) root 0 + total (λ m. length m.hidden_constants.items) modules order

-- why there are not so many copies
abbrev pub IsTooMany : List (List ℕ) → ℕ → ModuleFault → Type 0
IsTooMany uses root (fault.Limit limit.Copies) = (all : List ℕ) → Copies uses (root ∷ []) all → MAX_COPIES < length all
IsTooMany uses root fault.Memory = Unit {0}
IsTooMany uses root _ = ⊥

abbrev pub counts_of : Module → ℕ
counts_of m = length m.clauses.items

-- why there is no program
abbrev pub IsProgramRefusal : List Module → ℕ → ModuleFault → Type 0
IsProgramRefusal modules root (fault.Limit limit.Copies) = (all : List ℕ) → IsOrder modules root all → MAX_COPIES < length all
IsProgramRefusal modules root (fault.Limit limit.Names) = (all : List ℕ) → IsOrder modules root all → (END_OF_IMAGE_NUMBERS < kinds_end modules root all) ⊎ (END_OF_IMAGE_NUMBERS < constants_end modules root all)
IsProgramRefusal modules root fault.Memory = Unit {0}
IsProgramRefusal modules root _ = ⊥
