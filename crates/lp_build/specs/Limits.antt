-- The limits of a module's object.
use Rattle.std.specs.Prelude.{◌≡◌, ◌⊎◌, ℕ, suc, ◌+◌, ◌<◌, ◌≤◌, length}
use Rattle.lp_base.specs.declared.limits.TheConstants.{END_OF_NUMBERS, MAX_COPIES}
use Rattle.lp_base.specs.declared.limit.Limit.TheVariants as limit
use Rattle.lp_module.specs.declared.module.Module.{Module}
use Rattle.lp_build.specs.Uncoded.{IsUncoded, IsWithinCode}
use Rattle.lp_build.specs.declared.fault.BuildFault.{BuildFault}
use Rattle.lp_build.specs.declared.fault.BuildFault.TheVariants as fault

-- so many kinds, or so many constants, have no numbers: those of the language come first
abbrev pub HasManyNames : (kinds constants : ℕ) → Type 0
HasManyNames kinds constants = (END_OF_NUMBERS < 8 + kinds) ⊎ (END_OF_NUMBERS < 32 + constants)

abbrev pub HasFewNames : (kinds constants : ℕ) → Type 0
HasFewNames kinds constants = (8 + kinds ≤ END_OF_NUMBERS) × (32 + constants ≤ END_OF_NUMBERS)

-- those of a module
abbrev pub NamesMany : Module → Type 0
NamesMany m = HasManyNames (length m.signature.kinds.items) (length m.signature.constants.items)

abbrev pub NamesFew : Module → Type 0
NamesFew m = HasFewNames (length m.signature.kinds.items) (length m.signature.constants.items)

-- the copies of which a module's object tells: its own, and one for each word of its accumulate lists
abbrev pub told_copies : Module → ℕ
told_copies m = suc (length m.uses.items)

-- why a module has no object: the limit on copies goes first, then those of its code, then the one on names
pub data IsUnmade (m : Module) (e : BuildFault) : Type 0 where
  many_copies : MAX_COPIES < told_copies m → e ≡ fault.Limit limit.Copies → IsUnmade m e
  no_code : told_copies m ≤ MAX_COPIES → IsUncoded m e → IsUnmade m e
  many_names : told_copies m ≤ MAX_COPIES → IsWithinCode m → NamesMany m → e ≡ fault.Limit limit.Names → IsUnmade m e
  unmade_memory : e ≡ fault.Memory → IsUnmade m e

-- a module has one: no limit is passed
pub record IsWithinObject (m : Module) : Type 0 where
  pub copies : told_copies m ≤ MAX_COPIES
  pub code : IsWithinCode m
  pub names : NamesFew m
