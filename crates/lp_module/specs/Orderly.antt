-- Modules whose hidden names stand behind those that they export, and what the table of a program has for a constant of a copy.
use Rattle.std.specs.Prelude.{◌≡◌, ℕ, ◌+◌, ◌-◌, List, length, All, Some}
use Rattle.std.specs.List.{range_with_len}
use Rattle.lp_model.specs.Readings.{declared_by}
use Rattle.lp_sig.specs.declared.entries.ConstantEntry.{ConstantEntry}
use Rattle.lp_infer.specs.Texts.{entry_scheme}
use Rattle.lp_module.specs.Program.{Copy, scheme_in}
use Rattle.lp_module.specs.declared.copies.Assembled.{Assembled}
use Rattle.lp_module.specs.declared.module.Module.{Module}

-- so many first names of a module are exported, and the others are hidden
pub record IsOrderly (m : Module) : Type 0 where
  pub exported_kinds : ℕ
  pub exported_constants : ℕ
  pub kinds : m.hidden_kinds.items ≡ range_with_len (8 + exported_kinds) (length m.signature.kinds.items - exported_kinds)
  pub constants : m.hidden_constants.items ≡ range_with_len (32 + exported_constants) (length m.signature.constants.items - exported_constants)

abbrev pub AreOrderly : List Module → Type 0
AreOrderly modules = All IsOrderly modules

-- the table of a program has this constant of a module, at a place of the module's signature, with the type that it has in a copy
abbrev pub HasType : Assembled → Copy → Module → (place : ℕ) → ConstantEntry → Type 0
HasType a c m i e = declared_by a.program.bank a.program.constants.items (c.constants (32 + i)) ≡ Some (scheme_in c (entry_scheme m.signature.bank e))
