-- The names of an image and those of a program.
use Rattle.std.specs.Prelude.{◌≡◌, ◌+◌, ℕ, List, length, map, Some, slice_get}
use Rattle.lp_term.specs.Nodes.{type_tree}
use Rattle.lp_model.specs.Readings.{scheme_of}
use Rattle.lp_code.specs.Naming.{scheme_in}
use Rattle.lp_code.specs.declared.image.Image.{Image}
use Rattle.lp_code.specs.declared.image.ImageConstant.{ImageConstant}
use Rattle.lp_link.specs.Names.{constant_row, kind_row}
use Rattle.lp_sig.specs.Refusals.{IsAt}
use Rattle.lp_sig.specs.declared.entries.ConstantEntry.{ConstantEntry}
use Rattle.lp_module.specs.declared.copies.Assembled.{Assembled}
use Rattle.lp_module.specs.declared.copies.GlobalName.{GlobalName}
use Rattle.lp_module.specs.declared.module.Module.{Module}
use Rattle.lp_build.specs.Ready.{IsTypeOver}

-- a kind or constant of a program: its name, its hidden number, and its arity
abbrev pub full_row : GlobalName → List ℕ × (ℕ × ℕ)
full_row g = (g.name.items, (g.hidden, g.arity))

-- a name with its hidden number
abbrev pub short_row : {A : Type 0} → List ℕ × (ℕ × A) → List ℕ × ℕ
short_row row = (row.0, row.1.0)

-- the same kinds with the same arities, and the same constants, in the same order: each is global in both, or the hidden one of the same number of its name
pub record HasSameNames (a : Assembled) (i : Image) : Type 0 where
  pub kinds : map kind_row i.kinds.items ≡ map full_row a.kinds.items
  pub constants : map short_row (map constant_row i.constants.items) ≡ map short_row (map full_row a.constants.items)

-- the constants of both have the same types
abbrev pub HasSameTypes : Assembled → Image → Type 0
HasSameTypes a i = map (λ (c : ImageConstant). scheme_in i.bank c.type_vars c.scheme.0) i.constants.items ≡ map (scheme_of a.program.bank) a.program.constants.items

-- the types of the constants that a module sees hold no other kinds than those of the language and those that it sees
abbrev pub HasOwnTypes : Module → Type 0
HasOwnTypes m = (i : ℕ) (e : ConstantEntry) → IsAt m.signature.constants.items i e → IsTypeOver (8 + length m.signature.kinds.items) (type_tree m.signature.bank e.scheme.0)

abbrev pub HaveOwnTypes : List Module → Type 0
HaveOwnTypes modules = (k : ℕ) (m : Module) → slice_get modules k ≡ Some m → HasOwnTypes m
