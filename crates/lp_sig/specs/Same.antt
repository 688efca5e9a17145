-- Two signatures that say the same, whatever numbers their types have in their banks.
use Rattle.std.specs.Prelude.{◌≡◌, ℕ, map}
use Rattle.lp_calculus.specs.Types.{Ty}
use Rattle.lp_term.specs.Nodes.{Nodes, type_tree}
use Rattle.lp_sig.specs.Rows.{Row, kind_row}
use Rattle.lp_sig.specs.declared.entries.ConstantEntry.{ConstantEntry}
use Rattle.lp_sig.specs.declared.signature.Signature.{Signature}

-- a constant with its number, its count of type variables and its type
abbrev pub typed_row : Nodes → ConstantEntry → Row (ℕ × ℕ × Ty)
typed_row b e = (e.name.items, (e.number, e.type_vars, type_tree b e.scheme.0))

-- the same kinds, and the same constants with the same types
pub record AreSameSignatures (s t : Signature) : Type 0 where
  pub kinds : map kind_row s.kinds.items ≡ map kind_row t.kinds.items
  pub constants : map (typed_row s.bank) s.constants.items ≡ map (typed_row t.bank) t.constants.items
