-- The entries of a signature as plain rows, in the order of first declaration: a name with what stands beside it.
use Rattle.std.specs.Prelude.{ℕ, List, Option}
use Rattle.std.specs.Str.{bytes_eq}
use Rattle.std.specs.Map.{lookup}
use Rattle.lp_standard.specs.declared.fixity.Fixity.{Fixity}
use Rattle.lp_sig.specs.declared.entries.KindEntry.{KindEntry}
use Rattle.lp_sig.specs.declared.entries.ConstantEntry.{ConstantEntry}
use Rattle.lp_sig.specs.declared.entries.AbbreviationEntry.{AbbreviationEntry}
use Rattle.lp_sig.specs.declared.entries.FixityEntry.{FixityEntry}

abbrev pub Row : Type 0 → Type 0
Row A = List ℕ × A

-- what stands beside the first row of a name
abbrev pub found : {A : Type 0} → List ℕ → List (Row A) → Option A
found name rows = lookup (λ n. bytes_eq name n) rows

-- a kind with its number and its count of arguments
abbrev pub kind_row : KindEntry → Row (ℕ × ℕ)
kind_row e = (e.name.items, (e.number, e.arity))

-- a constant with its number, its count of type variables and the number of its type
abbrev pub constant_row : ConstantEntry → Row (ℕ × ℕ × ℕ)
constant_row e = (e.name.items, (e.number, e.type_vars, e.scheme.0))

-- a constant with its number alone
abbrev pub number_row : ConstantEntry → Row ℕ
number_row e = (e.name.items, e.number)

-- an abbreviation with its count of parameters and the number of its body
abbrev pub abbreviation_row : AbbreviationEntry → Row (ℕ × ℕ)
abbreviation_row e = (e.name.items, (e.type_vars, e.body.0))

abbrev pub fixity_row : FixityEntry → Row (Fixity × ℕ)
fixity_row e = (e.name.items, (e.fixity, e.number))
