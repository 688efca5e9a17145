-- What queries on a program see: the names of the root's own signature, under the numbers of the program.
use Rattle.std.specs.Prelude.{◌≡◌, ℕ, suc, ◌+◌, ◌<◌, List, [], ◌∷◌, length, map, filter, find, fold, codes, not, is_some, nat_eq, unwrap_or, ◌++◌, ◌&&◌, Bool, Option, Some, None, option_map, if◌then◌else◌}
use Rattle.std.specs.List.{AllZip}
use Rattle.std.specs.Str.{bytes_eq}
use Rattle.lp_calculus.specs.Types.{var}
use Rattle.lp_calculus.specs.Term.{atom, logic}
use Rattle.lp_fixity.specs.Table.{standard}
use Rattle.lp_syntax.specs.Tokens.{Operators}
use Rattle.lp_syntax.specs.Modules.{DeclaresOne}
use Rattle.lp_term.specs.Mapped.{Map, mapped_type}
use Rattle.lp_term.specs.Nodes.{type_tree}
use Rattle.lp_sig.specs.Rows.{Row, kind_row, constant_row, fixity_row}
use Rattle.lp_sig.specs.declared.entries.ConstantEntry.{ConstantEntry}
use Rattle.lp_sig.specs.declared.entries.FixityEntry.{FixityEntry}
use Rattle.lp_sig.specs.declared.signature.Signature.{Signature}
use Rattle.lp_module.specs.declared.copies.GlobalName.{GlobalName}

-- whether a name of a program is the global one of this name
abbrev pub is_global_of : List ℕ → GlobalName → Bool
is_global_of name g = nat_eq g.hidden 0 && bytes_eq name g.name.items

-- the place of the first global one of a name
abbrev pub global_of : List GlobalName → List ℕ → Option ℕ
global_of [] name = None
global_of (g ∷ gs) name = if is_global_of name g then Some 0 else option_map (λ i. suc i) (global_of gs name)

-- its number, where those of the list are numbered from a number on
abbrev pub number_among : (first : ℕ) → List GlobalName → List ℕ → Option ℕ
number_among first gs name = option_map (λ i. first + i) (global_of gs name)

-- a kind of the signature, and the same under its number in the program
pub record IsKindOf (kinds : List GlobalName) (old new : Row (ℕ × ℕ)) : Type 0 where
  pub name : new.0 ≡ old.0
  pub number : number_among 8 kinds old.0 ≡ Some new.1.0
  pub arity : new.1.1 ≡ old.1.1

-- so with a constant; its type stands at the same number
pub record IsConstantOf (constants : List GlobalName) (old new : Row (ℕ × ℕ × ℕ)) : Type 0 where
  pub name : new.0 ≡ old.0
  pub number : number_among 32 constants old.0 ≡ Some new.1.0
  pub variables : new.1.1 ≡ old.1.1
  pub scheme : new.1.2 ≡ old.1.2

-- the kinds of a signature, under the numbers that they have there, become kinds of the program; other numbers stay
abbrev pub as_row : List GlobalName → (ℕ → ℕ) → Row (ℕ × ℕ) → ℕ → ℕ
as_row kinds f row k = if nat_eq row.1.0 k then unwrap_or (number_among 8 kinds row.0) k else f k

abbrev pub kind_numbers : List GlobalName → List (Row (ℕ × ℕ)) → ℕ → ℕ
kind_numbers kinds rows = fold (as_row kinds) (λ k. k) rows

-- types with other numbers for kinds
abbrev pub with_kinds : (ℕ → ℕ) → Map
with_kinds f = record { kinds = f; constants = λ k. k; types = var; terms = λ x l. atom (logic x l) }

-- a fixity is seen where the signature declares a constant of its name, but for `&`
abbrev pub is_seen : List ConstantEntry → List ℕ → Bool
is_seen constants name = not (bytes_eq name (codes "&")) && is_some (find (λ e. bytes_eq name e.name.items) constants)

-- the names that queries see of a signature in a program of these kinds and constants
pub record IsSeenByQueries (own : Signature) (kinds constants : List GlobalName) (s : Signature) : Type 0 where
  pub kinds_are : AllZip (IsKindOf kinds) (map kind_row own.kinds.items) (map kind_row s.kinds.items)
  pub constants_are : AllZip (IsConstantOf constants) (map constant_row own.constants.items) (map constant_row s.constants.items)
  pub types_are : (i : ℕ) → i < length own.bank.types → type_tree s.bank i ≡ mapped_type (with_kinds (kind_numbers kinds (map kind_row own.kinds.items))) (type_tree own.bank i)
  pub no_abbreviations : length s.abbreviations.items ≡ 0
  pub fixities_are : map fixity_row s.fixities.items ≡ map fixity_row (filter (λ e. is_seen own.constants.items e.name.items) own.fixities.items)

-- the operators of a signature's fixities, behind the standard ones; none has another entry
pub data DeclareEntries (ops : Operators) : List FixityEntry → Operators → Type 0 where
  declare_no_entry : (after : Operators) → ((name : List ℕ) → after name ≡ ops name) → DeclareEntries ops [] after
  declare_entry : (es all : List FixityEntry) (e : FixityEntry) (now after : Operators) → DeclareEntries ops es now → DeclaresOne e.name.items (e.fixity, e.number) now after → all ≡ es ++ e ∷ [] → DeclareEntries ops all after

pub record AreOperatorsOf (s : Signature) (operators : Operators) : Type 0 where
  pub first : Operators
  pub standard_ones : (name : List ℕ) → first name ≡ standard name
  pub declared : DeclareEntries first s.fixities.items operators
