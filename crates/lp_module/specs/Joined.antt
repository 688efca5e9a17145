-- Modules that go with one another: what one exports, those that accumulate it see with the same types.
use Rattle.std.specs.Prelude.{◌≡◌, ◌+◌, ◌<◌, ◌⊎◌, ℕ, List, [], ◌++◌, map, length, get_or, None, Some, slice_get, Contains}
use Rattle.lp_calculus.specs.Types.{Ty, Tys, var, param, con, arrow, no_types, types}
use Rattle.lp_term.specs.Nodes.{type_tree}
use Rattle.lp_model.specs.Proofs.{Declared}
use Rattle.lp_sig.specs.Named.{IsWhole, named_in}
use Rattle.lp_sig.specs.Rows.{found, kind_row, number_row}
use Rattle.lp_sig.specs.Standard.{standard_kinds, standard_constants}
use Rattle.lp_sig.specs.declared.entries.ConstantEntry.{ConstantEntry}
use Rattle.lp_sig.specs.declared.entries.KindEntry.{KindEntry}
use Rattle.lp_sig.specs.declared.signature.Signature.{Signature}
use Rattle.lp_infer.specs.Texts.{entry_scheme}
use Rattle.lp_module.specs.Copies.{uses_of}
use Rattle.lp_module.specs.Orderly.{AreOrderly}
use Rattle.lp_module.specs.Program.{Copy, place_in, scheme_in}
use Rattle.lp_module.specs.declared.module.Module.{Module}

-- the kinds and constants of a signature have their numbers by their places, and are found by their names
pub record IsNumberedSignature (s : Signature) : Type 0 where
  pub kinds : (i : ℕ) (e : KindEntry) → slice_get s.kinds.items i ≡ Some e → found e.name.items (standard_kinds ++ map kind_row s.kinds.items) ≡ Some (8 + i, e.arity)
  pub constants : (i : ℕ) (e : ConstantEntry) → slice_get s.constants.items i ≡ Some e → (e.number ≡ 32 + i) × (found e.name.items (standard_constants ++ map number_row s.constants.items) ≡ Some (32 + i))

-- each kind of a type is one of the language, or one that a module exports
abbrev pub IsExportedKind : Module → ℕ → Type 0
IsExportedKind m k = (k < 8) ⊎ ((i : ℕ) × (k ≡ 8 + i) × (i < length m.signature.kinds.items) × (place_in m.hidden_kinds.items k ≡ None))

abbrev mutual
  pub IsExportedType : Module → Ty → Type 0
  IsExportedType m (var x) = Unit {0}
  IsExportedType m (param k) = Unit {0}
  IsExportedType m (con c ts) = IsExportedKind m c × AreExportedTypes m ts
  IsExportedType m (arrow a b) = IsExportedType m a × IsExportedType m b

  pub AreExportedTypes : Module → Tys → Type 0
  AreExportedTypes m no_types = Unit {0}
  AreExportedTypes m (types t ts) = IsExportedType m t × AreExportedTypes m ts

-- a module sees a constant that another one exports: it has one of the name, with as many type variables and the same type, by the names of kinds
pub record SeesExported (above m : Module) (e : ConstantEntry) : Type 0 where
  pub whole : IsWhole (named_in m.signature e.scheme)
  pub exported : IsExportedType m (type_tree m.signature.bank e.scheme.0)
  pub place : ℕ
  pub seen : ConstantEntry
  pub at : slice_get above.signature.constants.items place ≡ Some seen
  pub name : seen.name.items ≡ e.name.items
  pub count : seen.type_vars ≡ e.type_vars
  pub same : named_in above.signature seen.scheme ≡ named_in m.signature e.scheme

-- so with all that it exports
abbrev pub IsJoined : (above m : Module) → Type 0
IsJoined above m = (i : ℕ) (e : ConstantEntry) → slice_get m.signature.constants.items i ≡ Some e → place_in m.hidden_constants.items (32 + i) ≡ None → SeesExported above m e

-- modules, each of which sees what those export that it accumulates
pub record AreJoined (modules : List Module) : Type 0 where
  pub orderly : AreOrderly modules
  pub numbered : (k : ℕ) (m : Module) → slice_get modules k ≡ Some m → IsNumberedSignature m.signature
  pub joined : (k j : ℕ) (above m : Module) → slice_get modules k ≡ Some above → Contains (get_or (uses_of modules) k []) j → slice_get modules j ≡ Some m → IsJoined above m

-- the constants that a module sees have, under the numbers of a copy, the types that its signature has for them
abbrev pub DeclaresCopy : Declared → Copy → Signature → Type 0
DeclaresCopy d c s = (e : ConstantEntry) → Contains s.constants.items e → d (c.constants e.number) ≡ Some (scheme_in c (entry_scheme s.bank e))
