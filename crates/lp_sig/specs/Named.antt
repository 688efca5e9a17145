-- Types by the names of their kinds, and which constants of one signature another one has with the same types.
use Rattle.std.specs.Prelude.{◌≡◌, ◌-◌, ◌+◌, ◌<◌, ℕ, List, [], ◌∷◌, ◌++◌, map, length, nat_lt, ◌≤◌, Option, Some, slice_get, Contains, All, if◌then◌else◌}
use Rattle.std.specs.List.{range_with_len}
use Rattle.lp_calculus.specs.Types.{Ty, Tys, var, param, con, arrow, no_types, types}
use Rattle.lp_base.specs.declared.place.Spot.{Spot}
use Rattle.lp_syntax.specs.declared.text.Declaration.{Declaration}
use Rattle.lp_syntax.specs.declared.text.Declaration.TheVariants.{Accumulate}
use Rattle.lp_syntax.specs.declared.text.Sentence.{Sentence}
use Rattle.lp_term.specs.Nodes.{type_tree}
use Rattle.lp_term.specs.declared.node.TypeId.{TypeId}
use Rattle.lp_sig.specs.Loading.{accum_words}
use Rattle.lp_sig.specs.Modules.{declarations, first_names, said_in_module, IsApart}
use Rattle.lp_sig.specs.Pieces.{spelled}
use Rattle.lp_sig.specs.Rows.{Row, found}
use Rattle.lp_sig.specs.Said.{Said, a_kind, names_in}
use Rattle.lp_sig.specs.Schemes.{first_variables}
use Rattle.lp_sig.specs.Standard.{standard_kinds, standard_constants}
use Rattle.lp_sig.specs.Constants.{standard_tree}
use Rattle.lp_sig.specs.Words.{meaning_of}
use Rattle.lp_sig.specs.declared.entries.ConstantEntry.{ConstantEntry}
use Rattle.lp_sig.specs.declared.entries.KindEntry.{KindEntry}
use Rattle.lp_sig.specs.declared.signature.Signature.{Signature}

-- a type whose constructors are the names of kinds, where they have some
mutual
  pub data NamedTy : Type 0 where
    named_var : ℕ → NamedTy
    named_param : ℕ → NamedTy
    named_con : Option (List ℕ) → NamedTys → NamedTy
    named_arrow : NamedTy → NamedTy → NamedTy

  pub data NamedTys : Type 0 where
    no_named : NamedTys
    more_named : NamedTy → NamedTys → NamedTys

-- a type, where each number of a kind has this name
abbrev mutual
  pub named : (ℕ → Option (List ℕ)) → Ty → NamedTy
  named κ (var x) = named_var x
  named κ (param k) = named_param k
  named κ (con c ts) = named_con (κ c) (all_named κ ts)
  named κ (arrow a b) = named_arrow (named κ a) (named κ b)

  pub all_named : (ℕ → Option (List ℕ)) → Tys → NamedTys
  all_named κ no_types = no_named
  all_named κ (types t ts) = more_named (named κ t) (all_named κ ts)

-- the name of a kind: one of the language, or one of these, which have the numbers from 8
abbrev pub kind_name : List (List ℕ) → ℕ → Option (List ℕ)
kind_name names k = if nat_lt k 8 then slice_get (names_in standard_kinds) k else slice_get names (k - 8)

abbrev pub kind_names : Signature → List (List ℕ)
kind_names s = map (λ e. e.name.items) s.kinds.items

-- a type of a signature, by the names of its kinds
abbrev pub named_in : Signature → TypeId → NamedTy
named_in s t = named (kind_name (kind_names s)) (type_tree s.bank t.0)

-- each kind of a type has a name
abbrev mutual
  pub IsWhole : NamedTy → Type 0
  IsWhole (named_var x) = Unit {0}
  IsWhole (named_param k) = Unit {0}
  IsWhole (named_con o ts) = ((n : List ℕ) × (o ≡ Some n)) × AreWhole ts
  IsWhole (named_arrow a b) = IsWhole a × IsWhole b

  pub AreWhole : NamedTys → Type 0
  AreWhole no_named = Unit {0}
  AreWhole (more_named t ts) = IsWhole t × AreWhole ts

-- a type holds no type parameter
abbrev mutual
  pub HasNoParam : Ty → Type 0
  HasNoParam (var x) = Unit {0}
  HasNoParam (param k) = ⊥
  HasNoParam (con c ts) = HaveNoParams ts
  HasNoParam (arrow a b) = HasNoParam a × HasNoParam b

  pub HaveNoParams : Tys → Type 0
  HaveNoParams no_types = Unit {0}
  HaveNoParams (types t ts) = HasNoParam t × HaveNoParams ts

-- those of a signature's constants hold none
abbrev pub HasFreeTypes : Signature → Type 0
HasFreeTypes s = All (λ e. HasNoParam (type_tree s.bank e.scheme.0)) s.constants.items

-- a signature has a constant of this name, with so many type variables and this type; every one has those of the language
pub data HasNamed (s : Signature) (name : List ℕ) (count : ℕ) (t : NamedTy) : Type 0 where
  standard_one : (n : ℕ) → found name standard_constants ≡ Some n → t ≡ named (kind_name (kind_names s)) (standard_tree n) → HasNamed s name count t
  declared_one : (e : ConstantEntry) → Contains s.constants.items e → e.name.items ≡ name → e.type_vars ≡ count → named_in s e.scheme ≡ t → HasNamed s name count t

-- each constant of the first signature is one of the second, with the same type
abbrev pub SeesAlike : Signature → Signature → Type 0
SeesAlike u s = (e : ConstantEntry) → Contains u.constants.items e → HasNamed s e.name.items e.type_vars (named_in u e.scheme)

-- kinds have their numbers by their places, the types of constants stand in the bank, have as many type variables as is said, and each of their kinds has a name
pub record IsOrdered (s : Signature) : Type 0 where
  pub kinds : map (λ e. e.number) s.kinds.items ≡ range_with_len 8 (length s.kinds.items)
  pub inside : All (λ e. e.scheme.0 < length s.bank.types) s.constants.items
  pub counts : All (λ e. e.type_vars ≡ length (first_variables (type_tree s.bank e.scheme.0))) s.constants.items
  pub whole : All (λ e. IsWhole (named_in s e.scheme)) s.constants.items

-- the words of accumulate in a text
abbrev pub accumulate_in : List Declaration → List Spot
accumulate_in [] = []
accumulate_in (Accumulate words ∷ ds) = words.items ++ accumulate_in ds
accumulate_in (_ ∷ ds) = accumulate_in ds

-- how many different words of accum_sig it has, and of accumulate
abbrev pub many_words : List ℕ → List Declaration → ℕ
many_words text ds = length (first_names [] (map (spelled text) (accum_words ds))) + length (first_names [] (map (spelled text) (accumulate_in ds)))

-- each kind of a signature means a kind with its count of arguments, where so much is said
abbrev pub MeansKinds : List (Row Said) → List KindEntry → Type 0
MeansKinds said kinds = All (λ e. meaning_of e.name.items said ≡ Some (a_kind e.arity)) kinds

-- The signature of a module has the constants of the module's own signature, and of each signature that a word of its text names, with the same types by the names of kinds, where kinds have their numbers by places and types have as many variables as is said; and it has the kinds of these signatures, with their counts of arguments.
pub record SeesTheirs (own : Signature) (used : List Signature) (text : List ℕ) (lines : List Sentence) (s : Signature) : Type 0 where
  pub own_ones : IsApart own → IsOrdered own → SeesAlike own s
  pub used_kinds : length used ≤ many_words text (declarations lines) → All (λ u. MeansKinds (said_in_module own used text lines) u.kinds.items) used
  pub used_ones : IsApart own → IsOrdered own → All IsOrdered used → (i : ℕ) (u : Signature) → slice_get used i ≡ Some u → i < many_words text (declarations lines) → SeesAlike u s
