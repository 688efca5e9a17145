-- How the signatures that a module's text names go with one another: words have numbers by first place, and each word is that of a signature that goes with those before it.
use Rattle.std.specs.Global.{Global}
use Rattle.std.specs.Prelude.{◌≡◌, ◌+◌, ◌<◌, ℕ, List, [], map, length, Some, Vec, slice_get, Contains, All}
use Rattle.std.specs.Str.{bytes_eq}
use Rattle.std.specs.Map.{lookup}
use Rattle.indexmap.specs.IndexMap.{IndexMap}
use Rattle.indexmap.specs.IndexSet.{IndexSet, contains_by}
use Rattle.lp_syntax.specs.declared.text.Declaration.{Declaration}
use Rattle.lp_sig.specs.Pieces.{spelled}
use Rattle.lp_sig.specs.Places.{first_place}
use Rattle.lp_sig.specs.Said.{is_among}
use Rattle.lp_sig.specs.Loading.{accum_words}
use Rattle.lp_sig.specs.Modules.{first_names}
use Rattle.lp_sig.specs.Named.{accumulate_in}
use Rattle.lp_sig.specs.declared.constants.Constant.{Constant}
use Rattle.lp_sig.specs.declared.constants.DeclaredType.{DeclaredType}
use Rattle.lp_sig.specs.declared.entries.ConstantEntry.{ConstantEntry}
use Rattle.lp_sig.specs.declared.see.Sight.{Sight}
use Rattle.lp_sig.specs.declared.see.Sight.TheVariants.{Alike}

-- a table has the first places of these words among them
abbrev pub HasNumbers : {S : Type 0} → IndexMap (Vec ℕ Global) ℕ S → List (List ℕ) → Type 0
HasNumbers numbers words = ((name : List ℕ) → lookup (λ k. bytes_eq name k.items) numbers.entries ≡ first_place name (first_names [] words)) × (length numbers.entries ≡ length (first_names [] words))

-- a set has these names
abbrev pub HasKeys : {S : Type 0} → IndexSet (Vec ℕ Global) S → List (List ℕ) → Type 0
HasKeys set names = (name : List ℕ) → contains_by (λ k. bytes_eq name k.items) set ≡ is_among name names

-- what the words of a kind of sentence are
abbrev pub signature_words : List ℕ → List Declaration → List (List ℕ)
signature_words text ds = map (λ s. spelled text s) (accum_words ds)

abbrev pub module_words : List ℕ → List Declaration → List (List ℕ)
module_words text ds = map (λ s. spelled text s) (accumulate_in ds)

-- the first so many go with those before them
abbrev pub AreAlike : List Sight → ℕ → Type 0
AreAlike sights n = (i : ℕ) → i < n → slice_get sights i ≡ Some Alike

-- that of a word does, where numbers begin at this one
abbrev pub IsAlike : List Sight → (from : ℕ) → (all : List (List ℕ)) → List ℕ → Type 0
IsAlike sights from all word = (i : ℕ) → first_place word (first_names [] all) ≡ Some i → slice_get sights (from + i) ≡ Some Alike

-- a sight is that of a word, where numbers begin at this one
abbrev pub IsSightOf : List Sight → (from : ℕ) → (all : List (List ℕ)) → List ℕ → Sight → Type 0
IsSightOf sights from all word s = (i : ℕ) × (first_place word (first_names [] all) ≡ Some i) × (slice_get sights (from + i) ≡ Some s)

-- those of all words of some declarations do
abbrev pub AreWordsAlike : List Sight → (text : List ℕ) → (signatures modules : List (List ℕ)) → List Declaration → Type 0
AreWordsAlike sights text signatures modules ds =
    All (IsAlike sights 0 signatures) (signature_words text ds) × All (IsAlike sights (length (first_names [] signatures)) modules) (module_words text ds)

-- the entries of a signature are the constants, with their types
abbrev pub AreTheirEntries : List Constant → List ConstantEntry → Type 0
AreTheirEntries constants entries =
    (k : Constant) → Contains constants k → (d : DeclaredType) → k.declared ≡ Some d → (e : ConstantEntry) × Contains entries e × (e.name.items ≡ k.name.items) × (e.type_vars ≡ d.type_vars) × (e.scheme ≡ d.scheme)
