-- Which signatures a module sees, and which operators are in force at its beginning.
use Rattle.std.specs.Prelude.{◌≡◌, ℕ, suc, ◌+◌, ◌⊎◌, List, [], ◌∷◌, ◌++◌, map, get_or, filter_map, option_map, nat_eq, Bool, false, Option, Some, None, Contains, string_bytes, if◌then◌else◌}
use Rattle.std.specs.Str.{bytes_eq}
use Rattle.indexmap.specs.IndexSet.{insert_all}
use Rattle.lp_base.specs.declared.place.Spot.{Spot}
use Rattle.lp_fixity.specs.Table.{standard}
use Rattle.lp_syntax.specs.declared.text.FixityLine.{FixityLine}
use Rattle.lp_syntax.specs.Tokens.{Operators}
use Rattle.lp_syntax.specs.Modules.{DeclaresOne}
use Rattle.lp_sig.specs.Pieces.{spelled}
use Rattle.lp_sig.specs.Refusals.{IsAt}
use Rattle.lp_build.specs.declared.sources.File.{File}
use Rattle.lp_build.specs.declared.sources.Part.{Part}
use Rattle.lp_build.specs.declared.sources.Part.TheVariants as part

-- whether a file of this part and this module is the signature of a name
abbrev pub is_signature : Part → (module_name : List ℕ) → (name : List ℕ) → Bool
is_signature part.Signature own name = bytes_eq name own
is_signature part.Module own name = false

-- the number of the first signature of a name
abbrev pub signature_of : List File → (name : List ℕ) → Option ℕ
signature_of [] name = None
signature_of (f ∷ fs) name = if is_signature f.part (string_bytes f.module) name then Some 0 else option_map (λ i. suc i) (signature_of fs name)

-- each of these numbers once, by its first place
abbrev pub each_once : List ℕ → List ℕ
each_once numbers = insert_all nat_eq [] numbers

-- the signatures that words of a text name, each once, by first place; a word that names none is passed over
abbrev pub named_by : List File → (text : List ℕ) → List Spot → List ℕ
named_by files text words = each_once (filter_map (λ w. signature_of files (spelled text w)) words)

-- the signatures that a file names in its accum_sig sentences, and those of the modules that it names in its accumulate sentences
abbrev pub accum_sig_of : List File → File → List ℕ
accum_sig_of files f = named_by files f.text.bytes.items f.text.references.accum_sig.items

abbrev pub accumulate_of : List File → File → List ℕ
accumulate_of files f = named_by files f.text.bytes.items f.text.references.accumulate.items

-- the same of the file of a number
abbrev pub accum_sig_at : List File → ℕ → List ℕ
accum_sig_at files n = get_or (map (accum_sig_of files) files) n []

abbrev pub accumulate_at : List File → ℕ → List ℕ
accumulate_at files n = get_or (map (accumulate_of files) files) n []

-- a module's own signature, one that it names by accum_sig, or that of a module that it accumulates
abbrev pub SeesFirst : List File → (file : ℕ) → (module_name : List ℕ) → ℕ → Type 0
SeesFirst files file name k = (signature_of files name ≡ Some k) ⊎ (Contains (accum_sig_at files file) k ⊎ Contains (accumulate_at files file) k)

-- the signatures that a module sees: these, and those that one of them names by accum_sig, and so on
pub data Sees (files : List File) (file : ℕ) (name : List ℕ) : ℕ → Type 0 where
  sees_first : (k : ℕ) → SeesFirst files file name k → Sees files file name k
  sees_more : (j k : ℕ) → Sees files file name j → Contains (accum_sig_at files j) k → Sees files file name k

-- these sentences declare the names of their operators one after the other, none of which has another entry
pub data DeclareAll (text : List ℕ) (ops : Operators) : List FixityLine → Operators → Type 0 where
  declare_none : (after : Operators) → ((name : List ℕ) → after name ≡ ops name) → DeclareAll text ops [] after
  declare_more : (lines all : List FixityLine) (l : FixityLine) (now after : Operators) → DeclareAll text ops lines now → DeclaresOne (spelled text l.name) (l.fixity, l.number) now after → all ≡ lines ++ l ∷ [] → DeclareAll text ops all after

-- the operators behind the first files: the standard ones, and those of the signatures among these files that are seen, in load order
pub data InForce (files : List File) (IsSeen : ℕ → Type 0) : ℕ → Operators → Type 0 where
  standard_ones : (ops : Operators) → ((name : List ℕ) → ops name ≡ standard name) → InForce files IsSeen 0 ops
  seen_file : (n m : ℕ) (f : File) (ops after : Operators) → InForce files IsSeen n ops → IsAt files n f → IsSeen n → DeclareAll f.text.bytes.items ops f.text.references.fixities.items after → m ≡ n + 1 → InForce files IsSeen m after
  other_file : (n m : ℕ) (ops : Operators) → InForce files IsSeen n ops → (IsSeen n → ⊥) → m ≡ n + 1 → InForce files IsSeen m ops
