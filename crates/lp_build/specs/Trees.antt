-- The trees of the texts of files, in load order.
use Rattle.std.specs.Global.{Global}
use Rattle.std.specs.Prelude.{◌≡◌, ◌≢◌, ℕ, ◌+◌, List, [], ◌∷◌, ◌++◌, length, String, Vec, string_bytes}
use Rattle.lp_syntax.specs.declared.text.ModuleText.{ModuleText}
use Rattle.lp_syntax.specs.declared.text.SignatureText.{SignatureText}
use Rattle.lp_syntax.specs.Tokens.{Operators, lexemes, spot_at}
use Rattle.lp_syntax.specs.Signatures.{IsSignatureText}
use Rattle.lp_syntax.specs.Modules.{IsModuleText}
use Rattle.lp_sig.specs.Refusals.{IsAt}
use Rattle.lp_build.specs.Sights.{Sees, InForce}
use Rattle.lp_build.specs.declared.sources.File.{File}
use Rattle.lp_build.specs.declared.sources.Part.{Part}
use Rattle.lp_build.specs.declared.sources.Part.TheVariants as part
use Rattle.lp_build.specs.declared.texts.Group.{Group}

-- the tree of a signature's tokens
abbrev pub IsSignatureTree : ℕ → File → SignatureText → Type 0
IsSignatureTree n f t = IsSignatureText (spot_at n f.text.bytes.items f.text.tokens.items) (lexemes f.text.bytes.items f.text.tokens.items) t

-- the tree of a module's tokens, under the operators of the signatures that the module sees, and then its own
pub record IsModuleTree (files : List File) (n : ℕ) (f : File) (t : ModuleText) : Type 0 where
  pub before : Operators
  pub after : Operators
  pub force : InForce files (Sees files n (string_bytes f.module)) (length files) before
  pub tree : IsModuleText (spot_at n f.text.bytes.items f.text.tokens.items) before after (lexemes f.text.bytes.items f.text.tokens.items) t

-- the texts of one part among the first files, in load order: the numbers of their files, the names of their modules, their bytes and their trees
pub data AreTexts {T : Type 0} (p : Part) (IsTree : ℕ → File → T → Type 0) (files : List File) : ℕ → List ℕ → List (String Global) → List (Vec ℕ Global) → List T → Type 0 where
  no_text : AreTexts p IsTree files 0 [] [] [] []
  other_text : (n m : ℕ) (f : File) (numbers : List ℕ) (names : List (String Global)) (sources : List (Vec ℕ Global)) (trees : List T) →
      AreTexts p IsTree files n numbers names sources trees → IsAt files n f → f.part ≢ p → m ≡ n + 1 → AreTexts p IsTree files m numbers names sources trees
  one_text : (n m : ℕ) (f : File) (name : String Global) (source : Vec ℕ Global) (tree : T) (numbers all_numbers : List ℕ) (names all_names : List (String Global)) (sources all_sources : List (Vec ℕ Global)) (trees all_trees : List T) →
      AreTexts p IsTree files n numbers names sources trees → IsAt files n f → f.part ≡ p → string_bytes name ≡ string_bytes f.module → source.items ≡ f.text.bytes.items → IsTree n f tree → m ≡ n + 1 →
      all_numbers ≡ numbers ++ n ∷ [] → all_names ≡ names ++ name ∷ [] → all_sources ≡ sources ++ source ∷ [] → all_trees ≡ trees ++ tree ∷ [] → AreTexts p IsTree files m all_numbers all_names all_sources all_trees

-- the texts of one part among the first files, as a group
abbrev pub IsGroup : {T : Type 0} → Part → (ℕ → File → T → Type 0) → List File → ℕ → Group T → Type 0
IsGroup p IsTree files n g = AreTexts p IsTree files n g.numbers.items g.names.items g.sources.items g.texts.items

-- the signatures and the modules among the first files
abbrev pub AreSignatureTexts : List File → ℕ → Group SignatureText → Type 0
AreSignatureTexts files n g = IsGroup part.Signature IsSignatureTree files n g

abbrev pub AreModuleTexts : List File → ℕ → Group ModuleText → Type 0
AreModuleTexts files n g = IsGroup part.Module (IsModuleTree files) files n g
