-- What was read of files: of each its tokens, and what it says of other files and of operators.
use Rattle.std.specs.Prelude.{◌≡◌, ℕ, ◌++◌, ◌≤◌, length, string_bytes}
use Rattle.lp_base.specs.declared.limits.TheConstants.{MAX_MODULES}
use Rattle.lp_lexer.specs.Lexis.{HasTokens}
use Rattle.lp_syntax.specs.Tokens.{lexemes, spot_at}
use Rattle.lp_syntax.specs.References.{AreReferences}
use Rattle.lp_sig.specs.Refusals.{IsAt}
use Rattle.lp_build.specs.Loads.{ending}
use Rattle.lp_build.specs.declared.sources.File.{File}
use Rattle.lp_build.specs.declared.sources.Sources.{Sources}
use Rattle.lp_build.specs.declared.sources.Text.{Text}

-- the tokens of a text, which is the file of a number, and its sentences that name other files or declare operators
pub record IsReadText (number : ℕ) (text : Text) : Type 0 where
  pub tokens : HasTokens text.bytes.items text.tokens.items
  pub references : AreReferences (spot_at number text.bytes.items text.tokens.items) (lexemes text.bytes.items text.tokens.items) (length text.tokens.items) text.references

-- a file has the name of its module, with the ending of its part, and its text was read
pub record IsReadFile (number : ℕ) (file : File) : Type 0 where
  pub name : string_bytes file.name ≡ string_bytes file.module ++ ending file.part
  pub text : IsReadText number file.text

-- so is each of these files, of which there are no more than the limit
pub record AreRead (sources : Sources) : Type 0 where
  pub few : length sources.files.items ≤ MAX_MODULES
  pub each : (number : ℕ) (file : File) → IsAt sources.files.items number file → IsReadFile number file
