-- What a walk over files has found of the word `not`.
use Rattle.std.specs.Prelude.{◌≡◌, ℕ, List, All, take}
use Rattle.lp_base.specs.declared.place.Spot.{Spot}
use Rattle.lp_lexer.specs.declared.token.Token.{Token}
use Rattle.lp_sig.specs.Refusals.{IsAt}
use Rattle.lp_build.specs.declared.sources.File.{File}
use Rattle.lp_judge.specs.Negated.{HasFirst, HasNone}

-- the word stands in none of these files
abbrev pub AreFilesWithout : List File → Type 0
AreFilesWithout = All (λ f. HasNone f.text.bytes.items)

-- a token of the file of a number stands there
abbrev pub spot_of : (number : ℕ) → Token → Spot
spot_of number t = record { file = number; from = t.from; to = t.to; at = t.at }

-- the first file that has it, and the spot of the first one there
pub record HasFirstFile (files : List File) (spot : Spot) : Type 0 where
  pub file : File
  pub there : IsAt files spot.file file
  pub none : AreFilesWithout (take spot.file files)
  pub token : Token
  pub first : HasFirst file.text.bytes.items token
  pub is : spot ≡ spot_of spot.file token
