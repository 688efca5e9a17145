-- Where the line of a refusal of texts stands: in a file that the folder tells, or in the query.
use Rattle.std.specs.Prelude.{◌≡◌, ◌⊎◌, ℕ, List, codes, Option}
use Rattle.lp_base.specs.Held.{Held}
use Rattle.lp_base.specs.Written.{Appends}
use Rattle.lp_build.specs.Named.{IsFileAt}
use Rattle.lp_build.specs.Told.{IsTold}
use Rattle.lp_build.specs.declared.sources.File.{File}
use Rattle.lp_lines.specs.Placed.{IfSource, IsBlamed, IsOfText, IsSourceLine}
use Rattle.lp_lines.specs.Refusals.{TellsLimit}
use Rattle.lp_lines.specs.declared.cause.Cause.{Cause}
use Rattle.lp_lines.specs.declared.cause.Cause.TheVariants as cause
use Rattle.lp_lines.specs.declared.refusal.Refusal.{Refusal}
use Rattle.lp_lines.specs.declared.refusal.Refusal.TheVariants.{Memory}

-- the line tells of a file that the folder tells
pub record IsOfFile (told : Option Held) (line : List ℕ) : Type 0 where
  pub file : List ℕ
  pub text : List ℕ
  pub there : IsTold told file text
  pub placed : IsOfText file text line

-- the line tells of a file that the folder tells, or of the query
abbrev pub IsPlaced : Option Held → (query : List ℕ) → (line : List ℕ) → Type 0
IsPlaced told query line = IsOfFile told line ⊎ IsOfText (codes "query") query line

-- such a line is all that is written
pub record WritesPlaced (told : Option Held) (query : List ℕ) (old new : Option (List ℕ)) : Type 0 where
  pub line : List ℕ
  pub placed : IsPlaced told query line
  pub appended : Appends old new line

-- what is refused for a cause in one of these files, which have tokens, says this cause, of the file in which its spot lies
abbrev pub SaysOfFile : List File → Cause → Refusal → Type 0
SaysOfFile files (cause.Text b) r = IsSourceLine (λ line. (name text : List ℕ) × IsFileAt files b.spot.file name text × IsBlamed name text b line) r
SaysOfFile files (cause.Limit l) r = TellsLimit l r
SaysOfFile files _ r = r ≡ Memory
