-- Why a command writes no file, and what is written of it.
use Rattle.std.specs.Prelude.{◌≡◌, ◌≢◌, ℕ, List, Option}
use Rattle.lp_base.specs.Held.{Held}
use Rattle.lp_base.specs.Written.{Appends}
use Rattle.lp_base.specs.declared.status.Status.{Status}
use Rattle.lp_base.specs.declared.status.Status.TheVariants as variant
use Rattle.lp_lines.specs.Refusals.{line_of, status_of}
use Rattle.lp_lines.specs.declared.refusal.Refusal.{Refusal}
use Rattle.lp_words.specs.declared.asked.FileCommand.{FileCommand}
use Rattle.lp_words.specs.declared.asked.FileCommand.TheVariants.{Compile, Link, Migrate}
use Rattle.lp_files.specs.Made.{WritesMade}
use Rattle.lp_files.specs.Uncompiled.{IsUncompiled}
use Rattle.lp_files.specs.Unlinked.{IsUnlinked, IsUnmigrated}

abbrev pub IsRefused : (told : Option Held) → FileCommand → (name : List ℕ) → Refusal → Type 0
IsRefused told Compile name r = IsUncompiled told name r
IsRefused told Link name r = IsUnlinked told name r
IsRefused told Migrate name r = IsUnmigrated told name r

-- the line of a refusal that has its cause is all that is written
pub record WritesRefused (told : Option Held) (command : FileCommand) (name : List ℕ) (before after : Option (List ℕ)) (result : Status) : Type 0 where
  pub refusal : Refusal
  pub cause : IsRefused told command name refusal
  pub status_is : result ≡ status_of refusal
  pub appended : Appends before after (line_of refusal)

-- What a command on files comes to: its file has bytes of its kind; or the line of a refusal with its cause is written. Of a run that lacked memory, or could not write, this says nothing.
pub record Makes (told now : Option Held) (command : FileCommand) (name : List ℕ) (before after : Option (List ℕ)) (result : Status) : Type 0 where
  pub made : result ≡ variant.Done → WritesMade told now command name
  pub refused : result ≢ variant.Done → result ≢ variant.WriteFault → result ≢ variant.Memory → WritesRefused told command name before after result
