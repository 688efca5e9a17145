-- How what is asked for is carried out.
use Rattle.std.specs.Prelude.{◌≡◌, ◌++◌, ℕ, List, Option, Some, false}
use Rattle.lp_base.specs.Held.{Held}
use Rattle.lp_base.specs.declared.status.Status.{Status}
use Rattle.lp_base.specs.declared.status.Status.TheVariants as variant
use Rattle.lp_cli.specs.Fulfils.{Fulfils}
use Rattle.lp_files.specs.Target.{done_line, ending_of}
use Rattle.lp_lines.specs.Ends.{KeepsFiles, Ran}
use Rattle.lp_judge.specs.Proved.{Proves}
use Rattle.lp_lines.specs.Left.{Leaves}
use Rattle.lp_load.specs.Placed.{WritesPlaced}
use Rattle.lp_watch.specs.Seen.{Seen}
use Rattle.lp_words.specs.Asked.{Asked, files, prove, query_on_texts, writes_file}
use Rattle.lp_words.specs.declared.asked.FileCommand.{FileCommand}
use Rattle.lp_words.specs.declared.asked.Options.{Options}

-- a line on texts is that of the refused one; what the run shows of the outside, by whether it is to write a file; and that what the run says or leaves is true
pub record Does {F K : Type 0} (read_faults misses overs write_faults : F → ℕ) (held : F → Option Held) (faults : K → ℕ) (written : K → Option (List ℕ)) (seen : List Seen) (asked : Asked) (old new : F) (before after : K) (result : Status) : Type 0 where
  pub placed : result ≡ variant.Source → (query : List ℕ) → query_on_texts asked ≡ Some query → WritesPlaced (held old) query (written before) (written after)
  pub ran : Ran read_faults misses overs written old new before after result
  pub keeps : writes_file asked ≡ false → KeepsFiles write_faults held faults old new before after result
  pub leaves : (command : FileCommand) (name : List ℕ) → asked ≡ files command name
      → Leaves write_faults held faults written old new before after (name ++ ending_of command) (done_line command (name ++ ending_of command)) result
  pub fulfils : Fulfils (held old) (held new) seen (written before) (written after) asked result
  pub certifies : (name query : List ℕ) (options : Options) → asked ≡ prove name query options → Proves write_faults held faults written old new before after name result
