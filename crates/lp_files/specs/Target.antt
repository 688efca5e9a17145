-- The file that a command writes, and the line that tells of it.
use Rattle.std.specs.Prelude.{ℕ, List, codes}
use Rattle.lp_lines.specs.Lines.{migrated_line, wrote_line}
use Rattle.lp_words.specs.declared.asked.FileCommand.{FileCommand}
use Rattle.lp_words.specs.declared.asked.FileCommand.TheVariants.{Compile, Link, Migrate}

-- the ending of the file that a command writes
unfoldable pub ending_of : FileCommand → List ℕ
ending_of Compile = codes ".lpo"
ending_of Link = codes ".lp"
ending_of Migrate = codes ".lp"

-- the file was written
unfoldable pub done_line : FileCommand → (file : List ℕ) → List ℕ
done_line Compile file = wrote_line file
done_line Link file = wrote_line file
done_line Migrate file = migrated_line file
