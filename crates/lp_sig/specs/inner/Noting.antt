-- What has been seen of abbreviations and their uses behind some entries of a signature, and some sentences of a module.
use Rattle.std.specs.Prelude.{ℕ, List, ◌++◌, map}
use Rattle.lp_syntax.specs.declared.text.Declaration.{Declaration}
use Rattle.lp_sig.specs.Abbreviations.{Seen, bodies_in}
use Rattle.lp_sig.specs.Modules.{abbreviation_said}
use Rattle.lp_sig.specs.Said.{said_in}
use Rattle.lp_sig.specs.SeenByModules.{unused}
use Rattle.lp_sig.specs.declared.entries.AbbreviationEntry.{AbbreviationEntry}

-- abbreviations that use none
abbrev pub with_unused : Seen → List AbbreviationEntry → Seen
with_unused z es = record { said = z.said ++ map abbreviation_said es; definitions = z.definitions; bodies = z.bodies ++ map unused es }

-- some declarations, where the names of abbreviations are these; of definitions nothing is said
abbrev pub seen_lines : List (List ℕ) → Seen → List ℕ → List Declaration → Seen
seen_lines names z text lines = record { said = z.said ++ said_in text lines; definitions = z.definitions; bodies = z.bodies ++ bodies_in names text lines }
