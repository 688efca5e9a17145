-- What a module sees of abbreviations: those of signatures use none, since their bodies are types, and those of its text the ones that their words mean.
use Rattle.std.specs.Prelude.{ℕ, List, [], ◌++◌, map}
use Rattle.lp_syntax.specs.declared.text.Sentence.{Sentence}
use Rattle.lp_sig.specs.Abbreviations.{Seen, nothing_seen, seen_text}
use Rattle.lp_sig.specs.Loading.{Way}
use Rattle.lp_sig.specs.Modules.{declarations, of_each, said_of}
use Rattle.lp_sig.specs.Rows.{Row}
use Rattle.lp_sig.specs.declared.entries.AbbreviationEntry.{AbbreviationEntry}
use Rattle.lp_sig.specs.declared.signature.Signature.{Signature}

-- the abbreviations of a signature, with what their bodies use
abbrev pub unused : AbbreviationEntry → Row (List Way)
unused e = (e.name.items, [])

abbrev pub unused_of : Signature → List (Row (List Way))
unused_of s = map unused s.abbreviations.items

-- one more signature, and more of them; of definitions nothing is said
abbrev pub seen_signature : Seen → Signature → Seen
seen_signature z s = record { said = z.said ++ said_of s; definitions = z.definitions; bodies = z.bodies ++ unused_of s }

abbrev pub seen_signatures : Seen → List Signature → Seen
seen_signatures z ss = record { said = z.said ++ of_each said_of ss; definitions = z.definitions; bodies = z.bodies ++ of_each unused_of ss }

-- what a module sees up to the end of its text: its own signature, the others, and what the text says
abbrev pub seen_in_module : Signature → List Signature → List ℕ → List Sentence → Seen
seen_in_module own used text lines = seen_text (seen_signatures (seen_signature nothing_seen own) used) text (declarations lines)
