-- What a module means.
use Rattle.std.specs.Prelude.{◌≡◌, ℕ, ◌+◌, ◌-◌, List, length, map}
use Rattle.std.specs.List.{range_with_len}
use Rattle.lp_syntax.specs.declared.text.ModuleText.{ModuleText}
use Rattle.lp_sig.specs.AsWritten.{DeclaresTypes}
use Rattle.lp_sig.specs.Modules.{HasSeen}
use Rattle.lp_sig.specs.Named.{SeesTheirs}
use Rattle.lp_sig.specs.Pieces.{spelled}
use Rattle.lp_sig.specs.declared.signature.Signature.{Signature}
use Rattle.lp_module.specs.Clauses.{AreClauses}
use Rattle.lp_module.specs.Sentences.{said, AreWithin}
use Rattle.lp_module.specs.Words.{accumulate_words}
use Rattle.lp_module.specs.declared.module.Module.{Module}

-- A module is what its text means, in a file of this name and over these signatures: the header has the name of the file; the names that it sees are those of its own signature, of the others and of its text, each at its first place, with the types that the signatures give them, and those that its text declares with the types that are written; the accumulated modules are the words of accumulate, in text order; the hidden names are those behind the names of the module's own signature; and its clauses are those of the sentences that are no declarations, in text order.
pub record IsMeaning (source : List ℕ) (text : ModuleText) (expected : List ℕ) (own : Signature) (used : List Signature) (m : Module) : Type 0 where
  pub header : spelled source text.header ≡ expected
  pub name : m.name.items ≡ expected
  pub names : HasSeen own used source text.lines.items m.signature
  pub theirs : SeesTheirs own used source text.lines.items m.signature
  pub declared : DeclaresTypes own used source text.lines.items m.signature
  pub uses : map (λ name. name.items) m.uses.items ≡ map (spelled source) (accumulate_words text.lines.items)
  pub hidden_kinds : m.hidden_kinds.items ≡ range_with_len (8 + length own.kinds.items) (length m.signature.kinds.items - length own.kinds.items)
  pub hidden_constants : m.hidden_constants.items ≡ range_with_len (32 + length own.constants.items) (length m.signature.constants.items - length own.constants.items)
  pub count : length m.clauses.items ≡ length (said text.lines.items)
  pub clauses : AreWithin m.bank m.clauses.items
  pub sentences : AreClauses m.signature source m.bank (said text.lines.items) m.clauses.items
