use Rattle.std.proofs.Common.{take}
use Rattle.lp_sig.specs.Modules.{declarations, constant_names_in}
use Rattle.lp_sig.specs.ModuleFaults.{kind_names_in}
use Rattle.lp_sig.specs.Sights.{HasKeys, HasNumbers, signature_words, module_words}
use Rattle.lp_sig.proofs.hearing.Said.of.Given as goal

abbrev pub invariant-loop-at : goal.invariant-loop-at
invariant-loop-at l = record {
  signatures : HasNumbers l.said.accum_sigs (signature_words l.source (declarations (take l.at l.text.lines.items)));
  kinds : HasKeys l.said.kinds (kind_names_in l.source (declarations (take l.at l.text.lines.items)));
  constants : HasKeys l.said.constants (constant_names_in l.source (declarations (take l.at l.text.lines.items)));
  modules : HasNumbers l.said.accumulates (module_words l.source (declarations (take l.at l.text.lines.items)));
}
