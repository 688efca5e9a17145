use Rattle.std.proofs.Common.{drop}
use Rattle.lp_term.specs.Nodes.{Extends}
use Rattle.lp_module.specs.inner.Typed.{AreTypedBefore}
use Rattle.lp_module.proofs.sentences.typed_sentences.Given as goal

abbrev pub invariant-loop-at : goal.invariant-loop-at
invariant-loop-at l = Extends l.fn.bank l.bank × AreTypedBefore l.signature l.source l.text.lines.items (drop l.at l.text.lines.items) l.bank l.sentences.items
