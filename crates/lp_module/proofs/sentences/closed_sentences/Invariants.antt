use Rattle.std.proofs.Common.{take}
use Rattle.lp_term.specs.Nodes.{Extends}
use Rattle.lp_module.specs.inner.Typed.{AreClosed}
use Rattle.lp_module.proofs.sentences.closed_sentences.Given as goal

abbrev pub invariant-loop-at : goal.invariant-loop-at
invariant-loop-at l = Extends l.fn.bank l.bank × AreClosed l.bank (take l.at l.sentences) l.clauses.items
