use Rattle.std.proofs.Common.{[], map}
use Rattle.lp_module.specs.Making.{MakesNames}
use Rattle.lp_module.specs.Program.{kind_as, hidden_among}
use Rattle.lp_module.specs.inner.Assembling.{AddsNames}
use Rattle.lp_module.proofs.copies.Making.add_hidden_kinds.Given as goal

abbrev pub invariant-loop-number : goal.invariant-loop-number
invariant-loop-number l = MakesNames l.fn.self l.self × AddsNames l.fn.self l.self (map (kind_as 1) (hidden_among 8 l.yielded l.copy.module.now.signature.kinds.items)) [] []
