use Rattle.lp_infer.specs.Making.{MakesFresh}
use Rattle.lp_infer.proofs.generate.Typing.new_variables.Given as goal

abbrev pub invariant-loop : goal.invariant-loop
invariant-loop l = MakesFresh l.fn.self l.self l.counter l.ids.items
