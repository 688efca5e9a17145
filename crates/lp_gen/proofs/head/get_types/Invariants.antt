use Rattle.std.proofs.Common.{map, take}
use Rattle.lp_term.specs.Nodes.{type_tree}
use Rattle.lp_gen.specs.inner.Heading.{TypesGot}
use Rattle.lp_gen.specs.Registers.{head_types_take}
use Rattle.lp_gen.specs.inner.Using.{Uses}
use Rattle.lp_gen.proofs.head.get_types.Given as goal

abbrev pub invariant-loop-at : goal.invariant-loop-at
invariant-loop-at l = TypesGot l.fn.emitter l.emitter (map (λ t. type_tree l.bank t.0) (take l.at l.types))
    × Uses l.fn.emitter l.emitter (head_types_take 0 (map (λ t. type_tree l.bank t.0) (take l.at l.types)))
