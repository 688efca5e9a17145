use Rattle.std.proofs.Common.{◌≡◌, map, length}
use Rattle.lp_term.specs.Nodes.{type_tree}
use Rattle.lp_gen.specs.Registers.{all_take}
use Rattle.lp_gen.specs.inner.Running.{AreTypesPut}
use Rattle.lp_gen.specs.inner.Using.{Uses}
use Rattle.lp_gen.proofs.written_types.put_types.Given as goal

abbrev pub invariant-loop-of : goal.invariant-loop-of
invariant-loop-of l =
    AreTypesPut l.fn.emitter l.emitter l.registers.items (map (λ t. type_tree l.bank t.0) l.yielded) × (length l.registers.items ≡ length l.yielded)
    × Uses l.fn.emitter l.emitter (all_take (map (λ t. type_tree l.bank t.0) l.yielded))
