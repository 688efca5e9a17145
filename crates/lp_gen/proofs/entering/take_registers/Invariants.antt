use Rattle.std.proofs.Common.{◌≡◌, ◌+◌}
use Rattle.lp_gen.proofs.entering.take_registers.Given as goal

abbrev pub invariant-loop : goal.invariant-loop
invariant-loop l = record {
  code : l.emitter.code.items ≡ l.fn.emitter.code.items;
  types : l.emitter.types ≡ l.fn.emitter.types;
  place : l.emitter.place ≡ l.fn.emitter.place;
  registers : l.emitter.registers ≡ l.fn.emitter.registers + l.counter;
}
