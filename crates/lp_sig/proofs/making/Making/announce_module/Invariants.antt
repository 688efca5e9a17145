use Rattle.lp_sig.specs.Holding.{KnowsBodies, line_of_module}
use Rattle.lp_sig.specs.Types.{Definition, definitions_in}
use Rattle.std.proofs.Common.{◌≡◌, List, take, ◌++◌}
use Rattle.lp_sig.specs.Rows.{Row}
use Rattle.lp_sig.specs.Said.{Said, said_in}
use Rattle.lp_sig.specs.Knowing.{Knows}
use Rattle.lp_sig.specs.Modules.{declarations}
use Rattle.lp_sig.proofs.making.Making.announce_module.Given as goal

abbrev pub invariant-loop-at : goal.invariant-loop-at
invariant-loop-at l = record {
  names : (said : List (Row Said)) → Knows l.fn.self.names said → Knows l.self.names (said ++ said_in l.source (declarations (take l.at l.text.lines.items)));
  constants : l.self.constants ≡ l.fn.self.constants;
  types : l.self.bodies.types ≡ l.fn.self.bodies.types;
  operators : l.self.operators ≡ l.fn.self.operators;
  uses : l.self.uses ≡ l.fn.self.uses;
  bodies : (said : List (Row Said)) (defs : List (Row Definition)) → Knows l.fn.self.names said → KnowsBodies l.fn.self.bodies.types.bank l.fn.self.bodies.bodies.items said defs l.source (line_of_module l.text.lines.items) →
      KnowsBodies l.self.bodies.types.bank l.self.bodies.bodies.items (said ++ said_in l.source (declarations (take l.at l.text.lines.items))) (defs ++ definitions_in l.source (declarations (take l.at l.text.lines.items))) l.source (line_of_module l.text.lines.items);
}
