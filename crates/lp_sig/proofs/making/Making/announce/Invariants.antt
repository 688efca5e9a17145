use Rattle.std.proofs.Common.{◌≡◌, ℕ, List, take, ◌++◌}
use Rattle.lp_sig.specs.Rows.{Row}
use Rattle.lp_sig.specs.Said.{Said, said_in}
use Rattle.lp_sig.specs.Knowing.{Knows}
use Rattle.lp_sig.specs.Types.{Definition, definitions_in}
use Rattle.lp_sig.specs.Holding.{KnowsBodies, line_of_text}
use Rattle.lp_sig.specs.Constants.{IsSettledAt}
use Rattle.lp_sig.specs.Announced.{AreAnnounced}
use Rattle.lp_sig.proofs.making.Making.announce.Given as goal

abbrev pub invariant-loop-line : goal.invariant-loop-line
invariant-loop-line l = record {
  names : (said : List (Row Said)) → Knows l.fn.self.names said → Knows l.self.names (said ++ said_in l.source (take l.line l.text.lines.items));
  operators : l.self.operators ≡ l.fn.self.operators;
  constants : l.self.constants ≡ l.fn.self.constants;
  types : l.self.bodies.types ≡ l.fn.self.bodies.types;
  uses : l.self.uses ≡ l.fn.self.uses;
  stay : (k : ℕ) → IsSettledAt l.fn.self.bodies.bodies.items k → IsSettledAt l.self.bodies.bodies.items k;
  announced : (from : ℕ) (said : List (Row Said)) (defs : List (Row Definition)) → Knows l.fn.self.names said → KnowsBodies
      l.fn.self.bodies.types.bank l.fn.self.bodies.bodies.items said defs l.source (line_of_text l.text.lines.items) → AreAnnounced from
      l.fn.self.bodies.bodies.items said l.source (line_of_text l.text.lines.items) →
      AreAnnounced from l.self.bodies.bodies.items (said ++ said_in l.source (take l.line l.text.lines.items)) l.source (line_of_text l.text.lines.items);
  bodies : (said : List (Row Said)) (defs : List (Row Definition)) → Knows l.fn.self.names said → KnowsBodies l.fn.self.bodies.types.bank l.fn.self.bodies.bodies.items said defs l.source (line_of_text l.text.lines.items) →
      KnowsBodies l.self.bodies.types.bank l.self.bodies.bodies.items (said ++ said_in l.source (take l.line l.text.lines.items)) (defs ++ definitions_in l.source (take l.line l.text.lines.items)) l.source (line_of_text l.text.lines.items);
}
