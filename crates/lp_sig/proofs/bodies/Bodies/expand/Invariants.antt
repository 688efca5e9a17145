use Rattle.std.proofs.Common.{◌≡◌, ℕ, List, [], take, Option, None, length}
use Rattle.lp_sig.specs.Abbreviations.{abbreviation_names, uses_in}
use Rattle.lp_sig.specs.Constants.{AreUsesSettled, AllMade}
use Rattle.lp_base.specs.declared.place.Spot.{Spot}
use Rattle.lp_term.specs.Nodes.{Extends}
use Rattle.lp_sig.specs.Rows.{Row}
use Rattle.lp_sig.specs.Said.{Said}
use Rattle.lp_sig.specs.Knowing.{Knows, Holds}
use Rattle.lp_sig.specs.Types.{Definition, by_parameters}
use Rattle.lp_sig.specs.Holding.{AreParameters, AreDone, HoldsBodies}
use Rattle.lp_sig.specs.Ordering.{HasNames, names_behind, in_order}
use Rattle.lp_sig.proofs.Wording.{Finds}
use Rattle.lp_sig.proofs.bodies.Bodies.expand.Given as goal

abbrev pub invariant-loop-node : goal.invariant-loop-node
invariant-loop-node l = record {
  found : (said : List (Row Said)) (vs : Option (List (List ℕ))) → Knows l.names said → Holds l.fn.variables vs → Finds l.source said vs (take l.node-index l.raw.nodes.items) l.fault;
  held : (vs : Option (List (List ℕ))) → Holds l.fn.variables vs → Holds l.variables vs;
  kept : Extends l.fn.self.types.bank l.self.types.bank;
  bodies : l.self.bodies ≡ l.fn.self.bodies;
  closed : (ps : List Spot) → AreParameters l.fn.variables l.source ps → AreParameters l.variables l.source ps;
  count : length l.done.items ≡ l.node-index;
  typed : (said : List (Row Said)) (defs : List (Row Definition)) (ps : List Spot) → Knows l.names said → HoldsBodies l.fn.self.types.bank l.fn.self.bodies.items said defs → AreParameters l.fn.variables l.source ps →
      AreDone l.self.types.bank said defs l.source (by_parameters l.source ps) l.raw.nodes.items l.done.items;
  names : HasNames l.fn.variables [] → HasNames l.variables (names_behind l.source [] (take l.node-index l.raw.nodes.items));
  ordered : (said : List (Row Said)) (defs : List (Row Definition)) → Knows l.names said → HoldsBodies l.fn.self.types.bank l.fn.self.bodies.items said defs → HasNames l.fn.variables [] →
      AreDone l.self.types.bank said defs l.source (in_order l.source l.raw.nodes.items) l.raw.nodes.items l.done.items;
  settled : (said : List (Row Said)) → Knows l.names said → AreUsesSettled l.fn.self.bodies.items (uses_in (abbreviation_names said) l.source l.raw.nodes.items) → l.fault ≡ None → AllMade l.done.items;
}
