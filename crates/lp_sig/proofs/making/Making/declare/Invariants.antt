use Rattle.std.proofs.Common.{ℕ, List, map, take, ◌++◌}
use Rattle.lp_standard.specs.declared.fixity.Fixity.{Fixity}
use Rattle.lp_sig.specs.Limits.{AreWithin}
use Rattle.lp_sig.specs.Rows.{Row}
use Rattle.lp_sig.specs.Said.{said_in, fixities_in}
use Rattle.lp_sig.specs.Knowing.{Knows, KnowsOperators}
use Rattle.lp_sig.specs.Types.{definitions_in}
use Rattle.lp_sig.specs.Standing.{seen_count, AllStand}
use Rattle.lp_sig.specs.Abbreviations.{Seen, seen_text, KnowsUses}
use Rattle.lp_sig.specs.Constants.{Written, constants_in, KnowsConstants, AreSettledIf}
use Rattle.lp_sig.specs.Declares.{AreAllTyped}
use Rattle.lp_sig.specs.Faults.{AreSound}
use Rattle.lp_sig.specs.Holding.{KnowsBodies, KnowsSeen, line_of_text}
use Rattle.lp_sig.proofs.TextTaken.{AreDeclaredIf}
use Rattle.lp_sig.proofs.making.Making.declare.Given as goal

abbrev pub invariant-loop-declaration : goal.invariant-loop-declaration
invariant-loop-declaration l = record {
  within : AreWithin l.source (take l.declaration-index l.text.lines.items);
  sound : (z : Seen) → KnowsSeen l.fn.self z → AreSound (seen_count z) l.source (seen_text z l.source l.text.lines.items) (take l.declaration-index l.text.lines.items);
  names : (z : Seen) → KnowsSeen l.fn.self z → Knows l.self.names (z.said ++ said_in l.source l.text.lines.items);
  uses : (z : Seen) → KnowsSeen l.fn.self z → KnowsUses (map (λ out. out.items) l.self.uses.ways.items) (seen_text z l.source l.text.lines.items);
  bodies : (z : Seen) → KnowsSeen l.fn.self z → KnowsBodies l.self.bodies.types.bank l.self.bodies.bodies.items (z.said ++ said_in l.source l.text.lines.items) (z.definitions ++ definitions_in l.source l.text.lines.items) l.source (line_of_text l.text.lines.items);
  constants : (z : Seen) (rows : List (Row Written)) → KnowsSeen l.fn.self z → KnowsConstants l.fn.self.bodies.types.bank l.fn.self.constants z.said z.definitions rows →
      KnowsConstants l.self.bodies.types.bank l.self.constants (z.said ++ said_in l.source l.text.lines.items) (z.definitions ++ definitions_in l.source l.text.lines.items) (rows ++ constants_in l.source (take l.declaration-index l.text.lines.items));
  stand : (z : Seen) → KnowsSeen l.fn.self z → AreSound (seen_count z) l.source (seen_text z l.source l.text.lines.items) l.text.lines.items → AllStand (seen_count z) (seen_text z l.source l.text.lines.items);
  settled : (z : Seen) → KnowsSeen l.fn.self z → AreSettledIf (seen_count z) (seen_text z l.source l.text.lines.items) l.self.bodies.bodies.items;
  typed : (z : Seen) (rows : List (Row Written)) → KnowsSeen l.fn.self z → KnowsConstants l.fn.self.bodies.types.bank l.fn.self.constants z.said z.definitions rows → AreAllTyped l.fn.self z rows →
      AreDeclaredIf (seen_count z) (seen_text z l.source l.text.lines.items) rows (constants_in l.source (take l.declaration-index l.text.lines.items)) l.self.constants;
  operators : (said : List (Row (Fixity × ℕ))) → KnowsOperators l.fn.self.operators said → KnowsOperators l.self.operators (said ++ fixities_in l.source (take l.declaration-index l.text.lines.items));
}
