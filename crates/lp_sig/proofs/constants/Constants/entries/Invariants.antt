use Rattle.std.specs.Prelude.{All, is_some}
use Rattle.std.proofs.Common.{◌≡◌, List, map, take, ◌≤◌, ◌+◌, true}
use Rattle.lp_term.specs.Nodes.{Nodes}
use Rattle.lp_sig.specs.Rows.{Row, number_row}
use Rattle.lp_sig.specs.Modules.{numbered_names}
use Rattle.lp_sig.specs.Said.{Said}
use Rattle.lp_sig.specs.Sights.{AreTheirEntries}
use Rattle.lp_sig.specs.Types.{Definition}
use Rattle.lp_sig.specs.Constants.{Written, AreInStep, IsNoted, IsConstant}
use Rattle.lp_sig.proofs.constants.Constants.entries.Given as goal

abbrev pub invariant-loop-place : goal.invariant-loop-place
invariant-loop-place l = record {
  numbers : 32 + l.place ≤ 65535;
  listed : (b : Nodes) (said : List (Row Said)) (defs : List (Row Definition)) (rows : List (Row Written)) → AreInStep (IsNoted b said defs) 32 rows
      l.self.constants.items → AreInStep (IsConstant b said defs) 32 (take l.place rows) l.entries.items;
  rows : map number_row l.entries.items ≡ numbered_names 32 (map (λ k. k.name.items) (take l.place l.self.constants.items));
  typed : AreTheirEntries (take l.place l.self.constants.items) l.entries.items;
  full : All (λ k. is_some k.declared ≡ true) (take l.place l.self.constants.items);
}
