use Rattle.std.proofs.Common.{◌≡◌, map, take}
use Rattle.lp_sig.specs.Knowing.{head_row}
use Rattle.lp_sig.specs.Entries.{parameters_row, HaveBodies}
use Rattle.lp_sig.proofs.making.Making.abbreviations.Given as goal

abbrev pub invariant-loop-place : goal.invariant-loop-place
invariant-loop-place l = record {
  rows : map parameters_row l.entries.items ≡ map head_row (take l.place l.self.names.heads.items);
  bodies : HaveBodies l.self.bodies.bodies.items 0 l.entries.items;
}
