use Rattle.std.proofs.Common.{take}
use Rattle.lp_term.specs.Nodes.{Extends}
use Rattle.lp_pattern.specs.Scanning.{AreTerms}
use Rattle.lp_pattern.specs.Settling.{eigens_in}
use Rattle.lp_pattern.proofs.settle.put_stand_ins.Given as goal

abbrev pub invariant-loop-at : goal.invariant-loop-at
invariant-loop-at l = record {
  kept : Extends l.fn.bank l.bank;
  terms : AreTerms l.bank l.ids.items (eigens_in l.side.eigens.items l.opened.level l.opened.depth (take l.at l.eigens));
}
