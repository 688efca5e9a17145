use Rattle.std.proofs.Common.{◌++◌, length, take}
use Rattle.lp_term.specs.Nodes.{Extends}
use Rattle.lp_pattern.specs.Reading.{side_of}
use Rattle.lp_pattern.specs.Scanning.{AreTerms, low_eigens, allowed_places}
use Rattle.lp_pattern.proofs.prune.put_allowed.Given as goal

abbrev pub invariant-loop-k : goal.invariant-loop-k
invariant-loop-k l = record {
  kept : Extends l.fn.bank l.bank;
  terms : AreTerms l.bank l.arguments.items (low_eigens l.level l.yielded);
}

abbrev pub invariant-loop-at : goal.invariant-loop-at
invariant-loop-at l = record {
  kept : Extends l.fn.bank l.bank;
  terms : AreTerms l.bank l.arguments.items (low_eigens l.level l.side.eigens.items ++ allowed_places (side_of l.side) (length l.eigens) (take l.at l.eigens));
}
