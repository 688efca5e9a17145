use Rattle.std.proofs.Common.{◌≡◌, [], length, take}
use Rattle.lp_term.specs.Nodes.{Extends}
use Rattle.lp_cert.specs.Facts.{AreInside, IsKnown}
use Rattle.lp_cert.specs.inner.Left.{Stays}
use Rattle.lp_cert.specs.inner.Named.{AreWitnessesIn, variable_types}
use Rattle.lp_cert.proofs.work.Work.are_values.Given as goal

abbrev pub invariant-loop-at : goal.invariant-loop-at
invariant-loop-at l = record {
  kept : Extends l.fn.bank l.bank;
  known : IsKnown l.bank l.self.known;
  stays : Stays l.fn.self l.self;
  values : l.fn.self.eigens.items ≡ [] → AreInside (length l.fn.bank.types) l.fn.types → AreWitnessesIn l.bank l.fn.self.theory.constants.now l.fn.types (take l.at l.fn.values) (take l.at (variable_types l.fn.query));
}
