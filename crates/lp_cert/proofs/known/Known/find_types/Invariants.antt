use Rattle.std.proofs.Common.{◌≡◌, length}
use Rattle.lp_cert.specs.Facts.{IsKnown}
use Rattle.lp_cert.proofs.known.Known.find_types.Given as goal

abbrev pub invariant-loop-number : goal.invariant-loop-number
invariant-loop-number l = record {
  known : IsKnown l.bank l.self;
  next : length l.self.types.items ≡ l.number;
  terms : l.self.terms.items ≡ l.fn.self.terms.items;
}
