use Rattle.std.proofs.Common.{◌≡◌, length}
use Rattle.lp_cert.specs.Facts.{IsKnown}
use Rattle.lp_cert.proofs.known.Known.find_terms.Given as goal

abbrev pub invariant-loop-number : goal.invariant-loop-number
invariant-loop-number l = record {
  known : IsKnown l.bank l.self;
  next : length l.self.terms.items ≡ l.number;
  types : length l.self.types.items ≡ length l.bank.types;
}
