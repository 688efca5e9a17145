use Rattle.std.proofs.Common.{◌≡◌, length}
use Rattle.lp_calculus.specs.Closed.{AreClosed}
use Rattle.lp_cert.specs.Facts.{IsKnown}
use Rattle.lp_cert.specs.Same.{AreClosedPairs, AreOne, types_in}
use Rattle.lp_cert.proofs.form.Comparing.push_types.Given as goal

abbrev pub invariant-types : goal.invariant-types
invariant-types l = record {
  known : IsKnown l.bank l.known;
  closed : AreClosedPairs l.bank l.fn.self.types.items → AreClosedPairs l.bank l.self.types.items;
  one : AreOne l.bank l.self.types.items → types_in l.bank l.ones.items ≡ types_in l.bank l.others.items → AreOne l.bank l.fn.self.types.items × (types_in l.bank l.fn.left ≡ types_in l.bank l.fn.right);
  terms : l.self.terms.items ≡ l.fn.self.terms.items;
  same : AreClosed (types_in l.bank l.fn.left) → types_in l.bank l.fn.left ≡ types_in l.bank l.fn.right → AreClosed (types_in l.bank l.ones.items) × (types_in l.bank l.ones.items ≡ types_in l.bank l.others.items);
  follows : AreClosed (types_in l.bank l.fn.left) → AreOne l.bank l.fn.self.types.items → types_in l.bank l.fn.left ≡ types_in l.bank l.fn.right → AreOne l.bank l.self.types.items;
}

abbrev pub decreases-types : goal.decreases-types
decreases-types l = length l.ones.items
