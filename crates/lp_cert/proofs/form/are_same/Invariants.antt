use Rattle.std.proofs.Common.{◌≡◌}
use Rattle.lp_calculus.specs.Closed.{AllAtoms}
use Rattle.lp_term.specs.Nodes.{tree}
use Rattle.lp_cert.specs.Facts.{IsKnown}
use Rattle.lp_cert.specs.Same.{AreClosedPairs, AreEqual, AreOne}
use Rattle.lp_cert.specs.inner.Named.{HasClosedTypes}
use Rattle.lp_cert.specs.inner.Turned.{ArePlain}
use Rattle.lp_cert.proofs.form.are_same.Given as goal

abbrev pub invariant-loop : goal.invariant-loop
invariant-loop l = record {
  known : IsKnown l.bank l.known;
  closed : AreClosedPairs l.bank l.comparing.types.items;
  plain : AllAtoms HasClosedTypes (tree l.bank l.fn.left.0) → ArePlain l.bank l.comparing.terms.items;
  follows : AllAtoms HasClosedTypes (tree l.bank l.fn.left.0) → tree l.bank l.fn.left.0 ≡ tree l.bank l.fn.right.0 → AreEqual l.bank l.comparing.terms.items × AreOne l.bank l.comparing.types.items;
  leads : AreEqual l.bank l.comparing.terms.items → AreOne l.bank l.comparing.types.items → tree l.bank l.fn.left.0 ≡ tree l.bank l.fn.right.0;
}
