use Rattle.std.proofs.Common.{◌≡◌, length}
use Rattle.std.specs.Prelude.{All}
use Rattle.lp_calculus.specs.Closed.{AllAtoms}
use Rattle.lp_term.specs.Nodes.{Nodes}
use Rattle.lp_cert.specs.inner.Named.{HasClosedTypes}
use Rattle.lp_cert.specs.inner.Turned.{ArePlain}
use Rattle.lp_cert.specs.Same.{AreEqual, terms_in}
use Rattle.lp_cert.proofs.form.Comparing.push_terms.Given as goal

abbrev pub invariant-terms : goal.invariant-terms
invariant-terms l = record {
  equal : (b : Nodes) → AreEqual b l.self.terms.items → terms_in b l.left.items ≡ terms_in b l.right.items → AreEqual b l.fn.self.terms.items × (terms_in b l.fn.ones.items ≡ terms_in b l.fn.others.items);
  types : l.self.types.items ≡ l.fn.self.types.items;
  follows : (b : Nodes) → AreEqual b l.fn.self.terms.items → terms_in b l.fn.ones.items ≡ terms_in b l.fn.others.items → AreEqual b l.self.terms.items × (terms_in b l.left.items ≡ terms_in b l.right.items);
  same : (b : Nodes) → terms_in b l.fn.ones.items ≡ terms_in b l.fn.others.items → terms_in b l.left.items ≡ terms_in b l.right.items;
  plain : (b : Nodes) → ArePlain b l.fn.self.terms.items → All (AllAtoms HasClosedTypes) (terms_in b l.fn.ones.items) → ArePlain b l.self.terms.items × All (AllAtoms HasClosedTypes) (terms_in b l.left.items);
}

abbrev pub decreases-terms : goal.decreases-terms
decreases-terms l = length l.left.items
