-- Conditions that hold of a bank hold of each bank that it grows to.
use Rattle.std.proofs.Common.{◌≡◌, ◌<◌, List, length, subst, sym, arith}
use Rattle.std.proofs.lemmas.List.Elements.{All-weaker}
use Rattle.lp_calculus.specs.Closed.{AreClosed}
use Rattle.lp_term.specs.Nodes.{Nodes, Extends}
use Rattle.lp_term.specs.declared.node.TermId.{TermId}
use Rattle.lp_model.specs.declared.program.Declared.{Declared}
use Rattle.lp_cert.specs.Inside.{AreTermsInside, AreDeclaredInside}
use Rattle.lp_cert.specs.Same.{types_in}
use Rattle.lp_cert.specs.inner.Named.{IsSettled}
use Rattle.lp_cert.specs.declared.work.Work.{Work}
use Rattle.lp_cert.proofs.Naming.{closed_types_later}

pub declared_later : (b c : Nodes) (cs : List Declared) → Extends b c → AreDeclaredInside (length b.types) cs → AreDeclaredInside (length c.types) cs
declared_later b c cs g h = All-weaker (λ (x : Declared). x.scheme.0 < length b.types) (λ (x : Declared). x.scheme.0 < length c.types) (λ x l. let m = g.more_types in omega (arith, l, m)) cs h

pub terms_later : (b c : Nodes) (ids : List TermId) → Extends b c → AreTermsInside (length b.terms) ids → AreTermsInside (length c.terms) ids
terms_later b c ids g h = All-weaker (λ (x : TermId). x.0 < length b.terms) (λ (x : TermId). x.0 < length c.terms) (λ x l. let m = g.more_terms in omega (arith, l, m)) ids h

pub settled_later : (b c : Nodes) (w : Work) → Extends b c → IsSettled b w → IsSettled c w
settled_later b c w g s = record { eigens = closed_types_later b c w.eigens.items g s.eigens; constants = declared_later b c w.theory.constants.now g s.constants }

-- the same work, but for what is known
pub settled_same : (b : Nodes) (w v : Work) → v.theory ≡ w.theory → v.eigens ≡ w.eigens → IsSettled b w → IsSettled b v
settled_same b w v t e s = record {
  eigens = subst (λ x. AreClosed (types_in b x.items)) (sym e) s.eigens;
  constants = subst (λ x. AreDeclaredInside (length b.types) x.constants.now) (sym t) s.constants;
}
