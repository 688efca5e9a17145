-- Expressions whose normal forms have values.
use Rattle.std.proofs.Common.{◌≡◌, ◌<◌, ap, sym, subst, ◌∙◌, arith, length}
use Rattle.lp_calculus.specs.Convert.{Converts}
use Rattle.lp_calculus.specs.Normal.{IsFormOf}
use Rattle.lp_calculus.proofs.Steps.{converts_reduces}
use Rattle.lp_term.specs.Nodes.{Nodes, Extends, tree}
use Rattle.lp_term.specs.declared.node.TermId.{TermId}
use Rattle.lp_term.proofs.Trees.{extends-trans}
use Rattle.lp_model.specs.Values.{Value, Is, HasValue, term_of, value}

-- the form was found in m, of what stands in a, and its value in n
pub value_later : (a m n b : Nodes) (e form : TermId) (v : Value) → Extends a m → Extends m n → Extends n b → e.0 < length a.terms → (form.0 < length m.terms) × IsFormOf (tree a e.0) (tree m form.0) → value (tree n form.0) ≡ Is v → HasValue (tree b e.0) v
value_later a m n b e form v g h k l f q =
    let long = extends-trans a n b (extends-trans a m n g h) k in
    record {
      form = tree m form.0;
      is_form = subst (λ t. IsFormOf t (tree m form.0)) (sym (long.same_terms e.0 l)) f.1;
      is = ap value (sym (h.same_terms form.0 f.0)) ∙ q;
    }

pub term_later : (a m n b : Nodes) (t form : TermId) (v : Value) → Extends a m → Extends m n → Extends n b → t.0 < length a.terms → (form.0 < length m.terms) × IsFormOf (tree a t.0) (tree m form.0) → tree n form.0 ≡ term_of v → Converts (tree b t.0) (term_of v)
term_later a m n b t form v g h k l f q =
    let long = extends-trans a n b (extends-trans a m n g h) k in
    subst (λ u. Converts u (term_of v)) (sym (long.same_terms t.0 l)) (subst (λ u. Converts (tree a t.0) u) (sym (h.same_terms form.0 f.0) ∙ q) (converts_reduces f.1.0))

pub inside_on : (a m : Nodes) (t : TermId) → Extends a m → t.0 < length a.terms → t.0 < length m.terms
inside_on a m t g l = let k = g.more_terms in omega (arith, l, k)
