-- A part that has become something stands behind those before it.
use Rattle.std.proofs.Common.{◌≡◌, ℕ, List, [], ◌∷◌, ◌++◌, map, ap, sym, ◌∙◌, nat_eq, Option, Some}
use Rattle.std.proofs.lemmas.List.{map-append}
use Rattle.indexmap.specs.IndexMap.{get}
use Rattle.lp_calculus.specs.Types.{Ty, instance}
use Rattle.lp_term.specs.Nodes.{Nodes, tree, type_tree}
use Rattle.lp_term.specs.declared.node.TermId.{TermId}
use Rattle.lp_term.specs.declared.node.TypeId.{TypeId}
use Rattle.lp_model.specs.Pair.{Closing, closed}
use Rattle.lp_pattern.specs.declared.fill.TermsFilled.{TermsFilled}
use Rattle.lp_pattern.specs.declared.fill_types.TypesFilled.{TypesFilled}
use Rattle.lp_pattern.specs.Filling.{AreFilled, HaveBecome}
use Rattle.lp_pattern.specs.FillingTerms.{AreAllFilled, TermsBecome}

pub types_one_more : (b : Nodes) (θ : ℕ → Ty) (done : TypesFilled) (ys ms new : List TypeId) (p k : TypeId) (o : Option TypeId) → new ≡ ms ++ k ∷ [] → o ≡ get nat_eq done.made p.0 → o ≡ Some k →
    AreFilled b θ done → HaveBecome b θ ys ms → HaveBecome b θ (ys ++ p ∷ []) new
types_one_more b θ done ys ms new p k o e g s f h =
    let w = f p.0 k (sym g ∙ s) in
    ap (map (λ t. type_tree b t.0)) e ∙ map-append (λ t. type_tree b t.0) ms (k ∷ []) ∙ (λ i. h i ++ w.is i ∷ []) ∙ sym (map-append (λ t. instance θ (type_tree b t.0)) ys (p ∷ []))

pub terms_one_more : (b : Nodes) (c : Closing) (done : TermsFilled) (ys ms new : List TermId) (p k : TermId) (o : Option TermId) → new ≡ ms ++ k ∷ [] → o ≡ get nat_eq done.terms p.0 → o ≡ Some k →
    AreAllFilled b c done → TermsBecome b c ys ms → TermsBecome b c (ys ++ p ∷ []) new
terms_one_more b c done ys ms new p k o e g s f h =
    let w = f.terms p.0 k (sym g ∙ s) in
    ap (map (λ t. tree b t.0)) e ∙ map-append (λ t. tree b t.0) ms (k ∷ []) ∙ (λ i. h i ++ w.is i ∷ []) ∙ sym (map-append (λ t. closed c (tree b t.0)) ys (p ∷ []))
