-- Pairs in the place of others: they have the same trees, so what is read off them is the same.
use Rattle.std.proofs.Common.{◌≡◌, ℕ, List, [], ◌∷◌, ◌++◌, map, length, ◌∙◌, sym, ap, subst as transport, Some}
use Rattle.std.specs.Prelude.{All}
use Rattle.std.proofs.lemmas.List.{map-append}
use Rattle.std.proofs.lemmas.List.Elements.{All-nil}
use Rattle.lp_lemmas.proofs.Elements.{All_pushed}
use Rattle.lp_lemmas.proofs.Lists.{cons_head, cons_tail, map_pushed}
use Rattle.lp_calculus.specs.Types.{Ty, instance}
use Rattle.lp_term.specs.Nodes.{Nodes, tree, type_tree}
use Rattle.lp_term.specs.declared.node.TypeId.{TypeId}
use Rattle.lp_model.specs.Pair.{Pair, Closing, closed}
use Rattle.lp_model.specs.declared.answer.Pair.{Pair as Numbers}
use Rattle.lp_pattern.specs.Growing.{IsPairOf}
use Rattle.lp_pattern.specs.Inside.{IsTypePairOf, ArePairsInPlaceOf, AreTypePairsInPlaceOf}
use Rattle.lp_pattern.specs.Reading.{type_pair_of, type_pairs_of}
use Rattle.lp_pattern.specs.Turning.{IsPairFor, ArePairsFor}
use Rattle.lp_pattern.specs.Unifying.{pair_of, pairs_at}

pub none_in_place : (b d : Nodes) (made : List Numbers) → made ≡ [] → ArePairsInPlaceOf b d [] made
none_in_place b d made e = record {
  within = transport (All (IsPairOf (length d.terms))) (sym e) (All-nil (IsPairOf (length d.terms)));
  trees = ap (map (pair_of d)) e;
}

same_pair : (b d : Nodes) (p q : Numbers) → tree d q.left.0 ≡ tree b p.left.0 → tree d q.right.0 ≡ tree b p.right.0 → q.level ≡ p.level → pair_of d q ≡ pair_of b p
same_pair b d p q l r k = λ i. record { left = l i; right = r i; level = k i }

pub one_more_in_place : (b d : Nodes) (old made new : List Numbers) (p q : Numbers) → new ≡ made ++ q ∷ [] → ArePairsInPlaceOf b d old made → IsPairOf (length d.terms) q →
    tree d q.left.0 ≡ tree b p.left.0 → tree d q.right.0 ≡ tree b p.right.0 → q.level ≡ p.level → ArePairsInPlaceOf b d (old ++ p ∷ []) new
one_more_in_place b d old made new p q e h w l r k = record {
  within = All_pushed (IsPairOf (length d.terms)) new made q e h.within w;
  trees =
      map_pushed (pair_of d) made new q e ∙ ap (λ x. x ++ pair_of d q ∷ []) h.trees ∙ ap (λ x. pairs_at b old ++ x ∷ []) (same_pair b d p q l r k) ∙
      sym (map-append (pair_of b) old (p ∷ []));
}

pub no_types_in_place : (b d : Nodes) (made : List (TypeId × TypeId)) → made ≡ [] → AreTypePairsInPlaceOf b d [] made
no_types_in_place b d made e = record {
  within = transport (All (IsTypePairOf (length d.types))) (sym e) (All-nil (IsTypePairOf (length d.types)));
  trees = λ θ. ap (map (type_pair_of d θ)) e;
}

same_types : (b d : Nodes) (θ : ℕ → Ty) (p q : TypeId × TypeId) → type_tree d q.0.0 ≡ type_tree b p.0.0 → type_tree d q.1.0 ≡ type_tree b p.1.0 → type_pair_of d θ q ≡ type_pair_of b θ p
same_types b d θ p q l r = λ i. record { left = instance θ (l i); right = instance θ (r i) }

pub one_more_type_in_place : (b d : Nodes) (old made new : List (TypeId × TypeId)) (p q : TypeId × TypeId) → new ≡ made ++ q ∷ [] → AreTypePairsInPlaceOf b d old made →
    IsTypePairOf (length d.types) q → type_tree d q.0.0 ≡ type_tree b p.0.0 → type_tree d q.1.0 ≡ type_tree b p.1.0 → AreTypePairsInPlaceOf b d (old ++ p ∷ []) new
one_more_type_in_place b d old made new p q e h w l r = record {
  within = All_pushed (IsTypePairOf (length d.types)) new made q e h.within w;
  trees = λ θ.
      map_pushed (type_pair_of d θ) made new q e ∙ ap (λ x. x ++ type_pair_of d θ q ∷ []) (h.trees θ) ∙ ap (λ x. type_pairs_of b θ old ++ x ∷ []) (same_types b d θ p q l r) ∙
      sym (map-append (type_pair_of b θ) old (p ∷ []));
}

-- pairs of the definition stand for what has their trees
pair_for : (b d : Nodes) (c : Closing) (q r : Numbers) (p : Pair) → pair_of d r ≡ pair_of b q → IsPairFor b c q p → IsPairFor d c r p
pair_for b d c q r p e h = record {
  stands = h.stands ∙ sym (ap (λ x. x.level) e);
  left = (h.left.0, h.left.1 ∙ ap (λ x. Some (closed c x)) (sym (ap (λ x. x.left) e)));
  right = (h.right.0, h.right.1 ∙ ap (λ x. Some (closed c x)) (sym (ap (λ x. x.right) e)));
}

pub pairs_for : (b d : Nodes) (c : Closing) (qs rs : List Numbers) (ps : List Pair) → pairs_at d rs ≡ pairs_at b qs → ArePairsFor b c qs ps → ArePairsFor d c rs ps
pairs_for b d c [] [] ps e h = h
pairs_for b d c [] (r ∷ rs) ps e h = absurd (cc)
pairs_for b d c (q ∷ qs) [] ps e h = absurd (cc)
pairs_for b d c (q ∷ qs) (r ∷ rs) [] e h = h
pairs_for b d c (q ∷ qs) (r ∷ rs) (p ∷ ps) e h = (
  pair_for b d c q r p (cons_head (pair_of d r) (pair_of b q) (pairs_at d rs) (pairs_at b qs) e) h.0,
  pairs_for b d c qs rs ps (cons_tail (pair_of d r) (pair_of b q) (pairs_at d rs) (pairs_at b qs) e) h.1,
)
