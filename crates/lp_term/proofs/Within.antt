-- Numbers of a bank, and their trees, as the bank grows.
use Rattle.std.proofs.Common.{◌≡◌, ℕ, zero, suc, take, get_or, ◌<◌, ◌≤◌, List, [], ◌∷◌, ◌++◌, length, map, refl, sym, ap, ◌∙◌, arith, subst as transport, ◌≢◌, length-append}
use Rattle.std.specs.Prelude.{All}
use Rattle.std.proofs.lemmas.List.Elements.{All-weaker, All-nil, All-cons, All-head, All-tail, All-push}
use Rattle.std.proofs.lemmas.List.{map-append}
use Rattle.lp_calculus.specs.Types.{var}
use Rattle.lp_calculus.specs.Term.{Term, index}
use Rattle.lp_term.specs.Node.{TermBelow, app_node}
use Rattle.lp_term.specs.Nodes.{Nodes, Extends, tree, type_tree}
use Rattle.lp_term.specs.Within.{IsTermOf, AreTermsOf, IsTypeOf, AreTypesOf, AreInPlaceOf, AreTypesInPlaceOf}
use Rattle.lp_term.specs.declared.node.TermId.{TermId}
use Rattle.lp_term.specs.declared.node.TypeId.{TypeId}
use Rattle.lp_term.proofs.Trees.{extends-trans, tree-past, type_tree-past}
use Rattle.lp_term.proofs.Walks.{map_map}

-- a bank that has grown twice
pub kept_then : (a b c : Nodes) → Extends a b → Extends b c → Extends a c
kept_then a b c e f = extends-trans a b c e f

pub term_later : (b c : Nodes) (t : TermId) → Extends b c → IsTermOf b t → IsTermOf c t
term_later b c t e h = omega (arith, e.more_terms, h)

pub type_later : (b c : Nodes) (t : TypeId) → Extends b c → IsTypeOf b t → IsTypeOf c t
type_later b c t e h = omega (arith, e.more_types, h)

pub terms_later : (b c : Nodes) (ids : List TermId) → Extends b c → AreTermsOf b ids → AreTermsOf c ids
terms_later b c ids e a = All-weaker (IsTermOf b) (IsTermOf c) (λ t h. omega (arith, e.more_terms, h)) ids a

pub types_later : (b c : Nodes) (ids : List TypeId) → Extends b c → AreTypesOf b ids → AreTypesOf c ids
types_later b c ids e a = All-weaker (IsTypeOf b) (IsTypeOf c) (λ t h. omega (arith, e.more_types, h)) ids a

pub trees_later : (b c : Nodes) (ids : List TermId) → Extends b c → AreTermsOf b ids → map (λ t. tree c t.0) ids ≡ map (λ t. tree b t.0) ids
trees_later b c [] e a = refl
trees_later b c (t ∷ ts) e a = λ j. e.same_terms t.0 (a 0 t (omega arith)) j ∷ trees_later b c ts e (All-tail (IsTermOf b) t ts a) j

pub type_trees_later : (b c : Nodes) (ids : List TypeId) → Extends b c → AreTypesOf b ids → map (λ t. type_tree c t.0) ids ≡ map (λ t. type_tree b t.0) ids
type_trees_later b c [] e a = refl
type_trees_later b c (t ∷ ts) e a = λ j. e.same_types t.0 (a 0 t (omega arith)) j ∷ type_trees_later b c ts e (All-tail (IsTypeOf b) t ts a) j

-- the parts of a node, as numbers of the bank
pub all_of : {X : Type 0} (f : X → ℕ) (n : ℕ) (xs : List X) → All (λ i. i < n) (map f xs) → All (λ x. f x < n) xs
all_of f n [] a = All-nil (λ x. f x < n)
all_of f n (x ∷ xs) a = All-cons (λ x. f x < n) x xs (All-head (λ i. i < n) (f x) (map f xs) a) (all_of f n xs (All-tail (λ i. i < n) (f x) (map f xs) a))

pub arguments_are_terms : (b : Nodes) (head : TermId) (args : List TermId) → TermBelow (length b.types) (length b.terms) (app_node head.0 (map (λ t. t.0) args)) → IsTermOf b head × AreTermsOf b args
arguments_are_terms b head args h = (h.0, all_of (λ t. t.0) (length b.terms) args h.1)

-- a number outside a bank has the tree of the number that stands for it
pub stands_for : (b c : Nodes) (t u : TermId) → Extends b c → length b.terms ≤ t.0 → tree c u.0 ≡ index 0 → tree c u.0 ≡ tree b t.0
stands_for b c t u e h q = q ∙ sym (tree-past b t.0 h)

pub type_stands_for : (b c : Nodes) (t u : TypeId) → Extends b c → length b.types ≤ t.0 → type_tree c u.0 ≡ var 0 → type_tree c u.0 ≡ type_tree b t.0
type_stands_for b c t u e h q = q ∙ sym (type_tree-past b t.0 h)

pub none_in_place : (b c : Nodes) (made : List TermId) → made ≡ [] → AreInPlaceOf b c [] made
none_in_place b c made e = record {
  within = transport (λ l. All (λ i. i < length c.terms) (map (λ t. t.0) l)) (sym e) (All-nil (λ i. i < length c.terms));
  trees = ap (map (λ t. tree c t.0)) e;
}

pub none_types_in_place : (b c : Nodes) (made : List TypeId) → made ≡ [] → AreTypesInPlaceOf b c [] made
none_types_in_place b c made e = record {
  within = transport (λ l. All (λ i. i < length c.types) (map (λ t. t.0) l)) (sym e) (All-nil (λ i. i < length c.types));
  trees = ap (map (λ t. type_tree c t.0)) e;
}

pub one_more_in_place : (b c : Nodes) (ids made new : List TermId) (t u : TermId) → new ≡ made ++ u ∷ [] → AreInPlaceOf b c ids made → u.0 < length c.terms → tree c u.0 ≡ tree b t.0 → AreInPlaceOf b c (ids ++ t ∷ []) new
one_more_in_place b c ids made new t u e h l q = record {
  within =
      transport (All (λ i. i < length c.terms)) (sym (ap (map (λ t. t.0)) e ∙ map-append (λ t. t.0) made (u ∷ [])))
      (All-push (λ i. i < length c.terms) (map (λ t. t.0) made) u.0 h.within l);
  trees =
      ap (map (λ t. tree c t.0)) e ∙ map-append (λ t. tree c t.0) made (u ∷ []) ∙ (λ j. h.trees j ++ q j ∷ []) ∙
      sym (map-append (λ t. tree b t.0) ids (t ∷ []));
}

pub one_more_types_in_place : (b c : Nodes) (ids made new : List TypeId) (t u : TypeId) → new ≡ made ++ u ∷ [] → AreTypesInPlaceOf b c ids made → u.0 < length c.types → type_tree c u.0 ≡ type_tree b t.0 →
    AreTypesInPlaceOf b c (ids ++ t ∷ []) new
one_more_types_in_place b c ids made new t u e h l q = record {
  within =
      transport (All (λ i. i < length c.types)) (sym (ap (map (λ t. t.0)) e ∙ map-append (λ t. t.0) made (u ∷ [])))
      (All-push (λ i. i < length c.types) (map (λ t. t.0) made) u.0 h.within l);
  trees =
      ap (map (λ t. type_tree c t.0)) e ∙ map-append (λ t. type_tree c t.0) made (u ∷ []) ∙ (λ j. h.trees j ++ q j ∷ []) ∙
      sym (map-append (λ t. type_tree b t.0) ids (t ∷ []));
}

pub take_next : {X : Type 0} (d : X) (xs : List X) (k m : ℕ) → m ≡ suc k → k < length xs → take m xs ≡ take k xs ++ get_or xs k d ∷ []
take_next d [] k m e l = absurd (omega arith)
take_next d (x ∷ xs) zero m e l = ap (λ n. take n (x ∷ xs)) e
take_next d (x ∷ xs) (suc k) m e l = ap (λ n. take n (x ∷ xs)) e ∙ ap (λ ys. x ∷ ys) (take_next d xs k (suc k) refl (omega arith))

abbrev any_term : TermId
any_term = record { 0 = 0 }

abbrev any_type : TypeId
any_type = record { 0 = 0 }

pub next_in_place : (b c : Nodes) (ids made new : List TermId) (k m : ℕ) (u : TermId) → m ≡ suc k → k < length ids → new ≡ made ++ u ∷ [] → AreInPlaceOf b c (take k ids) made → u.0 < length c.terms →
    tree c u.0 ≡ tree b (get_or ids k any_term).0 → AreInPlaceOf b c (take m ids) new
next_in_place b c ids made new k m u e g n h l q =
    transport (λ ys. AreInPlaceOf b c ys new) (sym (take_next any_term ids k m e g)) (one_more_in_place b c (take k ids) made new (get_or ids k any_term) u n h l q)

pub next_types_in_place : (b c : Nodes) (ids made new : List TypeId) (k m : ℕ) (u : TypeId) → m ≡ suc k → k < length ids → new ≡ made ++ u ∷ [] → AreTypesInPlaceOf b c (take k ids) made → u.0 < length c.types →
    type_tree c u.0 ≡ type_tree b (get_or ids k any_type).0 → AreTypesInPlaceOf b c (take m ids) new
next_types_in_place b c ids made new k m u e g n h l q =
    transport (λ ys. AreTypesInPlaceOf b c ys new) (sym (take_next any_type ids k m e g)) (one_more_types_in_place b c (take k ids) made new (get_or ids k any_type) u n h l q)

same_none : (f g : TermId → Term) (args made : List TermId) → map f made ≡ map g args → args ≢ [] → map (λ t. t.0) made ≢ []
same_none f g args (t ∷ made) q n e = cc
same_none f g [] [] q n e = n refl
same_none f g (a ∷ args) [] q n e = cc

pub application_fits_in_place : (b c : Nodes) (top : TermId) (args made slice : List TermId) → top.0 < length c.terms → AreInPlaceOf b c args made → slice ≡ made → args ≢ [] →
    TermBelow (length c.types) (length c.terms) (app_node top.0 (map (λ t. t.0) slice))
application_fits_in_place b c top args made slice l h e n =
    transport (λ ys. TermBelow (length c.types) (length c.terms) (app_node top.0 (map (λ t. t.0) ys))) (sym e)
    (l, h.within, same_none (λ t. tree c t.0) (λ t. tree b t.0) args made h.trees n)

pub trees_in_place : (b c : Nodes) (args made slice : List TermId) → AreInPlaceOf b c args made → slice ≡ made → map (tree c) (map (λ t. t.0) slice) ≡ map (λ t. tree b t.0) args
trees_in_place b c args made slice h e = ap (λ l. map (tree c) (map (λ t. t.0) l)) e ∙ map_map (tree c) (λ t. t.0) made ∙ h.trees

pub type_trees_in_place : (b c : Nodes) (args made slice : List TypeId) → AreTypesInPlaceOf b c args made → slice ≡ made → map (type_tree c) (map (λ t. t.0) slice) ≡ map (λ t. type_tree b t.0) args
type_trees_in_place b c args made slice h e = ap (λ l. map (type_tree c) (map (λ t. t.0) l)) e ∙ map_map (type_tree c) (λ t. t.0) made ∙ h.trees

pub is_last : {X : Type 0} (xs ys : List X) (x : X) (n : ℕ) → n ≡ length xs → ys ≡ xs ++ x ∷ [] → n < length ys
is_last xs ys x n e q = omega (arith, ap length q, length-append xs (x ∷ []))
