-- What is known of the nodes of a bank, one after the other.
use Rattle.std.proofs.Common.{◌≡◌, ℕ, zero, suc, ◌<◌, ◌≤◌, List, [], ◌∷◌, ◌++◌, map, take, length, get_or, refl, sym, ap, ◌∙◌, subst, arith, Bool, true, false, ◌&&◌, ◌⊎◌, inl, inr, length-append}
use Rattle.std.specs.Prelude.{All}
use Rattle.std.proofs.lemmas.List.Elements.{All-head, All-tail}
use Rattle.lp_calculus.specs.Types.{Ty, tys}
use Rattle.lp_calculus.specs.Term.{Term}
use Rattle.lp_calculus.specs.Closed.{IsClosedAt}
use Rattle.lp_term.specs.Nodes.{Nodes, tree, type_tree, Extends}
use Rattle.lp_term.specs.Spine.{LooseBelow}
use Rattle.lp_term.specs.declared.node.TypeId.{TypeId}
use Rattle.lp_term.proofs.Trees.{get_or-front, get_or-last, get_or-past, tree-past, type_tree-past}
use Rattle.lp_cert.specs.Facts.{AreFacts, IsKnown, all_marked, no_facts, is_closed_type, are_closed_parts, are_closed}
use Rattle.lp_cert.specs.declared.known.Facts.{Facts}
use Rattle.lp_cert.specs.declared.known.Known.{Known}
use Rattle.lp_cert.proofs.Closing.{term_is_closed, closed_facts, loose_below, loose_within}

and_true : (b : Bool) → (b && true) ≡ b
and_true true = refl
and_true false = refl

and_assoc : (a b c : Bool) → ((a && b) && c) ≡ (a && (b && c))
and_assoc true b c = refl
and_assoc false b c = refl

-- one more type is marked
pub marked_next : (ms : List Bool) (ids : List TypeId) (k m : ℕ) → m ≡ suc k → k < length ids →
    all_marked ms (map (λ t. t.0) (take m ids)) ≡ (all_marked ms (map (λ t. t.0) (take k ids)) && get_or ms (get_or ids k (record { 0 = 0 })).0 false)
marked_next ms [] k m e l = absurd (omega arith)
marked_next ms (x ∷ xs) zero m e l = ap (λ n. all_marked ms (map (λ t. t.0) (take n (x ∷ xs)))) e ∙ and_true (get_or ms x.0 false)
marked_next ms (x ∷ xs) (suc k) m e l =
    ap (λ n. all_marked ms (map (λ t. t.0) (take n (x ∷ xs)))) e ∙
    ap (λ b. get_or ms x.0 false && b) (marked_next ms xs k (suc k) refl (omega arith)) ∙
    sym (and_assoc (get_or ms x.0 false) (all_marked ms (map (λ t. t.0) (take k xs))) (get_or ms (get_or xs k (record { 0 = 0 })).0 false))

below_or : (i n : ℕ) → (i < n) ⊎ (n ≤ i)
below_or i n = grind (arith)

-- marks of types of the bank
pub marked_types : (b : Nodes) (k : Known) (ids : List ℕ) → IsKnown b k → All (λ i. i < length k.types.items) ids → all_marked k.types.items ids ≡ are_closed (map (type_tree b) ids)
marked_types b k [] h a = refl
marked_types b k (i ∷ is) h a = λ j. h.types i (All-head (λ i. i < length k.types.items) i is a) j && marked_types b k is h (All-tail (λ i. i < length k.types.items) i is a) j

-- where all types are marked
pub mark_is : (b : Nodes) (k : Known) (i : ℕ) → IsKnown b k → length k.types.items ≡ length b.types → get_or k.types.items i false ≡ is_closed_type (type_tree b i)
mark_is b k i h e = elim (below_or i (length k.types.items)) [ inl l ↦ h.types i l | inr l ↦ get_or-past k.types.items false i l ∙ sym (ap is_closed_type (type_tree-past b i (omega (arith, e, l)))) ]

pub marks_are : (b : Nodes) (k : Known) (ids : List ℕ) → IsKnown b k → length k.types.items ≡ length b.types → all_marked k.types.items ids ≡ are_closed (map (type_tree b) ids)
marks_are b k [] h e = refl
marks_are b k (i ∷ is) h e = λ j. mark_is b k i h e j && marks_are b k is h e j

pub mark_within : (b : Nodes) (k : Known) (i : ℕ) → IsKnown b k → get_or k.types.items i false ≡ true → i < length b.types
mark_within b k i h e = elim (below_or i (length k.types.items)) [ inl l ↦ (let f = h.few_types in omega (arith, f, l)) | inr l ↦ absurd (let p = get_or-past k.types.items false i l in cc) ]

pub fact_is : (b : Nodes) (k : Known) (i : ℕ) → IsKnown b k → length k.terms.items ≡ length b.terms → AreFacts (get_or k.terms.items i no_facts) (tree b i)
fact_is b k i h e = elim (below_or i (length k.terms.items)) [
  | inl l ↦ h.terms i l
  | inr l ↦ subst (λ f. AreFacts f (tree b i))
      (sym (get_or-past k.terms.items no_facts i l)) (subst (AreFacts no_facts) (sym (tree-past b i (omega (arith, e, l))))
      (record { loose_is = refl; eigen_is = refl; plain_is = refl; positive_is = refl }))
]

-- the parts of a constructor
pub parts_marked : (ts : List Ty) → are_closed_parts (tys ts) ≡ are_closed ts
parts_marked [] = refl
parts_marked (t ∷ ts) = ap (λ b. is_closed_type t && b) (parts_marked ts)

-- what is known of a bank stays known as it grows
pub known_later : (b c : Nodes) (k : Known) → Extends b c → IsKnown b k → IsKnown c k
known_later b c k e h = record {
  few_types = (let f = h.few_types in let g = e.more_types in omega (arith, f, g));
  few_terms = (let f = h.few_terms in let g = e.more_terms in omega (arith, f, g));
  types = λ i l. h.types i l ∙ ap is_closed_type (sym (e.same_types i (let f = h.few_types in omega (arith, f, l))));
  terms = λ i l. subst (AreFacts (get_or k.terms.items i no_facts)) (sym (e.same_terms i (let f = h.few_terms in omega (arith, f, l)))) (h.terms i l);
}

pub nothing_known : (b : Nodes) (k : Known) → k.types.items ≡ [] → k.terms.items ≡ [] → IsKnown b k
nothing_known b k e f = record {
  few_types = (let n = ap length e in omega (arith, n));
  few_terms = (let n = ap length f in omega (arith, n));
  types = λ i l. absurd (let n = ap length e in omega (arith, n, l));
  terms = λ i l. absurd (let n = ap length f in omega (arith, n, l));
}

-- one more type
pub one_more_type : (b : Nodes) (k m : Known) (f : Bool) → IsKnown b k → length k.types.items < length b.types → m.types.items ≡ k.types.items ++ f ∷ [] → m.terms.items ≡ k.terms.items → f ≡ is_closed_type (type_tree b (length k.types.items)) → IsKnown b m
one_more_type b k m f h l e g is = record {
  few_types = (let n = ap length e in let s = length-append k.types.items (f ∷ []) in omega (arith, n, s, l));
  few_terms = (let n = ap length g in let s = h.few_terms in omega (arith, n, s));
  types = λ i q. subst (λ xs. get_or xs i false ≡ is_closed_type (type_tree b i)) (sym e) (elim (below_or i (length k.types.items)) [
    | inl p ↦ get_or-front k.types.items (f ∷ []) false i p ∙ h.types i p
    | inr p ↦
        let z : i ≡ length k.types.items = (let n = ap length e in let s = length-append k.types.items (f ∷ []) in omega (arith, n, s, p, q)) in
        get_or-last k.types.items f false i z ∙ is ∙ ap (λ n. is_closed_type (type_tree b n)) (sym z)
  ]);
  terms = λ i q. subst (λ xs. AreFacts (get_or xs i no_facts) (tree b i)) (sym g) (h.terms i (let n = ap length g in omega (arith, n, q)));
}

-- one more term
pub one_more_term : (b : Nodes) (k m : Known) (f : Facts) → IsKnown b k → length k.terms.items < length b.terms → m.terms.items ≡ k.terms.items ++ f ∷ [] → m.types.items ≡ k.types.items → AreFacts f (tree b (length k.terms.items)) → IsKnown b m
one_more_term b k m f h l e g is = record {
  few_types = (let n = ap length g in let s = h.few_types in omega (arith, n, s));
  few_terms = (let n = ap length e in let s = length-append k.terms.items (f ∷ []) in omega (arith, n, s, l));
  types = λ i q. subst (λ xs. get_or xs i false ≡ is_closed_type (type_tree b i)) (sym g) (h.types i (let n = ap length g in omega (arith, n, q)));
  terms = λ i q. subst (λ xs. AreFacts (get_or xs i no_facts) (tree b i)) (sym e) (elim (below_or i (length k.terms.items)) [
    | inl p ↦ subst (λ x. AreFacts x (tree b i)) (sym (get_or-front k.terms.items (f ∷ []) no_facts i p)) (h.terms i p)
    | inr p ↦
        let z : i ≡ length k.terms.items = (let n = ap length e in let s = length-append k.terms.items (f ∷ []) in omega (arith, n, s, p, q)) in
        subst (λ x. AreFacts x (tree b i)) (sym (get_or-last k.terms.items f no_facts i z)) (subst (λ n. AreFacts f (tree b n)) (sym z) is)
  ]);
}

-- a closed term by its facts
pub closed_by : (n : ℕ) (f : Facts) (t : Term) → AreFacts f t → f.plain ≡ true → f.loose ≡ 0 → f.eigen ≤ n → IsClosedAt n t
closed_by n f t h p l g = term_is_closed n t (sym h.plain_is ∙ p) (sym h.loose_is ∙ l) (let e = h.eigen_is in omega (arith, e, g))

pub facts_of_closed : (n : ℕ) (f : Facts) (t : Term) → AreFacts f t → IsClosedAt n t → (f.plain ≡ true) × (f.loose ≡ 0) × (f.eigen ≤ n)
facts_of_closed n f t h c = let d = closed_facts n t c in (h.plain_is ∙ d.0, h.loose_is ∙ d.1, (let e = h.eigen_is in let g = d.2 in omega (arith, e, g)))

-- whether a term of a bank is closed, by what is known of it
module _ (b : Nodes) (k : Known) (i n : ℕ) (f : Facts) (r : Bool) (h : IsKnown b k) (whole : length k.terms.items ≡ length b.terms) (is : f ≡ get_or k.terms.items i no_facts) where
  facts : AreFacts f (tree b i)
  facts = subst (λ g. AreFacts g (tree b i)) (sym is) (fact_is b k i h whole)

  pub closed_when : (r ≡ true → (f.plain ≡ true) × (f.loose ≡ 0) × (f.eigen ≤ n)) → r ≡ true → IsClosedAt n (tree b i)
  closed_when always e = let a = always e in closed_by n f (tree b i) facts a.0 a.1 a.2

  pub open_when : (r ≡ false → f.plain ≡ true → f.loose ≡ 0 → f.eigen ≤ n → ⊥) → r ≡ false → IsClosedAt n (tree b i) → ⊥
  open_when never e c = let a = facts_of_closed n f (tree b i) facts c in never e a.0 a.1 a.2

  -- whether its loose indices are below n
  pub below_when : (r ≡ true → f.loose ≤ n) → r ≡ true → LooseBelow n 0 (tree b i)
  below_when always e = loose_below n 0 (tree b i) (let p = facts.loose_is in let q = always e in omega (arith, p, q))

  pub above_when : (r ≡ false → f.loose ≤ n → ⊥) → r ≡ false → LooseBelow n 0 (tree b i) → ⊥
  above_when never e l = never e (let p = facts.loose_is in let q = loose_within n 0 (tree b i) l in omega (arith, p, q))
