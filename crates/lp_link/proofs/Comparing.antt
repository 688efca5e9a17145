-- What comes of the comparison of two tops.
use Rattle.std.proofs.Common.{◌≡◌, ℕ, suc, ◌+◌, ◌*◌, ◌<◌, List, [], ◌∷◌, ◌++◌, length, map, Bool, true, false, inl, inr, refl, sym, ap, ◌∙◌, subst, true≢false, arith, append_assoc, append-nil, Option, Bor}
use Rattle.std.specs.Prelude.{nat_eq, ◌&&◌}
use Rattle.std.proofs.lemmas.List.Elements.{All-nil, All-cons, All-append}
use Rattle.lp_lemmas.proofs.Booleans.{and_true_left, and_true_right}
use Rattle.std.proofs.lemmas.Bool.{eq-eqb, eqb-true}
use Rattle.std.proofs.lemmas.List.{nil_from_length}
use Rattle.lp_lemmas.specs.Each.{AnyOf}
use Rattle.lp_calculus.specs.Types.{Ty, var, con, arrow, no_types, tys}
use Rattle.lp_term.specs.Nodes.{Nodes, type_tree}
use Rattle.lp_term.specs.declared.node.TypeId.{TypeId}
use Rattle.lp_term.proofs.Walks.{map_map}
use Rattle.lp_link.specs.declared.differ.Pair.{Pair}
use Rattle.lp_link.specs.declared.differ.Pair.TheVariants.{Types, Parts}
use Rattle.lp_link.specs.Differences.{is_number, same_type, same_types}
use Rattle.lp_link.specs.Sizes.{type_size, types_size, pair_weighs}
use Rattle.lp_link.specs.inner.Pairs.{same_pair, IsSamePair, AreSamePairs, IsOtherBelow, IsEven, Leads, Compares}

module _ (K : ℕ → Option ℕ) (b a : Nodes) where
  push_one : (old new : List Pair) (p : Pair) → new ≡ old ++ p ∷ [] → IsSamePair K b a p → AreSamePairs K b a old → AreSamePairs K b a new
  push_one old new p e same all = subst (AreSamePairs K b a) (sym e) (All-append (IsSamePair K b a) old (p ∷ []) all (All-cons (IsSamePair K b a) p [] same (All-nil (IsSamePair K b a))))

  -- where nothing is pushed
  pub unchanged : (t u : Ty) (old : List Pair) (r : Bool) → same_type K t u ≡ r → Compares K b a t u old old r
  unchanged t u old true e = (λ h all. all, record { put = []; behind = sym (append-nil old); even = All-nil IsEven; other = λ o. absurd (true≢false (sym e ∙ o)) })
  unchanged t u old false e = e

  -- one of the sides is another one
  sides_other : (from to left right : TypeId) (n : ℕ) → n ≡ 3 * (1 + (type_size (type_tree b from.0) + type_size (type_tree b to.0))) →
      (same_type K (type_tree b from.0) (type_tree a left.0) && same_type K (type_tree b to.0) (type_tree a right.0)) ≡ false →
      AnyOf (IsOtherBelow K b a n) (Types to right ∷ Types from left ∷ [])
  sides_other from to left right n w o = go (same_type K (type_tree b from.0) (type_tree a left.0)) refl o
    where
      go : (s : Bool) → same_type K (type_tree b from.0) (type_tree a left.0) ≡ s → (s && same_type K (type_tree b to.0) (type_tree a right.0)) ≡
          false → AnyOf (IsOtherBelow K b a n) (Types to right ∷ Types from left ∷ [])
      go true q h = inl (omega (arith, w), h)
      go false q h = inr (inl (omega (arith, w), q))

  pub arrows : (from to left right : TypeId) (t u : Ty) (old mid new : List Pair) → arrow (type_tree b from.0) (type_tree b to.0) ≡ t → u ≡ arrow (type_tree a left.0) (type_tree a right.0) →
      mid ≡ old ++ Types to right ∷ [] → new ≡ mid ++ Types from left ∷ [] → Compares K b a t u old new true
  arrows from to left right t u old mid new e f m n = (
    λ h all.
        let same = subst (λ t. same_type K t (arrow (type_tree a left.0) (type_tree a right.0)) ≡ true) (sym e) (subst (λ u. same_type K t u ≡ true) f h) in
        push_one mid new (Types from left) n (and_true_left (same_type K (type_tree b from.0) (type_tree a left.0)) (same_type K (type_tree b to.0) (type_tree a right.0)) same)
        (push_one old mid (Types to right) m (and_true_right (same_type K (type_tree b from.0) (type_tree a left.0)) (same_type K (type_tree b to.0) (type_tree a right.0)) same) all),
    record {
      put = Types to right ∷ Types from left ∷ [];
      behind = n ∙ ap (λ l. l ++ Types from left ∷ []) m ∙ append_assoc old (Types to right ∷ []) (Types from left ∷ []);
      even = All-cons IsEven (Types to right) (Types from left ∷ []) tt (All-cons IsEven (Types from left) [] tt (All-nil IsEven));
      other = λ o. sides_other from to left right (3 * type_size t) (ap (λ t. 3 * type_size t) (sym e))
          (subst (λ t. same_type K t (arrow (type_tree a left.0) (type_tree a right.0)) ≡ false) (sym e) (subst (λ u. same_type K t u ≡ false) f o));
    },
  )

  same_counts : (ts us : List Ty) → same_types K (tys ts) (tys us) ≡ true → length ts ≡ length us
  same_counts [] [] e = refl
  same_counts [] (u ∷ us) e = absurd (true≢false (sym e))
  same_counts (t ∷ ts) [] e = absurd (true≢false (sym e))
  same_counts (t ∷ ts) (u ∷ us) e = ap suc (same_counts ts us (and_true_right (same_type K t u) (same_types K (tys ts) (tys us)) e))

  never_true : (x : Bool) → (x ≡ true → ⊥) → x ≡ false
  never_true true h = absurd (h refl)
  never_true false h = refl

  both_same : (x y : Bool) → x ≡ false → (x && y) ≡ false
  both_same true y e = absurd (true≢false e)
  both_same false y e = refl

  trees : (n : Nodes) → List TypeId → List Ty
  trees n ts = map (type_tree n) (map (λ t. t.0) ts)

  count_of : (n : Nodes) (ts : List TypeId) → length (trees n ts) ≡ length ts
  unfolding trees
  count_of n [] = refl
  count_of n (t ∷ ts) = ap suc (count_of n ts)

  module _ (k l : ℕ) (ts us : Bor (List TypeId)) (t u : Ty) (old new : List Pair) where
    other_counts : con k (tys (map (type_tree b) (map (λ t. t.0) ts.now))) ≡ t → u ≡ con l (tys (map (type_tree a) (map (λ t. t.0) us.now))) →
        (length ts.now ≡ length us.now → ⊥) → same_type K t u ≡ false
    unfolding trees
    other_counts e f n = never_true (same_type K t u) (λ h.
        let same = subst (λ t. same_type K t (con l (tys (map (type_tree a) (map (λ t. t.0) us.now)))) ≡ true) (sym e) (subst (λ u. same_type K t u ≡ true) f h) in
        n (sym (count_of b ts.now) ∙ same_counts (trees b ts.now) (trees a us.now) (and_true_right (is_number (K k) l)
        (same_types K (tys (trees b ts.now)) (tys (trees a us.now))) same) ∙ count_of a us.now))

    parts_lighter : con k (tys (map (type_tree b) (map (λ t. t.0) ts.now))) ≡ t → pair_weighs b (Parts ts us) < 3 * type_size t
    parts_lighter e =
        let s : type_size t ≡ 1 + types_size (tys (map (λ t. type_tree b t.0) ts.now)) = ap type_size (sym e) ∙ ap (λ l. 1 + types_size (tys l)) (map_map (type_tree b) (λ t. t.0) ts.now) in
        omega (arith, s)

    and_false : (x y : Bool) → x ≡ true → (x && y) ≡ false → y ≡ false
    and_false true y e h = h
    and_false false y e h = absurd (true≢false (sym e))

    pub constructors : (r : Bool) → con k (tys (map (type_tree b) (map (λ t. t.0) ts.now))) ≡ t → u ≡ con l
        (tys (map (type_tree a) (map (λ t. t.0) us.now))) → new ≡ old ++ Parts ts us ∷ [] → is_number (K k) l ≡ true →
        (r ≡ true → length ts.now ≡ length us.now) →
        (r ≡ false → length ts.now ≡ length us.now → ⊥) → Compares K b a t u old new r
    constructors true e f p i z n = (
      λ h all.
          let same = subst (λ t. same_type K t (con l (tys (map (type_tree a) (map (λ t. t.0) us.now)))) ≡ true) (sym e) (subst (λ u. same_type K t u ≡ true) f h) in
          push_one old new (Parts ts us) p (and_true_right (is_number (K k) l) (same_types K (tys (map (type_tree b) (map (λ t. t.0) ts.now)))
          (tys (map (type_tree a) (map (λ t. t.0) us.now)))) same) all,
      record {
        put = Parts ts us ∷ [];
        behind = p;
        even = All-cons IsEven (Parts ts us) [] (z refl) (All-nil IsEven);
        other = λ o. inl (
          parts_lighter e,
          and_false (is_number (K k) l) (same_types K (tys (map (type_tree b) (map (λ t. t.0) ts.now))) (tys (map (type_tree a) (map (λ t. t.0) us.now)))) i
              (subst (λ t. same_type K t (con l (tys (map (type_tree a) (map (λ t. t.0) us.now)))) ≡ false) (sym e) (subst (λ u. same_type K t u ≡ false) f o)),
        );
      },
    )
    constructors false e f p i z n = other_counts e f (n refl)

    pub other_kinds : con k (tys (map (type_tree b) (map (λ t. t.0) ts.now))) ≡ t → u ≡ con l (tys (map (type_tree a) (map (λ t. t.0) us.now))) →
        is_number (K k) l ≡ false → Compares K b a t u old old false
    other_kinds e f n = subst (λ t. same_type K t u ≡ false) e (subst (λ u. same_type K (con k (tys (map (type_tree b) (map (λ t. t.0) ts.now)))) u ≡
        false) (sym f) (both_same (is_number (K k) l) (same_types K (tys (map (type_tree b) (map (λ t. t.0) ts.now)))
        (tys (map (type_tree a) (map (λ t. t.0) us.now)))) n))

  -- of two lists of parts the first two and the others
  pub parts_pushed : (ts us ts' us' : Bor (List TypeId)) (t u : TypeId) (old mid new : List Pair) → ts.now ≡ t ∷ ts'.now → us.now ≡ u ∷ us'.now → mid
      ≡ old ++ Parts ts' us' ∷ [] → new ≡ mid ++ Types t u ∷ [] →
      IsSamePair K b a (Parts ts us) → AreSamePairs K b a old → AreSamePairs K b a new
  parts_pushed ts us ts' us' t u old mid new e f m n h all =
      let same = subst (λ l. same_types K (tys (map (type_tree b) (map (λ t. t.0) l))) (tys (map (type_tree a) (map (λ t. t.0) (u ∷ us'.now)))) ≡
      true) e (subst (λ l. same_types K (tys (map (type_tree b) (map (λ t. t.0) ts.now))) (tys (map (type_tree a) (map (λ t. t.0) l))) ≡ true) f
      h) in
      let one = same_type K (type_tree b t.0) (type_tree a u.0) in
      let more = same_types K (tys (map (type_tree b) (map (λ t. t.0) ts'.now))) (tys (map (type_tree a) (map (λ t. t.0) us'.now))) in
      push_one mid new (Types t u) n (and_true_left one more same) (push_one old mid (Parts ts' us') m (and_true_right one more same) all)

  -- as many parts on both sides: where these are not the same, the first two or the others are not
  pub parts_lead : (ts us ts' us' : Bor (List TypeId)) (t u : TypeId) (old mid new : List Pair) → ts.now ≡ t ∷ ts'.now → us.now ≡ u ∷ us'.now → length
      ts.now ≡ length us.now → mid ≡ old ++ Parts ts' us' ∷ [] → new ≡ mid ++ Types t u ∷ [] →
      Leads K b a (pair_weighs b (Parts ts us)) (same_pair K b a (Parts ts us)) old new
  parts_lead ts us ts' us' t u old mid new e f z m n = record {
    put = Parts ts' us' ∷ Types t u ∷ [];
    behind = n ∙ ap (λ l. l ++ Types t u ∷ []) m ∙ append_assoc old (Parts ts' us' ∷ []) (Types t u ∷ []);
    even = All-cons IsEven (Parts ts' us') (Types t u ∷ []) (let x = ap length e in let y = ap length f in omega (arith, x, y, z)) (All-cons IsEven (Types t u) [] tt (All-nil IsEven));
    other = λ o. go (same_type K (type_tree b t.0) (type_tree a u.0)) refl (parted o);
  }
    where
      more : Bool
      more = same_types K (tys (map (type_tree b) (map (λ t. t.0) ts'.now))) (tys (map (type_tree a) (map (λ t. t.0) us'.now)))

      parted : same_pair K b a (Parts ts us) ≡ false → (same_type K (type_tree b t.0) (type_tree a u.0) && same_types K
          (tys (map (type_tree b) (map (λ t. t.0) ts'.now))) (tys (map (type_tree a) (map (λ t. t.0) us'.now)))) ≡ false
      parted o = subst (λ l. same_types K (tys (map (type_tree b) (map (λ t. t.0) l))) (tys (map (type_tree a) (map (λ t. t.0) (u ∷ us'.now)))) ≡
          false) e (subst (λ l. same_types K (tys (map (type_tree b) (map (λ t. t.0) ts.now))) (tys (map (type_tree a) (map (λ t. t.0) l))) ≡ false) f
          o)

      weight : pair_weighs b (Parts ts us) ≡ 1 + 3 * (1 + (type_size (type_tree b t.0) + types_size (tys (map (λ t. type_tree b t.0) ts'.now))))
      weight = ap (λ l. 1 + 3 * types_size (tys (map (λ t. type_tree b t.0) l))) e ∙
          (let z : types_size (tys (map (λ t. type_tree b t.0) (t ∷ ts'.now))) ≡ 1 +
          (type_size (type_tree b t.0) + types_size (tys (map (λ t. type_tree b t.0) ts'.now))) = omega arith in ap (λ n. 1 + 3 * n) z)

      go : (s : Bool) → same_type K (type_tree b t.0) (type_tree a u.0) ≡ s → (s && same_types K (tys (map (type_tree b) (map (λ t. t.0) ts'.now)))
          (tys (map (type_tree a) (map (λ t. t.0) us'.now)))) ≡ false →
          AnyOf (IsOtherBelow K b a (pair_weighs b (Parts ts us))) (Parts ts' us' ∷ Types t u ∷ [])
      go true q h = inl (let w = weight in omega (arith, w), h)
      go false q h = inr (inl (let w = weight in omega (arith, w), q))

  -- without parts
  pub no_parts : (ts us : Bor (List TypeId)) (old : List Pair) → ts.now ≡ [] → length ts.now ≡ length us.now → Leads K b a (pair_weighs b (Parts ts us)) (same_pair K b a (Parts ts us)) old old
  no_parts ts us old e z = record {
    put = [];
    behind = sym (append-nil old);
    even = All-nil IsEven;
    other = λ o. absurd (true≢false (sym nothing ∙ o));
  }
    where
      nothing : same_pair K b a (Parts ts us) ≡ true
      nothing =
          subst (λ l. same_types K (tys (map (type_tree b) (map (λ t. t.0) l))) (tys (map (type_tree a) (map (λ t. t.0) us.now))) ≡ true) (sym e)
          (subst (λ l. same_types K no_types (tys (map (type_tree a) (map (λ t. t.0) l))) ≡ true) (sym (nil_from_length us.now (sym z ∙ ap length e))) refl)

  -- a type variable beside a type
  pub variables : (n : ℕ) (t u v : Ty) (old : List Pair) (r : Bool) → var n ≡ t → v ≡ u → same_type K (var n) v ≡ r → Compares K b a t u old old r
  variables n t u v old r e f s = unchanged t u old r (subst (λ u. same_type K t u ≡ r) f (subst (λ t. same_type K t v ≡ r) e s))

  pub equal_counts : (k l : ℕ) (ts us : Bor (List TypeId)) (t u v : Ty) (old new : List Pair) → is_number (K k) l ≡ true → con k
      (tys (map (type_tree b) (map (λ t. t.0) ts.now))) ≡ t → v ≡ u → v ≡ con l (tys (map (type_tree a) (map (λ t. t.0) us.now))) → new ≡ old ++ Parts
      ts us ∷ [] →
      Compares K b a t u old new (nat_eq (length ts.now) (length us.now))
  equal_counts k l ts us t u v old new i e f g p = constructors k l ts us t u old new (nat_eq (length ts.now) (length us.now)) e (sym f ∙ g) p i
      (eqb-true (length ts.now) (length us.now)) (λ n q. true≢false (sym (eq-eqb (length ts.now) (length us.now) q) ∙ n))
