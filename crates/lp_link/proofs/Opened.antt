-- A comparison that marks pairs misses none: where a marked pair is not the same, something lighter that is left is not.
use Rattle.std.proofs.Common.{◌≡◌, ℕ, ◌*◌, ◌≤◌, List, [], ◌∷◌, ◌++◌, Bool, true, false, inl, inr, refl, sym, ap, ◌∙◌, subst, true≢false, arith, nat_eq}
use Rattle.std.specs.Prelude.{◌⊎◌, All, Option, Some, if◌then◌else◌}
use Rattle.std.specs.List.{list_any}
use Rattle.std.proofs.lemmas.List.Elements.{All-nil, All-cons, All-append, All-pop}
use Rattle.std.proofs.lemmas.Bool.{eqb-true}
use Rattle.lp_lemmas.specs.Each.{AnyOf}
use Rattle.lp_lemmas.proofs.Booleans.{and_true_left, and_true_right}
use Rattle.lp_lemmas.proofs.Each.{any_append, any_front, any_back}
use Rattle.lp_term.specs.Nodes.{Nodes, type_tree}
use Rattle.lp_term.specs.declared.node.TypeId.{TypeId}
use Rattle.lp_link.specs.declared.differ.Pair.{Pair}
use Rattle.lp_link.specs.declared.differ.Pair.TheVariants.{Types}
use Rattle.lp_link.specs.Sizes.{type_size, pair_weighs}
use Rattle.lp_link.specs.Differences.{same_type}
use Rattle.lp_link.specs.inner.Pairs.{same_pair, AreSamePairs, IsOtherPair, IsOtherBelow, IsEven, Leads, IsOpen, pair_eq, Compares}
use Rattle.lp_link.proofs.Compared.{goes_on, rest_same}

pub pairs_equal : (p q : ℕ × ℕ) → pair_eq p q ≡ true → p ≡ q
pairs_equal p q e = ap (λ i. (i, p.1)) (eqb-true p.0 q.0 (and_true_left (nat_eq p.0 q.0) (nat_eq p.1 q.1) e)) ∙ ap (λ j. (q.0, j))
    (eqb-true p.1 q.1 (and_true_right (nat_eq p.0 q.0) (nat_eq p.1 q.1) e))

-- what is marked now was marked, or is the one that was put
pub marked_before : (p q : ℕ × ℕ) (met now : ℕ × ℕ → Bool) → ((q : ℕ × ℕ) → now q ≡ (if pair_eq p q then true else met q)) → now q ≡ true → (p ≡ q) ⊎ (met q ≡ true)
marked_before p q met now e h = go (pair_eq p q) refl (sym (e q) ∙ h)
  where
    go : (x : Bool) → pair_eq p q ≡ x → (if x then true else met q) ≡ true → (p ≡ q) ⊎ (met q ≡ true)
    go true is h = inl (pairs_equal p q is)
    go false is h = inr h

pub marks_none : (keys : List (ℕ × ℕ)) → keys ≡ [] → (p : ℕ × ℕ) → list_any (pair_eq p) keys ≡ false
marks_none keys e p = ap (list_any (pair_eq p)) e

module _ (K : ℕ → Option ℕ) (b a : Nodes) where
  heavier : (n m : ℕ) (ps : List Pair) → n ≤ m → AnyOf (IsOtherBelow K b a n) ps → AnyOf (IsOtherBelow K b a m) ps
  heavier n m [] l h = h
  heavier n m (p ∷ ps) l (inl h) = inl (let s = h.0 in omega (arith, s, l), h.1)
  heavier n m (p ∷ ps) l (inr h) = inr (heavier n m ps l h)

  any_weight : (n : ℕ) (ps : List Pair) → AnyOf (IsOtherBelow K b a n) ps → AnyOf (IsOtherPair K b a) ps
  any_weight n [] h = h
  any_weight n (p ∷ ps) (inl h) = inl h.1
  any_weight n (p ∷ ps) (inr h) = inr (any_weight n ps h)

  pub begun : (t u : TypeId) (met : ℕ × ℕ → Bool) (left : List Pair) → left ≡ Types t u ∷ [] → ((p : ℕ × ℕ) → met p ≡ false) → IsOpen K b a (same_type K (type_tree b t.0) (type_tree a u.0)) met left
  begun t u met left e none = record {
    same = λ h. subst (AreSamePairs K b a) (sym e) (All-cons (λ p. same_pair K b a p ≡ true) (Types t u) [] h (All-nil (λ p. same_pair K b a p ≡ true)));
    even = subst (All IsEven) (sym e) (All-cons IsEven (Types t u) [] tt (All-nil IsEven));
    other = λ h. subst (AnyOf (IsOtherPair K b a)) (sym e) (inl h);
    lighter = λ i j m h. absurd (true≢false (sym m ∙ none (i, j)));
  }

  pub ended : (whole : Bool) (met : ℕ × ℕ → Bool) (left : List Pair) → left ≡ [] → IsOpen K b a whole met left → true ≡ whole
  ended true met left e o = refl
  ended false met left e o = absurd (subst (AnyOf (IsOtherPair K b a)) e (o.other refl))

  module _ (whole : Bool) (met : ℕ × ℕ → Bool) (old rest : List Pair) (next : Pair) (off : old ≡ rest ++ next ∷ []) (open_now : IsOpen K b a whole met old) where
    off_of : (Q : Pair → Type 0) → AnyOf Q old → AnyOf Q rest ⊎ Q next
    off_of Q h = elim (any_append Q rest (next ∷ []) (subst (AnyOf Q) off h)) [ inl x ↦ inl x | inr y ↦ elim y [ inl z ↦ inr z | inr n ↦ absurd n ] ]

    pub next_even : IsEven next
    next_even = (All-pop IsEven old rest (Some next) off open_now.even).1

    rest_even : All IsEven rest
    rest_even = (All-pop IsEven old rest (Some next) off open_now.even).0

    -- what takes the place of the next pair has something lighter that is not the same, where that pair is not
    module _ (new : List Pair) (front : (Q : Pair → Type 0) → AnyOf Q rest → AnyOf Q new) (lead : same_pair K b a next ≡ false → AnyOf (IsOtherBelow K b a (pair_weighs b next)) new) where
      other_still : AnyOf (IsOtherPair K b a) old → AnyOf (IsOtherPair K b a) new
      other_still h = elim (off_of (IsOtherPair K b a) h) [ inl x ↦ front (IsOtherPair K b a) x | inr n ↦ any_weight (pair_weighs b next) new (lead n) ]

      lighter_still : (n : ℕ) → AnyOf (IsOtherBelow K b a n) old → AnyOf (IsOtherBelow K b a n) new
      lighter_still n h = elim (off_of (IsOtherBelow K b a n) h) [ inl x ↦ front (IsOtherBelow K b a n) x | inr k ↦ heavier (pair_weighs b next) n new (let w = k.0 in omega (arith, w)) (lead k.1) ]

    -- the next pair was met
    pub skipped : (t u : TypeId) → next ≡ Types t u → met (t.0, u.0) ≡ true → IsOpen K b a whole met rest
    skipped t u is m = record {
      same = λ h. rest_same K b a whole old rest next off open_now.same h;
      even = rest_even;
      other = λ h. other_still rest (λ Q x. x) lead (open_now.other h);
      lighter = λ i j s h. lighter_still rest (λ Q x. x) lead (3 * type_size (type_tree b i)) (open_now.lighter i j s h);
    }
      where
        weight : pair_weighs b next ≡ 3 * type_size (type_tree b t.0)
        weight = ap (pair_weighs b) is

        lead : same_pair K b a next ≡ false → AnyOf (IsOtherBelow K b a (pair_weighs b next)) rest
        lead o = elim (off_of (IsOtherBelow K b a (3 * type_size (type_tree b t.0))) (open_now.lighter t.0 u.0 m (subst (λ p. same_pair K b a p ≡ false) is o))) [
          | inl x ↦ subst (λ n. AnyOf (IsOtherBelow K b a n) rest) (sym weight) x
          | inr k ↦ (let w = k.0 in absurd (omega (arith, w, weight)))
        ]

    -- the next pair is marked, and what comes of it is put
    pub opened : (t u : TypeId) (now : ℕ × ℕ → Bool) (new : List Pair) → next ≡ Types t u →
        ((q : ℕ × ℕ) → now q ≡ (if pair_eq (t.0, u.0) q then true else met q)) → Compares K b a (type_tree b t.0) (type_tree a u.0) rest new true →
        IsOpen K b a whole now new
    opened t u now new is marks c = record {
      same = λ h. goes_on K b a whole old rest next off open_now.same t u is new true c refl h;
      even = subst (All IsEven) (sym c.1.behind) (All-append IsEven rest c.1.put rest_even c.1.even);
      other = λ h. other_still new front lead (open_now.other h);
      lighter = λ i j s h. elim (marked_before (t.0, u.0) (i, j) met now marks s) [
        | inl e ↦ subst (λ k. AnyOf (IsOtherBelow K b a (3 * type_size (type_tree b k))) new) (ap (λ p. p.0) e)
            (subst (λ n. AnyOf (IsOtherBelow K b a n) new) weight (lead (ap (same_pair K b a) is ∙ other_met (i, j) e h)))
        | inr m ↦ lighter_still new front lead (3 * type_size (type_tree b i)) (open_now.lighter i j m h)
      ];
    }
      where
        weight : pair_weighs b next ≡ 3 * type_size (type_tree b t.0)
        weight = ap (pair_weighs b) is

        other_met : (q : ℕ × ℕ) → ◌≡◌ {A = ℕ × ℕ} (t.0, u.0) q → same_type K (type_tree b q.0) (type_tree a q.1) ≡ false → same_type K (type_tree b t.0) (type_tree a u.0) ≡ false
        other_met q e h = subst (λ p. same_type K (type_tree b p.0) (type_tree a p.1) ≡ false) (sym e) h

        front : (Q : Pair → Type 0) → AnyOf Q rest → AnyOf Q new
        front Q x = subst (AnyOf Q) (sym c.1.behind) (any_front Q rest c.1.put x)

        lead : same_pair K b a next ≡ false → AnyOf (IsOtherBelow K b a (pair_weighs b next)) new
        lead o = subst (λ n. AnyOf (IsOtherBelow K b a n) new) (sym weight) (subst (AnyOf (IsOtherBelow K b a (3 * type_size (type_tree b t.0)))) (sym c.1.behind)
            (any_back (IsOtherBelow K b a (3 * type_size (type_tree b t.0))) rest c.1.put (c.1.other (sym (ap (same_pair K b a) is) ∙ o))))

    -- the parts of the next pair are put
    pub parted : (new : List Pair) → (whole ≡ true → AreSamePairs K b a new) → Leads K b a (pair_weighs b next) (same_pair K b a next) rest new → IsOpen K b a whole met new
    parted new same l = record {
      same = same;
      even = subst (All IsEven) (sym l.behind) (All-append IsEven rest l.put rest_even l.even);
      other = λ h. other_still new front lead (open_now.other h);
      lighter = λ i j s h. lighter_still new front lead (3 * type_size (type_tree b i)) (open_now.lighter i j s h);
    }
      where
        front : (Q : Pair → Type 0) → AnyOf Q rest → AnyOf Q new
        front Q x = subst (AnyOf Q) (sym l.behind) (any_front Q rest l.put x)

        lead : same_pair K b a next ≡ false → AnyOf (IsOtherBelow K b a (pair_weighs b next)) new
        lead o = subst (AnyOf (IsOtherBelow K b a (pair_weighs b next))) (sym l.behind) (any_back (IsOtherBelow K b a (pair_weighs b next)) rest l.put (l.other o))
