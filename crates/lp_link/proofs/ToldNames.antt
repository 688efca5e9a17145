-- What a table tells of numbers that are given one after the other.
use Rattle.std.proofs.Common.{◌≡◌, ◌∙◌, ◌+◌, ◌-◌, ◌<◌, ◌≤◌, ℕ, zero, suc, Bool, true, false, List, [], ◌∷◌, ◌++◌, length, Option, None, Some, ap, refl, sym, subst, arith}
use Rattle.std.specs.Prelude.{slice_get, slice_index_or}
use Rattle.lp_lemmas.specs.Each.{EachOf}
use Rattle.lp_link.specs.Linked.{next_of, numbers_of}
use Rattle.lp_link.specs.Names.{hidden_of, exported_of}
use Rattle.lp_link.specs.inner.ToldNames.{AreTold, AreAt, AreAbove}

module _ {A : Type 0} (f : ℕ) (T : ℕ → Option A) (told : List ℕ → Option ℕ) where
  -- the names of the root
  pub root_told : ((name : List ℕ) → told name ≡ None) → (g h : ℕ) (es : List (List ℕ × Bool)) (vs : List A) → length es ≡ length vs → f ≤ g → f ≤ h →
      AreAt T g (exported_of es vs) → AreAt T h (hidden_of es vs) → AreTold f T (numbers_of told g h es) vs
  root_told none g h [] [] l fg fh at_g at_h = tt
  root_told none g h [] (v ∷ vs) l fg fh at_g at_h = absurd (omega (arith, l))
  root_told none g h (e ∷ es) [] l fg fh at_g at_h = absurd (omega (arith, l))
  root_told none g h ((name, false) ∷ es) (v ∷ vs) l fg fh at_g at_h = ((fh, at_h.0), root_told none g (suc h) es vs (omega (arith, l)) fg (omega (arith, fh)) at_g at_h.1)
  root_told none g h ((name, true) ∷ es) (v ∷ vs) l fg fh at_g at_h =
      subst (λ o. AreTold f T (next_of o g (numbers_of told (suc g) h es) (numbers_of told g h es)) (v ∷ vs)) (sym (none name))
      ((fg, at_g.0), root_told none (suc g) h es vs (omega (arith, l)) (omega (arith, fg)) fh at_g.1 at_h)

  -- the names of a copy below another one
  pub below_told : (g h : ℕ) (es : List (List ℕ × Bool)) (vs : List A) → length es ≡ length vs → f ≤ h → AreAbove f T told es vs → AreAt T h (hidden_of es vs) → AreTold f T (numbers_of told g h es) vs
  below_told g h [] [] l fh above at_h = tt
  below_told g h [] (v ∷ vs) l fh above at_h = absurd (omega (arith, l))
  below_told g h (e ∷ es) [] l fh above at_h = absurd (omega (arith, l))
  below_told g h ((name, false) ∷ es) (v ∷ vs) l fh above at_h = ((fh, at_h.0), below_told g (suc h) es vs (omega (arith, l)) (omega (arith, fh)) above at_h.1)
  below_told g h ((name, true) ∷ es) (v ∷ vs) l fh above at_h =
      subst (λ o. AreTold f T (next_of o g (numbers_of told (suc g) h es) (numbers_of told g h es)) (v ∷ vs)) (sym above.0.1)
      ((above.0.2, above.0.3), below_told g h es vs (omega (arith, l)) fh above.1 at_h)

module _ {A : Type 0} (f : ℕ) (T : ℕ → Option A) where
  -- a number by its place, and one that no name has
  pub told_at : (ns : List ℕ) (vs : List A) → AreTold f T ns vs → (d : ℕ) → T d ≡ None → (i : ℕ) → T (slice_index_or ns i d) ≡ slice_get vs i
  told_at [] [] a d none i = none
  told_at [] (v ∷ vs) a d none i = absurd a
  told_at (n ∷ ns) [] a d none i = absurd a
  told_at (n ∷ ns) (v ∷ vs) a d none zero = a.0.1
  told_at (n ∷ ns) (v ∷ vs) a d none (suc i) = told_at ns vs a.1 d none i

  pub big_at : (ns : List ℕ) (vs : List A) → AreTold f T ns vs → (d : ℕ) → f ≤ d → (i : ℕ) → f ≤ slice_index_or ns i d
  big_at [] [] a d l i = l
  big_at [] (v ∷ vs) a d l i = absurd a
  big_at (n ∷ ns) [] a d l i = absurd a
  big_at (n ∷ ns) (v ∷ vs) a d l zero = a.0.0
  big_at (n ∷ ns) (v ∷ vs) a d l (suc i) = big_at ns vs a.1 d l i

  pub small_told : (b : ℕ) → ((n : ℕ) (v : A) → f ≤ n → T n ≡ Some v → n < b) → (ns : List ℕ) (vs : List A) → AreTold f T ns vs → EachOf (λ n. n < b) ns
  small_told b less [] [] a = tt
  small_told b less [] (v ∷ vs) a = absurd a
  small_told b less (n ∷ ns) [] a = absurd a
  small_told b less (n ∷ ns) (v ∷ vs) a = (less n v a.0.0 a.0.1, small_told b less ns vs a.1)

  -- the number at a place is there where something stands beside it
  pub number_at_place : (ns : List ℕ) (vs : List A) → AreTold f T ns vs → (i : ℕ) (v : A) → slice_get vs i ≡ Some v → (n : ℕ) × (slice_get ns i ≡ Some n) × (f ≤ n) × (T n ≡ Some v)
  number_at_place [] [] a i v e = absurd (cc)
  number_at_place [] (w ∷ vs) a i v e = absurd a
  number_at_place (n ∷ ns) [] a i v e = absurd a
  number_at_place (n ∷ ns) (w ∷ vs) a zero v e = (n, refl, a.0.0, a.0.1 ∙ e)
  number_at_place (n ∷ ns) (w ∷ vs) a (suc i) v e = number_at_place ns vs a.1 i v e

  -- what stands in a list from a place on
  module _ (table : List A) (reads : (n : ℕ) → f ≤ n → T n ≡ slice_get table (n - f)) where
    pub at_table : (front vs back : List A) → table ≡ front ++ (vs ++ back) → (n : ℕ) → n ≡ f + length front → AreAt T n vs
    at_table front [] back is n e = tt
    at_table front (v ∷ vs) back is n e = (
      reads n (omega (arith, e)) ∙ ap (slice_get table) (let z : n - f ≡ length front = omega (arith, e) in z) ∙ ap (λ l. slice_get l (length front)) is ∙ here front v (vs ++ back),
      at_table (front ++ v ∷ []) vs back (is ∙ sym (pushed front v (vs ++ back))) (suc n) (let l = longer front v in omega (arith, e, l)),
    )
      where
        here : (xs : List A) (y : A) (ys : List A) → slice_get (xs ++ y ∷ ys) (length xs) ≡ Some y
        here [] y ys = refl
        here (x ∷ xs) y ys = here xs y ys

        pushed : (xs : List A) (y : A) (ys : List A) → (xs ++ y ∷ []) ++ ys ≡ xs ++ (y ∷ ys)
        pushed [] y ys = refl
        pushed (x ∷ xs) y ys = ap (λ l. x ∷ l) (pushed xs y ys)

        longer : (xs : List A) (y : A) → length (xs ++ y ∷ []) ≡ suc (length xs)
        longer [] y = refl
        longer (x ∷ xs) y = ap suc (longer xs y)

    pub within_table : (n : ℕ) (v : A) → f ≤ n → T n ≡ Some v → n < f + length table
    within_table n v l e = let h = inside table (n - f) v (sym (reads n l) ∙ e) in omega (arith, l, h)
      where
        inside : (xs : List A) (i : ℕ) (x : A) → slice_get xs i ≡ Some x → i < length xs
        inside [] i x e = absurd (cc)
        inside (y ∷ ys) zero x e = omega arith
        inside (y ∷ ys) (suc i) x e = let h = inside ys i x e in omega (arith, h)

    pub behind_table : (n : ℕ) → f + length table ≤ n → T n ≡ None
    behind_table n l = reads n (omega (arith, l)) ∙ past table (n - f) (omega (arith, l))
      where
        past : (xs : List A) (i : ℕ) → length xs ≤ i → slice_get xs i ≡ None
        past [] i l = refl
        past (y ∷ ys) zero l = absurd (omega (arith, l))
        past (y ∷ ys) (suc i) l = past ys i (omega (arith, l))
