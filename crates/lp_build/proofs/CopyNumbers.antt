-- The numbers of the names of a copy: those in an image, which follow the names of an object, are those in a program, which follow the hidden names of a module.
use Rattle.std.proofs.Common.{◌≡◌, ◌∙◌, ◌++◌, ◌∷◌, [], ◌+◌, ◌-◌, ◌<◌, ◌≤◌, ℕ, zero, suc, Bool, true, false, if◌then◌else◌, List, Option, None, Some, length, map, get_or, nat_eq, inl, inr, ap, refl, sym, arith}
use Rattle.std.specs.Prelude.{◌⊎◌, slice_get, option_map}
use Rattle.std.specs.List.{range_with_len}
use Rattle.std.proofs.lemmas.Bool.{cases_lt, ne_eqb}
use Rattle.lp_lemmas.proofs.Numbers.{nat_eq_self}
use Rattle.lp_link.specs.Linked.{next_of, numbers_of}
use Rattle.lp_module.specs.Program.{IsNumbered, exported_before, hidden_or, one_if_none, place_in}

-- names of which the first ones are exported
abbrev pub with_hidden : (exported hidden : List (List ℕ)) → List (List ℕ × Bool)
with_hidden ws vs = map (λ w. (w, true)) ws ++ map (λ v. (v, false)) vs

-- of an object
hidden_at : (told : List ℕ → Option ℕ) (g h : ℕ) (vs : List (List ℕ)) (i : ℕ) → i < length vs → slice_get (numbers_of told g h (with_hidden [] vs)) i ≡ Some (h + i)
hidden_at told g h [] i l = absurd (omega (arith, l))
hidden_at told g h (v ∷ vs) zero l = let e : h ≡ h + 0 = omega arith in ap (λ z. Some z) e
hidden_at told g h (v ∷ vs) (suc i) l = let e : suc h + i ≡ h + suc i = omega arith in hidden_at told g (suc h) vs i (omega (arith, l)) ∙ ap (λ z. Some z) e

module _ (told : List ℕ → Option ℕ) where
  -- no number is told
  counted_at : ((w : List ℕ) → told w ≡ None) → (g h : ℕ) (ws vs : List (List ℕ)) (i : ℕ) → i < length ws → slice_get (numbers_of told g h (with_hidden ws vs)) i ≡ Some (g + i)
  counted_at none g h [] vs i l = absurd (omega (arith, l))
  counted_at none g h (w ∷ ws) vs zero l =
      let e : g ≡ g + 0 = omega arith in
      ap (λ o. slice_get (next_of o g (numbers_of told (suc g) h (with_hidden ws vs)) (numbers_of told g h (with_hidden ws vs))) 0) (none w) ∙ ap (λ z. Some z) e
  counted_at none g h (w ∷ ws) vs (suc i) l =
      let e : suc g + i ≡ g + suc i = omega arith in
      ap (λ o. slice_get (next_of o g (numbers_of told (suc g) h (with_hidden ws vs)) (numbers_of told g h (with_hidden ws vs))) (suc i)) (none w)
      ∙ counted_at none (suc g) h ws vs i (omega (arith, l)) ∙ ap (λ z. Some z) e

  behind_counted : ((w : List ℕ) → told w ≡ None) → (g h : ℕ) (ws vs : List (List ℕ)) (i k : ℕ) → k ≡ length ws + i → i < length vs
      → slice_get (numbers_of told g h (with_hidden ws vs)) k ≡ Some (h + i)
  behind_counted none g h [] vs i k e l = let f : k ≡ i = omega (arith, e) in ap (slice_get (numbers_of told g h (with_hidden [] vs))) f ∙ hidden_at told g h vs i l
  behind_counted none g h (w ∷ ws) vs i zero e l = absurd (omega (arith, e))
  behind_counted none g h (w ∷ ws) vs i (suc k) e l =
      ap (λ o. slice_get (next_of o g (numbers_of told (suc g) h (with_hidden ws vs)) (numbers_of told g h (with_hidden ws vs))) (suc k)) (none w)
      ∙ behind_counted none (suc g) h ws vs i k (omega (arith, e)) l

  -- each exported one is told
  abbrev pub AreTold : List (List ℕ) → (number : ℕ → ℕ) → Type 0
  AreTold ws number = (i : ℕ) → i < length ws → told (get_or ws i []) ≡ Some (number i)

  told_rest : (w : List ℕ) (ws : List (List ℕ)) (number : ℕ → ℕ) → AreTold (w ∷ ws) number → AreTold ws (λ i. number (suc i))
  told_rest w ws number are i l = are (suc i) (omega (arith, l))

  told_at : (number : ℕ → ℕ) (g h : ℕ) (ws vs : List (List ℕ)) (i : ℕ) → AreTold ws number → i < length ws → slice_get (numbers_of told g h (with_hidden ws vs)) i ≡ Some (number i)
  told_at number g h [] vs i are l = absurd (omega (arith, l))
  told_at number g h (w ∷ ws) vs zero are l =
      ap (λ o. slice_get (next_of o g (numbers_of told (suc g) h (with_hidden ws vs)) (numbers_of told g h (with_hidden ws vs))) 0) (are 0 (omega arith))
  told_at number g h (w ∷ ws) vs (suc i) are l =
      ap (λ o. slice_get (next_of o g (numbers_of told (suc g) h (with_hidden ws vs)) (numbers_of told g h (with_hidden ws vs))) (suc i)) (are 0 (omega arith))
      ∙ told_at (λ j. number (suc j)) g h ws vs i (told_rest w ws number are) (omega (arith, l))

  behind_told : (number : ℕ → ℕ) (g h : ℕ) (ws vs : List (List ℕ)) (i k : ℕ) → AreTold ws number → k ≡ length ws + i → i < length vs
      → slice_get (numbers_of told g h (with_hidden ws vs)) k ≡ Some (h + i)
  behind_told number g h [] vs i k are e l = let f : k ≡ i = omega (arith, e) in ap (slice_get (numbers_of told g h (with_hidden [] vs))) f ∙ hidden_at told g h vs i l
  behind_told number g h (w ∷ ws) vs i zero are e l = absurd (omega (arith, e))
  behind_told number g h (w ∷ ws) vs i (suc k) are e l =
      ap (λ o. slice_get (next_of o g (numbers_of told (suc g) h (with_hidden ws vs)) (numbers_of told g h (with_hidden ws vs))) (suc k)) (are 0 (omega arith))
      ∙ behind_told (λ j. number (suc j)) g h ws vs i k (told_rest w ws number are) (omega (arith, e)) l

-- of a module
place_none : (a n k : ℕ) → k < a → place_in (range_with_len a n) k ≡ None
place_none a zero k l = refl
place_none a (suc n) k l =
    ap (λ b. if b then Some 0 else option_map (λ j. suc j) (place_in (range_with_len (a + 1) n) k)) (ne_eqb a k (λ e. omega (arith, l, e)))
    ∙ ap (option_map (λ j. suc j)) (place_none (a + 1) n k (omega (arith, l)))

place_at : (a n i k : ℕ) → i < n → k ≡ a + i → place_in (range_with_len a n) k ≡ Some i
place_at a zero i k l e = absurd (omega (arith, l))
place_at a (suc n) zero k l e =
    let f : k ≡ a = omega (arith, e) in
    ap (λ b. if b then Some 0 else option_map (λ j. suc j) (place_in (range_with_len (a + 1) n) k)) (ap (nat_eq a) f ∙ nat_eq_self a)
place_at a (suc n) (suc i) k l e =
    ap (λ b. if b then Some 0 else option_map (λ j. suc j) (place_in (range_with_len (a + 1) n) k)) (ne_eqb a k (λ f. omega (arith, e, f)))
    ∙ ap (option_map (λ j. suc j)) (place_at (a + 1) n i k (omega (arith, l)) (omega (arith, e)))

before_hidden : (first e n : ℕ) (hidden : List ℕ) → hidden ≡ range_with_len (first + e) n → (i : ℕ) → i ≤ e → exported_before first hidden i ≡ i
before_hidden first e n hidden is zero l = refl
before_hidden first e n hidden is (suc i) l =
    let p : place_in hidden (first + i) ≡ None = ap (λ h. place_in h (first + i)) is ∙ place_none (first + e) n (first + i) (omega (arith, l)) in
    let q : i + 1 ≡ suc i = omega arith in
    (λ j. before_hidden first e n hidden is i (omega (arith, l)) j + ap one_if_none p j) ∙ q

-- both
module _ (first e count from : ℕ) (hidden : List ℕ) (exported number : ℕ → ℕ) (is : hidden ≡ range_with_len (first + e) (count - e))
    (numbered : IsNumbered first count hidden from exported number) where
  number_exported : (i : ℕ) → i < e → e ≤ count → number (first + i) ≡ exported i
  number_exported i l m =
      numbered.named i (omega (arith, l, m)) ∙ ap (λ p. hidden_or from p (exported i)) (ap (λ h. place_in h (first + i)) is ∙ place_none (first + e) (count - e) (first + i) (omega (arith, l)))

  number_hidden : (j i : ℕ) → i ≡ e + j → i < count → number (first + i) ≡ from + j
  number_hidden j i s l =
      numbered.named i l ∙ ap (λ p. hidden_or from p (exported i)) (ap (λ h. place_in h (first + i)) is ∙ place_at (first + e) (count - e) j (first + i) (omega (arith, s, l)) (omega (arith, s)))

  module _ (told : List ℕ → Option ℕ) (ws vs : List (List ℕ)) (many : length ws ≡ e) (others : length vs ≡ count - e) (fits : e ≤ count) where
    by_place : (g : ℕ) → ((i : ℕ) → i < e → slice_get (numbers_of told g from (with_hidden ws vs)) i ≡ Some (exported i))
        → ((j i : ℕ) → i ≡ e + j → j < length vs → slice_get (numbers_of told g from (with_hidden ws vs)) i ≡ Some (from + j))
        → (i : ℕ) → i < count → slice_get (numbers_of told g from (with_hidden ws vs)) i ≡ Some (number (first + i))
    by_place g front back i l = by (cases_lt i e)
      where
        by : (i < e) ⊎ (e ≤ i) → slice_get (numbers_of told g from (with_hidden ws vs)) i ≡ Some (number (first + i))
        by (inl m) = front i m ∙ ap (λ z. Some z) (sym (number_exported i m fits))
        by (inr m) =
            let s : i ≡ e + (i - e) = omega (arith, m) in
            back (i - e) i s (omega (arith, l, m, others, fits)) ∙ ap (λ z. Some z) (sym (number_hidden (i - e) i s l))

    -- a copy below another one, whose numbers are told
    pub numbers_below : (g : ℕ) → AreTold told ws exported → (i : ℕ) → i < count → slice_get (numbers_of told g from (with_hidden ws vs)) i ≡ Some (number (first + i))
    numbers_below g are = by_place g (λ i l. told_at told exported g from ws vs i are (omega (arith, l, many)))
        (λ j i s l. behind_told told exported g from ws vs j i are (omega (arith, s, many)) l)

    -- the root
    pub numbers_of_root : ((w : List ℕ) → told w ≡ None) → ((i : ℕ) → exported i ≡ first + exported_before first hidden i)
        → (i : ℕ) → i < count → slice_get (numbers_of told first from (with_hidden ws vs)) i ≡ Some (number (first + i))
    numbers_of_root none counts = by_place first
        (λ i l. counted_at told none first from ws vs i (omega (arith, l, many))
        ∙ ap (λ z. Some z) (sym (counts i ∙ ap (λ z. first + z) (before_hidden first e (count - e) hidden is i (omega (arith, l))))))
        (λ j i s l. behind_counted told none first from ws vs j i (omega (arith, s, many)) l)
