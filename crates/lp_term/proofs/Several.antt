-- Values that are put at once are the same as one after the other.
use Rattle.std.proofs.Common.{◌≡◌, ℕ, zero, suc, ◌+◌, ◌-◌, ◌<◌, ◌≤◌, List, [], ◌∷◌, ◌++◌, length, reverse, refl, sym, ap, subst, ◌∙◌, arith, Bool, true, false, nat_lt, nat_eq, take, drop, if◌then◌else◌, Option, Some, None, append_assoc}
use Rattle.std.specs.Prelude.{get_or}
use Rattle.std.proofs.lemmas.Bool.Decides.{nat_tests}
use Rattle.std.proofs.lemmas.List.{reverse-append, take-append-drop, take_all, length-drop}
use Rattle.lp_calculus.specs.Term.{Term, index, atom, abs, app, apply, replace, raised, put_for, shift, substitute}
use Rattle.lp_calculus.specs.Convert.{steps}
use Rattle.lp_term.specs.Spine.{abstractions}
use Rattle.lp_term.specs.Several.{put_each, substitute_under}

-- an index that is raised, or not
pub raised_low : (by d i : ℕ) → i < d → raised by d i ≡ index i
raised_low by d i l = let q : nat_lt i d ≡ true = grind (arith, nat_tests) in ap (λ b. if b then index i else index (i + by)) q

raised_high : (by d i : ℕ) → d ≤ i → raised by d i ≡ index (i + by)
raised_high by d i l = let q : nat_lt i d ≡ false = grind (arith, nat_tests) in ap (λ b. if b then index i else index (i + by)) q

-- an index below those for which values stand, and one above the first of them
pub put_low : (us : List Term) (d i : ℕ) → i < d → put_each us d i ≡ index i
put_low [] d i l = refl
put_low (u ∷ us) d i l = let q : nat_lt i d ≡ true = grind (arith, nat_tests) in ap (λ b. if b then index i else (if nat_eq i d then shift 0 d u else put_each us d (i - 1))) q

put_past : (u : Term) (us : List Term) (d i : ℕ) → d < i → put_each (u ∷ us) d i ≡ put_each us d (i - 1)
put_past u us d i l =
    let q : nat_lt i d ≡ false = grind (arith, nat_tests) in
    let r : nat_eq i d ≡ false = grind (arith, nat_tests) in
    ap (λ b. if b then index i else (if nat_eq i d then shift 0 d u else put_each us d (i - 1))) q ∙ ap (λ b. if b then shift 0 d u else put_each us d (i - 1)) r

-- the value that stands for the index
pub put_here : (us : List Term) (d i j : ℕ) (z : Term) → i ≡ d + j → j < length us → put_each us d i ≡ shift 0 d (get_or us j z)
put_here [] d i j z e l = absurd (omega arith)
put_here (u ∷ us) d i zero z e l =
    let q : nat_lt i d ≡ false = grind (arith, nat_tests) in
    let r : nat_eq i d ≡ true = grind (arith, nat_tests) in
    ap (λ b. if b then index i else (if nat_eq i d then shift 0 d u else put_each us d (i - 1))) q ∙ ap (λ b. if b then shift 0 d u else put_each us d (i - 1)) r
put_here (u ∷ us) d i (suc j) z e l = put_past u us d i (omega arith) ∙ put_here us d (i - 1) j z (omega arith) (omega arith)

-- an index above all of them
pub put_above : (us : List Term) (d i : ℕ) → d + length us ≤ i → put_each us d i ≡ index (i - length us)
put_above [] d i l = (let e : i ≡ i - 0 = omega arith in ap index e)
put_above (u ∷ us) d i l = put_past u us d i (omega arith) ∙ put_above us d (i - 1) (omega arith) ∙ ap index (omega arith)

-- two replacements are one, where they are so at each index
replace_twice : (T : ℕ → ℕ → ℕ → Type 0) (f g h : ℕ → ℕ → Term) → ((d e k : ℕ) → T d e k → T (suc d) (suc e) (suc k)) → ((d e k i : ℕ) → T d e k → replace f d (g e i) ≡ h k i) →
    (d e k : ℕ) → T d e k → (t : Term) → replace f d (replace g e t) ≡ replace h k t
replace_twice T f g h s p d e k r (index i) = p d e k i r
replace_twice T f g h s p d e k r (atom a) = refl
replace_twice T f g h s p d e k r (abs b) = ap abs (replace_twice T f g h s p (suc d) (suc e) (suc k) (s d e k r) b)
replace_twice T f g h s p d e k r (app t u) = λ j. app (replace_twice T f g h s p d e k r t j) (replace_twice T f g h s p d e k r u j)

-- a value that was raised by one more is not met by the next value
lowered_index : (v : Term) (e d n k i : ℕ) → d ≡ n + e → k ≡ n → replace (put_for v) d (raised (suc e) n i) ≡ raised e k i
lowered_index v e d n k i p q = go (nat_lt i n) refl
  where
    go : (c : Bool) → nat_lt i n ≡ c → replace (put_for v) d (raised (suc e) n i) ≡ raised e k i
    go true r =
        let l : i < n = grind (arith, nat_tests) in
        ap (replace (put_for v) d) (raised_low (suc e) n i l) ∙ put_low (v ∷ []) d i (omega arith) ∙ sym (raised_low e k i (omega arith))
    go false r =
        let l : n ≤ i = grind (arith, nat_tests) in
        let m : i + suc e - 1 ≡ i + e = omega arith in
        ap (replace (put_for v) d) (raised_high (suc e) n i l) ∙ put_past v [] d (i + suc e) (omega arith) ∙ ap index m ∙ sym (raised_high e k i (omega arith))

lowered_shift : (v w : Term) (e : ℕ) → replace (put_for v) e (shift 0 (suc e) w) ≡ shift 0 e w
lowered_shift v w e =
    replace_twice (λ d n k. (d ≡ n + e) × (k ≡ n)) (put_for v) (raised (suc e)) (raised e) (λ d n k r. (omega (arith, r.0), omega (arith, r.1)))
    (λ d n k i r. lowered_index v e d n k i r.0 r.1) e 0 0 (omega arith, refl) w

-- one more value, which is put last
put_next : (v : Term) (us : List Term) (e i : ℕ) → replace (put_for v) e (put_each us (suc e) i) ≡ put_each (v ∷ us) e i
put_next v us e i = go (nat_lt i e) (nat_eq i e) (nat_lt i (suc e + length us)) refl refl refl
  where
    go : (a b c : Bool) → nat_lt i e ≡ a → nat_eq i e ≡ b → nat_lt i (suc e + length us) ≡ c → replace (put_for v) e (put_each us (suc e) i) ≡ put_each (v ∷ us) e i
    go true b c p q r =
        let l : i < e = grind (arith, nat_tests) in
        ap (replace (put_for v) e) (put_low us (suc e) i (omega arith)) ∙ put_low (v ∷ []) e i l ∙ sym (put_low (v ∷ us) e i l)
    go false true c p q r =
        let l : i ≡ e = grind (arith, nat_tests) in
        ap (replace (put_for v) e) (put_low us (suc e) i (omega arith)) ∙ put_here (v ∷ []) e i 0 v (omega arith) (omega arith) ∙ sym (put_here (v ∷ us) e i 0 v (omega arith) (omega arith))
    go false false true p q r =
        let l : e < i = grind (arith, nat_tests) in
        let m : i < suc e + length us = grind (arith, nat_tests) in
        let j = i - suc e in
        ap (replace (put_for v) e) (put_here us (suc e) i j v (omega arith) (omega arith)) ∙ lowered_shift v (get_or us j v) e ∙
        sym (put_past v us e i l ∙ put_here us e (i - 1) j v (omega arith) (omega arith))
    go false false false p q r =
        let l : e < i = grind (arith, nat_tests) in
        let m : suc e + length us ≤ i = grind (arith, nat_tests) in
        let n : i - length us - 1 ≡ i - 1 - length us = omega arith in
        ap (replace (put_for v) e) (put_above us (suc e) i m) ∙ put_past v [] e (i - length us) (omega arith) ∙ ap index n ∙
        sym (put_past v us e i l ∙ put_above us e (i - 1) (omega arith))

replace_none : (d : ℕ) (t : Term) → replace (put_each []) d t ≡ t
replace_none d (index i) = refl
replace_none d (atom a) = refl
replace_none d (abs b) = ap abs (replace_none (suc d) b)
replace_none d (app t u) = λ j. app (replace_none d t j) (replace_none d u j)

pub put_under : (us : List Term) (d : ℕ) (b : Term) → replace (put_each us) d b ≡ substitute_under d us b
put_under [] d b = replace_none d b
put_under (u ∷ us) d b =
    sym (replace_twice (λ d e k. (e ≡ suc d) × (k ≡ d)) (put_for u) (put_each us) (put_each (u ∷ us)) (λ d e k r. (ap suc r.0, ap suc r.1))
    (λ d e k i r. ap (λ n. replace (put_for u) d (put_each us n i)) r.0 ∙ put_next u us d i ∙ ap (λ n. put_each (u ∷ us) n i) (sym r.1)) d (suc d) d (refl, refl) b) ∙
    ap (replace (put_for u) d) (put_under us (suc d) b)

-- abstractions on as many arguments, of which the values are the last ones first
pub abstractions_out : (d : ℕ) (t : Term) → abstractions (suc d) t ≡ abs (abstractions d t)
abstractions_out zero t = refl
abstractions_out (suc d) t = abstractions_out d (abs t)

replace-abstractions : (f : ℕ → ℕ → Term) (e d n : ℕ) (t : Term) → n ≡ e + d → replace f e (abstractions d t) ≡ abstractions d (replace f n t)
replace-abstractions f e zero n t q = ap (λ m. replace f m t) (omega arith)
replace-abstractions f e (suc d) n t q =
    ap (replace f e) (abstractions_out d t) ∙ ap abs (replace-abstractions f (suc e) d n t (omega arith)) ∙ sym (abstractions_out d (replace f n t))

pub step_after : (f : Term → Option Term) (n : ℕ) (t s r : Term) → steps f n t ≡ Some s → f s ≡ Some r → steps f (suc n) t ≡ Some r
step_after f zero t s r e h =
    let q : t ≡ s = cc in ap (λ (o : Option Term). elim o as (λ z. Option Term) [ None ↦ None | Some u ↦ Some u ]) (ap f q ∙ h)
step_after f (suc n) t s r e h =
    elim (f t) as (λ o. (elim o as (λ z. Option Term) [ None ↦ None | Some u ↦ steps f n u ]) ≡ Some s → (elim o as (λ z. Option Term) [ None ↦ None | Some u ↦ steps f (suc n) u ]) ≡ Some r) [
      | None ↦ λ p. absurd (cc)
      | Some u ↦ λ p. step_after f n u s r p h
    ] e

pub steps_then : (f : Term → Option Term) (j k m : ℕ) (t s r : Term) → m ≡ j + k → steps f j t ≡ Some s → steps f k s ≡ Some r → steps f m t ≡ Some r
steps_then f zero k m t s r q e g = (let z : k ≡ m = omega arith in let i : t ≡ s = cc in ap (λ n. steps f n t) (sym z) ∙ ap (steps f k) i ∙ g)
steps_then f (suc j) k zero t s r q e g = absurd (omega arith)
steps_then f (suc j) k (suc m) t s r q e g =
    elim (f t) as (λ o. (elim o [ None ↦ None | Some u ↦ steps f j u ]) ≡ Some s → (elim o [ None ↦ None | Some u ↦ steps f m u ]) ≡ Some r) [
      | None ↦ λ p. absurd (cc)
      | Some u ↦ λ p. steps_then f j k m u s r (omega arith) p g
    ] e

-- a list from a place on, and what is before it
pub parted : {X : Type 0} (xs ys zs : List X) (k n : ℕ) → ys ≡ take k xs → zs ≡ take n (drop k xs) → length xs ≤ k + n → xs ≡ ys ++ zs
parted xs ys zs k n y z l = sym (take-append-drop k xs) ∙ (λ j. sym y j ++ sym (take_all n (drop k xs) (omega (arith, length-drop k xs))) j) ∙ ap (λ w. ys ++ w) (sym z)

-- the last terms of a list, one more than so many
pub last_ones : {X : Type 0} (xs ds ys : List X) (k more count most : ℕ) → ds ≡ xs → count ≡ length xs → k ≡ count - 1 - more → more ≤ most - 1 → most ≤ count → 0 < count → ys ≡ take k xs →
    (xs ≡ ys ++ take (length ds - k) (drop k ds)) × (length (take (length ds - k) (drop k ds)) ≡ suc more)
last_ones xs ds ys k more count most e l q m n z y =
    let whole : take (length xs - k) (drop k xs) ≡ drop k xs = take_all (length xs - k) (drop k xs) (omega (arith, length-drop k xs)) in
    subst (λ d. (xs ≡ ys ++ take (length d - k) (drop k d)) × (length (take (length d - k) (drop k d)) ≡ suc more)) (sym e)
    (parted xs ys (take (length xs - k) (drop k xs)) k (length xs - k) y refl (omega arith), omega (arith, ap length whole, length-drop k xs))

-- as many steps as there are values, one for each, whatever is around
pub steps_each : (f : Term → Option Term) (K : Term → Term) → ((b u : Term) (xs : List Term) → f (K (apply (abs b) (u ∷ xs))) ≡ Some (K (apply (substitute u b) xs))) →
    (us : List Term) (d n : ℕ) (b : Term) (rest : List Term) → n ≡ d + length us → steps f (length us) (K (apply (abstractions n b) (reverse us ++ rest))) ≡ Some (K (apply (abstractions d (substitute_under d us b)) rest))
steps_each f K h [] d n b rest q = (let e : n ≡ d = omega (arith, q) in ap (λ m. Some (K (apply (abstractions m b) rest))) e)
steps_each f K h (u ∷ us) d n b rest q =
    let s = substitute_under (suc d) us b in
    step_after f (length us) (K (apply (abstractions n b) (reverse (u ∷ us) ++ rest))) (K (apply (abstractions (suc d) s) (u ∷ rest))) (K (apply (abstractions d (replace (put_for u) d s)) rest))
    (ap (λ l. steps f (length us) (K (apply (abstractions n b) l))) (ap (λ l. l ++ rest) (reverse-append (u ∷ []) us) ∙ append_assoc (reverse us) (u ∷ []) rest) ∙ steps_each f K h us (suc d) n b (u ∷ rest) (omega arith))
    (ap (λ t. f (K (apply t (u ∷ rest)))) (abstractions_out d s) ∙ h (abstractions d s) u rest ∙ ap (λ t. Some (K (apply t rest))) (replace-abstractions (put_for u) 0 d d s (omega arith)))

-- what each of these steps keeps
pub kept_each : (P : Term → Type 0) (K : Term → Term) → ((b u : Term) (xs : List Term) → P (K (apply (abs b) (u ∷ xs))) → P (K (apply (substitute u b) xs))) →
    (us : List Term) (d n : ℕ) (b : Term) (rest : List Term) → n ≡ d + length us → P (K (apply (abstractions n b) (reverse us ++ rest))) → P (K (apply (abstractions d (substitute_under d us b)) rest))
kept_each P K h [] d n b rest q p = (let e : n ≡ d = omega (arith, q) in subst (λ m. P (K (apply (abstractions m b) rest))) e p)
kept_each P K h (u ∷ us) d n b rest q p =
    let s = substitute_under (suc d) us b in
    subst (λ t. P (K (apply t rest))) (replace-abstractions (put_for u) 0 d d s (omega arith))
    (h (abstractions d s) u rest (subst (λ t. P (K (apply t (u ∷ rest)))) (abstractions_out d s) (kept_each P K h us (suc d) n b (u ∷ rest) (omega arith)
    (subst (λ l. P (K (apply (abstractions n b) l))) (ap (λ l. l ++ rest) (reverse-append (u ∷ []) us) ∙ append_assoc (reverse us) (u ∷ []) rest) p))))
