-- The number of a declared kind stands beside its name; a standard kind has none of these.
use Rattle.std.proofs.Common.{◌≡◌, ℕ, suc, ◌+◌, ◌<◌, ◌≤◌, min, List, [], ◌∷◌, Bool, true, false, Option, Some, None, refl, sym, ap, subst, ◌∙◌, true≢false, cond, map, arith, inl, inr}
use Rattle.std.specs.Prelude.{if◌then◌else◌, option_map, is_some, ◌||◌, ◌⊎◌, IfSome, codes}
use Rattle.std.specs.Str.{bytes_eq}
use Rattle.std.proofs.lemmas.Slice.Eq.{bytes_eq-Decides}
use Rattle.lp_sig.specs.Places.{first_place}
use Rattle.lp_sig.specs.Rows.{Row, found}
use Rattle.lp_sig.specs.Standard.{standard_kinds}
use Rattle.lp_sig.specs.Said.{Said, a_kind, an_abbreviation, is_among, names_in, firsts, declared_names, kinds_among, numbered}
use Rattle.lp_sig.specs.Words.{number_said}
use Rattle.lp_sig.specs.Knowing.{Knows, kinded_row}
use Rattle.lp_sig.specs.declared.names.Names.{Names}
use Rattle.lp_sig.specs.declared.names.Kinded.{Kinded}
use Rattle.lp_sig.proofs.Firsts.{found_among}

numbered_none : (name : List ℕ) (n : ℕ) (rows : List (Row ℕ)) → found name rows ≡ None → found name (numbered n rows) ≡ None
numbered_none name n [] e = refl
numbered_none name n (r ∷ rs) e = by (numbered_none name (suc n) rs) (bytes_eq name r.0) e
  where
    by : (found name rs ≡ None → found name (numbered (suc n) rs) ≡ None) → (t : Bool) → cond t (Some r.1) (found name rs) ≡ None → cond t (Some (n, r.1)) (found name (numbered (suc n) rs)) ≡ None
    by h true e = absurd (cc)
    by h false e = h e

-- the number at a place
number_at : (name : List ℕ) (n : ℕ) (kinds : List Kinded) (i : ℕ) → first_place name (map (λ k. k.name.items) kinds) ≡ Some i → option_map (λ r. r.0) (found name (numbered n (map kinded_row kinds))) ≡ Some (n + i)
number_at name n [] i there = absurd (cc)
number_at name n (x ∷ xs) i there = by (λ j h. number_at name (suc n) xs j h) (bytes_eq name x.name.items) there
  where
    deeper : ((j : ℕ) → first_place name (map (λ k. k.name.items) xs) ≡ Some j → option_map (λ r. r.0) (found name (numbered (suc n) (map kinded_row xs))) ≡ Some (suc n + j)) → (o : Option ℕ) → o ≡ first_place name (map (λ k. k.name.items) xs) → option_map (λ i. suc i) o ≡ Some i →
        option_map (λ r. r.0) (found name (numbered (suc n) (map kinded_row xs))) ≡ Some (n + i)
    deeper h None q p = absurd (cc)
    deeper h (Some j) q p =
        let r : suc j ≡ i = cc in
        let z : suc n + j ≡ n + i = omega (arith, r) in
        h j (sym q) ∙ ap (λ k. Some k) z

    by : ((j : ℕ) → first_place name (map (λ k. k.name.items) xs) ≡ Some j → option_map (λ r. r.0) (found name (numbered (suc n) (map kinded_row xs))) ≡ Some (suc n + j)) → (t : Bool) → (if t then Some 0 else option_map (λ i. suc i) (first_place name (map (λ k. k.name.items) xs))) ≡ Some i →
        option_map (λ r. r.0) (cond t (Some (n, x.arity)) (found name (numbered (suc n) (map kinded_row xs)))) ≡ Some (n + i)
    by h true p =
        let r : 0 ≡ i = cc in
        let z : n ≡ n + i = omega (arith, r) in
        ap (λ k. Some k) z
    by h false p = deeper h (first_place name (map (λ k. k.name.items) xs)) refl p

-- a name that is known is no kind behind
no_kind : (name : List ℕ) (known : List (List ℕ)) (said : List (Row Said)) → is_among name known ≡ true → found name (kinds_among (firsts known said)) ≡ None
no_kind name known [] old = refl
no_kind name known ((n, w) ∷ ss) old = by (is_among n known) refl (no_kind name known ss old) (λ g. no_kind name (n ∷ known) ss g)
  where
    more : is_among name (n ∷ known) ≡ true
    more = by (bytes_eq name n) (is_among name known) old
      where
        by : (a b : Bool) → b ≡ true → (a || b) ≡ true
        by true b e = refl
        by false b e = e

    a_kind_here : (p : ℕ) (b : Bool) → bytes_eq name n ≡ b → is_among n known ≡ false → found name (kinds_among (firsts (n ∷ known) ss)) ≡ None → cond b (Some p) (found name (kinds_among (firsts (n ∷ known) ss))) ≡ None
    a_kind_here p true f e h = absurd (true≢false (sym old ∙ ap (λ x. is_among x known) ((bytes_eq-Decides name n).0 f) ∙ e))
    a_kind_here p false f e h = h

    by_said : (w : Said) → is_among n known ≡ false → found name (kinds_among (firsts (n ∷ known) ss)) ≡ None → found name (kinds_among ((n, w) ∷ firsts (n ∷ known) ss)) ≡ None
    by_said (a_kind c) e h = a_kind_here c (bytes_eq name n) refl e h
    by_said (an_abbreviation p) e h = h

    by : (t : Bool) → is_among n known ≡ t → found name (kinds_among (firsts known ss)) ≡ None → (is_among name (n ∷ known) ≡ true → found name (kinds_among (firsts (n ∷ known) ss)) ≡ None) →
        found name (kinds_among (if t then firsts known ss else (n, w) ∷ firsts (n ∷ known) ss)) ≡ None
    by true e h g = h
    by false e h g = by_said w e (g more)

low : (a b : ℕ × ℕ) → Some a ≡ Some b → a.0 < 8 → b.0 < 8
low a b e l =
    let pair : a ≡ b = cc in
    let r : a.0 ≡ b.0 = ap (λ z. z.0) pair in
    omega (arith, r, l)

one_of_four : (a b c d : Bool) (w x y z v : ℕ × ℕ) → cond a (Some w) (cond b (Some x) (cond c (Some y) (cond d (Some z) None))) ≡ Some v → w.0 < 8 → x.0 < 8 → y.0 < 8 → z.0 < 8 → v.0 < 8
one_of_four true b c d w x y z v e l m n o = low w v e l
one_of_four false true c d w x y z v e l m n o = low x v e m
one_of_four false false true d w x y z v e l m n o = low y v e n
one_of_four false false false true w x y z v e l m n o = low z v e o
one_of_four false false false false w x y z v e l m n o = absurd (cc)

-- a standard kind
pub standard_number : (name : List ℕ) (said : List (Row Said)) (number count : ℕ) → Some (number, count) ≡ found name standard_kinds → (number_said name said ≡ None) × (number < 8)
unfolding number_said
standard_number name said number count is = (
  ap (option_map (λ r. r.0)) (numbered_none name 8 (kinds_among (declared_names said)) (no_kind name (names_in standard_kinds) said (sym (found_among name standard_kinds) ∙ ap is_some (sym is)))),
  one_of_four (bytes_eq name (codes "o")) (bytes_eq name (codes "int")) (bytes_eq name (codes "string")) (bytes_eq name (codes "list")) (0, 0) (1, 0) (2, 0) (3, 1) (number, count) (sym is) (omega arith) (omega arith) (omega arith) (omega arith),
)

-- a declared one
pub declared_number : (names : Names) (said : List (Row Said)) (name : List ℕ) (k : Knows names said) (p : Option ℕ) (i number : ℕ) → p ≡ Some i → p ≡ first_place name (map (λ k. k.name.items) names.kinds.items) → number ≡ min (8 + i) 4294967295 →
    (k : ℕ) × (number_said name said ≡ Some k) × (number ≡ min k 4294967295)
unfolding number_said
declared_number names said name k p i number some b is =
    (8 + i, ap (λ rows. option_map (λ r. r.0) (found name (numbered 8 rows))) (sym k.kinds) ∙ number_at name 8 names.kinds.items i (sym b ∙ some), is)

abbrev IsCounted : Option ℕ → ℕ → Type 0
IsCounted o number = ((o ≡ None) × (number < 8)) ⊎ ((k : ℕ) × (o ≡ Some k) × (number ≡ min k 4294967295))

-- a number past the end, and one before it
pub past_end : (o : Option ℕ) (number : ℕ) → IsCounted o number → 65535 ≤ number → (n : ℕ) × (o ≡ Some n) × (65535 ≤ n)
past_end o number (inl s) h = let l = s.1 in absurd (omega (arith, l, h))
past_end o number (inr d) h = let e = d.2 in (d.0, d.1, omega (arith, e, h))

pub before_end : (o : Option ℕ) (number : ℕ) → IsCounted o number → number < 65535 → IfSome o (λ n. n < 65535)
before_end o number (inl s) h = subst (λ o. IfSome o (λ n. n < 65535)) (sym s.0) tt
before_end o number (inr d) h =
    let e = d.2 in
    let l : d.0 < 65535 = omega (arith, e, h) in
    subst (λ o. IfSome o (λ n. n < 65535)) (sym d.1) l
