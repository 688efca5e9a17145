-- Pieces appended one behind another, and prefixes of them.
use Rattle.std.proofs.Common.{◌≡◌, ℕ, ◌+◌, ◌<◌, ◌≤◌, List, [], ◌++◌, length, Option, Some, None, refl, sym, ap, ◌∙◌, subst, arith, inl, inr, append_assoc, append-nil}
use Rattle.std.specs.Prelude.{take, ◌⊎◌}
use Rattle.std.proofs.lemmas.Bool.{cases_lt}
use Rattle.std.proofs.Math.Seq.{take-append-add}
use Rattle.std.proofs.lemmas.List.{take-append-le, take_all}
use Rattle.lp_base.specs.Written.{Appends, AppendsPrefix}

-- nothing appended
pub appends_nothing : (o : Option (List ℕ)) → Appends o o []
appends_nothing None = tt
appends_nothing (Some xs) = (xs, refl, sym (append-nil xs))

-- one piece behind another
pub appends_both : (a b c : Option (List ℕ)) (xs ys : List ℕ) → Appends a b xs → Appends b c ys → Appends a c (xs ++ ys)
appends_both a b None xs ys h k = tt
appends_both a None (Some z) xs ys h k = let e = k.1 in cc
appends_both a (Some y) (Some z) xs ys h k =
    let e : y ≡ k.0 = cc in
    (h.0, h.1, k.2 ∙ ap (λ w. w ++ ys) (sym e ∙ h.2) ∙ append_assoc h.0 xs ys)

-- a prefix of a piece behind another is a prefix of both
pub prefix_behind : (a b c : Option (List ℕ)) (xs ys : List ℕ) → Appends a b xs → AppendsPrefix b c ys → AppendsPrefix a c (xs ++ ys)
prefix_behind a b c xs ys h k =
    (length xs + k.0, subst (Appends a c) (sym (take-append-add xs ys k.0)) (appends_both a b c xs (take k.0 ys) h k.1))

-- a prefix of a list is one of a longer list
shorter : (n : ℕ) (xs ys : List ℕ) → (k : ℕ) × (take k (xs ++ ys) ≡ take n xs)
shorter n xs ys = go (cases_lt n (length xs))
  where
    go : (n < length xs) ⊎ (length xs ≤ n) → (k : ℕ) × (take k (xs ++ ys) ≡ take n xs)
    go (inl l) = let short : n ≤ length xs = omega arith in (n, take-append-le n xs ys short)
    go (inr l) = let same : length xs ≤ length xs = omega arith in (length xs, take-append-le (length xs) xs ys same ∙ take_all (length xs) xs same ∙ sym (take_all n xs l))

pub prefix_longer : (a b : Option (List ℕ)) (xs ys : List ℕ) → AppendsPrefix a b xs → AppendsPrefix a b (xs ++ ys)
prefix_longer a b xs ys h = let s = shorter h.0 xs ys in (s.0, subst (Appends a b) (sym s.1) h.1)

-- a whole piece is a prefix of itself
pub whole_prefix : (a b : Option (List ℕ)) (xs : List ℕ) → Appends a b xs → AppendsPrefix a b xs
whole_prefix a b xs h = let same : length xs ≤ length xs = omega arith in (length xs, subst (Appends a b) (sym (take_all (length xs) xs same)) h)

-- a prefix of a piece was appended
pub prefix_grows : (a b : Option (List ℕ)) (xs : List ℕ) → AppendsPrefix a b xs → (text : List ℕ) × Appends a b text
prefix_grows a b xs h = (take h.0 xs, h.1)

-- one growth behind another
pub grows_both : (a b c : Option (List ℕ)) → (text : List ℕ) × Appends a b text → (text : List ℕ) × Appends b c text → (text : List ℕ) × Appends a c text
grows_both a b c h k = (h.0 ++ k.0, appends_both a b c h.0 k.0 h.1 k.1)
