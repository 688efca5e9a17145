-- The name shown for a binder is no constant's: the constants that have the name of one number are taken out, and by induction on how many are left the
-- search from the next number on finds a number that is free among the others, so it is free among all.
use Rattle.std.proofs.Common.{◌≡◌, ℕ, zero, suc, ◌+◌, List, [], ◌∷◌, ◌++◌, length, refl, sym, ap, subst, ◌∙◌, arith}
use Rattle.std.specs.Prelude.{◌*◌, ◌<◌, ◌≤◌, ◌^◌, nat_eq, Bool, true, false, ◌&&◌, ◌||◌, if◌then◌else◌, codes, decimal}
use Rattle.std.specs.Str.{bytes_eq}
use Rattle.std.proofs.lemmas.Slice.Eq.{bytes_eq-Decides}
use Rattle.std.proofs.Math.Nat.{suc-mul}
use Rattle.std.proofs.Math.Arith.{lt_of_le-ne}
use Rattle.std.proofs.lemmas.Bool.{eqb-true, eqb-false}
use Rattle.std.proofs.lemmas.List.{append_cancel_left}
use Rattle.std.proofs.lemmas.Fmt.{decimal_injective}
use Rattle.lp_model.specs.Shown.{Entry, has_name, is_taken, next_free, binder_number, binder_name}

-- the constant has the name of this number
abbrev has_number : ℕ → Entry → Bool
has_number k e = nat_eq e.hidden 0 && bytes_eq (codes "x" ++ decimal k) e.name

abbrev without : ℕ → List Entry → List Entry
without k [] = []
without k (e ∷ es) = if has_number k e then without k es else e ∷ without k es

no_longer : (k : ℕ) (es : List Entry) → length (without k es) ≤ length es
no_longer k [] = omega arith
no_longer k (e ∷ es) = go (no_longer k es) (has_number k e)
  where
    go : length (without k es) ≤ length es → (b : Bool) → length (if b then without k es else e ∷ without k es) ≤ suc (length es)
    go i true = omega arith
    go i false = omega arith

shorter : (k : ℕ) (es : List Entry) → is_taken es k ≡ true → length (without k es) < length es
shorter k [] h = cc
shorter k (e ∷ es) h = go (shorter k es) (has_number k e) h
  where
    go : (is_taken es k ≡ true → length (without k es) < length es) → (b : Bool) → (b || is_taken es k) ≡ true
        → length (if b then without k es else e ∷ without k es) < suc (length es)
    go f true h = let i = no_longer k es in omega arith
    go f false h = let i = f h in omega arith

-- a name has one number
number_of : (j k : ℕ) → j < 2 ^ 64 → k < 2 ^ 64 → (e : Entry) → has_number j e ≡ true → has_number k e ≡ true → j ≡ k
number_of j k a b e = go (nat_eq e.hidden 0)
  where
    go : (h : Bool) → (h && bytes_eq (codes "x" ++ decimal j) e.name) ≡ true → (h && bytes_eq (codes "x" ++ decimal k) e.name) ≡ true → j ≡ k
    go true p q = decimal_injective j k a b (append_cancel_left (codes "x") (decimal j) (decimal k)
        ((bytes_eq-Decides (codes "x" ++ decimal j) e.name).0 p ∙ sym ((bytes_eq-Decides (codes "x" ++ decimal k) e.name).0 q)))
    go false p q = cc

-- other numbers are taken as before
others : (k j : ℕ) → k < j → j < 2 ^ 64 → (es : List Entry) → is_taken (without k es) j ≡ is_taken es j
others k j l b [] = refl
others k j l b (e ∷ es) = go (others k j l b es) (has_number k e) refl (has_number j e) refl
  where
    go : is_taken (without k es) j ≡ is_taken es j → (h : Bool) → has_number k e ≡ h → (g : Bool) → has_number j e ≡ g
        → is_taken (if h then without k es else e ∷ without k es) j ≡ (g || is_taken es j)
    go i true p true q = let s = number_of j k b (omega arith) e q p in absurd (omega arith)
    go i true p false q = i
    go i false p g q = ap (λ x. x || is_taken (without k es) j) q ∙ ap (λ x. g || x) i

same_search : (n k j : ℕ) → k < j → j + n < 2 ^ 64 → (es : List Entry) → next_free n (without k es) j ≡ next_free n es j
same_search zero k j l b es = refl
same_search (suc n) k j l b es = ap (λ x. if x then next_free n (without k es) (suc j) else j) (others k j l (omega arith) es)
    ∙ ap (λ x. if is_taken es j then x else j) (same_search n k (suc j) (omega arith) (omega arith) es)

at_least : (n : ℕ) (es : List Entry) (k : ℕ) → k ≤ next_free n es k
at_least zero es k = omega arith
at_least (suc n) es k = go (at_least n es (suc k)) (is_taken es k)
  where
    go : suc k ≤ next_free n es (suc k) → (b : Bool) → k ≤ (if b then next_free n es (suc k) else k)
    go i true = omega arith
    go i false = omega arith

at_most : (n : ℕ) (es : List Entry) (k : ℕ) → next_free n es k ≤ k + n
at_most zero es k = omega arith
at_most (suc n) es k = go (at_most n es (suc k)) (is_taken es k)
  where
    go : next_free n es (suc k) ≤ suc k + n → (b : Bool) → (if b then next_free n es (suc k) else k) ≤ k + suc n
    go i true = omega arith
    go i false = omega arith

is_free : (n : ℕ) (es : List Entry) (k : ℕ) → length es ≤ n → k + n < 2 ^ 64 → is_taken es (next_free n es k) ≡ false
is_free zero [] k l b = refl
is_free zero (e ∷ es) k l b = absurd (omega arith)
is_free (suc n) es k l b = go (λ s. is_free n (without k es) (suc k) (omega arith) (omega arith)) (is_taken es k) refl
  where
    go : (length (without k es) < length es → is_taken (without k es) (next_free n (without k es) (suc k)) ≡ false)
        → (t : Bool) → is_taken es k ≡ t → is_taken es (if t then next_free n es (suc k) else k) ≡ false
    go f false q = q
    go f true q =
        let e = same_search n k (suc k) (omega arith) (omega arith) es in
        let a = at_least n es (suc k) in
        let m = at_most n es (suc k) in
        sym (others k (next_free n es (suc k)) (omega arith) (omega arith) es) ∙ subst (λ x. is_taken (without k es) x ≡ false) e (f (shorter k es q))

below : (es : List Entry) (d : ℕ) → binder_number es d ≤ suc d * suc (length es)
below es zero = let m = at_most (length es) es 1 in let s = suc-mul 0 (suc (length es)) in let z = suc-mul 0 0 in omega arith
below es (suc d) =
    let m = at_most (length es) es (suc (binder_number es d)) in
    let i = below es d in
    let s = suc-mul (suc d) (suc (length es)) in
    omega arith

pub no_constant : (es : List Entry) (d : ℕ) → suc d * suc (length es) < 2 ^ 64 → has_name (binder_name es d) es ≡ false
no_constant es zero l = let s = suc-mul 0 (suc (length es)) in is_free (length es) es 1 (omega arith) (omega arith)
no_constant es (suc d) l =
    let i = below es d in
    let s = suc-mul (suc d) (suc (length es)) in
    is_free (length es) es (suc (binder_number es d)) (omega arith) (omega arith)

next_greater : (es : List Entry) (d : ℕ) → binder_number es d < binder_number es (suc d)
next_greater es d = at_least (length es) es (suc (binder_number es d))

pub differ : (es : List Entry) (d e : ℕ) → d < e → binder_number es d < binder_number es e
differ es d zero l = absurd (omega arith)
differ es d (suc e) l = go (differ es d e) (nat_eq d e) refl
  where
    go : (d < e → binder_number es d < binder_number es e) → (b : Bool) → nat_eq d e ≡ b → binder_number es d < binder_number es (suc e)
    go f true q = subst (λ x. binder_number es d < binder_number es (suc x)) (eqb-true d e q) (next_greater es d)
    go f false q = let n = next_greater es e in let i = f (lt_of_le-ne {i = d} {k = e} (omega arith) (eqb-false d e q)) in omega arith
