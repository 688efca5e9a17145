-- Texts of atoms, byte by byte, and the places of variables.
use Rattle.std.proofs.Common.{◌≡◌, ℕ, zero, suc, ◌+◌, ◌<◌, ◌≤◌, List, [], ◌∷◌, ◌++◌, Bool, true, false, length, get_or, take, Option, Some, None, refl, sym, ap, ap₂, ◌∙◌, arith, append_assoc}
use Rattle.std.specs.Prelude.{nat_eq, if◌then◌else◌, ◌||◌, codes, position, cond, not, nat_lt}
use Rattle.std.specs.List.{list_any, prefix_len}
use Rattle.std.proofs.lemmas.Bool.Decides.{nat_tests}
use Rattle.std.proofs.lemmas.List.{take_more}
use Rattle.lp_model.specs.Shown.{escaped, place_of, is_seen, with_variable}

escaped_cons : (b : ℕ) (bs : List ℕ) → escaped (b ∷ bs) ≡ escaped (b ∷ []) ++ escaped bs
escaped_cons b bs = go (nat_eq b 92) (nat_eq b 34) (nat_eq b 10) (nat_eq b 9)
  where
    go : (p q r t : Bool) →
        (if p then codes "\\\\" ++ escaped bs else (if q then codes "\\\"" ++ escaped bs else (if r then codes "\\n" ++ escaped bs else (if t then codes "\\t" ++ escaped bs else b ∷ escaped bs)))) ≡
        (if p then codes "\\\\" ++ [] else (if q then codes "\\\"" ++ [] else (if r then codes "\\n" ++ [] else (if t then codes "\\t" ++ [] else b ∷ [])))) ++ escaped bs
    go true q r t = refl
    go false true r t = refl
    go false false true t = refl
    go false false false true = refl
    go false false false false = refl

escaped_append : (xs bs : List ℕ) → escaped (xs ++ bs) ≡ escaped xs ++ escaped bs
escaped_append [] bs = refl
escaped_append (x ∷ xs) bs =
    escaped_cons x (xs ++ bs) ∙ ap (λ l. escaped (x ∷ []) ++ l) (escaped_append xs bs) ∙ sym (append_assoc (escaped (x ∷ [])) (escaped xs) (escaped bs)) ∙ ap (λ l. l ++ escaped bs) (sym (escaped_cons x xs))

-- one byte more
pub escaped_more : (bs : List ℕ) (i d : ℕ) (text out new : List ℕ) → i < length bs → out ≡ text ++ escaped (take i bs) → new ≡ out ++ escaped (get_or bs i d ∷ []) → new ≡ text ++ escaped (take (i + 1) bs)
escaped_more bs i d text out new h e f =
    f ∙ ap (λ l. l ++ escaped (get_or bs i d ∷ [])) e ∙ append_assoc text (escaped (take i bs)) (escaped (get_or bs i d ∷ [])) ∙ ap (λ l. text ++ l) (sym (ap escaped (take_more bs i d h) ∙ escaped_append (take i bs) (get_or bs i d ∷ [])))

-- places of variables
place_prefix : (x : ℕ) (vs : List ℕ) → (prefix_len (λ v. not (nat_eq x v)) vs ≡ place_of x vs) × (place_of x vs ≤ length vs)
place_prefix x [] = (refl, omega arith)
place_prefix x (v ∷ vs) = go (nat_eq x v) (prefix_len (λ v. not (nat_eq x v)) vs) (place_of x vs) (length vs) (place_prefix x vs).0 (place_prefix x vs).1
  where
    go : (b : Bool) (n m l : ℕ) → n ≡ m → m ≤ l → (cond (not b) (1 + n) 0 ≡ (if b then 0 else suc m)) × ((if b then 0 else suc m) ≤ suc l)
    go true n m l e f = (refl, omega arith)
    go false n m l e f = (omega arith, omega arith)

pub place_here : (x : ℕ) (vs : List ℕ) (i : ℕ) → Some i ≡ position (nat_eq x) vs → i ≡ place_of x vs
place_here x vs i h = go (nat_lt (prefix_len (λ v. not (nat_eq x v)) vs) (length vs)) (prefix_len (λ v. not (nat_eq x v)) vs) h ∙ (place_prefix x vs).0
  where
    go : (b : Bool) (n : ℕ) → Some i ≡ cond b (Some n) None → i ≡ n
    go true n e = cc
    go false n e = absurd (cc)

pub place_absent : (x : ℕ) (vs : List ℕ) → None ≡ position (nat_eq x) vs → length vs ≡ place_of x vs
place_absent x vs h =
    go (nat_lt (prefix_len (λ v. not (nat_eq x v)) vs) (length vs)) (prefix_len (λ v. not (nat_eq x v)) vs) (length vs) (place_of x vs) refl h (place_prefix x vs).0 (place_prefix x vs).1
  where
    not_less : (n l : ℕ) → nat_lt n l ≡ false → l ≤ n
    not_less n l e = grind (arith, nat_tests)

    go : (b : Bool) (n l m : ℕ) → nat_lt n l ≡ b → None ≡ cond b (Some n) None → n ≡ m → m ≤ l → l ≡ m
    go true n l m t e f g = absurd (cc)
    go false n l m t e f g = omega (arith, not_less n l t)

seen_any : (x : ℕ) (vs : List ℕ) → list_any (nat_eq x) vs ≡ is_seen x vs
seen_any x [] = refl
seen_any x (v ∷ vs) = ap (λ b. nat_eq x v || b) (seen_any x vs)

pub variable_added : (x : ℕ) (vs new : List ℕ) → new ≡ (if list_any (nat_eq x) vs then vs else vs ++ x ∷ []) → new ≡ with_variable x vs
variable_added x vs new e = e ∙ ap (λ b. if b then vs else vs ++ x ∷ []) (seen_any x vs)
