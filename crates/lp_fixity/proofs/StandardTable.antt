-- The standard table, from the last constant of the language on.
use Rattle.std.proofs.Common.{◌≡◌, ◌<◌, ℕ, zero, suc, List, [], ◌∷◌, ◌++◌, Option, Some, None, length, drop, refl, sym, ap, ◌∙◌, arith}
use Rattle.std.specs.Prelude.{if◌then◌else◌, slice_get}
use Rattle.std.specs.Str.{bytes_eq}
use Rattle.lp_standard.specs.declared.fixity.Fixity.{Fixity}
use Rattle.lp_standard.specs.declared.constant.Constant.{Constant}
use Rattle.lp_standard.specs.Constants.{language, reserved, numbered}
use Rattle.lp_fixity.specs.Table.{Entry, operator, operators, with_entries}

next_of : (xs ys : List Constant) (k : ℕ) (c : Constant) → k < length xs → slice_get (xs ++ ys) k ≡ Some c → drop k xs ≡ c ∷ drop (suc k) xs
next_of [] ys k c h e = absurd (omega (arith, h))
next_of (x ∷ xs) ys zero c h e = let f : x ≡ c = cc in ap (λ y. y ∷ xs) f
next_of (x ∷ xs) ys (suc k) c h e = next_of xs ys k c (omega (arith, h)) e

same_rest : (es : List Entry) (f g : List ℕ → Option (Fixity × ℕ)) (n : List ℕ) → f n ≡ g n → with_entries es f n ≡ with_entries es g n
same_rest [] f g n e = e
same_rest (x ∷ es) f g n e = ap (λ o. if bytes_eq n x.0 then Some x.1 else o) (same_rest es f g n e)

with_both : (es fs : List Entry) (f : List ℕ → Option (Fixity × ℕ)) (n : List ℕ) → with_entries es (with_entries fs f) n ≡ with_entries (es ++ fs) f n
with_both [] fs f n = refl
with_both (x ∷ es) fs f n = ap (λ o. if bytes_eq n x.0 then Some x.1 else o) (with_both es fs f n)

-- a constant more
pub one_more : (old new : List ℕ → Option (Fixity × ℕ)) (left k : ℕ) (c : Constant) → left ≡ suc k → k < 25 → numbered k ≡ Some c →
    ((n : List ℕ) → old n ≡ with_entries (operators (drop left language)) (λ _. None) n) →
    ((n : List ℕ) → new n ≡ with_entries (operator c) old n) → (n : List ℕ) → new n ≡ with_entries (operators (drop k language)) (λ _. None) n
one_more old new left k c l below is before now n =
    now n ∙ same_rest (operator c) old (with_entries (operators (drop left language)) (λ _. None)) n (before n) ∙
    with_both (operator c) (operators (drop left language)) (λ _. None) n ∙
    ap (λ j. with_entries (operator c ++ operators (drop j language)) (λ _. None) n) l ∙
    ap (λ cs. with_entries (operators cs) (λ _. None) n) (sym (next_of language reserved k c below is))
