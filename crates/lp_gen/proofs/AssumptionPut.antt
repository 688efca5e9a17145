-- The records that an assumption names, and the registers with which they start.
use Rattle.std.proofs.Common.{◌≡◌, ◌∙◌, ◌<◌, ℕ, zero, suc, ◌+◌, ◌-◌, ◌^◌, List, [], ◌∷◌, ◌++◌, append_assoc, Option, Some, None, ap, refl, sym, subst, arith, add-one}
use Rattle.std.specs.Prelude.{min}
use Rattle.std.proofs.lemmas.List.{append-nil}
use Rattle.lp_code.specs.Denote.{from_zero}
use Rattle.lp_gen.specs.declared.plan.Assumption.{Assumption}
use Rattle.lp_gen.specs.Steps.{Seen, Around, at_level}
use Rattle.lp_gen.specs.inner.GoalCode.{numbers, AreRegisters}
use Rattle.lp_gen.specs.inner.BodyCode.{level_found, levels_found}

pub numbers_last : (q n : ℕ) → numbers q (n + 1) ≡ numbers q n ++ (q + n) ∷ []
numbers_last q n = ap (numbers q) (add-one n) ∙ go q n
  where
    go : (q n : ℕ) → numbers q (suc n) ≡ numbers q n ++ (q + n) ∷ []
    go q zero = (let z : q ≡ q + 0 = omega arith in ap (λ k. k ∷ []) z)
    go q (suc n) = ap (λ l. q ∷ l) (go (suc q) n ∙ (let z : suc q + n ≡ q + suc n = omega arith in ap (λ k. numbers (suc q) n ++ k ∷ []) z))

pub number_more : (f g c n sum place number : ℕ) (xs ys : List ℕ) → (f + g + c < 2 ^ 32 → xs ≡ numbers (f + g) n) → n < c → sum ≡ min (g + n) (2 ^ 64 - 1) → place ≡ min sum 4294967295 →
    number ≡ min (f + place) 4294967295 → ys ≡ xs ++ number ∷ [] → f + g + c < 2 ^ 32 → ys ≡ numbers (f + g) (n + 1)
number_more f g c n sum place number xs ys before low total at is e few =
    let z : number ≡ f + g + n = omega (arith, low, total, at, is, few) in
    e ∙ (λ i. before few i ++ z i ∷ []) ∙ sym (numbers_last (f + g) n)

pub zero_more : (n : ℕ) (xs ys : List ℕ) → xs ≡ from_zero n → ys ≡ xs ++ n ∷ [] → ys ≡ from_zero (n + 1)
zero_more n xs ys x e = e ∙ ap (λ l. l ++ n ∷ []) x ∙ sym (ap from_zero (add-one n))

pub found_last : (a : Around) (ls : List ℕ) (l : ℕ) → levels_found a (ls ++ l ∷ []) ≡ levels_found a ls ++ level_found (at_level a l) l
found_last a [] l = append-nil (level_found (at_level a l) l)
found_last a (k ∷ ks) l = ap (λ z. level_found (at_level a k) k ++ z) (found_last a ks l) ∙ sym (append_assoc (level_found (at_level a k) k) (levels_found a ks) (level_found (at_level a l) l))

registers_push : (a : Around) (ls rs : List ℕ) (l : ℕ) (v : Seen) → AreRegisters a ls rs → at_level a l ≡ Some v → AreRegisters a (ls ++ l ∷ []) (rs ++ v.register ∷ [])
registers_push a [] [] l v x e = (v, e, refl, tt)
registers_push a [] (r ∷ rs) l v x e = absurd x
registers_push a (k ∷ ks) [] l v x e = absurd x
registers_push a (k ∷ ks) (r ∷ rs) l v (w, at, is, more) e = (w, at, is, registers_push a ks rs l v more e)

pub register_more : (a : Around) (ls rs after : List ℕ) (l : ℕ) (v : Seen) → AreRegisters a (levels_found a ls) rs → at_level a l ≡ Some v → after ≡
    rs ++ v.register ∷ [] → AreRegisters a (levels_found a (ls ++ l ∷ [])) after
register_more a ls rs after l v x e f =
    subst (AreRegisters a (levels_found a (ls ++ l ∷ []))) (sym f) (subst (λ z. AreRegisters a z (rs ++ v.register ∷ [])) (sym (found_last a ls l ∙ ap (λ o. levels_found a ls ++ level_found o l) e))
    (registers_push a (levels_found a ls) rs l v x e))

pub register_none : (a : Around) (ls rs : List ℕ) (l : ℕ) → AreRegisters a (levels_found a ls) rs → at_level a l ≡ None → AreRegisters a (levels_found a (ls ++ l ∷ [])) rs
register_none a ls rs l x e =
    subst (λ z. AreRegisters a z rs) (sym (found_last a ls l ∙ ap (λ o. levels_found a ls ++ level_found o l) e ∙ append-nil (levels_found a ls))) x

pub no_assumption : (x : Assumption) → None ≡ Some x → ⊥
no_assumption x e = cc

pub same_assumption : (x y : Assumption) → ◌≡◌ {A = Option Assumption} (Some x) (Some y) → x ≡ y
same_assumption x y e = cc
