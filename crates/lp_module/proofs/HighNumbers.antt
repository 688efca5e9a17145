-- The constants of a module's text have no numbers of the language in any copy.
use Rattle.std.proofs.Common.{◌≡◌, ℕ, ◌+◌, ◌-◌, ◌<◌, ◌≤◌, List, [], ◌∷◌, length, get_or, refl, sym, ap, subst, ◌∙◌, arith, Option, Some, None, inl, inr}
use Rattle.std.specs.Prelude.{◌⊎◌, slice_get, Contains}
use Rattle.std.proofs.lemmas.Bool.{cases_lt}
use Rattle.lp_lemmas.specs.Each.{EachOf}
use Rattle.lp_lemmas.proofs.Each.{each_append}
use Rattle.lp_lemmas.proofs.Elements.{Contains_head, Contains_tail}
use Rattle.lp_lemmas.proofs.Lists.{get_below}
use Rattle.lp_module.specs.Copies.{uses_of}
use Rattle.lp_module.specs.Joined.{IsNumberedSignature, IsJoined, AreJoined}
use Rattle.lp_module.specs.Program.{Copy, Next, place_in, hidden_or, IsBelow, IsNumbered, CopiesBelow, none_below, one_below, AreCopies, exported_before}
use Rattle.lp_module.specs.declared.module.Module.{Module}
use Rattle.lp_module.proofs.Joining.{joined_number}

-- no number from 32 on becomes one below
abbrev pub IsHigh : Copy → Type 0
IsHigh c = (k : ℕ) → 32 ≤ k → 32 ≤ c.constants k

-- where the numbers of names are
high_by : (count : ℕ) (hidden : List ℕ) (from : ℕ) (exported number : ℕ → ℕ) → IsNumbered 32 count hidden from exported number → 32 ≤ from →
    ((i : ℕ) → i < count → place_in hidden (32 + i) ≡ None → 32 ≤ number (32 + i)) → (k : ℕ) → 32 ≤ k → 32 ≤ number k
high_by count hidden from exported number is l shown k h = by (cases_lt k (32 + count))
  where
    here : (i : ℕ) → i < count → (o : Option ℕ) → place_in hidden (32 + i) ≡ o → 32 ≤ number (32 + i)
    here i m None e = shown i m e
    here i m (Some j) e = let n = is.named i m ∙ ap (λ o. hidden_or from o (exported i)) e in omega (arith, n, l)

    by : (k < 32 + count) ⊎ (32 + count ≤ k) → 32 ≤ number k
    by (inl m) = let z : 32 + (k - 32) ≡ k = omega (arith, h) in subst (λ k. 32 ≤ number k) z (here (k - 32) (omega (arith, h, m)) (place_in hidden (32 + (k - 32))) refl)
    by (inr m) = let n = is.other k m in omega (arith, n, h)

below_high : (above m : Module) (a c : Copy) (from : Next) → IsNumberedSignature above.signature → IsBelow above a m from c → IsJoined above m → IsHigh a → 32 ≤ from.constants → IsHigh c
below_high above m a c from sa is joined high l = high_by (length m.signature.constants.items) m.hidden_constants.items from.constants _ c.constants is.constants l
    (λ i n p.
    let (e, at) = get_below m.signature.constants.items i n in
    let s = joined i e at p in
    let number = joined_number above m a c from sa is i e at p s in
    let h = high (32 + s.place) (omega arith) in
    omega (arith, number, h))

-- the numbers of hidden constants go up from copy to copy
next_high : {modules : List Module} {above : Module} {a : Copy} {before after : Next} {ks : List ℕ} {cs : List Copy} → CopiesBelow modules above a
    before ks cs after → 32 ≤ before.constants → 32 ≤ after.constants
next_high (none_below above a n) l = l
next_high (one_below above a before middle after m c ks below others cs at_m b is more e) l = let n = next_high b l in next_high more (omega (arith, n))

-- all copies
module _ (modules : List Module) (j : AreJoined modules) where
  all_high : {above : Module} {a : Copy} {before after : Next} {ks : List ℕ} {cs : List Copy} → CopiesBelow modules above a before ks cs after →
      (k : ℕ) → slice_get modules k ≡ Some above → ((u : ℕ) → Contains ks u → Contains (get_or (uses_of modules) k []) u) →
      IsHigh a → 32 ≤ before.constants → EachOf IsHigh cs
  all_high (none_below above a n) k at uses high l = tt
  all_high (one_below above a before middle after m c ks below others cs at_m b is more e) k at uses high l =
      let from = next_high b l in
      let high_c = below_high above m a c middle (j.numbered k above at) is (j.joined k c.member above m at (uses c.member (Contains_head c.member ks)) at_m) high from in
      let lower = all_high b c.member at_m (λ u h. h) high_c l in
      let upper = all_high more k at (λ u h. uses u (Contains_tail c.member u ks h)) high (omega (arith, from)) in
      subst (EachOf IsHigh) (sym e) (each_append IsHigh below (c ∷ others) lower (high_c, upper))

  pub copies_high : (root : ℕ) (all : List Copy) → AreCopies modules root all → EachOf IsHigh all
  copies_high root all are =
      let low : 32 ≤ 32 + (length are.top.signature.constants.items - length are.top.hidden_constants.items) = omega arith in
      let root_high : IsHigh are.copy = high_by (length are.top.signature.constants.items) are.top.hidden_constants.items are.middle.constants _ are.copy.constants are.is_root.constants
      (next_high are.copies low) (λ i n p.
      let number = are.is_root.constants.named i n ∙ ap (λ o. hidden_or are.middle.constants o (32 + exported_before 32 are.top.hidden_constants.items i)) p in
      omega (arith, number)) in
      let lower = all_high are.copies root are.at (λ u h. h) root_high low in
      subst (EachOf IsHigh) (sym are.whole) (each_append IsHigh are.below (are.copy ∷ []) lower (root_high, tt))
