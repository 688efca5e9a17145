-- What is wrong with one part, but for what stands below it.
use Rattle.std.proofs.Common.{◌≡◌, ℕ, ◌+◌, ◌<◌, ◌≤◌, Bool, true, false, Option, refl, sym, ap, ◌∙◌, arith, inl, inr}
use Rattle.std.specs.Prelude.{◌⊎◌, min, not, ◌&&◌, ◌||◌, nat_lt}
use Rattle.std.proofs.lemmas.Bool.{cases_lt}
use Rattle.std.proofs.lemmas.Bool.Decides.{nat_tests}
use Rattle.lp_calculus.specs.Typing.{Scheme}
use Rattle.lp_standard.specs.Positive.{is_positive}
use Rattle.lp_module.specs.Form.{Part, depth, widest, is_term, is_other}
use Rattle.lp_module.specs.declared.heads.Heads.{Heads}
use Rattle.lp_module.specs.declared.judge.Verdict.{Verdict}
use Rattle.lp_module.specs.declared.measure.Measure.{Measure}
use Rattle.lp_module.specs.inner.Judging.{AreHeads, IsMeasure, IsOwn}

pub is_below : (a b : ℕ) → a < b → nat_lt a b ≡ true
is_below a b h = grind (arith, nat_tests)

-- a count that 32 bits may not hold is past each limit
deep_counted : (k d m : ℕ) → m ≡ min d 4294967295 → nat_lt 2001 (k + m) ≡ nat_lt 2001 (k + d)
deep_counted k d m e = by (cases_lt d 4294967295)
  where
    by : (d < 4294967295) ⊎ (4294967295 ≤ d) → nat_lt 2001 (k + m) ≡ nat_lt 2001 (k + d)
    by (inl h) = let z : m ≡ d = omega (arith, e, h) in ap (λ n. nat_lt 2001 (k + n)) z
    by (inr h) = is_below 2001 (k + m) (omega (arith, e, h)) ∙ sym (is_below 2001 (k + d) (omega (arith, h)))

wide_counted : (d m : ℕ) → m ≡ min d 4294967295 → nat_lt 255 m ≡ nat_lt 255 d
wide_counted d m e = by (cases_lt d 4294967295)
  where
    by : (d < 4294967295) ⊎ (4294967295 ≤ d) → nat_lt 255 m ≡ nat_lt 255 d
    by (inl h) = let z : m ≡ d = omega (arith, e, h) in ap (nat_lt 255) z
    by (inr h) = is_below 255 m (omega (arith, e, h)) ∙ sym (is_below 255 d (omega (arith, h)))

no_more : (x y : Bool) → (x || (false && y)) ≡ x
no_more true y = refl
no_more false y = refl

module _ (heads : Heads) (p : Part) (v : Verdict) (k : ℕ) (at : k ≡ p.depth) (other : (d : ℕ → Option Scheme) → AreHeads d heads → v.other ≡ is_other d p) where
  pub own_plain : is_term p ≡ false → v.deep ≡ nat_lt 2000 k → v.wide ≡ false → v.in_term ≡ false → IsOwn heads p v
  own_plain t deep wide in_term = record {
    deep = deep ∙ ap (nat_lt 2000) at ∙ sym (no_more (nat_lt 2000 p.depth) (nat_lt 2001 (p.depth + depth p.formula))) ∙ ap (λ x. nat_lt 2000 p.depth || (x && nat_lt 2001 (p.depth + depth p.formula))) (sym t);
    wide = wide ∙ ap (λ x. x && nat_lt 255 (widest p.formula)) (sym t);
    in_term = in_term ∙ ap (λ x. x && not (is_positive p.formula)) (sym t);
    other = other;
  }

  pub own_term : (m : Measure) → IsMeasure m p.formula → is_term p ≡ true → v.deep ≡ (nat_lt 2000 k || nat_lt 2001 (k + m.depth)) → v.wide ≡ nat_lt 255 m.widest → v.in_term ≡ m.connective → IsOwn heads p v
  own_term m is t deep wide in_term = record {
    deep = deep ∙ ap (λ n. nat_lt 2000 n || nat_lt 2001 (n + m.depth)) at ∙ ap (λ x. nat_lt 2000 p.depth || x) (deep_counted p.depth (depth p.formula) m.depth is.depth) ∙ ap (λ x. nat_lt 2000 p.depth || (x && nat_lt 2001 (p.depth + depth p.formula))) (sym t);
    wide = wide ∙ wide_counted (widest p.formula) m.widest is.widest ∙ ap (λ x. x && nat_lt 255 (widest p.formula)) (sym t);
    in_term = in_term ∙ is.connective ∙ ap (λ x. x && not (is_positive p.formula)) (sym t);
    other = other;
  }
