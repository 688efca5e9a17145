-- So many variables that are bound, as a number below 2^64 or none.
use Rattle.std.proofs.Common.{◌≡◌, ◌≤◌, ◌<◌, ℕ, ◌^◌, nat_lt, Bool, true, false, Some, None, if◌then◌else◌, ap, refl, arith}
use Rattle.std.proofs.lemmas.Bool.{lt-ltb, ltb-true, ltb-false}
use Rattle.lp_lemmas.proofs.Options.{one_value}
use Rattle.lp_gen.specs.inner.Capturing.{IsDepth}

pub is_depth : (d : ℕ) → d < 2 ^ 64 → IsDepth d (Some d)
is_depth d lt = ap (λ c. if c then Some d else None) (lt-ltb d (2 ^ 64) lt)

pub some_depth : (d k : ℕ) → IsDepth d (Some k) → (d ≡ k) × (d < 2 ^ 64)
some_depth d k w = go (nat_lt d (2 ^ 64)) refl w
  where
    go : (c : Bool) → nat_lt d (2 ^ 64) ≡ c → (if c then Some d else None) ≡ Some k → (d ≡ k) × (d < 2 ^ 64)
    go true e s = (one_value (Some d) d k refl s, ltb-true d (2 ^ 64) e)
    go false e s = absurd (cc)

pub no_depth : (d : ℕ) → IsDepth d None → 2 ^ 64 ≤ d
no_depth d w = go (nat_lt d (2 ^ 64)) refl w
  where
    go : (c : Bool) → nat_lt d (2 ^ 64) ≡ c → (if c then Some d else None) ≡ None → 2 ^ 64 ≤ d
    go true e s = absurd (cc)
    go false e s = let x = ltb-false d (2 ^ 64) e in omega (arith, x)

pub past_depth : (d : ℕ) → 2 ^ 64 ≤ d → IsDepth d None
past_depth d le = go (nat_lt d (2 ^ 64)) refl
  where
    go : (c : Bool) → nat_lt d (2 ^ 64) ≡ c → (if c then Some d else None) ≡ None
    go true e = let x = ltb-true d (2 ^ 64) e in absurd (omega (arith, x, le))
    go false e = refl
