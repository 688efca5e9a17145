-- How many arguments a type as written has, along its right sides.
use Rattle.std.proofs.Common.{◌≡◌, ℕ, suc, ◌+◌, ◌-◌, ◌<◌, ◌≤◌, List, length, get_or, refl, sym, ap, subst, ◌∙◌, arith}
use Rattle.std.specs.Global.{Global}
use Rattle.std.specs.Prelude.{Vec}
use Rattle.std.proofs.lemmas.List.{get_or_default}
use Rattle.lp_base.specs.declared.place.Spot.{Spot}
use Rattle.lp_syntax.specs.declared.text.RawTypeNode.{RawTypeNode}
use Rattle.lp_syntax.specs.declared.text.RawTypeNode.TheVariants.{Word, Arrow}
use Rattle.lp_sig.specs.Words.{HasArguments, no_more, one_more, IsLongType}

same_at : (nodes : List RawTypeNode) (at : ℕ) (x y : RawTypeNode) → at < length nodes → get_or nodes at x ≡ x → get_or nodes at y ≡ y → x ≡ y
same_at nodes at x y l a b = sym a ∙ get_or_default nodes at x y l ∙ b

module _ (nodes : List RawTypeNode) where
  -- past an arrow
  onward : (at a b m : ℕ) → at < length nodes → get_or nodes at (Arrow a b) ≡ Arrow a b → HasArguments nodes at (suc m) → HasArguments nodes b m
  onward at a b m l is (no_more e) = absurd (omega (arith, e))
  onward at a b m l is (one_more c d k h there e deeper) =
      let same : Arrow c d ≡ Arrow a b = same_at nodes at (Arrow c d) (Arrow a b) l there is in
      let right : d ≡ b = cc in
      let count : k ≡ m = omega (arith, e) in
      subst (λ d. HasArguments nodes d m) right (subst (HasArguments nodes d) count deeper)

  word_ends : (at m : ℕ) (s : Spot) (args : Vec ℕ Global) → at < length nodes → get_or nodes at (Word s args) ≡ Word s args → HasArguments nodes at (suc m) → ⊥
  word_ends at m s args l is (no_more e) = absurd (omega (arith, e))
  word_ends at m s args l is (one_more c d k h there e deeper) =
      let same : Arrow c d ≡ Word s args = same_at nodes at (Arrow c d) (Word s args) l there is in
      absurd (cc)

  past_ends : (at m : ℕ) → length nodes ≤ at → HasArguments nodes at (suc m) → ⊥
  past_ends at m l (no_more e) = absurd (omega (arith, e))
  past_ends at m l (one_more c d k h there e deeper) = absurd (omega (arith, l, h))

  module _ (root at count : ℕ) where
    pub so_many : (a b : ℕ) → at < length nodes → get_or nodes at (Arrow a b) ≡ Arrow a b → ((m : ℕ) → HasArguments nodes at m → HasArguments nodes root (m + count)) → (m : ℕ) → HasArguments nodes b m → HasArguments nodes root (m + (count + 1))
    so_many a b l is so m h =
        let z : suc m + count ≡ m + (count + 1) = omega arith in
        subst (HasArguments nodes root) z (so (suc m) (one_more a b m l is refl h))

    pub back_again : (a b : ℕ) → at < length nodes → get_or nodes at (Arrow a b) ≡ Arrow a b → ((m : ℕ) → HasArguments nodes root (m + count) → HasArguments nodes at m) → (m : ℕ) → HasArguments nodes root (m + (count + 1)) → HasArguments nodes b m
    back_again a b l is back m h =
        let z : m + (count + 1) ≡ suc m + count = omega arith in
        onward at a b m l is (back (suc m) (subst (HasArguments nodes root) z h))

    pub is_long : 256 ≤ count → ((m : ℕ) → HasArguments nodes at m → HasArguments nodes root (m + count)) → IsLongType nodes root
    is_long h so =
        let z : 0 + count ≡ count = omega arith in
        (count, omega (arith, h), subst (HasArguments nodes root) z (so 0 (no_more refl)))

    one_left : (n : ℕ) → 255 < n → count < 256 → HasArguments nodes root n → ((m : ℕ) → HasArguments nodes root (m + count) → HasArguments nodes at m) → HasArguments nodes at (suc (n - count - 1))
    one_left n long less h back =
        let z : n ≡ suc (n - count - 1) + count = omega (arith, long, less) in
        back (suc (n - count - 1)) (subst (HasArguments nodes root) z h)

    pub ends_at_word : (s : Spot) (args : Vec ℕ Global) → count < 256 → at < length nodes → get_or nodes at (Word s args) ≡ Word s args → ((m : ℕ) → HasArguments nodes root (m + count) → HasArguments nodes at m) → IsLongType nodes root → ⊥
    ends_at_word s args less l is back w = word_ends at (w.0 - count - 1) s args l is (one_left w.0 w.1 less w.2 back)

    pub ends_past : count < 256 → length nodes ≤ at → ((m : ℕ) → HasArguments nodes root (m + count) → HasArguments nodes at m) → IsLongType nodes root → ⊥
    ends_past less l back w = past_ends at (w.0 - count - 1) l (one_left w.0 w.1 less w.2 back)

-- what is read at a place
pub node_read : (nodes seen : List RawTypeNode) (at : ℕ) (x y : RawTypeNode) → seen ≡ nodes → at < length seen → x ≡ get_or seen at x → x ≡ y → (at < length nodes) × (get_or nodes at y ≡ y)
node_read nodes seen at x y same l is e = (subst (λ l. at < length l) same l, subst (λ y. get_or nodes at y ≡ y) e (sym (is ∙ ap (λ l. get_or l at x) same)))
