-- What looks at spots find, put together.
use Rattle.std.proofs.Common.{◌≡◌, ◌≤◌, refl, sym, subst, ◌∙◌, arith, Option, Some, None, inl, inr}
use Rattle.std.specs.Prelude.{◌⊎◌}
use Rattle.lp_base.specs.declared.place.Spot.{Spot}
use Rattle.lp_infer.specs.Scanning.{Covers, Finds}

covered_as : (a b : Option Spot) (s : Spot) → b ≡ a → Covers a s → Covers b s
covered_as a b s e c = subst (λ o. Covers o s) (sym e) c

-- nothing is found where nothing is looked at
pub finds_none : (Q : Spot → Type 0) (old new : Option Spot) → new ≡ old → ((s : Spot) → Q s → ⊥) → Finds Q old new
finds_none Q old new e none = record { is = inl e; covers = λ s q. absurd (none s q); keeps = λ s c. covered_as old new s e c }

-- one spot
pub finds_first : (other : Spot) (result : Option Spot) → result ≡ Some other → Finds (λ s. s ≡ other) None result
finds_first other result e = record { is = inr (other, e, refl); covers = λ s q. subst (λ o. Covers o s) (sym e) (subst (λ t. other.from ≤ t.from) (sym q) (omega arith)); keeps = λ s c. absurd c }

pub finds_known : (known other : Spot) (result : Option Spot) → known.from ≤ other.from → result ≡ Some known → Finds (λ s. s ≡ other) (Some known) result
finds_known known other result h e = record { is = inl e; covers = λ s q. subst (λ o. Covers o s) (sym e) (subst (λ t. known.from ≤ t.from) (sym q) h); keeps = λ s c. subst (λ o. Covers o s) (sym e) c }

pub finds_earlier : (known other : Spot) (result : Option Spot) → other.from ≤ known.from → result ≡ Some other → Finds (λ s. s ≡ other) (Some known) result
finds_earlier known other result h e = record {
  is = inr (other, e, refl);
  covers = λ s q. subst (λ o. Covers o s) (sym e) (subst (λ t. other.from ≤ t.from) (sym q) (omega arith));
  keeps = λ s c. subst (λ o. Covers o s) (sym e) (omega (arith, h, c));
}

is_found_as : (Q R : Spot → Type 0) (old new : Option Spot) → ((s : Spot) → Q s → R s) → (new ≡ old) ⊎ ((s : Spot) × (new ≡ Some s) × Q s) → (new ≡ old) ⊎ ((s : Spot) × (new ≡ Some s) × R s)
is_found_as Q R old new f (inl e) = inl e
is_found_as Q R old new f (inr (s, e, q)) = inr (s, e, f s q)

-- the same spots, said otherwise
pub finds_as : (Q R : Spot → Type 0) (old new : Option Spot) → ((s : Spot) → Q s → R s) → ((s : Spot) → R s → Q s) → Finds Q old new → Finds R old new
finds_as Q R old new f g found = record { is = is_found_as Q R old new f found.is; covers = λ s r. found.covers s (g s r); keeps = found.keeps }

is_found_then : (P Q R : Spot → Type 0) (a b c : Option Spot) → ((s : Spot) → P s → R s) → ((s : Spot) → Q s → R s) → (b ≡ a) ⊎ ((s : Spot) × (b ≡ Some s) × P s) → (c ≡ b) ⊎ ((s : Spot) × (c ≡ Some s) × Q s) → (c ≡ a) ⊎ ((s : Spot) × (c ≡ Some s) × R s)
is_found_then P Q R a b c f g (inl d) (inl e) = inl (e ∙ d)
is_found_then P Q R a b c f g (inr (s, d, p)) (inl e) = inr (s, e ∙ d, f s p)
is_found_then P Q R a b c f g first (inr (s, e, q)) = inr (s, e, g s q)

covers_then : (P Q R : Spot → Type 0) (a b c : Option Spot) → Finds P a b → Finds Q b c → (s : Spot) → P s ⊎ Q s → Covers c s
covers_then P Q R a b c first second s (inl p) = second.keeps s (first.covers s p)
covers_then P Q R a b c first second s (inr q) = second.covers s q

-- first these spots, then those
pub finds_then : (P Q R : Spot → Type 0) (a b c : Option Spot) → ((s : Spot) → P s → R s) → ((s : Spot) → Q s → R s) → ((s : Spot) → R s → P s ⊎ Q s) → Finds P a b → Finds Q b c → Finds R a c
finds_then P Q R a b c f g h first second = record {
  is = is_found_then P Q R a b c f g first.is second.is;
  covers = λ s r. covers_then P Q R a b c first second s (h s r);
  keeps = λ s k. second.keeps s (first.keeps s k);
}
