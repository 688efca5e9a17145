-- Marks: what setting one changes, and how many are not set.
use Rattle.std.proofs.Common.{◌≡◌, ℕ, zero, suc, ◌<◌, List, [], ◌∷◌, length, get_or, refl, sym, ap, ◌∙◌, Bool, true, false, true≢false, arith, inl, inr, replicate}
use Rattle.std.specs.Prelude.{◌⊎◌, slice_set}
use Rattle.std.proofs.lemmas.List.{get_or-set_same, get_or-set_other}
use Rattle.lp_lemmas.proofs.Numbers.{equal_or_not}
use Rattle.lp_module.specs.Searching.{IsMarked, unmarked}

pub set_marks : (marks : List Bool) (at : ℕ) → at < length marks → IsMarked (slice_set marks at true) at
set_marks marks at h = get_or-set_same marks at true false h

pub set_keeps : (marks : List Bool) (at m : ℕ) → at < length marks → IsMarked marks m → IsMarked (slice_set marks at true) m
set_keeps marks at m h k = elim (equal_or_not m at) [
  | inl e ↦ ap (λ i. get_or (slice_set marks at true) i false) e ∙ set_marks marks at h
  | inr e ↦ get_or-set_other marks at m true false e ∙ k
]

pub set_cases : (marks : List Bool) (at m : ℕ) → IsMarked (slice_set marks at true) m → IsMarked marks m ⊎ (m ≡ at)
set_cases marks at m k = elim (equal_or_not m at) [
  | inl e ↦ inr e
  | inr e ↦ inl (sym (get_or-set_other marks at m true false e) ∙ k)
]

pub set_count : (marks : List Bool) (at : ℕ) → at < length marks → get_or marks at false ≡ false → suc (unmarked (slice_set marks at true)) ≡ unmarked marks
set_count [] at h e = absurd (omega (arith, h))
set_count (true ∷ bs) zero h e = absurd (true≢false e)
set_count (false ∷ bs) zero h e = refl
set_count (true ∷ bs) (suc at) h e = set_count bs at (omega (arith, h)) e
set_count (false ∷ bs) (suc at) h e = ap (λ n. suc n) (set_count bs at (omega (arith, h)) e)

pub none_marked : (n m : ℕ) → IsMarked (replicate n false) m → ⊥
none_marked zero m k = true≢false (sym k)
none_marked (suc n) zero k = true≢false (sym k)
none_marked (suc n) (suc m) k = none_marked n m k

pub all_unmarked : (n : ℕ) → unmarked (replicate n false) ≡ n
all_unmarked zero = refl
all_unmarked (suc n) = ap (λ i. suc i) (all_unmarked n)
