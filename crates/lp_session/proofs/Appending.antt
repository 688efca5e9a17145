-- Pieces appended one behind another.
use Rattle.std.proofs.Common.{◌≡◌, ℕ, ◌+◌, ◌<◌, ◌≤◌, List, [], ◌∷◌, ◌++◌, length, Option, Some, None, refl, sym, ap, ◌∙◌, subst, arith, inl, inr, append_assoc, append-nil}
use Rattle.std.specs.Prelude.{take, ◌⊎◌}
use Rattle.std.proofs.lemmas.Bool.{cases_lt}
use Rattle.std.proofs.Math.Seq.{take-append-add}
use Rattle.lp_base.specs.Counts.{Counts}
use Rattle.lp_base.specs.Written.{Appends, AppendsPrefix}
use Rattle.lp_session.specs.Lines.{AreWholeLines}

pub appends_nothing : (o : Option (List ℕ)) → Appends o o []
appends_nothing None = tt
appends_nothing (Some xs) = (xs, refl, sym (append-nil xs))

pub appends_both : (a b c : Option (List ℕ)) (xs ys : List ℕ) → Appends a b xs → Appends b c ys → Appends a c (xs ++ ys)
appends_both a b None xs ys h k = tt
appends_both a None (Some z) xs ys h k = let e = k.1 in cc
appends_both a (Some y) (Some z) xs ys h k =
    let e : y ≡ k.0 = cc in
    (h.0, h.1, k.2 ∙ ap (λ w. w ++ ys) (sym e ∙ h.2) ∙ append_assoc h.0 xs ys)

-- a prefix of a piece behind another is a prefix of both
pub prefix_behind : (a b c : Option (List ℕ)) (xs ys : List ℕ) → Appends a b xs → AppendsPrefix b c ys → AppendsPrefix a c (xs ++ ys)
prefix_behind a b c xs ys h k =
    (length xs + k.0, subst (Appends a c) (sym (take-append-add xs ys k.0)) (appends_both a b c xs (take k.0 ys) h k.1))

-- whole lines behind whole lines
pub whole_both : (xs ys : List ℕ) → AreWholeLines xs → AreWholeLines ys → AreWholeLines (xs ++ ys)
whole_both xs ys h (inl e) = subst AreWholeLines (sym (ap (λ z. xs ++ z) e ∙ append-nil xs)) h
whole_both xs ys h (inr k) = inr (xs ++ k.0, ap (λ z. xs ++ z) k.1 ∙ sym (append_assoc xs k.0 (10 ∷ [])))

-- a count that did not rise stays
pub same_count : (answered : Type 0) (old new : ℕ) → Counts answered old new → (answered → ⊥) → new ≡ old
same_count answered old new c never = go (cases_lt old new)
  where
    go : (old < new) ⊎ (new ≤ old) → new ≡ old
    go (inl l) = absurd (never (c.rises_only_then l))
    go (inr l) = let n = c.never_falls in omega arith
