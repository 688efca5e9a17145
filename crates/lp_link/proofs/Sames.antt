-- Pairs of objects of which the one exports nothing otherwise than the other.
use Rattle.std.proofs.Common.{◌≡◌, ℕ, ◌<◌, List, length, get_or, Bool, true, inl, inr, sym, ap, ◌∙◌, subst, Some}
use Rattle.std.specs.Prelude.{if◌then◌else◌}
use Rattle.std.proofs.lemmas.Option.{slice_get-get_or}
use Rattle.lp_link.specs.declared.places.Member.{Member}
use Rattle.lp_link.specs.Differences.{IsSameAbove}
use Rattle.lp_link.specs.inner.Pairs.{pair_eq}
use Rattle.lp_link.specs.inner.Members.{AreSameMembers, AreCompared}
use Rattle.lp_link.proofs.Opened.{marked_before}

the_same : (x y : Member) → Some x ≡ Some y → x ≡ y
the_same x y e = cc

pub same_here : (members : List Member) (i j : ℕ) (one other : Member) → i < length members → j < length members → one ≡ get_or members i one → other
    ≡ get_or members j other → IsSameAbove one.object.now other.object.now → AreSameMembers members (i, j)
same_here members i j one other hi hj oi oj s = λ x y ex ey.
    let a : one ≡ x = the_same one x (ap (λ m. Some m) oi ∙ sym (slice_get-get_or members i one hi) ∙ ex) in
    let b : other ≡ y = the_same other y (ap (λ m. Some m) oj ∙ sym (slice_get-get_or members j other hj) ∙ ey) in
    subst (λ m. IsSameAbove m.object.now y.object.now) a (subst (λ m. IsSameAbove one.object.now m.object.now) b s)

pub compared_more : (members : List Member) (p : ℕ × ℕ) (met now : ℕ × ℕ → Bool) → AreCompared members met → AreSameMembers members p →
    ((q : ℕ × ℕ) → now q ≡ (if pair_eq p q then true else met q)) → AreCompared members now
compared_more members p met now all one marks = λ edge h. elim (marked_before p edge met now marks h) [ inl e ↦ subst (AreSameMembers members) e one | inr m ↦ all edge m ]
