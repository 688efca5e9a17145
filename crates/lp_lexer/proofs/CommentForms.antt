-- The end of a comment looks at no byte behind it: so a comment is a list of bytes by itself.
use Rattle.std.proofs.Common.{ℕ, suc, zero, ◌+◌, ◌≤◌, List, [], ◌∷◌, ◌++◌, length, drop, take, refl, sym, subst, arith, take-add, length-drop}
use Rattle.std.proofs.lemmas.List.{drop-append-le, drop-take}
use Rattle.lp_lexer.specs.Comments.{Ends, ends, byte, nested}

-- it has the two bytes of its closing at least
pub ends_two : (n : ℕ) (bs : List ℕ) → Ends n bs → 2 ≤ n
ends_two n _ (ends _ bs e) = omega (arith, e)
ends_two n _ (byte _ m b bs e q h) = let r = ends_two m bs h in omega (arith, e, r)
ends_two n _ (nested _ i m bs e h k) = let r = ends_two i bs h in omega (arith, e, r)

pub ends_within : (n : ℕ) (bs : List ℕ) → Ends n bs → n ≤ length bs
ends_within n _ (ends _ bs e) = omega (arith, e)
ends_within n _ (byte _ m b bs e q h) = let r = ends_within m bs h in omega (arith, e, r)
ends_within n _ (nested _ i m bs e h k) =
    let r = ends_within i bs h in
    let s = ends_within m (drop i bs) k in
    let d = length-drop i bs in
    omega (arith, e, r, s, d)

pub ends_more : (n : ℕ) (bs more : List ℕ) → Ends n bs → Ends n (bs ++ more)
ends_more n _ more (ends _ bs e) = ends n (bs ++ more) e
ends_more n _ more (byte _ m b [] e q h) = let r = ends_within m [] h in let s = ends_two m [] h in absurd (omega (arith, r, s))
ends_more n _ more (byte _ m b (c ∷ bs) e q h) = byte n m b (c ∷ (bs ++ more)) e q (ends_more m (c ∷ bs) more h)
ends_more n _ more (nested _ i m bs e h k) =
    nested n i m (bs ++ more) e (ends_more i bs more h) (subst (Ends m) (sym (drop-append-le i bs more (ends_within i bs h))) (ends_more m (drop i bs) more k))

pub ends_less : (n : ℕ) (bs : List ℕ) → Ends n bs → Ends n (take n bs)
ends_less n _ (ends _ bs e) = rw e (ends 2 [] refl)
ends_less n _ (byte _ m b [] e q h) = let r = ends_within m [] h in let s = ends_two m [] h in absurd (omega (arith, r, s))
ends_less n _ (byte _ zero b (c ∷ bs) e q h) = let s = ends_two zero (c ∷ bs) h in absurd (omega (arith, s))
ends_less n _ (byte _ (suc m) b (c ∷ bs) e q h) = rw e (byte (suc (suc m)) (suc m) b (c ∷ take m bs) refl q (ends_less (suc m) (c ∷ bs) h))
ends_less n _ (nested _ i m bs e h k) =
    let first : Ends i (take (i + m) bs) = subst (Ends i) (sym (take-add i m bs)) (ends_more i (take i bs) (take m (drop i bs)) (ends_less i bs h)) in
    let second : Ends m (drop i (take (i + m) bs)) = subst (Ends m) (sym (drop-take i m bs)) (ends_less m (drop i bs) k) in
    rw e (nested (suc (suc (i + m))) i m (take (i + m) bs) refl first second)
