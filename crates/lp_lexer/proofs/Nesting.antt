-- The count of depths finds the end that the grammar of comments gives: from a derivation by counting, and back by splitting a
-- count of depth d into d comments in turn.
use Rattle.std.proofs.Common.{◌≡◌, ℕ, suc, zero, ◌+◌, ◌-◌, ◌<◌, List, [], ◌∷◌, drop, Option, Some, None, Bool, true, false, ◌&&◌, nat_eq, refl, sym, ap, ◌∙◌, subst, arith, drop-drop, ne_eqb}
use Rattle.std.specs.Prelude.{if◌then◌else◌}
use Rattle.std.proofs.lemmas.Bool.{and_parts, eqb-true}
use Rattle.lp_lemmas.proofs.Booleans.{or_false_left, or_false_right}
use Rattle.lp_lexer.specs.Comments.{Ends, ends, byte, nested}
use Rattle.lp_lexer.specs.Front.{comment_len, later}
use Rattle.lp_lexer.proofs.Steps.{later_later, comment_by}

no_end : (n : ℕ) → Ends n [] → ⊥
no_end n h = elim h [ ]

-- one comment ends, and the count goes on one less deep
pub passes : (d n : ℕ) (bs : List ℕ) → 0 < d → Ends n bs → comment_len (suc d) bs ≡ later n (comment_len d (drop n bs))
passes d n _ p (ends _ bs e) =
    let f : suc d - 1 ≡ d = omega arith in
    rw (e, ne_eqb (suc d) 1 (λ z. omega (arith, z, p)), f) refl
passes d n _ p (byte _ m b [] e q h) = absurd (no_end m h)
passes d n _ p (byte _ m b (c ∷ bs) e q h) =
    let one : 1 + m ≡ suc m = omega arith in
    rw (e) (comment_by (suc d) b c bs (or_false_left _ _ q) (or_false_right _ _ q) ∙ ap (later 1) (passes d m (c ∷ bs) p h) ∙ later_later 1 m _ ∙ ap (λ k. later k (comment_len d (drop m (c ∷ bs)))) one)
passes d n _ p (nested _ i m bs e h k) =
    let two : 2 + (i + m) ≡ suc (suc (i + m)) = omega arith in
    rw (e, sym (drop-drop m i bs)) (
    ap (later 2) (passes (suc d) i bs (omega arith) h ∙ ap (later i) (passes d m (drop i bs) p k) ∙ later_later i m _) ∙
    later_later 2 (i + m) _ ∙ ap (λ x. later x (comment_len d (drop m (drop i bs)))) two)

-- the outermost one
pub closes_first : (n : ℕ) (bs : List ℕ) → Ends n bs → comment_len 1 bs ≡ Some n
closes_first n _ (ends _ bs e) = rw e refl
closes_first n _ (byte _ m b [] e q h) = absurd (no_end m h)
closes_first n _ (byte _ m b (c ∷ bs) e q h) =
    let one : 1 + m ≡ suc m = omega arith in
    rw (e, sym one) (comment_by 1 b c bs (or_false_left _ _ q) (or_false_right _ _ q) ∙ ap (later 1) (closes_first m (c ∷ bs) h))
closes_first n _ (nested _ i m bs e h k) =
    let two : 2 + (i + m) ≡ suc (suc (i + m)) = omega arith in
    rw (e, sym two) (ap (later 2) (passes 1 i bs (omega arith) h ∙ ap (later i) (closes_first m (drop i bs) k)))

-- so many comments end in turn
abbrev pub Chain : ℕ → ℕ → List ℕ → Type 0
Chain zero n bs = n ≡ 0
Chain (suc d) n bs = (i m : ℕ) × (n ≡ i + m) × Ends i bs × Chain d m (drop i bs)

later_some : (k n : ℕ) (o : Option ℕ) → later k o ≡ Some n → (m : ℕ) × (o ≡ Some m) × (n ≡ k + m)
later_some k n None h = absurd (cc)
later_some k n (Some m) h = let q : k + m ≡ n = cc in (m, refl, sym q)

-- what the count says of the rest, by what stands in front
abbrev pub Found : ℕ → List ℕ → Type 0
Found d bs = (n : ℕ) → comment_len d bs ≡ Some n → Chain d n bs

-- two comments in turn are one with another inside
joined : (d n k : ℕ) (bs : List ℕ) → n ≡ 2 + k → Chain (suc (suc d)) k bs → Chain (suc d) n (47 ∷ 42 ∷ bs)
joined d n k bs e (i, m, f, h, (j, l, g, v, w)) =
    (suc (suc (i + j)), l, omega (arith, e, f, g), nested _ i j bs refl h v, subst (Chain d l) (drop-drop j i bs) w)

found_by : (d b c : ℕ) (bs : List ℕ) → Found (suc (suc d)) bs → ((e : ℕ) → d ≡ suc e → Found d bs) → Found (suc d) (c ∷ bs) → (t u : Bool) →
    (nat_eq b 47 && nat_eq c 42) ≡ t → (nat_eq b 42 && nat_eq c 47) ≡ u → (n : ℕ) →
    (if t then later 2 (comment_len (suc (suc d)) bs) else (if u then (if nat_eq (suc d) 1 then Some 2 else later 2 (comment_len (suc d - 1) bs)) else
    later 1 (comment_len (suc d) (c ∷ bs)))) ≡ Some n → Chain (suc d) n (b ∷ c ∷ bs)
found_by d b c bs r s q true u e f n h =
    let z = later_some 2 n _ h in
    let p = and_parts _ _ e in
    let x : b ≡ 47 = eqb-true b 47 p.0 in
    let y : c ≡ 42 = eqb-true c 42 p.1 in
    rw (x, y) (joined d n z.0 bs z.2 (r z.0 z.1))
found_by zero b c bs r s q false true e f n h =
    let p = and_parts _ _ f in
    let x : b ≡ 42 = eqb-true b 42 p.0 in
    let y : c ≡ 47 = eqb-true c 47 p.1 in
    let g : 2 ≡ n = cc in
    rw (x, y) (2, 0, omega (arith, g), ends 2 bs refl, refl)
found_by (suc d) b c bs r s q false true e f n h =
    let p = and_parts _ _ f in
    let x : b ≡ 42 = eqb-true b 42 p.0 in
    let y : c ≡ 47 = eqb-true c 47 p.1 in
    let g : suc (suc d) - 1 ≡ suc d = omega arith in
    let k : (if nat_eq (suc (suc d)) 1 then Some 2 else later 2 (comment_len (suc (suc d) - 1) bs)) ≡ later 2 (comment_len (suc d) bs) = rw (g, ne_eqb (suc (suc d)) 1 (λ z. omega (arith, z))) refl in
    let z = later_some 2 n _ (sym k ∙ h) in
    rw (x, y) (2, z.0, z.2, ends 2 bs refl, s d refl z.0 z.1)
found_by d b c bs r s q false false e f n h =
    let z = later_some 1 n _ h in
    let w = q z.0 z.1 in
    (suc w.0, w.1, omega (arith, z.2, w.2), byte (suc w.0) w.0 b (c ∷ bs) refl (rw (e, f) refl) w.3, w.4)

pub found : (d : ℕ) (bs : List ℕ) → Found (suc d) bs
found d [] n h = absurd (cc)
found d (b ∷ []) n h = absurd (cc)
found d (b ∷ c ∷ bs) n h = found_by d b c bs (λ k g. found (suc d) bs k g) (λ e f k g. rw f (found e bs k (subst (λ x. comment_len x bs ≡ Some k) f g))) (λ k g. found d (c ∷ bs) k g) _ _ refl refl n h

pub ends_found : (n : ℕ) (bs : List ℕ) → comment_len 1 bs ≡ Some n → Ends n bs
ends_found n bs h =
    let w = found 0 bs n h in
    let e : w.0 ≡ n = omega (arith, w.2, w.4) in
    subst (λ k. Ends k bs) e w.3
