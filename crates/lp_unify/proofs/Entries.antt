-- Lists of entries that only grow, and the pairs that wait in them.
use Rattle.std.proofs.Common.{◌≡◌, ℕ, suc, ◌+◌, ◌-◌, ◌≤◌, ◌<◌, List, [], ◌∷◌, ◌++◌, length, take, drop, get_or, refl, sym, ap, subst, ◌∙◌, arith}
use Rattle.std.proofs.Math.ListN.{drop_of_length-le}
use Rattle.std.proofs.Math.Seq.{drop-length}
use Rattle.std.proofs.lemmas.List.{take-append-le, drop-append-le}
use Rattle.lp_lemmas.proofs.Lists.{length_push_suc}
use Rattle.lp_unify.specs.declared.delayed.Waiting.{Waiting}
use Rattle.lp_unify.specs.Waits.{first_of, pairs_of, KeepsEntries}

pub entries_same : (es : List Waiting) → KeepsEntries es es
entries_same es m h = (h, refl)

pub entries_then : (a b c : List Waiting) → KeepsEntries a b → KeepsEntries b c → KeepsEntries a c
entries_then a b c p q m h = let x = p m h in let y = q m x.0 in (y.0, y.1 ∙ x.1)

pub entries_pushed : (old new : List Waiting) (w : Waiting) → new ≡ old ++ w ∷ [] → KeepsEntries old new
entries_pushed old new w e m h =
    let n : length new ≡ suc (length old) = ap length e ∙ length_push_suc old w in
    (omega (arith, h, n), ap (take m) e ∙ take-append-le m old (w ∷ []) h)

first_pushed : (es : List Waiting) (w : Waiting) → first_of (es ++ w ∷ []) ≡ w.first
first_pushed [] w = refl
first_pushed (e ∷ []) w = refl
first_pushed (e ∷ f ∷ es) w = first_pushed (f ∷ es) w

pub none_waits : (old new : List Waiting) (w : Waiting) → new ≡ old ++ w ∷ [] → w.first ≡ length old + 1 → pairs_of new ≡ []
none_waits old new w e f =
    let n : w.first ≡ length (old ++ w ∷ []) = (let q = length_push_suc old w in omega (arith, q, f)) in
    subst (λ l. pairs_of l ≡ []) (sym e) (ap (λ k. drop k (old ++ w ∷ [])) (first_pushed old w ∙ n) ∙ drop-length (old ++ w ∷ []))

pub waits_pushed : (old new : List Waiting) (w : Waiting) (n : ℕ) → new ≡ old ++ w ∷ [] → w.first ≡ n → n ≤ length old → drop n old ≡ pairs_of old → pairs_of new ≡ pairs_of old ++ w ∷ []
waits_pushed old new w n e f h d =
    subst (λ l. pairs_of l ≡ pairs_of old ++ w ∷ []) (sym e) (ap (λ k. drop k (old ++ w ∷ [])) (first_pushed old w ∙ f) ∙ drop-append-le n old (w ∷ []) h ∙ ap (λ l. l ++ w ∷ []) d)

pub first_last : (es : List Waiting) (d : Waiting) → 0 < length es → first_of es ≡ (get_or es (length es - 1) d).first
first_last [] d h = absurd (omega (arith, h))
first_last (e ∷ []) d h = refl
first_last (e ∷ f ∷ es) d h =
    let q : suc (length (f ∷ es) - 1) ≡ length (e ∷ f ∷ es) - 1 = omega arith in
    first_last (f ∷ es) d (omega arith) ∙ ap (λ n. (get_or (e ∷ f ∷ es) n d).first) q

pub first_is : (es : List Waiting) (count : ℕ) (w : Waiting) → count ≡ length es → 0 < count → w ≡ get_or es (count - 1) w → first_of es ≡ w.first
first_is es count w c h e =
    let p : length es - 1 ≡ count - 1 = omega (arith, c) in
    first_last es w (omega (arith, c, h)) ∙ ap (λ n. (get_or es n w).first) p ∙ ap (λ v. v.first) (sym e)

-- the place past which the pairs stand
pub first_drops : (es : List Waiting) (n : ℕ) → first_of es ≡ n → drop n es ≡ pairs_of es
first_drops es n e = ap (λ k. drop k es) (sym e)

pub past_drops : (es : List Waiting) (n : ℕ) → first_of es ≡ n → length es < n → drop (length es) es ≡ pairs_of es
past_drops es n e h = drop-length es ∙ sym (drop_of_length-le es (omega (arith, e, h)))
