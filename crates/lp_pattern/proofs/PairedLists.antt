-- Two lists place by place, as a loop pairs them.
use Rattle.std.proofs.Common.{◌≡◌, ℕ, ◌+◌, ◌<◌, min, List, [], ◌∷◌, ◌++◌, drop, length, get_or, ◌∙◌, refl, sym, ap, arith}
use Rattle.std.proofs.lemmas.List.{append-nil, append_assoc, length-drop}
use Rattle.std.specs.Prelude.{All}
use Rattle.std.proofs.lemmas.List.Elements.{All-nil, All-cons, All-head, All-tail}
use Rattle.lp_lemmas.proofs.Lists.{drop_read, length_push_suc}
use Rattle.lp_term.specs.declared.node.TypeId.{TypeId}
use Rattle.lp_pattern.specs.Inside.{IsTypePairOf}
use Rattle.lp_pattern.specs.Reading.{paired}

-- one place more
paired_next : {A : Type 0} (ones others : List A) (k : ℕ) (x y : A) → k < length ones → k < length others → x ≡ get_or ones k x → y ≡ get_or others k y →
    paired (drop k ones) (drop k others) ≡ (x, y) ∷ paired (drop (k + 1) ones) (drop (k + 1) others)
paired_next ones others k x y l m e f = ap (λ xs. paired xs (drop k others)) (drop_read ones k x l e) ∙ ap (paired (x ∷ drop (k + 1) ones)) (drop_read others k y m f)

pub paired_more : {A X : Type 0} (ones others : List A) (before : List X) (p : X) (x y : A) (items new all : List (A × A)) → length before < length ones → length before < length others →
    x ≡ get_or ones (length before) x → y ≡ get_or others (length before) y → new ≡ items ++ (x, y) ∷ [] →
    items ++ paired (drop (length before) ones) (drop (length before) others) ≡ all →
    new ++ paired (drop (length (before ++ p ∷ [])) ones) (drop (length (before ++ p ∷ [])) others) ≡ all
paired_more ones others before p x y items new all l m e f q h =
    let k : length (before ++ p ∷ []) ≡ length before + 1 = omega (arith, length_push_suc before p) in
    ap (λ n. new ++ paired (drop n ones) (drop n others)) k ∙ ap (λ xs. xs ++ paired (drop (length before + 1) ones) (drop (length before + 1) others)) q ∙
    append_assoc items ((x, y) ∷ []) (paired (drop (length before + 1) ones) (drop (length before + 1) others)) ∙
    ap (λ xs. items ++ xs) (sym (paired_next ones others (length before) x y l m e f)) ∙ h

-- the shorter list has ended
none_left : {A : Type 0} (xs ys : List A) → min (length xs) (length ys) ≡ 0 → paired xs ys ≡ []
none_left [] ys h = refl
none_left (x ∷ xs) [] h = refl
none_left (x ∷ xs) (y ∷ ys) h = absurd (omega (arith, h))

none_paired : {A : Type 0} (ones others : List A) (n : ℕ) → n ≡ min (length ones) (length others) → paired (drop n ones) (drop n others) ≡ []
none_paired ones others n e = none_left (drop n ones) (drop n others) (omega (arith, e, length-drop n ones, length-drop n others))

pub paired_whole : {A : Type 0} (ones others : List A) (n : ℕ) (items all : List (A × A)) → n ≡ min (length ones) (length others) → items ++ paired (drop n ones) (drop n others) ≡ all → items ≡ all
paired_whole ones others n items all e h = sym (append-nil items) ∙ ap (λ xs. items ++ xs) (sym (none_paired ones others n e)) ∙ h

pub paired_known : (n : ℕ) (ids js : List TypeId) → All (λ t. t.0 < n) ids → All (λ t. t.0 < n) js → All (IsTypePairOf n) (paired ids js)
paired_known n [] js a e = All-nil (IsTypePairOf n)
paired_known n (i ∷ ids) [] a e = All-nil (IsTypePairOf n)
paired_known n (i ∷ ids) (j ∷ js) a e =
    All-cons (IsTypePairOf n) (i, j) (paired ids js) (All-head (λ t. t.0 < n) i ids a, All-head (λ t. t.0 < n) j js e)
    (paired_known n ids js (All-tail (λ t. t.0 < n) i ids a) (All-tail (λ t. t.0 < n) j js e))
