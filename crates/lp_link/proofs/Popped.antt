-- The last element of a list, as the first one of its reverse.
use Rattle.std.proofs.Common.{◌≡◌, ◌∙◌, List, [], ◌∷◌, ◌++◌, length, map, reverse, ap, sym, arith}
use Rattle.std.proofs.lemmas.List.{length-reverse, length-map}
use Rattle.lp_lemmas.proofs.Lists.{cons_head, cons_tail, reverse_pushed}

pub none_popped : {A : Type 0} (xs : List A) (x : A) (rest : List A) → length xs ≡ 0 → reverse xs ≡ x ∷ rest → ⊥
none_popped xs x rest none e = let n = ap length e in let r = length-reverse xs in omega (arith, none, n, r)

pub one_popped : {A : Type 0} (all xs : List A) (y x : A) (rest : List A) → all ≡ xs ++ y ∷ [] → reverse all ≡ x ∷ rest → (y ≡ x) × (reverse xs ≡ rest)
one_popped all xs y x rest is e =
    let q = sym (reverse_pushed all xs y is) ∙ e in
    (cons_head y x (reverse xs) rest q, cons_tail y x (reverse xs) rest q)

pub none_mapped : {A B : Type 0} (f : A → B) (xs : List A) (x : B) (rest : List B) → length xs ≡ 0 → map f (reverse xs) ≡ x ∷ rest → ⊥
none_mapped f xs x rest none e = let n = ap length e in let r = length-reverse xs in let m = length-map (reverse xs) f in omega (arith, none, n, r, m)

pub one_mapped : {A B : Type 0} (f : A → B) (all xs : List A) (y : A) (x : B) (rest : List B) → all ≡ xs ++ y ∷ [] → map f (reverse all) ≡ x ∷ rest → (f y ≡ x) × (map f (reverse xs) ≡ rest)
one_mapped f all xs y x rest is e =
    let q = sym (ap (map f) (reverse_pushed all xs y is)) ∙ e in
    (cons_head (f y) x (map f (reverse xs)) rest q, cons_tail (f y) x (map f (reverse xs)) rest q)
