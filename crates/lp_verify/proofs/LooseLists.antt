-- Loose indices as they are kept are those of the definition: merged, lowered and put.
use Rattle.std.proofs.Common.{◌≡◌, ◌∙◌, ◌≤◌, ◌<◌, ℕ, zero, suc, ◌+◌, List, [], ◌∷◌, map, length, Bool, true, false, Option, Some, None, ap, refl, sym, subst, arith}
use Rattle.std.specs.Prelude.{◌^◌, nat_eq, nat_lt, if◌then◌else◌}
use Rattle.std.proofs.lemmas.Bool.{ne_eqb, eq-eqb, lt-ltb, le-ltb}
use Rattle.lp_lemmas.proofs.Lists.{cons_head, cons_tail}
use Rattle.lp_calculus.specs.Types.{Ty}
use Rattle.lp_code.specs.Symbolic.{joined}
use Rattle.lp_verify.specs.declared.loose.Entry.{Entry}
use Rattle.lp_verify.specs.declared.loose.Next.TheVariants as next
use Rattle.lp_verify.specs.inner.Indices.{next_of_both, with_entry, merge_on, merge, places_from, indices, AreLow}

-- places

pub shifted : {A : Type 0} (k : ℕ) (xs : List (Option A)) → places_from (suc k) xs ≡ map suc (places_from k xs)
shifted k [] = refl
shifted k (None ∷ xs) = shifted (suc k) xs
shifted k (Some x ∷ xs) = ap (λ l. suc k ∷ l) (shifted (suc k) xs)

-- the first entry of places from a number on is not below it
pub from_on : (k : ℕ) (ts : List (Option Ty)) (e : Entry) (es : List Entry) → indices (e ∷ es) ≡ places_from k ts → k ≤ e.index
from_on k [] e es h = absurd (cc)
from_on k (None ∷ ts) e es h = let l = from_on (suc k) ts e es h in omega (arith, l)
from_on k (Some T ∷ ts) e es h = let q = cons_head e.index k (indices es) (places_from (suc k) ts) h in omega (arith, q)

-- merged lists

with_entry_is : (e : Entry) (o : Option (List Entry)) (zs : List Entry) → with_entry e o ≡ Some zs → (ws : List Entry) × (o ≡ Some ws) × (zs ≡ e ∷ ws)
with_entry_is e None zs h = absurd (cc)
with_entry_is e (Some ws) zs h = (ws, refl, some_is (e ∷ ws) zs h)
  where
    some_is : (x y : List Entry) → Some x ≡ Some y → y ≡ x
    some_is x y h = cc

pub all_left : (n : ℕ) (es : List Entry) → length es ≤ n → merge n es [] ≡ Some es
all_left zero [] l = refl
all_left zero (e ∷ es) l = absurd (omega (arith, l))
all_left (suc n) [] l = refl
all_left (suc n) (e ∷ es) l = ap (with_entry e) (all_left n es (omega (arith, l)))

pub all_right : (n : ℕ) (es : List Entry) → length es ≤ n → merge n [] es ≡ Some es
all_right zero [] l = refl
all_right zero (e ∷ es) l = absurd (omega (arith, l))
all_right (suc n) [] l = refl
all_right (suc n) (e ∷ es) l = ap (with_entry e) (all_right n es (omega (arith, l)))

some_same : (x y : List Entry) → Some x ≡ Some y → x ≡ y
some_same x y h = cc

-- an entry is taken from the left, from the right or from both
both_equal : (x y : Entry) (l r b : Option (List Entry)) → x.index ≡ y.index → (zs : List Entry) → merge_on (next_of_both x y) l r b ≡ Some zs → with_entry x b ≡ Some zs
both_equal x y l r b e zs h = by_types (nat_eq x.of.0 y.of.0) (sym (ap (λ t. merge_on (if t then (if nat_eq x.of.0 y.of.0 then next.Both x else next.Clash) else (if nat_lt x.index y.index then next.Left x else next.Right y)) l r b) (eq-eqb x.index y.index e)) ∙ h)
  where
    by_types : (t : Bool) → merge_on (if t then next.Both x else next.Clash) l r b ≡ Some zs → with_entry x b ≡ Some zs
    by_types true h = h
    by_types false h = absurd (cc)

pub both_left : (x y : Entry) (l r b : Option (List Entry)) → x.index < y.index → merge_on (next_of_both x y) l r b ≡ with_entry x l
both_left x y l r b h =
    ap (λ t. merge_on (if t then (if nat_eq x.of.0 y.of.0 then next.Both x else next.Clash) else (if nat_lt x.index y.index then next.Left x else next.Right y)) l r b) (ne_eqb x.index y.index (λ e. omega (arith, e, h)))
    ∙ ap (λ t. merge_on (if t then next.Left x else next.Right y) l r b) (lt-ltb x.index y.index h)

pub both_right : (x y : Entry) (l r b : Option (List Entry)) → y.index < x.index → merge_on (next_of_both x y) l r b ≡ with_entry y r
both_right x y l r b h =
    ap (λ t. merge_on (if t then (if nat_eq x.of.0 y.of.0 then next.Both x else next.Clash) else (if nat_lt x.index y.index then next.Left x else next.Right y)) l r b) (ne_eqb x.index y.index (λ e. omega (arith, e, h)))
    ∙ ap (λ t. merge_on (if t then next.Left x else next.Right y) l r b) (le-ltb x.index y.index (omega (arith, h)))

-- one entry at this place, and the others behind it
taken : (k : ℕ) (e : Entry) (o : Option (List Entry)) (zs : List Entry) (rest : List ℕ) → with_entry e o ≡ Some zs → e.index ≡ k → ((ws : List Entry) → o ≡ Some ws → indices ws ≡ rest) → indices zs ≡ k ∷ rest
taken k e o zs rest h at go =
    let w = with_entry_is e o zs h in
    ap indices w.2 ∙ (λ j. at j ∷ go w.0 w.1 j)

pub merge_places : (n k : ℕ) (es fs zs : List Entry) (ts us : List (Option Ty)) → indices es ≡ places_from k ts → indices fs ≡ places_from k us → length es + length fs ≤ n → merge n es fs ≡ Some zs → indices zs ≡ places_from k (joined ts us)
merge_places n k [] fs zs [] us a b l h = ap indices (sym (some_same fs zs (sym (all_right n fs (omega (arith, l))) ∙ h))) ∙ b
merge_places n k (e ∷ es) fs zs [] us a b l h = absurd (cc)
merge_places n k es [] zs (o ∷ ts) [] a b l h = ap indices (sym (some_same es zs (sym (all_left n es (omega (arith, l))) ∙ h))) ∙ a
merge_places n k es (f ∷ fs) zs (o ∷ ts) [] a b l h = absurd (cc)
merge_places n k es fs zs (None ∷ ts) (None ∷ us) a b l h = merge_places n (suc k) es fs zs ts us a b l h
merge_places n k [] fs zs (Some T ∷ ts) (o ∷ us) a b l h = absurd (cc)
merge_places zero k (e ∷ es) fs zs (Some T ∷ ts) (o ∷ us) a b l h = absurd (omega (arith, l))
merge_places (suc n) k (e ∷ es) [] zs (Some T ∷ ts) (None ∷ us) a b l h =
    taken k e (merge n es []) zs (places_from (suc k) (joined ts us)) h (cons_head e.index k (indices es) (places_from (suc k) ts) a)
    (λ ws w. merge_places n (suc k) es [] ws ts us (cons_tail e.index k (indices es) (places_from (suc k) ts) a) b (omega (arith, l)) w)
merge_places (suc n) k (e ∷ es) (f ∷ fs) zs (Some T ∷ ts) (None ∷ us) a b l h =
    let at = cons_head e.index k (indices es) (places_from (suc k) ts) a in
    let low = from_on (suc k) us f fs b in
    taken k e (merge n es (f ∷ fs)) zs (places_from (suc k) (joined ts us)) (sym (both_left e f (merge n es (f ∷ fs)) (merge n (e ∷ es) fs) (merge n es fs) (omega (arith, at, low))) ∙ h) at
    (λ ws w. merge_places n (suc k) es (f ∷ fs) ws ts us (cons_tail e.index k (indices es) (places_from (suc k) ts) a) b (omega (arith, l)) w)
merge_places n k es [] zs (None ∷ ts) (Some U ∷ us) a b l h = absurd (cc)
merge_places zero k es (f ∷ fs) zs (None ∷ ts) (Some U ∷ us) a b l h = absurd (omega (arith, l))
merge_places (suc n) k [] (f ∷ fs) zs (None ∷ ts) (Some U ∷ us) a b l h =
    taken k f (merge n [] fs) zs (places_from (suc k) (joined ts us)) h (cons_head f.index k (indices fs) (places_from (suc k) us) b)
    (λ ws w. merge_places n (suc k) [] fs ws ts us a (cons_tail f.index k (indices fs) (places_from (suc k) us) b) (omega (arith, l)) w)
merge_places (suc n) k (e ∷ es) (f ∷ fs) zs (None ∷ ts) (Some U ∷ us) a b l h =
    let at = cons_head f.index k (indices fs) (places_from (suc k) us) b in
    let low = from_on (suc k) ts e es a in
    taken k f (merge n (e ∷ es) fs) zs (places_from (suc k) (joined ts us)) (sym (both_right e f (merge n es (f ∷ fs)) (merge n (e ∷ es) fs) (merge n es fs) (omega (arith, at, low))) ∙ h) at
    (λ ws w. merge_places n (suc k) (e ∷ es) fs ws ts us a (cons_tail f.index k (indices fs) (places_from (suc k) us) b) (omega (arith, l)) w)
merge_places (suc n) k (e ∷ es) [] zs (Some T ∷ ts) (Some U ∷ us) a b l h = absurd (cc)
merge_places (suc n) k (e ∷ es) (f ∷ fs) zs (Some T ∷ ts) (Some U ∷ us) a b l h =
    let at = cons_head e.index k (indices es) (places_from (suc k) ts) a in
    let there = cons_head f.index k (indices fs) (places_from (suc k) us) b in
    taken k e (merge n es fs) zs (places_from (suc k) (joined ts us)) (both_equal e f (merge n es (f ∷ fs)) (merge n (e ∷ es) fs) (merge n es fs) (at ∙ sym there) zs h) at
    (λ ws w. merge_places n (suc k) es fs ws ts us (cons_tail e.index k (indices es) (places_from (suc k) ts) a) (cons_tail f.index k (indices fs) (places_from (suc k) us) b) (omega (arith, l)) w)

-- entries of merged lists are low
low_on : (e : Entry) (o : Option (List Entry)) (zs : List Entry) → with_entry e o ≡ Some zs → e.index < 2 ^ 16 → ((ws : List Entry) → o ≡ Some ws → AreLow ws) → AreLow zs
low_on e o zs h at go = let w = with_entry_is e o zs h in subst AreLow (sym w.2) (at, go w.0 w.1)

low_next : (x y : Entry) (l r b : Option (List Entry)) (zs : List Entry) → x.index < 2 ^ 16 → y.index < 2 ^ 16 → merge_on (next_of_both x y) l r b ≡
    Some zs → ((ws : List Entry) → l ≡ Some ws → AreLow ws) → ((ws : List Entry) → r ≡ Some ws → AreLow ws) →
    ((ws : List Entry) → b ≡ Some ws → AreLow ws) → AreLow zs
low_next x y l r b zs p q h u v w = by_next (nat_eq x.index y.index) (nat_eq x.of.0 y.of.0) (nat_lt x.index y.index) h
  where
    by_next : (e t k : Bool) → merge_on (if e then (if t then next.Both x else next.Clash) else (if k then next.Left x else next.Right y)) l r b ≡ Some zs → AreLow zs
    by_next true true k h = low_on x b zs h p w
    by_next true false k h = absurd (cc)
    by_next false t true h = low_on x l zs h p u
    by_next false t false h = low_on y r zs h q v

pub merge_low : (n : ℕ) (es fs zs : List Entry) → AreLow es → AreLow fs → merge n es fs ≡ Some zs → AreLow zs
merge_low zero es fs zs a b h = subst AreLow (some_same [] zs h) tt
merge_low (suc n) [] [] zs a b h = subst AreLow (some_same [] zs h) tt
merge_low (suc n) (e ∷ es) [] zs a b h = low_on e (merge n es []) zs h a.0 (λ ws w. merge_low n es [] ws a.1 tt w)
merge_low (suc n) [] (f ∷ fs) zs a b h = low_on f (merge n [] fs) zs h b.0 (λ ws w. merge_low n [] fs ws tt b.1 w)
merge_low (suc n) (e ∷ es) (f ∷ fs) zs a b h =
    low_next e f (merge n es (f ∷ fs)) (merge n (e ∷ es) fs) (merge n es fs) zs a.0 b.0 h (λ ws w. merge_low n es (f ∷ fs) ws a.1 b w) (λ ws w. merge_low n (e ∷ es) fs ws a b.1 w) (λ ws w. merge_low n es fs ws a.1 b.1 w)

-- one of two lists has all
pub none_right : (k : ℕ) (ts us : List (Option Ty)) → places_from k us ≡ [] → places_from k (joined ts us) ≡ places_from k ts
none_right k [] us h = h
none_right k (o ∷ ts) [] h = refl
none_right k (None ∷ ts) (None ∷ us) h = none_right (suc k) ts us h
none_right k (Some T ∷ ts) (None ∷ us) h = ap (λ l. k ∷ l) (none_right (suc k) ts us h)
none_right k (o ∷ ts) (Some U ∷ us) h = absurd (cc)

pub none_left : (k : ℕ) (ts us : List (Option Ty)) → places_from k ts ≡ [] → places_from k (joined ts us) ≡ places_from k us
none_left k [] us h = refl
none_left k (None ∷ ts) [] h = h
none_left k (None ∷ ts) (None ∷ us) h = none_left (suc k) ts us h
none_left k (None ∷ ts) (Some U ∷ us) h = ap (λ l. k ∷ l) (none_left (suc k) ts us h)
none_left k (Some T ∷ ts) us h = absurd (cc)

no_fewer_left : (k : ℕ) (ts us : List (Option Ty)) → length (places_from k ts) ≤ length (places_from k (joined ts us))
no_fewer_left k [] us = omega arith
no_fewer_left k (o ∷ ts) [] = omega arith
no_fewer_left k (None ∷ ts) (None ∷ us) = no_fewer_left (suc k) ts us
no_fewer_left k (None ∷ ts) (Some U ∷ us) = let l = no_fewer_left (suc k) ts us in omega (arith, l)
no_fewer_left k (Some T ∷ ts) (o ∷ us) = let l = no_fewer_left (suc k) ts us in omega (arith, l)

no_fewer_right : (k : ℕ) (ts us : List (Option Ty)) → length (places_from k us) ≤ length (places_from k (joined ts us))
no_fewer_right k [] us = omega arith
no_fewer_right k (o ∷ ts) [] = omega arith
no_fewer_right k (None ∷ ts) (None ∷ us) = no_fewer_right (suc k) ts us
no_fewer_right k (None ∷ ts) (Some U ∷ us) = let l = no_fewer_right (suc k) ts us in omega (arith, l)
no_fewer_right k (Some T ∷ ts) (None ∷ us) = let l = no_fewer_right (suc k) ts us in omega (arith, l)
no_fewer_right k (Some T ∷ ts) (Some U ∷ us) = let l = no_fewer_right (suc k) ts us in omega (arith, l)

pub as_many_left : (k : ℕ) (ts us : List (Option Ty)) → length (places_from k (joined ts us)) ≡ length (places_from k ts) → places_from k (joined ts us) ≡ places_from k ts
as_many_left k [] [] h = refl
as_many_left k [] (None ∷ us) h = as_many_left (suc k) [] us h
as_many_left k [] (Some U ∷ us) h = absurd (omega (arith, h))
as_many_left k (o ∷ ts) [] h = refl
as_many_left k (None ∷ ts) (None ∷ us) h = as_many_left (suc k) ts us h
as_many_left k (None ∷ ts) (Some U ∷ us) h = let l = no_fewer_left (suc k) ts us in absurd (omega (arith, h, l))
as_many_left k (Some T ∷ ts) (o ∷ us) h = ap (λ l. k ∷ l) (as_many_left (suc k) ts us (omega (arith, h)))

pub as_many_right : (k : ℕ) (ts us : List (Option Ty)) → length (places_from k (joined ts us)) ≡ length (places_from k us) → places_from k (joined ts us) ≡ places_from k us
as_many_right k [] us h = refl
as_many_right k (None ∷ ts) [] h = as_many_right_nil (suc k) ts h
  where
    as_many_right_nil : (k : ℕ) (ts : List (Option Ty)) → length (places_from k ts) ≡ 0 → places_from k ts ≡ []
    as_many_right_nil k [] h = refl
    as_many_right_nil k (None ∷ ts) h = as_many_right_nil (suc k) ts h
    as_many_right_nil k (Some T ∷ ts) h = absurd (omega (arith, h))
as_many_right k (Some T ∷ ts) [] h = absurd (omega (arith, h))
as_many_right k (None ∷ ts) (None ∷ us) h = as_many_right (suc k) ts us h
as_many_right k (None ∷ ts) (Some U ∷ us) h = ap (λ l. k ∷ l) (as_many_right (suc k) ts us (omega (arith, h)))
as_many_right k (Some T ∷ ts) (None ∷ us) h = let l = no_fewer_right (suc k) ts us in absurd (omega (arith, h, l))
as_many_right k (Some T ∷ ts) (Some U ∷ us) h = ap (λ l. k ∷ l) (as_many_right (suc k) ts us (omega (arith, h)))
