-- The types of loose indices as they are kept: joined where they agree.
use Rattle.std.proofs.Common.{◌≡◌, ◌∙◌, ◌≤◌, ℕ, zero, suc, ◌+◌, List, [], ◌∷◌, ◌++◌, map, length, replicate, Bool, true, false, Option, Some, None, ap, refl, sym, subst, arith}
use Rattle.std.specs.Prelude.{nat_eq, nat_lt, ◌&&◌, if◌then◌else◌}
use Rattle.std.proofs.lemmas.Bool.{ne_eqb, eq-eqb, eqb-true}
use Rattle.lp_lemmas.proofs.Lists.{cons_head, cons_tail}
use Rattle.lp_lemmas.proofs.Numbers.{nat_eq_self}
use Rattle.lp_lemmas.proofs.Booleans.{and_true_left, and_true_right}
use Rattle.lp_calculus.specs.Types.{Ty, Tys, var, param, con, arrow, no_types, types}
use Rattle.lp_term.specs.declared.node.TypeId.{TypeId}
use Rattle.lp_term.specs.Nodes.{type_tree}
use Rattle.lp_code.specs.Symbolic.{equal_types, equal_lists, agree, joined}
use Rattle.lp_verify.specs.declared.loose.Entry.{Entry}
use Rattle.lp_verify.specs.declared.loose.Next.TheVariants as next
use Rattle.lp_verify.specs.declared.types.Types.{Types}
use Rattle.lp_verify.specs.inner.FirstNumbers.{IsType, AreTypes}
use Rattle.lp_verify.specs.inner.Indices.{lowered_by, next_of_both, with_entry, merge_on, merge, places_from, indices, types_of, types_there}
use Rattle.lp_verify.proofs.FirstTypes.{are_numbered}
use Rattle.lp_verify.proofs.LooseLists.{from_on, all_left, all_right, both_left, both_right}

-- types that are told equal

both_true : (a b : Bool) → a ≡ true → b ≡ true → (a && b) ≡ true
both_true a b e f = λ j. e j && f j

mutual
  pub equal_self : (T : Ty) → equal_types T T ≡ true
  equal_self (var i) = nat_eq_self i
  equal_self (param i) = nat_eq_self i
  equal_self (con c ts) = both_true (nat_eq c c) (equal_lists ts ts) (nat_eq_self c) (lists_self ts)
  equal_self (arrow a b) = both_true (equal_types a a) (equal_types b b) (equal_self a) (equal_self b)

  lists_self : (ts : Tys) → equal_lists ts ts ≡ true
  lists_self no_types = refl
  lists_self (types t ts) = both_true (equal_types t t) (equal_lists ts ts) (equal_self t) (lists_self ts)

mutual
  pub equal_sound : (T U : Ty) → equal_types T U ≡ true → T ≡ U
  equal_sound (var i) (var j) e = ap var (eqb-true i j e)
  equal_sound (param i) (param j) e = ap param (eqb-true i j e)
  equal_sound (con c ts) (con d us) e =
      let k = eqb-true c d (and_true_left (nat_eq c d) (equal_lists ts us) e) in
      let l = lists_sound ts us (and_true_right (nat_eq c d) (equal_lists ts us) e) in
      λ j. con (k j) (l j)
  equal_sound (arrow a b) (arrow c d) e =
      let k = equal_sound a c (and_true_left (equal_types a c) (equal_types b d) e) in
      let l = equal_sound b d (and_true_right (equal_types a c) (equal_types b d) e) in
      λ j. arrow (k j) (l j)
  equal_sound (var i) (param j) e = absurd (cc)
  equal_sound (var i) (con d us) e = absurd (cc)
  equal_sound (var i) (arrow c d) e = absurd (cc)
  equal_sound (param i) (var j) e = absurd (cc)
  equal_sound (param i) (con d us) e = absurd (cc)
  equal_sound (param i) (arrow c d) e = absurd (cc)
  equal_sound (con c ts) (var j) e = absurd (cc)
  equal_sound (con c ts) (param j) e = absurd (cc)
  equal_sound (con c ts) (arrow a d) e = absurd (cc)
  equal_sound (arrow a b) (var j) e = absurd (cc)
  equal_sound (arrow a b) (param j) e = absurd (cc)
  equal_sound (arrow a b) (con d us) e = absurd (cc)

  lists_sound : (ts us : Tys) → equal_lists ts us ≡ true → ts ≡ us
  lists_sound no_types no_types e = refl
  lists_sound no_types (types u us) e = absurd (cc)
  lists_sound (types t ts) no_types e = absurd (cc)
  lists_sound (types t ts) (types u us) e =
      let k = equal_sound t u (and_true_left (equal_types t u) (equal_lists ts us) e) in
      let l = lists_sound ts us (and_true_right (equal_types t u) (equal_lists ts us) e) in
      λ j. types (k j) (l j)

-- first numbers are equal where their types are
pub equal_is : (x : Types) (t u : TypeId) (T U : Ty) → IsType x t T → IsType x u U → nat_eq t.0 u.0 ≡ equal_types T U
equal_is x t u T U a b = by_types (equal_types T U) refl
  where
    by_types : (e : Bool) → equal_types T U ≡ e → nat_eq t.0 u.0 ≡ e
    by_types true e =
        let same : type_tree x.bank t.0 ≡ type_tree x.bank u.0 = a.2 ∙ equal_sound T U e ∙ sym b.2 in
        eq-eqb t.0 u.0 (sym a.1 ∙ (are_numbered x a.3).one t.0 u.0 a.0 b.0 same ∙ b.1)
    by_types false e = ne_eqb t.0 u.0 (λ n. let z : true ≡ false = sym (equal_self T) ∙ ap (equal_types T) (sym a.2 ∙ ap (type_tree x.bank) n ∙ b.2) ∙ e in absurd (cc))

-- lowered entries have the same types
pub lowered_types : (n : ℕ) (es : List Entry) → types_of (map (lowered_by n) es) ≡ types_of es
lowered_types n [] = refl
lowered_types n (e ∷ es) = ap (λ l. e.of ∷ l) (lowered_types n es)

-- what comes of a merge: a clash where types do not agree
abbrev pub Merges : Types → Option (List Entry) → (agrees : Bool) → List Ty → Type 0
Merges x None b Ts = b ≡ false
Merges x (Some zs) b Ts = (b ≡ true) × AreTypes x (types_of zs) Ts

with_merges : (x : Types) (e : Entry) (T : Ty) (o : Option (List Entry)) (b : Bool) (Ts : List Ty) → IsType x e.of T → Merges x o b Ts → Merges x (with_entry e o) b (T ∷ Ts)
with_merges x e T None b Ts t h = h
with_merges x e T (Some zs) b Ts t h = (h.0, (t, h.1))

-- both have an entry at one place
both_merge : (x : Types) (e f : Entry) (T U : Ty) (l r o : Option (List Entry)) (b : Bool) (Ts : List Ty) → e.index ≡ f.index → IsType x e.of T → IsType x f.of U → Merges x o b Ts → Merges x (merge_on (next_of_both e f) l r o) (equal_types T U && b) (T ∷ Ts)
both_merge x e f T U l r o b Ts at t u h =
    subst (λ k. Merges x (merge_on (if k then (if nat_eq e.of.0 f.of.0 then next.Both e else next.Clash) else (if nat_lt e.index f.index then next.Left e else next.Right f)) l r o) (equal_types T U && b) (T ∷ Ts)) (sym (eq-eqb e.index f.index at))
    (subst (λ k. Merges x (merge_on (if k then next.Both e else next.Clash) l r o) (equal_types T U && b) (T ∷ Ts)) (sym (equal_is x e.of f.of T U t u)) (by_types (equal_types T U)))
  where
    by_types : (k : Bool) → Merges x (merge_on (if k then next.Both e else next.Clash) l r o) (k && b) (T ∷ Ts)
    by_types true = with_merges x e T o b Ts t h
    by_types false = refl

pub merge_types : (x : Types) (n k : ℕ) (es fs : List Entry) (ts us : List (Option Ty)) → indices es ≡ places_from k ts → indices fs ≡ places_from k
    us → AreTypes x (types_of es) (types_there ts) → AreTypes x (types_of fs) (types_there us) → length es + length fs ≤ n → Merges x (merge n es fs)
    (agree ts us) (types_there (joined ts us))
merge_types x n k [] fs [] us a b p q l = subst (λ o. Merges x o true (types_there us)) (sym (all_right n fs (omega (arith, l)))) (refl, q)
merge_types x n k (e ∷ es) fs [] us a b p q l = absurd (cc)
merge_types x n k es [] (o ∷ ts) [] a b p q l = subst (λ z. Merges x z true (types_there (o ∷ ts))) (sym (all_left n es (omega (arith, l)))) (refl, p)
merge_types x n k es (f ∷ fs) (o ∷ ts) [] a b p q l = absurd (cc)
merge_types x n k es fs (None ∷ ts) (None ∷ us) a b p q l = merge_types x n (suc k) es fs ts us a b p q l
merge_types x n k [] fs (Some T ∷ ts) (o ∷ us) a b p q l = absurd (cc)
merge_types x zero k (e ∷ es) fs (Some T ∷ ts) (o ∷ us) a b p q l = absurd (omega (arith, l))
merge_types x (suc n) k (e ∷ es) [] (Some T ∷ ts) (None ∷ us) a b p q l =
    with_merges x e T (merge n es []) (agree ts us) (types_there (joined ts us)) p.0 (merge_types x n (suc k) es [] ts us (cons_tail e.index k (indices es) (places_from (suc k) ts) a) b p.1 q (omega (arith, l)))
merge_types x (suc n) k (e ∷ es) (f ∷ fs) (Some T ∷ ts) (None ∷ us) a b p q l =
    let at = cons_head e.index k (indices es) (places_from (suc k) ts) a in
    let low = from_on (suc k) us f fs b in
    subst (λ z. Merges x z (agree ts us) (T ∷ types_there (joined ts us))) (sym (both_left e f (merge n es (f ∷ fs)) (merge n (e ∷ es) fs) (merge n es fs) (omega (arith, at, low))))
    (with_merges x e T (merge n es (f ∷ fs)) (agree ts us) (types_there (joined ts us)) p.0 (merge_types x n (suc k) es (f ∷ fs) ts us (cons_tail e.index k (indices es) (places_from (suc k) ts) a) b p.1 q (omega (arith, l))))
merge_types x n k es [] (None ∷ ts) (Some U ∷ us) a b p q l = absurd (cc)
merge_types x zero k es (f ∷ fs) (None ∷ ts) (Some U ∷ us) a b p q l = absurd (omega (arith, l))
merge_types x (suc n) k [] (f ∷ fs) (None ∷ ts) (Some U ∷ us) a b p q l =
    with_merges x f U (merge n [] fs) (agree ts us) (types_there (joined ts us)) q.0 (merge_types x n (suc k) [] fs ts us a (cons_tail f.index k (indices fs) (places_from (suc k) us) b) p q.1 (omega (arith, l)))
merge_types x (suc n) k (e ∷ es) (f ∷ fs) (None ∷ ts) (Some U ∷ us) a b p q l =
    let at = cons_head f.index k (indices fs) (places_from (suc k) us) b in
    let low = from_on (suc k) ts e es a in
    subst (λ z. Merges x z (agree ts us) (U ∷ types_there (joined ts us))) (sym (both_right e f (merge n es (f ∷ fs)) (merge n (e ∷ es) fs) (merge n es fs) (omega (arith, at, low))))
    (with_merges x f U (merge n (e ∷ es) fs) (agree ts us) (types_there (joined ts us)) q.0 (merge_types x n (suc k) (e ∷ es) fs ts us a (cons_tail f.index k (indices fs) (places_from (suc k) us) b) p q.1 (omega (arith, l))))
merge_types x (suc n) k (e ∷ es) [] (Some T ∷ ts) (Some U ∷ us) a b p q l = absurd (cc)
merge_types x (suc n) k (e ∷ es) (f ∷ fs) (Some T ∷ ts) (Some U ∷ us) a b p q l =
    let at = cons_head e.index k (indices es) (places_from (suc k) ts) a in
    let there = cons_head f.index k (indices fs) (places_from (suc k) us) b in
    both_merge x e f T U (merge n es (f ∷ fs)) (merge n (e ∷ es) fs) (merge n es fs) (agree ts us) (types_there (joined ts us)) (at ∙ sym there) p.0 q.0
    (merge_types x n (suc k) es fs ts us (cons_tail e.index k (indices es) (places_from (suc k) ts) a) (cons_tail f.index k (indices fs) (places_from (suc k) us) b) p.1 q.1 (omega (arith, l)))

-- one of two lists has all

pub none_right_types : (k : ℕ) (ts us : List (Option Ty)) → places_from k us ≡ [] → (agree ts us ≡ true) × (types_there (joined ts us) ≡ types_there ts)
none_right_types k [] us h = (refl, no_types_there k us h)
  where
    no_types_there : (k : ℕ) (us : List (Option Ty)) → places_from k us ≡ [] → types_there us ≡ []
    no_types_there k [] h = refl
    no_types_there k (None ∷ us) h = no_types_there (suc k) us h
    no_types_there k (Some U ∷ us) h = absurd (cc)
none_right_types k (None ∷ ts) [] h = (refl, refl)
none_right_types k (Some T ∷ ts) [] h = (refl, refl)
none_right_types k (None ∷ ts) (None ∷ us) h = none_right_types (suc k) ts us h
none_right_types k (Some T ∷ ts) (None ∷ us) h = let r = none_right_types (suc k) ts us h in (r.0, ap (λ l. T ∷ l) r.1)
none_right_types k (o ∷ ts) (Some U ∷ us) h = absurd (cc)

pub none_left_types : (k : ℕ) (ts us : List (Option Ty)) → places_from k ts ≡ [] → (agree ts us ≡ true) × (types_there (joined ts us) ≡ types_there us)
none_left_types k [] us h = (refl, refl)
none_left_types k (None ∷ ts) [] h = none_here (suc k) ts h
  where
    none_here : (k : ℕ) (ts : List (Option Ty)) → places_from k ts ≡ [] → (true ≡ true) × (types_there ts ≡ [])
    none_here k [] h = (refl, refl)
    none_here k (None ∷ ts) h = none_here (suc k) ts h
    none_here k (Some T ∷ ts) h = absurd (cc)
none_left_types k (None ∷ ts) (None ∷ us) h = none_left_types (suc k) ts us h
none_left_types k (None ∷ ts) (Some U ∷ us) h = let r = none_left_types (suc k) ts us h in (r.0, ap (λ l. U ∷ l) r.1)
none_left_types k (Some T ∷ ts) us h = absurd (cc)

no_fewer_left : (ts us : List (Option Ty)) → length (types_there ts) ≤ length (types_there (joined ts us))
no_fewer_left [] us = omega arith
no_fewer_left (o ∷ ts) [] = omega arith
no_fewer_left (None ∷ ts) (None ∷ us) = no_fewer_left ts us
no_fewer_left (None ∷ ts) (Some U ∷ us) = let l = no_fewer_left ts us in omega (arith, l)
no_fewer_left (Some T ∷ ts) (o ∷ us) = let l = no_fewer_left ts us in omega (arith, l)

no_fewer_right : (ts us : List (Option Ty)) → length (types_there us) ≤ length (types_there (joined ts us))
no_fewer_right [] us = omega arith
no_fewer_right (o ∷ ts) [] = omega arith
no_fewer_right (None ∷ ts) (None ∷ us) = no_fewer_right ts us
no_fewer_right (None ∷ ts) (Some U ∷ us) = let l = no_fewer_right ts us in omega (arith, l)
no_fewer_right (Some T ∷ ts) (None ∷ us) = let l = no_fewer_right ts us in omega (arith, l)
no_fewer_right (Some T ∷ ts) (Some U ∷ us) = let l = no_fewer_right ts us in omega (arith, l)

nothing_in : {A : Type 0} (xs : List A) → length xs ≡ 0 → xs ≡ []
nothing_in [] h = refl
nothing_in (x ∷ xs) h = absurd (omega (arith, h))

pub as_many_left_types : (ts us : List (Option Ty)) → length (types_there (joined ts us)) ≡ length (types_there ts) → types_there (joined ts us) ≡ types_there ts
as_many_left_types [] us h = nothing_in (types_there us) h
as_many_left_types (o ∷ ts) [] h = refl
as_many_left_types (None ∷ ts) (None ∷ us) h = as_many_left_types ts us h
as_many_left_types (None ∷ ts) (Some U ∷ us) h = let l = no_fewer_left ts us in absurd (omega (arith, h, l))
as_many_left_types (Some T ∷ ts) (o ∷ us) h = ap (λ l. T ∷ l) (as_many_left_types ts us (omega (arith, h)))

pub as_many_right_types : (ts us : List (Option Ty)) → agree ts us ≡ true → length (types_there (joined ts us)) ≡ length (types_there us) → types_there (joined ts us) ≡ types_there us
as_many_right_types [] us e h = refl
as_many_right_types (o ∷ ts) [] e h = nothing_in (types_there (o ∷ ts)) h
as_many_right_types (None ∷ ts) (None ∷ us) e h = as_many_right_types ts us e h
as_many_right_types (None ∷ ts) (Some U ∷ us) e h = ap (λ l. U ∷ l) (as_many_right_types ts us e (omega (arith, h)))
as_many_right_types (Some T ∷ ts) (None ∷ us) e h = let l = no_fewer_right ts us in absurd (omega (arith, h, l))
as_many_right_types (Some T ∷ ts) (Some U ∷ us) e h =
    let q = equal_sound T U (and_true_left (equal_types T U) (agree ts us) e) in
    let r = as_many_right_types ts us (and_true_right (equal_types T U) (agree ts us) e) (omega (arith, h)) in
    λ j. q j ∷ r j

-- as many places as types
pub types_count : (k : ℕ) (ts : List (Option Ty)) → length (places_from k ts) ≡ length (types_there ts)
types_count k [] = refl
types_count k (None ∷ ts) = types_count (suc k) ts
types_count k (Some T ∷ ts) = ap (λ n. suc n) (types_count (suc k) ts)

-- one index
pub one_type : (i : ℕ) (T : Ty) → types_there (replicate i None ++ Some T ∷ []) ≡ T ∷ []
one_type zero T = refl
one_type (suc i) T = one_type i T
