-- What kept entries stand for, when lists are put, joined and seen from outside.
use Rattle.std.proofs.Common.{◌≡◌, ◌∙◌, ◌≤◌, ◌<◌, ℕ, zero, suc, ◌+◌, ◌-◌, List, [], ◌∷◌, ◌++◌, append_assoc, map, length, drop, replicate, true, false, Option, Some, None, ap, refl, sym, subst, arith}
use Rattle.std.specs.Prelude.{◌^◌, min, if◌then◌else◌, option_map, is_some, is_none, slice_get, Vec, Result, Ok, Err, OnOk}
use Rattle.std.specs.Global.{Global}
use Rattle.std.proofs.Math.Seq.{drop-nil}
use Rattle.std.proofs.lemmas.Bool.{ne_eqb, eq-eqb}
use Rattle.std.proofs.lemmas.List.{length-map}
use Rattle.std.proofs.lemmas.Option.{slice_get_past}
use Rattle.lp_lemmas.proofs.Lists.{append_nil_sym, cons_head, cons_tail}
use Rattle.lp_calculus.specs.Types.{Ty}
use Rattle.lp_code.specs.Rules.{has_none}
use Rattle.lp_code.specs.Symbolic.{agree, joined, outer, innermost, is_closed, bound_index}
use Rattle.lp_verify.specs.declared.loose.Entry.{Entry}
use Rattle.lp_verify.specs.declared.loose.Loose.{Loose}
use Rattle.lp_verify.specs.declared.loose.Lists.{Lists}
use Rattle.lp_verify.specs.declared.types.Types.{Types}
use Rattle.lp_term.specs.declared.node.TypeId.{TypeId}
use Rattle.lp_verify.specs.inner.FirstNumbers.{IsType, AreTypes}
use Rattle.lp_verify.specs.inner.Stack.{Agree}
use Rattle.lp_verify.specs.inner.Indices.{items_of, entries_in, lowered_by, seen_in, innermost_of, innermost_in, merge, places_from, indices, AreLow, IsSeen, ListsGrow, Store, store, StoreGrows, types_of, types_there, StandFor, AreJoined}
use Rattle.lp_verify.proofs.LooseLists.{shifted, merge_places, merge_low, none_right, none_left, as_many_left, as_many_right}
use Rattle.lp_verify.proofs.LooseTypes.{Merges, merge_types, lowered_types, none_right_types, none_left_types, as_many_left_types, as_many_right_types, types_count, one_type}
use Rattle.lp_verify.proofs.UsedConstants.{types_stay, types_same, types_then}

-- lists grow
pub grows_same : (l : Lists) → ListsGrow l l
grows_same l = ([], append_nil_sym l.lists.items)

pub grows_on : {T E : Type 0} (r : Result T E) (l : Lists) → OnOk r (ListsGrow l l)
grows_on (Ok x) l = grows_same l
grows_on (Err e) l = tt

pub grows_then : (l m n : Lists) → ListsGrow l m → ListsGrow m n → ListsGrow l n
grows_then l m n a b = (a.0 ++ b.0, b.1 ∙ ap (λ xs. xs ++ b.0) a.1 ∙ append_assoc l.lists.items a.0 b.0)

pub store_same : (l : Store) → StoreGrows l l
store_same l = (grows_same l.lists, types_same l.types)

pub store_then : (l m n : Store) → StoreGrows l m → StoreGrows m n → StoreGrows l n
store_then l m n a b = (grows_then l.lists m.lists n.lists a.0 b.0, types_then l.types m.types n.types a.1 b.1)

pub stands_later : (l m : Store) (x : Loose) (ts : List (Option Ty)) → StoreGrows l m → StandFor l x ts → StandFor m x ts
stands_later l m x ts g s = λ n h. s n (store_then l m n g h)

-- no index
no_places_types : (k : ℕ) (ts : List (Option Ty)) → places_from k ts ≡ [] → types_there ts ≡ []
no_places_types k [] h = refl
no_places_types k (None ∷ ts) h = no_places_types (suc k) ts h
no_places_types k (Some T ∷ ts) h = absurd (cc)

no_types : (x : Types) (ts : List TypeId) (Ts : List Ty) → ts ≡ [] → Ts ≡ [] → AreTypes x ts Ts
no_types x ts Ts e f = subst (λ ts. AreTypes x ts Ts) (sym e) (subst (AreTypes x []) (sym f) tt)

nothing_seen : (m : Store) (x : Loose) (ts : List (Option Ty)) → entries_in m.lists x ≡ [] → places_from 0 ts ≡ [] → IsSeen m x ts
nothing_seen m x ts e h = (ap indices e ∙ sym (ap (map (λ n. n + x.lowered)) h), subst AreLow (sym e) tt, no_types m.types (types_of (entries_in m.lists x)) (types_there ts) (ap types_of e) (no_places_types 0 ts h))

pub no_entries : (m : Lists) (x : Loose) → x.list ≡ 2 ^ 64 - 1 → entries_in m x ≡ []
no_entries m x e =
    let a = m.lists.ok.0 in
    let b = m.lists.ok.1 in
    let c = m.lists.small in
    let out : length m.lists.items ≤ x.list = omega (arith, a, b, c, e) in
    ap (λ o. drop x.from (items_of o)) (slice_get_past m.lists.items x.list out) ∙ drop-nil x.from

pub nothing_loose : (l : Store) (x : Loose) (ts : List (Option Ty)) → ts ≡ [] → x.list ≡ 2 ^ 64 - 1 → StandFor l x ts
nothing_loose l x ts t e = λ m g. nothing_seen m x ts (no_entries m.lists x e) (ap (places_from 0) t)

-- entries as they are seen
lowered_places : (n : ℕ) (es : List Entry) (ps : List ℕ) → indices es ≡ map (λ p. p + n) ps → indices (map (lowered_by n) es) ≡ ps
lowered_places n [] [] h = refl
lowered_places n [] (p ∷ ps) h = absurd (cc)
lowered_places n (e ∷ es) [] h = absurd (cc)
lowered_places n (e ∷ es) (p ∷ ps) h =
    let q : e.index ≡ p + n = cons_head e.index (p + n) (indices es) (map (λ p. p + n) ps) h in
    let r : e.index - n ≡ p = omega (arith, q) in
    let s = lowered_places n es ps (cons_tail e.index (p + n) (indices es) (map (λ p. p + n) ps) h) in
    λ j. r j ∷ s j

pub seen_places : (l : Store) (x : Loose) (ts : List (Option Ty)) → IsSeen l x ts → indices (seen_in l.lists x) ≡ places_from 0 ts
seen_places l x ts s = lowered_places x.lowered (entries_in l.lists x) (places_from 0 ts) s.0

seen_types : (l : Store) (x : Loose) (ts : List (Option Ty)) → IsSeen l x ts → AreTypes l.types (types_of (seen_in l.lists x)) (types_there ts)
seen_types l x ts s = subst (λ us. AreTypes l.types us (types_there ts)) (sym (lowered_types x.lowered (entries_in l.lists x))) s.2

lowered_low : (n : ℕ) (es : List Entry) → AreLow es → AreLow (map (lowered_by n) es)
lowered_low n [] a = tt
lowered_low n (e ∷ es) a = (let l : e.index < 2 ^ 16 = a.0 in omega (arith, l), lowered_low n es a.1)

no_places : (l : Store) (x : Loose) (ts : List (Option Ty)) → IsSeen l x ts → entries_in l.lists x ≡ [] → places_from 0 ts ≡ []
no_places l x ts s e = sym (seen_places l x ts s) ∙ ap (λ es. indices (map (lowered_by x.lowered) es)) e

same_places : (l : Store) (x : Loose) (ts us : List (Option Ty)) → places_from 0 us ≡ places_from 0 ts → types_there us ≡ types_there ts → StandFor l x ts → StandFor l x us
same_places l x ts us e f s = λ m g. let q = s m g in (q.0 ∙ ap (map (λ n. n + x.lowered)) (sym e), q.1, subst (AreTypes m.types (types_of (entries_in m.lists x))) (sym f) q.2)

-- whether an index is loose
closed_places : (k : ℕ) (ts : List (Option Ty)) → is_closed ts ≡ has_none (places_from k ts)
closed_places k [] = refl
closed_places k (None ∷ ts) = closed_places (suc k) ts
closed_places k (Some T ∷ ts) = refl

none_of : (es : List Entry) (n : ℕ) (ps : List ℕ) → indices es ≡ map (λ p. p + n) ps → has_none ps ≡ has_none es
none_of [] n [] h = refl
none_of [] n (p ∷ ps) h = absurd (cc)
none_of (e ∷ es) n [] h = absurd (cc)
none_of (e ∷ es) n (p ∷ ps) h = refl

pub closed_is : (l : Store) (x : Loose) (ts : List (Option Ty)) → StandFor l x ts → is_closed ts ≡ has_none (entries_in l.lists x)
closed_is l x ts s = let q = s l (store_same l) in closed_places 0 ts ∙ none_of (entries_in l.lists x) x.lowered (places_from 0 ts) q.0

-- a list is put
get_in : {A : Type 0} (xs : List A) (y : A) (more : List A) → slice_get ((xs ++ y ∷ []) ++ more) (length xs) ≡ Some y
get_in [] y more = refl
get_in (x ∷ xs) y more = get_in xs y more

map_zero : (ps : List ℕ) → map (λ n. n + 0) ps ≡ ps
map_zero [] = refl
map_zero (p ∷ ps) = let q : p + 0 ≡ p = omega arith in let r = map_zero ps in λ j. q j ∷ r j

pub put_there : (l : Lists) (m : Store) (v : Vec Entry Global) (x : Loose) (ts : List (Option Ty)) → m.lists.lists.items ≡ l.lists.items ++ v ∷ [] → x
    ≡ record { list = length l.lists.items; from = 0; lowered = 0 } → indices v.items ≡ places_from 0 ts → AreLow v.items → AreTypes m.types
    (types_of v.items) (types_there ts)
    → StandFor m x ts
put_there l m v x ts e at places low typed = λ n g.
    let there : entries_in n.lists x ≡ v.items = (λ j. drop (at j).from (items_of (slice_get ((g.0.1 ∙ ap (λ xs. xs ++ g.0.0) e) j) (at j).list))) ∙ ap items_of (get_in l.lists.items v g.0.0) in (
      ap indices there ∙ places ∙ sym (map_zero (places_from 0 ts)) ∙ ap (λ (y : Loose). map (λ n. n + y.lowered) (places_from 0 ts)) (sym at),
      subst AreLow (sym there) low,
      subst (λ es. AreTypes n.types (types_of es) (types_there ts)) (sym there) (types_stay m.types n.types (types_of v.items) (types_there ts) g.1 typed),
    )

one_place : (k i : ℕ) (T : Ty) → places_from k (replicate i None ++ Some T ∷ []) ≡ (k + i) ∷ []
one_place k zero T = let e : k ≡ k + 0 = omega arith in ap (λ n. n ∷ []) e
one_place k (suc i) T = let e : suc k + i ≡ k + suc i = omega arith in one_place (suc k) i T ∙ ap (λ n. n ∷ []) e

pub one_there : (es : List Entry) (e : Entry) (i : ℕ) (T : Ty) → es ≡ e ∷ [] → e.index ≡ i → i < 2 ^ 16 → (indices es ≡ places_from 0 (replicate i None ++ Some T ∷ [])) × AreLow es
one_there es e i T h at low =
    let z : i ≡ 0 + i = omega arith in
    (ap indices h ∙ ap (λ n. n ∷ []) (at ∙ z) ∙ sym (one_place 0 i T), subst AreLow (sym h) (subst (λ n. n < 2 ^ 16) (sym at) low, tt))

pub one_put : (k : Types) (l m : Lists) (v : Vec Entry Global) (x : Loose) (e : Entry) (i : ℕ) (T : Ty) → i < 2 ^ 16 → v.items ≡ e ∷ [] → e.index ≡ i
    → m.lists.items ≡ l.lists.items ++ v ∷ [] → x ≡ record { list = length l.lists.items; from = 0; lowered = 0 } → IsType k e.of T → StandFor
    (store k m) x (bound_index i T).loose
one_put k l m v x e i T low items index lists at typed =
    let o = one_there v.items e i T items index low in
    put_there l (store k m) v x (bound_index i T).loose lists at o.0 o.1 (subst (λ es. AreTypes k (types_of es) (types_there (bound_index i T).loose)) (sym items) (subst (AreTypes k (e.of ∷ [])) (sym (one_type i T)) (typed, tt)))

nothing_in : (es : List Entry) → has_none es ≡ true → es ≡ []
nothing_in [] h = refl
nothing_in (e ∷ es) h = absurd (cc)

-- a list has few entries
fewer : {A : Type 0} (n : ℕ) (xs : List A) → length (drop n xs) ≤ length xs
fewer zero xs = omega arith
fewer (suc n) [] = omega arith
fewer (suc n) (x ∷ xs) = let l = fewer n xs in omega (arith, l)

few_items : (o : Option (Vec Entry Global)) → length (items_of o) < 2 ^ 63
few_items None = omega arith
few_items (Some v) =
    let a = v.ok.0 in
    let b = v.ok.1 in
    let c = v.small in
    omega (arith, a, b, c)

few_entries : (l : Lists) (x : Loose) → length (entries_in l x) < 2 ^ 63
few_entries l x =
    let a = fewer x.from (items_of (slice_get l.lists.items x.list)) in
    let b = few_items (slice_get l.lists.items x.list) in
    omega (arith, a, b)

-- the merged entries, where there are some
pub merged_is : (l : Lists) (x y : Loose) (es fs : List Entry) (o : Option (Vec Entry Global)) (v : Vec Entry Global) → es ≡ entries_in l x → fs ≡ entries_in l y
    → option_map (λ (v : Vec Entry Global). v.items) o ≡ merge (min (length es + length fs) (2 ^ 64 - 1)) (map (lowered_by x.lowered) es) (map (lowered_by y.lowered) fs) → o ≡ Some v
    → merge (min (length (entries_in l x) + length (entries_in l y)) (2 ^ 64 - 1)) (seen_in l x) (seen_in l y) ≡ Some v.items
merged_is l x y es fs o v e f h is =
    sym (λ j. merge (min (length (e j) + length (f j)) (2 ^ 64 - 1)) (map (lowered_by x.lowered) (e j)) (map (lowered_by y.lowered) (f j))) ∙ sym h ∙ ap (option_map (λ (v : Vec Entry Global). v.items)) is

-- and where there are none
pub merged_none : (l : Lists) (x y : Loose) (es fs : List Entry) (o : Option (Vec Entry Global)) → es ≡ entries_in l x → fs ≡ entries_in l y
    → option_map (λ (v : Vec Entry Global). v.items) o ≡ merge (min (length es + length fs) (2 ^ 64 - 1)) (map (lowered_by x.lowered) es) (map (lowered_by y.lowered) fs) → o ≡ None
    → merge (min (length (entries_in l x) + length (entries_in l y)) (2 ^ 64 - 1)) (seen_in l x) (seen_in l y) ≡ None
merged_none l x y es fs o e f h is =
    sym (λ j. merge (min (length (e j) + length (f j)) (2 ^ 64 - 1)) (map (lowered_by x.lowered) (e j)) (map (lowered_by y.lowered) (f j))) ∙ sym h ∙ ap (option_map (λ (v : Vec Entry Global). v.items)) is

-- two lists are joined
module _ (k : Types) (l : Lists) (left right : Loose) (ts us : List (Option Ty)) (a : StandFor (store k l) left ts) (b : StandFor (store k l) right us) where
  abbrev here : Store
  here = store k l

  seen_left : IsSeen here left ts
  seen_left = a here (store_same here)

  seen_right : IsSeen here right us
  seen_right = b here (store_same here)

  pub closed_right : has_none (entries_in l right) ≡ true → AreJoined here ts us (Some left)
  closed_right e =
      let none = no_places here right us seen_right (nothing_in (entries_in l right) e) in
      let t = none_right_types 0 ts us none in
      (t.0, same_places here left ts (joined ts us) (none_right 0 ts us none) t.1 a)

  pub closed_left : has_none (entries_in l left) ≡ true → AreJoined here ts us (Some right)
  closed_left e =
      let none = no_places here left ts seen_left (nothing_in (entries_in l left) e) in
      let t = none_left_types 0 ts us none in
      (t.0, same_places here right us (joined ts us) (none_left 0 ts us none) t.1 b)

  abbrev steps : ℕ
  steps = min (length (entries_in l left) + length (entries_in l right)) (2 ^ 64 - 1)

  abbrev merges_to : Option (List Entry)
  merges_to = merge steps (seen_in l left) (seen_in l right)

  abbrev IsMerged : List Entry → Type 0
  IsMerged zs = merges_to ≡ Some zs

  enough : length (seen_in l left) + length (seen_in l right) ≤ steps
  enough =
      let a = length-map (entries_in l left) (lowered_by left.lowered) in
      let b = length-map (entries_in l right) (lowered_by right.lowered) in
      let c = few_entries l left in
      let d = few_entries l right in
      omega (arith, a, b, c, d)

  merged_types : Merges k merges_to (agree ts us) (types_there (joined ts us))
  merged_types = merge_types k steps 0 (seen_in l left) (seen_in l right) ts us (seen_places here left ts seen_left) (seen_places here right us seen_right) (seen_types here left ts seen_left) (seen_types here right us seen_right) enough

  pub has_clash : merges_to ≡ None → AreJoined here ts us None
  has_clash h = subst (λ o. Merges k o (agree ts us) (types_there (joined ts us))) h merged_types

  some_merged : (zs : List Entry) → IsMerged zs → (agree ts us ≡ true) × AreTypes k (types_of zs) (types_there (joined ts us))
  some_merged zs h = subst (λ o. Merges k o (agree ts us) (types_there (joined ts us))) h merged_types

  joined_places : (zs : List Entry) → IsMerged zs → indices zs ≡ places_from 0 (joined ts us)
  joined_places zs h = merge_places steps 0 (seen_in l left) (seen_in l right) zs ts us (seen_places here left ts seen_left) (seen_places here right us seen_right) enough h

  count_of : (x : Loose) (vs : List (Option Ty)) → IsSeen here x vs → length (places_from 0 vs) ≡ length (entries_in l x)
  count_of x vs s = ap length (sym (seen_places here x vs s)) ∙ length-map (seen_in l x) (λ (e : Entry). e.index) ∙ length-map (entries_in l x) (lowered_by x.lowered)

  joined_count : (zs : List Entry) → IsMerged zs → length (places_from 0 (joined ts us)) ≡ length zs
  joined_count zs h = ap length (sym (joined_places zs h)) ∙ length-map zs (λ (e : Entry). e.index)

  as_many_types : (vs : List (Option Ty)) → length (places_from 0 (joined ts us)) ≡ length (places_from 0 vs) → length (types_there (joined ts us)) ≡ length (types_there vs)
  as_many_types vs e = sym (types_count 0 (joined ts us)) ∙ e ∙ types_count 0 vs

  pub all_on_left : (zs : List Entry) → IsMerged zs → length zs ≡ length (entries_in l left) → AreJoined here ts us (Some left)
  all_on_left zs h e =
      let n = joined_count zs h ∙ e ∙ sym (count_of left ts seen_left) in
      ((some_merged zs h).0, same_places here left ts (joined ts us) (as_many_left 0 ts us n) (as_many_left_types ts us (as_many_types ts n)) a)

  pub all_on_right : (zs : List Entry) → IsMerged zs → length zs ≡ length (entries_in l right) → AreJoined here ts us (Some right)
  all_on_right zs h e =
      let n = joined_count zs h ∙ e ∙ sym (count_of right us seen_right) in
      let f = (some_merged zs h).0 in
      (f, same_places here right us (joined ts us) (as_many_right 0 ts us n) (as_many_right_types ts us f (as_many_types us n)) b)

  pub joined_put : (m : Lists) (v : Vec Entry Global) (x : Loose) → IsMerged v.items → m.lists.items ≡ l.lists.items ++ v ∷ [] → x ≡ record { list = length l.lists.items; from = 0; lowered = 0 } → AreJoined (store k m) ts us (Some x)
  joined_put m v x h e at = (
    (some_merged v.items h).0,
    put_there l (store k m) v x (joined ts us) e at (joined_places v.items h)
        (merge_low steps (seen_in l left) (seen_in l right) v.items (lowered_low left.lowered (entries_in l left) seen_left.1) (lowered_low right.lowered (entries_in l right) seen_right.1) h) (some_merged v.items h).1,
  )

-- the first entry
pub none_first : (es : List Entry) → is_none (slice_get es 0) ≡ has_none es
none_first [] = refl
none_first (e ∷ es) = refl

-- seen from outside
abbrev heads : List Entry → Option Entry
heads es = slice_get es 0

innermost_found : (n : ℕ) (es : List Entry) (ts : List (Option Ty)) → indices es ≡ map (λ p. p + n) (places_from 0 ts) → is_some (innermost_of n (heads es)) ≡ is_some (innermost ts)
innermost_found n [] [] h = refl
innermost_found n (e ∷ es) [] h = absurd (cc)
innermost_found n [] (None ∷ ts) h = refl
innermost_found n (e ∷ es) (None ∷ ts) h = past n e es ts (places_from 1 ts) (shifted 0 ts) h
  where
    past : (n : ℕ) (e : Entry) (es : List Entry) (ts : List (Option Ty)) (ps : List ℕ) → ps ≡ map suc (places_from 0 ts) → indices (e ∷ es) ≡ map (λ p. p + n) ps → is_some (innermost_of n (Some e)) ≡ false
    past n e es ts ps s h = by_places (places_from 0 ts) (h ∙ ap (map (λ p. p + n)) s)
      where
        by_places : (qs : List ℕ) → indices (e ∷ es) ≡ map (λ p. p + n) (map suc qs) → is_some (innermost_of n (Some e)) ≡ false
        by_places [] h = absurd (cc)
        by_places (q ∷ qs) h = let at = cons_head e.index (suc q + n) (indices es) (map (λ p. p + n) (map suc qs)) h in ap (λ b. is_some (if b then Some e.of else None)) (ne_eqb e.index n (λ z. omega (arith, at, z)))
innermost_found n [] (Some T ∷ ts) h = absurd (cc)
innermost_found n (e ∷ es) (Some T ∷ ts) h = let at = cons_head e.index (0 + n) (indices es) (map (λ p. p + n) (places_from 1 ts)) h in ap (λ b. is_some (if b then Some e.of else None)) (eq-eqb e.index n (omega (arith, at)))

pub innermost_seen : (l : Store) (x : Loose) (ts : List (Option Ty)) → StandFor l x ts → is_some (innermost_in l.lists x) ≡ is_some (innermost ts)
innermost_seen l x ts s = innermost_found x.lowered (entries_in l.lists x) ts (s l (store_same l)).0

innermost_type : (k : Types) (n : ℕ) (es : List Entry) (ts : List (Option Ty)) → indices es ≡ map (λ p. p + n) (places_from 0 ts) → AreTypes k (types_of es) (types_there ts) → is_some (innermost_of n (heads es)) ≡ is_some (innermost ts) → Agree (IsType k) (innermost_of n (heads es)) (innermost ts)
innermost_type k n [] [] h a e = tt
innermost_type k n (d ∷ es) [] h a e = absurd (cc)
innermost_type k n es (None ∷ ts) h a e = none_there (innermost_of n (heads es)) e
  where
    none_there : (o : Option TypeId) → is_some o ≡ false → Agree (IsType k) o None
    none_there None e = tt
    none_there (Some t) e = absurd (cc)
innermost_type k n [] (Some T ∷ ts) h a e = absurd (cc)
innermost_type k n (d ∷ es) (Some T ∷ ts) h a e = let at = cons_head d.index (0 + n) (indices es) (map (λ p. p + n) (places_from 1 ts)) h in subst (λ b. Agree (IsType k) (if b then Some d.of else None) (Some T)) (sym (eq-eqb d.index n (omega (arith, at)))) a.0

pub innermost_stands : (l : Store) (x : Loose) (ts : List (Option Ty)) → StandFor l x ts → Agree (IsType l.types) (innermost_in l.lists x) (innermost ts)
innermost_stands l x ts s = let q = s l (store_same l) in innermost_type l.types x.lowered (entries_in l.lists x) ts q.0 q.2 (innermost_seen l x ts s)

-- one lower
lower_more : (n m : ℕ) (es : List Entry) (qs : List ℕ) → (n + 1 < 2 ^ 32 → m ≡ n + 1) → AreLow es → indices es ≡ map (λ p. p + n) (map suc qs) → indices es ≡ map (λ p. p + m) qs
lower_more n m [] [] k low h = refl
lower_more n m [] (q ∷ qs) k low h = absurd (cc)
lower_more n m (e ∷ es) [] k low h = absurd (cc)
lower_more n m (e ∷ es) (q ∷ qs) k low h =
    let at : e.index ≡ suc q + n = cons_head e.index (suc q + n) (indices es) (map (λ p. p + n) (map suc qs)) h in
    let small : e.index < 2 ^ 16 = low.0 in
    let next : m ≡ n + 1 = k (omega (arith, at, small)) in
    let here : e.index ≡ q + m = omega (arith, at, next) in
    let rest = lower_more n m es qs k low.1 (cons_tail e.index (suc q + n) (indices es) (map (λ p. p + n) (map suc qs)) h) in
    λ j. here j ∷ rest j

drop_next : {A : Type 0} (n : ℕ) (xs : List A) (y : A) (ys : List A) → drop n xs ≡ y ∷ ys → drop (suc n) xs ≡ ys
drop_next zero [] y ys h = absurd (cc)
drop_next zero (x ∷ xs) y ys h = cons_tail x y xs ys h
drop_next (suc n) [] y ys h = absurd (cc)
drop_next (suc n) (x ∷ xs) y ys h = drop_next n xs y ys h

from_low : (o : Option (Vec Entry Global)) (n : ℕ) (e : Entry) (es : List Entry) → drop n (items_of o) ≡ e ∷ es → n < 2 ^ 63
from_low None n e es h = absurd (let z : [] ≡ e ∷ es = sym (drop-nil n) ∙ h in cc)
from_low (Some v) n e es h =
    let b : n < length v.items = below n v.items h in
    let k = v.ok.0 in
    let c = v.ok.1 in
    let s = v.small in
    omega (arith, b, k, c, s)
  where
    below : (n : ℕ) (xs : List Entry) → drop n xs ≡ e ∷ es → n < length xs
    below zero [] h = absurd (cc)
    below zero (x ∷ xs) h = omega arith
    below (suc n) [] h = absurd (cc)
    below (suc n) (x ∷ xs) h = let l = below n xs h in omega (arith, l)

-- what is seen from outside, where index 0 is not loose, and where it is
abbrev BehindOne : Loose → Loose → Type 0
BehindOne x y = (y.list ≡ x.list) × (x.lowered + 1 < 2 ^ 32 → y.lowered ≡ x.lowered + 1)

outer_seen : (m : Store) (x y : Loose) (ts : List (Option Ty)) → BehindOne x y → y.from ≡ (if is_some (innermost ts) then min (x.from + 1) (2 ^ 64 - 1) else x.from) → IsSeen m x ts → IsSeen m y (outer ts)
outer_seen m x y [] b f s =
    let same : entries_in m.lists y ≡ entries_in m.lists x = λ j. drop (f j) (items_of (slice_get m.lists.lists.items (b.0 j))) in
    nothing_seen m y [] (same ∙ no_indices (entries_in m.lists x) s.0) refl
  where
    no_indices : (es : List Entry) → indices es ≡ [] → es ≡ []
    no_indices [] h = refl
    no_indices (e ∷ es) h = absurd (cc)
outer_seen m x y (None ∷ ts) b f s =
    let same : entries_in m.lists y ≡ entries_in m.lists x = λ j. drop (f j) (items_of (slice_get m.lists.lists.items (b.0 j))) in
    let low : AreLow (entries_in m.lists y) = subst AreLow (sym same) s.1 in
    (lower_more x.lowered y.lowered (entries_in m.lists y) (places_from 0 ts) b.1 low (ap indices same ∙ s.0 ∙ ap (map (λ p. p + x.lowered)) (shifted 0 ts)), low, subst (λ es. AreTypes m.types (types_of es) (types_there ts)) (sym same) s.2)
outer_seen m x y (Some T ∷ ts) b f s = one_off (entries_in m.lists x) refl s.0 s.1 s.2
  where
    one_off : (es : List Entry) → entries_in m.lists x ≡ es → indices es ≡ map (λ p. p + x.lowered) (places_from 0 (Some T ∷ ts)) → AreLow es → AreTypes m.types (types_of es) (T ∷ types_there ts) → IsSeen m y ts
    one_off [] e h low typed = absurd (cc)
    one_off (d ∷ ds) e h low typed =
        let l = from_low (slice_get m.lists.lists.items x.list) x.from d ds e in
        let g : y.from ≡ suc x.from = f ∙ omega (arith, l) in
        let same : entries_in m.lists y ≡ ds = (λ j. drop (g j) (items_of (slice_get m.lists.lists.items (b.0 j)))) ∙ drop_next x.from (items_of (slice_get m.lists.lists.items x.list)) d ds e in
        let rest : indices ds ≡ map (λ p. p + x.lowered) (places_from 1 ts) = cons_tail d.index (0 + x.lowered) (indices ds) (map (λ p. p + x.lowered) (places_from 1 ts)) h in
        let behind = lower_more x.lowered y.lowered ds (places_from 0 ts) b.1 low.1 (rest ∙ ap (map (λ p. p + x.lowered)) (shifted 0 ts)) in
        (ap indices same ∙ behind, subst AreLow (sym same) low.1, subst (λ es. AreTypes m.types (types_of es) (types_there ts)) (sym same) typed.1)

pub stands_outside : (l : Store) (x y : Loose) (ts : List (Option Ty)) → y.list ≡ x.list → (x.lowered + 1 < 2 ^ 32 → y.lowered ≡ x.lowered + 1) → y.from ≡ (if is_some (innermost_in l.lists x) then min (x.from + 1) (2 ^ 64 - 1) else x.from) → StandFor l x ts → StandFor l y (outer ts)
stands_outside l x y ts list lowered from s = λ m g. outer_seen m x y ts (list, lowered) (from ∙ ap (λ b. if b then min (x.from + 1) (2 ^ 64 - 1) else x.from) (innermost_seen l x ts s)) (s m g)
