-- The arguments of a clause's head: marks, slots and pairs one argument further, as the definition takes the arguments one by one.
use Rattle.std.proofs.Common.{◌≡◌, ◌≢◌, ℕ, zero, suc, ◌+◌, ◌-◌, ◌<◌, ◌≤◌, List, [], ◌∷◌, ◌++◌, length, map, take, get_or, set, append_assoc, refl, sym, ap, ◌∙◌, subst as transport, arith, Bool, true, false, nat_eq, nat_lt, Option, Some, None, inl, inr, length-set}
use Rattle.std.specs.Prelude.{All, not, ◌&&◌, ◌||◌, if◌then◌else◌, OnOk, Result, Ok, Err}
use Rattle.std.proofs.lemmas.Bool.{cases_eq, eq-eqb, ne_eqb, ltb-true, ltb-false}
use Rattle.std.proofs.lemmas.List.Elements.{All-nil, All-push, All-head, All-tail}
use Rattle.std.proofs.lemmas.List.{length-append, take_more, append-nil, map-append, get_or_past, get_or-set_same, get_or-set_other}
use Rattle.lp_calculus.specs.Term.{Term, index, atom, abs, app, apply}
use Rattle.lp_calculus.specs.Normal.{is_absent}
use Rattle.lp_term.specs.Nodes.{Nodes, tree}
use Rattle.lp_term.specs.Spine.{LooseBelow}
use Rattle.lp_term.specs.declared.node.TermId.{TermId}
use Rattle.lp_model.specs.Search.{are_absent}
use Rattle.lp_plain.specs.declared.head.Place.{Place}
use Rattle.lp_plain.specs.declared.head.HeadPair.{HeadPair}
use Rattle.lp_plain.specs.Heads.{trees_of, is_index, slot_place, is_first, pair_places, pair_in, new_among, with_slot, with_pair, places_of, stands, MarksMore, AreAll, onto, IsDone}

-- tests
or_false : (a : Bool) → (a || false) ≡ a
or_false true = refl
or_false false = refl

or_true : (a : Bool) → (a || true) ≡ true
or_true true = refl
or_true false = refl

or_assoc : (a b c : Bool) → ((a || b) || c) ≡ (a || (b || c))
or_assoc true b c = refl
or_assoc false b c = refl

not_not : (a : Bool) → not (not a) ≡ a
not_not true = refl
not_not false = refl

and_false : (a : Bool) → (a && false) ≡ false
and_false true = refl
and_false false = refl

or_not : (a b : Bool) → (not a || not b) ≡ not (b && a)
or_not true true = refl
or_not true false = refl
or_not false true = refl
or_not false false = refl

not_both : (a c r : Bool) → (not a || (not c || r)) ≡ (not (a && c) || r)
not_both true c r = refl
not_both false c r = refl

not_is : (a b : Bool) → a ≡ not b → a ≡ true → b ≡ false
not_is a true e f = absurd (cc)
not_is a false e f = refl

not_isnt : (a b : Bool) → a ≡ not b → a ≡ false → b ≡ true
not_isnt a true e f = refl
not_isnt a false e f = absurd (cc)

-- marks

here : (m : List Bool) (j : ℕ) → get_or (set m j true) j true ≡ true
here [] j = refl
here (b ∷ bs) zero = refl
here (b ∷ bs) (suc j) = here bs j

set_get : (m : List Bool) (j k : ℕ) → get_or (set m j true) k true ≡ (get_or m k true || nat_eq j k)
set_get m j k = elim (cases_eq j k) [
  | inl same ↦ transport (λ x. get_or (set m j true) x true ≡ true) same (here m j) ∙ sym (or_true (get_or m k true)) ∙ ap (λ b. get_or m k true || b) (sym (eq-eqb j k same))
  | inr ne ↦ get_or-set_other m j k true true (λ e. ne (sym e)) ∙ sym (or_false (get_or m k true)) ∙ ap (λ b. get_or m k true || b) (sym (ne_eqb j k ne))
]

same_test : (i j k l : ℕ) → (i ≡ j → k ≡ l) → (k ≡ l → i ≡ j) → nat_eq i j ≡ nat_eq k l
same_test i j k l f g = elim (cases_eq i j) [
  | inl same ↦ eq-eqb i j same ∙ sym (eq-eqb k l (f same))
  | inr ne ↦ ne_eqb i j ne ∙ sym (ne_eqb k l (λ e. ne (g e)))
]

pub index_marked : (m n : List Bool) (i d : ℕ) → d ≤ i → n ≡ set m (i - d) true → (k : ℕ) → get_or n k true ≡ (get_or m k true || nat_eq i (k + d))
index_marked m n i d h e k =
    ap (λ l. get_or l k true) e ∙ set_get m (i - d) k ∙ ap (λ b. get_or m k true || b) (same_test (i - d) k i (k + d) (λ q. omega (arith, q, h)) (λ q. omega (arith, q, h)))

pub index_below : (m : List Bool) (i d : ℕ) → i < d → (k : ℕ) → get_or m k true ≡ (get_or m k true || nat_eq i (k + d))
index_below m i d h k = sym (or_false (get_or m k true)) ∙ ap (λ b. get_or m k true || b) (sym (ne_eqb i (k + d) (λ q. absurd (omega (arith, q, h)))))

pub count_set : (m n : List Bool) (i : ℕ) → n ≡ set m i true → length n ≡ length m
count_set m n i e = ap length e ∙ length-set m i true

-- places

stands_append : (b : Nodes) (k : ℕ) (ps qs : List Place) → stands b k (ps ++ qs) ≡ (stands b k ps || stands b k qs)
stands_append b k [] qs = refl
stands_append b k (p ∷ ps) qs =
    let n = not (is_absent (k + p.depth) (tree b p.term.0)) in
    ap (λ s. n || s) (stands_append b k ps qs) ∙ sym (or_assoc n (stands b k ps) (stands b k qs))

one_stands : (b : Nodes) (k : ℕ) (ps : List Place) (p : Place) → stands b k (ps ++ p ∷ []) ≡ (stands b k ps || not (is_absent (k + p.depth) (tree b p.term.0)))
one_stands b k ps p = stands_append b k ps (p ∷ []) ∙ ap (λ s. stands b k ps || s) (or_false (not (is_absent (k + p.depth) (tree b p.term.0))))

-- nothing is marked for what has no such index
pub nothing_marked : (b : Nodes) (m : List Bool) (k : ℕ) (ps : List Place) (p : Place) → is_absent (k + p.depth) (tree b p.term.0) ≡ true → (get_or m k true || stands b k ps) ≡ (get_or m k true || stands b k (ps ++ p ∷ []))
nothing_marked b m k ps p e =
    ap (λ s. get_or m k true || s) (sym (or_false (stands b k ps)) ∙ ap (λ a. stands b k ps || not a) (sym e) ∙ sym (one_stands b k ps p))

pub leaf_marked : (b : Nodes) (m : List Bool) (k : ℕ) (ps : List Place) (p : Place) (T : Term) → T ≡ tree b p.term.0 → is_absent (k + p.depth) T ≡ true →
    (get_or m k true || stands b k ps) ≡ (get_or m k true || stands b k (ps ++ p ∷ []))
leaf_marked b m k ps p T q e = nothing_marked b m k ps p (ap (is_absent (k + p.depth)) (sym q) ∙ e)

pub absent_below : (n e d : ℕ) (t : Term) → e + n ≤ d → LooseBelow n e t → is_absent d t ≡ true
absent_below n e d (index i) q l = ap not (ne_eqb i d (λ r. absurd (omega (arith, q, l, r))))
absent_below n e d (atom a) q l = refl
absent_below n e d (abs b) q l = absent_below n (suc e) (suc d) b (omega (arith, q)) l
absent_below n e d (app t u) q l = ap (λ c. c && is_absent d u) (absent_below n e d t q l.0) ∙ absent_below n e d u q l.1

pub below_marked : (b : Nodes) (m : List Bool) (k : ℕ) (ps : List Place) (p : Place) → LooseBelow p.depth 0 (tree b p.term.0) → (get_or m k true || stands b k ps) ≡ (get_or m k true || stands b k (ps ++ p ∷ []))
below_marked b m k ps p l = nothing_marked b m k ps p (absent_below p.depth 0 (k + p.depth) (tree b p.term.0) (omega arith) l)

three : (o n s : Bool) → ((o || n) || s) ≡ (o || (s || n))
three true n s = refl
three false true true = refl
three false true false = refl
three false false true = refl
three false false false = refl

pub index_stands : (b : Nodes) (m n : List Bool) (i : ℕ) (ps : List Place) (p : Place) → index i ≡ tree b p.term.0 → ((k : ℕ) → get_or n k true ≡ (get_or m k true || nat_eq i (k + p.depth))) →
    (k : ℕ) → (get_or n k true || stands b k ps) ≡ (get_or m k true || stands b k (ps ++ p ∷ []))
index_stands b m n i ps p e f k =
    let x = nat_eq i (k + p.depth) in
    ap (λ a. a || stands b k ps) (f k) ∙ three (get_or m k true) x (stands b k ps) ∙
    ap (λ a. get_or m k true || (stands b k ps || a)) (sym (not_not x) ∙ ap (λ t. not (is_absent (k + p.depth) t)) e) ∙ ap (λ s. get_or m k true || s) (sym (one_stands b k ps p))

pub body_stands : (b : Nodes) (m : List Bool) (body : TermId) (ps qs : List Place) (p : Place) → abs (tree b body.0) ≡ tree b p.term.0 → qs ≡ ps ++ record { term = body; depth = p.depth + 1 } ∷ [] →
    (k : ℕ) → (get_or m k true || stands b k qs) ≡ (get_or m k true || stands b k (ps ++ p ∷ []))
body_stands b m body ps qs p e f k =
    let s : k + (p.depth + 1) ≡ suc (k + p.depth) = omega arith in
    ap (λ s. get_or m k true || s)
    (ap (stands b k) f ∙ one_stands b k ps (record { term = body; depth = p.depth + 1 }) ∙
    ap (λ a. stands b k ps || not a) (ap (λ d. is_absent d (tree b body.0)) s ∙ ap (is_absent (k + p.depth)) e) ∙ sym (one_stands b k ps p))

stands_apply : (b : Nodes) (k d : ℕ) (T : Term) (ts : List TermId) → (not (is_absent (k + d) T) || stands b k (places_of d ts)) ≡ not (is_absent (k + d) (apply T (map (tree b) (map (λ t. t.0) ts))))
stands_apply b k d T [] = or_false (not (is_absent (k + d) T))
stands_apply b k d T (t ∷ ts) = not_both (is_absent (k + d) T) (is_absent (k + d) (tree b t.0)) (stands b k (places_of d ts)) ∙ stands_apply b k d (app T (tree b t.0)) ts

pub parts_stand : (b : Nodes) (m : List Bool) (head : TermId) (args : List TermId) (ps qs : List Place) (p : Place) → apply (tree b head.0) (map (tree b) (map (λ t. t.0) args)) ≡ tree b p.term.0 →
    qs ≡ ps ++ places_of p.depth (head ∷ args) → (k : ℕ) → (get_or m k true || stands b k qs) ≡ (get_or m k true || stands b k (ps ++ p ∷ []))
parts_stand b m head args ps qs p e f k =
    ap (λ s. get_or m k true || s)
    (ap (stands b k) f ∙ stands_append b k ps (places_of p.depth (head ∷ args)) ∙
    ap (λ a. stands b k ps || a) (stands_apply b k p.depth (tree b head.0) args ∙ ap (λ t. not (is_absent (k + p.depth) t)) e) ∙ sym (one_stands b k ps p))

pub on_ok : {T E : Type 0} (r : Result T E) (P Q : Type 0) → (P → Q) → OnOk r P → OnOk r Q
on_ok (Ok x) P Q f h = f h
on_ok (Err e) P Q f h = h

-- the walk
pub empty : (ps : List Place) → length ps ≡ 0 → ps ≡ []
empty [] e = refl
empty (p ∷ ps) e = absurd (omega (arith, e))

pub walk_begins : (b : Nodes) (m : List Bool) (t : TermId) (ps qs : List Place) → ps ≡ [] → qs ≡ ps ++ record { term = t; depth = 0 } ∷ [] → (k : ℕ) →
    (get_or m k true || stands b k qs) ≡ (get_or m k true || not (is_absent k (tree b t.0)))
walk_begins b m t ps qs e f k =
    let z : k + 0 ≡ k = omega arith in
    ap (λ s. get_or m k true || s)
    (ap (stands b k) (f ∙ ap (λ l. l ++ record { term = t; depth = 0 } ∷ []) e) ∙ or_false (not (is_absent (k + 0) (tree b t.0))) ∙ ap (λ d. not (is_absent d (tree b t.0))) z)

pub walk_goes_on : (b : Nodes) (n m : List Bool) (all ps qs : List Place) (p : Place) (k : ℕ) (r : Bool) → all ≡ ps ++ p ∷ [] → (get_or n k true || stands b k qs) ≡ (get_or m k true || stands b k (ps ++ p ∷ [])) →
    (get_or m k true || stands b k all) ≡ r → (get_or n k true || stands b k qs) ≡ r
walk_goes_on b n m all ps qs p k r e f g = f ∙ ap (λ l. get_or m k true || stands b k l) (sym e) ∙ g

pub walk_ends : (b : Nodes) (o n : List Bool) (ps : List Place) (t : Term) → length n ≡ length o → ps ≡ [] → ((k : ℕ) → (get_or n k true || stands b k ps) ≡ (get_or o k true || not (is_absent k t))) → MarksMore o n t
walk_ends b o n ps t c e f = (c, λ k. sym (or_false (get_or n k true)) ∙ ap (λ l. get_or n k true || stands b k l) (sym e) ∙ f k)

-- the variable that an argument is

none_applied : (seen : List Bool) (t u : Term) (ts : List Term) → None ≡ new_among seen (apply (app t u) ts)
none_applied seen t u [] = refl
none_applied seen t u (a ∷ ts) = none_applied seen (app t u) a ts

pub new_applied : (b : Nodes) (seen : List Bool) (t : Term) (ids : List ℕ) (T : Term) → ids ≢ [] → apply t (map (tree b) ids) ≡ T → None ≡ new_among seen T
new_applied b seen t [] T ne e = absurd (ne refl)
new_applied b seen t (i ∷ ids) T ne e = none_applied seen t (tree b i) (map (tree b) ids) ∙ ap (new_among seen) e

some_same : (i v : ℕ) → Some v ≡ Some i → i ≡ v
some_same i v e = cc

new_is : (seen : List Bool) (t : Term) (v : ℕ) → Some v ≡ new_among seen t → t ≡ index v
new_is seen (index i) v e = go (get_or seen i true) e where
  go : (b : Bool) → Some v ≡ (if b then None else Some i) → index i ≡ index v
  go true e = absurd (cc)
  go false e = ap index (some_same i v e)
new_is seen (atom a) v e = absurd (cc)
new_is seen (abs b) v e = absurd (cc)
new_is seen (app t u) v e = absurd (cc)

pub variable_marked : (m n : List Bool) (t : Term) (v : ℕ) → Some v ≡ new_among m t → n ≡ set m v true → MarksMore m n t
variable_marked m n t v s e =
    let q = new_is m t v s in (
      ap length e ∙ length-set m v true,
      λ k. ap (λ l. get_or l k true) e ∙ set_get m v k ∙ ap (λ b. get_or m k true || b) (sym (not_not (nat_eq v k)) ∙ ap (λ x. not (is_absent k x)) (sym q)),
    )

-- one argument more

onto_push : (hs e : List Term) (x : Term) → onto (hs ++ x ∷ []) e ≡ x ∷ onto hs e
onto_push [] e x = refl
onto_push (h ∷ hs) e x = onto_push hs (h ∷ e) x

absent_onto : (k : ℕ) (hs e : List Term) → are_absent k e ≡ false → are_absent k (onto hs e) ≡ false
absent_onto k [] e f = f
absent_onto k (h ∷ hs) e f = absent_onto k hs (h ∷ e) (ap (λ a. is_absent k h && a) f ∙ and_false (is_absent k h))

found_absent : (k : ℕ) (h : Term) (a : Bool) → (is_index k h && a) ≡ true → is_absent k h ≡ false
found_absent k (index i) a e = go (nat_eq i k) a e where
  go : (t a : Bool) → (t && a) ≡ true → not t ≡ false
  go true a e = refl
  go false a e = absurd (cc)
found_absent k (atom x) a e = absurd (cc)
found_absent k (abs b) a e = absurd (cc)
found_absent k (app t u) a e = absurd (cc)

slot_snoc : (k p q : ℕ) (e hs : List Term) (x : Term) → q ≡ p + length hs → slot_place k p e (hs ++ x ∷ []) ≡ (if is_index k x && are_absent k (onto hs e) then Some q else slot_place k p e hs)
slot_snoc k p q e [] x l = let z : p ≡ q = omega (arith, l) in ap (λ n. if is_index k x && are_absent k e then Some n else None) z
slot_snoc k p q e (h ∷ hs) x l = go (is_index k h && are_absent k e) refl (slot_snoc k (suc p) q (h ∷ e) hs x (omega (arith, l))) where
  go : (t : Bool) → (is_index k h && are_absent k e) ≡ t → slot_place k (suc p) (h ∷ e) (hs ++ x ∷ []) ≡ (if is_index k x && are_absent k (onto hs (h ∷ e)) then Some q else slot_place k (suc p) (h ∷ e) hs) →
      (if t then Some p else slot_place k (suc p) (h ∷ e) (hs ++ x ∷ [])) ≡ (if is_index k x && are_absent k (onto hs (h ∷ e)) then Some q else (if t then Some p else slot_place k (suc p) (h ∷ e) hs))
  go true f g =
      let n : are_absent k (onto hs (h ∷ e)) ≡ false = absent_onto k hs (h ∷ e) (ap (λ a. a && are_absent k e) (found_absent k h (are_absent k e) f)) in
      ap (λ a. if a then Some q else Some p) (sym (and_false (is_index k x)) ∙ ap (λ a. is_index k x && a) (sym n))
  go false f g = g

pair_snoc : (n p q : ℕ) (e hs : List Term) (x : Term) → q ≡ p + length hs → pair_places n p e (hs ++ x ∷ []) ≡ pair_places n p e hs ++ (if is_first n x (onto hs e) then [] else (q, x) ∷ [])
pair_snoc n p q e [] x l =
    let z : p ≡ q = omega (arith, l) in
    append-nil (if is_first n x e then [] else (p, x) ∷ []) ∙ ap (λ m. if is_first n x e then [] else (m, x) ∷ []) z
pair_snoc n p q e (h ∷ hs) x l =
    let front = if is_first n h e then [] else (p, h) ∷ [] in
    ap (λ r. front ++ r) (pair_snoc n (suc p) q (h ∷ e) hs x (omega (arith, l))) ∙ sym (append_assoc front (pair_places n (suc p) (h ∷ e) hs) (if is_first n x (onto hs (h ∷ e)) then [] else (q, x) ∷ []))

abbrev pub pair_of : Option ℕ → ℕ → Term → List (ℕ × Term)
pair_of None p x = (p, x) ∷ []
pair_of (Some v) p x = []

slot_step : (seen : List Bool) (slots : List (Option ℕ)) (A : ℕ → Bool) (x : Term) (p k : ℕ) → length slots ≡ length seen → k < length seen → ((j : ℕ) → j < length seen → get_or seen j true ≡ not (A j)) →
    get_or (with_slot (new_among seen x) p slots) k None ≡ (if is_index k x && A k then Some p else get_or slots k None)
slot_step seen slots A (index v) p k c l m = go (get_or seen v true) refl where
  go : (b : Bool) → get_or seen v true ≡ b → get_or (with_slot (if b then None else Some v) p slots) k None ≡ (if nat_eq v k && A k then Some p else get_or slots k None)
  go true f = elim (cases_eq v k) [
    | inl same ↦
        let a : A k ≡ false = not_is (get_or seen k true) (A k) (m k l) (ap (λ i. get_or seen i true) (sym same) ∙ f) in
        ap (λ t. if t then Some p else get_or slots k None) (sym (and_false (nat_eq v k)) ∙ ap (λ t. nat_eq v k && t) (sym a))
    | inr ne ↦ ap (λ t. if t && A k then Some p else get_or slots k None) (sym (ne_eqb v k ne))
  ]
  go false f = elim (cases_eq v k) [
    | inl same ↦
        let a : A k ≡ true = not_isnt (get_or seen k true) (A k) (m k l) (ap (λ i. get_or seen i true) (sym same) ∙ f) in
        let s : get_or (set slots v (Some p)) k None ≡ Some p = transport (λ i. get_or (set slots v (Some p)) i None ≡ Some p) same (get_or-set_same slots v (Some p) None (omega (arith, same, l, c))) in
        s ∙ (λ i. if sym (eq-eqb v k same) i && sym a i then Some p else get_or slots k None)
    | inr ne ↦ get_or-set_other slots v k (Some p) None (λ e. ne (sym e)) ∙ ap (λ t. if t && A k then Some p else get_or slots k None) (sym (ne_eqb v k ne))
  ]
slot_step seen slots A (atom a) p k c l m = refl
slot_step seen slots A (abs b) p k c l m = refl
slot_step seen slots A (app t u) p k c l m = refl

pair_step : (n : ℕ) (seen : List Bool) (E : List Term) (x : Term) (p : ℕ) → length seen ≡ n → ((j : ℕ) → j < n → get_or seen j true ≡ not (are_absent j E)) → pair_of (new_among seen x) p x ≡ (if is_first n x E then [] else (p, x) ∷ [])
pair_step n seen E (index v) p c m = go (nat_lt v n) (get_or seen v true) refl refl where
  go : (t b : Bool) → nat_lt v n ≡ t → get_or seen v true ≡ b → pair_of (if b then None else Some v) p (index v) ≡ (if t && are_absent v E then [] else (p, index v) ∷ [])
  go true true f g = ap (λ a. if a then [] else (p, index v) ∷ []) (sym (not_is (get_or seen v true) (are_absent v E) (m v (ltb-true v n f)) g))
  go true false f g = ap (λ a. if a then [] else (p, index v) ∷ []) (sym (not_isnt (get_or seen v true) (are_absent v E) (m v (ltb-true v n f)) g))
  go false true f g = refl
  go false false f g = let h = ltb-false v n f in let d : get_or seen v true ≡ true = get_or_past seen v true (omega (arith, h, c)) in absurd (cc)
pair_step n seen E (atom a) p c m = refl
pair_step n seen E (abs b) p c m = refl
pair_step n seen E (app t u) p c m = refl

slot_count : (o : Option ℕ) (p : ℕ) (slots : List (Option ℕ)) → length (with_slot o p slots) ≡ length slots
slot_count None p slots = refl
slot_count (Some v) p slots = length-set slots v (Some p)

done_more : (n : ℕ) (E : List Term) (seen more : List Bool) (slots slots' : List (Option ℕ)) (pairs pairs' : List (ℕ × Term)) (x : Term) (p : ℕ) → p ≡ length E → IsDone n E seen slots pairs → MarksMore seen more x →
    slots' ≡ with_slot (new_among seen x) p slots → pairs' ≡ pairs ++ pair_of (new_among seen x) p x → IsDone n (E ++ x ∷ []) more slots' pairs'
done_more n E seen more slots slots' pairs pairs' x p l D M e f =
    let c = D.count in
    let q : p ≡ 0 + length E = omega (arith, l) in record {
      count = M.0 ∙ c;
      slot_count = ap length e ∙ slot_count (new_among seen x) p slots ∙ D.slot_count;
      marks = λ k h.
          M.1 k ∙ ap (λ b. b || not (is_absent k x)) (D.marks k h) ∙ or_not (are_absent k (onto E [])) (is_absent k x) ∙ ap (λ l. not (are_absent k l)) (sym (onto_push E [] x));
      slots_are = λ k h.
          ap (λ s. get_or s k None) e ∙ slot_step seen slots (λ j. are_absent j (onto E [])) x p k (D.slot_count ∙ sym c) (omega (arith, h, c)) (λ j i. D.marks j (omega (arith, i, c))) ∙
          ap (λ o. if is_index k x && are_absent k (onto E []) then Some p else o) (D.slots_are k h) ∙ sym (slot_snoc k 0 p [] E x q);
      pairs_are = f ∙ (λ i. D.pairs_are i ++ pair_step n seen (onto E []) x p c D.marks i) ∙ sym (pair_snoc n 0 p [] E x q);
    }

-- the list of arguments

pairs_of : (b : Nodes) (o : Option ℕ) (p : ℕ) (t : TermId) → map (pair_in b) (with_pair o p t) ≡ pair_of o p (tree b t.0)
pairs_of b None p t = refl
pairs_of b (Some v) p t = refl

pub arg_done : (b : Nodes) (n : ℕ) (args : List TermId) (seen more : List Bool) (slots slots' : List (Option ℕ)) (pairs pairs' : List HeadPair) (place : ℕ) (t : TermId) → place < length args → t ≡ get_or args place t →
    IsDone n (trees_of b (take place args)) seen slots (map (pair_in b) pairs) → MarksMore seen more (tree b t.0) → slots' ≡ with_slot (new_among seen (tree b t.0)) place slots →
    pairs' ≡ pairs ++ with_pair (new_among seen (tree b t.0)) place t → IsDone n (trees_of b (take (place + 1) args)) more slots' (map (pair_in b) pairs')
arg_done b n args seen more slots slots' pairs pairs' place t l r D M e f =
    let x = tree b t.0 in
    let g : trees_of b (take (place + 1) args) ≡ trees_of b (take place args) ++ x ∷ [] =
    ap (trees_of b) (take_more args place t l) ∙ map-append (λ t. tree b t.0) (take place args) (get_or args place t ∷ []) ∙ ap (λ y. trees_of b (take place args) ++ tree b y.0 ∷ []) (sym r) in
    transport (λ E. IsDone n E more slots' (map (pair_in b) pairs')) (sym g)
    (done_more n (trees_of b (take place args)) seen more slots slots' (map (pair_in b) pairs) (map (pair_in b) pairs') x place (taken b args place l) D M e
    (ap (map (pair_in b)) f ∙ map-append (pair_in b) pairs (with_pair (new_among seen x) place t) ∙ ap (λ y. map (pair_in b) pairs ++ y) (pairs_of b (new_among seen x) place t)))
  where
    taken : (b : Nodes) (ids : List TermId) (i : ℕ) → i < length ids → i ≡ length (trees_of b (take i ids))
    taken b [] i h = absurd (omega (arith, h))
    taken b (x ∷ xs) zero h = refl
    taken b (x ∷ xs) (suc i) h = ap suc (taken b xs i (omega (arith, h)))

-- the start
pub all_push : {A : Type 0} (x y : A) (xs : List A) → y ≡ x → AreAll x xs → AreAll x (xs ++ y ∷ [])
all_push x y [] e h = (e, tt)
all_push x y (z ∷ xs) e h = (h.0, all_push x y xs e h.1)

all_get : {A : Type 0} (x d : A) (xs : List A) (k : ℕ) → AreAll x xs → k < length xs → get_or xs k d ≡ x
all_get x d [] k h l = absurd (omega (arith, l))
all_get x d (y ∷ xs) zero h l = h.0
all_get x d (y ∷ xs) (suc k) h l = all_get x d xs k h.1 (omega (arith, l))

pub none_done : (n : ℕ) (seen : List Bool) (slots : List (Option ℕ)) (pairs : List (ℕ × Term)) → AreAll false seen → length seen ≡ n → AreAll None slots → length slots ≡ n → pairs ≡ [] → IsDone n [] seen slots pairs
none_done n seen slots pairs a c s d e = record {
  count = c;
  slot_count = d;
  marks = λ k h. all_get false true seen k a (omega (arith, h, c));
  slots_are = λ k h. all_get None None slots k s (omega (arith, h, d));
  pairs_are = e;
}

pub filled_more : {A : Type 0} (x : A) (xs ys : List A) (n : ℕ) → ys ≡ xs ++ x ∷ [] → AreAll x xs → length xs ≡ n → AreAll x ys × (length ys ≡ n + 1)
filled_more x xs ys n e a l = (transport (AreAll x) (sym e) (all_push x x xs refl a), ap length e ∙ length-append xs (x ∷ []) ∙ ap (λ m. m + 1) l)

-- each pair stands in the bank
pub none_known : (n : ℕ) (ps : List HeadPair) → ps ≡ [] → All (λ p. p.term.0 < n) ps
none_known n ps e = transport (All (λ p. p.term.0 < n)) (sym e) (All-nil (λ p. p.term.0 < n))

pub known_more : (n : ℕ) (o : Option ℕ) (place : ℕ) (t : TermId) (ps qs : List HeadPair) → qs ≡ ps ++ with_pair o place t → t.0 < n → All (λ p. p.term.0 < n) ps → All (λ p. p.term.0 < n) qs
known_more n None place t ps qs e k a = transport (All (λ p. p.term.0 < n)) (sym e) (All-push (λ p. p.term.0 < n) ps (record { place = place; term = t }) a k)
known_more n (Some v) place t ps qs e k a = transport (All (λ p. p.term.0 < n)) (sym (e ∙ append-nil ps)) a

pub term_at_place : (n : ℕ) (xs : List TermId) (i : ℕ) (d : TermId) → i < length xs → All (λ t. t.0 < n) xs → (get_or xs i d).0 < n
term_at_place n [] i d h a = absurd (omega (arith, h))
term_at_place n (x ∷ xs) zero d h a = All-head (λ (t : TermId). t.0 < n) x xs a
term_at_place n (x ∷ xs) (suc i) d h a = term_at_place n xs i d (omega (arith, h)) (All-tail (λ (t : TermId). t.0 < n) x xs a)

pub read_at : (xs : List TermId) (i : ℕ) (d : TermId) → i < length xs → get_or xs i d ≡ get_or xs i (get_or xs i d)
read_at [] i d h = absurd (omega (arith, h))
read_at (x ∷ xs) zero d h = refl
read_at (x ∷ xs) (suc i) d h = read_at xs i d (omega (arith, h))
