-- Objects that are read in order: one step more at the end of an order, what is left of the uses of those that wait, and what all that were read have.
use Rattle.std.specs.Global.{Global}
use Rattle.std.proofs.Common.{◌≡◌, ◌∙◌, ◌++◌, ◌∷◌, [], ◌+◌, ◌<◌, ◌≤◌, ℕ, suc, Bool, true, false, if◌then◌else◌, List, Option, None, Some, length, get_or, inl, inr, ap, refl, sym, subst, arith}
use Rattle.std.specs.Prelude.{All, Contains, Vec, drop, map, slice_get, option_map, is_some, nat_lt}
use Rattle.std.proofs.lemmas.Bool.{ltb-false}
use Rattle.std.proofs.lemmas.List.{append_assoc, drop-map, drop_all, get_or_append_left, length_push}
use Rattle.std.proofs.lemmas.List.Elements.{All-nil, All-append, All-head, All-push, All-tail, All-weaker, Contains-get_or}
use Rattle.std.proofs.Math.Seq.{drop-cons}
use Rattle.std.specs.Str.{bytes_eq}
use Rattle.std.proofs.lemmas.Option.{get_or_from_slice_get, slice_get-get_or, slice_get-map, slice_get_past, slice_get_within}
use Rattle.lp_lemmas.proofs.Booleans.{bytes_eq_self, bytes_eq_true}
use Rattle.lp_lemmas.proofs.Elements.{All_pushed}
use Rattle.lp_lemmas.proofs.Lists.{map_pushed}
use Rattle.lp_lemmas.proofs.Options.{option_map_none, some_from_is_some, none_from_is_some}
use Rattle.lp_places.specs.Places.{first_place}
use Rattle.lp_code.specs.declared.object.Object.{Object}
use Rattle.lp_link.specs.Uses.{names_of}
use Rattle.lp_files.specs.Ordered.{HasName, Reads, is_read, is_there, reads_none, uses_of}
use Rattle.lp_files.specs.inner.Objects.{AreSkipped, AreThere, IsNext, IsUnread, left_behind, left_of, names_by, names_from}

-- the order, with one more step at its end

passed : {before all : List Object} {n : List ℕ} {needs left : List (List ℕ)} → Reads before needs all (n ∷ left) → HasName all n → Reads before needs all left
passed reads_none h = is_there h reads_none
passed (is_there old rest) h = is_there old (passed rest h)
passed (is_read o new is rest) h = is_read o new is (passed rest h)

pub one_more : {before all : List Object} {n : List ℕ} {needs left : List (List ℕ)} (o : Object) → Reads before needs all (n ∷ left) → (HasName all n → ⊥) → o.name.items ≡ n → Reads before needs (all ++ o ∷ []) (uses_of o ++ left)
one_more o reads_none new is = is_read o new is reads_none
one_more o (is_there old rest) new is = is_there old (one_more o rest new is)
one_more o (is_read p first so rest) new is = is_read p first so (one_more o rest new is)

all_passed : {before all : List Object} {needs : List (List ℕ)} (first left : List (List ℕ)) → Reads before needs all (first ++ left) → All (HasName all) first → Reads before needs all left
all_passed [] left r h = r
all_passed {all = all} (n ∷ first) left r h = all_passed first left (passed r (All-head (HasName all) n first h)) (All-tail (HasName all) n first h)

-- what is left behind names that have their objects
pub skipped : {before all : List Object} {needs here left : List (List ℕ)} → Reads before needs all here → AreSkipped all here left → Reads before needs all left
skipped {before = before} {all = all} {needs = needs} {left = left} r (first, is, have) = all_passed first left (subst (Reads before needs all) is r) have

none_skipped : (os : List Object) (needs : List (List ℕ)) → AreSkipped os needs needs
none_skipped os needs = ([], refl, All-nil (HasName os))

then_skipped : (os : List Object) (a b c : List (List ℕ)) → AreSkipped os a b → AreSkipped os b c → AreSkipped os a c
then_skipped os a b c (f, e, h) (g, d, k) = (f ++ g, e ∙ ap (λ l. f ++ l) d ∙ sym (append_assoc f g c), All-append (HasName os) f g h k)

skipped_before : (os : List Object) (a b rest : List (List ℕ)) → AreSkipped os a b → AreSkipped os (a ++ rest) (b ++ rest)
skipped_before os a b rest (f, e, h) = (f, ap (λ l. l ++ rest) e ∙ append_assoc f b rest, h)

one_skipped : (os : List Object) (n : List ℕ) (a left : List (List ℕ)) → AreSkipped os a (n ∷ left) → HasName os n → AreSkipped os a left
one_skipped os n a left (f, e, h) has = (f ++ n ∷ [], e ∙ sym (append_assoc f (n ∷ []) left), All-push (HasName os) f n h has)

-- names with their places

pub names_pushed : (os new : List Object) (o : Object) (slice : List ℕ) → new ≡ os ++ o ∷ [] → slice ≡ o.name.items → names_of os ++ slice ∷ [] ≡ names_of new
names_pushed os new o slice e s = ap (λ n. names_of os ++ n ∷ []) s ∙ sym (map_pushed (λ (o : Object). o.name.items) os new o e)

-- a name that has a place
place_named : (name : List ℕ) (os : List Object) (i : ℕ) → first_place name (names_of os) ≡ Some i → HasName os name
place_named name [] i e = absurd (cc)
place_named name (o ∷ os) i e = by (bytes_eq name o.name.items) refl (place_named name os) e
  where
    by : (b : Bool) → bytes_eq name o.name.items ≡ b → ((j : ℕ) → first_place name (names_of os) ≡ Some j → HasName os name)
        → (if b then Some 0 else option_map (λ i. suc i) (first_place name (names_of os))) ≡ Some i → HasName (o ∷ os) name
    by true q go h = inl (sym (bytes_eq_true name o.name.items q))
    by false q go h = inr (behind (first_place name (names_of os)) refl h)
      where
        behind : (p : Option ℕ) → first_place name (names_of os) ≡ p → option_map (λ i. suc i) p ≡ Some i → HasName os name
        behind None f x = absurd (cc)
        behind (Some j) f x = go j f

-- a name without a place
not_named : (name : List ℕ) (os : List Object) → first_place name (names_of os) ≡ None → HasName os name → ⊥
not_named name [] e h = h
not_named name (o ∷ os) e h = by (bytes_eq name o.name.items) refl (not_named name os) e h
  where
    by : (b : Bool) → bytes_eq name o.name.items ≡ b → (first_place name (names_of os) ≡ None → HasName os name → ⊥)
        → (if b then Some 0 else option_map (λ i. suc i) (first_place name (names_of os))) ≡ None → HasName (o ∷ os) name → ⊥
    by true q go x k = absurd (cc)
    by false q go x (inl same) = absurd (let z : true ≡ false = sym (ap (bytes_eq name) same ∙ bytes_eq_self name) ∙ q in cc)
    by false q go x (inr k) = go (option_map_none (λ i. suc i) (first_place name (names_of os)) x) k

-- the name of a use has a place
pub place_is : (p : Option ℕ) (q r : Option ℕ) → is_some p ≡ true → p ≡ q → q ≡ r → (j : ℕ) × (r ≡ Some j)
place_is p q r some e f = let (j, is) = some_from_is_some p some in (j, sym (e ∙ f) ∙ is)

-- it has none
pub no_place_is : (p : Option ℕ) (q r : Option ℕ) → is_some p ≡ false → p ≡ q → q ≡ r → r ≡ None
no_place_is p q r none e f = sym f ∙ sym e ∙ none_from_is_some p none

-- the uses of one object

pub member_there : {A : Type 0} (os slice : List A) (user : ℕ) (o : A) → slice ≡ os → user < length slice → o ≡ get_or slice user o → slice_get os user ≡ Some o
member_there os slice user o same l is = ap (λ l. slice_get l user) (sym same) ∙ slice_get-get_or slice user o l ∙ ap Some (sym is)

-- the next use
use_of : (os : List Object) (user at : ℕ) (o : Object) (u : Vec ℕ Global) → slice_get os user ≡ Some o → at < length o.uses.items → u ≡ get_or o.uses.items at u → names_from os user at ≡ u.items ∷ names_from os user (at + 1)
use_of os user at o u there l is =
    let items : Vec ℕ Global → List ℕ = λ (v : Vec ℕ Global). v.items in
    let from : (k : ℕ) → names_from os user k ≡ map items (drop k o.uses.items) = λ k. ap (λ x. drop k (names_by x)) there ∙ drop-map items k o.uses.items in
    from at ∙ ap (map items) (drop-cons o.uses.items at u l) ∙ ap (λ (v : Vec ℕ Global). v.items ∷ map items (drop (suc at) o.uses.items)) (sym is)
    ∙ ap (λ l. u.items ∷ l) (sym (from (suc at))) ∙ ap (λ k. u.items ∷ names_from os user k) (let e : suc at ≡ at + 1 = omega arith in e)

pub use_skipped : (os : List Object) (user place at j : ℕ) (o : Object) (u : Vec ℕ Global) → slice_get os user ≡ Some o → at < length o.uses.items → u ≡ get_or o.uses.items at u →
    first_place u.items (names_of os) ≡ Some j → AreSkipped os (names_from os user place) (names_from os user at) → AreSkipped os (names_from os user place) (names_from os user (at + 1))
use_skipped os user place at j o u there l is found h =
    one_skipped os u.items (names_from os user place) (names_from os user (at + 1)) (subst (AreSkipped os (names_from os user place)) (use_of os user at o u there l is) h) (place_named u.items os j found)

pub uses_begin : (os : List Object) (user place : ℕ) → AreSkipped os (names_from os user place) (names_from os user place)
uses_begin os user place = none_skipped os (names_from os user place)

pub no_object : (os slice : List Object) (user place : ℕ) → slice ≡ os → false ≡ nat_lt user (length slice) → IsUnread os user place None
no_object os slice user place same e =
    let none = ap (λ l. slice_get l user) (sym same) ∙ slice_get_past slice user (ltb-false user (length slice) (sym e)) in
    ([], ap (λ x. drop place (names_by x)) none ∙ drop_all place [] (omega arith), All-nil (HasName os))

pub all_named : (os : List Object) (user place at : ℕ) (o : Object) → slice_get os user ≡ Some o → length o.uses.items ≤ at → AreSkipped os (names_from os user place) (names_from os user at) → IsUnread os user place None
all_named os user place at o there l h =
    let items : Vec ℕ Global → List ℕ = λ (v : Vec ℕ Global). v.items in
    subst (AreSkipped os (names_from os user place)) (ap (λ x. drop at (names_by x)) there ∙ drop-map items at o.uses.items ∙ ap (map items) (drop_all at o.uses.items l)) h

contains_at : (us : List (Vec ℕ Global)) (at : ℕ) (u : Vec ℕ Global) → slice_get us at ≡ Some u → Contains (map (λ (v : Vec ℕ Global). v.items) us) u.items
contains_at us at u there =
    let names = map (λ (v : Vec ℕ Global). v.items) us in
    let mapped : slice_get names at ≡ Some u.items = slice_get-map (λ (v : Vec ℕ Global). v.items) us at ∙ ap (option_map (λ (v : Vec ℕ Global). v.items)) there in
    subst (Contains names) (get_or_from_slice_get names at u.items [] mapped) (Contains-get_or names at [] (slice_get_within names at u.items mapped))

pub one_unread : (os : List Object) (user place at : ℕ) (o : Object) (u name : Vec ℕ Global) → slice_get os user ≡ Some o → at < length o.uses.items → u ≡ get_or o.uses.items at u →
    name.items ≡ u.items → first_place u.items (names_of os) ≡ None → AreSkipped os (names_from os user place) (names_from os user at) → IsUnread os user place (Some (at + 1, name))
one_unread os user place at o u name there l is same none h = (
  subst (λ n. AreSkipped os (names_from os user place) (n ∷ names_from os user (at + 1))) (sym same) (subst (AreSkipped os (names_from os user place)) (use_of os user at o u there l is) h),
  (
    (o, there, subst (Contains (uses_of o)) (sym same) (contains_at o.uses.items at u (slice_get-get_or o.uses.items at u l ∙ ap Some (sym is)))),
    λ k. not_named u.items os none (subst (HasName os) same k),
  ),
)

-- the objects that wait

left_append : (os : List Object) (ws : List (ℕ × ℕ)) (user place : ℕ) (rest : List (List ℕ)) → left_behind os (ws ++ (user, place) ∷ []) rest ≡ names_from os user place ++ left_behind os ws rest
left_append os [] user place rest = refl
left_append os (w ∷ ws) user place rest = left_append os ws user place (names_from os w.0 w.1 ++ rest)

left_last : (os : List Object) (waiting ws : List (ℕ × ℕ)) (user place : ℕ) → waiting ≡ ws ++ (user, place) ∷ [] → left_of os waiting ≡ names_from os user place ++ left_of os ws
left_last os waiting ws user place e = ap (left_of os) e ∙ left_append os ws user place []

-- the newest of them is done with
pub wait_closed : (os : List Object) (begun waiting ws : List (ℕ × ℕ)) (user place : ℕ) → waiting ≡ ws ++ (user, place) ∷ [] → IsUnread os user place None → AreSkipped os (left_of os begun) (left_of os waiting) → AreSkipped os (left_of os begun) (left_of os ws)
wait_closed os begun waiting ws user place e h k =
    then_skipped os (left_of os begun) (left_of os waiting) (left_of os ws) k
    (subst (λ l. AreSkipped os l (left_of os ws)) (sym (left_last os waiting ws user place e)) (skipped_before os (names_from os user place) [] (left_of os ws) h))

-- or read on
pub wait_next : (os : List Object) (begun waiting ws new : List (ℕ × ℕ)) (user place next : ℕ) (name : Vec ℕ Global) → waiting ≡ ws ++ (user, place) ∷ [] → new ≡ ws ++ (user, next) ∷ [] →
    IsUnread os user place (Some (next, name)) → AreSkipped os (left_of os begun) (left_of os waiting) → IsNext os begun new (Some (user, name))
wait_next os begun waiting ws new user place next name e f (h, is_new) k = (
  then_skipped os (left_of os begun) (left_of os waiting) (name.items ∷ left_of os new) k
      (subst (λ l. AreSkipped os l (name.items ∷ left_of os new)) (sym (left_last os waiting ws user place e))
      (subst (λ l. AreSkipped os (names_from os user place ++ left_of os ws) (name.items ∷ l)) (sym (left_last os new ws user next f))
      (skipped_before os (names_from os user place) (name.items ∷ names_from os user next) (left_of os ws) h))),
  is_new,
)

pub wait_begins : (os : List Object) (waiting : List (ℕ × ℕ)) → AreSkipped os (left_of os waiting) (left_of os waiting)
wait_begins os waiting = none_skipped os (left_of os waiting)

pub wait_ends : (os : List Object) (begun waiting : List (ℕ × ℕ)) → waiting ≡ [] → AreSkipped os (left_of os begun) (left_of os waiting) → IsNext os begun waiting None
wait_ends os begun waiting none k = subst (λ w. AreSkipped os (left_of os begun) (left_of os w)) none k

-- one more object

same_use : (os : List Object) (o : Object) (user place : ℕ) → user < length os → names_from (os ++ o ∷ []) user place ≡ names_from os user place
same_use os o user place l =
    let long = length_push os o in
    ap (λ x. drop place (names_by x))
    (slice_get-get_or (os ++ o ∷ []) user o (omega (arith, l, long)) ∙ ap Some (get_or_append_left os (o ∷ []) o user l) ∙ sym (slice_get-get_or os user o l))

same_left : (os : List Object) (o : Object) (ws : List (ℕ × ℕ)) (rest : List (List ℕ)) → AreThere os ws → left_behind (os ++ o ∷ []) ws rest ≡ left_behind os ws rest
same_left os o [] rest h = refl
same_left os o (w ∷ ws) rest h =
    same_left os o ws (names_from (os ++ o ∷ []) w.0 w.1 ++ rest) (All-tail (λ (v : ℕ × ℕ). v.0 < length os) w ws h)
    ∙ ap (λ l. left_behind os ws (l ++ rest)) (same_use os o w.0 w.1 (All-head (λ (v : ℕ × ℕ). v.0 < length os) w ws h))

newest : (os : List Object) (o : Object) → slice_get (os ++ o ∷ []) (length os) ≡ Some o
newest [] o = refl
newest (x ∷ os) o = newest os o

pub left_more : (os new : List Object) (o : Object) (waiting opened : List (ℕ × ℕ)) (number : ℕ) → new ≡ os ++ o ∷ [] → opened ≡ waiting ++ (number, 0) ∷ [] → length os ≡ number → AreThere os waiting → left_of new opened ≡ uses_of o ++ left_of os waiting
left_more os new o waiting opened number is pushed count there =
    left_last new opened waiting number 0 pushed
    ∙ ap (λ l. names_from l number 0 ++ left_of l waiting) is
    ∙ ap (λ k. names_from (os ++ o ∷ []) k 0 ++ left_of (os ++ o ∷ []) waiting) (sym count)
    ∙ ap (λ x. names_by x ++ left_of (os ++ o ∷ []) waiting) (newest os o)
    ∙ ap (λ l. uses_of o ++ l) (same_left os o waiting [] there)

pub there_more : (os new : List Object) (o : Object) (waiting opened : List (ℕ × ℕ)) (number : ℕ) → new ≡ os ++ o ∷ [] → opened ≡ waiting ++ (number, 0) ∷ [] → length os ≡ number → AreThere os waiting → AreThere new opened
there_more os new o waiting opened number is pushed count there =
    let long = ap length is ∙ length_push os o in
    All_pushed (λ (w : ℕ × ℕ). w.0 < length new) opened waiting (number, 0) pushed
    (All-weaker (λ (w : ℕ × ℕ). w.0 < length os) (λ (w : ℕ × ℕ). w.0 < length new) (λ w l. omega (arith, l, long)) waiting there) (omega (arith, count, long))
