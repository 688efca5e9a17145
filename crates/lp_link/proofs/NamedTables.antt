-- The names of an image in the making: rows that are put, hidden ones that are counted, and what stands there copy by copy.
use Rattle.std.proofs.Common.{◌≡◌, ◌∙◌, ◌+◌, ◌<◌, ℕ, List, [], ◌∷◌, ◌++◌, length, map, drop, get_or, Option, ap, refl, sym, subst, append_assoc}
use Rattle.std.specs.Prelude.{min, if◌then◌else◌}
use Rattle.std.specs.Str.{bytes_eq}
use Rattle.std.proofs.lemmas.List.{append-nil, map-append}
use Rattle.lp_standard.specs.declared.fixity.Fixity.{Fixity}
use Rattle.lp_code.specs.declared.object.Object.{Object}
use Rattle.lp_code.specs.declared.object.ObjectKind.{ObjectKind}
use Rattle.lp_code.specs.declared.object.ObjectConstant.{ObjectConstant}
use Rattle.lp_code.specs.declared.image.ImageKind.{ImageKind}
use Rattle.lp_code.specs.declared.image.ImageConstant.{ImageConstant}
use Rattle.lp_link.specs.declared.image.Making.{Making}
use Rattle.lp_link.specs.Linked.{Copy, kinds_of, constants_of}
use Rattle.lp_link.specs.Names.{numbered, as_global, kind_row, constant_row, kind_rows, constant_rows, exported_kind_rows, exported_constant_rows, hidden_kind_rows, hidden_constant_rows, of_copies}
use Rattle.lp_link.specs.inner.Named.{count_in, AreCounted, name_of, names_in, rows_of_kinds, rows_of_constants, AddsRows, AddsHidden, AreNamed, SoFar}
use Rattle.lp_link.proofs.NamedRows.{numbered_append, of_copies_push, puts_none, puts_one, puts_then, so_far_next}
use Rattle.lp_link.proofs.NumberedNames.{entries_drop}

abbrev Fixed : Type 0
Fixed = Option (Fixity × ℕ)

-- rows

pub rows_kept : (old new : Making) → new.kinds.items ≡ old.kinds.items → new.constants.items ≡ old.constants.items → new.hidden_kinds ≡ old.hidden_kinds → new.hidden_constants ≡ old.hidden_constants
    → AddsRows old new [] []
rows_kept old new ek ec hk hc = record {
  kinds_are = ap (map kind_row) ek ∙ sym (append-nil (rows_of_kinds old));
  constants_are = ap (map constant_row) ec ∙ sym (append-nil (rows_of_constants old));
  kinds_counted = hk;
  constants_counted = hc;
}

pub rows_then : (a b c : Making) (ks ls : List (List ℕ × (ℕ × ℕ))) (cs ds : List (List ℕ × (ℕ × Fixed))) → AddsRows a b ks cs → AddsRows b c ls ds → AddsRows a c (ks ++ ls) (cs ++ ds)
rows_then a b c ks ls cs ds x y = record {
  kinds_are = y.kinds_are ∙ ap (λ l. l ++ ls) x.kinds_are ∙ append_assoc (rows_of_kinds a) ks ls;
  constants_are = y.constants_are ∙ ap (λ l. l ++ ds) x.constants_are ∙ append_assoc (rows_of_constants a) cs ds;
  kinds_counted = y.kinds_counted ∙ x.kinds_counted;
  constants_counted = y.constants_counted ∙ x.constants_counted;
}

pub rows_both : (a b c : Making) (ks : List (List ℕ × (ℕ × ℕ))) (cs : List (List ℕ × (ℕ × Fixed))) → AddsRows a b ks [] → AddsRows b c [] cs → AddsRows a c ks cs
rows_both a b c ks cs x y = subst (λ l. AddsRows a c l cs) (append-nil ks) (rows_then a b c ks [] [] cs x y)

pub kind_put : (old new : Making) (k : ImageKind) (w : List ℕ) → new.kinds.items ≡ old.kinds.items ++ k ∷ [] → new.constants.items ≡ old.constants.items → new.hidden_kinds ≡ old.hidden_kinds
    → new.hidden_constants ≡ old.hidden_constants → k.name.items ≡ w → AddsRows old new ((w, (k.hidden, k.arity)) ∷ []) []
kind_put old new k w ek ec hk hc named = record {
  kinds_are = ap (map kind_row) ek ∙ map-append kind_row old.kinds.items (k ∷ []) ∙ ap (λ w. rows_of_kinds old ++ (w, (k.hidden, k.arity)) ∷ []) named;
  constants_are = ap (map constant_row) ec ∙ sym (append-nil (rows_of_constants old));
  kinds_counted = hk;
  constants_counted = hc;
}

pub constant_put : (old new : Making) (k : ImageConstant) (w : List ℕ) → new.kinds.items ≡ old.kinds.items → new.constants.items ≡ old.constants.items ++ k ∷ [] → new.hidden_kinds ≡ old.hidden_kinds
    → new.hidden_constants ≡ old.hidden_constants → k.name.items ≡ w → AddsRows old new [] ((w, (k.hidden, k.fixity)) ∷ [])
constant_put old new k w ek ec hk hc named = record {
  kinds_are = ap (map kind_row) ek ∙ sym (append-nil (rows_of_kinds old));
  constants_are = ap (map constant_row) ec ∙ map-append constant_row old.constants.items (k ∷ []) ∙ ap (λ w. rows_of_constants old ++ (w, (k.hidden, k.fixity)) ∷ []) named;
  kinds_counted = hk;
  constants_counted = hc;
}

-- hidden names

pub hidden_none : (m : Making) → AddsHidden m m [] []
hidden_none m = record {
  kinds_are = puts_none (count_in m.hidden_kinds) (count_in m.hidden_kinds) (rows_of_kinds m) (rows_of_kinds m) refl refl;
  constants_are = puts_none (count_in m.hidden_constants) (count_in m.hidden_constants) (rows_of_constants m) (rows_of_constants m) refl refl;
}

pub hidden_then : (a b c : Making) (ks ls : List (List ℕ × ℕ)) (cs ds : List (List ℕ × Fixed)) → AddsHidden a b ks cs → AddsHidden b c ls ds → AddsHidden a c (ks ++ ls) (cs ++ ds)
hidden_then a b c ks ls cs ds x y = record {
  kinds_are = puts_then (count_in a.hidden_kinds) (count_in b.hidden_kinds) (count_in c.hidden_kinds) (rows_of_kinds a) (rows_of_kinds b) (rows_of_kinds c) ks ls x.kinds_are y.kinds_are;
  constants_are = puts_then (count_in a.hidden_constants) (count_in b.hidden_constants) (count_in c.hidden_constants) (rows_of_constants a) (rows_of_constants b) (rows_of_constants c) cs ds
      x.constants_are y.constants_are;
}

pub hidden_both : (a b c : Making) (ks : List (List ℕ × ℕ)) (cs : List (List ℕ × Fixed)) → AddsHidden a b ks [] → AddsHidden b c [] cs → AddsHidden a c ks cs
hidden_both a b c ks cs x y = subst (λ l. AddsHidden a c l cs) (append-nil ks) (hidden_then a b c ks [] [] cs x y)

-- a name is counted, and then put with its number
module _ (now mid new : Making) (w : List ℕ) (n : ℕ) where
  kind_hidden : (a : ℕ) → n ≡ min (count_in now.hidden_kinds w + 1) 65535
      → ((other : List ℕ) → count_in mid.hidden_kinds other ≡ (if bytes_eq other w then n else count_in now.hidden_kinds other))
      → mid.kinds.items ≡ now.kinds.items → mid.constants.items ≡ now.constants.items → mid.hidden_constants ≡ now.hidden_constants → AddsRows mid new ((w, (n, a)) ∷ []) []
      → AddsHidden now new ((w, a) ∷ []) []
  kind_hidden a is counted ek ec hc adds = record {
    kinds_are = puts_one (count_in now.hidden_kinds) (count_in new.hidden_kinds) (rows_of_kinds now) (rows_of_kinds new) w a n is (λ other. ap (λ h. count_in h other) adds.kinds_counted ∙ counted other)
        (adds.kinds_are ∙ ap (λ l. map kind_row l ++ (w, (n, a)) ∷ []) ek);
    constants_are = puts_none (count_in now.hidden_constants) (count_in new.hidden_constants) (rows_of_constants now) (rows_of_constants new) (ap (λ h. count_in h) (adds.constants_counted ∙ hc))
        (adds.constants_are ∙ append-nil (rows_of_constants mid) ∙ ap (map constant_row) ec);
  }

  constant_hidden : (f : Fixed) → n ≡ min (count_in now.hidden_constants w + 1) 65535
      → ((other : List ℕ) → count_in mid.hidden_constants other ≡ (if bytes_eq other w then n else count_in now.hidden_constants other))
      → mid.kinds.items ≡ now.kinds.items → mid.constants.items ≡ now.constants.items → mid.hidden_kinds ≡ now.hidden_kinds → AddsRows mid new [] ((w, (n, f)) ∷ [])
      → AddsHidden now new [] ((w, f) ∷ [])
  constant_hidden f is counted ek ec hk adds = record {
    kinds_are = puts_none (count_in now.hidden_kinds) (count_in new.hidden_kinds) (rows_of_kinds now) (rows_of_kinds new) (ap (λ h. count_in h) (adds.kinds_counted ∙ hk))
        (adds.kinds_are ∙ append-nil (rows_of_kinds mid) ∙ ap (map kind_row) ek);
    constants_are = puts_one (count_in now.hidden_constants) (count_in new.hidden_constants) (rows_of_constants now) (rows_of_constants new) w f n is
        (λ other. ap (λ h. count_in h other) adds.constants_counted ∙ counted other) (adds.constants_are ∙ ap (λ l. map constant_row l ++ (w, (n, f)) ∷ []) ec);
  }

  module _ (old : Making) where
    pub hidden_kind_next : (a : ℕ) (rest rest' all : List (List ℕ × ℕ)) → rest ≡ (w, a) ∷ rest' → n ≡ min (count_in now.hidden_kinds w + 1) 65535
        → ((other : List ℕ) → count_in mid.hidden_kinds other ≡ (if bytes_eq other w then n else count_in now.hidden_kinds other))
        → mid.kinds.items ≡ now.kinds.items → mid.constants.items ≡ now.constants.items → mid.hidden_constants ≡ now.hidden_constants → AddsRows mid new ((w, (n, a)) ∷ []) []
        → SoFar (λ ks. AddsHidden old now ks []) rest all → SoFar (λ ks. AddsHidden old new ks []) rest' all
    hidden_kind_next a rest rest' all e is counted ek ec hc adds so_far =
        so_far_next (λ ks. AddsHidden old now ks []) (λ ks. AddsHidden old new ks []) (w, a) rest rest' all e
        (λ ks h. hidden_then old now new ks ((w, a) ∷ []) [] [] h (kind_hidden a is counted ek ec hc adds)) so_far

    pub hidden_constant_next : (f : Fixed) (rest rest' all : List (List ℕ × Fixed)) → rest ≡ (w, f) ∷ rest' → n ≡ min (count_in now.hidden_constants w + 1) 65535
        → ((other : List ℕ) → count_in mid.hidden_constants other ≡ (if bytes_eq other w then n else count_in now.hidden_constants other))
        → mid.kinds.items ≡ now.kinds.items → mid.constants.items ≡ now.constants.items → mid.hidden_kinds ≡ now.hidden_kinds → AddsRows mid new [] ((w, (n, f)) ∷ [])
        → SoFar (λ cs. AddsHidden old now [] cs) rest all → SoFar (λ cs. AddsHidden old new [] cs) rest' all
    hidden_constant_next f rest rest' all e is counted ek ec hk adds so_far =
        so_far_next (λ cs. AddsHidden old now [] cs) (λ cs. AddsHidden old new [] cs) (w, f) rest rest' all e
        (λ cs h. hidden_then old now new [] [] cs ((w, f) ∷ []) h (constant_hidden f is counted ek ec hk adds)) so_far

-- a global name is put
module _ (old now mid new : Making) (w : List ℕ) where
  pub global_kind_next : (a : ℕ) (rest rest' all : List (List ℕ × ℕ)) → rest ≡ (w, a) ∷ rest' → AddsRows now mid [] [] → AddsRows mid new ((w, (0, a)) ∷ []) []
      → SoFar (λ ks. AddsRows old now (map as_global ks) []) rest all → SoFar (λ ks. AddsRows old new (map as_global ks) []) rest' all
  global_kind_next a rest rest' all e between adds so_far =
      so_far_next (λ ks. AddsRows old now (map as_global ks) []) (λ ks. AddsRows old new (map as_global ks) []) (w, a) rest rest' all e
      (λ ks h. subst (λ l. AddsRows old new l []) (sym (map-append as_global ks ((w, a) ∷ [])))
      (rows_then old now new (map as_global ks) ((w, (0, a)) ∷ []) [] [] h (rows_then now mid new [] ((w, (0, a)) ∷ []) [] [] between adds))) so_far

  pub global_constant_next : (f : Fixed) (rest rest' all : List (List ℕ × Fixed)) → rest ≡ (w, f) ∷ rest' → AddsRows now mid [] [] → AddsRows mid new [] ((w, (0, f)) ∷ [])
      → SoFar (λ cs. AddsRows old now [] (map as_global cs)) rest all → SoFar (λ cs. AddsRows old new [] (map as_global cs)) rest' all
  global_constant_next f rest rest' all e between adds so_far =
      so_far_next (λ cs. AddsRows old now [] (map as_global cs)) (λ cs. AddsRows old new [] (map as_global cs)) (w, f) rest rest' all e
      (λ cs h. subst (AddsRows old new []) (sym (map-append as_global cs ((w, f) ∷ [])))
      (rows_then old now new [] [] (map as_global cs) ((w, (0, f)) ∷ []) h (rows_then now mid new [] [] [] ((w, (0, f)) ∷ []) between adds))) so_far

-- the rows of an object, from a place on
pub kind_row_at : (o : Object) (xs : List ObjectKind) (at : ℕ) (k : ObjectKind) → xs ≡ o.kinds.items → at < length xs → k ≡ get_or xs at k
    → (drop at (kinds_of o) ≡ (k.name.items, k.exported) ∷ drop (at + 1) (kinds_of o)) × (drop at (kind_rows o) ≡ (k.name.items, k.arity) ∷ drop (at + 1) (kind_rows o))
kind_row_at o xs at k same l is = (
  entries_drop (λ (k : ObjectKind). (k.name.items, k.exported)) xs o.kinds.items at k same l is,
  entries_drop (λ (k : ObjectKind). (k.name.items, k.arity)) xs o.kinds.items at k same l is,
)

pub constant_row_at : (o : Object) (xs : List ObjectConstant) (at : ℕ) (k : ObjectConstant) → xs ≡ o.constants.items → at < length xs → k ≡ get_or xs at k
    → (drop at (constants_of o) ≡ (k.name.items, k.exported) ∷ drop (at + 1) (constants_of o)) × (drop at (constant_rows o) ≡ (k.name.items, k.fixity) ∷ drop (at + 1) (constant_rows o))
constant_row_at o xs at k same l is = (
  entries_drop (λ (k : ObjectConstant). (k.name.items, k.exported)) xs o.constants.items at k same l is,
  entries_drop (λ (k : ObjectConstant). (k.name.items, k.fixity)) xs o.constants.items at k same l is,
)

-- copies

pub root_named : (root : Copy) (old new : Making) → old.kinds.items ≡ [] → old.constants.items ≡ []
    → ((w : List ℕ) → (count_in old.hidden_kinds w ≡ 0) × (count_in old.hidden_constants w ≡ 0))
    → AddsRows old new (map as_global (exported_kind_rows root.object)) (map as_global (exported_constant_rows root.object)) → AreNamed root [] new
root_named root old new ek ec none adds = record {
  kinds_are = adds.kinds_are ∙ ap (λ l. map kind_row l ++ map as_global (exported_kind_rows root.object)) ek ∙ sym (append-nil (map as_global (exported_kind_rows root.object)));
  kinds_counted = λ w. ap (λ h. count_in h w) adds.kinds_counted ∙ (none w).0;
  constants_are = adds.constants_are ∙ ap (λ l. map constant_row l ++ map as_global (exported_constant_rows root.object)) ec ∙ sym (append-nil (map as_global (exported_constant_rows root.object)));
  constants_counted = λ w. ap (λ h. count_in h w) adds.constants_counted ∙ (none w).1;
}

-- a table with the hidden names of one more copy
module _ {A : Type 0} (f : Copy → List (List ℕ × A)) (done : List Copy) (c : Copy) where
  rows_more : (globals rows now : List (List ℕ × (ℕ × A))) → rows ≡ globals ++ numbered [] (of_copies f done) → now ≡ rows ++ numbered (names_in (of_copies f done)) (f c)
      → now ≡ globals ++ numbered [] (of_copies f (done ++ c ∷ []))
  rows_more globals rows now e put =
      put ∙ ap (λ l. l ++ numbered (names_in (of_copies f done)) (f c)) e ∙ append_assoc globals (numbered [] (of_copies f done)) (numbered (names_in (of_copies f done)) (f c))
      ∙ ap (λ l. globals ++ l) (sym (numbered_append [] (of_copies f done) (f c)) ∙ ap (numbered []) (sym (of_copies_push f done c)))

  counts_more : (count : List ℕ → ℕ) → AreCounted count (names_in (of_copies f done) ++ names_in (f c)) → AreCounted count (names_in (of_copies f (done ++ c ∷ [])))
  counts_more count h = subst (AreCounted count) (sym (map-append name_of (of_copies f done) (f c)) ∙ ap names_in (sym (of_copies_push f done c))) h

pub named_push : (root c : Copy) (done : List Copy) (old new : Making) → AreNamed root done old → AddsHidden old new (hidden_kind_rows c.object) (hidden_constant_rows c.object) → AreNamed root (done ++ c ∷ []) new
named_push root c done old new named adds =
    let kinds : Copy → List (List ℕ × ℕ) = λ c. hidden_kind_rows c.object in
    let constants : Copy → List (List ℕ × Fixed) = λ c. hidden_constant_rows c.object in
    let (k, kc) = adds.kinds_are (names_in (of_copies kinds done)) named.kinds_counted in
    let (n, nc) = adds.constants_are (names_in (of_copies constants done)) named.constants_counted in
    record {
      kinds_are = rows_more kinds done c (map as_global (exported_kind_rows root.object)) (rows_of_kinds old) (rows_of_kinds new) named.kinds_are k;
      kinds_counted = counts_more kinds done c (count_in new.hidden_kinds) kc;
      constants_are = rows_more constants done c (map as_global (exported_constant_rows root.object)) (rows_of_constants old) (rows_of_constants new) named.constants_are n;
      constants_counted = counts_more constants done c (count_in new.hidden_constants) nc;
    }
