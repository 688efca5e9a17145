-- The tables of all predicates, with one record more, and with all records.
use Rattle.std.proofs.Common.{◌≡◌, ℕ, suc, Bool, true, false, List, [], ◌∷◌, ◌++◌, refl, sym, ap, ◌∙◌, append-nil, append_assoc, arith, subst, ◌+◌, ◌<◌, length, drop, get_or}
use Rattle.std.specs.Prelude.{if◌then◌else◌, ◌&&◌, nat_eq, Option, Some, None, cond, unwrap_or}
use Rattle.std.specs.declared.cmp.Ordering.TheVariants.{Greater}
use Rattle.std.specs.Ordering.{is_eq, nat_cmp}
use Rattle.std.specs.Map.{lookup, keys_of}
use Rattle.std.specs.BTreeMap.{insert_entry, is_at}
use Rattle.std.specs.BTreeSet.{insert_key}
use Rattle.std.proofs.lemmas.Cmp.{nat_cmp_total}
use Rattle.std.proofs.lemmas.List.{drop_more}
use Rattle.lp_code.specs.declared.groups.Groups.{Groups}
use Rattle.lp_code.specs.declared.record.Record.{Record}
use Rattle.lp_code.specs.declared.record.RecordHead.TheVariants.{Const}
use Rattle.lp_code.specs.Groups.{PlainKey, plain_key, key_cmp, same_key, is_of, with_head, group_from, group, heads, heads_onto, keys, keys_onto}
use Rattle.lp_code.specs.inner.Told.{told, keys_told, Adds, HasNone, told_by, keys_by, group_in, keys_in, Recorded, AreTables}
use Rattle.lp_code.proofs.Growing.{keys_grown, found_grown}
use Rattle.lp_code.proofs.Adding.{one_place, one_test}

is_of_headed : (r : Record) (c d : ℕ) → r.program ≡ true → r.head ≡ Some (Const c) → is_of d r ≡ nat_eq d c
is_of_headed r c d p h = rw p (rw h refl)

eq_cmp : (d c : ℕ) → is_eq (nat_cmp d c) ≡ nat_eq d c
eq_cmp d c = grind arith

-- the groups of a constant, with one record more, are put in the place of those that stood there
module _ (r : Record) (n c : ℕ) (headed : r.head ≡ Some (Const c)) (program : r.program ≡ true) (old : List (ℕ × Groups)) (before after : Groups) where
  module _ (told_before : (q : PlainKey) → told before q ≡ group_in old c q) (keys_before : keys_told before ≡ keys_in old c) (adds : Adds (plain_key r.key) n before after) where
    abbrev pub new : List (ℕ × Groups)
    new = insert_entry nat_cmp old c after

    apart : (d e : ℕ) → is_eq (nat_cmp d c) ≡ true → nat_cmp c e ≡ Greater → is_eq (nat_cmp d e) ≡ false
    apart d e p q = one_test (λ (x : ℕ). x) nat_cmp_total d c e p ∙ ap is_eq q

    found : (d : ℕ) → lookup (is_at (nat_cmp d)) new ≡ cond (nat_eq d c) (Some after) (lookup (is_at (nat_cmp d)) old)
    found d = found_grown nat_cmp c after (is_at (nat_cmp d)) (one_place (λ (x : ℕ). x) nat_cmp_total d c) (apart d) old ∙ ap (λ b. cond b (Some after) (lookup (is_at (nat_cmp d)) old)) (eq_cmp d c)

    same : (d : ℕ) → nat_eq d c ≡ true → d ≡ c
    same d h = grind arith

    grouped : (d : ℕ) (q : PlainKey) → group_in new d q ≡ group_in old d q ++ group_from n (r ∷ []) d q
    grouped d q = ap (λ o. told_by o q) (found d) ∙ by (nat_eq d c) refl ∙ ap (λ b. group_in old d q ++ (if b && same_key q (plain_key r.key) then n ∷ [] else [])) (sym (is_of_headed r c d program headed))
      where
        more : (b : Bool) → (if b then told before q ++ n ∷ [] else told before q) ≡ told before q ++ (if b then n ∷ [] else [])
        more true = refl
        more false = sym (append-nil (told before q))

        by : (b : Bool) → nat_eq d c ≡ b → told_by (cond b (Some after) (lookup (is_at (nat_cmp d)) old)) q ≡ group_in old d q ++ (if b && same_key q (plain_key r.key) then n ∷ [] else [])
        by true h = adds.told_more q ∙ more (same_key q (plain_key r.key)) ∙ ap (λ ns. ns ++ (if same_key q (plain_key r.key) then n ∷ [] else [])) (told_before q ∙ ap (λ e. group_in old e q) (sym (same d h)))
        by false h = sym (append-nil (group_in old d q))

    keyed : (d : ℕ) → keys_in new d ≡ (if is_of d r then insert_key key_cmp (keys_in old d) (plain_key r.key) else keys_in old d)
    keyed d = ap keys_by (found d) ∙ by (nat_eq d c) refl ∙ ap (λ b. if b then insert_key key_cmp (keys_in old d) (plain_key r.key) else keys_in old d) (sym (is_of_headed r c d program headed))
      where
        by : (b : Bool) → nat_eq d c ≡ b → keys_by (cond b (Some after) (lookup (is_at (nat_cmp d)) old)) ≡ (if b then insert_key key_cmp (keys_in old d) (plain_key r.key) else keys_in old d)
        by true h = adds.keys_more ∙ ap (λ ks. insert_key key_cmp ks (plain_key r.key)) (keys_before ∙ ap (keys_in old) (sym (same d h)))
        by false h = refl

    recorded : Recorded r n old new
    recorded = record {
      heads_more = keys_grown nat_cmp c after old ∙ sym (ap (λ p. with_head p r.head (keys_of old)) program ∙ ap (λ o. with_head true o (keys_of old)) headed);
      group_more = grouped;
      keys_are_more = keyed;
    }

told_or : (o : Option Groups) (g : Groups) → HasNone g → (q : PlainKey) → told (unwrap_or o g) q ≡ told_by o q
told_or None g h q = h.told_none q
told_or (Some k) g h q = refl

keys_or : (o : Option Groups) (g : Groups) → HasNone g → keys_told (unwrap_or o g) ≡ keys_by o
keys_or None g h = h.no_keys
keys_or (Some k) g h = refl

pub recorded_at : (r : Record) (n c : ℕ) → r.program ≡ true → r.head ≡ Some (Const c) → (old : List (ℕ × Groups)) (empty before after : Groups) → HasNone empty → before ≡ unwrap_or (lookup (is_at (nat_cmp c)) old) empty
    → Adds (plain_key r.key) n before after → (new : List (ℕ × Groups)) → new ≡ insert_entry nat_cmp old c after → Recorded r n old new
recorded_at r n c program headed old empty before after none is adds grown e =
    subst (λ es. Recorded r n old es) (sym e)
    (recorded r n c headed program old before after (λ q. ap (λ g. told g q) is ∙ told_or (lookup (is_at (nat_cmp c)) old) empty none q) (ap keys_told is ∙ keys_or (lookup (is_at (nat_cmp c)) old) empty none) adds)

-- a record that no constant heads in the program
pub unrecorded : (r : Record) (n : ℕ) (es : List (ℕ × Groups)) → ((cs : List ℕ) → with_head r.program r.head cs ≡ cs) → ((c : ℕ) → is_of c r ≡ false) → Recorded r n es es
unrecorded r n es h k = record {
  heads_more = sym (h (keys_of es));
  group_more = λ c q. sym (ap (λ b. group_in es c q ++ (if b && same_key q (plain_key r.key) then n ∷ [] else [])) (k c) ∙ append-nil (group_in es c q));
  keys_are_more = λ c. sym (ap (λ b. if b then insert_key key_cmp (keys_in es c) (plain_key r.key) else keys_in es c) (k c));
}

-- records that are still to come
pub record ComesTo (es : List (ℕ × Groups)) (n : ℕ) (rest all : List Record) : Type 0 where
  pub heads_come : heads_onto (keys_of es) rest ≡ heads all
  pub group_comes : (c : ℕ) (q : PlainKey) → group_in es c q ++ group_from n rest c q ≡ group all c q
  pub keys_come : (c : ℕ) → keys_onto (keys_in es c) rest c ≡ keys all c

pub one_recorded : (old new : List (ℕ × Groups)) (r : Record) (n : ℕ) (rest all : List Record) → Recorded r n old new → ComesTo old n (r ∷ rest) all → ComesTo new (suc n) rest all
one_recorded old new r n rest all h k = record {
  heads_come = ap (λ cs. heads_onto cs rest) h.heads_more ∙ k.heads_come;
  group_comes = grouped;
  keys_come = λ c. ap (λ ks. keys_onto ks rest c) (h.keys_are_more c) ∙ k.keys_come c;
}
  where
    split : (xs ys : List ℕ) (b : Bool) → (xs ++ (if b then n ∷ [] else [])) ++ ys ≡ xs ++ (if b then n ∷ ys else ys)
    split xs ys true = append_assoc xs (n ∷ []) ys
    split xs ys false = ap (λ zs. zs ++ ys) (append-nil xs)

    grouped : (c : ℕ) (q : PlainKey) → group_in new c q ++ group_from (suc n) rest c q ≡ group all c q
    grouped c q = ap (λ xs. xs ++ group_from (suc n) rest c q) (h.group_more c q) ∙ split (group_in old c q) (group_from (suc n) rest c q) (is_of c r && same_key q (plain_key r.key)) ∙ k.group_comes c q

pub none_recorded : (es : List (ℕ × Groups)) (all : List Record) → es ≡ [] → ComesTo es 0 all all
none_recorded es all e = rw e (record { heads_come = refl; group_comes = λ c q. refl; keys_come = λ c. refl })

pub all_recorded : (es : List (ℕ × Groups)) (n : ℕ) (all : List Record) → ComesTo es n [] all → AreTables es all
all_recorded es n all h = record {
  heads_are = h.heads_come;
  group_is = λ c q. sym (append-nil (group_in es c q)) ∙ h.group_comes c q;
  keys_are = h.keys_come;
}

-- the record at a place is the next one
pub turn : (old new : List (ℕ × Groups)) (r : Record) (i n : ℕ) (all : List Record) → i < length all → r ≡ get_or all i r → n ≡ i → Recorded r n old new → ComesTo old i (drop i all) all → ComesTo new (i + 1) (drop (i + 1) all) all
turn old new r i n all below at is h k = subst (λ m. ComesTo new m (drop (i + 1) all) all) (suc_is i) (one_recorded old new r i (drop (i + 1) all) all (subst (λ m. Recorded r m old new) is h) (subst (λ rs. ComesTo old i rs all) next k))
  where
    suc_is : (m : ℕ) → suc m ≡ m + 1
    suc_is m = omega arith

    next : drop i all ≡ r ∷ drop (i + 1) all
    next = drop_more all i r below ∙ ap (λ s. s ∷ drop (i + 1) all) (sym at)
