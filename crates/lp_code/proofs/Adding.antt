-- The records of one predicate, with one record more under a key of each kind.
use Rattle.std.specs.Global.{Global}
use Rattle.std.proofs.Common.{◌≡◌, ℕ, true, List, [], ◌∷◌, ◌++◌, map, refl, sym, ap, ◌∙◌, true≢false, ℤ, append-nil}
use Rattle.std.specs.Prelude.{if◌then◌else◌, Vec}
use Rattle.std.specs.declared.cmp.Ordering.{Ordering}
use Rattle.std.specs.declared.cmp.Ordering.TheVariants.{Less, Equal, Greater}
use Rattle.std.specs.Ordering.{is_eq, nat_cmp, int_cmp, ordering_reverse}
use Rattle.std.specs.Cmp.Lexicographic.{slice_cmp}
use Rattle.std.specs.List.{AllByRecursion}
use Rattle.std.specs.Map.{keys_of}
use Rattle.std.specs.BTreeMap.{BTreeMap}
use Rattle.std.specs.BTreeSet.{insert_key}
use Rattle.std.specs.Cmp.{IsTotalOrder}
use Rattle.std.proofs.lemmas.Cmp.{nat_cmp_total, int_cmp_total, nat_list_cmp_total}
use Rattle.lp_code.specs.declared.groups.Groups.{Groups}
use Rattle.lp_code.specs.Groups.{PlainKey, no_key, constant, integer, text, key_cmp, same_key}
use Rattle.lp_code.specs.inner.Told.{told_at, IsGrown, text_key, told, own_key, Adds}
use Rattle.lp_code.proofs.Growing.{keys_grown, told_grown, past, before, within, every, both}

-- no key

head_first : (ns : List ℕ) (n : ℕ) → own_key (ns ++ n ∷ []) ≡ no_key ∷ []
head_first [] n = refl
head_first (m ∷ ns) n = refl

no_key_first : (ns : List ℕ) (ks : List PlainKey) → AllByRecursion (λ k. key_cmp no_key k ≡ Less) ks → insert_key key_cmp (own_key ns ++ ks) no_key ≡ no_key ∷ ks
no_key_first [] ks h = before key_cmp no_key ks h
no_key_first (n ∷ ns) ks h = refl

own_greater : (k : PlainKey) → key_cmp k no_key ≡ Greater → (ns : List ℕ) → AllByRecursion (λ x. key_cmp k x ≡ Greater) (own_key ns)
own_greater k h [] = tt
own_greater k h (n ∷ ns) = (h, tt)

-- a key that is compared by an order f that the keys of one kind have among them
module _ {K : Type 0} {J : Type 0} (f : K → J) {R : J → J → Ordering} (o : IsTotalOrder R) (q : J) (k : K) where
  flipped : (x y : J) → is_eq (R x y) ≡ is_eq (R y x)
  flipped x y = rw (o.antisymm x y) (by (R y x))
    where
      by : (r : Ordering) → is_eq (ordering_reverse r) ≡ is_eq r
      by Less = refl
      by Equal = refl
      by Greater = refl

  is_equal : (r : Ordering) → is_eq r ≡ true → r ≡ Equal
  is_equal Equal h = refl
  is_equal Less h = absurd (true≢false (sym h))
  is_equal Greater h = absurd (true≢false (sym h))

  pub one_place : (e : K) → R (f k) (f e) ≡ Equal → is_eq (R q (f k)) ≡ is_eq (R q (f e))
  one_place e p = flipped q (f k) ∙ ap is_eq (o.congr (f k) (f e) q p) ∙ flipped (f e) q

  pub one_test : (e : K) → is_eq (R q (f k)) ≡ true → is_eq (R q (f e)) ≡ is_eq (R (f k) (f e))
  one_test e p = ap is_eq (o.congr q (f k) (f e) (is_equal (R q (f k)) p))

  pub told_at_more : (n : ℕ) (old new : List (K × Vec ℕ Global)) → IsGrown (λ x y. R (f x) (f y)) k n old new
      → told_at (λ e. is_eq (R q (f e))) new ≡ (if is_eq (R q (f k)) then told_at (λ e. is_eq (R q (f e))) old ++ n ∷ [] else told_at (λ e. is_eq (R q (f e))) old)
  told_at_more n old new h = told_grown (λ x y. R (f x) (f y)) (λ e. is_eq (R q (f e))) k n old new one_place one_test h

pub adds_unkeyed : (n : ℕ) (old : Groups) (u : Vec ℕ Global) → u.items ≡ old.unkeyed.items ++ n ∷ []
    → Adds no_key n old (record { unkeyed = u; constants = old.constants; integers = old.integers; texts = old.texts })
adds_unkeyed n old u h = record { told_more = more; keys_more = grown }
  where
    more : (q : PlainKey) → told (record { unkeyed = u; constants = old.constants; integers = old.integers; texts = old.texts }) q ≡ (if same_key q no_key then told old q ++ n ∷ [] else told old q)
    more no_key = h
    more (constant d) = refl
    more (integer z) = refl
    more (text s) = refl

    rest : List PlainKey
    rest = map constant (keys_of old.constants.entries) ++ (map integer (keys_of old.integers.entries) ++ map text_key (keys_of old.texts.entries))

    above : AllByRecursion (λ k. key_cmp no_key k ≡ Less) rest
    above = both (λ k. key_cmp no_key k ≡ Less) (map constant (keys_of old.constants.entries)) _
        (every constant _ (λ d. refl) (keys_of old.constants.entries)) (both (λ k. key_cmp no_key k ≡ Less)
        (map integer (keys_of old.integers.entries)) _ (every integer _ (λ z. refl) (keys_of old.integers.entries))
        (every text_key _ (λ s. refl) (keys_of old.texts.entries)))

    grown : own_key u.items ++ rest ≡ insert_key key_cmp (own_key old.unkeyed.items ++ rest) no_key
    grown = ap (λ ns. own_key ns ++ rest) h ∙ ap (λ ks. ks ++ rest) (head_first old.unkeyed.items n) ∙ sym (no_key_first old.unkeyed.items rest above)

pub adds_constant : (n : ℕ) (old : Groups) (k : ℕ) (m : BTreeMap ℕ (Vec ℕ Global)) → IsGrown nat_cmp k n old.constants.entries m.entries
    → Adds (constant k) n old (record { unkeyed = old.unkeyed; constants = m; integers = old.integers; texts = old.texts })
adds_constant n old k m h = record { told_more = more; keys_more = grown }
  where
    more : (q : PlainKey) → told (record { unkeyed = old.unkeyed; constants = m; integers = old.integers; texts = old.texts }) q ≡ (if same_key q (constant k) then told old q ++ n ∷ [] else told old q)
    more no_key = refl
    more (constant d) = told_at_more (λ (x : ℕ). x) nat_cmp_total d k n old.constants.entries m.entries h
    more (integer z) = refl
    more (text s) = refl

    rest : List PlainKey
    rest = map integer (keys_of old.integers.entries) ++ map text_key (keys_of old.texts.entries)

    above : AllByRecursion (λ j. key_cmp (constant k) j ≡ Less) rest
    above = both (λ j. key_cmp (constant k) j ≡ Less) (map integer (keys_of old.integers.entries)) _ (every integer _ (λ z. refl) (keys_of old.integers.entries)) (every text_key _ (λ s. refl) (keys_of old.texts.entries))

    grown : own_key old.unkeyed.items ++ (map constant (keys_of m.entries) ++ rest) ≡ insert_key key_cmp (own_key old.unkeyed.items ++ (map constant (keys_of old.constants.entries) ++ rest)) (constant k)
    grown =
        ap (λ es. own_key old.unkeyed.items ++ (map constant (keys_of es) ++ rest)) h.1
        ∙ ap (λ ks. own_key old.unkeyed.items ++ (map constant ks ++ rest)) (keys_grown nat_cmp k h.0 old.constants.entries)
        ∙ ap (λ ks. own_key old.unkeyed.items ++ ks) (sym (within nat_cmp key_cmp constant (λ x y. refl) k (keys_of old.constants.entries) rest (before key_cmp (constant k) rest above)))
        ∙ sym (past key_cmp (constant k) (own_key old.unkeyed.items) (map constant (keys_of old.constants.entries) ++ rest) (own_greater (constant k) refl old.unkeyed.items))

pub adds_integer : (n : ℕ) (old : Groups) (k : ℤ) (m : BTreeMap ℤ (Vec ℕ Global)) → IsGrown int_cmp k n old.integers.entries m.entries
    → Adds (integer k) n old (record { unkeyed = old.unkeyed; constants = old.constants; integers = m; texts = old.texts })
adds_integer n old k m h = record { told_more = more; keys_more = grown }
  where
    more : (q : PlainKey) → told (record { unkeyed = old.unkeyed; constants = old.constants; integers = m; texts = old.texts }) q ≡ (if same_key q (integer k) then told old q ++ n ∷ [] else told old q)
    more no_key = refl
    more (constant d) = refl
    more (integer z) = told_at_more (λ (x : ℤ). x) int_cmp_total z k n old.integers.entries m.entries h
    more (text s) = refl

    rest : List PlainKey
    rest = map text_key (keys_of old.texts.entries)

    above : AllByRecursion (λ j. key_cmp (integer k) j ≡ Less) rest
    above = every text_key _ (λ s. refl) (keys_of old.texts.entries)

    cs : List PlainKey
    cs = map constant (keys_of old.constants.entries)

    grown : own_key old.unkeyed.items ++ (cs ++ (map integer (keys_of m.entries) ++ rest)) ≡ insert_key key_cmp (own_key old.unkeyed.items ++ (cs ++ (map integer (keys_of old.integers.entries) ++ rest))) (integer k)
    grown =
        ap (λ es. own_key old.unkeyed.items ++ (cs ++ (map integer (keys_of es) ++ rest))) h.1
        ∙ ap (λ ks. own_key old.unkeyed.items ++ (cs ++ (map integer ks ++ rest))) (keys_grown int_cmp k h.0 old.integers.entries)
        ∙ ap (λ ks. own_key old.unkeyed.items ++ (cs ++ ks)) (sym (within int_cmp key_cmp integer (λ x y. refl) k (keys_of old.integers.entries) rest (before key_cmp (integer k) rest above)))
        ∙ ap (λ ks. own_key old.unkeyed.items ++ ks) (sym (past key_cmp (integer k) cs (map integer (keys_of old.integers.entries) ++ rest) (every constant _ (λ d. refl) (keys_of old.constants.entries))))
        ∙ sym (past key_cmp (integer k) (own_key old.unkeyed.items) (cs ++ (map integer (keys_of old.integers.entries) ++ rest)) (own_greater (integer k) refl old.unkeyed.items))

pub adds_text : (n : ℕ) (old : Groups) (k : Vec ℕ Global) (m : BTreeMap (Vec ℕ Global) (Vec ℕ Global)) → IsGrown (λ x y. slice_cmp nat_cmp x.items y.items) k n old.texts.entries m.entries
    → Adds (text k.items) n old (record { unkeyed = old.unkeyed; constants = old.constants; integers = old.integers; texts = m })
adds_text n old k m h = record { told_more = more; keys_more = grown }
  where
    more : (q : PlainKey) → told (record { unkeyed = old.unkeyed; constants = old.constants; integers = old.integers; texts = m }) q ≡ (if same_key q (text k.items) then told old q ++ n ∷ [] else told old q)
    more no_key = refl
    more (constant d) = refl
    more (integer z) = refl
    more (text s) = told_at_more (λ (x : Vec ℕ Global). x.items) nat_list_cmp_total s k n old.texts.entries m.entries h

    cs : List PlainKey
    cs = map constant (keys_of old.constants.entries)

    zs : List PlainKey
    zs = map integer (keys_of old.integers.entries)

    last : (ks : List (Vec ℕ Global)) → insert_key key_cmp (map text_key ks) (text_key k) ≡ map text_key (insert_key (λ x y. slice_cmp nat_cmp x.items y.items) ks k)
    last ks = ap (λ js. insert_key key_cmp js (text_key k)) (sym (append-nil (map text_key ks))) ∙ within (λ x y. slice_cmp nat_cmp x.items y.items) key_cmp text_key (λ x y. refl) k ks [] refl ∙ append-nil _

    grown : own_key old.unkeyed.items ++ (cs ++ (zs ++ map text_key (keys_of m.entries))) ≡ insert_key key_cmp (own_key old.unkeyed.items ++ (cs ++ (zs ++ map text_key (keys_of old.texts.entries)))) (text k.items)
    grown =
        ap (λ es. own_key old.unkeyed.items ++ (cs ++ (zs ++ map text_key (keys_of es)))) h.1
        ∙ ap (λ ks. own_key old.unkeyed.items ++ (cs ++ (zs ++ map text_key ks))) (keys_grown (λ x y. slice_cmp nat_cmp x.items y.items) k h.0 old.texts.entries)
        ∙ ap (λ ks. own_key old.unkeyed.items ++ (cs ++ (zs ++ ks))) (sym (last (keys_of old.texts.entries)))
        ∙ ap (λ ks. own_key old.unkeyed.items ++ (cs ++ ks)) (sym (past key_cmp (text k.items) zs (map text_key (keys_of old.texts.entries)) (every integer _ (λ d. refl) (keys_of old.integers.entries))))
        ∙ ap (λ ks. own_key old.unkeyed.items ++ ks) (sym (past key_cmp (text k.items) cs (zs ++ map text_key (keys_of old.texts.entries)) (every constant _ (λ d. refl) (keys_of old.constants.entries))))
        ∙ sym (past key_cmp (text k.items) (own_key old.unkeyed.items) (cs ++ (zs ++ map text_key (keys_of old.texts.entries))) (own_greater (text k.items) refl old.unkeyed.items))
