-- Maps of numbers, and lists of keys in order, with one more.
use Rattle.std.specs.Global.{Global}
use Rattle.std.proofs.Common.{◌≡◌, ℕ, Bool, true, false, List, [], ◌∷◌, ◌++◌, map, refl, sym, ap, ◌∙◌, true≢false}
use Rattle.std.specs.Prelude.{if◌then◌else◌, Vec, Option, Some, cond}
use Rattle.std.specs.declared.cmp.Ordering.{Ordering}
use Rattle.std.specs.declared.cmp.Ordering.TheVariants.{Less, Equal, Greater}
use Rattle.std.specs.Ordering.{is_eq, match_ordering}
use Rattle.std.specs.List.{AllByRecursion}
use Rattle.std.specs.Map.{lookup, keys_of}
use Rattle.std.specs.BTreeMap.{insert_entry, is_at}
use Rattle.std.specs.BTreeSet.{insert_key}
use Rattle.lp_code.specs.inner.Told.{numbers_of, told_at, IsGrown}

module _ {K X : Type 0} (cmp : K → K → Ordering) (k : K) (v : X) where
  pub keys_grown : (es : List (K × X)) → keys_of (insert_entry cmp es k v) ≡ insert_key cmp (keys_of es) k
  keys_grown [] = refl
  keys_grown (e ∷ es) = by (cmp k e.0) (keys_grown es)
    where
      by : (r : Ordering) → keys_of (insert_entry cmp es k v) ≡ insert_key cmp (keys_of es) k
          → keys_of (match_ordering r ((k, v) ∷ e ∷ es) ((e.0, v) ∷ es) (e ∷ insert_entry cmp es k v)) ≡ match_ordering r (k ∷ e.0 ∷ keys_of es) (e.0 ∷ keys_of es) (e.0 ∷ insert_key cmp (keys_of es) k)
      by Less h = refl
      by Equal h = refl
      by Greater h = ap (λ ks. e.0 ∷ ks) h

  -- a test that passes keys of one place in the order
  module _ (test : K → Bool) (same : (e : K) → cmp k e ≡ Equal → test k ≡ test e) (apart : (e : K) → test k ≡ true → cmp k e ≡ Greater → test e ≡ false) where
    pub found_grown : (es : List (K × X)) → lookup test (insert_entry cmp es k v) ≡ cond (test k) (Some v) (lookup test es)
    found_grown [] = refl
    found_grown (e ∷ es) = by (cmp k e.0) refl (test k) refl (test e.0) refl (found_grown es)
      where
        by : (r : Ordering) → cmp k e.0 ≡ r → (b : Bool) → test k ≡ b → (d : Bool) → test e.0 ≡ d → lookup test (insert_entry cmp es k v) ≡ cond b (Some v) (lookup test es)
            → lookup test (match_ordering r ((k, v) ∷ e ∷ es) ((e.0, v) ∷ es) (e ∷ insert_entry cmp es k v)) ≡ cond b (Some v) (cond d (Some e.1) (lookup test es))
        by Less p b q d t h = rw q (rw t refl)
        by Equal p true q true t h = rw t refl
        by Equal p false q false t h = rw t refl
        by Equal p true q false t h = absurd (true≢false (sym q ∙ same e.0 p ∙ t))
        by Equal p false q true t h = absurd (true≢false (sym t ∙ sym (same e.0 p) ∙ q))
        by Greater p true q true t h = absurd (true≢false (sym t ∙ apart e.0 q p))
        by Greater p true q false t h = rw t h
        by Greater p false q true t h = rw t refl
        by Greater p false q false t h = rw t h

-- the numbers under a test, with one more number at a key
module _ {K : Type 0} (cmp : K → K → Ordering) (test : K → Bool) (k : K) (n : ℕ) (old new : List (K × Vec ℕ Global)) where
  same_found : {X : Type 0} (f g : K → Bool) → ((e : K) → f e ≡ g e) → (es : List (K × X)) → lookup f es ≡ lookup g es
  same_found f g h [] = refl
  same_found f g h (e ∷ es) = rw (h e.0) (ap (λ o. cond (g e.0) (Some e.1) o) (same_found f g h es))

  numbers_of_cond : (b : Bool) (v : Vec ℕ Global) (o : Option (Vec ℕ Global)) → numbers_of (cond b (Some v) o) ≡ (if b then v.items else numbers_of o)
  numbers_of_cond true v o = refl
  numbers_of_cond false v o = refl

  -- the test passes the keys that are in one place with k, or none of these
  pub told_grown : (same : (e : K) → cmp k e ≡ Equal → test k ≡ test e) → (is_k : (e : K) → test k ≡ true → test e ≡ is_at (cmp k) e) → IsGrown cmp k n old new
      → told_at test new ≡ (if test k then told_at test old ++ n ∷ [] else told_at test old)
  told_grown same is_k h =
      ap (told_at test) h.1 ∙ ap numbers_of (found_grown cmp k h.0 test same apart old) ∙ numbers_of_cond (test k) h.0 (lookup test old) ∙ by (test k) refl
    where
      apart : (e : K) → test k ≡ true → cmp k e ≡ Greater → test e ≡ false
      apart e p q = is_k e p ∙ ap is_eq q

      by : (b : Bool) → test k ≡ b → (if b then h.0.items else told_at test old) ≡ (if b then told_at test old ++ n ∷ [] else told_at test old)
      by true p = h.2 ∙ ap (λ o. numbers_of o ++ n ∷ []) (same_found (is_at (cmp k)) test (λ e. sym (is_k e p)) old)
      by false p = refl

-- lists of keys in order
module _ {K : Type 0} (cmp : K → K → Ordering) (k : K) where
  -- the key goes behind the ones that it is above
  pub past : (xs ys : List K) → AllByRecursion (λ x. cmp k x ≡ Greater) xs → insert_key cmp (xs ++ ys) k ≡ xs ++ insert_key cmp ys k
  past [] ys h = refl
  past (x ∷ xs) ys h = rw h.0 (ap (λ ks. x ∷ ks) (past xs ys h.1))

  pub before : (ys : List K) → AllByRecursion (λ y. cmp k y ≡ Less) ys → insert_key cmp ys k ≡ k ∷ ys
  before [] h = refl
  before (y ∷ ys) h = rw h.0 refl

-- keys that a map keeps, as keys of all kinds
module _ {J K : Type 0} (small : J → J → Ordering) (cmp : K → K → Ordering) (f : J → K) (agrees : (x y : J) → cmp (f x) (f y) ≡ small x y) (x : J) where
  pub within : (ys : List J) (more : List K) → insert_key cmp more (f x) ≡ f x ∷ more → insert_key cmp (map f ys ++ more) (f x) ≡ map f (insert_key small ys x) ++ more
  within [] more h = h
  within (y ∷ ys) more h = rw (agrees x y) (by (small x y) (within ys more h))
    where
      by : (r : Ordering) → insert_key cmp (map f ys ++ more) (f x) ≡ map f (insert_key small ys x) ++ more
          → match_ordering r (f x ∷ f y ∷ map f ys ++ more) (f y ∷ map f ys ++ more) (f y ∷ insert_key cmp (map f ys ++ more) (f x)) ≡ map f (match_ordering r (x ∷ y ∷ ys) (y ∷ ys) (y ∷ insert_key small ys x)) ++ more
      by Less e = refl
      by Equal e = refl
      by Greater e = ap (λ ks. f y ∷ ks) e

-- all of a mapped list
pub every : {J K : Type 0} (f : J → K) (P : K → Type 0) → ((x : J) → P (f x)) → (xs : List J) → AllByRecursion P (map f xs)
every f P h [] = tt
every f P h (x ∷ xs) = (h x, every f P h xs)

pub both : {K : Type 0} (P : K → Type 0) (xs ys : List K) → AllByRecursion P xs → AllByRecursion P ys → AllByRecursion P (xs ++ ys)
both P [] ys h k = k
both P (x ∷ xs) ys h k = (h.0, both P xs ys h.1 k)
