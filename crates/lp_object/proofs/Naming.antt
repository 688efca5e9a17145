-- Names in an ordered set.
use Rattle.std.proofs.Common.{rules, ◌≡◌, ℕ, Bool, true, false, List, [], ◌∷◌, ◌++◌, refl, sym, ap, ◌∙◌}
use Rattle.std.specs.Prelude.{◌||◌, ◌&&◌, nat_eq}
use Rattle.std.specs.List.{list_any}
use Rattle.std.specs.Global.{Vec}
use Rattle.std.specs.declared.cmp.Ordering.{Ordering}
use Rattle.std.specs.declared.cmp.Ordering.TheVariants.{Less, Equal, Greater}
use Rattle.std.specs.Ordering.{is_eq, nat_cmp, match_ordering, ordering_then}
use Rattle.std.specs.Cmp.Lexicographic.{slice_cmp}
use Rattle.std.specs.BTreeSet.{insert_key}
use Rattle.std.proofs.lemmas.Map.Text.{is_eq-slice_cmp}
use Rattle.std.proofs.lemmas.Map.Lookups.{exact_unsigned, exact_bytes}
use Rattle.std.proofs.lemmas.List.Folds.{list_any-append}
use Rattle.lp_object.specs.Reading.{same_global}

-- the order of names with their hidden numbers
abbrev pub name_cmp : Vec ℕ × ℕ → Vec ℕ × ℕ → Ordering
name_cmp x y = ordering_then (slice_cmp nat_cmp x.0.items y.0.items) (nat_cmp x.1 y.1)

abbrev pub plain_name : Vec ℕ × ℕ → List ℕ × ℕ
plain_name x = (x.0.items, x.1)

then_is_eq : (a b : Ordering) → is_eq (ordering_then a b) ≡ (is_eq a && is_eq b)
then_is_eq Less b = refl
then_is_eq Equal b = refl
then_is_eq Greater b = refl

pub any_same : {A : Type 0} (p q : A → Bool) → ((x : A) → p x ≡ q x) → (xs : List A) → list_any p xs ≡ list_any q xs
any_same p q h [] = refl
any_same p q h (x ∷ xs) = λ i. h x i || any_same p q h xs i

or_same : (a b : Bool) → (a || b) ≡ (a || (a || b))
or_same true b = refl
or_same false b = refl

or_swap : (a b c : Bool) → (a || (b || c)) ≡ (b || (a || c))
or_swap true true c = refl
or_swap true false c = refl
or_swap false true c = refl
or_swap false false c = refl

inserted : {A : Type 0} (P : A → Bool) (k x : A) (xs ys : List A) (o : Ordering) → (o ≡ Equal → P k ≡ P x) → list_any P ys ≡ (P k || list_any P xs)
    → list_any P (match_ordering o (k ∷ x ∷ xs) (x ∷ xs) (x ∷ ys)) ≡ (P k || (P x || list_any P xs))
inserted P k x xs ys Less h e = refl
inserted P k x xs ys Equal h e = or_same (P x) (list_any P xs) ∙ ap (λ b. b || (P x || list_any P xs)) (sym (h refl))
inserted P k x xs ys Greater h e = ap (λ b. P x || b) e ∙ or_swap (P x) (P k) (list_any P xs)

pub any_inserted : {A : Type 0} (cmp : A → A → Ordering) (P : A → Bool) → ((x y : A) → cmp x y ≡ Equal → P x ≡ P y) → (xs : List A) (k : A) → list_any P (insert_key cmp xs k) ≡ (P k || list_any P xs)
any_inserted cmp P h [] k = refl
any_inserted cmp P h (x ∷ xs) k = inserted P k x xs (insert_key cmp xs k) (cmp k x) (h k x) (any_inserted cmp P h xs k)

nat_cmp_is : (m n : ℕ) → is_eq (nat_cmp m n) ≡ nat_eq m n
nat_cmp_is m n = search rules

pub cmp_is : (x y : Vec ℕ × ℕ) → is_eq (name_cmp x y) ≡ same_global (plain_name x) (plain_name y)
cmp_is x y = then_is_eq (slice_cmp nat_cmp x.0.items y.0.items) (nat_cmp x.1 y.1) ∙ (λ i. is_eq-slice_cmp x.0.items y.0.items i && nat_cmp_is x.1 y.1 i)

then_equal : (a b : Ordering) → ordering_then a b ≡ Equal → (a ≡ Equal) × (b ≡ Equal)
then_equal Less b e = absurd (cc)
then_equal Equal b e = (refl, e)
then_equal Greater b e = absurd (cc)

-- equal names are told alike
pub names_alike : (n : List ℕ × ℕ) (x y : Vec ℕ × ℕ) → name_cmp x y ≡ Equal → same_global n (plain_name x) ≡ same_global n (plain_name y)
names_alike n x y e =
    let w = then_equal (slice_cmp nat_cmp x.0.items y.0.items) (nat_cmp x.1 y.1) e in
    let s : x.0.items ≡ y.0.items = exact_bytes x.0.items y.0.items w.0 in
    let h : x.1 ≡ y.1 = exact_unsigned x.1 y.1 w.1 in
    λ i. same_global n (s i, h i)

-- one name more at the end
pub known_more : (P : List ℕ × ℕ → Bool) (old : Bool) (before : List (List ℕ × ℕ)) (x : List ℕ × ℕ) → old ≡ list_any P before → (P x || old) ≡ list_any P (before ++ x ∷ [])
known_more P old before x e = ap (λ b. P x || b) e ∙ or_end (P x) (list_any P before) ∙ sym (list_any-append P before (x ∷ []))
  where
    or_end : (a b : Bool) → (a || b) ≡ (b || (a || false))
    or_end true true = refl
    or_end true false = refl
    or_end false true = refl
    or_end false false = refl

-- whether a name is one of these
pub told_before : (key : Vec ℕ × ℕ) (name : List ℕ) (ks : List (Vec ℕ × ℕ)) → key.0.items ≡ name → list_any (λ k. is_eq (name_cmp key k)) ks ≡ list_any (λ k. same_global (name, key.1) (plain_name k)) ks
told_before key name ks e = any_same (λ k. is_eq (name_cmp key k)) (λ k. same_global (name, key.1) (plain_name k)) (λ k. cmp_is key k ∙ ap (λ n. same_global (n, key.1) (plain_name k)) e) ks

pub told_after : (n : List ℕ × ℕ) (key : Vec ℕ × ℕ) (name : List ℕ) (ks new : List (Vec ℕ × ℕ)) → key.0.items ≡ name → new ≡ insert_key name_cmp ks key
    → list_any (λ k. same_global n (plain_name k)) new ≡ (same_global n (name, key.1) || list_any (λ k. same_global n (plain_name k)) ks)
told_after n key name ks new e h =
    ap (list_any (λ k. same_global n (plain_name k))) h ∙ any_inserted name_cmp (λ k. same_global n (plain_name k)) (names_alike n) ks key
    ∙ ap (λ m. same_global n (m, key.1) || list_any (λ k. same_global n (plain_name k)) ks) e
