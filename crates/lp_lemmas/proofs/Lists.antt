-- Lists that are read, put together, mapped or shortened.
use Rattle.std.proofs.Common.{◌≡◌, ℕ, zero, suc, ◌+◌, ◌-◌, ◌<◌, ◌≤◌, List, [], ◌∷◌, ◌++◌, Bool, true, false, true≢false, Some, length, map, reverse, take, drop, get_or, set, refl, sym, ap, ◌∙◌, subst, arith}
use Rattle.std.specs.Prelude.{◌||◌, All, nat_eq, slice_get, slice_range, option_map}
use Rattle.std.specs.List.{list_any}
use Rattle.std.proofs.lemmas.Bool.{eq-eqb, or_left, or_right}
use Rattle.std.proofs.lemmas.List.{append-nil, map-append, reverse-append, drop_more}
use Rattle.std.proofs.lemmas.List.Elements.{All-head, All-tail}
use Rattle.std.proofs.lemmas.Option.{slice_get-get_or}

pub cons_equal : {A : Type 0} (x y : A) (xs ys : List A) → x ≡ y → xs ≡ ys → x ∷ xs ≡ y ∷ ys
cons_equal x y xs ys e f = λ i. e i ∷ f i

pub cons_head : {A : Type 0} (x y : A) (xs ys : List A) → x ∷ xs ≡ y ∷ ys → x ≡ y
cons_head x y xs ys e = cc

pub cons_tail : {A : Type 0} (x y : A) (xs ys : List A) → x ∷ xs ≡ y ∷ ys → xs ≡ ys
cons_tail x y xs ys e = cc

pub single_equal : {A : Type 0} (x y : A) → x ∷ [] ≡ y ∷ [] → x ≡ y
single_equal x y e = cc

-- the length of what is put together

pub length_push_suc : {A : Type 0} (xs : List A) (x : A) → length (xs ++ x ∷ []) ≡ suc (length xs)
length_push_suc [] x = refl
length_push_suc (y ∷ xs) x = ap suc (length_push_suc xs x)

pub length_front : {A : Type 0} (xs ys : List A) → length xs ≤ length (xs ++ ys)
length_front [] ys = omega arith
length_front (x ∷ xs) ys = let q = length_front xs ys in omega arith

pub append_nil_sym : {A : Type 0} (xs : List A) → xs ≡ xs ++ []
append_nil_sym xs = sym (append-nil xs)

pub append_injective : {A : Type 0} (xs ys us vs : List A) → length xs ≡ length ys → xs ++ us ≡ ys ++ vs → (xs ≡ ys) × (us ≡ vs)
append_injective [] [] us vs l e = (refl, e)
append_injective [] (y ∷ ys) us vs l e = absurd (omega (arith, l))
append_injective (x ∷ xs) [] us vs l e = absurd (omega (arith, l))
append_injective (x ∷ xs) (y ∷ ys) us vs l e =
    let h : x ≡ y = cc in
    let t : xs ++ us ≡ ys ++ vs = cc in
    let k : length xs ≡ length ys = omega (arith, l) in
    let w = append_injective xs ys us vs k t in
    ((λ i. h i ∷ w.0 i), w.1)

-- elements by their places

pub get_below : {A : Type 0} (xs : List A) (i : ℕ) → i < length xs → (x : A) × (slice_get xs i ≡ Some x)
get_below [] i h = absurd (omega (arith, h))
get_below (x ∷ xs) zero h = (x, refl)
get_below (x ∷ xs) (suc i) h = get_below xs i (omega (arith, h))

pub get_push : {A : Type 0} (xs : List A) (y : A) → slice_get (xs ++ y ∷ []) (length xs) ≡ Some y
get_push [] y = refl
get_push (x ∷ xs) y = get_push xs y

pub get_append : {A : Type 0} (xs ys : List A) (i : ℕ) (x : A) → slice_get xs i ≡ Some x → slice_get (xs ++ ys) i ≡ Some x
get_append [] ys i x e = absurd (cc)
get_append (y ∷ xs) ys zero x e = e
get_append (y ∷ xs) ys (suc i) x e = get_append xs ys i x e

pub get_map : {A B : Type 0} (f : A → B) (xs : List A) (i : ℕ) (x : A) → slice_get xs i ≡ Some x → slice_get (map f xs) i ≡ Some (f x)
get_map f [] i x e = absurd (cc)
get_map f (y ∷ xs) zero x e = ap (option_map f) e
get_map f (y ∷ xs) (suc i) x e = get_map f xs i x e

pub get_from_map : {A B : Type 0} (f : A → B) (xs : List A) (i : ℕ) (y : B) → slice_get (map f xs) i ≡ Some y → (x : A) × (slice_get xs i ≡ Some x) × (y ≡ f x)
get_from_map f [] i y e = absurd (cc)
get_from_map f (x ∷ xs) zero y e = let q : y ≡ f x = cc in (x, refl, q)
get_from_map f (x ∷ xs) (suc i) y e = get_from_map f xs i y e

pub get_read : {A : Type 0} (xs ys : List A) (i : ℕ) (x d : A) → ys ≡ xs → i < length ys → x ≡ get_or ys i d → slice_get xs i ≡ Some x
get_read xs ys i x d e l r = subst (λ z. slice_get z i ≡ Some x) e (slice_get-get_or ys i d l ∙ ap (λ z. Some z) (sym r))

pub get_or_last : {A : Type 0} (xs : List A) (y d : A) (i : ℕ) → i ≡ length xs → get_or (xs ++ y ∷ []) i d ≡ y
get_or_last [] y d i h = rw h refl
get_or_last (x ∷ xs) y d zero h = absurd (omega arith)
get_or_last (x ∷ xs) y d (suc i) h = get_or_last xs y d i (omega arith)

pub get_or_length : {A : Type 0} (xs : List A) (y d : A) → get_or (xs ++ y ∷ []) (length xs) d ≡ y
get_or_length xs y d = get_or_last xs y d (length xs) refl

pub get_or_set_default : {A : Type 0} (xs : List A) (i : ℕ) (x : A) → get_or (set xs i x) i x ≡ x
get_or_set_default [] i x = refl
get_or_set_default (y ∷ ys) zero x = refl
get_or_set_default (y ∷ ys) (suc i) x = get_or_set_default ys i x

-- what begins or ends at a place

pub drop_read : {A : Type 0} (xs : List A) (i : ℕ) (x : A) → i < length xs → x ≡ get_or xs i x → drop i xs ≡ x ∷ drop (i + 1) xs
drop_read xs i x lt is = drop_more xs i x lt ∙ ap (λ y. y ∷ drop (i + 1) xs) (sym is)

pub take_suc : {A : Type 0} (xs : List A) (i : ℕ) (x : A) → slice_get xs i ≡ Some x → take (suc i) xs ≡ take i xs ++ x ∷ []
take_suc [] i x e = absurd (cc)
take_suc (y ∷ ys) zero x e = let f : y ≡ x = cc in ap (λ z. z ∷ []) f
take_suc (y ∷ ys) (suc i) x e = ap (λ l. y ∷ l) (take_suc ys i x e)

pub slice_range_none : {A : Type 0} (xs : List A) (i : ℕ) → slice_range xs i i ≡ []
slice_range_none xs i = let z : i - i ≡ 0 = omega arith in ap (λ n. take n (drop i xs)) z

-- what is mapped or turned round

pub map_take : {A B : Type 0} (f : A → B) (n : ℕ) (xs : List A) → map f (take n xs) ≡ take n (map f xs)
map_take f zero xs = refl
map_take f (suc n) [] = refl
map_take f (suc n) (x ∷ xs) = ap (λ l. f x ∷ l) (map_take f n xs)

pub map_reverse : {A B : Type 0} (f : A → B) (xs : List A) → map f (reverse xs) ≡ reverse (map f xs)
map_reverse f [] = refl
map_reverse f (x ∷ xs) =
    ap (map f) (reverse-append (x ∷ []) xs) ∙ map-append f (reverse xs) (x ∷ []) ∙ ap (λ l. l ++ f x ∷ []) (map_reverse f xs)
    ∙ sym (reverse-append (f x ∷ []) (map f xs))

pub map_composed : {A B C : Type 0} (f : A → B) (g : B → C) (h : A → C) → ((x : A) → g (f x) ≡ h x) → (xs : List A) → map g (map f xs) ≡ map h xs
map_composed f g h k [] = refl
map_composed f g h k (x ∷ xs) = λ i. k x i ∷ map_composed f g h k xs i

pub map_agree_on : {A B : Type 0} (P : A → Type 0) (f g : A → B) → ((x : A) → P x → f x ≡ g x) → (xs : List A) → All P xs → map f xs ≡ map g xs
map_agree_on P f g h [] k = refl
map_agree_on P f g h (x ∷ xs) k = λ i. h x (All-head P x xs k) i ∷ map_agree_on P f g h xs (All-tail P x xs k) i

pub map_pushed : {A B : Type 0} (f : A → B) (xs ys : List A) (x : A) → ys ≡ xs ++ x ∷ [] → map f ys ≡ map f xs ++ f x ∷ []
map_pushed f xs ys x e = ap (map f) e ∙ map-append f xs (x ∷ [])

pub reverse_pushed : {A : Type 0} (all xs : List A) (x : A) → all ≡ xs ++ x ∷ [] → reverse all ≡ x ∷ reverse xs
reverse_pushed all xs x e = subst (λ z. reverse z ≡ x ∷ reverse xs) (sym e) (reverse-append xs (x ∷ []))

-- numbers in lists

pub any_append : (xs ys : List ℕ) (n : ℕ) → list_any (nat_eq n) xs ≡ true → list_any (nat_eq n) (xs ++ ys) ≡ true
any_append [] ys n e = absurd (true≢false (sym e))
any_append (x ∷ xs) ys n e = either (nat_eq n x) e (any_append xs ys n) where
  either : (b : Bool) → (b || list_any (nat_eq n) xs) ≡ true → (list_any (nat_eq n) xs ≡ true → list_any (nat_eq n) (xs ++ ys) ≡ true) → (b || list_any (nat_eq n) (xs ++ ys)) ≡ true
  either true e h = refl
  either false e h = h e

pub any_push : (xs : List ℕ) (n : ℕ) → list_any (nat_eq n) (xs ++ n ∷ []) ≡ true
any_push [] n = or_left (nat_eq n n) false (eq-eqb n n refl)
any_push (x ∷ xs) n = or_right (nat_eq n x) (list_any (nat_eq n) (xs ++ n ∷ [])) (any_push xs n)
