-- What holds of all elements of a list by their places, and what a list contains.
use Rattle.std.proofs.Common.{◌≡◌, suc, List, [], ◌∷◌, ◌++◌, map, reverse, refl, sym, subst, arith, ⊎_elim}
use Rattle.std.specs.Prelude.{All, Contains}
use Rattle.std.proofs.lemmas.List.{reverse-append}
use Rattle.std.proofs.lemmas.List.Elements.{All-nil, All-head, All-tail, All-cons, All-push, Contains-push_cases}

pub All_empty : {A : Type 0} (P : A → Type 0) (xs : List A) → xs ≡ [] → All P xs
All_empty P xs e = subst (All P) (sym e) (All-nil P)

pub All_reverse : {A : Type 0} (P : A → Type 0) (xs : List A) → All P xs → All P (reverse xs)
All_reverse P [] a = a
All_reverse P (x ∷ xs) a = rw (reverse-append (x ∷ []) xs) (All-push P (reverse xs) x (All_reverse P xs (All-tail P x xs a)) (All-head P x xs a))

pub All_unmap : {A B : Type 0} (P : B → Type 0) (f : A → B) (xs : List A) → All P (map f xs) → All (λ x. P (f x)) xs
All_unmap P f [] h = All-nil (λ x. P (f x))
All_unmap P f (x ∷ xs) h = All-cons (λ y. P (f y)) x xs (All-head P (f x) (map f xs) h) (All_unmap P f xs (All-tail P (f x) (map f xs) h))

pub All_front : {A : Type 0} (P : A → Type 0) (xs ys : List A) → All P (xs ++ ys) → All P xs
All_front P [] ys a = All-nil P
All_front P (x ∷ xs) ys a = All-cons P x xs (All-head P x (xs ++ ys) a) (All_front P xs ys (All-tail P x (xs ++ ys) a))

pub All_back : {A : Type 0} (P : A → Type 0) (xs ys : List A) → All P (xs ++ ys) → All P ys
All_back P [] ys a = a
All_back P (x ∷ xs) ys a = All_back P xs ys (All-tail P x (xs ++ ys) a)

pub All_push_parts : {A : Type 0} (P : A → Type 0) (xs : List A) (x : A) → All P (xs ++ x ∷ []) → All P xs × P x
All_push_parts P xs x a = (All_front P xs (x ∷ []) a, All-head P x [] (All_back P xs (x ∷ []) a))

pub All_pushed : {A : Type 0} (P : A → Type 0) (all xs : List A) (x : A) → all ≡ xs ++ x ∷ [] → All P xs → P x → All P all
All_pushed P all xs x e a p = subst (All P) (sym e) (All-push P xs x a p)

pub All_popped : {A : Type 0} (P : A → Type 0) (all xs : List A) (x : A) → all ≡ xs ++ x ∷ [] → All P all → All P xs × P x
All_popped P all xs x e a = All_push_parts P xs x (subst (All P) e a)

pub Contains_head : {A : Type 0} (x : A) (xs : List A) → Contains (x ∷ xs) x
Contains_head x xs = (0, omega arith, refl)

pub Contains_tail : {A : Type 0} (x y : A) (xs : List A) → Contains xs y → Contains (x ∷ xs) y
Contains_tail x y xs (k, h, e) = (suc k, omega (arith, h), e)

pub Contains_single : {A : Type 0} (x y : A) → Contains (x ∷ []) y → x ≡ y
Contains_single x y c = ⊎_elim (λ d. absurd (omega (arith, d.1))) (λ e. e) (Contains-push_cases [] x y c)
