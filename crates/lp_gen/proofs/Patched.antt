-- An instruction at a place of the code, and variables that are left.
use Rattle.std.proofs.Common.{◌≡◌, ℕ, zero, suc, List, [], ◌∷◌, ◌++◌, map, take, set, length, get_or, ap, refl}
use Rattle.lp_code.specs.declared.instruction.Instr.TheVariants as on

pub get_there : {A : Type 0} (xs ys : List A) (y d : A) → get_or (xs ++ y ∷ ys) (length xs) d ≡ y
get_there [] ys y d = refl
get_there (x ∷ xs) ys y d = get_there xs ys y d

pub put_there : {A : Type 0} (xs ys : List A) (y w : A) → set (xs ++ y ∷ ys) (length xs) w ≡ xs ++ w ∷ ys
put_there [] ys y w = refl
put_there (x ∷ xs) ys y w = ap (λ l. x ∷ l) (put_there xs ys y w)

pub map_take : {A B : Type 0} (f : A → B) (n : ℕ) (xs : List A) → map f (take n xs) ≡ take n (map f xs)
map_take f zero xs = refl
map_take f (suc n) [] = refl
map_take f (suc n) (x ∷ xs) = ap (λ l. f x ∷ l) (map_take f n xs)

pub no_jump : (k n : ℕ) → on.Jump k ≡ on.Either n → ⊥
no_jump k n e = cc
