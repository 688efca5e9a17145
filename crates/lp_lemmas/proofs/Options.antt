-- Options whose variant is known, and what they were made of.
use Rattle.std.proofs.Common.{◌≡◌, Option, None, Some, true, false, true≢false, refl, sym, ◌∙◌}
use Rattle.std.specs.Prelude.{IsSome, is_some, option_map, option_and_then}

pub option_map_some : {A B : Type 0} (o : Option A) (f : A → B) (y : B) → option_map f o ≡ Some y → (x : A) × (o ≡ Some x) × (f x ≡ y)
option_map_some None f y e = absurd (cc)
option_map_some (Some x) f y e = let q : f x ≡ y = cc in (x, refl, q)

pub option_map_none : {A B : Type 0} (f : A → B) (o : Option A) → option_map f o ≡ None → o ≡ None
option_map_none f None e = refl
option_map_none f (Some x) e = absurd (cc)

pub and_then_some : {A B : Type 0} (o : Option A) (f : A → Option B) (y : B) → option_and_then f o ≡ Some y → (x : A) × (o ≡ Some x) × (f x ≡ Some y)
and_then_some None f y e = absurd (cc)
and_then_some (Some x) f y e = (x, refl, e)

pub IsSome_from : {A : Type 0} (o : Option A) (x : A) → o ≡ Some x → IsSome o
IsSome_from o x e = rw e refl

pub some_from_is_some : {A : Type 0} (o : Option A) → is_some o ≡ true → (x : A) × (o ≡ Some x)
some_from_is_some None e = absurd (true≢false (sym e))
some_from_is_some (Some x) e = (x, refl)

pub none_from_is_some : {A : Type 0} (o : Option A) → is_some o ≡ false → o ≡ None
none_from_is_some None e = refl
none_from_is_some (Some x) e = absurd (true≢false e)

pub one_value : {A : Type 0} (o : Option A) (x y : A) → o ≡ Some x → o ≡ Some y → x ≡ y
one_value o x y e f = let g : Some x ≡ Some y = sym e ∙ f in cc
