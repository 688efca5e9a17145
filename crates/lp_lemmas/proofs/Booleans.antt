-- Conjunctions, disjunctions and choices whose outcome is known.
use Rattle.std.proofs.Common.{◌≡◌, ℕ, List, Bool, true, false, refl}
use Rattle.std.specs.Prelude.{◌&&◌, ◌||◌, if◌then◌else◌, nat_eq}
use Rattle.std.specs.Str.{bytes_eq}
use Rattle.std.proofs.lemmas.Bool.{eq-eqb}
use Rattle.std.proofs.lemmas.Slice.Eq.{bytes_eq-Decides}

pub and_true_left : (x y : Bool) → (x && y) ≡ true → x ≡ true
and_true_left true y e = refl
and_true_left false y e = e

pub and_true_right : (x y : Bool) → (x && y) ≡ true → y ≡ true
and_true_right true y e = e
and_true_right false y e = absurd (cc)

pub or_false_left : (x y : Bool) → (x || y) ≡ false → x ≡ false
or_false_left false y e = refl
or_false_left true y e = absurd (cc)

pub or_false_right : (x y : Bool) → (x || y) ≡ false → y ≡ false
or_false_right false y e = e
or_false_right true y e = absurd (cc)

pub or_true_left : (x y : Bool) → (x || y) ≡ true → y ≡ false → x ≡ true
or_true_left true y e f = refl
or_true_left false y e f = absurd (cc)

pub or_middle : (x y z : Bool) → y ≡ true → (x || y || z) ≡ true
or_middle true y z e = refl
or_middle false true z e = refl
or_middle false false z e = absurd (cc)

pub or_assoc : (x y z : Bool) → ((x || y) || z) ≡ (x || (y || z))
or_assoc true y z = refl
or_assoc false y z = refl

pub choice_false : (x y : Bool) → (if x then true else y) ≡ false → (x ≡ false) × (y ≡ false)
choice_false true y e = absurd (cc)
choice_false false y e = (refl, e)

-- what holds of both sides of a choice
pub choice_has : {A : Type 0} (P : A → Type 0) (t : Bool) (x y : A) → P x → P y → P (if t then x else y)
choice_has P true x y p q = p
choice_has P false x y p q = q

pub and_equal : (x : Bool) (m n : ℕ) → x ≡ true → m ≡ n → (x && nat_eq m n) ≡ true
and_equal x m n p q = λ i. p i && eq-eqb m n q i

pub bytes_eq_self : (a : List ℕ) → bytes_eq a a ≡ true
bytes_eq_self a = (bytes_eq-Decides a a).1 refl

pub bytes_eq_true : (a b : List ℕ) → bytes_eq a b ≡ true → a ≡ b
bytes_eq_true a b = (bytes_eq-Decides a b).0
