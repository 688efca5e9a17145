-- What comes with enough steps: a function of the number of steps gives something for some number. Where more steps change nothing, two such parts
-- come with one number.
use Rattle.std.proofs.Common.{◌≡◌, ℕ, ◌+◌, ◌≤◌, ◌∙◌, refl, ap, arith, Bool, true, false, Option, Some}
use Rattle.std.specs.Prelude.{option_map, option_and_then}
use Rattle.lp_unify_laws.proofs.MoreSteps.Scans.{Below}

abbrev pub Comes : {A : Type 0} → (ℕ → Option A) → Type 0
Comes {A} f = (n : ℕ) × (x : A) × (f n ≡ Some x)

abbrev pub Grows : {A : Type 0} → (ℕ → Option A) → Type 0
Grows f = (n m : ℕ) → n ≤ m → Below (f n) (f m)

pub comes_at_once : {A : Type 0} (f : ℕ → Option A) (x : A) → f 0 ≡ Some x → Comes f
comes_at_once f x e = (0, x, e)

pub comes_map : {A B : Type 0} (f : ℕ → Option A) (h : A → B) → Comes f → Comes (λ n. option_map h (f n))
comes_map f h c = (c.0, h c.1, ap (option_map h) c.2)

-- one behind the other
pub comes_then : {A B : Type 0} (f : ℕ → Option A) (g : ℕ → A → Option B) → Grows f → ((x : A) → Grows (λ n. g n x)) → Comes f → ((x : A) (n : ℕ) → f n ≡ Some x → Comes (λ n. g n x)) → Comes (λ n. option_and_then (g n) (f n))
comes_then f g grow more c next =
    let d = next c.1 c.0 c.2 in
    let m = c.0 + d.0 in
    let e = grow c.0 m (omega arith) c.1 c.2 in
    let i = more c.1 d.0 m (omega arith) d.1 d.2 in
    (m, d.1, ap (option_and_then (g m)) e ∙ i)

-- a choice that does not depend on the steps
pub comes_if : {A : Type 0} (b : Bool) (f g : ℕ → Option A) → (b ≡ true → Comes f) → (b ≡ false → Comes g) → Comes {A = A} (λ n. elim b [ true ↦ f n | false ↦ g n ])
comes_if true f g p q = p refl
comes_if false f g p q = q refl
