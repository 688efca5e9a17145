-- Numbers of the names of an object, and of objects.
use Rattle.std.proofs.Common.{◌≡◌, ◌∙◌, ◌+◌, ◌-◌, ◌≤◌, ℕ, List, Some, ap, inl, inr, sym, arith}
use Rattle.std.specs.Prelude.{◌⊎◌, min, slice_get}
use Rattle.std.proofs.Math.Nat.{min-eq_left}
use Rattle.lp_code.specs.declared.object.Object.{Object}
use Rattle.lp_link.specs.Differences.{number_at}
use Rattle.lp_link.specs.declared.fault.LinkRefusal.TheVariants as linked
use Rattle.lp_link.specs.declared.fault.Part.{Part}
use Rattle.lp_lines.specs.declared.refusal.Refusal.{Refusal}
use Rattle.lp_lines.specs.declared.refusal.Refusal.TheVariants as refusal
use Rattle.lp_files.specs.Said.{TellsDiffering, TellsUnlinked}

-- what has a number stands as many places behind the first one
pub number_back : (first n : ℕ) → first ≤ n → n ≤ 4294967295 → n ≡ number_at first (n - first)
number_back first n l m =
    let a : min (n - first) 4294967295 ≡ n - first = min-eq_left (omega (arith, l, m)) in
    let b : first + (n - first) ≡ n = omega (arith, l) in
    sym (ap (λ k. min (first + k) 4294967295) a ∙ ap (λ k. min k 4294967295) b ∙ min-eq_left m)

from_nought : (n : ℕ) → 0 + n ≡ n
from_nought n = omega arith

number_same : (n : ℕ) → n ≤ 4294967295 → n ≡ number_at 0 n
number_same n m = sym (ap (λ k. min k 4294967295) (from_nought (min n 4294967295) ∙ min-eq_left m) ∙ min-eq_left m)

-- what is said of the object of a number
pub differing_is : (os : List Object) (n : ℕ) (p : Part) (o : Object) (r : Refusal) → n ≤ 4294967295 → slice_get os n ≡ Some o → (r ≡ refusal.Memory) ⊎ TellsDiffering o p r → (r ≡ refusal.Memory) ⊎ TellsUnlinked os (linked.Differ n p) r
differing_is os n p o r m there (inl e) = inl e
differing_is os n p o r m there (inr t) = inr (n, o, number_same n m, there, t)
