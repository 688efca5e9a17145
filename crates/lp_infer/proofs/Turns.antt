-- Each task that is done leaves fewer turns.
use Rattle.std.proofs.Common.{◌≡◌, ℕ, zero, suc, ◌+◌, ◌<◌, ◌≤◌, List, [], ◌∷◌, length, Option, sym, ap, subst, inl, inr, arith}
use Rattle.std.specs.Prelude.{◌⊎◌}
use Rattle.std.proofs.lemmas.Bool.{cases_lt}
use Rattle.lp_base.specs.declared.place.Spot.{Spot}
use Rattle.lp_infer.specs.inner.Turns.{turns_of, turns}
use Rattle.lp_infer.specs.Visits.{AreOpen}
use Rattle.lp_infer.specs.declared.lookup.Task.{Task}
use Rattle.lp_infer.specs.declared.lookup.Task.TheVariants as task

at_most : (m n : ℕ) → m ≤ n → turns_of m ≤ turns_of n
at_most m zero h = let e : m ≡ 0 = omega (arith, h) in subst (λ k. turns_of k ≤ 1) (sym e) (omega arith)
at_most m (suc n) h = go (cases_lt m (suc n)) (λ l. at_most m n l) where
  go : (m < suc n) ⊎ (suc n ≤ m) → (m ≤ n → turns_of m ≤ turns_of n) → turns_of m ≤ turns_of n + turns_of n + 2
  go (inl l) k = let r = k (omega (arith, l)) in omega (arith, r)
  go (inr l) k = let e : m ≡ suc n = omega (arith, h, l) in subst (λ j. turns_of j ≤ turns_of n + turns_of n + 2) (sym e) (omega arith)

pub some : (n : ℕ) → 0 < turns_of n
some zero = omega arith
some (suc n) = omega arith

pub two_older : (n f x : ℕ) → f < n → x < n → turns_of f + turns_of x + 1 < turns_of n
two_older zero f x a b = absurd (omega (arith, a))
two_older (suc n) f x a b =
    let p = at_most f n (omega (arith, a)) in
    let q = at_most x n (omega (arith, b)) in
    omega (arith, p, q)

pub leaf_left : (n : ℕ) (ts : List Task) → turns ts < turns (task.Visit n ∷ ts)
leaf_left n ts = let h = some n in omega (arith, h)

pub application_left : (n f x : ℕ) (ts : List Task) → f < n → x < n → turns (task.Visit f ∷ task.Visit x ∷ task.Apply ∷ ts) < turns (task.Visit n ∷ ts)
application_left n f x ts a b = let h = two_older n f x a b in omega (arith, h)

pub abstraction_left : (n b : ℕ) (s : Spot) (outside : Option ℕ) (ts : List Task) → b < n → turns (task.Visit b ∷ task.Leave s outside ∷ ts) < turns (task.Visit n ∷ ts)
abstraction_left n b s outside ts a = let h = two_older n b b a a in let k = some b in omega (arith, h, k)

-- there are no more open abstractions than tasks
pub few_open : (text : List ℕ) (scope : List (List ℕ)) (ts : List Task) → AreOpen text scope ts → length scope ≤ length ts
few_open text scope [] h = let e = ap length h in omega (arith, e)
few_open text scope (task.Visit n ∷ ts) h = let k = few_open text scope ts h in omega (arith, k)
few_open text scope (task.Apply ∷ ts) h = let k = few_open text scope ts h in omega (arith, k)
few_open text [] (task.Leave s outside ∷ ts) h = absurd h
few_open text (y ∷ ys) (task.Leave s outside ∷ ts) h = let k = few_open text ys ts h.2 in omega (arith, k)
