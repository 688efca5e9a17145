-- Solving that goes on from types for the variables; and what a limit leaves as it is.
use Rattle.std.proofs.Common.{◌≡◌, ℕ, suc, ◌<◌, ◌≤◌, List, map, refl, sym, ap, ◌∙◌, arith}
use Rattle.std.specs.Prelude.{nat_lt, if◌then◌else◌, Bool, true, false}
use Rattle.std.proofs.lemmas.Bool.{ltb-false}
use mathlib.Core.Path.{fun_ext}
use Rattle.lp_calculus.specs.Types.{Ty, instance}
use Rattle.lp_calculus.proofs.TypeLaws.{instance-instance}
use Rattle.lp_type_laws.specs.Equations.{Equation, AllHold, IsMostGeneralFrom, HaveNoSolutionFrom, put_equation}
use Rattle.lp_type_laws.specs.Solving.{Outcome, fails, solved, solve}
use Rattle.lp_type_laws.specs.Units.{units, spent, ended, solve_within}
use Rattle.lp_type_laws.proofs.Solves.{solve_sound, fails_rightly, hold_put, put_hold, agree_hold}
use Rattle.lp_type_laws.proofs.Within.{more_than_spent}

pub going_on : (n : ℕ) (es : List Equation) (θ ι : ℕ → Ty) → solve n (map (put_equation θ) es) θ ≡ solved ι → IsMostGeneralFrom θ es ι
going_on n es θ ι e =
    let R = solve_sound n (map (put_equation θ) es) θ ι e in
    record {
      solves = agree_hold (λ i. instance R.rest (θ i)) ι (λ x. sym (R.is x)) es (hold_put R.rest θ es R.general.solves);
      first = λ ρ f h x.
          let held : AllHold ρ (map (put_equation θ) es) = put_hold ρ θ es (agree_hold ρ (λ i. instance ρ (θ i)) (λ i. sym (f i)) es h) in
          ap (instance ρ) (R.is x) ∙ instance-instance R.rest ρ (θ x) ∙ ap (λ κ. instance κ (θ x)) (fun_ext (R.general.first ρ held)) ∙ f x;
    }

pub going_nowhere : (n : ℕ) (es : List Equation) (θ : ℕ → Ty) → solve n (map (put_equation θ) es) θ ≡ fails → HaveNoSolutionFrom θ es
going_nowhere n es θ e ρ f h = fails_rightly n (map (put_equation θ) es) θ e ρ (put_hold ρ θ es (agree_hold ρ (λ i. instance ρ (θ i)) (λ i. sym (f i)) es h))

pub as_without : (limit used : ℕ) (o : Outcome) (es : List Equation) (θ : ℕ → Ty) → solve_within limit es θ ≡ ended used o →
    (n : ℕ) × (solve n es θ ≡ o) × (used ≡ units n es θ) × (used ≤ limit)
as_without limit used o es θ e = go (nat_lt limit (units (suc limit) es θ)) refl e
  where
    number : {u v : ℕ} {p q : Outcome} → ended u p ≡ ended v q → u ≡ v
    number {u} f = ap (λ x. elim x [ spent ↦ u | ended w r ↦ w ]) f

    outcome : {u v : ℕ} {p q : Outcome} → ended u p ≡ ended v q → p ≡ q
    outcome {u} {v} {p} f = ap (λ x. elim x [ spent ↦ p | ended w r ↦ r ]) f

    go : (b : Bool) → nat_lt limit (units (suc limit) es θ) ≡ b → (if b then spent else ended (units (suc limit) es θ) (solve (suc limit) es θ)) ≡ ended used o →
        (n : ℕ) × (solve n es θ ≡ o) × (used ≡ units n es θ) × (used ≤ limit)
    go true q f = cc
    go false q f =
        let u : units (suc limit) es θ ≡ used = number f in
        let l : units (suc limit) es θ ≤ limit = ltb-false limit (units (suc limit) es θ) q in
        (suc limit, outcome f, sym u, omega (arith, u, l))

pub passed : (limit n : ℕ) (es : List Equation) (θ : ℕ → Ty) → limit < units n es θ → solve_within limit es θ ≡ spent
passed limit n es θ l = more_than_spent limit n es θ l
