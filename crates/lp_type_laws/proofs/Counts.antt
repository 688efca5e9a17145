-- Solving goes turn by turn, and the number of turns that are left falls by one.
use Rattle.std.proofs.Common.{◌≡◌, ◌≢◌, ℕ, zero, suc, ◌<◌, List, [], ◌∷◌, ◌++◌, map, refl, sym, ap, ◌∙◌, arith}
use Rattle.lp_calculus.specs.Types.{Ty, instance}
use Rattle.lp_type_laws.specs.Equations.{Equation, equation, one, put_equation}
use Rattle.lp_type_laws.specs.Solving.{Look, nothing, parts, binds, clash, look, Outcome, unfinished, fails, solve, Turn, clashes, goes, turn_of, turn}
use Rattle.lp_type_laws.proofs.Ends.{solve_ends}
use Rattle.lp_type_laws.proofs.Solves.{Next}

abbrev pub after_turn : ℕ → Turn → Outcome
after_turn n clashes = fails
after_turn n (goes es θ) = solve n es θ

next_turn : (n : ℕ) (es : List Equation) (θ : ℕ → Ty) (l : Look) → Next n es θ l ≡ after_turn n (turn_of l es θ)
next_turn n es θ nothing = refl
next_turn n es θ (parts ps) = refl
next_turn n es θ (binds x t) = refl
next_turn n es θ clash = refl

pub solve_turn : (n : ℕ) (e : Equation) (es : List Equation) (θ : ℕ → Ty) → solve (suc n) (e ∷ es) θ ≡ after_turn n (turn e es θ)
solve_turn n (equation a b) es θ = next_turn n es θ (look a b)

-- the turns that are taken, of at most n
abbrev taken : ℕ → List Equation → (ℕ → Ty) → ℕ
taken zero es θ = zero
taken (suc n) [] θ = zero
taken (suc n) (equation a b ∷ es) θ = elim (look a b) [
  | nothing ↦ suc (taken n es θ)
  | parts ps ↦ suc (taken n (ps ++ es) θ)
  | binds x t ↦ suc (taken n (map (put_equation (one x t)) es) (λ i. instance (one x t) (θ i)))
  | clash ↦ suc zero
]

abbrev taken_after : ℕ → Turn → ℕ
taken_after n clashes = suc zero
taken_after n (goes es θ) = suc (taken n es θ)

abbrev NextTaken : ℕ → List Equation → (ℕ → Ty) → Look → ℕ
NextTaken n es θ l = elim l [
  | nothing ↦ suc (taken n es θ)
  | parts ps ↦ suc (taken n (ps ++ es) θ)
  | binds x t ↦ suc (taken n (map (put_equation (one x t)) es) (λ i. instance (one x t) (θ i)))
  | clash ↦ suc zero
]

next_taken : (n : ℕ) (es : List Equation) (θ : ℕ → Ty) (l : Look) → NextTaken n es θ l ≡ taken_after n (turn_of l es θ)
next_taken n es θ nothing = refl
next_taken n es θ (parts ps) = refl
next_taken n es θ (binds x t) = refl
next_taken n es θ clash = refl

taken_turn : (n : ℕ) (e : Equation) (es : List Equation) (θ : ℕ → Ty) → taken (suc n) (e ∷ es) θ ≡ taken_after n (turn e es θ)
taken_turn n (equation a b) es θ = next_taken n es θ (look a b)

-- once there are enough, more change nothing
taken_same : (n m : ℕ) (es : List Equation) (θ : ℕ → Ty) → solve n es θ ≢ unfinished → solve m es θ ≢ unfinished → taken n es θ ≡ taken m es θ
taken_same zero zero es θ h k = refl
taken_same zero (suc m) [] θ h k = refl
taken_same zero m (e ∷ es) θ h k = absurd (h refl)
taken_same (suc n) zero [] θ h k = refl
taken_same (suc n) zero (e ∷ es) θ h k = absurd (k refl)
taken_same (suc n) (suc m) [] θ h k = refl
taken_same (suc n) (suc m) (e ∷ es) θ h k =
    taken_turn n e es θ ∙
    go (λ fs ι. taken_same n m fs ι) (turn e es θ) (λ f. h (solve_turn n e es θ ∙ f)) (λ f. k (solve_turn m e es θ ∙ f)) ∙
    sym (taken_turn m e es θ)
  where
    go : ((fs : List Equation) (ι : ℕ → Ty) → solve n fs ι ≢ unfinished → solve m fs ι ≢ unfinished → taken n fs ι ≡ taken m fs ι) →
        (t : Turn) → after_turn n t ≢ unfinished → after_turn m t ≢ unfinished → taken_after n t ≡ taken_after m t
    go ih clashes a b = refl
    go ih (goes fs ι) a b = ap suc (ih fs ι a b)

-- how many turns are left
pub turns : List Equation → (ℕ → Ty) → ℕ
turns es θ = taken (suc (solve_ends es θ).0) es θ

more_ends : (n : ℕ) (es : List Equation) (θ : ℕ → Ty) → solve n es θ ≢ unfinished → solve (suc n) es θ ≢ unfinished
more_ends zero [] θ h = h
more_ends zero (e ∷ es) θ h = absurd (h refl)
more_ends (suc n) [] θ h = h
more_ends (suc n) (e ∷ es) θ h = λ f. go (λ fs ι. more_ends n fs ι) (turn e es θ) (λ g. h (solve_turn n e es θ ∙ g)) (sym (solve_turn (suc n) e es θ) ∙ f)
  where
    go : ((fs : List Equation) (ι : ℕ → Ty) → solve n fs ι ≢ unfinished → solve (suc n) fs ι ≢ unfinished) →
        (t : Turn) → after_turn n t ≢ unfinished → after_turn (suc n) t ≡ unfinished → ⊥
    go ih clashes a b = a b
    go ih (goes fs ι) a b = ih fs ι a b

pub turns_fall : (e : Equation) (es fs : List Equation) (θ ι : ℕ → Ty) → turn e es θ ≡ goes fs ι → turns fs ι < turns (e ∷ es) θ
unfolding turns
turns_fall e es fs θ ι t =
    let E = solve_ends (e ∷ es) θ in
    let F = solve_ends fs ι in
    let ended : solve E.0 fs ι ≢ unfinished = λ f. more_ends E.0 (e ∷ es) θ E.1 (solve_turn E.0 e es θ ∙ ap (after_turn E.0) t ∙ f) in
    let same : taken (suc F.0) fs ι ≡ taken E.0 fs ι = taken_same (suc F.0) E.0 fs ι (more_ends F.0 fs ι F.1) ended in
    let one : taken (suc E.0) (e ∷ es) θ ≡ suc (taken E.0 fs ι) = taken_turn E.0 e es θ ∙ ap (taken_after E.0) t in
    omega arith
