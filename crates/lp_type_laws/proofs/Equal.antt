-- Solving passes an equation of a type with itself.
use Rattle.std.proofs.Common.{◌≡◌, ℕ, suc, ◌<◌, ◌≤◌, List, [], ◌∷◌, ◌++◌, Some, None, refl, ap, ◌∙◌, arith}
use Rattle.std.specs.Prelude.{if◌then◌else◌, nat_lt}
use Rattle.std.proofs.lemmas.Bool.{eq-eqb}
use Rattle.lp_calculus.specs.Types.{Ty, Tys, var, param, con, arrow, no_types, types}
use Rattle.lp_type_laws.specs.Equations.{Equation, equation}
use Rattle.lp_type_laws.specs.Solving.{nothing, binds, clash, pairs, look_parts, solve, goes, turn_of, turn}
use Rattle.lp_type_laws.proofs.Counts.{solve_turn, after_turn, turns, turns_fall}

abbrev same_all : Tys → List Equation
same_all no_types = []
same_all (types t ts) = equation t t ∷ same_all ts

pairs_same : (ts : Tys) → pairs ts ts ≡ Some (same_all ts)
pairs_same no_types = refl
pairs_same (types t ts) = ap (λ o. elim o [ None ↦ None | Some es ↦ Some (equation t t ∷ es) ]) (pairs_same ts)

turn_var : (x : ℕ) (es : List Equation) (θ : ℕ → Ty) → turn (equation (var x) (var x)) es θ ≡ goes es θ
turn_var x es θ = ap (λ b. turn_of (if b then nothing else (if nat_lt x x then binds x (var x) else binds x (var x))) es θ) (eq-eqb x x refl)

turn_param : (k : ℕ) (es : List Equation) (θ : ℕ → Ty) → turn (equation (param k) (param k)) es θ ≡ goes es θ
turn_param k es θ = ap (λ b. turn_of (if b then nothing else clash) es θ) (eq-eqb k k refl)

turn_con : (c : ℕ) (ts : Tys) (es : List Equation) (θ : ℕ → Ty) → turn (equation (con c ts) (con c ts)) es θ ≡ goes (same_all ts ++ es) θ
turn_con c ts es θ = ap (λ b. turn_of (if b then look_parts (pairs ts ts) else clash) es θ) (eq-eqb c c refl) ∙ ap (λ o. turn_of (look_parts o) es θ) (pairs_same ts)

-- runs that pass it

abbrev Passes : List Equation → List Equation → (ℕ → Ty) → Type 0
Passes from to θ = (n : ℕ) → (m : ℕ) × (solve m from θ ≡ solve n to θ)

passes_turn : (e : Equation) (es fs gs : List Equation) (θ : ℕ → Ty) → turn e es θ ≡ goes fs θ → Passes fs gs θ → Passes (e ∷ es) gs θ
passes_turn e es fs gs θ t p n = let q = p n in (suc q.0, solve_turn q.0 e es θ ∙ ap (after_turn q.0) t ∙ q.1)

passes_both : (es fs gs : List Equation) (θ : ℕ → Ty) → Passes es fs θ → Passes fs gs θ → Passes es gs θ
passes_both es fs gs θ p q n = let r = q n in let s = p r.0 in (s.0, s.1 ∙ r.1)

mutual
  pub equal_passes : (t : Ty) (es : List Equation) (θ : ℕ → Ty) → Passes (equation t t ∷ es) es θ
  equal_passes (var x) es θ = passes_turn (equation (var x) (var x)) es es es θ (turn_var x es θ) (λ n. (n, refl))
  equal_passes (param k) es θ = passes_turn (equation (param k) (param k)) es es es θ (turn_param k es θ) (λ n. (n, refl))
  equal_passes (con c ts) es θ = passes_turn (equation (con c ts) (con c ts)) es (same_all ts ++ es) es θ (turn_con c ts es θ) (equals_pass ts es θ)
  equal_passes (arrow a b) es θ =
      passes_turn (equation (arrow a b) (arrow a b)) es (equation a a ∷ equation b b ∷ es) es θ refl
      (passes_both (equation a a ∷ equation b b ∷ es) (equation b b ∷ es) es θ (equal_passes a (equation b b ∷ es) θ) (equal_passes b es θ))

  equals_pass : (ts : Tys) (es : List Equation) (θ : ℕ → Ty) → Passes (same_all ts ++ es) es θ
  equals_pass no_types es θ = λ n. (n, refl)
  equals_pass (types t ts) es θ = passes_both (equation t t ∷ (same_all ts ++ es)) (same_all ts ++ es) es θ (equal_passes t (same_all ts ++ es) θ) (equals_pass ts es θ)

-- and the turns that are left grow fewer

mutual
  pub equal_turns : (t : Ty) (es : List Equation) (θ : ℕ → Ty) → turns es θ < turns (equation t t ∷ es) θ
  equal_turns (var x) es θ = turns_fall (equation (var x) (var x)) es es θ θ (turn_var x es θ)
  equal_turns (param k) es θ = turns_fall (equation (param k) (param k)) es es θ θ (turn_param k es θ)
  equal_turns (con c ts) es θ =
      let a = turns_fall (equation (con c ts) (con c ts)) es (same_all ts ++ es) θ θ (turn_con c ts es θ) in
      let b = equals_turns ts es θ in
      omega (arith, a, b)
  equal_turns (arrow a b) es θ =
      let f = turns_fall (equation (arrow a b) (arrow a b)) es (equation a a ∷ equation b b ∷ es) θ θ refl in
      let g = equal_turns a (equation b b ∷ es) θ in
      let h = equal_turns b es θ in
      omega (arith, f, g, h)

  equals_turns : (ts : Tys) (es : List Equation) (θ : ℕ → Ty) → turns es θ ≤ turns (same_all ts ++ es) θ
  equals_turns no_types es θ = omega arith
  equals_turns (types t ts) es θ =
      let a = equal_turns t (same_all ts ++ es) θ in
      let b = equals_turns ts es θ in
      omega (arith, a, b)
