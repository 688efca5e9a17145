-- Equations in the other order have the same solutions.
use Rattle.std.proofs.Common.{◌≡◌, ◌∙◌, ℕ, List, [], ◌∷◌, ◌++◌, map, reverse, ap, sym, subst}
use mathlib.Core.List.{reverse-cons}
use Rattle.std.proofs.lemmas.List.{reverse-reverse}
use Rattle.lp_lemmas.proofs.Lists.{map_reverse}
use Rattle.lp_calculus.specs.Types.{Ty, instance, var}
use Rattle.lp_type_laws.specs.Equations.{Equation, Holds, AllHold, IsMostGeneral, HaveNoSolution}
use Rattle.lp_type_unify.specs.declared.bindings.Pair.{Pair}
use Rattle.lp_type_unify.specs.Reading.{read_pair, read_pairs}

hold_append : (ρ : ℕ → Ty) (es fs : List Equation) → AllHold ρ es → AllHold ρ fs → AllHold ρ (es ++ fs)
hold_append ρ [] fs h k = k
hold_append ρ (e ∷ es) fs h k = (h.0, hold_append ρ es fs h.1 k)

hold_reversed : (ρ : ℕ → Ty) (es : List Equation) → AllHold ρ es → AllHold ρ (reverse es)
hold_reversed ρ [] h = tt
hold_reversed ρ (e ∷ es) h = subst (AllHold ρ) (sym (reverse-cons e es)) (hold_append ρ (reverse es) (e ∷ []) (hold_reversed ρ es h.1) (h.0, tt))

module _ (τ : ℕ → Ty) (ps : List Pair) where
  abbrev es : List Equation
  es = map (read_pair τ var) ps

  turned : read_pairs τ var (reverse ps) ≡ es
  turned = ap reverse (map_reverse (read_pair τ var) ps) ∙ reverse-reverse es

  there : (ρ : ℕ → Ty) → AllHold ρ (read_pairs τ var (reverse ps)) → AllHold ρ (read_pairs τ var ps)
  there ρ h = hold_reversed ρ es (subst (AllHold ρ) turned h)

  back : (ρ : ℕ → Ty) → AllHold ρ (read_pairs τ var ps) → AllHold ρ (read_pairs τ var (reverse ps))
  back ρ h = subst (AllHold ρ) (sym turned) (subst (AllHold ρ) (reverse-reverse es) (hold_reversed ρ (reverse es) h))

  pub unsolved_turned : HaveNoSolution (read_pairs τ var (reverse ps)) → HaveNoSolution (read_pairs τ var ps)
  unsolved_turned h = λ ρ k. h ρ (back ρ k)

  pub general_turned : (θ : ℕ → Ty) → IsMostGeneral (read_pairs τ var (reverse ps)) θ → IsMostGeneral (read_pairs τ var ps) θ
  general_turned θ g = record { solves = there θ g.solves; first = λ ρ k. g.first ρ (back ρ k) }
