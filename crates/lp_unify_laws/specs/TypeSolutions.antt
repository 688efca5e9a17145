-- Types that solve type equations, and the equations as lp_type_laws has them.
use Rattle.std.specs.Prelude.{◌≡◌, ℕ, List, [], ◌∷◌}
use Rattle.lp_calculus.specs.Types.{Ty, instance}
use Rattle.lp_type_laws.specs.Equations.{Equation, equation}
use Rattle.lp_model.specs.Types.{TypePair, TypeBinding}

-- both sides of each equation then are one type
abbrev pub Unifies : (ℕ → Ty) → List TypePair → Type 0
Unifies θ [] = Unit {0}
Unifies θ (p ∷ ps) = (instance θ p.left ≡ instance θ p.right) × Unifies θ ps

-- each bound type variable is then its value
abbrev pub Satisfies : (ℕ → Ty) → List TypeBinding → Type 0
Satisfies θ [] = Unit {0}
Satisfies θ (b ∷ bs) = (θ b.id ≡ instance θ b.value) × Satisfies θ bs

-- the same equations, as they are solved by a substitution
abbrev pub equations : List TypePair → List Equation
equations [] = []
equations (p ∷ ps) = equation p.left p.right ∷ equations ps
