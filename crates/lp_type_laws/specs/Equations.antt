-- Equations of types, and what solves them.
use Rattle.std.specs.Prelude.{◌≡◌, ℕ, suc, ◌+◌, ◌<◌, List, [], ◌∷◌, Bool, true, false, nat_eq, if◌then◌else◌}
use Rattle.lp_calculus.specs.Types.{Ty, Tys, var, param, con, arrow, no_types, types, instance}

pub data Equation : Type 0 where
  equation : Ty → Ty → Equation

-- types for the type variables make both sides one type
abbrev pub Holds : (ℕ → Ty) → Equation → Type 0
Holds ρ (equation a b) = instance ρ a ≡ instance ρ b

abbrev pub AllHold : (ℕ → Ty) → List Equation → Type 0
AllHold ρ [] = Unit {0}
AllHold ρ (e ∷ es) = Holds ρ e × AllHold ρ es

-- it solves the equations, and every solution is what it becomes under that solution
pub record IsMostGeneral (es : List Equation) (θ : ℕ → Ty) : Type 0 where
  pub solves : AllHold θ es
  pub first : (ρ : ℕ → Ty) → AllHold ρ es → (x : ℕ) → instance ρ (θ x) ≡ ρ x

abbrev pub HaveNoSolution : List Equation → Type 0
HaveNoSolution es = (ρ : ℕ → Ty) → AllHold ρ es → ⊥

-- putting types for the variables first changes nothing for ρ: ρ already says what θ says
abbrev pub Follows : (ρ θ : ℕ → Ty) → Type 0
Follows ρ θ = (x : ℕ) → instance ρ (θ x) ≡ ρ x

-- it solves the equations, and every solution that already says what θ says is what it becomes under that solution
pub record IsMostGeneralFrom (θ : ℕ → Ty) (es : List Equation) (ι : ℕ → Ty) : Type 0 where
  pub solves : AllHold ι es
  pub first : (ρ : ℕ → Ty) → Follows ρ θ → AllHold ρ es → Follows ρ ι

abbrev pub HaveNoSolutionFrom : (ℕ → Ty) → List Equation → Type 0
HaveNoSolutionFrom θ es = (ρ : ℕ → Ty) → Follows ρ θ → AllHold ρ es → ⊥

-- x replaced by t
abbrev pub one : ℕ → Ty → ℕ → Ty
one x t y = if nat_eq y x then t else var y

abbrev pub put_equation : (ℕ → Ty) → Equation → Equation
put_equation θ (equation a b) = equation (instance θ a) (instance θ b)

abbrev mutual
  pub occurs : ℕ → Ty → Bool
  occurs x (var y) = nat_eq x y
  occurs x (param k) = false
  occurs x (con c ts) = occurs_in x ts
  occurs x (arrow a b) = if occurs x a then true else occurs x b

  pub occurs_in : ℕ → Tys → Bool
  occurs_in x no_types = false
  occurs_in x (types t ts) = if occurs x t then true else occurs_in x ts

-- the nodes of a type
abbrev mutual
  pub size : Ty → ℕ
  size (var i) = 1
  size (param k) = 1
  size (con c ts) = suc (sizes ts)
  size (arrow a b) = suc (size a + size b)

  pub sizes : Tys → ℕ
  sizes no_types = 0
  sizes (types t ts) = size t + sizes ts

-- all type variables are below n
abbrev mutual
  pub Below : ℕ → Ty → Type 0
  Below n (var x) = x < n
  Below n (param k) = Unit {0}
  Below n (con c ts) = AllBelow n ts
  Below n (arrow a b) = Below n a × Below n b

  pub AllBelow : ℕ → Tys → Type 0
  AllBelow n no_types = Unit {0}
  AllBelow n (types t ts) = Below n t × AllBelow n ts
