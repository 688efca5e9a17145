-- What the refusals of terms and of type equations become.
use Rattle.std.specs.Prelude.{◌≡◌, ℕ, ◌≤◌, Option, None}
use Rattle.lp_term.specs.declared.reduce.TermRefusal.{TermRefusal}
use Rattle.lp_type_unify.specs.declared.counted.EquationRefusal.{EquationRefusal}
use Rattle.lp_pattern.specs.declared.fault.PatternRefusal.{PatternRefusal}

abbrev pub IsOfTerm : TermRefusal → PatternRefusal → Type 0
IsOfTerm (TermRefusal.Deep n) r = r ≡ PatternRefusal.Deep
IsOfTerm TermRefusal.Memory r = r ≡ PatternRefusal.Memory

abbrev pub IsOfEquations : EquationRefusal → PatternRefusal → Type 0
IsOfEquations EquationRefusal.Fails r = r ≡ PatternRefusal.Fails
IsOfEquations EquationRefusal.Deep r = r ≡ PatternRefusal.Deep
IsOfEquations EquationRefusal.Memory r = r ≡ PatternRefusal.Memory

-- a refusal that does not say that there is no solution
abbrev pub IsNoFailure : PatternRefusal → Type 0
IsNoFailure PatternRefusal.Fails = ⊥
IsNoFailure PatternRefusal.Deep = Unit {0}
IsNoFailure PatternRefusal.Memory = Unit {0}

-- it is no failure; and it is for want of steps only where what takes so many steps, a million at most, is not there
abbrev pub IsGivenUp : (limit : ℕ) → PatternRefusal → Type 0 → Type 0
IsGivenUp n PatternRefusal.Fails A = ⊥
IsGivenUp n PatternRefusal.Deep A = n ≤ 1000000 → A → ⊥
IsGivenUp n PatternRefusal.Memory A = Unit {0}

-- it is no failure; and it is for want of steps only where the definition gives nothing in so many, a million at most
abbrev pub IsNothing : {A : Type 0} → (limit : ℕ) → PatternRefusal → Option A → Type 0
IsNothing n PatternRefusal.Fails o = ⊥
IsNothing n PatternRefusal.Deep o = n ≤ 1000000 → o ≡ None
IsNothing n PatternRefusal.Memory o = Unit {0}
