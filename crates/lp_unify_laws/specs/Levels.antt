-- What may stand in a pair of a level and in what a closing gives to a variable of a level, and pairs solved by terms for variables.
use Rattle.std.specs.Prelude.{ℕ, ◌≤◌, ◌<◌, List, [], ◌∷◌}
use Rattle.lp_calculus.specs.Term.{Term, Atom, constant, integer, text, eigen, logic, param}
use Rattle.lp_calculus.specs.Convert.{Converts}
use Rattle.lp_calculus.specs.Fill.{close, Within}
use Rattle.lp_model.specs.Pair.{Pair}

-- no logic variable, and no eigenconstant above n
abbrev pub IsLevelAtom : ℕ → Atom → Type 0
IsLevelAtom n (eigen k) = k ≤ n
IsLevelAtom n (logic x l) = ⊥
IsLevelAtom n (constant c ts) = Unit {0}
IsLevelAtom n (integer z) = Unit {0}
IsLevelAtom n (text s) = Unit {0}
IsLevelAtom n (param k t) = Unit {0}

-- a term for each variable, closed at the variable's level
pub record IsClosing (σ : ℕ → ℕ → Term) : Type 0 where
  pub closed : (x l : ℕ) → Within (IsLevelAtom l) 0 (σ x l)

-- both sides then convert
abbrev pub SolvedBy : (ℕ → ℕ → Term) → Pair → Type 0
SolvedBy σ p = Converts (close σ p.left) (close σ p.right)

abbrev pub AllSolvedBy : (ℕ → ℕ → Term) → List Pair → Type 0
AllSolvedBy σ [] = Unit {0}
AllSolvedBy σ (p ∷ ps) = SolvedBy σ p × AllSolvedBy σ ps

-- no eigenconstant above k
abbrev pub UpTo : ℕ → Atom → Type 0
UpTo k (eigen j) = j ≤ k
UpTo k (logic x l) = Unit {0}
UpTo k (constant c ts) = Unit {0}
UpTo k (integer z) = Unit {0}
UpTo k (text s) = Unit {0}
UpTo k (param i t) = Unit {0}

-- what may stand in a pair of level n: variables of levels up to n with numbers below next, eigenconstants up to n
abbrev pub IsPairAtom : (next n : ℕ) → Atom → Type 0
IsPairAtom next n (eigen k) = k ≤ n
IsPairAtom next n (logic x l) = (x < next) × (l ≤ n)
IsPairAtom next n (constant c ts) = Unit {0}
IsPairAtom next n (integer z) = Unit {0}
IsPairAtom next n (text s) = Unit {0}
IsPairAtom next n (param k t) = Unit {0}

abbrev pub IsPair : ℕ → Pair → Type 0
IsPair next p = Within (IsPairAtom next p.level) 0 p.left × Within (IsPairAtom next p.level) 0 p.right
