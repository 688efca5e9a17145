-- Other eigenconstants in the place of those of a proof (Miller, Nadathur, Pfenning and Scedrov 1991: which fresh name a quantifier is opened
-- with does not matter).
use Rattle.std.specs.Prelude.{◌≡◌, ℕ, ◌≤◌, List, length, Some}
use Rattle.lp_calculus.specs.Types.{Ty}
use Rattle.lp_calculus.specs.Term.{Term, Atom, atom, constant, integer, text, eigen, logic, param}
use Rattle.lp_calculus.specs.Typing.{eigen_type}
use Rattle.lp_calculus.specs.Fill.{fill}
use Rattle.lp_calculus.specs.Closed.{AllAtoms}
use Rattle.lp_model.specs.Flatten.{ClauseFormula}

abbrev pub renamed_atom : (ℕ → ℕ) → Atom → Atom
renamed_atom ρ (constant c ts) = constant c ts
renamed_atom ρ (integer z) = integer z
renamed_atom ρ (text s) = text s
renamed_atom ρ (eigen k) = eigen (ρ k)
renamed_atom ρ (logic x l) = logic x l
renamed_atom ρ (param k T) = param k T

-- the term with eigenconstant ρ k for each eigenconstant k
abbrev pub renamed : (ℕ → ℕ) → Term → Term
renamed ρ t = fill (λ a. atom (renamed_atom ρ a)) t

abbrev pub renamed_clause : (ℕ → ℕ) → ClauseFormula → ClauseFormula
renamed_clause ρ D = record { type_vars = D.type_vars; formula = renamed ρ D.formula }

abbrev pub IsUpTo : ℕ → Atom → Type 0
IsUpTo n (constant c ts) = Unit {0}
IsUpTo n (integer z) = Unit {0}
IsUpTo n (text s) = Unit {0}
IsUpTo n (eigen k) = k ≤ n
IsUpTo n (logic x l) = Unit {0}
IsUpTo n (param k T) = Unit {0}

-- the term has no eigenconstant of a level above n
abbrev pub HasLevel : ℕ → Term → Type 0
HasLevel n t = AllAtoms (IsUpTo n) t

-- ρ leads from eigenconstants with the types E to eigenconstants with the types F: each to one of its type. Two may come to one.
pub record IsRenaming (E F : List Ty) (ρ : ℕ → ℕ) : Type 0 where
  pub typed : (k : ℕ) (T : Ty) → eigen_type E k ≡ Some T → eigen_type F (ρ k) ≡ Some T
  pub level : (k : ℕ) → k ≤ length E → ρ k ≤ length F
