-- States of the definition's search over a typed program, all of whose tasks are typed, as the laws of the search have it: each look at such a task leaves such tasks.
use Rattle.std.specs.Prelude.{◌≡◌, ◌≢◌, ℕ, List}
use Rattle.lp_lemmas.specs.Each.{EachOf}
use Rattle.lp_model.specs.Answers.{Query}
use Rattle.lp_model.specs.Branch.{Task, Go, Try, Stop, Lack}
use Rattle.lp_model.specs.Flat.{Clause}
use Rattle.lp_model.specs.Proofs.{Declared}
use Rattle.lp_model.specs.Skeleton.{State}
use Rattle.lp_model.specs.declared.ending.Ending.TheVariants.{NoMore}
use Rattle.lp_standard.specs.Schemes.{IsStandard}
use Rattle.lp_search_laws.specs.Branches.{BranchTyping, IsProgramTyped, IsTypedBranch, IsTypedTry}
use Rattle.lp_plain.specs.ProgramClauses.{arity_in}

-- by some typing; n bounds the steps of a look
abbrev pub IsTaskTyped : (n : ℕ) → Declared → (P : List Clause) → Query → Task → Type 0
IsTaskTyped n d P q (Go b) = (y : BranchTyping) × IsTypedBranch n d q y b
IsTaskTyped n d P q (Try c t e b mark) = (y : BranchTyping) × IsTypedTry n d P q y c t e b
IsTaskTyped n d P q (Stop e) = e ≢ NoMore
IsTaskTyped n d P q Lack = Unit {0}

abbrev pub IsTypedState : (n : ℕ) → Declared → (P : List Clause) → Query → State Task → Type 0
IsTypedState n d P q s = EachOf (IsTaskTyped n d P q) s.stack

-- over a typed program, in which constants take so many types
pub record IsTypedOver (arity : ℕ → ℕ) (n : ℕ) (P : List Clause) (s : State Task) : Type 0 where
  pub declared : Declared
  pub takes : arity ≡ arity_in declared
  pub standard : IsStandard declared
  pub program : EachOf (IsProgramTyped declared) P
  pub query : Query
  pub typed : IsTypedState n declared P query s
