-- What is written in negated goals and in assumed clauses stands in them: so it is typed where they are.
use Rattle.std.specs.Prelude.{◌≡◌, ◌⊎◌, ℕ, List, ◌++◌, map}
use Rattle.lp_calculus.specs.Types.{Ty}
use Rattle.lp_calculus.specs.Closed.{AllAtoms}
use Rattle.lp_proof_laws.specs.Terms.{AreTermsOf, AreClausesOf}
use Rattle.lp_proof_laws.specs.Filled.{IsSourceAtom, filled_goals, filled_clauses}
use Rattle.lp_calculus.specs.Term.{Term, index, atom, abs, app, shift}
use Rattle.lp_lemmas.specs.Each.{AnyOf, EachOf}
use Rattle.lp_model.specs.Flat.{Goal, Atomic, Cut, Either, Exists, Forall, Assume, Not, Written, Goals, no_goals, goals, Clause, clause, Clauses, no_clauses, clauses, clause_list, formula_of_goals, formula_of_clause, loose_in, type_variables_in, collect_goals, collect_clauses}
use Rattle.lp_model.specs.Branch.{Entry}

-- t is a part of u, raised by the abstractions that it stands under
abbrev pub StandsIn : (t u : Term) → Type 0
StandsIn t (index i) = t ≡ index i
StandsIn t (atom a) = t ≡ atom a
StandsIn t (abs b) = (t ≡ abs b) ⊎ StandsIn (shift 0 1 t) b
StandsIn t (app f a) = (t ≡ app f a) ⊎ (StandsIn t f ⊎ StandsIn t a)

abbrev pub StandsInOne : List Clause → Term → Type 0
StandsInOne cs t = AnyOf (λ c. StandsIn t (formula_of_clause c)) cs

-- goals that are those of a source, with terms and types for its variables: what is written in them are the terms and types for the variables that are written in the source
pub record IsOrigin (w : Written) (gs : Goals) : Type 0 where
  pub types : ℕ → Ty
  pub terms : ℕ → Term
  pub flat : Goals
  pub source : AreTermsOf (λ t. AllAtoms IsSourceAtom t) flat
  pub is : gs ≡ filled_goals types terms flat
  pub terms_written : w.terms ≡ map terms (collect_goals loose_in 0 flat)
  pub types_written : w.types ≡ map types (collect_goals (λ d t. type_variables_in t) 0 flat)

-- the same of clauses
pub record IsClauseOrigin (w : Written) (cs : Clauses) : Type 0 where
  pub types : ℕ → Ty
  pub terms : ℕ → Term
  pub flat : Clauses
  pub source : AreClausesOf (λ t. AllAtoms IsSourceAtom t) flat
  pub is : cs ≡ filled_clauses types terms flat
  pub terms_written : w.terms ≡ map terms (collect_clauses loose_in 0 flat)
  pub types_written : w.types ≡ map types (collect_clauses (λ d t. type_variables_in t) 0 flat)

abbrev mutual
  pub IsWrittenGoal : Goal → Type 0
  IsWrittenGoal (Atomic t) = Unit {0}
  IsWrittenGoal Cut = Unit {0}
  IsWrittenGoal (Either gs hs) = AreWrittenGoals gs × AreWrittenGoals hs
  IsWrittenGoal (Exists T gs) = AreWrittenGoals gs
  IsWrittenGoal (Forall T gs) = AreWrittenGoals gs
  IsWrittenGoal (Assume w cs gs) = EachOf (StandsInOne (clause_list cs)) w.terms × AreWrittenClauses cs × AreWrittenGoals gs × IsClauseOrigin w cs
  IsWrittenGoal (Not w gs) = EachOf (λ t. StandsIn t (formula_of_goals gs)) w.terms × AreWrittenGoals gs × IsOrigin w gs

  pub AreWrittenGoals : Goals → Type 0
  AreWrittenGoals no_goals = Unit {0}
  AreWrittenGoals (goals g gs) = IsWrittenGoal g × AreWrittenGoals gs

  pub IsWrittenClause : Clause → Type 0
  IsWrittenClause (clause n vs h b) = AreWrittenGoals b

  pub AreWrittenClauses : Clauses → Type 0
  AreWrittenClauses no_clauses = Unit {0}
  AreWrittenClauses (clauses c cs) = IsWrittenClause c × AreWrittenClauses cs

-- the clause is one of those that were assumed at once; what is written in these is among what is written at the place
pub record HasOrigin (c : Clause) (w : Written) : Type 0 where
  pub group : Clauses
  pub written : Written
  pub origin : IsClauseOrigin written group
  pub among : AnyOf (λ x. x ≡ c) (clause_list group)
  pub terms_before : List Term
  pub terms_behind : List Term
  pub terms : w.terms ≡ terms_before ++ (written.terms ++ terms_behind)
  pub types_before : List Ty
  pub types_behind : List Ty
  pub types : w.types ≡ types_before ++ (written.types ++ types_behind)

-- of a place in a run: what is assumed there, and what is written in it
pub record IsWrittenPlace (assumed : List Clause) (w : Written) : Type 0 where
  pub clauses : EachOf IsWrittenClause assumed
  pub terms : EachOf (StandsInOne assumed) w.terms
  pub origins : EachOf (λ c. HasOrigin c w) assumed

pub record IsWrittenEntry (e : Entry) : Type 0 where
  pub goal : IsWrittenGoal e.goal
  pub place : IsWrittenPlace e.assumed e.written
