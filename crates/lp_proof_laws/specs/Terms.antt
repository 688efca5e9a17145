-- What holds of each term in goals and clauses, those that are written in them too.
use Rattle.lp_calculus.specs.Term.{Term}
use Rattle.lp_lemmas.specs.Each.{EachOf}
use Rattle.lp_model.specs.Flat.{Goal, Atomic, Cut, Either, Exists, Forall, Assume, Not, Goals, no_goals, goals, Clause, clause, Clauses, no_clauses, clauses}

abbrev mutual
  pub IsTermOf : (Term → Type 0) → Goal → Type 0
  IsTermOf P (Atomic t) = P t
  IsTermOf P Cut = Unit {0}
  IsTermOf P (Either gs hs) = AreTermsOf P gs × AreTermsOf P hs
  IsTermOf P (Exists T gs) = AreTermsOf P gs
  IsTermOf P (Forall T gs) = AreTermsOf P gs
  IsTermOf P (Assume w cs gs) = EachOf P w.terms × AreClausesOf P cs × AreTermsOf P gs
  IsTermOf P (Not w gs) = EachOf P w.terms × AreTermsOf P gs

  pub AreTermsOf : (Term → Type 0) → Goals → Type 0
  AreTermsOf P no_goals = Unit {0}
  AreTermsOf P (goals g gs) = IsTermOf P g × AreTermsOf P gs

  pub IsClauseOf : (Term → Type 0) → Clause → Type 0
  IsClauseOf P (clause n vs h b) = P h × AreTermsOf P b

  pub AreClausesOf : (Term → Type 0) → Clauses → Type 0
  AreClausesOf P no_clauses = Unit {0}
  AreClausesOf P (clauses c cs) = IsClauseOf P c × AreClausesOf P cs
