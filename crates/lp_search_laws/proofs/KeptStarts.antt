-- The terms of typed programs, and of negated goals that were tested with what is assumed there, are in the family of terms over type variables.
use Rattle.std.proofs.Common.{ℕ, ◌<◌, List, [], ◌∷◌, map, Bool}
use Rattle.lp_calculus.specs.Types.{Ty}
use Rattle.lp_calculus.specs.Term.{Term, Atom, constant, integer, text, eigen, logic, param}
use Rattle.lp_lemmas.specs.Each.{EachOf}
use Rattle.lp_standard.specs.Positive.{IsPositiveConstant}
use Rattle.lp_model.specs.Flat.{Goal, Atomic, Cut, Either, Exists, Forall, Assume, Not, Goals, no_goals, goals, Clause, clause, Clauses, no_clauses, clauses, Written, goal_list}
use Rattle.lp_model.specs.Branch.{entries}
use Rattle.lp_model.specs.Proofs.{Declared}
use Rattle.lp_search_laws.specs.Branches.{IsPlainTerm, IsGoal, AreGoals, AreClauses, IsAssumable, IsProgramTyped, ArePlainEntries}
use Rattle.lp_search_laws.proofs.ComesOver.{IsOver, ComesOver, over_family}
use Rattle.lp_search_laws.proofs.KeptTasks.{IsGoalWith, AreGoalsWith, IsAssumedWith, AreClausesWith, IsKeptProgram, IsKeptEntry}
use Rattle.lp_search_laws.proofs.Reducts.{by_atoms}
use Rattle.lp_search_laws.proofs.RunsKeep.{Good, all_more, plain_term}

-- any constant
any_constant : (Q : ℕ → Type 0) (a : Atom) → Good IsPositiveConstant Q a → IsOver Q a
any_constant Q (constant c ts) h = (tt, h.1)
any_constant Q (integer z) h = tt
any_constant Q (text s) h = tt
any_constant Q (eigen k) h = tt
any_constant Q (logic x l) h = tt
any_constant Q (param k T) h = h

module _ (k : ℕ) where
  abbrev Q : ℕ → Type 0
  Q i = i < k

  term_comes : (t : Term) → IsPlainTerm k t → ComesOver Q t
  term_comes t h = by_atoms (IsOver Q) t (all_more (Good IsPositiveConstant Q) (IsOver Q) (any_constant Q) t (plain_term k t h))

  mutual
    goal_comes : (B : List Bool) (g : Goal) → IsGoal k B g → IsGoalWith (ComesOver Q) g
    goal_comes B (Atomic t) h = term_comes t h
    goal_comes B Cut h = tt
    goal_comes B (Either l r) h = (goals_come B l h.0, goals_come B r h.1)
    goal_comes B (Exists T gs) h = goals_come _ gs h.1
    goal_comes B (Forall T gs) h = goals_come _ gs h.1
    goal_comes B (Assume w cs gs) h = (clauses_come B cs h.0, goals_come B gs h.1)
    goal_comes B (Not w gs) h = goals_come B gs h

    goals_come : (B : List Bool) (gs : Goals) → AreGoals k B gs → AreGoalsWith (ComesOver Q) gs
    goals_come B no_goals h = tt
    goals_come B (goals g gs) h = (goal_comes B g h.0, goals_come B gs h.1)

    clauses_come : (B : List Bool) (cs : Clauses) → AreClauses k B cs → AreClausesWith (ComesOver Q) cs
    clauses_come B no_clauses h = tt
    clauses_come B (clauses (clause n vs x b) cs) h = ((h.0, term_comes x h.1.2, goals_come _ b h.1.3), clauses_come B cs h.2)

pub program_comes : (d : Declared) (P : List Clause) → EachOf (IsProgramTyped d) P → EachOf (IsKeptProgram ComesOver over_family) P
program_comes d [] h = tt
program_comes d (clause k vs x b ∷ P) h = ((term_comes k x h.0.form.2, goals_come k _ b h.0.form.3), program_comes d P h.1)

-- the entries with which a search of a negated goal begins
goals_plain : (m : ℕ) (E : List Ty) (gs : Goals) (A : List Clause) (w : Written) (l mark : ℕ) → ArePlainEntries m (map (λ g. E) (goal_list gs)) (entries (goal_list gs) A w l mark) → AreGoals m [] gs
goals_plain m E no_goals A w l mark h = tt
goals_plain m E (goals g gs) A w l mark h = (h.0.goal, goals_plain m E gs A w l mark h.1)

module _ (Q : ℕ → Type 0) (m : ℕ) (E : List Ty) (A : List Clause) (w : Written) (l mark : ℕ) (assumed : EachOf (IsAssumable m) A → EachOf (IsAssumedWith (ComesOver Q)) A) where
  each_kept : (gs : Goals) → ArePlainEntries m (map (λ g. E) (goal_list gs)) (entries (goal_list gs) A w l mark) → AreGoalsWith (ComesOver Q) gs → EachOf (IsKeptEntry ComesOver over_family Q) (entries (goal_list gs) A w l mark)
  each_kept no_goals h k = tt
  each_kept (goals g gs) h k = (record { goal = k.0; assumed = assumed h.0.assumed }, each_kept gs h.1 k.1)

  pub entries_kept : (gs : Goals) → (AreGoals m [] gs → AreGoalsWith (ComesOver Q) gs) → ArePlainEntries m (map (λ g. E) (goal_list gs)) (entries (goal_list gs) A w l mark) → EachOf (IsKeptEntry ComesOver over_family Q) (entries (goal_list gs) A w l mark)
  entries_kept gs f h = each_kept gs h (f (goals_plain m E gs A w l mark h))
