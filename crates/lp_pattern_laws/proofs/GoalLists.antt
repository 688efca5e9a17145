-- Goals and clauses of which each atom and each head is so: at deeper levels, and as the entries of a branch.
use Rattle.std.proofs.Common.{ℕ, ◌≤◌, List, [], ◌∷◌, ◌++◌, Bool, true, false}
use Rattle.std.specs.Prelude.{cond, filter}
use Rattle.lp_calculus.specs.Term.{Term}
use Rattle.lp_lemmas.specs.Each.{EachOf}
use Rattle.lp_model.specs.Branch.{entries}
use Rattle.lp_model.specs.Flat.{Goal, Atomic, Cut, Either, Exists, Forall, Assume, Not, Written, Goals, no_goals, goals, goal_list, Clause, clause, Clauses, no_clauses, clauses, clause_list}
use Rattle.lp_search_laws.proofs.TypesOver.{each_more}
use Rattle.lp_pattern_laws.specs.Binders.{Binder, universal, existential}
use Rattle.lp_pattern_laws.specs.Parts.{existentials}
use Rattle.lp_pattern_laws.specs.Goals.{StaysPattern, IsGoalOf, AreGoalsOf, IsClauseOf, AreClausesOf, ArePatternGoals, IsPatternClause, ArePatternClauses}
use Rattle.lp_pattern_laws.specs.Tasks.{IsPatternEntry}
use Rattle.lp_pattern_laws.proofs.Staying.{stays_deeper}

module _ (S R : List Binder → Term → Type 0) (more : (Γ : List Binder) (t : Term) → S Γ t → R Γ t) where
  mutual
    goal_more : (Γ : List Binder) (g : Goal) → IsGoalOf S Γ g → IsGoalOf R Γ g
    goal_more Γ (Atomic t) h = more Γ t h
    goal_more Γ Cut h = tt
    goal_more Γ (Either gs hs) h = (goals_more Γ gs h.0, goals_more Γ hs h.1)
    goal_more Γ (Exists T gs) h = goals_more (existential ∷ Γ) gs h
    goal_more Γ (Forall T gs) h = goals_more (universal ∷ Γ) gs h
    goal_more Γ (Assume w cs gs) h = (clauses_more Γ cs h.0, goals_more Γ gs h.1)
    goal_more Γ (Not w gs) h = goals_more Γ gs h

    pub goals_more : (Γ : List Binder) (gs : Goals) → AreGoalsOf S Γ gs → AreGoalsOf R Γ gs
    goals_more Γ no_goals h = tt
    goals_more Γ (goals g gs) h = (goal_more Γ g h.0, goals_more Γ gs h.1)

    pub clause_more : (Γ : List Binder) (c : Clause) → IsClauseOf S Γ c → IsClauseOf R Γ c
    clause_more Γ (clause n vs x b) h = (more (existentials vs ++ Γ) x h.0, goals_more (existentials vs ++ Γ) b h.1)

    clauses_more : (Γ : List Binder) (cs : Clauses) → AreClausesOf S Γ cs → AreClausesOf R Γ cs
    clauses_more Γ no_clauses h = tt
    clauses_more Γ (clauses c cs) h = (clause_more Γ c h.0, clauses_more Γ cs h.1)

pub all_deeper : (l m : ℕ) → l ≤ m → (cs : List Clause) → EachOf (IsPatternClause l []) cs → EachOf (IsPatternClause m []) cs
all_deeper l m less cs h = each_more (IsPatternClause l []) (IsPatternClause m []) (λ c w. clause_more (StaysPattern l) (StaysPattern m) (λ Γ t s. stays_deeper l m Γ t less s) [] c w) cs h

pub clauses_each : (l : ℕ) (cs : Clauses) → ArePatternClauses l [] cs → EachOf (IsPatternClause l []) (clause_list cs)
clauses_each l no_clauses h = tt
clauses_each l (clauses c cs) h = (h.0, clauses_each l cs h.1)

pub goals_entries : (gs : Goals) (A : List Clause) (w : Written) (l m : ℕ) → ArePatternGoals l [] gs → EachOf (IsPatternClause l []) A → EachOf IsPatternEntry (entries (goal_list gs) A w l m)
goals_entries no_goals A w l m h a = tt
goals_entries (goals g gs) A w l m h a = (record { goal = h.0; assumed = a }, goals_entries gs A w l m h.1 a)

pub each_filter : {A : Type 0} (Q : A → Type 0) (p : A → Bool) (xs : List A) → EachOf Q xs → EachOf Q (filter p xs)
each_filter Q p [] h = tt
each_filter Q p (x ∷ xs) h = go (p x) (each_filter Q p xs h.1)
  where
    go : (b : Bool) → EachOf Q (filter p xs) → EachOf Q (cond b (x ∷ filter p xs) (filter p xs))
    go true w = (h.0, w)
    go false w = w
