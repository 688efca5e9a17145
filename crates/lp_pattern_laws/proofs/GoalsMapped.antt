-- What is put into goals and clauses of pattern text.
use Rattle.std.proofs.Common.{◌≡◌, ℕ, zero, ◌<◌, ◌≤◌, List, [], ◌∷◌, ◌++◌, map, refl, ap, subst as transport, arith}
use Rattle.lp_calculus.specs.Types.{Ty, instance}
use Rattle.lp_calculus.specs.Term.{Term, atom, eigen}
use Rattle.lp_calculus.specs.Fill.{Binding, Within, put}
use Rattle.lp_calculus.specs.Instance.{instance_term}
use Rattle.lp_model.specs.Index.{instantiate, lifted}
use Rattle.lp_model.specs.Flat.{Goal, Atomic, Cut, Either, Exists, Forall, Assume, Not, under_all, map_goal, map_goals, map_clause, map_clauses, same_type, Goals, no_goals, goals, Clause, clause, Clauses, no_clauses, clauses, put_goal, type_goal, type_goals, instantiate_goals}
use Rattle.lp_pattern_laws.specs.Patterns.{IsPattern}
use Rattle.lp_pattern_laws.specs.Binders.{Binder, universal, existential, IsAtLevel}
use Rattle.lp_pattern_laws.specs.Parts.{existentials}
use Rattle.lp_pattern_laws.specs.Goals.{StaysPattern, IsPatternValue, IsPatternGoal, ArePatternGoals, IsPatternClause, ArePatternClauses}
use Rattle.lp_pattern_laws.proofs.Staying.{Carries, stays_open, stays_put, stays_types}
use Rattle.lp_pattern_laws.proofs.Carried.{carries_below, carries_eigen, carries_value}

module _ {E : Type 0} (under : E → E) (term : E → Term → Term) (ty : Ty → Ty) (l m : ℕ) (Rel : E → List Binder → List Binder → Type 0)
    (below : (e : E) (Γ Δ : List Binder) (x : Binder) → Rel e Γ Δ → Rel (under e) (x ∷ Γ) (x ∷ Δ))
    (each : (e : E) (Γ Δ : List Binder) → Rel e Γ Δ → (t : Term) → StaysPattern l Γ t → StaysPattern m Δ (term e t)) where
  below_all : (vs : List Ty) (e : E) (Γ Δ : List Binder) → Rel e Γ Δ → Rel (under_all under vs e) (existentials vs ++ Γ) (existentials (map ty vs) ++ Δ)
  below_all [] e Γ Δ r = r
  below_all (v ∷ vs) e Γ Δ r = below (under_all under vs e) (existentials vs ++ Γ) (existentials (map ty vs) ++ Δ) existential (below_all vs e Γ Δ r)

  mutual
    pub goal_mapped : (e : E) (Γ Δ : List Binder) → Rel e Γ Δ → (g : Goal) → IsPatternGoal l Γ g → IsPatternGoal m Δ (map_goal under term ty e g)
    goal_mapped e Γ Δ r (Atomic t) h = each e Γ Δ r t h
    goal_mapped e Γ Δ r Cut h = tt
    goal_mapped e Γ Δ r (Either gs hs) h = (goals_mapped e Γ Δ r gs h.0, goals_mapped e Γ Δ r hs h.1)
    goal_mapped e Γ Δ r (Exists T gs) h = goals_mapped (under e) (existential ∷ Γ) (existential ∷ Δ) (below e Γ Δ existential r) gs h
    goal_mapped e Γ Δ r (Forall T gs) h = goals_mapped (under e) (universal ∷ Γ) (universal ∷ Δ) (below e Γ Δ universal r) gs h
    goal_mapped e Γ Δ r (Assume w cs gs) h = (clauses_mapped e Γ Δ r cs h.0, goals_mapped e Γ Δ r gs h.1)
    goal_mapped e Γ Δ r (Not w gs) h = goals_mapped e Γ Δ r gs h

    pub goals_mapped : (e : E) (Γ Δ : List Binder) → Rel e Γ Δ → (gs : Goals) → ArePatternGoals l Γ gs → ArePatternGoals m Δ (map_goals under term ty e gs)
    goals_mapped e Γ Δ r no_goals h = tt
    goals_mapped e Γ Δ r (goals g gs) h = (goal_mapped e Γ Δ r g h.0, goals_mapped e Γ Δ r gs h.1)

    pub clause_mapped : (e : E) (Γ Δ : List Binder) → Rel e Γ Δ → (c : Clause) → IsPatternClause l Γ c → IsPatternClause m Δ (map_clause under term ty e c)
    clause_mapped e Γ Δ r (clause n vs h b) w =
        let q = below_all vs e Γ Δ r in
        (each (under_all under vs e) (existentials vs ++ Γ) (existentials (map ty vs) ++ Δ) q h w.0, goals_mapped (under_all under vs e) (existentials vs ++ Γ) (existentials (map ty vs) ++ Δ) q b w.1)

    pub clauses_mapped : (e : E) (Γ Δ : List Binder) → Rel e Γ Δ → (cs : Clauses) → ArePatternClauses l Γ cs → ArePatternClauses m Δ (map_clauses under term ty e cs)
    clauses_mapped e Γ Δ r no_clauses h = tt
    clauses_mapped e Γ Δ r (clauses c cs) h = (clause_mapped e Γ Δ r c h.0, clauses_mapped e Γ Δ r cs h.1)

-- a value, types, and terms for the innermost variable
pub put_kept : (l : ℕ) (Γ : List Binder) (b : Binding) → IsPatternValue b → (g : Goal) → IsPatternGoal l Γ g → IsPatternGoal l Γ (put_goal b g)
put_kept l Γ b v g h = goal_mapped {E = ℕ} (λ u. u) (λ u t. put b t) same_type l l (λ u Δ Θ. Δ ≡ Θ) (λ u Δ Θ x e. ap (λ Ξ. x ∷ Ξ) e)
    (λ u Δ Θ e t s. transport (λ Ξ. StaysPattern l Ξ (put b t)) e (stays_put l Δ b v t s)) zero Γ Γ refl g h

pub types_kept : (l : ℕ) (Γ : List Binder) (κ : ℕ → Ty) (g : Goal) → IsPatternGoal l Γ g → IsPatternGoal l Γ (type_goal κ g)
types_kept l Γ κ g h = goal_mapped {E = ℕ} (λ u. u) (λ u t. instance_term κ t) (instance κ) l l (λ u Δ Θ. Δ ≡ Θ) (λ u Δ Θ x e. ap (λ Ξ. x ∷ Ξ) e)
    (λ u Δ Θ e t s. transport (λ Ξ. StaysPattern l Ξ (instance_term κ t)) e (stays_types l Δ κ t s)) zero Γ Γ refl g h

pub all_types_kept : (l : ℕ) (Γ : List Binder) (κ : ℕ → Ty) (gs : Goals) → ArePatternGoals l Γ gs → ArePatternGoals l Γ (type_goals κ gs)
all_types_kept l Γ κ gs h = goals_mapped {E = ℕ} (λ u. u) (λ u t. instance_term κ t) (instance κ) l l (λ u Δ Θ. Δ ≡ Θ) (λ u Δ Θ x e. ap (λ Ξ. x ∷ Ξ) e)
    (λ u Δ Θ e t s. transport (λ Ξ. StaysPattern l Ξ (instance_term κ t)) e (stays_types l Δ κ t s)) zero Γ Γ refl gs h

pub open_kept : (l m : ℕ) → l ≤ m → (Γ Δ : List Binder) (f : ℕ → Term) → Carries l m Γ Δ f → (gs : Goals) → ArePatternGoals l Γ gs → ArePatternGoals m Δ (instantiate_goals f gs)
open_kept l m less Γ Δ f k gs h = goals_mapped lifted instantiate same_type l m (λ g Θ Ξ. Carries l m Θ Ξ g) (λ g Θ Ξ x c. carries_below l m less Θ Ξ g x c)
    (λ g Θ Ξ c t s. stays_open l m Θ Ξ g less c t s) f Γ Δ k gs h

pub term_opens : (l : ℕ) (f : ℕ → Term) (u : Term) → f 0 ≡ u → IsPattern u → Within (IsAtLevel l) 0 u → (gs : Goals) → ArePatternGoals l
    (existential ∷ []) gs → ArePatternGoals l [] (instantiate_goals f gs)
term_opens l f u is p w gs h = open_kept l l (omega arith) (existential ∷ []) [] f (carries_value l f u is p w) gs h

pub value_opens : (l : ℕ) (f : ℕ → Term) → IsPattern (f 0) → Within (IsAtLevel l) 0 (f 0) → (gs : Goals) → ArePatternGoals l (existential ∷ []) gs → ArePatternGoals l [] (instantiate_goals f gs)
value_opens l f p w gs h = term_opens l f (f 0) refl p w gs h

pub eigen_opens : (l k m : ℕ) (f : ℕ → Term) → f 0 ≡ atom (eigen k) → l < k → k ≤ m → (gs : Goals) → ArePatternGoals l (universal ∷ []) gs → ArePatternGoals m [] (instantiate_goals f gs)
eigen_opens l k m f is above less gs h = open_kept l m (omega (arith, above, less)) (universal ∷ []) [] f (carries_eigen l f k is above m less) gs h
