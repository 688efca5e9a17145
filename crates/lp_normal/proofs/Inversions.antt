-- What was derived for a formula, by its connective.
use Rattle.std.proofs.Common.{◌≡◌, List, [], ◌∷◌, ◌++◌, map, sym, subst}
use Rattle.lp_calculus.specs.Types.{Ty}
use Rattle.lp_calculus.specs.Term.{Term, shift}
use Rattle.lp_standard.specs.Connectives.{Connective, connective_of}
use Rattle.lp_standard.specs.Connectives as connective
use Rattle.lp_model.specs.Flat.{Atomic, Cut, Either, Exists, Forall, Goals, no_goals, goals, clause, Clauses, no_clauses, clauses, add_clauses, raise_goals, assuming, denied}
use Rattle.lp_normal.specs.Flats.{IsFlatGoal, truth, cutting, both, one_of, implies, every, exist, negated, plain, IsFlatList, IsFlatClause, both_clauses, implied, for_every, head}

abbrev pub GoalBy : Term → Connective → (rest gs : Goals) → Type 0
GoalBy t connective.True rest gs = gs ≡ rest
GoalBy t connective.Cut rest gs = gs ≡ goals Cut rest
GoalBy t (connective.And a b) rest gs = (between : Goals) × IsFlatGoal b rest between × IsFlatGoal a between gs
GoalBy t (connective.Or a b) rest gs = (l r : Goals) × IsFlatGoal a no_goals l × IsFlatGoal b no_goals r × (gs ≡ goals (Either l r) rest)
GoalBy t (connective.Implies c g) rest gs = (cs : Clauses) × (hs : Goals) × IsFlatClause c [] [] cs × IsFlatGoal g no_goals hs × (gs ≡ goals (assuming cs hs) rest)
GoalBy t (connective.ForAll T b) rest gs = (hs : Goals) × IsFlatGoal b no_goals hs × (gs ≡ goals (Forall T hs) rest)
GoalBy t (connective.Exists T b) rest gs = (hs : Goals) × IsFlatGoal b (raise_goals 0 rest) hs × (gs ≡ goals (Exists T hs) no_goals)
GoalBy t (connective.Not g) rest gs = (hs : Goals) × IsFlatGoal g no_goals hs × (gs ≡ goals (denied hs) rest)
GoalBy t connective.Atomic rest gs = gs ≡ goals (Atomic t) rest

goal_is : (t : Term) (rest gs : Goals) → IsFlatGoal t rest gs → GoalBy t (connective_of t) rest gs
goal_is t rest gs (truth f e) = subst (λ z. GoalBy t z rest gs) (sym f) e
goal_is t rest gs (cutting f e) = subst (λ z. GoalBy t z rest gs) (sym f) e
goal_is t rest gs (both a b m f p q) = subst (λ z. GoalBy t z rest gs) (sym f) (m, p, q)
goal_is t rest gs (one_of a b l r f p q e) = subst (λ z. GoalBy t z rest gs) (sym f) (l, r, p, q, e)
goal_is t rest gs (implies c g cs hs f p q e) = subst (λ z. GoalBy t z rest gs) (sym f) (cs, hs, p, q, e)
goal_is t rest gs (every T b hs f p e) = subst (λ z. GoalBy t z rest gs) (sym f) (hs, p, e)
goal_is t rest gs (exist T b hs f p e) = subst (λ z. GoalBy t z rest gs) (sym f) (hs, p, e)
goal_is t rest gs (negated g hs f p e) = subst (λ z. GoalBy t z rest gs) (sym f) (hs, p, e)
goal_is t rest gs (plain f e) = subst (λ z. GoalBy t z rest gs) (sym f) e

pub goal_by : (t : Term) (f : Connective) (rest gs : Goals) → connective_of t ≡ f → IsFlatGoal t rest gs → GoalBy t f rest gs
goal_by t f rest gs e p = subst (λ z. GoalBy t z rest gs) e (goal_is t rest gs p)

abbrev pub ClausesBy : Term → Connective → (vars : List Ty) → (body : List Term) → Clauses → Type 0
ClausesBy t connective.True vars body cs = ⊥
ClausesBy t connective.Cut vars body cs = ⊥
ClausesBy t (connective.And a b) vars body cs = (l r : Clauses) × IsFlatClause a vars body l × IsFlatClause b vars body r × (cs ≡ add_clauses l r)
ClausesBy t (connective.Or a b) vars body cs = ⊥
ClausesBy t (connective.Implies g c) vars body cs = IsFlatClause c vars (body ++ g ∷ []) cs
ClausesBy t (connective.ForAll T b) vars body cs = IsFlatClause b (T ∷ vars) (map (shift 0 1) body) cs
ClausesBy t (connective.Exists T b) vars body cs = ⊥
ClausesBy t (connective.Not g) vars body cs = ⊥
ClausesBy t connective.Atomic vars body cs = (gs : Goals) × IsFlatList body gs × (cs ≡ clauses (clause 0 vars t gs) no_clauses)

clauses_are : (t : Term) (vars : List Ty) (body : List Term) (cs : Clauses) → IsFlatClause t vars body cs → ClausesBy t (connective_of t) vars body cs
clauses_are t vars body cs (both_clauses a b l r f p q e) = subst (λ z. ClausesBy t z vars body cs) (sym f) (l, r, p, q, e)
clauses_are t vars body cs (implied g c f p) = subst (λ z. ClausesBy t z vars body cs) (sym f) p
clauses_are t vars body cs (for_every T b f p) = subst (λ z. ClausesBy t z vars body cs) (sym f) p
clauses_are t vars body cs (head gs f p e) = subst (λ z. ClausesBy t z vars body cs) (sym f) (gs, p, e)

pub clauses_by : (t : Term) (f : Connective) (vars : List Ty) (body : List Term) (cs : Clauses) → connective_of t ≡ f → IsFlatClause t vars body cs → ClausesBy t f vars body cs
clauses_by t f vars body cs e p = subst (λ z. ClausesBy t z vars body cs) e (clauses_are t vars body cs p)
