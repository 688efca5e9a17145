-- A change of terms in goals and clauses after another one is one change, where it is so of each term.
use Rattle.std.proofs.Common.{◌≡◌, List, [], ◌∷◌, map, refl, ap}
use Rattle.lp_calculus.specs.Types.{Ty}
use Rattle.lp_calculus.specs.Term.{Term}
use Rattle.lp_lemmas.specs.Each.{EachOf}
use Rattle.lp_model.specs.Flat.{Goal, Atomic, Cut, Either, Exists, Forall, Assume, Not, Goals, no_goals, goals, Clause, clause, Clauses, no_clauses, clauses, under_all, map_goal, map_goals, map_clause, map_clauses}
use Rattle.lp_proof_laws.specs.Terms.{AreTermsOf, IsTermOf, IsClauseOf, AreClausesOf}
use Rattle.lp_proof_laws.proofs.Flattened.TypedForms.{goals_same, clauses_same, clause_same, either_same, assume_same, denied_same, written_same}

module _ {A B C : Type 0} (ua : A → A) (ta : A → Term → Term) (ya : Ty → Ty) (ub : B → B) (tb : B → Term → Term) (yb : Ty → Ty) (uc : C → C) (tc : C → Term → Term) (yc : Ty → Ty)
    (Good : Term → Type 0) (R : A → B → C → Type 0) (under : (a : A) (b : B) (c : C) → R a b c → R (ua a) (ub b) (uc c)) (term : (a : A) (b : B) (c : C) → R a b c → (t : Term) → Good t → tb b (ta a t) ≡ tc c t) (type : (T : Ty) → yb (ya T) ≡ yc T) where
  types_fused : (vs : List Ty) → map yb (map ya vs) ≡ map yc vs
  types_fused [] = refl
  types_fused (v ∷ vs) = let e = type v in let f = types_fused vs in λ i. e i ∷ f i

  terms_fused : (a : A) (b : B) (c : C) → R a b c → (ts : List Term) → EachOf Good ts → map (tb b) (map (ta a) ts) ≡ map (tc c) ts
  terms_fused a b c r [] h = refl
  terms_fused a b c r (t ∷ ts) h = let e = term a b c r t h.0 in let f = terms_fused a b c r ts h.1 in λ i. e i ∷ f i

  below : (vs : List Ty) (a : A) (b : B) (c : C) → R a b c → R (under_all ua vs a) (under_all ub (map ya vs) b) (under_all uc vs c)
  below [] a b c r = r
  below (v ∷ vs) a b c r = under (under_all ua vs a) (under_all ub (map ya vs) b) (under_all uc vs c) (below vs a b c r)

  mutual
    pub goal_fused : (a : A) (b : B) (c : C) → R a b c → (g : Goal) → IsTermOf Good g → map_goal ub tb yb b (map_goal ua ta ya a g) ≡ map_goal uc tc yc c g
    goal_fused a b c r (Atomic t) h = ap Atomic (term a b c r t h)
    goal_fused a b c r Cut h = refl
    goal_fused a b c r (Either x z) h = either_same (goals_fused a b c r x h.0) (goals_fused a b c r z h.1)
    goal_fused a b c r (Exists T x) h = let e = type T in let f = goals_fused (ua a) (ub b) (uc c) (under a b c r) x h in λ i. Exists (e i) (f i)
    goal_fused a b c r (Forall T x) h = let e = type T in let f = goals_fused (ua a) (ub b) (uc c) (under a b c r) x h in λ i. Forall (e i) (f i)
    goal_fused a b c r (Assume w cs x) h = assume_same (written_same (terms_fused a b c r w.terms h.0) (types_fused w.types)) (clauses_fused a b c r cs h.1) (goals_fused a b c r x h.2)
    goal_fused a b c r (Not w x) h = denied_same (written_same (terms_fused a b c r w.terms h.0) (types_fused w.types)) (goals_fused a b c r x h.1)

    pub goals_fused : (a : A) (b : B) (c : C) → R a b c → (gs : Goals) → AreTermsOf Good gs → map_goals ub tb yb b (map_goals ua ta ya a gs) ≡ map_goals uc tc yc c gs
    goals_fused a b c r no_goals h = refl
    goals_fused a b c r (goals g gs) h = goals_same (goal_fused a b c r g h.0) (goals_fused a b c r gs h.1)

    pub clause_fused : (a : A) (b : B) (c : C) → R a b c → (k : Clause) → IsClauseOf Good k → map_clause ub tb yb b (map_clause ua ta ya a k) ≡ map_clause uc tc yc c k
    clause_fused a b c r (clause n vs h x) w =
        clause_same n (types_fused vs) (term (under_all ua vs a) (under_all ub (map ya vs) b) (under_all uc vs c) (below vs a b c r) h w.0) (goals_fused (under_all ua vs a) (under_all ub (map ya vs) b) (under_all uc vs c) (below vs a b c r) x w.1)

    pub clauses_fused : (a : A) (b : B) (c : C) → R a b c → (ks : Clauses) → AreClausesOf Good ks → map_clauses ub tb yb b (map_clauses ua ta ya a ks) ≡ map_clauses uc tc yc c ks
    clauses_fused a b c r no_clauses h = refl
    clauses_fused a b c r (clauses k ks) h = clauses_same (clause_fused a b c r k h.0) (clauses_fused a b c r ks h.1)
