-- Behind a unification the entries of a branch are those of before with all bindings and types put in.
use Rattle.std.proofs.Common.{◌≡◌, ℕ, zero, suc, ◌+◌, List, [], ◌∷◌, map, length, refl, sym, ap, ◌∙◌}
use Rattle.lp_calculus.specs.Types.{Ty, Tys, var, param, con, arrow, no_types, types, instance, instances}
use Rattle.lp_calculus.specs.Term.{Term, atom, constant}
use Rattle.lp_calculus.specs.Fill.{Binding, put, put_all}
use Rattle.lp_model.specs.Branch.{Entry, put_entries, type_entries}
use Rattle.lp_model.specs.Flat.{Written, Goal, Atomic, Cut, Either, Exists, Forall, Assume, Not, Goals, no_goals, goals, Clause, clause, Clauses, no_clauses, clauses, map_written, map_goal, map_goals, map_clause, map_clauses, same_type, under_all}
use Rattle.lp_model.specs.Pair.{Closing, put_type_in, put_types_in}
use Rattle.lp_model.specs.Types.{TypeBinding, put_type, put_types}
use Rattle.lp_model.specs.Unify.{State}
use Rattle.lp_model.specs.declared.answer.Pair.{Pair as Numbers}
use Rattle.lp_calculus.proofs.TypeLaws.{instance-instance}
use Rattle.lp_term.specs.Nodes.{Nodes}
use Rattle.lp_pattern.specs.Unifying.{IsFound}
use Rattle.lp_pattern.proofs.TypesSolved.{put_is}
use Rattle.lp_plain.specs.Resuming.{clause_with, entry_with, AllTerms, AllOfGoal, AllOfGoals, AllOfClause, AllOfClauses, AllOfAssumed}
use Rattle.lp_plain.proofs.Mapped.{assume_same, clause_same, clauses_same, either_same, goals_same, not_same}

-- one change after another is one change

pub list_fused : {A B C : Type 0} (f : B → C) (g : A → B) (h : A → C) → ((x : A) → f (g x) ≡ h x) → (xs : List A) → map f (map g xs) ≡ map h xs
list_fused f g h e [] = refl
list_fused f g h e (x ∷ xs) = let p = e x in let q = list_fused f g h e xs in λ i. p i ∷ q i

module _ (f g : Term → Term) (t u : Ty → Ty) where
  pub written_fused : (w : Written) → map_written f t (map_written g u w) ≡ map_written (λ x. f (g x)) (λ T. t (u T)) w
  written_fused w =
      let p = list_fused f g (λ x. f (g x)) (λ x. refl) w.terms in
      let q = list_fused t u (λ T. t (u T)) (λ T. refl) w.types in
      λ i. record { terms = p i; types = q i }

  mutual
    pub goal_fused : (d e k : ℕ) (x : Goal) → map_goal (λ n. n) (λ n y. f y) t d (map_goal (λ n. n) (λ n y. g y) u e x) ≡ map_goal (λ n. n) (λ n y. f (g y)) (λ T. t (u T)) k x
    goal_fused d e k (Atomic y) = refl
    goal_fused d e k Cut = refl
    goal_fused d e k (Either gs hs) = either_same (goals_fused d e k gs) (goals_fused d e k hs)
    goal_fused d e k (Exists T gs) = ap (Exists (t (u T))) (goals_fused d e k gs)
    goal_fused d e k (Forall T gs) = ap (Forall (t (u T))) (goals_fused d e k gs)
    goal_fused d e k (Assume w cs gs) = assume_same (written_fused w) (clauses_fused d e k cs) (goals_fused d e k gs)
    goal_fused d e k (Not w gs) = not_same (written_fused w) (goals_fused d e k gs)

    goals_fused : (d e k : ℕ) (xs : Goals) → map_goals (λ n. n) (λ n y. f y) t d (map_goals (λ n. n) (λ n y. g y) u e xs) ≡ map_goals (λ n. n) (λ n y. f (g y)) (λ T. t (u T)) k xs
    goals_fused d e k no_goals = refl
    goals_fused d e k (goals x xs) = goals_same (goal_fused d e k x) (goals_fused d e k xs)

    pub clause_fused : (d e k : ℕ) (c : Clause) → map_clause (λ n. n) (λ n y. f y) t d (map_clause (λ n. n) (λ n y. g y) u e c) ≡ map_clause (λ n. n) (λ n y. f (g y)) (λ T. t (u T)) k c
    clause_fused d e k (clause j vs h b) =
        clause_same j (list_fused t u (λ T. t (u T)) (λ T. refl) vs) refl (goals_fused (under_all (λ n. n) (map u vs) d) (under_all (λ n. n) vs e) (under_all (λ n. n) vs k) b)

    clauses_fused : (d e k : ℕ) (cs : Clauses) → map_clauses (λ n. n) (λ n y. f y) t d (map_clauses (λ n. n) (λ n y. g y) u e cs) ≡ map_clauses (λ n. n) (λ n y. f (g y)) (λ T. t (u T)) k cs
    clauses_fused d e k no_clauses = refl
    clauses_fused d e k (clauses c cs) = clauses_same (clause_fused d e k c) (clauses_fused d e k cs)

  entry_fused : (x : Entry) → entry_with f t (entry_with g u x) ≡ entry_with (λ y. f (g y)) (λ T. t (u T)) x
  entry_fused x =
      let p = goal_fused zero zero zero x.goal in
      let q = list_fused (clause_with f t) (clause_with g u) (clause_with (λ y. f (g y)) (λ T. t (u T))) (clause_fused zero zero zero) x.assumed in
      let r = written_fused x.written in
      λ i. record { goal = p i; assumed = q i; written = r i; level = x.level; mark = x.mark }

-- changes that agree on what is known

module _ (P : ℕ → Term → Type 0) (f g : Term → Term) (t u : Ty → Ty) (agree : (d : ℕ) (x : Term) → P d x → f x ≡ g x) (agree_types : (T : Ty) → t T ≡ u T) where
  pub terms_agree : (d : ℕ) (xs : List Term) → AllTerms P d xs → map f xs ≡ map g xs
  terms_agree d [] k = refl
  terms_agree d (x ∷ xs) k = let p = agree d x k.0 in let q = terms_agree d xs k.1 in λ i. p i ∷ q i

  types_agree : (Ts : List Ty) → map t Ts ≡ map u Ts
  types_agree [] = refl
  types_agree (T ∷ Ts) = let p = agree_types T in let q = types_agree Ts in λ i. p i ∷ q i

  pub written_agree : (d : ℕ) (w : Written) → AllTerms P d w.terms → map_written f t w ≡ map_written g u w
  written_agree d w k = let p = terms_agree d w.terms k in let q = types_agree w.types in λ i. record { terms = p i; types = q i }

  mutual
    pub goal_agree : (d e k : ℕ) (x : Goal) → AllOfGoal P d x → map_goal (λ m. m) (λ m y. f y) t e x ≡ map_goal (λ m. m) (λ m y. g y) u k x
    goal_agree d e k (Atomic y) w = ap Atomic (agree d y w)
    goal_agree d e k Cut w = refl
    goal_agree d e k (Either gs hs) w = either_same (goals_agree d e k gs w.0) (goals_agree d e k hs w.1)
    goal_agree d e k (Exists T gs) w = let p = agree_types T in let q = goals_agree (suc d) e k gs w in λ i. Exists (p i) (q i)
    goal_agree d e k (Forall T gs) w = let p = agree_types T in let q = goals_agree (suc d) e k gs w in λ i. Forall (p i) (q i)
    goal_agree d e k (Assume v cs gs) w = assume_same (written_agree d v w.0) (clauses_agree d e k cs w.1) (goals_agree d e k gs w.2)
    goal_agree d e k (Not v gs) w = not_same (written_agree d v w.0) (goals_agree d e k gs w.1)

    goals_agree : (d e k : ℕ) (xs : Goals) → AllOfGoals P d xs → map_goals (λ m. m) (λ m y. f y) t e xs ≡ map_goals (λ m. m) (λ m y. g y) u k xs
    goals_agree d e k no_goals w = refl
    goals_agree d e k (goals x xs) w = goals_same (goal_agree d e k x w.0) (goals_agree d e k xs w.1)

    clause_agree : (d e k : ℕ) (c : Clause) → AllOfClause P d c → map_clause (λ m. m) (λ m y. f y) t e c ≡ map_clause (λ m. m) (λ m y. g y) u k c
    clause_agree d e k (clause j vs h b) w =
        clause_same j (types_agree vs) (agree (length vs + d) h w.0) (goals_agree (length vs + d) (under_all (λ m. m) vs e) (under_all (λ m. m) vs k) b w.1)

    clauses_agree : (d e k : ℕ) (cs : Clauses) → AllOfClauses P d cs → map_clauses (λ m. m) (λ m y. f y) t e cs ≡ map_clauses (λ m. m) (λ m y. g y) u k cs
    clauses_agree d e k no_clauses w = refl
    clauses_agree d e k (clauses c cs) w = clauses_same (clause_agree d e k c w.0) (clauses_agree d e k cs w.1)

  pub assumed_agree : (cs : List Clause) → AllOfAssumed P cs → map (clause_with f t) cs ≡ map (clause_with g u) cs
  assumed_agree [] w = refl
  assumed_agree (c ∷ cs) w = let p = clause_agree 0 zero zero c w.0 in let q = assumed_agree cs w.1 in λ i. p i ∷ q i

-- all bindings, and all types

all_fused : (f g : Term → Term) (t u : Ty → Ty) (es : List Entry) → map (entry_with f t) (map (entry_with g u) es) ≡ map (entry_with (λ y. f (g y)) (λ T. t (u T))) es
all_fused f g t u es = list_fused (entry_with f t) (entry_with g u) (entry_with (λ y. f (g y)) (λ T. t (u T))) (entry_fused f g t u) es

pub bindings_put : (bs : List Binding) (f : Term → Term) (t : Ty → Ty) (es : List Entry) → put_entries bs (map (entry_with f t) es) ≡ map (entry_with (λ x. put_all bs (f x)) t) es
bindings_put [] f t es = refl
bindings_put (b ∷ bs) f t es = ap (put_entries bs) (all_fused (put b) f same_type t es) ∙ bindings_put bs (λ x. put b (f x)) t es

pub types_put : (ts : List TypeBinding) (f : Term → Term) (t : Ty → Ty) (es : List Entry) → type_entries ts (map (entry_with f t) es) ≡ map (entry_with (λ x. put_types_in ts (f x)) (λ T. put_types ts (t T))) es
types_put [] f t es = refl
types_put (b ∷ bs) f t es = ap (type_entries bs) (all_fused (put_type_in b) f (put_type b) t es) ∙ types_put bs (λ x. put_type_in b (f x)) (λ T. put_type b (t T)) es

-- a type is read behind by what its variables are
constant_typed : (ts : List TypeBinding) (bs : List Binding) (T : Ty) → put_types_in ts (put_all bs (atom (constant 0 (T ∷ [])))) ≡ atom (constant 0 (put_types ts T ∷ []))
constant_typed ts [] T = alone ts T
  where
    alone : (us : List TypeBinding) (U : Ty) → put_types_in us (atom (constant 0 (U ∷ []))) ≡ atom (constant 0 (put_types us U ∷ []))
    alone [] U = refl
    alone (b ∷ us) U = alone us (put_type b U)
constant_typed ts (b ∷ bs) T = constant_typed ts bs T

abbrev first_type : Term → Ty
first_type (atom (constant c (T ∷ Ts))) = T
first_type t = var 0

mutual
  by_variables : (θ ι : ℕ → Ty) → ((x : ℕ) → θ x ≡ ι x) → (T : Ty) → instance θ T ≡ instance ι T
  by_variables θ ι e (var i) = e i
  by_variables θ ι e (param k) = refl
  by_variables θ ι e (con c ts) = ap (con c) (all_by_variables θ ι e ts)
  by_variables θ ι e (arrow a b) = let p = by_variables θ ι e a in let q = by_variables θ ι e b in λ i. arrow (p i) (q i)

  all_by_variables : (θ ι : ℕ → Ty) → ((x : ℕ) → θ x ≡ ι x) → (Ts : Tys) → instances θ Ts ≡ instances ι Ts
  all_by_variables θ ι e no_types = refl
  all_by_variables θ ι e (types T Ts) = let p = by_variables θ ι e T in let q = all_by_variables θ ι e Ts in λ i. types (p i) (q i)

module _ (lv : ℕ → ℕ) (n : ℕ) (c : Closing) (b : Nodes) (next : ℕ) (residual : List Numbers) (z : Closing) (s : State) (f : IsFound lv n c b next residual z s) where
  pub variable_behind : (x : ℕ) → z.types x ≡ put_types s.types (c.types x)
  variable_behind x = ap first_type (f.puts 0 (atom (constant 0 (var x ∷ []))) tt ∙ constant_typed s.types s.bindings (c.types x))

  pub type_behind : (T : Ty) → instance z.types T ≡ put_types s.types (instance c.types T)
  type_behind T =
      by_variables z.types (λ x. instance (λ y. put_types s.types (var y)) (c.types x)) (λ x. variable_behind x ∙ put_is s.types (c.types x)) T ∙ sym (instance-instance c.types (λ y. put_types s.types (var y)) T) ∙
      sym (put_is s.types (instance c.types T))
