-- What is written in goals stays, where kinds and constants get other numbers: indices and type variables are none of theirs.
use Rattle.std.proofs.Common.{◌≡◌, ◌∙◌, ℕ, suc, List, [], ◌∷◌, ◌++◌, map, ap, refl, sym}
use Rattle.lp_calculus.specs.Types.{Ty, Tys, var, param as type_param, con, arrow, no_types, types}
use Rattle.lp_calculus.specs.Term.{Term, index, atom, abs, app, constant, integer, text, eigen, logic, param}
use Rattle.lp_term.specs.Mapped.{Map, mapped, mapped_type, mapped_types}
use Rattle.lp_model.specs.Flat.{Goal, Goals, Clauses, Atomic, Cut, Either, Exists, Forall, Assume, Not, no_goals, goals, clause, no_clauses, clauses, under_all, map_goal, loose_in, type_variables, types_variables, of_each, type_variables_in, collect_goal, collect_goals, collect_clauses}
use Rattle.lp_code.specs.Written.{written_goal, written_goals, written_clauses}
use Rattle.lp_link.specs.Renumbering.{moving}
use Rattle.lp_link.specs.inner.Renumbering.{moved_term, same_depth, moved_goals, moved_clauses}

-- nothing is under a binder that is changed as what is not
pub no_deeper : {A : Type 0} (xs : List A) (e : ℕ) → under_all same_depth xs e ≡ e
no_deeper [] e = refl
no_deeper (x ∷ xs) e = no_deeper xs e

module _ (f g : ℕ → ℕ) (n : ℕ) where
  abbrev m : Map
  m = moving f g n

  loose_same : (d : ℕ) (t : Term) → loose_in d (mapped m t) ≡ loose_in d t
  loose_same d (index i) = refl
  loose_same d (atom (constant c ts)) = refl
  loose_same d (atom (integer z)) = refl
  loose_same d (atom (text s)) = refl
  loose_same d (atom (eigen k)) = refl
  loose_same d (atom (logic x l)) = refl
  loose_same d (atom (param k T)) = refl
  loose_same d (abs b) = loose_same (suc d) b
  loose_same d (app t u) = λ j. loose_same d t j ++ loose_same d u j

  mutual
    variables_same : (T : Ty) → type_variables (mapped_type m T) ≡ type_variables T
    variables_same (var i) = refl
    variables_same (type_param k) = refl
    variables_same (con c ts) = all_variables_same ts
    variables_same (arrow a b) = λ j. variables_same a j ++ variables_same b j

    all_variables_same : (ts : Tys) → types_variables (mapped_types m ts) ≡ types_variables ts
    all_variables_same no_types = refl
    all_variables_same (types t ts) = λ j. variables_same t j ++ all_variables_same ts j

  each_same : (ts : List Ty) → of_each type_variables (map (mapped_type m) ts) ≡ of_each type_variables ts
  each_same [] = refl
  each_same (t ∷ ts) = λ j. variables_same t j ++ each_same ts j

  types_same : (t : Term) → type_variables_in (mapped m t) ≡ type_variables_in t
  types_same (index i) = refl
  types_same (atom (constant c ts)) = each_same ts
  types_same (atom (integer z)) = refl
  types_same (atom (text s)) = refl
  types_same (atom (eigen k)) = refl
  types_same (atom (logic x l)) = refl
  types_same (atom (param k T)) = variables_same T
  types_same (abs b) = types_same b
  types_same (app t u) = λ j. types_same t j ++ types_same u j

  under_same : (up : ℕ → ℕ) (Ts : List Ty) (d : ℕ) → under_all up (map (mapped_type m) Ts) d ≡ under_all up Ts d
  under_same up [] d = refl
  under_same up (T ∷ Ts) d = ap up (under_same up Ts d)

  module _ (h : ℕ → Term → List ℕ) (stays : (d : ℕ) (t : Term) → h d (mapped m t) ≡ h d t) where
    mutual
      goal_collected : (d e : ℕ) (x : Goal) → collect_goal h d (map_goal same_depth (moved_term m) (mapped_type m) e x) ≡ collect_goal h d x
      goal_collected d e (Atomic t) = stays d t
      goal_collected d e Cut = refl
      goal_collected d e (Either gs hs) = λ j. goals_collected d e gs j ++ goals_collected d e hs j
      goal_collected d e (Exists T gs) = goals_collected (suc d) e gs
      goal_collected d e (Forall T gs) = goals_collected (suc d) e gs
      goal_collected d e (Assume w cs gs) = λ j. clauses_collected d e cs j ++ goals_collected d e gs j
      goal_collected d e (Not w gs) = goals_collected d e gs

      goals_collected : (d e : ℕ) (gs : Goals) → collect_goals h d (moved_goals m e gs) ≡ collect_goals h d gs
      goals_collected d e no_goals = refl
      goals_collected d e (goals x gs) = λ j. goal_collected d e x j ++ goals_collected d e gs j

      clauses_collected : (d e : ℕ) (cs : Clauses) → collect_clauses h d (moved_clauses m e cs) ≡ collect_clauses h d cs
      clauses_collected d e no_clauses = refl
      clauses_collected d e (clauses (clause k vs x b) cs) =
          λ j. ((ap (λ q. h q (mapped m x)) (under_same suc vs d) ∙ stays (under_all suc vs d) x) j
          ++ (ap (λ q. collect_goals h q (moved_goals m (under_all same_depth vs e) b)) (under_same suc vs d) ∙ goals_collected (under_all suc vs d) (under_all same_depth vs e) b) j)
          ++ clauses_collected d e cs j

  indices_stay : (is : List ℕ) → map (mapped m) (map index is) ≡ map index is
  indices_stay [] = refl
  indices_stay (i ∷ is) = ap (λ l. index i ∷ l) (indices_stay is)

  vars_stay : (is : List ℕ) → map (mapped_type m) (map var is) ≡ map var is
  vars_stay [] = refl
  vars_stay (i ∷ is) = ap (λ l. var i ∷ l) (vars_stay is)

  mutual
    goal_written : (e : ℕ) (x : Goal) → written_goal (map_goal same_depth (moved_term m) (mapped_type m) e x) ≡ map_goal same_depth (moved_term m) (mapped_type m) e (written_goal x)
    goal_written e (Atomic t) = refl
    goal_written e Cut = refl
    goal_written e (Either gs hs) = λ j. Either (goals_written e gs j) (goals_written e hs j)
    goal_written e (Exists T gs) = ap (Exists (mapped_type m T)) (goals_written e gs)
    goal_written e (Forall T gs) = ap (Forall (mapped_type m T)) (goals_written e gs)
    goal_written e (Assume w cs gs) =
        let told = written_clauses cs in
        λ j. Assume
        (record {
          terms = (ap (λ l. map index (collect_clauses loose_in 0 l)) (clauses_written e cs) ∙ ap (map index)
              (clauses_collected loose_in loose_same 0 e told) ∙ sym (indices_stay (collect_clauses loose_in 0 told))) j;
          types = (ap (λ l. map var (collect_clauses (λ d t. type_variables_in t) 0 l)) (clauses_written e cs) ∙ ap (map var)
              (clauses_collected (λ d t. type_variables_in t) (λ d. types_same) 0 e told) ∙ sym
              (vars_stay (collect_clauses (λ d t. type_variables_in t) 0 told))) j;
        })
        (clauses_written e cs j) (goals_written e gs j)
    goal_written e (Not w gs) =
        let told = written_goals gs in
        λ j. Not
        (record {
          terms = (ap (λ l. map index (collect_goals loose_in 0 l)) (goals_written e gs) ∙ ap (map index)
              (goals_collected loose_in loose_same 0 e told) ∙ sym (indices_stay (collect_goals loose_in 0 told))) j;
          types = (ap (λ l. map var (collect_goals (λ d t. type_variables_in t) 0 l)) (goals_written e gs) ∙ ap (map var)
              (goals_collected (λ d t. type_variables_in t) (λ d. types_same) 0 e told) ∙ sym
              (vars_stay (collect_goals (λ d t. type_variables_in t) 0 told))) j;
        })
        (goals_written e gs j)

    pub goals_written : (e : ℕ) (gs : Goals) → written_goals (moved_goals m e gs) ≡ moved_goals m e (written_goals gs)
    goals_written e no_goals = refl
    goals_written e (goals x gs) = λ j. goals (goal_written e x j) (goals_written e gs j)

    clauses_written : (e : ℕ) (cs : Clauses) → written_clauses (moved_clauses m e cs) ≡ moved_clauses m e (written_clauses cs)
    clauses_written e no_clauses = refl
    clauses_written e (clauses (clause k vs x b) cs) = λ j. clauses (clause k (map (mapped_type m) vs) (mapped m x) (goals_written (under_all same_depth vs e) b j)) (clauses_written e cs j)
