-- What is to do for a goal, by its top.
use Rattle.std.proofs.Common.{◌≡◌, ◌∙◌, ℕ, suc, ◌+◌, List, [], ◌∷◌, ◌++◌, append_assoc, length, Vec, Global, ap, refl, sym, subst, arith}
use Rattle.std.proofs.lemmas.List.{append-nil}
use Rattle.lp_model.specs.declared.clause.Goal as code
use Rattle.lp_model.specs.declared.clause.Goal.{Goal}
use Rattle.lp_model.specs.declared.clause.Clause.{Clause}
use Rattle.lp_model.specs.Flat.{Goal as FlatGoal, Goals, Clauses, Atomic, Cut, Either, Exists, Forall, no_goals, goals, assuming, denied}
use Rattle.lp_model.specs.Flattened.{goal_of, goals_of, clauses_of}
use Rattle.lp_term.specs.Nodes.{Nodes, tree, type_tree}
use Rattle.lp_term.specs.declared.node.TermId.{TermId}
use Rattle.lp_term.specs.declared.node.TypeId.{TypeId}
use Rattle.lp_gen.specs.Sources.{ends_list}
use Rattle.lp_gen.specs.Limits.{goal_assumes}
use Rattle.lp_gen.specs.declared.plan.Assumption.{Assumption}
use Rattle.lp_gen.specs.declared.plan.Due.{Due}
use Rattle.lp_gen.specs.declared.plan.Step.{Step}
use Rattle.lp_gen.specs.declared.plan.Step.TheVariants as on
use Rattle.lp_gen.specs.inner.OpenGoals.{BodyStep, turn, end_either, end_all, end_assume, end_deny, goal_steps, goals_steps}
use Rattle.lp_gen.specs.inner.BodyCode.{Suppositions, step_of}
use Rattle.lp_gen.specs.inner.Planned.{clauses_length, goal_records, goals_records, level_behind, levels_behind, GoalHas, GoalsHave, IsWritten, DeepGoal}
use Rattle.lp_gen.specs.inner.Planning.{IsAssumed, Todo, due_goals, due_end, todo_steps, todo_records, TodoHave, TodoWritten, TodoDeep, WalkKept}
use Rattle.lp_gen.proofs.Tops.{atom_is, cut_is, either_is, some_is, all_is, assume_is, not_is, clauses_many}
use Rattle.lp_gen.proofs.PlanWalked.{step_put, todo_same, assume_put}

-- a single goal by its top
one_steps : (b : Nodes) (cl : Suppositions) (g : Goal) (F : FlatGoal) (ts : List Todo) (ss : List BodyStep) → goal_of b g ≡ F → goal_steps F ++
    todo_steps b cl ts ≡ ss → todo_steps b cl (due_goals (g ∷ []) ∷ ts) ≡ ss
one_steps b cl g F ts ss is e = ap (λ l. l ++ todo_steps b cl ts) (append-nil (goal_steps (goal_of b g))) ∙ ap (λ u. goal_steps u ++ todo_steps b cl ts) is ∙ e

one_has : (b : Nodes) (D : ℕ → ℕ → Clauses → Type 0) (q d : ℕ) (g : Goal) (F : FlatGoal) (ts : List Todo) → goal_of b g ≡ F → GoalHas D q d F →
    TodoHave b D (q + goal_records F) (level_behind d F) ts → TodoHave b D q d (due_goals (g ∷ []) ∷ ts)
one_has b D q d g F ts is x y =
    let z : q + goal_records F ≡ q + (goal_records F + 0) = omega arith in
    ((subst (GoalHas D q d) (sym is) x, tt), subst (λ u. TodoHave b D (q + (goal_records u + 0)) (level_behind d u) ts) (sym is) (subst (λ k. TodoHave b D k (level_behind d F) ts) z y))

one_records : (b : Nodes) (g : Goal) (F : FlatGoal) (ts : List Todo) → goal_of b g ≡ F → todo_records b (due_goals (g ∷ []) ∷ ts) ≡ goal_assumes F + todo_records b ts
one_records b g F ts is = let n = ap goal_assumes is in omega (arith, n)

one_written : (b : Nodes) (g : Goal) (F : FlatGoal) (ts : List Todo) → goal_of b g ≡ F → IsWritten F → TodoWritten b ts → TodoWritten b (due_goals (g ∷ []) ∷ ts)
one_written b g F ts is x y = ((subst IsWritten (sym is) x, tt), y)

one_deep : (b : Nodes) (g : Goal) (F : FlatGoal) (ts : List Todo) → goal_of b g ≡ F → TodoDeep b (due_goals (g ∷ []) ∷ ts) → DeepGoal F × TodoDeep b ts
one_deep b g F ts is x = (subst DeepGoal is x.0.0, x.1)

-- a goal may be the last one
last_goal : (g : FlatGoal) → ends_list g no_goals
last_goal (Atomic t) = tt
last_goal Cut = tt
last_goal (Either gs hs) = tt
last_goal (Exists T gs) = refl
last_goal (Forall T gs) = tt
last_goal (Rattle.lp_model.specs.Flat.Assume w cs gs) = tt
last_goal (Rattle.lp_model.specs.Flat.Not w gs) = tt

none_more : (b : Nodes) (D : ℕ → ℕ → Clauses → Type 0) (q d : ℕ) (ts : List Todo) → TodoHave b D q d ts → TodoHave b D (q + 0) d ts
none_more b D q d ts x = let z : q ≡ q + 0 = omega arith in subst (λ k. TodoHave b D k d ts) z x

module _ (us : List Due) (xs : List Assumption) (d : ℕ) (ss : List Step) (ts : List Todo) where
  -- goals one by one
  pub first_goal : (g : Goal) (gs : List Goal) → WalkKept us us xs xs d d ss ss (due_goals (g ∷ gs) ∷ ts) (due_goals (g ∷ []) ∷ due_goals gs ∷ ts)
  first_goal g gs =
      todo_same us xs d d ss (due_goals (g ∷ gs) ∷ ts) (due_goals (g ∷ []) ∷ due_goals gs ∷ ts)
      (λ b cl. append_assoc (goal_steps (goal_of b g)) (goals_steps (goals_of b gs)) (todo_steps b cl ts) ∙ ap
      (λ l. l ++ (goals_steps (goals_of b gs) ++ todo_steps b cl ts)) (sym (append-nil (goal_steps (goal_of b g)))))
      (λ b D q x.
      let z : q + (goal_records (goal_of b g) + 0) ≡ q + goal_records (goal_of b g) = omega arith in
      let y : q + (goal_records (goal_of b g) + 0) + goals_records (goals_of b gs) ≡ q + (goal_records (goal_of b g) + goals_records (goals_of b gs)) = omega arith in (
        (x.0.0, subst (λ k. GoalsHave D k (level_behind d (goal_of b g)) (goals_of b gs)) z x.1.0),
        subst (λ k. TodoHave b D k (levels_behind (level_behind d (goal_of b g)) (goals_of b gs)) ts) y x.1.1,
      ))
      (λ b x. ((x.0.0, x.1.0), x.1.1)) (λ b x. ((x.0.0, last_goal (goal_of b g), tt), (x.0.2, x.1))) (λ e. e) (λ b. omega arith)

  pub no_more : WalkKept us us xs xs d d ss ss (due_goals [] ∷ ts) ts
  no_more = todo_same us xs d d ss (due_goals [] ∷ ts) ts (λ b cl. refl) (λ b D q x. (tt, none_more b D q d ts x)) (λ b x. (tt, x)) (λ b x. x.1) (λ e. e) (λ b. omega arith)

  pub atom_put : (t : TermId) → WalkKept us us xs xs d d ss (ss ++ on.Atom t ∷ []) (due_goals (code.Atom t ∷ []) ∷ ts) ts
  atom_put t =
      step_put us xs d d ss (on.Atom t) (due_goals (code.Atom t ∷ []) ∷ ts) ts (λ b cl. one_steps b cl (code.Atom t) (Atomic (tree b t.0)) ts
      (step_of b cl (on.Atom t) ∷ todo_steps b cl ts) (atom_is b t) refl)
      (λ b D q x. one_has b D q d (code.Atom t) (Atomic (tree b t.0)) ts (atom_is b t) tt (none_more b D q d ts x))
      (λ b x. one_written b (code.Atom t) (Atomic (tree b t.0)) ts (atom_is b t) tt x) (λ b x. x.1)
      (λ e. (e, (λ t q m. tt, λ t q. refl, λ t. refl))) (λ b. let n = one_records b (code.Atom t) (Atomic (tree b t.0)) ts (atom_is b t) in omega (arith, n))

  pub cut_put : WalkKept us us xs xs d d ss (ss ++ on.Cut ∷ []) (due_goals (code.Cut ∷ []) ∷ ts) ts
  cut_put =
      step_put us xs d d ss on.Cut (due_goals (code.Cut ∷ []) ∷ ts) ts (λ b cl. one_steps b cl code.Cut Cut ts (step_of b cl on.Cut ∷ todo_steps b cl ts) (cut_is b) refl)
      (λ b D q x. one_has b D q d code.Cut Cut ts (cut_is b) tt (none_more b D q d ts x)) (λ b x. one_written b code.Cut Cut ts (cut_is b) tt x)
      (λ b x. x.1) (λ e. (e, (λ t q m. tt, λ t q. refl, λ t. refl))) (λ b. let n = one_records b code.Cut Cut ts (cut_is b) in omega (arith, n))

  pub either_put : (l r : Vec Goal Global) →
      WalkKept us us xs xs d d ss (ss ++ on.Either ∷ []) (due_goals (code.Either l r ∷ []) ∷ ts) (due_goals l.items ∷ due_end on.Turn d ∷ due_goals r.items ∷ due_end on.EndEither d ∷ ts)
  either_put l r =
      step_put us xs d d ss on.Either (due_goals (code.Either l r ∷ []) ∷ ts) (due_goals l.items ∷ due_end on.Turn d ∷ due_goals r.items ∷ due_end on.EndEither d ∷ ts)
      (λ b cl.
      one_steps b cl (code.Either l r) (Either (goals_of b l.items) (goals_of b r.items)) ts
      (step_of b cl on.Either ∷ todo_steps b cl (due_goals l.items ∷ due_end on.Turn d ∷ due_goals r.items ∷ due_end on.EndEither d ∷ ts)) (either_is b l r)
      (ap (λ u. step_of b cl on.Either ∷ u) (append_assoc (goals_steps (goals_of b l.items)) (turn ∷ (goals_steps (goals_of b r.items) ++ end_either ∷ [])) (todo_steps b cl ts)
      ∙ ap (λ u. goals_steps (goals_of b l.items) ++ turn ∷ u) (append_assoc (goals_steps (goals_of b r.items)) (end_either ∷ []) (todo_steps b cl ts)))))
      (λ b D q x.
      let n = goals_records (goals_of b l.items) in
      let m = goals_records (goals_of b r.items) in
      let z : q + n + m ≡ q + (n + m) = omega arith in
      one_has b D q d (code.Either l r) (Either (goals_of b l.items) (goals_of b r.items)) ts (either_is b l r) (x.0, x.1.0) (subst (λ k. TodoHave b D k d ts) z x.1.1))
      (λ b x. one_written b (code.Either l r) (Either (goals_of b l.items) (goals_of b r.items)) ts (either_is b l r) (x.0, x.1.0) x.1.1)
      (λ b x. let y = one_deep b (code.Either l r) (Either (goals_of b l.items) (goals_of b r.items)) ts (either_is b l r) x in
      (y.0.0, (y.0.1, y.1))) (λ e. (
        ((λ t q m. tt, λ t q. refl, λ t. refl), ((λ t q m. tt, λ t q. refl, λ t. refl), e)),
        (λ t q m. tt, λ t q. refl, λ t. refl),
      ))
      (λ b. let n = one_records b (code.Either l r) (Either (goals_of b l.items) (goals_of b r.items)) ts (either_is b l r) in omega (arith, n))

  pub some_put : (d' : ℕ) (T : TypeId) (l : Vec Goal Global) → d' ≡ suc d → WalkKept us us xs xs d d' ss (ss ++ on.Some T ∷ [])
      (due_goals (code.Some T l ∷ []) ∷ ts) (due_goals l.items ∷ ts)
  some_put d' T l more =
      step_put us xs d d' ss (on.Some T) (due_goals (code.Some T l ∷ []) ∷ ts) (due_goals l.items ∷ ts)
      (λ b cl. one_steps b cl (code.Some T l) (Exists (type_tree b T.0) (goals_of b l.items)) ts
      (step_of b cl (on.Some T) ∷ todo_steps b cl (due_goals l.items ∷ ts)) (some_is b T l) refl)
      (λ b D q x. one_has b D q d (code.Some T l) (Exists (type_tree b T.0) (goals_of b l.items)) ts (some_is b T l) (subst (λ k. GoalsHave D q k (goals_of b l.items)) more x.0)
      (subst (λ k. TodoHave b D (q + goals_records (goals_of b l.items)) (levels_behind k (goals_of b l.items)) ts) more x.1))
      (λ b x. one_written b (code.Some T l) (Exists (type_tree b T.0) (goals_of b l.items)) ts (some_is b T l) x.0 x.1)
      (λ b x. one_deep b (code.Some T l) (Exists (type_tree b T.0) (goals_of b l.items)) ts (some_is b T l) x)
      (λ e. (e, (λ t q m. tt, λ t q. refl, λ t. refl))) (λ b. one_records b (code.Some T l) (Exists (type_tree b T.0) (goals_of b l.items)) ts (some_is b T l))

  pub all_put : (d' : ℕ) (T : TypeId) (l : Vec Goal Global) → d' ≡ suc d → WalkKept us us xs xs d d' ss (ss ++ on.All T ∷ [])
      (due_goals (code.All T l ∷ []) ∷ ts) (due_goals l.items ∷ due_end on.EndAll d ∷ ts)
  all_put d' T l more =
      step_put us xs d d' ss (on.All T) (due_goals (code.All T l ∷ []) ∷ ts) (due_goals l.items ∷ due_end on.EndAll d ∷ ts)
      (λ b cl.
      one_steps b cl (code.All T l) (Forall (type_tree b T.0) (goals_of b l.items)) ts (step_of b cl (on.All T) ∷ todo_steps b cl (due_goals l.items ∷ due_end on.EndAll d ∷ ts)) (all_is b T l)
      (ap (λ u. step_of b cl (on.All T) ∷ u) (append_assoc (goals_steps (goals_of b l.items)) (end_all ∷ []) (todo_steps b cl ts))))
      (λ b D q x. one_has b D q d (code.All T l) (Forall (type_tree b T.0) (goals_of b l.items)) ts (all_is b T l) (subst (λ k. GoalsHave D q k (goals_of b l.items)) more x.0) x.1)
      (λ b x. one_written b (code.All T l) (Forall (type_tree b T.0) (goals_of b l.items)) ts (all_is b T l) x.0 x.1)
      (λ b x. one_deep b (code.All T l) (Forall (type_tree b T.0) (goals_of b l.items)) ts (all_is b T l) x)
      (λ e. (((λ t q m. tt, λ t q. refl, λ t. refl), e), (λ t q m. tt, λ t q. refl, λ t. refl)))
      (λ b. one_records b (code.All T l) (Forall (type_tree b T.0) (goals_of b l.items)) ts (all_is b T l))

  pub not_put : (l : Vec Goal Global) → WalkKept us us xs xs d d ss (ss ++ on.Not ∷ []) (due_goals (code.Not l ∷ []) ∷ ts) (due_goals l.items ∷ due_end on.EndNot d ∷ ts)
  not_put l =
      step_put us xs d d ss on.Not (due_goals (code.Not l ∷ []) ∷ ts) (due_goals l.items ∷ due_end on.EndNot d ∷ ts)
      (λ b cl.
      one_steps b cl (code.Not l) (denied (goals_of b l.items)) ts (step_of b cl on.Not ∷ todo_steps b cl (due_goals l.items ∷ due_end on.EndNot d ∷ ts)) (not_is b l)
      (ap (λ u. step_of b cl on.Not ∷ u) (append_assoc (goals_steps (goals_of b l.items)) (end_deny ∷ []) (todo_steps b cl ts))))
      (λ b D q x. one_has b D q d (code.Not l) (denied (goals_of b l.items)) ts (not_is b l) x.0 x.1)
      (λ b x. one_written b (code.Not l) (denied (goals_of b l.items)) ts (not_is b l) (refl, x.0) x.1)
      (λ b x. one_deep b (code.Not l) (denied (goals_of b l.items)) ts (not_is b l) x)
      (λ e. (((λ t q m. tt, λ t q. refl, λ t. refl), e), (λ t q m. tt, λ t q. refl, λ t. refl))) (λ b. one_records b (code.Not l) (denied (goals_of b l.items)) ts (not_is b l))

  pub assumed_put : (us' : List Due) (xs' : List Assumption) (n : ℕ) (cs : Vec Clause Global) (l : Vec Goal Global) → IsAssumed us us' xs xs' cs.items d n →
      WalkKept us us' xs xs' d d ss (ss ++ on.Assume n ∷ []) (due_goals (code.Assume cs l ∷ []) ∷ ts) (due_goals l.items ∷ due_end on.EndAssume d ∷ ts)
  assumed_put us' xs' n cs l (x, grown, number, made) =
      subst (λ k. WalkKept us us' xs xs' d d ss (ss ++ on.Assume k ∷ []) (due_goals (code.Assume cs l ∷ []) ∷ ts) (due_goals l.items ∷ due_end on.EndAssume d ∷ ts)) (sym number)
      (subst (λ ys. WalkKept us us' xs ys d d ss (ss ++ on.Assume (length xs) ∷ []) (due_goals (code.Assume cs l ∷ []) ∷ ts) (due_goals l.items ∷ due_end on.EndAssume d ∷ ts)) (sym grown)
      (assume_put us us' xs cs.items d d x ss (due_goals (code.Assume cs l ∷ []) ∷ ts) (due_goals l.items ∷ due_end on.EndAssume d ∷ ts) made
      (λ b cl e.
      one_steps b cl (code.Assume cs l) (assuming (clauses_of b cs.items) (goals_of b l.items)) ts
      (step_of b cl (on.Assume (length xs)) ∷ todo_steps b cl (due_goals l.items ∷ due_end on.EndAssume d ∷ ts)) (assume_is b cs l)
      ((λ i. Rattle.lp_gen.specs.inner.OpenGoals.assume (sym e i) ∷ append_assoc (goals_steps (goals_of b l.items)) (end_assume ∷ []) (todo_steps b cl ts) i)))
      (λ b D q here x.
      let many = clauses_many b cs.items in
      let z : q + length cs.items ≡ q + clauses_length (clauses_of b cs.items) = omega (arith, many) in
      let y : q + length cs.items + goals_records (goals_of b l.items) ≡ q + (clauses_length (clauses_of b cs.items) + goals_records (goals_of b l.items)) = omega (arith, many) in
      one_has b D q d (code.Assume cs l) (assuming (clauses_of b cs.items) (goals_of b l.items)) ts (assume_is b cs l) (here, subst (λ k. GoalsHave D k d (goals_of b l.items)) z x.0)
      (subst (λ k. TodoHave b D k d ts) y x.1))
      (λ b x. one_written b (code.Assume cs l) (assuming (clauses_of b cs.items) (goals_of b l.items)) ts (assume_is b cs l) (refl, x.0) x.1)
      (λ b x. let y = one_deep b (code.Assume cs l) (assuming (clauses_of b cs.items) (goals_of b l.items)) ts (assume_is b cs l) x in
      ((y.0.1, y.1), y.0.0)) (λ e. ((λ t q m. tt, λ t q. refl, λ t. refl), e))
      (λ b. let n = one_records b (code.Assume cs l) (assuming (clauses_of b cs.items) (goals_of b l.items)) ts (assume_is b cs l) in omega (arith, n))))

  pub end_put : (s : Step) (l : ℕ) → WalkKept us us xs xs d l ss (ss ++ s ∷ []) (due_end s l ∷ ts) ts
  end_put s l = step_put us xs d l ss s (due_end s l ∷ ts) ts (λ b cl. refl) (λ b D q x. x) (λ b x. x) (λ b x. x) (λ e. (e.1, e.0)) (λ b. refl)
