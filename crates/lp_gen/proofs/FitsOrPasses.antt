-- Each record of a clause or query has at most 65,535 variables of its own and of quantifiers, or some record passes what it may have.
use Rattle.std.proofs.Common.{◌≡◌, ◌⊎◌, inl, inr, ◌≤◌, ◌<◌, ℕ, ◌+◌, List, length, map, reverse, Bool, true, false, refl, arith}
use Rattle.std.specs.Prelude.{nat_le}
use Rattle.std.proofs.lemmas.Bool.{leb-true, leb-false}
use Rattle.std.proofs.lemmas.List.{length-reverse}
use Rattle.lp_calculus.specs.Types.{Ty}
use Rattle.lp_term.specs.Nodes.{Nodes, tree, type_tree}
use Rattle.lp_model.specs.Flat.{Goal, Goals, Clauses, Atomic, Cut, Either, Exists, Forall, Assume, Not, no_goals, goals, clause, no_clauses, clauses}
use Rattle.lp_model.specs.Flattened.{goals_of}
use Rattle.lp_model.specs.declared.program.Declared.{Declared}
use Rattle.lp_gen.specs.Steps.{Around, constant_function}
use Rattle.lp_gen.specs.Registers.{with_variable, behind_goal, behind_head, in_body, with_unset, start_of, nothing_around, goal_takes, goals_take, SomeOfGoal, SomeOfGoals, SomeAssumed}
use Rattle.lp_gen.specs.declared.plan.Origin.{Origin}
use Rattle.lp_gen.specs.declared.plan.Origin.TheVariants as origin
use Rattle.lp_gen.specs.inner.Entering.{types_at}
use Rattle.lp_gen.specs.inner.Variables.{goal_binds, goals_bind, GoalFits, GoalsFit, ClausesFit, OriginFits}
use Rattle.lp_gen.specs.inner.Groups.{OriginFull}
use Rattle.lp_gen.proofs.TypeWorks.{map_length}

both_or : {X Y A B : Type 0} → X ⊎ A → Y ⊎ B → (X ⊎ Y) ⊎ (A × B)
both_or (inl x) z = inl (inl x)
both_or (inr a) (inl y) = inl (inr y)
both_or (inr a) (inr c) = inr (a, c)

low_or_past : (n m : ℕ) → (m < n) ⊎ (n ≤ m)
low_or_past n m = go (nat_le n m) refl
  where
    go : (t : Bool) → nat_le n m ≡ t → (m < n) ⊎ (n ≤ m)
    go true e = inr (leb-true n m e)
    go false e = inl (leb-false n m e)

by_test : {X : Type 0} {n m : ℕ} → (m < n) ⊎ (n ≤ m) → (m < n → X) → X ⊎ (n ≤ m)
by_test (inl p) f = inl (f p)
by_test (inr p) f = inr p

three_or : {X Y Z A B C : Type 0} → X ⊎ A → Y ⊎ B → Z ⊎ C → (X ⊎ (Y ⊎ Z)) ⊎ (A × B × C)
three_or (inl x) y z = inl (inl x)
three_or (inr a) (inl y) z = inl (inr (inl y))
three_or (inr a) (inr c) (inl z) = inl (inr (inr z))
three_or (inr a) (inr c) (inr d) = inr (a, c, d)

module _ (K : ℕ → List Ty → Ty) (v : ℕ) where
  -- each variable of a quantifier takes a register

  mutual
    goal_bound : (a : Around) (g : Goal) → goal_binds g ≤ (goal_takes K v a g).terms
    goal_bound a (Atomic t) = omega arith
    goal_bound a Cut = omega arith
    goal_bound a (Either gs hs) = let x = goals_bound a gs in let y = goals_bound a hs in omega (arith, x, y)
    goal_bound a (Exists T gs) = let x = goals_bound (with_variable a T) gs in omega (arith, x)
    goal_bound a (Forall T gs) = let x = goals_bound (with_variable a T) gs in omega (arith, x)
    goal_bound a (Assume w cs gs) = let x = goals_bound a gs in omega (arith, x)
    goal_bound a (Not w gs) = let x = goals_bound a gs in omega (arith, x)

    goals_bound : (a : Around) (gs : Goals) → goals_bind gs ≤ (goals_take K v a gs).terms
    goals_bound a no_goals = omega arith
    goals_bound a (goals g gs) = let x = goal_bound a g in let y = goals_bound (behind_goal a g) gs in omega (arith, x, y)

  mutual
    goal_fits : (a : Around) (g : Goal) → SomeOfGoal K v a g ⊎ GoalFits g
    goal_fits a (Atomic t) = inr tt
    goal_fits a Cut = inr tt
    goal_fits a (Either gs hs) = both_or (goals_fit a gs) (goals_fit a hs)
    goal_fits a (Exists T gs) = goals_fit (with_variable a T) gs
    goal_fits a (Forall T gs) = goals_fit (with_variable a T) gs
    goal_fits a (Assume w cs gs) = both_or (clauses_fit (start_of a cs) cs) (goals_fit a gs)
    goal_fits a (Not w gs) = goals_fit a gs

    goals_fit : (a : Around) (gs : Goals) → SomeOfGoals K v a gs ⊎ GoalsFit gs
    goals_fit a no_goals = inr tt
    goals_fit a (goals g gs) = both_or (goal_fits a g) (goals_fit (behind_goal a g) gs)

    clauses_fit : (s : Around) (cs : Clauses) → SomeAssumed K v s cs ⊎ ClausesFit cs
    clauses_fit s no_clauses = inr tt
    clauses_fit s (clauses (clause n vs h b) cs) =
        let x = goals_bound (in_body (behind_head K (with_unset s vs) h)) b in
        three_or (by_test (low_or_past (length vs + goals_bind b) 65535) (λ p. inr (inl (omega (arith, p, x))))) (goals_fit (in_body (with_unset s vs)) b) (clauses_fit s cs)

-- a clause or query

pub origin_fits : (b : Nodes) (ds : List Declared) (v : ℕ) (o : Origin) → OriginFull b ds v o ⊎ OriginFits b o
origin_fits b ds v (origin.Clause c) =
    let K = constant_function b ds in
    let vs = types_at b c.now.vars.items in
    let h = tree b c.now.head.0 in
    let gs = goals_of b c.now.body.items in
    let x = goals_bound K v (in_body (behind_head K (with_unset nothing_around vs) h)) gs in
    let n = map_length (λ t. type_tree b t.0) c.now.vars.items in
    both_or (by_test (low_or_past (length c.now.vars.items + goals_bind gs) 65535) (λ p. inr (inl (omega (arith, p, x, n))))) (goals_fit K v (in_body (with_unset nothing_around vs)) gs)
origin_fits b ds v (origin.Query q body) =
    let K = constant_function b ds in
    let us = types_at b (map (λ v. v.1) q.now.vars.items) in
    let gs = goals_of b body.now in
    let x = goals_bound K v (in_body (with_unset nothing_around (reverse us))) gs in
    let n = length-reverse us in
    let m = map_length (λ t. type_tree b t.0) (map (λ v. v.1) q.now.vars.items) in
    let l = map_length (λ v. v.1) q.now.vars.items in
    both_or (by_test (low_or_past (length q.now.vars.items + goals_bind gs) 65535) (λ p. inr (inl (omega (arith, p, x, n, m, l))))) (goals_fit K v (in_body (with_unset nothing_around (reverse us))) gs)
