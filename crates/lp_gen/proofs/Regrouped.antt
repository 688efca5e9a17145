-- Goals without what is written in them, in which each `sigma` takes what is behind it in its list: they have the same steps, and some record of them passes its limits just where one of the goals as they were does.
use Rattle.std.proofs.Common.{◌≡◌, ◌∙◌, ◌⊎◌, inl, inr, ℕ, suc, ◌+◌, List, [], ◌∷◌, ◌++◌, append_assoc, ap, refl, sym, subst, arith}
use Rattle.std.proofs.lemmas.List.{append-nil}
use Rattle.lp_calculus.specs.Types.{Ty}
use Rattle.lp_model.specs.Flat.{Goal, Goals, Clauses, Atomic, Cut, Either, Exists, Forall, Assume, Not, no_goals, goals}
use Rattle.lp_code.specs.Written.{nothing_written}
use Rattle.lp_gen.specs.Steps.{Around}
use Rattle.lp_gen.specs.Registers.{with_variable, behind_goal, behind_goals, SomeOfGoal, SomeOfGoals}
use Rattle.lp_gen.specs.inner.OpenGoals.{either, turn, end_either, some, all, end_all, assume, end_assume, deny, end_deny, goal_steps, goals_steps, plain_goals, EndsGoals}
use Rattle.lp_gen.specs.inner.Planned.{clauses_length, goal_records, goals_records, level_behind, levels_behind, GoalHas, GoalsHave}

-- a goal, or goals, before others
abbrev mutual
  pub goal_before : Goal → Goals → Goals
  goal_before (Atomic t) hs = goals (Atomic t) hs
  goal_before Cut hs = goals Cut hs
  goal_before (Either ls rs) hs = goals (Either (goals_before ls no_goals) (goals_before rs no_goals)) hs
  goal_before (Exists T gs) hs = goals (Exists T (goals_before gs hs)) no_goals
  goal_before (Forall T gs) hs = goals (Forall T (goals_before gs no_goals)) hs
  goal_before (Assume w cs gs) hs = goals (Assume nothing_written cs (goals_before gs no_goals)) hs
  goal_before (Not w gs) hs = goals (Not nothing_written (goals_before gs no_goals)) hs

  pub goals_before : Goals → Goals → Goals
  goals_before no_goals hs = hs
  goals_before (goals g gs) hs = goal_before g (goals_before gs hs)

abbrev pub regrouped : Goals → Goals
regrouped gs = goals_before gs no_goals

-- the steps are the same

mutual
  goal_steps_before : (g : Goal) (hs : Goals) → goals_steps (goal_before g hs) ≡ goal_steps g ++ goals_steps hs
  goal_steps_before (Atomic t) hs = refl
  goal_steps_before Cut hs = refl
  goal_steps_before (Either ls rs) hs = λ i. (either ∷ ((steps_before ls no_goals ∙ append-nil (goals_steps ls)) i ++ turn ∷ ((steps_before rs no_goals ∙ append-nil (goals_steps rs)) i ++ end_either ∷ []))) ++ goals_steps hs
  goal_steps_before (Exists T gs) hs = append-nil (some T ∷ goals_steps (goals_before gs hs)) ∙ ap (λ l. some T ∷ l) (steps_before gs hs)
  goal_steps_before (Forall T gs) hs = λ i. (all T ∷ ((steps_before gs no_goals ∙ append-nil (goals_steps gs)) i ++ end_all ∷ [])) ++ goals_steps hs
  goal_steps_before (Assume w cs gs) hs = λ i. (assume cs ∷ ((steps_before gs no_goals ∙ append-nil (goals_steps gs)) i ++ end_assume ∷ [])) ++ goals_steps hs
  goal_steps_before (Not w gs) hs = λ i. (deny ∷ ((steps_before gs no_goals ∙ append-nil (goals_steps gs)) i ++ end_deny ∷ [])) ++ goals_steps hs

  steps_before : (gs hs : Goals) → goals_steps (goals_before gs hs) ≡ goals_steps gs ++ goals_steps hs
  steps_before no_goals hs = refl
  steps_before (goals g gs) hs =
      goal_steps_before g (goals_before gs hs) ∙ ap (λ l. goal_steps g ++ l) (steps_before gs hs) ∙ sym (append_assoc (goal_steps g) (goals_steps gs) (goals_steps hs))

pub regrouped_steps : (gs : Goals) → goals_steps (regrouped gs) ≡ goals_steps gs
regrouped_steps gs = steps_before gs no_goals ∙ append-nil (goals_steps gs)

-- nothing is written in them

mutual
  goal_plain : (g : Goal) (hs : Goals) → plain_goals (goal_before g hs) ≡ goal_before g (plain_goals hs)
  goal_plain (Atomic t) hs = refl
  goal_plain Cut hs = refl
  goal_plain (Either ls rs) hs = λ i. goals (Either (plain_before ls no_goals i) (plain_before rs no_goals i)) (plain_goals hs)
  goal_plain (Exists T gs) hs = λ i. goals (Exists T (plain_before gs hs i)) no_goals
  goal_plain (Forall T gs) hs = λ i. goals (Forall T (plain_before gs no_goals i)) (plain_goals hs)
  goal_plain (Assume w cs gs) hs = λ i. goals (Assume nothing_written cs (plain_before gs no_goals i)) (plain_goals hs)
  goal_plain (Not w gs) hs = λ i. goals (Not nothing_written (plain_before gs no_goals i)) (plain_goals hs)

  plain_before : (gs hs : Goals) → plain_goals (goals_before gs hs) ≡ goals_before gs (plain_goals hs)
  plain_before no_goals hs = refl
  plain_before (goals g gs) hs = goal_plain g (goals_before gs hs) ∙ ap (goal_before g) (plain_before gs hs)

pub regrouped_plain : (gs : Goals) → plain_goals (regrouped gs) ≡ regrouped gs
regrouped_plain gs = plain_before gs no_goals

-- each `sigma` ends its list

mutual
  goal_ends : (g : Goal) (hs : Goals) → EndsGoals hs → EndsGoals (goal_before g hs)
  goal_ends (Atomic t) hs e = (tt, tt, e)
  goal_ends Cut hs e = (tt, tt, e)
  goal_ends (Either ls rs) hs e = ((ends_before ls no_goals tt, ends_before rs no_goals tt), tt, e)
  goal_ends (Exists T gs) hs e = (ends_before gs hs e, refl, tt)
  goal_ends (Forall T gs) hs e = (ends_before gs no_goals tt, tt, e)
  goal_ends (Assume w cs gs) hs e = (ends_before gs no_goals tt, tt, e)
  goal_ends (Not w gs) hs e = (ends_before gs no_goals tt, tt, e)

  ends_before : (gs hs : Goals) → EndsGoals hs → EndsGoals (goals_before gs hs)
  ends_before no_goals hs e = e
  ends_before (goals g gs) hs e = goal_ends g (goals_before gs hs) (ends_before gs hs e)

pub regrouped_ends : (gs : Goals) → EndsGoals (regrouped gs)
regrouped_ends gs = ends_before gs no_goals tt

-- the same records

mutual
  goal_records_before : (g : Goal) (hs : Goals) → goals_records (goal_before g hs) ≡ goal_records g + goals_records hs
  goal_records_before (Atomic t) hs = omega arith
  goal_records_before Cut hs = omega arith
  goal_records_before (Either ls rs) hs = let x = records_before ls no_goals in let y = records_before rs no_goals in omega (arith, x, y)
  goal_records_before (Exists T gs) hs = let x = records_before gs hs in omega (arith, x)
  goal_records_before (Forall T gs) hs = let x = records_before gs no_goals in omega (arith, x)
  goal_records_before (Assume w cs gs) hs = let x = records_before gs no_goals in omega (arith, x)
  goal_records_before (Not w gs) hs = let x = records_before gs no_goals in omega (arith, x)

  records_before : (gs hs : Goals) → goals_records (goals_before gs hs) ≡ goals_records gs + goals_records hs
  records_before no_goals hs = omega arith
  records_before (goals g gs) hs = let x = goal_records_before g (goals_before gs hs) in let y = records_before gs hs in omega (arith, x, y)

-- what holds of the clauses that are assumed

module _ (D : ℕ → ℕ → Clauses → Type 0) where
  moved_on : (q n m d : ℕ) (gs : Goals) → n ≡ m → GoalsHave D (q + n) d gs → GoalsHave D (q + m) d gs
  moved_on q n m d gs e x = subst (λ k. GoalsHave D (q + k) d gs) e x

  mutual
    goal_have_before : (q d : ℕ) (g : Goal) (hs : Goals) → GoalHas D q d g → GoalsHave D (q + goal_records g) (level_behind d g) hs → GoalsHave D q d (goal_before g hs)
    goal_have_before q d (Atomic t) hs x y = (tt, y)
    goal_have_before q d Cut hs x y = (tt, y)
    goal_have_before q d (Either ls rs) hs x y =
        let p = records_before ls no_goals in
        let r = records_before rs no_goals in (
          (have_before q d ls no_goals x.0 tt, moved_on q (goals_records ls) (goals_records (goals_before ls no_goals)) d (goals_before rs no_goals) (omega (arith, p)) (have_before (q + goals_records ls) d rs no_goals x.1 tt)),
          moved_on q (goals_records ls + goals_records rs) (goals_records (goals_before ls no_goals) + goals_records (goals_before rs no_goals)) d hs (omega (arith, p, r)) y,
        )
    goal_have_before q d (Exists T gs) hs x y = (have_before q (suc d) gs hs x y, tt)
    goal_have_before q d (Forall T gs) hs x y =
        let p = records_before gs no_goals in (have_before q (suc d) gs no_goals x tt, moved_on q (goals_records gs) (goals_records (goals_before gs no_goals)) d hs (omega (arith, p)) y)
    goal_have_before q d (Assume w cs gs) hs x y =
        let p = records_before gs no_goals in (
          (x.0, have_before (q + clauses_length cs) d gs no_goals x.1 tt),
          moved_on q (clauses_length cs + goals_records gs) (clauses_length cs + goals_records (goals_before gs no_goals)) d hs (omega (arith, p)) y,
        )
    goal_have_before q d (Not w gs) hs x y =
        let p = records_before gs no_goals in (have_before q d gs no_goals x tt, moved_on q (goals_records gs) (goals_records (goals_before gs no_goals)) d hs (omega (arith, p)) y)

    have_before : (q d : ℕ) (gs hs : Goals) → GoalsHave D q d gs → GoalsHave D (q + goals_records gs) (levels_behind d gs) hs → GoalsHave D q d (goals_before gs hs)
    have_before q d no_goals hs x y = let z : q + 0 ≡ q = omega arith in subst (λ n. GoalsHave D n d hs) z y
    have_before q d (goals g gs) hs x y =
        goal_have_before q d g (goals_before gs hs) x.0 (have_before (q + goal_records g) (level_behind d g) gs hs x.1
        (let z : q + (goal_records g + goals_records gs) ≡ q + goal_records g + goals_records gs = omega arith in subst (λ n. GoalsHave D n (levels_behind (level_behind d g) gs) hs) z y))

  pub regrouped_have : (q d : ℕ) (gs : Goals) → GoalsHave D q d gs → GoalsHave D q d (regrouped gs)
  regrouped_have q d gs x = have_before q d gs no_goals x tt

-- some record passes

only_first : {X : Type 0} → X ⊎ ⊥ → X
only_first (inl x) = x
only_first (inr y) = absurd y

one_or_rest : {X Y Z W : Type 0} → X ⊎ W → (W → Y ⊎ Z) → (X ⊎ Y) ⊎ Z
one_or_rest (inl x) f = inl (inl x)
one_or_rest {X} {Y} {Z} (inr w) f = go (f w)
  where
    go : Y ⊎ Z → (X ⊎ Y) ⊎ Z
    go (inl y) = inl (inr y)
    go (inr z) = inr z

module _ (K : ℕ → List Ty → Ty) (v : ℕ) where
  mutual
    goal_passes_before : (a : Around) (g : Goal) (hs : Goals) → SomeOfGoals K v a (goal_before g hs) → SomeOfGoal K v a g ⊎ SomeOfGoals K v (behind_goal a g) hs
    goal_passes_before a (Atomic t) hs x = x
    goal_passes_before a Cut hs x = x
    goal_passes_before a (Either ls rs) hs (inl (inl x)) = inl (inl (only_first (passes_before a ls no_goals x)))
    goal_passes_before a (Either ls rs) hs (inl (inr x)) = inl (inr (only_first (passes_before a rs no_goals x)))
    goal_passes_before a (Either ls rs) hs (inr x) = inr x
    goal_passes_before a (Exists T gs) hs (inl x) = passes_before (with_variable a T) gs hs x
    goal_passes_before a (Exists T gs) hs (inr x) = absurd x
    goal_passes_before a (Forall T gs) hs (inl x) = inl (only_first (passes_before (with_variable a T) gs no_goals x))
    goal_passes_before a (Forall T gs) hs (inr x) = inr x
    goal_passes_before a (Assume w cs gs) hs (inl (inl x)) = inl (inl x)
    goal_passes_before a (Assume w cs gs) hs (inl (inr x)) = inl (inr (only_first (passes_before a gs no_goals x)))
    goal_passes_before a (Assume w cs gs) hs (inr x) = inr x
    goal_passes_before a (Not w gs) hs (inl x) = inl (only_first (passes_before a gs no_goals x))
    goal_passes_before a (Not w gs) hs (inr x) = inr x

    passes_before : (a : Around) (gs hs : Goals) → SomeOfGoals K v a (goals_before gs hs) → SomeOfGoals K v a gs ⊎ SomeOfGoals K v (behind_goals a gs) hs
    passes_before a no_goals hs x = inr x
    passes_before a (goals g gs) hs x = one_or_rest (goal_passes_before a g (goals_before gs hs) x) (passes_before (behind_goal a g) gs hs)

  pub regrouped_pass : (a : Around) (gs : Goals) → SomeOfGoals K v a (regrouped gs) → SomeOfGoals K v a gs
  regrouped_pass a gs x = only_first (passes_before a gs no_goals x)

  mutual
    goal_passes_there : (a : Around) (g : Goal) (hs : Goals) → SomeOfGoal K v a g → SomeOfGoals K v a (goal_before g hs)
    goal_passes_there a (Atomic t) hs x = absurd x
    goal_passes_there a Cut hs x = absurd x
    goal_passes_there a (Either ls rs) hs (inl x) = inl (inl (passes_there a ls no_goals x))
    goal_passes_there a (Either ls rs) hs (inr x) = inl (inr (passes_there a rs no_goals x))
    goal_passes_there a (Exists T gs) hs x = inl (passes_there (with_variable a T) gs hs x)
    goal_passes_there a (Forall T gs) hs x = inl (passes_there (with_variable a T) gs no_goals x)
    goal_passes_there a (Assume w cs gs) hs (inl x) = inl (inl x)
    goal_passes_there a (Assume w cs gs) hs (inr x) = inl (inr (passes_there a gs no_goals x))
    goal_passes_there a (Not w gs) hs x = inl (passes_there a gs no_goals x)

    goal_passes_behind : (a : Around) (g : Goal) (hs : Goals) → SomeOfGoals K v (behind_goal a g) hs → SomeOfGoals K v a (goal_before g hs)
    goal_passes_behind a (Atomic t) hs x = inr x
    goal_passes_behind a Cut hs x = inr x
    goal_passes_behind a (Either ls rs) hs x = inr x
    goal_passes_behind a (Exists T gs) hs x = inl (passes_behind (with_variable a T) gs hs x)
    goal_passes_behind a (Forall T gs) hs x = inr x
    goal_passes_behind a (Assume w cs gs) hs x = inr x
    goal_passes_behind a (Not w gs) hs x = inr x

    passes_there : (a : Around) (gs hs : Goals) → SomeOfGoals K v a gs → SomeOfGoals K v a (goals_before gs hs)
    passes_there a no_goals hs x = absurd x
    passes_there a (goals g gs) hs (inl x) = goal_passes_there a g (goals_before gs hs) x
    passes_there a (goals g gs) hs (inr x) = goal_passes_behind a g (goals_before gs hs) (passes_there (behind_goal a g) gs hs x)

    passes_behind : (a : Around) (gs hs : Goals) → SomeOfGoals K v (behind_goals a gs) hs → SomeOfGoals K v a (goals_before gs hs)
    passes_behind a no_goals hs x = x
    passes_behind a (goals g gs) hs x = goal_passes_behind a g (goals_before gs hs) (passes_behind (behind_goal a g) gs hs x)

  pub pass_regrouped : (a : Around) (gs : Goals) → SomeOfGoals K v a gs → SomeOfGoals K v a (regrouped gs)
  pass_regrouped a gs x = passes_there a gs no_goals x
