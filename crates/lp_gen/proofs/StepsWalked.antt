-- The steps of goals say these goals.
use Rattle.std.proofs.Common.{◌≡◌, ◌∙◌, List, [], ◌∷◌, ◌++◌, append_assoc, Option, Some, ap, refl, sym}
use Rattle.std.specs.Prelude.{option_and_then}
use Rattle.lp_model.specs.Flat.{Goal, Goals, Atomic, Cut, Either, Exists, Forall, Assume, Not, no_goals, goals, add_goals}
use Rattle.lp_code.specs.States.{with_goal}
use Rattle.lp_code.specs.Written.{nothing_written}
use Rattle.lp_gen.specs.Sources.{ends_list}
use Rattle.lp_gen.specs.inner.OpenGoals.{in_left, in_right, in_some, in_all, in_assumption, in_denial, OpenBlock, block, Walked, walked, closed, into, BodyStep, turn, end_either, end_all, end_assume, end_deny}
use Rattle.lp_gen.specs.inner.OpenGoals.{turned, right_ended, all_ended, assumption_ended, denial_ended, ended, advance, advance_all, goal_steps, goals_steps, plain_goal, plain_goals, EndsGoal, EndsGoals, Walks}
use Rattle.lp_gen.proofs.Blocks.{add_behind, add_nothing}

-- the end of a block whose goals were said
block_ended : (f : Goals → List OpenBlock → Option Walked) (ss : List BodyStep) (s : BodyStep) (w x : Walked) (b : OpenBlock) (bs : List OpenBlock)
    (gs : Goals) → ((u : Walked) → advance s u ≡ ended f u) →
    (y : Walks ss w gs) → closed (add_goals w.said gs) w.opened ≡ walked gs (b ∷ bs) → f gs (b ∷ bs) ≡ Some x → (rest : List BodyStep) → advance_all (ss ++ s ∷ rest) w ≡ advance_all rest x
block_ended f ss s w x b bs gs is y e last rest =
    y.runs (s ∷ rest) ∙ ap (option_and_then (advance_all rest)) (is y.state ∙ ap (λ (u : Walked). f u.said u.opened) (y.closes ∙ e) ∙ last)

-- what a goal comes to: a `sigma` stays open
abbrev GoalWalks : Goal → Walked → Type 0
GoalWalks (Atomic t) w = (rest : List BodyStep) → advance_all (goal_steps (Atomic t) ++ rest) w ≡ advance_all rest (walked (with_goal w.said (plain_goal (Atomic t))) w.opened)
GoalWalks Cut w = (rest : List BodyStep) → advance_all (goal_steps Cut ++ rest) w ≡ advance_all rest (walked (with_goal w.said (plain_goal Cut)) w.opened)
GoalWalks (Either gs hs) w = (rest : List BodyStep) → advance_all (goal_steps (Either gs hs) ++ rest) w ≡ advance_all rest (walked (with_goal w.said (plain_goal (Either gs hs))) w.opened)
GoalWalks (Exists T gs) w = Walks (goal_steps (Exists T gs)) w (goals (plain_goal (Exists T gs)) no_goals)
GoalWalks (Forall T gs) w = (rest : List BodyStep) → advance_all (goal_steps (Forall T gs) ++ rest) w ≡ advance_all rest (walked (with_goal w.said (plain_goal (Forall T gs))) w.opened)
GoalWalks (Assume u cs gs) w = (rest : List BodyStep) → advance_all (goal_steps (Assume u cs gs) ++ rest) w ≡ advance_all rest (walked (with_goal w.said (plain_goal (Assume u cs gs))) w.opened)
GoalWalks (Not u gs) w = (rest : List BodyStep) → advance_all (goal_steps (Not u gs) ++ rest) w ≡ advance_all rest (walked (with_goal w.said (plain_goal (Not u gs))) w.opened)

-- goals behind a goal
goal_then : (g : Goal) (gs : Goals) (w : Walked) → ((rest : List BodyStep) → advance_all (goal_steps g ++ rest) w ≡ advance_all rest (walked (with_goal w.said (plain_goal g)) w.opened)) →
    Walks (goals_steps gs) (walked (with_goal w.said (plain_goal g)) w.opened) (plain_goals gs) → Walks (goals_steps (goals g gs)) w (plain_goals (goals g gs))
goal_then g gs w first x = record {
  state = x.state;
  runs = λ rest. ap (λ l. advance_all l w) (append_assoc (goal_steps g) (goals_steps gs) rest) ∙ first (goals_steps gs ++ rest) ∙ x.runs rest;
  closes = x.closes ∙ ap (λ l. closed l w.opened) (add_behind w.said (goals (plain_goal g) no_goals) (plain_goals gs));
}

no_goal_more : (g : Goal) (gs : Goals) → goals g gs ≡ no_goals → ⊥
no_goal_more g gs e = cc

sigma_then : (g : Goal) (gs : Goals) (w : Walked) → gs ≡ no_goals → Walks (goal_steps g) w (goals (plain_goal g) no_goals) → Walks (goals_steps (goals g gs)) w (plain_goals (goals g gs))
sigma_then g no_goals w last x = record {
  state = x.state;
  runs = λ rest. ap (λ l. advance_all l w) (append_assoc (goal_steps g) [] rest) ∙ x.runs rest;
  closes = x.closes;
}
sigma_then g (goals h hs) w last x = absurd (no_goal_more h hs last)

goal_joined : (g : Goal) (gs : Goals) (w : Walked) → ends_list g gs → GoalWalks g w → Walks (goals_steps gs) (walked (with_goal w.said (plain_goal g)) w.opened) (plain_goals gs) →
    Walks (goals_steps (goals g gs)) w (plain_goals (goals g gs))
goal_joined (Atomic t) gs w last x y = goal_then (Atomic t) gs w x y
goal_joined Cut gs w last x y = goal_then Cut gs w x y
goal_joined (Either hs ks) gs w last x y = goal_then (Either hs ks) gs w x y
goal_joined (Exists T hs) gs w last x y = sigma_then (Exists T hs) gs w last x
goal_joined (Forall T hs) gs w last x y = goal_then (Forall T hs) gs w x y
goal_joined (Assume u cs hs) gs w last x y = goal_then (Assume u cs hs) gs w x y
goal_joined (Not u hs) gs w last x y = goal_then (Not u hs) gs w x y

mutual
  goal_walks : (g : Goal) (w : Walked) → EndsGoal g → GoalWalks g w
  goal_walks (Atomic t) w e = λ rest. refl
  goal_walks Cut w e = λ rest. refl
  goal_walks (Either gs hs) w e =
      let left = into in_left w in
      let right = walked no_goals (block (in_right (plain_goals gs)) w.said ∷ w.opened) in
      let x = goals_walk gs left e.0 in
      let y = goals_walk hs right e.1 in
      λ rest. ap (λ l. advance_all l left) (append_assoc (goals_steps gs) (turn ∷ (goals_steps hs ++ end_either ∷ [])) rest)
      ∙ block_ended turned (goals_steps gs) turn left right (block in_left w.said) w.opened (plain_goals gs) (λ u. refl) x refl refl ((goals_steps hs ++ end_either ∷ []) ++ rest)
      ∙ ap (λ l. advance_all l right) (append_assoc (goals_steps hs) (end_either ∷ []) rest)
      ∙ block_ended right_ended (goals_steps hs) end_either right (walked (with_goal w.said (Either (plain_goals gs) (plain_goals hs))) w.opened)
      (block (in_right (plain_goals gs)) w.said) w.opened (plain_goals hs)
      (λ u. refl) y refl refl rest
  goal_walks (Exists T gs) w e =
      let x = goals_walk gs (into (in_some T) w) e in
      record { state = x.state; runs = x.runs; closes = x.closes }
  goal_walks (Forall T gs) w e =
      let inner = into (in_all T) w in
      let x = goals_walk gs inner e in
      λ rest. ap (λ l. advance_all l inner) (append_assoc (goals_steps gs) (end_all ∷ []) rest)
      ∙ block_ended all_ended (goals_steps gs) end_all inner (walked (with_goal w.said (Forall T (plain_goals gs))) w.opened)
      (block (in_all T) w.said) w.opened (plain_goals gs) (λ u. refl) x refl refl rest
  goal_walks (Assume u cs gs) w e =
      let inner = into (in_assumption cs) w in
      let x = goals_walk gs inner e in
      λ rest. ap (λ l. advance_all l inner) (append_assoc (goals_steps gs) (end_assume ∷ []) rest)
      ∙ block_ended assumption_ended (goals_steps gs) end_assume inner (walked (with_goal w.said (Assume nothing_written cs (plain_goals gs)))
      w.opened) (block (in_assumption cs) w.said) w.opened (plain_goals gs)
      (λ u. refl) x refl refl rest
  goal_walks (Not u gs) w e =
      let inner = into in_denial w in
      let x = goals_walk gs inner e in
      λ rest. ap (λ l. advance_all l inner) (append_assoc (goals_steps gs) (end_deny ∷ []) rest)
      ∙ block_ended denial_ended (goals_steps gs) end_deny inner (walked (with_goal w.said (Not nothing_written (plain_goals gs))) w.opened)
      (block in_denial w.said) w.opened (plain_goals gs) (λ u. refl) x refl refl rest

  pub goals_walk : (gs : Goals) (w : Walked) → EndsGoals gs → Walks (goals_steps gs) w (plain_goals gs)
  goals_walk no_goals w e = record { state = w; runs = λ rest. refl; closes = ap (λ l. closed l w.opened) (sym (add_nothing w.said)) }
  goals_walk (goals g gs) w e = goal_joined g gs w e.1 (goal_walks g w e.0) (goals_walk gs (walked (with_goal w.said (plain_goal g)) w.opened) e.2)
