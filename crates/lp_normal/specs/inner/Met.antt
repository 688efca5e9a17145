-- How many clauses were met so far: those that stand in what is made, and each one whose body is being made.
use Rattle.std.specs.Prelude.{◌≡◌, ℕ, suc, ◌+◌, List, [], ◌∷◌, Option, Some, None}
use Rattle.lp_term.specs.Nodes.{Nodes}
use Rattle.lp_model.specs.Flattened.{goals_of, clauses_of}
use Rattle.lp_normal.specs.Counted.{count_in_goals, count_in_clauses, PassesLimit}
use Rattle.lp_normal.specs.Making.{Flat, these_goals, these_clauses, InnerComesTo}
use Rattle.lp_normal.specs.declared.goals.Opened.{Opened}
use Rattle.lp_normal.specs.declared.goals.GoalList.{GoalList}
use Rattle.lp_normal.specs.declared.clauses.Assumed.{Assumed}
use Rattle.lp_normal.specs.declared.clauses.ClauseList.{ClauseList}
use Rattle.lp_normal.specs.declared.frame.Frame.{Frame}
use Rattle.lp_normal.specs.declared.frame.Inner.{Inner}
use Rattle.lp_normal.specs.declared.frame.Made.{Made}
use Rattle.lp_normal.specs.declared.frame.Move.{Move}

-- in the goals before the sigmas that are open
abbrev pub opened_met : Nodes → List Opened → ℕ
opened_met b [] = 0
opened_met b (o ∷ os) = count_in_goals (goals_of b o.before.items) + opened_met b os

abbrev pub list_met : Nodes → GoalList → ℕ
list_met b l = opened_met b l.opened.items + count_in_goals (goals_of b l.done.items)

abbrev pub assumed_met : Nodes → Option Assumed → ℕ
assumed_met b None = 0
assumed_met b (Some a) = list_met b a.outer

abbrev pub clause_list_met : Nodes → ClauseList → ℕ
clause_list_met b l = count_in_clauses (clauses_of b l.done.items) + assumed_met b l.assumed

abbrev pub frame_met : Nodes → Frame → ℕ
frame_met b (Frame.Left outer right) = list_met b outer
frame_met b (Frame.Right outer l) = list_met b outer + count_in_goals (goals_of b l.items)
frame_met b (Frame.All outer T) = list_met b outer
frame_met b (Frame.Assume outer cs) = list_met b outer + count_in_clauses (clauses_of b cs.items)
frame_met b (Frame.Not outer) = list_met b outer
frame_met b (Frame.Body outer vars head) = suc (clause_list_met b outer)

abbrev pub frames_met : Nodes → List Frame → ℕ
frames_met b [] = 0
frames_met b (f ∷ fs) = frame_met b f + frames_met b fs

abbrev pub inner_met : Nodes → Inner → ℕ
inner_met b (Inner.Goals l) = list_met b l
inner_met b (Inner.Clauses l) = clause_list_met b l

abbrev pub made_met : Nodes → Made → ℕ
made_met b (Made.Goals gs) = count_in_goals (goals_of b gs.items)
made_met b (Made.Clauses cs) = count_in_clauses (clauses_of b cs.items)

abbrev pub move_met : Nodes → Move → ℕ
move_met b (Move.On inner) = inner_met b inner
move_met b (Move.Done made) = made_met b made

abbrev pub flat_count : Flat → ℕ
flat_count (these_goals gs) = count_in_goals gs
flat_count (these_clauses cs) = count_in_clauses cs

-- where so many were met, what all comes to passes the limit
abbrev pub Passes : Nodes → Inner → List Frame → (count : ℕ) → Type 0
Passes b inner frames count = (whole : Flat) → inner_met b inner + frames_met b frames ≡ count → InnerComesTo b inner frames whole → PassesLimit (flat_count whole)

abbrev pub IsMade : Move → Type 0
IsMade (Move.On inner) = ⊥
IsMade (Move.Done made) = Unit {0}
