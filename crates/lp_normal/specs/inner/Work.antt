-- How much there is to do until the next clause is met or all is made: each move takes some of it.
use Rattle.std.specs.Prelude.{ℕ, suc, ◌+◌, ◌*◌, List, [], ◌∷◌, Option, Some, None}
use Rattle.lp_calculus.specs.Term.{Term, index, atom, abs, app}
use Rattle.lp_term.specs.Nodes.{Nodes, tree}
use Rattle.lp_normal.specs.declared.goals.Waiting.{Waiting}
use Rattle.lp_normal.specs.declared.goals.GoalList.{GoalList}
use Rattle.lp_normal.specs.declared.clauses.Part.{Part}
use Rattle.lp_normal.specs.declared.clauses.Assumed.{Assumed}
use Rattle.lp_normal.specs.declared.clauses.ClauseList.{ClauseList}
use Rattle.lp_normal.specs.declared.frame.Frame.{Frame}
use Rattle.lp_normal.specs.declared.frame.Inner.{Inner}
use Rattle.lp_normal.specs.declared.frame.Move.{Move}

-- an index weighs nothing: `pi x\ (t x)`, as which `pi t` is read, is no heavier
abbrev pub weight : Term → ℕ
weight (index i) = 0
weight (atom a) = 1
weight (abs b) = suc (weight b)
weight (app t u) = suc (weight t + weight u)

abbrev pub formula_work : Nodes → Waiting → ℕ
formula_work b w = suc (4 * weight (tree b w.formula.0))

abbrev pub waiting_work : Nodes → List Waiting → ℕ
waiting_work b [] = 0
waiting_work b (w ∷ ws) = formula_work b w + waiting_work b ws

abbrev pub list_work : Nodes → GoalList → ℕ
list_work b l = suc (waiting_work b l.waiting.items)

abbrev pub part_work : Nodes → Part → ℕ
part_work b (Part.Visit t) = suc (4 * weight (tree b t.0))
part_work b Part.Leave = 1

abbrev pub parts_work : Nodes → List Part → ℕ
parts_work b [] = 0
parts_work b (p ∷ ps) = part_work b p + parts_work b ps

abbrev pub assumed_work : Nodes → Option Assumed → ℕ
assumed_work b None = 0
assumed_work b (Some a) = list_work b a.outer + suc (formula_work b a.goal)

abbrev pub clause_list_work : Nodes → ClauseList → ℕ
clause_list_work b l = suc (parts_work b l.waiting.items + assumed_work b l.assumed)

abbrev pub frame_work : Nodes → Frame → ℕ
frame_work b (Frame.Left outer right) = list_work b outer + suc (formula_work b right)
frame_work b (Frame.Right outer l) = list_work b outer
frame_work b (Frame.All outer T) = list_work b outer
frame_work b (Frame.Assume outer cs) = list_work b outer
frame_work b (Frame.Not outer) = list_work b outer
frame_work b (Frame.Body outer vars head) = clause_list_work b outer

abbrev pub frames_work : Nodes → List Frame → ℕ
frames_work b [] = 0
frames_work b (f ∷ fs) = frame_work b f + frames_work b fs

abbrev pub inner_work : Nodes → Inner → ℕ
inner_work b (Inner.Goals l) = list_work b l
inner_work b (Inner.Clauses l) = clause_list_work b l

abbrev pub move_work : Nodes → Move → ℕ
move_work b (Move.On inner) = inner_work b inner
move_work b (Move.Done made) = 0
