-- What lists in the making come to, with what waits for them.
use Rattle.std.specs.Prelude.{◌≡◌, ℕ, ◌-◌, ◌≤◌, All, length, List, [], ◌∷◌, ◌++◌, map, reverse, Option, Some, None}
use Rattle.lp_calculus.specs.Types.{Ty}
use Rattle.lp_calculus.specs.Term.{Term, shift}
use Rattle.lp_term.specs.Nodes.{Nodes, Extends, tree, type_tree}
use Rattle.lp_model.specs.Flat.{Either, Exists, Forall, Goals, no_goals, goals, clause, Clauses, no_clauses, clauses, add_goals, add_clauses, assuming, denied}
use Rattle.lp_model.specs.Flatten.{with_type_vars}
use Rattle.lp_model.specs.Flattened.{goals_of, clauses_of}
use Rattle.lp_model.specs.declared.clause.Goal.{Goal}
use Rattle.lp_model.specs.declared.clause.Clause.{Clause}
use Rattle.lp_normal.specs.Within.{IsLinkIn, IsScopeIn}
use Rattle.lp_normal.specs.Flats.{IsFlatGoal, IsFlatClause}
use Rattle.lp_normal.specs.declared.goals.Waiting.{Waiting}
use Rattle.lp_normal.specs.declared.goals.Opened.{Opened}
use Rattle.lp_normal.specs.declared.goals.GoalList.{GoalList}
use Rattle.lp_normal.specs.declared.clauses.Link.{Link}
use Rattle.lp_normal.specs.declared.clauses.Part.{Part}
use Rattle.lp_normal.specs.declared.clauses.Assumed.{Assumed}
use Rattle.lp_normal.specs.declared.clauses.ClauseList.{ClauseList}
use Rattle.lp_normal.specs.declared.clauses.Scope.{Scope}
use Rattle.lp_normal.specs.declared.frame.Frame.{Frame}
use Rattle.lp_normal.specs.declared.frame.Inner.{Inner}
use Rattle.lp_normal.specs.declared.frame.Made.{Made}
use Rattle.lp_normal.specs.declared.frame.Move.{Move}

-- they mean these goals, in each bank that this one grows to
abbrev pub Reads : Nodes → List Goal → Goals → Type 0
Reads b l gs = (later : Nodes) → Extends b later → goals_of later l ≡ gs

abbrev pub ReadsClauses : Nodes → List Clause → Clauses → Type 0
ReadsClauses b l cs = (later : Nodes) → Extends b later → clauses_of later l ≡ cs

-- the formula, raised by the variables that were bound since it was met
abbrev pub raised_in : Nodes → (level : ℕ) → Waiting → Term
raised_in b level w = shift 0 (level - w.level) (tree b w.formula.0)

-- the goals of formulas that wait, the next one first
abbrev pub Flatten : Nodes → (level : ℕ) → List Waiting → Goals → Type 0
Flatten b level [] gs = gs ≡ no_goals
Flatten b level (w ∷ ws) gs = (rest : Goals) × Flatten b level ws rest × IsFlatGoal (raised_in b level w) rest gs

-- the sigmas are closed, the innermost one first
abbrev pub Closes : Nodes → List Opened → Goals → (out : Goals) → Type 0
Closes b [] gs out = gs ≡ out
Closes b (o ∷ os) gs out = (before : Goals) × Reads b o.before.items before × Closes b os (add_goals before (goals (Exists (type_tree b o.bound.0) gs) no_goals)) out

-- the list comes to these goals, where some more stand between those that it has and those of the formulas that wait
pub record ComesTo (b : Nodes) (l : GoalList) (between out : Goals) : Type 0 where
  pub done : Goals
  pub rest : Goals
  pub reads : Reads b l.done.items done
  pub flatten : Flatten b l.level (reverse l.waiting.items) rest
  pub closes : Closes b (reverse l.opened.items) (add_goals done (add_goals between rest)) out

-- the same, with this formula to be flattened next
pub record NextComesTo (b : Nodes) (l : GoalList) (next : Waiting) (out : Goals) : Type 0 where
  pub done : Goals
  pub behind : Goals
  pub rest : Goals
  pub reads : Reads b l.done.items done
  pub flatten : Flatten b l.level (reverse l.waiting.items) behind
  pub goal : IsFlatGoal (raised_in b l.level next) behind rest
  pub closes : Closes b (reverse l.opened.items) (add_goals done rest) out

-- the variables and the formulas that stand around a part, the innermost link first

abbrev pub vars_in : Nodes → List Link → List Ty
vars_in b [] = []
vars_in b (Link.Variable T ∷ ls) = type_tree b T.0 ∷ vars_in b ls
vars_in b (Link.Guard t ∷ ls) = vars_in b ls

abbrev pub body_in : Nodes → List Link → List Term
body_in b [] = []
body_in b (Link.Variable T ∷ ls) = map (shift 0 1) (body_in b ls)
body_in b (Link.Guard t ∷ ls) = body_in b ls ++ tree b t.0 ∷ []

-- what the links around a part, the outermost first, are to a clause: its variables, the outermost first, and the formulas of its body
pub record IsScopeOf (around : List Link) (s : Scope) : Type 0 where
  pub vars : (b : Nodes) → map (λ T. type_tree b T.0) (reverse s.vars.items) ≡ vars_in b (reverse around)
  pub body : (b : Nodes) → map (raised_in b (length s.vars.items)) s.body.items ≡ body_in b (reverse around)
  pub levels : All (λ w. w.level ≤ length s.vars.items) s.body.items
  pub within : (b : Nodes) → All (IsLinkIn b) around → IsScopeIn b s

-- the clauses of parts that wait, the next one first
abbrev pub PartsFlatten : Nodes → List Part → (around : List Link) → Clauses → Type 0
PartsFlatten b [] ls cs = cs ≡ no_clauses
PartsFlatten b (Part.Visit t ∷ ps) ls cs = (first rest : Clauses) × IsFlatClause (tree b t.0) (vars_in b ls) (body_in b ls) first × PartsFlatten b ps ls rest × (cs ≡ add_clauses first rest)
PartsFlatten b (Part.Leave ∷ ps) [] cs = PartsFlatten b ps [] cs
PartsFlatten b (Part.Leave ∷ ps) (l ∷ ls) cs = PartsFlatten b ps ls cs

pub data Flat : Type 0 where
  these_goals : Goals → Flat
  these_clauses : Clauses → Flat

-- what the clauses are made for comes to this
abbrev pub AssumedComesTo : Nodes → Option Assumed → Clauses → (out : Flat) → Type 0
AssumedComesTo b None cs out = these_clauses cs ≡ out
AssumedComesTo b (Some a) cs out = (hs whole : Goals) × IsFlatGoal (raised_in b a.outer.level a.goal) no_goals hs × ComesTo b a.outer (goals (assuming cs hs) no_goals) whole × (these_goals whole ≡ out)

-- so does the list, where some more clauses stand between those that it has and those of the parts that wait
pub record ClausesComeTo (b : Nodes) (l : ClauseList) (between : Clauses) (out : Flat) : Type 0 where
  pub done : Clauses
  pub rest : Clauses
  pub reads : ReadsClauses b l.done.items done
  pub flatten : PartsFlatten b (reverse l.waiting.items) (reverse l.around.items) rest
  pub ends : AssumedComesTo b l.assumed (add_clauses done (add_clauses between (with_type_vars l.type_vars rest))) out

-- the same, with this part to be flattened next
pub record PartComesTo (b : Nodes) (l : ClauseList) (next : ℕ) (out : Flat) : Type 0 where
  pub done : Clauses
  pub first : Clauses
  pub rest : Clauses
  pub reads : ReadsClauses b l.done.items done
  pub clause : IsFlatClause (tree b next) (vars_in b (reverse l.around.items)) (body_in b (reverse l.around.items)) first
  pub flatten : PartsFlatten b (reverse l.waiting.items) (reverse l.around.items) rest
  pub ends : AssumedComesTo b l.assumed (add_clauses done (with_type_vars l.type_vars (add_clauses first rest))) out

-- what waits for the goals comes to this
abbrev pub Turns : Nodes → Frame → Goals → (out : Flat) → Type 0
Turns b (Frame.Left outer right) gs out = (hs whole : Goals) × IsFlatGoal (raised_in b outer.level right) no_goals hs × ComesTo b outer (goals (Either gs hs) no_goals) whole × (these_goals whole ≡ out)
Turns b (Frame.Right outer l) gs out = (left whole : Goals) × Reads b l.items left × ComesTo b outer (goals (Either left gs) no_goals) whole × (these_goals whole ≡ out)
Turns b (Frame.All outer T) gs out = (whole : Goals) × ComesTo b outer (goals (Forall (type_tree b T.0) gs) no_goals) whole × (these_goals whole ≡ out)
Turns b (Frame.Assume outer l) gs out = (cs : Clauses) × (whole : Goals) × ReadsClauses b l.items cs × ComesTo b outer (goals (assuming cs gs) no_goals) whole × (these_goals whole ≡ out)
Turns b (Frame.Not outer) gs out = (whole : Goals) × ComesTo b outer (goals (denied gs) no_goals) whole × (these_goals whole ≡ out)
Turns b (Frame.Body outer vars head) gs out = ClausesComeTo b outer (clauses (clause outer.type_vars (map (λ T. type_tree b T.0) vars.items) (tree b head.0) gs) no_clauses) out

-- the innermost frame first
abbrev pub AllTurn : Nodes → List Frame → Flat → (whole : Flat) → Type 0
AllTurn b [] out whole = out ≡ whole
AllTurn b (f ∷ fs) out whole = (gs : Goals) × (next : Flat) × (out ≡ these_goals gs) × Turns b f gs next × AllTurn b fs next whole

abbrev pub InnerComesTo : Nodes → Inner → List Frame → (whole : Flat) → Type 0
InnerComesTo b (Inner.Goals l) frames whole = (gs : Goals) × ComesTo b l no_goals gs × AllTurn b (reverse frames) (these_goals gs) whole
InnerComesTo b (Inner.Clauses l) frames whole = (out : Flat) × ClausesComeTo b l no_clauses out × AllTurn b (reverse frames) out whole

abbrev pub IsMadeOf : Nodes → Made → (whole : Flat) → Type 0
IsMadeOf b (Made.Goals l) whole = (gs : Goals) × Reads b l.items gs × (these_goals gs ≡ whole)
IsMadeOf b (Made.Clauses l) whole = (cs : Clauses) × ReadsClauses b l.items cs × (these_clauses cs ≡ whole)

abbrev pub MoveComesTo : Nodes → Move → List Frame → (whole : Flat) → Type 0
MoveComesTo b (Move.On inner) frames whole = InnerComesTo b inner frames whole
MoveComesTo b (Move.Done made) frames whole = IsMadeOf b made whole
