-- That the numbers in flattened goals and clauses, and in those in the making, stand in the bank.
use Rattle.std.specs.Prelude.{ℕ, suc, ◌<◌, ◌≤◌, max, List, [], ◌∷◌, length, map, All, IfSome}
use Rattle.lp_term.specs.Nodes.{Nodes}
use Rattle.lp_model.specs.declared.clause.Goal as goal
use Rattle.lp_model.specs.declared.clause.Goal.TheOpen.{Goal-F}
use Rattle.lp_model.specs.declared.clause.Clause as clause
use Rattle.lp_normal.specs.declared.goals.Waiting.{Waiting}
use Rattle.lp_normal.specs.declared.goals.Opened.{Opened}
use Rattle.lp_normal.specs.declared.goals.GoalList.{GoalList}
use Rattle.lp_normal.specs.declared.clauses.Link.{Link}
use Rattle.lp_normal.specs.declared.clauses.Part.{Part}
use Rattle.lp_normal.specs.declared.clauses.Assumed.{Assumed}
use Rattle.lp_normal.specs.declared.clauses.ClauseList.{ClauseList}
use Rattle.lp_normal.specs.declared.clauses.Scope.{Scope}
use Rattle.lp_normal.specs.declared.frame.Frame.{Frame}
use Rattle.lp_normal.specs.declared.frame.Inner.{Inner}
use Rattle.lp_normal.specs.declared.frame.Made.{Made}
use Rattle.lp_normal.specs.declared.frame.Move.{Move}

abbrev pub highest : List ℕ → ℕ
highest [] = 0
highest (n ∷ ns) = max n (highest ns)

-- the numbers of the terms in a goal, and of those in a clause, are below this one

abbrev pub term_bound_at : Goal-F ℕ ℕ → ℕ
term_bound_at (Goal-F.Atom t) = suc t.0
term_bound_at Goal-F.Cut = 0
term_bound_at (Goal-F.Either l r) = max (highest l.items) (highest r.items)
term_bound_at (Goal-F.Some T l) = highest l.items
term_bound_at (Goal-F.All T l) = highest l.items
term_bound_at (Goal-F.Assume cs l) = max (highest cs.items) (highest l.items)
term_bound_at (Goal-F.Not l) = highest l.items

abbrev pub clause_term_bound_at : clause.Clause-F ℕ ℕ → ℕ
clause_term_bound_at c = max (suc c.head.0) (highest c.body.items)

abbrev pub term_bound : goal.Goal → ℕ
term_bound = goal.fold-Goal ℕ ℕ term_bound_at clause_term_bound_at

abbrev pub clause_term_bound : clause.Clause → ℕ
clause_term_bound = clause.fold-Clause ℕ ℕ term_bound_at clause_term_bound_at

-- and those of the types

abbrev pub type_bound_at : Goal-F ℕ ℕ → ℕ
type_bound_at (Goal-F.Atom t) = 0
type_bound_at Goal-F.Cut = 0
type_bound_at (Goal-F.Either l r) = max (highest l.items) (highest r.items)
type_bound_at (Goal-F.Some T l) = max (suc T.0) (highest l.items)
type_bound_at (Goal-F.All T l) = max (suc T.0) (highest l.items)
type_bound_at (Goal-F.Assume cs l) = max (highest cs.items) (highest l.items)
type_bound_at (Goal-F.Not l) = highest l.items

abbrev pub clause_type_bound_at : clause.Clause-F ℕ ℕ → ℕ
clause_type_bound_at c = max (highest (map (λ T. suc T.0) c.vars.items)) (highest c.body.items)

abbrev pub type_bound : goal.Goal → ℕ
type_bound = goal.fold-Goal ℕ ℕ type_bound_at clause_type_bound_at

abbrev pub clause_type_bound : clause.Clause → ℕ
clause_type_bound = clause.fold-Clause ℕ ℕ type_bound_at clause_type_bound_at

pub record AreGoalsIn (b : Nodes) (gs : List goal.Goal) : Type 0 where
  pub terms : highest (map term_bound gs) ≤ length b.terms
  pub types : highest (map type_bound gs) ≤ length b.types

pub record AreClausesIn (b : Nodes) (cs : List clause.Clause) : Type 0 where
  pub terms : highest (map clause_term_bound cs) ≤ length b.terms
  pub types : highest (map clause_type_bound cs) ≤ length b.types

-- it stands in the bank, and was met at most so far inside
pub record IsWaitingIn (b : Nodes) (most : ℕ) (w : Waiting) : Type 0 where
  pub formula : w.formula.0 < length b.terms
  pub outside : w.level ≤ most

pub record IsOpenedIn (b : Nodes) (o : Opened) : Type 0 where
  pub bound : o.bound.0 < length b.types
  pub before : AreGoalsIn b o.before.items

pub record IsGoalListIn (b : Nodes) (l : GoalList) : Type 0 where
  pub opened : All (IsOpenedIn b) l.opened.items
  pub done : AreGoalsIn b l.done.items
  pub waiting : All (IsWaitingIn b l.level) l.waiting.items

abbrev pub IsLinkIn : Nodes → Link → Type 0
IsLinkIn b (Link.Variable T) = T.0 < length b.types
IsLinkIn b (Link.Guard t) = t.0 < length b.terms

abbrev pub IsPartIn : Nodes → Part → Type 0
IsPartIn b (Part.Visit t) = t.0 < length b.terms
IsPartIn b Part.Leave = Unit {0}

pub record IsAssumedIn (b : Nodes) (a : Assumed) : Type 0 where
  pub outer : IsGoalListIn b a.outer
  pub goal : IsWaitingIn b a.outer.level a.goal

pub record IsClauseListIn (b : Nodes) (l : ClauseList) : Type 0 where
  pub assumed : IfSome l.assumed (IsAssumedIn b)
  pub done : AreClausesIn b l.done.items
  pub waiting : All (IsPartIn b) l.waiting.items
  pub around : All (IsLinkIn b) l.around.items

pub record IsScopeIn (b : Nodes) (s : Scope) : Type 0 where
  pub vars : All (λ T. T.0 < length b.types) s.vars.items
  pub body : All (IsWaitingIn b (length s.vars.items)) s.body.items

abbrev pub IsFrameIn : Nodes → Frame → Type 0
IsFrameIn b (Frame.Left outer right) = IsGoalListIn b outer × IsWaitingIn b outer.level right
IsFrameIn b (Frame.Right outer left) = IsGoalListIn b outer × AreGoalsIn b left.items
IsFrameIn b (Frame.All outer T) = IsGoalListIn b outer × (T.0 < length b.types)
IsFrameIn b (Frame.Assume outer cs) = IsGoalListIn b outer × AreClausesIn b cs.items
IsFrameIn b (Frame.Not outer) = IsGoalListIn b outer
IsFrameIn b (Frame.Body outer vars head) = IsClauseListIn b outer × All (λ T. T.0 < length b.types) vars.items × (head.0 < length b.terms)

abbrev pub IsInnerIn : Nodes → Inner → Type 0
IsInnerIn b (Inner.Goals l) = IsGoalListIn b l
IsInnerIn b (Inner.Clauses l) = IsClauseListIn b l

abbrev pub IsMadeIn : Nodes → Made → Type 0
IsMadeIn b (Made.Goals gs) = AreGoalsIn b gs.items
IsMadeIn b (Made.Clauses cs) = AreClausesIn b cs.items

abbrev pub IsMoveIn : Nodes → Move → Type 0
IsMoveIn b (Move.On inner) = IsInnerIn b inner
IsMoveIn b (Move.Done made) = IsMadeIn b made
