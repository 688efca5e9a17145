-- What lists in the making come to stays the same when the bank grows.
use Rattle.std.proofs.Common.{◌≡◌, ℕ, ◌-◌, ◌<◌, List, [], ◌∷◌, ◌++◌, length, map, reverse, refl, sym, ap, ◌∙◌, subst, Option, Some, None}
use Rattle.std.specs.Prelude.{All, IfSome}
use Rattle.std.proofs.lemmas.List.Elements.{All-head, All-tail}
use Rattle.lp_calculus.specs.Types.{Ty}
use Rattle.lp_calculus.specs.Term.{Term, shift}
use Rattle.lp_term.specs.Nodes.{Nodes, Extends, tree, type_tree}
use Rattle.lp_term.specs.declared.node.TypeId.{TypeId}
use Rattle.lp_term.proofs.Trees.{extends-trans}
use Rattle.lp_model.specs.declared.clause.Goal.{Goal}
use Rattle.lp_model.specs.declared.clause.Clause.{Clause}
use Rattle.lp_model.specs.Flat.{Either, Exists, Forall, Goals, no_goals, goals, clause, Clauses, no_clauses, clauses, add_goals, add_clauses, assuming, denied}
use Rattle.lp_model.specs.Flatten.{with_type_vars}
use Rattle.lp_normal.specs.Flats.{IsFlatGoal, IsFlatClause}
use Rattle.lp_normal.specs.declared.goals.Waiting.{Waiting}
use Rattle.lp_normal.specs.declared.goals.Opened.{Opened}
use Rattle.lp_normal.specs.declared.goals.GoalList.{GoalList}
use Rattle.lp_normal.specs.declared.clauses.Link.{Link}
use Rattle.lp_normal.specs.declared.clauses.Part.{Part}
use Rattle.lp_normal.specs.declared.clauses.Assumed.{Assumed}
use Rattle.lp_normal.specs.declared.clauses.ClauseList.{ClauseList}
use Rattle.lp_normal.specs.declared.frame.Frame.{Frame}
use Rattle.lp_normal.specs.Within.{IsWaitingIn, IsOpenedIn, IsGoalListIn, IsLinkIn, IsPartIn, IsAssumedIn, IsClauseListIn, IsFrameIn}
use Rattle.lp_normal.specs.Making.{Reads, ReadsClauses, raised_in, Flatten, Closes, ComesTo, NextComesTo, vars_in, body_in, PartsFlatten, Flat, AssumedComesTo, ClausesComeTo, PartComesTo, Turns, AllTurn}
use Rattle.lp_normal.proofs.Bounds.{All-reverse}

module _ (b c : Nodes) (x : Extends b c) where
  pub reads_later : (l : List Goal) (gs : Goals) → Reads b l gs → Reads c l gs
  reads_later l gs r = λ later y. r later (extends-trans b c later x y)

  pub clauses_later : (l : List Clause) (cs : Clauses) → ReadsClauses b l cs → ReadsClauses c l cs
  clauses_later l cs r = λ later y. r later (extends-trans b c later x y)

  pub raised_later : (n m : ℕ) (w : Waiting) → IsWaitingIn b m w → raised_in c n w ≡ raised_in b n w
  raised_later n m w i = ap (shift 0 (n - w.level)) (x.same_terms w.formula.0 i.formula)

  pub goal_later : (n m : ℕ) (w : Waiting) (rest gs : Goals) → IsWaitingIn b m w → IsFlatGoal (raised_in b n w) rest gs → IsFlatGoal (raised_in c n w) rest gs
  goal_later n m w rest gs i p = subst (λ z. IsFlatGoal z rest gs) (sym (raised_later n m w i)) p

  pub flatten_later : (n m : ℕ) (ws : List Waiting) (gs : Goals) → All (IsWaitingIn b m) ws → Flatten b n ws gs → Flatten c n ws gs
  flatten_later n m [] gs a f = f
  flatten_later n m (w ∷ ws) gs a f = (
    f.0,
    flatten_later n m ws f.0 (All-tail (IsWaitingIn b m) w ws a) f.1,
    goal_later n m w f.0 gs (All-head (IsWaitingIn b m) w ws a) f.2,
  )

  pub closes_later : (os : List Opened) (gs out : Goals) → All (IsOpenedIn b) os → Closes b os gs out → Closes c os gs out
  closes_later [] gs out a h = h
  closes_later (o ∷ os) gs out a h =
      let i = All-head (IsOpenedIn b) o os a in (
        h.0,
        reads_later o.before.items h.0 h.1,
        subst (λ T. Closes c os (add_goals h.0 (goals (Exists T gs) no_goals)) out) (sym (x.same_types o.bound.0 i.bound))
            (closes_later os (add_goals h.0 (goals (Exists (type_tree b o.bound.0) gs) no_goals)) out (All-tail (IsOpenedIn b) o os a) h.2),
      )

  pub comes_later : (l : GoalList) (between out : Goals) → IsGoalListIn b l → ComesTo b l between out → ComesTo c l between out
  comes_later l between out i h = record {
    done = h.done;
    rest = h.rest;
    reads = reads_later l.done.items h.done h.reads;
    flatten = flatten_later l.level l.level (reverse l.waiting.items) h.rest (All-reverse (IsWaitingIn b l.level) l.waiting.items i.waiting) h.flatten;
    closes = closes_later (reverse l.opened.items) (add_goals h.done (add_goals between h.rest)) out (All-reverse (IsOpenedIn b) l.opened.items i.opened) h.closes;
  }

  pub next_later : (l : GoalList) (w : Waiting) (out : Goals) → IsGoalListIn b l → IsWaitingIn b l.level w → NextComesTo b l w out → NextComesTo c l w out
  next_later l w out i j h = record {
    done = h.done;
    behind = h.behind;
    rest = h.rest;
    reads = reads_later l.done.items h.done h.reads;
    flatten = flatten_later l.level l.level (reverse l.waiting.items) h.behind (All-reverse (IsWaitingIn b l.level) l.waiting.items i.waiting) h.flatten;
    goal = goal_later l.level l.level w h.behind h.rest j h.goal;
    closes = closes_later (reverse l.opened.items) (add_goals h.done h.rest) out (All-reverse (IsOpenedIn b) l.opened.items i.opened) h.closes;
  }

  vars_later : (ls : List Link) → All (IsLinkIn b) ls → vars_in c ls ≡ vars_in b ls
  vars_later [] a = refl
  vars_later (Link.Variable T ∷ ls) a =
      ap (λ z. z ∷ vars_in c ls) (x.same_types T.0 (All-head (IsLinkIn b) (Link.Variable T) ls a)) ∙ ap (λ z. type_tree b T.0 ∷ z) (vars_later ls (All-tail (IsLinkIn b) (Link.Variable T) ls a))
  vars_later (Link.Guard t ∷ ls) a = vars_later ls (All-tail (IsLinkIn b) (Link.Guard t) ls a)

  body_later : (ls : List Link) → All (IsLinkIn b) ls → body_in c ls ≡ body_in b ls
  body_later [] a = refl
  body_later (Link.Variable T ∷ ls) a = ap (map (shift 0 1)) (body_later ls (All-tail (IsLinkIn b) (Link.Variable T) ls a))
  body_later (Link.Guard t ∷ ls) a =
      ap (λ z. z ++ tree c t.0 ∷ []) (body_later ls (All-tail (IsLinkIn b) (Link.Guard t) ls a)) ∙
      ap (λ z. body_in b ls ++ z ∷ []) (x.same_terms t.0 (All-head (IsLinkIn b) (Link.Guard t) ls a))

  pub clause_later : (t : ℕ) (ls : List Link) (cs : Clauses) → t < length b.terms → All (IsLinkIn b) ls → IsFlatClause (tree b t) (vars_in b ls) (body_in b ls) cs → IsFlatClause (tree c t) (vars_in c ls) (body_in c ls) cs
  clause_later t ls cs h a p =
      subst (λ z. IsFlatClause z (vars_in c ls) (body_in c ls) cs) (sym (x.same_terms t h))
      (subst (λ z. IsFlatClause (tree b t) z (body_in c ls) cs) (sym (vars_later ls a)) (subst (λ z. IsFlatClause (tree b t) (vars_in b ls) z cs) (sym (body_later ls a)) p))

  pub parts_later : (ps : List Part) (ls : List Link) (cs : Clauses) → All (IsPartIn b) ps → All (IsLinkIn b) ls → PartsFlatten b ps ls cs → PartsFlatten c ps ls cs
  parts_later [] ls cs a k h = h
  parts_later (Part.Visit t ∷ ps) ls cs a k h = (
    h.0,
    h.1,
    clause_later t.0 ls h.0 (All-head (IsPartIn b) (Part.Visit t) ps a) k h.2,
    parts_later ps ls h.1 (All-tail (IsPartIn b) (Part.Visit t) ps a) k h.3,
    h.4,
  )
  parts_later (Part.Leave ∷ ps) [] cs a k h = parts_later ps [] cs (All-tail (IsPartIn b) Part.Leave ps a) k h
  parts_later (Part.Leave ∷ ps) (l ∷ ls) cs a k h = parts_later ps ls cs (All-tail (IsPartIn b) Part.Leave ps a) (All-tail (IsLinkIn b) l ls k) h

  assumed_later : (o : Option Assumed) (cs : Clauses) (out : Flat) → IfSome o (IsAssumedIn b) → AssumedComesTo b o cs out → AssumedComesTo c o cs out
  assumed_later None cs out i h = h
  assumed_later (Some a) cs out i h = (
    h.0,
    h.1,
    goal_later a.outer.level a.outer.level a.goal no_goals h.0 i.goal h.2,
    comes_later a.outer (goals (assuming cs h.0) no_goals) h.1 i.outer h.3,
    h.4,
  )

  pub clauses_come_later : (l : ClauseList) (between : Clauses) (out : Flat) → IsClauseListIn b l → ClausesComeTo b l between out → ClausesComeTo c l between out
  clauses_come_later l between out i h = record {
    done = h.done;
    rest = h.rest;
    reads = clauses_later l.done.items h.done h.reads;
    flatten = parts_later (reverse l.waiting.items) (reverse l.around.items) h.rest (All-reverse (IsPartIn b) l.waiting.items i.waiting) (All-reverse (IsLinkIn b) l.around.items i.around) h.flatten;
    ends = assumed_later l.assumed (add_clauses h.done (add_clauses between (with_type_vars l.type_vars h.rest))) out i.assumed h.ends;
  }

  pub part_later : (l : ClauseList) (t : ℕ) (out : Flat) → IsClauseListIn b l → t < length b.terms → PartComesTo b l t out → PartComesTo c l t out
  part_later l t out i j h = record {
    done = h.done;
    first = h.first;
    rest = h.rest;
    reads = clauses_later l.done.items h.done h.reads;
    clause = clause_later t (reverse l.around.items) h.first j (All-reverse (IsLinkIn b) l.around.items i.around) h.clause;
    flatten = parts_later (reverse l.waiting.items) (reverse l.around.items) h.rest (All-reverse (IsPartIn b) l.waiting.items i.waiting) (All-reverse (IsLinkIn b) l.around.items i.around) h.flatten;
    ends = assumed_later l.assumed (add_clauses h.done (with_type_vars l.type_vars (add_clauses h.first h.rest))) out i.assumed h.ends;
  }

  pub types_later : (ts : List TypeId) → All (λ T. T.0 < length b.types) ts → map (λ T. type_tree c T.0) ts ≡ map (λ T. type_tree b T.0) ts
  types_later [] a = refl
  types_later (t ∷ ts) a =
      ap (λ z. z ∷ map (λ T. type_tree c T.0) ts) (x.same_types t.0 (All-head (λ T. T.0 < length b.types) t ts a)) ∙
      ap (λ z. type_tree b t.0 ∷ z) (types_later ts (All-tail (λ T. T.0 < length b.types) t ts a))

  same_clause : (n : ℕ) {us vs : List Ty} {h i : Term} (gs : Goals) → us ≡ vs → h ≡ i → clause n us h gs ≡ clause n vs i gs
  same_clause n {us} {vs} {h} {i} gs e f = ap (λ z. clause n z h gs) e ∙ ap (λ z. clause n vs z gs) f

  turns_later : (f : Frame) (gs : Goals) (out : Flat) → IsFrameIn b f → Turns b f gs out → Turns c f gs out
  turns_later (Frame.Left o w) gs out i h = (h.0, h.1, goal_later o.level o.level w no_goals h.0 i.1 h.2, comes_later o (goals (Either gs h.0) no_goals) h.1 i.0 h.3, h.4)
  turns_later (Frame.Right o l) gs out i h = (h.0, h.1, reads_later l.items h.0 h.2, comes_later o (goals (Either h.0 gs) no_goals) h.1 i.0 h.3, h.4)
  turns_later (Frame.All o T) gs out i h = (
    h.0,
    subst (λ z. ComesTo c o (goals (Forall z gs) no_goals) h.0) (sym (x.same_types T.0 i.1)) (comes_later o (goals (Forall (type_tree b T.0) gs) no_goals) h.0 i.0 h.1),
    h.2,
  )
  turns_later (Frame.Assume o l) gs out i h = (h.0, h.1, clauses_later l.items h.0 h.2, comes_later o (goals (assuming h.0 gs) no_goals) h.1 i.0 h.3, h.4)
  turns_later (Frame.Not o) gs out i h = (h.0, comes_later o (goals (denied gs) no_goals) h.0 i h.1, h.2)
  turns_later (Frame.Body o vars head) gs out i h =
      subst (λ z. ClausesComeTo c o (clauses z no_clauses) out) (sym (same_clause o.type_vars gs (types_later vars.items i.1) (x.same_terms head.0 i.2)))
      (clauses_come_later o (clauses (clause o.type_vars (map (λ T. type_tree b T.0) vars.items) (tree b head.0) gs) no_clauses) out i.0 h)

  pub all_turn_later : (fs : List Frame) (out whole : Flat) → All (IsFrameIn b) fs → AllTurn b fs out whole → AllTurn c fs out whole
  all_turn_later [] out whole a h = h
  all_turn_later (f ∷ fs) out whole a h = (
    h.0,
    h.1,
    h.2,
    turns_later f h.0 h.1 (All-head (IsFrameIn b) f fs a) h.3,
    all_turn_later fs h.1 whole (All-tail (IsFrameIn b) f fs a) h.4,
  )
