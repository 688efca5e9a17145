-- Lists in the making stay in the bank.
use Rattle.std.proofs.Common.{◌≡◌, ℕ, suc, ◌<◌, ◌≤◌, List, [], ◌∷◌, ◌++◌, length, map, reverse, refl, sym, ap, subst, arith, Option, Some, None}
use Rattle.std.specs.Prelude.{All, IfSome}
use Rattle.std.proofs.lemmas.List.{reverse-append}
use Rattle.std.proofs.lemmas.List.Elements.{All-nil, All-head, All-tail, All-cons, All-push, All-weaker}
use Rattle.lp_term.specs.Nodes.{Nodes, Extends}
use Rattle.lp_term.specs.declared.node.TermId.{TermId}
use Rattle.lp_term.specs.declared.node.TypeId.{TypeId}
use Rattle.lp_term.proofs.Walks.{All-front, All-back}
use Rattle.lp_model.specs.declared.clause.Goal.{Goal}
use Rattle.lp_model.specs.declared.clause.Clause.{Clause}
use Rattle.lp_normal.specs.declared.goals.Waiting.{Waiting}
use Rattle.lp_normal.specs.declared.goals.GoalList.{GoalList}
use Rattle.lp_normal.specs.declared.clauses.Link.{Link}
use Rattle.lp_normal.specs.declared.clauses.Part.{Part}
use Rattle.lp_normal.specs.declared.clauses.Assumed.{Assumed}
use Rattle.lp_normal.specs.declared.clauses.ClauseList.{ClauseList}
use Rattle.lp_normal.specs.declared.frame.Frame.{Frame}
use Rattle.lp_normal.specs.Within.{highest, term_bound, type_bound, clause_term_bound, clause_type_bound, AreGoalsIn, AreClausesIn, IsWaitingIn, IsOpenedIn, IsGoalListIn, IsLinkIn, IsPartIn, IsAssumedIn, IsClauseListIn, IsFrameIn}

-- the last element of a list

pub All-last : {X : Type 0} (P : X → Type 0) (all xs : List X) (x : X) → all ≡ xs ++ x ∷ [] → All P all → All P xs × P x
All-last P all xs x e a =
    let k : All P (xs ++ x ∷ []) = subst (All P) e a in
    (All-front P xs (x ∷ []) k, All-head P x [] (All-back P xs (x ∷ []) k))

pub All-pushed : {X : Type 0} (P : X → Type 0) (all xs : List X) (x : X) → all ≡ xs ++ x ∷ [] → All P xs → P x → All P all
All-pushed P all xs x e a p = subst (All P) (sym e) (All-push P xs x a p)

pub All-empty : {X : Type 0} (P : X → Type 0) (xs : List X) → xs ≡ [] → All P xs
All-empty P xs e = subst (All P) (sym e) (All-nil P)

pub All-reverse : {X : Type 0} (P : X → Type 0) (xs : List X) → All P xs → All P (reverse xs)
All-reverse P [] a = All-nil P
All-reverse P (x ∷ xs) a =
    subst (All P) (sym (reverse-append (x ∷ []) xs)) (All-push P (reverse xs) x (All-reverse P xs (All-tail P x xs a)) (All-head P x xs a))

pub reverse_push : {X : Type 0} (all xs : List X) (x : X) → all ≡ xs ++ x ∷ [] → reverse all ≡ x ∷ reverse xs
reverse_push all xs x e = subst (λ z. reverse z ≡ x ∷ reverse xs) (sym e) (reverse-append xs (x ∷ []))

pub reverse_empty : {X : Type 0} (xs : List X) → xs ≡ [] → reverse xs ≡ []
reverse_empty xs e = ap reverse e

pub all_popped : {X : Type 0} (all xs : List X) → all ≡ xs ++ [] → all ≡ xs
all_popped all [] e = e
all_popped all (x ∷ xs) e = subst (λ z. all ≡ z) (go (x ∷ xs)) e
  where
    go : {X : Type 0} (ys : List X) → ys ++ [] ≡ ys
    go [] = refl
    go (y ∷ ys) = ap (λ l. y ∷ l) (go ys)

-- bounds

pub highest_push : {X : Type 0} (f : X → ℕ) (n : ℕ) (xs : List X) (x : X) → highest (map f xs) ≤ n → f x ≤ n → highest (map f (xs ++ x ∷ [])) ≤ n
highest_push f n [] x h k = omega (arith, k)
highest_push f n (y ∷ ys) x h k =
    let r = highest_push f n ys x (omega (arith, h)) k in
    omega (arith, h, r)

pub goals_push : (b : Nodes) (all gs : List Goal) (g : Goal) → all ≡ gs ++ g ∷ [] → AreGoalsIn b gs → term_bound g ≤ length b.terms → type_bound g ≤ length b.types → AreGoalsIn b all
goals_push b all gs g e i t y = subst (AreGoalsIn b) (sym e) (record { terms = highest_push term_bound (length b.terms) gs g i.terms t; types = highest_push type_bound (length b.types) gs g i.types y })

pub clauses_push : (b : Nodes) (all cs : List Clause) (c : Clause) → all ≡ cs ++ c ∷ [] → AreClausesIn b cs → clause_term_bound c ≤ length b.terms → clause_type_bound c ≤ length b.types → AreClausesIn b all
clauses_push b all cs c e i t y =
    subst (AreClausesIn b) (sym e) (record { terms = highest_push clause_term_bound (length b.terms) cs c i.terms t; types = highest_push clause_type_bound (length b.types) cs c i.types y })

pub no_goals_in : (b : Nodes) (gs : List Goal) → gs ≡ [] → AreGoalsIn b gs
no_goals_in b gs e = subst (AreGoalsIn b) (sym e) (record { terms = omega arith; types = omega arith })

pub no_clauses_in : (b : Nodes) (cs : List Clause) → cs ≡ [] → AreClausesIn b cs
no_clauses_in b cs e = subst (AreClausesIn b) (sym e) (record { terms = omega arith; types = omega arith })

pub types_high : (n : ℕ) (ts : List TypeId) → All (λ T. T.0 < n) ts → highest (map (λ T. suc T.0) ts) ≤ n
types_high n [] a = omega arith
types_high n (t ∷ ts) a = omega (arith, All-head (λ T. T.0 < n) t ts a, types_high n ts (All-tail (λ T. T.0 < n) t ts a))

-- the bank grows
module _ (b c : Nodes) (x : Extends b c) where
  pub grown_goals : (gs : List Goal) → AreGoalsIn b gs → AreGoalsIn c gs
  grown_goals gs i = record { terms = omega (arith, i.terms, x.more_terms); types = omega (arith, i.types, x.more_types) }

  pub grown_clauses : (cs : List Clause) → AreClausesIn b cs → AreClausesIn c cs
  grown_clauses cs i = record { terms = omega (arith, i.terms, x.more_terms); types = omega (arith, i.types, x.more_types) }

  pub grown_waiting : (n : ℕ) (w : Waiting) → IsWaitingIn b n w → IsWaitingIn c n w
  grown_waiting n w i = record { formula = omega (arith, i.formula, x.more_terms); outside = i.outside }

  pub grown_list : (l : GoalList) → IsGoalListIn b l → IsGoalListIn c l
  grown_list l i = record {
    opened = All-weaker (IsOpenedIn b) (IsOpenedIn c) (λ o h. record { bound = omega (arith, h.bound, x.more_types); before = grown_goals o.before.items h.before }) l.opened.items i.opened;
    done = grown_goals l.done.items i.done;
    waiting = All-weaker (IsWaitingIn b l.level) (IsWaitingIn c l.level) (grown_waiting l.level) l.waiting.items i.waiting;
  }

  pub grown_link : (l : Link) → IsLinkIn b l → IsLinkIn c l
  grown_link (Link.Variable T) i = omega (arith, i, x.more_types)
  grown_link (Link.Guard t) i = omega (arith, i, x.more_terms)

  pub grown_part : (p : Part) → IsPartIn b p → IsPartIn c p
  grown_part (Part.Visit t) i = omega (arith, i, x.more_terms)
  grown_part Part.Leave i = tt

  grown_assumed : (o : Option Assumed) → IfSome o (IsAssumedIn b) → IfSome o (IsAssumedIn c)
  grown_assumed None i = tt
  grown_assumed (Some a) i = record { outer = grown_list a.outer i.outer; goal = grown_waiting a.outer.level a.goal i.goal }

  pub grown_clause_list : (l : ClauseList) → IsClauseListIn b l → IsClauseListIn c l
  grown_clause_list l i = record {
    assumed = grown_assumed l.assumed i.assumed;
    done = grown_clauses l.done.items i.done;
    waiting = All-weaker (IsPartIn b) (IsPartIn c) grown_part l.waiting.items i.waiting;
    around = All-weaker (IsLinkIn b) (IsLinkIn c) grown_link l.around.items i.around;
  }

  grown_types : (ts : List TypeId) → All (λ T. T.0 < length b.types) ts → All (λ T. T.0 < length c.types) ts
  grown_types ts a = All-weaker (λ T. T.0 < length b.types) (λ T. T.0 < length c.types) (λ T h. omega (arith, h, x.more_types)) ts a

  pub grown_frame : (f : Frame) → IsFrameIn b f → IsFrameIn c f
  grown_frame (Frame.Left o w) i = (grown_list o i.0, grown_waiting o.level w i.1)
  grown_frame (Frame.Right o l) i = (grown_list o i.0, grown_goals l.items i.1)
  grown_frame (Frame.All o T) i = (grown_list o i.0, omega (arith, i.1, x.more_types))
  grown_frame (Frame.Assume o cs) i = (grown_list o i.0, grown_clauses cs.items i.1)
  grown_frame (Frame.Not o) i = grown_list o i
  grown_frame (Frame.Body o vars head) i = (grown_clause_list o i.0, grown_types vars.items i.1, omega (arith, i.2, x.more_terms))

  pub grown_frames : (fs : List Frame) → All (IsFrameIn b) fs → All (IsFrameIn c) fs
  grown_frames fs a = All-weaker (IsFrameIn b) (IsFrameIn c) grown_frame fs a

-- what becomes of a list

pub with_goal : (b : Nodes) (l m : GoalList) (g : Goal) → m.opened ≡ l.opened → m.done.items ≡ l.done.items ++ g ∷ [] → m.waiting ≡ l.waiting → m.level ≡ l.level → IsGoalListIn b l → term_bound g ≤ length b.terms → type_bound g ≤ length b.types → IsGoalListIn b m
with_goal b l m g o d w v i t y = record {
  opened = subst (λ z. All (IsOpenedIn b) z.items) (sym o) i.opened;
  done = goals_push b m.done.items l.done.items g d i.done t y;
  waiting = subst (λ z. All (IsWaitingIn b z) m.waiting.items) (sym v) (subst (λ z. All (IsWaitingIn b l.level) z.items) (sym w) i.waiting);
}

pub new_list : (b : Nodes) (m : GoalList) (w : Waiting) (n : ℕ) → m.opened.items ≡ [] → m.done.items ≡ [] → m.waiting.items ≡ w ∷ [] → m.level ≡ n → IsWaitingIn b n w → IsGoalListIn b m
new_list b m w n o d q v i = record {
  opened = All-empty (IsOpenedIn b) m.opened.items o;
  done = no_goals_in b m.done.items d;
  waiting = subst (λ z. All (IsWaitingIn b z) m.waiting.items) (sym v) (subst (All (IsWaitingIn b n)) (sym q) (All-cons (IsWaitingIn b n) w [] i (All-nil (IsWaitingIn b n))));
}

pub open_list : (b : Nodes) (l m : GoalList) (bound : TypeId) (body : TermId) → m.opened.items ≡ l.opened.items ++ record { bound = bound; before = l.done } ∷ [] → m.done.items ≡ [] →
    m.waiting.items ≡ l.waiting.items ++ record { formula = body; level = suc l.level } ∷ [] → m.level ≡ suc l.level → IsGoalListIn b l → bound.0 < length b.types → body.0 < length b.terms → IsGoalListIn b m
open_list b l m bound body o d w v i h k = record {
  opened = All-pushed (IsOpenedIn b) m.opened.items l.opened.items (record { bound = bound; before = l.done }) o i.opened (record { bound = h; before = i.done });
  done = no_goals_in b m.done.items d;
  waiting = subst (λ z. All (IsWaitingIn b z) m.waiting.items) (sym v) (All-pushed (IsWaitingIn b (suc l.level)) m.waiting.items l.waiting.items (record { formula = body; level = suc l.level }) w
      (All-weaker (IsWaitingIn b l.level) (IsWaitingIn b (suc l.level)) (λ x j. record { formula = j.formula; outside = omega (arith, j.outside) }) l.waiting.items i.waiting)
      (record { formula = k; outside = omega arith }));
}

pub join_list : (b : Nodes) (l m : GoalList) (left right : TermId) (n : ℕ) → m.opened ≡ l.opened → m.done ≡ l.done →
    m.waiting.items ≡ (l.waiting.items ++ record { formula = right; level = n } ∷ []) ++ record { formula = left; level = n } ∷ [] → m.level ≡ l.level → IsGoalListIn b l → n ≤ l.level → left.0 < length b.terms → right.0 < length b.terms → IsGoalListIn b m
join_list b l m left right n o d w v i h p q = record {
  opened = subst (λ z. All (IsOpenedIn b) z.items) (sym o) i.opened;
  done = subst (λ z. AreGoalsIn b z.items) (sym d) i.done;
  waiting = subst (λ z. All (IsWaitingIn b z) m.waiting.items) (sym v) (All-pushed (IsWaitingIn b l.level) m.waiting.items (l.waiting.items ++ record { formula = right; level = n } ∷ []) (record { formula = left; level = n }) w
      (All-push (IsWaitingIn b l.level) l.waiting.items (record { formula = right; level = n }) i.waiting (record { formula = q; outside = h }))
      (record { formula = p; outside = h }));
}

-- and of a list of clauses

pub with_clause : (b : Nodes) (l m : ClauseList) (c : Clause) → m.assumed ≡ l.assumed → m.done.items ≡ l.done.items ++ c ∷ [] → m.waiting ≡ l.waiting → m.around ≡ l.around → IsClauseListIn b l → clause_term_bound c ≤ length b.terms → clause_type_bound c ≤ length b.types → IsClauseListIn b m
with_clause b l m c a d w r i t y = record {
  assumed = subst (λ z. IfSome z (IsAssumedIn b)) (sym a) i.assumed;
  done = clauses_push b m.done.items l.done.items c d i.done t y;
  waiting = subst (λ z. All (IsPartIn b) z.items) (sym w) i.waiting;
  around = subst (λ z. All (IsLinkIn b) z.items) (sym r) i.around;
}

pub new_clauses : (b : Nodes) (m : ClauseList) (t : TermId) (o : Option Assumed) → m.assumed ≡ o → m.done.items ≡ [] → m.waiting.items ≡ Part.Visit t ∷ [] → m.around.items ≡ [] → IfSome o (IsAssumedIn b) → t.0 < length b.terms → IsClauseListIn b m
new_clauses b m t o a d w r i h = record {
  assumed = subst (λ z. IfSome z (IsAssumedIn b)) (sym a) i;
  done = no_clauses_in b m.done.items d;
  waiting = subst (All (IsPartIn b)) (sym w) (All-cons (IsPartIn b) (Part.Visit t) [] h (All-nil (IsPartIn b)));
  around = All-empty (IsLinkIn b) m.around.items r;
}

pub join_parts : (b : Nodes) (l m : ClauseList) (left right : TermId) → m.assumed ≡ l.assumed → m.done ≡ l.done → m.waiting.items ≡
    (l.waiting.items ++ Part.Visit right ∷ []) ++ Part.Visit left ∷ [] → m.around ≡ l.around → IsClauseListIn b l → left.0 < length b.terms → right.0
    < length b.terms → IsClauseListIn b m
join_parts b l m left right a d w r i p q = record {
  assumed = subst (λ z. IfSome z (IsAssumedIn b)) (sym a) i.assumed;
  done = subst (λ z. AreClausesIn b z.items) (sym d) i.done;
  waiting = All-pushed (IsPartIn b) m.waiting.items (l.waiting.items ++ Part.Visit right ∷ []) (Part.Visit left) w (All-push (IsPartIn b) l.waiting.items (Part.Visit right) i.waiting q) p;
  around = subst (λ z. All (IsLinkIn b) z.items) (sym r) i.around;
}

pub enter_part : (b : Nodes) (l m : ClauseList) (k : Link) (part : TermId) → m.assumed ≡ l.assumed → m.done ≡ l.done → m.waiting.items ≡
    (l.waiting.items ++ Part.Leave ∷ []) ++ Part.Visit part ∷ [] → m.around.items ≡ l.around.items ++ k ∷ [] → IsClauseListIn b l → IsLinkIn b k →
    part.0 < length b.terms → IsClauseListIn b m
enter_part b l m k part a d w r i p q = record {
  assumed = subst (λ z. IfSome z (IsAssumedIn b)) (sym a) i.assumed;
  done = subst (λ z. AreClausesIn b z.items) (sym d) i.done;
  waiting = All-pushed (IsPartIn b) m.waiting.items (l.waiting.items ++ Part.Leave ∷ []) (Part.Visit part) w (All-push (IsPartIn b) l.waiting.items Part.Leave i.waiting tt) q;
  around = All-pushed (IsLinkIn b) m.around.items l.around.items k r i.around p;
}
