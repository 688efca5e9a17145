-- Each move on a list of goals leaves what all come to.
use Rattle.std.proofs.Common.{◌≡◌, ℕ, suc, ◌-◌, List, [], ◌∷◌, ◌++◌, reverse, refl, sym, ap, ◌∙◌, subst, arith, Some}
use Rattle.std.specs.Prelude.{All}
use Rattle.std.proofs.lemmas.List.{reverse-append}
use Rattle.std.proofs.lemmas.List.Elements.{All-head, All-tail}
use Rattle.lp_calculus.specs.Term.{Term, shift}
use Rattle.lp_calculus.proofs.Plain.{shift-none}
use Rattle.lp_term.specs.Nodes.{Nodes, Extends, tree, type_tree}
use Rattle.lp_term.specs.declared.node.TermId.{TermId}
use Rattle.lp_term.specs.declared.node.TypeId.{TypeId}
use Rattle.lp_model.specs.declared.clause.Goal.{Goal}
use Rattle.lp_standard.specs.Connectives.{body_of, Connective, connective_of}
use Rattle.lp_standard.specs.Connectives as connective
use Rattle.lp_model.specs.Flat.{Goal as FlatGoal, Atomic, Cut, Either, Forall, Goals, no_goals, goals, Clauses, no_clauses, clauses, add_goals, add_clauses, raise_goals, assuming, denied}
use Rattle.lp_model.specs.Flatten.{with_type_vars}
use Rattle.lp_model.specs.Flattened.{goal_of, goals_of, clauses_of}
use Rattle.lp_normal.specs.Flats.{IsFlatGoal, IsFlatClause}
use Rattle.lp_normal.specs.declared.goals.Waiting.{Waiting}
use Rattle.lp_normal.specs.declared.goals.Opened.{Opened}
use Rattle.lp_normal.specs.declared.goals.GoalList.{GoalList}
use Rattle.lp_normal.specs.declared.clauses.Part.{Part}
use Rattle.lp_normal.specs.declared.clauses.Assumed.{Assumed}
use Rattle.lp_normal.specs.declared.clauses.ClauseList.{ClauseList}
use Rattle.lp_normal.specs.declared.frame.Frame.{Frame}
use Rattle.lp_normal.specs.declared.frame.Inner.{Inner}
use Rattle.lp_normal.specs.Within.{IsWaitingIn}
use Rattle.lp_normal.specs.Making.{Reads, raised_in, Flatten, Closes, ComesTo, NextComesTo, PartsFlatten, Flat, these_goals, AssumedComesTo, ClausesComeTo, AllTurn, InnerComesTo}
use Rattle.lp_normal.proofs.Bounds.{All-reverse, reverse_push}
use Rattle.lp_normal.proofs.Shifts.{shifted, body_shift, form_shifted, shift_more, goal_raised}
use Rattle.lp_normal.proofs.Deriving.{none_of_their_own}
use Rattle.lp_normal.proofs.Inversions.{GoalBy, goal_by}

-- goals and those behind them

pub add_none : (gs : Goals) → add_goals gs no_goals ≡ gs
add_none no_goals = refl
add_none (goals g gs) = ap (goals g) (add_none gs)

pub add_assoc : (xs ys zs : Goals) → add_goals (add_goals xs ys) zs ≡ add_goals xs (add_goals ys zs)
add_assoc no_goals ys zs = refl
add_assoc (goals x xs) ys zs = ap (goals x) (add_assoc xs ys zs)

pub add_no_clauses : (cs : Clauses) → add_clauses cs no_clauses ≡ cs
add_no_clauses no_clauses = refl
add_no_clauses (clauses c cs) = ap (clauses c) (add_no_clauses cs)

pub add_clauses_assoc : (xs ys zs : Clauses) → add_clauses (add_clauses xs ys) zs ≡ add_clauses xs (add_clauses ys zs)
add_clauses_assoc no_clauses ys zs = refl
add_clauses_assoc (clauses x xs) ys zs = ap (clauses x) (add_clauses_assoc xs ys zs)

-- what a list reads

pub empty_reads : (b : Nodes) (l : List Goal) → l ≡ [] → Reads b l no_goals
empty_reads b l e = λ later x. ap (goals_of later) e

pub goals_of_push : (b : Nodes) (l : List Goal) (g : Goal) → goals_of b (l ++ g ∷ []) ≡ add_goals (goals_of b l) (goals (goal_of b g) no_goals)
goals_of_push b [] g = refl
goals_of_push b (h ∷ l) g = ap (goals (goal_of b h)) (goals_of_push b l g)

pub reads_push : (b : Nodes) (all l : List Goal) (g : Goal) (gs : Goals) (G : FlatGoal) → all ≡ l ++ g ∷ [] → Reads b l gs → ((later : Nodes) → Extends b later → goal_of later g ≡ G) → Reads b all (add_goals gs (goals G no_goals))
reads_push b all l g gs G e r h =
    λ later x. ap (goals_of later) e ∙ goals_of_push later l g ∙ ap (λ z. add_goals z (goals (goal_of later g) no_goals)) (r later x) ∙ ap (λ z. add_goals gs (goals z no_goals)) (h later x)

-- a goal that is done
pub with_comes : (b : Nodes) (l m : GoalList) (g : Goal) (G : FlatGoal) (out : Goals) → m.opened ≡ l.opened → m.done.items ≡ l.done.items ++ g ∷ [] → m.waiting ≡ l.waiting → m.level ≡ l.level →
    ((later : Nodes) → Extends b later → goal_of later g ≡ G) → ComesTo b l (goals G no_goals) out → ComesTo b m no_goals out
with_comes b l m g G out o d w v k h = record {
  done = add_goals h.done (goals G no_goals);
  rest = h.rest;
  reads = reads_push b m.done.items l.done.items g h.done G d h.reads k;
  flatten = subst (λ n. Flatten b n (reverse m.waiting.items) h.rest) (sym v) (subst (λ z. Flatten b l.level (reverse z.items) h.rest) (sym w) h.flatten);
  closes = subst (λ z. Closes b (reverse z.items) (add_goals (add_goals h.done (goals G no_goals)) h.rest) out) (sym o)
      (subst (λ z. Closes b (reverse l.opened.items) z out) (sym (add_assoc h.done (goals G no_goals) h.rest)) h.closes);
}

-- a list of one formula
pub one_comes : (b : Nodes) (m : GoalList) (w : Waiting) (n : ℕ) (gs : Goals) → m.opened.items ≡ [] → m.done.items ≡ [] → m.waiting.items ≡ w ∷ [] → m.level ≡ n → IsFlatGoal (raised_in b n w) no_goals gs → ComesTo b m no_goals gs
one_comes b m w n gs o d q v p = record {
  done = no_goals;
  rest = gs;
  reads = empty_reads b m.done.items d;
  flatten = subst (λ k. Flatten b k (reverse m.waiting.items) gs) (sym v) (subst (λ z. Flatten b n (reverse z) gs) (sym q) (no_goals, refl, p));
  closes = subst (λ z. Closes b (reverse z) gs gs) (sym o) refl;
}

-- the next formula, by its connective
module _ (b : Nodes) (l : GoalList) (next : Waiting) (out : Goals) where
  raised_form : (f : Connective) → connective_of (tree b next.formula.0) ≡ f → connective_of (raised_in b l.level next) ≡ shifted 0 (l.level - next.level) f
  raised_form f e = form_shifted 0 (l.level - next.level) (tree b next.formula.0) f e

  next_by : (f : Connective) → connective_of (tree b next.formula.0) ≡ f → (h : NextComesTo b l next out) → GoalBy (raised_in b l.level next) (shifted 0 (l.level - next.level) f) h.behind h.rest
  next_by f e h = goal_by (raised_in b l.level next) (shifted 0 (l.level - next.level) f) h.behind h.rest (raised_form f e) h.goal

  -- it is one goal, and those behind it
  one_goal : (G : FlatGoal) (h : NextComesTo b l next out) → h.rest ≡ goals G h.behind → ComesTo b l (goals G no_goals) out
  one_goal G h e = record {
    done = h.done;
    rest = h.behind;
    reads = h.reads;
    flatten = h.flatten;
    closes = subst (λ z. Closes b (reverse l.opened.items) (add_goals h.done z) out) e h.closes;
  }

  pub truth_next : connective_of (tree b next.formula.0) ≡ connective.True → NextComesTo b l next out → ComesTo b l no_goals out
  truth_next f h = record {
    done = h.done;
    rest = h.behind;
    reads = h.reads;
    flatten = h.flatten;
    closes = subst (λ z. Closes b (reverse l.opened.items) (add_goals h.done z) out) (next_by connective.True f h) h.closes;
  }

  pub cut_next : connective_of (tree b next.formula.0) ≡ connective.Cut → NextComesTo b l next out → ComesTo b l (goals Cut no_goals) out
  cut_next f h = one_goal Cut h (next_by connective.Cut f h)

  pub plain_next : connective_of (tree b next.formula.0) ≡ connective.Atomic → NextComesTo b l next out → ComesTo b l (goals (Atomic (raised_in b l.level next)) no_goals) out
  plain_next f h = one_goal (Atomic (raised_in b l.level next)) h (next_by connective.Atomic f h)

  pub both_next : (m : GoalList) (left right : TermId) → m.opened ≡ l.opened → m.done ≡ l.done →
      m.waiting.items ≡ (l.waiting.items ++ record { formula = right; level = next.level } ∷ []) ++ record { formula = left; level = next.level } ∷ [] → m.level ≡ l.level →
      connective_of (tree b next.formula.0) ≡ connective.And (tree b left.0) (tree b right.0) → NextComesTo b l next out → ComesTo b m no_goals out
  both_next m left right o d w v f h =
      let k = next_by (connective.And (tree b left.0) (tree b right.0)) f h in
      let second : Waiting = record { formula = right; level = next.level } in
      let first : Waiting = record { formula = left; level = next.level } in
      let q : reverse m.waiting.items ≡ first ∷ second ∷ reverse l.waiting.items = reverse_push m.waiting.items (l.waiting.items ++ second ∷ []) first w ∙ ap (λ z. first ∷ z) (reverse-append l.waiting.items (second ∷ [])) in
      record {
        done = h.done;
        rest = h.rest;
        reads = subst (λ z. Reads b z.items h.done) (sym d) h.reads;
        flatten = subst (λ n. Flatten b n (reverse m.waiting.items) h.rest) (sym v) (subst (λ z. Flatten b l.level z h.rest) (sym q) (k.0, (h.behind, h.flatten, k.1), k.2));
        closes = subst (λ z. Closes b (reverse z.items) (add_goals h.done h.rest) out) (sym o) h.closes;
      }

  pub one_of_next : (whole : Flat) (m : GoalList) (fs gs : List Frame) (left right : TermId) → m.opened.items ≡ [] → m.done.items ≡ [] → m.waiting.items ≡ record { formula = left; level = next.level } ∷ [] → m.level ≡ l.level →
      gs ≡ fs ++ Frame.Left l (record { formula = right; level = next.level }) ∷ [] →
      connective_of (tree b next.formula.0) ≡ connective.Or (tree b left.0) (tree b right.0) → NextComesTo b l next out → AllTurn b (reverse fs) (these_goals out) whole → InnerComesTo b (Inner.Goals m) gs whole
  one_of_next whole m fs gs left right o d w v e f h t =
      let k = next_by (connective.Or (tree b left.0) (tree b right.0)) f h in
      let second : Waiting = record { formula = right; level = next.level } in (
        k.0,
        one_comes b m (record { formula = left; level = next.level }) l.level k.0 o d w v k.2,
        subst (λ z. AllTurn b z (these_goals k.0) whole) (sym (reverse_push gs fs (Frame.Left l second) e))
            (k.0, these_goals out, refl, (k.1, out, k.3, one_goal (Either k.0 k.1) h k.4, refl), t),
      )

  pub not_next : (whole : Flat) (m : GoalList) (fs gs : List Frame) (on : TermId) → m.opened.items ≡ [] → m.done.items ≡ [] → m.waiting.items ≡ record { formula = on; level = next.level } ∷ [] → m.level ≡ l.level →
      gs ≡ fs ++ Frame.Not l ∷ [] →
      connective_of (tree b next.formula.0) ≡ connective.Not (tree b on.0) → NextComesTo b l next out → AllTurn b (reverse fs) (these_goals out) whole → InnerComesTo b (Inner.Goals m) gs whole
  not_next whole m fs gs on o d w v e f h t =
      let k = next_by (connective.Not (tree b on.0)) f h in (
        k.0,
        one_comes b m (record { formula = on; level = next.level }) l.level k.0 o d w v k.1,
        subst (λ z. AllTurn b z (these_goals k.0) whole) (sym (reverse_push gs fs (Frame.Not l) e))
            (k.0, these_goals out, refl, (out, one_goal (denied k.0) h k.2, refl), t),
      )

  pub implies_next : (m : ClauseList) (v : Assumed) (formula goal : TermId) → v.outer ≡ l → v.goal ≡ record { formula = goal; level = next.level } → m.type_vars ≡ 0 → m.assumed ≡ Some v → m.done.items ≡ [] → m.waiting.items ≡ Part.Visit formula ∷ [] → m.around.items ≡ [] →
      (u : Term) → tree b formula.0 ≡ shift 0 (l.level - next.level) u →
      connective_of (tree b next.formula.0) ≡ connective.Implies u (tree b goal.0) → NextComesTo b l next out → ClausesComeTo b m no_clauses (these_goals out)
  implies_next m v formula goal vo vg y a d w r u e f h =
      let k = next_by (connective.Implies u (tree b goal.0)) f h in
      let second : Waiting = record { formula = goal; level = next.level } in
      record {
        done = no_clauses;
        rest = k.0;
        reads = λ later x. ap (clauses_of later) d;
        flatten = subst (λ z. PartsFlatten b (reverse z) (reverse m.around.items) k.0) (sym w)
            (subst (λ z. PartsFlatten b (Part.Visit formula ∷ []) (reverse z) k.0) (sym r) (k.0, no_clauses, subst (λ z. IsFlatClause z [] [] k.0) (sym e) k.2, refl, sym (add_no_clauses k.0)));
        ends = subst (λ z. AssumedComesTo b m.assumed (with_type_vars z k.0) (these_goals out)) (sym y)
            (subst (λ z. AssumedComesTo b m.assumed z (these_goals out)) (sym (none_of_their_own (shift 0 (l.level - next.level) u) [] [] k.0 k.2))
            (subst (λ z. AssumedComesTo b z k.0 (these_goals out)) (sym a) (
              k.1,
              out,
              subst (λ z. IsFlatGoal (raised_in b z.level v.goal) no_goals k.1) (sym vo) (subst (λ z. IsFlatGoal (raised_in b l.level z) no_goals k.1) (sym vg) k.3),
              subst (λ z. ComesTo b z (goals (assuming k.0 k.1) no_goals) out) (sym vo) (one_goal (assuming k.0 k.1) h k.4),
              refl,
            )));
      }

  pub every_next : (whole : Flat) (m : GoalList) (fs gs : List Frame) (bound : TypeId) (formula : TermId) → m.opened.items ≡ [] → m.done.items ≡ [] → m.waiting.items ≡ record { formula = formula; level = 0 } ∷ [] → m.level ≡ 0 →
      gs ≡ fs ++ Frame.All l bound ∷ [] → (u : Term) → tree b formula.0 ≡ body_of (shift 0 (l.level - next.level) u) →
      connective_of (tree b next.formula.0) ≡ connective.ForAll (type_tree b bound.0) (body_of u) → NextComesTo b l next out → AllTurn b (reverse fs) (these_goals out) whole → InnerComesTo b (Inner.Goals m) gs whole
  every_next whole m fs gs bound formula o d w v e u s f h t =
      let k = next_by (connective.ForAll (type_tree b bound.0) (body_of u)) f h in
      let p : IsFlatGoal (shift 0 0 (tree b formula.0)) no_goals k.0 = subst (λ z. IsFlatGoal z no_goals k.0) (sym (shift-none (tree b formula.0) ∙ s ∙ body_shift 0 (l.level - next.level) u)) k.1 in (
        k.0,
        one_comes b m (record { formula = formula; level = 0 }) 0 k.0 o d w v p,
        subst (λ z. AllTurn b z (these_goals k.0) whole) (sym (reverse_push gs fs (Frame.All l bound) e))
            (k.0, these_goals out, refl, (out, one_goal (Forall (type_tree b bound.0) k.0) h k.2, refl), t),
      )

flatten_raised : (b : Nodes) (n : ℕ) (ws : List Waiting) (gs : Goals) → All (IsWaitingIn b n) ws → Flatten b n ws gs → Flatten b (suc n) ws (raise_goals 0 gs)
flatten_raised b n [] gs a f = ap (raise_goals 0) f
flatten_raised b n (w ∷ ws) gs a f =
    let i = All-head (IsWaitingIn b n) w ws a in
    let q : suc n - w.level ≡ suc (n - w.level) = omega (arith, i.outside) in (
      raise_goals 0 f.0,
      flatten_raised b n ws f.0 (All-tail (IsWaitingIn b n) w ws a) f.1,
      subst (λ z. IsFlatGoal z (raise_goals 0 f.0) (raise_goals 0 gs)) (sym (ap (λ k. shift 0 k (tree b w.formula.0)) q ∙ shift_more (n - w.level) (tree b w.formula.0))) (goal_raised 0 (raised_in b n w) f.0 gs f.2),
    )

pub exist_next : (b : Nodes) (l : GoalList) (next : Waiting) (out : Goals) (m : GoalList) (bound : TypeId) (body : TermId) → m.opened.items ≡ l.opened.items ++ record { bound = bound; before = l.done } ∷ [] → m.done.items ≡ [] →
    m.waiting.items ≡ l.waiting.items ++ record { formula = body; level = suc l.level } ∷ [] → m.level ≡ suc l.level → All (IsWaitingIn b l.level) l.waiting.items → (u : Term) → tree b body.0 ≡ body_of (shift 0 (l.level - next.level) u) →
    connective_of (tree b next.formula.0) ≡ connective.Exists (type_tree b bound.0) (body_of u) → NextComesTo b l next out → ComesTo b m no_goals out
exist_next b l next out m bound body o d w v a u s f h =
    let k = next_by b l next out (connective.Exists (type_tree b bound.0) (body_of u)) f h in
    let first : Waiting = record { formula = body; level = suc l.level } in
    let outer : Opened = record { bound = bound; before = l.done } in
    let z0 : suc l.level - suc l.level ≡ 0 = omega arith in
    let e : raised_in b (suc l.level) first ≡ shift 1 (l.level - next.level) (body_of u) = ap (λ n. shift 0 n (tree b body.0)) z0 ∙ shift-none (tree b body.0) ∙ s ∙ body_shift 0 (l.level - next.level) u in
    record {
      done = no_goals;
      rest = k.0;
      reads = empty_reads b m.done.items d;
      flatten = subst (λ n. Flatten b n (reverse m.waiting.items) k.0) (sym v)
          (subst (λ z. Flatten b (suc l.level) z k.0) (sym (reverse_push m.waiting.items l.waiting.items first w))
          (raise_goals 0 h.behind, flatten_raised b l.level (reverse l.waiting.items) h.behind (All-reverse (IsWaitingIn b l.level) l.waiting.items a) h.flatten, subst (λ z. IsFlatGoal z (raise_goals 0 h.behind) k.0) (sym e) k.1));
      closes = subst (λ z. Closes b z k.0 out) (sym (reverse_push m.opened.items l.opened.items outer o))
          (h.done, h.reads, subst (λ z. Closes b (reverse l.opened.items) (add_goals h.done z) out) k.2 h.closes);
    }
