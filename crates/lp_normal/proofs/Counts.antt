-- Each move keeps how many clauses were met, and what all comes to has as many or more.
use Rattle.std.proofs.Common.{◌≡◌, ℕ, suc, ◌+◌, ◌-◌, ◌<◌, ◌≤◌, ◌⊎◌, List, [], ◌∷◌, ◌++◌, map, reverse, refl, ap, ◌∙◌, arith, inl, inr, Option, Some, None, Vec, Global}
use Rattle.std.proofs.lemmas.List.{reverse-append}
use Rattle.lp_term.specs.Nodes.{Nodes, tree, type_tree}
use Rattle.lp_term.specs.declared.node.TermId.{TermId}
use Rattle.lp_term.specs.declared.node.TypeId.{TypeId}
use Rattle.lp_term.proofs.Trees.{extends_same}
use Rattle.lp_standard.specs.Connectives.{connective_of}
use Rattle.lp_standard.specs.Connectives as connective
use Rattle.lp_model.specs.declared.clause.Goal as code
use Rattle.lp_model.specs.declared.clause.Goal.{Goal}
use Rattle.lp_model.specs.declared.clause.Clause.{Clause}
use Rattle.lp_model.specs.Flat.{Either, Exists, Forall, Goals, no_goals, goals, clause, Clauses, no_clauses, clauses, add_goals, add_clauses, assuming, denied}
use Rattle.lp_model.specs.Flatten.{with_type_vars}
use Rattle.lp_model.specs.Flattened.{goal_of, goals_of, clauses_of}
use Rattle.lp_normal.specs.Counted.{count_in_goal, count_in_goals, count_in_clauses, IsOver}
use Rattle.lp_normal.specs.inner.Met.{opened_met, list_met, assumed_met, clause_list_met, frame_met, frames_met, made_met, flat_count}
use Rattle.lp_normal.specs.Making.{Closes, vars_in, body_in, ComesTo, Flat, AssumedComesTo, ClausesComeTo, PartComesTo, Turns, AllTurn, IsMadeOf}
use Rattle.lp_normal.specs.declared.fault.NormalRefusal.{NormalRefusal}
use Rattle.lp_normal.specs.declared.goals.Opened.{Opened}
use Rattle.lp_normal.specs.declared.goals.GoalList.{GoalList}
use Rattle.lp_normal.specs.declared.clauses.Assumed.{Assumed}
use Rattle.lp_normal.specs.declared.clauses.ClauseList.{ClauseList}
use Rattle.lp_normal.specs.declared.frame.Frame.{Frame}
use Rattle.lp_normal.specs.declared.frame.Made.{Made}
use Rattle.lp_normal.proofs.Inversions.{clauses_by}
use Rattle.lp_normal.proofs.Meanings.{atom_is, cut_is, either_is, some_is, all_is, assume_is, not_is, clause_is}
use Rattle.lp_normal.proofs.Steps.{goals_of_push}
use Rattle.lp_normal.proofs.ClauseSteps.{clauses_of_push}

-- of plain goals and clauses

goals_added : (xs ys : Goals) → count_in_goals (add_goals xs ys) ≡ count_in_goals xs + count_in_goals ys
goals_added no_goals ys = omega arith
goals_added (goals x xs) ys = omega (arith, goals_added xs ys)

clauses_added : (xs ys : Clauses) → count_in_clauses (add_clauses xs ys) ≡ count_in_clauses xs + count_in_clauses ys
clauses_added no_clauses ys = omega arith
clauses_added (clauses (clause n vs h b) xs) ys = omega (arith, clauses_added xs ys)

clauses_typed : (k : ℕ) (cs : Clauses) → count_in_clauses (with_type_vars k cs) ≡ count_in_clauses cs
clauses_typed k no_clauses = refl
clauses_typed k (clauses (clause n vs h b) cs) = omega (arith, clauses_typed k cs)

-- what is put behind a list

module _ (b : Nodes) where
  goals_pushed : (all l : List Goal) (g : Goal) → all ≡ l ++ g ∷ [] → count_in_goals (goals_of b all) ≡ count_in_goals (goals_of b l) + count_in_goal (goal_of b g)
  goals_pushed all l g e =
      let p : count_in_goals (goals_of b all) ≡ count_in_goals (add_goals (goals_of b l) (goals (goal_of b g) no_goals)) = ap
      (λ z. count_in_goals (goals_of b z)) e ∙ ap count_in_goals (goals_of_push b l g) in
      omega (arith, p, goals_added (goals_of b l) (goals (goal_of b g) no_goals))

  clauses_pushed : (all l : List Clause) (c : Clause) → all ≡ l ++ c ∷ [] → count_in_clauses (clauses_of b all) ≡ count_in_clauses (clauses_of b l) + suc (count_in_goals (goals_of b c.body.items))
  clauses_pushed all l c e =
      let d = clause c.type_vars (map (λ T. type_tree b T.0) c.vars.items) (tree b c.head.0) (goals_of b c.body.items) in
      let p : count_in_clauses (clauses_of b all) ≡ count_in_clauses (add_clauses (clauses_of b l) (clauses d no_clauses)) =
      ap (λ z. count_in_clauses (clauses_of b z)) e ∙ ap count_in_clauses (clauses_of_push b l c) ∙ ap (λ z. count_in_clauses (add_clauses (clauses_of b l) (clauses z no_clauses))) (clause_is b c) in
      omega (arith, p, clauses_added (clauses_of b l) (clauses d no_clauses))

  opened_pushed : (all os : List Opened) (o : Opened) → all ≡ os ++ o ∷ [] → opened_met b all ≡ opened_met b os + count_in_goals (goals_of b o.before.items)
  opened_pushed all os o e = ap (opened_met b) e ∙ go os
    where
      go : (xs : List Opened) → opened_met b (xs ++ o ∷ []) ≡ opened_met b xs + count_in_goals (goals_of b o.before.items)
      go [] = omega arith
      go (x ∷ xs) = omega (arith, go xs)

  pub frames_pushed : (all fs : List Frame) (f : Frame) → all ≡ fs ++ f ∷ [] → frames_met b all ≡ frames_met b fs + frame_met b f
  frames_pushed all fs f e = ap (frames_met b) e ∙ go fs
    where
      go : (xs : List Frame) → frames_met b (xs ++ f ∷ []) ≡ frames_met b xs + frame_met b f
      go [] = omega arith
      go (x ∷ xs) = omega (arith, go xs)

  opened_reversed : (os : List Opened) → opened_met b (reverse os) ≡ opened_met b os
  opened_reversed [] = refl
  opened_reversed (o ∷ os) = omega (arith, opened_pushed (reverse (o ∷ os)) (reverse os) o (reverse-append (o ∷ []) os), opened_reversed os)

  frames_reversed : (fs : List Frame) → frames_met b (reverse fs) ≡ frames_met b fs
  frames_reversed [] = refl
  frames_reversed (f ∷ fs) = omega (arith, frames_pushed (reverse (f ∷ fs)) (reverse fs) f (reverse-append (f ∷ []) fs), frames_reversed fs)

  -- goals by their tops

  pub atom_counts : (t : TermId) → count_in_goal (goal_of b (code.Atom t)) ≡ 0
  atom_counts t = ap count_in_goal (atom_is b t)

  pub cut_counts : count_in_goal (goal_of b code.Cut) ≡ 0
  cut_counts = ap count_in_goal (cut_is b)

  pub either_counts : (l r : Vec Goal Global) → count_in_goal (goal_of b (code.Either l r)) ≡ count_in_goals (goals_of b l.items) + count_in_goals (goals_of b r.items)
  either_counts l r = ap count_in_goal (either_is b l r)

  some_counts : (T : TypeId) (l : Vec Goal Global) → count_in_goal (goal_of b (code.Some T l)) ≡ count_in_goals (goals_of b l.items)
  some_counts T l = ap count_in_goal (some_is b T l)

  pub all_counts : (T : TypeId) (l : Vec Goal Global) → count_in_goal (goal_of b (code.All T l)) ≡ count_in_goals (goals_of b l.items)
  all_counts T l = ap count_in_goal (all_is b T l)

  pub assume_counts : (cs : Vec Clause Global) (l : Vec Goal Global) → count_in_goal (goal_of b (code.Assume cs l)) ≡ count_in_clauses (clauses_of b cs.items) + count_in_goals (goals_of b l.items)
  assume_counts cs l = ap count_in_goal (assume_is b cs l)

  pub not_counts : (l : Vec Goal Global) → count_in_goal (goal_of b (code.Not l)) ≡ count_in_goals (goals_of b l.items)
  not_counts l = ap count_in_goal (not_is b l)

  -- lists of goals

  pub new_met : (m : GoalList) → m.opened.items ≡ [] → m.done.items ≡ [] → list_met b m ≡ 0
  new_met m o d = omega (arith, ap (opened_met b) o, ap (λ z. count_in_goals (goals_of b z)) d)

  pub same_met : (m l : GoalList) → m.opened ≡ l.opened → m.done ≡ l.done → list_met b m ≡ list_met b l
  same_met m l o d = omega (arith, ap (λ z. opened_met b z.items) o, ap (λ z. count_in_goals (goals_of b z.items)) d)

  pub with_met : (m l : GoalList) (g : Goal) → m.opened ≡ l.opened → m.done.items ≡ l.done.items ++ g ∷ [] → list_met b m ≡ list_met b l + count_in_goal (goal_of b g)
  with_met m l g o d = omega (arith, ap (λ z. opened_met b z.items) o, goals_pushed m.done.items l.done.items g d)

  pub open_met : (m l : GoalList) (o : Opened) → o.before ≡ l.done → m.opened.items ≡ l.opened.items ++ o ∷ [] → m.done.items ≡ [] → list_met b m ≡ list_met b l
  open_met m l o e p d =
      omega (arith, ap (λ z. count_in_goals (goals_of b z.items)) e, opened_pushed m.opened.items l.opened.items o p, ap (λ z. count_in_goals (goals_of b z)) d)

  -- the innermost sigma is closed
  pub sigma_met : (all os : List Opened) (o : Opened) (now after : Vec Goal Global) → all ≡ os ++ o ∷ [] → after.items ≡ o.before.items ++ code.Some o.bound now ∷ [] →
      opened_met b os + count_in_goals (goals_of b after.items) ≡ opened_met b all + count_in_goals (goals_of b now.items)
  sigma_met all os o now after e f = omega (arith, opened_pushed all os o e, goals_pushed after.items o.before.items (code.Some o.bound now) f, some_counts o.bound now)

  -- lists of clauses

  pub new_clauses_met : (m : ClauseList) (o : Option Assumed) → m.assumed ≡ o → m.done.items ≡ [] → clause_list_met b m ≡ assumed_met b o
  new_clauses_met m o a d = omega (arith, ap (assumed_met b) a, ap (λ z. count_in_clauses (clauses_of b z)) d)

  pub same_clauses_met : (m l : ClauseList) → m.assumed ≡ l.assumed → m.done ≡ l.done → clause_list_met b m ≡ clause_list_met b l
  same_clauses_met m l a d = omega (arith, ap (assumed_met b) a, ap (λ z. count_in_clauses (clauses_of b z.items)) d)

  pub with_clause_met : (m l : ClauseList) (c : Clause) → m.assumed ≡ l.assumed → m.done.items ≡ l.done.items ++ c ∷ [] → clause_list_met b m ≡ suc
      (clause_list_met b l) + count_in_goals (goals_of b c.body.items)
  with_clause_met m l c a d = omega (arith, ap (assumed_met b) a, clauses_pushed m.done.items l.done.items c d)

  -- what all comes to has them all

  closes_count : (os : List Opened) (gs out : Goals) → Closes b os gs out → count_in_goals gs + opened_met b os ≡ count_in_goals out
  closes_count [] gs out e = omega (arith, ap count_in_goals e)
  closes_count (o ∷ os) gs out h =
      let more = goals (Exists (type_tree b o.bound.0) gs) no_goals in
      omega (arith, closes_count os (add_goals h.0 more) out h.2, goals_added h.0 more, ap count_in_goals (h.1 b (extends_same b)))

  comes_count : (l : GoalList) (between out : Goals) → ComesTo b l between out → list_met b l + count_in_goals between ≤ count_in_goals out
  comes_count l between out h =
      omega (
        arith,
        closes_count (reverse l.opened.items) (add_goals h.done (add_goals between h.rest)) out h.closes,
        goals_added h.done (add_goals between h.rest),
        goals_added between h.rest,
        ap count_in_goals (h.reads b (extends_same b)),
        opened_reversed l.opened.items,
      )

  assumed_count : (o : Option Assumed) (cs : Clauses) (out : Flat) → AssumedComesTo b o cs out → count_in_clauses cs + assumed_met b o ≤ flat_count out
  assumed_count None cs out e = omega (arith, ap flat_count e)
  assumed_count (Some a) cs out h = omega (arith, comes_count a.outer (goals (assuming cs h.0) no_goals) h.1 h.3, ap flat_count h.4)

  clauses_count : (l : ClauseList) (between : Clauses) (out : Flat) → ClausesComeTo b l between out → clause_list_met b l + count_in_clauses between ≤ flat_count out
  clauses_count l between out h =
      let rest = with_type_vars l.type_vars h.rest in
      omega (
        arith,
        assumed_count l.assumed (add_clauses h.done (add_clauses between rest)) out h.ends,
        clauses_added h.done
            (add_clauses between rest),
        clauses_added between rest,
        ap count_in_clauses (h.reads b (extends_same b)),
      )

  -- the clause of an atom is one more
  part_count : (l : ClauseList) (t : ℕ) (out : Flat) → connective_of (tree b t) ≡ connective.Atomic → PartComesTo b l t out → suc (clause_list_met b l) ≤ flat_count out
  part_count l t out f h =
      let ls = reverse l.around.items in
      let k = clauses_by (tree b t) connective.Atomic (vars_in b ls) (body_in b ls) h.first f h.clause in
      let both = add_clauses h.first h.rest in
      omega (
        arith,
        assumed_count l.assumed (add_clauses h.done (with_type_vars l.type_vars both)) out h.ends,
        clauses_added h.done (with_type_vars l.type_vars both),
        clauses_typed l.type_vars both,
        clauses_added h.first h.rest,
        ap count_in_clauses k.2,
        ap count_in_clauses (h.reads b (extends_same b)),
      )

  turns_count : (f : Frame) (gs : Goals) (next : Flat) → Turns b f gs next → frame_met b f + count_in_goals gs ≤ flat_count next
  turns_count (Frame.Left o w) gs next h = omega (arith, comes_count o (goals (Either gs h.0) no_goals) h.1 h.3, ap flat_count h.4)
  turns_count (Frame.Right o l) gs next h = omega (arith, comes_count o (goals (Either h.0 gs) no_goals) h.1 h.3, ap flat_count h.4, ap count_in_goals (h.2 b (extends_same b)))
  turns_count (Frame.All o T) gs next h = omega (arith, comes_count o (goals (Forall (type_tree b T.0) gs) no_goals) h.0 h.1, ap flat_count h.2)
  turns_count (Frame.Assume o l) gs next h = omega (arith, comes_count o (goals (assuming h.0 gs) no_goals) h.1 h.3, ap flat_count h.4, ap count_in_clauses (h.2 b (extends_same b)))
  turns_count (Frame.Not o) gs next h = omega (arith, comes_count o (goals (denied gs) no_goals) h.0 h.1, ap flat_count h.2)
  turns_count (Frame.Body o vars head) gs next h = omega (arith, clauses_count o (clauses (clause o.type_vars (map (λ T. type_tree b T.0) vars.items) (tree b head.0) gs) no_clauses) next h)

  all_turn_count : (fs : List Frame) (out whole : Flat) → AllTurn b fs out whole → flat_count out + frames_met b fs ≤ flat_count whole
  all_turn_count [] out whole e = omega (arith, ap flat_count e)
  all_turn_count (f ∷ fs) out whole h = omega (arith, ap flat_count h.2, turns_count f h.0 h.1 h.3, all_turn_count fs h.1 whole h.4)

  -- where an atom is next in clause position, what all comes to has one clause more than were met
  pub head_passes : (l : ClauseList) (t : ℕ) (fs : List Frame) (out whole : Flat) → connective_of (tree b t) ≡ connective.Atomic → PartComesTo b l t
      out → AllTurn b (reverse fs) out whole → suc (clause_list_met b l + frames_met b fs) ≤ flat_count whole
  head_passes l t fs out whole f h u = omega (arith, part_count l t out f h, all_turn_count (reverse fs) out whole u, frames_reversed fs)

  -- what is made has as many as what it comes to
  pub made_count : (made : Made) (whole : Flat) → IsMadeOf b made whole → made_met b made ≡ flat_count whole
  made_count (Made.Goals l) whole h = ap count_in_goals (h.1 b (extends_same b)) ∙ ap flat_count h.2
  made_count (Made.Clauses l) whole h = ap count_in_clauses (h.1 b (extends_same b)) ∙ ap flat_count h.2

-- refusals

pub over_then : {P Q : Type 0} (e : NormalRefusal) → (P → Q) → IsOver P e → IsOver Q e
over_then e f (inl m) = inl m
over_then e f (inr l) = inr (l.0, f l.1)

pub count_falls : (most before after : ℕ) → after ≤ most → ⊥ ⊎ (before < after) → suc most - after < suc most - before
count_falls most before after few (inl e) = absurd e
count_falls most before after few (inr l) = omega (arith, few, l)
