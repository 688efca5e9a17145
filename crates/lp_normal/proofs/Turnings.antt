-- What waits for goals takes them, and the next formula or part is taken from a list.
use Rattle.std.proofs.Common.{◌≡◌, ℕ, zero, suc, ◌<◌, ◌-◌, List, [], ◌∷◌, ◌++◌, length, map, reverse, refl, sym, ap, ◌∙◌, subst, arith, Option, Some, None, Vec, Global}
use Rattle.std.specs.Prelude.{All, option_map, option_to_list}
use Rattle.std.proofs.lemmas.List.Elements.{All-nil}
use Rattle.lp_calculus.specs.Term.{Term, shift}
use Rattle.lp_calculus.proofs.Plain.{shift-none}
use Rattle.lp_calculus.specs.Typing.{Scheme}
use Rattle.lp_calculus.specs.Convert.{leftmost_step, steps}
use Rattle.lp_term.specs.Nodes.{Nodes, Extends, tree, type_tree}
use Rattle.lp_term.specs.Frame.{IsBetaForm}
use Rattle.lp_term.specs.declared.node.TermId.{TermId}
use Rattle.lp_term.specs.declared.node.TypeId.{TypeId}
use Rattle.lp_term.proofs.Walks.{All-front}
use Rattle.lp_model.specs.declared.clause.Goal as code
use Rattle.lp_model.specs.declared.clause.Goal.{Goal}
use Rattle.lp_model.specs.declared.clause.Clause.{Clause}
use Rattle.lp_model.specs.Eigens.{beta_normal}
use Rattle.lp_model.specs.Flat.{Either, Forall, Goals, no_goals, clause, Clauses, no_clauses, add_goals, add_clauses, assuming, denied}
use Rattle.lp_model.specs.Flatten.{ClauseFormula, with_type_vars, flat_clause, flat_goal, flatten, flatten_query}
use Rattle.lp_model.specs.Flattened.{goals_of}
use Rattle.lp_normal.specs.Flats.{IsFlatGoal, IsFlatClause}
use Rattle.lp_normal.specs.declared.goals.Waiting.{Waiting}
use Rattle.lp_normal.specs.declared.goals.GoalList.{GoalList}
use Rattle.lp_normal.specs.declared.clauses.Link.{Link}
use Rattle.lp_normal.specs.declared.clauses.Part.{Part}
use Rattle.lp_normal.specs.declared.clauses.Assumed.{Assumed}
use Rattle.lp_normal.specs.declared.clauses.ClauseList.{ClauseList}
use Rattle.lp_normal.specs.declared.frame.Frame.{Frame}
use Rattle.lp_normal.specs.declared.frame.Inner.{Inner}
use Rattle.lp_normal.specs.declared.frame.Made.{Made}
use Rattle.lp_normal.specs.Within.{IsWaitingIn, IsGoalListIn, IsLinkIn, IsPartIn, IsClauseListIn, IsFrameIn}
use Rattle.lp_normal.specs.Making.{Reads, ReadsClauses, Flatten, Closes, ComesTo, NextComesTo, PartsFlatten, Flat, these_goals, these_clauses, AssumedComesTo, ClausesComeTo, PartComesTo, Turns, AllTurn, InnerComesTo, IsMadeOf}
use Rattle.lp_normal.proofs.Bounds.{All-last, All-pushed, reverse_push, grown_frames}
use Rattle.lp_normal.proofs.Deriving.{bind_some, map_some, goal_derived, clause_derived}
use Rattle.lp_normal.proofs.Meanings.{clause_is, either_is, all_is, assume_is, not_is}
use Rattle.lp_normal.proofs.Comings.{types_later}
use Rattle.lp_normal.proofs.Steps.{add_none, add_no_clauses, with_comes, one_comes}
use Rattle.lp_normal.proofs.ClauseSteps.{with_clause_comes, one_part}

-- one frame more
pub frames_push : (b c : Nodes) → Extends b c → (fs gs : List Frame) (f : Frame) → gs ≡ fs ++ f ∷ [] → All (IsFrameIn b) fs → IsFrameIn c f → All (IsFrameIn c) gs
frames_push b c x fs gs f e a i = All-pushed (IsFrameIn c) gs fs f e (grown_frames b c x fs a) i

-- the next formula of a list

abbrev pub with_waiting : GoalList → Vec Waiting Global → GoalList
with_waiting l v = record { opened = l.opened; done = l.done; waiting = v; level = l.level }

module _ (b : Nodes) (l : GoalList) (v : Vec Waiting Global) where
  pub popped_in : (next : Waiting) → l.waiting.items ≡ v.items ++ next ∷ [] → IsGoalListIn b l → IsGoalListIn b (with_waiting l v) × IsWaitingIn b l.level next
  popped_in next e i =
      let k = All-last (IsWaitingIn b l.level) l.waiting.items v.items next e i.waiting in
      (record { opened = i.opened; done = i.done; waiting = k.0 }, k.1)

  pub popped_next : (next : Waiting) (out : Goals) → l.waiting.items ≡ v.items ++ next ∷ [] → ComesTo b l no_goals out → NextComesTo b (with_waiting l v) next out
  popped_next next out e h =
      let k = subst (λ z. Flatten b l.level z h.rest) (reverse_push l.waiting.items v.items next e) h.flatten in
      record { done = h.done; behind = k.0; rest = h.rest; reads = h.reads; flatten = k.1; goal = k.2; closes = h.closes }

  -- none is left
  pub popped_none : (out : Goals) → l.waiting.items ≡ [] → ComesTo b l no_goals out → (gs : Goals) × Reads b l.done.items gs × Closes b (reverse l.opened.items) gs out
  popped_none out e h =
      let k = subst (λ z. Flatten b l.level (reverse z) h.rest) e h.flatten in
      (h.done, h.reads, subst (λ z. Closes b (reverse l.opened.items) z out) (ap (add_goals h.done) k ∙ add_none h.done) h.closes)

  pub emptied_in : IsGoalListIn b l → v.items ≡ [] → IsGoalListIn b (with_waiting l v)
  emptied_in i e = record { opened = i.opened; done = i.done; waiting = subst (All (IsWaitingIn b l.level)) (sym e) (All-nil (IsWaitingIn b l.level)) }

-- the outermost list is made
pub goals_made : (b : Nodes) (fs : List Frame) (v : Vec Goal Global) (gs : Goals) (whole : Flat) → fs ≡ [] → Reads b v.items gs → AllTurn b (reverse fs) (these_goals gs) whole → IsMadeOf b (Made.Goals v) whole
goals_made b fs v gs whole e r t = (gs, r, subst (λ z. AllTurn b (reverse z) (these_goals gs) whole) e t)

pub clauses_made : (b : Nodes) (fs : List Frame) (v : Vec Clause Global) (cs : Clauses) (whole : Flat) → ReadsClauses b v.items cs → AllTurn b (reverse fs) (these_clauses cs) whole → IsMadeOf b (Made.Clauses v) whole
clauses_made b fs v cs whole r t = go (reverse fs) t
  where
    go : (gs : List Frame) → AllTurn b gs (these_clauses cs) whole → IsMadeOf b (Made.Clauses v) whole
    go [] u = (cs, r, u)
    go (f ∷ gs) u = let z : these_clauses cs ≡ these_goals u.0 = u.2 in absurd (cc)

-- the innermost frame takes the goals
pub frame_popped : (b : Nodes) (all fs : List Frame) (f : Frame) (gs : Goals) (whole : Flat) → all ≡ fs ++ f ∷ [] → AllTurn b (reverse all) (these_goals gs) whole → (next : Flat) × Turns b f gs next × AllTurn b (reverse fs) next whole
frame_popped b all fs f gs whole e t =
    let u = subst (λ z. AllTurn b z (these_goals gs) whole) (reverse_push all fs f e) t in
    let q : these_goals gs ≡ these_goals u.0 = u.2 in
    let r : gs ≡ u.0 = cc in
    (u.1, subst (λ z. Turns b f z u.1) (sym r) u.3, u.4)

module _ (b : Nodes) (fs gs : List Frame) (now : List Goal) (hs : Goals) (next whole : Flat) (r : Reads b now hs) (t : AllTurn b (reverse fs) next whole) where
  -- the list goes on with one goal more
  goes_on : (o m : GoalList) (out : Goals) → gs ≡ fs → ComesTo b m no_goals out → these_goals out ≡ next → InnerComesTo b (Inner.Goals m) gs whole
  goes_on o m out e h q = (out, h, subst (λ z. AllTurn b (reverse z) (these_goals out) whole) (sym e) (subst (λ z. AllTurn b (reverse fs) z whole) (sym q) t))

  pub left_turns : (o m : GoalList) (right : Waiting) (v : Vec Goal Global) → v.items ≡ now → gs ≡ fs ++ Frame.Right o v ∷ [] → m.opened.items ≡ [] → m.done.items ≡ [] → m.waiting.items ≡ right ∷ [] → m.level ≡ o.level → Turns b (Frame.Left o right) hs next → InnerComesTo b (Inner.Goals m) gs whole
  left_turns o m right v q e mo d w n h = (
    h.0,
    one_comes b m right o.level h.0 mo d w n h.2,
    subst (λ z. AllTurn b z (these_goals h.0) whole) (sym (reverse_push gs fs (Frame.Right o v) e)) (h.0, next, refl, (hs, h.1, subst (λ z. Reads b z hs) (sym q) r, h.3, h.4), t),
  )

  pub right_turns : (o m : GoalList) (left v : Vec Goal Global) → v.items ≡ now → gs ≡ fs → m.opened ≡ o.opened → m.done.items ≡ o.done.items ++ code.Either left v ∷ [] → m.waiting ≡ o.waiting → m.level ≡ o.level → Turns b (Frame.Right o left) hs next → InnerComesTo b (Inner.Goals m) gs whole
  right_turns o m left v q e mo d w n h =
      goes_on o m h.1 e (with_comes b o m (code.Either left v) (Either h.0 hs) h.1 mo d w n
      (λ later x. either_is later left v ∙ ap (λ z. Either z (goals_of later v.items)) (h.2 later x) ∙ ap (Either h.0) (ap (goals_of later) q ∙ r later x)) h.3) h.4

  pub all_turns : (o m : GoalList) (T : TypeId) (v : Vec Goal Global) → v.items ≡ now → gs ≡ fs → T.0 < length b.types → m.opened ≡ o.opened →
      m.done.items ≡ o.done.items ++ code.All T v ∷ [] → m.waiting ≡ o.waiting → m.level ≡ o.level → Turns b (Frame.All o T) hs next → InnerComesTo b
      (Inner.Goals m) gs whole
  all_turns o m T v q e i mo d w n h =
      goes_on o m h.0 e (with_comes b o m (code.All T v) (Forall (type_tree b T.0) hs) h.0 mo d w n
      (λ later x. all_is later T v ∙ ap (λ z. Forall z (goals_of later v.items)) (x.same_types T.0 i) ∙ ap (Forall (type_tree b T.0)) (ap (goals_of later) q ∙ r later x)) h.1) h.2

  pub assume_turns : (o m : GoalList) (l : Vec Clause Global) (v : Vec Goal Global) → v.items ≡ now → gs ≡ fs → m.opened ≡ o.opened → m.done.items ≡
      o.done.items ++ code.Assume l v ∷ [] → m.waiting ≡ o.waiting → m.level ≡ o.level → Turns b (Frame.Assume o l) hs next → InnerComesTo b
      (Inner.Goals m) gs whole
  assume_turns o m l v q e mo d w n h =
      goes_on o m h.1 e (with_comes b o m (code.Assume l v) (assuming h.0 hs) h.1 mo d w n
      (λ later x. assume_is later l v ∙ ap (λ z. assuming z (goals_of later v.items)) (h.2 later x) ∙ ap (assuming h.0) (ap (goals_of later) q ∙ r later x)) h.3) h.4

  pub not_turns : (o m : GoalList) (v : Vec Goal Global) → v.items ≡ now → gs ≡ fs → m.opened ≡ o.opened → m.done.items ≡ o.done.items ++ code.Not v ∷ [] → m.waiting ≡ o.waiting → m.level ≡ o.level → Turns b (Frame.Not o) hs next → InnerComesTo b (Inner.Goals m) gs whole
  not_turns o m v q e mo d w n h =
      goes_on o m h.0 e (with_comes b o m (code.Not v) (denied hs) h.0 mo d w n (λ later x. not_is later v ∙ ap denied (ap (goals_of later) q ∙ r later x)) h.1) h.2

  types_in_later : (later : Nodes) → Extends b later → (ts : List TypeId) → All (λ T. T.0 < length b.types) ts → map (λ T. type_tree later T.0) ts ≡ map (λ T. type_tree b T.0) ts
  types_in_later later x ts a = types_later b later x ts a

  pub body_turns : (o m : ClauseList) (vars : Vec TypeId Global) (head : TermId) (v : Vec Goal Global) (c : Clause) → c ≡ record { type_vars = o.type_vars; vars = vars; head = head; body = v } → v.items ≡ now → gs ≡ fs →
      All (λ T. T.0 < length b.types) vars.items → head.0 < length b.terms → m.type_vars ≡ o.type_vars → m.assumed ≡ o.assumed → m.done.items ≡ o.done.items ++ c ∷ [] → m.waiting ≡ o.waiting → m.around ≡ o.around → Turns b (Frame.Body o vars head) hs next → InnerComesTo b (Inner.Clauses m) gs whole
  body_turns o m vars head v c is q e a i y s d w k h = (
    next,
    with_clause_comes b o m c (clause o.type_vars (map (λ T. type_tree b T.0) vars.items) (tree b head.0) hs) next y s d w k
        (λ later x. clause_is later c ∙ ap (λ z. clause z.type_vars (map (λ T. type_tree later T.0) z.vars.items) (tree later z.head.0) (goals_of later z.body.items)) is ∙
        ap (λ z. clause o.type_vars z (tree later head.0) (goals_of later v.items)) (types_in_later later x vars.items a) ∙
        ap (λ z. clause o.type_vars (map (λ T. type_tree b T.0) vars.items) z (goals_of later v.items)) (x.same_terms head.0 i) ∙
        ap (clause o.type_vars (map (λ T. type_tree b T.0) vars.items) (tree b head.0)) (ap (goals_of later) q ∙ r later x)) h,
    subst (λ z. AllTurn b (reverse z) next whole) (sym e) t,
  )

-- the next part of a clause formula

abbrev pub with_parts : ClauseList → Vec Part Global → ClauseList
with_parts l v = record { type_vars = l.type_vars; assumed = l.assumed; done = l.done; waiting = v; around = l.around }

abbrev pub with_links : ClauseList → Vec Part Global → Vec Link Global → ClauseList
with_links l v w = record { type_vars = l.type_vars; assumed = l.assumed; done = l.done; waiting = v; around = w }

module _ (b : Nodes) (l : ClauseList) (v : Vec Part Global) where
  pub part_popped_in : (p : Part) → l.waiting.items ≡ v.items ++ p ∷ [] → IsClauseListIn b l → IsClauseListIn b (with_parts l v) × IsPartIn b p
  part_popped_in p e i =
      let k = All-last (IsPartIn b) l.waiting.items v.items p e i.waiting in
      (record { assumed = i.assumed; done = i.done; waiting = k.0; around = i.around }, k.1)

  pub part_popped : (t : TermId) (out : Flat) → l.waiting.items ≡ v.items ++ Part.Visit t ∷ [] → ClausesComeTo b l no_clauses out → PartComesTo b (with_parts l v) t.0 out
  part_popped t out e h =
      let ls = reverse l.around.items in
      let k = subst (λ z. PartsFlatten b z ls h.rest) (reverse_push l.waiting.items v.items (Part.Visit t) e) h.flatten in
      record {
        done = h.done;
        first = k.0;
        rest = k.1;
        reads = h.reads;
        clause = k.2;
        flatten = k.3;
        ends = subst (λ z. AssumedComesTo b l.assumed (add_clauses h.done (with_type_vars l.type_vars z)) out) k.4 h.ends;
      }

  pub left_in : (w : Vec Link Global) (xs : List Link) → l.around.items ≡ w.items ++ xs → l.waiting.items ≡ v.items ++ Part.Leave ∷ [] → IsClauseListIn b l → IsClauseListIn b (with_links l v w)
  left_in w xs f e i =
      let k = All-last (IsPartIn b) l.waiting.items v.items Part.Leave e i.waiting in
      record { assumed = i.assumed; done = i.done; waiting = k.0; around = All-front (IsLinkIn b) w.items xs (subst (All (IsLinkIn b)) f i.around) }

  -- the innermost link is left
  left_flatten : (ps : List Part) (ls : List Link) (cs : Clauses) → PartsFlatten b (Part.Leave ∷ ps) ls cs → (k : Link) (ms : List Link) → ls ≡ k ∷ ms → PartsFlatten b ps ms cs
  left_flatten ps [] cs p k ms e = absurd (cc)
  left_flatten ps (j ∷ ls) cs p k ms e = let q : ls ≡ ms = cc in subst (λ z. PartsFlatten b ps z cs) q p

  left_none : (ps : List Part) (ls : List Link) (cs : Clauses) → PartsFlatten b (Part.Leave ∷ ps) ls cs → ls ≡ [] → PartsFlatten b ps [] cs
  left_none ps [] cs p e = p
  left_none ps (j ∷ ls) cs p e = absurd (cc)

  pub left_comes : (w : Vec Link Global) (o : Option Link) (out : Flat) → l.around.items ≡ w.items ++ option_to_list o → (o ≡ None → l.around.items ≡ []) → l.waiting.items ≡ v.items ++ Part.Leave ∷ [] → ClausesComeTo b l no_clauses out → ClausesComeTo b (with_links l v w) no_clauses out
  left_comes w o out f g e h = record {
    done = h.done;
    rest = h.rest;
    reads = h.reads;
    flatten = go o f g;
    ends = h.ends;
  }
    where
      k : PartsFlatten b (Part.Leave ∷ reverse v.items) (reverse l.around.items) h.rest
      k = subst (λ z. PartsFlatten b z (reverse l.around.items) h.rest) (reverse_push l.waiting.items v.items Part.Leave e) h.flatten

      go : (x : Option Link) → l.around.items ≡ w.items ++ option_to_list x → (x ≡ None → l.around.items ≡ []) → PartsFlatten b (reverse v.items) (reverse w.items) h.rest
      go (Some j) a n = left_flatten (reverse v.items) (reverse l.around.items) h.rest k j (reverse w.items) (reverse_push l.around.items w.items j a)
      go None a n =
          let z : l.around.items ≡ w.items = a ∙ nil w.items in
          let y : reverse w.items ≡ [] = ap reverse (sym z ∙ n refl) in
          subst (λ q. PartsFlatten b (reverse v.items) q h.rest) (sym y) (left_none (reverse v.items) (reverse l.around.items) h.rest k (ap reverse (n refl)))
        where
          nil : (xs : List Link) → xs ++ [] ≡ xs
          nil [] = refl
          nil (x ∷ xs) = ap (λ m. x ∷ m) (nil xs)

-- the clauses are all made
pub ends_made : (b : Nodes) (l : ClauseList) (out : Flat) → l.waiting.items ≡ [] → ClausesComeTo b l no_clauses out → (cs : Clauses) × ReadsClauses b l.done.items cs × AssumedComesTo b l.assumed cs out
ends_made b l out e h =
    let k = subst (λ z. PartsFlatten b (reverse z) (reverse l.around.items) h.rest) e h.flatten in
    (h.done, h.reads, subst (λ z. AssumedComesTo b l.assumed z out) (ap (λ z. add_clauses h.done (with_type_vars l.type_vars z)) k ∙ add_no_clauses h.done) h.ends)

pub assumed_made : (b : Nodes) (a : Assumed) (cs : Clauses) (l : Vec Clause Global) (m : GoalList) (fs gs : List Frame) (out whole : Flat) → ReadsClauses b l.items cs → AssumedComesTo b (Some a) cs out →
    m.opened.items ≡ [] → m.done.items ≡ [] → m.waiting.items ≡ a.goal ∷ [] → m.level ≡ a.outer.level → gs ≡ fs ++ Frame.Assume a.outer l ∷ [] → AllTurn b (reverse fs) out whole → InnerComesTo b (Inner.Goals m) gs whole
assumed_made b a cs l m fs gs out whole r h o d w n e t = (
  h.0,
  one_comes b m a.goal a.outer.level h.0 o d w n h.2,
  subst (λ z. AllTurn b z (these_goals h.0) whole) (sym (reverse_push gs fs (Frame.Assume a.outer l) e)) (h.0, out, refl, (cs, h.1, r, h.3, h.4), t),
)

-- the whole, by the definition

-- the beta-normal form that the definition takes is the one that the code comes to
same_form : (n m : ℕ) (t s u : Term) → beta_normal n t ≡ Some s → steps leftmost_step m t ≡ Some u → leftmost_step u ≡ None → s ≡ u
same_form zero m t s u e f g = absurd (cc)
same_form (suc n) zero t s u e f g = go (leftmost_step t) refl e
  where
    q : t ≡ u
    q = cc

    go : (o : Option Term) → leftmost_step t ≡ o → elim o [ None ↦ Some t | Some x ↦ beta_normal n x ] ≡ Some s → s ≡ u
    go None k i = let z : t ≡ s = cc in sym z ∙ q
    go (Some x) k i = let z : ◌≡◌ {A = Option Term} (Some x) None = sym k ∙ ap leftmost_step q ∙ g in absurd (cc)
same_form (suc n) (suc m) t s u e f g = go (leftmost_step t) e f (λ x i j. same_form n m x s u i j g)
  where
    go : (o : Option Term) → elim o [ None ↦ Some t | Some x ↦ beta_normal n x ] ≡ Some s → elim o [ None ↦ None | Some x ↦ steps leftmost_step m x ] ≡ Some u → ((x : Term) → beta_normal n x ≡ Some s → steps leftmost_step m x ≡ Some u → s ≡ u) → s ≡ u
    go None i j h = absurd (cc)
    go (Some x) i j h = h x i j

module _ (limit : ℕ) (d : ℕ → Option Scheme) where
  pub flatten_comes : (b : Nodes) (n : ℕ) (c : ClauseFormula) (cs : Clauses) (id : TermId) (l : ClauseList) → IsBetaForm limit c.formula (tree b id.0) → flatten n d c ≡ Some cs →
      l.type_vars ≡ c.type_vars → l.assumed ≡ None → l.done.items ≡ [] → l.waiting.items ≡ Part.Visit id ∷ [] → l.around.items ≡ [] → InnerComesTo b (Inner.Clauses l) [] (these_clauses cs)
  flatten_comes b n c cs id l f e y a o w r =
      let q = bind_some (beta_normal n c.formula) (λ t. option_map (with_type_vars c.type_vars) (flat_clause n d [] t [] [])) cs e in
      let z = map_some (flat_clause n d [] q.0 [] []) (with_type_vars c.type_vars) cs q.2 in
      let s : q.0 ≡ tree b id.0 = same_form n f.0 c.formula q.0 (tree b id.0) q.1 f.2.0 f.2.1 in (
        these_clauses cs,
        one_part b l id c.type_vars z.0 (these_clauses cs) y a o w r (subst (λ t. IsFlatClause t [] [] z.0) s (clause_derived d n [] q.0 [] [] z.0 z.1)) (ap these_clauses (ap (with_type_vars c.type_vars) (add_no_clauses z.0) ∙ z.2)),
        refl,
      )

  pub query_comes : (b : Nodes) (n : ℕ) (t : Term) (gs : Goals) (w : Waiting) (l : GoalList) → w.level ≡ 0 → IsBetaForm limit t (tree b w.formula.0) → flatten_query n d t ≡ Some gs →
      l.opened.items ≡ [] → l.done.items ≡ [] → l.waiting.items ≡ w ∷ [] → l.level ≡ 0 → InnerComesTo b (Inner.Goals l) [] (these_goals gs)
  query_comes b n t gs w l v f e o k x y =
      let q = bind_some (beta_normal n t) (λ s. flat_goal n d [] s no_goals) gs e in
      let s : q.0 ≡ tree b w.formula.0 = same_form n f.0 t q.0 (tree b w.formula.0) q.1 f.2.0 f.2.1 in
      let z0 : ◌≡◌ {A = ℕ} (0 - w.level) 0 = omega (arith, v) in
      (gs, one_comes b l w 0 gs o k x y (subst (λ u. IsFlatGoal u no_goals gs) (sym (ap (λ j. shift 0 j (tree b w.formula.0)) z0 ∙ shift-none (tree b w.formula.0) ∙ sym s)) (goal_derived d n [] q.0 no_goals gs q.2)), refl)
