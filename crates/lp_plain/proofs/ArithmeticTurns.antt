-- The turns of `is` and of the orders.
use Rattle.std.proofs.Common.{◌≡◌, ℕ, suc, ◌+◌, ◌-◌, ◌<◌, List, [], ◌∷◌, ◌++◌, length, refl, sym, ap, inl, inr, ◌∙◌, subst, arith, Bool, Option, Some}
use Rattle.lp_base.specs.declared.compare.Compare.{Compare}
use Rattle.lp_base.specs.declared.compare.Compare.TheVariants.{Less, Greater, AtMost, AtLeast}
use Rattle.lp_calculus.specs.Fill.{Within}
use Rattle.lp_calculus.specs.Types.{Ty}
use Rattle.lp_calculus.specs.Term.{Term, atom, constant}
use Rattle.lp_calculus.specs.Spine.{arguments}
use Rattle.lp_standard.specs.Connectives.{connective_of}
use Rattle.lp_standard.specs.Connectives as connective
use Rattle.lp_standard.specs.Constants.{IsOrder}
use Rattle.lp_standard.specs.Numbers as number
use Rattle.lp_term.specs.Nodes.{tree}
use Rattle.lp_term.specs.declared.node.TermId.{TermId}
use Rattle.lp_model.specs.Branch.{Answer, Branch, Go, Task}
use Rattle.lp_model.specs.Eigens.{beta_normal}
use Rattle.lp_model.specs.Flat.{Clause}
use Rattle.lp_model.specs.Look.{head_normal}
use Rattle.lp_model.specs.Pair.{closed}
use Rattle.lp_model.specs.Search.{assigned, compared, look, look_constant, with_goals}
use Rattle.lp_model.specs.Skeleton.{Inner, State, Takes, named, GoalNote}
use Rattle.lp_model.specs.Unify.{unit_limit}
use Rattle.lp_model.specs.Values.{evaluate}
use Rattle.lp_model.specs.declared.ending.Ending.TheVariants.{Deep}
use Rattle.lp_lemmas.specs.Each.{EachOf}
use Rattle.lp_search_laws.specs.Branches.{IsPlainTerm}
use Rattle.lp_pattern.specs.Putting.{Known}
use Rattle.lp_plain.specs.declared.form.Form.TheVariants as form
use Rattle.lp_plain.specs.declared.frame.Place.{Place}
use Rattle.lp_plain.specs.declared.machine.Machine.{Machine}
use Rattle.lp_plain.specs.declared.outcome.Turn.{Turn}
use Rattle.lp_plain.specs.Assigned.{Assigns, Compares}
use Rattle.lp_plain.specs.AtRunTime.{IsAtLooked, IsAtomForm, IsSmallExpression}
use Rattle.lp_plain.specs.Calling.{AreFewAt}
use Rattle.lp_plain.specs.Cuts.{one_step}
use Rattle.lp_plain.specs.Entries.{Around}
use Rattle.lp_plain.specs.Evaluated.{IsEvaluable, IsNoFunction}
use Rattle.lp_plain.specs.Forms.{IsRelation, order_number}
use Rattle.lp_plain.specs.Moving.{IsCounted, IsRunning, KeepsSearch, Leads, Query, Tally, taking}
use Rattle.lp_plain.specs.Reached.{HasSmallFirst, HasSmallGoal, IsSmallAtom, IsSmallGoal}
use Rattle.lp_plain.proofs.ArithmeticMoves.{is_leads, order_leads}
use Rattle.lp_plain.proofs.AtomMoves.{behind, by_seen, f, named_known, named_same, named_view, waits}
use Rattle.lp_plain.proofs.AtomTurns.{left, place_stepped, stepped, steps_are}
use Rattle.lp_plain.proofs.GoingOn.{step_counted}
use Rattle.lp_plain.proofs.TypedGoals.{front_arguments, front_pairs}
use Rattle.lp_plain.proofs.TypedOperands.{front_operands}
use Rattle.lp_plain.specs.TypedStates.{IsTypedOver}

module _ (qv : Query) (m c : Machine) (a : Around) (raw : Branch) (s : State Task) (h : IsRunning qv m a raw s) (p : Place) (u : TermId)
    (o : Option ℕ) (at : IsAtLooked m h.closing a p u o raw) (k : KeepsSearch m c o) (ch : c.choices ≡ m.choices)
    (ct : c.counts ≡ one_step m.counts) (there : m.counts.steps < m.counts.limit) (kept : c.bank ≡ m.bank) (n : Machine) (turn : Turn) where
  abbrev rest : Branch
  rest = with_goals raw at.rest

  abbrev work : Branch
  work = behind qv m a raw s h p u o at

  abbrev x : Term
  x = tree m.bank u.0

  -- the turn, over one program
  abbrev LeadsNext : Tally → List Clause → Type 0
  LeadsNext y P = (k : ℕ) → s.answers ≡ suc k → (go : (Answer → Bool) → State Task → Inner) (enough : ℕ) → AreFewAt turn enough s.stack → IsTypedOver
      qv.arity enough P s → Leads 1 y qv turn n go (look unit_limit enough P) s

  counted : (w : ℕ) (q : Machine) → q.counts ≡ c.counts → (ts : List Task) →
      IsCounted q (record { steps = m.counts.limit - (m.counts.steps + 1); answers = suc w; given = s.given; rows = s.rows; row = s.rows; lost = s.lost; stack = ts ++ h.rest })
  counted w q e ts = step_counted qv m q a raw s h (e ∙ ct) (suc w) (ts ++ h.rest)

  -- a term of the goal, in the bank behind the step
  same_closed : (t : TermId) → closed h.closing (tree m.bank t.0) ≡ closed h.closing (tree c.bank t.0)
  same_closed t = ap (λ b. closed h.closing (tree b t.0)) (sym kept)

  level_is : (f qv m a raw s h p u o at).first.level ≡ p.level
  level_is = (f qv m a raw s h p u o at).entry.place.level

  -- the expressions are small where the goal's are
  small_of : (v : ℕ) (l r : TermId) → ((connective_of x ≡ connective.Atomic) × IsRelation m.bank x v l r) → (enough : ℕ) (P : List Clause) (t : Term)
      → head_normal enough (f qv m a raw s h p u o at).goal ≡ Some t → HasSmallGoal s.stack → (ts : List Ty) ×
      IsSmallAtom (atom (constant v ts)) (closed h.closing (tree m.bank l.0) ∷ closed h.closing (tree m.bank r.0) ∷ [])
  small_of v l r i enough P t q sm =
      let g = named_same qv m a raw s h p u o at enough P t q v l r i.0 i.1 in
      let y = f qv m a raw s h p u o at in
      let here = subst HasSmallFirst y.whole (subst HasSmallGoal h.stack sm) in
      let goal = subst (λ z. IsSmallGoal z y.first.written) y.is here in
      (g.1.0, subst (λ us. IsSmallAtom (atom (constant v g.1.0)) us) g.2 (subst (λ y. IsSmallAtom y (arguments t)) g.1.1 (goal enough t q g.0)))

  -- no abstraction in them has a value, since they are typed
  operands_of : (v : ℕ) (l r : TermId) → ((connective_of x ≡ connective.Atomic) × IsRelation m.bank x v l r) → (enough : ℕ) (P : List Clause) →
      IsTypedOver qv.arity enough P s → (t : Term) → head_normal enough (f qv m a raw s h p u o at).goal ≡ Some t →
      EachOf (λ y. (i : ℕ) (z : Term) → beta_normal i y ≡ Some z → IsNoFunction z) (closed h.closing (tree m.bank l.0) ∷ closed h.closing (tree m.bank r.0) ∷ [])
  operands_of v l r i enough P ty t q =
      let y = f qv m a raw s h p u o at in
      subst (EachOf (λ y. (i : ℕ) (z : Term) → beta_normal i y ≡ Some z → IsNoFunction z)) (named_same qv m a raw s h p u o at enough P t q v l r i.0 i.1).2
      (front_operands qv.arity enough P s ty h.at_work h.rest h.stack y.first y.rest y.whole y.goal t enough y.is q)

  order_is : (o : Compare) → IsOrder (order_number o)
  order_is Less = (omega arith, omega arith)
  order_is Greater = (omega arith, omega arith)
  order_is AtMost = (omega arith, omega arith)
  order_is AtLeast = (omega arith, omega arith)

  order_tasks : (v : Compare) (P : List Clause) (enough height : ℕ) (t l r : Term) → look_constant unit_limit enough P height
      (f qv m a raw s h p u o at).first work t (order_number v) (l ∷ r ∷ []) ≡ compared (order_number v) work (evaluate enough l) (evaluate enough r)
  order_tasks Less P enough height t l r = refl
  order_tasks Greater P enough height t l r = refl
  order_tasks AtMost P enough height t l r = refl
  order_tasks AtLeast P enough height t l r = refl

  pub is_turn : (l r : TermId) → IsAtomForm m.bank x (form.Is l r) → (l.0 < length m.bank.terms) × (r.0 < length m.bank.terms) → Assigns c n l r
      p.level turn → (P : List Clause) → LeadsNext (taking (GoalNote (named number.Is))) P
  is_turn l r i st e P w ea go enough few ty =
      by_seen qv m a raw s h p u o at enough P (Leads 1 (taking (GoalNote (named number.Is))) qv turn n go (look unit_limit enough P) s)
      (waits qv m a raw s h p u o at enough P n w ea go turn (taking (GoalNote (named number.Is)))) (λ t q.
      let v = of i in
      let known = named_known qv m a raw s h p u o at enough P t q number.Is l r v.0 v.1 in
      let y = f qv m a raw s h p u o at in
      let args =
      subst (EachOf (IsPlainTerm h.at_work.next_type)) (named_same qv m a raw s h p u o at enough P t q number.Is l r v.0 v.1).2
      (front_arguments qv.arity enough P s ty h.at_work h.rest h.stack y.first y.rest y.whole y.goal t enough y.is q) in
      let no = operands_of number.Is l r v enough P ty t q in
      let small : turn ≡ Turn.Ended Deep → IsSmallExpression (closed h.closing (tree c.bank r.0)) = λ d. subst IsSmallExpression (same_closed r)
      ((small_of number.Is l r v enough P t q (few d).1).1.0 refl) in
      is_leads qv c a rest work h.rest (stepped qv m c a raw s h p u o at k ch ct there) p (place_stepped qv m c a raw s h p u o at k ch ct there) s w (left qv m c a raw s h p u o at k ch ct there) ea
      (steps_are qv m c a raw s h p u o at k ch ct there) go enough P (named number.Is) (Go h.at_work) h.stack (counted w) n l r turn e
      (λ d. (few d).0) small (subst (IsPlainTerm h.at_work.next_type) (same_closed l) args.0)
      (front_pairs qv.arity enough P s ty h.at_work h.rest h.stack y.first y.rest y.whole)
      (subst (λ b. l.0 < length b.terms) (sym kept) st.0) (subst (λ b. r.0 < length b.terms) (sym kept) st.1)
      (subst (Within (Known h.levels raw.next) 0) (same_closed l) known.0) (subst IsEvaluable (same_closed r) no.1.0)
      (named_view qv m a raw s h p u o at enough P t q number.Is l r v.0 v.1 ∙
      (λ j. Takes (named number.Is) (assigned unit_limit enough (level_is j) (same_closed l j) work (evaluate enough (same_closed r j))))))
    where
      of : IsAtomForm m.bank x (form.Is l r) → (connective_of x ≡ connective.Atomic) × IsRelation m.bank x number.Is l r
      of (inl y) = (y.0, y.1)
      of (inr y) = absurd (let z = y.1 in cc)

  pub order_turn : (v : Compare) (l r : TermId) → IsAtomForm m.bank x (form.Order v l r) → (l.0 < length m.bank.terms) × (r.0 < length m.bank.terms) →
      Compares c n v l r turn → (P : List Clause) → LeadsNext (taking (GoalNote (named (order_number v)))) P
  order_turn v l r i st e P w ea go enough few ty =
      by_seen qv m a raw s h p u o at enough P (Leads 1 (taking (GoalNote (named (order_number v)))) qv turn n go (look unit_limit enough P) s)
      (waits qv m a raw s h p u o at enough P n w ea go turn (taking (GoalNote (named (order_number v))))) (λ t q.
      let y = of i in
      let no = operands_of (order_number v) l r y enough P ty t q in
      let small : turn ≡ Turn.Ended Deep → IsSmallExpression (closed h.closing (tree c.bank l.0)) × IsSmallExpression
      (closed h.closing (tree c.bank r.0)) = λ d. let z = (small_of (order_number v) l r y enough P t q (few d).1).1.1 (order_is v) in
      (subst IsSmallExpression (same_closed l) z.0, subst IsSmallExpression (same_closed r) z.1) in
      order_leads qv c a rest work h.rest (stepped qv m c a raw s h p u o at k ch ct there) p (place_stepped qv m c a raw s h p u o at k ch ct there)
      s w (left qv m c a raw s h p u o at k ch ct there) ea
      (steps_are qv m c a raw s h p u o at k ch ct there) go enough P (named (order_number v)) (Go h.at_work) h.stack (counted w) n v l r turn e (λ d. (few d).0) small
      (subst (λ b. l.0 < length b.terms) (sym kept) st.0) (subst (λ b. r.0 < length b.terms) (sym kept) st.1) (subst IsEvaluable (same_closed l) no.0) (subst IsEvaluable (same_closed r) no.1.0)
      (named_view qv m a raw s h p u o at enough P t q (order_number v) l r y.0 y.1 ∙
      ap (Takes (named (order_number v))) (order_tasks v P enough (length h.rest) t (closed h.closing (tree m.bank l.0)) (closed h.closing (tree m.bank r.0)) ∙
      (λ j. compared (order_number v) work (evaluate enough (same_closed l j)) (evaluate enough (same_closed r j))))))
    where
      of : IsAtomForm m.bank x (form.Order v l r) → (connective_of x ≡ connective.Atomic) × IsRelation m.bank x (order_number v) l r
      of (inl y) = (y.0, y.1)
      of (inr y) = absurd (let z = y.1 in cc)
