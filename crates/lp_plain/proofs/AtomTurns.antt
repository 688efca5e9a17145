-- The turns of an equality, and of goals that no clause meets, once they took their step.
use Rattle.std.proofs.Common.{◌≡◌, ℕ, suc, ◌+◌, ◌-◌, ◌<◌, ◌≤◌, List, [], ◌∷◌, ◌++◌, length, refl, sym, ap, inl, inr, ◌∙◌, subst, arith, Bool, Option, Some}
use Rattle.lp_calculus.specs.Fill.{Within}
use Rattle.lp_calculus.specs.Types.{var}
use Rattle.lp_calculus.specs.Term.{Term, atom, logic}
use Rattle.lp_calculus.specs.Spine.{head_of}
use Rattle.lp_lemmas.specs.Each.{EachOf}
use Rattle.lp_standard.specs.Connectives.{connective_of}
use Rattle.lp_standard.specs.Connectives as connective
use Rattle.lp_standard.specs.Numbers as number
use Rattle.lp_term.specs.Nodes.{tree}
use Rattle.lp_term.specs.declared.node.TermId.{TermId}
use Rattle.lp_term.proofs.Trees.{extends_same}
use Rattle.lp_model.specs.Branch.{Answer, Branch, Go, Stop, Task}
use Rattle.lp_model.specs.Flat.{Clause}
use Rattle.lp_model.specs.Pair.{Closing, closed}
use Rattle.lp_model.specs.Search.{equated, look, with_goals}
use Rattle.lp_model.specs.Skeleton.{GoalName, GoalNote, Inner, State, Takes, named, variable}
use Rattle.lp_model.specs.Types.{put_types}
use Rattle.lp_model.specs.Unify.{Solution, State as Solved, Unified as Outcome, solve, unit_limit}
use Rattle.lp_model.specs.declared.ending.Ending.TheVariants.{Flexible}
use Rattle.lp_search_laws.specs.Branches.{IsPlainPair, IsPlainTerm}
use Rattle.lp_pattern.specs.Putting.{Known}
use Rattle.lp_pattern.specs.Turning.{AreKnownPairs}
use Rattle.lp_pattern.proofs.Keeps.{grows_same}
use Rattle.lp_plain.specs.declared.form.Form.TheVariants as form
use Rattle.lp_plain.specs.declared.frame.Place.{Place}
use Rattle.lp_plain.specs.declared.machine.Machine.{Machine}
use Rattle.lp_plain.specs.declared.outcome.Turn.{Turn}
use Rattle.lp_plain.specs.declared.unified.Unified.{Unified}
use Rattle.lp_plain.specs.Assuming.{IsPlaceAt, lists_of}
use Rattle.lp_plain.specs.AtRunTime.{IsAtLooked, IsAtomForm}
use Rattle.lp_plain.specs.Cuts.{one_step}
use Rattle.lp_plain.specs.Entries.{Around}
use Rattle.lp_plain.specs.Forms.{IsRelation}
use Rattle.lp_plain.specs.Moving.{AreFew, IsCounted, IsGoingOn, IsRunning, KeepsSearch, Leads, LeadsTo, Query, taking, turn_for}
use Rattle.lp_plain.specs.Unifying.{IsBoundIn, IsEquatedAs, IsUnifiedAs, StandPairs}
use Rattle.lp_plain.proofs.Assumed.{lists_noted}
use Rattle.lp_plain.proofs.AtomMoves.{behind, by_seen, f, flexible_view, named_known, named_same, named_view, other_view, waits}
use Rattle.lp_plain.proofs.EqualMoves.{none_left, unified_leads}
use Rattle.lp_plain.proofs.GoingOn.{going_on, step_counted}
use Rattle.lp_plain.proofs.TaskMoves.{stops}
use Rattle.lp_plain.proofs.TypedGoals.{front_arguments, front_pairs}
use Rattle.lp_plain.proofs.TypedTries.{free_behind, plain_bound}

-- nothing is bound
pub bound_same : (m : Machine) → IsBoundIn m m
bound_same m = record {
  bank = extends_same m.bank;
  bindings = grows_same m.bindings;
  more = omega arith;
  table = refl;
  index = refl;
  scopes = refl;
  frames = refl;
  assumptions = refl;
  newest = refl;
  standings = refl;
  choices = refl;
  denied = refl;
  counts = refl;
  goals = refl;
  next_type = refl;
}

-- two terms are made one
module _ (qv : Query) (c n : Machine) (a : Around) (rest work : Branch) (below : List Task) (g : IsGoingOn qv c a rest work below) (p : Place)
    (pl : IsPlaceAt (lists_of c) a p) (b : IsBoundIn c n) (residual : StandPairs c → StandPairs n)
    (l r : TermId) (same : Unified) (x y : Term) (left_is : x ≡ closed g.closing (tree c.bank l.0))
    (right_is : y ≡ closed g.closing (tree c.bank r.0)) (left_known : Within (Known g.levels rest.next) 0 x)
    (right_known : Within (Known g.levels rest.next) 0 y) (e : IsEquatedAs c n l r p.level same) where
  solved_as : (enough : ℕ) (o : Outcome) → solve enough unit_limit [] (record { left = x; right = y; level = p.level } ∷ []) work.pairs work.next ≡
      Some o → IsUnifiedAs same g.levels c.branch.next g.closing n enough o
  solved_as enough o q =
      e g.closing g.reading g.levels work.pairs x y left_is right_is (subst (λ i. Within (Known g.levels i) 0 x) (sym g.next) left_known)
      (subst (λ i. Within (Known g.levels i) 0 y) (sym g.next) right_known) g.under.pairs
      (subst (λ i. AreKnownPairs g.levels i work.pairs) (sym g.next) g.under.known.pairs) enough o
      (subst (λ i. solve enough unit_limit [] (record { left = x; right = y; level = p.level } ∷ []) work.pairs i ≡ Some o) (g.under.next ∙ sym g.next) q)

  -- a solution of plain terms binds no type variable that is still to come
  stays : (enough : ℕ) → IsPlainTerm work.next_type x → IsPlainTerm work.next_type y → EachOf (IsPlainPair work.next_type) work.pairs → (st : Solved) →
      solve enough unit_limit [] (record { left = x; right = y; level = p.level } ∷ []) work.pairs work.next ≡ Some (Solution st) →
      (cl : Closing) → ((i : ℕ) → cl.types i ≡ put_types st.types (g.closing.types i)) → (i : ℕ) → n.branch.next_type ≤ i → cl.types i ≡ var i
  stays enough px py pp st q cl ct i l =
      let d = g.under.next_type in
      let k = g.next_type in
      let j = b.next_type in
      free_behind work.next_type st g.closing cl (plain_bound enough work.next_type work.next (record { left = x; right = y; level = p.level } ∷ [])
      work.pairs st (record { left = px; right = py }, tt) pp q) ct
      (λ v w. g.under.known.free v (omega (arith, d, w))) i (omega (arith, d, k, j, l))

  pub equate_leads : (s : State Task) (w j : ℕ) (ea : s.answers ≡ suc w) → s.steps ≡ suc j → (go : (Answer → Bool) → State Task → Inner) (enough : ℕ)
      → AreFew (turn_for same) enough → IsPlainTerm work.next_type x → IsPlainTerm work.next_type y → EachOf (IsPlainPair work.next_type) work.pairs →
      (P : List Clause) (name : GoalName) (task : Task) (tasks : List Task) →
      s.stack ≡ task ∷ below → look unit_limit enough P (length below) task ≡ Takes name tasks → tasks ≡ equated unit_limit enough p.level x y work →
      ((ts : List Task) → IsCounted n (record {
        steps = j;
        answers = suc w;
        given = s.given;
        rows = s.rows;
        row = s.rows;
        lost = s.lost;
        stack = ts ++
            below;
      })) → Leads 1 (taking (GoalNote name)) qv (turn_for same) n go (look unit_limit enough P) s
  equate_leads s w j ea es go enough few px py pp P name task tasks stack seen is counted =
      unified_leads qv c n a rest work below g p pl b residual s w j ea es go enough P name task tasks stack seen counted same few
      (solve enough unit_limit [] (record { left = x; right = y; level = p.level } ∷ []) work.pairs work.next) is (solved_as enough) (stays enough px py pp)

module _ (qv : Query) (m c : Machine) (a : Around) (raw : Branch) (s : State Task) (h : IsRunning qv m a raw s) (p : Place) (u : TermId)
    (o : Option ℕ) (at : IsAtLooked m h.closing a p u o raw) (k : KeepsSearch m c o) (ch : c.choices ≡ m.choices)
    (ct : c.counts ≡ one_step m.counts) (there : m.counts.steps < m.counts.limit) where
  abbrev rest : Branch
  rest = with_goals raw at.rest

  abbrev work : Branch
  work = behind qv m a raw s h p u o at

  -- the search behind the step
  abbrev pub stepped : IsGoingOn qv c a (with_goals raw at.rest) (behind qv m a raw s h p u o at) h.rest
  stepped = going_on qv m c a raw s h p at.value at.rest (f qv m a raw s h p u o at) o at.reads k ch

  pub place_stepped : IsPlaceAt (lists_of c) a p
  place_stepped = subst (λ z. IsPlaceAt z a p) (lists_noted m c k.goals k.assumed) at.place

  abbrev pub left : ℕ
  left = m.counts.limit - (m.counts.steps + 1)

  pub steps_are : s.steps ≡ suc left
  steps_are = let q = h.counted.steps in let l = there in omega (arith, q, l)

  module _ (n : Machine) (b : IsBoundIn c n) (residual : StandPairs c → StandPairs n) where
    pub counted_after : (w : ℕ) (stack : List Task) → IsCounted n (record { steps = left; answers = w; given = s.given; rows = s.rows; row = s.rows; lost = s.lost; stack = stack })
    counted_after w stack = step_counted qv m n a raw s h (b.counts ∙ ct) w stack

    -- what no clause meets
    pub flexible_leads : IsAtomForm m.bank (tree m.bank u.0) form.Flexible → LeadsTo 1 (taking (GoalNote variable)) qv (Turn.Ended Flexible) n s
    flexible_leads i w ea go enough few P ty =
        by_seen qv m a raw s h p u o at enough P (Leads 1 (taking (GoalNote variable)) qv (Turn.Ended Flexible) n go (look unit_limit enough P) s)
        (waits qv m a raw s h p u o at enough P n w ea go (Turn.Ended Flexible) (taking (GoalNote variable))) (λ t q.
        let v = variable_of i in
        stops qv n h.rest s w left ea steps_are go enough P variable (Go h.at_work) (Stop Flexible ∷ []) h.stack
        (flexible_view qv m a raw s h p u o at enough P t q v.1.0 v.1.1 v.0 v.1.2) Flexible refl)
      where
        variable_of : IsAtomForm m.bank (tree m.bank u.0) form.Flexible → (connective_of (tree m.bank u.0) ≡ connective.Atomic) × ((j : ℕ) × (l : ℕ) × (head_of (tree m.bank u.0) ≡ atom (logic j l)))
        variable_of (inl e) = (e.0, e.1)
        variable_of (inr e) = absurd (let z = e.1 in cc)

    pub other_leads : IsAtomForm m.bank (tree m.bank u.0) form.Other → LeadsTo 1 (taking (GoalNote variable)) qv Turn.Back n s
    other_leads i w ea go enough few P ty =
        by_seen qv m a raw s h p u o at enough P (Leads 1 (taking (GoalNote variable)) qv Turn.Back n go (look unit_limit enough P) s)
        (waits qv m a raw s h p u o at enough P n w ea go Turn.Back (taking (GoalNote variable))) (λ t q.
        none_left qv c n a rest work h.rest stepped p place_stepped b residual s w left ea steps_are go enough P variable (Go h.at_work) [] h.stack
        (other_view qv m a raw s h p u o at enough P t q i) (λ ts. counted_after (suc w) (ts ++ h.rest)) refl)

    pub equal_leads : (l r : TermId) (same : Unified) → IsAtomForm m.bank (tree m.bank u.0) (form.Equal l r) → c.bank ≡ m.bank → IsEquatedAs c n l r
        p.level same → LeadsTo 1 (taking (GoalNote (named number.Equal))) qv (turn_for same) n s
    equal_leads l r same i kept e w ea go enough few P ty =
        by_seen qv m a raw s h p u o at enough P (Leads 1 (taking (GoalNote (named number.Equal))) qv (turn_for same) n go (look unit_limit enough P)
        s) (waits qv m a raw s h p u o at enough P n w ea go (turn_for same) (taking (GoalNote (named number.Equal)))) (λ t q.
        let v = relation_of i in
        let known = named_known qv m a raw s h p u o at enough P t q number.Equal l r v.0 v.1 in
        let y = f qv m a raw s h p u o at in
        let args =
        subst (EachOf (IsPlainTerm h.at_work.next_type)) (named_same qv m a raw s h p u o at enough P t q number.Equal l r v.0 v.1).2
        (front_arguments qv.arity enough P s ty h.at_work h.rest h.stack y.first y.rest y.whole y.goal t enough y.is q) in
        equate_leads qv c n a rest work h.rest stepped p place_stepped b residual l r same (closed h.closing (tree m.bank l.0)) (closed h.closing (tree m.bank r.0))
        (ap (λ z. closed h.closing (tree z l.0)) (sym kept)) (ap (λ z. closed h.closing (tree z r.0)) (sym kept)) known.0 known.1 e s w left ea
        steps_are go enough few args.0 args.1.0 (front_pairs qv.arity enough P s ty h.at_work h.rest h.stack y.first y.rest y.whole) P
        (named number.Equal) (Go h.at_work) _ h.stack
        (named_view qv m a raw s h p u o at enough P t q number.Equal l r v.0 v.1) (ap
        (λ i. equated unit_limit enough i (closed h.closing (tree m.bank l.0)) (closed h.closing (tree m.bank r.0)) work) (level_is))
        (λ ts. counted_after (suc w) (ts ++ h.rest)))
      where
        relation_of : IsAtomForm m.bank (tree m.bank u.0) (form.Equal l r) → (connective_of (tree m.bank u.0) ≡ connective.Atomic) × IsRelation m.bank (tree m.bank u.0) number.Equal l r
        relation_of (inl k) = (k.0, k.1)
        relation_of (inr k) = absurd (let z = k.1 in cc)

        level_is : (f qv m a raw s h p u o at).first.level ≡ p.level
        level_is = (f qv m a raw s h p u o at).entry.place.level
