-- `is` and the orders, once they took their step, as moves of the definition.
use Rattle.std.proofs.Common.{◌≡◌, ℕ, suc, ◌<◌, ◌≤◌, List, [], ◌∷◌, ◌++◌, length, refl, sym, ap, ◌∙◌, subst, arith, Bool, true, false, if◌then◌else◌, Option, None, Some}
use Rattle.std.specs.Prelude.{ℤ, Result, option_map}
use Rattle.lp_base.specs.declared.compare.Compare.{Compare}
use Rattle.lp_calculus.specs.Fill.{Within}
use Rattle.lp_calculus.specs.Normal.{eta_normal}
use Rattle.lp_calculus.specs.Term.{Term}
use Rattle.lp_term.specs.Nodes.{tree}
use Rattle.lp_term.specs.declared.node.TermId.{TermId}
use Rattle.lp_model.specs.Branch.{Answer, Branch, Go, Lack, Stop, Task}
use Rattle.lp_model.specs.Eigens.{beta_normal}
use Rattle.lp_model.specs.Flat.{Clause}
use Rattle.lp_model.specs.Pair.{Closing, closed}
use Rattle.lp_model.specs.Search.{assigned, compared, equated, look}
use Rattle.lp_model.specs.Skeleton.{GoalName, Inner, State, Takes, View, GoalNote}
use Rattle.lp_model.specs.Unify.{unit_limit}
use Rattle.lp_model.specs.Values as model
use Rattle.lp_model.specs.Values.{Bytes, Faults, Is, Number, evaluate, ordered, term_of}
use Rattle.lp_model.specs.declared.ending.Ending.{Ending}
use Rattle.lp_model.specs.declared.ending.Ending.TheVariants.{Arithmetic, Deep}
use Rattle.lp_model.specs.declared.ending.Fault.TheVariants.{NotClosed}
use Rattle.lp_lemmas.specs.Each.{EachOf}
use Rattle.lp_search_laws.specs.Branches.{IsPlainPair, IsPlainTerm}
use Rattle.lp_pattern.specs.Putting.{Known}
use Rattle.lp_pattern.specs.Turning.{IsOpenReading}
use Rattle.lp_plain.specs.declared.arithmetic.Outcome.{Outcome}
use Rattle.lp_plain.specs.declared.arithmetic.Outcome.TheVariants as code
use Rattle.lp_plain.specs.declared.arithmetic.Value.{Value}
use Rattle.lp_plain.specs.declared.arithmetic.Value.TheVariants as kept
use Rattle.lp_plain.specs.declared.frame.Place.{Place}
use Rattle.lp_plain.specs.declared.machine.Machine.{Machine}
use Rattle.lp_plain.specs.declared.outcome.Turn.{Turn}
use Rattle.lp_plain.specs.Assigned.{Assigns, AssignsBy, Compares, ComparesBy, ComparesWith, IsAssigned, IsEvaluated, IsNumber, IsNumberOr, turn_if}
use Rattle.lp_plain.specs.AtRunTime.{IsSmallExpression}
use Rattle.lp_plain.specs.Assuming.{IsPlaceAt, lists_of}
use Rattle.lp_plain.specs.Entries.{Around}
use Rattle.lp_plain.specs.Evaluated.{EvaluatesTo, IsEvaluable, IsValueIn}
use Rattle.lp_plain.specs.Forms.{order_number}
use Rattle.lp_plain.specs.HeadLooks.{OnlyBank}
use Rattle.lp_plain.specs.Moving.{AreFew, IsCounted, IsGoingOn, Leads, Query, taking}
use Rattle.lp_plain.proofs.AtomTurns.{equate_leads}
use Rattle.lp_plain.proofs.GoingBank.{above_bank, bank_then, going_bank, going_state, place_bank, reading_bank}
use Rattle.lp_plain.proofs.TaskMoves.{fails, goes, lacks, stops}

-- what the definition's evaluation gives, by what the search's came to
abbrev CameTo : Outcome → (enough : ℕ) → Option model.Outcome → (v : Value → model.Value → Type 0) → (Small : Type 0) → Type 0
CameTo o n None v S = Unit {0}
CameTo (code.Is x) n (Some r) v S = (m : model.Value) × (r ≡ Is m) × v x m
CameTo (code.Faults f) n (Some r) v S = r ≡ Faults f
CameTo code.Deep n (Some r) v S = n ≤ 1000000 → S → ⊥

-- a value is read as it is, and is known
value_closed : (z : Closing) (m : model.Value) → closed z (term_of m) ≡ term_of m
value_closed z (Number i) = refl
value_closed z (Bytes s) = refl

value_known : (lv : ℕ → ℕ) (n : ℕ) (m : model.Value) → Within (Known lv n) 0 (term_of m)
value_known lv n (Number i) = tt
value_known lv n (Bytes s) = tt

value_plain : (n : ℕ) (m : model.Value) → IsPlainTerm n (term_of m)
value_plain n (Number i) = tt
value_plain n (Bytes s) = tt

came : (m q : Machine) (t : TermId) (o : Outcome) → IsEvaluated m q t o → t.0 < length m.bank.terms → (z : Closing) → IsOpenReading m.bank m.bindings
    m.branch.next z → IsEvaluable (closed z (tree m.bank t.0)) → (n : ℕ) →
    CameTo o n (evaluate n (closed z (tree m.bank t.0))) (IsValueIn q.bank) (IsSmallExpression (closed z (tree m.bank t.0)))
came m q t o e l z y fine n = go (beta_normal n (closed z (tree m.bank t.0))) refl o (e.value l z y)
  where
    go : (x : Option Term) → beta_normal n (closed z (tree m.bank t.0)) ≡ x → (o : Outcome) → EvaluatesTo q.bank o (closed z (tree m.bank t.0)) →
        CameTo o n (option_map (λ s. model.value (eta_normal s)) x) (IsValueIn q.bank) (IsSmallExpression (closed z (tree m.bank t.0)))
    go None p o h = tt
    go (Some s) p (code.Is x) h = h n s p (fine n s p)
    go (Some s) p (code.Faults f) h = h n s p (fine n s p)
    go (Some s) p code.Deep h = λ k small. h n s p (fine n s p) k (small n s p)

-- behind the step
module _ (qv : Query) (c : Machine) (a : Around) (rest work : Branch) (below : List Task) (g : IsGoingOn qv c a rest work below) (p : Place)
    (pl : IsPlaceAt (lists_of c) a p) (s : State Task) (w j : ℕ) (ea : s.answers ≡ suc w) (es : s.steps ≡ suc j)
    (go : (Answer → Bool) → State Task → Inner) (enough : ℕ) (P : List Clause) (name : GoalName) (task : Task) (stack : s.stack ≡ task ∷ below)
    (counted : (n : Machine) → n.counts ≡ c.counts → (ts : List Task) → IsCounted n
    (record { steps = j; answers = suc w; given = s.given; rows = s.rows; row = s.rows; lost = s.lost; stack = ts ++ below })) where
  abbrev see : ℕ → Task → View Task Answer
  see = look unit_limit enough P

  -- a value and a term are made one
  value_leads : (q n : Machine) → OnlyBank c q → (l : TermId) → l.0 < length c.bank.terms → Within (Known g.levels rest.next) 0
      (closed g.closing (tree c.bank l.0)) → (v : Value) (m : model.Value) → IsValueIn q.bank v m → (turn : Turn) → AreFew turn enough →
      IsPlainTerm work.next_type (closed g.closing (tree c.bank l.0)) → EachOf (IsPlainPair work.next_type) work.pairs → IsAssigned q n l p.level v
      turn → (tasks : List Task) → look unit_limit enough P (length below) task ≡ Takes name tasks → tasks ≡ equated unit_limit enough p.level
      (closed g.closing (tree c.bank l.0)) (term_of m) work → Leads 1 (taking (GoalNote name)) qv turn n go see s
  value_leads q n b l inside known v m i turn few plain pairs h tasks seen is =
      let r = h.between in
      let d = bank_then c q r b h.bank in
      let g' = going_bank qv c r d a rest work below g p pl in
      let x = closed g.closing (tree c.bank l.0) in
      let same : n.counts ≡ c.counts = h.bound.counts ∙ ap (λ z. z.counts) d.same in
      subst (λ t. Leads 1 (taking (GoalNote name)) qv t n go see s) (sym h.is)
      (equate_leads qv r n a rest work below g' p (place_bank qv c r d a rest work below g p pl) h.bound h.residual l h.term h.same x (term_of m)
      (ap (closed g.closing) (sym (d.bank.same_terms l.0 inside)))
      (sym (ap (closed g.closing) (h.term_is m i) ∙ value_closed g.closing m)) known (value_known g.levels rest.next m) h.equated s w j ea es go
      enough (subst (λ t. AreFew t enough) h.is few) plain (value_plain work.next_type m) pairs P name task tasks stack seen is (counted n same))

  pub is_leads : (n : Machine) (l r : TermId) (turn : Turn) → Assigns c n l r p.level turn → AreFew turn enough →
      (turn ≡ Turn.Ended Deep → IsSmallExpression (closed g.closing (tree c.bank r.0))) → IsPlainTerm work.next_type
      (closed g.closing (tree c.bank l.0)) → EachOf (IsPlainPair work.next_type) work.pairs → l.0 < length c.bank.terms → r.0 < length c.bank.terms →
      Within (Known g.levels rest.next) 0 (closed g.closing (tree c.bank l.0)) →
      IsEvaluable (closed g.closing (tree c.bank r.0)) → look unit_limit enough P (length below) task ≡ Takes name
      (assigned unit_limit enough p.level (closed g.closing (tree c.bank l.0)) work (evaluate enough (closed g.closing (tree c.bank r.0)))) →
      Leads 1 (taking (GoalNote name)) qv turn n go see s
  is_leads n l r turn h few small plain pairs il ir known fine seen =
      by h.outcome (evaluate enough (closed g.closing (tree c.bank r.0))) refl h.by (came c h.between r h.outcome h.evaluated ir g.closing g.reading fine enough)
    where
      by : (o : Outcome) (x : Option model.Outcome) → evaluate enough (closed g.closing (tree c.bank r.0)) ≡ x → AssignsBy o h.between n l p.level
          turn → CameTo o enough x (IsValueIn h.between.bank) (IsSmallExpression (closed g.closing (tree c.bank r.0))) → Leads 1 (taking (GoalNote name)) qv turn n go see s
      by o None e k came = lacks qv n below s w j ea es go enough P name task (Lack ∷ []) stack
          (seen ∙ ap (λ y. Takes name (assigned unit_limit enough p.level (closed g.closing (tree c.bank l.0)) work y)) e) refl turn
      by (code.Is v) (Some x) e k came =
          value_leads h.between n h.evaluated.bank l il known v came.0 came.2 turn few plain pairs k _
          (seen ∙ ap (λ y. Takes name (assigned unit_limit enough p.level (closed g.closing (tree c.bank l.0)) work y))
          (e ∙ ap (λ y. Some y) came.1)) refl
      by (code.Faults f) (Some x) e k came =
          subst (λ t. Leads 1 (taking (GoalNote name)) qv t n go see s) (sym k)
          (stops qv n below s w j ea es go enough P name task (Stop (Arithmetic f) ∷ []) stack
          (seen ∙ ap (λ y. Takes name (assigned unit_limit enough p.level (closed g.closing (tree c.bank l.0)) work y))
          (e ∙ ap (λ y. Some y) came)) (Arithmetic f) refl)
      by code.Deep (Some x) e k came = absurd (came (let i = few k in omega (arith, i)) (small k))

  -- two numbers are compared
  module _ (n : Machine) (o : Compare) (turn : Turn) (few : AreFew turn enough) (inside : OnlyBank c n) where
    abbrev order : ℕ
    order = order_number o

    numbers_lead : (x y : ℤ) → turn ≡ turn_if (ordered order x y) → look unit_limit enough P (length below) task ≡ Takes name
        (if ordered order x y then Go work ∷ [] else []) → Leads 1 (taking (GoalNote name)) qv turn n go see s
    numbers_lead x y e seen = subst (λ t. Leads 1 (taking (GoalNote name)) qv t n go see s) (sym e) (by (ordered order x y) refl)
      where
        by : (b : Bool) → ordered order x y ≡ b → Leads 1 (taking (GoalNote name)) qv (turn_if (ordered order x y)) n go see s
        by true q =
            subst (λ b. Leads 1 (taking (GoalNote name)) qv (turn_if b) n go see s) (sym q)
            (goes qv n below s w j ea es go enough P name task (Go work ∷ []) stack (seen ∙ ap (λ b. Takes name (if b then Go work ∷ [] else [])) q) work refl
            (going_state qv n a rest work below (going_bank qv c n inside a rest work below g p pl) _ refl (counted n (ap (λ z. z.counts) inside.same) (Go work ∷ []))))
        by false q =
            subst (λ b. Leads 1 (taking (GoalNote name)) qv (turn_if b) n go see s) (sym q)
            (fails qv n below s w j ea es go enough P name task [] stack (seen ∙ ap (λ b. Takes name (if b then Go work ∷ [] else [])) q) refl
            (record { around = a; above = above_bank qv c n inside a rest work below g p pl; counted = counted n (ap (λ z. z.counts) inside.same) [] }))

    -- the tasks of the definition by the two evaluations
    abbrev Seen : Option model.Outcome → Option model.Outcome → Type 0
    Seen x y = look unit_limit enough P (length below) task ≡ Takes name (compared order work x y)

    second_leads : (S : Type 0) → (turn ≡ Turn.Ended Deep → S) → (x : ℤ) (m q : Machine) (r : TermId) (k : Result ℤ Ending) → (h : IsNumber m q r k) →
        ComparesWith x k o turn → (y : Option model.Outcome) → CameTo h.outcome enough y (IsValueIn q.bank) S → Seen (Some (Is (Number x))) y → Leads 1 (taking (GoalNote name)) qv turn n go see s
    second_leads S small x m q r k h cw y came seen = by h.outcome k h.is cw y came seen
      where
        by : (oc : Outcome) (k : Result ℤ Ending) → IsNumberOr oc k → ComparesWith x k o turn → (y : Option model.Outcome) → CameTo oc enough y
            (IsValueIn q.bank) S → Seen (Some (Is (Number x))) y → Leads 1 (taking (GoalNote name)) qv turn n go see s
        by oc k i cw None came seen = lacks qv n below s w j ea es go enough P name task (Lack ∷ []) stack seen refl turn
        by (code.Is (kept.Number v)) k i cw (Some u) came seen =
            let a = came.2 in
            numbers_lead x v (subst (λ k. ComparesWith x k o turn) i cw) (seen ∙ ap (λ u. Takes name (compared order work (Some (Is (Number x))) (Some u))) (came.1 ∙ ap (λ z. Is z) a))
        by (code.Is (kept.Text t)) k i cw (Some u) came seen =
            let a = came.2 in
            subst (λ t. Leads 1 (taking (GoalNote name)) qv t n go see s) (sym (subst (λ k. ComparesWith x k o turn) i cw))
            (stops qv n below s w j ea es go enough P name task (Stop (Arithmetic NotClosed) ∷ []) stack
            (seen ∙ ap (λ u. Takes name (compared order work (Some (Is (Number x))) (Some u))) (came.1 ∙ ap (λ z. Is z) a.1))
            (Arithmetic NotClosed) refl)
        by (code.Faults f) k i cw (Some u) came seen =
            subst (λ t. Leads 1 (taking (GoalNote name)) qv t n go see s) (sym (subst (λ k. ComparesWith x k o turn) i cw))
            (stops qv n below s w j ea es go enough P name task (Stop (Arithmetic f) ∷ []) stack
            (seen ∙ ap (λ u. Takes name (compared order work (Some (Is (Number x))) (Some u))) came) (Arithmetic f) refl)
        by code.Deep k i cw (Some u) came seen =
            let e = subst (λ k. ComparesWith x k o turn) i cw in
            absurd (came (let z = few e in omega (arith, z)) (small e))

  first_leads : (n : Machine) (o : Compare) (turn : Turn) → AreFew turn enough → (q : Machine) → OnlyBank c q → (l r : TermId) →
      (turn ≡ Turn.Ended Deep → IsSmallExpression (closed g.closing (tree c.bank l.0)) × IsSmallExpression (closed g.closing (tree c.bank r.0))) →
      (k : Result ℤ Ending) → (h : IsNumber c q l k) → ComparesBy k q n o r turn → r.0 < length c.bank.terms → IsEvaluable
      (closed g.closing (tree c.bank r.0)) →
      (x : Option model.Outcome) → CameTo h.outcome enough x (IsValueIn q.bank) (IsSmallExpression (closed g.closing (tree c.bank l.0))) → look
      unit_limit enough P (length below) task ≡ Takes name (compared (order_number o) work x
      (evaluate enough (closed g.closing (tree c.bank r.0)))) → Leads 1 (taking (GoalNote name)) qv turn n go see s
  first_leads n o turn few q b l r small k h cb ir fine x came' seen = by h.outcome k h.is cb x came' seen
    where
      stopped : (e : Ending) → turn ≡ Turn.Ended e → look unit_limit enough P (length below) task ≡ Takes name (Stop e ∷ []) → Leads 1 (taking (GoalNote name)) qv turn n go see s
      stopped e i y = subst (λ t. Leads 1 (taking (GoalNote name)) qv t n go see s) (sym i) (stops qv n below s w j ea es go enough P name task (Stop e ∷ []) stack y e refl)

      by : (oc : Outcome) (k : Result ℤ Ending) → IsNumberOr oc k → ComparesBy k q n o r turn → (x : Option model.Outcome) → CameTo oc enough x
          (IsValueIn q.bank) (IsSmallExpression (closed g.closing (tree c.bank l.0))) → look unit_limit enough P (length below) task ≡ Takes name
          (compared (order_number o) work x (evaluate enough (closed g.closing (tree c.bank r.0)))) →
          Leads 1 (taking (GoalNote name)) qv turn n go see s
      by oc k i cb None came' seen = lacks qv n below s w j ea es go enough P name task (Lack ∷ []) stack seen refl turn
      by (code.Is (kept.Number v)) k i cb (Some u) came' seen =
          let m = came'.2 in
          let h2 = subst (λ k. ComparesBy k q n o r turn) i cb in
          let number = h2.1 in
          let same = b.bank.same_terms r.0 ir in
          let more = b.bank.more_terms in
          second_leads n o turn few (bank_then c q n b number.evaluated.bank) (IsSmallExpression (closed g.closing (tree c.bank r.0)))
          (λ e. (small e).1) v q n r h2.0 number h2.2 (evaluate enough (closed g.closing (tree c.bank r.0)))
          (subst (λ y. CameTo number.outcome enough (evaluate enough (closed g.closing y)) (IsValueIn n.bank) (IsSmallExpression (closed g.closing y))) same
          (came q n r number.outcome number.evaluated (omega (arith, ir, more)) g.closing (reading_bank qv c q b a rest work below g p pl)
          (subst (λ y. IsEvaluable (closed g.closing y)) (sym same) fine) enough))
          (seen ∙ ap (λ u. Takes name (compared (order_number o) work (Some u) (evaluate enough (closed g.closing (tree c.bank r.0))))) (came'.1 ∙ ap (λ z. Is z) m))
      by (code.Is (kept.Text t)) k i cb (Some u) came' seen =
          let m = came'.2 in
          stopped (Arithmetic NotClosed) (subst (λ k. ComparesBy k q n o r turn) i cb)
          (seen ∙ ap (λ u. Takes name (compared (order_number o) work (Some u) (evaluate enough (closed g.closing (tree c.bank r.0)))))
          (came'.1 ∙ ap (λ z. Is z) m.1))
      by (code.Faults f) k i cb (Some u) came' seen =
          stopped (Arithmetic f) (subst (λ k. ComparesBy k q n o r turn) i cb) (seen ∙ ap
          (λ u. Takes name (compared (order_number o) work (Some u) (evaluate enough (closed g.closing (tree c.bank r.0))))) came')
      by code.Deep k i cb (Some u) came' seen =
          let e = subst (λ k. ComparesBy k q n o r turn) i cb in
          absurd (came' (let z = few e in omega (arith, z)) (small e).0)

  pub order_leads : (n : Machine) (o : Compare) (l r : TermId) (turn : Turn) → Compares c n o l r turn → AreFew turn enough →
      (turn ≡ Turn.Ended Deep → IsSmallExpression (closed g.closing (tree c.bank l.0)) × IsSmallExpression (closed g.closing (tree c.bank r.0))) → l.0
      < length c.bank.terms → r.0 < length c.bank.terms → IsEvaluable (closed g.closing (tree c.bank l.0)) →
      IsEvaluable (closed g.closing (tree c.bank r.0)) →
      look unit_limit enough P (length below) task ≡ Takes name (compared (order_number o) work (evaluate enough (closed g.closing (tree c.bank l.0)))
      (evaluate enough (closed g.closing (tree c.bank r.0)))) → Leads 1 (taking (GoalNote name)) qv turn n go see s
  order_leads n o l r turn h few small il ir sl sr seen =
      first_leads n o turn few h.between h.number.evaluated.bank l r small h.first h.number h.by ir sr
      (evaluate enough (closed g.closing (tree c.bank l.0))) (came c h.between l h.number.outcome h.number.evaluated il g.closing g.reading sl
      enough) seen
