-- A connective that is known at run time: the turn that takes it apart is the definition's move.
use Rattle.std.proofs.Common.{◌≡◌, ℕ, suc, ◌≤◌, List, [], length, refl, sym, ap, inl, inr, ◌∙◌, subst, arith, Bool, Option, None, Some}
use Rattle.lp_calculus.specs.Term.{Term, atom, logic}
use Rattle.lp_standard.specs.Connectives.{connective_of}
use Rattle.lp_term.specs.Nodes.{Nodes, tree}
use Rattle.lp_term.specs.declared.node.TermId.{TermId}
use Rattle.lp_model.specs.Branch.{Answer, Branch, Entry, Go, Task}
use Rattle.lp_model.specs.Connected.{IsConnectiveIn, connective_in}
use Rattle.lp_model.specs.declared.connective.Connective.{Connective}
use Rattle.lp_model.specs.declared.connective.Connective.TheVariants as code
use Rattle.lp_model.specs.Flat.{Atomic, Clause}
use Rattle.lp_model.specs.Look.{head_normal}
use Rattle.lp_model.specs.Pair.{closed}
use Rattle.lp_model.specs.Search.{look, look_form, look_normal, with_goals}
use Rattle.lp_model.specs.Skeleton.{Inner, State, move}
use Rattle.lp_model.specs.Unify.{unit_limit}
use Rattle.lp_model.specs.declared.ending.Ending.TheVariants.{NoMore, NoMoreCut, Enough, Steps, Flexible, Arithmetic, OpenNot, Deep}
use Rattle.lp_pattern.specs.Putting.{Known}
use Rattle.lp_pattern.specs.Seen.{IsEndedHead}
use Rattle.lp_pattern.specs.Under.{ValueIs}
use Rattle.lp_plain.specs.declared.frame.Place.{Place}
use Rattle.lp_plain.specs.declared.machine.Counts.{Counts}
use Rattle.lp_plain.specs.declared.machine.Machine.{Machine}
use Rattle.lp_plain.specs.declared.outcome.Turn.{Turn}
use Rattle.lp_plain.specs.Apart.{IsApart}
use Rattle.lp_plain.specs.AtRunTime.{IsAtLooked}
use Rattle.lp_plain.specs.Entries.{Around, entry_at}
use Rattle.lp_plain.specs.Calling.{LeadsOver, LeadsWith, WrittenBehind}
use Rattle.lp_plain.specs.Moving.{BindsNone, IsMoved, IsRunning, PutsWith, Query, mark_in, quiet}
use Rattle.lp_plain.specs.WrittenSearch.{IsShutIn, IsWrittenSearch}
use Rattle.lp_plain.specs.Stacks.{base_of}
use Rattle.lp_plain.specs.Taking.{IsApartForm, TakesKnown}
use Rattle.lp_plain.proofs.ClosedForms.{IsFormUnder, form_under}
use Rattle.lp_plain.proofs.FormsUnder.{IsApartConnective, form_parts}
use Rattle.lp_plain.proofs.FrontGoals.{IsFront, front_look, front_of, front_waits}
use Rattle.lp_plain.proofs.CallArm.{leads_more}
use Rattle.lp_plain.proofs.KnownForms.{IsKnownForm, form_known, normal_within}
use Rattle.lp_plain.proofs.ShutForms.{form_shut}
use Rattle.lp_plain.proofs.LooksUnder.{IsViewUnder}
use Rattle.lp_plain.proofs.SeenGoals.{IsAbs, seen_goal}
use Rattle.lp_plain.proofs.ViewMoves.{view_moves, view_stops}

-- what is taken apart
apart_in : (b : Nodes) (k : Connective) → IsApartForm k → IsApartConnective (connective_in b k)
apart_in b code.True h = tt
apart_in b code.Cut h = absurd h
apart_in b (code.And l r) h = tt
apart_in b (code.Or l r) h = tt
apart_in b (code.Implies c g) h = absurd h
apart_in b (code.ForAll T t) h = tt
apart_in b (code.Exists T t) h = tt
apart_in b (code.Not g) h = absurd h
apart_in b code.Atomic h = absurd h

no_abs : (x : Term) → IsAbs x → IsApartConnective (connective_of x) → ⊥
no_abs x i h = subst (λ y. IsApartConnective (connective_of y)) i.1 h

module _ (qv : Query) (m n : Machine) (a : Around) (raw : Branch) (s : State Task) (h : IsRunning qv m a raw s) (p : Place) (u : TermId) (o : Option ℕ) (at : IsAtLooked m h.closing a p u o raw)
    (k : Connective) (is : connective_of (tree m.bank u.0) ≡ connective_in m.bank k) (inside : IsConnectiveIn m.bank k) (af : IsApartForm k) (w : ℕ) (ea : s.answers ≡ suc w)
    (go : (Answer → Bool) → State Task → Inner) (enough : ℕ) (P : List Clause) where
  abbrev x : Term
  x = tree m.bank u.0

  abbrev e : Entry
  e = entry_at a p (Atomic at.value)

  f : IsFront qv m a raw s h p at.value at.rest
  f = front_of qv m a raw s h p at.value at.rest at.goals

  abbrev rest : Branch
  rest = with_goals raw at.rest

  abbrev behind : Branch
  behind = with_goals h.at_work f.rest

  new_variable : (l : ℕ) → closed h.closing (atom (logic rest.next l)) ≡ atom (logic rest.next l)
  new_variable l =
      let y = h.next in
      subst (λ o. ValueIs m.bank h.closing rest.next o) (h.reading.unbound rest.next (omega (arith, y))) (h.reading.reading.terms rest.next) l

  apart_is : IsApartConnective (connective_of x)
  apart_is = subst IsApartConnective (sym is) (apart_in m.bank k af)

  -- the term that the definition sees
  module _ (t : Term) (q : head_normal enough f.goal ≡ Some t) (same : t ≡ closed h.closing x) (ended : IsEndedHead m.bindings x) where
    form : IsFormUnder h.closing (connective_in m.bank k) (connective_of t)
    form =
        subst (λ y. IsFormUnder h.closing y (connective_of t)) is
        (subst (λ y. IsFormUnder h.closing (connective_of x) (connective_of y)) (sym same) (form_under m.bank m.bindings h.closing h.reading.reading x ended))

    form_is_known : IsKnownForm (Known h.levels raw.next) (connective_of t)
    form_is_known = form_known (Known h.levels raw.next) t (normal_within (Known h.levels raw.next) 0 enough f.goal t q f.goal_known)

    views : IsViewUnder qv m.bank h.closing (mark_in (base_of m.denied) h.above.raws) (base_of m.denied) (length m.choices.items) m.branch.pairs.items rest
        (look_form 0 0 [] 0 e rest x (connective_in m.bank k)) (look_form unit_limit enough P (length h.rest) f.first behind t (connective_of t))
    views =
        form_parts qv h.levels m.bank h.closing (mark_in (base_of m.denied) h.above.raws) (base_of m.denied) (length m.choices.items)
        m.branch.pairs.items e f.first rest behind f.entry.place f.entry.mark f.entry.low f.entry.high
        (record {
          goals = f.others;
          next = h.under.next;
          next_type = h.under.next_type;
          types = h.under.types;
          values = h.under.values;
          pairs = h.under.pairs;
          known = record { goals = f.known.1; values = h.under.known.values; pairs = h.under.known.pairs; free = h.under.known.free };
        })
        f.known.0.1 f.known.0.2 0 0 0 unit_limit enough (length h.rest) [] P x t new_variable (apart_in m.bank k af) form form_is_known

    looked : look unit_limit enough P (length h.rest) (Go h.at_work) ≡ look_form unit_limit enough P (length h.rest) f.first behind t (connective_of t)
    looked = front_look qv m a raw s h p at.value at.rest f enough P ∙ ap (look_normal unit_limit enough P (length h.rest) f.first behind) q

    on : TakesKnown m n p k o → BindsNone m n → PutsWith m n → IsMoved quiet qv Turn.On n (move go (look unit_limit enough P) s) s
    on tk bn pw =
        view_moves qv m n a raw s h rest refl w ea go enough P (look_form 0 0 [] 0 e rest x (connective_in m.bank k))
        (look_form unit_limit enough P (length h.rest) f.first behind t (connective_of t)) looked views
        (tk a rest h.above.done.stands h.placed at.place inside (record { goals = at.reads; next = h.next; next_type = h.next_type }) 0 0 0 [] x (Atomic at.value)) bn pw

    stops : 1000000 ≤ m.counts.row → IsMoved quiet qv (Turn.Ended Deep) n (move go (look unit_limit enough P) s) s
    stops = view_stops qv m n a raw s h rest refl w ea go enough P (look_form 0 0 [] 0 e rest x (connective_in m.bank k))
        (look_form unit_limit enough P (length h.rest) f.first behind t (connective_of t)) looked views

  module _ (tk : TakesKnown m n p k o) (bn : BindsNone m n) (pw : PutsWith m n) (wr : IsShutIn m.bank k → IsWrittenSearch n qv.arity) where
    on_leads : LeadsWith (IsWrittenSearch n qv.arity) 1 quiet qv Turn.On n go (look unit_limit enough P) s
    on_leads = elim (head_normal enough f.goal) as (λ y. head_normal enough f.goal ≡ y → LeadsWith (IsWrittenSearch n qv.arity) 1 quiet qv Turn.On n go (look unit_limit enough P) s) [
      | None ↦ λ q. inr (inl (front_waits qv m a raw s h p at.value at.rest f enough P w ea go q))
      | Some t ↦ λ q. elim (seen_goal h.closing at.before at.value f.goal at.heads f.heads m.bank m.bindings h.reading.reading 1000000 enough t q x at.ended at.looked) [
        | inl y ↦ inl (on t q y.0 y.1 tk bn pw, wr (form_shut (Known h.levels raw.next) h.closing m.bank k (connective_of t) inside (form t q y.0 y.1) (form_is_known t q y.0 y.1)))
        | inr y ↦ absurd (no_abs x y.0 apart_is)
      ]
    ] refl

  deep_leads : 1000000 ≤ m.counts.row → LeadsWith (Unit {0}) 1 quiet qv (Turn.Ended Deep) n go (look unit_limit enough P) s
  deep_leads l = elim (head_normal enough f.goal) as (λ y. head_normal enough f.goal ≡ y → LeadsWith (Unit {0}) 1 quiet qv (Turn.Ended Deep) n go (look unit_limit enough P) s) [
    | None ↦ λ q. inr (inl (front_waits qv m a raw s h p at.value at.rest f enough P w ea go q))
    | Some t ↦ λ q. elim (seen_goal h.closing at.before at.value f.goal at.heads f.heads m.bank m.bindings h.reading.reading 1000000 enough t q x at.ended at.looked) [
      | inl y ↦ inl (stops t q y.0 y.1 l, tt)
      | inr y ↦ absurd (no_abs x y.0 apart_is)
    ]
  ] refl

  by_count : (turn : Turn) (new : Counts) → IsApart turn m.counts new → (turn ≡ Turn.On → TakesKnown m n p k o) → (turn ≡ Turn.On → BindsNone m n) →
      (turn ≡ Turn.On → PutsWith m n) → (turn ≡ Turn.On → IsShutIn m.bank k → IsWrittenSearch n qv.arity) →
      LeadsWith (WrittenBehind turn n qv.arity) 1 quiet qv turn n go (look unit_limit enough P) s
  by_count Turn.On new c tk bn pw wr = on_leads (tk refl) (bn refl) (pw refl) (wr refl)
  by_count Turn.Back new c tk bn pw wr = absurd c
  by_count Turn.Answered new c tk bn pw wr = absurd c
  by_count (Turn.Ended Deep) new c tk bn pw wr = deep_leads c.0
  by_count (Turn.Ended NoMore) new c tk bn pw wr = absurd c
  by_count (Turn.Ended NoMoreCut) new c tk bn pw wr = absurd c
  by_count (Turn.Ended Enough) new c tk bn pw wr = absurd c
  by_count (Turn.Ended Steps) new c tk bn pw wr = absurd c
  by_count (Turn.Ended Flexible) new c tk bn pw wr = absurd c
  by_count (Turn.Ended (Arithmetic y)) new c tk bn pw wr = absurd c
  by_count (Turn.Ended OpenNot) new c tk bn pw wr = absurd c

pub form_leads : (qv : Query) (m n : Machine) (a : Around) (raw : Branch) (s : State Task) (h : IsRunning qv m a raw s) (p : Place) (u : TermId) (o : Option ℕ) → IsAtLooked m h.closing a p u o raw →
    (k : Connective) → connective_of (tree m.bank u.0) ≡ connective_in m.bank k → IsConnectiveIn m.bank k → IsApartForm k → (turn : Turn) → IsApart
    turn m.counts n.counts → (turn ≡ Turn.On → TakesKnown m n p k o) →
    (turn ≡ Turn.On → BindsNone m n) → (turn ≡ Turn.On → PutsWith m n) → (turn ≡ Turn.On → IsShutIn m.bank k → IsWrittenSearch n qv.arity) → (P : List Clause) → LeadsOver 2 quiet qv turn n s P
form_leads qv m n a raw s h p u o at k is inside af turn c tk bn pw wr P w ea go enough few ty =
    leads_more (WrittenBehind turn n qv.arity) quiet qv turn n go (look unit_limit enough P) s (by_count qv m n a raw s h p u o at k is inside af w ea go enough P turn n.counts c tk bn pw wr)
