-- The turns of a negated goal and of its search, followed to the event that is told next.
use Rattle.std.proofs.Common.{◌≡◌, ℕ, zero, suc, List, [], ◌∷◌, length, refl, sym, ap, inl, inr, ◌∙◌, subst, Bool, true, false}
use Rattle.lp_model.specs.Branch.{Answer, Go, Task}
use Rattle.lp_model.specs.Flat.{Clause}
use Rattle.lp_model.specs.Search.{has_no_pairs, look}
use Rattle.lp_model.specs.Unify.{unit_limit}
use Rattle.lp_model.specs.Skeleton.{GoalNote, Inner, Lacks, Note, named, not_constant, State, Stops, Tells, View, inner, move, move_at, move_view, starts_within}
use Rattle.lp_model.specs.declared.ending.Ending.{Ending}
use Rattle.lp_model.specs.declared.ending.Ending.TheVariants.{NoMore, NoMoreCut, Enough, Steps, Flexible, Arithmetic, OpenNot, Deep}
use Rattle.lp_plain.specs.declared.machine.Machine.{Machine}
use Rattle.lp_plain.specs.declared.outcome.Turn.{Turn}
use Rattle.lp_plain.specs.Between.{HasClauses}
use Rattle.lp_plain.specs.Calling.{LeadsWith}
use Rattle.lp_plain.specs.Denials.{AreFewDenied, EndsDenied, IsDenying, IsHeldBy, IsHeldTurn, IsRefutedBy, IsRefutedTurn, TakesDenied, inner_query, waiting_query, waits_at, woken}
use Rattle.lp_plain.specs.Moving.{IsState, IsWaiting, Leads, Query, Tally, Waiting, both, quiet, taking}
use Rattle.lp_plain.specs.Reached.{HasSmallGoal, at_once}
use Rattle.lp_plain.specs.Searching.{last_ending}
use Rattle.lp_plain.specs.Turns.{IsGoalTurn, IsNoEnd}
use Rattle.lp_plain.specs.inner.Following.{Comes, Course, IsInQuery, IsOfQuery, Leaves, seen_in}
use Rattle.lp_plain.proofs.ChoicesBack.{back_same}
use Rattle.lp_plain.proofs.Denying.{begins_inside, is_cut, is_held, is_open, is_refuted}
use Rattle.lp_plain.proofs.Following.{kept_of, leads_stands, none_both, wanted}
use Rattle.lp_plain.specs.Hearing.{back_in}
use Rattle.lp_plain.proofs.QuietMoves.{by_lost}
use Rattle.lp_plain.proofs.Treated.{inner_turn}

-- moves that lead there, behind which W holds
with_it : (W : Type 0) → W → (j : ℕ) (x : Tally) (qv : Query) (turn : Turn) (n : Machine) (go : (Answer → Bool) → State Task → Inner)
    (see : ℕ → Task → View Task Answer) (s : State Task) → Leads j x qv turn n go see s → LeadsWith W j x qv turn n go see s
with_it W w zero x qv turn n go see s (inl h) = inl (h, w)
with_it W w zero x qv turn n go see s (inr h) = inr h
with_it W w (suc j) x qv turn n go see s (inl h) = inl (h, w)
with_it W w (suc j) x qv turn n go see s (inr (inl h)) = inr (inl h)
with_it W w (suc j) x qv turn n go see s (inr (inr h)) = inr (inr (h.0, h.1, h.2, h.3, h.4, h.5, h.6, with_it W w j h.1 qv turn n go see h.2 h.7))

module _ (c : Course) (qv : Query) (n : Machine) (s : State Task) (of : IsOfQuery c.query qv) (x : Tally) (o : Comes c qv.outer x s) where
  abbrev W : Turn → Type 0
  W turn = IsNoEnd turn → HasClauses c.program c.query.arity n

  serves : (turn : Turn) → IsNoEnd turn → (IsNoEnd turn → HasClauses c.program c.query.arity n) → HasClauses c.program c.query.arity n
  serves turn k f = f k

  -- the search of the goal begins
  module _ (d : IsDenying qv n s) (clauses : HasClauses c.program c.query.arity n) where
    k : (i : ℕ) × (s.answers ≡ suc i)
    k = wanted c qv.outer x s o

    abbrev w : Waiting
    w = waits_at qv s k.0 d.branch d.rest

    lacking : (j : ℕ) → seen_in c (length d.rest) d.task ≡ Lacks → IsWaiting (move (inner (seen_in c) j) (seen_in c) s)
    lacking j e = (
      0,
      [],
      (λ i. move_at (inner (seen_in c) j) (seen_in c) s.steps (k.1 i) s.given s.rows s.row s.lost (d.stack i)) ∙ by_lost (inner (seen_in c) j)
          (seen_in c) s.steps k.0 s.given s.rows s.row s.lost d.task d.rest ∙
          ap (move_view (inner (seen_in c) j) s.steps k.0 s.given s.rows s.row s.lost d.rest) e,
    )

    pub denying_stands : Leaves c x (taking (GoalNote (named not_constant))) Turn.On n
    denying_stands = elim (d.seen c.enough c.program) [
      | inl e ↦ (let b = begins_inside c s d.steps k.0
          d.task d.inside d.branch d.rest d.stack d.there k.1 d.rows e qv.types qv.vars qv.outer x o in (
            b.0,
            b.1,
            (
              inner_query qv w,
              starts_within s.rows d.inside d.steps 1,
              (of.0, (refl, refl, of.1)),
              d.begun k.0,
              b.2,
              clauses,
            ),
          ))
      | inr e ↦ leads_stands c qv n of W serves 0 Turn.On (taking (GoalNote (named not_constant))) s x (inner_turn qv.outer Turn.On tt) (λ j. inr (lacking j e)) o
    ]

  -- it ends at its test
  module _ (m : Machine) (st : IsState qv m s) where
    pub ending_stands : (e : Ending) (y : Tally) → EndsDenied y qv (Turn.Ended e) n s st.running.at_work.goals → IsGoalTurn (Turn.Ended e) → Leaves c x y (Turn.Ended e) n
    ending_stands e y h p few =
        let k = wanted c qv.outer x s o in
        let small : AreFewDenied (Turn.Ended e) c.enough st.running.at_work.goals =
        (λ q. (let f = few q in (f.0, subst HasSmallGoal st.running.stack (f.1 s ((kept_of c qv.outer x s o).0 s (at_once refl)))))) in
        leads_stands c qv n of W serves 1 (Turn.Ended e) y s x (inner_turn qv.outer (Turn.Ended e) p)
        (λ j. with_it (W (Turn.Ended e)) (λ z. absurd z) 1 y qv (Turn.Ended e) n (inner (seen_in c) j) (seen_in c) s (h k.0 k.1 (inner (seen_in c) j) c.enough small c.program)) o few

    -- the turn of the goal
    pub denied_stands : (turn : Turn) (y : Tally) → TakesDenied y turn qv n s st.running.at_work.goals → IsGoalTurn turn → (turn ≡ Turn.On → HasClauses c.program c.query.arity n) → Leaves c x y turn n
    denied_stands Turn.On y h p cl = subst (λ u. Leaves c x u Turn.On n) (sym h.0) (denying_stands h.1 (cl refl))
    denied_stands Turn.Back y h p cl = absurd h
    denied_stands Turn.Answered y h p cl = absurd h
    denied_stands (Turn.Ended e) y h p cl = ending_stands e y h p

  -- its search has an answer
  module _ (turn : Turn) (h : IsHeldBy qv turn n s) (clauses : turn ≡ Turn.Back → HasClauses c.program c.query.arity n) where
    inside_held : Comes c (h.waiting ∷ h.others) x s
    inside_held = subst (λ ws. Comes c ws x s) h.outer o

    told_held : (ns : List Note) × (t : State Task) × ((go : (Answer → Bool) → State Task → Inner) (enough : ℕ) (P : List Clause) → move go (look unit_limit enough P) s ≡ Tells h.answer ns t)
    told_held = h.tells 0 inside_held.0

    by_final : (b : Bool) → has_no_pairs h.answer ≡ b → (turn : Turn) → (turn ≡ Turn.Back → HasClauses c.program c.query.arity n) → IsHeldTurn b turn
        n qv.arity s h.waiting h.others → Leaves c x quiet turn n
    by_final true e Turn.On f y = absurd y
    by_final true e Turn.Answered f y = absurd y
    by_final true e (Turn.Ended x) f y = absurd y
    by_final true e Turn.Back f y = (let r = is_held c h.waiting h.others s x h.answer told_held.0 told_held.1 e (λ j. told_held.2 (inner (seen_in c) j) c.enough c.program) inside_held in (
      r.0,
      r.1 ∙ ap (λ l. both (record { steps = 0; notes = l }) r.0) (sym (back_same (waiting_query qv.arity h.waiting h.others) n
          (woken h.waiting s.steps s.row h.waiting.rest) y)) ∙ sym (none_both (both (record { steps = 0; notes = back_in n }) r.0)),
      (
        waiting_query qv.arity h.waiting h.others,
        woken h.waiting s.steps s.row h.waiting.rest,
        (of.0, (subst (IsInQuery c.query qv.types qv.vars) h.outer of.1).2),
        y,
        r.2,
        f refl,
      ),
    ))
    by_final false e Turn.On f y = absurd y
    by_final false e Turn.Back f y = absurd y
    by_final false e Turn.Answered f y = absurd y
    by_final false e (Turn.Ended NoMore) f y = absurd y
    by_final false e (Turn.Ended NoMoreCut) f y = absurd y
    by_final false e (Turn.Ended Enough) f y = absurd y
    by_final false e (Turn.Ended Steps) f y = absurd y
    by_final false e (Turn.Ended Flexible) f y = absurd y
    by_final false e (Turn.Ended (Arithmetic x)) f y = absurd y
    by_final false e (Turn.Ended Deep) f y = absurd y
    by_final false e (Turn.Ended OpenNot) f y = λ few. is_open c h.waiting h.others s x h.answer told_held.0 told_held.1 e (λ j. told_held.2 (inner (seen_in c) j) c.enough c.program) inside_held

    pub held_stands : Leaves c x quiet turn n
    held_stands = by_final (has_no_pairs h.answer) refl turn clauses h.comes

  -- no alternative of its search is left
  module _ (turn : Turn) (h : IsRefutedBy qv turn n s) (clauses : turn ≡ Turn.On → HasClauses c.program c.query.arity n) where
    inside_refuted : Comes c (h.waiting ∷ h.others) x s
    inside_refuted = subst (λ ws. Comes c ws x s) h.outer o

    by_loss : (b : Bool) → h.lost ≡ b → (turn : Turn) → (turn ≡ Turn.On → HasClauses c.program c.query.arity n) → IsRefutedTurn b turn n qv.arity s h.waiting h.others → Leaves c x quiet turn n
    by_loss false e Turn.Back f y = absurd y
    by_loss false e Turn.Answered f y = absurd y
    by_loss false e (Turn.Ended x) f y = absurd y
    by_loss false e Turn.On f y = (
      x,
      sym (none_both x),
      (
        waiting_query qv.arity h.waiting h.others,
        woken h.waiting s.steps s.row (Go h.waiting.branch ∷ h.waiting.rest),
        (of.0, (subst (IsInQuery c.query qv.types qv.vars) h.outer of.1).2),
        y,
        is_refuted c h.waiting h.others s x (λ j. h.stops 0 inside_refuted.0 (inner (seen_in c) j) c.enough c.program ∙ ap (λ b. Stops (last_ending b)) e) inside_refuted,
        f refl,
      ),
    )
    by_loss true e Turn.On f y = absurd y
    by_loss true e Turn.Back f y = absurd y
    by_loss true e Turn.Answered f y = absurd y
    by_loss true e (Turn.Ended NoMore) f y = absurd y
    by_loss true e (Turn.Ended NoMoreCut) f y = absurd y
    by_loss true e (Turn.Ended Enough) f y = absurd y
    by_loss true e (Turn.Ended Steps) f y = absurd y
    by_loss true e (Turn.Ended Flexible) f y = absurd y
    by_loss true e (Turn.Ended (Arithmetic x)) f y = absurd y
    by_loss true e (Turn.Ended Deep) f y = absurd y
    by_loss true e (Turn.Ended OpenNot) f y = λ few. is_cut c h.waiting h.others s x (λ j. h.stops 0 inside_refuted.0 (inner (seen_in c) j) c.enough
        c.program ∙ ap (λ b. Stops (last_ending b)) e) inside_refuted

    pub refuted_stands : Leaves c x quiet turn n
    refuted_stands = by_loss h.lost refl turn clauses h.comes
