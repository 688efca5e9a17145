-- The search where only the bank has grown: before and behind a look at a goal.
use Rattle.std.proofs.Common.{◌≡◌, ℕ, ◌-◌, length, refl, sym, ap, inl, inr, ◌∙◌, subst, arith, Option, Some, None}
use Rattle.lp_term.specs.Nodes.{tree}
use Rattle.lp_term.specs.declared.node.TermId.{TermId}
use Rattle.lp_model.specs.Branch.{Branch, Task}
use Rattle.lp_model.specs.Skeleton.{State}
use Rattle.lp_model.specs.declared.ending.Ending.TheVariants.{Deep}
use Rattle.lp_pattern.specs.Seen.{IsEnded}
use Rattle.lp_plain.specs.declared.frame.Place.{Place}
use Rattle.lp_plain.specs.declared.machine.Machine.{Machine}
use Rattle.lp_plain.specs.declared.outcome.Turn.{Turn}
use Rattle.lp_plain.specs.Assuming.{GrowsAt, IsPlaceAt, lists_of}
use Rattle.lp_plain.specs.AtRunTime.{IsAtLooked, IsAtTerm}
use Rattle.lp_plain.specs.Entries.{Around, GrowsGoals}
use Rattle.lp_plain.specs.HeadLooks.{LooksAt, OnlyBank}
use Rattle.lp_plain.specs.Moving.{IsRunning, LeadsTo, Query, Tally}
use Rattle.lp_plain.specs.Within.{StandsIn}
use Rattle.lp_plain.proofs.Assumed.{place_on}
use Rattle.lp_plain.proofs.FrontGoals.{front_of, front_waits}
use Rattle.lp_plain.proofs.Growing.{reads_later}
use Rattle.lp_plain.proofs.Grown.{grown_on, grown_still, placed_on, same_around}
use Rattle.lp_plain.proofs.Opening.{bank_grows, bank_stands}
use Rattle.lp_plain.proofs.Running.{running_still}
use Rattle.lp_plain.proofs.SeenGoals.{lacks_steps}

module _ (m n : Machine) (b : OnlyBank m n) where
  pub bank_goals : GrowsGoals m n
  bank_goals = bank_grows m n b.bank (ap (λ z. z.table) b.same) (ap (λ z. z.frames) b.same) (ap (λ z. z.scopes) b.same)

  pub bank_still : StandsIn m → StandsIn n
  bank_still = bank_stands m n b.bank (ap (λ z. z.table) b.same) (ap (λ z. z.frames) b.same) (ap (λ z. z.scopes) b.same)

  pub bank_grown : (p : Place) → GrowsAt m n p
  bank_grown p =
      grown_still m n p bank_goals (ap (λ z. z.frames) b.same) (record {
        assumptions = ap (λ z. z.assumptions) b.same;
        newest = ap (λ z. z.newest)
            b.same;
      }) (ap (λ z. z.standings) b.same) (ap (λ z. z.index) b.same)
      (ap (λ z. z.denied) b.same)

  pub place_later : (a : Around) (p : Place) → StandsIn m → IsPlaceAt (lists_of m) a p → IsPlaceAt (lists_of n) a p
  place_later a p i h = place_on (lists_of m) (lists_of n) i.table i.values (bank_grown p).lists a a p (same_around (length m.newest.items) (length m.standings.items) a) h

  module _ (qv : Query) (a : Around) (raw : Branch) (s : State Task) (h : IsRunning qv m a raw s) (p : Place) (pl : IsPlaceAt (lists_of m) a p) where
    pub running_on : IsRunning qv n a raw s
    running_on =
        let branch = ap (λ z. z.branch) b.same in
        let next = ap (λ z. z.next) branch in
        let c = ap (λ z. z.counts) b.same in
        running_still qv m n a a raw s h (bank_still h.above.done.stands) (placed_on m n a p (bank_grown p) h.above.done.stands h.placed pl) (grown_on m n p (bank_grown p))
        (same_around (length m.newest.items) (length m.standings.items) a) (record {
          bindings = ap (λ z. z.bindings) b.same;
          pairs = ap (λ z. z.pairs)
              branch;
        }) (ap (λ z. z.choices.items) b.same) h.levels raw h.at_work s h.under
        (omega (arith, next)) (next ∙ h.next) (ap (λ z. z.next_type) branch ∙ h.next_type) h.stack (record {
          steps = h.counted.steps ∙ ap (λ x. x.limit - x.steps) (sym c);
          rows = h.counted.rows;
          row = h.counted.row ∙ ap (λ x. 1000000 - x.row) (sym c);
          lost = h.counted.lost ∙ ap (λ x. x.lost) (sym c);
        })

    -- under the same reading
    pub closing_on : running_on.closing ≡ h.closing
    unfolding running_on running_still
    closing_on = refl

    pub looked_on : (t u : TermId) (o : Option ℕ) → LooksAt m n t (Some u) → IsAtTerm m a p t o raw → IsAtLooked n h.closing a p u o raw
    looked_on t u o l at = record {
      before = tree m.bank t.0;
      value = at.value;
      rest = at.rest;
      place = place_later a p h.above.done.stands at.place;
      within = l.0 at.within;
      heads = at.heads;
      looked = l.2 h.closing h.reading.reading;
      ended = subst (λ z. IsEnded z (tree n.bank u.0)) (sym (ap (λ z. z.bindings) b.same)) l.1;
      reads = reads_later m n h.above.done.stands bank_goals a o at.rest at.reads;
      goals = at.goals;
    }

-- a look that is too deep
pub deep_look : (qv : Query) (m n : Machine) (a : Around) (raw : Branch) (s : State Task) (h : IsRunning qv m a raw s) (p : Place) (t : TermId)
    (o : Option ℕ) → IsAtTerm m a p t o raw → LooksAt m n t None → (x : Tally) → LeadsTo 1 x qv (Turn.Ended Deep) n s
deep_look qv m n a raw s h p t o at l x w ea go enough few P ty =
    let f = front_of qv m a raw s h p at.value at.rest at.goals in
    inr (inl (front_waits qv m a raw s h p at.value at.rest f enough P w ea go
    (lacks_steps h.closing (tree m.bank t.0) at.value f.goal at.heads f.heads 1000000 (omega arith) (l h.closing h.reading.reading) enough (few refl))))
