-- An atom that took its step: the search is to go on with the goals behind it.
use Rattle.std.proofs.Common.{◌≡◌, ℕ, ◌+◌, ◌-◌, List, length, sym, ap, ◌∙◌, subst, Option}
use Rattle.std.specs.Prelude.{All}
use Rattle.lp_calculus.specs.Term.{Term}
use Rattle.lp_term.specs.Nodes.{Extends}
use Rattle.lp_term.proofs.Trees.{extends_same}
use Rattle.lp_model.specs.Branch.{Branch, Entry, Task}
use Rattle.lp_model.specs.Search.{with_goals}
use Rattle.lp_model.specs.Skeleton.{State}
use Rattle.lp_pattern.specs.Growing.{Grows, IsPairOf}
use Rattle.lp_pattern.specs.Turning.{IsOpenReading}
use Rattle.lp_pattern.proofs.Keeps.{grows_same}
use Rattle.lp_plain.specs.declared.frame.Frame.{Frame}
use Rattle.lp_plain.specs.declared.frame.Place.{Place}
use Rattle.lp_plain.specs.declared.machine.Machine.{Machine}
use Rattle.lp_plain.specs.Assuming.{ArePlaced, GrowsOn, IsLaterAround, IsPlaceAt, lists_of}
use Rattle.lp_plain.specs.Cuts.{one_step}
use Rattle.lp_plain.specs.Entries.{Around, Reads}
use Rattle.lp_plain.specs.Moving.{HasAlternatives, IsBranchUnder, IsCounted, IsGoingOn, IsRunning, KeepsSearch, Query, mark_in}
use Rattle.lp_plain.specs.Stacks.{base_of}
use Rattle.lp_plain.specs.Within.{StandsIn}
use Rattle.lp_plain.proofs.AboveUnder.{pairs_more, still_all, still_done, still_turn}
use Rattle.lp_plain.proofs.Assumed.{lists_noted}
use Rattle.lp_plain.proofs.Backwards.{on_kept}
use Rattle.lp_plain.proofs.Frames.{reads_on}
use Rattle.lp_plain.proofs.FrontGoals.{IsFront}
use Rattle.lp_plain.proofs.Grown.{same_around}
use Rattle.lp_plain.proofs.Inside.{inside_still}
use Rattle.lp_plain.proofs.Opening.{same_stands}
use Rattle.lp_plain.proofs.Under.{branch_on, entries_wider}

module _ (qv : Query) (m n : Machine) (a : Around) (raw : Branch) (s : State Task) (h : IsRunning qv m a raw s) (p : Place) (value : Term) (es : List Entry) (f : IsFront qv m a raw s h p value es) (o : Option ℕ) (reads : Reads m a o es)
    (k : KeepsSearch m n o) (ch : n.choices ≡ m.choices) where
  abbrev pub base : ℕ
  base = base_of m.denied

  abbrev pub marks : ℕ → ℕ
  marks = mark_in base h.above.raws

  pub grown : GrowsOn m n
  grown = on_kept m n k.goals k.assumed k.denied

  pub bound : Grows m.bindings n.bindings
  bound = subst (Grows m.bindings) (sym k.goals.known.bindings) (grows_same m.bindings)

  pub bank : Extends m.bank n.bank
  bank = subst (Extends m.bank) (sym k.goals.known.bank) (extends_same m.bank)

  pub around : IsLaterAround (length m.newest.items) (length m.standings.items) a a
  around = same_around (length m.newest.items) (length m.standings.items) a

  pub stands : StandsIn n
  stands = same_stands m n k.goals k.frames h.above.done.stands

  pub items : n.choices.items ≡ m.choices.items
  items = ap (λ v. v.items) ch

  abbrev pub above : HasAlternatives qv n a h.rest
  above = record {
    raws = h.above.raws;
    others = h.above.others;
    done = still_done qv m n a a h.above.done.stands stands grown around bound h.rest h.above items;
    numbers = h.above.numbers;
    are = still_all qv m n a a h.above.done.stands stands grown around bound h.rest h.above items;
    in_turn = still_turn qv m n a a h.above.done.stands stands grown around bound h.rest h.above items;
    is = h.above.is;
    inside = inside_still qv m n a a h.above.done.stands grown around bound h.above.inside h.above.done.base items;
  }

  pub placed : ArePlaced n a
  placed =
      subst (λ z. All (λ (x : Frame). IsPlaceAt (lists_of n) a x.place) z.items) (sym k.frames)
      (subst (λ z. All (λ (x : Frame). IsPlaceAt z a x.place) m.frames.items) (lists_noted m n k.goals k.assumed) h.placed)

  abbrev pub after : Branch
  after = with_goals raw es

  abbrev pub at_work : Branch
  at_work = with_goals h.at_work f.rest

  pub here : IsBranchUnder qv h.levels n.bank h.closing marks base (length m.choices.items) m.branch.pairs.items after at_work
  here =
      branch_on qv h.levels m.bank h.closing base (length m.choices.items) m.branch.pairs.items n.bank bank h.left marks after at_work
      (record {
        goals = entries_wider h.closing marks base (a.mark p.mark) (length m.choices.items) es f.rest f.entry.high f.others;
        next = h.under.next;
        next_type = h.under.next_type;
        types = h.under.types;
        values = h.under.values;
        pairs = h.under.pairs;
        known = record { goals = f.known.1; values = h.under.known.values; pairs = h.under.known.pairs; free = h.under.known.free };
      })

  abbrev pub going_on : IsGoingOn qv n a (with_goals raw es) (with_goals h.at_work f.rest) h.rest
  going_on = record {
    above = above;
    placed = placed;
    goals = subst (λ x. Reads n a x es) (sym k.front) (reads_on m n a o es k.goals reads);
    next = k.next ∙ h.next;
    next_type = k.next_type ∙ h.next_type;
    closing = h.closing;
    reading = subst (λ x. IsOpenReading n.bank n.bindings x h.closing) (sym k.next) (subst (λ x. IsOpenReading n.bank x m.branch.next h.closing) (sym k.goals.known.bindings)
        (subst (λ x. IsOpenReading x m.bindings m.branch.next h.closing) (sym k.goals.known.bank) h.reading));
    left = subst (λ q. All (IsPairOf (length n.bank.terms)) q.items) (sym k.pairs) (pairs_more (length m.bank.terms) (length n.bank.terms) m.branch.pairs.items bank.more_terms h.left);
    levels = h.levels;
    under = subst (λ b. IsBranchUnder qv h.levels n.bank h.closing (mark_in b h.above.raws) b (length n.choices.items) n.branch.pairs.items after at_work) (ap base_of (sym k.denied))
        (subst (λ v. IsBranchUnder qv h.levels n.bank h.closing marks base (length v.items) n.branch.pairs.items after at_work) (sym ch)
        (subst (λ q. IsBranchUnder qv h.levels n.bank h.closing marks base (length m.choices.items) q.items after at_work) (sym k.pairs) here));
  }

-- a step was counted
pub step_counted : (qv : Query) (m n : Machine) (a : Around) (raw : Branch) (s : State Task) → IsRunning qv m a raw s → n.counts ≡ one_step m.counts → (w : ℕ) (stack : List Task) →
    IsCounted n (record { steps = m.counts.limit - (m.counts.steps + 1); answers = w; given = s.given; rows = s.rows; row = s.rows; lost = s.lost; stack = stack })
step_counted qv m n a raw s h c w stack = record {
  steps = ap (λ x. x.limit - x.steps) (sym c);
  rows = h.counted.rows;
  row = h.counted.rows ∙ ap (λ x. 1000000 - x.row) (sym c);
  lost = h.counted.lost ∙ ap (λ x. x.lost) (sym c);
}
