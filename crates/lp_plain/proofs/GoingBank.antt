-- A search behind a step, where only the bank has grown since.
use Rattle.std.proofs.Common.{◌≡◌, ◌∷◌, length, sym, ap, ◌∙◌, subst, List}
use Rattle.std.specs.Prelude.{All}
use Rattle.lp_term.proofs.Trees.{extends-trans}
use Rattle.lp_model.specs.Branch.{Branch, Go, Task}
use Rattle.lp_model.specs.Skeleton.{State}
use Rattle.lp_pattern.specs.Growing.{Grows, IsPairOf}
use Rattle.lp_pattern.specs.Turning.{IsOpenReading}
use Rattle.lp_pattern.proofs.Keeps.{grows_same}
use Rattle.lp_pattern.proofs.Walking.{open_kept}
use Rattle.lp_plain.specs.declared.frame.Place.{Place}
use Rattle.lp_plain.specs.declared.machine.Machine.{Machine}
use Rattle.lp_plain.specs.Assuming.{IsPlaceAt, lists_of}
use Rattle.lp_plain.specs.Entries.{Around, Reads}
use Rattle.lp_plain.specs.HeadLooks.{OnlyBank, with_bank}
use Rattle.lp_plain.specs.Moving.{HasAlternatives, IsBranchUnder, IsCounted, IsGoingOn, IsState, Query, mark_in}
use Rattle.lp_plain.specs.Stacks.{base_of}
use Rattle.lp_plain.proofs.AboveUnder.{pairs_more, still_all, still_done, still_turn}
use Rattle.lp_plain.proofs.Growing.{reads_later}
use Rattle.lp_plain.proofs.Grown.{grown_on, placed_on, same_around}
use Rattle.lp_plain.proofs.Inside.{inside_still}
use Rattle.lp_plain.proofs.LookedOn.{bank_goals, bank_grown, bank_still, place_later}
use Rattle.lp_plain.proofs.Under.{branch_on}

pub bank_then : (m n o : Machine) → OnlyBank m n → OnlyBank n o → OnlyBank m o
bank_then m n o b c = record { bank = extends-trans m.bank n.bank o.bank b.bank c.bank; same = c.same ∙ ap (λ x. with_bank x o.bank) b.same }

module _ (qv : Query) (m n : Machine) (b : OnlyBank m n) (a : Around) (rest work : Branch) (below : List Task) (g : IsGoingOn qv m a rest work below) (p : Place) (pl : IsPlaceAt (lists_of m) a p) where
  pub place_bank : IsPlaceAt (lists_of n) a p
  place_bank = place_later m n b a p g.above.done.stands pl

  pub bound_bank : Grows m.bindings n.bindings
  bound_bank = subst (Grows m.bindings) (sym (ap (λ z. z.bindings) b.same)) (grows_same m.bindings)

  pub reading_bank : IsOpenReading n.bank n.bindings n.branch.next g.closing
  reading_bank =
      subst (λ x. IsOpenReading n.bank n.bindings x g.closing) (sym (ap (λ z. z.branch.next) b.same))
      (subst (λ x. IsOpenReading n.bank x m.branch.next g.closing) (sym (ap (λ z. z.bindings) b.same)) (open_kept m.bank n.bank m.bindings m.branch.next g.closing b.bank g.reading))

  abbrev pub above_bank : HasAlternatives qv n a below
  above_bank =
      let st = g.above.done.stands in
      let sn = bank_still m n b st in
      let gr = grown_on m n p (bank_grown m n b p) in
      let lt = same_around (length m.newest.items) (length m.standings.items) a in
      let ch = ap (λ z. z.choices.items) b.same in
      record {
        raws = g.above.raws;
        others = g.above.others;
        done = still_done qv m n a a st sn gr lt bound_bank below g.above ch;
        numbers = g.above.numbers;
        are = still_all qv m n a a st sn gr lt bound_bank below g.above ch;
        in_turn = still_turn qv m n a a st sn gr lt bound_bank below g.above ch;
        is = g.above.is;
        inside = inside_still qv m n a a st gr lt bound_bank g.above.inside g.above.done.base ch;
      }

  pub under_bank : IsBranchUnder qv g.levels n.bank g.closing (mark_in (base_of n.denied) g.above.raws) (base_of n.denied) (length n.choices.items) n.branch.pairs.items rest work
  under_bank =
      subst (λ (x : Machine). IsBranchUnder qv g.levels n.bank g.closing (mark_in (base_of x.denied) g.above.raws) (base_of x.denied) (length x.choices.items) x.branch.pairs.items rest work) (sym b.same)
      (branch_on qv g.levels m.bank g.closing (base_of m.denied) (length m.choices.items) m.branch.pairs.items n.bank b.bank g.left (mark_in (base_of m.denied) g.above.raws) rest work g.under)

  abbrev pub going_bank : IsGoingOn qv n a rest work below
  going_bank = record {
    above = above_bank;
    placed = placed_on m n a p (bank_grown m n b p) g.above.done.stands g.placed pl;
    goals = subst (λ x. Reads n a x rest.goals) (sym (ap (λ z. z.branch.goals) b.same)) (reads_later m n g.above.done.stands (bank_goals m n b) a m.branch.goals rest.goals g.goals);
    next = ap (λ z. z.branch.next) b.same ∙ g.next;
    next_type = ap (λ z. z.branch.next_type) b.same ∙ g.next_type;
    closing = g.closing;
    reading = reading_bank;
    left = subst (λ (x : Machine). All (IsPairOf (length n.bank.terms)) x.branch.pairs.items) (sym b.same) (pairs_more (length m.bank.terms) (length n.bank.terms) m.branch.pairs.items b.bank.more_terms g.left);
    levels = g.levels;
    under = under_bank;
  }

-- a search that goes on with the goals behind
pub going_state : (qv : Query) (n : Machine) (a : Around) (rest work : Branch) (below : List Task) → IsGoingOn qv n a rest work below → (t : State Task) → t.stack ≡ Go work ∷ below → IsCounted n t → IsState qv n t
going_state qv n a rest work below g t e c = record {
  around = a;
  raw = rest;
  goals = g.goals;
  running = record {
    at_work = work;
    rest = below;
    stack = e;
    above = g.above;
    placed = g.placed;
    next = g.next;
    next_type = g.next_type;
    closing = g.closing;
    reading = g.reading;
    left = g.left;
    levels = g.levels;
    under = g.under;
    counted = c;
  };
}
