-- A cut is one move of the definition.
use Rattle.std.proofs.Common.{◌≡◌, ℕ, zero, suc, ◌+◌, ◌-◌, ◌<◌, ◌≤◌, List, [], ◌∷◌, length, take, drop, refl, sym, ap, ◌∙◌, subst, arith, nat_lt, Bool, Option}
use Rattle.std.specs.Prelude.{All, ◌||◌}
use Rattle.lp_term.specs.Nodes.{Extends}
use Rattle.lp_term.proofs.Trees.{extends_same}
use Rattle.lp_model.specs.Branch.{Answer, Branch, Entry, Go, Task}
use Rattle.lp_model.specs.Flat.{Clause, Goal, Atomic, Cut, Either, Exists, Forall, Assume, Not}
use Rattle.lp_model.specs.Pair.{Closing}
use Rattle.lp_model.specs.Search.{look, look_branch, look_goal, with_goals}
use Rattle.lp_model.specs.Skeleton.{CutNote, Cuts as View_Cuts, Goes, Inner, State, back, move, move_at, move_view, oldest}
use Rattle.lp_model.specs.Unify.{unit_limit}
use Rattle.lp_pattern.specs.Growing.{Grows, IsPairOf}
use Rattle.lp_pattern.specs.Turning.{IsOpenReading}
use Rattle.lp_pattern.proofs.Keeps.{grows_same}
use Rattle.lp_model.specs.declared.ending.Ending.TheVariants.{Steps}
use Rattle.lp_plain.specs.declared.frame.Frame.{Frame}
use Rattle.lp_plain.specs.declared.frame.Place.{Place}
use Rattle.lp_plain.specs.declared.machine.Machine.{Machine}
use Rattle.lp_plain.specs.declared.outcome.Turn.{Turn}
use Rattle.lp_plain.specs.declared.table.Flat.{Flat}
use Rattle.lp_plain.specs.Assuming.{ArePlaced, GrowsOn, IsLaterAround, IsPlaceAt, lists_of}
use Rattle.lp_plain.specs.Cuts.{Cuts}
use Rattle.lp_plain.specs.Entries.{Around, Reads, entry_at}
use Rattle.lp_plain.specs.Moving.{Query, IsGoalUnder, AreEntriesUnder, IsBranchUnder, IsEntryUnder, IsAtGoal, IsMoved, IsRunning, IsState, KeepsSearch, MovesTo, mark_in, quiet, taking}
use Rattle.lp_plain.specs.Resuming.{AreKnownEntries}
use Rattle.lp_plain.specs.Stacks.{base_of, stack_of, CutsTasks}
use Rattle.lp_plain.specs.Tables.{IsGoal, Never, shown}
use Rattle.lp_plain.specs.Taking.{goal_in}
use Rattle.lp_plain.specs.Within.{StandsIn}
use Rattle.lp_plain.specs.inner.Beginning.{IsToldFirst, TellsFirst}
use Rattle.lp_plain.proofs.AboveUnder.{alternatives_taken, counts_same, have_tasks, kept_all, kept_done, kept_turn, marks_fewer, pairs_more}
use Rattle.lp_plain.proofs.Assumed.{lists_noted}
use Rattle.lp_plain.proofs.Backwards.{on_kept}
use Rattle.lp_plain.proofs.Frames.{reads_on}
use Rattle.lp_plain.proofs.Grown.{same_around}
use Rattle.lp_plain.proofs.Inside.{inside_cut}
use Rattle.lp_plain.proofs.Marking.{drop_length}
use Rattle.lp_plain.proofs.Opening.{same_stands}
use Rattle.lp_plain.proofs.QuietMoves.{by_lost}
use Rattle.lp_plain.proofs.Stacking.{cut_tasks}
use Rattle.lp_plain.proofs.Under.{branch_marked, branch_on}

-- the first of the entries that are read
pub record IsSplit (z : Closing) (f : ℕ → ℕ) (l u : ℕ) (e : Entry) (es ds : List Entry) : Type 0 where
  pub first : Entry
  pub rest : List Entry
  pub whole : ds ≡ first ∷ rest
  pub entry : IsEntryUnder z f l u e first
  pub others : AreEntriesUnder z f l e.mark es rest

pub split_under : (z : Closing) (f : ℕ → ℕ) (l u : ℕ) (e : Entry) (es ds : List Entry) → AreEntriesUnder z f l u (e ∷ es) ds → IsSplit z f l u e es ds
split_under z f l u e es [] h = absurd h
split_under z f l u e es (d ∷ ds) h = record { first = d; rest = ds; whole = refl; entry = h.0; others = h.1 }

module _ (qv : Query) (m n : Machine) (a : Around) (raw : Branch) (s : State Task) (h : IsRunning qv m a raw s) (behind : Option ℕ) (e : Entry) (es : List Entry) (k : KeepsSearch m n behind)
    (reads : Reads m a behind es) (goals : raw.goals ≡ e ∷ es) (cut : e.goal ≡ Cut) (c : Cuts m n e.mark behind) (there : m.counts.steps < m.counts.limit) where
  abbrev base : ℕ
  base = base_of m.denied

  abbrev f : ℕ → ℕ
  f = mark_in base h.above.raws

  sp : IsSplit h.closing f base (length m.choices.items) e es h.at_work.goals
  sp = split_under h.closing f base (length m.choices.items) e es h.at_work.goals (subst (λ x. AreEntriesUnder h.closing f base (length m.choices.items) x h.at_work.goals) goals h.under.goals)

  grown : GrowsOn m n
  grown = on_kept m n k.goals k.assumed k.denied

  bound : Grows m.bindings n.bindings
  bound = subst (Grows m.bindings) (sym k.goals.known.bindings) (grows_same m.bindings)

  bank : Extends m.bank n.bank
  bank = subst (Extends m.bank) (sym k.goals.known.bank) (extends_same m.bank)

  around : IsLaterAround (length m.newest.items) (length m.standings.items) a a
  around = same_around (length m.newest.items) (length m.standings.items) a

  stands : StandsIn n
  stands = same_stands m n k.goals k.frames h.above.done.stands

  counted : (length h.above.raws ≡ length (drop base m.choices.items)) × (length h.above.others ≡ length (drop base m.choices.items)) ×
      (length (stack_of h.above.others) ≡ length (stack_of h.above.raws))
  counted = counts_same qv m f base base (drop base m.choices.items) h.above.raws h.above.others h.above.are

  abbrev kept : List (List Task)
  kept = take (e.mark - base) h.above.others

  abbrev raws : List (List Task)
  raws = take (e.mark - base) h.above.raws

  placed : ArePlaced n a
  placed =
      subst (λ z. All (λ (x : Frame). IsPlaceAt (lists_of n) a x.place) z.items) (sym k.frames)
      (subst (λ z. All (λ (x : Frame). IsPlaceAt z a x.place) m.frames.items) (lists_noted m n k.goals k.assumed) h.placed)

  -- the definition's mark
  mark_is : sp.first.mark ≡ length (stack_of kept)
  mark_is =
      let j = e.mark - base in
      let r = counts_same qv m f base base (take j (drop base m.choices.items)) (take j h.above.raws) kept
      (alternatives_taken qv m f base j base (drop base m.choices.items) h.above.raws h.above.others h.above.are) in
      sp.entry.mark ∙ sym r.2

  tasks : CutsTasks m n e.mark sp.first.mark h.above.others
  tasks =
      cut_tasks m n e.mark sp.first.mark h.above.others k.denied c.choices (ap (λ x. x.lost) c.counts) (record {
        count = (let r = counted in let p = r.1 in let b = h.above.done.base in let d = drop_length base m.choices.items b in omega (arith, p, d));
        tasks = have_tasks qv m f base a base 0 (drop base m.choices.items) h.above.raws h.above.others h.above.done.alternatives h.above.are;
      }) (sp.entry.low, mark_is)

  -- the branch behind the cut
  abbrev after : Branch
  after = with_goals raw es

  abbrev at_work : Branch
  at_work = with_goals h.at_work sp.rest

  here : IsBranchUnder qv h.levels n.bank h.closing (mark_in base raws) base e.mark m.branch.pairs.items after at_work
  here =
      branch_on qv h.levels m.bank h.closing base e.mark m.branch.pairs.items n.bank bank h.left (mark_in base raws) after at_work
      (branch_marked qv h.levels m.bank h.closing base e.mark m.branch.pairs.items f (mark_in base raws)
      (λ i p q. marks_fewer base (e.mark - base) h.above.raws i (omega (arith, p, q))) after at_work (record {
        goals = sp.others;
        next = h.under.next;
        next_type = h.under.next_type;
        types = h.under.types;
        values = h.under.values;
        pairs = h.under.pairs;
        known = record {
          goals = (subst (λ x. AreKnownEntries h.levels raw.next h.closing x) goals h.under.known.goals).1;
          values = h.under.known.values;
          pairs = h.under.known.pairs;
          free = h.under.known.free;
        };
      }))

  height : e.mark ≡ length n.choices.items
  height = let l = sp.entry.high in sym (ap length c.choices ∙ whole e.mark m.choices.items l)
    where
      whole : {X : Type 0} (i : ℕ) (xs : List X) → i ≤ length xs → length (take i xs) ≡ i
      whole zero xs l = refl
      whole (suc i) [] l = absurd (omega (arith, l))
      whole (suc i) (x ∷ xs) l = ap suc (whole i xs (omega (arith, l)))

  under : IsBranchUnder qv h.levels n.bank h.closing (mark_in (base_of n.denied) raws) (base_of n.denied) (length n.choices.items) n.branch.pairs.items after at_work
  under =
      subst (λ b. IsBranchUnder qv h.levels n.bank h.closing (mark_in b raws) b (length n.choices.items) n.branch.pairs.items after at_work) (ap base_of (sym k.denied))
      (subst (λ i. IsBranchUnder qv h.levels n.bank h.closing (mark_in base raws) base i n.branch.pairs.items after at_work) height
      (subst (λ q. IsBranchUnder qv h.levels n.bank h.closing (mark_in base raws) base e.mark q.items after at_work) (sym k.pairs) here))

  -- the move
  abbrev left : ℕ
  left = m.counts.limit - (m.counts.steps + 1)

  abbrev next : (w : ℕ) → State Task
  next w = record {
    steps = left;
    answers = suc w;
    given = s.given;
    rows = s.rows;
    row = s.rows;
    lost = s.lost || nat_lt sp.first.mark (length h.rest);
    stack = Go at_work ∷ oldest sp.first.mark h.rest;
  }

  is_state : (w : ℕ) → IsState qv n (next w)
  is_state w = record {
    around = a;
    raw = after;
    goals = subst (λ o. Reads n a o es) (sym k.front) (reads_on m n a behind es k.goals reads);
    running = record {
      at_work = at_work;
      rest = oldest sp.first.mark h.rest;
      stack = refl;
      above = record {
        raws = raws;
        others = kept;
        done = kept_done qv m n a a h.above.done.stands stands grown around bound e.mark c.choices sp.entry.low h.rest h.above;
        numbers = h.above.numbers;
        are = kept_all qv m n a a h.above.done.stands stands grown around bound e.mark c.choices sp.entry.low h.rest h.above;
        in_turn = kept_turn qv m n a a h.above.done.stands stands grown around bound e.mark c.choices sp.entry.low h.rest h.above;
        is = ap (oldest sp.first.mark) h.above.is ∙ sym tasks.stack;
        inside = inside_cut qv m n a a h.above.done.stands grown around bound h.above.inside h.above.done.base e.mark c.choices sp.entry.low;
      };
      placed = placed;
      next = k.next ∙ h.next;
      next_type = k.next_type ∙ h.next_type;
      closing = h.closing;
      reading = subst (λ x. IsOpenReading n.bank n.bindings x h.closing) (sym k.next) (subst (λ x. IsOpenReading n.bank x m.branch.next h.closing) (sym k.goals.known.bindings)
          (subst (λ x. IsOpenReading x m.bindings m.branch.next h.closing) (sym k.goals.known.bank) h.reading));
      left = subst (λ q. All (IsPairOf (length n.bank.terms)) q.items) (sym k.pairs) (pairs_more (length m.bank.terms) (length n.bank.terms) m.branch.pairs.items bank.more_terms h.left);
      levels = h.levels;
      under = under;
      counted = record {
        steps = ap (λ x. x.limit - x.steps) (sym c.counts);
        rows = h.counted.rows;
        row = h.counted.rows ∙ ap (λ x. 1000000 - x.row) (sym c.counts);
        lost = ap (λ x. x || nat_lt sp.first.mark (length h.rest)) h.counted.lost ∙ ap (λ x. m.counts.lost || nat_lt sp.first.mark (length x)) h.above.is ∙ sym tasks.lost;
      };
    };
  }

  module _ (w : ℕ) (ea : s.answers ≡ suc w) (go : (Answer → Bool) → State Task → Inner) (enough : ℕ) (P : List Clause) where
    looked : look unit_limit enough P (length h.rest) (Go h.at_work) ≡ View_Cuts sp.first.mark (Go at_work ∷ [])
    looked =
        ap (look_branch unit_limit enough P (length h.rest) h.at_work) sp.whole ∙ ap (look_goal unit_limit enough P (length h.rest) sp.first at_work)
        (subst (λ g. IsGoalUnder h.closing g sp.first.goal) cut sp.entry.goal)

    steps_are : s.steps ≡ suc left
    steps_are = let q = h.counted.steps in let l = there in omega (arith, q, l)

    moved : move go (look unit_limit enough P) s ≡ Goes 1 (CutNote ∷ []) (next w)
    moved =
        (λ i. move_at go (look unit_limit enough P) (steps_are i) (ea i) s.given s.rows s.row s.lost (h.stack i)) ∙
        by_lost go (look unit_limit enough P) (suc left) w s.given s.rows s.row s.lost (Go h.at_work) h.rest ∙ ap (move_view go (suc left) w s.given s.rows s.row s.lost h.rest) looked

    pub cut_moves : IsMoved (taking CutNote) qv Turn.On n (move go (look unit_limit enough P) s) s
    cut_moves = (next w, moved, is_state w, sym ea, refl)

-- by the goal at hand
cut_is : (m : Machine) (g : Goal) → IsGoal m.bank Never (shown m.table) Flat.Cut g → g ≡ Cut
cut_is m (Atomic u) h = absurd (let z = h.1 in cc)
cut_is m Cut h = refl
cut_is m (Either gs hs) h = absurd (let z = h.2 in cc)
cut_is m (Exists T gs) h = absurd (let z = h.1 in cc)
cut_is m (Forall T gs) h = absurd (let z = h.1 in cc)
cut_is m (Assume w cs gs) h = absurd (let z = h.3 in cc)
cut_is m (Not w gs) h = absurd (let z = h.2 in cc)

pub cut_moved : (qv : Query) (m n : Machine) (p : Place) (o : Option ℕ) → KeepsSearch m n o → Cuts m n p.mark o → m.counts.steps < m.counts.limit →
    (a : Around) (raw : Branch) (s : State Task) → IsRunning qv m a raw s → IsAtGoal m a p Flat.Cut o raw →
    MovesTo (taking CutNote) qv Turn.On n s
cut_moved qv m n p o k c l a raw s h at w ea go enough P =
    let q = ap (goal_in at.values p.values.types) (cut_is m at.goal at.is) in
    cut_moves qv m n a raw s h o (entry_at a p (goal_in at.values p.values.types at.goal)) at.rest k at.reads at.goals q (subst (λ i. Cuts m n i o) (sym (h.above.numbers p.mark)) c) l w ea go enough P

-- what the definition sees of it
cut_seen : (qv : Query) (m : Machine) (p : Place) (o : Option ℕ) (a : Around) (raw : Branch) (s : State Task) (h : IsRunning qv m a raw s) → IsAtGoal m a p Flat.Cut o raw → (enough : ℕ) (P : List Clause) →
    (mark : ℕ) × (ts : List Task) × (look unit_limit enough P (length h.rest) (Go h.at_work) ≡ View_Cuts mark ts)
cut_seen qv m p o a raw s h at enough P =
    let e = entry_at a p (goal_in at.values p.values.types at.goal) in
    let b = base_of m.denied in
    let sp = split_under h.closing (mark_in b h.above.raws) b (length m.choices.items) e at.rest h.at_work.goals
    (subst (λ x. AreEntriesUnder h.closing (mark_in b h.above.raws) b (length m.choices.items) x h.at_work.goals) at.goals h.under.goals) in
    let behind = with_goals h.at_work sp.rest in (
      sp.first.mark,
      Go behind ∷ [],
      ap (look_branch unit_limit enough P (length h.rest) h.at_work) sp.whole ∙ ap (look_goal unit_limit enough P (length h.rest) sp.first behind)
          (subst (λ g. IsGoalUnder h.closing g sp.first.goal) (ap (goal_in at.values p.values.types) (cut_is m at.goal at.is)) sp.entry.goal),
    )

-- a step is left
pub cut_tells : (qv : Query) (m : Machine) (p : Place) (o : Option ℕ) → m.counts.steps < m.counts.limit → (a : Around) (raw : Branch) (s : State Task) → IsRunning qv m a raw s →
    IsAtGoal m a p Flat.Cut o raw → IsToldFirst s CutNote
cut_tells qv m p o l a raw s h at w ea go enough P =
    let r = cut_seen qv m p o a raw s h at enough P in
    let left = m.counts.limit - (m.counts.steps + 1) in
    let some : s.steps ≡ suc left = (let q = h.counted.steps in omega (arith, q, l)) in
    let moved : move go (look unit_limit enough P) s ≡ move_view go (suc left) w s.given s.rows s.row s.lost h.rest (View_Cuts r.0 r.1) =
    (λ i. move_at go (look unit_limit enough P) (some i) (ea i) s.given s.rows s.row s.lost (h.stack i)) ∙ by_lost go (look unit_limit enough P) (suc left) w
    s.given s.rows s.row s.lost (Go h.at_work) h.rest ∙
    ap (move_view go (suc left) w s.given s.rows s.row s.lost h.rest) r.2 in
    subst (TellsFirst CutNote) (sym moved) (omega arith, back r.1 (oldest r.0 h.rest), refl)

-- no step is left
pub cut_stops : (qv : Query) (m n : Machine) (p : Place) (o : Option ℕ) → m.counts.limit ≤ m.counts.steps → (a : Around) (raw : Branch)
    (s : State Task) → IsRunning qv m a raw s → IsAtGoal m a p Flat.Cut o raw → MovesTo quiet qv (Turn.Ended Steps) n s
cut_stops qv m n p o l a raw s h at w ea go enough P =
    let seen = (cut_seen qv m p o a raw s h at enough P).2 in
    let none : s.steps ≡ 0 = (let q = h.counted.steps in omega (arith, q, l)) in (
      refl,
      (λ i. move_at go (look unit_limit enough P) (none i) (ea i) s.given s.rows s.row s.lost (h.stack i)) ∙ by_lost go (look unit_limit enough P) 0 w
          s.given s.rows s.row s.lost (Go h.at_work) h.rest ∙
          ap (move_view go 0 w s.given s.rows s.row s.lost h.rest) seen,
    )
