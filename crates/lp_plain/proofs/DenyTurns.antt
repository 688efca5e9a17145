-- A negated goal in front: its search begins where the definition's does, and the search ends where the definition's ends at the test.
use Rattle.std.proofs.Common.{◌≡◌, ℕ, zero, suc, ◌+◌, ◌-◌, ◌<◌, ◌≤◌, List, [], ◌∷◌, ◌++◌, length, refl, sym, ap, inl, inr, ◌∙◌, subst, arith, Bool, true, false, Option, None, Some}
use Rattle.lp_calculus.specs.Types.{instance}
use Rattle.lp_lemmas.specs.Each.{EachOf}
use Rattle.lp_term.specs.Nodes.{Nodes, Extends}
use Rattle.lp_model.specs.Branch.{Answer, Branch, Entry, Go, Stop, Task, both_written, entries}
use Rattle.lp_model.specs.Flat.{Clause, Goal, Atomic, Cut, Either, Exists, Forall, Assume, Not, Goals, Written, collect_goals, goal_list, map_goals, map_written, written_in_goals}
use Rattle.lp_model.specs.Pair.{closed}
use Rattle.lp_model.specs.Search.{has_no_pairs, has_variables, look, look_branch, look_goal, look_not, with_goals}
use Rattle.lp_model.specs.Skeleton.{Broke, Denies, Held, Inner, Lasts, Refuted, State, back, move, move_at, move_denied, move_view, named, not_constant, GoalNote, starts_within}
use Rattle.lp_model.specs.Unify.{unit_limit}
use Rattle.lp_model.specs.declared.ending.Ending.TheVariants.{Deep, OpenNot, Steps}
use Rattle.lp_pattern.proofs.Walking.{open_kept}
use Rattle.lp_plain.specs.declared.frame.Place.{Place}
use Rattle.lp_plain.specs.declared.machine.Machine.{Machine}
use Rattle.lp_plain.specs.declared.openness.Openness.{Openness}
use Rattle.lp_plain.specs.declared.openness.Openness.TheVariants as found
use Rattle.lp_plain.specs.declared.outcome.Turn.{Turn}
use Rattle.lp_plain.specs.declared.table.Flat.{Flat}
use Rattle.lp_plain.specs.AtRunTime.{IsSmallExpression}
use Rattle.lp_plain.specs.Assuming.{ArePlaced, GrowsAt, IsPlaceAt, lists_of, written_at}
use Rattle.lp_plain.specs.Cuts.{one_step}
use Rattle.lp_plain.specs.Denials.{EndsDenied, IsBegun, IsDenying, IsSeenAs}
use Rattle.lp_plain.specs.Reached.{HasSmallFirst, IsSmallGoal}
use Rattle.lp_plain.specs.Entries.{Around, entry_at, in_scope}
use Rattle.lp_plain.specs.Moving.{AreEntriesUnder, HasAlternatives, IsAtGoal, IsRunning, IsWaiting, Leads, Query, mark_in, quiet, taking}
use Rattle.lp_plain.specs.Negations.{AreFound}
use Rattle.lp_plain.specs.Stacks.{base_of}
use Rattle.lp_plain.specs.Tables.{IsGoal, IsListOf, IsNumbered, Never, shown}
use Rattle.lp_plain.specs.Taking.{goal_in}
use Rattle.lp_plain.specs.Within.{StandsIn}
use Rattle.lp_plain.specs.inner.Beginning.{IsToldFirst, TellsFirst}
use Rattle.lp_plain.proofs.AboveUnder.{pairs_more, still_all, still_done, still_turn}
use Rattle.lp_plain.proofs.Assumed.{place_on}
use Rattle.lp_plain.proofs.ClosingTests.{IsGiven, IsTested, closed_given, deep_given, open_given}
use Rattle.lp_plain.proofs.CutMoves.{IsSplit, split_under}
use Rattle.lp_plain.proofs.DenyBegins.{begun}
use Rattle.lp_plain.proofs.Growing.{of_later, reads_later}
use Rattle.lp_plain.proofs.Grown.{grown_on, grown_still, placed_on, same_around}
use Rattle.lp_plain.proofs.Inside.{inside_still}
use Rattle.lp_plain.proofs.OpenTests.{standing_tested}
use Rattle.lp_plain.proofs.Opening.{bank_grows, bank_stands}
use Rattle.lp_plain.proofs.QuietMoves.{by_lost}
use Rattle.lp_plain.proofs.TaskMoves.{stops}
use Rattle.lp_plain.proofs.Under.{branch_on}
use Rattle.lp_pattern.proofs.Keeps.{grows_same}

-- the goals of a negated goal of the table
pub record IsNegated (m : Machine) (list free : ℕ) (g : Goal) : Type 0 where
  pub goals : Goals
  pub is : g ≡ Not (written_in_goals goals) goals
  pub listed : IsListOf m.bank m.table list goals
  pub numbered : IsNumbered m.table.frees.items free (λ f. collect_goals f 0 goals)

negated_is : (m : Machine) (list free : ℕ) (g : Goal) → IsGoal m.bank Never (shown m.table) (Flat.Not list free) g → IsNegated m list free g
negated_is m list free (Atomic u) h = absurd (let z = h.1 in cc)
negated_is m list free Cut h = absurd (cc)
negated_is m list free (Either gs hs) h = absurd (let z = h.2 in cc)
negated_is m list free (Exists T gs) h = absurd (let z = h.1 in cc)
negated_is m list free (Forall T gs) h = absurd (let z = h.1 in cc)
negated_is m list free (Assume w cs gs) h = absurd (let z = h.3 in cc)
negated_is m list free (Not w gs) h =
    let e : Flat.Not list free ≡ Flat.Not h.0 h.1 = h.2 in
    let l : h.0 ≡ list = cc in
    let n : h.1 ≡ free = cc in
    record {
      goals = gs;
      is = ap (λ x. Not x gs) h.3;
      listed = subst (λ i. IsListOf m.bank m.table i gs) l h.4;
      numbered = subst (λ i. IsNumbered m.table.frees.items i (λ f. collect_goals f 0 gs)) n h.5;
    }

module _ (qv : Query) (m : Machine) (a : Around) (raw : Branch) (s : State Task) (h : IsRunning qv m a raw s) (p : Place) (list free : ℕ)
    (behind : Option ℕ) (at : IsAtGoal m a p (Flat.Not list free) behind raw) where
  pub ng : IsNegated m list free at.goal
  ng = negated_is m list free at.goal at.is

  abbrev gs : Goals
  gs = in_scope at.values p.values.types ng.goals

  abbrev w : Written
  w = written_at at.values p.values.types (written_in_goals ng.goals)

  abbrev e : Entry
  e = entry_at a p (Not w gs)

  goals_are : raw.goals ≡ e ∷ at.rest
  goals_are = at.goals ∙ ap (λ g. entry_at a p (goal_in at.values p.values.types g) ∷ at.rest) ng.is

  abbrev f : ℕ → ℕ
  f = mark_in (base_of m.denied) h.above.raws

  pub sp : IsSplit h.closing f (base_of m.denied) (length m.choices.items) e at.rest h.at_work.goals
  sp = split_under h.closing f (base_of m.denied) (length m.choices.items) e at.rest h.at_work.goals
      (subst (λ x. AreEntriesUnder h.closing f (base_of m.denied) (length m.choices.items) x h.at_work.goals) goals_are h.under.goals)

  abbrev pub waits : Branch
  waits = with_goals h.at_work sp.rest

  -- the goal in front, as the bindings read it
  abbrev own : Written
  own = map_written (closed h.closing) (instance h.closing.types) w

  abbrev goals : Goals
  goals = map_goals (λ u. u) (λ u x. closed h.closing x) (instance h.closing.types) zero gs

  goal_is : sp.first.goal ≡ Not own goals
  goal_is = sp.entry.goal

  abbrev asked : Written
  asked = both_written own sp.first.written

  seen_is : (enough : ℕ) (P : List Clause) (o : Option Bool) → has_variables enough asked ≡ o → look unit_limit enough P (length h.rest) (Go h.at_work) ≡ look_not sp.first waits goals o
  seen_is enough P o q =
      ap (look_branch unit_limit enough P (length h.rest) h.at_work) sp.whole ∙ ap (look_goal unit_limit enough P (length h.rest) sp.first waits) goal_is ∙ ap (look_not sp.first waits goals) q

  -- what the search finds of the test
  tested : (n : ℕ) (o : Openness) → AreFound m (record { free = free; values = p.values; older = p.standing }) o → IsTested n o asked
  tested n o k =
      subst (λ v. IsTested n o (both_written own v)) (sym sp.entry.place.written)
      (standing_tested m h.above.done.stands h.closing h.reading.shut n (k h.closing h.reading.reading h.reading.shut) at.place.standing
      (λ f. collect_goals f 0 ng.goals) ng.numbered at.values at.at (a.written p.standing) at.place.written)

  abbrev inside : Task
  inside = Go (record { next = waits.next; next_type = waits.next_type; goals = entries (goal_list goals) sp.first.assumed sp.first.written sp.first.level 0; types = []; values = []; pairs = [] })

  -- no variable is there
  denies_at : (enough : ℕ) (P : List Clause) (o : Option Bool) → has_variables enough asked ≡ o → IsGiven enough false o → IsSeenAs
      (look unit_limit enough P (length h.rest) (Go h.at_work)) (Denies inside has_no_pairs (Go waits ∷ []))
  denies_at enough P None q k = inr (seen_is enough P None q)
  denies_at enough P (Some true) q k = absurd (cc)
  denies_at enough P (Some false) q k = inl (seen_is enough P (Some false) q)

  waiting : (go : (Answer → Bool) → State Task → Inner) (enough : ℕ) (P : List Clause) (k : ℕ) → s.answers ≡ suc k → has_variables enough asked ≡ None
      → IsWaiting (move go (look unit_limit enough P) s)
  waiting go enough P k ea q = (
    0,
    [],
    (λ i. move_at go (look unit_limit enough P) s.steps (ea i) s.given s.rows s.row s.lost (h.stack i)) ∙ by_lost go (look unit_limit enough P)
        s.steps k s.given s.rows s.row s.lost (Go h.at_work) h.rest ∙
        ap (move_view go s.steps k s.given s.rows s.row s.lost h.rest) (seen_is enough P None q),
  )

  -- no step is left
  steps_at : (n : Machine) → s.steps ≡ 0 → (go : (Answer → Bool) → State Task → Inner) (enough : ℕ) (P : List Clause) (k : ℕ) → s.answers ≡ suc k →
      (o : Option Bool) → has_variables enough asked ≡ o → Leads 1 quiet qv (Turn.Ended Steps) n go (look unit_limit enough P) s
  steps_at n z go enough P k ea None q = inr (inl (waiting go enough P k ea q))
  steps_at n z go enough P k ea (Some true) q = inl (
    refl,
    (λ i. move_at go (look unit_limit enough P) (z i) (ea i) s.given s.rows s.row s.lost (h.stack i)) ∙ by_lost go (look unit_limit enough P) 0 k s.given s.rows s.row s.lost (Go h.at_work) h.rest ∙
        ap (move_view go 0 k s.given s.rows s.row s.lost h.rest) (seen_is enough P (Some true) q),
  )
  steps_at n z go enough P k ea (Some false) q = inl (
    refl,
    (λ i. move_at go (look unit_limit enough P) (z i) (ea i) s.given s.rows s.row s.lost (h.stack i)) ∙ by_lost go (look unit_limit enough P) 0 k s.given s.rows s.row s.lost (Go h.at_work) h.rest ∙
        ap (move_view go 0 k s.given s.rows s.row s.lost h.rest) (seen_is enough P (Some false) q),
  )

  pub ends_at_steps : (n : Machine) → m.counts.limit ≤ m.counts.steps → EndsDenied quiet qv (Turn.Ended Steps) n s h.at_work.goals
  ends_at_steps n l k ea go enough few P = steps_at n (let q = h.counted.steps in omega (arith, q, l)) go enough P k ea (has_variables enough asked) refl

  module _ (there : m.counts.steps < m.counts.limit) where
    abbrev left : ℕ
    left = m.counts.limit - (m.counts.steps + 1)

    steps_are : s.steps ≡ suc left
    steps_are = let q = h.counted.steps in let l = there in omega (arith, q, l)

    -- the note of it comes first
    denied_first : (n k g u : ℕ) (lost : Bool) (ts rest : List Task) (r : Inner) → TellsFirst (GoalNote (named not_constant)) (move_denied n k g u lost ts rest r)
    denied_first n k g u lost ts rest (Refuted j ns p) = (omega arith, ns ++ back ts rest, refl)
    denied_first n k g u lost ts rest (Held j ns p) = (omega arith, ns ++ back [] rest, refl)
    denied_first n k g u lost ts rest (Broke j ns f) = (omega arith, ns, refl)
    denied_first n k g u lost ts rest (Lasts j ns) = tt

    pub not_tells : IsToldFirst s (GoalNote (named not_constant))
    not_tells k ea go enough P = by (has_variables enough asked) refl
      where
        moved : (o : Option Bool) → has_variables enough asked ≡ o → move go (look unit_limit enough P) s ≡ move_view go (suc left) k s.given s.rows s.row s.lost h.rest (look_not sp.first waits goals o)
        moved o q =
            (λ i. move_at go (look unit_limit enough P) (steps_are i) (ea i) s.given s.rows s.row s.lost (h.stack i)) ∙ by_lost go (look unit_limit enough P) (suc left) k
            s.given s.rows s.row s.lost (Go h.at_work) h.rest ∙
            ap (move_view go (suc left) k s.given s.rows s.row s.lost h.rest) (seen_is enough P o q)

        by : (o : Option Bool) → has_variables enough asked ≡ o → TellsFirst (GoalNote (named not_constant)) (move go (look unit_limit enough P) s)
        by None q = subst (TellsFirst (GoalNote (named not_constant))) (sym (moved None q)) tt
        by (Some true) q = subst (TellsFirst (GoalNote (named not_constant))) (sym (moved (Some true) q)) (omega arith, back (Stop OpenNot ∷ []) h.rest, refl)
        by (Some false) q =
            subst (TellsFirst (GoalNote (named not_constant))) (sym (moved (Some false) q))
            (denied_first left k s.given s.rows s.lost (Go waits ∷ []) h.rest (go has_no_pairs (starts_within s.rows inside left 1)))

    -- a variable is there
    open_at : (n : Machine) (go : (Answer → Bool) → State Task → Inner) (enough : ℕ) (P : List Clause) (k : ℕ) → s.answers ≡ suc k → (o : Option Bool)
        → has_variables enough asked ≡ o → IsGiven enough true o → Leads 1 (taking (GoalNote (named not_constant))) qv (Turn.Ended OpenNot) n go (look unit_limit enough P) s
    open_at n go enough P k ea None q g = inr (inl (waiting go enough P k ea q))
    open_at n go enough P k ea (Some false) q g = absurd (cc)
    open_at n go enough P k ea (Some true) q g = stops qv n h.rest s k left ea steps_are go enough P (named not_constant) (Go h.at_work)
        (Stop OpenNot ∷ []) h.stack (seen_is enough P (Some true) q) OpenNot refl

    pub ends_open : (n : Machine) → AreFound m (record { free = free; values = p.values; older = p.standing }) found.Open → EndsDenied
        (taking (GoalNote (named not_constant))) qv (Turn.Ended OpenNot) n s h.at_work.goals
    ends_open n k i ea go enough few P = open_at n go enough P i ea (has_variables enough asked) refl (open_given enough asked (tested enough found.Open k))

    small_asked : HasSmallFirst h.at_work.goals → EachOf IsSmallExpression asked.terms
    small_asked x =
        let y : IsSmallGoal sp.first.goal sp.first.written = subst HasSmallFirst sp.whole x in
        subst (λ g. IsSmallGoal g sp.first.written) goal_is y

    pub ends_deep : (n : Machine) → AreFound m (record { free = free; values = p.values; older = p.standing }) found.Deep → EndsDenied
        (taking (GoalNote (named not_constant))) qv (Turn.Ended Deep) n s h.at_work.goals
    ends_deep n k i ea go enough few P =
        let r = few refl in
        inr (inl (waiting go enough P i ea (deep_given enough asked r.0 (small_asked r.1) (tested enough found.Deep k))))

    -- the search of the goal begins, once the bank has grown
    module _ (b : Nodes) (x : Extends m.bank b) where
      abbrev o : Machine
      o = record m { counts = one_step m.counts; bank = b }

      abbrev t : State Task
      t = record s { steps = left; row = s.rows }

      stands : StandsIn o
      stands = bank_stands m o x refl refl refl h.above.done.stands

      at_place : GrowsAt m o p
      at_place = grown_still m o p (bank_grows m o x refl refl refl) refl (record { assumptions = refl; newest = refl }) refl refl refl

      placed : ArePlaced o a
      placed = placed_on m o a p at_place h.above.done.stands h.placed at.place

      place : IsPlaceAt (lists_of o) a p
      place = place_on (lists_of m) (lists_of o) h.above.done.stands.table h.above.done.stands.values at_place.lists a a p (same_around (length m.newest.items) (length m.standings.items) a) at.place

      abbrev above : HasAlternatives qv o a h.rest
      above =
          let st = h.above.done.stands in
          let gr = grown_on m o p at_place in
          let lt = same_around (length m.newest.items) (length m.standings.items) a in
          let gb = grows_same m.bindings in
          record {
            raws = h.above.raws;
            others = h.above.others;
            done = still_done qv m o a a st stands gr lt gb h.rest h.above refl;
            numbers = h.above.numbers;
            are = still_all qv m o a a st stands gr lt gb h.rest h.above refl;
            in_turn = still_turn qv m o a a st stands gr lt gb h.rest h.above refl;
            is = h.above.is;
            inside = inside_still qv m o a a st gr lt gb h.above.inside h.above.done.base refl;
          }

      abbrev running : IsRunning qv o a raw t
      running = record {
        at_work = h.at_work;
        rest = h.rest;
        stack = h.stack;
        above = above;
        placed = placed;
        next = h.next;
        next_type = h.next_type;
        closing = h.closing;
        reading = open_kept m.bank b m.bindings m.branch.next h.closing x h.reading;
        left = pairs_more (length m.bank.terms) (length b.terms) m.branch.pairs.items x.more_terms h.left;
        levels = h.levels;
        under = branch_on qv h.levels m.bank h.closing (base_of m.denied) (length m.choices.items) m.branch.pairs.items b x h.left f raw h.at_work h.under;
        counted = record { steps = refl; rows = h.counted.rows; row = h.counted.rows ∙ (let z : 1000000 ≡ 1000000 - 0 = omega arith in z); lost = h.counted.lost };
      }

      pub search_begins : (n : Machine) → IsBegun o n p list behind → AreFound m (record { free = free; values = p.values; older = p.standing }) found.Closed → IsDenying qv n s
      search_begins n bg k =
          let st = h.above.done.stands in
          let gr = bank_grows m o x refl refl refl in
          record {
            steps = left;
            task = Go h.at_work;
            inside = inside;
            branch = waits;
            rest = h.rest;
            stack = h.stack;
            there = steps_are;
            rows = h.counted.rows;
            seen = λ enough P. denies_at enough P (has_variables enough asked) refl (closed_given enough asked (tested enough found.Closed k));
            begun = λ i. begun qv o n a raw t running p list behind bg place at.rest (reads_later m o st gr a behind at.rest at.reads) ng.goals
                at.values (of_later m o st gr p list ng.goals at.values (ng.listed, at.at)) w goals_are sp i refl;
          }
