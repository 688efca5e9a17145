-- The search of a negated goal has begun: it stands for the definition's, and the search that waits for the tasks below.
use Rattle.std.proofs.Common.{◌≡◌, ℕ, zero, suc, ◌+◌, ◌-◌, ◌≤◌, List, [], ◌∷◌, ◌++◌, map, length, take, drop, refl, sym, ap, ◌∙◌, subst, arith, append-nil, Option}
use Rattle.std.specs.Prelude.{All, slice_get}
use Rattle.std.proofs.lemmas.List.{length-append, take_all}
use Rattle.std.proofs.lemmas.List.Elements.{All-nil}
use Rattle.lp_lemmas.proofs.Lists.{get_push}
use Rattle.lp_calculus.specs.Fill.{Within}
use Rattle.lp_calculus.specs.Term.{Term}
use Rattle.lp_calculus.specs.Types.{instance}
use Rattle.lp_term.specs.Nodes.{Extends, Nodes}
use Rattle.lp_term.proofs.Trees.{extends_same}
use Rattle.lp_model.specs.Branch.{Branch, Entry, Go, Task, entries}
use Rattle.lp_model.specs.Flat.{Goals, Not, Written, goal_list, map_goals}
use Rattle.lp_model.specs.Pair.{Closing, closed}
use Rattle.lp_model.specs.Search.{with_goals}
use Rattle.lp_model.specs.Skeleton.{State, starts_within}
use Rattle.lp_model.specs.declared.answer.Pair.{Pair as Numbers}
use Rattle.lp_pattern.specs.Growing.{Grows, IsPairOf}
use Rattle.lp_pattern.specs.Putting.{Known}
use Rattle.lp_pattern.specs.Turning.{ArePairsFor, IsOpenReading}
use Rattle.lp_pattern.specs.declared.bindings.Bindings.{Bindings}
use Rattle.lp_pattern.proofs.Keeps.{grows_same}
use Rattle.lp_pattern.proofs.Walking.{open_kept}
use Rattle.lp_plain.specs.declared.choice.Choice.{Choice}
use Rattle.lp_plain.specs.declared.choice.Denial.{Denial}
use Rattle.lp_plain.specs.declared.choice.Untried.{Untried}
use Rattle.lp_plain.specs.declared.frame.Place.{Place}
use Rattle.lp_plain.specs.declared.machine.Machine.{Machine}
use Rattle.lp_plain.specs.Assuming.{ArePlaced, GrowsAt, GrowsOn, IsLaterAround, IsPlaceAt, KeepsAssumed, lists_of}
use Rattle.lp_plain.specs.Denials.{IsBegun, inner_query, waits_at}
use Rattle.lp_plain.specs.Entries.{Around, IsChoiceAt, IsOf, KeepsGoals, Reads, entry_at, in_scope, placed}
use Rattle.lp_plain.specs.Moving.{AreAlternatives, AreBoundInTurn, AreEntriesUnder, AreOuter, AreThoseOf, HasAlternatives, IsAlternative, IsBranchUnder, IsInside, IsOuter, IsRunning, IsState, Query, Waiting, mark_in, of_side, outer_choices, way_back}
use Rattle.lp_plain.specs.Negations.{denial}
use Rattle.lp_plain.specs.Resuming.{AllOfEntries, AreKnownEntries, goal_with}
use Rattle.lp_plain.specs.Searching.{AreNested, StandForAll, a_side}
use Rattle.lp_plain.specs.Stacks.{base_of, stack_of}
use Rattle.lp_plain.specs.Taking.{IsAbove, IsKept}
use Rattle.lp_plain.specs.Within.{StandsIn}
use Rattle.lp_plain.proofs.AboveUnder.{alternatives_marked, alternatives_on, alternatives_push, counts_same, marks_more, pairs_more}
use Rattle.lp_plain.proofs.Alternatives.{all_stand_on}
use Rattle.lp_plain.proofs.CutMoves.{IsSplit}
use Rattle.lp_plain.proofs.Elsewhere.{all_else, alternatives_else}
use Rattle.lp_plain.proofs.Frames.{kept_choice}
use Rattle.lp_plain.proofs.Grown.{alternative_kept, grown_frame, grown_by, grown_on, placed_on, same_around}
use Rattle.lp_plain.proofs.Inside.{all_carried, inside_more}
use Rattle.lp_plain.proofs.KnownGoals.{goals_in_list}
use Rattle.lp_plain.proofs.KnownUnder.{entries_all}
use Rattle.lp_plain.proofs.Marking.{drop_length}
use Rattle.lp_plain.proofs.OpenedUnder.{listed_goals}
use Rattle.lp_plain.proofs.QuietMoves.{stack_push, stand_push}
use Rattle.lp_plain.proofs.Running.{reading_like}
use Rattle.lp_plain.proofs.Under.{branch_marked, branch_on, entries_front, entries_wider}

drop_whole : {X : Type 0} (n : ℕ) (xs : List X) → length xs ≤ n → drop n xs ≡ []
drop_whole zero [] l = refl
drop_whole zero (x ∷ xs) l = absurd (omega (arith, l))
drop_whole (suc n) [] l = refl
drop_whole (suc n) (x ∷ xs) l = drop_whole n xs (omega (arith, l))

take_here : {X : Type 0} (xs : List X) (x : X) → take (length xs) (xs ++ x ∷ []) ≡ xs
take_here [] x = refl
take_here (y ∷ xs) x = ap (λ l. y ∷ l) (take_here xs x)

no_tasks_at : (i j : ℕ) → i ≤ j → length (stack_of (take (i - j) [])) ≡ 0
no_tasks_at i j l = ap (λ k. length (stack_of (take k []))) (let e : i - j ≡ 0 = omega (arith, l) in e)

no_pairs : (k : Nodes) (z : Closing) (left : List Numbers) → left ≡ [] → ArePairsFor k z left []
no_pairs k z left e = subst (λ l. ArePairsFor k z l []) (sym e) tt

no_pair_of : (k : ℕ) (left : List Numbers) → left ≡ [] → All (IsPairOf k) left
no_pair_of k left e = subst (All (IsPairOf k)) (sym e) (All-nil (IsPairOf k))

module _ (qv : Query) (m n : Machine) (a : Around) (raw : Branch) (s : State Task) (h : IsRunning qv m a raw s) (p : Place) (list : ℕ)
    (behind : Option ℕ) (bg : IsBegun m n p list behind) (pl : IsPlaceAt (lists_of m) a p) (es : List Entry) (reads : Reads m a behind es)
    (hs : Goals) (σ : ℕ → Term) (is : IsOf m p list hs σ) (w : Written)
    (goals : raw.goals ≡ entry_at a p (Not w (in_scope σ p.values.types hs)) ∷ es) (sp : IsSplit h.closing (mark_in (base_of m.denied) h.above.raws)
    (base_of m.denied) (length m.choices.items) (entry_at a p (Not w (in_scope σ p.values.types hs))) es h.at_work.goals) where
  abbrev q : Place
  q = record p { mark = bg.mark }

  -- the machine as it would be if the search at work were still the one that waits
  abbrev beside : Machine
  beside = record n { denied = m.denied }

  abbrev c : Choice
  c = bg.more.choice

  abbrev d : Denial
  d = denial m behind

  abbrev led : Choice
  led = way_back bg.more.choice (denial m behind)

  abbrev base : ℕ
  base = base_of m.denied

  abbrev f : ℕ → ℕ
  f = mark_in base h.above.raws

  keeps : KeepsGoals m beside
  keeps = record {
    known = record {
      bank = bg.goals.known.bank;
      bindings = bg.goals.known.bindings;
      scopes = bg.goals.known.scopes;
      table = bg.goals.known.table;
      standings = bg.goals.known.standings;
      index = bg.goals.known.index;
    };
    frames = bg.goals.frames;
  }

  assumes : KeepsAssumed m beside
  assumes = record { assumptions = bg.assumed.assumptions; newest = bg.assumed.newest }

  at_place : GrowsAt m beside p
  at_place = grown_by m beside p q refl refl (grown_frame m beside q keeps assumes bg.frame refl)

  grown : GrowsOn m beside
  grown = grown_on m beside p at_place

  around : IsLaterAround (length m.newest.items) (length m.standings.items) a a
  around = same_around (length m.newest.items) (length m.standings.items) a

  bound : Grows m.bindings n.bindings
  bound = subst (Grows m.bindings) (sym bg.goals.known.bindings) (grows_same m.bindings)

  bank : Extends m.bank n.bank
  bank = subst (Extends m.bank) (sym bg.goals.known.bank) (extends_same m.bank)

  stands : StandsIn n
  stands = bg.stands h.above.done.stands

  placed_now : ArePlaced beside a
  placed_now = placed_on m beside a p at_place h.above.done.stands h.placed pl

  count : length n.choices.items ≡ suc (length m.choices.items)
  count = let e : length n.choices.items ≡ length m.choices.items + 1 = ap length bg.more.more ∙ length-append m.choices.items (c ∷ []) in omega (arith, e)

  -- the goal in front, and those behind it
  known_all : AreKnownEntries h.levels raw.next h.closing (entry_at a p (Not w (in_scope σ p.values.types hs)) ∷ es)
  known_all = subst (λ x. AreKnownEntries h.levels raw.next h.closing x) goals h.under.known.goals

  abbrev after : Branch
  after = with_goals raw es

  abbrev pub waits : Branch
  waits = with_goals h.at_work sp.rest

  waits_under : IsBranchUnder qv h.levels m.bank h.closing f base (length m.choices.items) m.branch.pairs.items after waits
  waits_under = record {
    goals = entries_wider h.closing f base (a.mark p.mark) (length m.choices.items) es sp.rest sp.entry.high sp.others;
    next = h.under.next;
    next_type = h.under.next_type;
    types = h.under.types;
    values = h.under.values;
    pairs = h.under.pairs;
    known = record { goals = known_all.1; values = h.under.known.values; pairs = h.under.known.pairs; free = h.under.known.free };
  }

  -- the alternative that leads back
  kept : IsKept beside a c
  kept = alternative_kept m n beside a (Untried.Denied d) bg.more keeps assumes h.placed

  kept_led : IsKept beside a led
  kept_led = record { frames = kept.frames; blocks = kept.blocks; values = kept.values; assumptions = kept.assumptions; newest = kept.newest; standings = kept.standings; placed = kept.placed }

  above : IsAbove m c
  above = record {
    frames = same bg.more.frames;
    blocks = same bg.more.blocks;
    values = same bg.more.values;
    assumptions = same bg.more.assumptions;
    newest = same bg.more.newest;
    standings = same bg.more.standings;
  }
    where
      same : {i j : ℕ} → j ≡ i → i ≤ j
      same {i} {j} e = omega (arith, e)

  side : IsChoiceAt beside a led after
  side = record {
    from = behind;
    left = refl;
    goals = kept_choice m beside a behind es c keeps bg.more.frames bg.more.blocks bg.more.values reads;
    next = bg.more.next ∙ h.next;
    next_type = bg.more.next_type ∙ h.next_type;
  }

  abbrev more : List (List Task)
  more = h.above.raws ++ (Go after ∷ []) ∷ []

  abbrev aged : List Choice
  aged = drop base m.choices.items

  agree : (i : ℕ) → base ≤ i → i ≤ length m.choices.items → mark_in base more i ≡ f i
  agree i l r =
      let k = counts_same qv m f base base aged h.above.raws h.above.others h.above.are in
      let z = k.0 in
      let v = drop_length base m.choices.items h.above.done.base in
      marks_more base h.above.raws (Go after ∷ []) i (omega (arith, l, r, z, v))

  aside : IsBranchUnder qv h.levels n.bank h.closing (mark_in base more) base (length m.choices.items) led.pairs.items after waits
  aside =
      subst (λ x. IsBranchUnder qv h.levels n.bank h.closing (mark_in base more) base (length m.choices.items) x after waits) (sym bg.more.pairs)
      (branch_marked qv h.levels n.bank h.closing base (length m.choices.items) m.branch.pairs.items f (mark_in base more) agree after waits
      (branch_on qv h.levels m.bank h.closing base (length m.choices.items) m.branch.pairs.items n.bank bank h.left f after waits waits_under))

  those : (t : Bindings) → AreThoseOf beside led t → IsOpenReading n.bank t led.next h.closing
  those t k =
      let b = bg.goals.known.bindings in
      let et : t.terms.entries ≡ m.bindings.terms.entries = k.terms ∙ (λ i. take (bg.more.bound_terms i) (b i).terms.entries) ∙ take_all
      (length m.bindings.terms.entries) m.bindings.terms.entries (omega arith) in
      let ey : t.types.entries ≡ m.bindings.types.entries = k.types ∙ (λ i. take (bg.more.bound_types i) (b i).types.entries) ∙ take_all
      (length m.bindings.types.entries) m.bindings.types.entries (omega arith) in
      subst (λ i. IsOpenReading n.bank t i h.closing) (sym bg.more.next)
      (reading_like n.bank m.bindings t m.branch.next h.closing et ey (open_kept m.bank n.bank m.bindings m.branch.next h.closing bank h.reading))

  leads_back : IsAlternative qv beside (mark_in base more) base (length m.choices.items) led (Go after ∷ []) (Go waits ∷ [])
  leads_back =
      let et = ap (λ z. length z.terms.entries) bg.goals.known.bindings in
      let ey = ap (λ z. length z.types.entries) bg.goals.known.bindings in
      let wt = bg.more.bound_terms in
      let wy = bg.more.bound_types in
      record {
        closing = h.closing;
        reading = those;
        bound_terms = omega (arith, et, wt);
        bound_types = omega (arith, ey, wy);
        left = subst (All (IsPairOf (length n.bank.terms))) (sym bg.more.pairs) (pairs_more (length m.bank.terms) (length n.bank.terms) m.branch.pairs.items bank.more_terms h.left);
        tasks = of_side h.levels after waits refl refl aside;
      }

  -- the alternatives of the search that waits
  are_led : aged ++ led ∷ [] ≡ outer_choices n (length m.choices.items) c d
  are_led = ap (λ x. drop base x ++ led ∷ []) (sym (ap (take (length m.choices.items)) bg.more.more ∙ take_here m.choices.items c))

  stand_led : StandForAll beside a (aged ++ led ∷ []) 0 more
  stand_led =
      stand_push beside a aged led 0 h.above.raws (Go after ∷ []) (all_stand_on m beside a a h.above.done.stands grown around aged 0 h.above.raws
      h.above.done.alternatives) (λ i. a_side after kept_led side refl)

  led_are : AreAlternatives qv beside (mark_in base more) base base (aged ++ led ∷ []) more (h.above.others ++ (Go waits ∷ []) ∷ [])
  led_are =
      let k = counts_same qv m f base base aged h.above.raws h.above.others h.above.are in
      let z = k.0 in
      alternatives_push qv beside (mark_in base more) base base aged h.above.raws h.above.others led (Go after ∷ []) (Go waits ∷ [])
      (alternatives_marked qv beside f (mark_in base more) base base aged h.above.raws h.above.others (λ i l r. marks_more base h.above.raws (Go after ∷ []) i (omega (arith, l, r, z)))
      (alternatives_on qv m beside a a h.above.done.stands grown around bound f base base 0 aged h.above.raws h.above.others h.above.done.alternatives h.above.are))
      (subst (λ i. IsAlternative qv beside (mark_in base more) base i led (Go after ∷ []) (Go waits ∷ [])) (sym (drop_length base m.choices.items h.above.done.base)) leads_back)

  inside_beside : IsInside qv beside a
  inside_beside =
      let wt = bg.more.bound_terms in
      let wy = bg.more.bound_types in
      inside_more qv m beside a a h.above.done.stands grown around bound h.above.inside h.above.done.base h.rest h.above c bg.more.more above (omega (arith, wt)) (omega (arith, wy))

  module _ (left : ℕ) where
    abbrev waiting : Waiting
    waiting = waits_at qv s left waits h.rest

    abbrev pub inner : Query
    inner = inner_query qv (waits_at qv s left waits h.rest)

    outer : IsOuter qv.arity n a (length m.choices.items) d waiting qv.outer
    outer = record {
      choice = c;
      there = ap (λ z. slice_get z (length m.choices.items)) bg.more.more ∙ get_push m.choices.items c;
      denied = bg.more.left;
      low = h.above.done.base;
      raws = more;
      others = h.above.others ++ (Go waits ∷ []) ∷ [];
      stand = subst (λ z. StandForAll n a z 0 more) are_led (all_else beside n a (aged ++ led ∷ []) 0 more stand_led);
      are = subst (λ z. AreAlternatives qv n (mark_in base more) base base z more (h.above.others ++ (Go waits ∷ []) ∷ [])) are_led
          (alternatives_else beside n qv (mark_in base more) base base (aged ++ led ∷ []) more (h.above.others ++ (Go waits ∷ []) ∷ []) led_are);
      is = stack_push h.above.others (Go waits ∷ []) ∙ ap (λ z. Go waits ∷ z) (sym h.above.is);
      lost = h.counted.lost;
    }

    others_wait : AreOuter qv.arity n a m.denied qv.outer
    others_wait =
        all_carried qv.arity beside n a a n.choices.items [] [] (sym (append-nil n.choices.items)) (sym (append-nil n.choices.items)) (λ cs. Unit {0})
        (λ x g l k cs rss tss u st y. (all_else beside n a cs 0 rss st, alternatives_else beside n x g l k cs rss tss y)) (λ j dn y l k. tt) m.denied
        qv.outer (let l = h.above.done.base in let r = count in omega (arith, l, r)) inside_beside.outer

    within : IsInside inner n a
    within = record {
      outer = subst (λ o. AreOuter qv.arity n a o (waiting ∷ qv.outer)) (sym bg.inside) (d, outer, others_wait);
      nested = inside_beside.nested;
      in_turn = inside_beside.in_turn;
    }

    none_above : drop (base_of n.denied) n.choices.items ≡ []
    none_above = ap (λ o. drop (base_of o) n.choices.items) bg.inside ∙ drop_whole (suc (length m.choices.items)) n.choices.items (let r = count in omega (arith, r))

    abbrev alternatives : HasAlternatives inner n a []
    alternatives = record {
      raws = [];
      others = [];
      done = record {
        stands = stands;
        base = subst (λ o. base_of o ≤ length n.choices.items) (sym bg.inside) (let r = count in omega (arith, r));
        alternatives = subst (λ z. StandForAll n a z 0 []) (sym none_above) tt;
        nested = subst AreNested (sym none_above) tt;
      };
      numbers = h.above.numbers;
      are = subst (λ z. AreAlternatives inner n (mark_in (base_of n.denied) []) (base_of n.denied) (base_of n.denied) z [] []) (sym none_above) tt;
      in_turn = subst AreBoundInTurn (sym none_above) tt;
      is = refl;
      inside = within;
    }

    -- its branch
    abbrev read : Goals
    read = map_goals (λ u. u) (λ u x. closed h.closing x) (instance h.closing.types) zero (in_scope σ p.values.types hs)

    abbrev asked : Branch
    asked = record { next = raw.next; next_type = raw.next_type; goals = placed a q (goal_list (in_scope σ p.values.types hs)); types = []; values = []; pairs = [] }

    abbrev pub begins : Branch
    begins = record {
      next = waits.next;
      next_type = waits.next_type;
      goals = entries (goal_list read) sp.first.assumed sp.first.written sp.first.level 0;
      types = [];
      values = [];
      pairs = [];
    }

    abbrev g : ℕ → ℕ
    g = mark_in (base_of n.denied) []

    mark_high : a.mark bg.mark ≡ length n.choices.items
    mark_high = h.above.numbers bg.mark ∙ bg.mark_is

    base_is : base_of n.denied ≡ length n.choices.items
    base_is = ap base_of bg.inside ∙ sym count

    mark_none : g (a.mark bg.mark) ≡ 0
    mark_none = no_tasks_at (a.mark bg.mark) (base_of n.denied) (let x = mark_high in let y = base_is in omega (arith, x, y))

    entries_under : AreEntriesUnder h.closing g (base_of n.denied) (length n.choices.items) asked.goals begins.goals
    entries_under =
        let gs = goal_list (in_scope σ p.values.types hs) in
        let z = h.closing in
        let x = mark_high in
        let y = base_is in
        let all = entries_front z g (base_of n.denied) (length n.choices.items) (a.mark bg.mark) p.level gs (a.assumed p.assumed) sp.first.assumed
        (a.written p.standing) sp.first.written [] [] (omega (arith, x, y)) (omega (arith, x)) sp.entry.place.assumed sp.entry.place.written tt in
        subst (λ l. AreEntriesUnder z g (base_of n.denied) (length n.choices.items) asked.goals
        (entries l sp.first.assumed sp.first.written sp.first.level 0)) (sym (listed_goals (λ u. u) (λ u t. closed z t) (instance z.types) zero
        (in_scope σ p.values.types hs)))
        (subst (λ i. AreEntriesUnder z g (base_of n.denied) (length n.choices.items) asked.goals
        (entries (map (goal_with (closed z) (instance z.types)) gs) sp.first.assumed sp.first.written i 0)) (sym sp.entry.place.level)
        (subst (λ i. AreEntriesUnder z g (base_of n.denied) (length n.choices.items) asked.goals
        (entries (map (goal_with (closed z) (instance z.types)) gs) sp.first.assumed sp.first.written p.level i)) mark_none
        (subst (AreEntriesUnder z g (base_of n.denied) (length n.choices.items) asked.goals)
        (append-nil (entries (map (goal_with (closed z) (instance z.types)) gs) sp.first.assumed sp.first.written p.level (g (a.mark bg.mark))))
        (subst (λ l. AreEntriesUnder z g (base_of n.denied) (length n.choices.items) l
        (entries (map (goal_with (closed z) (instance z.types)) gs) sp.first.assumed sp.first.written p.level (g (a.mark bg.mark)) ++ []))
        (append-nil asked.goals) all))))

    abbrev P : ℕ → Term → Type 0
    P i t = Within (Known h.levels raw.next) i (closed h.closing t)

    known : AreKnownEntries h.levels raw.next h.closing asked.goals
    known =
        let gs = in_scope σ p.values.types hs in
        let front = known_all.0 in
        subst (AllOfEntries P) (append-nil asked.goals) (entries_all P (goal_list gs) (a.assumed p.assumed) (a.written p.standing) p.level
        (a.mark bg.mark) [] (goals_in_list P gs front.0.1) front.1 front.2 tt)

    under : IsBranchUnder inner h.levels n.bank h.closing g (base_of n.denied) (length n.choices.items) n.branch.pairs.items asked begins
    under = record {
      goals = entries_under;
      next = h.under.next;
      next_type = h.under.next_type;
      types = refl;
      values = refl;
      pairs = no_pairs n.bank h.closing n.branch.pairs.items bg.pairs;
      known = record { goals = known; values = tt; pairs = tt; free = h.under.known.free };
    }

    pub begun : m.counts.row ≡ 0 → IsState inner n (starts_within s.rows (Go begins) s.steps 1)
    begun row = record {
      around = a;
      raw = asked;
      goals = bg.reads a (goal_list (in_scope σ p.values.types hs)) (hs, σ, is.0, is.1, refl);
      running = record {
        at_work = begins;
        rest = [];
        stack = refl;
        above = alternatives;
        placed = placed_now;
        next = bg.next ∙ h.next;
        next_type = bg.next_type ∙ h.next_type;
        closing = h.closing;
        reading = subst (λ x. IsOpenReading n.bank n.bindings x h.closing) (sym bg.next) (subst (λ x. IsOpenReading n.bank x m.branch.next h.closing) (sym bg.goals.known.bindings)
            (subst (λ x. IsOpenReading x m.bindings m.branch.next h.closing) (sym bg.goals.known.bank) h.reading));
        left = no_pair_of (length n.bank.terms) n.branch.pairs.items bg.pairs;
        levels = h.levels;
        under = under;
        counted = record {
          steps = h.counted.steps ∙ ap (λ z. z.limit - z.steps) (sym bg.counts);
          rows = h.counted.rows;
          row = h.counted.rows ∙ (let e : 1000000 ≡ 1000000 - 0 = omega arith in e) ∙ ap (λ i. 1000000 - i) (sym row) ∙ ap (λ z. 1000000 - z.row) (sym bg.counts);
          lost = ap (λ z. z.lost) (sym bg.counts);
        };
      };
    }
