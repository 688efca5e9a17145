-- A try whose clause fits leaves the search in the state of the definition's next task: the clause's goals stand in front, all under the new bindings.
use Rattle.std.proofs.Common.{◌≡◌, ℕ, zero, suc, ◌+◌, ◌-◌, ◌≤◌, List, [], ◌∷◌, ◌++◌, length, map, refl, sym, ap, inl, inr, ◌∙◌, subst, arith, Bool, Option, None, Some}
use Rattle.lp_calculus.specs.Fill.{Within}
use Rattle.lp_calculus.proofs.Fills.{within_more}
use Rattle.lp_calculus.specs.Instance.{instance_term}
use Rattle.lp_calculus.specs.Spine.{head_of}
use Rattle.lp_calculus.specs.Types.{instance, var}
use Rattle.lp_lemmas.specs.Each.{EachOf}
use Rattle.lp_calculus.specs.Term.{Term}
use Rattle.lp_model.specs.Branch.{Answer, Branch, Go, Lack, Stop, Task, Try, entries, resume}
use Rattle.lp_model.specs.Flat.{Clause, Goals, clause, goal_list, instantiate_goals, under_all}
use Rattle.lp_model.specs.Index.{lifted}
use Rattle.lp_model.specs.Pair.{Closing, closed}
use Rattle.lp_model.specs.Rule.{type_pairs}
use Rattle.lp_model.specs.Search.{look, renewed, try_clause, types_from, vars_from}
use Rattle.lp_model.specs.Skeleton.{Goes, Inner, Opens, State, View, back, move, move_at, move_view, row_limit}
use Rattle.lp_model.specs.Types.{put_types}
use Rattle.lp_model.specs.Unify.{Solution, State as Solved, Unified as Outcome, solve, unit_limit}
use Rattle.lp_model.specs.declared.ending.Ending.TheVariants.{Deep}
use Rattle.lp_pattern.specs.Putting.{Known}
use Rattle.lp_pattern.specs.Turning.{AreKnownPairs}
use Rattle.lp_plain.specs.declared.candidates.Candidate.{Candidate}
use Rattle.lp_plain.specs.declared.choice.Call.{Call}
use Rattle.lp_plain.specs.declared.machine.Machine.{Machine}
use Rattle.lp_plain.specs.declared.outcome.Turn.{Turn}
use Rattle.lp_plain.specs.declared.unified.Unified.{Unified}
use Rattle.lp_plain.specs.Entries.{Around}
use Rattle.lp_plain.specs.Followed.{IsTrialFor, clause_by, GoesOnAs, IsBranchFor, IsHeadRead, IsTryOf, LeavesFor, body_read, clause_read, levels_with, solved_try, tried_branch, tried_values}
use Rattle.lp_plain.specs.Moving.{AreEntriesUnder, AreFew, IsAtTry, IsBranchUnder, IsCounted, IsState, Leads, Query, mark_in, quiet, turn_for}
use Rattle.lp_plain.specs.Renewal.{renewing}
use Rattle.lp_plain.specs.Resuming.{AllOfClause, AllTerms, AreKnownEntries, goal_with}
use Rattle.lp_plain.specs.Stacks.{base_of}
use Rattle.lp_plain.specs.Trials.{GrowsByTry, IsGoalOf, goal_of, read_in, tried_pairs}
use Rattle.lp_plain.specs.TypedStates.{IsTaskTyped, IsTypedOver}
use Rattle.lp_plain.specs.Within.{StandsIn}
use Rattle.lp_plain.specs.WrittenTable.{StandsWritten}
use Rattle.lp_plain.proofs.AboveUnder.{still_all, still_done, still_turn}
use Rattle.lp_plain.proofs.Grown.{grown_on, placed_on, same_around}
use Rattle.lp_plain.proofs.Inside.{inside_still}
use Rattle.lp_plain.proofs.KnownGoals.{assumed_weaker, entries_weaker, goals_in_list, terms_weaker}
use Rattle.lp_plain.proofs.KnownUnder.{entries_all}
use Rattle.lp_plain.proofs.OpenedUnder.{listed_goals}
use Rattle.lp_plain.proofs.QuietMoves.{by_lost}
use Rattle.lp_plain.proofs.ResumedUnder.{known_behind, resumed_under, terms_known, types_behind, values_behind}
use Rattle.lp_search_laws.specs.Branches.{BranchTyping, IsTypedTry}
use Rattle.lp_plain.proofs.TypedTries.{BindsBelow, free_behind, try_bound}
use Rattle.lp_plain.proofs.TrialsFound.{candidate_trial}
use Rattle.lp_plain.proofs.TryRead.{known_more}
use Rattle.lp_plain.proofs.Under.{entries_front, entries_wider}
use Rattle.lp_plain.proofs.WrittenTerms.{loose_closed}

module _ (qv : Query) (m n : Machine) (a : Around) (call : Call) (one : Candidate) (mark : ℕ) (s : State Task) (h : IsAtTry qv m a call one mark s)
    (g : GrowsByTry m n call) (goal : IsGoalOf m call) (k vars : ℕ)
    (head : Term) (body : Goals) (st : Solved) where
  abbrev level : ℕ
  level = call.place.level

  abbrev lv : ℕ → ℕ
  lv = levels_with h.levels m.branch.next level

  abbrev next : ℕ
  next = m.branch.next + vars

  abbrev opened : Goals
  opened = instantiate_goals (tried_values m.branch.next level head (closed h.closing (goal_of m call))) body

  abbrev tried : Branch
  tried = tried_branch level k vars head (closed h.closing (goal_of m call)) body h.entry.assumed h.entry.written h.height h.rest

  module _ (on : GoesOnAs m n call mark h.closing lv next k opened st) (free : (x : ℕ) → n.branch.next_type ≤ x → on.closing.types x ≡ var x) where
    abbrev base : ℕ
    base = base_of m.denied

    abbrev f : ℕ → ℕ
    f = mark_in base h.above.raws

    abbrev raw : Branch
    raw = record {
      next = n.branch.next;
      next_type = n.branch.next_type;
      goals = entries (goal_list on.raw) (a.assumed call.place.assumed) (a.written call.place.standing) level (a.mark mark) ++ h.raw.goals;
      types = h.raw.types;
      values = h.raw.values;
      pairs = h.raw.pairs;
    }

    abbrev P : ℕ → Term → Type 0
    P d t = Within (Known lv next) d (closed h.closing t)

    abbrev Q : ℕ → Term → Type 0
    Q d t = Within (Known h.levels h.raw.next) d (closed h.closing t)

    more : (d : ℕ) (t : Term) → Q d t → P d t
    more d t w =
        within_more (Known h.levels m.branch.next) (Known lv next) d d (known_more h.levels m.branch.next level vars) (omega arith) (closed h.closing t)
        (subst (λ i. Within (Known h.levels i) d (closed h.closing t)) (sym h.next) w)

    known_all : AreKnownEntries lv next h.closing raw.goals
    known_all =
        entries_all P (goal_list on.raw) (a.assumed call.place.assumed) (a.written call.place.standing) level (a.mark mark) h.raw.goals (goals_in_list P on.raw on.known)
        (assumed_weaker Q P more (a.assumed call.place.assumed) h.known.assumed) (terms_weaker Q P more 0 (a.written call.place.standing).terms h.known.written)
        (entries_weaker Q P more h.raw.goals h.under.known.goals)

    same_next : m.branch.next ≡ h.rest.next
    same_next = h.next ∙ sym h.under.next

    abbrev in_tried : Goals
    in_tried = instantiate_goals (tried_values h.rest.next level head (closed h.closing (goal_of m call))) body

    opened_list : map (goal_with (closed h.closing) (instance h.closing.types)) (goal_list on.raw) ≡ goal_list in_tried
    opened_list =
        sym (listed_goals (λ (u : ℕ). u) (λ u t. closed h.closing t) (instance h.closing.types) zero on.raw) ∙ ap goal_list on.goals ∙
        (λ i. goal_list (instantiate_goals (tried_values (same_next i) level head (closed h.closing (goal_of m call))) body))

    in_front : AreEntriesUnder h.closing f base mark raw.goals tried.goals
    in_front =
        subst (λ i. AreEntriesUnder h.closing f base mark (entries (goal_list on.raw) (a.assumed call.place.assumed) (a.written call.place.standing)
        level i ++ h.raw.goals) tried.goals) (sym (h.above.numbers mark))
        (subst (λ i. AreEntriesUnder h.closing f base mark (entries (goal_list on.raw) (a.assumed call.place.assumed) (a.written call.place.standing) level mark ++ h.raw.goals)
        (entries (goal_list in_tried) h.entry.assumed h.entry.written level i ++ h.rest.goals)) h.mark_is
        (subst (λ gs. AreEntriesUnder h.closing f base mark (entries (goal_list on.raw) (a.assumed call.place.assumed) (a.written call.place.standing) level mark ++ h.raw.goals)
        (entries gs h.entry.assumed h.entry.written level (f mark) ++ h.rest.goals)) opened_list
        (entries_front h.closing f base mark mark level (goal_list on.raw) (a.assumed call.place.assumed) h.entry.assumed
        (a.written call.place.standing) h.entry.written h.raw.goals h.rest.goals h.low (omega arith)
        h.at_place.assumed h.at_place.written h.under.goals)))

    same_count : length n.choices.items ≡ length m.choices.items
    same_count = ap length g.choices

    behind : AreEntriesUnder on.closing f base (length n.choices.items) raw.goals (resume tried st).goals
    behind =
        entries_wider on.closing f base mark (length n.choices.items) raw.goals (resume tried st).goals (let e = same_count in let w = h.high in omega (arith, e, w))
        (resumed_under lv next h.closing n.bank n.branch.next n.branch.pairs.items on.closing st on.found f base mark raw.goals tried.goals known_all in_front)

    known_values : AllTerms P 0 (vars_from qv.vars 0)
    known_values = terms_weaker Q P more 0 (vars_from qv.vars 0) h.under.known.values

    under : IsBranchUnder qv on.found.levels' n.bank on.closing f base (length n.choices.items) n.branch.pairs.items raw (resume tried st)
    under = record {
      goals = behind;
      next = sym on.found.last;
      next_type = ap (λ i. i + k) (h.under.next_type ∙ sym h.next_type) ∙ sym on.next_type;
      types = types_behind lv next h.closing n.bank n.branch.next n.branch.pairs.items on.closing st on.found (types_from qv.types 0) h.rest.types h.under.types;
      values = values_behind lv next h.closing n.bank n.branch.next n.branch.pairs.items on.closing st on.found (vars_from qv.vars 0) h.rest.values known_values h.under.values;
      pairs = on.found.left;
      known = record {
        goals = known_behind lv next h.closing n.bank n.branch.next n.branch.pairs.items on.closing st on.found raw.goals known_all;
        values = terms_known lv next h.closing n.bank n.branch.next n.branch.pairs.items on.closing st on.found (vars_from qv.vars 0) known_values;
        pairs = on.found.known;
        free = free;
      };
    }

    stands : StandsIn n
    stands = g.stands h.above.done.stands goal

    pub goes_on : (t : State Task) → t.stack ≡ Go (resume tried st) ∷ h.below → IsCounted n t → IsState qv n t
    goes_on t et ct =
        let gr = grown_on m n call.place g.grows in
        let lt = same_around (length m.newest.items) (length m.standings.items) a in
        record {
          around = a;
          raw = raw;
          goals = on.reads a h.raw.goals h.goals;
          running = record {
            at_work = resume tried st;
            rest = h.below;
            stack = et;
            above = record {
              raws = h.above.raws;
              others = h.above.others;
              done = still_done qv m n a a h.above.done.stands stands gr lt g.bindings h.below h.above g.choices;
              numbers = h.above.numbers;
              are = still_all qv m n a a h.above.done.stands stands gr lt g.bindings h.below h.above g.choices;
              in_turn = still_turn qv m n a a h.above.done.stands stands gr lt g.bindings h.below h.above g.choices;
              is = h.above.is;
              inside = inside_still qv m n a a h.above.done.stands gr lt g.bindings h.above.inside h.above.done.base g.choices;
            };
            placed = placed_on m n a call.place g.grows h.above.done.stands h.placed h.place;
            next = refl;
            next_type = refl;
            closing = on.closing;
            reading = on.reading;
            left = g.residual h.left;
            levels = on.found.levels';
            under = subst (λ d. IsBranchUnder qv on.found.levels' n.bank on.closing (mark_in (base_of d) h.above.raws) (base_of d)
                (length n.choices.items) n.branch.pairs.items raw (resume tried st)) (sym g.grows.denied) under;
            counted = ct;
          };
        }

-- the call's goal can be tried, and so can the candidate's clause
pub goal_ready : (qv : Query) (m : Machine) (a : Around) (call : Call) (one : Candidate) (mark : ℕ) (s : State Task) → IsAtTry qv m a call one mark s → IsGoalOf m call
goal_ready qv m a call one mark s h = record {
  within = h.known_goal;
  first = h.known_first;
  shut = loose_closed (Known h.levels h.raw.next) h.closing (goal_of m call) h.known.goal_known;
  head = h.head_is;
}

pub trial_ready : (qv : Query) (m : Machine) (a : Around) (call : Call) (one : Candidate) (mark : ℕ) (s : State Task)
    (h : IsAtTry qv m a call one mark s) → StandsWritten m qv.arity → IsTrialFor m one h.tried
trial_ready qv m a call one mark s h w = candidate_trial m qv.arity h.above.done.stands w one h.tried h.is h.tried_written

-- what a unification in a try comes to, as moves of the definition
module _ (qv : Query) (m n : Machine) (a : Around) (call : Call) (one : Candidate) (mark : ℕ) (s : State Task) (h : IsAtTry qv m a call one mark s)
    (g : GrowsByTry m n call) (goal : IsGoalOf m call) (tr : IsTrialFor m one h.tried)
    (w : ℕ) (ea : s.answers ≡ suc w) (go : (Answer → Bool) → State Task → Inner) (enough : ℕ) (P : List Clause) (ty : IsTypedOver qv.arity enough P s) where
  abbrev see : ℕ → Task → View Task Answer
  see = look unit_limit enough P

  abbrev t : Term
  t = closed h.closing (goal_of m call)

  abbrev written_head : Term
  written_head = read_in h.closing (under_all lifted tr.vars tr.around) (renewing tr.values.types) tr.head

  abbrev body_there : Goals
  body_there = body_read h.closing (under_all lifted tr.vars tr.around) (renewing tr.values.types) tr.trial.body

  abbrev tasks : List Task
  tasks = try_clause 1000000 enough (clause_read h.closing tr.around tr.values.types one (clause tr.trial.type_vars tr.vars tr.head tr.trial.body)) t h.entry h.rest h.height

  abbrev after : List Task → State Task
  after ts = record { steps = s.steps; answers = suc w; given = s.given; rows = s.rows; row = s.row; lost = s.lost; stack = ts ++ h.below }

  counted : (ts : List Task) → IsCounted n (after ts)
  counted ts = record {
    steps = h.counted.steps ∙ ap (λ x. x.limit - x.steps) (sym g.counts);
    rows = h.counted.rows;
    row = h.counted.row ∙ ap (λ x. row_limit - x.row) (sym g.counts);
    lost = h.counted.lost ∙ ap (λ x. x.lost) (sym g.counts);
  }

  first_move : (ts : List Task) → tasks ≡ ts → move go see s ≡ Goes 0 (back ts h.below) (after ts)
  first_move ts e =
      (λ i. move_at go see s.steps (ea i) s.given s.rows s.row s.lost (h.stack i)) ∙
      by_lost go see s.steps w s.given s.rows s.row s.lost (Try (clause_by h.closing one h.tried) t h.entry h.rest h.height) h.below ∙
      (λ i. move_view go s.steps w s.given s.rows s.row s.lost h.below (Opens (try_clause 1000000 enough (sym (tr.is h.closing) i) t h.entry h.rest
      h.height))) ∙ ap (λ us. Goes 0 (back us h.below) (after us)) e

  second : (x : Task) (ts : List Task) → move go see (after (x ∷ ts)) ≡ move_view go s.steps w s.given s.rows s.row s.lost (ts ++ h.below) (see (length (ts ++ h.below)) x)
  second x ts = by_lost go see s.steps w s.given s.rows s.row s.lost x (ts ++ h.below)

  lacks : tasks ≡ Lack ∷ [] → (turn : Turn) → Leads 1 quiet qv turn n go see s
  lacks e turn = inr (inr (quiet, quiet, after (Lack ∷ []), refl, first_move (Lack ∷ []) e, sym ea, refl, inr (0, [], second Lack [])))

  fails : tasks ≡ [] → Leads 1 quiet qv Turn.Back n go see s
  fails e =
      let gr = grown_on m n call.place g.grows in
      let lt = same_around (length m.newest.items) (length m.standings.items) a in
      let sn = g.stands h.above.done.stands goal in
      inl (
        after [],
        first_move [] e,
        record {
          around = a;
          above = record {
            raws = h.above.raws;
            others = h.above.others;
            done = still_done qv m n a a h.above.done.stands sn gr lt g.bindings h.below h.above g.choices;
            numbers = h.above.numbers;
            are = still_all qv m n a a h.above.done.stands sn gr lt g.bindings h.below h.above g.choices;
            in_turn = still_turn qv m n a a h.above.done.stands sn gr lt g.bindings h.below h.above g.choices;
            is = h.above.is;
            inside = inside_still qv m n a a h.above.done.stands gr lt g.bindings h.above.inside h.above.done.base g.choices;
          };
          counted = counted [];
        },
        sym ea,
        refl,
      )

  deep : tasks ≡ Stop Deep ∷ [] → Leads 1 quiet qv (Turn.Ended Deep) n go see s
  deep e = inr (inr (quiet, quiet, after (Stop Deep ∷ []), refl, first_move (Stop Deep ∷ []) e, sym ea, refl, inl (refl, second (Stop Deep) [])))

  abbrev there : Branch
  there = tried_branch call.place.level tr.trial.type_vars (length tr.vars) written_head t body_there h.entry.assumed h.entry.written h.height h.rest

  -- the try is typed, so its unification binds no type variable that is still to come
  try_typed : (y : BranchTyping) × IsTypedTry enough ty.declared P ty.query y (clause_by h.closing one h.tried) t h.entry h.rest
  try_typed = (subst (EachOf (IsTaskTyped enough ty.declared P ty.query)) h.stack ty.typed).0

  bound_by : (c : Clause) (y : BranchTyping) → IsTypedTry enough ty.declared P ty.query y c t h.entry h.rest → IsHeadRead tr.trial.type_vars h.rest.next_type written_head c → (st : Solved) →
      solved_try enough call.place.level (length tr.vars) written_head t h.rest ≡ Some (Solution st) → BindsBelow (h.rest.next_type + tr.trial.type_vars) st
  bound_by (clause k vs x b) y w r st e =
      let p : instance_term (renewed k h.rest.next_type) x ≡ written_head = ap (λ j. instance_term (renewed j h.rest.next_type) x) r.0 ∙ r.1 in
      let q =
      subst (λ g. solve enough unit_limit (type_pairs (head_of t) (head_of g)) (tried_pairs h.rest.next h.entry.level g t) h.rest.pairs (h.rest.next + length tr.vars) ≡ Some (Solution st)) (sym p)
      (subst (λ l. solve enough unit_limit (type_pairs (head_of t) (head_of written_head)) (tried_pairs h.rest.next l written_head t) h.rest.pairs
      (h.rest.next + length tr.vars) ≡ Some (Solution st)) (sym h.at_place.level) e) in
      subst (λ j. BindsBelow (h.rest.next_type + j) st) r.0
      (try_bound enough ty.declared ty.standard P ty.program ty.query y k vs x b t h.entry h.rest w (h.rest.next + length tr.vars) st q)

  free_there : (st : Solved) → solved_try enough call.place.level (length tr.vars) written_head t h.rest ≡ Some (Solution st) →
      IsHeadRead tr.trial.type_vars h.rest.next_type written_head (clause_read h.closing tr.around tr.values.types one (clause tr.trial.type_vars tr.vars tr.head tr.trial.body)) →
      GoesOnAs m n call mark h.closing (levels_with h.levels m.branch.next call.place.level) (m.branch.next + length tr.vars) tr.trial.type_vars
      (instantiate_goals (tried_values m.branch.next call.place.level written_head t) body_there) st →
      (c : Closing) → ((x : ℕ) → c.types x ≡ put_types st.types (h.closing.types x)) → (x : ℕ) → n.branch.next_type ≤ x → c.types x ≡ var x
  free_there st e hr on c ct x l =
      let y = try_typed in
      let g = bound_by (clause_by h.closing one h.tried) y.0 y.1 (subst (IsHeadRead tr.trial.type_vars h.rest.next_type written_head) (tr.is h.closing) hr) st e in
      let a = on.next_type in
      let b = h.next_type in
      let d = h.under.next_type in
      free_behind (h.rest.next_type + tr.trial.type_vars) st h.closing c g ct (λ z k. h.under.known.free z (omega (arith, d, k))) x (omega (arith, a, b, d, l))

  goes : (st : Solved) → tasks ≡ Go (resume there st) ∷ [] → solved_try enough call.place.level (length tr.vars) written_head t h.rest ≡ Some (Solution st) →
      IsHeadRead tr.trial.type_vars h.rest.next_type written_head (clause_read h.closing tr.around tr.values.types one (clause tr.trial.type_vars tr.vars tr.head tr.trial.body)) →
      GoesOnAs m n call mark h.closing (levels_with h.levels m.branch.next call.place.level) (m.branch.next + length tr.vars) tr.trial.type_vars
      (instantiate_goals (tried_values m.branch.next call.place.level written_head t) body_there) st →
      Leads 1 quiet qv Turn.On n go see s
  goes st e eq hr on =
      inl (
        after (Go (resume there st) ∷ []),
        first_move (Go (resume there st) ∷ []) e,
        goes_on qv m n a call one mark s h g goal tr.trial.type_vars (length tr.vars) written_head body_there st on
            (free_there st eq hr on on.closing on.types) (after (Go (resume there st) ∷ [])) refl (counted (Go (resume there st) ∷ [])),
        sym ea,
        refl,
      )

  by_outcome : (u : Unified) (o : Option Outcome) → AreFew (turn_for u) enough → solved_try enough call.place.level (length tr.vars) written_head t h.rest ≡ o →
      IsHeadRead tr.trial.type_vars h.rest.next_type written_head (clause_read h.closing tr.around tr.values.types one (clause tr.trial.type_vars tr.vars tr.head tr.trial.body)) →
      LeavesFor u m n call mark enough h.closing (levels_with h.levels m.branch.next call.place.level) (m.branch.next + length tr.vars) tr.trial.type_vars
      (instantiate_goals (tried_values m.branch.next call.place.level written_head t) body_there) there o tasks →
      Leads 1 quiet qv (turn_for u) n go see s
  by_outcome u None few q hr e = lacks e (turn_for u)
  by_outcome Unified.Fits (Some o) few q hr e = goes e.0 e.2 (q ∙ ap (λ x. Some x) e.1) hr e.3
  by_outcome Unified.Fails (Some o) few q hr e = fails e
  by_outcome Unified.Deep (Some o) few q hr e = deep (e (let l = few refl in omega (arith, l)))

  for_branch : IsBranchFor m h.closing h.levels h.rest
  for_branch = record {
    reading = h.reading;
    next = h.under.next ∙ sym h.next;
    next_type = h.under.next_type ∙ sym h.next_type;
    free = λ x l. h.under.known.free x (subst (λ i. i ≤ x) h.next_type l);
    pairs = h.under.pairs;
    stand = h.left;
    known = subst (λ i. AreKnownPairs h.levels i h.rest.pairs) (sym h.next) h.under.known.pairs;
  }

  pub try_leads : (u : Unified) → AreFew (turn_for u) enough → IsTryOf m n call one mark u → Leads 1 quiet qv (turn_for u) n go see s
  try_leads u few leaves =
      let r =
      leaves tr.vars tr.head tr.values tr.around tr.trial tr.own tr.terms tr.tys h.above.done.stands goal h.closing h.levels h.rest for_branch (tr.headed h.closing)
      (subst (λ i. Within (Known h.levels i) 0 t) (sym h.next) h.known.goal_known)
      (subst (λ c. AllOfClause (λ d x. Within (Known h.levels m.branch.next) d x) 0 c) (sym (tr.is h.closing))
      (subst (λ i. AllOfClause (λ d x. Within (Known h.levels i) d x) 0 (clause_by h.closing one h.tried)) (sym h.next) h.known.tries.0))
      h.entry h.at_place.level h.height enough (solved_try enough call.place.level (length tr.vars) written_head t h.rest) in
      by_outcome u (solved_try enough call.place.level (length tr.vars) written_head t h.rest) few refl r.0 (r.1 refl)
