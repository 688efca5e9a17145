-- The candidates behind the one that is tried become an alternative.
use Rattle.std.proofs.Common.{Bool, true, ◌≡◌, ℕ, ◌-◌, ◌<◌, ◌≤◌, List, [], ◌∷◌, ◌++◌, length, take, drop, refl, sym, ap, ◌∙◌, subst, arith, Option, None, Some}
use Rattle.std.specs.Prelude.{All, cond, filter}
use Rattle.std.proofs.lemmas.List.{length-append, length-map, take_all}
use Rattle.lp_calculus.specs.Fill.{Within}
use Rattle.lp_calculus.specs.Term.{Term}
use Rattle.lp_term.specs.Nodes.{Nodes, tree}
use Rattle.lp_model.specs.Branch.{Entry, Task, Try}
use Rattle.lp_model.specs.Flat.{Atomic, Clause}
use Rattle.lp_model.specs.Pair.{closed}
use Rattle.lp_model.specs.Skeleton.{State}
use Rattle.lp_pattern.specs.Growing.{Grows, IsPairOf}
use Rattle.lp_pattern.specs.Putting.{Known}
use Rattle.lp_pattern.specs.Turning.{IsOpenReading}
use Rattle.lp_pattern.specs.declared.bindings.Bindings.{Bindings}
use Rattle.lp_pattern.proofs.Keeps.{grows_same}
use Rattle.lp_pattern.proofs.Walking.{open_kept}
use Rattle.lp_plain.specs.declared.candidates.Candidate.{Candidate}
use Rattle.lp_plain.specs.declared.candidates.Candidate.TheVariants as candidate
use Rattle.lp_plain.specs.declared.choice.Call.{Call}
use Rattle.lp_plain.specs.declared.choice.Choice.{Choice}
use Rattle.lp_plain.specs.declared.choice.Untried.{Untried}
use Rattle.lp_plain.specs.declared.frame.Frame.{Frame}
use Rattle.lp_plain.specs.declared.head.Key.{Key}
use Rattle.lp_plain.specs.declared.machine.Machine.{Machine}
use Rattle.lp_plain.specs.declared.table.Rule.{Rule}
use Rattle.lp_plain.specs.Assuming.{GrowsOn, IsLaterAround, IsPlaceAt, KeepsAssumed, Lists, links, lists_of}
use Rattle.lp_plain.specs.Candidates.{AreLeft, IsChain, in_turn, nexts, passes}
use Rattle.lp_plain.specs.Entries.{Around, HasAlternative, KeepsGoals, entry_at}
use Rattle.lp_plain.specs.Followed.{IsClauseWritten, clause_by}
use Rattle.lp_plain.specs.Moving.{Query, AreBoundInTurn, AreCandidatesOf, AreClausesWritten, AreKnownTries, AreThoseOf, IsAlternative, IsAtTry, IsBranchUnder, IsKnownCall, IsTrying, mark_in, of_call, tries_under}
use Rattle.lp_plain.specs.Resuming.{AllOfClause}
use Rattle.lp_plain.specs.Searching.{IsTriesAt, StandsFor, some_tries}
use Rattle.lp_plain.specs.Stacks.{base_of, stack_of}
use Rattle.lp_plain.specs.Taking.{IsAbove, IsKept}
use Rattle.lp_plain.specs.Trials.{goal_of}
use Rattle.lp_plain.specs.Trying.{AreCandidates, IsCandidate, IsNext, first_in, lists_at, tries_of}
use Rattle.lp_plain.specs.Within.{StandsIn}
use Rattle.lp_plain.proofs.AboveUnder.{counts_same, marks_more, more_all, more_done, more_turn, pairs_more}
use Rattle.lp_plain.proofs.Assumed.{lists_noted}
use Rattle.lp_plain.proofs.Backwards.{on_kept}
use Rattle.lp_plain.proofs.CallsUnder.{candidates_same, clause_back, goal_same}
use Rattle.lp_plain.proofs.Frames.{kept_choice, reads_on}
use Rattle.lp_plain.proofs.Grown.{alternative_kept, same_around}
use Rattle.lp_plain.proofs.Inside.{inside_more}
use Rattle.lp_plain.proofs.Marking.{drop_length}
use Rattle.lp_plain.proofs.Opening.{same_stands}
use Rattle.lp_plain.proofs.QuietMoves.{stack_push}
use Rattle.lp_plain.proofs.Running.{in_turn_push, reading_like}
use Rattle.lp_plain.proofs.Under.{branch_marked, branch_on}

-- the first one of candidates
record IsFirstOf (m : Machine) (l : Lists) (call : Call) (one : Candidate) (xs : List Candidate) (cs : List Clause) (rest : List Candidate) : Type 0 where
  pub tried : Clause
  pub clauses : List Clause
  pub whole : cs ≡ tried ∷ clauses
  pub is : IsCandidate l one tried
  pub are : AreCandidates l rest clauses

first_of : (m : Machine) (l : Lists) (call : Call) (one : Candidate) (xs rest : List Candidate) (cs : List Clause) → xs ≡ one ∷ rest → AreCandidates l xs cs → IsFirstOf m l call one xs cs rest
first_of m l call one xs rest cs e h = go cs (subst (λ z. AreCandidates l z cs) e h)
  where
    go : (cs : List Clause) → AreCandidates l (one ∷ rest) cs → IsFirstOf m l call one xs cs rest
    go [] h = absurd h
    go (c ∷ cs) h = record { tried = c; clauses = cs; whole = refl; is = h.0; are = h.1 }

-- some are left from one that is found
filter_some : (p : ℕ → Bool) (i : ℕ) (ks : List ℕ) → p i ≡ true → 0 < length (filter p (i ∷ ks))
filter_some p i ks e = subst (λ b. 0 < length (cond b (i ∷ filter p ks) (filter p ks))) (sym e) (omega arith)

some_left : (b : Nodes) (rules : List Rule) (older : List (Option ℕ)) (first : Option ℕ) (key : Option Key) (x : Candidate) (left : List Candidate) → AreLeft b rules older first key (Some x) left → 0 < length left
some_left b rules older first key (candidate.Assumed i) left h = go h.0 h.2 h.4
  where
    go : (ns : List ℕ) → IsChain older (Some i) ns → left ≡ in_turn b rules key ns h.1 → 0 < length left
    go [] c e = absurd (cc)
    go (n ∷ ns) c e = let q = ap length e in omega (arith, q)
some_left b rules older first key (candidate.Program i) left h = go h.1.0 h.1.1 h.1.2
  where
    go : (ks : List ℕ) → IsChain (nexts rules) (Some i) ks → h.0 ≡ filter (passes b rules key) ks → 0 < length left
    go [] c e = absurd (cc)
    go (j ∷ js) c e =
        let s : i ≡ j = (let z : Some i ≡ Some j = c.1 in cc) in
        let l = filter_some (passes b rules key) i js h.1.3 in
        let q : length left ≡ length (filter (passes b rules key) (i ∷ js)) = ap length h.2 ∙ length-map h.0 (λ k. candidate.Program k) ∙ ap length (e ∙ ap (λ k. filter (passes b rules key) (k ∷ js)) (sym s)) in
        omega (arith, l, q)

split_clauses : (l : Lists) (xs : List Candidate) (cs : List Clause) → 0 < length xs → AreCandidates l xs cs → (k : Clause) × (ks : List Clause) × (cs ≡ k ∷ ks)
split_clauses l [] cs n h = absurd (omega (arith, n))
split_clauses l (x ∷ xs) [] n h = absurd h
split_clauses l (x ∷ xs) (c ∷ cs) n h = (c, cs, refl)

-- an alternative that was put has the lists of then
lists_put : (m n : Machine) (u : Untried) (h : HasAlternative m n u) → KeepsGoals m n → KeepsAssumed m n → lists_of m ≡ lists_at h.choice n
lists_put m n u h k ka =
    let c = h.choice in
    let s = k.known.scopes in
    let bl : take c.lengths.scopes.blocks n.scopes.blocks.items ≡ m.scopes.blocks.items = (λ i. take (h.blocks i) (s i).blocks.items) ∙ take-all m.scopes.blocks.items in
    let vl : take c.lengths.scopes.values n.scopes.values.items ≡ m.scopes.values.items = (λ i. take (h.values i) (s i).values.items) ∙ take-all m.scopes.values.items in
    let asm : take c.lengths.assumptions n.assumptions.items ≡ m.assumptions.items = (λ i. take (h.assumptions i) (ka.assumptions i).items) ∙ take-all m.assumptions.items in
    let nw : take c.lengths.newest n.newest.items ≡ m.newest.items = (λ i. take (h.newest i) (ka.newest i).items) ∙ take-all m.newest.items in
    let st : take c.lengths.standings n.standings.items ≡ m.standings.items = (λ i. take (h.standings i) (k.known.standings i).items) ∙ take-all m.standings.items in
    (λ i. record { bank = sym k.known.bank i; table = sym k.known.table i; blocks = record { blocks = sym bl i; values = sym vl i }; assumptions = sym asm i; newest = sym nw i; standings = sym st i })
  where
    take-all : {X : Type 0} (xs : List X) → take (length xs) xs ≡ xs
    take-all xs = take_all (length xs) xs (omega arith)

module _ (qv : Query) (m : Machine) (a : Around) (call : Call) (one : Candidate) (s : State Task) (h : IsTrying qv m a call one s) where
  abbrev base : ℕ
  base = base_of m.denied

  abbrev f : ℕ → ℕ
  f = mark_in base h.above.raws

  abbrev older : List Choice
  older = drop base m.choices.items

  counts : (length h.above.raws ≡ length older) × (length h.above.others ≡ length older) × (length (stack_of h.above.others) ≡ length (stack_of h.above.raws))
  counts = counts_same qv m f base base older h.above.raws h.above.others h.above.are

  -- a mark above all alternatives is one above all tasks
  all_marked : f (length m.choices.items) ≡ length h.below
  all_marked =
      let w = counts.0 in
      let d = drop_length base m.choices.items h.above.done.base in
      ap (λ x. length (stack_of x)) (take_all (length m.choices.items - base) h.above.raws (omega (arith, w, d))) ∙ sym counts.2 ∙ ap length (sym h.above.is)

  module _ (found : Option Candidate) (next : IsNext m call one found) where
    abbrev others : List Candidate
    others = (next h.tags h.candidates.found).0

    whole : h.tags ≡ one ∷ others
    whole = (next h.tags h.candidates.found).1

    fo : IsFirstOf m (lists_of m) call one h.tags h.clauses others
    fo = first_of m (lists_of m) call one h.tags others h.clauses whole h.candidates.are

    abbrev goal : Term
    goal = closed h.closing (goal_of m call)

    abbrev left_tasks : List Task
    left_tasks = tries_under h.closing others fo.clauses goal h.entry h.rest (length h.below)

    split : s.stack ≡ Try (clause_by h.closing one fo.tried) goal h.entry h.rest (length h.below) ∷ (left_tasks ++ h.below)
    split = h.stack ∙ (λ i. tries_under h.closing (whole i) (fo.whole i) goal h.entry h.rest (length h.below) ++ h.below)

    first_known : AllOfClause (λ i t. Within (Known h.levels h.raw.next) i t) 0 (clause_by h.closing one fo.tried)
    first_known =
        (subst (λ x. AreKnownTries h.closing h.levels h.raw.next x (fo.tried ∷ fo.clauses)) whole (subst (λ x. AreKnownTries h.closing h.levels h.raw.next h.tags x) fo.whole h.known.tries)).0

    first_written : IsClauseWritten m qv.arity one fo.tried
    first_written = (subst (λ x. AreClausesWritten m qv.arity x (fo.tried ∷ fo.clauses)) whole (subst (λ x. AreClausesWritten m qv.arity h.tags x) fo.whole h.candidates.written)).0

    -- none is left
    pub alone_at : found ≡ None → IsAtTry qv m a call one (length m.choices.items) s
    alone_at e =
        let none : others ≡ [] = none_left m.bank m.table.rules.items (links m.assumptions.items) found (first_in m call.head) call.key others e (next h.tags h.candidates.found).2 in
        record {
          tried = fo.tried;
          is = fo.is;
          tried_written = first_written;
          head_is = h.candidates.head_is;
          entry = h.entry;
          raw = h.raw;
          rest = h.rest;
          height = length h.below;
          below = h.below;
          above = h.above;
          closing = h.closing;
          stack = split ∙ (λ i. Try (clause_by h.closing one fo.tried) goal h.entry h.rest (length h.below) ∷ (tries_under h.closing (none i) fo.clauses goal h.entry h.rest (length h.below) ++ h.below));
          mark_is = all_marked;
          low = h.above.done.base;
          high = omega arith;
          known_goal = h.candidates.known_goal;
          known_first = h.candidates.known_first;
          placed = h.placed;
          place = h.place;
          at_place = h.at_place;
          goals = h.goals;
          next = h.next;
          next_type = h.next_type;
          reading = h.reading;
          left = h.left;
          levels = h.levels;
          known = record { goal_known = h.known.goal_known; assumed = h.known.assumed; written = h.known.written; tries = (first_known, tt) };
          under = h.under;
          counted = h.counted;
        }
      where
        none_left : (b : Nodes) (rules : List Rule) (older : List (Option ℕ)) (o : Option Candidate) (fi : Option ℕ) (key : Option Key) (xs : List Candidate) → o ≡ None → AreLeft b rules older fi key o xs → xs ≡ []
        none_left b rules older None fi key xs q w = w
        none_left b rules older (Some x) fi key xs q w = absurd (cc)

  -- some are left
  module _ (n : Machine) (later : Candidate) (next : IsNext m call one (Some later)) (put : HasAlternative m n (Untried.Clauses call later)) (k : KeepsGoals m n) (ka : KeepsAssumed m n) (fr : n.frames ≡ m.frames)
      (br : n.branch ≡ m.branch) (dn : n.denied ≡ m.denied) (ct : n.counts ≡ m.counts) where
    abbrev c : Choice
    c = put.choice

    abbrev tags : List Candidate
    tags = (next h.tags h.candidates.found).0

    fs : IsFirstOf m (lists_of m) call one h.tags h.clauses tags
    fs = first_of m (lists_of m) call one h.tags tags h.clauses (next h.tags h.candidates.found).1 h.candidates.are

    both_written : IsClauseWritten m qv.arity one fs.tried × AreClausesWritten m qv.arity tags fs.clauses
    both_written =
        subst (λ x. AreClausesWritten m qv.arity x (fs.tried ∷ fs.clauses)) (next h.tags h.candidates.found).1 (subst (λ x. AreClausesWritten m qv.arity h.tags x) fs.whole h.candidates.written)

    lists : lists_of m ≡ lists_at c n
    lists = lists_put m n (Untried.Clauses call later) put k ka

    stands : StandsIn n
    stands = same_stands m n k fr h.above.done.stands

    grown : GrowsOn m n
    grown = on_kept m n k ka dn

    around : IsLaterAround (length m.newest.items) (length m.standings.items) a a
    around = same_around (length m.newest.items) (length m.standings.items) a

    bound : Grows m.bindings n.bindings
    bound = subst (Grows m.bindings) (sym k.known.bindings) (grows_same m.bindings)

    goal_is : goal_of n call ≡ goal_of m call
    goal_is = goal_same m n grown.lists.bank call h.candidates.known_goal h.candidates.known_first

    candidates : AreCandidatesOf qv.arity n (lists_at c n) call later tags fs.clauses
    candidates = candidates_same qv m n k.known.bank k.known.table k.known.index (lists_of m) (lists_at c n) lists call later tags fs.clauses (record {
      found = (next h.tags h.candidates.found).2;
      are = fs.are;
      known_goal = h.candidates.known_goal;
      known_first = h.candidates.known_first;
      known_key = h.candidates.known_key;
      head_is = h.candidates.head_is;
      written = both_written.1;
    })

    some : (x : Clause) × (xs : List Clause) × (fs.clauses ≡ x ∷ xs)
    some = split_clauses (lists_of m) tags fs.clauses (some_left m.bank m.table.rules.items (links m.assumptions.items) (first_in m call.head) call.key later tags (next h.tags h.candidates.found).2) fs.are

    abbrev ks : List Clause
    ks = some.0 ∷ some.1

    abbrev raw_goal : Term
    raw_goal = tree n.bank call.goal.0

    abbrev raw_entry : Entry
    raw_entry = entry_at a call.place (Atomic raw_goal)

    abbrev rs : List Task
    rs = tries_of raw_goal raw_entry h.raw (length h.below) ks

    abbrev ts : List Task
    ts = tries_under h.closing tags ks (closed h.closing (goal_of n call)) h.entry h.rest (length h.below)

    abbrev more : List (List Task)
    more = h.above.raws ++ rs ∷ []

    candidates_are : AreCandidatesOf qv.arity n (lists_at c n) call later tags ks
    candidates_are = subst (AreCandidatesOf qv.arity n (lists_at c n) call later tags) some.2 candidates

    at : IsTriesAt n a c raw_goal raw_entry h.raw ks
    at = record {
      call = call;
      next_one = later;
      left = put.left;
      tries = record { left = tags; found_left = candidates_are.found; clauses = candidates_are.are };
      known_goal = candidates_are.known_goal;
      known_key = candidates_are.known_key;
      place = subst (λ l. IsPlaceAt l a call.place) lists h.place;
      goal = refl;
      assumed = refl;
      written = refl;
      level = refl;
      mark = refl;
      behind = kept_choice m n a call.behind h.raw.goals c k put.frames put.blocks put.values h.goals;
      next = put.next ∙ h.next;
      next_type = put.next_type ∙ h.next_type;
    }

    kept : IsKept n a c
    kept = alternative_kept m n n a (Untried.Clauses call later) put k ka h.placed

    over : IsAbove m c
    over =
        let hf = put.frames in
        let hb = put.blocks in
        let hv = put.values in
        let ha = put.assumptions in
        let hn = put.newest in
        let hs = put.standings in
        record { frames = omega (arith, hf); blocks = omega (arith, hb); values = omega (arith, hv); assumptions = omega (arith, ha); newest = omega (arith, hn); standings = omega (arith, hs) }

    stands_for : StandsFor n a c (length (stack_of h.above.raws)) rs
    stands_for =
        let e : length h.below ≡ length (stack_of h.above.raws) = ap length h.above.is ∙ counts.2 in
        some_tries raw_goal raw_entry h.raw some.0 some.1 kept at (ap (λ i. tries_of raw_goal raw_entry h.raw i ks) e)

    agree : (i : ℕ) → base ≤ i → i ≤ length m.choices.items → mark_in base more i ≡ f i
    agree i p q =
        let z = counts.0 in
        let v = drop_length base m.choices.items h.above.done.base in
        marks_more base h.above.raws rs i (omega (arith, p, q, z, v))

    under_more : IsBranchUnder qv h.levels n.bank h.closing (mark_in base more) base (length m.choices.items) m.branch.pairs.items h.raw h.rest
    under_more =
        branch_marked qv h.levels n.bank h.closing base (length m.choices.items) m.branch.pairs.items f (mark_in base more) agree h.raw h.rest
        (branch_on qv h.levels m.bank h.closing base (length m.choices.items) m.branch.pairs.items n.bank grown.lists.bank h.left f h.raw h.rest h.under)

    reading_then : (t : Bindings) → AreThoseOf n c t → IsOpenReading n.bank t c.next h.closing
    reading_then t q =
        let et : t.terms.entries ≡ m.bindings.terms.entries =
        q.terms ∙ (λ i. take (put.bound_terms i) (k.known.bindings i).terms.entries) ∙ take_all (length m.bindings.terms.entries) m.bindings.terms.entries (omega arith) in
        let ey : t.types.entries ≡ m.bindings.types.entries =
        q.types ∙ (λ i. take (put.bound_types i) (k.known.bindings i).types.entries) ∙ take_all (length m.bindings.types.entries) m.bindings.types.entries (omega arith) in
        subst (λ i. IsOpenReading n.bank t i h.closing) (sym put.next) (reading_like n.bank m.bindings t m.branch.next h.closing et ey (open_kept m.bank n.bank m.bindings m.branch.next h.closing grown.lists.bank h.reading))

    known_both : IsKnownCall h.closing h.levels h.raw.next (closed h.closing (goal_of m call)) (a.assumed call.place.assumed) (a.written call.place.standing) (one ∷ tags) (fs.tried ∷ fs.clauses)
    known_both = subst (λ x. IsKnownCall h.closing h.levels h.raw.next (closed h.closing (goal_of m call)) (a.assumed call.place.assumed) (a.written call.place.standing) x (fs.tried ∷ fs.clauses)) (next h.tags h.candidates.found).1
        (subst (λ x. IsKnownCall h.closing h.levels h.raw.next (closed h.closing (goal_of m call)) (a.assumed call.place.assumed) (a.written call.place.standing) h.tags x) fs.whole h.known)

    known_more : IsKnownCall h.closing h.levels h.raw.next (closed h.closing (goal_of n call)) (a.assumed call.place.assumed) (a.written call.place.standing) tags ks
    known_more =
        subst (λ x. IsKnownCall h.closing h.levels h.raw.next (closed h.closing x) (a.assumed call.place.assumed) (a.written call.place.standing) tags ks) (sym goal_is)
        (record {
          goal_known = known_both.goal_known;
          assumed = known_both.assumed;
          written = known_both.written;
          tries = subst (AreKnownTries h.closing h.levels h.raw.next tags) some.2 known_both.tries.1;
        })

    alternative : IsAlternative qv n (mark_in base more) base (length m.choices.items) c rs ts
    alternative =
        let et = ap (λ z. length z.terms.entries) k.known.bindings in
        let ey = ap (λ z. length z.types.entries) k.known.bindings in
        let wt = put.bound_terms in
        let wy = put.bound_types in
        record {
          closing = h.closing;
          reading = reading_then;
          bound_terms = omega (arith, et, wt);
          bound_types = omega (arith, ey, wy);
          left = subst (All (IsPairOf (length n.bank.terms))) (sym put.pairs) (pairs_more (length m.bank.terms) (length n.bank.terms) m.branch.pairs.items grown.lists.bank.more_terms h.left);
          tasks = of_call h.levels call later tags ks raw_goal raw_entry h.entry h.raw h.rest (length h.below) put.left candidates_are refl refl
              (record { assumed = h.at_place.assumed; written = h.at_place.written; level = h.at_place.level })
              (subst (λ q. IsBranchUnder qv h.levels n.bank h.closing (mark_in base more) base (length m.choices.items) q h.raw h.rest) (sym put.pairs) under_more) known_more;
        }

    all_bound : AreBoundInTurn (older ++ c ∷ [])
    all_bound =
        let wt = put.bound_terms in
        let wy = put.bound_types in
        in_turn_push qv m f base base older h.above.raws h.above.others c h.above.are h.above.in_turn (omega (arith, wt)) (omega (arith, wy))

    pub others_at : IsAtTry qv n a call one (length m.choices.items) s
    unfolding fs fo whole
    others_at =
        let st = h.above.done.stands in
        let top = ap length put.more ∙ length-append m.choices.items (c ∷ []) in
        record {
          tried = fs.tried;
          is = subst (λ l. IsCandidate l one fs.tried) (lists_noted m n k ka) fs.is;
          tried_written = clause_back qv m n k.known.bank k.known.table k.known.index one fs.tried both_written.0;
          head_is = candidates_are.head_is;
          entry = h.entry;
          raw = h.raw;
          rest = h.rest;
          height = length h.below;
          below = ts ++ h.below;
          above = record {
            raws = more;
            others = h.above.others ++ ts ∷ [];
            done = more_done qv m n a a st stands grown around bound h.below h.above c put.more rs ts stands_for over alternative;
            numbers = h.above.numbers;
            are = more_all qv m n a a st stands grown around bound h.below h.above c put.more rs ts stands_for over alternative;
            in_turn = more_turn qv m n a a st stands grown around bound h.below h.above c put.more rs ts stands_for over alternative all_bound;
            is = ap (λ x. ts ++ x) h.above.is ∙ sym (stack_push h.above.others ts);
            inside = inside_more qv m n a a st grown around bound h.above.inside h.above.done.base h.below h.above c put.more over
                (let wt = put.bound_terms in omega (arith, wt)) (let wy = put.bound_types in omega (arith, wy));
          };
          closing = h.closing;
          stack = split (Some later) next ∙ (λ i. Try (clause_by h.closing one fs.tried) (closed h.closing (sym goal_is i)) h.entry h.rest (length h.below) ∷
              (tries_under h.closing tags (some.2 i) (closed h.closing (sym goal_is i)) h.entry h.rest (length h.below) ++ h.below));
          mark_is = subst (λ d. mark_in (base_of d) more (length m.choices.items) ≡ length h.below) (sym dn) (agree (length m.choices.items) h.above.done.base (omega arith) ∙ all_marked);
          low = (let l = h.above.done.base in let e = ap base_of dn in omega (arith, l, e));
          high = omega (arith, top);
          known_goal = candidates_are.known_goal;
          known_first = candidates_are.known_first;
          placed = subst (λ z. All (λ (x : Frame). IsPlaceAt (lists_of n) a x.place) z.items) (sym fr) (subst (λ z. All (λ (x : Frame). IsPlaceAt z a x.place) m.frames.items) (lists_noted m n k ka) h.placed);
          place = subst (λ l. IsPlaceAt l a call.place) (lists_noted m n k ka) h.place;
          at_place = record { assumed = h.at_place.assumed; written = h.at_place.written; level = h.at_place.level };
          goals = reads_on m n a call.behind h.raw.goals k h.goals;
          next = ap (λ z. z.next) br ∙ h.next;
          next_type = ap (λ z. z.next_type) br ∙ h.next_type;
          reading = subst (λ z. IsOpenReading n.bank n.bindings z.next h.closing) (sym br) (subst (λ z. IsOpenReading n.bank z m.branch.next h.closing) (sym k.known.bindings)
              (subst (λ z. IsOpenReading z m.bindings m.branch.next h.closing) (sym k.known.bank) h.reading));
          left = subst (λ z. All (IsPairOf (length n.bank.terms)) z.pairs.items) (sym br) (pairs_more (length m.bank.terms) (length n.bank.terms) m.branch.pairs.items grown.lists.bank.more_terms h.left);
          levels = h.levels;
          known = subst (λ x. IsKnownCall h.closing h.levels h.raw.next (closed h.closing x) (a.assumed call.place.assumed) (a.written call.place.standing) (one ∷ []) (fs.tried ∷ [])) (sym goal_is)
              (record { goal_known = known_both.goal_known; assumed = known_both.assumed; written = known_both.written; tries = (known_both.tries.0, tt) });
          under = subst (λ d. IsBranchUnder qv h.levels n.bank h.closing (mark_in (base_of d) more) (base_of d) (length m.choices.items) n.branch.pairs.items h.raw h.rest) (sym dn)
              (subst (λ z. IsBranchUnder qv h.levels n.bank h.closing (mark_in base more) base (length m.choices.items) z.pairs.items h.raw h.rest) (sym br) under_more);
          counted = record {
            steps = h.counted.steps ∙ ap (λ x. x.limit - x.steps) (sym ct);
            rows = h.counted.rows;
            row = h.counted.row ∙ ap (λ x. 1000000 - x.row) (sym ct);
            lost = h.counted.lost ∙ ap (λ x. x.lost) (sym ct);
          };
        }
