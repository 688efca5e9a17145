-- A call behind its step: about to try its first candidate, or without one, or too deep.
use Rattle.std.proofs.Common.{◌≡◌, ℕ, suc, List, [], ◌∷◌, ◌++◌, cond, map, length, refl, sym, ap, inl, inr, ◌∙◌, subst, arith, Option, None, Some, true, false}
use Rattle.std.specs.Prelude.{Bool, filter, if◌then◌else◌}
use Rattle.lp_calculus.specs.Fill.{Within}
use Rattle.lp_calculus.specs.Spine.{head_of}
use Rattle.lp_calculus.specs.Term.{Term, Atom, constant, eigen, integer, logic, param, text}
use Rattle.lp_calculus.specs.Types.{instance}
use Rattle.lp_calculus.proofs.Fills.{within_more}
use Rattle.lp_lemmas.specs.Each.{EachOf}
use Rattle.lp_term.specs.Nodes.{Nodes, Extends}
use Rattle.lp_term.specs.declared.node.TermId.{TermId}
use Rattle.lp_model.specs.Branch.{Answer, Branch, Entry, Lack, Task, Try}
use Rattle.lp_model.specs.Flat.{Clause, Clauses}
use Rattle.lp_model.specs.Pair.{Closing, closed}
use Rattle.lp_model.specs.Search.{candidates, has_head, look, passes, tries}
use Rattle.lp_model.specs.Skeleton.{Inner, State, move_at}
use Rattle.lp_model.specs.Unify.{unit_limit}
use Rattle.lp_pattern.specs.Putting.{Known}
use Rattle.lp_pattern.proofs.Walking.{open_kept}
use Rattle.lp_plain.specs.declared.candidates.Candidate.{Candidate}
use Rattle.lp_plain.specs.declared.candidates.Candidate.TheVariants as candidate
use Rattle.lp_plain.specs.declared.choice.Call.{Call}
use Rattle.lp_plain.specs.declared.frame.Place.{Place}
use Rattle.lp_plain.specs.declared.head.Head.{Head}
use Rattle.lp_plain.specs.declared.head.Key.{Key}
use Rattle.lp_plain.specs.declared.machine.Machine.{Machine}
use Rattle.lp_plain.specs.declared.outcome.Turn.{Turn}
use Rattle.lp_plain.specs.Assuming.{HasAssumed, IsPlaceAt, Lists, head_term, links, lists_of}
use Rattle.lp_plain.specs.Followed.{clause_by}
use Rattle.lp_plain.specs.Candidates.{AreLeft, IsChain, nexts}
use Rattle.lp_plain.specs.Candidates.{passes as kept_clause}
use Rattle.lp_plain.specs.Calling.{IsAtCall, IsProgramIn, LeadsWith, WrittenBehind}
use Rattle.lp_plain.specs.Entries.{Around}
use Rattle.lp_plain.specs.HeadLooks.{with_bank}
use Rattle.lp_plain.specs.Moving.{AreClausesWritten, AreKnownTries, HasAlternatives, HasNoVariable, IsBack, IsCounted, IsGoingOn, IsTrying, Query, mark_in, tries_under, quiet}
use Rattle.lp_plain.specs.Stacks.{base_of}
use Rattle.lp_plain.specs.Resuming.{AllOfAssumed, AllOfClause}
use Rattle.lp_plain.specs.Trials.{IsCallHead, goal_of}
use Rattle.lp_plain.specs.Trying.{AreApplied, AreCandidates, AreOfProgram, AreTriesApart, HasArity, HasProgram, IsCallOf, all_clauses, first_in}
use Rattle.lp_plain.specs.WrittenGoals.{IsProgramClause}
use Rattle.lp_plain.proofs.AboveUnder.{pairs_more}
use Rattle.lp_plain.proofs.Assumed.{place_on, places_on}
use Rattle.lp_plain.proofs.CallMoves.{IsSeen, bank_alternatives, bank_grown, bank_reads}
use Rattle.lp_plain.proofs.CallTries.{all_tasks, candidates_kept}
use Rattle.lp_plain.proofs.Grown.{same_around}
use Rattle.lp_plain.proofs.KnownGoals.{clause_on, clause_weaker}
use Rattle.lp_plain.proofs.QuietMoves.{by_lost}
use Rattle.lp_plain.proofs.Trying.{candidates_append}
use Rattle.lp_plain.proofs.Under.{branch_on}
use Rattle.lp_plain.proofs.WrittenPut.{clause_put}

-- a look that takes too many steps waits
pub lacks_on : (qv : Query) (turn : Turn) (n : Machine) (go : (Answer → Bool) → State Task → Inner) (enough : ℕ) (P : List Clause) (s : State Task)
    (k : ℕ) (below : List Task) → s.answers ≡ suc k → s.stack ≡ Lack ∷ below → LeadsWith (WrittenBehind turn n qv.arity) 1 quiet qv turn n go
    (look unit_limit enough P) s
lacks_on qv turn n go enough P s k below ea es =
    let see = look unit_limit enough P in
    inr (inl (0, [], (λ i. move_at go see s.steps (ea i) s.given s.rows s.row s.lost (es i)) ∙ by_lost go see s.steps k s.given s.rows s.row s.lost Lack below))

-- what holds of each holds of those that are kept
kept_each : {A : Type 0} (P : A → Type 0) (f : A → Bool) (xs : List A) → EachOf P xs → EachOf P (filter f xs)
kept_each P f [] h = tt
kept_each P f (x ∷ xs) h = go (f x) (kept_each P f xs h.1)
  where
    go : (b : Bool) → EachOf P (filter f xs) → EachOf P (cond b (x ∷ filter f xs) (filter f xs))
    go true r = (h.0, r)
    go false r = r

known_each : (P : ℕ → Term → Type 0) (cs : List Clause) → AllOfAssumed P cs → EachOf (AllOfClause P 0) cs
known_each P [] h = tt
known_each P (c ∷ cs) h = (h.0, known_each P cs h.1)

-- of the program's clauses, and then of all
module _ (m : Machine) (ar : ℕ → ℕ) where
  program_written : (ks : List ℕ) (ps : List Clause) → AreCandidates (lists_of m) (map (λ i. candidate.Program i) ks) ps → EachOf (IsProgramClause ar)
      ps → AreClausesWritten m ar (map (λ i. candidate.Program i) ks) ps
  program_written [] [] h w = tt
  program_written [] (p ∷ ps) h w = absurd h
  program_written (k ∷ ks) [] h w = absurd h
  program_written (k ∷ ks) (p ∷ ps) h w = (clause_put m ar k p w.0 h.0, program_written ks ps h.1 w.1)

  all_written : (ns : List ℕ) (cs : List Clause) → AreCandidates (lists_of m) (map (λ i. candidate.Assumed i) ns) cs → (ks : List Candidate)
      (ps : List Clause) → AreClausesWritten m ar ks ps → AreClausesWritten m ar (map (λ i. candidate.Assumed i) ns ++ ks) (cs ++ ps)
  all_written [] [] h ks ps w = w
  all_written [] (c ∷ cs) h ks ps w = absurd h
  all_written (n ∷ ns) [] h ks ps w = absurd h
  all_written (n ∷ ns) (c ∷ cs) h ks ps w = (tt, all_written ns cs h.1 ks ps w)

module _ (l : Lists) (z : Closing) (lv : ℕ → ℕ) (next : ℕ) where
  abbrev K : ℕ → Term → Type 0
  K d t = Within (Known lv next) d t

  any_known : (a : Atom) → Known (λ x. 0) 0 a → Known lv next a
  any_known (constant c ts) h = tt
  any_known (integer j) h = tt
  any_known (text s) h = tt
  any_known (eigen k) h = tt
  any_known (logic x k) h = let y = h.0 in absurd (omega (arith, y))
  any_known (param k T) h = tt

  program_known : (ks : List ℕ) (ps : List Clause) → AreCandidates l (map (λ i. candidate.Program i) ks) ps → EachOf (AllOfClause HasNoVariable 0) ps
      → AreKnownTries z lv next (map (λ i. candidate.Program i) ks) ps
  program_known [] [] h w = tt
  program_known [] (p ∷ ps) h w = absurd h
  program_known (k ∷ ks) [] h w = absurd h
  program_known (k ∷ ks) (p ∷ ps) h w =
      (clause_weaker HasNoVariable K (λ d t v. within_more (Known (λ x. 0) 0) (Known lv next) d d any_known (omega arith) t v) 0 p w.0, program_known ks ps h.1 w.1)

  all_known : (ns : List ℕ) (cs : List Clause) → AreCandidates l (map (λ i. candidate.Assumed i) ns) cs → EachOf
      (AllOfClause (λ d t. K d (closed z t)) 0) cs → (ks : List Candidate) (ps : List Clause) → AreKnownTries z lv next ks ps →
      AreKnownTries z lv next (map (λ i. candidate.Assumed i) ns ++ ks) (cs ++ ps)
  all_known [] [] h w ks ps v = v
  all_known [] (c ∷ cs) h w ks ps v = absurd h
  all_known (n ∷ ns) [] h w ks ps v = absurd h
  all_known (n ∷ ns) (c ∷ cs) h w ks ps v = (clause_on (λ d t. K d (closed z t)) K (closed z) (instance z.types) (λ d t y. y) 0 0 c w.0, all_known ns cs h.1 w.1 ks ps v)

module _ (qv : Query) (m : Machine) (b : Nodes) (x : Extends m.bank b) (a : Around) (rest work : Branch) (below : List Task)
    (g : IsGoingOn qv m a rest work below) (p : Place) (goal : TermId) (hd : Head) (first : Option TermId) (e : Entry)
    (c : IsAtCall qv m a p goal hd first g.closing g.levels rest.next e) (css : List Clauses) (pr : IsProgramIn m qv.arity css) (looked : Option TermId) (key : Option Key)
    (seen : IsSeen qv m b x a rest work below g p goal hd first e c css pr looked key) where
  abbrev n : Machine
  n = with_bank m b

  abbrev call : Call
  call = record { goal = goal; head = hd; first = looked; key = key; place = p; behind = m.branch.goals }

  abbrev z : Closing
  z = g.closing

  abbrev now : Term
  now = goal_of n call

  abbrev A : List Clause
  A = a.assumed p.assumed

  abbrev P : List Clause
  P = all_clauses css

  pub head_is : IsCallHead (head_of now)
  head_is = subst IsCallHead (sym seen.head_same) c.called

  place_now : IsPlaceAt (lists_of n) a p
  place_now = place_on (lists_of m) (lists_of n) g.above.done.stands.table g.above.done.stands.values (bank_grown m b x).lists a a p
      (same_around (length m.newest.items) (length m.standings.items) a) c.place

  -- what the first candidate is found by
  pub of_call : IsCallOf qv.arity n.bank call now
  of_call = record { head = ap head_term seen.head_same ∙ c.head_is; arity = subst (HasArity qv.arity) (sym seen.head_same) c.arity; key_is = seen.key_is }

  abbrev Found : Option Candidate → Type 0
  Found o = AreTriesApart (lists_of n) (first_in n hd) key o (filter (has_head now) A) (filter (passes now) P)

  pub found_by : (o : Option Candidate) →
      ((ar : ℕ → ℕ) (css : List Clauses) (before : List Clause) (t : Term) → HasProgram n css → HasAssumed (lists_of n) p.assumed before → IsCallOf ar
      n.bank call t → AreOfProgram ar (all_clauses css) → AreApplied ar before →
      AreTriesApart (lists_of n) (first_in n hd) key o (filter (has_head t) before) (filter (passes t) (all_clauses css))) → Found o
  found_by o f = f qv.arity css A now (pr.has b x) place_now.assumed of_call pr.heads c.applied

  -- the tasks
  module _ (o : Option Candidate) (f : Found o) where
    abbrev left : List Candidate
    left = map (λ i. candidate.Assumed i) f.numbers_assumed ++ map (λ i. candidate.Program i) f.numbers_program

    abbrev clauses : List Clause
    clauses = filter (has_head now) A ++ filter (passes now) P

    tasks_are : tries P e work (length below) (Some (closed z now)) ≡ tries_under z left clauses (closed z now) e work (length below)
    tasks_are =
        ap (λ cs. map (λ c. Try c (closed z now) e work (length below)) (candidates P cs (closed z now))) c.at_place.assumed ∙ ap
        (map (λ c. Try c (closed z now) e work (length below))) (candidates_kept z now head_is seen.key_kept P A c.heads) ∙
        sym (all_tasks z (lists_of n) (closed z now) e work (length below) f.numbers_assumed (filter (has_head now) A) f.assumed_are f.numbers_program (filter (passes now) P) f.program_are)

    no_tasks : (ks : List Candidate) → ks ≡ [] → tries_under z ks clauses (closed z now) e work (length below) ≡ []
    no_tasks [] q = refl
    no_tasks (k ∷ ks) q = absurd (cc)

    empty : o ≡ None → tries_under z left clauses (closed z now) e work (length below) ≡ []
    empty none = no_tasks left (subst (λ y. AreLeft n.bank n.table.rules.items (links n.assumptions.items) (first_in n hd) key y left) none f.found_left)

    pub none_left : o ≡ None → tries P e work (length below) (Some (closed z now)) ≡ []
    none_left none = tasks_are ∙ empty none

    -- a candidate that was found is the first of them
    chain_some : (ns : List ℕ) (o : List (Option ℕ)) (i : ℕ) → IsChain o (Some i) ns → (ks : List ℕ) × (ns ≡ i ∷ ks)
    chain_some [] o i h = absurd (cc)
    chain_some (k ∷ ks) o i h = let a = h.1 in let e : k ≡ i = cc in (ks, ap (λ j. j ∷ ks) e)

    left_some : (one : Candidate) (ks : List Candidate) → AreLeft n.bank n.table.rules.items (links n.assumptions.items) (first_in n hd) key
        (Some one) ks → (k : Candidate) × (rest : List Candidate) × (ks ≡ k ∷ rest)
    left_some (candidate.Assumed i) ks h =
        let e = chain_some h.0 (links n.assumptions.items) i h.2 in (
          candidate.Assumed i,
          map (λ j. candidate.Assumed j) e.0 ++ map (λ j. candidate.Program j) (filter (kept_clause n.bank n.table.rules.items key) h.1),
          h.4 ∙ ap (λ l. map (λ j. candidate.Assumed j) l ++ map (λ j. candidate.Program j) (filter (kept_clause n.bank n.table.rules.items key) h.1)) e.1,
        )
    left_some (candidate.Program i) ks h =
        let p = kept_clause n.bank n.table.rules.items key in
        let w = h.1 in
        let e = chain_some w.0 (nexts n.table.rules.items) i w.1 in (
          candidate.Program i,
          map (λ j. candidate.Program j) (filter p e.0),
          h.2 ∙ ap (map (λ j. candidate.Program j)) (w.2 ∙ ap (filter p) e.1 ∙ ap (λ b. if b then i ∷ filter p e.0 else filter p e.0) w.3),
        )

    tasks_some : (ks : List Candidate) (cs : List Clause) → AreCandidates (lists_of n) ks cs → (k : Candidate) (rest : List Candidate) → ks ≡ k ∷ rest →
        (t : Task) × (ts : List Task) × (tries_under z ks cs (closed z now) e work (length below) ≡ t ∷ ts)
    tasks_some [] cs h k rest q = absurd (cc)
    tasks_some (x ∷ ks) [] h k rest q = absurd h
    tasks_some (x ∷ ks) (c ∷ cs) h k rest q = (Try (clause_by z x c) (closed z now) e work (length below), tries_under z ks cs (closed z now) e work (length below), refl)

    pub some_left : (one : Candidate) → o ≡ Some one → (t : Task) × (ts : List Task) × (tries P e work (length below) (Some (closed z now)) ≡ t ∷ ts)
    some_left one some =
        let k = left_some one left (subst (λ y. AreLeft n.bank n.table.rules.items (links n.assumptions.items) (first_in n hd) key y left) some f.found_left) in
        let r = tasks_some left clauses (candidates_append (lists_of n) (map (λ i. candidate.Assumed i) f.numbers_assumed)
        (map (λ i. candidate.Program i) f.numbers_program) (filter (has_head now) A) (filter (passes now) P) f.assumed_are f.program_are) k.0 k.1 k.2 in
        (r.0, r.1, tasks_are ∙ r.2)

    module _ (s : State Task) (stack : s.stack ≡ tries P e work (length below) (Some (closed z now)) ++ below) (counted : IsCounted m s) where
      stack_now : s.stack ≡ tries_under z left clauses (closed z now) e work (length below) ++ below
      stack_now = stack ∙ ap (λ ts. ts ++ below) tasks_are

      counted_now : IsCounted n s
      counted_now = record { steps = counted.steps; rows = counted.rows; row = counted.row; lost = counted.lost }

      pub none_back : o ≡ None → IsBack qv n s
      none_back none = record {
        around = a;
        above = subst (HasAlternatives qv n a) (sym (stack_now ∙ ap (λ ts. ts ++ below) (empty none)))
            (bank_alternatives m b x qv a below g.above);
        counted = counted_now;
      }

      pub some_trying : (one : Candidate) → o ≡ Some one → IsTrying qv n a call one s
      some_trying one some =
          let st = g.above.done.stands in
          let gr = bank_grown m b x in
          let written = program_written n qv.arity f.numbers_program (filter (passes now) P) f.program_are (kept_each (IsProgramClause qv.arity) (passes now) P pr.written) in
          let known = program_known (lists_of n) z g.levels rest.next f.numbers_program (filter (passes now) P) f.program_are (kept_each (AllOfClause HasNoVariable 0) (passes now) P pr.known) in
          let assumed = kept_each (AllOfClause (λ d t. Within (Known g.levels rest.next) d (closed z t)) 0) (has_head now) A
          (known_each (λ d t. Within (Known g.levels rest.next) d (closed z t)) A c.assumed_known) in
          record {
            tags = left;
            clauses = clauses;
            candidates = record {
              found = subst (λ y. AreLeft n.bank n.table.rules.items (links n.assumptions.items) (first_in n hd) key y left) some f.found_left;
              are = candidates_append (lists_of n) (map (λ i. candidate.Assumed i) f.numbers_assumed)
                  (map (λ i. candidate.Program i) f.numbers_program) (filter (has_head now) A) (filter (passes now) P) f.assumed_are f.program_are;
              known_goal = (let l = c.within in let k = x.more_terms in omega (arith, l, k));
              known_first = seen.first_in_bank;
              known_key = seen.key_in;
              head_is = head_is;
              written = all_written n qv.arity f.numbers_assumed (filter (has_head now) A) f.assumed_are (map (λ i. candidate.Program i) f.numbers_program) (filter (passes now) P) written;
            };
            entry = e;
            raw = rest;
            rest = work;
            below = below;
            above = bank_alternatives m b x qv a below g.above;
            closing = z;
            stack = stack_now;
            placed = places_on (lists_of m) (lists_of n) st.table st.values gr.lists a a m.frames.items (same_around (length m.newest.items) (length m.standings.items) a) g.placed;
            place = place_now;
            at_place = record { assumed = c.at_place.assumed; written = c.at_place.written; level = c.at_place.level };
            goals = bank_reads m b x a m.branch.goals st rest.goals g.goals;
            next = g.next;
            next_type = g.next_type;
            reading = open_kept m.bank b m.bindings m.branch.next z x g.reading;
            left = pairs_more (length m.bank.terms) (length b.terms) m.branch.pairs.items x.more_terms g.left;
            levels = g.levels;
            known = record {
              goal_known = seen.known;
              assumed = c.assumed_known;
              written = c.written_known;
              tries = all_known (lists_of n) z g.levels rest.next f.numbers_assumed (filter (has_head now) A) f.assumed_are assumed
                  (map (λ i. candidate.Program i) f.numbers_program) (filter (passes now) P) known;
            };
            under = branch_on qv g.levels m.bank z (base_of m.denied) (length m.choices.items) m.branch.pairs.items b x g.left (mark_in (base_of m.denied) g.above.raws) rest work g.under;
            counted = counted_now;
          }
