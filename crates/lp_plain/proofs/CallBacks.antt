-- Back at candidates that are left to try the search is about to try the next one, with the bindings of then.
use Rattle.std.proofs.Common.{◌≡◌, ℕ, ◌+◌, ◌-◌, ◌≤◌, List, [], ◌∷◌, ◌++◌, map, length, take, drop, refl, sym, ap, ◌∙◌, subst, arith}
use Rattle.std.specs.Prelude.{All}
use Rattle.lp_model.specs.Branch.{Branch, Entry, Go, Task, Try}
use Rattle.lp_calculus.specs.Term.{Term}
use Rattle.lp_calculus.specs.Types.{instance}
use Rattle.lp_model.specs.Flat.{Clause, map_written}
use Rattle.lp_model.specs.Pair.{Closing, closed}
use Rattle.lp_model.specs.Skeleton.{State}
use Rattle.lp_pattern.specs.Growing.{IsPairOf}
use Rattle.lp_pattern.specs.Turning.{IsOpenReading}
use Rattle.lp_plain.specs.declared.candidates.Candidate.{Candidate}
use Rattle.lp_plain.specs.declared.choice.Call.{Call}
use Rattle.lp_plain.specs.declared.choice.Choice.{Choice}
use Rattle.lp_plain.specs.declared.choice.Untried.{Untried}
use Rattle.lp_plain.specs.declared.frame.Frame.{Frame}
use Rattle.lp_plain.specs.declared.machine.Machine.{Machine}
use Rattle.lp_plain.specs.Assuming.{IsPlaceAt, lists_of}
use Rattle.lp_plain.specs.Entries.{Around, AreEntries}
use Rattle.lp_plain.specs.Moving.{Query, AreAlternatives, AreBoundInTurn, AreCandidatesOf, IsBack, IsBranchUnder, IsKnownCall, IsPlaceUnder, IsTasksOf, IsTrying, mark_in, of_call, of_side, tries_under}
use Rattle.lp_plain.specs.Restoring.{IsTaken}
use Rattle.lp_plain.specs.Resuming.{clause_with}
use Rattle.lp_plain.specs.Searching.{AreNested, IsTriesAt, StandForAll, StandsFor, a_side, some_tries}
use Rattle.lp_plain.specs.Scopes.{blocks_at}
use Rattle.lp_plain.specs.Stacks.{base_of, stack_of}
use Rattle.lp_plain.specs.Tables.{shown}
use Rattle.lp_plain.specs.Taking.{IsKept}
use Rattle.lp_plain.specs.Trials.{goal_of}
use Rattle.lp_plain.specs.Trying.{lists_at, tries_of}
use Rattle.lp_plain.proofs.AboveUnder.{alternatives_marked, counts_same, marks_more}
use Rattle.lp_plain.proofs.Bounds.{all_older_back, bound_last, split_newest}
use Rattle.lp_plain.proofs.Inside.{inside_back}
use Rattle.lp_plain.proofs.Backwards.{all_back, nested_last, stands_then}
use Rattle.lp_plain.proofs.CallsUnder.{candidates_same, goal_back}
use Rattle.lp_plain.proofs.Marking.{drop_length}
use Rattle.lp_plain.proofs.QuietMoves.{drop_push, stack_push}
use Rattle.lp_plain.proofs.Restored.{reads_restored}
use Rattle.lp_plain.proofs.Tries.{lists_back}
use Rattle.lp_plain.proofs.Under.{branch_marked}

-- an alternative with candidates left
record IsCallAt (m : Machine) (a : Around) (c : Choice) (call : Call) (one : Candidate) (below : ℕ) (rs : List Task) : Type 0 where
  pub goal : Term
  pub entry : Entry
  pub rest : Branch
  pub first : Clause
  pub others : List Clause
  pub kept : IsKept m a c
  pub at : IsTriesAt m a c goal entry rest (first ∷ others)
  pub is : rs ≡ tries_of goal entry rest below (first ∷ others)

call_of : (m : Machine) (a : Around) (c : Choice) (call : Call) (one : Candidate) (below : ℕ) {rs : List Task} → c.untried ≡ Untried.Clauses call one → StandsFor m a c below rs → IsCallAt m a c call one below rs
call_of m a c call one below e (a_side b k h z) = absurd (let q = h.left in let j : Untried.Goals h.from ≡ Untried.Clauses call one = sym q ∙ e in cc)
call_of m a c call one below e (some_tries t y b k cs kp h z) = record { goal = t; entry = y; rest = b; first = k; others = cs; kept = kp; at = h; is = z }

-- its tasks
record IsCallTasks (qv : Query) (m : Machine) (c : Choice) (z : Closing) (f : ℕ → ℕ) (l u : ℕ) (call : Call) (one : Candidate) (e : Entry) (b : Branch) (below : ℕ) (ts : List Task) : Type 0 where
  pub tags : List Candidate
  pub clauses : List Clause
  pub candidates : AreCandidatesOf qv.arity m (lists_at c m) call one tags clauses
  pub entry : Entry
  pub rest : Branch
  pub levels : ℕ → ℕ
  pub known : IsKnownCall z levels b.next (closed z (goal_of m call)) e.assumed e.written tags clauses
  pub is : ts ≡ tries_under z tags clauses (closed z (goal_of m call)) entry rest below
  pub place : IsPlaceUnder z e entry
  pub under : IsBranchUnder qv levels m.bank z f l u c.pairs.items b rest

first_try : (x y : Clause) (s t : Term) (e f : Entry) (b d : Branch) (i j : ℕ) (xs ys : List Task) → Try x s e b i ∷ xs ≡ Try y t f d j ∷ ys → (e ≡ f) × (b ≡ d) × (i ≡ j)
first_try x y s t e f b d i j xs ys q = (let p : e ≡ f = cc in p, (let p : b ≡ d = cc in p), (let p : i ≡ j = cc in p))

tasks_of : (qv : Query) (m : Machine) (c : Choice) (z : Closing) (f : ℕ → ℕ) (l u : ℕ) (call : Call) (one : Candidate) (t : Term) (e : Entry) (b : Branch) (below : ℕ) (k : Clause) (ks : List Clause) (rs ts : List Task) →
    c.untried ≡ Untried.Clauses call one → rs ≡ tries_of t e b below (k ∷ ks) → IsTasksOf qv m c z f l u rs ts → IsCallTasks qv m c z f l u call one e b below ts
tasks_of qv m c z f l u call one t e b below k ks rs ts o r (of_side lv x d p q w) = absurd (let y : Try k t e b below ∷ tries_of t e b below ks ≡ Go x ∷ [] = sym r ∙ p in cc)
tasks_of qv m c z f l u call one t e b below k ks rs ts o r (of_call lv call' one' xs [] t' y y' x d i o' a p q w v kc) = absurd (let j : Try k t e b below ∷ tries_of t e b below ks ≡ [] = sym r ∙ p in cc)
tasks_of qv m c z f l u call one t e b below k ks rs ts o r (of_call lv call' one' xs (k' ∷ cs) t' y y' x d i o' a p q w v kc) =
    let j : Untried.Clauses call' one' ≡ Untried.Clauses call one = sym o' ∙ o in
    let jc : call' ≡ call = cc in
    let jo : one' ≡ one = cc in
    let s = first_try k k' t t' e y b x below i _ _ (sym r ∙ p) in
    record {
      tags = xs;
      clauses = k' ∷ cs;
      candidates = subst (λ n. AreCandidatesOf qv.arity m (lists_at c m) call n xs (k' ∷ cs)) jo (subst (λ n. AreCandidatesOf qv.arity m (lists_at c m) n one' xs (k' ∷ cs)) jc a);
      entry = y';
      rest = d;
      levels = lv;
      known = subst (λ n. IsKnownCall z lv b.next (closed z (goal_of m n)) e.assumed e.written xs (k' ∷ cs)) jc
          (subst (λ (n : Branch). IsKnownCall z lv n.next (closed z (goal_of m call')) e.assumed e.written xs (k' ∷ cs)) (sym s.1)
          (subst (λ (n : Entry). IsKnownCall z lv x.next (closed z (goal_of m call')) n.assumed n.written xs (k' ∷ cs)) (sym s.0) kc));
      is = q ∙ (λ n. tries_under z xs (k' ∷ cs) (closed z (goal_of m (jc n))) y' d (sym s.2 n));
      place = subst (λ n. IsPlaceUnder z n y') (sym s.0) w;
      under = subst (λ n. IsBranchUnder qv lv m.bank z f l u c.pairs.items n d) (sym s.1) v;
    }

same_call : (x y : Call) (i j : Candidate) → Untried.Clauses x i ≡ Untried.Clauses y j → x ≡ y
same_call x y i j e = cc

pub call_state : (qv : Query) (m n : Machine) (c : Choice) (rest : List Choice) (call : Call) (one : Candidate) → m.choices.items ≡ rest ++ c ∷ [] → c.untried ≡ Untried.Clauses call one → base_of m.denied ≤ length rest →
    IsTaken m n c rest → (s : State Task) (h : IsBack qv m s) → IsTrying qv n h.around call one s
call_state qv m n c rest call one e u l t s h =
    let b = base_of m.denied in
    let a = h.around in
    let xs = drop b rest in
    let f = mark_in b h.above.raws in
    let whole : drop b m.choices.items ≡ xs ++ c ∷ [] = ap (drop b) e ∙ drop_push b rest c l in
    let sp = split_newest qv m a f b b xs c 0 h.above.raws h.above.others (subst (λ z. StandForAll m a z 0 h.above.raws) whole h.above.done.alternatives)
    (subst (λ z. AreAlternatives qv m f b b z h.above.raws h.above.others) whole h.above.are) in
    let ca = call_of m a c call one sp.under u sp.last in
    let z = sp.is.closing in
    let ct = tasks_of qv m c z f b (b + length xs) call one ca.goal ca.entry ca.rest sp.under ca.first ca.others sp.raw sp.tasks u ca.is sp.is.tasks in
    let nest = nested_last xs c (subst AreNested whole h.above.done.nested) in
    let turn = bound_last xs c (subst AreBoundInTurn whole h.above.in_turn) in
    let sn = stands_then m n c rest t h.above.done.stands in
    let qs : drop (base_of n.denied) n.choices.items ≡ xs = (λ i. drop (base_of (t.denied i)) (t.choices i)) in
    let counts = counts_same qv m f b b xs sp.raws sp.others sp.are in
    let f' = mark_in b sp.raws in
    let agree : (i : ℕ) → b ≤ i → i ≤ b + length xs → f' i ≡ f i =
    (λ i p r. (let w = counts.0 in sym (ap (λ o. mark_in b o i) sp.whole_raw ∙ marks_more b sp.raws sp.raw i (omega (arith, p, r, w))))) in
    let older = alternatives_marked qv n f f' b b xs sp.raws sp.others (λ i p r. agree i p (omega (arith, r)))
    (all_older_back qv m n a c rest t ca.kept sp.is.bound_terms sp.is.bound_types f b b xs sp.raws sp.others nest.0 turn.0 sp.are) in
    let height : sp.under ≡ length (stack_of sp.others) = (let w = sp.count in let v = counts.2 in omega (arith, w, v)) in
    let same : ca.at.call ≡ call = same_call ca.at.call call ca.at.next_one one (sym ca.at.left ∙ u) in
    let lists = lists_back m n c rest t in
    let next : n.branch.next ≡ ca.rest.next = t.next ∙ ca.at.next in
    let g = goal_back qv m n t.bank t.table t.index call in
    record {
      tags = ct.tags;
      clauses = ct.clauses;
      candidates = candidates_same qv m n t.bank t.table t.index (lists_at c m) (lists_of n) lists call one ct.tags ct.clauses ct.candidates;
      entry = ct.entry;
      raw = ca.rest;
      rest = ct.rest;
      below = stack_of sp.others;
      above = record {
        raws = sp.raws;
        others = sp.others;
        done = record {
          stands = sn;
          base = (let ed = ap base_of t.denied in let ec = ap length t.choices in omega (arith, l, ed, ec));
          alternatives = subst (λ o. StandForAll n a o 0 sp.raws) (sym qs) (all_back m n a c rest t ca.kept xs nest.0 0 sp.raws sp.stand);
          nested = subst AreNested (sym qs) nest.1;
        };
        numbers = h.above.numbers;
        are = subst (λ d. AreAlternatives qv n (mark_in (base_of d) sp.raws) (base_of d) (base_of d) (drop (base_of n.denied) n.choices.items) sp.raws sp.others) (sym t.denied)
            (subst (λ o. AreAlternatives qv n f' b b o sp.raws sp.others) (sym qs) older);
        in_turn = subst AreBoundInTurn (sym qs) turn.1;
        is = refl;
        inside = inside_back qv m n a c rest e l t ca.kept sp.is.bound_terms sp.is.bound_types h.above.inside;
      };
      closing = z;
      stack = h.above.is ∙ ap stack_of sp.whole ∙ stack_push sp.others sp.tasks ∙ ap (λ o. o ++ stack_of sp.others) ct.is ∙
          (λ i. tries_under z ct.tags ct.clauses (closed z (sym g i)) ct.entry ct.rest (height i) ++ stack_of sp.others);
      placed = subst (λ o. All (λ (x : Frame). IsPlaceAt o a x.place) n.frames.items) lists (subst (All (λ (x : Frame). IsPlaceAt (lists_at c m) a x.place)) (sym t.frames) ca.kept.placed);
      place = subst (λ (o : Call). IsPlaceAt (lists_of n) a o.place) same (subst (λ o. IsPlaceAt o a ca.at.call.place) lists ca.at.place);
      at_place = record {
        assumed = ct.place.assumed ∙ ap (map (clause_with (closed z) (instance z.types))) (ca.at.assumed ∙ ap (λ (o : Call). a.assumed o.place.assumed) same);
        written = ct.place.written ∙ ap (map_written (closed z) (instance z.types)) (ca.at.written ∙ ap (λ (o : Call). a.written o.place.standing) same);
        level = ct.place.level ∙ ca.at.level ∙ ap (λ (o : Call). o.place.level) same;
      };
      goals = reads_restored m n c rest a call.behind ca.rest.goals t (subst (λ (o : Call). AreEntries m.bank (shown m.table) (blocks_at c.lengths.scopes m.scopes) a (take c.lengths.frames m.frames.items) o.behind ca.rest.goals) same ca.at.behind);
      next = next;
      next_type = t.next_type ∙ ca.at.next_type;
      reading = subst (λ i. IsOpenReading n.bank n.bindings i z) (sym t.next)
          (subst (λ o. IsOpenReading o n.bindings c.next z) (sym t.bank) (sp.is.reading n.bindings (record { terms = t.bound_terms; types = t.bound_types })));
      left = subst (λ o. All (IsPairOf (length o.terms)) n.branch.pairs.items) (sym t.bank) (subst (All (IsPairOf (length m.bank.terms))) (sym t.pairs) sp.is.left);
      levels = ct.levels;
      known = subst (λ g. IsKnownCall z ct.levels ca.rest.next (closed z g) (a.assumed call.place.assumed) (a.written call.place.standing) ct.tags ct.clauses) (sym g)
          (subst (λ (o : Call). IsKnownCall z ct.levels ca.rest.next (closed z (goal_of m call)) (a.assumed o.place.assumed) (a.written o.place.standing) ct.tags ct.clauses) same
          (subst (λ o. IsKnownCall z ct.levels ca.rest.next (closed z (goal_of m call)) (a.assumed ca.at.call.place.assumed) o ct.tags ct.clauses) ca.at.written
          (subst (λ o. IsKnownCall z ct.levels ca.rest.next (closed z (goal_of m call)) o ca.entry.written ct.tags ct.clauses) ca.at.assumed ct.known)));
      under = subst (λ d. IsBranchUnder qv ct.levels n.bank z (mark_in (base_of d) sp.raws) (base_of d) (length n.choices.items) n.branch.pairs.items ca.rest ct.rest) (sym t.denied)
          (subst (λ i. IsBranchUnder qv ct.levels n.bank z f' b i n.branch.pairs.items ca.rest ct.rest) (drop_length b rest l ∙ ap length (sym t.choices))
          (subst (λ o. IsBranchUnder qv ct.levels o z f' b (b + length xs) n.branch.pairs.items ca.rest ct.rest) (sym t.bank)
          (subst (λ o. IsBranchUnder qv ct.levels m.bank z f' b (b + length xs) o ca.rest ct.rest) (sym t.pairs) (branch_marked qv ct.levels m.bank z b (b + length xs) c.pairs.items f f' agree ca.rest ct.rest ct.under))));
      counted = record {
        steps = h.counted.steps ∙ ap (λ o. o.limit - o.steps) (sym t.counts);
        rows = h.counted.rows;
        row = h.counted.row ∙ ap (λ o. 1000000 - o.row) (sym t.counts);
        lost = h.counted.lost ∙ ap (λ o. o.lost) (sym t.counts);
      };
    }
