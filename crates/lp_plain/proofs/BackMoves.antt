-- Back at the right side of a `;` the search is in the definition's state, with the bindings of then.
use Rattle.std.proofs.Common.{◌≡◌, ℕ, ◌+◌, ◌-◌, ◌≤◌, List, [], ◌∷◌, ◌++◌, length, take, drop, refl, sym, ap, ◌∙◌, subst, arith, Bool, Option}
use Rattle.std.specs.Prelude.{All}
use Rattle.lp_model.specs.Branch.{Branch, Go, Task}
use Rattle.lp_model.specs.Search.{look}
use Rattle.lp_model.specs.Pair.{Closing}
use Rattle.lp_model.specs.Skeleton.{State, move_at}
use Rattle.lp_model.specs.Unify.{unit_limit}
use Rattle.lp_pattern.specs.Growing.{Grows, IsPairOf}
use Rattle.lp_pattern.proofs.Keeps.{grows_same}
use Rattle.lp_pattern.specs.Turning.{IsOpenReading}
use Rattle.lp_plain.specs.declared.choice.Choice.{Choice}
use Rattle.lp_plain.specs.declared.choice.Untried.{Untried}
use Rattle.lp_plain.specs.declared.frame.Frame.{Frame}
use Rattle.lp_plain.specs.declared.machine.Machine.{Machine}
use Rattle.lp_plain.specs.declared.outcome.Turn.{Turn}
use Rattle.lp_plain.specs.Assuming.{IsPlaceAt, KeepsAssumed, lists_of}
use Rattle.lp_plain.specs.Entries.{KeepsGoals}
use Rattle.lp_plain.specs.Moving.{Query, AreAlternatives, AreBoundInTurn, IsBack, IsBranchUnder, IsState, IsTasksOf, MovesTo, mark_in, of_call, of_side, quiet}
use Rattle.lp_plain.specs.Restoring.{GoesBack, IsTaken}
use Rattle.lp_plain.specs.Searching.{AreNested, StandForAll, last_ending}
use Rattle.lp_plain.specs.Stacks.{base_of, stack_of}
use Rattle.lp_plain.specs.Trying.{lists_at}
use Rattle.lp_plain.proofs.AboveUnder.{alternatives_marked, alternatives_on, counts_same, marks_more}
use Rattle.lp_plain.proofs.Alternatives.{all_stand_on}
use Rattle.lp_plain.proofs.Assumed.{lists_noted}
use Rattle.lp_plain.proofs.Backwards.{all_back, drop_none, nested_last, on_kept, side_of, stands_then, stops_so}
use Rattle.lp_plain.proofs.Grown.{same_around}
use Rattle.lp_plain.proofs.Inside.{inside_back, inside_still}
use Rattle.lp_plain.proofs.Marking.{drop_length}
use Rattle.lp_plain.proofs.Opening.{same_stands}
use Rattle.lp_plain.proofs.QuietMoves.{drop_push, stack_push}
use Rattle.lp_plain.proofs.Tries.{lists_back}
use Rattle.lp_plain.proofs.Under.{branch_marked}
use Rattle.lp_plain.proofs.Bounds.{all_older_back, bound_last, split_newest}

-- the task of a side
pub record IsSideTask (qv : Query) (m : Machine) (c : Choice) (z : Closing) (f : ℕ → ℕ) (l u : ℕ) (b : Branch) (ts : List Task) : Type 0 where
  pub levels : ℕ → ℕ
  pub branch : Branch
  pub is : ts ≡ Go branch ∷ []
  pub under : IsBranchUnder qv levels m.bank z f l u c.pairs.items b branch

pub side_task : (qv : Query) (m : Machine) (c : Choice) (z : Closing) (f : ℕ → ℕ) (l u : ℕ) (b : Branch) (from : Option ℕ) (rs ts : List Task) →
    c.untried ≡ Untried.Goals from → rs ≡ Go b ∷ [] → IsTasksOf qv m c z f l u rs ts →
    IsSideTask qv m c z f l u b ts
side_task qv m c z f l u b from rs ts e r (of_side lv x d p q w) =
    let same : x ≡ b = (let y : Go x ∷ [] ≡ Go b ∷ [] = sym p ∙ r in cc) in
    record { levels = lv; branch = d; is = q; under = subst (λ o. IsBranchUnder qv lv m.bank z f l u c.pairs.items o d) same w }
side_task qv m c z f l u b from rs ts e r (of_call lv call one xs cs t y e' x d k o a p q w v kc) = absurd (let j : Untried.Goals from ≡ Untried.Clauses call one = sym e ∙ o in cc)

pub side_state : (qv : Query) (m n q : Machine) (c : Choice) (rest : List Choice) (from : Option ℕ) → m.choices.items ≡ rest ++ c ∷ [] → c.untried ≡
    Untried.Goals from → base_of m.denied ≤ length rest → IsTaken m n c rest → GoesBack m q c rest →
    KeepsGoals n q → KeepsAssumed n q → q.frames ≡ n.frames → q.branch.pairs ≡ n.branch.pairs → (s : State Task) → IsBack qv m s → IsState qv q s
side_state qv m n q c rest from e u l t g k ka fr qp s h =
    let b = base_of m.denied in
    let a = h.around in
    let xs = drop b rest in
    let f = mark_in b h.above.raws in
    let whole : drop b m.choices.items ≡ xs ++ c ∷ [] = ap (drop b) e ∙ drop_push b rest c l in
    let sp = split_newest qv m a f b b xs c 0 h.above.raws h.above.others (subst (λ z. StandForAll m a z 0 h.above.raws) whole h.above.done.alternatives)
    (subst (λ z. AreAlternatives qv m f b b z h.above.raws h.above.others) whole h.above.are) in
    let sd = side_of m a c sp.under from u sp.last in
    let st = side_task qv m c sp.is.closing f b (b + length xs) sd.side from sp.raw sp.tasks u sd.is sp.is.tasks in
    let nest = nested_last xs c (subst AreNested whole h.above.done.nested) in
    let turn = bound_last xs c (subst AreBoundInTurn whole h.above.in_turn) in
    let sn = stands_then m n c rest t h.above.done.stands in
    let height : b + length xs ≡ length rest = drop_length b rest l in
    let qs : drop (base_of q.denied) q.choices.items ≡ xs = (λ i. drop (base_of (g.denied i)) (g.choices i)) in
    let counts = counts_same qv m f b b xs sp.raws sp.others sp.are in
    let f' = mark_in b sp.raws in
    let agree : (i : ℕ) → b ≤ i → i ≤ b + length xs → f' i ≡ f i =
    (λ i p r. (let w = counts.0 in sym (ap (λ z. mark_in b z i) sp.whole_raw ∙ marks_more b sp.raws sp.raw i (omega (arith, p, r, w))))) in
    let bank : q.bank ≡ m.bank = k.known.bank ∙ t.bank in
    let terms : q.bindings.terms.entries ≡ take c.bindings.terms m.bindings.terms.entries = ap (λ z. z.terms.entries) k.known.bindings ∙ t.bound_terms in
    let types : q.bindings.types.entries ≡ take c.bindings.types m.bindings.types.entries = ap (λ z. z.types.entries) k.known.bindings ∙ t.bound_types in
    let pairs : q.branch.pairs.items ≡ c.pairs.items = ap (λ z. z.items) qp ∙ t.pairs in
    let ga = on_kept n q k ka (g.denied ∙ sym t.denied) in
    let sa = same_around (length n.newest.items) (length n.standings.items) a in
    let backs = all_back m n a c rest t sd.kept xs nest.0 0 sp.raws sp.stand in
    let gb = subst (Grows n.bindings) (sym k.known.bindings) (grows_same n.bindings) in
    let older = alternatives_marked qv q f f' b b xs sp.raws sp.others (λ i p r. agree i p (omega (arith, r)))
    (alternatives_on qv n q a a sn ga sa gb f b b 0 xs sp.raws sp.others backs (all_older_back qv m n a c rest t sd.kept sp.is.bound_terms
    sp.is.bound_types f b b xs sp.raws sp.others nest.0 turn.0 sp.are)) in
    let stands = all_stand_on n q a a sn ga sa xs 0 sp.raws backs in
    let at = g.branch a sd.side sd.at in
    record {
      around = a;
      raw = sd.side;
      goals = at.goals;
      running = record {
        at_work = st.branch;
        rest = stack_of sp.others;
        stack = h.above.is ∙ ap stack_of sp.whole ∙ stack_push sp.others sp.tasks ∙ ap (λ z. z ++ stack_of sp.others) st.is;
        above = record {
          raws = sp.raws;
          others = sp.others;
          done = record {
            stands = same_stands n q k fr sn;
            base = (let ed = ap base_of g.denied in let ec = ap length g.choices in omega (arith, l, ed, ec));
            alternatives = subst (λ z. StandForAll q a z 0 sp.raws) (sym qs) stands;
            nested = subst AreNested (sym qs) nest.1;
          };
          numbers = h.above.numbers;
          are = subst (λ d. AreAlternatives qv q (mark_in (base_of d) sp.raws) (base_of d) (base_of d) (drop (base_of q.denied) q.choices.items) sp.raws sp.others) (sym g.denied)
              (subst (λ z. AreAlternatives qv q f' b b z sp.raws sp.others) (sym qs) older);
          in_turn = subst AreBoundInTurn (sym qs) turn.1;
          is = refl;
          inside = inside_still qv n q a a sn ga sa gb (inside_back qv m n a c rest e l t sd.kept sp.is.bound_terms sp.is.bound_types h.above.inside)
              (let ed = ap base_of t.denied in let ec = ap length t.choices in omega (arith, l, ed, ec)) (g.choices ∙ sym t.choices);
        };
        placed = subst (λ z. All (λ (x : Frame). IsPlaceAt (lists_of q) a x.place) z.items) (sym fr)
            (subst (λ z. All (λ (x : Frame). IsPlaceAt z a x.place) n.frames.items) (lists_back m n c rest t ∙ lists_noted n q k ka)
            (subst (All (λ (x : Frame). IsPlaceAt (lists_at c m) a x.place)) (sym t.frames) sd.kept.placed));
        next = at.next;
        next_type = at.next_type;
        closing = sp.is.closing;
        reading = subst (λ i. IsOpenReading q.bank q.bindings i sp.is.closing) (sd.at.next ∙ sym at.next)
            (subst (λ z. IsOpenReading z q.bindings c.next sp.is.closing) (sym bank) (sp.is.reading q.bindings (record { terms = terms; types = types })));
        left = subst (λ z. All (IsPairOf (length z.terms)) q.branch.pairs.items) (sym bank) (subst (All (IsPairOf (length m.bank.terms))) (sym pairs) sp.is.left);
        levels = st.levels;
        under = subst (λ d. IsBranchUnder qv st.levels q.bank sp.is.closing (mark_in (base_of d) sp.raws) (base_of d) (length q.choices.items) q.branch.pairs.items sd.side st.branch) (sym g.denied)
            (subst (λ i. IsBranchUnder qv st.levels q.bank sp.is.closing f' b i q.branch.pairs.items sd.side st.branch) (height ∙ ap length (sym g.choices))
            (subst (λ z. IsBranchUnder qv st.levels z sp.is.closing f' b (b + length xs) q.branch.pairs.items sd.side st.branch) (sym bank)
            (subst (λ z. IsBranchUnder qv st.levels m.bank sp.is.closing f' b (b + length xs) z sd.side st.branch) (sym pairs)
            (branch_marked qv st.levels m.bank sp.is.closing b (b + length xs) c.pairs.items f f' agree sd.side st.branch st.under))));
        counted = record {
          steps = h.counted.steps ∙ ap (λ z. z.limit - z.steps) (sym g.counts);
          rows = h.counted.rows;
          row = h.counted.row ∙ ap (λ z. 1000000 - z.row) (sym g.counts);
          lost = h.counted.lost ∙ ap (λ z. z.lost) (sym g.counts);
        };
      };
    }

-- no alternative is left
pub no_tasks : (qv : Query) (m : Machine) (f : ℕ → ℕ) (l k : ℕ) (cs : List Choice) (rss tss : List (List Task)) → cs ≡ [] → AreAlternatives qv m f l k cs rss tss → tss ≡ []
no_tasks qv m f l k [] [] [] e h = refl
no_tasks qv m f l k [] [] (ts ∷ tss) e h = absurd h
no_tasks qv m f l k [] (rs ∷ rss) tss e h = absurd h
no_tasks qv m f l k (c ∷ cs) rss tss e h = absurd (cc)

pub none_moved : (qv : Query) (m n : Machine) (s : State Task) (b : Bool) → m.choices.items ≡ [] → m.counts.lost ≡ b → IsBack qv m s → MovesTo quiet qv (Turn.Ended (last_ending b)) n s
none_moved qv m n s b e l h k ea go enough P =
    let d = base_of m.denied in
    let none = no_tasks qv m (mark_in d h.above.raws) d d (drop d m.choices.items) h.above.raws h.above.others (drop_none d m.choices.items e) h.above.are in
    let st : s.stack ≡ [] = h.above.is ∙ ap stack_of none in
    (refl, (λ i. move_at go (look unit_limit enough P) s.steps (ea i) s.given s.rows s.row ((h.counted.lost ∙ l) i) (st i)) ∙ stops_so go (look unit_limit enough P) s.steps k s.given s.rows s.row b)
