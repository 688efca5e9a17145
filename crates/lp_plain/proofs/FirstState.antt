-- The state in which a search begins: nothing is bound.
use Rattle.std.proofs.Common.{◌≡◌, ℕ, zero, suc, ◌-◌, ◌≤◌, List, [], ◌∷◌, map, length, drop, refl, sym, ap, ◌∙◌, subst, arith, append-nil, ◌+◌, None, Some, false}
use Rattle.std.specs.Prelude.{All}
use Rattle.std.proofs.lemmas.List.Elements.{All-nil}
use Rattle.lp_calculus.specs.Types.{Ty, var, instance}
use Rattle.lp_calculus.specs.Fill.{Within}
use Rattle.lp_calculus.specs.Term.{Term, Atom, atom, constant, integer, text, eigen, logic, param}
use Rattle.lp_calculus.proofs.Fills.{within_more}
use Rattle.lp_model.specs.Branch.{Branch, Go, Task, entries, nothing_written}
use Rattle.lp_model.specs.Flat.{Goal, Goals, Atomic, Cut, Either, Exists, Forall, Assume, Not, goal_list, instantiate_goals}
use Rattle.lp_model.specs.Pair.{closed}
use Rattle.lp_model.specs.Search.{types_from, vars_from}
use Rattle.lp_model.specs.Skeleton.{State, row_limit}
use Rattle.lp_pattern.specs.Growing.{IsPairOf}
use Rattle.lp_pattern.specs.Putting.{Known}
use Rattle.lp_pattern.specs.Turning.{AreKnownPairs, ArePairsFor}
use Rattle.lp_pattern.specs.Unifying.{unbound}
use Rattle.lp_pattern.proofs.Unbound.{unbound_is, unbound_reading}
use Rattle.lp_plain.specs.declared.choice.Choice.{Choice}
use Rattle.lp_plain.specs.declared.machine.Machine.{Machine}
use Rattle.lp_plain.specs.Assuming.{ArePlaced}
use Rattle.lp_plain.specs.Entries.{Around, IsBranchAt}
use Rattle.lp_plain.specs.Moving.{Query, AreAlternatives, AreBoundInTurn, AreOuter, AreEntriesUnder, IsBranchUnder, IsGoalUnder, HasNoVariable, IsKnownAs, IsState, mark_in}
use Rattle.lp_plain.specs.Resuming.{AllOfEntries, AllOfGoals, AllTerms, goal_with}
use Rattle.lp_plain.specs.Searching.{AreNested, StandForAll}
use Rattle.lp_plain.specs.Stacks.{base_of}
use Rattle.lp_plain.specs.Within.{StandsIn}
use Rattle.lp_plain.proofs.Backwards.{drop_none}
use Rattle.lp_plain.proofs.KnownGoals.{goals_in_list, goals_put, goals_weaker}
use Rattle.lp_plain.proofs.KnownUnder.{entries_all}
use Rattle.lp_plain.proofs.Mapped.{goal_stays}
use Rattle.lp_plain.proofs.RenewedTypes.{instance_same}

-- outside of all goals, where each number of a mark is the mark
abbrev pub outermost : Around
outermost = record { assumed = λ o. []; written = λ o. nothing_written; mark = λ k. k }

types_still : (Ts : List Ty) → Ts ≡ map (instance unbound.types) Ts
types_still [] = refl
types_still (T ∷ Ts) = let p = sym (instance_same var (λ i. refl) T) in let q = types_still Ts in λ i. p i ∷ q i

terms_still : (ts : List Term) → ts ≡ map (closed unbound) ts
terms_still [] = refl
terms_still (t ∷ ts) = let p = sym (unbound_is t) in let q = terms_still ts in λ i. p i ∷ q i

whole_still : (g : Goal) → g ≡ goal_with (closed unbound) (instance unbound.types) g
whole_still g = sym (goal_stays (λ u. u) (λ u t. closed unbound t) (instance unbound.types) (λ u t. unbound_is t) (instance_same var (λ i. refl)) zero g)

goal_still : (g : Goal) → IsGoalUnder unbound g g
goal_still (Atomic t) = (t, (0, omega arith, ap Some (unbound_is t)), refl)
goal_still Cut = refl
goal_still (Either gs hs) = whole_still (Either gs hs)
goal_still (Exists T gs) = whole_still (Exists T gs)
goal_still (Forall T gs) = whole_still (Forall T gs)
goal_still (Assume w cs gs) = whole_still (Assume w cs gs)
goal_still (Not w gs) = whole_still (Not w gs)

entries_still : (gs : List Goal) → AreEntriesUnder unbound (mark_in 0 []) 0 0 (entries gs [] nothing_written 0 0) (entries gs [] nothing_written 0 0)
entries_still [] = tt
entries_still (g ∷ gs) = (
  record { goal = goal_still g; place = record { assumed = refl; written = refl; level = refl }; mark = refl; low = omega arith; high = omega arith },
  entries_still gs,
)

-- the query's variables are known where no variable stands in its flattened goals

vars_known : (k n i : ℕ) → k + i ≤ n → AllTerms (λ d t. Within (Known (λ x. 0) n) d (closed unbound t)) 0 (vars_from k i)
vars_known zero n i l = tt
vars_known (suc k) n i l = ((omega (arith, l), refl), vars_known k n (suc i) (omega (arith, l)))

more_than_none : (n : ℕ) (a : Atom) → Known (λ x. 0) 0 a → Known (λ x. 0) n a
more_than_none n (constant c ts) h = tt
more_than_none n (integer z) h = tt
more_than_none n (text s) h = tt
more_than_none n (eigen k) h = tt
more_than_none n (logic x l) h = (let y = h.0 in omega (arith, y), h.1)
more_than_none n (param k T) h = tt

query_known : (k : ℕ) (gs : Goals) → AllOfGoals HasNoVariable k gs → AllOfEntries (λ d t. Within (Known (λ x. 0) k) d (closed unbound t)) (entries (goal_list (instantiate_goals (λ i. atom (logic (k - suc i) 0)) gs)) [] nothing_written 0 0)
query_known k gs h =
    let σ : ℕ → Term = λ i. atom (logic (k - suc i) 0) in
    let w = goals_put (Known (λ x. 0) k) k 0 σ (λ i l. (omega (arith, l), refl)) gs
    (goals_weaker HasNoVariable (Within (Known (λ x. 0) k)) (λ d t v. within_more (Known (λ x. 0) 0) (Known (λ x. 0) k) d d (more_than_none k) (omega arith) t v) k gs h) in
    let u = goals_weaker (Within (Known (λ x. 0) k)) (λ d t. Within (Known (λ x. 0) k) d (closed unbound t)) (λ d t v. subst (Within (Known (λ x. 0) k) d) (sym (unbound_is t)) v) 0 (instantiate_goals σ gs) w in
    subst (AllOfEntries (λ d t. Within (Known (λ x. 0) k) d (closed unbound t))) (append-nil (entries (goal_list (instantiate_goals σ gs)) [] nothing_written 0 0))
    (entries_all (λ d t. Within (Known (λ x. 0) k) d (closed unbound t)) (goal_list (instantiate_goals σ gs)) [] nothing_written 0 0 [] (goals_in_list (λ d t. Within (Known (λ x. 0) k) d (closed unbound t)) (instantiate_goals σ gs) u) tt tt tt)

pub start_known : (ar : ℕ → ℕ) (j k : ℕ) (gs : Goals) → AllOfGoals HasNoVariable k gs → (b : Branch) → b.goals ≡ entries (goal_list (instantiate_goals (λ i. atom (logic (k - suc i) 0)) gs)) [] nothing_written 0 0 → b.next ≡ k → b.pairs ≡ [] →
    IsKnownAs (record { types = j; vars = k; arity = ar; outer = [] }) unbound (λ x. 0) b b
start_known ar j k gs h b eg en ep = record {
  goals = subst (λ n. AllOfEntries (λ d t. Within (Known (λ x. 0) n) d (closed unbound t)) b.goals) (sym en) (subst (AllOfEntries (λ d t. Within (Known (λ x. 0) k) d (closed unbound t))) (sym eg) (query_known k gs h));
  values = subst (λ n. AllTerms (λ d t. Within (Known (λ x. 0) n) d (closed unbound t)) 0 (vars_from k 0)) (sym en) (vars_known k k 0 (omega arith));
  pairs = subst (AreKnownPairs (λ x. 0) b.next) (sym ep) tt;
  free = λ x l. refl;
}

module _ (qv : Query) (limit : ℕ) (m : Machine) (s : State Task) (b : Branch) (gs : List Goal) (w : IsBranchAt m outermost b) (eg : b.goals ≡ entries gs [] nothing_written 0 0) (ep : b.pairs ≡ []) (ey : b.types ≡ types_from qv.types 0) (ev : b.values ≡ vars_from qv.vars 0) (c : m.choices.items ≡ [])
    (st : StandsIn m) (pl : ArePlaced m outermost) (d : m.denied ≡ None) (k : m.counts ≡ record { limit = limit; steps = 0; row = 0; lost = false }) (bt : m.bindings.terms.entries ≡ []) (by : m.bindings.types.entries ≡ [])
    (mp : m.branch.pairs.items ≡ []) (known : IsKnownAs qv unbound (λ x. 0) b b) where
  none_left : drop (base_of m.denied) m.choices.items ≡ []
  none_left = drop_none (base_of m.denied) m.choices.items c

  goals_under : AreEntriesUnder unbound (mark_in 0 []) 0 0 b.goals b.goals
  goals_under = subst (λ z. AreEntriesUnder unbound (mark_in 0 []) 0 0 z z) (sym eg) (entries_still gs)

  under : IsBranchUnder qv (λ x. 0) m.bank unbound (mark_in (base_of m.denied) []) (base_of m.denied) (length m.choices.items) m.branch.pairs.items b b
  under =
      subst (λ x. IsBranchUnder qv (λ x. 0) m.bank unbound (mark_in (base_of x) []) (base_of x) (length m.choices.items) m.branch.pairs.items b b) (sym d)
      (subst (λ (x : List Choice). IsBranchUnder qv (λ x. 0) m.bank unbound (mark_in 0 []) 0 (length x) m.branch.pairs.items b b) (sym c) (record {
        goals = goals_under;
        next = refl;
        next_type = refl;
        types = ey ∙ types_still (types_from qv.types 0);
        values = ev ∙ terms_still (vars_from qv.vars 0);
        pairs = subst (λ q. ArePairsFor m.bank unbound q b.pairs) (sym mp) (subst (ArePairsFor m.bank unbound []) (sym ep) tt);
        known = known;
      }))

  pub begins_so : qv.outer ≡ [] → s.stack ≡ Go b ∷ [] → s.steps ≡ limit → s.rows ≡ row_limit → s.row ≡ row_limit → s.lost ≡ false → IsState qv m s
  begins_so alone es et er eo el = record {
    around = outermost;
    raw = b;
    goals = w.goals;
    running = record {
      at_work = b;
      rest = [];
      stack = es;
      above = record {
        raws = [];
        others = [];
        done = record {
          stands = st;
          base = (let e = ap base_of d in omega (arith, e));
          alternatives = subst (λ x. StandForAll m outermost x 0 []) (sym none_left) tt;
          nested = subst AreNested (sym none_left) tt;
        };
        numbers = λ i. refl;
        are = subst (λ x. AreAlternatives qv m (mark_in (base_of m.denied) []) (base_of m.denied) (base_of m.denied) x [] []) (sym none_left) tt;
        in_turn = subst AreBoundInTurn (sym none_left) tt;
        is = refl;
        inside = record {
          outer = subst (λ o. AreOuter qv.arity m outermost o qv.outer) (sym d) (subst (AreOuter qv.arity m outermost None) (sym alone) tt);
          nested = subst AreNested (sym c) tt;
          in_turn = subst AreBoundInTurn (sym c) tt;
        };
      };
      placed = pl;
      next = w.next;
      next_type = w.next_type;
      closing = unbound;
      reading = unbound_reading m.bank m.bindings m.branch.next bt by;
      left = subst (All (IsPairOf (length m.bank.terms))) (sym mp) (All-nil (IsPairOf (length m.bank.terms)));
      levels = λ x. 0;
      under = under;
      counted = record {
        steps = (let e : limit ≡ limit - 0 = omega arith in et ∙ e ∙ ap (λ z. z.limit - z.steps) (sym k));
        rows = er;
        row = eo ∙ ap (λ z. row_limit - z.row) (sym k);
        lost = el ∙ ap (λ z. z.lost) (sym k);
      };
    };
  }
