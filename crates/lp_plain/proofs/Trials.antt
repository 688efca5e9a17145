-- A candidate is tried for a goal as the definition tries it.
use Rattle.std.proofs.Common.{◌≡◌, ℕ, ◌+◌, ◌<◌, List, [], ◌∷◌, map, length, refl, sym, ap, ◌∙◌, subst, arith, Some}
use Rattle.std.specs.Prelude.{All, slice_get}
use Rattle.std.proofs.lemmas.List.Elements.{All-weaker}
use Rattle.lp_calculus.specs.Types.{Ty}
use Rattle.lp_calculus.specs.Term.{Term, Atom, index, atom, abs, app, apply, constant, integer, text, eigen, logic, param}
use Rattle.lp_calculus.specs.Instance.{instance_term}
use Rattle.lp_calculus.specs.Spine.{head_of, arguments_and, arguments}
use Rattle.lp_term.specs.Nodes.{Nodes, Extends, tree}
use Rattle.lp_term.specs.Spine.{IsNoApplication, LooseBelow}
use Rattle.lp_term.specs.declared.node.TermId.{TermId}
use Rattle.lp_model.specs.Flat.{under_all}
use Rattle.lp_model.specs.Index.{lifted}
use Rattle.lp_model.specs.Pair.{Pair, Closing, closed}
use Rattle.lp_model.specs.Rule.{type_pairs}
use Rattle.lp_model.specs.Search.{pairs_of, slots_of, slotted}
use Rattle.lp_model.specs.Unify.{Unified as Outcome, solve}
use Rattle.lp_model.specs.declared.answer.Pair.{Pair as Numbers}
use Rattle.lp_pattern.specs.Growing.{IsPairOf}
use Rattle.lp_pattern.specs.Turning.{IsOpenReading, AreKnownPairs, ArePairsFor}
use Rattle.lp_pattern.specs.Unifying.{IsSolutionUnder}
use Rattle.lp_pattern.proofs.PairsThrough.{pairs_stay}
use Rattle.lp_pattern.proofs.Walking.{open_kept}
use Rattle.lp_plain.specs.declared.candidates.Candidate.{Candidate}
use Rattle.lp_plain.specs.declared.choice.Call.{Call}
use Rattle.lp_plain.specs.declared.instance.Values.{Values}
use Rattle.lp_plain.specs.declared.machine.Machine.{Machine}
use Rattle.lp_plain.specs.declared.table.Rule.{Rule}
use Rattle.lp_plain.specs.declared.unified.Unified.{Unified}
use Rattle.lp_plain.specs.Attempted.{AreWrittenIn, IsClauseOf, IsOpened, becomes, before, own_values, with_first, with_types_to}
use Rattle.lp_plain.specs.Entries.{AreAt}
use Rattle.lp_plain.specs.Heads.{pair_in, pair_places, trees_of}
use Rattle.lp_plain.specs.Instances.{AreValues, IsNoParameter}
use Rattle.lp_plain.specs.Meeting.{IsMet, met_pairs}
use Rattle.lp_plain.specs.Renewal.{renewing}
use Rattle.lp_plain.specs.Scopes.{Holds}
use Rattle.lp_plain.specs.Tables.{IsHeadOf}
use Rattle.lp_plain.specs.Trials.{IsCallHead, IsHeadFor, IsTriedAs, goal_of, read_in, term_at, tried_pairs, with_first_term}
use Rattle.lp_plain.specs.Unifying.{IsUnifiedAs}
use Rattle.lp_plain.specs.Within.{IsRuleIn}
use Rattle.lp_plain.specs.Written.{IsWritten}
use Rattle.lp_plain.proofs.Growing.{scope_all}
use Rattle.lp_plain.proofs.HeadPairs.{heads_later, written_later}
use Rattle.lp_plain.proofs.HeadsUnder.{arguments_read, head_typed, no_application}
use Rattle.lp_plain.proofs.Meeting.{all_reached_later}
use Rattle.lp_plain.proofs.Scoped.{whole_scope}
use Rattle.lp_plain.proofs.Spines.{spine_arguments, spine_head}
use Rattle.lp_plain.proofs.TrialPairs.{trial_pairs}
use Rattle.lp_plain.proofs.TrialParts.{all_reached, arguments_loose, first_trees, first_within, goal_values, heads_written, same_trial}
use Rattle.lp_plain.proofs.Within.{all_at}

-- the goal as the bindings read it

call_atom : (x : Term) → IsCallHead x → (a : Atom) × (x ≡ atom a) × IsNoParameter a
call_atom (index i) h = absurd h
call_atom (atom (constant c ts)) h = (constant c ts, refl, tt)
call_atom (atom (integer j)) h = absurd h
call_atom (atom (text s)) h = absurd h
call_atom (atom (eigen k)) h = (eigen k, refl, tt)
call_atom (atom (logic x l)) h = absurd h
call_atom (atom (param k t)) h = absurd h
call_atom (abs b) h = absurd h
call_atom (app f a) h = absurd h

head_closed : (z : Closing) (x : Term) → IsCallHead (head_of x) → head_of (closed z x) ≡ instance_term z.types (head_of x)
head_closed z (index i) h = absurd h
head_closed z (atom (constant c ts)) h = refl
head_closed z (atom (integer j)) h = absurd h
head_closed z (atom (text s)) h = absurd h
head_closed z (atom (eigen k)) h = refl
head_closed z (atom (logic x l)) h = absurd h
head_closed z (atom (param k t)) h = absurd h
head_closed z (abs b) h = absurd h
head_closed z (app f a) h = head_closed z f h

pub arguments_closed : (z : Closing) (x : Term) (more : List Term) → IsCallHead (head_of x) → arguments_and (closed z x) (map (closed z) more) ≡ map (closed z) (arguments_and x more)
arguments_closed z (index i) more h = absurd h
arguments_closed z (atom (constant c ts)) more h = refl
arguments_closed z (atom (integer j)) more h = absurd h
arguments_closed z (atom (text s)) more h = absurd h
arguments_closed z (atom (eigen k)) more h = refl
arguments_closed z (atom (logic x l)) more h = absurd h
arguments_closed z (atom (param k t)) more h = absurd h
arguments_closed z (abs b) more h = absurd h
arguments_closed z (app f a) more h = arguments_closed z f (a ∷ more) h

pub pairs_later : (b d : Nodes) (ps : List Numbers) → Extends b d → All (IsPairOf (length b.terms)) ps → All (IsPairOf (length d.terms)) ps
pairs_later b d ps E a = All-weaker (IsPairOf (length b.terms)) (IsPairOf (length d.terms))
    (λ p h. ((let m = E.more_terms in let l = h.0 in omega (arith, l, m)), (let m = E.more_terms in let l = h.1 in omega (arith, l, m)))) ps a

terms_later : (b d : Nodes) (ts : List TermId) → Extends b d → All (λ t. t.0 < length b.terms) ts → All (λ t. t.0 < length d.terms) ts
terms_later b d ts E a = All-weaker (λ (t : TermId). t.0 < length b.terms) (λ (t : TermId). t.0 < length d.terms) (λ t l. let m = E.more_terms in omega (arith, l, m)) ts a

-- the clause of this rule, with a scope of its own
module _ (m o n : Machine) (k : ℕ) (call : Call) (r : Rule) (values inner : Values) (head : TermId) (args : List TermId) (u : Unified)
    (O : IsOpened (with_types_to m k) o r args call.place.level values inner)
    (M : IsMet o n r head args inner call.place.level u) (alone : IsNoApplication (tree m.bank head.0)) (there : head.0 < length m.bank.terms) (inside : All (λ t. t.0 < length m.bank.terms) args)
    (goal : Term) (spine : apply (tree m.bank head.0) (trees_of m.bank args) ≡ goal) (goal_shut : LooseBelow 0 0 goal)
    (goal_head : IsCallHead (head_of goal)) (vs : List Ty) (h : Term) (σ : ℕ → Term) (H : IsHeadOf m.bank (length vs) r h)
    (R : IsRuleIn (length m.bank.terms) r)
    (outer : List TermId) (scope : Holds m.scopes.values.items m.scopes.blocks.items values.scope outer) (at : AreAt m.bank outer σ)
    (shut : (i : ℕ) → LooseBelow 0 0 (σ i)) (ar : ℕ → ℕ) (j : ℕ) (written : IsWritten ar j (length vs + length outer) h)
    (stand : AreValues m.bank m.scopes.values.items) (residual : All (IsPairOf (length m.bank.terms)) m.branch.pairs.items) (z : Closing) (y : IsOpenReading m.bank m.bindings m.branch.next z)
    (headed : IsHeadFor z (under_all lifted vs σ) (renewing values.types) (head_of h)) where
  abbrev level : ℕ
  level = call.place.level

  abbrev goals : List Term
  goals = map (closed z) (trees_of m.bank args)

  abbrev read : Term → Term
  read = read_in z (under_all lifted vs σ) (renewing values.types)

  spine_is : trees_of m.bank args ≡ arguments goal
  spine_is = spine_arguments (tree m.bank head.0) goal (trees_of m.bank args) alone spine

  top_is : tree m.bank head.0 ≡ head_of goal
  top_is = spine_head (tree m.bank head.0) goal (trees_of m.bank args) alone spine

  closed_args : AreValues m.bank args
  closed_args = goal_values m.bank goal args inside spine_is goal_shut

  opened : (ws : List TermId) × (length ws ≡ length r.slots.items + length outer) × Holds o.scopes.values.items o.scopes.blocks.items inner.scope ws ×
      AreAt o.bank ws (before (length r.slots.items) (own_values m.bank args m.branch.next level r.slots.items) σ)
  opened = O.opened outer σ closed_args stand scope at

  many : length opened.0 ≡ length vs + length outer
  many = opened.1 ∙ ap (λ i. i + length outer) H.count

  in_places : map (pair_in o.bank) r.pairs.items ≡ pair_places (length vs) 0 [] (arguments h)
  in_places = heads_later m.bank o.bank ar j (length vs + length outer) r.pairs.items O.bank
      (heads_written m.bank ar j (length vs + length outer) (length vs) h r.pairs.items R.pairs H.pairs written) ∙ H.pairs

  goals_are : arguments (closed z goal) ≡ goals
  goals_are = arguments_closed z goal [] goal_head ∙ ap (map (closed z)) (sym spine_is)

  pairs_same : tried_pairs m.branch.next level (read h) (closed z goal) ≡ met_pairs z (becomes o.bank opened.0 inner.types) level goals (map (pair_in o.bank) r.pairs.items)
  pairs_same =
      let e : arguments (read h) ≡ map read (arguments h) = arguments_read z (under_all lifted vs σ) (renewing values.types) h
      (no_application z (under_all lifted vs σ) (renewing values.types) h headed) in
      (λ i. pairs_of (slotted (slots_of [] (e i) (goals_are i)) m.branch.next level) level [] (e i) (goals_are i)) ∙
      trial_pairs m.bank o.bank m.bindings z m.branch.next level y vs (arguments h) σ shut values.types args r.slots.items opened.0 outer H.slots
      (subst (λ i. AreAt o.bank opened.0 (before i (own_values m.bank args m.branch.next level r.slots.items) σ)) H.count opened.3) many (arguments_loose ar j (length vs + length outer) h written) ∙
      (λ i. met_pairs z (becomes o.bank opened.0 (sym O.types i)) level goals (sym in_places i))

  types_same : type_pairs (head_of (closed z goal)) (head_of (read h)) ≡ type_pairs (instance_term z.types (tree o.bank head.0))
      (instance_term z.types (instance_term (renewing inner.types) (tree o.bank r.head.0)))
  types_same =
      let f : instance_term z.types (tree o.bank head.0) ≡ head_of (closed z goal) = ap (instance_term z.types) (O.bank.same_terms head.0 there ∙ top_is) ∙ sym (head_closed z goal goal_head) in
      let g : tree o.bank r.head.0 ≡ head_of h = O.bank.same_terms r.head.0 R.head ∙ H.head in
      head_typed z (under_all lifted vs σ) (renewing values.types) (head_of (closed z goal)) h headed ∙
      (λ i. type_pairs (sym f i) (instance_term z.types (instance_term (renewing (sym O.types i)) (sym g i))))

  next_is : o.branch.next ≡ m.branch.next + length vs
  next_is = O.next ∙ ap (λ i. m.branch.next + i) H.count

  open_further : IsOpenReading o.bank o.bindings o.branch.next z
  open_further =
      let w = open_kept m.bank o.bank m.bindings m.branch.next z O.bank y in
      subst (λ s. IsOpenReading o.bank s o.branch.next z) (sym O.bindings) (record { reading = w.reading; shut = w.shut; still = w.still; unbound = λ x l. w.unbound x (omega (arith, l, next_is)) })

  pub tried_here : (ds : List Pair) → ArePairsFor m.bank z m.branch.pairs.items ds → (levels : ℕ → ℕ) → AreKnownPairs levels
      (m.branch.next + length vs) (tried_pairs m.branch.next level (read h) (closed z goal)) → AreKnownPairs levels (m.branch.next + length vs) ds →
      (i : ℕ) (x : Outcome) →
      solve i 1000000 (type_pairs (head_of (closed z goal)) (head_of (read h))) (tried_pairs m.branch.next level (read h) (closed z goal)) ds
      (m.branch.next + length vs) ≡ Some x → IsUnifiedAs u levels (m.branch.next + length vs) z n i x
  tried_here ds d levels kn kd i x e =
      let a = call_atom (head_of goal) goal_head in
      let met = met_pairs z (becomes o.bank opened.0 inner.types) level goals (map (pair_in o.bank) r.pairs.items) in
      subst (λ c. IsUnifiedAs u levels c z n i x) next_is
      (M a.0 (O.bank.same_terms head.0 there ∙ top_is ∙ a.1) a.2 (terms_later m.bank o.bank args O.bank inside)
      (subst (λ ps. All (IsPairOf (length o.bank.terms)) ps.items) (sym O.pairs) (pairs_later m.bank o.bank m.branch.pairs.items O.bank residual))
      (length o.scopes.blocks.items) (length o.scopes.values.items) opened.0
      (whole_scope o.scopes inner.scope opened.0 opened.2)
      (scope_all (λ (t : TermId). (t.0 < length o.bank.terms) × LooseBelow 0 0 (tree o.bank t.0)) o.scopes.values.items o.scopes.blocks.items
      inner.scope opened.0 (O.stands closed_args stand) opened.2) ar j
      (subst (λ c. AreWrittenIn o.bank ar j c r.pairs.items) (sym many)
      (written_later m.bank o.bank ar j (length vs + length outer) r.pairs.items O.bank (heads_written m.bank ar j (length vs + length outer) (length vs) h r.pairs.items R.pairs H.pairs written)))
      z open_further goals
      (all_reached_later m.bank o.bank z args goals O.bank inside (all_reached m.bank z args)) ds
      (subst (λ ps. ArePairsFor o.bank z ps.items ds) (sym O.pairs) (pairs_stay m.bank o.bank z m.branch.pairs.items ds O.bank residual d)) levels
      (subst (λ c. AreKnownPairs levels c met) (sym next_is) (subst (AreKnownPairs levels (m.branch.next + length vs)) pairs_same kn)) (subst (λ c. AreKnownPairs levels c ds) (sym next_is) kd) i x
      ((λ w. solve i 1000000 (sym types_same w) (sym pairs_same w) ds (next_is w)) ∙ e))

-- the goal as it was looked at, by its head and its arguments
pub goal_spine : (m : Machine) (call : Call) (head : TermId) (olds args : List TermId) → args ≡ with_first call.first olds → IsNoApplication (tree m.bank head.0) →
    apply (tree m.bank head.0) (trees_of m.bank olds) ≡ tree m.bank call.goal.0 → apply (tree m.bank head.0) (trees_of m.bank args) ≡ goal_of m call
goal_spine m call head olds args fa alone spine =
    (λ w. apply (spine_head (tree m.bank head.0) (tree m.bank call.goal.0) (trees_of m.bank olds) alone spine w)
    ((ap (trees_of m.bank) fa ∙ first_trees m.bank call.first olds ∙ ap (with_first_term (term_at m.bank call.first))
    (spine_arguments (tree m.bank head.0) (tree m.bank call.goal.0) (trees_of m.bank olds) alone spine)) w))

-- a clause that was told by its candidate
pub tried_as : (m mid o n : Machine) (call : Call) (candidate : Candidate) (p : ℕ × Values) (inner : Values) (head : TermId) (olds args : List TermId)
    (u : Unified) → IsClauseOf m mid candidate p → args ≡ with_first call.first olds →
    ((r : Rule) → slice_get mid.table.rules.items p.0 ≡ Some r → IsOpened mid o r args call.place.level p.1 inner) →
    ((r : Rule) → slice_get o.table.rules.items p.0 ≡ Some r → IsMet o n r head args inner call.place.level u) → IsNoApplication
    (tree m.bank head.0) →
    (call.goal.0 < length m.bank.terms → head.0 < length m.bank.terms) → All (λ t. t.0 < length m.bank.terms) olds → apply (tree m.bank head.0)
    (trees_of m.bank olds) ≡ tree m.bank call.goal.0 → IsTriedAs m n call candidate u
tried_as m mid o n call candidate p inner head olds args u cl fa op me alone there inside spine vs h values σ T st residual z y G headed ds d levels kn kd i x e =
    let r = T.is.0 in
    let S = same_trial m mid candidate p T.rule T.type_vars values r T.is.1 T.is.2 cl T.around in
    let g : slice_get m.table.rules.items p.0 ≡ Some r = ap (slice_get m.table.rules.items) S.rule_is ∙ T.is.1 in
    let O : IsOpened (with_types_to m S.next_type) o r args call.place.level values inner =
    subst (λ v. IsOpened (with_types_to m S.next_type) o r args call.place.level v inner) S.values_are
    (subst (λ w. IsOpened w o r args call.place.level p.1 inner) S.mid_is (op r (ap (λ w. slice_get w.table.rules.items p.0) S.mid_is ∙ g))) in
    let M : IsMet o n r head args inner call.place.level u = me r (ap (λ t. slice_get t.rules.items p.0) O.table ∙ g) in
    tried_here m o n S.next_type call r values inner head args u O M alone (there G.within)
    (subst (All (λ (t : TermId). t.0 < length m.bank.terms)) (sym fa) (first_within m.bank call.first olds inside G.first)) (goal_of m call)
    (goal_spine m call head olds args fa alone spine) G.shut G.head vs h σ T.is.3
    (all_at (IsRuleIn (length m.bank.terms)) m.table.rules.items T.rule r T.is.1 st.table.rules) T.outer T.scope T.at T.shut T.arity T.types T.written
    st.values residual z y headed ds d levels kn kd i x e

-- goals are put in front
pub unified_kept : (u : Unified) (levels : ℕ → ℕ) (next : ℕ) (z : Closing) (n o : Machine) (i : ℕ) (x : Outcome) → o.bank ≡ n.bank → o.bindings ≡
    n.bindings → o.branch.next ≡ n.branch.next → o.branch.pairs.items ≡ n.branch.pairs.items → IsUnifiedAs u levels next z n i x →
    IsUnifiedAs u levels next z o i x
unified_kept Unified.Fits levels next z n o i x b s v p h =
    subst (λ c. IsSolutionUnder levels next z c o.bindings o.branch.next o.branch.pairs.items x) (sym b)
    (subst (λ c. IsSolutionUnder levels next z n.bank c o.branch.next o.branch.pairs.items x) (sym s)
    (subst (λ c. IsSolutionUnder levels next z n.bank n.bindings c o.branch.pairs.items x) (sym v) (subst (λ c. IsSolutionUnder levels next z n.bank n.bindings n.branch.next c x) (sym p) h)))
unified_kept Unified.Fails levels next z n o i x b s v p h = h
unified_kept Unified.Deep levels next z n o i x b s v p h = h

pub tried_kept : (m n o : Machine) (call : Call) (candidate : Candidate) (u : Unified) → o.bank ≡ n.bank → o.bindings ≡ n.bindings → o.branch.next ≡
    n.branch.next → o.branch.pairs.items ≡ n.branch.pairs.items → IsTriedAs m n call candidate u → IsTriedAs m o call candidate u
tried_kept m n o call candidate u b s v p f vs h values σ T st residual z y G headed ds d levels kn kd i x e =
    unified_kept u levels (m.branch.next + length vs) z n o i x b s v p (f vs h values σ T st residual z y G headed ds d levels kn kd i x e)
