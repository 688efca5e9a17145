-- The scope of a clause that is tried, and its goals in front of those behind the call.
use Rattle.std.proofs.Common.{◌≡◌, ℕ, zero, suc, ◌+◌, ◌<◌, List, [], ◌∷◌, ◌++◌, map, length, refl, sym, ap, ◌∙◌, subst, arith, Some, ◌-◌, false, nat_lt, if◌then◌else◌}
use Rattle.std.proofs.lemmas.Bool.Decides.{nat_tests}
use Rattle.std.specs.Prelude.{All, slice_get}
use Rattle.std.proofs.lemmas.List.Elements.{All-head, All-tail}
use Rattle.lp_calculus.specs.Types.{Ty}
use Rattle.lp_calculus.specs.Term.{Term, apply}
use Rattle.lp_calculus.specs.Spine.{arguments, head_of}
use Rattle.lp_term.specs.Nodes.{Nodes, Extends, tree}
use Rattle.lp_term.specs.Spine.{IsNoApplication, LooseBelow}
use Rattle.lp_term.specs.declared.node.TermId.{TermId}
use Rattle.lp_model.specs.Branch.{Entry}
use Rattle.lp_model.specs.Flat.{Goal, goal_list, under_all}
use Rattle.lp_model.specs.Index.{lifted, instantiate, at}
use Rattle.lp_model.specs.Pair.{Closing, closed}
use Rattle.lp_model.specs.Search.{slots_of, slotted}
use Rattle.lp_pattern.specs.Growing.{GoesOn}
use Rattle.lp_pattern.specs.Turning.{IsOpenReading}
use Rattle.lp_pattern.proofs.Keeps.{goes_on_same}
use Rattle.lp_plain.specs.declared.candidates.Candidate.{Candidate}
use Rattle.lp_plain.specs.declared.choice.Call.{Call}
use Rattle.lp_plain.specs.declared.instance.Values.{Values}
use Rattle.lp_plain.specs.declared.machine.Machine.{Machine}
use Rattle.lp_plain.specs.declared.table.Rule.{Rule}
use Rattle.lp_plain.specs.Attempted.{IsClauseOf, IsOpened, before, own_values, with_first, with_types_to}
use Rattle.lp_plain.specs.Entries.{Around, AreAt, GrowsGoals, IsListAt, KeepsGoals, Reads, in_scope, placed}
use Rattle.lp_plain.specs.Followed.{IsScopeFor, LeadTo, PutsGoals, TakesTypes, tried_values}
use Rattle.lp_plain.specs.Heads.{trees_of}
use Rattle.lp_plain.specs.Instances.{AreValues, values_of}
use Rattle.lp_plain.specs.Renewal.{Fits, renewing}
use Rattle.lp_plain.specs.Scopes.{Holds}
use Rattle.lp_plain.specs.Tables.{IsHeadOf, IsListOf}
use Rattle.lp_plain.specs.Trials.{IsCallHead, IsHeadFor, goal_of, read_in}
use Rattle.lp_plain.specs.Unifying.{IsBoundIn, IsMore}
use Rattle.lp_plain.specs.Written.{IsWritten}
use Rattle.lp_plain.proofs.Growing.{grows_kept, grows_then, reads_later, scope_all}
use Rattle.lp_plain.proofs.HeadsUnder.{arguments_read, no_application}
use Rattle.lp_plain.proofs.Later.{list_later}
use Rattle.lp_plain.proofs.OwnValues.{one_read}
use Rattle.lp_plain.proofs.Spines.{spine_arguments}
use Rattle.lp_plain.proofs.TrialPairs.{value_read}
use Rattle.lp_plain.proofs.Within.{all_at}
use Rattle.lp_plain.proofs.TrialParts.{arguments_loose, same_trial}
use Rattle.lp_plain.proofs.Trials.{arguments_closed, goal_spine}
use Rattle.lp_plain.proofs.TryGrows.{call_values}

-- values in a bank that has grown
trees_stay : (b d : Nodes) (ws : List TermId) → Extends b d → AreValues b ws → map (λ t. tree d t.0) ws ≡ map (λ t. tree b t.0) ws
trees_stay b d [] E a = refl
trees_stay b d (w ∷ ws) E a =
    let p = E.same_terms w.0 (All-head (λ (t : TermId). (t.0 < length b.terms) × LooseBelow 0 0 (tree b t.0)) w ws a).0 in
    let q = trees_stay b d ws E (All-tail (λ (t : TermId). (t.0 < length b.terms) × LooseBelow 0 0 (tree b t.0)) w ws a) in
    λ i. p i ∷ q i

own_at : (b : Nodes) (ws : List TermId) → AreAt b ws (values_of b ws)
own_at b [] i v e = absurd (cc)
own_at b (w ∷ ws) zero v e = let q : w ≡ v = cc in ap (λ t. tree b t.0) (sym q)
own_at b (w ∷ ws) (suc i) v e = own_at b ws i v e

behind_own : (n i : ℕ) (own around : ℕ → Term) → before n own around (n + i) ≡ around i
behind_own n i own around =
    let e : nat_lt (n + i) n ≡ false = grind (arith, nat_tests) in
    let q : n + i - n ≡ i = omega arith in
    ap (λ b. if b then own (n + i) else around (n + i - n)) e ∙ ap around q

module _ (m o : Machine) (k : ℕ) (call : Call) (r : Rule) (values inner : Values) (args : List TermId)
    (O : IsOpened (with_types_to m k) o r args call.place.level values inner) (goal : Term) (spine_is : trees_of m.bank args ≡ arguments goal)
    (goal_head : IsCallHead (head_of goal)) (closed_args : AreValues m.bank args) (vs : List Ty) (h : Term) (σ : ℕ → Term)
    (H : IsHeadOf m.bank (length vs) r h) (outer : List TermId) (scope : Holds m.scopes.values.items m.scopes.blocks.items values.scope outer)
    (at' : AreAt m.bank outer σ) (shut : (i : ℕ) → LooseBelow 0 0 (σ i)) (ar : ℕ → ℕ) (j : ℕ) (written : IsWritten ar j (length vs + length outer) h)
    (stand : AreValues m.bank m.scopes.values.items) where
  opened : (ws : List TermId) × (length ws ≡ length r.slots.items + length outer) × Holds o.scopes.values.items o.scopes.blocks.items inner.scope ws ×
      AreAt o.bank ws (before (length r.slots.items) (own_values m.bank args m.branch.next call.place.level r.slots.items) σ)
  opened = O.opened outer σ closed_args stand scope at'

  pub scope_for : (n : Machine) → Extends o.bank n.bank → n.scopes ≡ o.scopes → (ws : List TermId) × Holds n.scopes.values.items n.scopes.blocks.items
      inner.scope ws × (length ws ≡ length vs + length outer) ×
      ((i : ℕ) (v : TermId) → slice_get ws (length vs + i) ≡ Some v → tree n.bank v.0 ≡ σ i) ×
      ((z : Closing) → IsOpenReading m.bank m.bindings m.branch.next z → IsHeadFor z (under_all lifted vs σ) (renewing values.types) (head_of h) →
      LeadTo z (length vs + length outer) (under_all lifted vs σ) (values_of n.bank ws)
      (tried_values m.branch.next call.place.level (read_in z (under_all lifted vs σ) (renewing values.types) h) (closed z goal)))
  scope_for n E s = (
    opened.0,
    subst (λ x. Holds x.values.items x.blocks.items inner.scope opened.0) (sym s) opened.2,
    opened.1 ∙ ap (λ c. c + length outer) H.count,
    (λ i v e.
        let a : AreValues o.bank opened.0 = scope_all (λ (t : TermId). (t.0 < length o.bank.terms) × LooseBelow 0 0 (tree o.bank t.0))
        o.scopes.values.items o.scopes.blocks.items inner.scope opened.0 (O.stands closed_args stand) opened.2 in
        let w = subst (λ c. AreAt o.bank opened.0 (before c (own_values m.bank args m.branch.next call.place.level r.slots.items) σ)) H.count opened.3 in
        E.same_terms v.0 (all_at (λ (t : TermId). (t.0 < length o.bank.terms) × LooseBelow 0 0 (tree o.bank t.0)) opened.0 (length vs + i) v e a).0 ∙ w (length vs + i) v e ∙
        behind_own (length vs) i (own_values m.bank args m.branch.next call.place.level r.slots.items) σ),
    λ z y headed i l.
        let read = read_in z (under_all lifted vs σ) (renewing values.types) in
        let e : arguments (read h) ≡ map read (arguments h) = arguments_read z (under_all lifted vs σ) (renewing values.types) h
        (no_application z (under_all lifted vs σ) (renewing values.types) h headed) in
        let g : arguments (closed z goal) ≡ map (closed z) (trees_of m.bank args) = arguments_closed z goal [] goal_head ∙ ap (map (closed z)) (sym spine_is) in
        let a : AreValues o.bank opened.0 = scope_all (λ (t : TermId). (t.0 < length o.bank.terms) × LooseBelow 0 0 (tree o.bank t.0))
        o.scopes.values.items o.scopes.blocks.items inner.scope opened.0 (O.stands closed_args stand) opened.2 in
        (λ x. instantiate (slotted (slots_of [] (e x) (g x)) m.branch.next call.place.level) (closed z (under_all lifted vs σ i))) ∙
        value_read m.bank o.bank m.bindings z m.branch.next call.place.level y vs (arguments h) σ shut values.types args r.slots.items opened.0 outer H.slots
        (subst (λ c. AreAt o.bank opened.0 (before c (own_values m.bank args m.branch.next call.place.level r.slots.items) σ)) H.count opened.3) (opened.1 ∙ ap (λ c. c + length outer) H.count)
        (arguments_loose ar j (length vs + length outer) h written) i l ∙
        ap (λ ts. closed z (at ts i)) (sym (trees_stay o.bank n.bank opened.0 E a)),
  )

-- a clause that was told by its candidate
pub scope_is : (m mid o n : Machine) (call : Call) (candidate : Candidate) (p : ℕ × Values) (inner : Values) (head : TermId) (olds args : List TermId)
    → IsClauseOf m mid candidate p → args ≡ with_first call.first olds →
    ((r : Rule) → slice_get mid.table.rules.items p.0 ≡ Some r → IsOpened mid o r args call.place.level p.1 inner) → IsBoundIn o n → IsNoApplication
    (tree m.bank head.0) → All (λ t. t.0 < length m.bank.terms) olds →
    apply (tree m.bank head.0) (trees_of m.bank olds) ≡ tree m.bank call.goal.0 → IsScopeFor m n call candidate p.0 inner
scope_is m mid o n call candidate p inner head olds args cl fa op bound alone inside spine vs h values σ T st G =
    let r = T.is.0 in
    let S = same_trial m mid candidate p T.rule T.type_vars values r T.is.1 T.is.2 cl T.around in
    let g : slice_get m.table.rules.items p.0 ≡ Some r = ap (slice_get m.table.rules.items) S.rule_is ∙ T.is.1 in
    let O : IsOpened (with_types_to m S.next_type) o r args call.place.level values inner =
    subst (λ v. IsOpened (with_types_to m S.next_type) o r args call.place.level v inner) S.values_are
    (subst (λ w. IsOpened w o r args call.place.level p.1 inner) S.mid_is (op r (ap (λ w. slice_get w.table.rules.items p.0) S.mid_is ∙ g))) in
    let f = scope_for m o S.next_type call r values inner args O (goal_of m call) (spine_arguments (tree m.bank head.0) (goal_of m call)
    (trees_of m.bank args) alone (goal_spine m call head olds args fa alone spine)) G.head
    (call_values m call head olds args fa alone inside spine G) vs h σ T.is.3 T.outer T.scope T.at T.shut T.arity T.types T.written st.values n bound.bank bound.scopes in
    (S.rule_is, O.types, f.0, f.1, f.2, f.3, f.4)

-- its type variables
pub types_taken : (m mid n : Machine) (candidate : Candidate) (p : ℕ × Values) → IsClauseOf m mid candidate p → n.branch.next_type ≡ mid.branch.next_type → TakesTypes m n candidate
types_taken m mid n (Candidate.Assumed i) p cl e vs h values σ T own = (
  tt,
  (let q : mid.branch.next_type ≡ m.branch.next_type = ap (λ x. x.branch.next_type) cl.4 in let k : T.type_vars ≡ 0 = own in omega (arith, e, q, k)),
)
types_taken m mid n (Candidate.Program i) p cl e vs h values σ T own =
    let r = T.is.0 in
    let S = same_trial m mid (Candidate.Program i) p T.rule T.type_vars values r T.is.1 T.is.2 cl T.around in
    let x = cl.2.0 in
    let same : x.type_vars ≡ T.type_vars = ap (λ v. v.type_vars) (one_read m.table.rules.items i x r cl.2.1 (subst (λ j. slice_get m.table.rules.items j ≡ Some r) T.around.0 T.is.1)) ∙ T.is.2 in
    (subst (λ v. Fits v.types) S.values_are cl.2.5, e ∙ ap (λ y. y.branch.next_type) cl.2.4 ∙ ap (λ c. m.branch.next_type + c) same)

-- what is known of terms stays, where no frame came
pub more_grows : (m n : Machine) → IsMore m n → GrowsGoals m n
more_grows m n g = record {
  bank = g.bank;
  table = g.table;
  frames = subst (λ v. GoesOn m.frames.items v.items) (sym g.frames) (goes_on_same m.frames.items);
  blocks = g.blocks;
  values = g.values;
}

-- the clause's goals come in front
pub goals_put_in_front : (m n k o : Machine) (call : Call) (candidate : Candidate) (rule mark : ℕ) (inner : Values) → IsMore m n → IsScopeFor m n call candidate rule inner → KeepsGoals n k →
    ((r : Rule) → slice_get k.table.rules.items rule ≡ Some r → (a : Around) (gs : List Goal) (es : List Entry) →
    IsListAt k (record { values = inner; assumed = call.place.assumed; standing = call.place.standing; level = call.place.level; mark = mark }) r.body gs → Reads k a call.behind es →
    Reads o a o.branch.goals (placed a (record { values = inner; assumed = call.place.assumed; standing = call.place.standing; level = call.place.level; mark = mark }) gs ++ es)) →
    PutsGoals m o call candidate mark
goals_put_in_front m n k o call candidate rule mark inner g scope noted body vs h values σ T st G =
    let s = scope vs h values σ T st G in
    let r = T.is.0 in
    let table : k.table ≡ m.table = noted.known.table ∙ g.table in
    let E : Extends m.bank k.bank = subst (λ c. Extends m.bank c) (sym noted.known.bank) g.bank in
    let grows = grows_then m n k (more_grows m n g) (grows_kept n k noted) in (
      values_of n.bank s.2,
      (λ a es h'.
          subst (λ t. Reads o a o.branch.goals (placed a (record {
            values = inner;
            assumed = call.place.assumed;
            standing = call.place.standing;
            level = call.place.level;
            mark = mark;
          }) (goal_list (in_scope (values_of n.bank s.2) t T.body)) ++ es)) s.1
          (body r (ap (λ t. slice_get t.rules.items rule) table ∙ ap (slice_get m.table.rules.items) s.0 ∙ T.is.1) a (goal_list (in_scope (values_of n.bank s.2) inner.types T.body)) es (
            T.body,
            values_of n.bank s.2,
            subst (λ t. IsListOf k.bank t r.body T.body) (sym table) (list_later m.bank k.bank E m.table st.table r.body T.body T.is.4),
            (
              s.2,
              subst (λ x. Holds x.values.items x.blocks.items inner.scope s.2) (sym noted.known.scopes) s.3,
              subst
                  (λ c. AreAt c s.2 (values_of n.bank s.2)) (sym noted.known.bank) (own_at n.bank s.2),
            ),
            refl,
          )
          (reads_later m k st grows a call.behind es h'))),
      s.6,
    )
