-- Behind a unification the entries of the definition's branch are those of the search as its new bindings read them, a goal known at run time after the same steps.
use Rattle.std.proofs.Common.{◌≡◌, ℕ, zero, List, [], ◌∷◌, map, refl, sym, ap, ◌∙◌, subst}
use Rattle.lp_calculus.specs.Fill.{Within, put_all}
use Rattle.lp_calculus.specs.Types.{Ty, instance}
use Rattle.lp_calculus.specs.Term.{Term}
use Rattle.lp_term.specs.Nodes.{Nodes}
use Rattle.lp_model.specs.Branch.{Entry, put_entries, type_entries}
use Rattle.lp_model.specs.Flat.{Clause, Goal, Atomic, Cut, Either, Exists, Forall, Assume, Not, Written, map_written}
use Rattle.lp_model.specs.Pair.{Closing, closed, put_types_in}
use Rattle.lp_model.specs.Types.{TypeBinding, put_types}
use Rattle.lp_model.specs.Unify.{State}
use Rattle.lp_model.specs.declared.answer.Pair.{Pair as Numbers}
use Rattle.lp_calculus.specs.Fill.{Binding}
use Rattle.lp_pattern.specs.Putting.{Known}
use Rattle.lp_pattern.specs.Unifying.{IsFound}
use Rattle.lp_plain.specs.Entries.{HeadsTo}
use Rattle.lp_plain.specs.Moving.{AreEntriesUnder, IsGoalUnder}
use Rattle.lp_plain.specs.Resuming.{AllOfAssumed, AllOfGoal, AllTerms, AreKnownEntries, clause_with, entry_with, goal_with}
use Rattle.lp_plain.proofs.HeadFills.{heads_put}
use Rattle.lp_plain.proofs.KnownGoals.{entries_weaker, terms_weaker}
use Rattle.lp_plain.proofs.Mapped.{clause_stays, goal_stays, written_stays}
use Rattle.lp_plain.proofs.Resumed.{assumed_agree, bindings_put, clause_fused, goal_agree, goal_fused, list_fused, terms_agree, type_behind, types_put, written_agree, written_fused}

-- nothing is changed
clauses_same_as : (cs : List Clause) → map (clause_with (λ x. x) (λ T. T)) cs ≡ cs
clauses_same_as [] = refl
clauses_same_as (c ∷ cs) = let p = clause_stays (λ (u : ℕ). u) (λ u x. x) (λ T. T) (λ u x. refl) (λ T. refl) zero c in let q = clauses_same_as cs in λ i. p i ∷ q i

entry_same : (e : Entry) → entry_with (λ x. x) (λ T. T) e ≡ e
entry_same e =
    let p = goal_stays (λ (u : ℕ). u) (λ u x. x) (λ T. T) (λ u x. refl) (λ T. refl) zero e.goal in
    let q = clauses_same_as e.assumed in
    let r = written_stays (λ (u : ℕ). u) (λ u x. x) (λ T. T) (λ u x. refl) (λ T. refl) zero e.written in
    λ i. record { goal = p i; assumed = q i; written = r i; level = e.level; mark = e.mark }

entries_same : (es : List Entry) → map (entry_with (λ x. x) (λ T. T)) es ≡ es
entries_same [] = refl
entries_same (e ∷ es) = let p = entry_same e in let q = entries_same es in λ i. p i ∷ q i

-- all bindings, and all types, are one change
pub all_put : (bs : List Binding) (ts : List TypeBinding) (ds : List Entry) → type_entries ts (put_entries bs ds) ≡ map (entry_with (λ x. put_types_in ts (put_all bs x)) (put_types ts)) ds
all_put bs ts ds =
    ap (λ l. type_entries ts (put_entries bs l)) (sym (entries_same ds)) ∙ ap (type_entries ts) (bindings_put bs (λ x. x) (λ T. T) ds) ∙ types_put ts (λ x. put_all bs x) (λ T. T) ds

module _ (lv : ℕ → ℕ) (n : ℕ) (c : Closing) (b : Nodes) (next : ℕ) (residual : List Numbers) (z : Closing) (s : State) (f : IsFound lv n c b next residual z s) where
  abbrev put : Term → Term
  put x = put_types_in s.types (put_all s.bindings x)

  abbrev ty : Ty → Ty
  ty T = put_types s.types T

  abbrev P : ℕ → Term → Type 0
  P d t = Within (Known lv n) d (closed c t)

  types_of : (T : Ty) → instance z.types T ≡ ty (instance c.types T)
  types_of = type_behind lv n c b next residual z s f

  goal_strict : (g : Goal) → AllOfGoal P 0 g → goal_with put ty (goal_with (closed c) (instance c.types) g) ≡ goal_with (closed z) (instance z.types) g
  goal_strict g k =
      goal_fused put (closed c) ty (instance c.types) zero zero zero g ∙
      sym (goal_agree P (closed z) (λ x. put (closed c x)) (instance z.types) (λ T. ty (instance c.types T)) f.puts types_of 0 zero zero g k)

  goal_behind : (g d : Goal) → AllOfGoal P 0 g → IsGoalUnder c g d → IsGoalUnder z g (goal_with put ty d)
  goal_behind (Atomic t) d k h =
      (put h.0, subst (λ x. HeadsTo x (put h.0)) (sym (f.puts 0 t k)) (heads_put s.bindings s.types (closed c t) h.0 h.1), ap (goal_with put ty) h.2)
  goal_behind Cut d k h = ap (goal_with put ty) h
  goal_behind (Either gs hs) d k h = ap (goal_with put ty) h ∙ goal_strict (Either gs hs) k
  goal_behind (Exists T gs) d k h = ap (goal_with put ty) h ∙ goal_strict (Exists T gs) k
  goal_behind (Forall T gs) d k h = ap (goal_with put ty) h ∙ goal_strict (Forall T gs) k
  goal_behind (Assume w cs gs) d k h = ap (goal_with put ty) h ∙ goal_strict (Assume w cs gs) k
  goal_behind (Not w gs) d k h = ap (goal_with put ty) h ∙ goal_strict (Not w gs) k

  assumed_behind : (A B : List Clause) → AllOfAssumed P A → B ≡ map (clause_with (closed c) (instance c.types)) A → map (clause_with put ty) B ≡ map (clause_with (closed z) (instance z.types)) A
  assumed_behind A B k e =
      ap (map (clause_with put ty)) e ∙
      list_fused (clause_with put ty) (clause_with (closed c) (instance c.types)) (clause_with (λ x. put (closed c x)) (λ T. ty (instance c.types T)))
      (clause_fused put (closed c) ty (instance c.types) zero zero zero) A ∙
      sym (assumed_agree P (closed z) (λ x. put (closed c x)) (instance z.types) (λ T. ty (instance c.types T)) f.puts types_of A k)

  written_behind : (v w : Written) → AllTerms P 0 v.terms → w ≡ map_written (closed c) (instance c.types) v → map_written put ty w ≡ map_written (closed z) (instance z.types) v
  written_behind v w k e =
      ap (map_written put ty) e ∙ written_fused put (closed c) ty (instance c.types) v ∙
      sym (written_agree P (closed z) (λ x. put (closed c x)) (instance z.types) (λ T. ty (instance c.types T)) f.puts types_of 0 v k)

  pub entries_behind : (g : ℕ → ℕ) (l u : ℕ) (es ds : List Entry) → AreKnownEntries lv n c es → AreEntriesUnder c g l u es ds → AreEntriesUnder z g l u es (map (entry_with put ty) ds)
  entries_behind g l u [] [] k h = tt
  entries_behind g l u [] (d ∷ ds) k h = absurd h
  entries_behind g l u (e ∷ es) [] k h = absurd h
  entries_behind g l u (e ∷ es) (d ∷ ds) k h =
      let x = h.0 in (
        record {
          goal = goal_behind e.goal d.goal k.0.0 x.goal;
          place = record { assumed = assumed_behind e.assumed d.assumed k.0.1 x.place.assumed; written = written_behind e.written d.written k.0.2 x.place.written; level = x.place.level };
          mark = x.mark;
          low = x.low;
          high = x.high;
        },
        entries_behind g l e.mark es ds k.1 h.1,
      )

  pub resumed_under : (g : ℕ → ℕ) (l u : ℕ) (es ds : List Entry) → AreKnownEntries lv n c es → AreEntriesUnder c g l u es ds → AreEntriesUnder z g l u es (type_entries s.types (put_entries s.bindings ds))
  resumed_under g l u es ds k h = subst (AreEntriesUnder z g l u es) (sym (all_put s.bindings s.types ds)) (entries_behind g l u es ds k h)

  -- what is known stays known
  one_known : (d : ℕ) (t : Term) → P d t → Within (Known f.levels' next) d (closed z t)
  one_known d t k = subst (Within (Known f.levels' next) d) (sym (f.puts d t k)) (f.knows d (closed c t) k)

  pub known_behind : (es : List Entry) → AreKnownEntries lv n c es → AreKnownEntries f.levels' next z es
  known_behind es k = entries_weaker P (λ d t. Within (Known f.levels' next) d (closed z t)) one_known es k

  pub terms_known : (ts : List Term) → AllTerms P 0 ts → AllTerms (λ d t. Within (Known f.levels' next) d (closed z t)) 0 ts
  terms_known ts k = terms_weaker P (λ d t. Within (Known f.levels' next) d (closed z t)) one_known 0 ts k

  -- the types and values of an answer
  pub types_behind : (Ts Us : List Ty) → Us ≡ map (instance c.types) Ts → map (put_types s.types) Us ≡ map (instance z.types) Ts
  types_behind Ts Us e = ap (map ty) e ∙ list_fused ty (instance c.types) (instance z.types) (λ T. sym (types_of T)) Ts

  pub values_behind : (ts us : List Term) → AllTerms P 0 ts → us ≡ map (closed c) ts → map (λ t. put_types_in s.types (put_all s.bindings t)) us ≡ map (closed z) ts
  values_behind ts us k e =
      ap (map put) e ∙ list_fused put (closed c) (λ x. put (closed c x)) (λ x. refl) ts ∙
      sym (terms_agree P (closed z) (λ x. put (closed c x)) (instance z.types) (λ T. ty (instance c.types T)) f.puts types_of 0 ts k)
