-- Whole runs come to an outcome, where pruning in typed pairs does: each turn comes, what it leaves is typed under all types that satisfy the
-- bindings, and there are such types; each turn that takes a pair takes a unit.
use Rattle.std.proofs.Common.{◌≡◌, ℕ, zero, suc, ◌+◌, ◌<◌, List, [], ◌∷◌, ◌++◌, map, length, ◌∙◌, refl, sym, ap, subst as transport, arith, Bool, true, false, Option, Some, None}
use Rattle.std.specs.Prelude.{option_map, option_and_then, nat_lt}
use Rattle.std.proofs.lemmas.Bool.Decides.{nat_tests}
use Rattle.lp_calculus.specs.Types.{Ty, var}
use Rattle.lp_model.specs.Types.{TypePair, TypeBinding, TypeOutcome, none, solved, solve_types}
use Rattle.lp_model.specs.Pair.{Pair}
use Rattle.lp_model.specs.Rule.{Ruled, Verdict, fails, gives, binds, delays, rule}
use Rattle.lp_model.specs.Unify.{State, Turn, Goes, Fails, Solved, put_pairs, type_pairs_in, judged, turn_on, turn, Unified, Fail, Solution, Spent, limited, unify, begun, go_on, solve}
use Rattle.lp_model.specs.Proofs.{Declared}
use Rattle.lp_model.specs.Answers.{Variable}
use Rattle.lp_unify_laws.specs.TypeSolutions.{Satisfies}
use Rattle.lp_unify_laws.specs.Solutions.{instance_pair, instance_variable, at_types, IsTypedInput}
use Rattle.lp_unify_laws.proofs.Identities.{instance_same, map_same, pair_same, both_types}
use Rattle.lp_unify_laws.proofs.TypedInstances.{length_variables}
use Rattle.lp_unify_laws.proofs.TypeSolving.{satisfies_append, satisfies_split, types_right}
use Rattle.lp_unify_laws.proofs.PairLists.{HasTyping, EachTyped, each_typed, types_append, types_satisfied, put_pairs_instance}
use Rattle.lp_unify_laws.proofs.Scopes.{append_none}
use Rattle.lp_unify_laws.proofs.Runs.{IsStateAt, Leads, TurnRight, right_goes, right_fails, right_solved, turn_right}
use Rattle.lp_unify_laws.proofs.NormalForms.Typed.{side_weighs}
use Rattle.lp_unify_laws.proofs.Termination.Comes.{Comes, comes_map}
use Rattle.lp_unify_laws.proofs.MoreSteps.Solving.{turn_more, unify_more}
use Rattle.lp_unify_laws.proofs.MoreSteps.Rules.{types_more}
use Rattle.lp_unify_laws.proofs.Termination.Types.{types_come}
use Rattle.lp_unify_laws.proofs.Termination.TypeSolutions.{put_by, general, AreFixed, both_unify, satisfied_twice, fixed_behind}
use Rattle.lp_unify_laws.proofs.Termination.FixedTypes.{IsFixedVerdict, rule_fixed}
use Rattle.lp_unify_laws.proofs.Termination.Rules.{PrunesBoth, rule_comes}

-- pruning comes to a term that weighs something in each typed pair
abbrev pub PrunesTyped : Declared → Type 0
PrunesTyped d = (θ : ℕ → Ty) (V : List Variable) (next : ℕ) (p : Pair) → length V ≡ next → HasTyping d V (instance_pair θ p) → PrunesBoth next p

-- types that satisfy the bindings, and change nothing in the pairs
pub record HasTypes (s : State) : Type 0 where
  pub types : ℕ → Ty
  pub satisfied : Satisfies types s.types
  pub pairs : at_types types s.pairs ≡ s.pairs
  pub delayed : at_types types s.delayed ≡ s.delayed

abbrev TurnHas : Turn → Type 0
TurnHas (Goes s) = HasTypes s
TurnHas (Fails u) = Unit {0}
TurnHas (Solved s) = Unit {0}

judged_has : (s : State) (p : Pair) (rest : List Pair) (u : ℕ) → (h : HasTypes s) → at_types h.types rest ≡ rest → instance_pair h.types p ≡ p → (v : Verdict) → IsFixedVerdict h.types v → TurnHas (judged s p rest u v)
judged_has s p rest u h hr hp fails f = tt
judged_has s p rest u h hr hp (gives ts ps) f =
    let ρ = h.types in
    let g = general f.steps f.equations ts f.units f.is in
    let θ = both_types (put_by ts) ρ in
    let own : at_types θ ps ≡ ps = ap (at_types θ) f.pairs ∙ fixed_behind f.equations ts ρ g f.fixed f.own f.own_fixed ∙ sym f.pairs in
    let others = fixed_behind f.equations ts ρ g f.fixed rest hr in
    record {
      types = θ;
      satisfied = satisfies_append θ s.types ts (satisfied_twice (put_by ts) ρ s.types h.satisfied) (g.satisfied θ (both_unify (put_by ts) ρ f.equations f.fixed g.unifies));
      pairs = types_append θ ps (type_pairs_in ts rest) ∙ (λ i. own i ++ others i);
      delayed = fixed_behind f.equations ts ρ g f.fixed s.delayed h.delayed;
    }
judged_has s p rest u h hr hp (binds bs next) f = record {
  types = h.types;
  satisfied = h.satisfied;
  pairs = put_pairs_instance h.types bs rest ∙ (λ i. put_pairs (f i) (hr i));
  delayed = put_pairs_instance h.types bs s.delayed ∙ (λ i. put_pairs (f i) (h.delayed i));
}
judged_has s p rest u h hr hp delays f = record {
  types = h.types;
  satisfied = h.satisfied;
  pairs = hr;
  delayed = types_append h.types s.delayed (p ∷ []) ∙ (λ i. h.delayed i ++ hp i ∷ []);
}

head_same : (p q : Pair) (ps qs : List Pair) → p ∷ ps ≡ q ∷ qs → p ≡ q
head_same p q ps qs e = cc

rest_same : (p q : Pair) (ps qs : List Pair) → p ∷ ps ≡ q ∷ qs → ps ≡ qs
rest_same p q ps qs e = cc

turn_has : (n : ℕ) (s : State) (ps : List Pair) (t : Turn) → HasTypes s → s.pairs ≡ ps → turn_on n s ps ≡ Some t → TurnHas t
turn_has n s (p ∷ rest) t h q e =
    let k : at_types h.types (p ∷ rest) ≡ p ∷ rest = ap (at_types h.types) (sym q) ∙ h.pairs ∙ q in
    let hp = head_same (instance_pair h.types p) p (at_types h.types rest) rest k in
    let hr = rest_same (instance_pair h.types p) p (at_types h.types rest) rest k in
    go (rule n s.next p) refl hp hr e
  where
    go : (o : Option Ruled) → rule n s.next p ≡ o → instance_pair h.types p ≡ p → at_types h.types rest ≡ rest → option_map (λ r. judged s p rest (suc s.units + r.units) r.verdict) o ≡ Some t → TurnHas t
    go None i hp hr j = absurd (cc)
    go (Some r) i hp hr j = let z : judged s p rest (suc s.units + r.units) r.verdict ≡ t = cc in transport TurnHas z (judged_has s p rest (suc s.units + r.units) h hr hp r.verdict (rule_fixed h.types n s.next p r hp i))
turn_has n s [] t h q e = go s.changed e
  where
    go : (b : Bool) → (elim b as (λ x. Option Turn) [ true ↦ Some (Goes (record s { pairs = s.delayed; delayed = []; changed = false })) | false ↦ Some (Solved s) ]) ≡ Some t → TurnHas t
    go true j = let z : Goes (record s { pairs = s.delayed; delayed = []; changed = false }) ≡ t = cc in transport TurnHas z (record { types = h.types; satisfied = h.satisfied; pairs = h.delayed; delayed = refl })
    go false j = let z : Solved s ≡ t = cc in transport TurnHas z tt

-- types are only added, and a turn that takes a pair takes a unit
pub record GoesOn (s s' : State) : Type 0 where
  pub more : List TypeBinding
  pub types : s'.types ≡ s.types ++ more

abbrev TurnGoesOn : State → Turn → Type 0
TurnGoesOn s (Goes s') = GoesOn s s'
TurnGoesOn s (Fails u) = Unit {0}
TurnGoesOn s (Solved s') = Unit {0}

judged_goes : (s : State) (p : Pair) (rest : List Pair) (u : ℕ) (v : Verdict) → TurnGoesOn s (judged s p rest u v)
judged_goes s p rest u fails = tt
judged_goes s p rest u (gives ts ps) = record { more = ts; types = refl }
judged_goes s p rest u (binds bs next) = record { more = []; types = append_none s.types }
judged_goes s p rest u delays = record { more = []; types = append_none s.types }

turn_goes : (n : ℕ) (s : State) (ps : List Pair) (t : Turn) → turn_on n s ps ≡ Some t → TurnGoesOn s t
turn_goes n s (p ∷ rest) t e = go (rule n s.next p) e
  where
    go : (o : Option Ruled) → option_map (λ r. judged s p rest (suc s.units + r.units) r.verdict) o ≡ Some t → TurnGoesOn s t
    go None j = absurd (cc)
    go (Some r) j = let z : judged s p rest (suc s.units + r.units) r.verdict ≡ t = cc in transport (TurnGoesOn s) z (judged_goes s p rest (suc s.units + r.units) r.verdict)
turn_goes n s [] t e = go s.changed e
  where
    go : (b : Bool) → (elim b as (λ x. Option Turn) [ true ↦ Some (Goes (record s { pairs = s.delayed; delayed = []; changed = false })) | false ↦ Some (Solved s) ]) ≡ Some t → TurnGoesOn s t
    go true j = let z : Goes (record s { pairs = s.delayed; delayed = []; changed = false }) ≡ t = cc in transport (TurnGoesOn s) z (record { more = []; types = append_none s.types })
    go false j = let z : Solved s ≡ t = cc in transport (TurnGoesOn s) z tt

abbrev TurnTakes : ℕ → Turn → Type 0
TurnTakes u (Goes s) = u < s.units
TurnTakes u (Fails v) = Unit {0}
TurnTakes u (Solved s) = Unit {0}

judged_takes : (s : State) (p : Pair) (rest : List Pair) (u v : ℕ) → v < u → (w : Verdict) → TurnTakes v (judged s p rest u w)
judged_takes s p rest u v l fails = tt
judged_takes s p rest u v l (gives ts ps) = l
judged_takes s p rest u v l (binds bs next) = l
judged_takes s p rest u v l delays = l

turn_takes : (n : ℕ) (s : State) (p : Pair) (rest : List Pair) (t : Turn) → turn_on n s (p ∷ rest) ≡ Some t → TurnTakes s.units t
turn_takes n s p rest t e = go (rule n s.next p) e
  where
    go : (o : Option Ruled) → option_map (λ r. judged s p rest (suc s.units + r.units) r.verdict) o ≡ Some t → TurnTakes s.units t
    go None j = absurd (cc)
    go (Some r) j = let z : judged s p rest (suc s.units + r.units) r.verdict ≡ t = cc in transport (TurnTakes s.units) z (judged_takes s p rest (suc s.units + r.units) s.units (omega arith) r.verdict)

-- a state that is typed under all types that satisfy its bindings
pub record IsRun (d : Declared) (s : State) : Type 0 where
  pub has : HasTypes s
  pub each : (θ : ℕ → Ty) → Satisfies θ s.types → (V : List Variable) × IsStateAt θ d V s

leads : (θ : ℕ → Ty) (d : Declared) (V : List Variable) (s s' : State) (t : Turn) → TurnRight θ d V s t → t ≡ Goes s' → Leads θ d V s s'
leads θ d V s s' _ (right_goes {s' = z} l) e = let q : z ≡ s' = cc in transport (Leads θ d V s) q l
leads θ d V s s' _ (right_fails f) e = absurd (cc)
leads θ d V s s' _ right_solved e = absurd (cc)

next_run : (d : Declared) (n : ℕ) (s s' : State) → IsRun d s → turn n s ≡ Some (Goes s') → IsRun d s'
next_run d n s s' h e = record {
  has = turn_has n s s.pairs (Goes s') h.has refl e;
  each = λ θ m.
      let g = turn_goes n s s.pairs (Goes s') e in
      let old = (satisfies_split θ s.types g.more (transport (Satisfies θ) g.types m)).0 in
      let w = h.each θ old in
      let r = (leads θ d w.0 s s' (Goes s') (turn_right θ d w.0 n s (Goes s') w.1 e) refl).reaches m in
      (r.after, r.is_state);
}

-- a turn
changed_comes : (s : State) (b : Bool) → Comes {A = Turn} (λ n. elim b [ true ↦ Some (Goes (record s { pairs = s.delayed; delayed = []; changed = false })) | false ↦ Some (Solved s) ])
changed_comes s true = (0, Goes (record s { pairs = s.delayed; delayed = []; changed = false }), refl)
changed_comes s false = (0, Solved s, refl)

turn_on_comes : (d : Declared) → PrunesTyped d → (s : State) → IsRun d s → (ps : List Pair) → s.pairs ≡ ps → Comes (λ n. turn_on n s ps)
turn_on_comes d f s h [] q = changed_comes s s.changed
turn_on_comes d f s h (p ∷ rest) q =
    let ρ = h.has.types in
    let w = h.each ρ h.has.satisfied in
    let k : HasTyping d w.0 (instance_pair ρ p) × EachTyped d w.0 (at_types ρ rest) = transport (λ z. EachTyped d w.0 (at_types ρ z)) q w.1.pairs in
    let a = side_weighs ρ _ [] p.left k.0.0.type k.0.1.left in
    let b = side_weighs ρ _ [] p.right k.0.0.type k.0.1.right in
    comes_map (λ n. rule n s.next p) (λ r. judged s p rest (suc s.units + r.units) r.verdict) (rule_comes s.next p a.0 b.0 a.1 b.1 (f ρ w.0 s.next p w.1.count k.0))

turn_comes : (d : Declared) → PrunesTyped d → (s : State) → IsRun d s → Comes (λ n. turn n s)
turn_comes d f s h = turn_on_comes d f s h s.pairs refl

-- runs
UnifyComes : ℕ → State → Type 0
UnifyComes limit s = (m : ℕ) × (n : ℕ) × (o : Unified) × (unify m n limit s ≡ Some o)

abbrev after : ℕ → ℕ → (limit : ℕ) → Turn → Option Unified
after m n limit t = elim t [
  | Goes s' ↦ elim (nat_lt limit s'.units) [ true ↦ Some Spent | false ↦ unify m n limit s' ]
  | Fails u ↦ Some (limited limit u Fail)
  | Solved s' ↦ Some (Solution s')
]

taken : (limit n j : ℕ) (s : State) (t : Turn) (o : Unified) → (m : ℕ) → turn n s ≡ Some t → after m (n + j) limit t ≡ Some o → UnifyComes limit s
unfolding UnifyComes
taken limit n j s t o m e i = (suc m, n + j, o, ap (option_and_then (after m (n + j) limit)) (turn_more n (n + j) (omega arith) s s.pairs t e) ∙ i)

on_spent : (limit m n : ℕ) (s : State) → nat_lt limit s.units ≡ true → after m n limit (Goes s) ≡ Some Spent
on_spent limit m n s e = ap (λ b. elim b as (λ x. Option Unified) [ true ↦ Some Spent | false ↦ unify m n limit s ]) e

on_more : (limit m n : ℕ) (s : State) (o : Unified) → nat_lt limit s.units ≡ false → unify m n limit s ≡ Some o → after m n limit (Goes s) ≡ Some o
on_more limit m n s o e i = ap (λ b. elim b as (λ x. Option Unified) [ true ↦ Some Spent | false ↦ unify m n limit s ]) e ∙ i

goes_comes : (limit n : ℕ) (s s' : State) → turn n s ≡ Some (Goes s') → (nat_lt limit s'.units ≡ false → UnifyComes limit s') → UnifyComes limit s
unfolding UnifyComes
goes_comes limit n s s' e f = go (nat_lt limit s'.units) refl
  where
    go : (b : Bool) → nat_lt limit s'.units ≡ b → UnifyComes limit s
    go true i = taken limit n 0 s (Goes s') Spent 0 e (on_spent limit 0 (n + 0) s' i)
    go false i =
        let r = f i in
        let k = unify_more r.0 r.0 r.1 (n + r.1) (omega arith) (omega arith) limit s' r.2 r.3 in
        taken limit n r.1 s (Goes s') r.2 r.0 e (on_more limit r.0 (n + r.1) s' r.2 i k)

turn_comes_on : (limit n : ℕ) (s : State) (t : Turn) → turn n s ≡ Some t → ((s' : State) → t ≡ Goes s' → nat_lt limit s'.units ≡ false → UnifyComes limit s') → UnifyComes limit s
turn_comes_on limit n s (Goes s') e f = goes_comes limit n s s' e (f s' refl)
turn_comes_on limit n s (Fails u) e f = taken limit n 0 s (Fails u) (limited limit u Fail) 0 e refl
turn_comes_on limit n s (Solved s') e f = taken limit n 0 s (Solved s') (Solution s') 0 e refl

-- a state with a pair: the rest has fewer units
pair_comes : (d : Declared) → PrunesTyped d → (limit k : ℕ) → ((s : State) → IsRun d s → limit < s.units + k → UnifyComes limit s) → (s : State) → IsRun d s → limit < s.units + suc k → (p : Pair) (rest : List Pair) → s.pairs ≡ p ∷ rest → UnifyComes limit s
pair_comes d f limit k ι s h l p rest q =
    let c = turn_comes d f s h in
    turn_comes_on limit c.0 s c.1 c.2 (λ s' i b.
    let e : turn c.0 s ≡ Some (Goes s') = c.2 ∙ ap Some i in
    let t : s.units < s'.units = turn_takes c.0 s p rest (Goes s') (transport (λ z. turn_on c.0 s z ≡ Some (Goes s')) q e) in
    ι s' (next_run d c.0 s s' h e) (omega arith))

empty_comes : (limit : ℕ) (s : State) → s.pairs ≡ [] → s.changed ≡ false → UnifyComes limit s
empty_comes limit s q e =
    turn_comes_on limit 0 s (Solved s) (transport (λ z. turn_on 0 s z ≡ Some (Solved s)) (sym q) (ap (λ b. elim b as (λ x. Option Turn) [ true ↦ Some (Goes (record s { pairs = s.delayed; delayed = []; changed = false })) | false ↦ Some (Solved s) ]) e)) (λ s' i. absurd (cc))

-- at the start more units are taken than the limit only where the run is over
waking_comes : (d : Declared) → (limit : ℕ) (s : State) → IsRun d s → s.pairs ≡ [] → s.changed ≡ true →
    ((s' : State) → IsRun d s' → s'.units ≡ s.units → (p : Pair) (rest : List Pair) → s'.pairs ≡ p ∷ rest → UnifyComes limit s') → UnifyComes limit s
waking_comes d limit s h q e f =
    let t : turn 0 s ≡ Some (Goes (record s { pairs = s.delayed; delayed = []; changed = false })) = transport (λ z. turn_on 0 s z ≡ Some (Goes (record s { pairs = s.delayed; delayed = []; changed = false }))) (sym q)
    (ap (λ b. elim b as (λ x. Option Turn) [ true ↦ Some (Goes (record s { pairs = s.delayed; delayed = []; changed = false })) | false ↦ Some (Solved s) ]) e) in
    let s' : State = record s { pairs = s.delayed; delayed = []; changed = false } in
    goes_comes limit 0 s s' t (λ b. go s' (next_run d 0 s s' h t) refl refl s'.pairs refl)
  where
    go : (s' : State) → IsRun d s' → s'.units ≡ s.units → s'.changed ≡ false → (ps : List Pair) → s'.pairs ≡ ps → UnifyComes limit s'
    go s' w u c [] i = empty_comes limit s' i c
    go s' w u c (p ∷ rest) i = f s' w u p rest i

state_comes : (d : Declared) → PrunesTyped d → (limit k : ℕ) → ((s : State) → IsRun d s → limit < s.units + k → UnifyComes limit s) → (s : State) → IsRun d s → limit < s.units + suc k → (ps : List Pair) → s.pairs ≡ ps → (b : Bool) → s.changed ≡ b → UnifyComes limit s
state_comes d f limit k ι s h l (p ∷ rest) q b e = pair_comes d f limit k ι s h l p rest q
state_comes d f limit k ι s h l [] q false e = empty_comes limit s q e
state_comes d f limit k ι s h l [] q true e = waking_comes d limit s h q e (λ s' w u p rest i. pair_comes d f limit k ι s' w (omega arith) p rest i)

all_come : (d : Declared) → PrunesTyped d → (limit k : ℕ) → (s : State) → IsRun d s → limit < s.units + suc k → UnifyComes limit s
all_come d f limit zero s h l = state_comes d f limit zero (λ s' w m. over s' w m s'.pairs refl s'.changed refl) s h l s.pairs refl s.changed refl
  where
    over : (s : State) → IsRun d s → limit < s.units + 0 → (ps : List Pair) → s.pairs ≡ ps → (b : Bool) → s.changed ≡ b → UnifyComes limit s
    over s h m (p ∷ rest) q b e =
        let c = turn_comes d f s h in
        turn_comes_on limit c.0 s c.1 c.2 (λ s' i z.
        let t : s.units < s'.units = turn_takes c.0 s p rest (Goes s') (transport (λ y. turn_on c.0 s y ≡ Some (Goes s')) q (c.2 ∙ ap Some i)) in
        absurd (grind (arith, nat_tests)))
    over s h m [] q false e = empty_comes limit s q e
    over s h m [] q true e = waking_comes d limit s h q e (λ s' w u p rest i.
        let c = turn_comes d f s' w in
        turn_comes_on limit c.0 s' c.1 c.2 (λ s'' j z.
        let t : s'.units < s''.units = turn_takes c.0 s' p rest (Goes s'') (transport (λ y. turn_on c.0 s' y ≡ Some (Goes s'')) i (c.2 ∙ ap Some j)) in
        absurd (grind (arith, nat_tests))))
all_come d f limit (suc k) s h l = state_comes d f limit (suc k) (λ s' w m. all_come d f limit k s' w m) s h l s.pairs refl s.changed refl

pub unify_comes : (d : Declared) → PrunesTyped d → (limit : ℕ) (s : State) → IsRun d s → (m : ℕ) × (n : ℕ) × (o : Unified) × (unify m n limit s ≡ Some o)
unfolding UnifyComes
unify_comes d f limit s h = all_come d f limit limit s h (omega arith)

-- from typed input
none_fixed : (eqs : List TypePair) → AreFixed var eqs
none_fixed [] = tt
none_fixed (p ∷ ps) = (instance_same p.left, (instance_same p.right, none_fixed ps))

begun_run : (d : Declared) (V : List Variable) (n : ℕ) (eqs : List TypePair) (ps ds : List Pair) (ts : List TypeBinding) (u : ℕ) → ((θ : ℕ → Ty) → IsTypedInput θ d (map (instance_variable θ) V) eqs ps ds) → solve_types n eqs [] 0 ≡ Some (solved ts u) → IsRun d (begun ps ds (length V) (solved ts u))
begun_run d V n eqs ps ds ts u w e =
    let g = general n eqs ts u e in
    let a = types_right n eqs [] 0 (solved ts u) e in
    record {
      has = record {
        types = put_by ts;
        satisfied = g.satisfied (put_by ts) g.unifies;
        pairs = fixed_behind eqs ts var g (none_fixed eqs) ps (map_same (instance_pair var) pair_same ps);
        delayed = fixed_behind eqs ts var g (none_fixed eqs) ds (map_same (instance_pair var) pair_same ds);
      };
      each = λ θ m.
          let W = map (instance_variable θ) V in
          let t = w θ (a.solves θ (transport (Satisfies θ) a.is m)) in (
            W,
            record {
              count = length_variables θ V;
              pairs = transport (EachTyped d W) (sym (types_satisfied θ ts m ps)) (each_typed d W t.0.0 (at_types θ ps) t.0.1);
              delayed = transport (EachTyped d W) (sym (types_satisfied θ ts m ds)) (each_typed d W t.1.0 (at_types θ ds) t.1.1);
            },
          );
    }

pub solve_comes : (d : Declared) → PrunesTyped d → (V : List Variable) (eqs : List TypePair) (ps ds : List Pair) → ((θ : ℕ → Ty) → IsTypedInput θ d (map (instance_variable θ) V) eqs ps ds) → (limit : ℕ) → (n : ℕ) × (o : Unified) × (solve n limit eqs ps ds (length V) ≡ Some o)
solve_comes d f V eqs ps ds w limit = let c = types_come eqs in by_types c.0 c.1 c.2
  where
    by_types : (n : ℕ) (o : TypeOutcome) → solve_types n eqs [] 0 ≡ Some o → (n : ℕ) × (o : Unified) × (solve n limit eqs ps ds (length V) ≡ Some o)
    by_types n (none u) e = (n, limited limit u Fail, ap (option_and_then (go_on n limit ps ds (length V))) e)
    by_types n (solved ts u) e =
        let r = unify_comes d f limit (begun ps ds (length V) (solved ts u)) (begun_run d V n eqs ps ds ts u w e) in
        let m = n + r.0 + r.1 in
        let i = types_more n m (omega arith) eqs [] 0 (solved ts u) e in
        let j = unify_more r.0 m r.1 m (omega arith) (omega arith) limit (begun ps ds (length V) (solved ts u)) r.2 r.3 in
        behind (nat_lt limit u) m r.2 i j refl
      where
        behind : (b : Bool) (m : ℕ) (o : Unified) → solve_types m eqs [] 0 ≡ Some (solved ts u) → unify m m limit (begun ps ds (length V) (solved ts u)) ≡ Some o → nat_lt limit u ≡ b → (n : ℕ) × (o : Unified) × (solve n limit eqs ps ds (length V) ≡ Some o)
        behind true m o i j q = (m, Spent, ap (option_and_then (go_on m limit ps ds (length V))) i ∙ ap (λ b. elim b as (λ x. Option Unified) [ true ↦ Some Spent | false ↦ unify m m limit (begun ps ds (length V) (solved ts u)) ]) q)
        behind false m o i j q = (m, o, ap (option_and_then (go_on m limit ps ds (length V))) i ∙ ap (λ b. elim b as (λ x. Option Unified) [ true ↦ Some Spent | false ↦ unify m m limit (begun ps ds (length V) (solved ts u)) ]) q ∙ j)
