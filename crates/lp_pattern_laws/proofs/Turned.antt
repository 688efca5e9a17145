-- Turns of unification on pattern terms: nothing is delayed, up to the end.
use Rattle.std.proofs.Common.{◌≡◌, ℕ, zero, suc, ◌+◌, List, [], ◌∷◌, ◌++◌, map, length, true, false, Option, Some, None, refl, sym, ap, ◌∙◌, subst as transport, arith}
use Rattle.std.specs.Prelude.{nat_lt, option_map}
use Rattle.std.proofs.lemmas.Option.{same_Some, option_and_then_some}
use Rattle.lp_calculus.specs.Types.{Ty, arrow}
use Rattle.lp_calculus.specs.Term.{Term, index, atom, abs, app, apply, Atom, eigen, logic, constant, integer, text, param}
use Rattle.lp_calculus.specs.Convert.{ReducesTo, done, then_step}
use Rattle.lp_calculus.specs.Fill.{Within, Binding}
use Rattle.lp_calculus.specs.Instance.{instance_atom, instance_term}
use Rattle.lp_calculus.specs.Typing.{HasType}
use Rattle.lp_calculus.proofs.Commutations.{instance_fill}
use Rattle.lp_calculus.proofs.Steps.{Step, step_fill}
use Rattle.lp_model.specs.Types.{TypeBinding, TypePair, TypeOutcome, none, solved, solve_types}
use Rattle.lp_model.specs.Pair.{Pair, put_pair, type_pair}
use Rattle.lp_model.specs.Rule.{Verdict, fails, gives, binds, delays, Ruled, rule}
use Rattle.lp_model.specs.Unify.{State, Turn, Goes, Fails, Solved, put_pairs, type_pairs_in, judged, turn_on, turn, Fail, Solution, Spent, limited, unify, begun, go_on, solve}
use Rattle.lp_model.specs.Proofs.{Declared}
use Rattle.lp_model.specs.Answers.{Variable}
use Rattle.lp_unify_laws.specs.Levels.{IsPair, IsPairAtom}
use Rattle.lp_unify_laws.specs.Right.{AreScoped}
use Rattle.lp_unify_laws.specs.Solutions.{at_types, instance_pair, instance_binding, IsTypedInput}
use Rattle.lp_unify_laws.specs.TypeSolutions.{Satisfies}
use Rattle.lp_unify_laws.proofs.Instances.{instance_all, instance_apply, length_instance}
use Rattle.lp_unify_laws.proofs.PairLists.{HasTyping, EachTyped, each_typed, left_term, right_term, pair_within, types_satisfied}
use Rattle.lp_unify_laws.proofs.Rules.{IsTypedAt}
use Rattle.lp_unify_laws.proofs.RuleAt.{IsRightAt, rule_at}
use Rattle.lp_unify_laws.proofs.Runs.{IsStateAt, TurnRight, right_goes, right_fails, right_solved, turn_right}
use Rattle.lp_unify_laws.proofs.Scopes.{in_scope}
use Rattle.lp_unify_laws.proofs.TypedBindings.{IsTypedTerm, term_reduces}
use Rattle.lp_unify_laws.proofs.TypeSolving.{AreSolved, satisfies_split, types_right}
use Rattle.lp_unify_laws.proofs.Unifications.{AddsTypes, after_turn, unify_adds}
use Rattle.lp_lemmas.specs.Each.{EachOf}
use Rattle.lp_lemmas.proofs.Each.{each_append}
use Rattle.lp_calculus.proofs.Fills.{within_more}
use Rattle.lp_pattern_laws.specs.Binders.{IsAtLevel}
use Rattle.lp_pattern_laws.specs.Goals.{IsPatternValue}
use Rattle.lp_pattern_laws.specs.Patterns.{ArePatternPairs}
use Rattle.lp_pattern_laws.proofs.PutForms.{HavePatterns, IsPatternBinding, pattern_put, pattern_instance}
use Rattle.lp_pattern_laws.proofs.Ruled.{IsRuledWell, SameLength, rule_well}

-- a variable of a type stands on as many arguments on both sides of a typed pair

-- the arrows of a type along its right side
abbrev right : Ty → ℕ
right (arrow a b) = suc (right b)
right _ = 0

record IsSpine (τ : Atom → Option Ty) (h : Term) (count : ℕ) (T : Ty) : Type 0 where
  type : Ty
  typed : HasType τ [] h type
  longer : right type ≡ count + right T

one_longer : (a b c : ℕ) → a ≡ b + c → suc a ≡ suc b + c
one_longer a b c e = omega (arith, e)

spine_typed : (τ : Atom → Option Ty) (ts : List Term) (h : Term) (T : Ty) → HasType τ [] (apply h ts) T → IsSpine τ h (length ts) T
spine_typed τ [] h T w = record { type = T; typed = w; longer = omega arith }
spine_typed τ (t ∷ ts) h T w =
    let s = spine_typed τ ts (app h t) T w in
    record { type = arrow s.typed.0 s.type; typed = s.typed.1; longer = one_longer (right s.type) (length ts) (right T) s.longer }

instance_step : (θ : ℕ → Ty) {t s : Term} → Step t s → Step (instance_term θ t) (instance_term θ s)
instance_step θ {t = t} {s = s} p =
    transport (λ x. Step x (instance_term θ s)) (sym (instance_fill θ t))
    (transport (Step _) (sym (instance_fill θ s)) (step_fill (λ a. atom (instance_atom θ a)) p))

instance_reduces : (θ : ℕ → Ty) {t s : Term} → ReducesTo t s → ReducesTo (instance_term θ t) (instance_term θ s)
instance_reduces θ (done t) = done (instance_term θ t)
instance_reduces θ (then_step p ps) = then_step (instance_step θ p) (instance_reduces θ ps)

add_same : (a b c : ℕ) → a + c ≡ b + c → a ≡ b
add_same a b c e = omega (arith, e)

module _ (θ : ℕ → Ty) (d : Declared) (E : List Ty) (V : List Variable) (T : Ty) where
  spine_at : (t : Term) → IsTypedTerm d E V (instance_term θ t) T → (x l : ℕ) (ts : List Term) → ReducesTo t (apply (atom (logic x l)) ts) → IsSpine (in_scope d E V) (atom (logic x l)) (length ts) T
  spine_at t w x l ts c =
      let s = spine_typed (in_scope d E V) (instance_all θ ts) (atom (logic x l)) T
      (transport (λ u. HasType (in_scope d E V) [] u T) (instance_apply θ ts (atom (logic x l))) (term_reduces d E V T (instance_reduces θ c) w).typed) in
      record { type = s.type; typed = s.typed; longer = s.longer ∙ ap (λ n. n + right T) (length_instance θ ts) }

  same_length : (next : ℕ) (p : Pair) → IsTypedAt d E V next (instance_pair θ p) T → SameLength p
  same_length next p w x l ts us b c =
      let s = spine_at p.left w.left x l ts b in
      let u = spine_at p.right w.right x l us c in
      let e : right s.type ≡ right u.type = ap right (same_Some s.type u.type (sym s.typed ∙ u.typed)) in
      add_same (length ts) (length us) (right T) (sym s.longer ∙ e ∙ u.longer)

-- what may stand in a pair has nothing to do with types
within_back : (θ : ℕ → Ty) (next n k : ℕ) (t : Term) → Within (IsPairAtom next n) k (instance_term θ t) → Within (IsPairAtom next n) k t
within_back θ next n k (index i) w = w
within_back θ next n k (atom (eigen j)) w = w
within_back θ next n k (atom (logic x l)) w = w
within_back θ next n k (atom (constant c ts)) w = tt
within_back θ next n k (atom (integer z)) w = tt
within_back θ next n k (atom (text s)) w = tt
within_back θ next n k (atom (param i T)) w = tt
within_back θ next n k (abs b) w = within_back θ next n (suc k) b w
within_back θ next n k (app t u) w = (within_back θ next n k t w.0, within_back θ next n k u w.1)

scoped_back : (θ : ℕ → Ty) (next : ℕ) (bs : List Binding) → AreScoped next (map (instance_binding θ) bs) → AreScoped next bs
scoped_back θ next [] h = tt
scoped_back θ next (b ∷ bs) h = (within_back θ next b.level 0 b.value h.0, scoped_back θ next bs h.1)

-- lists of pairs
pairs_append : (ps qs : List Pair) → ArePatternPairs ps → ArePatternPairs qs → ArePatternPairs (ps ++ qs)
pairs_append [] qs h k = k
pairs_append (p ∷ ps) qs h k = (h.0, pairs_append ps qs h.1 k)

typed_pairs : (b : TypeBinding) (ps : List Pair) → ArePatternPairs ps → ArePatternPairs (map (type_pair b) ps)
typed_pairs b [] h = tt
typed_pairs b (p ∷ ps) h = ((pattern_instance _ h.0.0, pattern_instance _ h.0.1), typed_pairs b ps h.1)

pairs_typed : (bs : List TypeBinding) (ps : List Pair) → ArePatternPairs ps → ArePatternPairs (type_pairs_in bs ps)
pairs_typed [] ps h = h
pairs_typed (b ∷ bs) ps h = pairs_typed bs (map (type_pair b) ps) (typed_pairs b ps h)

none_typed : (bs : List TypeBinding) → type_pairs_in bs [] ≡ []
none_typed [] = refl
none_typed (b ∷ bs) = none_typed bs

bound_pairs : (next : ℕ) (b : Binding) → IsPatternBinding next b → (ps : List Pair) → ArePatternPairs ps → ArePatternPairs (map (put_pair b) ps)
bound_pairs next b h [] k = tt
bound_pairs next b h (p ∷ ps) k = ((pattern_put next b h p.left k.0.0, pattern_put next b h p.right k.0.1), bound_pairs next b h ps k.1)

pairs_bound : (next : ℕ) (bs : List Binding) → HavePatterns bs → AreScoped next bs → (ps : List Pair) → ArePatternPairs ps → ArePatternPairs (put_pairs bs ps)
pairs_bound next [] h w ps k = k
pairs_bound next (b ∷ bs) h w ps k = pairs_bound next bs h.1 w.1 (map (put_pair b) ps) (bound_pairs next b (record { pattern = h.0; scoped = w.0 }) ps k)

none_bound : (bs : List Binding) → put_pairs bs [] ≡ []
none_bound [] = refl
none_bound (b ∷ bs) = none_bound bs

-- values at their levels
pair_level : (next l : ℕ) (a : Atom) → IsPairAtom next l a → IsAtLevel l a
pair_level next l (logic x m) w = w.1
pair_level next l (constant c ts) w = tt
pair_level next l (integer z) w = tt
pair_level next l (text s) w = tt
pair_level next l (eigen k) w = w
pair_level next l (param k T) w = tt

values_of : (next : ℕ) (bs : List Binding) → HavePatterns bs → AreScoped next bs → EachOf IsPatternValue bs
values_of next [] h w = tt
values_of next (b ∷ bs) h w = (
  record { pattern = h.0; level = within_more (IsPairAtom next b.level) (IsAtLevel b.level) 0 0 (pair_level next b.level) (omega arith) b.value w.0 },
  values_of next bs h.1 w.1,
)

-- a state of pattern terms with nothing delayed
record IsPatternState (s : State) : Type 0 where
  pairs : ArePatternPairs s.pairs
  delayed : s.delayed ≡ []
  bindings : EachOf IsPatternValue s.bindings

abbrev IsTurnedWell : Turn → Type 0
IsTurnedWell (Goes s) = IsPatternState s
IsTurnedWell (Fails u) = Unit {0}
IsTurnedWell (Solved s) = IsPatternState s

module _ (θ : ℕ → Ty) (d : Declared) where
  judged_well : (V : List Variable) (s : State) (p : Pair) (rest : List Pair) (u : ℕ) (v : Verdict) → IsRuledWell v → IsRightAt θ d V s.next p v →
      ArePatternPairs rest → s.delayed ≡ [] → EachOf IsPatternValue s.bindings → IsTurnedWell (judged s p rest u v)
  judged_well V s p rest u fails h i k empty b = tt
  judged_well V s p rest u (gives ts ps) h i k empty b = record {
    pairs = pairs_append ps (type_pairs_in ts rest) h (pairs_typed ts rest k);
    delayed = ap (type_pairs_in ts) empty ∙ none_typed ts;
    bindings = b;
  }
  judged_well V s p rest u (binds bs next) h i k empty b = record {
    pairs = pairs_bound next bs h (scoped_back θ next bs i.scoped) rest k;
    delayed = ap (put_pairs bs) empty ∙ none_bound bs;
    bindings = each_append IsPatternValue s.bindings bs b (values_of next bs h (scoped_back θ next bs i.scoped));
  }
  judged_well V s p rest u delays h i k empty b = absurd h

  turn_well : (V : List Variable) (n : ℕ) (s : State) (t : Turn) → IsStateAt θ d V s → IsPatternState s → turn n s ≡ Some t → IsTurnedWell t
  turn_well V n s t w h e = by_pairs s.pairs refl e
    where
      by_pairs : (ps : List Pair) → s.pairs ≡ ps → turn_on n s ps ≡ Some t → IsTurnedWell t
      by_pairs (p ∷ rest) q i = by_rule (rule n s.next p) refl i
        where
          typed : HasTyping d V (instance_pair θ p) × EachTyped d V (at_types θ rest)
          typed = transport (λ z. EachTyped d V (at_types θ z)) q w.pairs

          patterns : ArePatternPairs (p ∷ rest)
          patterns = transport ArePatternPairs q h.pairs

          typed_at : IsTypedAt d typed.0.0.eigens V s.next (instance_pair θ p) typed.0.0.type
          typed_at = record { count = w.count; level = typed.0.1.level; left = left_term d V typed.0.0 (instance_pair θ p) typed.0.1; right = right_term d V typed.0.0 (instance_pair θ p) typed.0.1 }

          pair : IsPair s.next p
          pair = let k = pair_within d V s.next w.count (instance_pair θ p) typed.0 in (within_back θ s.next p.level 0 p.left k.0, within_back θ s.next p.level 0 p.right k.1)

          by_rule : (o : Option Ruled) → rule n s.next p ≡ o → option_map (λ r. judged s p rest (suc s.units + r.units) r.verdict) o ≡ Some t → IsTurnedWell t
          by_rule None i j = absurd (cc)
          by_rule (Some r) i j =
              transport IsTurnedWell (same_Some (judged s p rest (suc s.units + r.units) r.verdict) t j)
              (judged_well V s p rest (suc s.units + r.units) r.verdict
              (rule_well s.next p patterns.0.0 patterns.0.1 pair (same_length θ d typed.0.0.eigens V typed.0.0.type s.next p typed_at) n r i)
              (rule_at θ d typed.0.0.eigens V typed.0.0.type n s.next p r typed_at i) patterns.1 h.delayed h.bindings)
      by_pairs [] q i = elim s.changed as (λ b. (elim b [
        | true ↦ Some (Goes (record s { pairs = s.delayed; delayed = []; changed = false }))
        | false ↦ Some (Solved s)
      ]) ≡ Some t → IsTurnedWell t) [
        | true ↦ λ j. transport IsTurnedWell (same_Some (Goes (record s { pairs = s.delayed; delayed = []; changed = false })) t j)
            (record { pairs = transport ArePatternPairs (sym h.delayed) tt; delayed = refl; bindings = h.bindings })
        | false ↦ λ j. transport IsTurnedWell (same_Some (Solved s) t j) h
      ] i

  falls_back : (s s' : State) → AddsTypes s s' → Satisfies θ s'.types → Satisfies θ s.types
  falls_back s s' a h = (satisfies_split θ s.types a.types (transport (Satisfies θ) a.are h)).0

  never_solution : (limit u : ℕ) (s : State) → Some (limited limit u Fail) ≡ Some (Solution s) → ⊥
  never_solution limit u s e = elim (nat_lt limit u) as (λ b. Some (elim b [ true ↦ Spent | false ↦ Fail ]) ≡ Some (Solution s) → ⊥) [ true ↦ λ q. cc | false ↦ λ q. cc ] e

  adds_of : (m n limit : ℕ) (s s' : State) → unify m n limit s ≡ Some (Solution s') → AddsTypes s s'
  adds_of m n limit s s' e = unify_adds m n limit s (Solution s') e

  unify_well : (m n limit : ℕ) (V : List Variable) (s s' : State) → IsStateAt θ d V s → IsPatternState s → unify m n limit s ≡ Some (Solution s') → Satisfies θ s'.types → IsPatternState s'
  unify_well zero n limit V s s' w h e all = absurd (cc)
  unify_well (suc m) n limit V s s' w h e all = option_and_then_some _ (turn n s) (Solution s') e λ t i j. by_turn t (turn_right θ d V n s t w i)
      (turn_well V n s t w h i) j (λ W x y k q. unify_well m n limit W x s' y k q all)
    where
      by_turn : (t : Turn) → TurnRight θ d V s t → IsTurnedWell t → after_turn m n limit t ≡ Some (Solution s') →
          ((W : List Variable) (x : State) → IsStateAt θ d W x → IsPatternState x → unify m n limit x ≡ Some (Solution s') → IsPatternState s') →
          IsPatternState s'
      by_turn _ (right_goes {s' = x} l) k q ih = elim (nat_lt limit x.units) as (λ b. (elim b [ true ↦ Some Spent | false ↦ unify m n limit x ]) ≡ Some (Solution s') → IsPatternState s') [
        | true ↦ λ j. absurd (cc)
        | false ↦ λ j. let r = l.reaches (falls_back x s' (adds_of m n limit x s' j) all) in ih r.after x r.is_state k j
      ] q
      by_turn _ (right_fails {u = u} f) k q ih = absurd (never_solution limit u s' q)
      by_turn _ right_solved k q ih = let z : s ≡ s' = cc in transport IsPatternState z k

  pub solve_well : (V : List Variable) (n limit : ℕ) (eqs : List TypePair) (ps : List Pair) (s : State) → IsTypedInput θ d V eqs ps []
      → ArePatternPairs ps → solve n limit eqs ps [] (length V) ≡ Some (Solution s) → Satisfies θ s.types → (s.delayed ≡ []) × EachOf IsPatternValue s.bindings
  solve_well V n limit eqs ps s w h e all = option_and_then_some _ (solve_types n eqs [] 0) (Solution s) e λ t i j. by_types t (types_right n eqs [] 0 t i) j
    where
      started : (ts : List TypeBinding) (u : ℕ) → AreSolved eqs [] (solved ts u) → unify n n limit (begun ps [] (length V) (solved ts u)) ≡ Some
          (Solution s) → (s.delayed ≡ []) × EachOf IsPatternValue s.bindings
      started ts u t j =
          let first = begun ps [] (length V) (solved ts u) in
          let m : Satisfies θ ts = falls_back first s (adds_of n n limit first s j) all in
          let input = w (t.solves θ (transport (Satisfies θ) t.is m)) in
          let state : IsStateAt θ d V first = record {
            count = refl;
            pairs = transport (EachTyped d V) (sym (types_satisfied θ ts m ps)) (each_typed d V input.0.0 (at_types θ ps) input.0.1);
            delayed = transport (EachTyped d V) (sym (types_satisfied θ ts m [])) tt;
          } in
          let patterns : IsPatternState first = record { pairs = pairs_typed ts ps h; delayed = none_typed ts; bindings = tt } in
          let r = unify_well n n limit V first s state patterns j all in
          (r.delayed, r.bindings)

      by_types : (t : TypeOutcome) → AreSolved eqs [] t → go_on n limit ps [] (length V) t ≡ Some (Solution s) → (s.delayed ≡ []) × EachOf IsPatternValue s.bindings
      by_types (none u) t j = absurd (never_solution limit u s j)
      by_types (solved ts u) t j = elim (nat_lt limit u) as (λ b. (elim b [
        | true ↦ Some Spent
        | false ↦ unify n n limit (begun ps [] (length V) (solved ts u))
      ]) ≡ Some (Solution s) → (s.delayed ≡ []) × EachOf IsPatternValue s.bindings) [
        | true ↦ λ z. absurd (cc)
        | false ↦ λ z. started ts u t z
      ] j
