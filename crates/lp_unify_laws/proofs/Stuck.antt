-- Each residual pair is stuck: a pair is delayed, and as soon as something is bound all delayed pairs are taken up again.
use Rattle.std.proofs.Common.{◌≡◌, ℕ, zero, suc, ◌+◌, List, [], ◌∷◌, ◌++◌, refl, subst as transport, Bool, true, false, ◌||◌, Some, None}
use Rattle.std.specs.Prelude.{option_map, nat_lt}
use Rattle.lp_unify_laws.proofs.Unifications.{after_turn, goes_on, is_limited}
use Rattle.std.proofs.lemmas.Option.{option_and_then_some}
use Rattle.lp_model.specs.Pair.{Pair}
use Rattle.lp_model.specs.Rule.{Ruled, Verdict, fails, gives, binds, delays, rule}
use Rattle.lp_model.specs.Types.{TypePair, TypeBinding, TypeOutcome, none, solved, solve_types}
use Rattle.lp_model.specs.Unify.{State, Turn, Goes, Fails, Solved, type_pairs_in, is_some_bound, judged, turn_on, turn, Unified, Fail, Solution, Spent, unify, begun, go_on, solve}
use Rattle.lp_unify_laws.specs.Solutions.{AreStuck}

stuck_append : (n : ℕ) (ps qs : List Pair) → AreStuck n ps → AreStuck n qs → AreStuck n (ps ++ qs)
stuck_append n [] qs h k = k
stuck_append n (p ∷ ps) qs h k = (h.0, stuck_append n ps qs h.1 k)

-- as long as nothing was bound since they were taken up
abbrev Rests : ℕ → State → Type 0
Rests n s = s.changed ≡ false → AreStuck n s.delayed

abbrev TurnRests : ℕ → State → Turn → Type 0
TurnRests n s (Goes s') = Rests n s'
TurnRests n s (Fails u) = Unit {0}
TurnRests n s (Solved s') = AreStuck n s'.delayed

or_none : (b : Bool) → (b || false) ≡ false → b ≡ false
or_none true e = absurd (cc)
or_none false e = refl

or_some : (b : Bool) → (b || true) ≡ false → ⊥
or_some true e = absurd (cc)
or_some false e = absurd (cc)

judged_rests : (n : ℕ) (s : State) (p : Pair) (rest : List Pair) (r : Ruled) (v : Verdict) (u : ℕ) → Rests n s → rule n s.next p ≡ Some r → r.verdict ≡ v → TurnRests n s (judged s p rest u v)
judged_rests n s p rest r fails u h e hv = tt
judged_rests n s p rest r (gives [] ps) u h e hv = λ q. h (or_none s.changed q)
judged_rests n s p rest r (gives (t ∷ ts) ps) u h e hv = λ q. absurd (or_some s.changed q)
judged_rests n s p rest r (binds bs next) u h e hv = λ q. absurd (cc)
judged_rests n s p rest r delays u h e hv = λ q. stuck_append n s.delayed (p ∷ []) (h q) (record { next = s.next; ruled = r; is = e; delays = hv }, tt)

turn_rests : (n : ℕ) (s : State) (ps : List Pair) (t : Turn) → Rests n s → turn_on n s ps ≡ Some t → TurnRests n s t
turn_rests n s (p ∷ rest) t h e = elim (rule n s.next p) as (λ o. rule n s.next p ≡ o → option_map (λ r. judged s p rest (suc s.units + r.units) r.verdict) o ≡ Some t → TurnRests n s t) [
  | None ↦ λ i j. absurd (cc)
  | Some r ↦ λ i j. let z : judged s p rest (suc s.units + r.units) r.verdict ≡ t = cc in transport (TurnRests n s) z (judged_rests n s p rest r r.verdict (suc s.units + r.units) h i refl)
] refl e
turn_rests n s [] t h e = elim s.changed as (λ b. s.changed ≡ b → (elim b [
  | true ↦ Some (Goes (record s { pairs = s.delayed; delayed = []; changed = false }))
  | false ↦ Some (Solved s)
]) ≡ Some t → TurnRests n s t) [
  | true ↦ λ i j. let z : Goes (record s { pairs = s.delayed; delayed = []; changed = false }) ≡ t = cc in transport (TurnRests n s) z (λ q. tt)
  | false ↦ λ i j. let z : Solved s ≡ t = cc in transport (TurnRests n s) z (h i)
] refl e

-- no pair is left but the delayed ones
abbrev Stuck : ℕ → Unified → Type 0
Stuck n Fail = Unit {0}
Stuck n Spent = Unit {0}
Stuck n (Solution s') = (s'.pairs ≡ []) × AreStuck n s'.delayed

abbrev TurnEnds : State → Turn → Type 0
TurnEnds s (Goes s') = Unit {0}
TurnEnds s (Fails u) = Unit {0}
TurnEnds s (Solved s') = s'.pairs ≡ []

judged_ends : (s : State) (p : Pair) (rest : List Pair) (u : ℕ) (v : Verdict) → TurnEnds s (judged s p rest u v)
judged_ends s p rest u fails = tt
judged_ends s p rest u (gives ts ps) = tt
judged_ends s p rest u (binds bs next) = tt
judged_ends s p rest u delays = tt

turn_ends : (n : ℕ) (s : State) (ps : List Pair) (t : Turn) → s.pairs ≡ ps → turn_on n s ps ≡ Some t → TurnEnds s t
turn_ends n s (p ∷ rest) t k e = elim (rule n s.next p) as (λ o. option_map (λ r. judged s p rest (suc s.units + r.units) r.verdict) o ≡ Some t → TurnEnds s t) [
  | None ↦ λ j. absurd (cc)
  | Some r ↦ λ j. let z : judged s p rest (suc s.units + r.units) r.verdict ≡ t = cc in transport (TurnEnds s) z (judged_ends s p rest (suc s.units + r.units) r.verdict)
] e
turn_ends n s [] t k e = elim s.changed as (λ b. (elim b [
  | true ↦ Some (Goes (record s { pairs = s.delayed; delayed = []; changed = false }))
  | false ↦ Some (Solved s)
]) ≡ Some t → TurnEnds s t) [
  | true ↦ λ j. let z : Goes (record s { pairs = s.delayed; delayed = []; changed = false }) ≡ t = cc in transport (TurnEnds s) z tt
  | false ↦ λ j. let z : Solved s ≡ t = cc in transport (TurnEnds s) z k
] e

pub residual_stuck : (m n limit : ℕ) (s : State) (o : Unified) → Rests n s → unify m n limit s ≡ Some o → Stuck n o
residual_stuck zero n limit s o h e = absurd (cc)
residual_stuck (suc m) n limit s o h e = option_and_then_some _ (turn n s) o e λ t i j.
    elim t as (λ t. TurnRests n s t → TurnEnds s t → after_turn m n limit t ≡ Some o → Stuck n o) [
      | Goes r ↦ λ a b q. goes_on m n limit r o (Stuck n) q tt (λ x. residual_stuck m n limit r o a x)
      | Fails u ↦ λ a b q. is_limited limit u o (Stuck n) q tt tt
      | Solved r ↦ λ a b q. let z : Solution r ≡ o = cc in transport (Stuck n) z (b, a)
    ] (turn_rests n s s.pairs t h i) (turn_ends n s s.pairs t refl i) j

-- the pairs that were delayed at the start are stuck where no type is bound
pub solve_stuck : (n limit : ℕ) (eqs : List TypePair) (ps ds : List Pair) (next : ℕ) (o : Unified) → AreStuck n ds → solve n limit eqs ps ds next ≡ Some o → Stuck n o
solve_stuck n limit eqs ps ds next o h e = option_and_then_some _ (solve_types n eqs [] 0) o e λ t i j. by_types t j
  where
    by_types : (t : TypeOutcome) → go_on n limit ps ds next t ≡ Some o → Stuck n o
    by_types (none u) q = is_limited limit u o (Stuck n) q tt tt
    by_types (solved ts u) q = elim (nat_lt limit u) as (λ b. (elim b [
      | true ↦ Some Spent
      | false ↦ unify n n limit (begun ps ds next (solved ts u))
    ]) ≡ Some o → Stuck n o) [
      | true ↦ λ z. let x : Spent ≡ o = cc in transport (Stuck n) x tt
      | false ↦ λ z. residual_stuck n n limit (begun ps ds next (solved ts u)) o (rests ts) z
    ] q
      where
        rests : (ts : List TypeBinding) → is_some_bound ts ≡ false → AreStuck n (type_pairs_in ts ds)
        rests [] r = h
        rests (b ∷ bs) r = absurd (cc)
