-- The turns of a run: each turn of the code is one of the definition.
use Rattle.std.proofs.Common.{◌≡◌, ℕ, zero, suc, ◌+◌, ◌<◌, ◌≤◌, List, [], ◌∷◌, ◌++◌, reverse, length, ◌∙◌, refl, sym, ap, subst as transport, arith, Bool, true, false, Option, Some, None}
use Rattle.std.specs.Prelude.{nat_lt, ◌||◌, option_and_then, All}
use Rattle.std.proofs.lemmas.Bool.Decides.{nat_tests}
use Rattle.std.proofs.lemmas.List.Elements.{All-nil, All-push}
use Rattle.lp_term.specs.Nodes.{Nodes, Extends}
use Rattle.lp_model.specs.Types.{TypeBinding}
use Rattle.lp_model.specs.Pair.{Pair, Closing}
use Rattle.lp_model.specs.Rule.{Verdict, fails, gives, binds, delays, Ruled, rule}
use Rattle.lp_model.specs.Unify.{State, Turn, Goes, Fails, Solved, is_some_bound, judged, turn_on, turn, Unified, Fail, Solution, Spent, limited, unify}
use Rattle.lp_model.specs.declared.answer.Pair.{Pair as Numbers}
use Rattle.lp_pattern.proofs.Noting.{or_false}
use Rattle.lp_pattern.specs.declared.bindings.Bindings.{Bindings}
use Rattle.lp_pattern.specs.declared.fault.PatternRefusal.{PatternRefusal}
use Rattle.lp_pattern.specs.declared.fault.PatternRefusal.TheVariants as refusal
use Rattle.lp_pattern.specs.declared.rules.Verdict.{Verdict as Taken}
use Rattle.lp_pattern.specs.Growing.{IsPairOf, IsVerdictIn}
use Rattle.lp_pattern.specs.Ruling.{IsTaken, IsRuledOut}
use Rattle.lp_pattern.specs.Stripping.{IsShut}
use Rattle.lp_pattern.specs.Turning.{IsOpenReading, IsKnownPair, IsPairFor, ArePairsFor, IsTypedBehind, IsTakenAs}
use Rattle.lp_pattern.specs.Turns.{Began, LeadsTo, IsBoundSince, ComesTo}
use Rattle.lp_pattern.specs.Under.{IsReading}
use Rattle.lp_pattern.specs.Unifying.{IsSolutionUnder, IsRefusedAs}
use Rattle.lp_pattern.proofs.Compares.{from_map}
use Rattle.lp_pattern.proofs.Stacks.{still_pairs}
use Rattle.lp_pattern.proofs.RunStates.{First, first, with_given, given_state, with_bound, bound_state, with_delayed, delayed_state}

-- what comes behind a turn
abbrev pub after : (m n limit : ℕ) → Turn → Option Unified
after m n limit t = elim t [
  | Goes s' ↦ elim (nat_lt limit s'.units) [ true ↦ Some Spent | false ↦ unify m n limit s' ]
  | Fails u ↦ Some (limited limit u Fail)
  | Solved s' ↦ Some (Solution s')
]

pub record Turned (n limit : ℕ) (st : State) (u : Unified) : Type 0 where
  pub turns : ℕ
  pub done : Turn
  pub is : turn n st ≡ Some done
  pub rest : after turns n limit done ≡ Some u

pub turned : (m n limit : ℕ) (st : State) (u : Unified) → unify m n limit st ≡ Some u → Turned n limit st u
turned zero n limit st u e = absurd (cc)
turned (suc m) n limit st u e = go (turn n st) refl e
  where
    go : (o : Option Turn) → turn n st ≡ o → option_and_then (λ t. elim t as (λ z. Option Unified) [
      | Goes s' ↦ elim (nat_lt limit s'.units) as (λ z. Option Unified) [ true ↦ Some Spent | false ↦ unify m n limit s' ]
      | Fails u ↦ Some (limited limit u Fail)
      | Solved s' ↦ Some (Solution s')
    ]) o ≡ Some u → Turned n limit st u
    go None q e = absurd (cc)
    go (Some (Goes s')) q e = record { turns = m; done = Goes s'; is = q; rest = e }
    go (Some (Fails v)) q e = record { turns = m; done = Fails v; is = q; rest = e }
    go (Some (Solved s')) q e = record { turns = m; done = Solved s'; is = q; rest = e }

-- a state that goes on within the limit
pub goes_on : (m n limit : ℕ) (s : State) (u : Unified) → s.units ≤ limit → after m n limit (Goes s) ≡ Some u → unify m n limit s ≡ Some u
goes_on m n limit s u l e =
    let q : nat_lt limit s.units ≡ false = grind (arith, nat_tests) in
    ap (λ t. elim t as (λ z. Option Unified) [ true ↦ Some Spent | false ↦ unify m n limit s ]) (sym q) ∙ e

pub passes : (m n limit : ℕ) (s : State) (u : Unified) → limit < s.units → after m n limit (Goes s) ≡ Some u → u ≡ Spent
passes m n limit s u l e =
    let q : nat_lt limit s.units ≡ true = grind (arith, nat_tests) in
    let z : Some Spent ≡ Some u = ap (λ t. elim t as (λ z. Option Unified) [ true ↦ Some Spent | false ↦ unify m n limit s ]) (sym q) ∙ e in
    cc

-- the first pair and the rule that applies to it
pub record Judged (n limit : ℕ) (st : State) (u : Unified) (p : Pair) (rest : List Pair) : Type 0 where
  pub turns : ℕ
  pub ruled : Ruled
  pub is : rule n st.next p ≡ Some ruled
  pub behind : after turns n limit (judged st p rest (suc st.units + ruled.units) ruled.verdict) ≡ Some u

pub judged_turn : (m n limit : ℕ) (st : State) (u : Unified) (p : Pair) (rest : List Pair) → st.pairs ≡ p ∷ rest → unify m n limit st ≡ Some u → Judged n limit st u p rest
judged_turn m n limit st u p rest q e =
    let w = turned m n limit st u e in
    let x = from_map (λ r. judged st p rest (suc st.units + r.units) r.verdict) (rule n st.next p) w.done (ap (turn_on n st) (sym q) ∙ w.is) in
    record { turns = w.turns; ruled = x.0; is = x.1; behind = ap (after w.turns n limit) (sym x.2) ∙ w.rest }

pub same_outcome : (x u : Unified) → Some x ≡ Some u → u ≡ x
same_outcome x u e = cc

pub limited_within : (limit v : ℕ) → v ≤ limit → limited limit v Fail ≡ Fail
limited_within limit v l = let q : nat_lt limit v ≡ false = grind (arith, nat_tests) in ap (λ t. elim t as (λ z. Unified) [ true ↦ Spent | false ↦ Fail ]) q

pub limited_past : (limit v : ℕ) → limit < v → limited limit v Fail ≡ Spent
limited_past limit v l = let q : nat_lt limit v ≡ true = grind (arith, nat_tests) in ap (λ t. elim t as (λ z. Unified) [ true ↦ Spent | false ↦ Fail ]) q

-- the pairs that wait behind a turn
abbrev pub waiting_behind : Taken → List Numbers → List Numbers
waiting_behind Taken.Gone ws = ws
waiting_behind (Taken.Delayed q) ws = ws ++ q ∷ []

pub waiting_known : (b d : Nodes) (v : Taken) (ws : List Numbers) → Extends b d → IsVerdictIn (length d.terms) v → All (IsPairOf (length b.terms)) ws → All (IsPairOf (length d.terms)) (waiting_behind v ws)
waiting_known b d Taken.Gone ws e h a = still_pairs b d ws e a
waiting_known b d (Taken.Delayed q) ws e h a = All-push (IsPairOf (length d.terms)) ws q (still_pairs b d ws e a) h

or_true : (b : Bool) → true ≡ (b || true)
or_true true = refl
or_true false = refl

typed_since : (next next' : ℕ) (c : Closing) (s s' : Bindings) (d : Nodes) (ts : List TypeBinding) → IsTypedBehind next c s d s' next' ts → IsBoundSince (is_some_bound ts) s s'
typed_since next next' c s s' d [] t = (t.terms, t.types ∙ (let z : length s.types.entries + 0 ≡ length s.types.entries = omega arith in z))
typed_since next next' c s s' d (b ∷ ts) t = omega (arith, t.terms, t.types)

units_taken : (v : Taken) (units left : ℕ) (r : Ruled) → IsTaken v units left r → units ≡ r.units + left
units_taken Taken.Gone units left r t = t.0
units_taken (Taken.Delayed q) units left r t = t.0

module _ (limit : ℕ) (o : Began) (n : ℕ) (u : Unified) (bound : Bool) (b : Nodes) (s : Bindings) (next units : ℕ) (q : Numbers) (old waiting : List Numbers) (w : LeadsTo limit o n u b s next units (q ∷ reverse old) waiting bound) where
  front : First b w.is.closing w.is.levels next q (reverse old) w.state.pairs
  front = first b w.is.closing w.is.levels next q (reverse old) w.state.pairs w.is.pairs w.is.known

  verdict : Judged n limit w.state u front.pair front.rest
  verdict = judged_turn w.turns n limit w.state u front.pair front.rest front.is w.comes

  ruled_here : rule n next front.pair ≡ Some verdict.ruled
  ruled_here = ap (λ m. rule n m front.pair) w.is.last ∙ verdict.is

  -- a pair is taken
  module _ (d : Nodes) (s' : Bindings) (next' before left : ℕ) (new : List Numbers) (e : Extends b d) (v : Taken) (spent : units ≡ suc before)
      (j : (c : Closing) → IsReading b s c → IsShut c → (p : Pair) → IsPairFor b c q p → (m : ℕ) (r : Ruled) → rule m next p ≡ Some r → IsTaken v before left r)
      (t : (c : Closing) → IsOpenReading b s next c → (lv : ℕ → ℕ) → (p : Pair) → IsPairFor b c q p → IsKnownPair lv next p → (m : ℕ) (r : Ruled) → rule m next p ≡ Some r → IsTakenAs v lv next c s d s' next' old new p r.verdict) where
    paid : limit ≡ (suc w.state.units + verdict.ruled.units) + left
    paid =
        let x = units_taken v before left verdict.ruled (j w.is.closing w.is.reading.reading w.is.reading.shut front.pair front.stands n verdict.ruled ruled_here) in omega (arith, w.is.counted, spent, x)

    pub taken_turn : ComesTo limit o n u bound s d s' next' left (reverse new) (waiting_behind v waiting)
    taken_turn = go v verdict.ruled.verdict (t w.is.closing w.is.reading w.is.levels front.pair front.stands front.known n verdict.ruled ruled_here) verdict.behind
      where
        go : (v : Taken) (x : Verdict) → IsTakenAs v w.is.levels next w.is.closing s d s' next' old new front.pair x →
            after verdict.turns n limit (judged w.state front.pair front.rest (suc w.state.units + verdict.ruled.units) x) ≡ Some u → ComesTo limit o n u bound s d s' next' left (reverse new) (waiting_behind v waiting)
        go Taken.Gone fails h r = absurd h
        go Taken.Gone (gives ts ps) h r =
            let st = with_given limit o b d s s' next next' units left q old waiting w.state (suc w.state.units + verdict.ruled.units) e w.is front paid ts ps in (
              is_some_bound ts,
              typed_since next next' w.is.closing s s' d ts h.0,
              record {
                turns = verdict.turns;
                state = st;
                comes = goes_on verdict.turns n limit st u (omega (arith, paid)) r;
                is = given_state limit o b d s s' next next' units left q old waiting w.state (suc w.state.units + verdict.ruled.units) e w.is front paid ts ps new h.0 h.1;
                changed = ap (λ x. x || is_some_bound ts) w.changed;
              },
            )
        go Taken.Gone (binds bs m) h r =
            let st = with_bound limit o b d s s' next next' units left q old waiting w.state (suc w.state.units + verdict.ruled.units) e w.is front paid bs m new h.0 h.1 h.2 in (
              true,
              (let a : length s.terms.entries + length s.types.entries < length s'.terms.entries + length s'.types.entries = omega (arith, h.1.terms, h.1.types) in a),
              record {
                turns = verdict.turns;
                state = st;
                comes = goes_on verdict.turns n limit st u (omega (arith, paid)) r;
                is = bound_state limit o b d s s' next next' units left q old waiting w.state (suc w.state.units + verdict.ruled.units) e w.is front paid bs m new h.0 h.1 h.2;
                changed = or_true bound;
              },
            )
        go Taken.Gone delays h r = absurd h
        go (Taken.Delayed k) fails h r = absurd (cc)
        go (Taken.Delayed k) (gives ts ps) h r = absurd (cc)
        go (Taken.Delayed k) (binds bs m) h r = absurd (cc)
        go (Taken.Delayed k) delays h r =
            let st = with_delayed limit o b d s s' next next' units left q old waiting w.state (suc w.state.units + verdict.ruled.units) e w.is front paid k new h.1 h.2 h.3 h.4 in (
              false,
              (h.1.terms, h.1.types),
              record {
                turns = verdict.turns;
                state = st;
                comes = goes_on verdict.turns n limit st u (omega (arith, paid)) r;
                is = delayed_state limit o b d s s' next next' units left q old waiting w.state (suc w.state.units + verdict.ruled.units) e w.is front paid k new h.1 h.2 h.3 h.4;
                changed = w.changed ∙ or_false bound;
              },
            )

  -- the units are passed
  past : limit < suc w.state.units + verdict.ruled.units → u ≡ Spent
  past l = go verdict.ruled.verdict verdict.behind
    where
      go : (x : Verdict) → after verdict.turns n limit (judged w.state front.pair front.rest (suc w.state.units + verdict.ruled.units) x) ≡ Some u → u ≡ Spent
      go fails r = same_outcome (limited limit (suc w.state.units + verdict.ruled.units) Fail) u r ∙ limited_past limit (suc w.state.units + verdict.ruled.units) l
      go (gives ts ps) r = passes verdict.turns n limit _ u l r
      go (binds bs m) r = passes verdict.turns n limit _ u l r
      go delays r = passes verdict.turns n limit _ u l r

  pub none_left : (e : PatternRefusal) → (e ≡ refusal.Deep) × (units ≡ 0) → IsRefusedAs e n u
  none_left e h = transport (λ x. IsRefusedAs x n u) (sym h.0) (λ l. past (omega (arith, w.is.counted, h.1)))

  -- the pair is refused
  pub refused_turn : (before : ℕ) (e : PatternRefusal) → units ≡ suc before → ((c : Closing) → IsOpenReading b s next c → (lv : ℕ → ℕ) → (p : Pair) → IsPairFor b c q p → IsKnownPair lv next p → (m : ℕ) → IsRuledOut m e before (rule m next p)) → IsRefusedAs e n u
  refused_turn before refusal.Fails z h =
      let x = h w.is.closing w.is.reading w.is.levels front.pair front.stands front.known n verdict.ruled ruled_here in
      same_outcome (limited limit (suc w.state.units + verdict.ruled.units) Fail) u (ap (λ y. after verdict.turns n limit (judged w.state front.pair front.rest (suc w.state.units + verdict.ruled.units) y)) (sym x.0) ∙ verdict.behind) ∙
      limited_within limit (suc w.state.units + verdict.ruled.units) (omega (arith, w.is.counted, z, x.1))
  refused_turn before refusal.Deep z h = λ l.
      let x = h w.is.closing w.is.reading w.is.levels front.pair front.stands front.known n l verdict.ruled ruled_here in
      past (omega (arith, w.is.counted, z, x))
  refused_turn before refusal.Memory z h = tt

-- no pair is left
none_here : (b : Nodes) (c : Closing) (ps : List Pair) → ArePairsFor b c [] ps → ps ≡ []
none_here b c [] r = refl
none_here b c (p ∷ ps) r = absurd r

abbrev at_end : State → Bool → Option Turn
at_end s b = elim b [
  | true ↦ Some (Goes (record s { pairs = s.delayed; delayed = []; changed = false }))
  | false ↦ Some (Solved s)
]

same_turn : (x y : Turn) → Some x ≡ Some y → x ≡ y
same_turn x y e = cc

module _ (limit : ℕ) (o : Began) (n : ℕ) (u : Unified) (b : Nodes) (s : Bindings) (next units : ℕ) (waiting : List Numbers) where
  end_turn : (bound : Bool) (w : LeadsTo limit o n u b s next units [] waiting bound) → (x : Turn) → at_end w.state bound ≡ Some x → (m : ℕ) × (after m n limit x ≡ Some u)
  end_turn bound w x h =
      let y = turned w.turns n limit w.state u w.comes in
      let z : Some y.done ≡ Some x = sym y.is ∙ ap (turn_on n w.state) (none_here b w.is.closing w.state.pairs w.is.pairs) ∙ ap (at_end w.state) w.changed ∙ h in
      (y.turns, ap (after y.turns n limit) (sym (same_turn y.done x z)) ∙ y.rest)

  -- those that wait are taken up
  pub woken : LeadsTo limit o n u b s next units [] waiting true → LeadsTo limit o n u b s next units waiting [] false
  woken w =
      let st = record w.state { pairs = w.state.delayed; delayed = []; changed = false } in
      let y = end_turn true w (Goes st) refl in
      record {
        turns = y.0;
        state = st;
        comes = goes_on y.0 n limit st u (omega (arith, w.is.counted)) y.1;
        is = record {
          closing = w.is.closing;
          reading = w.is.reading;
          levels = w.is.levels;
          older = w.is.older;
          more = w.is.more;
          last = w.is.last;
          counted = w.is.counted;
          pairs = w.is.delayed;
          delayed = tt;
          within = w.is.within_delayed;
          within_delayed = All-nil (IsPairOf (length b.terms));
          known = w.is.known_delayed;
          known_delayed = tt;
          puts = w.is.puts;
          knows = w.is.knows;
          firm = w.is.firm;
        };
        changed = refl;
      }

  -- nothing was bound since
  pub ended : LeadsTo limit o n u b s next units [] waiting false → IsSolutionUnder o.levels o.next o.closing b s next waiting u
  ended w =
      let y = end_turn false w (Solved w.state) refl in
      transport (IsSolutionUnder o.levels o.next o.closing b s next waiting) (sym (same_outcome (Solution w.state) u y.1)) (
        w.is.closing,
        w.is.reading,
        record {
          puts = w.is.puts;
          last = w.is.last;
          left = w.is.delayed;
          levels' = w.is.levels;
          older = w.is.older;
          known = w.is.known_delayed;
          knows = w.is.knows;
        },
      )
