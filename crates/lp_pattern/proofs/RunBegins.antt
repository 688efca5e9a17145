-- Where a run begins: behind the type equations.
use Rattle.std.proofs.Common.{◌≡◌, ℕ, ◌+◌, ◌<◌, List, [], ◌∷◌, length, ◌∙◌, refl, sym, ap, subst as transport, arith, Bool, true, false, Option, Some, nat_eq}
use Rattle.std.specs.Prelude.{All, nat_lt}
use Rattle.std.proofs.lemmas.Bool.Decides.{nat_tests}
use Rattle.indexmap.specs.IndexMap.{get}
use Rattle.lp_calculus.specs.Fill.{Within}
use Rattle.lp_term.specs.Nodes.{Nodes, Extends, tree}
use Rattle.lp_term.specs.declared.node.TermId.{TermId}
use Rattle.lp_model.specs.Types.{TypePair, TypeBinding, TypeOutcome, none, solved, solve_types}
use Rattle.lp_model.specs.Pair.{Pair, Closing, put_types_in}
use Rattle.lp_model.specs.Unify.{State, is_some_bound, type_pairs_in, Unified, Fail, Spent, limited, unify, begun, go_on, solve}
use Rattle.lp_model.specs.declared.answer.Pair.{Pair as Numbers}
use Rattle.lp_pattern.specs.declared.bindings.Bindings.{Bindings}
use Rattle.lp_pattern.specs.declared.fault.PatternRefusal.{PatternRefusal}
use Rattle.lp_pattern.specs.declared.fault.PatternRefusal.TheVariants as refusal
use Rattle.lp_pattern.specs.Behind.{with_types, IsReadBehind}
use Rattle.lp_pattern.specs.Filling.{IsSolvedIn, IsUnsolvedIn}
use Rattle.lp_pattern.specs.Growing.{IsPairOf}
use Rattle.lp_pattern.specs.Pruning.{Known}
use Rattle.lp_pattern.specs.Turning.{IsOpenReading, AreKnownPairs, ArePairsFor}
use Rattle.lp_pattern.specs.Turns.{IsBoundSince, ComesTo}
use Rattle.lp_pattern.specs.Under.{under}
use Rattle.lp_pattern.specs.Unifying.{IsRefusedAs}
use Rattle.lp_pattern.proofs.Compares.{from_bind}
use Rattle.lp_pattern.proofs.PairsThrough.{steps_typed, within_typed, within_typed_at, types_on_sides, all_known, pairs_through}
use Rattle.lp_pattern.proofs.RunTurns.{limited_within, limited_past, same_outcome}
use Rattle.lp_pattern.proofs.Stacks.{under_kept, still_pairs}

-- what the type equations come to, and what comes behind them
pub record Begins (n limit : ℕ) (types : List TypePair) (ps ds : List Pair) (next : ℕ) (u : Unified) : Type 0 where
  pub outcome : TypeOutcome
  pub is : solve_types n types [] 0 ≡ Some outcome
  pub behind : go_on n limit ps ds next outcome ≡ Some u

begins : (n limit : ℕ) (types : List TypePair) (ps ds : List Pair) (next : ℕ) (u : Unified) → solve n limit types ps ds next ≡ Some u → Begins n limit types ps ds next u
begins n limit types ps ds next u e = let x = from_bind (go_on n limit ps ds next) (solve_types n types [] 0) u e in record { outcome = x.0; is = x.1; behind = x.2 }

abbrev within_limit : Bool → (n limit : ℕ) → State → Option Unified
within_limit b n limit s = elim b [ true ↦ Some Spent | false ↦ unify n n limit s ]

-- the type equations are refused
pub types_refused : (n limit : ℕ) (types : List TypePair) (ps ds : List Pair) (next : ℕ) (u : Unified) (e : PatternRefusal) → ((m : ℕ) (o : TypeOutcome) → solve_types m types [] 0 ≡ Some o → IsUnsolvedIn e limit o) → solve n limit types ps ds next ≡ Some u → IsRefusedAs e n u
types_refused n limit types ps ds next u refusal.Fails h q = let x = begins n limit types ps ds next u q in go x.outcome (h n x.outcome x.is) x.behind
  where
    go : (o : TypeOutcome) → IsUnsolvedIn refusal.Fails limit o → go_on n limit ps ds next o ≡ Some u → u ≡ Fail
    go (none w) l r = same_outcome (limited limit w Fail) u r ∙ limited_within limit w l
    go (solved ts w) l r = absurd l
types_refused n limit types ps ds next u refusal.Deep h q = λ z. let x = begins n limit types ps ds next u q in go x.outcome (h n x.outcome x.is) x.behind
  where
    go : (o : TypeOutcome) → IsUnsolvedIn refusal.Deep limit o → go_on n limit ps ds next o ≡ Some u → u ≡ Spent
    go (none w) l r = same_outcome (limited limit w Fail) u r ∙ limited_past limit w l
    go (solved ts w) l r =
        let a : nat_lt limit w ≡ true = grind (arith, nat_tests) in
        same_outcome Spent u (ap (λ b. within_limit b n limit (begun ps ds next (solved ts w))) (sym a) ∙ r)
types_refused n limit types ps ds next u refusal.Memory h q = tt

module _ (n limit : ℕ) (types : List TypePair) (ps ds : List Pair) (next units : ℕ) (u : Unified) (b d : Nodes) (s s' : Bindings) (c : Closing) (lv : ℕ → ℕ) (qs ws : List Numbers) (e : Extends b d) (i : IsOpenReading b s next c) (same : s'.terms ≡ s.terms)
    (behind : (m : ℕ) (o : TypeOutcome) → solve_types m types [] 0 ≡ Some o → IsReadBehind s d s' c o) (paid : (m : ℕ) (o : TypeOutcome) → solve_types m types [] 0 ≡ Some o → IsSolvedIn limit units o)
    (here : All (IsPairOf (length b.terms)) qs) (there : All (IsPairOf (length b.terms)) ws) (pairs : ArePairsFor b c qs ps) (delayed : ArePairsFor b c ws ds) (known : AreKnownPairs lv next ps) (known_delayed : AreKnownPairs lv next ds)
    (h : solve n limit types ps ds next ≡ Some u) where
  begin : Begins n limit types ps ds next u
  begin = begins n limit types ps ds next u h

  read : IsReadBehind s d s' c begin.outcome
  read = behind n begin.outcome begin.is

  abbrev ts : List TypeBinding
  ts = read.bindings

  solved_in : limit ≡ read.used + units
  solved_in = transport (IsSolvedIn limit units) read.is (paid n begin.outcome begin.is)

  typed_at : (t : TermId) → t.0 < length b.terms → Within (Known lv next) 0 (under b c t) → under d (with_types ts c) t ≡ put_types_in ts (under b c t)
  typed_at t l w = read.terms (tree d t.0) ∙ ap (put_types_in ts) (under_kept b d c t e l)

  typed_pairs : (rs : List Numbers) (ps' : List Pair) → All (IsPairOf (length b.terms)) rs → AreKnownPairs lv next ps' → ArePairsFor b c rs ps' → ArePairsFor d (with_types ts c) rs (type_pairs_in ts ps')
  typed_pairs rs ps' l m r =
      transport (ArePairsFor d (with_types ts c) rs) (sym (types_on_sides ts ps')) (pairs_through b d c (with_types ts c) lv next (put_types_in ts) (λ t v j w x. steps_typed ts j t v x) typed_at rs ps' l m r)

  typed_known : (ps' : List Pair) → AreKnownPairs lv next ps' → AreKnownPairs lv next (type_pairs_in ts ps')
  typed_known ps' m = transport (AreKnownPairs lv next) (sym (types_on_sides ts ps')) (all_known lv lv next next (put_types_in ts) (λ t w. within_typed lv next ts t w) ps' m)

  goes : unify n n limit (begun ps ds next (solved ts read.used)) ≡ Some u
  goes =
      let l = solved_in in
      let a : nat_lt limit read.used ≡ false = grind (arith, nat_tests) in
      ap (λ z. within_limit z n limit (begun ps ds next (solved ts read.used))) (sym a) ∙ ap (go_on n limit ps ds next) (sym read.is) ∙ begin.behind

  since : (us : List TypeBinding) → length s'.types.entries ≡ length s.types.entries + length us → IsBoundSince (is_some_bound us) s s'
  since [] q = (ap (λ m. length m.entries) same, q ∙ (let z : length s.types.entries + 0 ≡ length s.types.entries = omega arith in z))
  since (x ∷ us) q = let z : length s'.terms.entries ≡ length s.terms.entries = ap (λ m. length m.entries) same in omega (arith, z, q)

  pub run_begins : ComesTo limit (record { closing = c; levels = lv; next = next }) n u false s d s' next units qs ws
  run_begins = (
    is_some_bound ts,
    since ts read.count,
    record {
      turns = n;
      state = begun ps ds next (solved ts read.used);
      comes = goes;
      is = record {
        closing = with_types ts c;
        reading = record { reading = read.reading; shut = read.shut; still = read.still; unbound = λ x l. ap (λ m. get nat_eq m x) same ∙ i.unbound x l };
        levels = lv;
        older = λ x l. refl;
        more = omega arith;
        last = refl;
        counted = solved_in;
        pairs = typed_pairs qs ps here known pairs;
        delayed = typed_pairs ws ds there known_delayed delayed;
        within = still_pairs b d qs e here;
        within_delayed = still_pairs b d ws e there;
        known = typed_known ps known;
        known_delayed = typed_known ds known_delayed;
        puts = λ k t w. read.terms t;
        knows = λ k t w. within_typed_at lv next k ts t w;
        firm = read.firm [] (λ t. refl);
      };
      changed = refl;
    },
  )
