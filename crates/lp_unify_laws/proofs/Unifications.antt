-- Whole runs: turns one after the other, from type equations and pairs to residual pairs.
use Rattle.std.proofs.Common.{◌≡◌, ℕ, zero, suc, ◌+◌, ◌<◌, ◌≤◌, List, [], ◌∷◌, ◌++◌, length, ◌∙◌, refl, sym, ap, subst as transport, arith, Bool, true, false, Option, Some, None}
use Rattle.std.specs.Prelude.{◌&&◌, nat_eq, nat_lt, if◌then◌else◌, option_map}
use Rattle.std.proofs.lemmas.Option.{option_and_then_some}
use mathlib.Core.Path.{fun_ext}
use Rattle.lp_calculus.specs.Types.{Ty}
use Rattle.lp_calculus.specs.Term.{Term, Atom, atom, constant, integer, text, eigen, logic, param}
use Rattle.lp_calculus.specs.Fill.{Within, close, at_variables, one, Binding, put, put_all}
use Rattle.lp_calculus.proofs.Steps.{converts_on, converts_is}
use Rattle.lp_calculus.proofs.Fills.{within_more, within_fill}
use Rattle.lp_model.specs.Types.{TypePair, TypeBinding, TypeOutcome, none, solved, solve_types}
use Rattle.lp_model.specs.Pair.{Pair}
use Rattle.lp_model.specs.Rule.{Verdict, fails, gives, binds, delays, rule}
use Rattle.lp_model.specs.Unify.{State, Turn, Goes, Fails, Solved, judged, turn_on, turn, Unified, Fail, Solution, Spent, limited, unify, begun, go_on, solve}
use Rattle.lp_model.specs.Proofs.{Declared}
use Rattle.lp_model.specs.Answers.{Variable}
use Rattle.lp_unify_laws.specs.Levels.{IsPairAtom, IsLevelAtom, IsClosing, AllSolvedBy}
use Rattle.lp_unify_laws.specs.Right.{through, AreScoped, Keeps}
use Rattle.lp_unify_laws.specs.TypeSolutions.{Unifies, Satisfies}
use Rattle.lp_unify_laws.proofs.Sames.{both, same_number}
use Rattle.lp_unify_laws.proofs.Closings.{closed_more}
use Rattle.lp_unify_laws.proofs.Throughs.{through_close, put_all_within, pair_next_term, put_all_append, gives_term}
use Rattle.lp_unify_laws.proofs.Scopes.{IsMore, more_none, more_on, append_none, append_append}
use Rattle.lp_unify_laws.proofs.NewVariables.{IsTypedClosing}
use Rattle.lp_unify_laws.proofs.TypedBindings.{AreTypedBindings, bindings_more, bindings_append}
use Rattle.lp_unify_laws.proofs.TypeSolving.{AreSolved, satisfies_split, types_right}
use Rattle.lp_unify_laws.proofs.Instances.{instance_binding}
use Rattle.lp_unify_laws.proofs.NewInstances.{variables_at, scoped_at}
use Rattle.lp_unify_laws.proofs.PairLists.{EachTyped, at_types, types_satisfied}
use Rattle.lp_unify_laws.proofs.Runs.{bindings_at, IsStateAt, SolvesAt, SolvesTwice, Reaches, Leads, NoSolution, TurnRight, right_goes, right_fails, right_solved, stays, turn_right}

-- closings through bindings are closings
abbrev Level : ℕ → Atom → Type 0
Level n (eigen k) = k ≤ n
Level n (logic x l) = l ≤ n
Level n (constant c ts) = Unit {0}
Level n (integer z) = Unit {0}
Level n (text s) = Unit {0}
Level n (param k t) = Unit {0}

pair_level : (next l n : ℕ) → l ≤ n → (a : Atom) → IsPairAtom next l a → Level n a
pair_level next l n h (eigen k) p = let i : k ≤ l = p in let q : k ≤ n = omega arith in q
pair_level next l n h (logic x m) p = let i : m ≤ l = p.1 in let q : m ≤ n = omega arith in q
pair_level next l n h (constant c ts) p = tt
pair_level next l n h (integer z) p = tt
pair_level next l n h (text s) p = tt
pair_level next l n h (param k t) p = tt

if_level : (P : Atom → Type 0) (b : Bool) (t u : Term) → (b ≡ true → Within P 0 t) → Within P 0 u → Within P 0 (if b then t else u)
if_level P true t u h k = h refl
if_level P false t u h k = k

level_atom : (next n : ℕ) (b : Binding) → Within (IsPairAtom next b.level) 0 b.value → (a : Atom) → Level n a → Within (Level n) 0 (at_variables (one b) a)
level_atom next n b w (logic x l) p = if_level (Level n) (nat_eq x b.id && nat_eq l b.level) b.value (atom (logic x l))
    (λ e. let r = both (nat_eq x b.id) (nat_eq l b.level) e in
    let q = same_number l b.level r.1 in
    let h : b.level ≤ n = (let i : l ≤ n = p in omega arith) in
    within_more (IsPairAtom next b.level) (Level n) 0 0 (pair_level next b.level n h) (omega arith) b.value w) p
level_atom next n b w (eigen k) p = p
level_atom next n b w (constant c ts) p = tt
level_atom next n b w (integer z) p = tt
level_atom next n b w (text s) p = tt
level_atom next n b w (param k t) p = tt

level_all : (next n : ℕ) (bs : List Binding) → AreScoped next bs → (u : Term) → Within (Level n) 0 u → Within (Level n) 0 (put_all bs u)
level_all next n [] w u v = v
level_all next n (b ∷ bs) w u v = level_all next n bs w.1 (put b u) (within_fill (Level n) (Level n) (at_variables (one b)) 0 (level_atom next n b w.0) u v)

level_closed : (n : ℕ) (σ : ℕ → ℕ → Term) → IsClosing σ → (a : Atom) → Level n a → Within (IsLevelAtom n) 0 (at_variables σ a)
level_closed n σ c (logic x l) p = within_more (IsLevelAtom l) (IsLevelAtom n) 0 0 (closed_more l n p) (omega arith) (σ x l) (c.closed x l)
level_closed n σ c (eigen k) p = p
level_closed n σ c (constant k ts) p = tt
level_closed n σ c (integer z) p = tt
level_closed n σ c (text s) p = tt
level_closed n σ c (param k t) p = tt

pub through_closing : (next : ℕ) (bs : List Binding) (σ : ℕ → ℕ → Term) → AreScoped next bs → IsClosing σ → IsClosing (through bs σ)
through_closing next bs σ w c = record {
  closed = λ x l. within_fill (Level l) (IsLevelAtom l) (at_variables σ) 0 (level_closed l σ c) (put_all bs (atom (logic x l)))
      (level_all next l bs w (atom (logic x l)) (let q : l ≤ l = omega arith in q));
}

-- one after the other
through_append : (bs cs : List Binding) (σ : ℕ → ℕ → Term) → through bs (through cs σ) ≡ through (bs ++ cs) σ
through_append bs cs σ = fun_ext (λ x. fun_ext (λ l. sym (through_close cs σ (put_all bs (atom (logic x l)))) ∙ ap (close σ) (sym (put_all_append bs cs (atom (logic x l))))))

scoped_two : (next next' : ℕ) → next ≤ next' → (bs cs : List Binding) → AreScoped next bs → AreScoped next' cs → AreScoped next' (bs ++ cs)
scoped_two next next' h [] cs w v = v
scoped_two next next' h (b ∷ bs) cs w v = (pair_next_term next next' b.level h b.value w.0, scoped_two next next' h bs cs w.1 v)

bindings_two : (θ : ℕ → Ty) (bs cs : List Binding) → bindings_at θ (bs ++ cs) ≡ bindings_at θ bs ++ bindings_at θ cs
bindings_two θ [] cs = refl
bindings_two θ (b ∷ bs) cs = ap (λ z. instance_binding θ b ∷ z) (bindings_two θ bs cs)

reaches_on : (θ : ℕ → Ty) (d : Declared) (V : List Variable) (s s' s'' : State) → (a : Reaches θ d V s s') → Reaches θ d a.after s' s'' → Reaches θ d V s s''
reaches_on θ d V s s' s'' a b =
    let g : s.next ≤ s'.next = a.grows in
    let g' : s'.next ≤ s''.next = b.grows in
    let cs = bindings_at θ a.bindings in
    let es = bindings_at θ b.bindings in
    let e = bindings_two θ a.bindings b.bindings in
    record {
      bindings = a.bindings ++ b.bindings;
      made = b.made ∙ ap (λ z. z ++ b.bindings) a.made ∙ append_append s.bindings a.bindings b.bindings;
      grows = omega arith;
      scoped = transport (AreScoped s''.next) (sym e) (scoped_two s'.next s''.next g' cs es a.scoped b.scoped);
      after = b.after;
      more = more_on a.more b.more;
      is_state = b.is_state;
      typed = transport (AreTypedBindings d b.after) (sym e) (bindings_append d b.after cs es (bindings_more d a.after b.after b.more cs a.typed) b.typed);
      keeps = λ σ c g k.
          let first = a.keeps σ c g k in
          let next = b.keeps first.0.closing first.0.is_closing first.0.is_good first.1 in (
            transport (λ z. Keeps (IsTypedClosing d b.after) s.next z σ) (sym e) (record {
              closing = next.0.closing;
              is_closing = next.0.is_closing;
              is_good = next.0.is_good;
              gives = λ x l q. converts_on (first.0.gives x l q) (converts_on
                  (gives_term first.0.closing next.0.closing es s'.next l next.0.gives (put_all cs (atom (logic x l)))
                  (put_all_within s'.next l cs a.scoped (atom (logic x l)) (let i : x < s'.next = omega arith in let j : l ≤ l = omega arith in (i, j))))
                  (converts_is (ap (close next.0.closing) (sym (put_all_append cs es (atom (logic x l)))))));
            }),
            next.1,
          );
      keeps_at = λ κ σ c g k.
          let first = a.keeps_at κ σ c g k in
          let next = b.keeps_at κ first.0.closing first.0.is_closing first.0.is_good first.1 in
          let cs' = bindings_at κ cs in
          let es' = bindings_at κ es in (
            transport (λ z. Keeps (IsTypedClosing d (variables_at κ b.after)) s.next z σ) (sym (ap (bindings_at κ) e ∙ bindings_two κ cs es)) (record {
              closing = next.0.closing;
              is_closing = next.0.is_closing;
              is_good = next.0.is_good;
              gives = λ x l q. converts_on (first.0.gives x l q) (converts_on
                  (gives_term first.0.closing next.0.closing es' s'.next l next.0.gives (put_all cs' (atom (logic x l)))
                  (put_all_within s'.next l cs' (scoped_at s'.next κ cs a.scoped) (atom (logic x l)) (let i : x < s'.next = omega arith in let j : l ≤ l = omega arith in (i, j))))
                  (converts_is (ap (close next.0.closing) (sym (put_all_append cs' es' (atom (logic x l)))))));
            }),
            next.1,
          );
      solves = λ σ c k. transport (λ z. SolvesAt θ (through z σ) s) (sym e)
          (transport (λ τ. SolvesAt θ τ s) (through_append cs es σ) (a.solves (through es σ) (through_closing s''.next es σ b.scoped c) (b.solves σ c k)));
    }

nothing_yet : (θ : ℕ → Ty) (d : Declared) (V : List Variable) (s : State) → IsStateAt θ d V s → Reaches θ d V s s
nothing_yet θ d V s w = record {
  bindings = [];
  made = append_none s.bindings;
  grows = omega arith;
  scoped = tt;
  after = V;
  more = more_none V;
  is_state = w;
  typed = tt;
  keeps = λ σ c g k. (stays d V s.next σ c g, k);
  keeps_at = λ κ σ c g k. (stays d (variables_at κ V) s.next σ c g, k);
  solves = λ σ c k. k;
}

-- types are only added
pub record AddsTypes (s s' : State) : Type 0 where
  pub types : List TypeBinding
  pub are : s'.types ≡ s.types ++ types

adds_none : (s s' : State) → s'.types ≡ s.types → AddsTypes s s'
adds_none s s' e = record { types = []; are = e ∙ append_none s.types }

adds_on : (s s' s'' : State) → AddsTypes s s' → AddsTypes s' s'' → AddsTypes s s''
adds_on s s' s'' a b = record { types = a.types ++ b.types; are = b.are ∙ ap (λ z. z ++ b.types) a.are ∙ append_append s.types a.types b.types }

abbrev TurnAdds : State → Turn → Type 0
TurnAdds s (Goes s') = AddsTypes s s'
TurnAdds s (Fails u) = Unit {0}
TurnAdds s (Solved s') = AddsTypes s s'

judged_adds : (s : State) (p : Pair) (rest : List Pair) (u : ℕ) (v : Verdict) → TurnAdds s (judged s p rest u v)
judged_adds s p rest u fails = tt
judged_adds s p rest u (gives ts ps) = record { types = ts; are = refl }
judged_adds s p rest u (binds bs next) = record { types = []; are = append_none s.types }
judged_adds s p rest u delays = record { types = []; are = append_none s.types }

turn_adds : (n : ℕ) (s : State) (ps : List Pair) (t : Turn) → turn_on n s ps ≡ Some t → TurnAdds s t
turn_adds n s (p ∷ rest) t e = elim (rule n s.next p) as (λ o. option_map (λ r. judged s p rest (suc s.units + r.units) r.verdict) o ≡ Some t → TurnAdds s t) [
  | None ↦ λ j. absurd (cc)
  | Some r ↦ λ j. let z : judged s p rest (suc s.units + r.units) r.verdict ≡ t = cc in transport (TurnAdds s) z (judged_adds s p rest (suc s.units + r.units) r.verdict)
] e
turn_adds n s [] t e = elim s.changed as (λ b. (elim b [
  | true ↦ Some (Goes (record s { pairs = s.delayed; delayed = []; changed = false }))
  | false ↦ Some (Solved s)
]) ≡ Some t → TurnAdds s t) [
  | true ↦ λ j. let z : Goes (record s { pairs = s.delayed; delayed = []; changed = false }) ≡ t = cc in transport (TurnAdds s) z (record { types = []; are = append_none s.types })
  | false ↦ λ j. let z : Solved s ≡ t = cc in transport (TurnAdds s) z (adds_none s s refl)
] e

-- within the limit, one more turn
abbrev pub after_turn : ℕ → ℕ → (limit : ℕ) → Turn → Option Unified
after_turn m n limit t = elim t [
  | Goes s' ↦ elim (nat_lt limit s'.units) [ true ↦ Some Spent | false ↦ unify m n limit s' ]
  | Fails u ↦ Some (limited limit u Fail)
  | Solved s' ↦ Some (Solution s')
]

pub goes_on : (m n limit : ℕ) (s : State) (o : Unified) (P : Unified → Type 0) → (elim (nat_lt limit s.units) [ true ↦ Some Spent | false ↦ unify m n limit s ]) ≡ Some o → P Spent → (unify m n limit s ≡ Some o → P o) → P o
goes_on m n limit s o P e x f = elim (nat_lt limit s.units) as (λ b. (elim b [ true ↦ Some Spent | false ↦ unify m n limit s ]) ≡ Some o → P o) [
  | true ↦ λ j. let z : Spent ≡ o = cc in transport P z x
  | false ↦ f
] e

pub is_limited : (limit u : ℕ) (o : Unified) (P : Unified → Type 0) → Some (limited limit u Fail) ≡ Some o → P Spent → P Fail → P o
is_limited limit u o P e x y = elim (nat_lt limit u) as (λ b. Some (elim b [ true ↦ Spent | false ↦ Fail ]) ≡ Some o → P o) [
  | true ↦ λ j. let z : Spent ≡ o = cc in transport P z x
  | false ↦ λ j. let z : Fail ≡ o = cc in transport P z y
] e

abbrev Adds : State → Unified → Type 0
Adds s Fail = Unit {0}
Adds s Spent = Unit {0}
Adds s (Solution s') = AddsTypes s s'

adds_behind : (s s' : State) → AddsTypes s s' → (o : Unified) → Adds s' o → Adds s o
adds_behind s s' a Fail h = tt
adds_behind s s' a Spent h = tt
adds_behind s s' a (Solution s'') h = adds_on s s' s'' a h

pub unify_adds : (m n limit : ℕ) (s : State) (o : Unified) → unify m n limit s ≡ Some o → Adds s o
unify_adds zero n limit s o e = absurd (cc)
unify_adds (suc m) n limit s o e = option_and_then_some _ (turn n s) o e λ t h h'.
    elim t as (λ t. TurnAdds s t → after_turn m n limit t ≡ Some o → Adds s o) [
      | Goes s' ↦ λ a q. goes_on m n limit s' o (Adds s) q tt (λ x. adds_behind s s' a o (unify_adds m n limit s' o x))
      | Fails u ↦ λ a q. is_limited limit u o (Adds s) q tt tt
      | Solved s' ↦ λ a q. let z : Solution s' ≡ o = cc in transport (Adds s) z a
    ] (turn_adds n s s.pairs t h) h'

-- what a run comes to
abbrev pub IsOutcome : (ℕ → Ty) → Declared → List Variable → State → Unified → Type 0
IsOutcome θ d V s Fail = Satisfies θ s.types → NoSolution θ d V s
IsOutcome θ d V s (Solution s') = Satisfies θ s.types → Leads θ d V s s'
IsOutcome θ d V s Spent = Unit {0}

falls_back : (θ : ℕ → Ty) (s s' : State) → AddsTypes s s' → Satisfies θ s'.types → Satisfies θ s.types
falls_back θ s s' a h = (satisfies_split θ s.types a.types (transport (Satisfies θ) a.are h)).0

-- a run from a later state
behind : (θ : ℕ → Ty) (d : Declared) (V : List Variable) (s s' : State) → Leads θ d V s s' → (o : Unified) → Adds s' o → ((W : List Variable) → IsStateAt θ d W s' → IsOutcome θ d W s' o) → IsOutcome θ d V s o
behind θ d V s s' l Fail a f = λ m σ c g k.
    let m' = l.satisfied σ c g k m in
    let r = l.reaches m' in
    let x = r.keeps σ c g k in
    f r.after r.is_state m' x.0.closing x.0.is_closing x.0.is_good x.1
behind θ d V s s' l Spent a f = tt
behind θ d V s s' l (Solution s'') a f = λ m. record {
  satisfied = λ σ c g k m.
      let m' = l.satisfied σ c g k m in
      let r = l.reaches m' in
      let x = r.keeps σ c g k in
      (f r.after r.is_state m').satisfied x.0.closing x.0.is_closing x.0.is_good x.1 m';
  reaches = λ all.
      let m' = falls_back θ s' s'' a all in
      let r = l.reaches m' in
      reaches_on θ d V s s' s'' r ((f r.after r.is_state m').reaches all);
}

pub unify_right : (θ : ℕ → Ty) (d : Declared) (m n limit : ℕ) (V : List Variable) (s : State) (o : Unified) → IsStateAt θ d V s → unify m n limit s ≡ Some o → IsOutcome θ d V s o
unify_right θ d zero n limit V s o w e = absurd (cc)
unify_right θ d (suc m) n limit V s o w e = option_and_then_some _ (turn n s) o e λ t h h'. by_turn t (turn_right θ d V n s t w h) h' (λ W s' x y. unify_right θ d m n limit W s' o x y)
  where
    by_turn : (t : Turn) → TurnRight θ d V s t → after_turn m n limit t ≡ Some o → ((W : List Variable) (s' : State) → IsStateAt θ d W s' → unify m n limit s' ≡ Some o → IsOutcome θ d W s' o) → IsOutcome θ d V s o
    by_turn _ (right_goes {s' = s'} l) q ih = goes_on m n limit s' o (IsOutcome θ d V s) q tt (λ x. behind θ d V s s' l o (unify_adds m n limit s' o x) (λ W y. ih W s' y x))
    by_turn _ (right_fails {u = u} f) q ih = is_limited limit u o (IsOutcome θ d V s) q tt (λ m. f)
    by_turn _ right_solved q ih = let z : Solution s ≡ o = cc in transport (IsOutcome θ d V s) z (λ m. record { satisfied = λ σ c g k m. m; reaches = λ all. nothing_yet θ d V s w })

-- from type equations on
pub record IsInput (θ : ℕ → Ty) (d : Declared) (V : List Variable) (next : ℕ) (ps ds : List Pair) : Type 0 where
  pub count : length V ≡ next
  pub pairs : EachTyped d V (at_types θ ps)
  pub delayed : EachTyped d V (at_types θ ds)

pub record InputSolved (θ : ℕ → Ty) (σ : ℕ → ℕ → Term) (eqs : List TypePair) (ps ds : List Pair) : Type 0 where
  pub types : Unifies θ eqs
  pub pairs : AllSolvedBy σ (at_types θ ps)
  pub delayed : AllSolvedBy σ (at_types θ ds)

-- what a run from the start comes to, where the types satisfy its bindings
pub record Arrives (θ : ℕ → Ty) (d : Declared) (V : List Variable) (next : ℕ) (ps ds : List Pair) (s' : State) : Type 0 where
  pub grows : next ≤ s'.next
  pub scoped : AreScoped s'.next (bindings_at θ s'.bindings)
  pub after : List Variable
  pub more : IsMore V after
  pub is_state : IsStateAt θ d after s'
  pub typed : AreTypedBindings d after (bindings_at θ s'.bindings)
  pub keeps : (σ : ℕ → ℕ → Term) → IsClosing σ → IsTypedClosing d V σ → AllSolvedBy σ (at_types θ ps) → AllSolvedBy σ (at_types θ ds) → (k : Keeps (IsTypedClosing d after) next (bindings_at θ s'.bindings) σ) × SolvesAt θ k.closing s'
  pub keeps_at : (κ : ℕ → Ty) (σ : ℕ → ℕ → Term) → IsClosing σ → IsTypedClosing d (variables_at κ V) σ → AllSolvedBy σ (at_types κ (at_types θ ps)) →
      AllSolvedBy σ (at_types κ (at_types θ ds)) → (k : Keeps (IsTypedClosing d (variables_at κ after)) next
      (bindings_at κ (bindings_at θ s'.bindings)) σ) × SolvesTwice κ θ k.closing s'
  pub solves : (σ : ℕ → ℕ → Term) → IsClosing σ → SolvesAt θ σ s' → AllSolvedBy (through (bindings_at θ s'.bindings) σ) (at_types θ ps) × AllSolvedBy (through (bindings_at θ s'.bindings) σ) (at_types θ ds)

pub record Comes (θ : ℕ → Ty) (d : Declared) (V : List Variable) (eqs : List TypePair) (next : ℕ) (ps ds : List Pair) (s' : State) : Type 0 where
  pub satisfied : (σ : ℕ → ℕ → Term) → IsClosing σ → IsTypedClosing d V σ → InputSolved θ σ eqs ps ds → Satisfies θ s'.types
  pub unified : Satisfies θ s'.types → Unifies θ eqs
  pub arrives : Satisfies θ s'.types → Arrives θ d V next ps ds s'

abbrev pub IsSolveOutcome : (θ : ℕ → Ty) → Declared → List Variable → List TypePair → (next : ℕ) → (ps ds : List Pair) → Unified → Type 0
IsSolveOutcome θ d V eqs next ps ds Fail = (σ : ℕ → ℕ → Term) → IsClosing σ → IsTypedClosing d V σ → InputSolved θ σ eqs ps ds → ⊥
IsSolveOutcome θ d V eqs next ps ds (Solution s') = Comes θ d V eqs next ps ds s'
IsSolveOutcome θ d V eqs next ps ds Spent = Unit {0}

-- from the state behind the type equations
from_start : (θ : ℕ → Ty) (d : Declared) (V : List Variable) (eqs : List TypePair) (next : ℕ) (ps ds : List Pair) (ts : List TypeBinding) (u : ℕ) →
    AreSolved eqs [] (solved ts u) → (o : Unified) → Adds (begun ps ds next (solved ts u)) o →
    (Unifies θ eqs → IsOutcome θ d V (begun ps ds next (solved ts u)) o) → IsSolveOutcome θ d V eqs next ps ds o
from_start θ d V eqs next ps ds ts u t Fail a f = λ σ c g k.
    let m : Satisfies θ ts = transport (Satisfies θ) (sym t.is) (t.keeps θ k.types) in
    f k.types m σ c g (record { pairs = transport (AllSolvedBy σ) (sym (types_satisfied θ ts m ps)) k.pairs; delayed = transport (AllSolvedBy σ) (sym (types_satisfied θ ts m ds)) k.delayed })
from_start θ d V eqs next ps ds ts u t Spent a f = tt
from_start θ d V eqs next ps ds ts u t (Solution s') a f =
    let s = begun ps ds next (solved ts u) in
    let start = (λ (all : Satisfies θ s'.types). falls_back θ s s' a all) in
    let equal = (λ (m : Satisfies θ ts). t.solves θ (transport (Satisfies θ) t.is m)) in
    record {
      satisfied = λ σ c g k.
          let m : Satisfies θ ts = transport (Satisfies θ) (sym t.is) (t.keeps θ k.types) in
          (f k.types m).satisfied σ c g (record { pairs = transport (AllSolvedBy σ) (sym (types_satisfied θ ts m ps)) k.pairs; delayed = transport (AllSolvedBy σ) (sym (types_satisfied θ ts m ds)) k.delayed }) m;
      unified = λ all. equal (start all);
      arrives = λ all.
          let m = start all in
          let r = (f (equal m) m).reaches all in
          let e : r.bindings ≡ s'.bindings = sym r.made in
          record {
            grows = r.grows;
            scoped = transport (λ z. AreScoped s'.next (bindings_at θ z)) e r.scoped;
            after = r.after;
            more = r.more;
            is_state = r.is_state;
            typed = transport (λ z. AreTypedBindings d r.after (bindings_at θ z)) e r.typed;
            keeps = λ σ c g x y.
                let k = r.keeps σ c g (record { pairs = transport (AllSolvedBy σ) (sym (types_satisfied θ ts m ps)) x; delayed = transport (AllSolvedBy σ) (sym (types_satisfied θ ts m ds)) y }) in
                transport (λ z. (k : Keeps (IsTypedClosing d r.after) next (bindings_at θ z) σ) × SolvesAt θ k.closing s') e k;
            keeps_at = λ κ σ c g x y.
                let k = r.keeps_at κ σ c g (record { pairs = transport (λ z. AllSolvedBy σ (at_types κ z)) (sym (types_satisfied θ ts m ps)) x; delayed = transport (λ z. AllSolvedBy σ (at_types κ z)) (sym (types_satisfied θ ts m ds)) y }) in
                transport (λ z. (k : Keeps (IsTypedClosing d (variables_at κ r.after)) next (bindings_at κ (bindings_at θ z)) σ) × SolvesTwice κ θ k.closing s') e k;
            solves = λ σ c k.
                let b = transport (λ z. SolvesAt θ (through (bindings_at θ z) σ) s) e (r.solves σ c k) in
                (transport (AllSolvedBy (through (bindings_at θ s'.bindings) σ)) (types_satisfied θ ts m ps) b.pairs, transport (AllSolvedBy (through (bindings_at θ s'.bindings) σ)) (types_satisfied θ ts m ds) b.delayed);
          };
    }

pub solve_right : (θ : ℕ → Ty) (d : Declared) (V : List Variable) (n limit : ℕ) (eqs : List TypePair) (ps ds : List Pair) (next : ℕ) (o : Unified) → (Unifies θ eqs → IsInput θ d V next ps ds) → solve n limit eqs ps ds next ≡ Some o → IsSolveOutcome θ d V eqs next ps ds o
solve_right θ d V n limit eqs ps ds next o w e = option_and_then_some _ (solve_types n eqs [] 0) o e λ t i j. by_types t (types_right n eqs [] 0 t i) j
  where
    by_types : (t : TypeOutcome) → AreSolved eqs [] t → go_on n limit ps ds next t ≡ Some o → IsSolveOutcome θ d V eqs next ps ds o
    by_types (none u) h q = is_limited limit u o (IsSolveOutcome θ d V eqs next ps ds) q tt (λ σ c g k. h θ k.types)
    by_types (solved ts u) h q = elim (nat_lt limit u) as (λ b. (elim b [
      | true ↦ Some Spent
      | false ↦ unify n n limit (begun ps ds next (solved ts u))
    ]) ≡ Some o → IsSolveOutcome θ d V eqs next ps ds o) [
      | true ↦ λ z. let x : Spent ≡ o = cc in transport (IsSolveOutcome θ d V eqs next ps ds) x tt
      | false ↦ λ z. from_start θ d V eqs next ps ds ts u h o (unify_adds n n limit (begun ps ds next (solved ts u)) o z) (λ y.
          let m : Satisfies θ ts = transport (Satisfies θ) (sym h.is) (h.keeps θ y) in
          let i = w y in
          unify_right θ d n n limit V (begun ps ds next (solved ts u)) o (record {
            count = i.count;
            pairs = transport (EachTyped d V) (sym (types_satisfied θ ts m ps)) i.pairs;
            delayed = transport (EachTyped d V) (sym (types_satisfied θ ts m ds)) i.delayed;
          }) z)
    ] q
