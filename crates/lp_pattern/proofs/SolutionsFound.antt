-- What a run finds has the solutions of its input: the laws of the definition, read off the values and the pairs that the code gives.
use Rattle.std.proofs.Common.{◌≡◌, ℕ, suc, ◌<◌, List, [], ◌∷◌, map, length, ◌∙◌, refl, sym, ap, subst as transport, arith, Bool, true, false, if◌then◌else◌, Option, Some, None, nat_eq}
use Rattle.std.specs.Prelude.{slice_get}
use Rattle.lp_calculus.specs.Types.{Ty}
use Rattle.lp_calculus.specs.Term.{Term, index, atom, abs, app, Atom, constant, integer, text, eigen, logic, param}
use Rattle.lp_calculus.specs.Convert.{Converts, ReducesTo}
use Rattle.lp_calculus.specs.Fill.{Within, close, at_variables, put_all}
use Rattle.lp_calculus.specs.Instance.{instance_atom, instance_term}
use Rattle.lp_calculus.specs.Typing.{HasType}
use Rattle.lp_calculus.proofs.Fills.{fill_same, within_more}
use Rattle.lp_calculus.proofs.Steps.{converts_on, converts_sym, converts_is, converts_fill, converts_reduces}
use Rattle.lp_calculus.proofs.Commutations.{instance_converts}
use Rattle.lp_term.specs.Nodes.{Nodes}
use Rattle.lp_model.specs.Types.{TypePair}
use Rattle.lp_model.specs.Pair.{Pair, Closing, closed, SolvesAll}
use Rattle.lp_model.specs.Unify.{State, Unified, Fail, Solution, solve}
use Rattle.lp_model.specs.Proofs.{Declared}
use Rattle.lp_model.specs.Answers.{Variable, type_of, IsPrefix, PairTyping, AreTypedPairs}
use Rattle.lp_model.specs.declared.answer.Pair.{Pair as Numbers}
use Rattle.lp_unify_laws.specs.TypeSolutions.{Satisfies}
use Rattle.lp_unify_laws.specs.Solutions.{at_types, instance_pair, instance_binding, IsMore, AreTypedBindings, HaveTypings, IsTypedInput, through_bindings, AreStuck, KeptClosing, HasSameClosings}
use Rattle.lp_unify_laws.proofs.Decomposing.{put_types_satisfied}
use Rattle.lp_unify_laws.specs.Solutions as solutions
use Rattle.lp_unify_laws.proofs.Laws.{comes, failures_have_no_solution, residual_pairs_are_stuck}
use Rattle.lp_unify_laws.proofs.NewInstances.{reduces_instance}
use Rattle.lp_unify_laws.proofs.PairLists.{put_all_instance, left_term, right_term, pair_of}
use Rattle.lp_unify_laws.proofs.Principal.{closings_are_the_same}
use Rattle.lp_unify_laws.proofs.Sames.{number_same}
use Rattle.lp_unify_laws.proofs.Scopes.{got_before, more_get, prefix_none, in_scope, variable_of}
use Rattle.lp_unify_laws.proofs.TypedBindings.{IsTypedTerm, term_reduces, term_atoms, IsAtomOf, put_all_typed}
use Rattle.lp_pattern.proofs.TypeSolving.{some_is}
use Rattle.lp_pattern.proofs.PruneSteps.{weak_reduces}
use Rattle.lp_pattern.specs.Pruning.{Known}
use Rattle.lp_pattern.specs.Solutions.{left_pairs, through, KeptThrough, HasSolutions}
use Rattle.lp_pattern.specs.Turning.{AreKnownPairs, IsPairFor, ArePairsFor}
use Rattle.lp_pattern.specs.Under.{under}
use Rattle.lp_pattern.specs.declared.fault.PatternRefusal.{PatternRefusal}
use Rattle.lp_pattern.specs.declared.fault.PatternRefusal.TheVariants as refusal
use Rattle.lp_pattern.specs.Unifying.{unbound, Reads, IsFound, IsSolution, IsRefusedAs}
use Rattle.lp_pattern.specs.declared.unify.Solved.{Solved}

-- the level of each variable
abbrev level_in : Option Variable → ℕ
level_in None = 0
level_in (Some v) = length v.scope

abbrev pub level_of : List Variable → ℕ → ℕ
level_of V x = level_in (slice_get V x)

known_variable : (V : List Variable) (x : ℕ) (v : Variable) → slice_get V x ≡ Some v → Known (level_of V) (length V) (logic x (length v.scope))
known_variable V x v e = (got_before V x v e, sym (ap level_in e))

known_atom : (d : Declared) (E : List Ty) (V : List Variable) (a : Atom) → IsAtomOf d E V a → Known (level_of V) (length V) a
known_atom d E V (constant c ts) h = tt
known_atom d E V (integer z) h = tt
known_atom d E V (text s) h = tt
known_atom d E V (eigen k) h = tt
known_atom d E V (logic x l) h = let v = variable_of V x l h.1.0 h.1.1 in
    transport (λ n. Known (level_of V) (length V) (logic x n)) (sym v.level) (known_variable V x v.variable v.is)
known_atom d E V (param k T) h = tt

-- types in a term say nothing of its variables
known_at : (θ : ℕ → Ty) (lv : ℕ → ℕ) (n : ℕ) (a : Atom) → Known lv n a → Known lv n (instance_atom θ a)
known_at θ lv n (constant c ts) h = tt
known_at θ lv n (integer z) h = tt
known_at θ lv n (text s) h = tt
known_at θ lv n (eigen k) h = tt
known_at θ lv n (logic x l) h = h
known_at θ lv n (param k T) h = tt

known_back : (θ : ℕ → Ty) (lv : ℕ → ℕ) (n : ℕ) (a : Atom) → Known lv n (instance_atom θ a) → Known lv n a
known_back θ lv n (constant c ts) h = tt
known_back θ lv n (integer z) h = tt
known_back θ lv n (text s) h = tt
known_back θ lv n (eigen k) h = tt
known_back θ lv n (logic x l) h = h
known_back θ lv n (param k T) h = tt

known_instance : (θ : ℕ → Ty) (lv : ℕ → ℕ) (n d : ℕ) (t : Term) → Within (Known lv n) d t → Within (Known lv n) d (instance_term θ t)
known_instance θ lv n d (index i) h = h
known_instance θ lv n d (atom a) h = known_at θ lv n a h
known_instance θ lv n d (abs b) h = known_instance θ lv n (suc d) b h
known_instance θ lv n d (app t u) h = (known_instance θ lv n d t h.0, known_instance θ lv n d u h.1)

known_before : (θ : ℕ → Ty) (lv : ℕ → ℕ) (n d : ℕ) (t : Term) → Within (Known lv n) d (instance_term θ t) → Within (Known lv n) d t
known_before θ lv n d (index i) h = h
known_before θ lv n d (atom a) h = known_back θ lv n a h
known_before θ lv n d (abs b) h = known_before θ lv n (suc d) b h
known_before θ lv n d (app t u) h = (known_before θ lv n d t h.0, known_before θ lv n d u h.1)

known_term : (θ : ℕ → Ty) (d : Declared) (E : List Ty) (V : List Variable) (t : Term) (T : Ty) → IsTypedTerm d E V (instance_term θ t) T → Within (Known (level_of V) (length V)) 0 t
known_term θ d E V t T h = known_before θ (level_of V) (length V) 0 t (within_more (IsAtomOf d E V) (Known (level_of V) (length V)) 0 0 (known_atom d E V) (omega arith) (instance_term θ t) (term_atoms d E V (instance_term θ t) T h))

pub typed_known : (θ : ℕ → Ty) (d : Declared) (V : List Variable) (qs : List PairTyping) (ps : List Pair) → AreTypedPairs d V qs (at_types θ ps) → AreKnownPairs (level_of V) (length V) ps
typed_known θ d V qs [] h = tt
typed_known θ d V [] (p ∷ ps) h = absurd h
typed_known θ d V (q ∷ qs) (p ∷ ps) h = (
  (known_term θ d q.eigens V p.left q.type (left_term d V q (instance_pair θ p) h.0), known_term θ d q.eigens V p.right q.type (right_term d V q (instance_pair θ p) h.0)),
  typed_known θ d V qs ps h.1,
)

-- closings that give known variables the same solve the same known pairs
module _ (lv : ℕ → ℕ) (n : ℕ) (θ κ : ℕ → Ty) (σ τ : ℕ → ℕ → Term) (same : (x l : ℕ) → x < n → l ≡ lv x → σ x l ≡ τ x l) where
  same_atom : (a : Atom) → Known lv n a → at_variables σ a ≡ at_variables τ a
  same_atom (constant c ts) h = refl
  same_atom (integer z) h = refl
  same_atom (text s) h = refl
  same_atom (eigen k) h = refl
  same_atom (logic x l) h = same x l h.0 h.1
  same_atom (param k T) h = refl

  same_closed : (t : Term) → Within (Known lv n) 0 t → close σ (instance_term κ (instance_term θ t)) ≡ close τ (instance_term κ (instance_term θ t))
  same_closed t h = fill_same (Known lv n) (at_variables σ) (at_variables τ) same_atom 0 (instance_term κ (instance_term θ t)) (known_instance κ lv n 0 (instance_term θ t) (known_instance θ lv n 0 t h))

  solves_same : (ps : List Pair) → AreKnownPairs lv n ps → SolvesAll (record { types = κ; terms = σ }) (at_types θ ps) → SolvesAll (record { types = κ; terms = τ }) (at_types θ ps)
  solves_same [] k h = tt
  solves_same (p ∷ ps) k h = (converts_on (converts_is (sym (same_closed p.left k.0.0))) (converts_on h.0 (converts_is (same_closed p.right k.0.1))), solves_same ps k.1 h.1)

-- pairs that are left, at types
reached_at : (θ : ℕ → Ty) (b : Nodes) (z : Closing) (q : Numbers) (p : Pair) → IsPairFor b z q p → ReducesTo (instance_term θ p.left) (instance_term θ (under b z q.left)) × ReducesTo (instance_term θ p.right) (instance_term θ (under b z q.right))
reached_at θ b z q p h = (reduces_instance θ (weak_reduces h.left.0 p.left (under b z q.left) h.left.1), reduces_instance θ (weak_reduces h.right.0 p.right (under b z q.right) h.right.1))

reduced : (c : Closing) {t u : Term} → ReducesTo t u → Converts (closed c t) (closed c u)
reduced c {t = t} {u = u} r = converts_fill (at_variables c.terms) (instance_converts c.types t u (converts_reduces r))

left_solved : (θ : ℕ → Ty) (b : Nodes) (z c : Closing) (qs : List Numbers) (ps : List Pair) → ArePairsFor b z qs ps → SolvesAll c (at_types θ ps) → SolvesAll c (left_pairs b z θ qs)
left_solved θ b z c [] ps a h = tt
left_solved θ b z c (q ∷ qs) [] a h = absurd a
left_solved θ b z c (q ∷ qs) (p ∷ ps) a h = let r = reached_at θ b z q p a.0 in (converts_on (converts_sym (reduced c r.0)) (converts_on h.0 (reduced c r.1)), left_solved θ b z c qs ps a.1 h.1)

solved_left : (θ : ℕ → Ty) (b : Nodes) (z c : Closing) (qs : List Numbers) (ps : List Pair) → ArePairsFor b z qs ps → SolvesAll c (left_pairs b z θ qs) → SolvesAll c (at_types θ ps)
solved_left θ b z c [] [] a h = tt
solved_left θ b z c [] (p ∷ ps) a h = absurd a
solved_left θ b z c (q ∷ qs) [] a h = absurd a
solved_left θ b z c (q ∷ qs) (p ∷ ps) a h = let r = reached_at θ b z q p a.0 in (converts_on (reduced c r.0) (converts_on h.0 (converts_sym (reduced c r.1))), solved_left θ b z c qs ps a.1 h.1)

typed_left : (θ : ℕ → Ty) (d : Declared) (W : List Variable) (b : Nodes) (z : Closing) (ts : List PairTyping) (qs : List Numbers) (ps : List Pair) → ArePairsFor b z qs ps → AreTypedPairs d W ts (at_types θ ps) → AreTypedPairs d W ts (left_pairs b z θ qs)
typed_left θ d W b z [] [] ps a h = tt
typed_left θ d W b z (t ∷ ts) [] [] a h = absurd h
typed_left θ d W b z (t ∷ ts) [] (p ∷ ps) a h = absurd a
typed_left θ d W b z ts (q ∷ qs) [] a h = absurd a
typed_left θ d W b z [] (q ∷ qs) (p ∷ ps) a h = absurd h
typed_left θ d W b z (t ∷ ts) (q ∷ qs) (p ∷ ps) a h = let r = reached_at θ b z q p a.0 in (
  pair_of d W t (instance_term θ (under b z q.left)) (instance_term θ (under b z q.right)) q.level (h.0.level ∙ a.0.stands)
      (term_reduces d t.eigens W t.type r.0 (left_term d W t (instance_pair θ p) h.0)) (term_reduces d t.eigens W t.type r.1 (right_term d W t (instance_pair θ p) h.0)),
  typed_left θ d W b z ts qs ps a.1 h.1,
)

-- what the values found are, at types
module _ (d : Declared) (V : List Variable) (θ : ℕ → Ty) (ps ds : List Pair) (b : Nodes) (next : ℕ) (residual : List Numbers) (z : Closing) (s : State) (f : IsFound (level_of V) (length V) unbound b next residual z s) (m : Satisfies θ s.types)
    (n : ℕ) (stays : AreStuck n s.delayed) (known_pairs : AreKnownPairs (level_of V) (length V) ps) (known_delayed : AreKnownPairs (level_of V) (length V) ds) (l : HasSameClosings θ d V ps ds s) where
  value_at : (x k : ℕ) → Known (level_of V) (length V) (logic x k) → instance_term θ (z.terms x k) ≡ put_all (map (instance_binding θ) s.bindings) (atom (logic x k))
  value_at x k h = ap (instance_term θ) (f.puts 0 (atom (logic x k)) h) ∙ put_types_satisfied θ s.types m (put_all s.bindings (atom (logic x k))) ∙ sym (put_all_instance θ s.bindings (atom (logic x k)))

  given_at : (c : Closing) (x k : ℕ) → x < length V → k ≡ level_of V x → (through_bindings (map (instance_binding θ) s.bindings) c).terms x k ≡ (through z θ c).terms x k
  given_at c x k h e = ap (closed c) (sym (value_at x k (h, e)))

  typed_value : (x : ℕ) (v : Variable) → slice_get V x ≡ Some v → HasType (in_scope d v.scope l.typings.after) [] (instance_term θ (z.terms x (length v.scope))) v.type
  typed_value x v e = transport (λ t. HasType (in_scope d v.scope l.typings.after) [] t v.type) (sym (value_at x (length v.scope) (known_variable V x v e)))
      (put_all_typed d v.scope l.typings.after (map (instance_binding θ) s.bindings) l.typings.bindings (atom (logic x (length v.scope))) v.type
      (record {
        typed = typed_there;
        scoped = λ w q. let r : v ≡ w = some_is v w (sym there ∙ q) in transport (λ u. IsPrefix u.scope v.scope) r
            (prefix_none v.scope);
      })).typed
    where
      there : slice_get l.typings.after x ≡ Some v
      there = more_get V l.typings.after l.typings.more x v e

      chosen : (c : Bool) → c ≡ true → (if c then Some v.type else None) ≡ Some v.type
      chosen true q = refl
      chosen false q = absurd (cc)

      typed_there : type_of (slice_get l.typings.after x) (length v.scope) ≡ Some v.type
      typed_there = ap (λ o. type_of o (length v.scope)) there ∙ chosen (nat_eq (length v.scope) (length v.scope)) (number_same (length v.scope))

  kept : (c : Closing) → KeptClosing d V l.typings.after c (map (instance_binding θ) s.bindings) (at_types θ s.delayed) → KeptThrough d V l.typings.after c z θ (left_pairs b z θ residual)
  kept c k = record {
    closing = k.closing;
    types = k.types;
    closes = k.closes;
    solves = left_solved θ b z k.closing residual s.delayed f.left k.solves;
    gives = λ x v q. converts_on (k.gives x v q) (converts_is (given_at k.closing x (length v.scope) (got_before V x v q) (known_variable V x v q).1));
  }

  pub found_solutions : HasSolutions n d V θ ps ds b next residual z
  found_solutions = record {
    after = l.typings.after;
    more = l.typings.more;
    count = l.typings.count ∙ sym f.last;
    left_typed = (l.typings.residual.0, typed_left θ d l.typings.after b z l.typings.residual.0 residual s.delayed f.left l.typings.residual.1);
    values_typed = typed_value;
    keeps = λ c h sp sd. kept c (l.keeps c h sp sd);
    adds_none = λ c h sl.
        let r = l.adds_none c h (solved_left θ b z c residual s.delayed f.left sl) in (
          solves_same (level_of V) (length V) θ c.types (through_bindings (map (instance_binding θ) s.bindings) c).terms (through z θ c).terms (given_at c) ps known_pairs r.0,
          solves_same (level_of V) (length V) θ c.types (through_bindings (map (instance_binding θ) s.bindings) c).terms (through z θ c).terms (given_at c) ds known_delayed r.1,
        );
    stuck = (s.delayed, f.left, stays);
  }

-- the same from what the code says of a run
pub right_found : (d : Declared) (V : List Variable) (θ : ℕ → Ty) (first n limit : ℕ) (eqs : List TypePair) (ps ds : List Pair) (s : State)
    (b : Nodes) (next : ℕ) (found : Solved) → length V ≡ first → IsTypedInput θ d V eqs ps ds → solve n limit eqs ps ds first ≡ Some (Solution s) →
    AreStuck n ds → Satisfies θ s.types →
    ((levels : ℕ → ℕ) → AreKnownPairs levels first ps → AreKnownPairs levels first ds → IsSolution levels first b next found (Solution s)) →
    (z : Closing) × Reads b found.bindings.items found.types.items z × HasSolutions n d V θ ps ds b next found.residual.items z
right_found d V θ first n limit eqs ps ds s b next found count i e k m h =
    let e' = transport (λ j. solve n limit eqs ps ds j ≡ Some (Solution s)) (sym count) e in
    let t = i ((comes θ d V n limit eqs ps ds s i e').unified m) in
    let p = typed_known θ d V t.0.0 ps t.0.1 in
    let q = typed_known θ d V t.1.0 ds t.1.1 in
    let f = transport (λ j. (levels : ℕ → ℕ) → AreKnownPairs levels j ps → AreKnownPairs levels j ds → IsSolution levels j b next found (Solution s)) (sym count) h (level_of V) p q in
    (f.0, f.1, found_solutions d V θ ps ds b next found.residual.items f.0 s f.2 m n (residual_pairs_are_stuck n limit eqs ps ds (length V) s k e').1 p q (closings_are_the_same d V n limit eqs ps ds s θ i e' k m))

failed : (r : PatternRefusal) (n : ℕ) (u : Unified) → r ≡ refusal.Fails → IsRefusedAs r n u → u ≡ Fail
failed refusal.Fails n u e h = h
failed refusal.Deep n u e h = absurd (cc)
failed refusal.Memory n u e h = absurd (cc)

pub none_found : (r : PatternRefusal) → r ≡ refusal.Fails → (d : Declared) (V : List Variable) (c : Closing) (first n limit : ℕ) (eqs : List TypePair) (ps ds : List Pair) (u : Unified) → length V ≡ first → IsTypedInput c.types d V eqs ps ds → solve n limit eqs ps ds first ≡ Some u →
    ((levels : ℕ → ℕ) → AreKnownPairs levels first ps → AreKnownPairs levels first ds → IsRefusedAs r n u) → solutions.IsSolution d V c eqs ps ds → ⊥
none_found r fails d V c first n limit eqs ps ds u count i e h w =
    let t = i w.types in
    let f = transport (λ j. (levels : ℕ → ℕ) → AreKnownPairs levels j ps → AreKnownPairs levels j ds → IsRefusedAs r n u) (sym count) h (level_of V) (typed_known c.types d V t.0.0 ps t.0.1) (typed_known c.types d V t.1.0 ds t.1.1) in
    failures_have_no_solution d V n limit eqs ps ds c i (transport (λ j. solve n limit eqs ps ds j ≡ Some u) (sym count) e ∙ ap Some (failed r n u fails f)) w
