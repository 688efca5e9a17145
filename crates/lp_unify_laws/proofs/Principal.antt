-- One typing for all closings: with types put in that satisfy the type bindings, what a run leaves is typed over one list of variables, and the
-- closings of these that solve the residual pairs are, through the bindings, those that solve the pairs.
use Rattle.std.proofs.Common.{◌≡◌, ℕ, List, [], ◌∷◌, map, length, ◌∙◌, refl, sym, ap, subst as transport, Some}
use mathlib.Core.Path.{fun_ext}
use Rattle.lp_calculus.specs.Types.{Ty, instance}
use Rattle.lp_calculus.specs.Term.{Term}
use Rattle.lp_calculus.specs.Fill.{close, Binding, put_all}
use Rattle.lp_calculus.proofs.Steps.{converts_on, converts_is}
use Rattle.lp_calculus.proofs.TypeLaws.{instance-instance}
use Rattle.lp_model.specs.Types.{TypePair, TypeBinding}
use Rattle.lp_model.specs.Pair.{Pair, Closing, SolvesAll}
use Rattle.lp_model.specs.Unify.{State, Solution, solve}
use Rattle.lp_model.specs.Proofs.{Declared, IsWitness}
use Rattle.lp_model.specs.Answers.{Variable, Closes}
use Rattle.lp_unify_laws.specs.Levels.{AllSolvedBy}
use Rattle.lp_unify_laws.specs.Right.{through}
use Rattle.lp_unify_laws.specs.TypeSolutions.{Satisfies}
use Rattle.lp_unify_laws.specs.Solutions.{instance_variable, instance_typing, instance_binding, at_types, IsMore, IsTypedClosing, IsTypedBinding, AreTypedBindings, HaveTypings, IsTypedInput, through_bindings, AreStuck, KeptClosing, HasSameClosings}
use Rattle.lp_unify_laws.proofs.Scopes.{got_before}
use Rattle.lp_unify_laws.proofs.Throughs.{through_close}
use Rattle.lp_unify_laws.proofs.TypedBindings.{IsTypedTerm, term_more, put_all_typed}
use Rattle.lp_unify_laws.proofs.PairLists.{EachTyped, each_typed, left_term, right_term}
use Rattle.lp_unify_laws.proofs.TypedInstances.{length_map, map_append, length_variables, pairs_have_instances, side_instance, scoped_instance}
use Rattle.lp_unify_laws.proofs.NewInstances.{variables_at, scope_at, get_at}
use Rattle.lp_unify_laws.proofs.Identities.{both_types, pairs_twice, bindings_twice}
use Rattle.lp_unify_laws.proofs.Runs.{bindings_at, each_typed_at}
use Rattle.lp_unify_laws.proofs.Unifications.{Arrives}
use Rattle.lp_unify_laws.proofs.Stuck.{solve_stuck}
use Rattle.lp_unify_laws.proofs.Laws.{solved_by, by_solved, comes, typings, gives_through}
use Rattle.lp_unify_laws.proofs.Trimmed.{trimmed, trimmed_at, trimmed_closing, trimmed_typed, trimmed_solves, trimmed_term, closes_typed}

-- types put further
satisfies_twice : (κ θ : ℕ → Ty) (bs : List TypeBinding) → Satisfies θ bs → Satisfies (both_types κ θ) bs
satisfies_twice κ θ [] h = tt
satisfies_twice κ θ (b ∷ bs) h = (ap (instance κ) h.0 ∙ instance-instance θ κ b.value, satisfies_twice κ θ bs h.1)

binding_instance : (κ : ℕ → Ty) (d : Declared) (W : List Variable) (b : Binding) → IsTypedBinding d W b → IsTypedBinding d (variables_at κ W) (instance_binding κ b)
binding_instance κ d W b h = record {
  variable = instance_variable κ h.variable;
  is = get_at κ W b.id h.variable h.is;
  level = h.level ∙ sym (length_map (instance κ) h.variable.scope);
  typed = side_instance κ d h.variable.scope W b.value h.variable.type h.typed;
  scoped = scoped_instance κ h.variable.scope W 0 b.value h.scoped;
}

bindings_instance : (κ : ℕ → Ty) (d : Declared) (W : List Variable) (bs : List Binding) → AreTypedBindings d W bs → AreTypedBindings d (variables_at κ W) (bindings_at κ bs)
bindings_instance κ d W [] h = tt
bindings_instance κ d W (b ∷ bs) h = (binding_instance κ d W b h.0, bindings_instance κ d W bs h.1)

more_at : (κ : ℕ → Ty) (V W : List Variable) → IsMore V W → IsMore (variables_at κ V) (variables_at κ W)
more_at κ V W m = record { more = variables_at κ m.more; is = ap (variables_at κ) m.is ∙ map_append (instance_variable κ) V m.more }

typings_twice : (κ θ : ℕ → Ty) (d : Declared) (V : List Variable) (ps : List Pair) → HaveTypings d V (at_types θ ps) → HaveTypings d (variables_at κ V) (at_types (both_types κ θ) ps)
typings_twice κ θ d V ps h = transport (HaveTypings d (variables_at κ V)) (pairs_twice κ θ ps) (map (instance_typing κ) h.0, pairs_have_instances κ d V h.0 (at_types θ ps) h.1)

-- what stands behind bindings has the variables that are there then
untrimmed_term : (d : Declared) (E : List Ty) (V W : List Variable) → IsMore V W → (bs : List Binding) → AreTypedBindings d W bs → (τ : ℕ → ℕ → Term) (t : Term) (T : Ty) → IsTypedTerm d E V t T → close (through bs (trimmed W τ)) t ≡ close (through bs τ) t
untrimmed_term d E V W m bs b τ t T h =
    sym (through_close bs (trimmed W τ) t) ∙ trimmed_term d E W τ (put_all bs t) T (put_all_typed d E W bs b t T (term_more d E V W m t T h)) ∙ through_close bs τ t

untrimmed : (d : Declared) (V W : List Variable) → IsMore V W → (bs : List Binding) → AreTypedBindings d W bs → (τ : ℕ → ℕ → Term) (ps : List Pair) → EachTyped d V ps → AllSolvedBy (through bs (trimmed W τ)) ps → AllSolvedBy (through bs τ) ps
untrimmed d V W m bs b τ [] h k = tt
untrimmed d V W m bs b τ (p ∷ ps) h k =
    let q = h.0.0 in (
      converts_on (converts_is (sym (untrimmed_term d q.eigens V W m bs b τ p.left q.type (left_term d V q p h.0.1)))) (converts_on k.0 (converts_is (untrimmed_term d q.eigens V W m bs b τ p.right q.type (right_term d V q p h.0.1)))),
      untrimmed d V W m bs b τ ps h.1 k.1,
    )

-- each closing that solves the pairs
keeps_closing : (θ : ℕ → Ty) (d : Declared) (V : List Variable) (ps ds : List Pair) (s : State) → (a : Arrives θ d V (length V) ps ds s) → EachTyped d V (at_types θ ps) → EachTyped d V (at_types θ ds) → (c : Closing) → Closes d V c → SolvesAll c (at_types θ ps) → SolvesAll c (at_types θ ds) →
    KeptClosing d V a.after c (bindings_at θ s.bindings) (at_types θ s.delayed)
keeps_closing θ d V ps ds s a tp td c h sp sd =
    let κ = c.types in
    let X = variables_at κ V in
    let g = closes_typed d V c h in
    let k = a.keeps_at κ (trimmed X c.terms) (trimmed_closing d X c.terms g) (trimmed_typed d X c.terms g)
    (trimmed_solves d X c.terms (at_types κ (at_types θ ps)) (each_typed_at κ d V (at_types θ ps) tp) (solved_by c (at_types θ ps) sp))
    (trimmed_solves d X c.terms (at_types κ (at_types θ ds)) (each_typed_at κ d V (at_types θ ds) td) (solved_by c (at_types θ ds) sd)) in
    let z : Closing = record { types = κ; terms = k.0.closing } in
    record {
      closing = z;
      types = refl;
      closes = record {
        types = h.types;
        terms = λ x w e. transport (λ n. IsWitness d (scope_at κ w.scope) (k.0.closing x n) (instance κ w.type)) (length_map (instance κ) w.scope) (k.0.is_good x (instance_variable κ w) (get_at κ a.after x w e));
      };
      solves = by_solved z (at_types θ s.delayed) k.1.delayed;
      gives = λ x v q.
          let at : trimmed X c.terms x (length v.scope) ≡ c.terms x (length v.scope) = transport (λ n. trimmed X c.terms x n ≡ c.terms x n) (length_map (instance κ) v.scope) (trimmed_at X c.terms x (instance_variable κ v) (get_at κ V x v q)) in
          converts_on (converts_is (sym at)) (converts_on (k.0.gives x (length v.scope) (got_before V x v q)) (converts_is (gives_through κ k.0.closing (bindings_at θ s.bindings) x (length v.scope))));
    }

-- and none is added
adds_no_closing : (θ : ℕ → Ty) (d : Declared) (V : List Variable) (n limit : ℕ) (eqs : List TypePair) (ps ds : List Pair) (s : State) → HaveTypings d V (at_types θ ps) → HaveTypings d V (at_types θ ds) → solve n limit eqs ps ds (length V) ≡ Some (Solution s) → AreStuck n ds → Satisfies θ s.types →
    (a : Arrives θ d V (length V) ps ds s) → (c : Closing) → Closes d a.after c → SolvesAll c (at_types θ s.delayed) →
    SolvesAll (through_bindings (bindings_at θ s.bindings) c) (at_types θ ps) × SolvesAll (through_bindings (bindings_at θ s.bindings) c) (at_types θ ds)
adds_no_closing θ d V n limit eqs ps ds s tp td e k m a c h sd = (behind ps tp solved.0, behind ds td solved.1)
  where
    κ : ℕ → Ty
    κ = c.types

    β : ℕ → Ty
    β = both_types κ θ

    X : List Variable
    X = variables_at κ V

    Y : List Variable
    Y = variables_at κ a.after

    g : IsTypedClosing d Y c.terms
    g = closes_typed d a.after c h

    none_left : s.pairs ≡ []
    none_left = (solve_stuck n limit eqs ps ds (length V) (Solution s) k e).0

    solved : AllSolvedBy (through (bindings_at β s.bindings) (trimmed Y c.terms)) (at_types β ps) × AllSolvedBy (through (bindings_at β s.bindings) (trimmed Y c.terms)) (at_types β ds)
    solved = ((comes β d X n limit eqs ps ds s (λ u. (typings_twice κ θ d V ps tp, typings_twice κ θ d V ds td)) (transport (λ z. solve n limit eqs ps ds z ≡ Some (Solution s)) (sym (length_variables κ V)) e)).arrives (satisfies_twice κ θ s.types m)).solves
        (trimmed Y c.terms) (trimmed_closing d Y c.terms g) (record {
          pairs = transport (λ z. AllSolvedBy (trimmed Y c.terms) (at_types β z)) (sym none_left) tt;
          delayed = transport (AllSolvedBy (trimmed Y c.terms)) (pairs_twice κ θ s.delayed) (trimmed_solves d Y c.terms (at_types κ (at_types θ s.delayed)) (each_typed_at κ d a.after (at_types θ s.delayed) a.is_state.delayed) (solved_by c (at_types θ s.delayed) sd));
        })

    behind : (qs : List Pair) → HaveTypings d V (at_types θ qs) → AllSolvedBy (through (bindings_at β s.bindings) (trimmed Y c.terms)) (at_types β qs) → SolvesAll (through_bindings (bindings_at θ s.bindings) c) (at_types θ qs)
    behind qs t w =
        let bs = bindings_at κ (bindings_at θ s.bindings) in
        let x : AllSolvedBy (through bs (trimmed Y c.terms)) (at_types κ (at_types θ qs)) = transport
        (λ z. AllSolvedBy (through z (trimmed Y c.terms)) (at_types κ (at_types θ qs))) (sym (bindings_twice κ θ s.bindings))
        (transport (AllSolvedBy (through (bindings_at β s.bindings) (trimmed Y c.terms))) (sym (pairs_twice κ θ qs)) w) in
        let y = untrimmed d X Y (more_at κ V a.after a.more) bs (bindings_instance κ d a.after (bindings_at θ s.bindings) a.typed) c.terms (at_types κ (at_types θ qs)) (each_typed_at κ d V (at_types θ qs) (each_typed d V t.0 (at_types θ qs) t.1)) x in
        by_solved (through_bindings (bindings_at θ s.bindings) c) (at_types θ qs)
        (transport (λ τ. AllSolvedBy τ (at_types κ (at_types θ qs))) (fun_ext (λ x. fun_ext (λ l. gives_through κ c.terms (bindings_at θ s.bindings) x l))) y)

pub closings_are_the_same : (d : Declared) (V : List Variable) (n limit : ℕ) (eqs : List TypePair) (ps ds : List Pair) (s : State) (θ : ℕ → Ty) →
    IsTypedInput θ d V eqs ps ds → solve n limit eqs ps ds (length V) ≡ Some (Solution s) → AreStuck n ds → Satisfies θ s.types → HasSameClosings θ d
    V ps ds s
unfolding typings
closings_are_the_same d V n limit eqs ps ds s θ i e k m =
    let r = comes θ d V n limit eqs ps ds s i e in
    let a = r.arrives m in
    let t = i (r.unified m) in
    record {
      typings = typings θ d V ps ds s a;
      keeps = keeps_closing θ d V ps ds s a (each_typed d V t.0.0 (at_types θ ps) t.0.1) (each_typed d V t.1.0 (at_types θ ds) t.1.1);
      adds_none = adds_no_closing θ d V n limit eqs ps ds s t.0 t.1 e k m a;
    }
