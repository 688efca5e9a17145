-- A whole run under types for the type variables: the solutions of the pairs are what those of the residual pairs give through the
-- bindings, and typings are kept.
use Rattle.std.proofs.Common.{◌≡◌, ℕ, suc, ◌+◌, ◌<◌, ◌≤◌, List, [], ◌∷◌, ◌++◌, map, length, ◌∙◌, refl, sym, ap, subst as transport, arith, true, false, Option, Some, None}
use Rattle.std.specs.Prelude.{option_map}
use Rattle.lp_calculus.specs.Types.{Ty, instance}
use Rattle.lp_unify_laws.specs.Solutions.{instance_typing}
use Rattle.lp_unify_laws.proofs.TypedInstances.{length_variables, typings_have_instances}
use Rattle.lp_unify_laws.proofs.NewInstances.{variables_at, scope_at}
use Rattle.lp_unify_laws.proofs.Identities.{both_types, pair_twice, pairs_twice}
use Rattle.lp_calculus.specs.Term.{Term}
use Rattle.lp_calculus.specs.Convert.{Converts, same}
use Rattle.lp_calculus.specs.Fill.{Binding}
use Rattle.lp_model.specs.Pair.{Pair}
use Rattle.lp_model.specs.Rule.{Ruled, Verdict, fails, gives, binds, delays, rule}
use Rattle.lp_model.specs.Unify.{State, Turn, Goes, Fails, Solved, put_pairs, type_pairs_in, judged, turn_on, turn}
use Rattle.lp_model.specs.Proofs.{Declared}
use Rattle.lp_model.specs.Answers.{Variable}
use Rattle.lp_unify_laws.specs.Levels.{IsPair, IsClosing, SolvedBy, AllSolvedBy}
use Rattle.lp_unify_laws.specs.Right.{through, AreScoped, Keeps}
use Rattle.lp_unify_laws.specs.TypeSolutions.{Satisfies}
use Rattle.lp_unify_laws.proofs.Scopes.{IsMore, more_none, append_none}
use Rattle.lp_unify_laws.proofs.NewVariables.{IsTypedClosing}
use Rattle.lp_unify_laws.proofs.TypedBindings.{AreTypedBindings}
use Rattle.lp_unify_laws.proofs.TypeSolving.{satisfies_append, satisfies_split}
use Rattle.lp_unify_laws.proofs.Instances.{instance_binding}
use Rattle.lp_unify_laws.proofs.RuleInstances.{instance_pair}
use Rattle.lp_unify_laws.proofs.Rules.{IsTypedAt, binding_keeps}
use Rattle.lp_unify_laws.proofs.RuleAt.{IsRightAt, rule_at}
use Rattle.lp_unify_laws.proofs.PairLists.{HasTyping, EachTyped, each_typed, each_append, each_map, each_two, solves_append, solves_split, each_solved, all_solved, each_bound, each_back, left_term, right_term, pair_more, pair_bound, pair_within, solved_bound, solved_back, at_types, types_append, types_satisfied, put_pairs_instance}

abbrev pub bindings_at : (ℕ → Ty) → List Binding → List Binding
bindings_at θ bs = map (instance_binding θ) bs

pub record IsStateAt (θ : ℕ → Ty) (d : Declared) (V : List Variable) (s : State) : Type 0 where
  pub count : length V ≡ s.next
  pub pairs : EachTyped d V (at_types θ s.pairs)
  pub delayed : EachTyped d V (at_types θ s.delayed)

pub record SolvesAt (θ : ℕ → Ty) (σ : ℕ → ℕ → Term) (s : State) : Type 0 where
  pub pairs : AllSolvedBy σ (at_types θ s.pairs)
  pub delayed : AllSolvedBy σ (at_types θ s.delayed)

-- with more types put in the pairs
pub record SolvesTwice (κ θ : ℕ → Ty) (σ : ℕ → ℕ → Term) (s : State) : Type 0 where
  pub pairs : AllSolvedBy σ (at_types κ (at_types θ s.pairs))
  pub delayed : AllSolvedBy σ (at_types κ (at_types θ s.delayed))

-- from a state to a later one
pub record Reaches (θ : ℕ → Ty) (d : Declared) (V : List Variable) (s s' : State) : Type 0 where
  pub bindings : List Binding
  pub made : s'.bindings ≡ s.bindings ++ bindings
  pub grows : s.next ≤ s'.next
  pub scoped : AreScoped s'.next (bindings_at θ bindings)
  pub after : List Variable
  pub more : IsMore V after
  pub is_state : IsStateAt θ d after s'
  pub typed : AreTypedBindings d after (bindings_at θ bindings)
  pub keeps : (σ : ℕ → ℕ → Term) → IsClosing σ → IsTypedClosing d V σ → SolvesAt θ σ s → (k : Keeps (IsTypedClosing d after) s.next (bindings_at θ bindings) σ) × SolvesAt θ k.closing s'
  -- a closing of what the variables become with more types
  pub keeps_at : (κ : ℕ → Ty) (σ : ℕ → ℕ → Term) → IsClosing σ → IsTypedClosing d (variables_at κ V) σ → SolvesTwice κ θ σ s → (k : Keeps (IsTypedClosing d (variables_at κ after)) s.next (bindings_at κ (bindings_at θ bindings)) σ) × SolvesTwice κ θ k.closing s'
  pub solves : (σ : ℕ → ℕ → Term) → IsClosing σ → SolvesAt θ σ s' → SolvesAt θ (through (bindings_at θ bindings) σ) s

-- types that solve the pairs satisfy the type bindings, and types that satisfy them have the rest
pub record Leads (θ : ℕ → Ty) (d : Declared) (V : List Variable) (s s' : State) : Type 0 where
  pub satisfied : (σ : ℕ → ℕ → Term) → IsClosing σ → IsTypedClosing d V σ → SolvesAt θ σ s → Satisfies θ s.types → Satisfies θ s'.types
  pub reaches : Satisfies θ s'.types → Reaches θ d V s s'

abbrev pub NoSolution : (ℕ → Ty) → Declared → List Variable → State → Type 0
NoSolution θ d V s = (σ : ℕ → ℕ → Term) → IsClosing σ → IsTypedClosing d V σ → SolvesAt θ σ s → ⊥

-- one turn
pub data TurnRight (θ : ℕ → Ty) (d : Declared) (V : List Variable) (s : State) : Turn → Type 0 where
  right_goes : {s' : State} → Leads θ d V s s' → TurnRight θ d V s (Goes s')
  right_fails : {u : ℕ} → NoSolution θ d V s → TurnRight θ d V s (Fails u)
  right_solved : TurnRight θ d V s (Solved s)

abbrev pub stays : (d : Declared) (V : List Variable) (next : ℕ) (σ : ℕ → ℕ → Term) → IsClosing σ → IsTypedClosing d V σ → Keeps (IsTypedClosing d V) next [] σ
stays d V next σ c g = record { closing = σ; is_closing = c; is_good = g; gives = λ x l q. same (σ x l) }

-- pairs behind bindings
bound_typed : (d : Declared) (V W : List Variable) → IsMore V W → (bs : List Binding) → AreTypedBindings d W bs → (ps : List Pair) → EachTyped d V ps → EachTyped d W (put_pairs bs ps)
bound_typed d V W m bs b ps h = each_bound (HasTyping d V) (HasTyping d W) bs (λ p k. pair_bound d W bs b p (pair_more d V W m p k)) ps h

bound_solved : (d : Declared) (V : List Variable) (next : ℕ) → length V ≡ next → (σ τ : ℕ → ℕ → Term) (bs : List Binding) → ((x l : ℕ) → x < next → Converts (σ x l) (through bs τ x l)) → (ps : List Pair) → EachTyped d V ps → AllSolvedBy σ ps → AllSolvedBy τ (put_pairs bs ps)
bound_solved d V next e σ τ bs f ps h k = all_solved τ (put_pairs bs ps)
    (each_bound (λ q. IsPair next q × SolvedBy σ q) (SolvedBy τ) bs (solved_bound σ τ bs next f) ps
    (each_two (IsPair next) (SolvedBy σ) ps (each_map (HasTyping d V) (IsPair next) (pair_within d V next e) ps h) (each_solved σ ps k)))

bound_back : (σ : ℕ → ℕ → Term) (bs : List Binding) (ps : List Pair) → AllSolvedBy σ (put_pairs bs ps) → AllSolvedBy (through bs σ) ps
bound_back σ bs ps h = all_solved (through bs σ) ps (each_back (SolvedBy (through bs σ)) (SolvedBy σ) bs (solved_back σ bs) ps (each_solved σ (put_pairs bs ps) h))

pub each_typed_at : (κ : ℕ → Ty) (d : Declared) (V : List Variable) (ps : List Pair) → EachTyped d V ps → EachTyped d (variables_at κ V) (at_types κ ps)
each_typed_at κ d V [] h = tt
each_typed_at κ d V (p ∷ ps) h = ((instance_typing κ h.0.0, typings_have_instances κ d V h.0.0 p h.0.1), each_typed_at κ d V ps h.1)

judged_right : (θ : ℕ → Ty) (d : Declared) (V : List Variable) (n : ℕ) (s : State) (p : Pair) (rest : List Pair) (r : Ruled) (v : Verdict) (u : ℕ) → IsStateAt θ d V s → s.pairs ≡ p ∷ rest → rule n s.next p ≡ Some r → r.verdict ≡ v → TurnRight θ d V s (judged s p rest u v)
judged_right θ d V n s p rest r v u w e h hv = by_verdict v (transport (IsRightAt θ d V s.next p) hv (rule_at θ d q.0.eigens V q.0.type n s.next p r typed_at h))
    (λ κ. transport (IsRightAt (both_types κ θ) d (variables_at κ V) s.next p) hv (rule_at (both_types κ θ) d (scope_at κ q.0.eigens) (variables_at κ V) (instance κ q.0.type) n s.next p r (typed_twice κ) h))
  where
    first : HasTyping d V (instance_pair θ p) × EachTyped d V (at_types θ rest)
    first = transport (λ z. EachTyped d V (at_types θ z)) e w.pairs

    q : HasTyping d V (instance_pair θ p)
    q = first.0

    typed_at : IsTypedAt d q.0.eigens V s.next (instance_pair θ p) q.0.type
    typed_at = record { count = w.count; level = q.1.level; left = left_term d V q.0 (instance_pair θ p) q.1; right = right_term d V q.0 (instance_pair θ p) q.1 }

    typed_twice : (κ : ℕ → Ty) → IsTypedAt d (scope_at κ q.0.eigens) (variables_at κ V) s.next (instance_pair (both_types κ θ) p) (instance κ q.0.type)
    typed_twice κ =
        let x = typings_have_instances κ d V q.0 (instance_pair θ p) q.1 in
        transport (λ z. IsTypedAt d (scope_at κ q.0.eigens) (variables_at κ V) s.next z (instance κ q.0.type)) (pair_twice κ θ p)
        (record { count = length_variables κ V ∙ w.count; level = x.level; left = record { typed = x.left; scoped = x.left_scoped }; right = record { typed = x.right; scoped = x.right_scoped } })

    open_twice : (κ : ℕ → Ty) (σ : ℕ → ℕ → Term) → SolvesTwice κ θ σ s → SolvedBy σ (instance_pair κ (instance_pair θ p)) × AllSolvedBy σ (at_types κ (at_types θ rest))
    open_twice κ σ k = transport (λ z. AllSolvedBy σ (at_types κ (at_types θ z))) e k.pairs

    open_pairs : (σ : ℕ → ℕ → Term) → SolvesAt θ σ s → SolvedBy σ (instance_pair θ p) × AllSolvedBy σ (at_types θ rest)
    open_pairs σ k = transport (λ z. AllSolvedBy σ (at_types θ z)) e k.pairs

    shut_pairs : (σ : ℕ → ℕ → Term) → SolvedBy σ (instance_pair θ p) → AllSolvedBy σ (at_types θ rest) → AllSolvedBy σ (at_types θ s.pairs)
    shut_pairs σ a b = transport (λ z. AllSolvedBy σ (at_types θ z)) (sym e) (a, b)

    by_verdict : (v : Verdict) → IsRightAt θ d V s.next p v → ((κ : ℕ → Ty) → IsRightAt (both_types κ θ) d (variables_at κ V) s.next p v) → TurnRight θ d V s (judged s p rest u v)
    by_verdict fails i j = right_fails (λ σ c g k. i σ c g (open_pairs σ k).0)
    by_verdict (gives ts ps) i j = right_goes (record {
      satisfied = λ σ c g k m. satisfies_append θ s.types ts m (i.keeps σ c (open_pairs σ k).0).0;
      reaches = λ all.
          let m = (satisfies_split θ s.types ts all).1 in
          let x : at_types θ (ps ++ type_pairs_in ts rest) ≡ at_types θ ps ++ at_types θ rest = types_append θ ps (type_pairs_in ts rest) ∙ ap (λ z. at_types θ ps ++ z) (types_satisfied θ ts m rest) in
          let y : at_types θ (type_pairs_in ts s.delayed) ≡ at_types θ s.delayed = types_satisfied θ ts m s.delayed in
          let z = i.typed q.0.eigens q.0.type s.next typed_at m in
          record {
            bindings = [];
            made = append_none s.bindings;
            grows = omega arith;
            scoped = tt;
            after = V;
            more = more_none V;
            is_state = record {
              count = w.count;
              pairs = transport (EachTyped d V) (sym x) (each_append (HasTyping d V) (at_types θ ps) (at_types θ rest) (each_typed d V z.0 (at_types θ ps) z.1) first.1);
              delayed = transport (EachTyped d V) (sym y) w.delayed;
            };
            typed = tt;
            keeps = λ σ c g k. let o = open_pairs σ k in (
              stays d V s.next σ c g,
              record {
                pairs = transport (AllSolvedBy σ) (sym x) (solves_append σ (at_types θ ps) (at_types θ rest) (i.keeps σ c o.0).1 o.1);
                delayed = transport (AllSolvedBy σ) (sym y) k.delayed;
              },
            );
            keeps_at = λ κ σ c g k.
                let o = open_twice κ σ k in
                let given = ((j κ).keeps σ c (transport (SolvedBy σ) (pair_twice κ θ p) o.0)).1 in
                let front : AllSolvedBy σ (at_types κ (at_types θ ps)) = transport (AllSolvedBy σ) (sym (pairs_twice κ θ ps)) given in (
                  stays d (variables_at κ V) s.next σ c g,
                  record {
                    pairs = transport (AllSolvedBy σ) (sym (ap (at_types κ) x ∙ types_append κ (at_types θ ps) (at_types θ rest))) (solves_append σ (at_types κ (at_types θ ps)) (at_types κ (at_types θ rest)) front o.1);
                    delayed = transport (λ z. AllSolvedBy σ (at_types κ z)) (sym y) k.delayed;
                  },
                );
            solves = λ σ c k. let o = solves_split σ (at_types θ ps) (at_types θ rest) (transport (AllSolvedBy σ) x k.pairs) in record {
              pairs = shut_pairs σ (i.solves σ c m o.0) o.1;
              delayed = transport (AllSolvedBy σ) y k.delayed;
            };
          };
    })
    by_verdict (binds bs next') i j =
        let cs = bindings_at θ bs in
        let x = put_pairs_instance θ bs rest in
        let y = put_pairs_instance θ bs s.delayed in
        right_goes (record {
          satisfied = λ σ c g k m. m;
          reaches = λ all. record {
            bindings = bs;
            made = refl;
            grows = i.grows;
            scoped = i.scoped;
            after = i.after;
            more = i.more;
            is_state = record {
              count = i.count;
              pairs = transport (EachTyped d i.after) (sym x) (bound_typed d V i.after i.more cs i.typed (at_types θ rest) first.1);
              delayed = transport (EachTyped d i.after) (sym y) (bound_typed d V i.after i.more cs i.typed (at_types θ s.delayed) w.delayed);
            };
            typed = i.typed;
            keeps = λ σ c g k.
                let o = open_pairs σ k in
                let z = binding_keeps d V s.next (instance_pair θ p) cs next' i σ c g o.0 in (
                  z,
                  record {
                    pairs = transport (AllSolvedBy z.closing) (sym x) (bound_solved d V s.next w.count σ z.closing cs z.gives (at_types θ rest) first.1 o.1);
                    delayed = transport (AllSolvedBy z.closing) (sym y) (bound_solved d V s.next w.count σ z.closing cs z.gives (at_types θ s.delayed) w.delayed k.delayed);
                  },
                );
            keeps_at = λ κ σ c g k.
                let o = open_twice κ σ k in
                let es = bindings_at κ cs in
                let z = i.keeps κ σ c g o.0 in (
                  z,
                  record {
                    pairs = transport (AllSolvedBy z.closing) (sym (ap (at_types κ) x ∙ put_pairs_instance κ cs (at_types θ rest)))
                        (bound_solved d (variables_at κ V) s.next (length_variables κ V ∙ w.count) σ z.closing es z.gives (at_types κ (at_types θ rest)) (each_typed_at κ d V (at_types θ rest) first.1) o.1);
                    delayed = transport (AllSolvedBy z.closing) (sym (ap (at_types κ) y ∙ put_pairs_instance κ cs (at_types θ s.delayed)))
                        (bound_solved d (variables_at κ V) s.next (length_variables κ V ∙ w.count) σ z.closing es z.gives (at_types κ (at_types θ s.delayed)) (each_typed_at κ d V (at_types θ s.delayed) w.delayed) k.delayed);
                  },
                );
            solves = λ σ c k. record {
              pairs = shut_pairs (through cs σ) (i.solves σ c) (bound_back σ cs (at_types θ rest) (transport (AllSolvedBy σ) x k.pairs));
              delayed = bound_back σ cs (at_types θ s.delayed) (transport (AllSolvedBy σ) y k.delayed);
            };
          };
        })
    by_verdict delays i j =
        let x : at_types θ (s.delayed ++ p ∷ []) ≡ at_types θ s.delayed ++ instance_pair θ p ∷ [] = types_append θ s.delayed (p ∷ []) in
        right_goes (record {
          satisfied = λ σ c g k m. m;
          reaches = λ all. record {
            bindings = [];
            made = append_none s.bindings;
            grows = omega arith;
            scoped = tt;
            after = V;
            more = more_none V;
            is_state = record {
              count = w.count;
              pairs = first.1;
              delayed = transport (EachTyped d V) (sym x) (each_append (HasTyping d V) (at_types θ s.delayed) (instance_pair θ p ∷ []) w.delayed (first.0, tt));
            };
            typed = tt;
            keeps = λ σ c g k. let o = open_pairs σ k in (stays d V s.next σ c g, record { pairs = o.1; delayed = transport (AllSolvedBy σ) (sym x) (solves_append σ (at_types θ s.delayed) (instance_pair θ p ∷ []) k.delayed (o.0, tt)) });
            keeps_at = λ κ σ c g k. let o = open_twice κ σ k in (
              stays d (variables_at κ V) s.next σ c g,
              record {
                pairs = o.1;
                delayed = transport (AllSolvedBy σ) (sym (ap (at_types κ) x ∙ types_append κ (at_types θ s.delayed) (instance_pair θ p ∷ []))) (solves_append σ (at_types κ (at_types θ s.delayed)) (instance_pair κ (instance_pair θ p) ∷ []) k.delayed (o.0, tt));
              },
            );
            solves = λ σ c k. let o = solves_split σ (at_types θ s.delayed) (instance_pair θ p ∷ []) (transport (AllSolvedBy σ) x k.delayed) in record { pairs = shut_pairs σ o.1.0 k.pairs; delayed = o.0 };
          };
        })

pub turn_right : (θ : ℕ → Ty) (d : Declared) (V : List Variable) (n : ℕ) (s : State) (t : Turn) → IsStateAt θ d V s → turn n s ≡ Some t → TurnRight θ d V s t
turn_right θ d V n s t w e = by_pairs s.pairs refl e
  where
    by_pairs : (ps : List Pair) → s.pairs ≡ ps → turn_on n s ps ≡ Some t → TurnRight θ d V s t
    by_pairs (p ∷ rest) q h = by_rule (rule n s.next p) refl h
      where
        by_rule : (o : Option Ruled) → rule n s.next p ≡ o → option_map (λ r. judged s p rest (suc s.units + r.units) r.verdict) o ≡ Some t → TurnRight θ d V s t
        by_rule None i j = absurd (cc)
        by_rule (Some r) i j = let z : judged s p rest (suc s.units + r.units) r.verdict ≡ t = cc in transport (TurnRight θ d V s) z (judged_right θ d V n s p rest r r.verdict (suc s.units + r.units) w q i refl)
    by_pairs [] q h = elim s.changed as (λ b. (elim b [
      | true ↦ Some (Goes (record s { pairs = s.delayed; delayed = []; changed = false }))
      | false ↦ Some (Solved s)
    ]) ≡ Some t → TurnRight θ d V s t) [
      | true ↦ λ j. let z : Goes (record s { pairs = s.delayed; delayed = []; changed = false }) ≡ t = cc in transport (TurnRight θ d V s) z (right_goes (record {
        satisfied = λ σ c g k m. m;
        reaches = λ all. record {
          bindings = [];
          made = append_none s.bindings;
          grows = omega arith;
          scoped = tt;
          after = V;
          more = more_none V;
          is_state = record { count = w.count; pairs = w.delayed; delayed = tt };
          typed = tt;
          keeps = λ σ c g k. (stays d V s.next σ c g, record { pairs = k.delayed; delayed = tt });
          keeps_at = λ κ σ c g k. (stays d (variables_at κ V) s.next σ c g, record { pairs = k.delayed; delayed = tt });
          solves = λ σ c k. record { pairs = transport (λ y. AllSolvedBy σ (at_types θ y)) (sym q) tt; delayed = k.pairs };
        };
      }))
      | false ↦ λ j. let z : Solved s ≡ t = cc in transport (TurnRight θ d V s) z right_solved
    ] h
