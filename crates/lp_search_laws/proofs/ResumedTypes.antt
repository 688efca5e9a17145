-- The branch behind a unification is typed: over the variables that unification leaves, with types for the type variables from k on cut off.
use Rattle.std.proofs.Common.{◌≡◌, ℕ, zero, suc, ◌<◌, ◌≤◌, List, [], ◌∷◌, ◌++◌, map, length, ◌∙◌, refl, sym, ap, subst as transport, arith, Bool, true, false, nat_lt, if◌then◌else◌, Some}
use Rattle.std.proofs.lemmas.Bool.Decides.{nat_tests}
use mathlib.Core.Path.{fun_ext}
use Rattle.lp_unify_laws.specs.TypesBelow.{IsTypeBelow, AreTysBelow, AreTypesBelow}
use Rattle.lp_calculus.specs.Types.{Ty, Tys, var, param as type_param, con, arrow, no_types, types, instance, instances}
use Rattle.lp_calculus.specs.Term.{Term, Atom, constant, integer, text, eigen, logic, param}
use Rattle.lp_calculus.specs.Fill.{Within, Binding, put_all}
use Rattle.lp_calculus.specs.Instance.{instance_term}
use Rattle.lp_calculus.specs.Typing.{Typed, o_type, type_at, eigen_type}
use Rattle.lp_calculus.proofs.Fills.{within_both}
use Rattle.lp_calculus.proofs.TypeLaws.{instance-instance}
use Rattle.lp_lemmas.specs.Each.{EachOf}
use Rattle.lp_model.specs.Types.{TypePair, TypeBinding, one_type, put_types}
use Rattle.lp_model.specs.Pair.{Pair}
use Rattle.lp_model.specs.Unify.{State}
use Rattle.lp_model.specs.Proofs.{Declared}
use Rattle.lp_model.specs.Flat.{Clause, put_clause, type_clause, same_type}
use Rattle.lp_model.specs.Branch.{Entry, Branch, put_entry, type_entry, resume}
use Rattle.lp_model.specs.Answers.{Query, Variable, over, IsScopedAtom, PairTyping, AreTypedPairs, IsOutermostAtom, IsTypedValue, AreTypedValues}
use Rattle.lp_unify_laws.specs.TypeSolutions.{Unifies, Satisfies}
use Rattle.lp_unify_laws.specs.Solutions.{at_types, instance_variable, instance_typing, instance_binding, IsMore, IsTypedBinding, AreTypedBindings, HaveTypings, AreStuck}
use Rattle.lp_unify_laws.proofs.Identities.{both_types, term_twice, map_twice}
use Rattle.lp_unify_laws.proofs.TypedInstances.{length_map, map_append, side_instance, scoped_instance, pairs_have_instances}
use Rattle.lp_unify_laws.proofs.NewInstances.{get_at}
use Rattle.lp_unify_laws.proofs.Scopes.{in_scope, variable_of, prefix_length}
use Rattle.lp_unify_laws.proofs.TypedBindings.{IsTypedTerm, HasAtomType, typed_atoms, term_more, put_all_typed}
use Rattle.lp_unify_laws.proofs.PairLists.{put_all_instance}
use Rattle.lp_search_laws.specs.Holds.{IsTyped}
use Rattle.lp_search_laws.specs.Branches.{IsPlainTerm, IsGoal, IsAssumable, ArePlainEntries, IsPlainVariable, IsPlainPair, BranchTyping, IsTypedBranch}
use Rattle.lp_search_laws.specs.Behind.{IsBranchWith, behind, types_of, variables_of, eigens_of}
use Rattle.lp_search_laws.proofs.TypesPut.{put_types_is, put_types_in_is, satisfied_instance}
use Rattle.lp_search_laws.proofs.Entries.{put_in, put_one, type_one, behind_none, behind_each, are_shut, entries_behind}
use Rattle.lp_search_laws.proofs.WrittenBehind.{written_behind}
use Rattle.lp_standard.specs.Positive.{IsPositive}
use Rattle.lp_search_laws.proofs.PlainTypes.{agree_type, agree_term, IsBelow, plain_below, goal_kept, assumable_kept, binding_keeps_plain, one_keeps_plain, list_below, type_below, types_of_below, put_all_plain, types_in_plain, ArePlainBindings, ArePlainTypes, cut_off, cut_agrees, plain_positive}

-- the types that were made, cut off at k
pub record AreMade (k : ℕ) (ts : List TypeBinding) : Type 0 where
  pub satisfied : Satisfies (types_of ts) ts
  pub plain : ArePlainTypes k ts

abbrev pub χ : (k : ℕ) → List TypeBinding → ℕ → Ty
χ k ts = cut_off k (types_of ts)

by_below : (P : Ty → Type 0) (k i : ℕ) (T : Ty) → (i < k → P T) → P o_type → P (if nat_lt i k then T else o_type)
by_below P k i T f p = go (nat_lt i k) refl
  where
    go : (b : Bool) → nat_lt i k ≡ b → P (if b then T else o_type)
    go true e = let h : i < k = grind (arith, nat_tests, e) in f h
    go false e = p

mutual
  any_below : (k : ℕ) (θ : ℕ → Ty) → ((i : ℕ) → IsTypeBelow k (θ i)) → (T : Ty) → IsTypeBelow k (instance θ T)
  any_below k θ h (var i) = h i
  any_below k θ h (type_param n) = tt
  any_below k θ h (con c ts) = anys_below k θ h ts
  any_below k θ h (arrow a b) = (any_below k θ h a, any_below k θ h b)

  anys_below : (k : ℕ) (θ : ℕ → Ty) → ((i : ℕ) → IsTypeBelow k (θ i)) → (ts : Tys) → AreTysBelow k (instances θ ts)
  anys_below k θ h no_types = tt
  anys_below k θ h (types t ts) = (any_below k θ h t, anys_below k θ h ts)

list_any : (k : ℕ) (θ : ℕ → Ty) → ((i : ℕ) → IsTypeBelow k (θ i)) → (ts : List Ty) → AreTypesBelow k (map (instance θ) ts)
list_any k θ h [] = tt
list_any k θ h (t ∷ ts) = (any_below k θ h t, list_any k θ h ts)

χ_below : (k : ℕ) (ts : List TypeBinding) → AreMade k ts → (i : ℕ) → IsTypeBelow k (χ k ts i)
χ_below k ts m i = by_below (IsTypeBelow k) k i (types_of ts i) (types_of_below k ts m.plain i) tt

pub χ_is : (k : ℕ) (ts : List TypeBinding) (T : Ty) → IsTypeBelow k T → instance (χ k ts) T ≡ instance (types_of ts) T
χ_is k ts T w = agree_type k (χ k ts) (types_of ts) (cut_agrees k (types_of ts)) T w

θ_twice : (k : ℕ) (ts : List TypeBinding) → AreMade k ts → (i : ℕ) → i < k → instance (χ k ts) (types_of ts i) ≡ types_of ts i
θ_twice k ts m i h = χ_is k ts (types_of ts i) (types_of_below k ts m.plain i h) ∙ satisfied_instance (types_of ts) ts m.satisfied (var i)

pub χ_behind : (k : ℕ) (ts : List TypeBinding) → AreMade k ts → (T : Ty) → IsTypeBelow k T → instance (χ k ts) (instance (types_of ts) T) ≡ instance (types_of ts) T
χ_behind k ts m T w = instance-instance (types_of ts) (χ k ts) T ∙ agree_type k (both_types (χ k ts) (types_of ts)) (types_of ts) (θ_twice k ts m) T w

pub χ_term : (k : ℕ) (ts : List TypeBinding) → AreMade k ts → (t : Term) → IsBelow k t → instance_term (χ k ts) (instance_term (types_of ts) t) ≡ instance_term (types_of ts) t
χ_term k ts m t w = term_twice (χ k ts) (types_of ts) t ∙ agree_term k (both_types (χ k ts) (types_of ts)) (types_of ts) (θ_twice k ts m) t w

χ_same : (k : ℕ) (ts : List TypeBinding) → AreMade k ts → (i : ℕ) → instance (χ k ts) (χ k ts i) ≡ χ k ts i
χ_same k ts m i = by_below (λ T. instance (χ k ts) T ≡ T) k i (types_of ts i) (θ_twice k ts m i) refl

pub χ_twice : (k : ℕ) (ts : List TypeBinding) → AreMade k ts → (T : Ty) → instance (χ k ts) (instance (χ k ts) T) ≡ instance (χ k ts) T
χ_twice k ts m T = instance-instance (χ k ts) (χ k ts) T ∙ ap (λ f. instance f T) (fun_ext (χ_same k ts m))

χ_satisfies_all : (k : ℕ) (ts us : List TypeBinding) → ArePlainTypes k us → Satisfies (types_of ts) us → Satisfies (χ k ts) us
χ_satisfies_all k ts [] p h = tt
χ_satisfies_all k ts (b ∷ us) p h = (cut_agrees k (types_of ts) b.id p.0.0 ∙ h.0 ∙ sym (χ_is k ts b.value p.0.1), χ_satisfies_all k ts us p.1 h.1)

pub χ_satisfies : (k : ℕ) (ts : List TypeBinding) → AreMade k ts → Satisfies (χ k ts) ts
χ_satisfies k ts m = χ_satisfies_all k ts ts m.plain m.satisfied

-- variables
pub map_list : (k : ℕ) (ts : List TypeBinding) → AreMade k ts → (Ts : List Ty) → AreTypesBelow k Ts → map (instance (χ k ts)) (map (instance (types_of ts)) Ts) ≡ map (instance (types_of ts)) Ts
map_list k ts m [] w = refl
map_list k ts m (T ∷ Ts) w = λ i. χ_behind k ts m T w.0 i ∷ map_list k ts m Ts w.1 i

variables_behind : (k : ℕ) (ts : List TypeBinding) → AreMade k ts → (V : List Variable) → EachOf (IsPlainVariable k) V → variables_of (χ k ts) (variables_of (types_of ts) V) ≡ variables_of (types_of ts) V
variables_behind k ts m [] w = refl
variables_behind k ts m (v ∷ V) w = λ i. record { type = χ_behind k ts m v.type w.0.type i; scope = map_list k ts m v.scope w.0.scope i } ∷ variables_behind k ts m V w.1 i

pub more_behind : (k : ℕ) (ts : List TypeBinding) → AreMade k ts → (V W : List Variable) → EachOf (IsPlainVariable k) V → IsMore (variables_of (types_of ts) V) W → IsMore (variables_of (types_of ts) V) (variables_of (χ k ts) W)
more_behind k ts m V W w h = record {
  more = variables_of (χ k ts) h.more;
  is = ap (variables_of (χ k ts)) h.is ∙ map_append (instance_variable (χ k ts)) (variables_of (types_of ts) V) h.more ∙ ap (λ X. X ++ variables_of (χ k ts) h.more) (variables_behind k ts m V w);
}

pub plain_variables : (k : ℕ) (ts : List TypeBinding) → AreMade k ts → (W : List Variable) → EachOf (IsPlainVariable k) (variables_of (χ k ts) W)
plain_variables k ts m [] = tt
plain_variables k ts m (v ∷ W) = (record { type = any_below k (χ k ts) (χ_below k ts m) v.type; scope = list_any k (χ k ts) (χ_below k ts m) v.scope }, plain_variables k ts m W)

-- bindings
binding_instance : (κ : ℕ → Ty) (d : Declared) (W : List Variable) (b : Binding) → IsTypedBinding d W b → IsTypedBinding d (variables_of κ W) (instance_binding κ b)
binding_instance κ d W b h = record {
  variable = instance_variable κ h.variable;
  is = get_at κ W b.id h.variable h.is;
  level = h.level ∙ sym (length_map (instance κ) h.variable.scope);
  typed = side_instance κ d h.variable.scope W b.value h.variable.type h.typed;
  scoped = scoped_instance κ h.variable.scope W 0 b.value h.scoped;
}

pub bindings_behind : (k : ℕ) (ts : List TypeBinding) → AreMade k ts → (d : Declared) (W : List Variable) (bs : List Binding) → ArePlainBindings k bs
    → AreTypedBindings d W (map (instance_binding (types_of ts)) bs) → AreTypedBindings d (variables_of (χ k ts) W)
    (map (instance_binding (types_of ts)) bs)
bindings_behind k ts m d W [] p h = tt
bindings_behind k ts m d W (b ∷ bs) p h = (
  transport (IsTypedBinding d (variables_of (χ k ts) W)) (λ i. record { id = b.id; level = b.level; value = χ_term k ts m b.value (plain_below k b.value p.0) i }) (binding_instance (χ k ts) d W (instance_binding (types_of ts) b) h.0),
  bindings_behind k ts m d W bs p.1 h.1,
)

-- pairs
agree_pairs : (k : ℕ) (κ μ : ℕ → Ty) → ((i : ℕ) → i < k → κ i ≡ μ i) → (ps : List Pair) → EachOf (IsPlainPair k) ps → at_types κ ps ≡ at_types μ ps
agree_pairs k κ μ h [] w = refl
agree_pairs k κ μ h (p ∷ ps) w = λ i. record { left = agree_term k κ μ h p.left (plain_below k p.left w.0.left) i; right = agree_term k κ μ h p.right (plain_below k p.right w.0.right) i; level = p.level } ∷ agree_pairs k κ μ h ps w.1 i

pub pairs_behind : (k : ℕ) (ts : List TypeBinding) (d : Declared) (W : List Variable) (ps : List Pair) → EachOf (IsPlainPair k) ps → at_types (types_of ts) ps ≡ ps → HaveTypings d W (at_types (types_of ts) ps) → HaveTypings d (variables_of (χ k ts) W) ps
pairs_behind k ts d W ps w e h =
    let θ = types_of ts in
    let f : at_types (χ k ts) (at_types θ ps) ≡ ps = ap (at_types (χ k ts)) e ∙ agree_pairs k (χ k ts) θ (cut_agrees k θ) ps w ∙ e in
    (map (instance_typing (χ k ts)) h.0, transport (AreTypedPairs d (variables_of (χ k ts) W) (map (instance_typing (χ k ts)) h.0)) f (pairs_have_instances (χ k ts) d W h.0 (at_types θ ps) h.1))

-- terms
pub term_behind : (d : Declared) (V W : List Variable) (E : List Ty) (bs : List Binding) (ts : List TypeBinding) → IsMore
    (variables_of (types_of ts) V) W → AreTypedBindings d W (map (instance_binding (types_of ts)) bs) → (t : Term) (T : Ty) → IsTyped d E V t T →
    IsTyped d (map (instance (types_of ts)) E) W (put_in bs ts t) (instance (types_of ts) T)
term_behind d V W E bs ts m b t T h =
    let θ = types_of ts in
    let F = map (instance θ) E in
    let U = instance θ T in
    let u : IsTypedTerm d F (variables_of θ V) (instance_term θ t) U = record { typed = side_instance θ d E V t T h.typed; scoped = scoped_instance θ E V 0 t h.scoped } in
    let p = put_all_typed d F W (map (instance_binding θ) bs) b (instance_term θ t) U (term_more d F (variables_of θ V) W m (instance_term θ t) U u) in
    transport (λ z. IsTyped d F W z U) (put_all_instance θ bs t ∙ sym (put_types_in_is ts (put_all bs t))) (record { typed = p.typed; scoped = p.scoped })

pub term_plain : (k : ℕ) (bs : List Binding) (ts : List TypeBinding) → ArePlainBindings k bs → ArePlainTypes k ts → (t : Term) → IsPlainTerm k t → IsPlainTerm k (put_in bs ts t)
term_plain k bs ts pb pt t w = types_in_plain k ts pt (put_all bs t) (put_all_plain k bs pb t w)

-- values
empty : (E : List Ty) → length E ≡ 0 → [] ≡ E ++ []
empty [] e = refl
empty (T ∷ E) e = absurd (cc)

pub value_scoped : (d : Declared) (V : List Variable) (t : Term) (T : Ty) → Typed (over d [] V) [] t T → Within IsOutermostAtom 0 t → Within (IsScopedAtom V []) 0 t
value_scoped d V t T w o = within_both IsOutermostAtom (HasAtomType (in_scope d [] V)) (IsScopedAtom V []) 0 one t o (typed_atoms (in_scope d [] V) [] t T w)
  where
    one : (a : Atom) → IsOutermostAtom a → HasAtomType (in_scope d [] V) a → IsScopedAtom V [] a
    one (logic x l) p q = λ v e.
        let r = variable_of V x l q.0 q.1 in
        let z : Some r.variable ≡ Some v = sym r.is ∙ e in
        let y : r.variable ≡ v = cc in
        let n : length v.scope ≡ 0 = ap (λ (u : Variable). length u.scope) (sym y) ∙ sym r.level ∙ p in
        record { rest = []; is = empty v.scope n }
    one (eigen k) p q = absurd p
    one (constant c ts) p q = tt
    one (integer z) p q = tt
    one (text s) p q = tt
    one (param k U) p q = tt

no_eigen : (k : ℕ) (A : Ty) → eigen_type [] k ≡ Some A → ⊥
no_eigen zero A e = absurd (cc)
no_eigen (suc k) A e = absurd (cc)

scoped_value : (d : Declared) (V : List Variable) (t : Term) (T : Ty) → Typed (over d [] V) [] t T → Within (IsScopedAtom V []) 0 t → Within IsOutermostAtom 0 t
scoped_value d V t T w o = within_both (IsScopedAtom V []) (HasAtomType (in_scope d [] V)) IsOutermostAtom 0 one t o (typed_atoms (in_scope d [] V) [] t T w)
  where
    one : (a : Atom) → IsScopedAtom V [] a → HasAtomType (in_scope d [] V) a → IsOutermostAtom a
    one (logic x l) p q =
        let r = variable_of V x l q.0 q.1 in
        let n : length r.variable.scope ≤ 0 = prefix_length r.variable.scope [] (p r.variable r.is) in
        let e : l ≡ length r.variable.scope = r.level in
        omega (arith, n, e)
    one (eigen k) p q = no_eigen k q.0 q.1
    one (constant c ts) p q = tt
    one (integer z) p q = tt
    one (text s) p q = tt
    one (param k U) p q = tt

value_behind : (d : Declared) (V W : List Variable) (bs : List Binding) (ts : List TypeBinding) → IsMore (variables_of (types_of ts) V) W →
    AreTypedBindings d W (map (instance_binding (types_of ts)) bs) → (t : Term) (T : Ty) → IsTypedValue d V t T → IsPositive (put_in bs ts t) →
    IsTypedValue d W (put_in bs ts t) (instance (types_of ts) T)
value_behind d V W bs ts m b t T h p =
    let r = term_behind d V W [] bs ts m b t T (record { typed = h.typed; scoped = value_scoped d V t T h.typed h.outermost }) in
    record { typed = r.typed; outermost = scoped_value d W (put_in bs ts t) (instance (types_of ts) T) r.typed r.scoped; positive = p }

values_behind : (d : Declared) (V W : List Variable) (bs : List Binding) (ts : List TypeBinding) → IsMore (variables_of (types_of ts) V) W →
    AreTypedBindings d W (map (instance_binding (types_of ts)) bs) → (us : List Term) (Ts : List Ty) → AreTypedValues d V us Ts → (k : ℕ) → EachOf
    (IsPlainTerm k) (map (put_in bs ts) us) → AreTypedValues d W (map (put_in bs ts) us) (map (instance (types_of ts)) Ts)
values_behind d V W bs ts m b [] [] h k p = tt
values_behind d V W bs ts m b [] (T ∷ Ts) h k p = absurd h
values_behind d V W bs ts m b (u ∷ us) [] h k p = absurd h
values_behind d V W bs ts m b (u ∷ us) (T ∷ Ts) h k p = (value_behind d V W bs ts m b u T h.0 (plain_positive k (put_in bs ts u) p.0), values_behind d V W bs ts m b us Ts h.1 k p.1)

entry_at : (ts : List TypeBinding) (Ts : List Ty) (i : ℕ) → type_at (map (put_types ts) Ts) i ≡ instance (types_of ts) (type_at Ts i)
entry_at ts [] i = refl
entry_at ts (T ∷ Ts) zero = put_types_is ts T
entry_at ts (T ∷ Ts) (suc i) = entry_at ts Ts i

query_types : (ts : List TypeBinding) (Ts Us : List Ty) → map (instance (types_of ts)) (map (instance (type_at Ts)) Us) ≡ map (instance (type_at (map (put_types ts) Ts))) Us
query_types ts Ts Us = map_twice (instance (type_at Ts)) (instance (types_of ts)) (instance (type_at (map (put_types ts) Ts))) (λ U. instance-instance (type_at Ts) (types_of ts) U ∙ ap (λ f. instance f U) (fun_ext (λ i. sym (entry_at ts Ts i)))) Us

-- plain lists
terms_plain : (k : ℕ) (bs : List Binding) (ts : List TypeBinding) → ArePlainBindings k bs → ArePlainTypes k ts → (us : List Term) → EachOf (IsPlainTerm k) us → EachOf (IsPlainTerm k) (map (put_in bs ts) us)
terms_plain k bs ts pb pt [] w = tt
terms_plain k bs ts pb pt (u ∷ us) w = (term_plain k bs ts pb pt u w.0, terms_plain k bs ts pb pt us w.1)

types_plain : (k : ℕ) (ts : List TypeBinding) → ArePlainTypes k ts → (Ts : List Ty) → AreTypesBelow k Ts → AreTypesBelow k (map (put_types ts) Ts)
types_plain k ts pt [] w = tt
types_plain k ts pt (T ∷ Ts) w = (transport (IsTypeBelow k) (sym (put_types_is ts T)) (type_below k (types_of ts) (types_of_below k ts pt) T w.0), types_plain k ts pt Ts w.1)

-- plain entries
record IsFormed (k : ℕ) (e : Entry) : Type 0 where
  goal : IsGoal k [] e.goal
  assumed : EachOf (IsAssumable k) e.assumed

clauses_plain : (k : ℕ) (b : Binding) → IsPlainTerm k b.value → (A : List Clause) → EachOf (IsAssumable k) A → EachOf (IsAssumable k) (map (put_clause b) A)
clauses_plain k b w [] h = tt
clauses_plain k b w (c ∷ A) h = (assumable_kept k _ same_type (binding_keeps_plain k b w) c h.0, clauses_plain k b w A h.1)

clauses_typed : (k : ℕ) (b : TypeBinding) → IsTypeBelow k b.value → (A : List Clause) → EachOf (IsAssumable k) A → EachOf (IsAssumable k) (map (type_clause (one_type b)) A)
clauses_typed k b w [] h = tt
clauses_typed k b w (c ∷ A) h = (assumable_kept k (instance_term (one_type b)) (instance (one_type b)) (one_keeps_plain k b w) c h.0, clauses_typed k b w A h.1)

put_formed : (k : ℕ) (bs : List Binding) → ArePlainBindings k bs → (e : Entry) → IsFormed k e → IsFormed k (put_one bs e)
put_formed k [] w e h = h
put_formed k (b ∷ bs) w e h = put_formed k bs w.1 (put_entry b e) (record { goal = goal_kept k _ same_type (binding_keeps_plain k b w.0) zero [] e.goal h.goal; assumed = clauses_plain k b w.0 e.assumed h.assumed })

type_formed : (k : ℕ) (ts : List TypeBinding) → ArePlainTypes k ts → (e : Entry) → IsFormed k e → IsFormed k (type_one ts e)
type_formed k [] w e h = h
type_formed k (b ∷ ts) w e h = type_formed k ts w.1 (type_entry b e) (record { goal = goal_kept k (instance_term (one_type b)) (instance (one_type b)) (one_keeps_plain k b w.0.1) zero [] e.goal h.goal; assumed = clauses_typed k b w.0.1 e.assumed h.assumed })

pub entries_plain : (k : ℕ) (bs : List Binding) (ts : List TypeBinding) → ArePlainBindings k bs → ArePlainTypes k ts → (Es : List (List Ty)) (es : List Entry) → ArePlainEntries k Es es → ArePlainEntries k (eigens_of (types_of ts) Es) (behind bs ts es)
entries_plain k bs ts pb pt [] [] h = transport (ArePlainEntries k []) (sym (behind_none bs ts)) tt
entries_plain k bs ts pb pt [] (e ∷ es) h = absurd h
entries_plain k bs ts pb pt (E ∷ Es) [] h = absurd h
entries_plain k bs ts pb pt (E ∷ Es) (e ∷ es) h =
    let f = type_formed k ts pt (put_one bs e) (put_formed k bs pb e (record { goal = h.0.goal; assumed = h.0.assumed })) in
    transport (ArePlainEntries k (eigens_of (types_of ts) (E ∷ Es))) (sym (behind_each bs ts e es))
    (record { eigens = list_below k (types_of ts) (types_of_below k ts pt) E h.0.eigens; goal = f.goal; assumed = f.assumed }, entries_plain k bs ts pb pt Es es h.1)

-- the branch behind
abbrev pub typing_behind : (k : ℕ) (ts : List TypeBinding) → BranchTyping → (W : List Variable) → List PairTyping → BranchTyping
typing_behind k ts y W qs = record { answer = record { variables = variables_of (χ k ts) W; pairs = qs }; eigens = eigens_of (types_of ts) y.eigens }

pub resumed_typed : (n : ℕ) (d : Declared) (q : Query) (y : BranchTyping) (b : Branch) (s : State) (W : List Variable) → (eqs : List TypePair) →
    IsBranchWith n d q eqs y b → Unifies (types_of s.types) eqs → AreMade b.next_type s.types → ArePlainBindings b.next_type s.bindings → EachOf
    (IsPlainPair b.next_type) s.delayed → AreStuck n s.delayed → IsMore (variables_of (types_of s.types) y.answer.variables) W → length W ≡ s.next →
    AreTypedBindings d W (map (instance_binding (types_of s.types)) s.bindings) → (r : HaveTypings d (variables_of (χ b.next_type s.types) W) s.delayed) → IsTypedBranch n d q (typing_behind b.next_type s.types y W r.0) (resume b s)
resumed_typed n d q y b s W eqs h u m pb pp st mo len tb r =
    let k = b.next_type in
    let ts = s.types in
    let bs = s.bindings in
    let V = y.answer.variables in
    let X = variables_of (χ k ts) W in
    let more = more_behind k ts m V W h.variables mo in
    let tx = bindings_behind k ts m d W bs pb tb in
    record {
      answer = record {
        variables = length_map (instance_variable (χ k ts)) W ∙ len;
        types = length_map (put_types ts) b.types ∙ h.answer.types;
        values = transport (AreTypedValues d X (map (put_in bs ts) b.values)) (query_types ts b.types q.vars) (values_behind d V X bs ts more tx b.values (map (instance (type_at b.types)) q.vars) h.answer.values k (terms_plain k bs ts pb m.plain b.values h.values));
        pairs = r.1;
      };
      entries = entries_behind d V X bs ts (are_shut d X (types_of ts) bs tx) more tx y.eigens b.goals (h.entries ts u);
      variables = plain_variables k ts m W;
      types = types_plain k ts m.plain b.types h.types;
      values = terms_plain k bs ts pb m.plain b.values h.values;
      pairs = pp;
      goals = entries_plain k bs ts pb m.plain y.eigens b.goals h.goals;
      written = written_behind bs ts (are_shut d X (types_of ts) bs tx) b.goals h.written;
      stuck = st;
    }
