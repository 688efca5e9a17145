-- Unification in a branch: what it leaves stands for the branch with the equations and the pairs.
use Rattle.std.proofs.Common.{◌≡◌, ℕ, zero, suc, ◌<◌, List, [], ◌∷◌, ◌++◌, map, length, ◌∙◌, refl, sym, ap, subst as transport, arith, Bool, true, false, nat_eq, nat_lt, if◌then◌else◌, Option, Some, None, inl, inr}
use Rattle.std.specs.Prelude.{slice_get, ◌&&◌, ◌≢◌}
use mathlib.Core.Path.{fun_ext}
use Rattle.lp_unify_laws.specs.TypesBelow.{IsTypeBelow, AreTypesBelow}
use Rattle.lp_calculus.specs.Types.{Ty, instance}
use Rattle.lp_calculus.specs.Term.{Term, Atom, atom, constant, integer, text, eigen, logic, param}
use Rattle.lp_calculus.specs.Convert.{Converts}
use Rattle.lp_calculus.specs.Fill.{Within, Binding, close, at_variables, one, put, put_all}
use Rattle.lp_calculus.specs.Instance.{instance_term}
use Rattle.lp_calculus.specs.Typing.{o_type}
use Rattle.lp_calculus.specs.Closed.{IsClosedType}
use Rattle.lp_calculus.proofs.Fills.{within_more}
use Rattle.lp_calculus.proofs.Steps.{converts_on, converts_is, converts_sym}
use Rattle.lp_calculus.proofs.TypeLaws.{instance-instance}
use Rattle.lp_model.specs.declared.ending.Ending.TheVariants.{NoMore, Deep}
use Rattle.lp_lemmas.specs.Each.{EachOf}
use Rattle.lp_model.specs.Types.{TypePair, TypeBinding, put_types}
use Rattle.lp_model.specs.Pair.{Pair, Closing, closed, SolvesAll}
use Rattle.lp_model.specs.Unify.{Unified, Fail, Solution, Spent, State, solve, unit_limit}
use Rattle.lp_model.specs.Proofs.{Declared, IsWitness, Leaves, ProvableBy}
use Rattle.lp_model.specs.Flat.{Clause, formula_of_goal, formula_of_clause}
use Rattle.lp_model.specs.Branch.{Entry, Branch, resume}
use Rattle.lp_model.specs.Search.{follow}
use Rattle.lp_model.specs.Answers.{Query, Instance, Variable, IsPrefix, Closes, ConvertEach, AreTypedValues}
use Rattle.lp_unify_laws.specs.TypeSolutions.{Unifies, Satisfies}
use Rattle.lp_unify_laws.specs.Solutions.{at_types, instance_pair, instance_variable, instance_binding, through_bindings, IsMore, IsTypedInput, AreTypedBindings, HaveTypings, HasSameClosings}
use Rattle.lp_unify_laws.proofs.Identities.{both_types, term_twice, map_twice}
use Rattle.lp_unify_laws.proofs.TypedInstances.{length_map, pairs_have_instances}
use Rattle.lp_unify_laws.proofs.NewInstances.{get_at}
use Rattle.lp_unify_laws.proofs.Scopes.{in_scope, variable_of, of_variable, prefix_none}
use Rattle.lp_unify_laws.proofs.TypedBindings.{HasAtomType, typed_atoms}
use Rattle.lp_unify_laws.proofs.Decomposing.{put_types_satisfied}
use Rattle.lp_unify_laws.proofs.PairLists.{put_all_instance}
use Rattle.lp_unify_laws.proofs.Laws.{comes}
use Rattle.lp_unify_laws.proofs.Trimmed.{closings_have_none, closings_are_kept}
use Rattle.lp_unify_laws.proofs.Principal.{closings_are_the_same}
use Rattle.lp_unify_laws.proofs.Stuck.{solve_stuck}
use Rattle.lp_search_laws.specs.Holds.{IsTyped}
use Rattle.lp_search_laws.proofs.Kept.{IsVariableOf}
use Rattle.lp_search_laws.specs.Clauses.{assumed_at, sentence_of, clauses_at}
use Rattle.lp_search_laws.specs.Branches.{IsPlainTerm, IsAssumable, AreProved, ArePlainEntries, IsPlainVariable, IsPlainPair, BranchTyping, IsTypedBranch, SolvesBranch, TypedTask, going, Sol}
use Rattle.lp_search_laws.specs.Given.{IsLeftBehind, IsTypedFrom}
use Rattle.lp_search_laws.specs.Views.{StandFor}
use Rattle.lp_proof_laws.proofs.Uniform.Settings.{IsSetting}
use Rattle.lp_search_laws.specs.Behind.{LeadsThrough, behind, types_of, variables_of, eigens_of, IsBranchWith, SolvesWith}
use Rattle.lp_search_laws.proofs.TypesPut.{put_types_is, put_types_in_is, satisfied_types, satisfied_instance, satisfied_term, satisfied_all}
use Rattle.lp_search_laws.proofs.ClosedTerms.{closed_type, closed_witness}
use Rattle.lp_search_laws.proofs.Matching.{get_mapped}
use Rattle.lp_search_laws.proofs.Entries.{put_in, formulas, behind_none, behind_each, goal_behind, assumed_behind, are_shut, within_leads, closes_at, entries_lead, entries_at, AreShut}
use Rattle.lp_search_laws.proofs.PlainTypes.{agree_type, agree_list, agree_term, IsBelowAtom, IsBelow, plain_below, plain_positive, goal_below, clause_below, fill_plain, ArePlainBindings, ArePlainTypes, cut_off, cut_agrees}
use Rattle.lp_search_laws.proofs.ResumedTypes.{AreMade, χ, χ_is, χ_term, χ_twice, χ_satisfies, map_list, more_behind, bindings_behind, pairs_behind, term_behind, term_plain, typing_behind, resumed_typed}
use Rattle.lp_search_laws.proofs.RunsKeep.{solve_keeps_plain, types_satisfy_themselves}
use Rattle.lp_search_laws.proofs.Standing.{stopped, lacked}

-- entries that two closings make the same
abbrev pub IsSame : Closing → Closing → Term → Type 0
IsSame c z t = closed c t ≡ closed z t

abbrev pub AreSame : Closing → Closing → List (List Ty) → List Entry → Type 0
AreSame c z [] [] = Unit {0}
AreSame c z (E ∷ Es) (e ∷ es) = ((map (instance c.types) E ≡ map (instance z.types) E) × IsSame c z (formula_of_goal e.goal) × EachOf (IsSame c z) (formulas e.assumed)) × AreSame c z Es es
AreSame c z [] (e ∷ es) = Unit {0}
AreSame c z (E ∷ Es) [] = Unit {0}

pub same_assumed : (c z : Closing) (A : List Clause) → EachOf (IsSame c z) (formulas A) → assumed_at c A ≡ assumed_at z A
same_assumed c z [] w = refl
same_assumed c z (k ∷ A) w = let r = same_assumed c z A w.1 in λ i. r i ++ record { type_vars = 0; formula = w.0 i } ∷ []

pub same_proved : (L : Leaves) (d : Declared) (P : List Clause) (c z : Closing) (Es : List (List Ty)) (es : List Entry) → AreSame c z Es es → AreProved L d P c Es es → AreProved L d P z Es es
same_proved L d P c z [] [] w p = tt
same_proved L d P c z [] (e ∷ es) w p = p
same_proved L d P c z (E ∷ Es) [] w p = p
same_proved L d P c z (E ∷ Es) (e ∷ es) w p = (
  transport (λ X. ProvableBy L d X (clauses_at P e.assumed z) (closed z (formula_of_goal e.goal))) w.0.0
      (transport (λ X. ProvableBy L d (map (instance c.types) E) (map sentence_of P ++ X) (closed z (formula_of_goal e.goal))) (same_assumed c z e.assumed w.0.2)
      (transport (λ X. ProvableBy L d (map (instance c.types) E) (clauses_at P e.assumed c) X) w.0.1 p.0)),
  same_proved _ d P c z Es es w.1 p.1,
)

-- closings with the same terms whose types agree below k
pub assumed_agree : (k : ℕ) (c z : Closing) → ((t : Term) → IsBelow k t → IsSame c z t) → (A : List Clause) → EachOf (IsAssumable k) A → EachOf (IsSame c z) (formulas A)
assumed_agree k c z f [] w = tt
assumed_agree k c z f (x ∷ A) w = (f (formula_of_clause x) (clause_below k [] x w.0.1), assumed_agree k c z f A w.1)

pub entries_agree : (k : ℕ) (c z : Closing) → ((i : ℕ) → i < k → c.types i ≡ z.types i) → ((t : Term) → IsBelow k t → IsSame c z t) → (Es : List (List Ty)) (es : List Entry) → ArePlainEntries k Es es → AreSame c z Es es
entries_agree k c z a f [] [] w = tt
entries_agree k c z a f [] (e ∷ es) w = tt
entries_agree k c z a f (E ∷ Es) [] w = tt
entries_agree k c z a f (E ∷ Es) (e ∷ es) w = ((agree_list k c.types z.types a E w.0.eigens, f (formula_of_goal e.goal) (goal_below k [] e.goal w.0.goal), assumed_agree k c z f e.assumed w.0.assumed), entries_agree k c z a f Es es w.1)

-- entries behind
assumed_put : (k : ℕ) (c z : Closing) (bs : List Binding) (ts : List TypeBinding) → ((t : Term) → IsBelow k t → IsSame c z (put_in bs ts t)) → (A : List Clause) → EachOf (IsAssumable k) A → EachOf (IsSame c z) (map (put_in bs ts) (formulas A))
assumed_put k c z bs ts f [] w = tt
assumed_put k c z bs ts f (x ∷ A) w = (f (formula_of_clause x) (clause_below k [] x w.0.1), assumed_put k c z bs ts f A w.1)

behind_agree : (k : ℕ) (c z : Closing) (bs : List Binding) (ts : List TypeBinding) → AreShut bs →
    ((E : List Ty) → AreTypesBelow k E → map (instance c.types) (map (instance (types_of ts)) E) ≡ map (instance z.types)
    (map (instance (types_of ts)) E)) → ((t : Term) → IsBelow k t → IsSame c z (put_in bs ts t)) → (Es : List (List Ty)) (es : List Entry) →
    ArePlainEntries k Es es → AreSame c z (eigens_of (types_of ts) Es) (behind bs ts es)
behind_agree k c z bs ts s a f [] [] w = transport (AreSame c z []) (sym (behind_none bs ts)) tt
behind_agree k c z bs ts s a f [] (e ∷ es) w = absurd w
behind_agree k c z bs ts s a f (E ∷ Es) [] w = absurd w
behind_agree k c z bs ts s a f (E ∷ Es) (e ∷ es) w = transport (AreSame c z (eigens_of (types_of ts) (E ∷ Es))) (sym (behind_each bs ts e es)) (
  (
    a E w.0.eigens,
    transport (IsSame c z) (sym (goal_behind bs ts s e)) (f (formula_of_goal e.goal) (goal_below k [] e.goal w.0.goal)),
    transport (EachOf (IsSame c z)) (sym (assumed_behind bs ts s e)) (assumed_put k c z bs ts f e.assumed w.0.assumed),
  ),
  behind_agree k c z bs ts s a f Es es w.1,
)

-- bindings put in keep the types below k
plain_below_atoms : (k : ℕ) (b : Binding) → IsPlainTerm k b.value → (a : Atom) → IsBelowAtom k a → IsBelow k (at_variables (one b) a)
plain_below_atoms k b w (logic x l) q = go (nat_eq x b.id && nat_eq l b.level)
  where
    go : (c : Bool) → IsBelow k (if c then b.value else atom (logic x l))
    go true = plain_below k b.value w
    go false = tt
plain_below_atoms k b w (constant c ts) q = q
plain_below_atoms k b w (integer z) q = tt
plain_below_atoms k b w (text s) q = tt
plain_below_atoms k b w (eigen n) q = tt
plain_below_atoms k b w (param n T) q = q

put_all_below : (k : ℕ) (bs : List Binding) → ArePlainBindings k bs → (t : Term) → IsBelow k t → IsBelow k (put_all bs t)
put_all_below k [] w t h = h
put_all_below k (b ∷ bs) w t h = put_all_below k bs w.1 (put b t) (fill_plain (IsBelowAtom k) (IsBelowAtom k) (at_variables (one b)) (plain_below_atoms k b w.0) t h)

-- closings
closes_map : (d : Declared) (W : List Variable) (χ' : ℕ → Ty) (z : Closing) → ((T : Ty) → instance z.types (instance χ' T) ≡ instance z.types T) → Closes d W z → Closes d (variables_of χ' W) z
closes_map d W χ' z e h = record {
  types = h.types;
  terms = λ x v i.
      let g = get_mapped (instance_variable χ') W x v i in
      transport (λ (u : Variable). IsWitness d (map (instance z.types) u.scope) (z.terms x (length u.scope)) (instance z.types u.type)) (sym g.2)
      (transport (λ n. IsWitness d (map (instance z.types) (map (instance χ') g.0.scope)) (z.terms x n) (instance z.types (instance χ' g.0.type))) (sym (length_map (instance χ') g.0.scope))
      (transport (λ X. IsWitness d X (z.terms x (length g.0.scope)) (instance z.types (instance χ' g.0.type))) (sym (map_twice (instance χ') (instance z.types) (instance z.types) e g.0.scope))
      (transport (λ T. IsWitness d (map (instance z.types) g.0.scope) (z.terms x (length g.0.scope)) T) (sym (e g.0.type)) (h.terms x g.0 g.1))));
}

satisfies_both : (κ θ : ℕ → Ty) (bs : List TypeBinding) → Satisfies θ bs → Satisfies (both_types κ θ) bs
satisfies_both κ θ [] h = tt
satisfies_both κ θ (b ∷ bs) h = (ap (instance κ) h.0 ∙ instance-instance θ κ b.value, satisfies_both κ θ bs h.1)

satisfies_agree : (k : ℕ) (κ μ : ℕ → Ty) → ((i : ℕ) → i < k → κ i ≡ μ i) → (ts : List TypeBinding) → ArePlainTypes k ts → Satisfies κ ts → Satisfies μ ts
satisfies_agree k κ μ a [] p h = tt
satisfies_agree k κ μ a (b ∷ ts) p h = (sym (a b.id p.0.0) ∙ h.0 ∙ agree_type k κ μ a b.value p.0.1, satisfies_agree k κ μ a ts p.1 h.1)

cut_type : (k : ℕ) (κ : ℕ → Ty) → ((i : ℕ) → IsClosedType (κ i)) → (i : ℕ) → IsClosedType (cut_off k κ i)
cut_type k κ h i = go (nat_lt i k)
  where
    go : (b : Bool) → IsClosedType (if b then κ i else o_type)
    go true = h i
    go false = tt

cut_χ : (k : ℕ) (κ : ℕ → Ty) (ts : List TypeBinding) → Satisfies (cut_off k κ) ts → (i : ℕ) → instance (cut_off k κ) (χ k ts i) ≡ cut_off k κ i
cut_χ k κ ts s i = go (nat_lt i k) refl
  where
    go : (b : Bool) → nat_lt i k ≡ b → instance (cut_off k κ) (if b then types_of ts i else o_type) ≡ (if b then κ i else o_type)
    go true e = satisfied_types (cut_off k κ) ts s i ∙ ap (λ b. if b then κ i else o_type) e
    go false e = refl

pub plain_closes : (d : Declared) (k : ℕ) (V : List Variable) → EachOf (IsPlainVariable k) V → (x : ℕ) (v : Variable) → slice_get V x ≡ Some v → IsPlainVariable k v
plain_closes d k [] w x v e = absurd (cc)
plain_closes d k (u ∷ V) w zero v e = let q : u ≡ v = cc in transport (IsPlainVariable k) q w.0
plain_closes d k (u ∷ V) w (suc x) v e = plain_closes d k V w.1 x v e

cut_closes : (d : Declared) (k : ℕ) (V : List Variable) (c : Closing) → EachOf (IsPlainVariable k) V → Closes d V c → Closes d V (record { types = cut_off k c.types; terms = c.terms })
cut_closes d k V c p h = record {
  types = cut_type k c.types h.types;
  terms = λ x v e.
      let w = plain_closes d k V p x v e in
      transport (λ X. IsWitness d X (c.terms x (length v.scope)) (instance (cut_off k c.types) v.type)) (sym (agree_list k (cut_off k c.types) c.types (cut_agrees k c.types) v.scope w.scope))
      (transport (λ T. IsWitness d (map (instance c.types) v.scope) (c.terms x (length v.scope)) T) (sym (agree_type k (cut_off k c.types) c.types (cut_agrees k c.types) v.type w.type)) (h.terms x v e));
}

-- solved pairs
solves_same : (c z : Closing) (f : Pair → Pair) (ps : List Pair) → EachOf (λ p. (closed c p.left ≡ closed z (f p).left) × (closed c p.right ≡ closed z (f p).right)) ps → SolvesAll c ps → SolvesAll z (map f ps)
solves_same c z f [] w h = tt
solves_same c z f (p ∷ ps) w h = (converts_on (converts_is (sym w.0.0)) (converts_on h.0 (converts_is w.0.1)), solves_same c z f ps w.1 h.1)

solves_back : (c z : Closing) (f : Pair → Pair) (ps : List Pair) → EachOf (λ p. (closed c p.left ≡ closed z (f p).left) × (closed c p.right ≡ closed z (f p).right)) ps → SolvesAll z (map f ps) → SolvesAll c ps
solves_back c z f [] w h = tt
solves_back c z f (p ∷ ps) w h = (converts_on (converts_is w.0.0) (converts_on h.0 (converts_is (sym w.0.1))), solves_back c z f ps w.1 h.1)

each_pair_same : (k : ℕ) (c z : Closing) (θ : ℕ → Ty) → ((t : Term) → IsBelow k t → closed c t ≡ closed z (instance_term θ t)) → (ps : List Pair) →
    EachOf (IsPlainPair k) ps → EachOf (λ p. (closed c p.left ≡ closed z (instance_pair θ p).left) ×
    (closed c p.right ≡ closed z (instance_pair θ p).right)) ps
each_pair_same k c z θ f [] w = tt
each_pair_same k c z θ f (p ∷ ps) w = ((f p.left (plain_below k p.left w.0.left), f p.right (plain_below k p.right w.0.right)), each_pair_same k c z θ f ps w.1)

-- values
pub convert_first : (f g : Term → Term) (us : List Term) (is : List Term) → EachOf (λ u. Converts (g u) (f u)) us → ConvertEach (map f us) is → ConvertEach (map g us) is
convert_first f g [] [] w h = tt
convert_first f g [] (i ∷ is) w h = h
convert_first f g (u ∷ us) [] w h = h
convert_first f g (u ∷ us) (i ∷ is) w h = (converts_on w.0 h.0, convert_first f g us is w.1 h.1)

map_map_terms : (f g : Term → Term) (us : List Term) → map f (map g us) ≡ map (λ u. f (g u)) us
map_map_terms f g [] = refl
map_map_terms f g (u ∷ us) = ap (λ z. f (g u) ∷ z) (map_map_terms f g us)

has_variable : (d : Declared) (V : List Variable) (a : Atom) → HasAtomType (in_scope d [] V) a → IsVariableOf V a
has_variable d V (logic x l) h = let v = variable_of V x l h.0 h.1 in (v.variable, v.is, v.level)
has_variable d V (constant c ts) h = tt
has_variable d V (integer z) h = tt
has_variable d V (text s) h = tt
has_variable d V (eigen k) h = tt
has_variable d V (param k T) h = tt

values_variables : (d : Declared) (V : List Variable) (us : List Term) (Ts : List Ty) → AreTypedValues d V us Ts → EachOf (Within (IsVariableOf V) 0) us
values_variables d V [] [] h = tt
values_variables d V [] (T ∷ Ts) h = tt
values_variables d V (u ∷ us) [] h = absurd h
values_variables d V (u ∷ us) (T ∷ Ts) h = (within_more (HasAtomType (in_scope d [] V)) (IsVariableOf V) 0 0 (has_variable d V) (omega arith) u (typed_atoms (in_scope d [] V) [] u T h.0.typed), values_variables d V us Ts h.1)

pub each_two : (P Q R : Term → Type 0) → ((u : Term) → P u → Q u → R u) → (us : List Term) → EachOf P us → EachOf Q us → EachOf R us
each_two P Q R f [] p q = tt
each_two P Q R f (u ∷ us) p q = (f u p.0 q.0, each_two P Q R f us p.1 q.1)

pub types_same : (k : ℕ) (κ μ : ℕ → Ty) (f : Ty → Ty) → ((T : Ty) → IsTypeBelow k T → instance κ (f T) ≡ instance μ T) → (Ts : List Ty) → AreTypesBelow k Ts → map (instance κ) (map f Ts) ≡ map (instance μ) Ts
types_same k κ μ f h [] w = refl
types_same k κ μ f h (T ∷ Ts) w = λ i. h T w.0 i ∷ types_same k κ μ f h Ts w.1 i

-- a closing through bindings, with types put in them or not
through_same : (z : Closing) (bs : List Binding) (ts : List TypeBinding) → Satisfies z.types ts → through_bindings (map (instance_binding (types_of ts)) bs) z ≡ through_bindings bs z
through_same z bs ts s = λ i. record {
  types = z.types;
  terms = fun_ext (λ x. fun_ext (λ l.
      ap (closed z) (put_all_instance (types_of ts) bs (atom (logic x l))) ∙ ap (close z.terms) (satisfied_term z.types ts s (put_all bs (atom (logic x l)))))) i;
}

-- what is known of a unification that left a state
record Left (n : ℕ) (d : Declared) (q : Query) (y : BranchTyping) (b : Branch) (eqs : List TypePair) (ps : List Pair) (s : State) : Type 0 where
  branch : IsBranchWith n d q eqs y b
  input : (θ : ℕ → Ty) → Unifies θ eqs → HaveTypings d (variables_of θ y.answer.variables) (at_types θ ps)
  plain : EachOf (IsPlainPair b.next_type) ps
  solved : solve n unit_limit eqs ps b.pairs b.next ≡ Some (Solution s)
  made : AreMade b.next_type s.types
  settled : at_types (types_of s.types) s.delayed ≡ s.delayed
  bindings : ArePlainBindings b.next_type s.bindings
  delayed : EachOf (IsPlainPair b.next_type) s.delayed
  unified : Unifies (types_of s.types) eqs

input_at : (n : ℕ) (d : Declared) (q : Query) (y : BranchTyping) (b : Branch) (eqs : List TypePair) (ps : List Pair) → IsBranchWith n d q eqs y b →
    ((θ : ℕ → Ty) → Unifies θ eqs → HaveTypings d (variables_of θ y.answer.variables) (at_types θ ps)) → (θ : ℕ → Ty) → IsTypedInput θ d
    (variables_of θ y.answer.variables) eqs ps b.pairs
input_at n d q y b eqs ps h f θ u = (f θ u, (map _ y.answer.pairs, pairs_have_instances θ d y.answer.variables y.answer.pairs b.pairs h.answer.pairs))

solve_at : (n : ℕ) (d : Declared) (q : Query) (y : BranchTyping) (b : Branch) (eqs : List TypePair) (ps : List Pair) (o : Option Unified) →
    IsBranchWith n d q eqs y b → (θ : ℕ → Ty) → solve n unit_limit eqs ps b.pairs b.next ≡ o → solve n unit_limit eqs ps b.pairs
    (length (variables_of θ y.answer.variables)) ≡ o
solve_at n d q y b eqs ps o h θ e = transport (λ m. solve n unit_limit eqs ps b.pairs m ≡ o) (sym (length_map (instance_variable θ) y.answer.variables ∙ h.answer.variables)) e

same_through : (n : ℕ) (d : Declared) (q : Query) (y : BranchTyping) (b : Branch) (eqs : List TypePair) (ps : List Pair) (s : State) → Left n d q y b eqs ps s → HasSameClosings (types_of s.types) d (variables_of (types_of s.types) y.answer.variables) ps b.pairs s
same_through n d q y b eqs ps s l =
    let θ = types_of s.types in
    closings_are_the_same d (variables_of θ y.answer.variables) n unit_limit eqs ps b.pairs s θ (input_at n d q y b eqs ps l.branch l.input θ) (solve_at n d q y b eqs ps (Some (Solution s)) l.branch θ l.solved) l.branch.stuck l.made.satisfied

unifies_where : (n : ℕ) (d : Declared) (q : Query) (y : BranchTyping) (b : Branch) (eqs : List TypePair) (ps : List Pair) (s : State) → IsBranchWith n
    d q eqs y b → ((θ : ℕ → Ty) → Unifies θ eqs → HaveTypings d (variables_of θ y.answer.variables) (at_types θ ps)) → solve n unit_limit eqs ps
    b.pairs b.next ≡ Some (Solution s) → (θ : ℕ → Ty) → Satisfies θ s.types → Unifies θ eqs
unifies_where n d q y b eqs ps s h f e θ m = (comes θ d (variables_of θ y.answer.variables) n unit_limit eqs ps b.pairs s (input_at n d q y b eqs ps h f θ) (solve_at n d q y b eqs ps (Some (Solution s)) h θ e)).unified m

-- all that the two directions need of the variables that are left
abbrev W_of : (n : ℕ) (d : Declared) (q : Query) (y : BranchTyping) (b : Branch) (eqs : List TypePair) (ps : List Pair) (s : State) → Left n d q y b eqs ps s → List Variable
W_of n d q y b eqs ps s l = (same_through n d q y b eqs ps s l).typings.after

lead_of : (d : Declared) (V : List Variable) (c z : Closing) (bs : List Binding) (ts : List TypeBinding) → z.types ≡ c.types → Satisfies z.types ts →
    ((x : ℕ) (v : Variable) → slice_get (variables_of (types_of ts) V) x ≡ Some v → Converts (c.terms x (length v.scope))
    ((through_bindings (map (instance_binding (types_of ts)) bs) z).terms x (length v.scope))) → LeadsThrough V c z bs ts
lead_of d V c z bs ts e s g = record {
  types = e;
  satisfied = s;
  gives = λ x v i. transport (λ n. Converts (c.terms x n) ((through_bindings bs z).terms x n)) (length_map (instance (types_of ts)) v.scope)
      (transport (λ (w : Closing). Converts (c.terms x (length (map (instance (types_of ts)) v.scope))) (w.terms x (length (map (instance (types_of ts)) v.scope)))) (through_same z bs ts s) (g x (instance_variable (types_of ts) v) (get_at (types_of ts) V x v i)));
}

keeps : {L : Leaves} (n : ℕ) (d : Declared) → IsSetting L d → (P : List Clause) (q : Query) (i : Instance) (y : BranchTyping) (b : Branch)
    (eqs : List TypePair) (ps : List Pair) (s : State) → (l : Left n d q y b eqs ps s) →
    (r : HaveTypings d (variables_of (χ b.next_type s.types) (W_of n d q y b eqs ps s l)) s.delayed) → SolvesWith L d P q i y b eqs ps →
    SolvesBranch L d P q i (typing_behind b.next_type s.types y (W_of n d q y b eqs ps s l) r.0) (resume b s)
keeps {L} n d std P q i y b eqs ps s l r w =
    let k = b.next_type in
    let ts = s.types in
    let bs = s.bindings in
    let θ = types_of ts in
    let V = y.answer.variables in
    let h = same_through n d q y b eqs ps s l in
    let W = h.typings.after in
    let X = variables_of (χ k ts) W in
    let c = w.branch.answer.closing in
    let cl = w.branch.answer.closes in
    let c' : Closing = record { types = cut_off k c.types; terms = c.terms } in
    let cl' = cut_closes d k V c l.branch.variables cl in
    let ks = closings_are_kept d V n unit_limit eqs ps b.pairs s c (input_at n d q y b eqs ps l.branch l.input c.types)
    (transport (λ m. solve n unit_limit eqs ps b.pairs m ≡ Some (Solution s)) (sym l.branch.answer.variables) l.solved)
    (record { closes = cl; types = w.types; pairs = w.pairs; delayed = w.branch.answer.solves }) in
    let sat : Satisfies c.types ts = transport (λ x. Satisfies x ts) ks.types ks.solves.types in
    let agrees = λ (j : ℕ) (g : j < k). sym (cut_agrees k c.types j g) in
    let sat' : Satisfies c'.types ts = satisfies_agree k c.types c'.types agrees ts l.made.plain sat in
    let same = λ (t : Term) (g : IsBelow k t). ap (close c.terms) (agree_term k c.types c'.types agrees t g) in
    let same_at = λ (t : Term) (g : IsBelow k t). same t g ∙ ap (close c.terms) (sym (satisfied_term c'.types ts sat' t)) in
    let kc = h.keeps c' (closes_at d V c' ts sat' cl') (solves_same c c' (instance_pair θ) ps (each_pair_same k c c' θ same_at ps l.plain) w.pairs) (solves_same c c' (instance_pair θ) b.pairs (each_pair_same k c c' θ same_at b.pairs l.branch.pairs) w.branch.answer.solves) in
    let z = kc.closing in
    let satz : Satisfies z.types ts = transport (λ x. Satisfies x ts) (sym kc.types) sat' in
    let lead = lead_of d V c' z bs ts kc.types satz kc.gives in
    let fixes : (T : Ty) → instance z.types (instance (χ k ts) T) ≡ instance z.types T = λ T. transport (λ μ. instance μ (instance (χ k ts) T) ≡ instance μ T) (sym kc.types) (instance-instance (χ k ts) c'.types T ∙ ap (λ f. instance f T) (fun_ext (cut_χ k c.types ts sat'))) in
    let zx = closes_map d W (χ k ts) z fixes kc.closes in
    let more = more_behind k ts l.made V W l.branch.variables h.typings.more in
    let tx = bindings_behind k ts l.made d W bs l.bindings h.typings.bindings in
    let proved = (entries_lead d std.converting V X P c' z bs ts lead (are_shut d X θ bs tx) more tx cl' zx y.eigens b.goals (l.branch.entries ts l.unified)).0 (same_proved _ d P c c' y.eigens b.goals (entries_agree k c c' agrees same y.eigens b.goals l.branch.goals) w.branch.proved) in
    record {
      query = w.branch.query;
      answer = record {
        closing = z;
        closes = zx;
        solves = transport (SolvesAll z) l.settled kc.solves;
        types = types_same k z.types c.types (put_types ts) (λ T g. ap (instance z.types) (put_types_is ts T) ∙ satisfied_instance z.types ts satz T ∙ ap (λ f. instance f T) kc.types ∙ agree_type k c'.types c.types (cut_agrees k c.types) T g) b.types l.branch.types ∙ w.branch.answer.types;
        values = transport (λ us. ConvertEach us i.values) (sym (map_map_terms (closed z) (put_in bs ts) b.values))
            (convert_first (closed c) (λ u. closed z (put_in bs ts u)) b.values i.values
            (each_two (Within (IsVariableOf V) 0) (IsPlainTerm k) (λ u. Converts (closed z (put_in bs ts u)) (closed c u))
            (λ u a p. converts_on (converts_sym (within_leads V c' z bs ts lead u a)) (converts_is (sym (same u (plain_below k u p))))) b.values
            (values_variables d V b.values _ l.branch.answer.values) l.branch.values)
            w.branch.answer.values);
      };
      proved = proved;
    }

through_closes : (d : Declared) (k : ℕ) (V W : List Variable) (z : Closing) (bs : List Binding) (ts : List TypeBinding) → Satisfies z.types ts →
    ArePlainBindings k bs → ArePlainTypes k ts → IsMore (variables_of (types_of ts) V) W → AreTypedBindings d W
    (map (instance_binding (types_of ts)) bs) → Closes d W z → Closes d V (through_bindings bs z)
through_closes d k V W z bs ts s pb pt mo tb h = record {
  types = h.types;
  terms = λ x v e.
      let u = atom (logic x (length v.scope)) in
      let t : IsTyped d v.scope V u v.type = record { typed = of_variable V x v e; scoped = λ v' e'. let q : Some v ≡ Some v' = sym e ∙ e' in let g : v ≡ v' = cc in transport (λ (y : Variable). IsPrefix y.scope v.scope) g (prefix_none v.scope) } in
      let w = closed_witness d (map (instance (types_of ts)) v.scope) W z h (put_in bs ts u) (instance (types_of ts) v.type) (term_behind d V W v.scope bs ts mo tb u v.type t) (plain_positive k (put_in bs ts u) (term_plain k bs ts pb pt u tt)) in
      transport (λ Y. IsWitness d Y (closed z (put_all bs u)) (instance z.types v.type)) (satisfied_all z.types ts s v.scope)
      (transport (λ T. IsWitness d (map (instance z.types) (map (instance (types_of ts)) v.scope)) (closed z (put_all bs u)) T) (satisfied_instance z.types ts s v.type)
      (transport (λ y. IsWitness d (map (instance z.types) (map (instance (types_of ts)) v.scope)) y (instance z.types (instance (types_of ts) v.type))) (ap (close z.terms) (put_types_satisfied z.types ts s (put_all bs u))) w));
}

gives : {L : Leaves} (n : ℕ) (d : Declared) → IsSetting L d → (P : List Clause) (q : Query) (i : Instance) (y : BranchTyping) (b : Branch)
    (eqs : List TypePair) (ps : List Pair) (s : State) → (l : Left n d q y b eqs ps s) →
    (r : HaveTypings d (variables_of (χ b.next_type s.types) (W_of n d q y b eqs ps s l)) s.delayed) →
    SolvesBranch L d P q i (typing_behind b.next_type s.types y (W_of n d q y b eqs ps s l) r.0) (resume b s) → SolvesWith L d P q i y b eqs ps
gives {L} n d std P q i y b eqs ps s l r w =
    let k = b.next_type in
    let ts = s.types in
    let bs = s.bindings in
    let θ = types_of ts in
    let V = y.answer.variables in
    let h = same_through n d q y b eqs ps s l in
    let W = h.typings.after in
    let X = variables_of (χ k ts) W in
    let z = w.answer.closing in
    let z' : Closing = record { types = both_types z.types (χ k ts); terms = z.terms } in
    let at = λ (T : Ty). sym (instance-instance (χ k ts) z.types T) in
    let satz : Satisfies z'.types ts = satisfies_both z.types (χ k ts) ts (χ_satisfies k ts l.made) in
    let zw : Closes d W z' = record {
      types = λ j. closed_type z.types w.answer.closes.types (χ k ts j);
      terms = λ x v e.
          let u = w.answer.closes.terms x (instance_variable (χ k ts) v) (get_at (χ k ts) W x v e) in
          transport (λ T. IsWitness d (map (instance z'.types) v.scope) (z.terms x (length v.scope)) T) (sym (at v.type))
          (transport (λ Y. IsWitness d Y (z.terms x (length v.scope)) (instance z.types (instance (χ k ts) v.type))) (map_twice (instance (χ k ts)) (instance z.types) (instance z'.types) (λ T. sym (at T)) v.scope)
          (transport (λ m. IsWitness d (map (instance z.types) (map (instance (χ k ts)) v.scope)) (z.terms x m) (instance z.types (instance (χ k ts) v.type))) (length_map (instance (χ k ts)) v.scope) u));
    } in
    let fixes : (T : Ty) → instance z'.types (instance (χ k ts) T) ≡ instance z'.types T = λ T. at (instance (χ k ts) T) ∙ ap (instance z.types) (χ_twice k ts l.made T) ∙ sym (at T) in
    let zx = closes_map d W (χ k ts) z' fixes zw in
    let typed_same = λ (t : Term) (g : IsBelow k t). ap (close z.terms) (sym (term_twice z.types (χ k ts) (instance_term θ t)) ∙ ap (instance_term z.types) (χ_term k ts l.made t g)) in
    let put_same = λ (t : Term) (g : IsBelow k t). ap (closed z) (put_types_in_is ts (put_all bs t)) ∙ sym (typed_same (put_all bs t) (put_all_below k bs l.bindings t g)) ∙ ap (closed z') (sym (put_types_in_is ts (put_all bs t))) in
    let ds : SolvesAll z' (at_types θ s.delayed) = solves_same (record { types = both_types z.types θ; terms = z.terms }) z' (instance_pair θ) s.delayed
    (each_pair_same k (record { types = both_types z.types θ; terms = z.terms }) z' θ (λ t g. ap (close z.terms) (sym (term_twice z.types θ t)) ∙ sym (typed_same t g)) s.delayed l.delayed)
    (solves_back (record { types = both_types z.types θ; terms = z.terms }) z (instance_pair θ) s.delayed
    (each_pair_same k (record { types = both_types z.types θ; terms = z.terms }) z θ (λ t g. ap (close z.terms) (sym (term_twice z.types θ t)))
    s.delayed l.delayed) (transport (SolvesAll z) (sym l.settled) w.answer.solves)) in
    let added = h.adds_none z' zw ds in
    let c = through_bindings bs z' in
    let t = through_same z' bs ts satz in
    let cl = through_closes d k V W z' bs ts satz l.bindings l.made.plain h.typings.more h.typings.bindings zw in
    let same_at = λ (u : Term) (g : IsBelow k u). ap (close c.terms) (sym (satisfied_term z'.types ts satz u)) in
    let lead : LeadsThrough V c z' bs ts = record { types = refl; satisfied = satz; gives = λ x v e. converts_is refl } in
    let more = more_behind k ts l.made V W l.branch.variables h.typings.more in
    let tx = bindings_behind k ts l.made d W bs l.bindings h.typings.bindings in
    let shut = are_shut d X θ bs tx in
    let eigens = λ (E : List Ty) (g : AreTypesBelow k E). ap (map (instance z.types)) (sym (map_list k ts l.made E g)) ∙ map_twice (instance (χ k ts)) (instance z.types) (instance z'.types) (λ T. sym (at T)) (map (instance θ) E) in
    let proved = (entries_lead d std.converting V X P c z' bs ts lead shut more tx cl zx y.eigens b.goals (l.branch.entries ts l.unified)).1
    (same_proved _ d P z z' (eigens_of θ y.eigens) (behind bs ts b.goals) (behind_agree k z z' bs ts shut eigens put_same y.eigens b.goals
    l.branch.goals) w.proved) in
    record {
      branch = record {
        query = w.query;
        answer = record {
          closing = c;
          closes = cl;
          solves = solves_back c c (instance_pair θ) b.pairs (each_pair_same k c c θ same_at b.pairs l.branch.pairs) (transport (λ x. SolvesAll x (at_types θ b.pairs)) t added.1);
          types = sym (types_same k z.types z'.types (put_types ts) (λ T g. ap (instance z.types) (put_types_is ts T ∙ sym (χ_is k ts T g)) ∙ sym (at T)) b.types l.branch.types) ∙ w.answer.types;
          values = convert_first (λ u. closed z (put_in bs ts u)) (closed c) b.values i.values
              (each_two (Within (IsVariableOf V) 0) (IsPlainTerm k) (λ u. Converts (closed c u) (closed z (put_in bs ts u)))
              (λ u a p. converts_on (within_leads V c z' bs ts lead u a) (converts_is (sym (put_same u (plain_below k u p))))) b.values
              (values_variables d V b.values _ l.branch.answer.values) l.branch.values)
              (transport (λ us. ConvertEach us i.values) (map_map_terms (closed z) (put_in bs ts) b.values) w.answer.values);
        };
        proved = proved;
      };
      types = unifies_where n d q y b eqs ps s l.branch l.input l.solved z'.types satz;
      pairs = solves_back c c (instance_pair θ) ps (each_pair_same k c c θ same_at ps l.plain) (transport (λ x. SolvesAll x (at_types θ ps)) t added.0);
    }

-- a typed branch, whatever the equations
pub with_typed : (n : ℕ) (d : Declared) (q : Query) (y : BranchTyping) (b : Branch) (eqs : List TypePair) → IsTypedBranch n d q y b → IsBranchWith n d q eqs y b
with_typed n d q y b eqs h = record {
  answer = h.answer;
  entries = λ ts u. entries_at d y.answer.variables ts y.eigens b.goals h.entries;
  variables = h.variables;
  types = h.types;
  values = h.values;
  pairs = h.pairs;
  goals = h.goals;
  written = h.written;
  stuck = h.stuck;
}

not_done : Deep ≢ NoMore
not_done e = absurd (cc)

pub follows : {L : Leaves} (n : ℕ) (d : Declared) → IsSetting L d → (P : List Clause) (q : Query) (y : BranchTyping) (b : Branch)
    (eqs : List TypePair) (ps : List Pair) → IsBranchWith n d q eqs y b → ((θ : ℕ → Ty) → Unifies θ eqs → HaveTypings d
    (variables_of θ y.answer.variables) (at_types θ ps)) → EachOf (λ x. IsTypeBelow b.next_type x.left × IsTypeBelow b.next_type x.right) eqs → EachOf
    (IsPlainPair b.next_type) ps →
    (T : TypedTask) → ((i : Instance) → Sol L d P q i T → SolvesWith L d P q i y b eqs ps) →
    ((i : Instance) → SolvesWith L d P q i y b eqs ps → Sol L d P q i T) → ((y' : BranchTyping) (b' : Branch) → IsLeftBehind n d y b y' b' →
    IsTypedFrom n d T (going y' b')) → StandFor L n d P q T (follow b (solve n unit_limit eqs ps b.pairs b.next))
follows {L} n d std P q y b eqs ps h input pe pp T on back tell = go (solve n unit_limit eqs ps b.pairs b.next) refl
  where
    solution : (s : State) → solve n unit_limit eqs ps b.pairs b.next ≡ Some (Solution s) → StandFor L n d P q T (follow b (Some (Solution s)))
    solution s e =
        let k = b.next_type in
        let kp = solve_keeps_plain k n unit_limit eqs ps b.pairs b.next s pe pp h.pairs e in
        let ty = types_satisfy_themselves n unit_limit eqs ps b.pairs b.next s e in
        let l : Left n d q y b eqs ps s = record {
          branch = h;
          input = input;
          plain = pp;
          solved = e;
          made = record { satisfied = ty.0; plain = kp.2 };
          settled = ty.1;
          bindings = kp.1;
          delayed = kp.0;
          unified = unifies_where n d q y b eqs ps s h input e (types_of s.types) ty.0;
        } in
        let c = same_through n d q y b eqs ps s l in
        let r = pairs_behind k s.types d c.typings.after s.delayed l.delayed l.settled c.typings.residual in
        let t = going (typing_behind k s.types y c.typings.after r.0) (resume b s) in
        record {
          typed = t ∷ [];
          is = refl;
          ok = (resumed_typed n d q y b s c.typings.after eqs h l.unified l.made l.bindings l.delayed (solve_stuck n unit_limit eqs ps b.pairs b.next (Solution s) h.stuck e).1 c.typings.more c.typings.count c.typings.bindings r, tt);
          given = (
            tell (typing_behind k s.types y c.typings.after r.0) (resume b s) (record {
              equations = eqs;
              pairs = ps;
              state = s;
              solved = e;
              is = refl;
              more = more_behind k s.types l.made y.answer.variables c.typings.after h.variables c.typings.more;
              bindings = bindings_behind k s.types l.made d c.typings.after s.bindings l.bindings c.typings.bindings;
              eigens = refl;
            }),
            tt,
          );
          keeps = λ i w. inl (keeps n d std P q i y b eqs ps s l r (on i w));
          gives = λ i w. elim w [ inl a ↦ back i (gives n d std P q i y b eqs ps s l r a) | inr x ↦ absurd x ];
        }

    go : (o : Option Unified) → solve n unit_limit eqs ps b.pairs b.next ≡ o → StandFor L n d P q T (follow b o)
    go None e = lacked n d P q T
    go (Some Spent) e = stopped n d P q T Deep not_done
    go (Some Fail) e = record {
      typed = [];
      is = refl;
      ok = tt;
      given = tt;
      keeps = λ i w.
          let v = on i w in
          let c = v.branch.answer.closing in
          absurd (closings_have_none d y.answer.variables n unit_limit eqs ps b.pairs c (input_at n d q y b eqs ps h input c.types)
          (transport (λ m. solve n unit_limit eqs ps b.pairs m ≡ Some Fail) (sym h.answer.variables) e)
          (record { closes = v.branch.answer.closes; types = v.types; pairs = v.pairs; delayed = v.branch.answer.solves }));
      gives = λ i w. absurd w;
    }
    go (Some (Solution s)) e = solution s e
