-- Entries behind a unification are typed, and each is provable under a closing exactly where it was under the one that leads through it.
use Rattle.std.proofs.Common.{◌≡◌, ℕ, zero, suc, List, [], ◌∷◌, ◌++◌, map, length, ◌∙◌, refl, sym, ap, subst as transport, append_assoc, append-nil}
use Rattle.lp_calculus.specs.Types.{Ty, instance}
use Rattle.lp_calculus.specs.Term.{Term, Atom, index, atom, abs, app, shift, constant, integer, text, eigen, logic, param}
use Rattle.lp_calculus.specs.Convert.{Converts, same}
use Rattle.lp_calculus.specs.Fill.{Within, Binding, close, at_variables, put, put_all}
use Rattle.lp_calculus.specs.Instance.{instance_term, instance_atom}
use Rattle.lp_calculus.specs.Typing.{o_type, type_at}
use Rattle.lp_calculus.proofs.Fills.{shift_closed}
use Rattle.lp_calculus.proofs.Steps.{converts_on, converts_is, converts_sym, converts_atoms}
use Rattle.lp_lemmas.specs.Each.{EachOf}
use Rattle.lp_model.specs.Types.{TypeBinding, one_type}
use Rattle.lp_model.specs.Pair.{Closing, closed, put_type_in, put_types_in}
use Rattle.lp_model.specs.Flat.{Clause, put_clause, type_clause, formula_of_goal, formula_of_clause}
use Rattle.lp_model.specs.Flatten.{ClauseFormula}
use Rattle.lp_model.specs.Branch.{Entry, put_entry, put_entries, type_entry, type_entries}
use Rattle.lp_model.specs.Proofs.{Declared, IsFormula, IsWitness, assumed, Leaves, ProvableBy}
use Rattle.lp_model.specs.Answers.{Variable, IsScopedAtom, Closes}
use Rattle.lp_unify_laws.specs.TypeSolutions.{Satisfies}
use Rattle.lp_unify_laws.specs.Solutions.{instance_variable, instance_binding, AreTypedBindings, IsMore, through_bindings}
use Rattle.lp_unify_laws.proofs.Decomposing.{put_types_satisfied}
use Rattle.lp_unify_laws.proofs.TypedInstances.{length_map, side_instance, scoped_instance}
use Rattle.lp_unify_laws.proofs.TypedBindings.{IsTypedTerm, IsAtomOf, term_atoms, term_more, put_all_typed}
use Rattle.lp_unify_laws.proofs.PairLists.{put_all_instance}
use Rattle.lp_proof_laws.proofs.Uniform.Assumptions.{Focuses, replaced_clause}
use Rattle.lp_proof_laws.proofs.Uniform.Formulas.{formula_eigens, closed_instance}
use Rattle.lp_proof_laws.proofs.Uniform.Uniforms.{by_conversion}
use Rattle.lp_proof_laws.proofs.Uniform.FocusRoots.{fconv}
use Rattle.lp_search_laws.specs.Holds.{IsTyped}
use Rattle.lp_search_laws.proofs.Kept.{IsVariableOf}
use Rattle.lp_search_laws.specs.Clauses.{assumed_as, assumed_at, sentence_of, clauses_at}
use Rattle.lp_search_laws.specs.Branches.{IsTypedEntry, AreTypedEntries, EntryHolds, AreProved}
use Rattle.lp_proof_laws.proofs.Uniform.Roots.{Converting}
use Rattle.lp_search_laws.specs.Behind.{LeadsThrough, behind, types_of, variables_of, eigens_of, IsTypedAt, IsEntryAt, AreEntriesAt}
use Rattle.lp_search_laws.proofs.Matching.{get_mapped}
use Rattle.lp_search_laws.proofs.Formulas.{goal_inside, clause_inside, types_inside, put_inside}
use Rattle.lp_search_laws.proofs.Kept.{variable_atom, variables_instance, through_term}
use Rattle.lp_search_laws.proofs.ClosedTerms.{closed_formula}
use Rattle.lp_search_laws.proofs.TypesPut.{put_types_in_is, satisfied_all, satisfied_instance, satisfied_term}

-- bindings whose values have no loose index
abbrev pub AreShut : List Binding → Type 0
AreShut [] = Unit {0}
AreShut (b ∷ bs) = (shift 0 1 b.value ≡ b.value) × AreShut bs

abbrev pub put_in : List Binding → List TypeBinding → Term → Term
put_in bs ts t = put_types_in ts (put_all bs t)

-- one entry
abbrev pub put_one : List Binding → Entry → Entry
put_one [] e = e
put_one (b ∷ bs) e = put_one bs (put_entry b e)

abbrev pub type_one : List TypeBinding → Entry → Entry
type_one [] e = e
type_one (b ∷ bs) e = type_one bs (type_entry b e)

put_each : (bs : List Binding) (e : Entry) (es : List Entry) → put_entries bs (e ∷ es) ≡ put_one bs e ∷ put_entries bs es
put_each [] e es = refl
put_each (b ∷ bs) e es = put_each bs (put_entry b e) (map (put_entry b) es)

type_each : (ts : List TypeBinding) (e : Entry) (es : List Entry) → type_entries ts (e ∷ es) ≡ type_one ts e ∷ type_entries ts es
type_each [] e es = refl
type_each (b ∷ bs) e es = type_each bs (type_entry b e) (map (type_entry b) es)

put_none : (bs : List Binding) → put_entries bs [] ≡ []
put_none [] = refl
put_none (b ∷ bs) = put_none bs

type_none : (ts : List TypeBinding) → type_entries ts [] ≡ []
type_none [] = refl
type_none (b ∷ bs) = type_none bs

pub behind_none : (bs : List Binding) (ts : List TypeBinding) → behind bs ts [] ≡ []
behind_none bs ts = ap (type_entries ts) (put_none bs) ∙ type_none ts

pub behind_each : (bs : List Binding) (ts : List TypeBinding) (e : Entry) (es : List Entry) → behind bs ts (e ∷ es) ≡ type_one ts (put_one bs e) ∷ behind bs ts es
behind_each bs ts e es = ap (type_entries ts) (put_each bs e es) ∙ type_each ts (put_one bs e) (put_entries bs es)

-- its level and its formulas
pub one_level : (bs : List Binding) (ts : List TypeBinding) (e : Entry) → (type_one ts (put_one bs e)).level ≡ e.level
one_level [] [] e = refl
one_level [] (b ∷ ts) e = one_level [] ts (type_entry b e)
one_level (b ∷ bs) ts e = one_level bs ts (put_entry b e)

put_goals : (bs : List Binding) → AreShut bs → (e : Entry) → formula_of_goal (put_one bs e).goal ≡ put_all bs (formula_of_goal e.goal)
put_goals [] s e = refl
put_goals (b ∷ bs) s e = put_goals bs s.1 (put_entry b e) ∙ ap (put_all bs) (goal_inside (put b) (λ T. T) (put_inside b s.0) zero e.goal)

type_goals_in : (ts : List TypeBinding) (e : Entry) → formula_of_goal (type_one ts e).goal ≡ put_types_in ts (formula_of_goal e.goal)
type_goals_in [] e = refl
type_goals_in (b ∷ ts) e = type_goals_in ts (type_entry b e) ∙ ap (put_types_in ts) (goal_inside (instance_term (one_type b)) (instance (one_type b)) (types_inside (one_type b)) zero e.goal)

pub goal_behind : (bs : List Binding) (ts : List TypeBinding) → AreShut bs → (e : Entry) → formula_of_goal (type_one ts (put_one bs e)).goal ≡ put_in bs ts (formula_of_goal e.goal)
goal_behind bs ts s e = type_goals_in ts (put_one bs e) ∙ ap (put_types_in ts) (put_goals bs s e)

abbrev pub formulas : List Clause → List Term
formulas A = map formula_of_clause A

map_same_as : {A B : Type 0} (f : B → Term) (g : A → B) (h : A → Term) → ((x : A) → f (g x) ≡ h x) → (xs : List A) → map f (map g xs) ≡ map h xs
map_same_as f g h k [] = refl
map_same_as f g h k (x ∷ xs) = λ i. k x i ∷ map_same_as f g h k xs i

map_both : (g h : Term → Term) (xs : List Term) → map g (map h xs) ≡ map (λ t. g (h t)) xs
map_both g h [] = refl
map_both g h (x ∷ xs) = ap (λ z. g (h x) ∷ z) (map_both g h xs)

map_id : (xs : List Term) → xs ≡ map (λ t. t) xs
map_id [] = refl
map_id (x ∷ xs) = ap (λ z. x ∷ z) (map_id xs)

map_comp : {A : Type 0} (f : A → Term) (g : Term → Term) (xs : List A) → map (λ x. g (f x)) xs ≡ map g (map f xs)
map_comp f g [] = refl
map_comp f g (x ∷ xs) = ap (λ z. g (f x) ∷ z) (map_comp f g xs)

put_assumed : (bs : List Binding) → AreShut bs → (e : Entry) → formulas (put_one bs e).assumed ≡ map (put_all bs) (formulas e.assumed)
put_assumed [] s e = map_id (formulas e.assumed)
put_assumed (b ∷ bs) s e =
    put_assumed bs s.1 (put_entry b e) ∙ ap (map (put_all bs)) (map_same_as formula_of_clause (put_clause b) (λ k. put b (formula_of_clause k)) (clause_inside (put b) (λ T. T) (put_inside b s.0) zero) e.assumed ∙ map_comp formula_of_clause (put b) e.assumed) ∙
    map_both (put_all bs) (put b) (formulas e.assumed)

type_assumed : (ts : List TypeBinding) (e : Entry) → formulas (type_one ts e).assumed ≡ map (put_types_in ts) (formulas e.assumed)
type_assumed [] e = map_id (formulas e.assumed)
type_assumed (b ∷ ts) e =
    type_assumed ts (type_entry b e) ∙ ap (map (put_types_in ts)) (map_same_as formula_of_clause (type_clause (one_type b))
    (λ k. put_type_in b (formula_of_clause k)) (clause_inside (instance_term (one_type b)) (instance (one_type b)) (types_inside (one_type b))
    zero) e.assumed ∙ map_comp formula_of_clause (put_type_in b) e.assumed) ∙
    map_both (put_types_in ts) (put_type_in b) (formulas e.assumed)

pub assumed_behind : (bs : List Binding) (ts : List TypeBinding) → AreShut bs → (e : Entry) → formulas (type_one ts (put_one bs e)).assumed ≡ map (put_in bs ts) (formulas e.assumed)
assumed_behind bs ts s e = type_assumed ts (put_one bs e) ∙ ap (map (put_types_in ts)) (put_assumed bs s e) ∙ map_both (put_types_in ts) (put_all bs) (formulas e.assumed)

-- typing
pub typed_at : (d : Declared) (V : List Variable) (E : List Ty) (ts : List TypeBinding) (t : Term) → IsTyped d E V t o_type → IsTypedAt d E V ts t
typed_at d V E ts t h = record { typed = side_instance (types_of ts) d E V t o_type h.typed; scoped = scoped_instance (types_of ts) E V 0 t h.scoped }

pub typed_behind : (d : Declared) (V W : List Variable) (E : List Ty) (bs : List Binding) (ts : List TypeBinding) → IsMore
    (variables_of (types_of ts) V) W → AreTypedBindings d W (map (instance_binding (types_of ts)) bs) → (t : Term) → IsTypedAt d E V ts t → IsTyped d
    (map (instance (types_of ts)) E) W (put_in bs ts t) o_type
typed_behind d V W E bs ts m b t h =
    let θ = types_of ts in
    let F = map (instance θ) E in
    let u : IsTypedTerm d F (variables_of θ V) (instance_term θ t) o_type = record { typed = h.typed; scoped = h.scoped } in
    let p = put_all_typed d F W (map (instance_binding θ) bs) b (instance_term θ t) o_type (term_more d F (variables_of θ V) W m (instance_term θ t) o_type u) in
    let e : put_all (map (instance_binding θ) bs) (instance_term θ t) ≡ put_in bs ts t = put_all_instance θ bs t ∙ sym (put_types_in_is ts (put_all bs t)) in
    transport (λ z. IsTyped d F W z o_type) e (record { typed = p.typed; scoped = p.scoped })

each_map : (P : Term → Type 0) (A : List Clause) → EachOf (λ k. P (formula_of_clause k)) A → EachOf P (formulas A)
each_map P [] h = tt
each_map P (k ∷ A) h = (h.0, each_map P A h.1)

each_unmap : (P : Term → Type 0) (A : List Clause) → EachOf P (formulas A) → EachOf (λ k. P (formula_of_clause k)) A
each_unmap P [] h = tt
each_unmap P (k ∷ A) h = (h.0, each_unmap P A h.1)

each_on : (P Q : Term → Type 0) (f : Term → Term) → ((t : Term) → P t → Q (f t)) → (us : List Term) → EachOf P us → EachOf Q (map f us)
each_on P Q f g [] h = tt
each_on P Q f g (u ∷ us) h = (g u h.0, each_on P Q f g us h.1)

pub entry_behind : (d : Declared) (V W : List Variable) (E : List Ty) (bs : List Binding) (ts : List TypeBinding) → AreShut bs → IsMore
    (variables_of (types_of ts) V) W → AreTypedBindings d W (map (instance_binding (types_of ts)) bs) → (e : Entry) → IsEntryAt d V ts E e →
    IsTypedEntry d W (map (instance (types_of ts)) E) (type_one ts (put_one bs e))
entry_behind d V W E bs ts s m b e h =
    let F = map (instance (types_of ts)) E in
    record {
      level = length_map (instance (types_of ts)) E ∙ h.level ∙ sym (one_level bs ts e);
      goal = transport (λ z. IsTyped d F W z o_type) (sym (goal_behind bs ts s e)) (typed_behind d V W E bs ts m b (formula_of_goal e.goal) h.goal);
      assumed = each_unmap (λ t. IsTyped d F W t o_type) (type_one ts (put_one bs e)).assumed
          (transport (EachOf (λ t. IsTyped d F W t o_type)) (sym (assumed_behind bs ts s e))
          (each_on (λ t. IsTypedAt d E V ts t) (λ t. IsTyped d F W t o_type) (put_in bs ts) (typed_behind d V W E bs ts m b) (formulas e.assumed) (each_map (λ t. IsTypedAt d E V ts t) e.assumed h.assumed)));
    }

pub entries_behind : (d : Declared) (V W : List Variable) (bs : List Binding) (ts : List TypeBinding) → AreShut bs → IsMore
    (variables_of (types_of ts) V) W → AreTypedBindings d W (map (instance_binding (types_of ts)) bs) → (Es : List (List Ty)) (es : List Entry) →
    AreEntriesAt d V ts Es es → AreTypedEntries d W (eigens_of (types_of ts) Es) (behind bs ts es)
entries_behind d V W bs ts s m b [] [] h = transport (AreTypedEntries d W []) (sym (behind_none bs ts)) tt
entries_behind d V W bs ts s m b [] (e ∷ es) h = absurd h
entries_behind d V W bs ts s m b (E ∷ Es) [] h = absurd h
entries_behind d V W bs ts s m b (E ∷ Es) (e ∷ es) h =
    transport (AreTypedEntries d W (eigens_of (types_of ts) (E ∷ Es))) (sym (behind_each bs ts e es)) (entry_behind d V W E bs ts s m b e h.0, entries_behind d V W bs ts s m b Es es h.1)

-- terms
lead_atom : (V : List Variable) (c z : Closing) (bs : List Binding) (ts : List TypeBinding) → LeadsThrough V c z bs ts → (a : Atom) → IsVariableOf V a → Converts (at_variables c.terms a) (at_variables (through_bindings bs z).terms a)
lead_atom V c z bs ts k (logic x l) h = transport (λ n. Converts (c.terms x n) ((through_bindings bs z).terms x n)) (sym h.2) (k.gives x h.0 h.1)
lead_atom V c z bs ts k (constant n us) h = same (atom (constant n us))
lead_atom V c z bs ts k (integer y) h = same (atom (integer y))
lead_atom V c z bs ts k (text s) h = same (atom (text s))
lead_atom V c z bs ts k (eigen n) h = same (atom (eigen n))
lead_atom V c z bs ts k (param n T) h = same (atom (param n T))

-- variables of what is typed once types are put in
at_variable : (d : Declared) (F : List Ty) (V : List Variable) (θ : ℕ → Ty) (a : Atom) → IsAtomOf d F (variables_of θ V) (instance_atom θ a) → IsVariableOf V a
at_variable d F V θ (logic x l) h =
    let v = variable_atom d F (variables_of θ V) (logic x l) h in
    let g = get_mapped (instance_variable θ) V x v.0 v.1 in
    (g.0, g.1, v.2 ∙ ap (λ (u : Variable). length u.scope) g.2 ∙ length_map (instance θ) g.0.scope)
at_variable d F V θ (constant c us) h = tt
at_variable d F V θ (integer z) h = tt
at_variable d F V θ (text s) h = tt
at_variable d F V θ (eigen k) h = tt
at_variable d F V θ (param k T) h = tt

at_variables_of : (d : Declared) (F : List Ty) (V : List Variable) (θ : ℕ → Ty) (n : ℕ) (t : Term) → Within (IsAtomOf d F (variables_of θ V)) n (instance_term θ t) → Within (IsVariableOf V) n t
at_variables_of d F V θ n (index i) w = w
at_variables_of d F V θ n (atom a) w = at_variable d F V θ a w
at_variables_of d F V θ n (abs b) w = at_variables_of d F V θ (suc n) b w
at_variables_of d F V θ n (app t u) w = (at_variables_of d F V θ n t w.0, at_variables_of d F V θ n u w.1)

pub within_leads : (V : List Variable) (c z : Closing) (bs : List Binding) (ts : List TypeBinding) → LeadsThrough V c z bs ts → (t : Term) → Within (IsVariableOf V) 0 t → Converts (closed c t) (closed z (put_in bs ts t))
within_leads V c z bs ts k t w =
    let κ = c.types in
    let τ = (through_bindings bs z).terms in
    let first : Converts (close c.terms (instance_term κ t)) (close τ (instance_term κ t)) = converts_atoms (IsVariableOf V) (at_variables c.terms) (at_variables τ) (lead_atom V c z bs ts k) 0 (instance_term κ t) (variables_instance V κ 0 t w) in
    converts_on first (converts_is (ap (λ θ. close τ (instance_term θ t)) (sym k.types) ∙ through_term z bs t ∙ ap (close z.terms) (sym (put_types_satisfied z.types ts k.satisfied (put_all bs t)))))

pub term_leads : (d : Declared) (E : List Ty) (V : List Variable) (c z : Closing) (bs : List Binding) (ts : List TypeBinding) → LeadsThrough V c z bs ts → (t : Term) → IsTypedAt d E V ts t → Converts (closed c t) (closed z (put_in bs ts t))
term_leads d E V c z bs ts k t h =
    let θ = types_of ts in
    let F = map (instance θ) E in
    within_leads V c z bs ts k t (at_variables_of d F V θ 0 t (term_atoms d F (variables_of θ V) (instance_term θ t) o_type (record { typed = h.typed; scoped = h.scoped })))

-- the closing closes the variables with types put in
pub closes_at : (d : Declared) (V : List Variable) (c : Closing) (ts : List TypeBinding) → Satisfies c.types ts → Closes d V c → Closes d (variables_of (types_of ts) V) c
closes_at d V c ts s cl = record {
  types = cl.types;
  terms = λ x v e.
      let θ = types_of ts in
      let g = get_mapped (instance_variable θ) V x v e in
      transport (λ (u : Variable). IsWitness d (map (instance c.types) u.scope) (c.terms x (length u.scope)) (instance c.types u.type)) (sym g.2)
      (transport (λ n. IsWitness d (map (instance c.types) (map (instance θ) g.0.scope)) (c.terms x n) (instance c.types (instance θ g.0.type))) (sym (length_map (instance θ) g.0.scope))
      (transport (λ X. IsWitness d X (c.terms x (length g.0.scope)) (instance c.types (instance θ g.0.type))) (sym (satisfied_all c.types ts s g.0.scope))
      (transport (λ T. IsWitness d (map (instance c.types) g.0.scope) (c.terms x (length g.0.scope)) T) (sym (satisfied_instance c.types ts s g.0.type)) (cl.terms x g.0 g.1))));
}

pub formula_at_types : (d : Declared) (E : List Ty) (V : List Variable) (c : Closing) (ts : List TypeBinding) → Satisfies c.types ts → Closes d V c → (t : Term) → IsTypedAt d E V ts t → IsFormula d (map (instance c.types) E) (closed c t)
formula_at_types d E V c ts s cl t h =
    let θ = types_of ts in
    let f = closed_formula d (map (instance θ) E) (variables_of θ V) c (closes_at d V c ts s cl) (instance_term θ t) h in
    transport (λ X. IsFormula d X (closed c t)) (satisfied_all c.types ts s E) (transport (IsFormula d (map (instance c.types) (map (instance θ) E))) (ap (close c.terms) (satisfied_term c.types ts s t)) f)

-- assumptions that convert, one by one
pub converted_focus : (L : Leaves) (d : Declared) (E : List Ty) (D D' : Term) → IsFormula d E D → Converts D D' → Focuses L d E D D'
unfolding Focuses
converted_focus L d E D D' f c F x R A i r = fconv d F R D D' A (transport (λ z. IsFormula d z D) (sym x.is) (formula_eigens d E x.rest D f)) c r

abbrev pub each_assumed : (Term → Term) → List Term → List ClauseFormula
each_assumed f [] = []
each_assumed f (u ∷ us) = each_assumed f us ++ assumed (f u) ∷ []

converted_before : {L : Leaves} (d : Declared) → ((P : List ClauseFormula) → Converting L d P) → (E : List Ty) (f g : Term → Term) (G : Term)
    (us : List Term) → EachOf (λ t. IsFormula d E (f t) × IsFormula d E (g t) × Converts (f t) (g t)) us → (P S : List ClauseFormula) → ProvableBy L d
    E (P ++ (each_assumed f us ++ S)) G → ProvableBy L d E (P ++ (each_assumed g us ++ S)) G
converted_before {L} d conv E f g G [] h P S p = p
converted_before {L} d conv E f g G (u ∷ us) h P S p =
    let B = P ++ each_assumed g us in
    let o = converted_before d conv E f g G us h.1 P (assumed (f u) ∷ S) (transport (λ X. ProvableBy L d E (P ++ X) G) (append_assoc (each_assumed f us) (assumed (f u) ∷ []) S) p) in
    let q = replaced_clause L d E B S (assumed (f u)) (assumed (g u)) G refl ((conv B).assumptions E (f u) (g u) h.0.0 h.0.1 h.0.2) (λ ts l k.
    transport (λ z. Focuses L d E z (instance_term (type_at ts) (g u))) (sym (closed_instance (length E) (type_at ts) (f u) h.0.0.closed))
    (transport (Focuses L d E (f u)) (sym (closed_instance (length E) (type_at ts) (g u) h.0.1.closed)) (converted_focus _ d E (f u) (g u) h.0.0 h.0.2))) (transport (λ Q. ProvableBy L d E Q G) (sym (append_assoc P (each_assumed g us) (assumed (f u) ∷ S))) o) in
    transport (λ X. ProvableBy L d E (P ++ X) G) (sym (append_assoc (each_assumed g us) (assumed (g u) ∷ []) S)) (transport (λ Q. ProvableBy L d E Q G) (append_assoc P (each_assumed g us) (assumed (g u) ∷ S)) q)

pub converted_all : {L : Leaves} (d : Declared) → ((P : List ClauseFormula) → Converting L d P) → (E : List Ty) (f g : Term → Term) (G : Term)
    (us : List Term) → EachOf (λ t. IsFormula d E (f t) × IsFormula d E (g t) × Converts (f t) (g t)) us → (P : List ClauseFormula) → ProvableBy L d E
    (P ++ each_assumed f us) G → ProvableBy L d E (P ++ each_assumed g us) G
converted_all {L} d conv E f g G us h P p =
    transport (λ X. ProvableBy L d E (P ++ X) G) (append-nil (each_assumed g us)) (converted_before d conv E f g G us h P [] (transport (λ X. ProvableBy L d E (P ++ X) G) (sym (append-nil (each_assumed f us))) p))

pub assumed_formulas : (c : Closing) (A : List Clause) → assumed_at c A ≡ each_assumed (closed c) (formulas A)
assumed_formulas c [] = refl
assumed_formulas c (k ∷ A) = ap (λ z. z ++ assumed_as c k ∷ []) (assumed_formulas c A)

assumed_both : (g h : Term → Term) (us : List Term) → each_assumed g (map h us) ≡ each_assumed (λ t. g (h t)) us
assumed_both g h [] = refl
assumed_both g h (u ∷ us) = ap (λ z. z ++ assumed (g (h u)) ∷ []) (assumed_both g h us)

-- the formulas of an entry, before and behind
each_pair : (d : Declared) (V W : List Variable) (c z : Closing) (bs : List Binding) (ts : List TypeBinding) → LeadsThrough V c z bs ts →
    (E D F : List Ty) → ((t : Term) → IsTypedAt d E V ts t → IsFormula d F (closed c t)) →
    ((t : Term) → IsTyped d D W t o_type → IsFormula d F (closed z t)) → (us : List Term) → EachOf (λ t. IsTypedAt d E V ts t) us → EachOf
    (λ t. IsTyped d D W t o_type) (map (put_in bs ts) us) →
    EachOf (λ t. IsFormula d F (closed c t) × IsFormula d F (closed z (put_in bs ts t)) × Converts (closed c t) (closed z (put_in bs ts t))) us
each_pair d V W c z bs ts k E D F f g [] a b = tt
each_pair d V W c z bs ts k E D F f g (u ∷ us) a b = ((f u a.0, g (put_in bs ts u) b.0, term_leads d E V c z bs ts k u a.0), each_pair d V W c z bs ts k E D F f g us a.1 b.1)

each_swap : (P Q R R' : Term → Type 0) → ((t : Term) → R t → R' t) → (us : List Term) → EachOf (λ t. P t × Q t × R t) us → EachOf (λ t. Q t × P t × R' t) us
each_swap P Q R R' h [] w = tt
each_swap P Q R R' h (u ∷ us) w = ((w.0.1, w.0.0, h u w.0.2), each_swap P Q R R' h us w.1)

-- one entry holds where it held
pub entry_leads : {L : Leaves} (d : Declared) → ((P : List ClauseFormula) → Converting L d P) → (V W : List Variable) (P : List Clause)
    (c z : Closing) (bs : List Binding) (ts : List TypeBinding) → LeadsThrough V c z bs ts → AreShut bs → Closes d V c → Closes d W z → (E : List Ty)
    (e : Entry) → IsEntryAt d V ts E e → IsTypedEntry d W (map (instance (types_of ts)) E) (type_one ts (put_one bs e)) →
    (EntryHolds L d P c E e → EntryHolds L d P z (map (instance (types_of ts)) E) (type_one ts (put_one bs e))) × (EntryHolds L d P z (map (instance (types_of ts)) E) (type_one ts (put_one bs e)) → EntryHolds L d P c E e)
entry_leads {L} d conv V W P c z bs ts k s cl zl E e h h' =
    let D = map (instance (types_of ts)) E in
    let F = map (instance c.types) E in
    let e' = type_one ts (put_one bs e) in
    let t = formula_of_goal e.goal in
    let t' = formula_of_goal e'.goal in
    let us = formulas e.assumed in
    let S = map sentence_of P in
    let same_eigens : map (instance z.types) D ≡ F = satisfied_all z.types ts k.satisfied E ∙ ap (λ θ. map (instance θ) E) k.types in
    let sat : Satisfies c.types ts = transport (λ x. Satisfies x ts) k.types k.satisfied in
    let before = λ (u : Term) (w : IsTypedAt d E V ts u). formula_at_types d E V c ts sat cl u w in
    let after = λ (u : Term) (w : IsTyped d D W u o_type). transport (λ X. IsFormula d X (closed z u)) same_eigens (closed_formula d D W z zl u w) in
    let v : Converts (closed c t) (closed z t') = converts_on (term_leads d E V c z bs ts k t h.goal) (converts_is (ap (closed z) (sym (goal_behind bs ts s e)))) in
    let ps = each_pair d V W c z bs ts k E D F before after us (each_map (λ u. IsTypedAt d E V ts u) e.assumed h.assumed) (transport (EachOf (λ u. IsTyped d D W u o_type)) (assumed_behind bs ts s e) (each_map (λ u. IsTyped d D W u o_type) e'.assumed h'.assumed)) in
    let qs = each_swap (λ u. IsFormula d F (closed c u)) (λ u. IsFormula d F (closed z (put_in bs ts u))) (λ u. Converts (closed c u) (closed z (put_in bs ts u))) (λ u. Converts (closed z (put_in bs ts u)) (closed c u)) (λ u. converts_sym) us ps in
    let x : clauses_at P e.assumed c ≡ S ++ each_assumed (closed c) us = ap (λ X. S ++ X) (assumed_formulas c e.assumed) in
    let y : clauses_at P e'.assumed z ≡ S ++ each_assumed (λ u. closed z (put_in bs ts u)) us = ap (λ X. S ++ X) (assumed_formulas z e'.assumed) ∙ ap (λ X. S ++ each_assumed (closed z) X) (assumed_behind bs ts s e) ∙ ap (λ X. S ++ X) (assumed_both (closed z) (put_in bs ts) us) in (
      (λ p. transport (λ X. ProvableBy L d X (clauses_at P e'.assumed z) (closed z t')) (sym same_eigens) (transport (λ X. ProvableBy L d F X (closed z t')) (sym y)
          (converted_all d conv F (closed c) (λ u. closed z (put_in bs ts u)) (closed z t') us ps S (transport (λ X. ProvableBy L d F X (closed z t')) x (by_conversion d F (clauses_at P e.assumed c) (closed z t') (closed c t) (before t h.goal) v p))))),
      (λ p. by_conversion d F (clauses_at P e.assumed c) (closed c t) (closed z t') (after t' h'.goal) (converts_sym v) (transport (λ X. ProvableBy L d F X (closed z t')) (sym x)
          (converted_all d conv F (λ u. closed z (put_in bs ts u)) (closed c) (closed z t') us qs S (transport (λ X. ProvableBy L d F X (closed z t')) y (transport (λ X. ProvableBy L d X (clauses_at P e'.assumed z) (closed z t')) same_eigens p))))),
    )

pub entries_lead : {L : Leaves} (d : Declared) → ((P : List ClauseFormula) → Converting L d P) → (V W : List Variable) (P : List Clause)
    (c z : Closing) (bs : List Binding) (ts : List TypeBinding) → LeadsThrough V c z bs ts → AreShut bs → IsMore (variables_of (types_of ts) V) W →
    AreTypedBindings d W (map (instance_binding (types_of ts)) bs) → Closes d V c → Closes d W z → (Es : List (List Ty)) (es : List Entry) →
    AreEntriesAt d V ts Es es →
    (AreProved L d P c Es es → AreProved L d P z (eigens_of (types_of ts) Es) (behind bs ts es)) × (AreProved L d P z (eigens_of (types_of ts) Es) (behind bs ts es) → AreProved L d P c Es es)
entries_lead {L} d conv V W P c z bs ts k s m b cl zl [] [] h = ((λ p. transport (AreProved L d P z []) (sym (behind_none bs ts)) tt), (λ p. tt))
entries_lead {L} d conv V W P c z bs ts k s m b cl zl [] (e ∷ es) h = absurd h
entries_lead {L} d conv V W P c z bs ts k s m b cl zl (E ∷ Es) [] h = absurd h
entries_lead {L} d conv V W P c z bs ts k s m b cl zl (E ∷ Es) (e ∷ es) h =
    let o = entry_leads d conv V W P c z bs ts k s cl zl E e h.0 (entry_behind d V W E bs ts s m b e h.0) in
    let r = entries_lead d conv V W P c z bs ts k s m b cl zl Es es h.1 in
    let q = behind_each bs ts e es in (
      (λ p. transport (AreProved L d P z (eigens_of (types_of ts) (E ∷ Es))) (sym q) (o.0 p.0, r.0 p.1)),
      (λ p. let w = transport (AreProved L d P z (eigens_of (types_of ts) (E ∷ Es))) q p in (o.1 w.0, r.1 w.1)),
    )

-- typed bindings have no loose index in their values
unshut : (θ : ℕ → Ty) (n : ℕ) (t : Term) (P : Atom → Type 0) → Within P n (instance_term θ t) → Within (λ a. Unit {0}) n t
unshut θ n (index i) P w = w
unshut θ n (atom a) P w = tt
unshut θ n (abs b) P w = unshut θ (suc n) b P w
unshut θ n (app t u) P w = (unshut θ n t P w.0, unshut θ n u P w.1)

pub are_shut : (d : Declared) (W : List Variable) (θ : ℕ → Ty) (bs : List Binding) → AreTypedBindings d W (map (instance_binding θ) bs) → AreShut bs
are_shut d W θ [] h = tt
are_shut d W θ (b ∷ bs) h = (shift_closed (λ a. Unit {0}) b.value (unshut θ 0 b.value (IsScopedAtom W h.0.variable.scope) h.0.scoped), are_shut d W θ bs h.1)

pub entries_at : (d : Declared) (V : List Variable) (ts : List TypeBinding) (Es : List (List Ty)) (es : List Entry) → AreTypedEntries d V Es es → AreEntriesAt d V ts Es es
entries_at d V ts [] [] h = tt
entries_at d V ts [] (e ∷ es) h = absurd h
entries_at d V ts (E ∷ Es) [] h = absurd h
entries_at d V ts (E ∷ Es) (e ∷ es) h = (record { level = h.0.level; goal = typed_at d V E ts (formula_of_goal e.goal) h.0.goal; assumed = each_at_types e.assumed h.0.assumed }, entries_at d V ts Es es h.1)
  where
    each_at_types : (A : List Clause) → EachOf (λ k. IsTyped d E V (formula_of_clause k) o_type) A → EachOf (λ k. IsTypedAt d E V ts (formula_of_clause k)) A
    each_at_types [] w = tt
    each_at_types (k ∷ A) w = (typed_at d V E ts (formula_of_clause k) w.0, each_at_types A w.1)
