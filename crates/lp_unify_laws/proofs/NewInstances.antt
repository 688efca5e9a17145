-- The variable that takes the place of a pattern, and what stands around it, with types for type variables.
use Rattle.std.proofs.Common.{◌≡◌, ℕ, zero, suc, List, [], ◌∷◌, ◌++◌, map, ◌∙◌, refl, sym, ap, subst as transport, Bool, Option, Some, None}
use Rattle.std.specs.Prelude.{slice_get, option_map}
use Rattle.lp_calculus.specs.Types.{Ty, arrow, instance}
use Rattle.lp_calculus.specs.Term.{Term, Atom, index, atom, abs, app, constant, integer, text, eigen, logic, param}
use Rattle.lp_calculus.specs.Convert.{ReducesTo, done, then_step}
use Rattle.lp_calculus.specs.Fill.{Within, Binding}
use Rattle.lp_calculus.specs.Instance.{instance_atom, instance_term}
use Rattle.lp_calculus.specs.Typing.{eigen_type}
use Rattle.lp_calculus.proofs.Commutations.{instance_fill}
use Rattle.lp_calculus.proofs.Steps.{Step, step_fill}
use Rattle.lp_model.specs.Scan.{Side, Pattern}
use Rattle.lp_model.specs.Proofs.{Declared}
use Rattle.lp_model.specs.Answers.{Variable, IsPrefix}
use Rattle.lp_unify_laws.specs.Levels.{IsPairAtom}
use Rattle.lp_unify_laws.specs.Right.{AreScoped}
use Rattle.lp_unify_laws.specs.Solutions.{instance_variable, instance_binding}
use Rattle.lp_unify_laws.proofs.Scopes.{arrows, types_in, or_o, AreEigens}
use Rattle.lp_unify_laws.proofs.NewVariables.{IsNew, new_variable, with_new}
use Rattle.lp_unify_laws.proofs.Scans.{Seen, Scans, ScansAll, scans_abs, scans_rigid, scans_pattern, scans_flexible, scans_none, scans_more}
use Rattle.lp_unify_laws.proofs.TypeInstances.{typed_by, instance_substitute}
use Rattle.lp_unify_laws.proofs.Instances.{instance_all, instance_apply, instance_pattern, head_instance}
use Rattle.lp_unify_laws.proofs.Decomposing.{instance_rigid}
use Rattle.lp_unify_laws.proofs.TypedInstances.{length_map, map_append, get_map}
use Rattle.lp_unify_laws.proofs.Placed.{IsTypedSide}
use Rattle.lp_unify_laws.proofs.Cleans.{Fit}

abbrev pub variables_at : (ℕ → Ty) → List Variable → List Variable
variables_at κ V = map (instance_variable κ) V

abbrev pub scope_at : (ℕ → Ty) → List Ty → List Ty
scope_at κ E = map (instance κ) E

-- reduction
step_instance : (κ : ℕ → Ty) {t u : Term} → Step t u → Step (instance_term κ t) (instance_term κ u)
step_instance κ {t} {u} p = transport (λ z. Step z (instance_term κ u)) (sym (instance_fill κ t)) (transport (Step _) (sym (instance_fill κ u)) (step_fill (typed_by κ) p))

pub reduces_instance : (κ : ℕ → Ty) {t u : Term} → ReducesTo t u → ReducesTo (instance_term κ t) (instance_term κ u)
reduces_instance κ (done t) = done (instance_term κ t)
reduces_instance κ (then_step p ps) = then_step (step_instance κ p) (reduces_instance κ ps)

-- scans
seen_atom : (next p k : ℕ) (κ : ℕ → Ty) (a : Atom) → Seen next p k a → Seen next p k (instance_atom κ a)
seen_atom next p k κ (constant c us) h = tt
seen_atom next p k κ (integer z) h = tt
seen_atom next p k κ (text s) h = tt
seen_atom next p k κ (eigen j) h = h
seen_atom next p k κ (logic x l) h = h
seen_atom next p k κ (param j u) h = tt

within_instance : (P : Atom → Type 0) (κ : ℕ → Ty) → ((a : Atom) → P a → P (instance_atom κ a)) → (d : ℕ) (t : Term) → Within P d t → Within P d (instance_term κ t)
within_instance P κ f d (index i) h = h
within_instance P κ f d (atom a) h = f a h
within_instance P κ f d (abs b) h = within_instance P κ f (suc d) b h
within_instance P κ f d (app t u) h = (within_instance P κ f d t h.0, within_instance P κ f d u h.1)

pair_atom : (next n : ℕ) (κ : ℕ → Ty) (a : Atom) → IsPairAtom next n a → IsPairAtom next n (instance_atom κ a)
pair_atom next n κ (constant c us) h = tt
pair_atom next n κ (integer z) h = tt
pair_atom next n κ (text s) h = tt
pair_atom next n κ (eigen j) h = h
pair_atom next n κ (logic x l) h = h
pair_atom next n κ (param j u) h = tt

pub pair_term : (next n : ℕ) (κ : ℕ → Ty) (t : Term) → Within (IsPairAtom next n) 0 t → Within (IsPairAtom next n) 0 (instance_term κ t)
pair_term next n κ t w = within_instance (IsPairAtom next n) κ (pair_atom next n κ) 0 t w

fit_atom : (s : Side) (next k : ℕ) (κ : ℕ → Ty) (a : Atom) → Fit s next k a → Fit s next k (instance_atom κ a)
fit_atom s next k κ (constant c us) h = tt
fit_atom s next k κ (integer z) h = tt
fit_atom s next k κ (text r) h = tt
fit_atom s next k κ (eigen j) h = h
fit_atom s next k κ (logic x l) h = h
fit_atom s next k κ (param j u) h = tt

pub fit_instance : (s : Side) (next k : ℕ) (κ : ℕ → Ty) (t : Term) → Within (Fit s next k) 0 t → Within (Fit s next k) 0 (instance_term κ t)
fit_instance s next k κ t w = within_instance (Fit s next k) κ (fit_atom s next k κ) 0 t w

pub scoped_at : (next : ℕ) (κ : ℕ → Ty) (bs : List Binding) → AreScoped next bs → AreScoped next (map (instance_binding κ) bs)
scoped_at next κ [] h = tt
scoped_at next κ (b ∷ bs) h = (pair_term next b.level κ b.value h.0, scoped_at next κ bs h.1)

seen_term : (next p k : ℕ) (κ : ℕ → Ty) (t : Term) → Within (Seen next p k) 0 t → Within (Seen next p k) 0 (instance_term κ t)
seen_term next p k κ t w = within_instance (Seen next p k) κ (seen_atom next p k κ) 0 t w

mutual
  pub scans_instance : (κ : ℕ → Ty) (s : Side) (next : ℕ) {inside : Bool} {k : ℕ} {t : Term} {ps : List Pattern} → Scans s next inside k t ps → Scans s next inside k (instance_term κ t) ps
  scans_instance κ s next {inside} {k} {t} {ps} (scans_abs b w r d) =
      scans_abs (instance_term κ b) (seen_term next s.pair k κ t w) (reduces_instance κ r)
      (transport (λ z. Scans s next inside (suc k) z ps) (instance_substitute κ (atom (eigen (suc k))) b) (scans_instance κ s next d))
  scans_instance κ s next {inside} {k} {t} {ps} (scans_rigid h ts w r g a d) =
      scans_rigid (instance_term κ h) (instance_all κ ts) (seen_term next s.pair k κ h w) (transport (ReducesTo (instance_term κ t)) (instance_apply κ ts h) (reduces_instance κ r))
      (instance_rigid κ h g) (head_instance κ s h ∙ a) (scans_all_instance κ s next d)
  scans_instance κ s next {inside} {k} {t} {ps} (scans_pattern y m b r o f) =
      scans_pattern y m b (transport (ReducesTo (instance_term κ t)) (instance_pattern κ b (atom (logic y m))) (reduces_instance κ r)) o f
  scans_instance κ s next {inside} {k} {t} {ps} (scans_flexible y m ts r w o f d) =
      scans_flexible y m (instance_all κ ts) (transport (ReducesTo (instance_term κ t)) (instance_apply κ ts (atom (logic y m))) (reduces_instance κ r)) w o f (scans_all_instance κ s next d)

  scans_all_instance : (κ : ℕ → Ty) (s : Side) (next : ℕ) {inside : Bool} {k : ℕ} {ts : List Term} {ps : List Pattern} → ScansAll s next inside k ts ps → ScansAll s next inside k (instance_all κ ts) ps
  scans_all_instance κ s next scans_none = scans_none
  scans_all_instance κ s next (scans_more ps qs e d ds) = scans_more ps qs e (scans_instance κ s next d) (scans_all_instance κ s next ds)

-- eigenconstants and their types
eigen_at : (κ : ℕ → Ty) (F : List Ty) (k : ℕ) → eigen_type (scope_at κ F) k ≡ option_map (instance κ) (eigen_type F k)
eigen_at κ F zero = refl
eigen_at κ F (suc k) = get_map (instance κ) F k

or_at : (κ : ℕ → Ty) (o : Option Ty) → o ≡ Some (or_o o) → or_o (option_map (instance κ) o) ≡ instance κ (or_o o)
or_at κ None e = absurd (cc)
or_at κ (Some A) e = refl

pub types_at : (κ : ℕ → Ty) (F : List Ty) (ks : List ℕ) → AreEigens F ks → types_in (scope_at κ F) ks ≡ map (instance κ) (types_in F ks)
types_at κ F [] h = refl
types_at κ F (k ∷ ks) h =
    let e : or_o (eigen_type (scope_at κ F) k) ≡ instance κ (or_o (eigen_type F k)) = ap or_o (eigen_at κ F k) ∙ or_at κ (eigen_type F k) h.0 in
    λ i. e i ∷ types_at κ F ks h.1 i

pub eigens_at : (κ : ℕ → Ty) (F : List Ty) (ks : List ℕ) → AreEigens F ks → AreEigens (scope_at κ F) ks
eigens_at κ F [] h = tt
eigens_at κ F (k ∷ ks) h =
    let e : eigen_type (scope_at κ F) k ≡ Some (instance κ (or_o (eigen_type F k))) = eigen_at κ F k ∙ ap (option_map (instance κ)) h.0 in
    (e ∙ ap (λ z. Some z) (sym (or_at κ (eigen_type F k) h.0) ∙ sym (ap or_o (eigen_at κ F k))), eigens_at κ F ks h.1)

arrows_at : (κ : ℕ → Ty) (As : List Ty) (T : Ty) → instance κ (arrows As T) ≡ arrows (map (instance κ) As) (instance κ T)
arrows_at κ [] T = refl
arrows_at κ (A ∷ As) T = ap (arrow (instance κ A)) (arrows_at κ As T)

pub type_at_types : (κ : ℕ → Ty) (F : List Ty) (ks : List ℕ) (T A : Ty) → AreEigens F ks → A ≡ arrows (types_in F ks) T → instance κ A ≡ arrows (types_in (scope_at κ F) ks) (instance κ T)
type_at_types κ F ks T A h e = ap (instance κ) e ∙ arrows_at κ (types_in F ks) T ∙ ap (λ z. arrows z (instance κ T)) (sym (types_at κ F ks h))

pub prefix_at : (κ : ℕ → Ty) (E F : List Ty) → IsPrefix E F → IsPrefix (scope_at κ E) (scope_at κ F)
prefix_at κ E F p = record { rest = scope_at κ p.rest; is = ap (map (instance κ)) p.is ∙ map_append (instance κ) E p.rest }

pub get_at : (κ : ℕ → Ty) (V : List Variable) (x : ℕ) (v : Variable) → slice_get V x ≡ Some v → slice_get (variables_at κ V) x ≡ Some (instance_variable κ v)
get_at κ V x v e = get_map (instance_variable κ) V x ∙ ap (option_map (instance_variable κ)) e

pub new_at : (κ : ℕ → Ty) (V : List Variable) (F S : List Ty) (y m l : ℕ) (b cs : List ℕ) (T : Ty) → IsNew V F S y m l b cs T → IsNew (variables_at κ V) (scope_at κ F) (scope_at κ S) y m l b cs (instance κ T)
new_at κ V F S y m l b cs T i = record {
  variable = instance_variable κ i.variable;
  is = get_at κ V y i.variable i.is;
  level = i.level ∙ sym (length_map (instance κ) i.variable.scope);
  type = type_at_types κ F b T i.variable.type i.arguments i.type;
  arguments = eigens_at κ F b i.arguments;
  own = prefix_at κ i.variable.scope F i.own;
  scope = prefix_at κ S F i.scope;
  inner = prefix_at κ S i.variable.scope i.inner;
  length = length_map (instance κ) S ∙ i.length;
  chosen = eigens_at κ F cs i.chosen;
  low = i.low;
  reach = i.reach;
}

pub with_new_at : (κ : ℕ → Ty) (V : List Variable) (F S : List Ty) (cs : List ℕ) (T : Ty) → AreEigens F cs → variables_at κ (with_new V (new_variable F S cs T)) ≡ with_new (variables_at κ V) (new_variable (scope_at κ F) (scope_at κ S) cs (instance κ T))
with_new_at κ V F S cs T h =
    let e = type_at_types κ F cs T (arrows (types_in F cs) T) h refl in
    map_append (instance_variable κ) V (new_variable F S cs T ∷ []) ∙ ap (λ z. variables_at κ V ++ record { type = z; scope = scope_at κ S } ∷ []) e

unfoldable pub side_at : (κ : ℕ → Ty) (d : Declared) (E : List Ty) (V : List Variable) (s : Side) (T : Ty) → IsTypedSide d E V s T → IsTypedSide d (scope_at κ E) (variables_at κ V) s (instance κ T)
side_at κ d E V s T h = record {
  variable = instance_variable κ h.variable;
  is = get_at κ V s.id h.variable h.is;
  level = h.level ∙ sym (length_map (instance κ) h.variable.scope);
  type = type_at_types κ E s.arguments T h.variable.type h.arguments h.type;
  scope = prefix_at κ h.variable.scope E h.scope;
  arguments = eigens_at κ E s.arguments h.arguments;
  pair = length_map (instance κ) E ∙ h.pair;
}
