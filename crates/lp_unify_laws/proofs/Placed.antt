-- Each pattern that a scan of a typed term finds is typed where it stands, and what takes its place is a variable with a type.
use Rattle.std.proofs.Common.{◌≡◌, ℕ, suc, ◌≤◌, min, List, [], ◌∷◌, ◌++◌, length, ◌∙◌, refl, sym, ap, subst as transport, arith, Bool, true, false, if◌then◌else◌, Option, Some, None}
use Rattle.std.specs.Prelude.{slice_get, nat_le}
use Rattle.std.proofs.lemmas.Bool.Decides.{nat_tests}
use Rattle.lp_calculus.specs.Types.{Ty}
use Rattle.lp_calculus.specs.Term.{Term, atom, abs, substitute, Atom, constant, integer, text, eigen, logic, param}
use Rattle.lp_calculus.specs.Fill.{Within}
use Rattle.lp_calculus.specs.Typing.{HasType, HaveTypes, eigen_type}
use Rattle.lp_calculus.proofs.Steps.{within_reduces, within_step}
use Rattle.lp_calculus.proofs.Subject.{typed_reduces}
use Rattle.lp_calculus.proofs.Typings.{typed_substitute, typed_parts}
use Rattle.lp_calculus.specs.Convert.{here, by_beta}
use Rattle.lp_model.specs.Patterns.{eigens, chosen}
use Rattle.lp_model.specs.Scan.{Side, Pattern, pattern, pattern_term}
use Rattle.lp_model.specs.Proofs.{Declared}
use Rattle.lp_model.specs.Answers.{Variable, IsPrefix, IsScopedAtom}
use Rattle.lp_unify_laws.proofs.Closings.{WithinAll, within_apply}
use Rattle.lp_unify_laws.proofs.Scans.{Scans, ScansAll, scans_abs, scans_rigid, scans_pattern, scans_flexible, scans_none, scans_more}
use Rattle.lp_unify_laws.proofs.Scopes.{IsMore, more_none, more_get, in_scope, typed_grows, eigen_grows, eigen_last, variable_of, scope_grows, prefix_none, prefix_more, prefix_between, append_append, length_last, arrows, types_in, or_o, or_o_is, AreEigens, pattern_parts}
use Rattle.lp_unify_laws.proofs.NewVariables.{IsTypedClosing, AreClosedIn, closed_arrows}
use Rattle.lp_calculus.specs.Closed.{IsClosedType}
use Rattle.lp_unify_laws.proofs.TypedBindings.{IsTypedTerm}

-- the scopes of variables alone, since what stands below abstractions may have more eigenconstants
abbrev pub IsScopedVariable : List Variable → List Ty → Atom → Type 0
IsScopedVariable V E (logic x l) = IsScopedAtom V E (logic x l)
IsScopedVariable V E (eigen k) = Unit {0}
IsScopedVariable V E (constant c ts) = Unit {0}
IsScopedVariable V E (integer z) = Unit {0}
IsScopedVariable V E (text s) = Unit {0}
IsScopedVariable V E (param k T) = Unit {0}

pub scoped_variable : (V : List Variable) (E : List Ty) (a : Atom) → IsScopedAtom V E a → IsScopedVariable V E a
scoped_variable V E (logic x l) h = h
scoped_variable V E (eigen k) h = tt
scoped_variable V E (constant c ts) h = tt
scoped_variable V E (integer z) h = tt
scoped_variable V E (text s) h = tt
scoped_variable V E (param k T) h = tt

pub record IsPlaced (d : Declared) (E : List Ty) (V : List Variable) (p : Pattern) : Type 0 where
  pub locals : List Ty
  pub type : Ty
  pub typed : HasType (in_scope d (E ++ locals) V) [] (pattern_term p) type
  pub scoped : IsScopedAtom V E (logic p.id p.level)

abbrev pub ArePlaced : Declared → List Ty → List Variable → List Pattern → Type 0
ArePlaced d E V [] = Unit {0}
ArePlaced d E V (p ∷ ps) = IsPlaced d E V p × ArePlaced d E V ps

placed_append : (d : Declared) (E : List Ty) (V : List Variable) (ps qs : List Pattern) → ArePlaced d E V ps → ArePlaced d E V qs → ArePlaced d E V (ps ++ qs)
placed_append d E V [] qs h k = k
placed_append d E V (p ∷ ps) qs h k = (h.0, placed_append d E V ps qs h.1 k)

-- an abstraction opened with a new eigenconstant of its type
pub opened_typed : (d : Declared) (F : List Ty) (V : List Variable) (k : ℕ) (b : Term) (A B : Ty) → length F ≡ k → HasType (in_scope d F V) (A ∷ []) b B → HasType (in_scope d (F ++ A ∷ []) V) [] (substitute (atom (eigen (suc k))) b) B
opened_typed d F V k b A B e w =
    let G = F ++ A ∷ [] in
    typed_substitute (in_scope d G V) [] (atom (eigen (suc k))) b A B (transport (λ z. eigen_type G (suc z) ≡ Some A) e (eigen_last F A))
    (typed_grows (in_scope d F V) (in_scope d G V) (scope_grows d F G V V (prefix_more F (A ∷ [])) (more_none V)) (A ∷ []) b B w)

pub opened_scoped : (V : List Variable) (E : List Ty) (k : ℕ) (b : Term) → Within (IsScopedVariable V E) 0 (abs b) → Within (IsScopedVariable V E) 0 (substitute (atom (eigen k)) b)
opened_scoped V E k b w = within_step (IsScopedVariable V E) 0 (here (by_beta b (atom (eigen k)))) (w, tt)

mutual
  pub scans_placed : (s : Side) (next : ℕ) (d : Declared) (E : List Ty) (V : List Variable) → {inside : Bool} {k : ℕ} {t : Term} {ps : List Pattern} →
      Scans s next inside k t ps → (L : List Ty) (T : Ty) → length (E ++ L) ≡ k → HasType (in_scope d (E ++ L) V) [] t T → Within
      (IsScopedVariable V E) 0 t → ArePlaced d E V ps
  scans_placed s next d E V (scans_abs {k = k} b w r i) L T e ty sc =
      let z = typed_reduces (in_scope d (E ++ L) V) [] r T ty in
      let o = opened_typed d (E ++ L) V k b z.0 z.1 e z.3 in
      let q : (E ++ L) ++ z.0 ∷ [] ≡ E ++ (L ++ z.0 ∷ []) = append_append E L (z.0 ∷ []) in
      scans_placed s next d E V i (L ++ z.0 ∷ []) z.1 (ap length (sym q) ∙ length_last (E ++ L) z.0 ∙ ap suc e)
      (transport (λ G. HasType (in_scope d G V) [] (substitute (atom (eigen (suc k))) b) z.1) q o)
      (opened_scoped V E (suc k) b (within_reduces (IsScopedVariable V E) 0 r sc))
  scans_placed s next d E V (scans_rigid h ts w r g a i) L T e ty sc =
      let z = typed_parts (in_scope d (E ++ L) V) [] h ts T (typed_reduces (in_scope d (E ++ L) V) [] r T ty) in
      all_placed s next d E V i L z.0 T e z.2 (within_apply (IsScopedVariable V E) ts h (within_reduces (IsScopedVariable V E) 0 r sc)).1
  scans_placed s next d E V (scans_pattern y m b r o f) L T e ty sc = (
    record {
      locals = L;
      type = T;
      typed = typed_reduces (in_scope d (E ++ L) V) [] r T ty;
      scoped = (within_apply (IsScopedVariable V E) (eigens b) (atom (logic y m)) (within_reduces (IsScopedVariable V E) 0 r sc)).0;
    },
    tt,
  )
  scans_placed s next d E V (scans_flexible y m ts r w o f i) L T e ty sc =
      let z = typed_parts (in_scope d (E ++ L) V) [] (atom (logic y m)) ts T (typed_reduces (in_scope d (E ++ L) V) [] r T ty) in
      all_placed s next d E V i L z.0 T e z.2 (within_apply (IsScopedVariable V E) ts (atom (logic y m)) (within_reduces (IsScopedVariable V E) 0 r sc)).1

  pub all_placed : (s : Side) (next : ℕ) (d : Declared) (E : List Ty) (V : List Variable) → {inside : Bool} {k : ℕ} {ts : List Term}
      {ps : List Pattern} → ScansAll s next inside k ts ps → (L : List Ty) (A T : Ty) → length (E ++ L) ≡ k → HaveTypes (in_scope d (E ++ L) V) [] A
      ts T → WithinAll (IsScopedVariable V E) ts → ArePlaced d E V ps
  all_placed s next d E V scans_none L A T e ty sc = tt
  all_placed s next d E V (scans_more ps qs q i is) L A T e ty sc =
      transport (ArePlaced d E V) (sym q) (placed_append d E V ps qs (scans_placed s next d E V i L ty.0 e ty.3 sc.0) (all_placed s next d E V is L ty.1 T e ty.4 sc.1))

-- a side of a pair in a context
pub record IsTypedSide (d : Declared) (E : List Ty) (V : List Variable) (s : Side) (T : Ty) : Type 0 where
  pub variable : Variable
  pub is : slice_get V s.id ≡ Some variable
  pub level : s.level ≡ length variable.scope
  pub type : variable.type ≡ arrows (types_in E s.arguments) T
  pub scope : IsPrefix variable.scope E
  pub arguments : AreEigens E s.arguments
  pub pair : length E ≡ s.pair

pub side_typed : (d : Declared) (E : List Ty) (V : List Variable) (s : Side) (T : Ty) → length E ≡ s.pair → IsTypedTerm d E V (pattern_term (pattern s.id s.level s.arguments)) T → IsTypedSide d E V s T
side_typed d E V s T e h =
    let r = pattern_parts d E V s.arguments (atom (logic s.id s.level)) T h.typed in
    let v = variable_of V s.id s.level (arrows (types_in E s.arguments) T) r.0 in
    let w = (within_apply (IsScopedAtom V E) (eigens s.arguments) (atom (logic s.id s.level)) h.scoped).0 in
    record { variable = v.variable; is = v.is; level = v.level; type = v.type; scope = w v.variable v.is; arguments = r.1; pair = e }

pub side_more : (d : Declared) (E : List Ty) (V W : List Variable) (s : Side) (T : Ty) → IsMore V W → IsTypedSide d E V s T → IsTypedSide d E W s T
side_more d E V W s T m h = record { variable = h.variable; is = more_get V W m s.id h.variable h.is; level = h.level; type = h.type; scope = h.scope; arguments = h.arguments; pair = h.pair }

-- eigenconstants of a part of a context
some_or : (o : Option Ty) (A : Ty) → o ≡ Some A → o ≡ Some (or_o o)
some_or None A e = absurd (cc)
some_or (Some B) A e = refl

pub eigens_grow : (E F : List Ty) → IsPrefix E F → (ks : List ℕ) → AreEigens E ks → AreEigens F ks
eigens_grow E F p [] h = tt
eigens_grow E F p (k ∷ ks) h = (some_or (eigen_type F k) (or_o (eigen_type E k)) (eigen_grows E F p k (or_o (eigen_type E k)) h.0), eigens_grow E F p ks h.1)

pub eigens_chosen : (F : List Ty) (f : ℕ → Bool) (ks : List ℕ) → AreEigens F ks → AreEigens F (chosen f ks)
eigens_chosen F f [] h = tt
eigens_chosen F f (k ∷ ks) h = elim (f k) as (λ b. AreEigens F (if b then k ∷ chosen f ks else chosen f ks)) [
  | true ↦ (h.0, eigens_chosen F f ks h.1)
  | false ↦ eigens_chosen F f ks h.1
]

pub eigens_append : (F : List Ty) (ks js : List ℕ) → AreEigens F ks → AreEigens F js → AreEigens F (ks ++ js)
eigens_append F [] js h k = k
eigens_append F (c ∷ ks) js h k = (h.0, eigens_append F ks js h.1 k)

-- and their types
pub closed_grow : (E F : List Ty) → IsPrefix E F → (ks : List ℕ) → AreEigens E ks → AreClosedIn E ks → AreClosedIn F ks
closed_grow E F p [] h c = tt
closed_grow E F p (k ∷ ks) h c = (transport IsClosedType (or_o_is (eigen_type F k) (or_o (eigen_type E k)) (eigen_grows E F p k (or_o (eigen_type E k)) h.0)) c.0, closed_grow E F p ks h.1 c.1)

pub closed_chosen : (F : List Ty) (f : ℕ → Bool) (ks : List ℕ) → AreClosedIn F ks → AreClosedIn F (chosen f ks)
closed_chosen F f [] h = tt
closed_chosen F f (k ∷ ks) h = elim (f k) as (λ b. AreClosedIn F (if b then k ∷ chosen f ks else chosen f ks)) [
  | true ↦ (h.0, closed_chosen F f ks h.1)
  | false ↦ closed_chosen F f ks h.1
]

pub closed_append : (F : List Ty) (ks js : List ℕ) → AreClosedIn F ks → AreClosedIn F js → AreClosedIn F (ks ++ js)
closed_append F [] js h k = k
closed_append F (c ∷ ks) js h k = (h.0, closed_append F ks js h.1 k)

-- what a closing that is typed says of the types of a variable's arguments
pub side_closed : (d : Declared) (E : List Ty) (V : List Variable) (s : Side) (T : Ty) → (h : IsTypedSide d E V s T) → (σ : ℕ → ℕ → Term) → IsTypedClosing d V σ → AreClosedIn E s.arguments
side_closed d E V s T h σ g = (closed_arrows E s.arguments T (transport IsClosedType h.type (g s.id h.variable h.is).type_closed)).0

-- the scope of the new variable
pub record Scope (F S T : List Ty) (l : ℕ) : Type 0 where
  pub scope : List Ty
  pub prefix : IsPrefix scope F
  pub inner : IsPrefix scope T
  pub length_is : length scope ≡ l

pub shorter : (F S T : List Ty) → IsPrefix S F → IsPrefix T F → Scope F S T (min (length S) (length T))
shorter F S T p q = elim (nat_le (length T) (length S)) as (λ b. nat_le (length T) (length S) ≡ b → Scope F S T (min (length S) (length T))) [
  | true ↦ λ e. let i : length T ≤ length S = grind (arith, nat_tests) in let j : length T ≡ min (length S) (length T) = omega arith in record { scope = T; prefix = q; inner = prefix_none T; length_is = j }
  | false ↦ λ e. let i : length S ≤ length T = grind (arith, nat_tests) in let j : length S ≡ min (length S) (length T) = omega arith in record { scope = S; prefix = p; inner = prefix_between S T F p q i; length_is = j }
] refl
