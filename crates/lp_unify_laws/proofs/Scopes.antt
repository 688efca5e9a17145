-- Contexts that grow keep the types of terms; contexts that shrink keep the types of terms in which what was lost does not stand.
use Rattle.std.proofs.Common.{◌≡◌, ℕ, zero, suc, ◌<◌, ◌≤◌, List, [], ◌∷◌, ◌++◌, length, ◌∙◌, refl, sym, ap, subst as transport, arith, true, false, if◌then◌else◌, nat_eq, Option, Some, None}
use Rattle.std.specs.Prelude.{slice_get}
use Rattle.lp_calculus.specs.Types.{Ty, arrow}
use Rattle.lp_calculus.specs.Term.{Term, index, atom, abs, app, apply, Atom, constant, integer, text, eigen, logic, param}
use Rattle.lp_calculus.specs.Fill.{Within, raise, fill, abstracted}
use Rattle.lp_calculus.specs.Typing.{HasType, eigen_type, atom_type, o_type}
use Rattle.lp_calculus.proofs.Subject.{typed_shift, typed_abstraction}
use Rattle.lp_model.specs.Patterns.{eigens}
use Rattle.lp_model.specs.Proofs.{Declared}
use Rattle.lp_model.specs.Answers.{Variable, type_of, over, IsPrefix}
pub use Rattle.lp_unify_laws.specs.Solutions.{IsMore}
use Rattle.lp_unify_laws.proofs.Sames.{same_number, number_same}

-- entries of lists that grow
pub get_append : {A : Type 0} (xs ys : List A) (i : ℕ) (x : A) → slice_get xs i ≡ Some x → slice_get (xs ++ ys) i ≡ Some x
get_append [] ys i x e = absurd (cc)
get_append (z ∷ xs) ys zero x e = e
get_append (z ∷ xs) ys (suc i) x e = get_append xs ys i x e

pub get_before : {A : Type 0} (xs ys : List A) (i : ℕ) (x : A) → i < length xs → slice_get (xs ++ ys) i ≡ Some x → slice_get xs i ≡ Some x
get_before [] ys i x h e = absurd (omega arith)
get_before (z ∷ xs) ys zero x h e = e
get_before (z ∷ xs) ys (suc i) x h e = let q : i < length xs = omega arith in get_before xs ys i x q e

pub get_last : {A : Type 0} (xs : List A) (x : A) → slice_get (xs ++ x ∷ []) (length xs) ≡ Some x
get_last [] x = refl
get_last (z ∷ xs) x = get_last xs x

pub got_before : {A : Type 0} (xs : List A) (i : ℕ) (x : A) → slice_get xs i ≡ Some x → i < length xs
got_before [] i x e = absurd (cc)
got_before (z ∷ xs) zero x e = omega arith
got_before (z ∷ xs) (suc i) x e = let q = got_before xs i x e in omega arith

pub length_append : {A : Type 0} (xs ys : List A) → length xs ≤ length (xs ++ ys)
length_append [] ys = omega arith
length_append (x ∷ xs) ys = let q = length_append xs ys in omega arith

pub length_last : {A : Type 0} (xs : List A) (x : A) → length (xs ++ x ∷ []) ≡ suc (length xs)
length_last [] x = refl
length_last (z ∷ xs) x = ap suc (length_last xs x)

pub append_append : {A : Type 0} (xs ys zs : List A) → (xs ++ ys) ++ zs ≡ xs ++ (ys ++ zs)
append_append [] ys zs = refl
append_append (x ∷ xs) ys zs = ap (λ z. x ∷ z) (append_append xs ys zs)

pub append_none : {A : Type 0} (xs : List A) → xs ≡ xs ++ []
append_none [] = refl
append_none (x ∷ xs) = ap (λ z. x ∷ z) (append_none xs)

-- more variables
pub more_none : (V : List Variable) → IsMore V V
more_none V = record { more = []; is = append_none V }

pub more_on : {V W X : List Variable} → IsMore V W → IsMore W X → IsMore V X
more_on {V = V} a b = record { more = a.more ++ b.more; is = b.is ∙ ap (λ z. z ++ b.more) a.is ∙ append_append V a.more b.more }

pub more_get : (V W : List Variable) → IsMore V W → (x : ℕ) (v : Variable) → slice_get V x ≡ Some v → slice_get W x ≡ Some v
more_get V W m x v e = transport (λ z. slice_get z x ≡ Some v) (sym m.is) (get_append V m.more x v e)

pub more_before : (V W : List Variable) → IsMore V W → (x : ℕ) (v : Variable) → x < length V → slice_get W x ≡ Some v → slice_get V x ≡ Some v
more_before V W m x v h e = get_before V m.more x v h (transport (λ z. slice_get z x ≡ Some v) m.is e)

-- types of atoms
abbrev pub in_scope : Declared → List Ty → List Variable → Atom → Option Ty
in_scope d E V a = atom_type (over d E V) a

abbrev pub Grows : (τ κ : Atom → Option Ty) → Type 0
Grows τ κ = (a : Atom) (A : Ty) → τ a ≡ Some A → κ a ≡ Some A

pub typed_grows : (τ κ : Atom → Option Ty) → Grows τ κ → (C : List Ty) (t : Term) (T : Ty) → HasType τ C t T → HasType κ C t T
typed_grows τ κ h C (index i) T w = w
typed_grows τ κ h C (atom a) T w = h a T w
typed_grows τ κ h C (abs b) T w = (w.0, w.1, w.2, typed_grows τ κ h (w.0 ∷ C) b w.1 w.3)
typed_grows τ κ h C (app t u) T w = (w.0, typed_grows τ κ h C t (arrow w.0 T) w.1, typed_grows τ κ h C u w.0 w.2)

-- the same where only some atoms stand in the term
pub typed_where : (P : Atom → Type 0) (τ κ : Atom → Option Ty) → ((a : Atom) → P a → (A : Ty) → τ a ≡ Some A → κ a ≡ Some A) → (n : ℕ) (C : List Ty) (t : Term) (T : Ty) → Within P n t → HasType τ C t T → HasType κ C t T
typed_where P τ κ h n C (index i) T p w = w
typed_where P τ κ h n C (atom a) T p w = h a p T w
typed_where P τ κ h n C (abs b) T p w = (w.0, w.1, w.2, typed_where P τ κ h (suc n) (w.0 ∷ C) b w.1 p w.3)
typed_where P τ κ h n C (app t u) T p w = (w.0, typed_where P τ κ h n C t (arrow w.0 T) p.0 w.1, typed_where P τ κ h n C u w.0 p.1 w.2)

-- terms put for the atoms that stand there
pub typed_fill_where : (P : Atom → Type 0) (τ κ : Atom → Option Ty) (C : List Ty) (f : Atom → Term) → ((a : Atom) → P a → (A : Ty) → τ a ≡ Some A → HasType κ C (f a) A) → (n : ℕ) (t : Term) (T : Ty) → Within P n t → HasType τ C t T → HasType κ C (fill f t) T
typed_fill_where P τ κ C f h n (index i) T p w = w
typed_fill_where P τ κ C f h n (atom a) T p w = h a p T w
typed_fill_where P τ κ C f h n (abs b) T p w = (w.0, w.1, w.2, typed_fill_where P τ κ (w.0 ∷ C) (raise f) (λ a q A e. typed_shift κ C w.0 (f a) A (h a q A e)) (suc n) b w.1 p w.3)
typed_fill_where P τ κ C f h n (app t u) T p w = (w.0, typed_fill_where P τ κ C f h n t (arrow w.0 T) p.0 w.1, typed_fill_where P τ κ C f h n u w.0 p.1 w.2)

-- eigenconstants
pub eigen_grows : (E F : List Ty) → IsPrefix E F → (k : ℕ) (A : Ty) → eigen_type E k ≡ Some A → eigen_type F k ≡ Some A
eigen_grows E F p zero A e = absurd (cc)
eigen_grows E F p (suc k) A e = transport (λ z. slice_get z k ≡ Some A) (sym p.is) (get_append E p.rest k A e)

pub eigen_falls : (E F : List Ty) → IsPrefix E F → (k : ℕ) (A : Ty) → k ≤ length E → eigen_type F k ≡ Some A → eigen_type E k ≡ Some A
eigen_falls E F p zero A h e = absurd (cc)
eigen_falls E F p (suc k) A h e = let q : k < length E = omega arith in get_before E p.rest k A q (transport (λ z. slice_get z k ≡ Some A) p.is e)

pub eigen_last : (E : List Ty) (A : Ty) → eigen_type (E ++ A ∷ []) (suc (length E)) ≡ Some A
eigen_last E A = get_last E A

pub prefix_none : (E : List Ty) → IsPrefix E E
prefix_none E = record { rest = []; is = append_none E }

pub prefix_more : (E F : List Ty) → IsPrefix E (E ++ F)
prefix_more E F = record { rest = F; is = refl }

pub prefix_on : {E F G : List Ty} → IsPrefix E F → IsPrefix F G → IsPrefix E G
prefix_on {E = E} a b = record { rest = a.rest ++ b.rest; is = b.is ∙ ap (λ z. z ++ b.rest) a.is ∙ append_append E a.rest b.rest }

pub prefix_length : (E F : List Ty) → IsPrefix E F → length E ≤ length F
prefix_length E F p = transport (λ z. length E ≤ length z) (sym p.is) (length_append E p.rest)

-- of two beginnings of one list the shorter is a beginning of the longer
pub prefix_between : (S T F : List Ty) → IsPrefix S F → IsPrefix T F → length S ≤ length T → IsPrefix S T
prefix_between [] T F p q h = record { rest = T; is = refl }
prefix_between (s ∷ S) [] F p q h = absurd (omega arith)
prefix_between (s ∷ S) (t ∷ T) F p q h =
    let e : s ∷ (S ++ p.rest) ≡ t ∷ (T ++ q.rest) = sym p.is ∙ q.is in
    let i : s ≡ t = cc in
    let j : S ++ p.rest ≡ T ++ q.rest = cc in
    let l : length S ≤ length T = omega arith in
    let r = prefix_between S T (T ++ q.rest) (record { rest = p.rest; is = sym j }) (record { rest = q.rest; is = refl }) l in
    record { rest = r.rest; is = (λ k. sym i k ∷ r.is k) }

pub variable_grows : (V W : List Variable) → IsMore V W → (x l : ℕ) (A : Ty) → type_of (slice_get V x) l ≡ Some A → type_of (slice_get W x) l ≡ Some A
variable_grows V W m x l A e = elim (slice_get V x) as (λ o. slice_get V x ≡ o → type_of o l ≡ Some A → type_of (slice_get W x) l ≡ Some A) [
  | None ↦ λ p q. absurd (cc)
  | Some v ↦ λ p q. transport (λ o. type_of o l ≡ Some A) (sym (more_get V W m x v p)) q
] refl e

-- a variable that has a type
pub record IsOfType (V : List Variable) (x l : ℕ) (A : Ty) : Type 0 where
  pub variable : Variable
  pub is : slice_get V x ≡ Some variable
  pub level : l ≡ length variable.scope
  pub type : variable.type ≡ A

pub variable_of : (V : List Variable) (x l : ℕ) (A : Ty) → type_of (slice_get V x) l ≡ Some A → IsOfType V x l A
variable_of V x l A e = elim (slice_get V x) as (λ o. slice_get V x ≡ o → type_of o l ≡ Some A → IsOfType V x l A) [
  | None ↦ λ p q. absurd (cc)
  | Some v ↦ λ p q. elim (nat_eq l (length v.scope)) as (λ b. nat_eq l (length v.scope) ≡ b → (if b then Some v.type else None) ≡ Some A → IsOfType V x l A) [
    | true ↦ λ i j. let z : v.type ≡ A = cc in record { variable = v; is = p; level = same_number l (length v.scope) i; type = z }
    | false ↦ λ i j. absurd (cc)
  ] refl q
] refl e

pub of_variable : (V : List Variable) (x : ℕ) (v : Variable) → slice_get V x ≡ Some v → type_of (slice_get V x) (length v.scope) ≡ Some v.type
of_variable V x v e = transport (λ o. type_of o (length v.scope) ≡ Some v.type) (sym e) (ap (λ b. if b then Some v.type else None) (number_same (length v.scope)))

pub scope_grows : (d : Declared) (E F : List Ty) (V W : List Variable) → IsPrefix E F → IsMore V W → Grows (in_scope d E V) (in_scope d F W)
scope_grows d E F V W p m (eigen k) A e = eigen_grows E F p k A e
scope_grows d E F V W p m (logic x l) A e = variable_grows V W m x l A e
scope_grows d E F V W p m (constant c ts) A e = e
scope_grows d E F V W p m (integer z) A e = e
scope_grows d E F V W p m (text s) A e = e
scope_grows d E F V W p m (param k T) A e = e

pub none_more : (V : List Variable) → IsMore [] V
none_more V = record { more = V; is = refl }

-- eigenconstants on which a variable stands
abbrev pub arrows : List Ty → Ty → Ty
arrows [] T = T
arrows (A ∷ As) T = arrow A (arrows As T)

abbrev pub or_o : Option Ty → Ty
or_o None = o_type
or_o (Some A) = A

abbrev pub types_in : List Ty → List ℕ → List Ty
types_in F [] = []
types_in F (k ∷ ks) = or_o (eigen_type F k) ∷ types_in F ks

abbrev pub AreEigens : List Ty → List ℕ → Type 0
AreEigens F [] = Unit {0}
AreEigens F (k ∷ ks) = (eigen_type F k ≡ Some (or_o (eigen_type F k))) × AreEigens F ks

eigen_is : (o : Option Ty) (A : Ty) → o ≡ Some A → o ≡ Some (or_o o)
eigen_is None A e = absurd (cc)
eigen_is (Some B) A e = refl

pub or_o_is : (o : Option Ty) (A : Ty) → o ≡ Some A → A ≡ or_o o
or_o_is None A e = absurd (cc)
or_o_is (Some B) A e = cc

pub pattern_parts : (d : Declared) (F : List Ty) (V : List Variable) (b : List ℕ) (h : Term) (T : Ty) → HasType (in_scope d F V) [] (apply h (eigens b)) T → HasType (in_scope d F V) [] h (arrows (types_in F b) T) × AreEigens F b
pattern_parts d F V [] h T w = (w, tt)
pattern_parts d F V (k ∷ b) h T w =
    let r = pattern_parts d F V b (app h (atom (eigen k))) T w in
    let A = r.0.0 in
    let e : A ≡ or_o (eigen_type F k) = or_o_is (eigen_type F k) A r.0.2 in
    (transport (λ z. HasType (in_scope d F V) [] h (arrow z (arrows (types_in F b) T))) e r.0.1, (eigen_is (eigen_type F k) A r.0.2, r.1))

pub pattern_typed : (d : Declared) (F : List Ty) (V : List Variable) (b : List ℕ) (h : Term) (T : Ty) → HasType (in_scope d F V) [] h (arrows (types_in F b) T) → AreEigens F b → HasType (in_scope d F V) [] (apply h (eigens b)) T
pattern_typed d F V [] h T w e = w
pattern_typed d F V (k ∷ b) h T w e = pattern_typed d F V b (app h (atom (eigen k))) T (or_o (eigen_type F k), w, e.0) e.1

pub abstracted_typed : (d : Declared) (F : List Ty) (V : List Variable) (b : List ℕ) (t : Term) (T : Ty) → AreEigens F b → HasType (in_scope d F V) [] t T → HasType (in_scope d F V) [] (abstracted b t) (arrows (types_in F b) T)
abstracted_typed d F V [] t T e w = w
abstracted_typed d F V (k ∷ b) t T e w = typed_abstraction (in_scope d F V) k (or_o (eigen_type F k)) e.0 (abstracted b t) (arrows (types_in F b) T) (abstracted_typed d F V b t T e.1 w)
