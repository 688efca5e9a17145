-- The variable that takes the place of a pattern has a type, of which the binding and the new closing are.
use Rattle.std.proofs.Common.{◌≡◌, ℕ, zero, suc, ◌<◌, ◌≤◌, List, [], ◌∷◌, ◌++◌, length, ◌∙◌, refl, sym, ap, subst as transport, arith, Bool, true, false, ◌||◌, Some, ◌⊎◌, inl, inr}
use Rattle.std.specs.Prelude.{slice_get, nat_le}
use Rattle.std.proofs.lemmas.Bool.Decides.{nat_tests}
use Rattle.lp_calculus.specs.Types.{Ty}
use Rattle.lp_calculus.specs.Term.{Term, atom, apply, Atom, constant, integer, text, eigen, logic, param}
use Rattle.lp_calculus.specs.Convert.{ReducesTo}
use Rattle.lp_calculus.specs.Fill.{Within, abstracted}
use Rattle.lp_calculus.specs.Typing.{HasType}
use Rattle.lp_calculus.proofs.Fills.{within_more}
use Rattle.lp_calculus.proofs.Subject.{typed_reduces}
use Rattle.lp_model.specs.Patterns.{eigens, member}
use Rattle.lp_model.specs.Scan.{pattern, pattern_term, renewed}
use Rattle.lp_model.specs.Proofs.{Declared, IsWitness}
use Rattle.lp_calculus.specs.Closed.{IsClosedType}
pub use Rattle.lp_unify_laws.proofs.Witnesses.{witness_typed, AreClosedIn, closed_arrows}
use Rattle.lp_unify_laws.proofs.Witnesses.{IsGroundAtom, witness_ground, ground_abstracted, witness_of, arrows_closed}
use Rattle.lp_model.specs.Answers.{Variable, type_of, IsPrefix, IsScopedAtom}
use Rattle.lp_unify_laws.specs.Levels.{IsLevelAtom, IsPairAtom}
pub use Rattle.lp_unify_laws.specs.Solutions.{IsTypedClosing, IsTypedBinding}
use Rattle.lp_unify_laws.proofs.Abstractions.{Avoids, And, within_abstracted}
use Rattle.lp_unify_laws.proofs.News.{Among, Reach, Inside, inside_value, avoids_member, extended, extended_at, extended_old, abstracted_closed, renewed_scoped}
use Rattle.lp_unify_laws.proofs.Scopes.{get_last, IsMore, in_scope, typed_grows, typed_where, eigen_falls, of_variable, scope_grows, more_none, arrows, types_in, AreEigens, pattern_typed, abstracted_typed}

-- y, of level m, on b, in the context F, and what is to take its place: a variable of level l on cs
pub record IsNew (V : List Variable) (F S : List Ty) (y m l : ℕ) (b cs : List ℕ) (T : Ty) : Type 0 where
  pub variable : Variable
  pub is : slice_get V y ≡ Some variable
  pub level : m ≡ length variable.scope
  pub type : variable.type ≡ arrows (types_in F b) T
  pub arguments : AreEigens F b
  pub own : IsPrefix variable.scope F
  pub scope : IsPrefix S F
  pub inner : IsPrefix S variable.scope
  pub length : length S ≡ l
  pub chosen : AreEigens F cs
  pub low : l ≤ m
  pub reach : Reach m b cs

abbrev pub new_variable : (F S : List Ty) → (cs : List ℕ) → (T : Ty) → Variable
new_variable F S cs T = record { type = arrows (types_in F cs) T; scope = S }

abbrev pub with_new : List Variable → Variable → List Variable
with_new V v = V ++ v ∷ []

pub one_more : (V : List Variable) (v : Variable) → IsMore V (with_new V v)
one_more V v = record { more = v ∷ []; is = refl }

-- eigenconstants up to the length of a scope
falls_atom : (d : Declared) (S F : List Ty) (V : List Variable) → IsPrefix S F → (next : ℕ) (a : Atom) → IsPairAtom next (length S) a → (A : Ty) → in_scope d F V a ≡ Some A → in_scope d S V a ≡ Some A
falls_atom d S F V p next (eigen k) h A e = eigen_falls S F p k A h e
falls_atom d S F V p next (logic x l) h A e = e
falls_atom d S F V p next (constant c ts) h A e = e
falls_atom d S F V p next (integer z) h A e = e
falls_atom d S F V p next (text s) h A e = e
falls_atom d S F V p next (param k T) h A e = e

pub scope_falls : (d : Declared) (S F : List Ty) (V : List Variable) → IsPrefix S F → (next : ℕ) (t : Term) (T : Ty) → Within (IsPairAtom next (length S)) 0 t → HasType (in_scope d F V) [] t T → HasType (in_scope d S V) [] t T
scope_falls d S F V p next t T w ty = typed_where (IsPairAtom next (length S)) (in_scope d F V) (in_scope d S V) (falls_atom d S F V p next) 0 [] t T w ty

level_pair : (n : ℕ) (a : Atom) → IsLevelAtom n a → IsPairAtom 0 n a
level_pair n (eigen k) h = h
level_pair n (logic x l) h = absurd h
level_pair n (constant c ts) h = tt
level_pair n (integer z) h = tt
level_pair n (text s) h = tt
level_pair n (param k T) h = tt

pub level_falls : (d : Declared) (S F : List Ty) (V : List Variable) → IsPrefix S F → (t : Term) (T : Ty) → Within (IsLevelAtom (length S)) 0 t → HasType (in_scope d F V) [] t T → HasType (in_scope d S V) [] t T
level_falls d S F V p t T w ty = scope_falls d S F V p 0 t T (within_more (IsLevelAtom (length S)) (IsPairAtom 0 (length S)) 0 0 (level_pair (length S)) (omega arith) t w) ty

-- what stands in the value
inside_scoped : (V : List Variable) (v : Variable) (E : List Ty) (m l : ℕ) (b : List ℕ) → m ≡ length E → IsPrefix v.scope E → (a : Atom) → Inside (length V) m l b a × Avoids b a → IsScopedAtom (with_new V v) E a
inside_scoped V v E m l b e p (eigen k) h =
    let q = left_of (nat_le k m) (member k b) h.0 (avoids_member k b h.1) in
    let r : k ≤ m = grind (arith, nat_tests) in
    transport (λ z. k ≤ z) e r
  where
    left_of : (a c : Bool) → (a || c) ≡ true → c ≡ false → a ≡ true
    left_of true c i j = refl
    left_of false c i j = absurd (cc)
inside_scoped V v E m l b e p (logic x j) h = λ w q.
    let i : slice_get (with_new V v) x ≡ Some v = transport (λ z. slice_get (with_new V v) z ≡ Some v) (sym h.0.0) (get_last V v) in
    let o : v ≡ w = cc in
    transport (λ z. IsPrefix z.scope E) o p
inside_scoped V v E m l b e p (constant c ts) h = tt
inside_scoped V v E m l b e p (integer z) h = tt
inside_scoped V v E m l b e p (text s) h = tt
inside_scoped V v E m l b e p (param k T) h = tt

pub new_binding : (d : Declared) (V : List Variable) (F S : List Ty) (y m l : ℕ) (b cs : List ℕ) (T : Ty) → IsNew V F S y m l b cs T → IsTypedBinding d (with_new V (new_variable F S cs T)) (renewed (length V) y m l b cs)
new_binding d V F S y m l b cs T i =
    let v = new_variable F S cs T in
    let W = with_new V v in
    let next = length V in
    let o = i.variable in
    let head : HasType (in_scope d F W) [] (atom (logic next l)) (arrows (types_in F cs) T) = transport (λ z. type_of (slice_get W next) z ≡ Some v.type) i.length (of_variable W next v (get_last V v)) in
    let body = pattern_typed d F W cs (atom (logic next l)) T head i.chosen in
    let value = abstracted_typed d F W b (pattern_term (pattern next l cs)) T i.arguments body in
    let standing : Within (IsPairAtom (suc next) (length o.scope)) 0 (renewed next y m l b cs).value = transport (λ z. Within (IsPairAtom (suc next) z) 0 (renewed next y m l b cs).value) i.level (renewed_scoped next y m l b cs i.low i.reach) in
    record {
      variable = o;
      is = (one_more_get V v y o i.is);
      level = i.level;
      typed = transport (HasType (in_scope d o.scope W) [] (renewed next y m l b cs).value) (sym i.type) (scope_falls d o.scope F W i.own (suc next) (renewed next y m l b cs).value (arrows (types_in F b) T) standing value);
      scoped = within_more (And (Inside next m l b) (Avoids b)) (IsScopedAtom W o.scope) 0 0 (inside_scoped V v o.scope m l b i.level i.inner) (omega arith) (renewed next y m l b cs).value
          (within_abstracted (Inside next m l b) b (pattern_term (pattern next l cs)) (inside_value next m l b cs i.reach));
    }
  where
    one_more_get : (V : List Variable) (v : Variable) (x : ℕ) (w : Variable) → slice_get V x ≡ Some w → slice_get (with_new V v) x ≡ Some w
    one_more_get [] v x w e = absurd (cc)
    one_more_get (u ∷ V) v zero w e = e
    one_more_get (u ∷ V) v (suc x) w e = one_more_get V v x w e

-- an entry of the longer list is an old one or the new one
last_or_old : (V : List Variable) (v : Variable) (x : ℕ) (w : Variable) → slice_get (with_new V v) x ≡ Some w → ((slice_get V x ≡ Some w) × (x < length V)) ⊎ ((x ≡ length V) × (w ≡ v))
last_or_old [] v zero w e = let q : w ≡ v = cc in inr (refl, q)
last_or_old [] v (suc x) w e = absurd (cc)
last_or_old (u ∷ V) v zero w e = let q : zero < suc (length V) = omega arith in inl (e, q)
last_or_old (u ∷ V) v (suc x) w e = elim (last_or_old V v x w e) [
  | inl h ↦ let p : x < length V = h.1 in let q : suc x < suc (length V) = omega arith in inl (h.0, q)
  | inr h ↦ inr (ap suc h.0, h.1)
]

pub new_closing : (d : Declared) (V : List Variable) (F S : List Ty) (y m l : ℕ) (b cs : List ℕ) (T : Ty) → IsNew V F S y m l b cs T → (σ : ℕ → ℕ → Term) (w : Term) → IsTypedClosing d V σ → AreClosedIn F cs → ReducesTo (apply (σ y m) (eigens b)) w → Within (Among l cs) 0 w →
    IsTypedClosing d (with_new V (new_variable F S cs T)) (extended σ (length V) l (abstracted cs w))
new_closing d V F S y m l b cs T i σ w g k r q x v e = elim (last_or_old V (new_variable F S cs T) x v e) [
  | inl h ↦ transport (λ z. IsWitness d v.scope z v.type) (sym (extended_old σ (length V) l (abstracted cs w) x (length v.scope) h.1)) (g x v h.0)
  | inr h ↦ fresh h.0 h.1
]
  where
    o : Variable
    o = i.variable

    old : HasType (in_scope d F []) [] (σ y m) (arrows (types_in F b) T)
    old = transport (λ z. HasType (in_scope d F []) [] (σ y z) (arrows (types_in F b) T)) (sym i.level)
        (typed_grows (in_scope d o.scope []) (in_scope d F []) (scope_grows d o.scope F [] [] i.own (more_none [])) [] (σ y (length o.scope)) (arrows (types_in F b) T)
        (transport (HasType (in_scope d o.scope []) [] (σ y (length o.scope))) i.type (witness_typed d o.scope (σ y (length o.scope)) o.type (g y o i.is))))

    value : HasType (in_scope d S []) [] (abstracted cs w) (arrows (types_in F cs) T)
    value = level_falls d S F [] i.scope (abstracted cs w) (arrows (types_in F cs) T)
        (transport (λ z. Within (IsLevelAtom z) 0 (abstracted cs w)) (sym i.length) (abstracted_closed l cs w q))
        (abstracted_typed d F [] cs w T i.chosen (typed_reduces (in_scope d F []) [] r T (pattern_typed d F [] b (σ y m) T old i.arguments)))

    standing : Within (IsLevelAtom (length S)) 0 (abstracted cs w)
    standing = transport (λ z. Within (IsLevelAtom z) 0 (abstracted cs w)) (sym i.length) (abstracted_closed l cs w q)

    ground : Within IsGroundAtom 0 (abstracted cs w)
    ground = ground_abstracted (σ y m) b cs w (transport (λ z. Within IsGroundAtom 0 (σ y z)) (sym i.level) (witness_ground d o.scope (σ y (length o.scope)) o.type (g y o i.is))) r

    closed : IsClosedType (arrows (types_in F cs) T)
    closed = arrows_closed F cs T k (closed_arrows F b T (transport IsClosedType i.type (g y o i.is).type_closed)).1

    fresh : x ≡ length V → v ≡ new_variable F S cs T → IsWitness d v.scope (extended σ (length V) l (abstracted cs w) x (length v.scope)) v.type
    fresh p u = transport (λ z. IsWitness d z.scope (extended σ (length V) l (abstracted cs w) x (length z.scope)) z.type) (sym u)
        (transport (λ z. IsWitness d S z (arrows (types_in F cs) T)) (sym (extended_at σ (length V) l (abstracted cs w)) ∙ (λ j. extended σ (length V) l (abstracted cs w) (sym p j) (sym i.length j)))
        (witness_of d S (abstracted cs w) (arrows (types_in F cs) T) value standing ground closed))
