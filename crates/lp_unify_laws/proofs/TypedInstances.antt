-- A typed pair is typed with types for its type variables, over variables with these types.
use Rattle.std.proofs.Common.{◌≡◌, ℕ, zero, suc, ◌≤◌, List, [], ◌∷◌, ◌++◌, map, length, ◌∙◌, refl, sym, ap, subst as transport, Bool, true, false, nat_eq, if◌then◌else◌, Option, Some, None}
use Rattle.std.specs.Prelude.{slice_get, option_map}
use Rattle.lp_calculus.specs.Types.{Ty, instance}
use Rattle.lp_calculus.specs.Term.{Term, Atom, index, atom, abs, app, constant, integer, text, eigen, logic, param}
use Rattle.lp_calculus.specs.Fill.{Within}
use Rattle.lp_calculus.specs.Instance.{instance_atom, instance_term, instance_context}
use Rattle.lp_calculus.specs.Typing.{HasType, atom_type}
use Rattle.lp_calculus.proofs.Typings.{instance_typed}
use Rattle.lp_model.specs.Pair.{Pair}
use Rattle.lp_model.specs.Proofs.{Declared}
use Rattle.lp_model.specs.Answers.{Variable, type_of, over, IsPrefix, IsScopedAtom, PairTyping, IsTypedPair, AreTypedPairs}
use Rattle.lp_unify_laws.specs.Solutions.{instance_pair, instance_variable, instance_typing, at_types}
use Rattle.lp_unify_laws.proofs.Scopes.{in_scope, Grows, typed_grows}

pub length_map : {A B : Type 0} (f : A → B) (xs : List A) → length (map f xs) ≡ length xs
length_map f [] = refl
length_map f (x ∷ xs) = ap suc (length_map f xs)

pub map_append : {A B : Type 0} (f : A → B) (xs ys : List A) → map f (xs ++ ys) ≡ map f xs ++ map f ys
map_append f [] ys = refl
map_append f (x ∷ xs) ys = ap (λ z. f x ∷ z) (map_append f xs ys)

pub get_map : {A B : Type 0} (f : A → B) (xs : List A) (i : ℕ) → slice_get (map f xs) i ≡ option_map f (slice_get xs i)
get_map f [] i = refl
get_map f (x ∷ xs) zero = refl
get_map f (x ∷ xs) (suc i) = get_map f xs i

pub length_variables : (θ : ℕ → Ty) (V : List Variable) → length (map (instance_variable θ) V) ≡ length V
length_variables θ V = length_map (instance_variable θ) V

if_some : (b : Bool) (f : Ty → Ty) (T : Ty) → option_map f (if b then Some T else None) ≡ (if b then Some (f T) else None)
if_some true f T = refl
if_some false f T = refl

type_instance : (θ : ℕ → Ty) (o : Option Variable) (l : ℕ) → type_of (option_map (instance_variable θ) o) l ≡ option_map (instance θ) (type_of o l)
type_instance θ None l = refl
type_instance θ (Some v) l = ap (λ n. if nat_eq l n then Some (instance θ v.type) else None) (length_map (instance θ) v.scope) ∙ sym (if_some (nat_eq l (length v.scope)) (instance θ) v.type)

context_grows : (θ : ℕ → Ty) (d : Declared) (E : List Ty) (V : List Variable) → Grows (atom_type (instance_context θ (over d E V))) (in_scope d (map (instance θ) E) (map (instance_variable θ) V))
context_grows θ d E V (logic x l) A e = ap (λ o. type_of o l) (get_map (instance_variable θ) V x) ∙ type_instance θ (slice_get V x) l ∙ e
context_grows θ d E V (constant c ts) A e = e
context_grows θ d E V (integer z) A e = e
context_grows θ d E V (text s) A e = e
context_grows θ d E V (eigen k) A e = e
context_grows θ d E V (param k T) A e = e

pub side_instance : (θ : ℕ → Ty) (d : Declared) (E : List Ty) (V : List Variable) (t : Term) (T : Ty) → HasType (in_scope d E V) [] t T → HasType (in_scope d (map (instance θ) E) (map (instance_variable θ) V)) [] (instance_term θ t) (instance θ T)
side_instance θ d E V t T w =
    typed_grows (atom_type (instance_context θ (over d E V))) (in_scope d (map (instance θ) E) (map (instance_variable θ) V)) (context_grows θ d E V) [] (instance_term θ t) (instance θ T)
    (instance_typed θ (over d E V) [] t T w)

scoped_atom : (θ : ℕ → Ty) (E : List Ty) (V : List Variable) (a : Atom) → IsScopedAtom V E a → IsScopedAtom (map (instance_variable θ) V) (map (instance θ) E) (instance_atom θ a)
scoped_atom θ E V (logic x l) h = λ w q. elim (slice_get V x) as (λ o. slice_get V x ≡ o → option_map (instance_variable θ) o ≡ Some w → IsPrefix w.scope (map (instance θ) E)) [
  | None ↦ λ i j. absurd (cc)
  | Some v ↦ λ i j.
      let p = h v i in
      let z : instance_variable θ v ≡ w = cc in
      transport (λ y. IsPrefix y.scope (map (instance θ) E)) z (record { rest = map (instance θ) p.rest; is = ap (map (instance θ)) p.is ∙ map_append (instance θ) v.scope p.rest })
] refl (sym (get_map (instance_variable θ) V x) ∙ q)
scoped_atom θ E V (eigen k) h = transport (λ z. k ≤ z) (sym (length_map (instance θ) E)) h
scoped_atom θ E V (constant c ts) h = tt
scoped_atom θ E V (integer z) h = tt
scoped_atom θ E V (text s) h = tt
scoped_atom θ E V (param k T) h = tt

pub scoped_instance : (θ : ℕ → Ty) (E : List Ty) (V : List Variable) (n : ℕ) (t : Term) → Within (IsScopedAtom V E) n t → Within (IsScopedAtom (map (instance_variable θ) V) (map (instance θ) E)) n (instance_term θ t)
scoped_instance θ E V n (index i) h = h
scoped_instance θ E V n (atom a) h = scoped_atom θ E V a h
scoped_instance θ E V n (abs b) h = scoped_instance θ E V (suc n) b h
scoped_instance θ E V n (app t u) h = (scoped_instance θ E V n t h.0, scoped_instance θ E V n u h.1)

pub typings_have_instances : (θ : ℕ → Ty) (d : Declared) (V : List Variable) (q : PairTyping) (p : Pair) → IsTypedPair d V q p → IsTypedPair d (map (instance_variable θ) V) (instance_typing θ q) (instance_pair θ p)
typings_have_instances θ d V q p h = record {
  level = length_map (instance θ) q.eigens ∙ h.level;
  left = side_instance θ d q.eigens V p.left q.type h.left;
  right = side_instance θ d q.eigens V p.right q.type h.right;
  left_scoped = scoped_instance θ q.eigens V 0 p.left h.left_scoped;
  right_scoped = scoped_instance θ q.eigens V 0 p.right h.right_scoped;
}

pub pairs_have_instances : (θ : ℕ → Ty) (d : Declared) (V : List Variable) (qs : List PairTyping) (ps : List Pair) → AreTypedPairs d V qs ps → AreTypedPairs d (map (instance_variable θ) V) (map (instance_typing θ) qs) (at_types θ ps)
pairs_have_instances θ d V [] [] h = tt
pairs_have_instances θ d V [] (p ∷ ps) h = absurd h
pairs_have_instances θ d V (q ∷ qs) [] h = absurd h
pairs_have_instances θ d V (q ∷ qs) (p ∷ ps) h = (typings_have_instances θ d V q p h.0, pairs_have_instances θ d V qs ps h.1)
