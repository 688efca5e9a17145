-- The types that are kept of constants, each with types for its type variables.
use Rattle.std.proofs.Common.{◌≡◌, ◌∙◌, ◌<◌, ℕ, zero, suc, List, [], ◌∷◌, map, length, Bool, true, false, Some, None, ap, refl, sym, subst}
use Rattle.std.specs.Prelude.{nat_eq, ◌&&◌, if◌then◌else◌, unwrap_or, slice_index_or}
use Rattle.std.specs.Map.{lookup}
use Rattle.std.specs.Str.{bytes_eq}
use Rattle.std.specs.Ordering.{nat_cmp}
use Rattle.std.specs.Cmp.{tied_then}
use Rattle.std.specs.Cmp.Lexicographic.{slice_cmp}
use Rattle.std.specs.BTreeMap.{is_at}
use Rattle.std.proofs.lemmas.Bool.{eqb-true, eq-eqb, ne_eqb}
use Rattle.std.proofs.lemmas.Map.Text.{is_eq-slice_cmp}
use Rattle.lp_lemmas.proofs.Numbers.{nat_eq_comm}
use Rattle.lp_lemmas.proofs.Booleans.{and_true_left, and_true_right, bytes_eq_true}
use Rattle.lp_calculus.specs.Types.{Ty, instance}
use Rattle.lp_calculus.specs.Term.{atom, logic}
use Rattle.lp_calculus.specs.Typing.{Scheme, scheme_type, o_type, int_type, string_type, type_at}
use Rattle.lp_term.specs.declared.node.TypeId.{TypeId}
use Rattle.lp_term.specs.Nodes.{Nodes, type_tree}
use Rattle.lp_term.specs.Mapped.{IsMap}
use Rattle.lp_term.proofs.MapLaws.{putting}
use Rattle.lp_code.specs.Symbolic.{Tables}
use Rattle.lp_verify.specs.Filling.{told_by}
use Rattle.lp_verify.specs.declared.filling.Filling.{Filling}
use Rattle.lp_verify.specs.declared.types.Types.{Types}
use Rattle.lp_verify.specs.declared.types.Use.{Use}
use Rattle.lp_verify.specs.contracts.types.UseOrd.TheImpl as ordered
use Rattle.lp_verify.specs.inner.FirstNumbers.{first_of, AreFirsts, IsType, AreTypes, TypesGrow, same_use, type_used, as_types, IsUse, UsesStay, IsTypeOfConstant, IsTypeOfDeclared, HasBasics}
use Rattle.lp_verify.proofs.KeyLaws.{at_same}

-- what the derived order says of two uses
pub at_use : (u v : Use) → is_at (ordered.cmp-value.it u) v ≡ same_use u v
at_use u v =
    sym (tied_then (nat_cmp u.constant v.constant) (slice_cmp nat_cmp u.types.items v.types.items)) ∙ (λ j. (at_same u.constant v.constant ∙ nat_eq_comm v.constant u.constant) j && is_eq-slice_cmp u.types.items v.types.items j)

pub used_is : (x : Types) (u : Use) → lookup (is_at (ordered.cmp-value.it u)) x.uses.entries ≡ type_used x u
used_is x u = λ j. lookup (λ v. at_use u v j) x.uses.entries

-- types that are put leave them
pub types_stay : (x y : Types) (ts : List TypeId) (Ts : List Ty) → TypesGrow x y → AreTypes x ts Ts → AreTypes y ts Ts
types_stay x y [] [] g a = tt
types_stay x y [] (T ∷ Ts) g a = absurd a
types_stay x y (t ∷ ts) [] g a = absurd a
types_stay x y (t ∷ ts) (T ∷ Ts) g a = (g.stay t T a.0, types_stay x y ts Ts g a.1)

use_stays : (t : Tables) (x y : Types) (u : Use) (i : TypeId) → TypesGrow x y → IsUse t x u i → IsUse t y u i
use_stays t x y u i g h = record { scheme = h.scheme; declared = h.declared; types = h.types; numbers = types_stay x y (as_types u.types.items) h.types g h.numbers; is = g.stay i (instance (type_at h.types) h.scheme.body) h.is }

pub uses_stay : (x y : Types) → TypesGrow x y → y.uses ≡ x.uses → UsesStay x y
uses_stay x y g e t a u i h = use_stays t x y u i g (a u i (sym (ap (λ m. lookup (λ v. same_use u v) m.entries) e) ∙ h))

-- first numbers tell their types
one_type : (x : Types) (t : TypeId) (T U : Ty) → IsType x t T → IsType x t U → T ≡ U
one_type x t T U a b = sym a.2 ∙ b.2

pub one_list : (x : Types) (ts : List TypeId) (Ts Us : List Ty) → AreTypes x ts Ts → AreTypes x ts Us → Ts ≡ Us
one_list x [] [] [] a b = refl
one_list x [] [] (U ∷ Us) a b = absurd b
one_list x [] (T ∷ Ts) Us a b = absurd a
one_list x (t ∷ ts) [] Us a b = absurd a
one_list x (t ∷ ts) (T ∷ Ts) [] a b = absurd b
one_list x (t ∷ ts) (T ∷ Ts) (U ∷ Us) a b = let p = one_type x t T U a.0 b.0 in let q = one_list x ts Ts Us a.1 b.1 in λ j. p j ∷ q j

-- the numbers by which a use is kept are those of its types
pub numbers_are : (x : Types) (ns : List ℕ) (ts : List TypeId) (Ts : List Ty) → ns ≡ map (λ (t : TypeId). first_of x t.0) ts → AreTypes x ts Ts → AreTypes x (as_types ns) Ts
numbers_are x ns [] [] e a = subst (λ ns. AreTypes x (as_types ns) []) (sym e) tt
numbers_are x ns [] (T ∷ Ts) e a = absurd a
numbers_are x ns (t ∷ ts) [] e a = absurd a
numbers_are x ns (t ∷ ts) (T ∷ Ts) e a =
    subst (λ ns. AreTypes x (as_types ns) (T ∷ Ts)) (sym e)
    (subst (λ n. (n < length x.bank.types) × (first_of x n ≡ n) × (type_tree x.bank n ≡ T) × AreFirsts x) (sym a.0.1) a.0, numbers_are x (map (λ (t : TypeId). first_of x t.0) ts) ts Ts refl a.1)

-- a type for each type variable
variable_type : (x : Types) (ids : List TypeId) (Ts : List Ty) (other : TypeId) (n : ℕ) → AreTypes x ids Ts → IsType x other o_type → ((slice_index_or ids n other).0 < length x.bank.types) × (type_at Ts n ≡ type_tree x.bank (slice_index_or ids n other).0)
variable_type x [] [] other n a o = (o.0, sym o.2)
variable_type x [] (T ∷ Ts) other n a o = absurd a
variable_type x (i ∷ ids) [] other n a o = absurd a
variable_type x (i ∷ ids) (T ∷ Ts) other zero a o = (a.0.0, sym a.0.2)
variable_type x (i ∷ ids) (T ∷ Ts) other (suc n) a o = variable_type x ids Ts other n a.1 o

pub filling_is_map : (x : Types) (f : Filling) (b : Nodes) (Ts : List Ty) → AreTypes x f.types.now Ts → IsType x f.other o_type → IsMap (told_by f) (putting (type_at Ts) (λ v l. atom (logic v l))) b x.bank
filling_is_map x f b Ts a o = record { kinds = λ k. refl; constants = λ c. refl; types = λ n. variable_type x f.types.now Ts f.other n a o; terms = λ v l. refl }

-- what is found is of the constant
use_same : (u v : Use) → same_use u v ≡ true → (u.constant ≡ v.constant) × (u.types.items ≡ v.types.items)
use_same u v e =
    let a = nat_eq u.constant v.constant in
    let b = bytes_eq u.types.items v.types.items in
    (eqb-true u.constant v.constant (and_true_left a b e), bytes_eq_true u.types.items v.types.items (and_true_right a b e))

some_scheme : (r s : Scheme) → Some r ≡ Some s → r ≡ s
some_scheme r s e = cc

some_type : (r s : TypeId) → Some r ≡ Some s → r ≡ s
some_type r s e = cc

pub used_before : (x : Types) (u : Use) (s : Scheme) (ts : List TypeId) (i : TypeId) → u.types.items ≡ map (λ (t : TypeId). first_of x t.0) ts → type_used x u ≡ Some i → IsTypeOfConstant x x u.constant s ts i
used_before x u s ts i e h t Ts d basics uses a =
    let v = uses u i h in
    let types : v.types ≡ Ts = one_list x (as_types u.types.items) v.types Ts v.numbers (numbers_are x u.types.items ts Ts e a) in
    let scheme : v.scheme ≡ s = some_scheme v.scheme s (sym v.declared ∙ d) in
    (subst (IsType x i) (λ j. instance (type_at (types j)) (scheme j).body) v.is, uses)

-- a use that is new
pub used_first : (x m y : Types) (u : Use) (s : Scheme) (ts : List TypeId) (i : TypeId) → u.types.items ≡ map (λ (t : TypeId). first_of x t.0) ts → TypesGrow x m → m.uses ≡ x.uses → TypesGrow m y → (HasBasics x → (Ts : List Ty) → AreTypes x ts Ts → IsType m i (instance (type_at Ts) s.body))
    → ((v : Use) → type_used y v ≡ (if same_use u v then Some i else type_used m v)) → IsTypeOfConstant x y u.constant s ts i
used_first x m y u s ts i e g kept h made update t Ts d basics uses a = (here, λ v k q. by_test v k (same_use u v) refl (sym (update v) ∙ q))
  where
    here : IsType y i (instance (type_at Ts) s.body)
    here = h.stay i (instance (type_at Ts) s.body) (made basics Ts a)

    by_test : (v : Use) (k : TypeId) (b : Bool) → same_use u v ≡ b → (if b then Some i else type_used m v) ≡ Some k → IsUse t y v k
    by_test v k true f q =
        let w = use_same u v f in record {
          scheme = s;
          declared = ap t.constants (sym w.0) ∙ d;
          types = Ts;
          numbers = subst (λ ns. AreTypes y (as_types ns) Ts) w.1 (types_stay m y (as_types u.types.items) Ts h (types_stay x m (as_types u.types.items) Ts g (numbers_are x u.types.items ts Ts e a)));
          is = subst (λ k. IsType y k (instance (type_at Ts) s.body)) (some_type i k q) here;
        }
    by_test v k false f q = use_stays t m y v k h (uses_stay x m g kept t uses v k q)

-- that a use is kept changes no type
abbrev pub with_uses : (x y : Types) → Types
with_uses x y = record { alloc = x.alloc; bank = x.bank; firsts = x.firsts; keys = x.keys; uses = y.uses; proposition = x.proposition; integer = x.integer; text = x.text }

firsts_still : (x y : Types) → AreFirsts x → AreFirsts (with_uses x y)
firsts_still x y a = record { sound = a.sound; within = a.within; count = a.count; low = a.low; found = a.found; told = a.told }

pub uses_grow : (x y : Types) → TypesGrow x (with_uses x y)
uses_grow x y = record { firsts = firsts_still x y; stay = λ t T h. (h.0, h.1, h.2, firsts_still x y h.3); proposition = refl; integer = refl; text = refl }

-- types grow
pub types_same : (x : Types) → TypesGrow x x
types_same x = record { firsts = λ a. a; stay = λ t T h. h; proposition = refl; integer = refl; text = refl }

pub types_then : (x y z : Types) → TypesGrow x y → TypesGrow y z → TypesGrow x z
types_then x y z g h = record {
  firsts = λ a. h.firsts (g.firsts a);
  stay = λ t T i. h.stay t T (g.stay t T i);
  proposition = h.proposition ∙ g.proposition;
  integer = h.integer ∙ g.integer;
  text = h.text ∙ g.text;
}

pub basics_stay : (x y : Types) → TypesGrow x y → HasBasics x → HasBasics y
basics_stay x y g b = record {
  firsts = g.firsts b.firsts;
  proposition = subst (λ t. IsType y t o_type) (sym g.proposition) (g.stay x.proposition o_type b.proposition);
  integer = subst (λ t. IsType y t int_type) (sym g.integer) (g.stay x.integer int_type b.integer);
  text = subst (λ t. IsType y t string_type) (sym g.text) (g.stay x.text string_type b.text);
}

-- types that are as many as the type variables of a scheme, or not
types_long : (x : Types) (ts : List TypeId) (Ts : List Ty) → AreTypes x ts Ts → length Ts ≡ length ts
types_long x [] [] a = refl
types_long x [] (T ∷ Ts) a = absurd a
types_long x (t ∷ ts) [] a = absurd a
types_long x (t ∷ ts) (T ∷ Ts) a = ap (λ n. suc n) (types_long x ts Ts a.1)

pub wrong_count : (x : Types) (c : ℕ) (s : Scheme) (ts : List TypeId) → (s.count ≡ length ts → ⊥) → IsTypeOfDeclared x x c (Some s) ts x.proposition
wrong_count x c s ts n t Ts d basics uses a =
    let other : nat_eq (length Ts) s.count ≡ false = ne_eqb (length Ts) s.count (λ e. n (sym e ∙ types_long x ts Ts a)) in
    (subst (λ o. IsType x x.proposition (unwrap_or (scheme_type Ts o) o_type)) (sym d) (subst (λ b. IsType x x.proposition (unwrap_or (if b then Some (instance (type_at Ts) s.body) else None) o_type)) (sym other) basics.proposition), uses)

pub right_count : (x y : Types) (c : ℕ) (s : Scheme) (ts : List TypeId) (i : TypeId) → s.count ≡ length ts → IsTypeOfConstant x y c s ts i → IsTypeOfDeclared x y c (Some s) ts i
right_count x y c s ts i n made t Ts d basics uses a =
    let same : nat_eq (length Ts) s.count ≡ true = eq-eqb (length Ts) s.count (types_long x ts Ts a ∙ sym n) in
    let m = made t Ts d basics uses a in
    (subst (λ o. IsType y i (unwrap_or (scheme_type Ts o) o_type)) (sym d) (subst (λ b. IsType y i (unwrap_or (if b then Some (instance (type_at Ts) s.body) else None) o_type)) (sym same) m.0), m.1)
