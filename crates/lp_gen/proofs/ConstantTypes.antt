-- What is read of the types of constants, and that they are known.
use Rattle.std.proofs.Common.{◌≡◌, ◌∙◌, ◌<◌, ℕ, zero, suc, ◌-◌, List, [], ◌∷◌, ◌++◌, map, length, Bool, true, false, Option, Some, None, ap, refl, sym, subst, arith}
use Rattle.std.specs.Prelude.{All, nat_eq, nat_lt, nat_le, if◌then◌else◌, slice_get, option_and_then}
use Rattle.std.proofs.lemmas.Bool.{eqb-true, ne_eqb, ltb-true, ltb-false, lt-leb, le-leb}
use Rattle.std.proofs.lemmas.List.Elements.{All-head, All-tail}
use Rattle.lp_calculus.specs.Types.{Ty, Tys, var, param as type_param, con, arrow, no_types, types, instance, instances}
use Rattle.lp_calculus.specs.Typing.{Scheme, o_type, int_type, string_type, list_type, scheme_type, type_at}
use Rattle.lp_standard.specs.declared.constant.Constant.{Constant}
use Rattle.lp_standard.specs.declared.constant.Constant.TheVariants as standard
use Rattle.lp_standard.specs.Constants.{numbered, language, first_declared}
use Rattle.lp_standard.specs.Schemes.{plain, over_one, on_two, scheme, standard_schemes, entry}
use Rattle.lp_model.specs.declared.program.Declared.{Declared}
use Rattle.lp_model.specs.Readings.{scheme_of}
use Rattle.lp_term.specs.Nodes.{Nodes, type_tree}
use Rattle.lp_code.specs.Symbolic.{Tables}
use Rattle.lp_gen.specs.Sources.{AreKnownSchemes, IsKnownType, AreKnownTypes}
use Rattle.lp_gen.specs.Contract.{tables_of}
use Rattle.lp_gen.specs.Steps.{as_asked, scheme_body, standard_function, declared_function, declared_type, constant_function}
use Rattle.lp_gen.specs.inner.TermLaw.{Asks, AsksConstants}
use Rattle.lp_gen.proofs.LooseOf.{none_some, some_same}
use Rattle.lp_gen.proofs.TermListed.{asks_same}

-- a standard constant without type variables, and one with one

abbrev asked_by : Ty → List Ty → Ty
asked_by B [] = o_type
asked_by B (U ∷ Us) = as_asked U B

plain_asks : (B : Ty) (Ts : List Ty) (T : Ty) → Asks o_type (instance (type_at []) B) → scheme_type Ts (plain B) ≡ Some T → Asks (asked_by B Ts) T
plain_asks B [] T a e = subst (Asks o_type) (some_same (instance (type_at []) B) T e) a
plain_asks B (U ∷ Us) T a e = absurd (none_some T (sym (ap (λ t. if t then Some (instance (type_at (U ∷ Us)) B) else None) (ne_eqb (length (U ∷ Us)) 0 (λ z. absurd (omega (arith, z))))) ∙ e))

over_asks : (B : Ty) (Ts : List Ty) (T : Ty) → ((U : Ty) → Asks (as_asked U B) (instance (type_at (U ∷ [])) B)) → scheme_type Ts (over_one B) ≡ Some T → Asks (asked_by B Ts) T
over_asks B [] T a e = absurd (none_some T e)
over_asks B (U ∷ []) T a e = subst (Asks (as_asked U B)) (some_same (instance (type_at (U ∷ [])) B) T e) (a U)
over_asks B (U ∷ V ∷ Us) T a e =
    absurd (none_some T (sym (ap (λ t. if t then Some (instance (type_at (U ∷ V ∷ Us)) B) else None) (ne_eqb (length (U ∷ V ∷ Us)) 1 (λ z. absurd (omega (arith, z))))) ∙ e))

standard_asks : (k : Constant) (Ts : List Ty) (T : Ty) → scheme_type Ts (scheme k) ≡ Some T → Asks (asked_by (scheme_body (scheme k)) Ts) T
standard_asks standard.And Ts T e = plain_asks (on_two o_type o_type) Ts T ((refl, refl), ((refl, refl), tt)) e
standard_asks standard.Or Ts T e = plain_asks (on_two o_type o_type) Ts T ((refl, refl), ((refl, refl), tt)) e
standard_asks standard.Implies Ts T e = plain_asks (on_two o_type o_type) Ts T ((refl, refl), ((refl, refl), tt)) e
standard_asks standard.If Ts T e = plain_asks (on_two o_type o_type) Ts T ((refl, refl), ((refl, refl), tt)) e
standard_asks standard.ForAll Ts T e = over_asks (arrow (arrow (var 0) o_type) o_type) Ts T (λ U. ((refl, refl), tt)) e
standard_asks standard.Exists Ts T e = over_asks (arrow (arrow (var 0) o_type) o_type) Ts T (λ U. ((refl, refl), tt)) e
standard_asks standard.True Ts T e = plain_asks o_type Ts T tt e
standard_asks standard.Cut Ts T e = plain_asks o_type Ts T tt e
standard_asks standard.Equal Ts T e = over_asks (on_two (var 0) o_type) Ts T (λ U. ((refl, refl), ((refl, refl), tt))) e
standard_asks standard.Is Ts T e = over_asks (on_two (var 0) o_type) Ts T (λ U. ((refl, refl), ((refl, refl), tt))) e
standard_asks standard.Less Ts T e = plain_asks (on_two int_type o_type) Ts T ((refl, refl), ((refl, refl), tt)) e
standard_asks standard.Greater Ts T e = plain_asks (on_two int_type o_type) Ts T ((refl, refl), ((refl, refl), tt)) e
standard_asks standard.AtMost Ts T e = plain_asks (on_two int_type o_type) Ts T ((refl, refl), ((refl, refl), tt)) e
standard_asks standard.AtLeast Ts T e = plain_asks (on_two int_type o_type) Ts T ((refl, refl), ((refl, refl), tt)) e
standard_asks standard.Cons Ts T e = over_asks (arrow (var 0) (arrow (list_type (var 0)) (list_type (var 0)))) Ts T (λ U. ((refl, refl), ((refl, refl), tt))) e
standard_asks standard.Nil Ts T e = over_asks (list_type (var 0)) Ts T (λ U. tt) e
standard_asks standard.Add Ts T e = plain_asks (on_two int_type int_type) Ts T ((refl, refl), ((refl, refl), tt)) e
standard_asks standard.Subtract Ts T e = plain_asks (on_two int_type int_type) Ts T ((refl, refl), ((refl, refl), tt)) e
standard_asks standard.Multiply Ts T e = plain_asks (on_two int_type int_type) Ts T ((refl, refl), ((refl, refl), tt)) e
standard_asks standard.Divide Ts T e = plain_asks (on_two int_type int_type) Ts T ((refl, refl), ((refl, refl), tt)) e
standard_asks standard.Remainder Ts T e = plain_asks (on_two int_type int_type) Ts T ((refl, refl), ((refl, refl), tt)) e
standard_asks standard.Negate Ts T e = plain_asks (arrow int_type int_type) Ts T ((refl, refl), tt) e
standard_asks standard.Concatenate Ts T e = plain_asks (on_two string_type string_type) Ts T ((refl, refl), ((refl, refl), tt)) e
standard_asks standard.Size Ts T e = plain_asks (arrow string_type int_type) Ts T ((refl, refl), tt) e
standard_asks standard.Not Ts T e = plain_asks (arrow o_type o_type) Ts T ((refl, refl), tt) e
standard_asks standard.Print Ts T e = absurd (none_some T e)

entry_scheme : (ks : List Constant) (c : ℕ) → entry (map scheme ks) c ≡ option_and_then scheme (slice_get (ks ++ standard.Print ∷ []) c)
entry_scheme [] zero = refl
entry_scheme [] (suc c) = refl
entry_scheme (k ∷ ks) zero = refl
entry_scheme (k ∷ ks) (suc c) = entry_scheme ks c

by_function : (c : ℕ) (Ts : List Ty) → standard_function c Ts ≡ asked_by (scheme_body (option_and_then scheme (numbered c))) Ts
by_function c [] = refl
by_function c (U ∷ Us) = refl

option_asks : (o : Option Constant) (Ts : List Ty) (T : Ty) → scheme_type Ts (option_and_then scheme o) ≡ Some T → Asks (asked_by (scheme_body (option_and_then scheme o)) Ts) T
option_asks None Ts T e = absurd (none_some T e)
option_asks (Some k) Ts T e = standard_asks k Ts T e

-- a declared one

declared_asks : (b : Nodes) (ds : List Declared) (n : ℕ) (Ts : List Ty) (T : Ty) → scheme_type Ts (entry (map (λ d. Some (scheme_of b d)) ds) n) ≡ Some T →
    declared_function Ts (declared_type b ds n) ≡ T
declared_asks b [] n Ts T e = absurd (none_some T e)
declared_asks b (d ∷ ds) zero Ts T e = go (nat_eq (length Ts) d.type_vars) e
  where
    go : (t : Bool) → (if t then Some (instance (type_at Ts) (type_tree b d.scheme.0)) else None) ≡ Some T → instance (type_at Ts) (type_tree b d.scheme.0) ≡ T
    go true e = some_same (instance (type_at Ts) (type_tree b d.scheme.0)) T e
    go false e = absurd (none_some T e)
declared_asks b (d ∷ ds) (suc n) Ts T e = declared_asks b ds n Ts T e

pub constants_asked : (b : Nodes) (ds : List Declared) (κ : ℕ → Option ℕ) → AsksConstants (tables_of b ds κ) (constant_function b ds)
constants_asked b ds κ c Ts T e = go (nat_lt c first_declared) refl
  where
    by_test : (t : Bool) → nat_lt c first_declared ≡ t → scheme_type Ts (if t then entry standard_schemes c else entry (map (λ d. Some (scheme_of b d)) ds) (c - first_declared)) ≡ Some T
    by_test t f = ap (λ t. scheme_type Ts (if t then entry standard_schemes c else entry (map (λ d. Some (scheme_of b d)) ds) (c - first_declared))) (sym f) ∙ e

    function_by : (t : Bool) → nat_le first_declared c ≡ t → constant_function b ds c Ts ≡ (if t then declared_function Ts (declared_type b ds (c - first_declared)) else standard_function c Ts)
    function_by t f = ap (λ t. if t then declared_function Ts (declared_type b ds (c - first_declared)) else standard_function c Ts) f

    go : (t : Bool) → nat_lt c first_declared ≡ t → Asks (constant_function b ds c Ts) T
    go true f =
        let here : scheme_type Ts (option_and_then scheme (numbered c)) ≡ Some T = ap (scheme_type Ts) (sym (entry_scheme language c)) ∙ by_test true f in
        subst (λ F. Asks F T) (sym (function_by false (lt-leb first_declared c (ltb-true c first_declared f)) ∙ by_function c Ts)) (option_asks (numbered c) Ts T here)
    go false f =
        let here = declared_asks b ds (c - first_declared) Ts T (by_test false f) in
        subst (λ F. Asks F T) (sym (function_by true (le-leb first_declared c (ltb-false c first_declared f)) ∙ here)) (asks_same T)

-- known types for the type variables of a known type

known_at : (κ : ℕ → Option ℕ) (n i : ℕ) (Ts : List Ty) → All (IsKnownType κ n) Ts → i < length Ts → IsKnownType κ n (type_at Ts i)
known_at κ n i [] a l = absurd (omega (arith, l))
known_at κ n zero (T ∷ Ts) a l = All-head (IsKnownType κ n) T Ts a
known_at κ n (suc i) (T ∷ Ts) a l = known_at κ n i Ts (All-tail (IsKnownType κ n) T Ts a) (omega (arith, l))

mutual
  known_instance : (κ : ℕ → Option ℕ) (n : ℕ) (Ts : List Ty) (B : Ty) → All (IsKnownType κ n) Ts → IsKnownType κ (length Ts) B → IsKnownType κ n (instance (type_at Ts) B)
  known_instance κ n Ts (var i) a k = known_at κ n i Ts a k
  known_instance κ n Ts (type_param j) a k = absurd k
  known_instance κ n Ts (con c Us) a k = (k.0, k.1, known_instances κ n Ts k.0 Us a k.2)
  known_instance κ n Ts (arrow A B) a k = (known_instance κ n Ts A a k.0, known_instance κ n Ts B a k.1)

  known_instances : (κ : ℕ → Option ℕ) (n : ℕ) (Ts : List Ty) (m : ℕ) (Us : Tys) → All (IsKnownType κ n) Ts → AreKnownTypes κ (length Ts) m Us → AreKnownTypes κ n m (instances (type_at Ts) Us)
  known_instances κ n Ts m no_types a k = k
  known_instances κ n Ts zero (types U Us) a k = absurd k
  known_instances κ n Ts (suc m) (types U Us) a k = (known_instance κ n Ts U a k.0, known_instances κ n Ts m Us a k.1)

pub known_constant : (t : Tables) (n c : ℕ) (Ts : List Ty) (T : Ty) → AreKnownSchemes t → scheme_type Ts (t.constants c) ≡ Some T → All (IsKnownType t.kinds n) Ts → IsKnownType t.kinds n T
known_constant t n c Ts T known e a = go (t.constants c) refl e
  where
    some_scheme : (s : Scheme) → t.constants c ≡ Some s → (u : Bool) → nat_eq (length Ts) s.count ≡ u → (if u then Some (instance (type_at Ts) s.body) else None) ≡ Some T → IsKnownType t.kinds n T
    some_scheme s f true g e = subst (IsKnownType t.kinds n) (some_same (instance (type_at Ts) s.body) T e)
        (known_instance t.kinds n Ts s.body a (subst (λ m. IsKnownType t.kinds m s.body) (sym (eqb-true (length Ts) s.count g)) (known c s f)))
    some_scheme s f false g e = absurd (none_some T e)

    go : (o : Option Scheme) → t.constants c ≡ o → scheme_type Ts o ≡ Some T → IsKnownType t.kinds n T
    go None f e = absurd (none_some T e)
    go (Some s) f e = some_scheme s f (nat_eq (length Ts) s.count) refl e
