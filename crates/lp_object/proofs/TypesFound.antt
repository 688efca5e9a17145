-- What is read as a type is spelled so.
use Rattle.std.proofs.Common.{◌≡◌, ℕ, zero, suc, ◌+◌, ◌<◌, true, cond, ltb, eqb, List, [], ◌∷◌, ◌++◌, length, take, drop, replicate, Option, Some, None, Ok, Err, refl, sym, ap, subst, ◌∙◌, append_assoc, arith, inl, inr}
use Rattle.std.specs.Prelude.{⊤}
use Rattle.std.specs.List.{flat_map, AllByRecursion}
use Rattle.std.proofs.lemmas.Bool.{eqb-true, ltb-true}
use Rattle.std.proofs.lemmas.List.{append-nil, length-take, length-drop, take-append-drop}
use Rattle.std.proofs.lemmas.Grind.{flat_map-append}
use Rattle.lp_calculus.specs.Types.{Ty, tys}
use Rattle.lp_bytes.specs.declared.fault.Fault.TheVariants.{BadField}
use Rattle.lp_bytes.specs.Numbers.{spelled_one}
use Rattle.lp_bytes.specs.Spellable.{AreWhole}
use Rattle.lp_bytes.specs.Reading.{Left, Read, ◌>>=◌, byte_at}
use Rattle.lp_bytes.proofs.Taking.{IsBytes, bind_ok, ok_is, held, chosen, Takes, takes_then, takes_as, byte_takes, nested_take}
use Rattle.lp_object.specs.declared.width.Width.{Width}
use Rattle.lp_object.specs.Numbers.{spelled_number}
use Rattle.lp_object.specs.Spelling.{spelled_type, spelled_types}
use Rattle.lp_object.specs.Spellable.{IsNumber, how_many, IsType, AreTypes}
use Rattle.lp_object.specs.Reading.{number_at, first_of, Scope, arity_of, TypeTop, variable, kind, an_arrow, types_below, kind_top_at, type_top_at, type_tops_at, with_type_top, types_made, type_at}
use Rattle.lp_object.specs.inner.Tops.{spelled_type_top, IsTypeTop}
use Rattle.lp_object.proofs.FieldsFound.{low_byte, number_takes}

-- ---- lists

pub all_front : {A : Type 0} (P : A → Type 0) (n : ℕ) (xs : List A) → AllByRecursion P xs → AllByRecursion P (take n xs)
all_front P zero xs h = tt
all_front P (suc n) [] h = tt
all_front P (suc n) (x ∷ xs) h = (h.0, all_front P n xs h.1)

pub all_behind : {A : Type 0} (P : A → Type 0) (n : ℕ) (xs : List A) → AllByRecursion P xs → AllByRecursion P (drop n xs)
all_behind P zero xs h = h
all_behind P (suc n) [] h = tt
all_behind P (suc n) (x ∷ xs) h = all_behind P n xs h.1

pub length_units : (n : ℕ) (more : List ⊤) → length (replicate n tt ++ more) ≡ n + length more
length_units zero more = omega arith
length_units (suc n) more = let h = length_units n more in omega (arith, h)

-- the one of a list
pub first_is : (at : ℕ) (xs : List Ty) (s : Left) (x : Ty) (t : Left) → length xs ≡ 1 → first_of at xs s ≡ Ok (x, t) → (xs ≡ x ∷ []) × (s ≡ t)
first_is at [] s x t l e = absurd (omega (arith, l))
first_is at (y ∷ []) s x t l e = let h = ok_is (y, s) (x, t) e in (ap (λ (p : Ty × Left). p.0 ∷ []) h, ap (λ (p : Ty × Left). p.1) h)
first_is at (y ∷ z ∷ ys) s x t l e = absurd (omega (arith, l))

-- ---- tops

how_many_is : (ts : List Ty) → how_many (tys ts) ≡ length ts
how_many_is [] = refl
how_many_is (t ∷ ts) = ap suc (how_many_is ts)

are_types : (d : Scope) (ts : List Ty) → AllByRecursion (IsType d) ts → AreTypes d (tys ts)
are_types d [] h = tt
are_types d (t ∷ ts) h = (h.0, are_types d ts h.1)

pub spelled_tys : (w : Width) (ts : List Ty) → spelled_types w (tys ts) ≡ flat_map (spelled_type w) ts
spelled_tys w [] = refl
spelled_tys w (t ∷ ts) = ap (λ x. spelled_type w t ++ x) (spelled_tys w ts)

-- so many types, which have a spelling, and these bytes
pub record AreMade (d : Scope) (n : ℕ) (bytes : List ℕ) (ts : List Ty) : Type 0 where
  pub count : length ts ≡ n
  pub fit : AllByRecursion (IsType d) ts
  pub bytes_are : bytes ≡ flat_map (spelled_type d.width) ts

kind_made : (d : Scope) (k n m : ℕ) (bytes : List ℕ) (ts : List Ty) → (IsNumber d.width k) × (arity_of d.arities k ≡ Some n) → AreMade d (n + m) bytes ts → AreMade d (suc m) ((1 ∷ spelled_number d.width k) ++ bytes) (with_type_top (kind k n) ts)
kind_made d k n m bytes ts h p =
    let front : length (take n ts) ≡ n = omega (arith, length-take n ts, p.count) in
    let behind : length (drop n ts) ≡ m = let q = length-drop n ts in omega (arith, q, p.count) in
    let N = 1 ∷ spelled_number d.width k in
    let F = flat_map (spelled_type d.width) (take n ts) in
    let B = flat_map (spelled_type d.width) (drop n ts) in
    let parts : bytes ≡ F ++ B = p.bytes_are ∙ ap (flat_map (spelled_type d.width)) (sym (take-append-drop n ts)) ∙ flat_map-append (spelled_type d.width) (take n ts) (drop n ts) in
    record {
      count = ap suc behind;
      fit = ((h.0, h.1 ∙ ap Some (sym (how_many_is (take n ts) ∙ front)), are_types d (take n ts) (all_front (IsType d) n ts p.fit)), all_behind (IsType d) n ts p.fit);
      bytes_are = ap (λ x. N ++ x) parts ∙ sym (append_assoc N F B) ∙ ap (λ x. (N ++ x) ++ B) (sym (spelled_tys d.width (take n ts)));
    }

arrow_made : (d : Scope) (m : ℕ) (bytes : List ℕ) (ts : List Ty) → AreMade d (suc (suc m)) bytes ts → AreMade d (suc m) (2 ∷ bytes) (with_type_top an_arrow ts)
arrow_made d m bytes [] p = absurd (omega (arith, p.count))
arrow_made d m bytes (a ∷ []) p = absurd (omega (arith, p.count))
arrow_made d m bytes (a ∷ b ∷ ts) p =
    record {
      count = omega (arith, p.count);
      fit = ((p.fit.0, p.fit.1.0), p.fit.1.1);
      bytes_are = ap (λ x. 2 ∷ x) (p.bytes_are ∙ sym (append_assoc (spelled_type d.width a) (spelled_type d.width b) (flat_map (spelled_type d.width) ts)));
    }

-- whole tops make the types
types_are_made : (d : Scope) (tops : List TypeTop) (to_come : List ⊤) → AreWhole types_below (IsTypeTop d) to_come tops → AreMade d (length to_come) (flat_map (spelled_type_top d.width) tops) (types_made tops)
types_are_made d [] [] h = record { count = refl; fit = tt; bytes_are = refl }
types_are_made d [] (one ∷ to_come) h = absurd h
types_are_made d (t ∷ tops) [] h = absurd h
types_are_made d (variable v ∷ tops) (one ∷ to_come) h =
    let p = types_are_made d tops to_come h.1 in
    record { count = ap suc p.count; fit = (h.0, p.fit); bytes_are = ap (λ x. (0 ∷ spelled_one v) ++ x) p.bytes_are }
types_are_made d (kind k n ∷ tops) (one ∷ to_come) h =
    let p = types_are_made d tops (replicate n tt ++ to_come) h.1 in
    kind_made d k n (length to_come) (flat_map (spelled_type_top d.width) tops) (types_made tops) h.0
    (record { count = p.count ∙ length_units n to_come; fit = p.fit; bytes_are = p.bytes_are })
types_are_made d (an_arrow ∷ tops) (one ∷ to_come) h = arrow_made d (length to_come) (flat_map (spelled_type_top d.width) tops) (types_made tops) (types_are_made d tops (tt ∷ tt ∷ to_come) h.1)

kind_is : (d : Scope) (one : ⊤) (s : Left) (k : ℕ) (u : Left) (x : TypeTop) (t : Left) → Takes s (spelled_number d.width k) u → IsNumber d.width k → (o : Option ℕ) → arity_of d.arities k ≡ o → kind_top_at s.at k o u ≡ Ok (x, t)
    → (text : List ℕ) × Takes s text t × (spelled_type_top d.width x ≡ 1 ∷ text) × IsTypeTop d one x
kind_is d one s k u x t p lt None c e = absurd cc
kind_is d one s k u x t p lt (Some n) c e =
    subst (λ (z : TypeTop × Left). (text : List ℕ) × Takes s text z.1 × (spelled_type_top d.width z.0 ≡ 1 ∷ text) × IsTypeTop d one z.0) (ok_is (kind k n, u) (x, t) e) (spelled_number d.width k, p, refl, (lt, c))

kind_top_takes : (d : Scope) (one : ⊤) (s : Left) (x : TypeTop) (t : Left) → IsBytes s.rest → (number_at d.width s >>= λ k. kind_top_at s.at k.0 (arity_of d.arities k.0) k.1) ≡ Ok (x, t)
    → (text : List ℕ) × Takes s text t × (spelled_type_top d.width x ≡ 1 ∷ text) × IsTypeTop d one x
kind_top_takes d one s x t h e =
    let a = bind_ok (number_at d.width s) (λ k. kind_top_at s.at k.0 (arity_of d.arities k.0) k.1) (x, t) e in
    let p = number_takes d.width s a.0.0 a.0.1 h a.1 in
    kind_is d one s a.0.0 a.0.1 x t p.0 p.1 (arity_of d.arities a.0.0) refl a.2

pub some_bytes : (w : Width) (x : TypeTop) → 0 < length (spelled_type_top w x)
some_bytes w (variable v) = omega arith
some_bytes w (kind k n) = omega arith
some_bytes w an_arrow = omega arith

abbrev pub variable_in : Scope → ℕ → ℕ × Left → Read TypeTop
variable_in d at v = cond (ltb v.0 d.variables) (Ok (variable v.0, v.1)) (Err (BadField at))

variable_takes : (d : Scope) (one : ⊤) (s : Left) (x : TypeTop) (t : Left) → IsBytes s.rest → (byte_at s >>= λ v. variable_in d s.at v) ≡ Ok (x, t)
    → (text : List ℕ) × Takes s text t × (spelled_type_top d.width x ≡ 0 ∷ text) × IsTypeTop d one x
variable_takes d one s x t h e =
    let a = bind_ok (byte_at s) (λ v. variable_in d s.at v) (x, t) e in
    let p = byte_takes s a.0.0 a.0.1 h a.1 in
    let k = held (ltb a.0.0 d.variables) (Ok (variable a.0.0, a.0.1)) (BadField s.at) (x, t) a.2 in
    subst (λ (z : TypeTop × Left). (text : List ℕ) × Takes s text z.1 × (spelled_type_top d.width z.0 ≡ 0 ∷ text) × IsTypeTop d one z.0) (ok_is (variable a.0.0, a.0.1) (x, t) k.1)
    (spelled_one a.0.0, takes_as s (a.0.0 ∷ []) (spelled_one a.0.0) a.0.1 (sym (low_byte a.0.0 p.1)) p.0, refl, (ltb-true _ _ k.0, p.1))

type_top_takes : (d : Scope) (one : ⊤) (s : Left) (x : TypeTop) (t : Left) → IsBytes s.rest → type_top_at d s ≡ Ok (x, t) → Takes s (spelled_type_top d.width x) t × (0 < length (spelled_type_top d.width x)) × IsTypeTop d one x
unfolding type_top_at
type_top_takes d one s x t h e =
    let first = λ (b : ℕ × Left). byte_at b.1 >>= λ v. variable_in d b.1.at v in
    let second = λ (b : ℕ × Left). number_at d.width b.1 >>= λ k. kind_top_at b.1.at k.0 (arity_of d.arities k.0) k.1 in
    let from_2 = λ (b : ℕ × Left). cond (eqb b.0 2) (Ok (an_arrow, b.1)) (Err (BadField s.at)) in
    let from_1 = λ (b : ℕ × Left). cond (eqb b.0 1) (second b) (from_2 b) in
    let a = bind_ok (byte_at s) (λ b. cond (eqb b.0 0) (first b) (from_1 b)) (x, t) e in
    let p = (byte_takes s a.0.0 a.0.1 h a.1).0 in
    let at : (n : ℕ) → eqb a.0.0 n ≡ true → Takes s (n ∷ []) a.0.1 = λ n z. takes_as s (a.0.0 ∷ []) (n ∷ []) a.0.1 (ap (λ m. m ∷ []) (eqb-true _ _ z)) p in
    elim (chosen (eqb a.0.0 0) (first a.0) (from_1 a.0) (Ok (x, t)) a.2) [
      | inl y ↦
          let q = variable_takes d one a.0.1 x t p.bytes y.1 in
          (takes_as s (0 ∷ q.0) (spelled_type_top d.width x) t (sym q.2) (takes_then s (0 ∷ []) a.0.1 q.0 t (at 0 y.0) q.1), some_bytes d.width x, q.3)
      | inr n ↦ elim (chosen (eqb a.0.0 1) (second a.0) (from_2 a.0) (Ok (x, t)) n.1) [
        | inl y ↦
            let q = kind_top_takes d one a.0.1 x t p.bytes y.1 in
            (takes_as s (1 ∷ q.0) (spelled_type_top d.width x) t (sym q.2) (takes_then s (1 ∷ []) a.0.1 q.0 t (at 1 y.0) q.1), some_bytes d.width x, q.3)
        | inr n ↦
            let y = held (eqb a.0.0 2) (Ok (an_arrow, a.0.1)) (BadField s.at) (x, t) n.1 in
            subst (λ (z : TypeTop × Left). Takes s (spelled_type_top d.width z.0) z.1 × (0 < length (spelled_type_top d.width z.0)) × IsTypeTop d one z.0) (ok_is (an_arrow, a.0.1) (x, t) y.1) (at 2 y.0, some_bytes d.width an_arrow, tt)
      ]
    ]

pub type_takes : (d : Scope) (s : Left) (T : Ty) (t : Left) → IsBytes s.rest → type_at d s ≡ Ok (T, t) → Takes s (spelled_type d.width T) t × IsType d T
unfolding type_at type_tops_at
type_takes d s T t h e =
    let a = bind_ok (type_tops_at d s) (λ ts. first_of s.at (types_made ts.0) ts.1) (T, t) e in
    let q = nested_take (λ one. type_top_at d) types_below (spelled_type_top d.width) (IsTypeTop d) (λ one u x v i j. type_top_takes d one u x v i j) [] (suc (length s.rest)) (tt ∷ []) s a.0.0 a.0.1 h (omega arith) a.1 in
    let m = types_are_made d q.0 (tt ∷ []) q.3 in
    let f = first_is s.at (types_made q.0) a.0.1 T t m.count (ap (λ xs. first_of s.at (types_made xs) a.0.1) (sym q.1) ∙ a.2) in
    let text : flat_map (spelled_type_top d.width) q.0 ≡ spelled_type d.width T = m.bytes_are ∙ ap (flat_map (spelled_type d.width)) f.0 ∙ append-nil (spelled_type d.width T) in
    (subst (λ u. Takes s (spelled_type d.width T) u) f.1 (takes_as s (flat_map (spelled_type_top d.width) q.0) (spelled_type d.width T) a.0.1 text q.2), (subst (AllByRecursion (IsType d)) f.0 m.fit).0)
