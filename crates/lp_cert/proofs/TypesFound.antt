-- What is read as a type is spelled so.
use Rattle.std.proofs.Common.{◌≡◌, ℕ, zero, suc, ◌+◌, ◌-◌, ◌^◌, ◌<◌, ◌≤◌, Bool, true, false, cond, ltb, eqb, List, [], ◌∷◌, ◌++◌, length, take, drop, replicate, Option, Some, None, Result, Ok, Err, refl, sym, ap, subst, ◌∙◌, append_assoc, arith, inl, inr}
use Rattle.std.specs.Prelude.{⊤}
use Rattle.std.specs.List.{flat_map, AllByRecursion}
use Rattle.std.proofs.lemmas.Bool.{eqb-true}
use Rattle.std.proofs.lemmas.List.{append-nil, length-append, length-take, length-drop, take-append-drop}
use Rattle.std.proofs.lemmas.Grind.{flat_map-append}
use Rattle.lp_calculus.specs.Types.{Ty, Tys, param, con, arrow, tys, no_types, types}
use Rattle.lp_bytes.specs.declared.fault.Fault.{Fault}
use Rattle.lp_bytes.specs.declared.fault.Fault.TheVariants.{BadField}
use Rattle.lp_bytes.specs.Numbers.{spelled_four}
use Rattle.lp_bytes.specs.Spellable.{AreWhole}
use Rattle.lp_bytes.specs.Reading.{Left, left, Read, ◌>>=◌, byte_at, four_at, each_at, nested_at}
use Rattle.lp_bytes.proofs.Taking.{IsBytes, bind_ok, ok_is, held, chosen, Takes, takes_then, takes_as, byte_takes, four_takes, each_take, nested_take}
use Rattle.lp_cert.specs.Arities.{Counts, count_of_kind}
use Rattle.lp_cert.specs.Spelling.{spelled_type, spelled_types}
use Rattle.lp_cert.specs.Spellable.{how_many, IsType, AreTypes}
use Rattle.lp_cert.specs.Reading.{as_read, first_of, TypeTop, parameter, kind, an_arrow, types_below, kind_top_at, type_top_at, type_tops_at, with_type_top, types_made, type_at, types_at}
use Rattle.lp_cert.specs.inner.Tops.{spelled_type_top, IsTypeTop}

-- ---- lists

pub all_front : {A : Type 0} (P : A → Type 0) (n : ℕ) (xs : List A) → AllByRecursion P xs → AllByRecursion P (take n xs)
all_front P zero xs h = tt
all_front P (suc n) [] h = tt
all_front P (suc n) (x ∷ xs) h = (h.0, all_front P n xs h.1)

pub all_behind : {A : Type 0} (P : A → Type 0) (n : ℕ) (xs : List A) → AllByRecursion P xs → AllByRecursion P (drop n xs)
all_behind P zero xs h = h
all_behind P (suc n) [] h = tt
all_behind P (suc n) (x ∷ xs) h = all_behind P n xs h.1

pub length_units : (n : ℕ) (more : List ⊤) → length (replicate n tt ++ more) ≡ n + length more
length_units zero more = omega arith
length_units (suc n) more = let h = length_units n more in omega (arith, h)

-- a value that is made of the one that is read
pub as_takes : {A B : Type 0} (g : A → B) (spell : A → List ℕ) (spelled : B → List ℕ) (P : A → Type 0) (Q : B → Type 0) → ((x : A) → spelled (g x) ≡ spell x) → ((x : A) → P x → Q (g x))
    → (s : Left) (r : Read A) → ((x : A) (u : Left) → r ≡ Ok (x, u) → Takes s (spell x) u × P x) → (y : B) (t : Left) → as_read g r ≡ Ok (y, t) → Takes s (spelled y) t × Q y
as_takes {B = B} g spell spelled P Q same kept s r k y t e =
    let a = bind_ok r (λ x. Ok (g x.0, x.1)) (y, t) e in
    let p = k a.0.0 a.0.1 a.1 in
    subst (λ (z : B × Left). Takes s (spelled z.0) z.1 × Q z.0) (ok_is (g a.0.0, a.0.1) (y, t) a.2) (takes_as s (spell a.0.0) (spelled (g a.0.0)) a.0.1 (sym (same a.0.0)) p.0, kept a.0.0 p.1)

-- the one of a list
pub first_is : {A : Type 0} (at : ℕ) (xs : List A) (s : Left) (x : A) (t : Left) → length xs ≡ 1 → first_of at xs s ≡ Ok (x, t) → (xs ≡ x ∷ []) × (s ≡ t)
first_is {A = A} at [] s x t l e = absurd (omega (arith, l))
first_is {A = A} at (y ∷ []) s x t l e = let h = ok_is (y, s) (x, t) e in (ap (λ (p : A × Left). p.0 ∷ []) h, ap (λ (p : A × Left). p.1) h)
first_is {A = A} at (y ∷ z ∷ ys) s x t l e = absurd (omega (arith, l))

-- ---- tops

how_many_is : (ts : List Ty) → how_many (tys ts) ≡ length ts
how_many_is [] = refl
how_many_is (t ∷ ts) = ap suc (how_many_is ts)

are_types : (d : Counts) (ts : List Ty) → AllByRecursion (IsType d) ts → AreTypes d (tys ts)
are_types d [] h = tt
are_types d (t ∷ ts) h = (h.0, are_types d ts h.1)

pub spelled_tys : (ts : List Ty) → spelled_types (tys ts) ≡ flat_map spelled_type ts
spelled_tys [] = refl
spelled_tys (t ∷ ts) = ap (λ x. spelled_type t ++ x) (spelled_tys ts)

-- so many types, which have a spelling, and these bytes
pub record AreMade (d : Counts) (n : ℕ) (bytes : List ℕ) (ts : List Ty) : Type 0 where
  pub count : length ts ≡ n
  pub fit : AllByRecursion (IsType d) ts
  pub bytes_are : bytes ≡ flat_map spelled_type ts

kind_made : (d : Counts) (k n m : ℕ) (bytes : List ℕ) (ts : List Ty) → (k < 2 ^ 32) × (count_of_kind d k ≡ Some n) → AreMade d (n + m) bytes ts → AreMade d (suc m) ((1 ∷ spelled_four k) ++ bytes) (with_type_top (kind k n) ts)
kind_made d k n m bytes ts h p =
    let front : length (take n ts) ≡ n = omega (arith, length-take n ts, p.count) in
    let behind : length (drop n ts) ≡ m = let q = length-drop n ts in omega (arith, q, p.count) in
    let N = 1 ∷ spelled_four k in
    let F = flat_map spelled_type (take n ts) in
    let B = flat_map spelled_type (drop n ts) in
    let parts : bytes ≡ F ++ B = p.bytes_are ∙ ap (flat_map spelled_type) (sym (take-append-drop n ts)) ∙ flat_map-append spelled_type (take n ts) (drop n ts) in
    record {
      count = ap suc behind;
      fit = ((h.0, h.1 ∙ ap Some (sym (how_many_is (take n ts) ∙ front)), are_types d (take n ts) (all_front (IsType d) n ts p.fit)), all_behind (IsType d) n ts p.fit);
      bytes_are = ap (λ x. N ++ x) parts ∙ sym (append_assoc N F B) ∙ ap (λ x. (N ++ x) ++ B) (sym (spelled_tys (take n ts)));
    }

arrow_made : (d : Counts) (m : ℕ) (bytes : List ℕ) (ts : List Ty) → AreMade d (suc (suc m)) bytes ts → AreMade d (suc m) (2 ∷ bytes) (with_type_top an_arrow ts)
arrow_made d m bytes [] p = absurd (omega (arith, p.count))
arrow_made d m bytes (a ∷ []) p = absurd (omega (arith, p.count))
arrow_made d m bytes (a ∷ b ∷ ts) p =
    record {
      count = omega (arith, p.count);
      fit = ((p.fit.0, p.fit.1.0), p.fit.1.1);
      bytes_are = ap (λ x. 2 ∷ x) (p.bytes_are ∙ sym (append_assoc (spelled_type a) (spelled_type b) (flat_map spelled_type ts)));
    }

-- whole tops make the types
types_are_made : (d : Counts) (tops : List TypeTop) (to_come : List ⊤) → AreWhole types_below (IsTypeTop d) to_come tops → AreMade d (length to_come) (flat_map spelled_type_top tops) (types_made tops)
types_are_made d [] [] h = record { count = refl; fit = tt; bytes_are = refl }
types_are_made d [] (one ∷ to_come) h = absurd h
types_are_made d (t ∷ tops) [] h = absurd h
types_are_made d (parameter v ∷ tops) (one ∷ to_come) h =
    let p = types_are_made d tops to_come h.1 in
    record { count = ap suc p.count; fit = (h.0, p.fit); bytes_are = ap (λ x. (0 ∷ spelled_four v) ++ x) p.bytes_are }
types_are_made d (kind k n ∷ tops) (one ∷ to_come) h =
    let p = types_are_made d tops (replicate n tt ++ to_come) h.1 in
    kind_made d k n (length to_come) (flat_map spelled_type_top tops) (types_made tops) h.0
    (record { count = p.count ∙ length_units n to_come; fit = p.fit; bytes_are = p.bytes_are })
types_are_made d (an_arrow ∷ tops) (one ∷ to_come) h = arrow_made d (length to_come) (flat_map spelled_type_top tops) (types_made tops) (types_are_made d tops (tt ∷ tt ∷ to_come) h.1)

kind_top_takes : (d : Counts) (one : ⊤) (s : Left) (x : TypeTop) (t : Left) → IsBytes s.rest → (four_at s >>= λ k. kind_top_at s.at k.0 (count_of_kind d k.0) k.1) ≡ Ok (x, t) → (text : List ℕ) × Takes s text t × (spelled_type_top x ≡ 1 ∷ text) × IsTypeTop d one x
kind_top_takes d one s x t h e =
    let a = bind_ok (four_at s) (λ k. kind_top_at s.at k.0 (count_of_kind d k.0) k.1) (x, t) e in
    let p = four_takes s a.0.0 a.0.1 h a.1 in
    kind_is d one s a.0.0 a.0.1 x t p.0 p.1 (count_of_kind d a.0.0) refl a.2
  where
    kind_is : (d : Counts) (one : ⊤) (s : Left) (k : ℕ) (u : Left) (x : TypeTop) (t : Left) → Takes s (spelled_four k) u → k < 2 ^ 32 → (o : Option ℕ) → count_of_kind d k ≡ o → kind_top_at s.at k o u ≡ Ok (x, t)
        → (text : List ℕ) × Takes s text t × (spelled_type_top x ≡ 1 ∷ text) × IsTypeTop d one x
    kind_is d one s k u x t p lt None c e = absurd cc
    kind_is d one s k u x t p lt (Some n) c e =
        subst (λ (z : TypeTop × Left). (text : List ℕ) × Takes s text z.1 × (spelled_type_top z.0 ≡ 1 ∷ text) × IsTypeTop d one z.0) (ok_is (kind k n, u) (x, t) e) (spelled_four k, p, refl, (lt, c))

pub some_bytes : (x : TypeTop) → 0 < length (spelled_type_top x)
some_bytes (parameter v) = omega arith
some_bytes (kind k n) = omega arith
some_bytes an_arrow = omega arith

type_top_takes : (d : Counts) (one : ⊤) (s : Left) (x : TypeTop) (t : Left) → IsBytes s.rest → type_top_at d s ≡ Ok (x, t) → Takes s (spelled_type_top x) t × (0 < length (spelled_type_top x)) × IsTypeTop d one x
unfolding type_top_at
type_top_takes d one s x t h e =
    let last = λ (b : ℕ × Left). cond (eqb b.0 2) (Ok (an_arrow, b.1)) (Err (BadField s.at)) in
    let second = λ (b : ℕ × Left). cond (eqb b.0 1) (four_at b.1 >>= λ k. kind_top_at b.1.at k.0 (count_of_kind d k.0) k.1) (last b) in
    let a = bind_ok (byte_at s) (λ b. cond (eqb b.0 0) (as_read parameter (four_at b.1)) (second b)) (x, t) e in
    let p = (byte_takes s a.0.0 a.0.1 h a.1).0 in
    let at : (n : ℕ) → eqb a.0.0 n ≡ true → Takes s (n ∷ []) a.0.1 = λ n z. takes_as s (a.0.0 ∷ []) (n ∷ []) a.0.1 (ap (λ m. m ∷ []) (eqb-true _ _ z)) p in
    elim (chosen (eqb a.0.0 0) (as_read parameter (four_at a.0.1)) (second a.0) (Ok (x, t)) a.2) [
      | inl y ↦
          let q = as_takes parameter (λ v. 0 ∷ spelled_four v) spelled_type_top (λ v. v < 2 ^ 32) (IsTypeTop d one) (λ v. refl) (λ v lt. lt) s (four_at a.0.1)
          (λ v u i. let f = four_takes a.0.1 v u p.bytes i in (takes_then s (0 ∷ []) a.0.1 (spelled_four v) u (at 0 y.0) f.0, f.1)) x t y.1 in
          (q.0, some_bytes x, q.1)
      | inr n ↦ elim (chosen (eqb a.0.0 1) (four_at a.0.1 >>= λ k. kind_top_at a.0.1.at k.0 (count_of_kind d k.0) k.1) (last a.0) (Ok (x, t)) n.1) [
        | inl y ↦
            let q = kind_top_takes d one a.0.1 x t p.bytes y.1 in
            (takes_as s (1 ∷ q.0) (spelled_type_top x) t (sym q.2) (takes_then s (1 ∷ []) a.0.1 q.0 t (at 1 y.0) q.1), some_bytes x, q.3)
        | inr n ↦
            let y = held (eqb a.0.0 2) (Ok (an_arrow, a.0.1)) (BadField s.at) (x, t) n.1 in
            subst (λ (z : TypeTop × Left). Takes s (spelled_type_top z.0) z.1 × (0 < length (spelled_type_top z.0)) × IsTypeTop d one z.0) (ok_is (an_arrow, a.0.1) (x, t) y.1) (at 2 y.0, some_bytes an_arrow, tt)
      ]
    ]

pub type_takes : (d : Counts) (s : Left) (T : Ty) (t : Left) → IsBytes s.rest → type_at d s ≡ Ok (T, t) → Takes s (spelled_type T) t × IsType d T
unfolding type_at type_tops_at
type_takes d s T t h e =
    let a = bind_ok (type_tops_at d s) (λ ts. first_of s.at (types_made ts.0) ts.1) (T, t) e in
    let q = nested_take (λ one. type_top_at d) types_below spelled_type_top (IsTypeTop d) (λ one u x v i j. type_top_takes d one u x v i j) [] (suc (length s.rest)) (tt ∷ []) s a.0.0 a.0.1 h (omega arith) a.1 in
    let m = types_are_made d q.0 (tt ∷ []) q.3 in
    let f = first_is s.at (types_made q.0) a.0.1 T t m.count (ap (λ xs. first_of s.at (types_made xs) a.0.1) (sym q.1) ∙ a.2) in
    let bytes : flat_map spelled_type_top q.0 ≡ spelled_type T = m.bytes_are ∙ ap (flat_map spelled_type) f.0 ∙ append-nil (spelled_type T) in
    (subst (λ u. Takes s (spelled_type T) u) f.1 (takes_as s (flat_map spelled_type_top q.0) (spelled_type T) a.0.1 bytes q.2), (subst (AllByRecursion (IsType d)) f.0 m.fit).0)

pub types_take : (d : Counts) (n : ℕ) (s : Left) (ts : List Ty) (t : Left) → IsBytes s.rest → types_at d n s ≡ Ok (ts, t) → Takes s (flat_map spelled_type ts) t × (length ts ≡ n) × AllByRecursion (IsType d) ts
unfolding types_at
types_take d n s ts t h e =
    let q = each_take (λ before. type_at d) spelled_type (IsType d) (λ before u x v i j. type_takes d u x v i j) [] n s ts t h e in
    subst (λ us. Takes s (flat_map spelled_type us) t × (length us ≡ n) × AllByRecursion (IsType d) us) (sym q.1) (q.2, q.3, q.4)
