-- What is read as a term is spelled so.
use Rattle.std.proofs.Common.{◌≡◌, ℕ, zero, suc, ◌+◌, ◌^◌, ◌<◌, ◌≤◌, Bool, true, false, cond, eqb, ℤ, List, [], ◌∷◌, ◌++◌, length, Option, Some, None, Result, Ok, Err, refl, sym, ap, subst, ◌∙◌, append_assoc, arith, inl, inr}
use Rattle.std.specs.Prelude.{⊤}
use Rattle.std.specs.List.{flat_map, AllByRecursion}
use Rattle.std.proofs.lemmas.Bool.{eqb-true}
use Rattle.std.proofs.lemmas.List.{append-nil}
use Rattle.lp_calculus.specs.Types.{Ty}
use Rattle.lp_calculus.specs.Term.{Term, Atom, index, atom, abs, app, constant, integer, text, eigen, logic}
use Rattle.lp_calculus.specs.Term as term
use Rattle.lp_bytes.specs.declared.fault.Fault.{Fault}
use Rattle.lp_bytes.specs.declared.fault.Fault.TheVariants.{BadField}
use Rattle.lp_bytes.specs.Numbers.{spelled_four, spelled_integer, spelled_long_text}
use Rattle.lp_bytes.specs.Spellable.{IsInteger, AreWhole}
use Rattle.lp_bytes.specs.Reading.{Left, left, Read, ◌>>=◌, byte_at, four_at, integer_at, long_text_at, each_at, nested_at}
use Rattle.lp_bytes.proofs.Taking.{IsBytes, bind_ok, ok_is, held, chosen, Takes, takes_then, takes_as, byte_takes, four_takes, integer_takes, long_text_takes, each_take, nested_take}
use Rattle.lp_cert.specs.Arities.{Counts, count_of_constant}
use Rattle.lp_cert.specs.Spelling.{spelled_type, spelled_atom, spelled_term}
use Rattle.lp_cert.specs.Spellable.{IsType, IsAtom, IsTerm}
use Rattle.lp_cert.specs.Reading.{as_read, first_of, type_at, types_at, TermTop, leaf, an_abstraction, an_application, terms_below, typed_constant_at, constant_at, parameter_at, leaf_at, term_top_at, term_tops_at, with_term_top, terms_made, term_at, terms_at}
use Rattle.lp_cert.specs.inner.Tops.{spelled_term_top, IsLeaf, IsTermTop}
use Rattle.lp_cert.proofs.TypesFound.{as_takes, first_is, type_takes, types_take}

-- ---- leaves

-- what is read behind a first byte
abbrev Behind : Counts → ℕ → Left → Term → Left → Type 0
Behind d tag s x t = (text : List ℕ) × Takes s text t × (spelled_term x ≡ tag ∷ text) × IsLeaf d x

behind_as : {A : Type 0} (d : Counts) (tag : ℕ) (g : A → Term) (spell : A → List ℕ) (P : A → Type 0) → ((x : A) → spelled_term (g x) ≡ tag ∷ spell x) → ((x : A) → P x → IsLeaf d (g x))
    → (s : Left) (r : Read A) → ((x : A) (u : Left) → r ≡ Ok (x, u) → Takes s (spell x) u × P x) → (y : Term) (t : Left) → as_read g r ≡ Ok (y, t) → Behind d tag s y t
behind_as d tag g spell P same kept s r k y t e =
    let a = bind_ok r (λ x. Ok (g x.0, x.1)) (y, t) e in
    let p = k a.0.0 a.0.1 a.1 in
    subst (λ (z : Term × Left). Behind d tag s z.0 z.1) (ok_is (g a.0.0, a.0.1) (y, t) a.2) (spell a.0.0, p.0, same a.0.0, kept a.0.0 p.1)

typed_constant_takes : (d : Counts) (s : Left) (at c : ℕ) (u : Left) (x : Term) (t : Left) → Takes s (spelled_four c) u → c < 2 ^ 32 → (o : Option ℕ) → count_of_constant d c ≡ o → typed_constant_at d at c o u ≡ Ok (x, t) → Behind d 1 s x t
typed_constant_takes d s at c u x t p lt None count e = absurd cc
typed_constant_takes d s at c u x t p lt (Some n) count e =
    behind_as d 1 (λ ts. atom (constant c ts)) (λ ts. spelled_four c ++ flat_map spelled_type ts) (λ ts. (length ts ≡ n) × AllByRecursion (IsType d) ts) (λ ts. refl)
    (λ ts h. (lt, count ∙ ap Some (sym h.0), h.1)) s (types_at d n u)
    (λ ts v i. let q = types_take d n u ts v p.bytes i in (takes_then s (spelled_four c) u (flat_map spelled_type ts) v p q.0, (q.1, q.2))) x t e

constant_takes : (d : Counts) (s : Left) (x : Term) (t : Left) → IsBytes s.rest → constant_at d s ≡ Ok (x, t) → Behind d 1 s x t
unfolding constant_at
constant_takes d s x t h e =
    let a = bind_ok (four_at s) (λ c. typed_constant_at d s.at c.0 (count_of_constant d c.0) c.1) (x, t) e in
    let p = four_takes s a.0.0 a.0.1 h a.1 in
    typed_constant_takes d s s.at a.0.0 a.0.1 x t p.0 p.1 (count_of_constant d a.0.0) refl a.2

parameter_takes : (d : Counts) (s : Left) (x : Term) (t : Left) → IsBytes s.rest → parameter_at d s ≡ Ok (x, t) → Behind d 5 s x t
unfolding parameter_at
parameter_takes d s x t h e =
    let a = bind_ok (four_at s) (λ k. as_read (λ t. atom (term.param k.0 t)) (type_at d k.1)) (x, t) e in
    let p = four_takes s a.0.0 a.0.1 h a.1 in
    behind_as d 5 (λ T. atom (term.param a.0.0 T)) (λ T. spelled_four a.0.0 ++ spelled_type T) (IsType d) (λ T. refl) (λ T h. (p.1, h)) s (type_at d a.0.1)
    (λ T v i. let q = type_takes d a.0.1 T v p.0.bytes i in (takes_then s (spelled_four a.0.0) a.0.1 (spelled_type T) v p.0 q.0, q.1)) x t a.2

behind_tag : (d : Counts) (tag n : ℕ) (s : Left) (x : Term) (t : Left) → tag ≡ n → Behind d n s x t → Behind d tag s x t
behind_tag d tag n s x t e b = subst (λ m. Behind d m s x t) (sym e) b

leaf_takes : (d : Counts) (at tag : ℕ) (s : Left) (x : Term) (t : Left) → IsBytes s.rest → leaf_at d at tag s ≡ Ok (x, t) → Behind d tag s x t
unfolding leaf_at
leaf_takes d at tag s x t h e =
    let five = cond (eqb tag 5) (parameter_at d s) (Err (BadField at)) in
    let four = cond (eqb tag 4) (as_read (λ k. atom (eigen k)) (four_at s)) five in
    let three = cond (eqb tag 3) (as_read (λ x. atom (text x)) (long_text_at s)) four in
    let two = cond (eqb tag 2) (as_read (λ z. atom (integer z)) (integer_at s)) three in
    let one = cond (eqb tag 1) (constant_at d s) two in
    elim (chosen (eqb tag 0) (as_read index (four_at s)) one (Ok (x, t)) e) [
      | inl y ↦ behind_tag d tag 0 s x t (eqb-true _ _ y.0) (behind_as d 0 index spelled_four (λ i. i < 2 ^ 32) (λ i. refl) (λ i lt. lt) s (four_at s) (λ i u j. four_takes s i u h j) x t y.1)
      | inr n ↦ elim (chosen (eqb tag 1) (constant_at d s) two (Ok (x, t)) n.1) [
        | inl y ↦ behind_tag d tag 1 s x t (eqb-true _ _ y.0) (constant_takes d s x t h y.1)
        | inr n ↦ elim (chosen (eqb tag 2) (as_read (λ z. atom (integer z)) (integer_at s)) three (Ok (x, t)) n.1) [
          | inl y ↦ behind_tag d tag 2 s x t (eqb-true _ _ y.0) (behind_as d 2 (λ z. atom (integer z)) spelled_integer IsInteger (λ z. refl) (λ z h. h) s (integer_at s) (λ z u j. let q = integer_takes s z u h j in (q.0, (q.1, q.2))) x t y.1)
          | inr n ↦ elim (chosen (eqb tag 3) (as_read (λ x. atom (text x)) (long_text_at s)) four (Ok (x, t)) n.1) [
            | inl y ↦ behind_tag d tag 3 s x t (eqb-true _ _ y.0) (behind_as d 3 (λ x. atom (text x)) spelled_long_text (λ x. length x < 2 ^ 32) (λ x. refl) (λ x h. h) s (long_text_at s) (λ z u j. long_text_takes s z u h j) x t y.1)
            | inr n ↦ elim (chosen (eqb tag 4) (as_read (λ k. atom (eigen k)) (four_at s)) five (Ok (x, t)) n.1) [
              | inl y ↦ behind_tag d tag 4 s x t (eqb-true _ _ y.0) (behind_as d 4 (λ k. atom (eigen k)) spelled_four (λ i. i < 2 ^ 32) (λ i. refl) (λ i lt. lt) s (four_at s) (λ i u j. four_takes s i u h j) x t y.1)
              | inr n ↦ let y = held (eqb tag 5) (parameter_at d s) (BadField at) (x, t) n.1 in behind_tag d tag 5 s x t (eqb-true _ _ y.0) (parameter_takes d s x t h y.1)
            ]
          ]
        ]
      ]
    ]

-- ---- tops

pub spelled_some : (t : Term) → 0 < length (spelled_term t)
spelled_some (index i) = omega arith
spelled_some (atom (constant c ts)) = omega arith
spelled_some (atom (integer z)) = omega arith
spelled_some (atom (text s)) = omega arith
spelled_some (atom (eigen k)) = omega arith
spelled_some (atom (logic v level)) = omega arith
spelled_some (atom (term.param k t)) = omega arith
spelled_some (abs t) = omega arith
spelled_some (app t u) = omega arith

pub some_bytes : (x : TermTop) → 0 < length (spelled_term_top x)
some_bytes (leaf t) = spelled_some t
some_bytes an_abstraction = omega arith
some_bytes an_application = omega arith

-- so many terms, which have a spelling, and these bytes
pub record AreMade (d : Counts) (n : ℕ) (bytes : List ℕ) (ts : List Term) : Type 0 where
  pub count : length ts ≡ n
  pub fit : AllByRecursion (IsTerm d) ts
  pub bytes_are : bytes ≡ flat_map spelled_term ts

abstraction_made : (d : Counts) (m : ℕ) (bytes : List ℕ) (ts : List Term) → AreMade d (suc m) bytes ts → AreMade d (suc m) (6 ∷ bytes) (with_term_top an_abstraction ts)
abstraction_made d m bytes [] p = absurd (omega (arith, p.count))
abstraction_made d m bytes (t ∷ ts) p = record { count = p.count; fit = (p.fit.0, p.fit.1); bytes_are = ap (λ x. 6 ∷ x) p.bytes_are }

application_made : (d : Counts) (m : ℕ) (bytes : List ℕ) (ts : List Term) → AreMade d (suc (suc m)) bytes ts → AreMade d (suc m) (7 ∷ bytes) (with_term_top an_application ts)
application_made d m bytes [] p = absurd (omega (arith, p.count))
application_made d m bytes (t ∷ []) p = absurd (omega (arith, p.count))
application_made d m bytes (t ∷ u ∷ ts) p =
    record {
      count = omega (arith, p.count);
      fit = ((p.fit.0, p.fit.1.0), p.fit.1.1);
      bytes_are = ap (λ x. 7 ∷ x) (p.bytes_are ∙ sym (append_assoc (spelled_term t) (spelled_term u) (flat_map spelled_term ts)));
    }

leaf_is_term : (d : Counts) (t : Term) → IsLeaf d t → IsTerm d t
leaf_is_term d (index i) h = h
leaf_is_term d (atom a) h = h
leaf_is_term d (abs t) h = absurd h
leaf_is_term d (app t u) h = absurd h

-- whole tops make the terms
terms_are_made : (d : Counts) (tops : List TermTop) (to_come : List ⊤) → AreWhole terms_below (IsTermTop d) to_come tops → AreMade d (length to_come) (flat_map spelled_term_top tops) (terms_made tops)
terms_are_made d [] [] h = record { count = refl; fit = tt; bytes_are = refl }
terms_are_made d [] (one ∷ to_come) h = absurd h
terms_are_made d (t ∷ tops) [] h = absurd h
terms_are_made d (leaf t ∷ tops) (one ∷ to_come) h =
    let p = terms_are_made d tops to_come h.1 in
    record { count = ap suc p.count; fit = (leaf_is_term d t h.0, p.fit); bytes_are = ap (λ x. spelled_term t ++ x) p.bytes_are }
terms_are_made d (an_abstraction ∷ tops) (one ∷ to_come) h = abstraction_made d (length to_come) (flat_map spelled_term_top tops) (terms_made tops) (terms_are_made d tops (tt ∷ to_come) h.1)
terms_are_made d (an_application ∷ tops) (one ∷ to_come) h = application_made d (length to_come) (flat_map spelled_term_top tops) (terms_made tops) (terms_are_made d tops (tt ∷ tt ∷ to_come) h.1)

term_top_takes : (d : Counts) (one : ⊤) (s : Left) (x : TermTop) (t : Left) → IsBytes s.rest → term_top_at d s ≡ Ok (x, t) → Takes s (spelled_term_top x) t × (0 < length (spelled_term_top x)) × IsTermTop d one x
unfolding term_top_at
term_top_takes d one s x t h e =
    let last = λ (b : ℕ × Left). as_read leaf (leaf_at d s.at b.0 b.1) in
    let second = λ (b : ℕ × Left). cond (eqb b.0 7) (Ok (an_application, b.1)) (last b) in
    let a = bind_ok (byte_at s) (λ b. cond (eqb b.0 6) (Ok (an_abstraction, b.1)) (second b)) (x, t) e in
    let p = (byte_takes s a.0.0 a.0.1 h a.1).0 in
    let at : (n : ℕ) → eqb a.0.0 n ≡ true → Takes s (n ∷ []) a.0.1 = λ n z. takes_as s (a.0.0 ∷ []) (n ∷ []) a.0.1 (ap (λ m. m ∷ []) (eqb-true _ _ z)) p in
    let Q = λ (z : TermTop × Left). Takes s (spelled_term_top z.0) z.1 × (0 < length (spelled_term_top z.0)) × IsTermTop d one z.0 in
    elim (chosen (eqb a.0.0 6) (Ok (an_abstraction, a.0.1)) (second a.0) (Ok (x, t)) a.2) [
      | inl y ↦ subst Q (ok_is (an_abstraction, a.0.1) (x, t) y.1) (at 6 y.0, some_bytes an_abstraction, tt)
      | inr n ↦ elim (chosen (eqb a.0.0 7) (Ok (an_application, a.0.1)) (last a.0) (Ok (x, t)) n.1) [
        | inl y ↦ subst Q (ok_is (an_application, a.0.1) (x, t) y.1) (at 7 y.0, some_bytes an_application, tt)
        | inr n ↦
            let b = bind_ok (leaf_at d s.at a.0.0 a.0.1) (λ x. Ok (leaf x.0, x.1)) (x, t) n.1 in
            let q = leaf_takes d s.at a.0.0 a.0.1 b.0.0 b.0.1 p.bytes b.1 in
            subst Q (ok_is (leaf b.0.0, b.0.1) (x, t) b.2) (takes_as s (a.0.0 ∷ q.0) (spelled_term b.0.0) b.0.1 (sym q.2) (takes_then s (a.0.0 ∷ []) a.0.1 q.0 b.0.1 p q.1), spelled_some b.0.0, q.3)
      ]
    ]

pub term_takes : (d : Counts) (s : Left) (T : Term) (t : Left) → IsBytes s.rest → term_at d s ≡ Ok (T, t) → Takes s (spelled_term T) t × IsTerm d T
unfolding term_at term_tops_at
term_takes d s T t h e =
    let a = bind_ok (term_tops_at d s) (λ ts. first_of s.at (terms_made ts.0) ts.1) (T, t) e in
    let q = nested_take (λ one. term_top_at d) terms_below spelled_term_top (IsTermTop d) (λ one u x v i j. term_top_takes d one u x v i j) [] (suc (length s.rest)) (tt ∷ []) s a.0.0 a.0.1 h (omega arith) a.1 in
    let m = terms_are_made d q.0 (tt ∷ []) q.3 in
    let f = first_is s.at (terms_made q.0) a.0.1 T t m.count (ap (λ xs. first_of s.at (terms_made xs) a.0.1) (sym q.1) ∙ a.2) in
    let bytes : flat_map spelled_term_top q.0 ≡ spelled_term T = m.bytes_are ∙ ap (flat_map spelled_term) f.0 ∙ append-nil (spelled_term T) in
    (subst (λ u. Takes s (spelled_term T) u) f.1 (takes_as s (flat_map spelled_term_top q.0) (spelled_term T) a.0.1 bytes q.2), (subst (AllByRecursion (IsTerm d)) f.0 m.fit).0)

pub terms_take : (d : Counts) (n : ℕ) (s : Left) (ts : List Term) (t : Left) → IsBytes s.rest → terms_at d n s ≡ Ok (ts, t) → Takes s (flat_map spelled_term ts) t × (length ts ≡ n) × AllByRecursion (IsTerm d) ts
unfolding terms_at
terms_take d n s ts t h e =
    let q = each_take (λ before. term_at d) spelled_term (IsTerm d) (λ before u x v i j. term_takes d u x v i j) [] n s ts t h e in
    subst (λ us. Takes s (flat_map spelled_term us) t × (length us ≡ n) × AllByRecursion (IsTerm d) us) (sym q.1) (q.2, q.3, q.4)
