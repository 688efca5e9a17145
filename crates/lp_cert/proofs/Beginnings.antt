-- A constant on one or two terms.
use Rattle.std.proofs.Common.{◌≡◌, ℕ, List, [], ◌∷◌, length, map, ◌<◌, refl, sym, ap, subst, ◌∙◌, arith, Option, Some, None}
use Rattle.std.specs.Prelude.{IfSome, slice_index_or, All}
use Rattle.std.proofs.lemmas.List.Elements.{All-head}
use Rattle.lp_calculus.specs.Types.{Ty}
use Rattle.lp_calculus.specs.Term.{Term, atom, app, apply, constant}
use Rattle.lp_term.specs.Nodes.{Nodes, Extends, tree, type_tree}
use Rattle.lp_term.specs.declared.node.TermId.{TermId}
use Rattle.lp_term.specs.declared.node.TypeId.{TypeId}
use Rattle.lp_cert.specs.Same.{types_in}
use Rattle.lp_cert.specs.Shape.{IsOne, IsOneOn, IsTwo, IsTwoOn, IsTwoWith}
use Rattle.lp_cert.specs.declared.shape.One.{One}
use Rattle.lp_cert.specs.declared.shape.Two.{Two}
use Rattle.lp_cert.proofs.Comparisons.{twice}

-- the tree of a constant's node
pub constant_tree : (b : Nodes) (n : ℕ) (ids : List TypeId) (h : Term) → atom (constant n (map (type_tree b) (map (λ t. t.0) ids))) ≡ h → h ≡ atom (constant n (types_in b ids))
constant_tree b n ids h e = sym e ∙ ap (λ l. atom (constant n l)) (twice (type_tree b) ids)

pub one_argument : (b : Nodes) (h t : Term) (ids : List TermId) → length ids ≡ 1 → apply h (map (tree b) (map (λ t. t.0) ids)) ≡ t → t ≡ app h (tree b (slice_index_or ids 0 (record { 0 = 0 })).0)
one_argument b h t [] l e = absurd (omega (arith, l))
one_argument b h t (x ∷ []) l e = sym e
one_argument b h t (x ∷ y ∷ zs) l e = absurd (omega (arith, l))

pub two_arguments : (b : Nodes) (h t : Term) (ids : List TermId) → length ids ≡ 2 → apply h (map (tree b) (map (λ t. t.0) ids)) ≡ t →
    t ≡ app (app h (tree b (slice_index_or ids 0 (record { 0 = 0 })).0)) (tree b (slice_index_or ids 1 (record { 0 = 0 })).0)
two_arguments b h t [] l e = absurd (omega (arith, l))
two_arguments b h t (x ∷ []) l e = absurd (omega (arith, l))
two_arguments b h t (x ∷ y ∷ []) l e = sym e
two_arguments b h t (x ∷ y ∷ z ∷ zs) l e = absurd (omega (arith, l))

pub one_on : (b : Nodes) (h t : Term) (ids : List TermId) (o : Option One) → length ids ≡ 1 → apply h (map (tree b) (map (λ t. t.0) ids)) ≡ t → IfSome o (IsOneOn b h (slice_index_or ids 0 (record { 0 = 0 }))) → IfSome o (IsOne b t)
one_on b h t ids None l e s = tt
one_on b h t ids (Some x) l e s = one_argument b h t ids l e ∙ (λ j. app (s.0 j) (tree b (sym s.1 j).0))

pub two_with_on : (b : Nodes) (h t : Term) (ids : List TermId) (o : Option Two) → length ids ≡ 1 → apply h (map (tree b) (map (λ t. t.0) ids)) ≡ t → IfSome o (IsTwoWith b h (slice_index_or ids 0 (record { 0 = 0 }))) → IfSome o (IsTwo b t)
two_with_on b h t ids None l e s = tt
two_with_on b h t ids (Some x) l e s = one_argument b h t ids l e ∙ (λ j. app (s.0 j) (tree b (sym s.1 j).0))

pub two_on : (b : Nodes) (h t : Term) (ids : List TermId) (o : Option Two) → length ids ≡ 2 → apply h (map (tree b) (map (λ t. t.0) ids)) ≡ t →
    IfSome o (IsTwoOn b h (slice_index_or ids 0 (record { 0 = 0 })) (slice_index_or ids 1 (record { 0 = 0 }))) → IfSome o (IsTwo b t)
two_on b h t ids None l e s = tt
two_on b h t ids (Some x) l e s = two_arguments b h t ids l e ∙ (λ j. app (app (s.0 j) (tree b (sym s.1 j).0)) (tree b (sym s.2 j).0))

one_type : (b : Nodes) (ids : List TypeId) → length ids ≡ 1 → (of : Ty) × (types_in b ids ≡ of ∷ [])
one_type b [] l = absurd (omega (arith, l))
one_type b (x ∷ []) l = (type_tree b x.0, refl)
one_type b (x ∷ y ∷ zs) l = absurd (omega (arith, l))

-- a constant with one type on two terms
pub at_one_type : (b : Nodes) (t l r : Term) (n m : ℕ) (ids : List TypeId) → t ≡ app (app (atom (constant n (types_in b ids))) l) r → n ≡ m → length ids ≡ 1 → (of : Ty) × (t ≡ app (app (atom (constant m (of ∷ []))) l) r)
at_one_type b t l r n m ids e same one = let o = one_type b ids one in (o.0, e ∙ (λ j. app (app (atom (constant (same j) (o.1 j))) l) r))

pub at_no_type : (b : Nodes) (t l r : Term) (n m : ℕ) (ids : List TypeId) → t ≡ app (app (atom (constant n (types_in b ids))) l) r → n ≡ m → length ids ≡ 0 → t ≡ app (app (atom (constant m [])) l) r
at_no_type b t l r n m [] e same none = e ∙ (λ j. app (app (atom (constant (same j) [])) l) r)
at_no_type b t l r n m (x ∷ xs) e same none = absurd (omega (arith, none))

-- a constant with one type on a term
pub on_one_type : (b : Nodes) (t l : Term) (n m : ℕ) (ids : List TypeId) → t ≡ app (atom (constant n (types_in b ids))) l → n ≡ m → length ids ≡ 1 → t ≡ app (atom (constant m (type_tree b (slice_index_or ids 0 (record { 0 = 0 })).0 ∷ []))) l
on_one_type b t l n m [] e same one = absurd (omega (arith, one))
on_one_type b t l n m (x ∷ []) e same one = e ∙ (λ j. app (atom (constant (same j) (type_tree b x.0 ∷ []))) l)
on_one_type b t l n m (x ∷ y ∷ zs) e same one = absurd (omega (arith, one))

-- the same in each bank that this one grows to
pub one_on_later : (bank : Nodes) (h t : ℕ) (ids : List TermId) (o : Option One) → length ids ≡ 1 → ((b : Nodes) → Extends bank b → apply (tree b h) (map (tree b) (map (λ t. t.0) ids)) ≡ tree b t) →
    IfSome o (λ x. (b : Nodes) → Extends bank b → IsOneOn b (tree b h) (slice_index_or ids 0 (record { 0 = 0 })) x) → IfSome o (λ x. (b : Nodes) → Extends bank b → IsOne b (tree b t) x)
one_on_later bank h t ids None l e s = tt
one_on_later bank h t ids (Some x) l e s = λ b g. one_on b (tree b h) (tree b t) ids (Some x) l (e b g) (s b g)

pub two_with_on_later : (bank : Nodes) (h t : ℕ) (ids : List TermId) (o : Option Two) → length ids ≡ 1 → ((b : Nodes) → Extends bank b → apply (tree b h) (map (tree b) (map (λ t. t.0) ids)) ≡ tree b t) →
    IfSome o (λ x. (b : Nodes) → Extends bank b → IsTwoWith b (tree b h) (slice_index_or ids 0 (record { 0 = 0 })) x) → IfSome o (λ x. (b : Nodes) → Extends bank b → IsTwo b (tree b t) x)
two_with_on_later bank h t ids None l e s = tt
two_with_on_later bank h t ids (Some x) l e s = λ b g. two_with_on b (tree b h) (tree b t) ids (Some x) l (e b g) (s b g)

pub two_on_later : (bank : Nodes) (h t : ℕ) (ids : List TermId) (o : Option Two) → length ids ≡ 2 → ((b : Nodes) → Extends bank b → apply (tree b h) (map (tree b) (map (λ t. t.0) ids)) ≡ tree b t) →
    IfSome o (λ x. (b : Nodes) → Extends bank b → IsTwoOn b (tree b h) (slice_index_or ids 0 (record { 0 = 0 })) (slice_index_or ids 1 (record { 0 = 0 })) x) → IfSome o (λ x. (b : Nodes) → Extends bank b → IsTwo b (tree b t) x)
two_on_later bank h t ids None l e s = tt
two_on_later bank h t ids (Some x) l e s = λ b g. two_on b (tree b h) (tree b t) ids (Some x) l (e b g) (s b g)

-- what a constant stands on is in the bank
pub one_inside : (b : Nodes) (n : ℕ) (h : Term) (ids : List TermId) (o : Option One) → length ids ≡ 1 → All (λ i. i < n) (map (λ t. t.0) ids) → IfSome o (IsOneOn b h (slice_index_or ids 0 (record { 0 = 0 }))) → IfSome o (λ x. x.on.0 < n)
one_inside b n h ids None l a s = tt
one_inside b n h [] (Some x) l a s = absurd (omega (arith, l))
one_inside b n h (y ∷ ys) (Some x) l a s = subst (λ t. t.0 < n) (sym s.1) (All-head (λ i. i < n) y.0 (map (λ t. t.0) ys) a)

-- the sides of a formula, in each bank that this one grows to
pub sides_later : (bank : Nodes) (t l r : TermId) (n m : ℕ) (ids : List TypeId) → ((b : Nodes) → Extends bank b → tree b t.0 ≡ app (app (atom (constant n (types_in b ids))) (tree b l.0)) (tree b r.0)) → n ≡ m → length ids ≡ 0 →
    (b : Nodes) → Extends bank b → tree b t.0 ≡ app (app (atom (constant m [])) (tree b l.0)) (tree b r.0)
sides_later bank t l r n m ids e same none b g = at_no_type b (tree b t.0) (tree b l.0) (tree b r.0) n m ids (e b g) same none

pub typed_sides_later : (bank : Nodes) (t l r : TermId) (n m : ℕ) (ids : List TypeId) → ((b : Nodes) → Extends bank b → tree b t.0 ≡ app (app (atom (constant n (types_in b ids))) (tree b l.0)) (tree b r.0)) → n ≡ m → length ids ≡ 1 →
    (b : Nodes) → Extends bank b → (of : Ty) × (tree b t.0 ≡ app (app (atom (constant m (of ∷ []))) (tree b l.0)) (tree b r.0))
typed_sides_later bank t l r n m ids e same one b g = at_one_type b (tree b t.0) (tree b l.0) (tree b r.0) n m ids (e b g) same one
