-- A term that does not begin as it should.
use Rattle.std.proofs.Common.{◌≡◌, ◌≢◌, ◌<◌, ℕ, List, [], ◌∷◌, length, map, refl, sym, ap, subst, ◌∙◌, arith, Option, Some, None}
use Rattle.std.specs.Prelude.{IfSome, slice_index_or, All}
use Rattle.std.proofs.lemmas.List.{length-map}
use Rattle.std.proofs.lemmas.List.Elements.{All-head, All-tail}
use Rattle.lp_calculus.specs.Types.{Ty}
use Rattle.lp_calculus.specs.Term.{Term, Atom, index, atom, abs, app, apply, constant}
use Rattle.lp_standard.specs.Connectives.{two}
use Rattle.lp_term.specs.Nodes.{Nodes, tree, type_tree}
use Rattle.lp_term.specs.Spine.{IsNoApplication}
use Rattle.lp_model.specs.Proofs.{IsAtomHead}
use Rattle.lp_cert.specs.inner.Evaluated.{IsApplication}
use Rattle.lp_term.specs.declared.node.TermId.{TermId}
use Rattle.lp_term.specs.declared.node.TypeId.{TypeId}
use Rattle.lp_cert.specs.Same.{types_in}
use Rattle.lp_cert.specs.Shape.{IsTwoOn, IsTwo, IsOne}
use Rattle.lp_cert.specs.declared.shape.Two.{Two}
use Rattle.lp_cert.proofs.Beginnings.{one_argument, two_arguments}

-- two arguments are not one, and three are not two
two_not_one : (h x y : Term) (zs : List Term) (a : Atom) (u : Term) → apply h (x ∷ y ∷ zs) ≡ app (atom a) u → ⊥
two_not_one h x y [] a u e = absurd (cc)
two_not_one h x y (z ∷ zs) a u e = two_not_one (app h x) y z zs a u e

three_not_two : (h x y z : Term) (zs : List Term) (a : Atom) (u v : Term) → apply h (x ∷ y ∷ z ∷ zs) ≡ app (app (atom a) u) v → ⊥
three_not_two h x y z [] a u v e = absurd (cc)
three_not_two h x y z (w ∷ zs) a u v e = three_not_two (app h x) y z w zs a u v e

-- no single argument
pub not_on_one : (b : Nodes) (h t : Term) (ids : List TermId) → (length ids ≡ 1 → ⊥) → map (λ t. t.0) ids ≢ [] → apply h (map (tree b) (map (λ t. t.0) ids)) ≡ t → (n : ℕ) (ts : List Ty) (u : Term) → t ≡ app (atom (constant n ts)) u → ⊥
not_on_one b h t [] l ne e n ts u q = ne refl
not_on_one b h t (x ∷ []) l ne e n ts u q = l refl
not_on_one b h t (x ∷ y ∷ zs) l ne e n ts u q = two_not_one h (tree b x.0) (tree b y.0) (map (tree b) (map (λ t. t.0) zs)) (constant n ts) u (e ∙ q)

-- neither one argument nor two
pub not_on_two : (b : Nodes) (h t : Term) (ids : List TermId) → (length ids ≡ 1 → ⊥) → (length ids ≡ 2 → ⊥) → map (λ t. t.0) ids ≢ [] → apply h (map (tree b) (map (λ t. t.0) ids)) ≡ t → (n : ℕ) (ts : List Ty) (u v : Term) → t ≡ two n ts u v → ⊥
not_on_two b h t [] l m ne e n ts u v q = ne refl
not_on_two b h t (x ∷ []) l m ne e n ts u v q = l refl
not_on_two b h t (x ∷ y ∷ []) l m ne e n ts u v q = m refl
not_on_two b h t (x ∷ y ∷ z ∷ zs) l m ne e n ts u v q = three_not_two h (tree b x.0) (tree b y.0) (tree b z.0) (map (tree b) (map (λ t. t.0) zs)) (constant n ts) u v (e ∙ q)

-- the head of one argument, and of two
pub head_not_on_one : (b : Nodes) (h t : Term) (ids : List TermId) → length ids ≡ 1 → apply h (map (tree b) (map (λ t. t.0) ids)) ≡ t → ((n : ℕ) (ts : List Ty) → h ≡ atom (constant n ts) → ⊥) → (n : ℕ) (ts : List Ty) (u : Term) → t ≡ app (atom (constant n ts)) u → ⊥
head_not_on_one b h t ids l e k n ts u q = k n ts (let p = sym (one_argument b h t ids l e) ∙ q in cc)

pub head_not_on_two : (b : Nodes) (h t : Term) (ids : List TermId) → length ids ≡ 2 → apply h (map (tree b) (map (λ t. t.0) ids)) ≡ t → ((n : ℕ) (ts : List Ty) → h ≡ atom (constant n ts) → ⊥) → (n : ℕ) (ts : List Ty) (u v : Term) → t ≡ two n ts u v → ⊥
head_not_on_two b h t ids l e k n ts u v q = k n ts (let p = sym (two_arguments b h t ids l e) ∙ q in cc)

pub head_not_with_two : (b : Nodes) (h t : Term) (ids : List TermId) → length ids ≡ 1 → apply h (map (tree b) (map (λ t. t.0) ids)) ≡ t → ((n : ℕ) (ts : List Ty) (u : Term) → h ≡ app (atom (constant n ts)) u → ⊥) → (n : ℕ) (ts : List Ty) (u v : Term) → t ≡ two n ts u v → ⊥
head_not_with_two b h t ids l e k n ts u v q = k n ts u (let p = sym (one_argument b h t ids l e) ∙ q in cc)

-- where the two terms stand
pub two_inside : (b : Nodes) (n : ℕ) (h : Term) (ids : List TermId) (o : Option Two) → length ids ≡ 2 → All (λ i. i < n) (map (λ t. t.0) ids) → IfSome o (IsTwoOn b h (slice_index_or ids 0 (record { 0 = 0 })) (slice_index_or ids 1 (record { 0 = 0 }))) →
    IfSome o (λ x. (x.left.0 < n) × (x.right.0 < n))
two_inside b n h ids None l a s = tt
two_inside b n h [] (Some x) l a s = absurd (omega (arith, l))
two_inside b n h (y ∷ []) (Some x) l a s = absurd (omega (arith, l))
two_inside b n h (y ∷ z ∷ zs) (Some x) l a s =
    let P : ℕ → Type 0 = λ i. i < n in
    (subst (λ t. t.0 < n) (sym s.1) (All-head P y.0 (z.0 ∷ map (λ t. t.0) zs) a), subst (λ t. t.0 < n) (sym s.2) (All-head P z.0 (map (λ t. t.0) zs) (All-tail P y.0 (z.0 ∷ map (λ t. t.0) zs) a)))

pub with_inside : (n : ℕ) (ids : List TermId) (o : Option Two) → length ids ≡ 1 → All (λ i. i < n) (map (λ t. t.0) ids) → IfSome o (λ x. (x.left.0 < n) × (x.right ≡ slice_index_or ids 0 (record { 0 = 0 }))) → IfSome o (λ x. (x.left.0 < n) × (x.right.0 < n))
with_inside n ids None l a p = tt
with_inside n [] (Some x) l a p = absurd (omega (arith, l))
with_inside n (y ∷ ys) (Some x) l a p = (p.0, subst (λ t. t.0 < n) (sym p.1) (All-head (λ i. i < n) y.0 (map (λ t. t.0) ys) a))

-- what constant a formula begins with is one
pub two_parts : (t l r A B : Term) (c d : ℕ) (ts us : List Ty) → t ≡ two c ts l r → t ≡ two d us A B → (c ≡ d) × (ts ≡ us)
two_parts t l r A B c d ts us e f = (cc, cc)

pub one_parts : (t l A : Term) (c d : ℕ) (ts us : List Ty) → t ≡ app (atom (constant c ts)) l → t ≡ app (atom (constant d us)) A → (c ≡ d) × (ts ≡ us)
one_parts t l A c d ts us e f = (cc, cc)

pub count_of_types : (b : Nodes) (ids : List TypeId) (us : List Ty) → types_in b ids ≡ us → length ids ≡ length us
count_of_types b ids us e = sym (length-map ids (λ t. type_tree b t.0)) ∙ ap length e

-- what has arguments is an application
applied_to : (h x : Term) (xs : List Term) → (f : Term) × (u : Term) × (apply h (x ∷ xs) ≡ app f u)
applied_to h x [] = (h, x, refl)
applied_to h x (y ∷ ys) = applied_to (app h x) y ys

pub is_applied : (b : Nodes) (h t : Term) (ids : List TermId) → map (λ t. t.0) ids ≢ [] → apply h (map (tree b) (map (λ t. t.0) ids)) ≡ t → (f : Term) × (u : Term) × (t ≡ app f u)
is_applied b h t [] ne e = absurd (ne refl)
is_applied b h t (x ∷ xs) ne e = let q = applied_to h (tree b x.0) (map (tree b) (map (λ t. t.0) xs)) in (q.0, q.1, sym e ∙ q.2)

pub no_atom : (b : Nodes) (h t : Term) (ids : List TermId) (a : Atom) → map (λ t. t.0) ids ≢ [] → apply h (map (tree b) (map (λ t. t.0) ids)) ≡ t → t ≡ atom a → ⊥
no_atom b h t ids a ne e q = absurd (let p = (is_applied b h t ids ne e).2 in cc)

pub no_index : (b : Nodes) (h t : Term) (ids : List TermId) (i : ℕ) → map (λ t. t.0) ids ≢ [] → apply h (map (tree b) (map (λ t. t.0) ids)) ≡ t → t ≡ index i → ⊥
no_index b h t ids i ne e q = absurd (let p = (is_applied b h t ids ne e).2 in cc)

pub no_abs : (b : Nodes) (h t u : Term) (ids : List TermId) → map (λ t. t.0) ids ≢ [] → apply h (map (tree b) (map (λ t. t.0) ids)) ≡ t → t ≡ abs u → ⊥
no_abs b h t u ids ne e q = absurd (let p = (is_applied b h t ids ne e).2 in cc)

pub application : (b : Nodes) (h t : Term) (ids : List TermId) → map (λ t. t.0) ids ≢ [] → apply h (map (tree b) (map (λ t. t.0) ids)) ≡ t → IsApplication t
application b h t ids ne e = subst IsApplication (sym (is_applied b h t ids ne e).2) tt

pub no_atom_head : (b : Nodes) (h t : Term) (ids : List TermId) → map (λ t. t.0) ids ≢ [] → apply h (map (tree b) (map (λ t. t.0) ids)) ≡ t → IsAtomHead t → ⊥
no_atom_head b h t ids ne e k = subst IsAtomHead (is_applied b h t ids ne e).2 k

pub no_head : (b : Nodes) (h t : Term) (ids : List TermId) → map (λ t. t.0) ids ≢ [] → apply h (map (tree b) (map (λ t. t.0) ids)) ≡ t → IsNoApplication t → ⊥
no_head b h t ids ne e n = subst IsNoApplication (is_applied b h t ids ne e).2 n
