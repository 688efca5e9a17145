-- Stacks of types, and what a look at the top of a type puts on them.
use Rattle.std.proofs.Common.{◌≡◌, ℕ, suc, ◌+◌, ◌<◌, inl, inr, List, [], ◌∷◌, ◌++◌, map, reverse, refl, sym, ap, ◌∙◌, subst, arith, append_assoc}
use Rattle.std.specs.Prelude.{nat_eq, if◌then◌else◌, Bool, true, false, All}
use Rattle.std.proofs.lemmas.List.{map-append, reverse-append, reverse-reverse}
use Rattle.std.proofs.lemmas.List.Elements.{All-cons, All-nil, All-head, All-tail}
use Rattle.std.proofs.lemmas.Bool.{eq-eqb, ne_eqb, cases_eq}
use Rattle.lp_calculus.specs.Types.{Ty, Tys, var, param, con, arrow, tys, instance, instances}
use Rattle.lp_term.specs.declared.node.TypeId.{TypeId}
use Rattle.lp_type_laws.specs.Equations.{occurs, occurs_in, sizes}
use Rattle.lp_type_laws.specs.Units.{visited, visited_in}
use Rattle.lp_type_unify.specs.Looking.{IsLoose, occurs_some, visited_some, size_of_all, read_stack, Opened, Looked}

abbrev pub numbers : List TypeId → List ℕ
numbers ids = map (λ t. t.0) ids

abbrev pub Reads : (ℕ → Ty) → (ℕ → Ty) → TypeId → Ty
Reads τ θ t = instance θ (τ t.0)

abbrev pub Parts : (ℕ → Ty) → (ℕ → Ty) → List TypeId → Tys
Parts τ θ ids = instances θ (tys (map τ (numbers ids)))

pub reverse-cons : {A : Type 0} (t : A) (ts : List A) → reverse (t ∷ ts) ≡ reverse ts ++ t ∷ []
reverse-cons t ts = reverse-append (t ∷ []) ts

pub reverse_onto : {A : Type 0} (old new : List A) → reverse (old ++ reverse new) ≡ new ++ reverse old
reverse_onto old new = reverse-append old (reverse new) ∙ ap (λ l. l ++ reverse old) (reverse-reverse new)

-- numbers below a bound

pub parts_known : (n top : ℕ) (ids : List TypeId) → top < n → All (λ t. t < top) (numbers ids) → All (λ t. t.0 < n) ids
parts_known n top [] l a = All-nil (λ t. t.0 < n)
parts_known n top (t ∷ ids) l a =
    let h = All-head (λ j. j < top) t.0 (numbers ids) a in
    All-cons (λ t. t.0 < n) t ids (omega (arith, h, l)) (parts_known n top ids l (All-tail (λ j. j < top) t.0 (numbers ids) a))

-- what is found and visited in types, one after the other

some-append : (x : ℕ) (ts us : List Ty) → occurs_some x (ts ++ us) ≡ (if occurs_some x ts then true else occurs_some x us)
some-append x [] us = refl
some-append x (t ∷ ts) us = go (occurs x t) (occurs_some x ts) (occurs_some x us) (occurs_some x (ts ++ us)) (some-append x ts us)
  where
    go : (a b c d : Bool) → d ≡ (if b then true else c) → (if a then true else d) ≡ (if (if a then true else b) then true else c)
    go true b c d e = refl
    go false b c d e = e

visited-append : (x : ℕ) (ts us : List Ty) → visited_some x (ts ++ us) ≡ visited_some x ts + (if occurs_some x ts then 0 else visited_some x us)
visited-append x [] us = omega arith
visited-append x (t ∷ ts) us = go (occurs x t) (visited x t) (visited_some x ts) (visited_some x us) (visited_some x (ts ++ us)) (occurs_some x ts) (visited-append x ts us)
  where
    go : (a : Bool) (v w u s : ℕ) (b : Bool) → s ≡ w + (if b then 0 else u) → v + (if a then 0 else s) ≡ (v + (if a then 0 else w)) + (if (if a then true else b) then 0 else u)
    go true v w u s b e = omega arith
    go false v w u s b e = omega (arith, e)

size-append : (ts us : List Ty) → size_of_all (ts ++ us) ≡ size_of_all ts + size_of_all us
size-append [] us = omega arith
size-append (t ∷ ts) us = let e = size-append ts us in omega arith

-- the parts of a type

some_parts : (x : ℕ) (τ θ : ℕ → Ty) (ids : List TypeId) → occurs_in x (Parts τ θ ids) ≡ occurs_some x (map (Reads τ θ) ids)
some_parts x τ θ [] = refl
some_parts x τ θ (t ∷ ids) = ap (λ b. if occurs x (Reads τ θ t) then true else b) (some_parts x τ θ ids)

visited_parts : (x : ℕ) (τ θ : ℕ → Ty) (ids : List TypeId) → visited_in x (Parts τ θ ids) ≡ visited_some x (map (Reads τ θ) ids)
visited_parts x τ θ [] = refl
visited_parts x τ θ (t ∷ ids) = ap (λ n. visited x (Reads τ θ t) + (if occurs x (Reads τ θ t) then 0 else n)) (visited_parts x τ θ ids)

size_parts : (τ θ : ℕ → Ty) (ids : List TypeId) → sizes (Parts τ θ ids) ≡ size_of_all (map (Reads τ θ) ids)
size_parts τ θ [] = refl
size_parts τ θ (t ∷ ids) = let e = size_parts τ θ ids in omega arith

opened_con : (x c : ℕ) (τ θ : ℕ → Ty) (ids : List TypeId) → Opened x (con c (Parts τ θ ids)) (map (Reads τ θ) ids)
opened_con x c τ θ ids = record {
  found = some_parts x τ θ ids;
  visits = ap suc (visited_parts x τ θ ids);
  smaller = let e = size_parts τ θ ids in omega arith;
}

opened_arrow : (x : ℕ) (a b : Ty) → Opened x (arrow a b) (a ∷ b ∷ [])
opened_arrow x a b = record {
  found = go (occurs x a) (occurs x b);
  visits = ap (λ n. suc (visited x a + n)) (zeros (occurs x a) (occurs x b) (visited x b));
  smaller = omega arith;
}
  where
    go : (p q : Bool) → (if p then true else q) ≡ (if p then true else (if q then true else false))
    go true q = refl
    go false true = refl
    go false false = refl

    zeros : (p q : Bool) (n : ℕ) → (if p then 0 else n) ≡ (if p then 0 else (n + (if q then 0 else 0)))
    zeros true q n = refl
    zeros false true n = omega arith
    zeros false false n = omega arith

stack_onto : (τ θ : ℕ → Ty) (old ids : List TypeId) → read_stack τ θ (old ++ reverse ids) ≡ map (Reads τ θ) ids ++ read_stack τ θ old
stack_onto τ θ old ids = ap (map (Reads τ θ)) (reverse_onto old ids) ∙ map-append (Reads τ θ) ids (reverse old)

-- what a look gives

pub looked_var : (x y : ℕ) (θ : ℕ → Ty) (t : Ty) (old : List Ty) → var y ≡ t → IsLoose θ t → Looked (nat_eq y x) x (instance θ t) old old
looked_var x y θ t old v l = elim (cases_eq y x) [
  | inl e ↦ subst (λ b. Looked b x (instance θ t) old old) (sym (eq-eqb y x e)) (sym is ∙ ap var e)
  | inr ne ↦ subst (λ b. Looked b x (instance θ t) old old) (sym (ne_eqb y x ne))
      ([], refl, subst (λ u. Opened x u []) is (record { found = ne_eqb x y (λ e. ne (sym e)); visits = refl; smaller = omega arith }))
]
  where
    is : var y ≡ instance θ t
    is = sym (subst (λ u. IsLoose θ u) (sym v) l) ∙ ap (instance θ) v

pub looked_param : (x k : ℕ) (θ : ℕ → Ty) (t : Ty) (old : List Ty) → param k ≡ t → Looked false x (instance θ t) old old
looked_param x k θ t old v = ([], refl, subst (λ u. Opened x u []) (ap (instance θ) v) (record { found = refl; visits = refl; smaller = omega arith }))

pub looked_con : (x c : ℕ) (τ θ : ℕ → Ty) (t : Ty) (ids old new : List TypeId) → con c (tys (map τ (numbers ids))) ≡ t → new ≡ old ++ reverse ids →
    Looked false x (instance θ t) (read_stack τ θ old) (read_stack τ θ new)
looked_con x c τ θ t ids old new v e =
    (map (Reads τ θ) ids, ap (read_stack τ θ) e ∙ stack_onto τ θ old ids, subst (λ u. Opened x u (map (Reads τ θ) ids)) (ap (instance θ) v) (opened_con x c τ θ ids))

pub looked_arrow : (x : ℕ) (τ θ : ℕ → Ty) (t : Ty) (a b : TypeId) (old new : List TypeId) → arrow (τ a.0) (τ b.0) ≡ t → new ≡ (old ++ b ∷ []) ++ a ∷ [] →
    Looked false x (instance θ t) (read_stack τ θ old) (read_stack τ θ new)
looked_arrow x τ θ t a b old new v e =
    let onto : new ≡ old ++ reverse (a ∷ b ∷ []) = e ∙ append_assoc old (b ∷ []) (a ∷ []) in (
      Reads τ θ a ∷ Reads τ θ b ∷ [],
      ap (read_stack τ θ) onto ∙ stack_onto τ θ old (a ∷ b ∷ []),
      subst (λ u. Opened x u (Reads τ θ a ∷ Reads τ θ b ∷ [])) (ap (instance θ) v) (opened_arrow x (Reads τ θ a) (Reads τ θ b)),
    )

-- a type taken off a stack

pub stack_off : (τ θ : ℕ → Ty) (old rest : List TypeId) (t : TypeId) → old ≡ rest ++ t ∷ [] → read_stack τ θ old ≡ Reads τ θ t ∷ read_stack τ θ rest
stack_off τ θ old rest t e = ap (read_stack τ θ) e ∙ ap (map (Reads τ θ)) (reverse-append rest (t ∷ []))

-- opening the first of a list of types

pub opens_some : (x : ℕ) (t : Ty) (ps ts : List Ty) → Opened x t ps → occurs_some x (ps ++ ts) ≡ occurs_some x (t ∷ ts)
opens_some x t ps ts o = some-append x ps ts ∙ ap (λ b. if b then true else occurs_some x ts) (sym o.found)

pub opens_visits : (x : ℕ) (t : Ty) (ps ts : List Ty) → Opened x t ps → visited_some x (t ∷ ts) ≡ suc (visited_some x (ps ++ ts))
opens_visits x t ps ts o =
    let a = visited-append x ps ts in
    let b : (if occurs x t then 0 else visited_some x ts) ≡ (if occurs_some x ps then 0 else visited_some x ts) = ap (λ b. if b then 0 else visited_some x ts) o.found in
    let v = o.visits in
    omega (arith, a, b, v)

pub opens_smaller : (x : ℕ) (t : Ty) (ps ts : List Ty) → Opened x t ps → size_of_all (ps ++ ts) < size_of_all (t ∷ ts)
opens_smaller x t ps ts o = let a = size-append ps ts in let s = o.smaller in omega (arith, a, s)
