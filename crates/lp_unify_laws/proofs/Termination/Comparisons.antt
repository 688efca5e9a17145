-- Comparing two terms that weigh something comes: what is compared next weighs less together, also where one side is an abstraction and the
-- other grows by an argument. Types are compared by their nodes.
use Rattle.std.proofs.Common.{◌≡◌, ℕ, zero, suc, ◌+◌, ◌<◌, ◌≤◌, List, [], ◌∷◌, ◌++◌, length, ◌∙◌, refl, ap, arith, Bool, true, false, Option, Some, None}
use Rattle.std.specs.Prelude.{option_map, option_and_then, nat_eq, ◌&&◌, if◌then◌else◌}
use Rattle.lp_calculus.specs.Types.{Ty, Tys, var, param as type_param, con, arrow, no_types, types}
use Rattle.lp_calculus.specs.Term.{Term, eigen}
use Rattle.lp_type_laws.specs.Equations.{size, sizes}
use Rattle.lp_model.specs.Types.{TypePair, parts_of, same_top}
use Rattle.lp_model.specs.Same.{same_name}
use Rattle.lp_model.specs.Look.{Look, an_abs, rigid, flexible, look}
use Rattle.lp_model.specs.Rule.{Compared, dearer, open_with, type_pairs, compare_types, compare, compare_looks, compare_all}
use Rattle.lp_unify_laws.proofs.NormalForms.Weights.{Weighs, opened_weighs}
use Rattle.lp_unify_laws.proofs.Termination.Looks.{AllWeigh, LookWeighs, look_comes, look_opens}
use Rattle.lp_unify_laws.proofs.MoreSteps.Scans.{below_same, below_map, look_more}
use Rattle.lp_unify_laws.proofs.MoreSteps.Rules.{below_if, compare_types_more, compare_more, compare_looks_more, compare_all_more}
use Rattle.lp_unify_laws.proofs.Termination.Comes.{Comes, Grows, comes_map, comes_then, comes_if}

-- types
abbrev pub pairs_size : List TypePair → ℕ
pairs_size [] = 0
pairs_size (p ∷ ps) = (size p.left + size p.right) + pairs_size ps

pub size_append : (ps qs : List TypePair) → pairs_size (ps ++ qs) ≡ pairs_size ps + pairs_size qs
size_append [] qs = omega arith
size_append (p ∷ ps) qs = let e = size_append ps qs in omega arith

parts_small : (ts us : Tys) (qs : List TypePair) → parts_of ts us ≡ Some qs → pairs_size qs ≤ sizes ts + sizes us
parts_small no_types no_types qs e = let q : [] ≡ qs = cc in let r : 0 ≡ pairs_size qs = ap pairs_size q in omega arith
parts_small no_types (types u us) qs e = absurd (cc)
parts_small (types t ts) no_types qs e = absurd (cc)
parts_small (types t ts) (types u us) qs e = go (parts_of ts us) (λ rs i. parts_small ts us rs i) e
  where
    go : (o : Option (List TypePair)) → ((rs : List TypePair) → o ≡ Some rs → pairs_size rs ≤ sizes ts + sizes us) → (elim o as (λ x. Option (List TypePair)) [ None ↦ None | Some ps ↦ Some (record { left = t; right = u } ∷ ps) ]) ≡ Some qs → pairs_size qs ≤ (size t + sizes ts) + (size u + sizes us)
    go None ι i = absurd (cc)
    go (Some rs) ι i =
        let l = ι rs refl in
        let q : record { left = t; right = u } ∷ rs ≡ qs = cc in
        let r : (size t + size u) + pairs_size rs ≡ pairs_size qs = ap pairs_size q in
        omega arith

if_some : {A : Type 0} (b : Bool) (o : Option A) (x : A) → (if b then o else None) ≡ Some x → o ≡ Some x
if_some true o x e = e
if_some false o x e = absurd (cc)

nothing_small : (b : Bool) (m : ℕ) (qs : List TypePair) → (if b then Some [] else None) ≡ Some qs → 0 < m → pairs_size qs < m
nothing_small b m qs e l = let q = if_some b (Some []) qs e in let i : [] ≡ qs = cc in let r : 0 ≡ pairs_size qs = ap pairs_size i in omega arith

same_small : (t u : Ty) (qs : List TypePair) → same_top t u ≡ Some qs → pairs_size qs < size t + size u
same_small (var i) (var j) qs e = nothing_small (nat_eq i j) 2 qs e (omega arith)
same_small (type_param k) (type_param l) qs e = nothing_small (nat_eq k l) 2 qs e (omega arith)
same_small (con c ts) (con d us) qs e = let l = parts_small ts us qs (if_some (nat_eq c d) (parts_of ts us) qs e) in omega arith
same_small (arrow a b) (arrow c d) qs e =
    let q : record { left = a; right = c } ∷ record { left = b; right = d } ∷ [] ≡ qs = cc in
    let r : (size a + size c) + ((size b + size d) + 0) ≡ pairs_size qs = ap pairs_size q in
    omega arith
same_small (var i) (type_param l) qs e = absurd (cc)
same_small (var i) (con d us) qs e = absurd (cc)
same_small (var i) (arrow c d) qs e = absurd (cc)
same_small (type_param k) (var j) qs e = absurd (cc)
same_small (type_param k) (con d us) qs e = absurd (cc)
same_small (type_param k) (arrow c d) qs e = absurd (cc)
same_small (con c ts) (var j) qs e = absurd (cc)
same_small (con c ts) (type_param l) qs e = absurd (cc)
same_small (con c ts) (arrow a b) qs e = absurd (cc)
same_small (arrow a b) (var j) qs e = absurd (cc)
same_small (arrow a b) (type_param l) qs e = absurd (cc)
same_small (arrow a b) (con d us) qs e = absurd (cc)

types_compared : (N : ℕ) (ps : List TypePair) → pairs_size ps < N → Comes (λ n. compare_types n ps)
types_compared zero ps l = absurd (omega arith)
types_compared (suc N) [] l = (1, record { same = true; units = 0 }, refl)
types_compared (suc N) (p ∷ ps) l = go (same_top p.left p.right) refl (λ qs m. types_compared N qs m)
  where
    go : (o : Option (List TypePair)) → same_top p.left p.right ≡ o → ((qs : List TypePair) → pairs_size qs < N → Comes (λ n. compare_types n qs)) → Comes (λ n. compare_types n (p ∷ ps))
    go None e ι = (1, record { same = false; units = 1 }, ap (λ o. elim o as (λ x. Option Compared) [ None ↦ Some (record { same = false; units = 1 }) | Some qs ↦ option_map (dearer 1) (compare_types 0 (qs ++ ps)) ]) e)
    go (Some qs) e ι =
        let s = same_small p.left p.right qs e in
        let z = size_append qs ps in
        let r = ι (qs ++ ps) (omega arith) in
        (suc r.0, dearer 1 r.1, ap (λ o. elim o as (λ x. Option Compared) [ None ↦ Some (record { same = false; units = 1 }) | Some qs ↦ option_map (dearer 1) (compare_types r.0 (qs ++ ps)) ]) e ∙ ap (option_map (dearer 1)) r.2)

pub types_are_compared : (ps : List TypePair) → Comes (λ n. compare_types n ps)
types_are_compared ps = types_compared (suc (pairs_size ps)) ps (omega arith)

-- terms
abbrev ComparesBelow : ℕ → Type 0
ComparesBelow N = (k : ℕ) (t u : Term) (w v : ℕ) → Weighs t w → Weighs u v → w + v < N → Comes (λ n. compare n k t u)

abbrev on_with : ℕ → List Term → List Term → ℕ → Compared → Option Compared
on_with k ts us n c = elim c.same [
  | true ↦ option_map (dearer c.units) (compare_all n k ts us)
  | false ↦ Some c
]

on_grows : (k : ℕ) (ts us : List Term) (c : Compared) → Grows (λ n. on_with k ts us n c)
on_grows k ts us c n m l = below_if c.same _ _ _ _ (below_map (compare_all n k ts us) (compare_all m k ts us) (dearer c.units) (compare_all_more n m l k ts us)) (below_same (Some c))

on_comes : (k : ℕ) (ts us : List Term) → Comes (λ n. compare_all n k ts us) → (c : Compared) → Comes (λ n. on_with k ts us n c)
on_comes k ts us h c = comes_if c.same (λ n. option_map (dearer c.units) (compare_all n k ts us)) (λ n. Some c) (λ e. comes_map (λ n. compare_all n k ts us) (dearer c.units) h) (λ e. (0, c, refl))

all_compared : (N : ℕ) → ComparesBelow N → (k : ℕ) (ts us : List Term) (w v : ℕ) → AllWeigh ts w → AllWeigh us v → w + v ≤ N → Comes (λ n. compare_all n k ts us)
all_compared N ι k [] us w v h g l = (1, record { same = true; units = 0 }, refl)
all_compared N ι k (t ∷ ts) [] w v h g l = (1, record { same = true; units = 0 }, refl)
all_compared N ι k (t ∷ ts) (u ∷ us) w v h g l =
    let i = h.2.0 in let j = g.2.0 in
    let rest = all_compared N ι k ts us h.1 g.1 h.2.1.1 g.2.1.1 (omega arith) in
    let first = ι k t u h.0 g.0 h.2.1.0 g.2.1.0 (omega arith) in
    let c = comes_then (λ n. compare n k t u) (on_with k ts us) (λ n m e. compare_more n m e k t u) (on_grows k ts us) first (λ c n e. on_comes k ts us rest c) in
    (suc c.0, c.1, c.2)

abbrev with_types : ℕ → List Term → List Term → ℕ → Compared → Option Compared
with_types k ts us n c = elim c.same [
  | true ↦ option_map (dearer (suc c.units)) (compare_all n k ts us)
  | false ↦ Some (dearer 1 c)
]

with_grows : (k : ℕ) (ts us : List Term) (c : Compared) → Grows (λ n. with_types k ts us n c)
with_grows k ts us c n m l = below_if c.same _ _ _ _ (below_map (compare_all n k ts us) (compare_all m k ts us) (dearer (suc c.units)) (compare_all_more n m l k ts us)) (below_same (Some (dearer 1 c)))

with_comes : (k : ℕ) (ts us : List Term) → Comes (λ n. compare_all n k ts us) → (c : Compared) → Comes (λ n. with_types k ts us n c)
with_comes k ts us h c = comes_if c.same (λ n. option_map (dearer (suc c.units)) (compare_all n k ts us)) (λ n. Some (dearer 1 c)) (λ e. comes_map (λ n. compare_all n k ts us) (dearer (suc c.units)) h) (λ e. (0, dearer 1 c, refl))

differing : Compared
differing = record { same = false; units = 1 }

opened_compared : (N : ℕ) → ComparesBelow N → (k : ℕ) (t u : Term) (w v : ℕ) → Weighs (open_with (suc k) t) w → Weighs (open_with (suc k) u) v → w + v < N → Comes (λ n. compare n (suc k) (open_with (suc k) t) (open_with (suc k) u))
opened_compared N ι k t u w v h g l = ι (suc k) (open_with (suc k) t) (open_with (suc k) u) w v h g l

left_opened : (N : ℕ) → ComparesBelow N → (k : ℕ) (t u : Term) (w v : ℕ) → Weighs t w → Weighs u v → w + v ≤ N → (m : ℕ) (b : Term) → look m t ≡ Some (an_abs b) → Comes (λ n. compare n (suc k) (open_with (suc k) t) (open_with (suc k) u))
left_opened N ι k t u w v h g l m b e =
    let r = look_opens (eigen (suc k)) m t b w h e in let i = r.1.0 in
    let o = opened_weighs (eigen (suc k)) g u refl in let j = o.below in
    opened_compared N ι k t u r.0 o.weight_is r.1.1 o.weighs_so (omega arith)

right_opened : (N : ℕ) → ComparesBelow N → (k : ℕ) (t u : Term) (w v : ℕ) → Weighs t w → Weighs u v → w + v ≤ N → (m : ℕ) (b : Term) → look m u ≡ Some (an_abs b) → Comes (λ n. compare n (suc k) (open_with (suc k) t) (open_with (suc k) u))
right_opened N ι k t u w v h g l m b e =
    let r = look_opens (eigen (suc k)) m u b v g e in let i = r.1.0 in
    let o = opened_weighs (eigen (suc k)) h t refl in let j = o.below in
    opened_compared N ι k t u o.weight_is r.0 o.weighs_so r.1.1 (omega arith)

looks_compared : (N : ℕ) → ComparesBelow N → (k : ℕ) (t u : Term) (w v : ℕ) → Weighs t w → Weighs u v → w + v ≤ N → (x y : Look) (m j : ℕ) → look m t ≡ Some x → look j u ≡ Some y → LookWeighs x w → LookWeighs y v → Comes (λ n. compare_looks n k t u x y)
unfolding differing
looks_compared N ι k t u w v h g l (an_abs b) y m j e i p q = let c = left_opened N ι k t u w v h g l m b e in (suc c.0, c.1, c.2)
looks_compared N ι k t u w v h g l (rigid f ts) (an_abs b) m j e i p q = let c = right_opened N ι k t u w v h g l j b i in (suc c.0, c.1, c.2)
looks_compared N ι k t u w v h g l (flexible x d ts) (an_abs b) m j e i p q = let c = right_opened N ι k t u w v h g l j b i in (suc c.0, c.1, c.2)
looks_compared N ι k t u w v h g l (rigid f ts) (rigid f' us) m j e i p q =
    let all = all_compared N ι k ts us w v p q l in
    let c = comes_if (same_name f f' && nat_eq (length ts) (length us)) (λ n. option_and_then (with_types k ts us n) (compare_types n (type_pairs f f'))) (λ n. Some differing)
    (λ a. comes_then (λ n. compare_types n (type_pairs f f')) (with_types k ts us) (λ n m b. compare_types_more n m b (type_pairs f f')) (with_grows k ts us) (types_are_compared (type_pairs f f')) (λ c n b. with_comes k ts us all c))
    (λ a. (0, differing, refl)) in
    (suc c.0, c.1, c.2)
looks_compared N ι k t u w v h g l (flexible x d ts) (flexible y d' us) m j e i p q =
    let all = all_compared N ι k ts us w v p q l in
    let c = comes_if (nat_eq x y && nat_eq d d' && nat_eq (length ts) (length us)) (λ n. option_map (dearer 1) (compare_all n k ts us)) (λ n. Some differing)
    (λ a. comes_map (λ n. compare_all n k ts us) (dearer 1) all)
    (λ a. (0, differing, refl)) in
    (suc c.0, c.1, c.2)
looks_compared N ι k t u w v h g l (rigid f ts) (flexible y d us) m j e i p q = (1, differing, refl)
looks_compared N ι k t u w v h g l (flexible x d ts) (rigid f us) m j e i p q = (1, differing, refl)

compared_below : (N : ℕ) → ComparesBelow N
compared_below zero k t u w v h g l = absurd (omega arith)
compared_below (suc N) k t u w v h g l =
    let a = look_comes h in
    let b = look_comes g in
    let c = looks_compared N (compared_below N) k t u w v h g (omega arith) a.view b.view a.steps b.steps a.is b.is a.parts b.parts in
    let m = a.steps + b.steps + c.0 in
    let e = look_more a.steps m (omega arith) t a.view a.is in
    let i = look_more b.steps m (omega arith) u b.view b.is in
    let j = compare_looks_more c.0 m (omega arith) k t u a.view b.view c.1 c.2 in
    (suc m, c.1, ap (option_and_then (λ x. option_and_then (λ y. compare_looks m k t u x y) (look m u))) e ∙ ap (option_and_then (λ y. compare_looks m k t u a.view y)) i ∙ j)

-- two terms, and two lists of arguments
pub compare_comes : (k : ℕ) (t u : Term) (w v : ℕ) → Weighs t w → Weighs u v → Comes (λ n. compare n k t u)
compare_comes k t u w v h g = compared_below (suc (w + v)) k t u w v h g (omega arith)

pub compare_all_comes : (k : ℕ) (ts us : List Term) (w v : ℕ) → AllWeigh ts w → AllWeigh us v → Comes (λ n. compare_all n k ts us)
compare_all_comes k ts us w v h g = all_compared (w + v) (compared_below (w + v)) k ts us w v h g (omega arith)
