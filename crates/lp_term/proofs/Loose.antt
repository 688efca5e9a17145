-- Loose indices stay below their limit, so that raised ones fit.
use Rattle.std.proofs.Common.{◌≡◌, ℕ, zero, suc, ◌+◌, ◌-◌, ◌<◌, ◌≤◌, ◌^◌, refl, ap, subst, arith, Bool, true, false, List, [], ◌∷◌, length, map}
use Rattle.std.specs.Prelude.{All, get_or}
use Rattle.std.proofs.lemmas.List.Elements.{All-nil, All-head, All-tail, All-cons}
use Rattle.std.specs.Prelude.{nat_lt, nat_eq}
use Rattle.std.proofs.lemmas.Bool.Decides.{nat_tests}
use Rattle.std.proofs.lemmas.Bool.{leb-true}
use Rattle.lp_calculus.specs.Term.{Term, index, atom, abs, app, apply, replace, raised, put_for, shift, substitute}
use Rattle.lp_term.specs.Walk.{Everywhere}
use Rattle.lp_term.specs.Nodes.{Nodes, IsSound, tree, node_tree, term_at}
use Rattle.lp_term.specs.Node.{TermShape, index_node, const_node, int_node, text_node, eigen_node, logic_node, typed_param_node, abs_node, app_node, TermBelow}
use Rattle.lp_term.proofs.Trees.{tree-node, term_below}
use Rattle.lp_term.specs.Raise.{FitsRaised, FitsPut, FitsEach}
use Rattle.lp_term.specs.Spine.{LooseBelow, IsLoose, height, abstractions}

pub everywhere_both : (P Q R : ℕ → ℕ → Type 0) → ((d i : ℕ) → P d i → Q d i → R d i) → (d : ℕ) (t : Term) → Everywhere P d t → Everywhere Q d t → Everywhere R d t
everywhere_both P Q R h d (index i) p q = h d i p q
everywhere_both P Q R h d (atom a) p q = tt
everywhere_both P Q R h d (abs b) p q = everywhere_both P Q R h (suc d) b p q
everywhere_both P Q R h d (app t u) p q = (everywhere_both P Q R h d t p.0 q.0, everywhere_both P Q R h d u p.1 q.1)

pub below_height : (n d : ℕ) (t : Term) → d + height t ≤ n → Everywhere (λ e i. e ≤ n) d t
below_height n d (index i) h = omega arith
below_height n d (atom a) h = tt
below_height n d (abs b) h = below_height n (suc d) b (omega arith)
below_height n d (app t u) h = (below_height n d t (omega arith), below_height n d u (omega arith))

-- the condition of a substitution
pub fits : (limit : ℕ) (v b : Term) → LooseBelow limit 0 v → limit + height v + height b < 2 ^ 64 → Everywhere (FitsPut v) 0 b
fits limit v b l h =
    everywhere_both (λ e i. e ≤ height b) (λ e i. e ≤ height b) (FitsPut v)
    (λ d i p _ q. everywhere_both (IsLoose limit) (λ e j. e ≤ height v) (FitsRaised d) (λ e j a c g. omega arith) 0 v l (below_height (height v) 0 v (omega arith)))
    0 b (below_height (height b) 0 b (omega arith)) (below_height (height b) 0 b (omega arith))

pub fits_each : (limit : ℕ) (us : List Term) (b : Term) → All (LooseBelow limit 0) us → All (λ u. limit + height u + height b < 2 ^ 64) us → Everywhere (FitsEach us) 0 b
fits_each limit us b l h =
    everywhere_both (λ e i. e ≤ height b) (λ e i. e ≤ height b) (FitsEach us)
    (λ d i p _ low high.
    let k : i - d < length us = omega arith in
    let u = get_or us (i - d) (index 0) in
    let m : limit + height u + height b < 2 ^ 64 = h (i - d) (index 0) k in
    everywhere_both (IsLoose limit) (λ e j. e ≤ height u) (FitsRaised d) (λ e j a c g. omega arith) 0 u (l (i - d) (index 0) k) (below_height (height u) 0 u (omega arith)))
    0 b (below_height (height b) 0 b (omega arith)) (below_height (height b) 0 b (omega arith))

loose_index : (limit d k i : ℕ) → i < k + limit → LooseBelow limit (d + k) (raised d k i)
loose_index limit d k i h = go (nat_lt i k) refl
  where
    go : (c : Bool) → nat_lt i k ≡ c → LooseBelow limit (d + k) (raised d k i)
    go true e = rw e (omega arith)
    go false e = rw e (omega arith)

loose_shift : (limit d k : ℕ) (t : Term) → LooseBelow limit k t → LooseBelow limit (d + k) (replace (raised d) k t)
loose_shift limit d k (index i) h = loose_index limit d k i h
loose_shift limit d k (atom a) h = tt
loose_shift limit d k (abs b) h = let e : d + suc k ≡ suc (d + k) = omega arith in subst (λ n. LooseBelow limit n (replace (raised d) (suc k) b)) e (loose_shift limit d (suc k) b h)
loose_shift limit d k (app t u) h = (loose_shift limit d k t h.0, loose_shift limit d k u h.1)

lowered : (limit d i : ℕ) → nat_lt i d ≡ false → nat_eq i d ≡ false → i < suc d + limit → i - 1 < d + limit
lowered limit d i p q h = grind (arith, nat_tests)

loose_put : (limit : ℕ) (u : Term) → LooseBelow limit 0 u → (d i : ℕ) → i < suc d + limit → LooseBelow limit d (put_for u d i)
loose_put limit u l d i h = go (nat_lt i d) (nat_eq i d) refl refl
  where
    shifted : LooseBelow limit d (shift 0 d u)
    shifted = let e : d + 0 ≡ d = omega arith in subst (λ n. LooseBelow limit n (shift 0 d u)) e (loose_shift limit d 0 u l)

    go : (c e : Bool) → nat_lt i d ≡ c → nat_eq i d ≡ e → LooseBelow limit d (put_for u d i)
    go true e p q = rw p (omega (arith, leb-true (suc i) d p))
    go false true p q = rw (p, q) shifted
    go false false p q = rw (p, q) (lowered limit d i p q h)

pub loose_substitute-at : (limit : ℕ) (u : Term) → LooseBelow limit 0 u → (d : ℕ) (b : Term) → LooseBelow limit (suc d) b → LooseBelow limit d (replace (put_for u) d b)
loose_substitute-at limit u l d (index i) h = loose_put limit u l d i h
loose_substitute-at limit u l d (atom a) h = tt
loose_substitute-at limit u l d (abs b) h = loose_substitute-at limit u l (suc d) b h
loose_substitute-at limit u l d (app t v) h = (loose_substitute-at limit u l d t h.0, loose_substitute-at limit u l d v h.1)

pub loose_substitute : (limit : ℕ) (u b : Term) → LooseBelow limit 0 u → LooseBelow limit 1 b → LooseBelow limit 0 (substitute u b)
loose_substitute limit u b l h = loose_substitute-at limit u l 0 b h

-- under d abstractions more, as if the limit were d more
pub loose_in : (limit d e : ℕ) (t : Term) → LooseBelow limit (e + d) t → LooseBelow (limit + d) e t
loose_in limit d e (index i) h = omega arith
loose_in limit d e (atom a) h = tt
loose_in limit d e (abs b) h = loose_in limit d (suc e) b (let q : suc (e + d) ≡ suc e + d = omega arith in subst (λ n. LooseBelow limit n b) q h)
loose_in limit d e (app t u) h = (loose_in limit d e t h.0, loose_in limit d e u h.1)

pub loose_out : (limit d e : ℕ) (t : Term) → LooseBelow (limit + d) e t → LooseBelow limit (e + d) t
loose_out limit d e (index i) h = omega arith
loose_out limit d e (atom a) h = tt
loose_out limit d e (abs b) h = let q : suc e + d ≡ suc (e + d) = omega arith in subst (λ n. LooseBelow limit n b) q (loose_out limit d (suc e) b h)
loose_out limit d e (app t u) h = (loose_out limit d e t h.0, loose_out limit d e u h.1)

pub loose_abstractions : (limit d e : ℕ) (t : Term) → LooseBelow limit e (abstractions d t) → LooseBelow limit (e + d) t
loose_abstractions limit zero e t h = let q : e ≡ e + 0 = omega arith in subst (λ n. LooseBelow limit n t) q h
loose_abstractions limit (suc d) e t h = let q : suc (e + d) ≡ e + suc d = omega arith in subst (λ n. LooseBelow limit n t) q (loose_abstractions limit d e (abs t) h)

pub abstractions_loose : (limit d e : ℕ) (t : Term) → LooseBelow limit (e + d) t → LooseBelow limit e (abstractions d t)
abstractions_loose limit zero e t h = let q : e + 0 ≡ e = omega arith in subst (λ n. LooseBelow limit n t) q h
abstractions_loose limit (suc d) e t h = abstractions_loose limit d e (abs t) (let q : e + suc d ≡ suc (e + d) = omega arith in subst (λ n. LooseBelow limit n t) q h)

loose_apply : (limit e : ℕ) (t s : Term) (xs : List Term) → (LooseBelow limit e t → LooseBelow limit e s) → LooseBelow limit e (apply t xs) → LooseBelow limit e (apply s xs)
loose_apply limit e t s [] f h = f h
loose_apply limit e t s (x ∷ xs) f h = loose_apply limit e (app t x) (app s x) xs (λ k. (f k.0, k.1)) h

-- a head step leaves it
pub loose_step : (limit d : ℕ) (b u : Term) (xs : List Term) → LooseBelow limit 0 (abstractions d (apply (abs b) (u ∷ xs))) →
    LooseBelow limit 0 (abstractions d (apply (substitute u b) xs))
loose_step limit d b u xs h =
    abstractions_loose limit d 0 (apply (substitute u b) xs)
    (loose_apply limit (0 + d) (app (abs b) u) (substitute u b) xs
    (λ k. let p : LooseBelow (limit + d) 0 (app (abs b) u) = loose_in limit d 0 (app (abs b) u) k in loose_out limit d 0 (substitute u b) (loose_substitute (limit + d) u b p.1 p.0))
    (loose_abstractions limit d 0 (apply (app (abs b) u) xs) h))

height_apply : (n : ℕ) (h : Term) (xs : List Term) → height h ≤ n → All (λ x. height x ≤ n) xs → height (apply h xs) ≤ n
height_apply n h [] l a = l
height_apply n h (x ∷ xs) l a =
    let k : height x ≤ n = All-head (λ y. height y ≤ n) x xs a in
    height_apply n (app h x) xs (omega arith) (All-tail (λ y. height y ≤ n) x xs a)

-- a term is nested no deeper than its number
heights : (b : Nodes) (n m : ℕ) → ((j : ℕ) → j < n → height (tree b j) ≤ m) → (ids : List ℕ) → All (λ t. t < n) ids → All (λ x. height x ≤ m) (map (tree b) ids)
heights b n m h [] a = All-nil (λ x. height x ≤ m)
heights b n m h (i ∷ ids) a = All-cons (λ x. height x ≤ m) (tree b i) (map (tree b) ids) (h i (All-head (λ t. t < n) i ids a)) (heights b n m h ids (All-tail (λ t. t < n) i ids a))

height_top : (b : Nodes) (k i : ℕ) → ((j : ℕ) → j < i → height (tree b j) ≤ j) → (s : TermShape) → TermBelow k i s → height (node_tree b s) ≤ i
height_top b k i h (abs_node x) l = omega (arith, h x l)
height_top b k i h (app_node f ids) l =
    height_apply i (tree b f) (map (tree b) ids) (omega (arith, h f l.0)) (heights b i i (λ j g. omega (arith, h j g)) ids l.1)
height_top b k i h (index_node x) l = omega arith
height_top b k i h (const_node x y) l = omega arith
height_top b k i h (int_node x) l = omega arith
height_top b k i h (text_node x) l = omega arith
height_top b k i h (eigen_node x) l = omega arith
height_top b k i h (logic_node x y) l = omega arith
height_top b k i h (typed_param_node x y) l = omega arith

heights_below : (b : Nodes) → IsSound b → (n i : ℕ) → i < n → i < length b.terms → height (tree b i) ≤ i
heights_below b s zero i h l = absurd (omega arith)
heights_below b s (suc n) i h l =
    let q = tree-node b s i l in
    let k = height_top b (length b.types) i (λ j g. heights_below b s n j (omega arith) (omega arith)) (term_at b i) (term_below b s i l) in
    omega (arith, k, ap height q)

pub height_below : (b : Nodes) → IsSound b → (i : ℕ) → i < length b.terms → height (tree b i) ≤ i
height_below b s i l = heights_below b s (suc i) i (omega arith) l
