-- Work lists get smaller.
use Rattle.std.proofs.Common.{◌≡◌, ℕ, suc, ◌+◌, ◌*◌, ◌<◌, ◌≤◌, ◌≢◌, List, [], ◌∷◌, ◌++◌, length, map, reverse, refl, sym, ap, ◌∙◌, arith, subst, Vec, Global}
use Rattle.std.specs.Prelude.{sum_by, Some}
use Rattle.std.proofs.lemmas.List.Sums.{sum_by_push, sum_by-append}
use Rattle.std.proofs.lemmas.List.{reverse-append}
use Rattle.lp_term.specs.Spine.{IsNoApplication}
use Rattle.lp_gen.specs.declared.listing.Task.{Task}
use Rattle.lp_gen.specs.declared.listing.Task.TheVariants as on_term
use Rattle.lp_gen.specs.declared.standard.Function.{Function}
use Rattle.lp_gen.specs.declared.types.TypeView.{TypeView}
use Rattle.lp_calculus.specs.Types.{Ty, var, param as type_param, con, arrow, types, tys, instance, instances}
use Rattle.lp_calculus.specs.Term.{Term, index, atom, abs, app, apply}
use Rattle.lp_term.specs.Nodes.{Nodes, tree, type_tree}
use Rattle.lp_term.specs.Walk.{size}
use Rattle.lp_term.specs.declared.node.TypeId.{TypeId}
use Rattle.lp_term.specs.declared.node.TermId.{TermId}
use Rattle.lp_calculus.specs.Typing.{type_at}
use Rattle.lp_gen.specs.inner.Reading.{read_at, types_of}
use Rattle.lp_gen.specs.inner.Sizes.{type_size, term_task, term_work}

pub some_type : (T : Ty) → 0 < type_size T
some_type (var i) = omega arith
some_type (type_param k) = omega arith
some_type (con c ts) = omega arith
some_type (arrow a b) = omega arith

pub some_term : (t : Term) → 0 < size t
some_term (index i) = omega arith
some_term (atom a) = omega arith
some_term (abs b) = omega arith
some_term (app t u) = omega arith

-- one task more, two and three
pub one_more : {A : Type 0} (f : A → ℕ) (old new : List A) (x : A) → new ≡ old ++ x ∷ [] → sum_by f new ≡ sum_by f old + f x
one_more f old new x e = ap (sum_by f) e ∙ sum_by_push f old x

pub two_more : {A : Type 0} (f : A → ℕ) (old mid new : List A) (x y : A) → mid ≡ old ++ x ∷ [] → new ≡ mid ++ y ∷ [] → sum_by f new ≡ sum_by f old + f x + f y
two_more f old mid new x y m e = omega (arith, one_more f old mid x m, one_more f mid new y e)

pub three_more : {A : Type 0} (f : A → ℕ) (old mid then new : List A) (x y z : A) → mid ≡ old ++ x ∷ [] → then ≡ mid ++ y ∷ [] → new ≡ then ++ z ∷ [] → sum_by f new ≡ sum_by f old + f x + f y + f z
three_more f old mid then new x y z m t e = omega (arith, two_more f old mid then x y m t, one_more f then new z e)

-- the arguments of an application
at_front : {A : Type 0} (f : A → ℕ) (x : A) (xs : List A) → sum_by f (x ∷ xs) ≡ f x + sum_by f xs
at_front f x xs = let one : sum_by f (x ∷ []) ≡ 0 + f x = refl in omega (arith, sum_by-append f (x ∷ []) xs, one)

apply_size : (h : Term) (xs : List Term) → size (apply h xs) ≡ size h + length xs + sum_by size xs
apply_size h [] = omega arith
apply_size h (x ∷ xs) = omega (arith, apply_size (app h x) xs, at_front size x xs)

mapped : (b : Nodes) (ts : List TermId) → (sum_by (λ t. 1 + 4 * size (tree b t.0)) ts ≡ length ts + 4 * sum_by size (map (λ t. tree b t.0) ts)) × (length (map (λ t. tree b t.0) ts) ≡ length ts)
mapped b [] = (refl, refl)
mapped b (t ∷ ts) = (omega (arith, (mapped b ts).0, at_front (λ t. 1 + 4 * size (tree b t.0)) t ts, at_front size (tree b t.0) (map (λ t. tree b t.0) ts)), ap suc (mapped b ts).1)

pub application_weighs : (b : Nodes) (h t : Term) (ts : List TermId) → apply h (map (λ t. tree b t.0) ts) ≡ t → 0 < length ts → sum_by (λ t. 1 + 4 * size (tree b t.0)) ts + 3 + 4 * size h ≤ 4 * size t
application_weighs b h t ts e n = omega (arith, ap size e, apply_size h (map (λ t. tree b t.0) ts), (mapped b ts).0, (mapped b ts).1, n)

instances_tys : (θ : ℕ → Ty) (ts : List Ty) → instances θ (tys ts) ≡ tys (map (instance θ) ts)
instances_tys θ [] = refl
instances_tys θ (t ∷ ts) = ap (types (instance θ t)) (instances_tys θ ts)

three_maps : {A B C D : Type 0} (f : A → B) (g : B → C) (h : C → D) (xs : List A) → map h (map g (map f xs)) ≡ map (λ x. h (g (f x))) xs
three_maps f g h [] = refl
three_maps f g h (x ∷ xs) = ap (λ l. h (g (f x)) ∷ l) (three_maps f g h xs)

pub instance_con : (b : Nodes) (c : TermId) (k : ℕ) (parts : List TypeId) (i : ℕ) → con k (tys (map (type_tree b) (map (λ t. t.0) parts))) ≡ type_tree b i →
    con k (tys (map (λ p. read_at b (Some c) (type_tree b p.0)) parts)) ≡ read_at b (Some c) (type_tree b i)
instance_con b c k parts i e =
    let θ : ℕ → Ty = type_at (types_of (tree b c.0)) in
    sym (ap (instance θ) (sym e) ∙ ap (con k) (instances_tys θ (map (type_tree b) (map (λ t. t.0) parts))) ∙ ap (λ l. con k (tys l)) (three_maps (λ t. t.0) (type_tree b) (instance θ) parts))

pub some_args : {X Y : Type 0} (f : X → Y) (xs : List X) → map f xs ≢ [] → 0 < length xs
some_args f [] n = absurd (n refl)
some_args f (x ∷ xs) n = omega arith

applied : {X : Type 0} (f : X → Term) (ids : List X) (h t : Term) → (ids ≡ [] → ⊥) → apply h (map f ids) ≡ t → IsNoApplication t → ⊥
applied f [] h t n e a = n refl
applied f (i ∷ ids) h t n e a = go h (f i) (map f ids) (subst IsNoApplication (sym e) a)
  where
    go : (u v : Term) (ts : List Term) → IsNoApplication (apply (app u v) ts) → ⊥
    go u v [] q = q
    go u v (x ∷ ts) q = go (app u v) x ts q

-- a spine is not empty where the term is an application
pub has_args : (b : Nodes) (head : TermId) (term : TermId) (args : List TermId) (f : ℕ) (ids : List ℕ) → apply (tree b f) (map (tree b) ids) ≡ tree b
    term.0 → ids ≢ [] → IsNoApplication (tree b head.0) → apply (tree b head.0) (map (λ t. tree b t.0) args) ≡ tree b term.0 → 0 < length args
has_args b head term [] f ids t n h e = absurd (applied (tree b) ids (tree b f) (tree b term.0) n t (subst IsNoApplication e h))
has_args b head term (x ∷ xs) f ids t n h e = omega arith

reversed : {A : Type 0} (f : A → ℕ) (xs : List A) → sum_by f (reverse xs) ≡ sum_by f xs
reversed f [] = refl
reversed f (x ∷ xs) = omega (arith, ap (sum_by f) (reverse-append (x ∷ []) xs), sum_by-append f (reverse xs) (x ∷ []), reversed f xs, at_front f x xs, at_front f x [])

-- an application whose head is looked at first, and then its arguments, which wait in reverse
pub visits_spine : (b : Nodes) (old mid then new : List Task) (head term : TermId) (args : List TermId) (vec : Vec TermId Global) (n : ℕ) (k : Function) (T : TypeView) (f : ℕ) (ids : List ℕ) →
    mid ≡ old ++ on_term.Apply n ∷ [] → then ≡ mid ++ on_term.Args vec k ∷ [] → new ≡ then ++ on_term.Visit head T ∷ [] → vec.items ≡ reverse args →
    apply (tree b f) (map (tree b) ids) ≡ tree b term.0 → ids ≢ [] → IsNoApplication (tree b head.0) → apply (tree b head.0) (map (λ t. tree b t.0) args) ≡ tree b term.0 →
    term_work b new + 1 ≤ term_work b old + 4 * size (tree b term.0)
visits_spine b old mid then new head term args vec n k T f ids m t e v a i h s =
    let w = three_more (term_task b) old mid then new (on_term.Apply n) (on_term.Args vec k) (on_term.Visit head T) m t e in
    let c = application_weighs b (tree b head.0) (tree b term.0) args s (has_args b head term args f ids a i h s) in
    let r = ap (sum_by (λ t. 1 + 4 * size (tree b t.0))) v ∙ reversed (λ t. 1 + 4 * size (tree b t.0)) args in
    omega (arith, w, c, r)
