-- Head steps of a term that is given as its abstractions, head and arguments.
use Rattle.std.proofs.Common.{◌≡◌, ℕ, zero, suc, ◌+◌, ◌<◌, ◌≤◌, ◌≢◌, length, List, [], ◌∷◌, ◌++◌, refl, sym, ap, ◌∙◌, arith, Some, None, map, reverse, add-one}
use Rattle.lp_calculus.specs.Term.{Term, index, atom, abs, app, apply, substitute}
use Rattle.lp_calculus.specs.Convert.{head_step, option_term}
use Rattle.lp_term.specs.Nodes.{Nodes, tree}
use Rattle.std.specs.Prelude.{All}
use Rattle.std.proofs.lemmas.List.{reverse-append}
use Rattle.std.proofs.lemmas.List.Elements.{All-push, All-weaker, All-nil, All-head, All-tail, All-cons, All-append}
use Rattle.lp_term.specs.Walk.{trees, size}
use Rattle.lp_term.specs.declared.node.TermId.{TermId}
use Rattle.lp_term.proofs.Walks.{trees-append, map_map}
use Rattle.lp_term.specs.Spine.{abstractions, IsNoRedexHead, whole}

is_app : Term → Type 0
is_app (app t u) = Unit {0}
is_app _ = ⊥

-- a step of an application is one of it on more arguments
step-apply : (t u s : Term) (xs : List Term) → head_step (app t u) ≡ Some s → head_step (apply (app t u) xs) ≡ Some (apply s xs)
step-apply t u s [] e = e
step-apply t u s (x ∷ xs) e = step-apply (app t u) x (app s x) xs (ap (option_term (λ y. app y x)) e)

step-abstractions : (d : ℕ) (t s : Term) → head_step t ≡ Some s → head_step (abstractions d t) ≡ Some (abstractions d s)
step-abstractions zero t s e = e
step-abstractions (suc d) t s e = step-abstractions d (abs t) (abs s) (ap (option_term abs) e)

pub redex_step : (d : ℕ) (b u : Term) (xs : List Term) → head_step (abstractions d (apply (abs b) (u ∷ xs))) ≡ Some (abstractions d (apply (substitute u b) xs))
redex_step d b u xs = step-abstractions d (apply (app (abs b) u) xs) (apply (substitute u b) xs) (step-apply (abs b) u (substitute u b) xs refl)

none-apply : (t u : Term) (xs : List Term) → head_step (app t u) ≡ None → head_step (apply (app t u) xs) ≡ None
none-apply t u [] e = e
none-apply t u (x ∷ xs) e = none-apply (app t u) x xs (ap (option_term (λ y. app y x)) e)

none-head : (t : Term) (xs : List Term) → IsNoRedexHead t → head_step (apply t xs) ≡ None
none-head (index i) [] h = refl
none-head (index i) (x ∷ xs) h = none-apply (index i) x xs refl
none-head (atom a) [] h = refl
none-head (atom a) (x ∷ xs) h = none-apply (atom a) x xs refl
none-head (abs b) xs h = absurd h
none-head (app t u) xs h = absurd h

none-abstractions : (d : ℕ) (t : Term) → head_step t ≡ None → head_step (abstractions d t) ≡ None
none-abstractions zero t e = e
none-abstractions (suc d) t e = none-abstractions d (abs t) (ap (option_term abs) e)

pub normal_head : (d : ℕ) (t : Term) (xs : List Term) → IsNoRedexHead t → head_step (abstractions d (apply t xs)) ≡ None
normal_head d t xs h = none-abstractions d (apply t xs) (none-head t xs h)

apply-append : (h : Term) (xs ys : List Term) → apply h (xs ++ ys) ≡ apply (apply h xs) ys
apply-append h [] ys = refl
apply-append h (x ∷ xs) ys = apply-append (app h x) xs ys

pub unwound_application : (b : Nodes) (d : ℕ) (head next : TermId) (more args news : List TermId) →
    apply (tree b next.0) (map (tree b) (map (λ t. t.0) more)) ≡ tree b head.0 → news ≡ args ++ reverse more →
    whole b d next news ≡ whole b d head args
unwound_application b d head next more args news e q =
    ap (abstractions d)
    (ap (apply (tree b next.0)) (ap (trees b) q ∙ trees-append b args more ∙ ap (λ l. l ++ trees b args) (sym (map_map (tree b) (λ t. t.0) more))) ∙
    apply-append (tree b next.0) (map (tree b) (map (λ t. t.0) more)) (trees b args) ∙ ap (λ h. apply h (trees b args)) e)

pub unwound_abstraction : (b : Nodes) (d e : ℕ) (head body : TermId) (args : List TermId) →
    abs (tree b body.0) ≡ tree b head.0 → args ≡ [] → e ≡ d + 1 → whole b e body args ≡ whole b d head args
unwound_abstraction b d e head body args q a r = rw (a, r, add-one d, ← q)

size-apply : (h : Term) (xs : List Term) → size h + length xs ≤ size (apply h xs)
size-apply h [] = omega arith
size-apply h (x ∷ xs) = omega (arith, size-apply (app h x) xs)

length-two : {X Y Z : Type 0} (f : Y → Z) (g : X → Y) (xs : List X) → length (map f (map g xs)) ≡ length xs
length-two f g [] = refl
length-two f g (x ∷ xs) = ap suc (length-two f g xs)

pub smaller_head : (b : Nodes) (head next : TermId) (more : List TermId) → apply (tree b next.0) (map (tree b) (map (λ t. t.0) more)) ≡ tree b head.0 →
    map (λ t. t.0) more ≢ [] → size (tree b next.0) < size (tree b head.0)
smaller_head b head next [] e h = absurd (h refl)
smaller_head b head next (m ∷ more) e h =
    omega (arith, ap size e, size-apply (tree b next.0) (map (tree b) (map (λ t. t.0) (m ∷ more))), length-two (tree b) (λ t. t.0) (m ∷ more))

unmapped : (n : ℕ) (ids : List TermId) → All (λ i. i < n) (map (λ t. t.0) ids) → All (λ t. t.0 < n) ids
unmapped n [] a = All-nil (λ t. t.0 < n)
unmapped n (i ∷ ids) a =
    All-cons (λ t. t.0 < n) i ids (All-head (λ j. j < n) i.0 (map (λ t. t.0) ids) a) (unmapped n ids (All-tail (λ j. j < n) i.0 (map (λ t. t.0) ids) a))

all_reverse : {X : Type 0} (P : X → Type 0) (xs : List X) → All P xs → All P (reverse xs)
all_reverse P [] a = a
all_reverse P (x ∷ xs) a = rw (reverse-append (x ∷ []) xs) (All-push P (reverse xs) x (all_reverse P xs (All-tail P x xs a)) (All-head P x xs a))

pub args_after : (n m : ℕ) (args more news : List TermId) → n ≤ m → All (λ t. t.0 < m) args → All (λ i. i < n) (map (λ t. t.0) more) → news ≡ args ++ reverse more → All (λ t. t.0 < m) news
args_after n m args more news l a b q =
    rw q (All-append (λ t. t.0 < m) args (reverse more) a (all_reverse (λ t. t.0 < m) more (All-weaker (λ t. t.0 < n) (λ t. t.0 < m) (λ t g. omega arith) more (unmapped n more b))))
