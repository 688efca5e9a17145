-- The bodies of quantifiers.
use Rattle.std.proofs.Common.{◌≡◌, ◌≢◌, ℕ, ◌<◌, ◌≤◌, ◌^◌, List, [], ◌∷◌, ◌++◌, length, map, refl, sym, ap, ◌∙◌, subst, arith}
use Rattle.lp_calculus.specs.Term.{Term, index, atom, abs, app, apply, shift}
use Rattle.lp_term.specs.Node.{TermBelow}
use Rattle.lp_term.specs.Nodes.{Nodes, IsSound, tree, node_tree}
use Rattle.lp_term.specs.Shapes.{term_shape}
use Rattle.lp_term.specs.Walk.{Everywhere}
use Rattle.lp_term.specs.Raise.{FitsRaised}
use Rattle.lp_term.specs.Spine.{LooseBelow, IsLoose}
use Rattle.lp_term.specs.declared.node.TermId.{TermId}
use Rattle.lp_term.specs.declared.node.TermNode.{TermNode}
use Rattle.lp_term.proofs.Loose.{everywhere_both, below_height, height_below}
use Rattle.lp_standard.specs.Connectives.{body_of}
use Rattle.lp_model.specs.inner.Connected.{IsApplication}

-- the trees of arguments
abbrev pub on : Nodes → List TermId → List Term
on b ids = map (tree b) (map (λ t. t.0) ids)

applied : (h x : Term) (xs : List Term) → IsApplication (apply (app h x) xs)
applied h x [] = tt
applied h x (y ∷ ys) = applied (app h x) y ys

is_applied : (b : Nodes) (t h : Term) (ids : List TermId) → map (λ t. t.0) ids ≢ [] → apply h (on b ids) ≡ t → IsApplication t
is_applied b t h [] n e = absurd (n refl)
is_applied b t h (i ∷ ids) n e = subst IsApplication e (applied h (tree b i.0) (on b ids))

-- one argument more
apply_last : (h a : Term) (xs : List Term) → apply h (xs ++ a ∷ []) ≡ app (apply h xs) a
apply_last h a [] = refl
apply_last h a (x ∷ xs) = apply_last (app h x) a xs

on_last : (b : Nodes) (xs : List TermId) (i : TermId) → on b (xs ++ i ∷ []) ≡ on b xs ++ tree b i.0 ∷ []
on_last b [] i = refl
on_last b (x ∷ xs) i = ap (λ l. tree b x.0 ∷ l) (on_last b xs i)

pub put_last : (b : Nodes) (h : Term) (i : TermId) (xs ys : List TermId) (t : Term) → ys ≡ xs ++ i ∷ [] → apply h (on b xs) ≡ t → apply h (on b ys) ≡ app t (tree b i.0)
put_last b h i xs ys t e f = ap (λ l. apply h (on b l)) e ∙ ap (apply h) (on_last b xs i) ∙ apply_last h (tree b i.0) (on b xs) ∙ ap (λ z. app z (tree b i.0)) f

-- where a node is no abstraction
body_applied : (t : Term) → IsApplication t → body_of t ≡ app (shift 0 1 t) (index 0)
body_applied (index i) a = absurd a
body_applied (atom x) a = absurd a
body_applied (abs b) a = absurd a
body_applied (app t u) a = refl

pub no_abstraction : (b : Nodes) (n m : ℕ) (node : TermNode) (t : Term) → TermBelow n m (term_shape node) → node_tree b (term_shape node) ≡ t → ((x : TermId) → node ≡ TermNode.Abs x → ⊥) → body_of t ≡ app (shift 0 1 t) (index 0)
no_abstraction b n m (TermNode.Index i) t o e h = subst (λ z. body_of z ≡ app (shift 0 1 z) (index 0)) e refl
no_abstraction b n m (TermNode.Const c ts) t o e h = subst (λ z. body_of z ≡ app (shift 0 1 z) (index 0)) e refl
no_abstraction b n m (TermNode.Int z) t o e h = subst (λ z. body_of z ≡ app (shift 0 1 z) (index 0)) e refl
no_abstraction b n m (TermNode.Text s) t o e h = subst (λ z. body_of z ≡ app (shift 0 1 z) (index 0)) e refl
no_abstraction b n m (TermNode.Eigen k) t o e h = subst (λ z. body_of z ≡ app (shift 0 1 z) (index 0)) e refl
no_abstraction b n m (TermNode.Logic id level) t o e h = subst (λ z. body_of z ≡ app (shift 0 1 z) (index 0)) e refl
no_abstraction b n m (TermNode.Param k x) t o e h = subst (λ z. body_of z ≡ app (shift 0 1 z) (index 0)) e refl
no_abstraction b n m (TermNode.Abs x) t o e h = absurd (h x refl)
no_abstraction b n m (TermNode.App f ids) t o e h = body_applied t (is_applied b t (tree b f.0) ids.now o.2 e)

pub body_put : (t s u x : Term) → body_of t ≡ app (shift 0 1 t) (index 0) → u ≡ shift 0 1 t → x ≡ index 0 → s ≡ app u x → s ≡ body_of t
body_put t s u x h e f g = g ∙ ap (λ z. app z x) e ∙ ap (app (shift 0 1 t)) f ∙ sym h

-- the condition of a raise
pub can_raise : (b : Nodes) → IsSound b → (i by : ℕ) → i < length b.terms → length b.terms < 2 ^ 62 → by ≤ 2 ^ 32 → LooseBelow (2 ^ 32) 0 (tree b i) → Everywhere (FitsRaised by) 0 (tree b i)
can_raise b s i by h few m l =
    everywhere_both (IsLoose (2 ^ 32)) (λ e j. e ≤ i) (FitsRaised by) (λ e j p q r. omega arith) 0 (tree b i) l (below_height i 0 (tree b i) (omega (arith, height_below b s i h)))
