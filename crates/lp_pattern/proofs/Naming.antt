-- Steps of terms whose free indices are put by indices and atoms: no step is lost, and none is new.
use Rattle.std.proofs.Common.{◌≡◌, ℕ, zero, suc, List, [], ◌∷◌, map, ◌∙◌, refl, sym, ap, Option, Some, None}
use Rattle.std.specs.Prelude.{option_map}
use Rattle.lp_calculus.specs.Term.{Term, index, atom, abs, app, apply, eigen, substitute}
use Rattle.lp_calculus.specs.Convert.{head_step, leftmost_step, option_term, or_else, steps}
use Rattle.lp_calculus.proofs.Sigma.{rename, up, subst, instead, subst-instead}
use Rattle.lp_calculus.proofs.Plain.{substitute-subst}
use Rattle.lp_model.specs.Look.{weak_step}

abbrev pub IsLeaf : Term → Type 0
IsLeaf (index i) = Unit {0}
IsLeaf (atom a) = Unit {0}
IsLeaf (abs b) = ⊥
IsLeaf (app t u) = ⊥

abbrev pub AreLeaves : (ℕ → Term) → Type 0
AreLeaves σ = (i : ℕ) → IsLeaf (σ i)

renamed_leaf : (t : Term) → IsLeaf t → IsLeaf (rename suc t)
renamed_leaf (index i) h = tt
renamed_leaf (atom a) h = tt
renamed_leaf (abs b) h = absurd h
renamed_leaf (app t u) h = absurd h

pub up_leaves : (σ : ℕ → Term) → AreLeaves σ → AreLeaves (up σ)
up_leaves σ h zero = tt
up_leaves σ h (suc i) = renamed_leaf (σ i) (h i)

pub instead_leaves : (a : _) → AreLeaves (instead (atom a))
instead_leaves a zero = tt
instead_leaves a (suc i) = tt

pub substituted : (σ : ℕ → Term) (u b : Term) → substitute (subst σ u) (subst (up σ) b) ≡ subst σ (substitute u b)
substituted σ u b = substitute-subst (subst σ u) (subst (up σ) b) ∙ sym (subst-instead σ u b) ∙ ap (subst σ) (sym (substitute-subst u b))

-- a leaf takes no step, alone or on an argument
leaf_head : (t : Term) → IsLeaf t → head_step t ≡ None
leaf_head (index i) h = refl
leaf_head (atom a) h = refl
leaf_head (abs b) h = absurd h
leaf_head (app t u) h = absurd h

pub leaf_weak : (t : Term) → IsLeaf t → weak_step t ≡ None
leaf_weak (index i) h = refl
leaf_weak (atom a) h = refl
leaf_weak (abs b) h = absurd h
leaf_weak (app t u) h = absurd h

leaf_leftmost : (t : Term) → IsLeaf t → leftmost_step t ≡ None
leaf_leftmost (index i) h = refl
leaf_leftmost (atom a) h = refl
leaf_leftmost (abs b) h = absurd h
leaf_leftmost (app t u) h = absurd h

leaf_head_on : (t u : Term) → IsLeaf t → head_step (app t u) ≡ None
leaf_head_on (index i) u h = refl
leaf_head_on (atom a) u h = refl
leaf_head_on (abs b) u h = absurd h
leaf_head_on (app t v) u h = absurd h

pub leaf_weak_on : (t u : Term) → IsLeaf t → weak_step (app t u) ≡ None
leaf_weak_on (index i) u h = refl
leaf_weak_on (atom a) u h = refl
leaf_weak_on (abs b) u h = absurd h
leaf_weak_on (app t v) u h = absurd h

leaf_leftmost_on : (t u : Term) → IsLeaf t → leftmost_step (app t u) ≡ option_term (app t) (leftmost_step u)
leaf_leftmost_on (index i) u h = refl
leaf_leftmost_on (atom a) u h = refl
leaf_leftmost_on (abs b) u h = absurd h
leaf_leftmost_on (app t v) u h = absurd h

-- an option under the same change on both sides
through : (f : Term → Term) (g h : Term → Term) → ((t : Term) → g (f t) ≡ f (h t)) → (o : Option Term) → option_term g (option_map f o) ≡ option_map f (option_term h o)
through f g h e None = refl
through f g h e (Some t) = ap (λ x. Some x) (e t)

through_under : (f f' : Term → Term) (g h : Term → Term) → ((t : Term) → g (f' t) ≡ f (h t)) → (o : Option Term) → option_term g (option_map f' o) ≡ option_map f (option_term h o)
through_under f f' g h e None = refl
through_under f f' g h e (Some t) = ap (λ x. Some x) (e t)

through_else : (f : Term → Term) (o p : Option Term) → or_else (option_map f o) (option_map f p) ≡ option_map f (or_else o p)
through_else f None p = refl
through_else f (Some t) p = refl

pub head_named : (σ : ℕ → Term) → AreLeaves σ → (t : Term) → head_step (subst σ t) ≡ option_map (subst σ) (head_step t)
head_named σ h (index i) = leaf_head (σ i) (h i)
head_named σ h (atom a) = refl
head_named σ h (abs b) = ap (option_term abs) (head_named (up σ) (up_leaves σ h) b) ∙ through_under (subst σ) (subst (up σ)) abs abs (λ t. refl) (head_step b)
head_named σ h (app (abs b) u) = ap (λ x. Some x) (substituted σ u b)
head_named σ h (app (index i) u) = leaf_head_on (σ i) (subst σ u) (h i)
head_named σ h (app (atom a) u) = refl
head_named σ h (app (app t v) u) =
    ap (option_term (λ s. app s (subst σ u))) (head_named σ h (app t v)) ∙ through (subst σ) (λ s. app s (subst σ u)) (λ s. app s u) (λ s. refl) (head_step (app t v))

pub weak_named : (σ : ℕ → Term) → AreLeaves σ → (t : Term) → weak_step (subst σ t) ≡ option_map (subst σ) (weak_step t)
weak_named σ h (index i) = leaf_weak (σ i) (h i)
weak_named σ h (atom a) = refl
weak_named σ h (abs b) = refl
weak_named σ h (app (abs b) u) = ap (λ x. Some x) (substituted σ u b)
weak_named σ h (app (index i) u) = leaf_weak_on (σ i) (subst σ u) (h i)
weak_named σ h (app (atom a) u) = refl
weak_named σ h (app (app t v) u) =
    ap (option_term (λ s. app s (subst σ u))) (weak_named σ h (app t v)) ∙ through (subst σ) (λ s. app s (subst σ u)) (λ s. app s u) (λ s. refl) (weak_step (app t v))

pub leftmost_named : (σ : ℕ → Term) → AreLeaves σ → (t : Term) → leftmost_step (subst σ t) ≡ option_map (subst σ) (leftmost_step t)
leftmost_named σ h (index i) = leaf_leftmost (σ i) (h i)
leftmost_named σ h (atom a) = refl
leftmost_named σ h (abs b) = ap (option_term abs) (leftmost_named (up σ) (up_leaves σ h) b) ∙ through_under (subst σ) (subst (up σ)) abs abs (λ t. refl) (leftmost_step b)
leftmost_named σ h (app (abs b) u) = ap (λ x. Some x) (substituted σ u b)
leftmost_named σ h (app (index i) u) =
    leaf_leftmost_on (σ i) (subst σ u) (h i) ∙ ap (option_term (app (σ i))) (leftmost_named σ h u) ∙ through (subst σ) (app (σ i)) (app (index i)) (λ s. refl) (leftmost_step u)
leftmost_named σ h (app (atom a) u) = ap (option_term (app (atom a))) (leftmost_named σ h u) ∙ through (subst σ) (app (atom a)) (app (atom a)) (λ s. refl) (leftmost_step u)
leftmost_named σ h (app (app t v) u) =
    (λ i. or_else (option_term (λ s. app s (subst σ u)) (leftmost_named σ h (app t v) i)) (option_term (app (app (subst σ t) (subst σ v))) (leftmost_named σ h u i))) ∙
    (λ i. or_else (through (subst σ) (λ s. app s (subst σ u)) (λ s. app s u) (λ s. refl) (leftmost_step (app t v)) i) (through (subst σ) (app (app (subst σ t) (subst σ v))) (app (app t v)) (λ s. refl) (leftmost_step u) i)) ∙
    through_else (subst σ) (option_term (λ s. app s u) (leftmost_step (app t v))) (option_term (app (app t v)) (leftmost_step u))

-- several steps
pub steps_named : (f : Term → Option Term) (σ : ℕ → Term) → ((t : Term) → f (subst σ t) ≡ option_map (subst σ) (f t)) → (n : ℕ) (t s : Term) → steps f n t ≡ Some s → steps f n (subst σ t) ≡ Some (subst σ s)
steps_named f σ h zero t s e = let q : t ≡ s = cc in ap (λ x. Some (subst σ x)) q
steps_named f σ h (suc n) t s e = go (f t) refl e (λ u q. steps_named f σ h n u s q)
  where
    go : (o : Option Term) → f t ≡ o → (elim o as (λ z. Option Term) [ None ↦ None | Some u ↦ steps f n u ]) ≡ Some s → ((u : Term) → steps f n u ≡ Some s → steps f n (subst σ u) ≡ Some (subst σ s)) →
        steps f (suc n) (subst σ t) ≡ Some (subst σ s)
    go None p q k = absurd (cc)
    go (Some u) p q k = ap (λ (x : Option Term). elim x as (λ z. Option Term) [ None ↦ None | Some y ↦ steps f n y ]) (h t ∙ ap (option_map (subst σ)) p) ∙ k u q

-- the body of an abstraction on an eigenconstant
pub opened_normal : (k : ℕ) (b : Term) → head_step b ≡ None → head_step (substitute (atom (eigen k)) b) ≡ None
opened_normal k b e = ap head_step (substitute-subst (atom (eigen k)) b) ∙ head_named (instead (atom (eigen k))) (instead_leaves (eigen k)) b ∙ ap (option_map (subst (instead (atom (eigen k))))) e

pub opened_steps : (k n : ℕ) (a b : Term) → steps head_step n a ≡ Some b → steps head_step n (substitute (atom (eigen k)) a) ≡ Some (substitute (atom (eigen k)) b)
opened_steps k n a b e =
    ap (steps head_step n) (substitute-subst (atom (eigen k)) a) ∙ steps_named head_step (instead (atom (eigen k))) (head_named (instead (atom (eigen k))) (instead_leaves (eigen k))) n a b e ∙
    ap (λ x. Some x) (sym (substitute-subst (atom (eigen k)) b))

pub subst_apply : (σ : ℕ → Term) (ts : List Term) (h : Term) → subst σ (apply h ts) ≡ apply (subst σ h) (map (subst σ) ts)
subst_apply σ [] h = refl
subst_apply σ (t ∷ ts) h = subst_apply σ ts (app h t)
