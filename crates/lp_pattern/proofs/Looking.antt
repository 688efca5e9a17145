-- Steps under bindings: a contraction is one, a value that is put for its variable is none.
use Rattle.std.proofs.Common.{◌≡◌, ℕ, zero, suc, ◌+◌, List, [], ◌∷◌, ◌++◌, map, ◌∙◌, refl, sym, ap, arith, Option, Some, None}
use Rattle.std.specs.Prelude.{option_map}
use Rattle.std.proofs.lemmas.List.{append-nil}
use Rattle.lp_calculus.specs.Term.{Term, index, atom, abs, app, apply, substitute, logic}
use Rattle.lp_calculus.specs.Convert.{head_step, option_term, steps}
use Rattle.lp_calculus.specs.Fill.{fill, at_variables}
use Rattle.lp_calculus.specs.Instance.{instance_term}
use Rattle.lp_calculus.proofs.Fills.{fill-substitute}
use Rattle.lp_term.specs.Spine.{IsNoRedexHead}
use Rattle.lp_term.proofs.Spines.{normal_head}
use Rattle.lp_model.specs.Pair.{Closing, closed}
use Rattle.lp_model.specs.Look.{an_abs, looked, head_normal, look, weak_step}
use Rattle.lp_unify_laws.proofs.Looks.{weak_head}
use Rattle.lp_unify_laws.proofs.TypeInstances.{instance_substitute}
use Rattle.lp_pattern.specs.Under.{below}

-- closings of applications and of contractions
pub closed_apply : (c : Closing) (ts : List Term) (h : Term) → closed c (apply h ts) ≡ apply (closed c h) (map (closed c) ts)
closed_apply c [] h = refl
closed_apply c (t ∷ ts) h = closed_apply c ts (app h t)

pub closed_substitute : (c : Closing) (u b : Term) → closed c (substitute u b) ≡ substitute (closed c u) (below c b)
closed_substitute c u b = ap (fill (at_variables c.terms)) (instance_substitute c.types u b) ∙ fill-substitute (at_variables c.terms) (instance_term c.types u) (instance_term c.types b)

-- a step of a term is one of it on arguments
pub weak_apply : (ts : List Term) (t u s : Term) → weak_step (app t u) ≡ Some s → weak_step (apply (app t u) ts) ≡ Some (apply s ts)
weak_apply [] t u s e = e
weak_apply (x ∷ ts) t u s e = weak_apply ts (app t u) x (app s x) (ap (option_term (λ y. app y x)) e)

pub closed_redex : (c : Closing) (b u : Term) (ts : List Term) → weak_step (closed c (apply (abs b) (u ∷ ts))) ≡ Some (closed c (apply (substitute u b) ts))
closed_redex c b u ts =
    ap weak_step (closed_apply c (u ∷ ts) (abs b)) ∙ weak_apply (map (closed c) ts) (abs (below c b)) (closed c u) (substitute (closed c u) (below c b)) refl ∙
    ap (λ t. Some t) (ap (λ h. apply h (map (closed c) ts)) (sym (closed_substitute c u b)) ∙ sym (closed_apply c ts (substitute u b)))

pub closed_value : (c : Closing) (x l : ℕ) (v : Term) (ts : List Term) → c.terms x l ≡ closed c v → closed c (apply (atom (logic x l)) ts) ≡ closed c (apply v ts)
closed_value c x l v ts e = closed_apply c ts (atom (logic x l)) ∙ ap (λ h. apply h (map (closed c) ts)) e ∙ sym (closed_apply c ts v)

-- one step
pub one_step : (f : Term → Option Term) (t s : Term) → f t ≡ Some s → steps f 1 t ≡ Some s
one_step f t s e = ap (λ (o : Option Term). elim o as (λ z. Option Term) [ None ↦ None | Some u ↦ steps f 0 u ]) e

-- the look at a term is the look so many steps later
after_weak : (n : ℕ) (t : Term) (o p : Option Term) → o ≡ p → (elim o as (λ z. Option Term) [ None ↦ Some t | Some u ↦ head_normal n u ]) ≡ (elim p as (λ z. Option Term) [ None ↦ Some t | Some u ↦ head_normal n u ])
after_weak n t o p e = ap (λ (x : Option Term). elim x as (λ z. Option Term) [ None ↦ Some t | Some u ↦ head_normal n u ]) e

pub normal_later : (k n m : ℕ) (t s : Term) → m ≡ k + n → steps weak_step k t ≡ Some s → head_normal m t ≡ head_normal n s
normal_later zero n m t s q e = (let z : m ≡ n = omega arith in let i : t ≡ s = cc in ap (λ j. head_normal j t) z ∙ ap (head_normal n) i)
normal_later (suc k) n zero t s q e = absurd (omega arith)
normal_later (suc k) n (suc m) t s q e =
    elim (weak_step t) as (λ o. weak_step t ≡ o → (elim o [ None ↦ None | Some u ↦ steps weak_step k u ]) ≡ Some s → head_normal (suc m) t ≡ head_normal n s) [
      | None ↦ λ w p. absurd (cc)
      | Some u ↦ λ w p. after_weak m t (head_step t) (Some u) (weak_head t u w) ∙ normal_later k n m u s (omega arith) p
    ] refl e

pub weak_look : (n : ℕ) (t u : Term) → weak_step t ≡ Some u → look (suc n) t ≡ look n u
weak_look n t u w = ap (option_map (λ r. looked r [])) (after_weak n t (head_step t) (Some u) (weak_head t u w))

pub weak_on : (t s u : Term) → weak_step t ≡ Some s → weak_step (app t u) ≡ Some (app s u)
weak_on (index i) s u e = absurd (cc)
weak_on (atom a) s u e = absurd (cc)
weak_on (abs b) s u e = absurd (cc)
weak_on (app t v) s u e = ap (option_term (λ y. app y u)) e

pub steps_on : (j : ℕ) (t s u : Term) → steps weak_step j t ≡ Some s → steps weak_step j (app t u) ≡ Some (app s u)
steps_on zero t s u e = (let q : t ≡ s = cc in ap (λ x. Some (app x u)) q)
steps_on (suc j) t s u e =
    elim (weak_step t) as (λ o. weak_step t ≡ o → (elim o [ None ↦ None | Some r ↦ steps weak_step j r ]) ≡ Some s → steps weak_step (suc j) (app t u) ≡ Some (app s u)) [
      | None ↦ λ w p. absurd (cc)
      | Some r ↦ λ w p. ap (λ (x : Option Term). elim x as (λ z. Option Term) [ None ↦ None | Some y ↦ steps weak_step j y ]) (weak_on t r u w) ∙ steps_on j r s u p
    ] refl e

pub look_later : (k n m : ℕ) (t s : Term) → m ≡ k + n → steps weak_step k t ≡ Some s → look m t ≡ look n s
look_later k n m t s q e = ap (option_map (λ r. looked r [])) (normal_later k n m t s q e)

-- an abstraction is reduced in its body
pub normal_abs : (n : ℕ) (b : Term) → head_normal n (abs b) ≡ option_map abs (head_normal n b)
normal_abs zero b = refl
normal_abs (suc n) b =
    elim (head_step b) as (λ o. (elim (option_term abs o) [ None ↦ Some (abs b) | Some s ↦ head_normal n s ]) ≡ option_map abs (elim o [ None ↦ Some b | Some s ↦ head_normal n s ])) [
      | None ↦ refl
      | Some s ↦ normal_abs n s
    ]

option_maps : {A B C : Type 0} (f : B → C) (g : A → B) (o : Option A) → option_map f (option_map g o) ≡ option_map (λ x. f (g x)) o
option_maps f g None = refl
option_maps f g (Some x) = refl

pub look_abs : (n : ℕ) (b : Term) → look n (abs b) ≡ option_map an_abs (head_normal n b)
look_abs n b = ap (option_map (λ s. looked s [])) (normal_abs n b) ∙ option_maps (λ s. looked s []) abs (head_normal n b)

-- a term that ends at its head
pub looked_apply : (ts more : List Term) (h : Term) → looked (apply h ts) more ≡ looked h (ts ++ more)
looked_apply [] more h = refl
looked_apply (t ∷ ts) more h = looked_apply ts more (app h t)

pub look_ended : (n : ℕ) (h : Term) (ts : List Term) → IsNoRedexHead h → look (suc n) (apply h ts) ≡ Some (looked h ts)
look_ended n h ts i =
    ap (option_map (λ r. looked r [])) (ap (λ (o : Option Term). elim o as (λ z. Option Term) [ None ↦ Some (apply h ts) | Some s ↦ head_normal n s ]) (normal_head 0 h ts i)) ∙
    ap (λ v. Some v) (looked_apply ts [] h ∙ ap (looked h) (append-nil ts))
