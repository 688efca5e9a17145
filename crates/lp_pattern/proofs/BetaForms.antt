-- Beta-normal forms by counted steps: of abstractions, of a head on arguments, and behind steps at the top.
use Rattle.std.proofs.Common.{◌≡◌, ℕ, zero, suc, List, [], ◌∷◌, ◌∙◌, refl, sym, ap, arith, Option, Some, None}
use Rattle.std.specs.Prelude.{option_map}
use Rattle.lp_calculus.specs.Term.{Term, index, atom, abs, app, apply}
use Rattle.lp_calculus.specs.Convert.{leftmost_step, option_term, or_else, steps}
use Rattle.lp_calculus.proofs.Sigma.{subst}
use Rattle.lp_model.specs.Eigens.{beta_normal}
use Rattle.lp_model.specs.Look.{weak_step}
use Rattle.lp_unify_laws.proofs.NormalForms.Applied.{app_step, neutral_stays}
use Rattle.lp_unify_laws.proofs.MoreSteps.Scans.{Below, below_none, beta_normal_more}
use Rattle.lp_pattern.proofs.Naming.{IsLeaf, AreLeaves, leftmost_named}

abbrev turn : ℕ → Term → Option Term → Option Term
turn n t o = elim o [ None ↦ Some t | Some s ↦ beta_normal n s ]

-- behind steps at the top
pub weak_leftmost : (t s : Term) → weak_step t ≡ Some s → leftmost_step t ≡ Some s
weak_leftmost (index i) s e = absurd (cc)
weak_leftmost (atom a) s e = absurd (cc)
weak_leftmost (abs b) s e = absurd (cc)
weak_leftmost (app (abs b) u) s e = e
weak_leftmost (app (index i) u) s e = absurd (cc)
weak_leftmost (app (atom a) u) s e = absurd (cc)
weak_leftmost (app (app t v) u) s e = go (weak_step (app t v)) refl e (λ r q. weak_leftmost (app t v) r q)
  where
    go : (o : Option Term) → weak_step (app t v) ≡ o → option_term (λ y. app y u) o ≡ Some s → ((r : Term) → weak_step (app t v) ≡ Some r → leftmost_step (app t v) ≡ Some r) →
        or_else (option_term (λ y. app y u) (leftmost_step (app t v))) (option_term (app (app t v)) (leftmost_step u)) ≡ Some s
    go None p q f = absurd (cc)
    go (Some r) p q f = ap (λ o. or_else (option_term (λ y. app y u) o) (option_term (app (app t v)) (leftmost_step u))) (f r p) ∙ q

pub beta_behind : (k n : ℕ) (t s : Term) → steps weak_step k t ≡ Some s → Below (beta_normal n t) (beta_normal n s)
beta_behind zero n t s e = λ r q. let i : t ≡ s = cc in ap (beta_normal n) (sym i) ∙ q
beta_behind (suc k) zero t s e = below_none (beta_normal zero s)
beta_behind (suc k) (suc n) t s e = go (weak_step t) refl e (λ u q. beta_behind k n u s q)
  where
    go : (o : Option Term) → weak_step t ≡ o → (elim o as (λ z. Option Term) [ None ↦ None | Some u ↦ steps weak_step k u ]) ≡ Some s → ((u : Term) → steps weak_step k u ≡ Some s → Below (beta_normal n u) (beta_normal n s)) →
        Below (beta_normal (suc n) t) (beta_normal (suc n) s)
    go None p q f = absurd (cc)
    go (Some u) p q f = λ r x. beta_normal_more n (suc n) (omega arith) s r (f u q r (sym (ap (turn n t) (weak_leftmost t u p)) ∙ x))

-- an abstraction
pub beta_abs : (n : ℕ) (b : Term) → beta_normal n (abs b) ≡ option_map abs (beta_normal n b)
beta_abs zero b = refl
beta_abs (suc n) b =
    elim (leftmost_step b) as (λ o. (elim (option_term abs o) as (λ z. Option Term) [ None ↦ Some (abs b) | Some s ↦ beta_normal n s ]) ≡ option_map abs (turn n b o)) [
      | None ↦ refl
      | Some s ↦ beta_abs n s
    ]

-- a head that stays
abbrev pub IsNeutral : Term → Type 0
IsNeutral (index i) = Unit {0}
IsNeutral (atom a) = Unit {0}
IsNeutral (abs b) = ⊥
IsNeutral (app t u) = IsNeutral t

-- the form of a head on an argument
pub record OnArgument (n : ℕ) (f u r : Term) : Type 0 where
  pub head : Term
  pub argument : Term
  pub is : r ≡ app head argument
  pub head_form : beta_normal n f ≡ Some head
  pub argument_form : beta_normal n u ≡ Some argument

on_argument : (n : ℕ) (f u r : Term) → IsNeutral f → beta_normal n (app f u) ≡ Some r → OnArgument n f u r
on_argument zero f u r h e = absurd (cc)
on_argument (suc n) f u r h e =
    go (leftmost_step f) (leftmost_step u) refl refl (sym (ap (turn n (app f u)) (app_step f u h)) ∙ e) (λ g k x. on_argument n g u r k x) (λ v x. on_argument n f v r h x)
  where
    go : (o p : Option Term) → leftmost_step f ≡ o → leftmost_step u ≡ p → turn n (app f u) (or_else (option_term (λ s. app s u) (leftmost_step f)) (option_term (app f) (leftmost_step u))) ≡ Some r →
        ((g : Term) → IsNeutral g → beta_normal n (app g u) ≡ Some r → OnArgument n g u r) → ((v : Term) → beta_normal n (app f v) ≡ Some r → OnArgument n f v r) → OnArgument (suc n) f u r
    go None None p q x a b =
        let y : Some (app f u) ≡ Some r = sym (λ i. turn n (app f u) (or_else (option_term (λ s. app s u) (p i)) (option_term (app f) (q i)))) ∙ x in
        let z : app f u ≡ r = cc in
        record { head = f; argument = u; is = sym z; head_form = ap (turn n f) p; argument_form = ap (turn n u) q }
    go None (Some v) p q x a b =
        let w = b v (sym (λ i. turn n (app f u) (or_else (option_term (λ s. app s u) (p i)) (option_term (app f) (q i)))) ∙ x) in
        record { head = w.head; argument = w.argument; is = w.is; head_form = beta_normal_more n (suc n) (omega arith) f w.head w.head_form; argument_form = ap (turn n u) q ∙ w.argument_form }
    go (Some g) o p q x a b =
        let w = a g (neutral_stays f g h p) (sym (ap (λ y. turn n (app f u) (or_else (option_term (λ s. app s u) y) (option_term (app f) (leftmost_step u)))) p) ∙ x) in
        record { head = w.head; argument = w.argument; is = w.is; head_form = ap (turn n f) p ∙ w.head_form; argument_form = beta_normal_more n (suc n) (omega arith) u w.argument w.argument_form }

-- the forms of a list of terms
pub data Forms (n : ℕ) : List Term → List Term → Type 0 where
  none : Forms n [] []
  more : {t s : Term} {ts ss : List Term} → beta_normal n t ≡ Some s → Forms n ts ss → Forms n (t ∷ ts) (s ∷ ss)

pub record OnArguments (n : ℕ) (f : Term) (ts : List Term) (r : Term) : Type 0 where
  pub head : Term
  pub arguments : List Term
  pub is : r ≡ apply head arguments
  pub head_form : beta_normal n f ≡ Some head
  pub argument_forms : Forms n ts arguments

on_arguments : (n : ℕ) (ts : List Term) (f r : Term) → IsNeutral f → beta_normal n (apply f ts) ≡ Some r → OnArguments n f ts r
on_arguments n [] f r h e = record { head = r; arguments = []; is = refl; head_form = e; argument_forms = none }
on_arguments n (t ∷ ts) f r h e =
    let w = on_arguments n ts (app f t) r h e in
    let x = on_argument n f t w.head h w.head_form in
    record { head = x.head; arguments = x.argument ∷ w.arguments; is = w.is ∙ ap (λ y. apply y w.arguments) x.is; head_form = x.head_form; argument_forms = more x.argument_form w.argument_forms }

leaf_neutral : (h : Term) → IsLeaf h → IsNeutral h
leaf_neutral (index i) l = tt
leaf_neutral (atom a) l = tt
leaf_neutral (abs b) l = absurd l
leaf_neutral (app t u) l = absurd l

pub leaf_form : (n : ℕ) (h s : Term) → IsLeaf h → beta_normal n h ≡ Some s → s ≡ h
leaf_form zero h s l e = absurd (cc)
leaf_form (suc n) (index i) s l e = let q : index i ≡ s = cc in sym q
leaf_form (suc n) (atom a) s l e = let q : atom a ≡ s = cc in sym q
leaf_form (suc n) (abs b) s l e = absurd l
leaf_form (suc n) (app t u) s l e = absurd l

-- of a leaf on arguments
pub leaf_on_arguments : (n : ℕ) (h : Term) (ts : List Term) (r : Term) → IsLeaf h → beta_normal n (apply h ts) ≡ Some r → (ss : List Term) × (r ≡ apply h ss) × Forms n ts ss
leaf_on_arguments n h ts r l e =
    let w = on_arguments n ts h r (leaf_neutral h l) e in
    (w.arguments, w.is ∙ ap (λ y. apply y w.arguments) (leaf_form n h w.head l w.head_form), w.argument_forms)

-- with indices and atoms in the place of free indices
through_turn : (σ : ℕ → Term) (n : ℕ) (t : Term) (o : Option Term) → ((s : Term) → beta_normal n (subst σ s) ≡ option_map (subst σ) (beta_normal n s)) →
    turn n (subst σ t) (option_map (subst σ) o) ≡ option_map (subst σ) (turn n t o)
through_turn σ n t None f = refl
through_turn σ n t (Some s) f = f s

pub beta_named : (σ : ℕ → Term) → AreLeaves σ → (n : ℕ) (t : Term) → beta_normal n (subst σ t) ≡ option_map (subst σ) (beta_normal n t)
beta_named σ l zero t = refl
beta_named σ l (suc n) t = ap (turn n (subst σ t)) (leftmost_named σ l t) ∙ through_turn σ n t (leftmost_step t) (beta_named σ l n)
