-- A goal with its first argument as it was looked at: the goal reduces to it and keeps its head, and more steps change nothing.
use Rattle.std.proofs.Common.{◌≡◌, ℕ, ◌≤◌, List, [], ◌∷◌, ◌∙◌, refl, sym, ap, subst as transport, Some, None}
use Rattle.std.specs.Prelude.{option_map}
use Rattle.lp_calculus.specs.Term.{Term, index, atom, abs, app, apply}
use Rattle.lp_calculus.specs.Convert.{in_head, ReducesTo, done, then_step}
use Rattle.lp_calculus.specs.Spine.{head_of, arguments}
use Rattle.lp_calculus.proofs.Steps.{Step}
use Rattle.lp_model.specs.Look.{top_normal}
use Rattle.lp_model.specs.Search.{first_looked, goal_looked}
use Rattle.lp_proof_laws.proofs.Uniform.Forms.{apply_arguments}
use Rattle.lp_proof_laws.proofs.Uniform.Roots.{head_apply}
use Rattle.lp_unify_laws.proofs.Looks.{top_reduces}
use Rattle.lp_unify_laws.proofs.MoreSteps.Scans.{Below, below_map, below_same, top_normal_more}
use Rattle.lp_unify_laws.proofs.Scans.{reduces_app}

-- it is a reduct
applied : (ts : List Term) {h g : Term} → Step h g → Step (apply h ts) (apply g ts)
applied [] s = s
applied (t ∷ ts) s = applied ts (in_head t s)

on_arguments : (ts : List Term) {h g : Term} → ReducesTo h g → ReducesTo (apply h ts) (apply g ts)
on_arguments ts (done h) = done (apply h ts)
on_arguments ts (then_step s r) = then_step (applied ts s) (on_arguments ts r)

first_reduces : (n : ℕ) (h : Term) (ts : List Term) (u : Term) → first_looked n h ts ≡ Some u → ReducesTo (apply h ts) u
first_reduces n h [] u e = let q : h ≡ u = cc in transport (ReducesTo h) q (done h)
first_reduces n h (t ∷ ts) u e = elim (top_normal n t) as (λ o. top_normal n t ≡ o → option_map (λ s. apply h (s ∷ ts)) o ≡ Some u → ReducesTo (apply h (t ∷ ts)) u) [
  | None ↦ λ p q. absurd (cc)
  | Some s ↦ λ p q. let r : apply h (s ∷ ts) ≡ u = cc in transport (ReducesTo (apply h (t ∷ ts))) r (on_arguments ts (reduces_app h (top_reduces n t s p)))
] refl e

pub goal_reduces : (n : ℕ) (t u : Term) → goal_looked n t ≡ Some u → ReducesTo t u
goal_reduces n t u e = transport (λ x. ReducesTo x u) (apply_arguments t []) (first_reduces n (head_of t) (arguments t) u e)

-- with the goal's head
first_head : (n : ℕ) (h : Term) (ts : List Term) (u : Term) → first_looked n h ts ≡ Some u → head_of u ≡ head_of h
first_head n h [] u e = let q : h ≡ u = cc in ap head_of (sym q)
first_head n h (t ∷ ts) u e = elim (top_normal n t) as (λ o. option_map (λ s. apply h (s ∷ ts)) o ≡ Some u → head_of u ≡ head_of h) [
  | None ↦ λ q. absurd (cc)
  | Some s ↦ λ q. let r : apply h (s ∷ ts) ≡ u = cc in ap head_of (sym r) ∙ head_apply h (s ∷ ts)
] e

head_twice : (t : Term) → head_of (head_of t) ≡ head_of t
head_twice (index i) = refl
head_twice (atom a) = refl
head_twice (abs b) = refl
head_twice (app f a) = head_twice f

pub goal_head : (n : ℕ) (t u : Term) → goal_looked n t ≡ Some u → head_of u ≡ head_of t
goal_head n t u e = first_head n (head_of t) (arguments t) u e ∙ head_twice t

-- more steps
first_more : (n m : ℕ) → n ≤ m → (h : Term) (ts : List Term) → Below (first_looked n h ts) (first_looked m h ts)
first_more n m l h [] = below_same (Some h)
first_more n m l h (t ∷ ts) = below_map (top_normal n t) (top_normal m t) (λ s. apply h (s ∷ ts)) (top_normal_more n m l t)

pub looked_more : (n m : ℕ) → n ≤ m → (t : Term) → Below (goal_looked n t) (goal_looked m t)
looked_more n m l t = first_more n m l (head_of t) (arguments t)
