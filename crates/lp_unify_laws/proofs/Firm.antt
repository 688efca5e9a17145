-- A look shows a rigid head, an abstraction or a variable, and nothing else.
use Rattle.std.proofs.Common.{◌≡◌, ℕ, zero, suc, List, [], ◌∷◌, refl, subst as transport, Option, Some, None}
use Rattle.std.specs.Prelude.{option_map}
use Rattle.lp_calculus.specs.Term.{Term, index, atom, abs, app, constant, integer, text, eigen, logic, param}
use Rattle.lp_calculus.specs.Convert.{head_step, option_term}
use Rattle.lp_model.specs.Look.{Look, an_abs, rigid, flexible, looked, head_normal, look}
use Rattle.lp_calculus.proofs.Rigid.{IsRigid}

abbrev pub IsFirm : Look → Type 0
IsFirm (an_abs b) = Unit {0}
IsFirm (rigid h ts) = IsRigid h
IsFirm (flexible x l ts) = Unit {0}

abbrev NoRedex : Term → List Term → Type 0
NoRedex (abs b) (t ∷ ts) = ⊥
NoRedex (abs b) [] = Unit {0}
NoRedex (index i) ts = Unit {0}
NoRedex (atom a) ts = Unit {0}
NoRedex (app t u) ts = Unit {0}

no_head_step : (o : Option Term) (f : Term → Term) → option_term f o ≡ None → o ≡ None
no_head_step None f e = refl
no_head_step (Some t) f e = absurd (cc)

firm : (s : Term) (ts : List Term) → head_step s ≡ None → NoRedex s ts → IsFirm (looked s ts)
firm (index i) ts e r = tt
firm (atom (logic x l)) ts e r = tt
firm (atom (constant c us)) ts e r = tt
firm (atom (integer z)) ts e r = tt
firm (atom (text s)) ts e r = tt
firm (atom (eigen k)) ts e r = tt
firm (atom (param k t)) ts e r = tt
firm (abs b) [] e r = tt
firm (abs b) (t ∷ ts) e r = absurd r
firm (app (abs b) u) ts e r = absurd (cc)
firm (app (index i) u) ts e r = firm (index i) (u ∷ ts) refl tt
firm (app (atom a) u) ts e r = firm (atom a) (u ∷ ts) refl tt
firm (app (app t v) u) ts e r = firm (app t v) (u ∷ ts) (no_head_step (head_step (app t v)) (λ s. app s u) e) tt

no_redex : (s : Term) → NoRedex s []
no_redex (index i) = tt
no_redex (atom a) = tt
no_redex (abs b) = tt
no_redex (app t u) = tt

pub head_normal_is : (n : ℕ) (t s : Term) → head_normal n t ≡ Some s → head_step s ≡ None
head_normal_is zero t s e = absurd (cc)
head_normal_is (suc n) t s e = elim (head_step t) as (λ o. head_step t ≡ o → (elim o [ None ↦ Some t | Some r ↦ head_normal n r ]) ≡ Some s → head_step s ≡ None) [
  | None ↦ λ p q. let r : t ≡ s = cc in transport (λ x. head_step x ≡ None) r p
  | Some r ↦ λ p q. head_normal_is n r s q
] refl e

pub look_firm : (n : ℕ) (t : Term) (v : Look) → look n t ≡ Some v → IsFirm v
look_firm n t v e = elim (head_normal n t) as (λ o. head_normal n t ≡ o → option_map (λ s. looked s []) o ≡ Some v → IsFirm v) [
  | None ↦ λ p q. absurd (cc)
  | Some s ↦ λ p q. let r : looked s [] ≡ v = cc in transport IsFirm r (firm s [] (head_normal_is n t s p) (no_redex s))
] refl e
