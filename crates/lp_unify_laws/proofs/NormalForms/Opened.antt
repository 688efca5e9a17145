-- A term ends where it ends on an atom as argument: an atom in the place of an index makes no redex, so the steps are the same.
use Rattle.std.proofs.Common.{◌≡◌, ℕ, zero, suc, ◌∙◌, refl, sym, ap, Option, Some, None}
use Rattle.lp_calculus.specs.Term.{Term, Atom, index, atom, abs, app, substitute}
use Rattle.lp_calculus.specs.Convert.{leftmost_step, option_term, or_else}
use Rattle.lp_calculus.specs.Normal.{IsHead}
use Rattle.lp_calculus.proofs.Sigma.{up, subst, rename, instead, subst-instead}
use Rattle.lp_calculus.proofs.Plain.{substitute-subst}
use Rattle.lp_unify_laws.proofs.NormalForms.Ends.{Ends, rests, goes, abs_ends, none_mapped, some_is}

-- indices and atoms for indices
abbrev pub AreHeads : (ℕ → Term) → Type 0
AreHeads σ = (i : ℕ) → IsHead (σ i)

rename_head : (ρ : ℕ → ℕ) (t : Term) → IsHead t → IsHead (rename ρ t)
rename_head ρ (index i) h = tt
rename_head ρ (atom a) h = tt
rename_head ρ (abs b) h = absurd h
rename_head ρ (app t u) h = absurd h

pub heads_up : (σ : ℕ → Term) → AreHeads σ → AreHeads (up σ)
heads_up σ h zero = tt
heads_up σ h (suc i) = rename_head suc (σ i) (h i)

pub heads_instead : (a : Atom) → AreHeads (instead (atom a))
heads_instead a zero = tt
heads_instead a (suc i) = tt

head_rests : (t : Term) → IsHead t → leftmost_step t ≡ None
head_rests (index i) h = refl
head_rests (atom a) h = refl
head_rests (abs b) h = absurd h
head_rests (app t u) h = absurd h

head_applied : (t u : Term) → IsHead t → leftmost_step (app t u) ≡ option_term (app t) (leftmost_step u)
head_applied (index i) u h = refl
head_applied (atom a) u h = refl
head_applied (abs b) u h = absurd h
head_applied (app t v) u h = absurd h

past_abs : (σ : ℕ → Term) (o : Option Term) → option_term abs (option_term (subst (up σ)) o) ≡ option_term (subst σ) (option_term abs o)
past_abs σ None = refl
past_abs σ (Some b) = refl

past_head : (σ : ℕ → Term) (t : Term) (o : Option Term) → option_term (app (subst σ t)) (option_term (subst σ) o) ≡ option_term (subst σ) (option_term (app t) o)
past_head σ t None = refl
past_head σ t (Some u) = refl

past_either : (σ : ℕ → Term) (t u : Term) (o p : Option Term) →
    or_else (option_term (λ s. app s (subst σ u)) (option_term (subst σ) o)) (option_term (app (subst σ t)) (option_term (subst σ) p)) ≡
    option_term (subst σ) (or_else (option_term (λ s. app s u) o) (option_term (app t) p))
past_either σ t u None p = past_head σ t p
past_either σ t u (Some s) p = refl

pub same_step : (σ : ℕ → Term) → AreHeads σ → (t : Term) → leftmost_step (subst σ t) ≡ option_term (subst σ) (leftmost_step t)
same_step σ h (index i) = head_rests (σ i) (h i)
same_step σ h (atom a) = refl
same_step σ h (abs b) = ap (option_term abs) (same_step (up σ) (heads_up σ h) b) ∙ past_abs σ (leftmost_step b)
same_step σ h (app (abs b) u) =
    ap Some (substitute-subst (subst σ u) (subst (up σ) b) ∙ sym (subst-instead σ u b) ∙ ap (subst σ) (sym (substitute-subst u b)))
same_step σ h (app (index i) u) =
    head_applied (σ i) (subst σ u) (h i) ∙ ap (option_term (app (σ i))) (same_step σ h u) ∙ past_head σ (index i) (leftmost_step u)
same_step σ h (app (atom a) u) = ap (option_term (app (atom a))) (same_step σ h u) ∙ past_head σ (atom a) (leftmost_step u)
same_step σ h (app (app t v) u) =
    ap (λ o. or_else (option_term (λ s. app s (subst σ u)) o) (option_term (app (subst σ (app t v))) (leftmost_step (subst σ u)))) (same_step σ h (app t v)) ∙
    ap (λ o. or_else (option_term (λ s. app s (subst σ u)) (option_term (subst σ) (leftmost_step (app t v)))) (option_term (app (subst σ (app t v))) o)) (same_step σ h u) ∙
    past_either σ (app t v) u (leftmost_step (app t v)) (leftmost_step u)

-- so a term ends where it does with heads for its indices
body_ends : (σ : ℕ → Term) → AreHeads σ → {x : Term} → Ends leftmost_step x → (b : Term) → x ≡ subst σ b → Ends leftmost_step b
body_ends σ h (rests e) b i = rests (none_mapped (subst σ) (leftmost_step b) (sym (same_step σ h b) ∙ sym (ap leftmost_step i) ∙ e))
body_ends σ h (goes {s = s} e more) b i = go (leftmost_step b) refl (sym (same_step σ h b) ∙ sym (ap leftmost_step i) ∙ e) (λ c. body_ends σ h more c)
  where
    go : (o : Option Term) → leftmost_step b ≡ o → option_term (subst σ) (leftmost_step b) ≡ Some s → ((c : Term) → s ≡ subst σ c → Ends leftmost_step c) → Ends leftmost_step b
    go None k l ι = rests k
    go (Some c) k l ι = goes k (ι c (some_is (sym l ∙ ap (option_term (subst σ)) k)))

contracted_ends : (a : Atom) (b : Term) {x : Term} → Ends leftmost_step x → x ≡ app (abs b) (atom a) → Ends leftmost_step b
contracted_ends a b (rests e) i = let q : Some (substitute (atom a) b) ≡ None = sym (ap leftmost_step i) ∙ e in absurd (cc)
contracted_ends a b (goes {s = s} e more) i =
    body_ends (instead (atom a)) (heads_instead a) more b (some_is (sym e ∙ ap leftmost_step i) ∙ substitute-subst (atom a) b)

-- an application on an atom takes the steps of the application
pub first_step : (t u : Term) (a : Atom) (o : Option Term) → leftmost_step (app t u) ≡ o → leftmost_step (app (app t u) (atom a)) ≡ option_term (λ s. app s (atom a)) o
first_step t u a None e = ap (λ o. or_else (option_term (λ s. app s (atom a)) o) None) e
first_step t u a (Some s) e = ap (λ o. or_else (option_term (λ s. app s (atom a)) o) None) e

pub opened_ends : (a : Atom) {x : Term} → Ends leftmost_step x → (t : Term) → x ≡ app t (atom a) → Ends leftmost_step t
opened_ends a k (index i) j = rests refl
opened_ends a k (atom b) j = rests refl
opened_ends a k (abs b) j = abs_ends (contracted_ends a b k j)
opened_ends a (rests e) (app t u) j = rests (none_mapped (λ s. app s (atom a)) (leftmost_step (app t u)) (sym (first_step t u a (leftmost_step (app t u)) refl) ∙ sym (ap leftmost_step j) ∙ e))
opened_ends a (goes {s = s} e more) (app t u) j = go (leftmost_step (app t u)) refl (λ c. opened_ends a more c)
  where
    go : (o : Option Term) → leftmost_step (app t u) ≡ o → ((c : Term) → s ≡ app c (atom a) → Ends leftmost_step c) → Ends leftmost_step (app t u)
    go None k ι = rests k
    go (Some c) k ι = goes k (ι c (some_is (sym e ∙ ap leftmost_step j ∙ first_step t u a (Some c) k)))
