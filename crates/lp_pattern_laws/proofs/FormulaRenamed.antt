-- Formulas of pattern text under such a renaming.
use Rattle.std.proofs.Common.{◌≡◌, ℕ, List, [], ◌∷◌, map, Bool, true, false, refl, sym, ap, ◌∙◌, subst as transport}
use Rattle.std.specs.Prelude.{nat_eq, if◌then◌else◌}
use Rattle.lp_calculus.specs.Types.{Ty}
use Rattle.lp_calculus.specs.Term.{Term, index, atom, abs, app, shift, Atom, constant, integer, text, eigen, logic, param}
use Rattle.lp_calculus.specs.Closed.{AllAtoms}
use Rattle.lp_calculus.specs.Spine.{head_of, arguments, arguments_and}
use Rattle.lp_calculus.proofs.BetaEta.{shift_one}
use Rattle.lp_calculus.proofs.Fills.{lift_suc}
use Rattle.lp_calculus.proofs.Sigma.{lift, rename}
use Rattle.lp_standard.specs.Connectives.{Connective, body_of, connective_of, connective_at, connective_of_constant}
use Rattle.lp_standard.specs.Connectives as connective
use Rattle.lp_pattern_laws.specs.Binders.{Binder, universal, existential}
use Rattle.lp_pattern_laws.specs.Formulas.{IsTermAsClause, IsGoalText, goal_true, goal_cut, goal_both, goal_either, goal_assumes, goal_all, goal_some, goal_not, goal_atom, IsClauseText, clause_both, clause_when, clause_all, clause_term}
use Rattle.lp_pattern_laws.proofs.TextRenamed.{Moves, moves_lift, text_renamed}

abbrev form_at : (ℕ → ℕ) → Connective → Connective
form_at ρ connective.True = connective.True
form_at ρ connective.Cut = connective.Cut
form_at ρ (connective.And a b) = connective.And (rename ρ a) (rename ρ b)
form_at ρ (connective.Or a b) = connective.Or (rename ρ a) (rename ρ b)
form_at ρ (connective.Implies a b) = connective.Implies (rename ρ a) (rename ρ b)
form_at ρ (connective.ForAll T b) = connective.ForAll T (rename (lift ρ) b)
form_at ρ (connective.Exists T b) = connective.Exists T (rename (lift ρ) b)
form_at ρ (connective.Not g) = connective.Not (rename ρ g)
form_at ρ connective.Atomic = connective.Atomic

raised_body : (ρ : ℕ → ℕ) (t : Term) → app (shift 0 1 (rename ρ t)) (index 0) ≡ rename (lift ρ) (app (shift 0 1 t) (index 0))
raised_body ρ t = ap (λ z. app z (index 0)) (shift_one (rename ρ t) ∙ sym (lift_suc ρ t) ∙ ap (rename (lift ρ)) (sym (shift_one t)))

pub body_renamed : (ρ : ℕ → ℕ) (t : Term) → body_of (rename ρ t) ≡ rename (lift ρ) (body_of t)
body_renamed ρ (index i) = raised_body ρ (index i)
body_renamed ρ (atom a) = refl
body_renamed ρ (abs b) = refl
body_renamed ρ (app t u) = raised_body ρ (app t u)

head_renamed : (ρ : ℕ → ℕ) (t : Term) → head_of (rename ρ t) ≡ rename ρ (head_of t)
head_renamed ρ (index i) = refl
head_renamed ρ (atom a) = refl
head_renamed ρ (abs b) = refl
head_renamed ρ (app t u) = head_renamed ρ t

arguments_renamed : (ρ : ℕ → ℕ) (t : Term) (more : List Term) → arguments_and (rename ρ t) (map (rename ρ) more) ≡ map (rename ρ) (arguments_and t more)
arguments_renamed ρ (index i) more = refl
arguments_renamed ρ (atom a) more = refl
arguments_renamed ρ (abs b) more = refl
arguments_renamed ρ (app t u) more = arguments_renamed ρ t (u ∷ more)

if_same : (ρ : ℕ → ℕ) (b : Bool) (x y p q : Connective) → p ≡ form_at ρ x → q ≡ form_at ρ y → (if b then p else q) ≡ form_at ρ (if b then x else y)
if_same ρ true x y p q e f = e
if_same ρ false x y p q e f = f

constant_renamed : (ρ : ℕ → ℕ) (c : ℕ) (ts : List Ty) (us : List Term) → connective_of_constant c ts (map (rename ρ) us) ≡ form_at ρ (connective_of_constant c ts us)
constant_renamed ρ c ts [] = if_same ρ (nat_eq c 6) _ _ _ _ refl (if_same ρ (nat_eq c 7) _ _ _ _ refl refl)
constant_renamed ρ c (T ∷ []) (a ∷ []) = if_same ρ (nat_eq c 4) _ _ _ _ (ap (connective.ForAll T) (body_renamed ρ a))
    (if_same ρ (nat_eq c 5) _ _ _ _ (ap (connective.Exists T) (body_renamed ρ a)) refl)
constant_renamed ρ c [] (a ∷ []) = if_same ρ (nat_eq c 24) _ _ _ _ refl refl
constant_renamed ρ c [] (a ∷ b ∷ []) =
    if_same ρ (nat_eq c 0) _ _ _ _ refl (if_same ρ (nat_eq c 1) _ _ _ _ refl (if_same ρ (nat_eq c 2) _ _ _ _ refl (if_same ρ (nat_eq c 3) _ _ _ _ refl refl)))
constant_renamed ρ c [] (a ∷ b ∷ x ∷ us) = refl
constant_renamed ρ c (T ∷ []) (a ∷ b ∷ us) = refl
constant_renamed ρ c (T ∷ U ∷ ts) (a ∷ []) = refl
constant_renamed ρ c (T ∷ U ∷ ts) (a ∷ b ∷ us) = refl

at_renamed : (ρ : ℕ → ℕ) (h : Term) (us : List Term) → connective_at (rename ρ h) (map (rename ρ) us) ≡ form_at ρ (connective_at h us)
at_renamed ρ (atom (constant c ts)) us = constant_renamed ρ c ts us
at_renamed ρ (atom (integer z)) us = refl
at_renamed ρ (atom (text s)) us = refl
at_renamed ρ (atom (eigen k)) us = refl
at_renamed ρ (atom (logic x l)) us = refl
at_renamed ρ (atom (param k T)) us = refl
at_renamed ρ (index i) us = refl
at_renamed ρ (abs b) us = refl
at_renamed ρ (app t u) us = refl

form_renamed : (ρ : ℕ → ℕ) (t : Term) (f : Connective) → connective_of t ≡ f → connective_of (rename ρ t) ≡ form_at ρ f
form_renamed ρ t f e =
    ap (λ h. connective_at h (arguments (rename ρ t))) (head_renamed ρ t) ∙ ap (connective_at (rename ρ (head_of t))) (arguments_renamed ρ t []) ∙
    at_renamed ρ (head_of t) (arguments t) ∙ ap (form_at ρ) e

pub atoms_renamed : (P : Atom → Type 0) (ρ : ℕ → ℕ) (t : Term) → AllAtoms P t → AllAtoms P (rename ρ t)
atoms_renamed P ρ (index i) h = tt
atoms_renamed P ρ (atom a) h = h
atoms_renamed P ρ (abs b) h = atoms_renamed P (lift ρ) b h
atoms_renamed P ρ (app t u) h = (atoms_renamed P ρ t h.0, atoms_renamed P ρ u h.1)

term_renamed : (ρ : ℕ → ℕ) (f : Connective) → IsTermAsClause f → IsTermAsClause (form_at ρ f)
term_renamed ρ connective.Atomic h = tt
term_renamed ρ connective.True h = tt
term_renamed ρ connective.Cut h = tt
term_renamed ρ (connective.Or a b) h = tt
term_renamed ρ (connective.Exists T b) h = tt
term_renamed ρ (connective.Not g) h = tt
term_renamed ρ (connective.And a b) h = h
term_renamed ρ (connective.Implies a b) h = h
term_renamed ρ (connective.ForAll T b) h = h

mutual
  pub goal_renamed : (ρ : ℕ → ℕ) (Γ Δ : List Binder) → Moves ρ Γ Δ → {t : Term} → IsGoalText Γ t → IsGoalText Δ (rename ρ t)
  goal_renamed ρ Γ Δ h {t} (goal_true e) = goal_true (form_renamed ρ t _ e)
  goal_renamed ρ Γ Δ h {t} (goal_cut e) = goal_cut (form_renamed ρ t _ e)
  goal_renamed ρ Γ Δ h {t} (goal_both e p q) = goal_both (form_renamed ρ t _ e) (goal_renamed ρ Γ Δ h p) (goal_renamed ρ Γ Δ h q)
  goal_renamed ρ Γ Δ h {t} (goal_either e p q) = goal_either (form_renamed ρ t _ e) (goal_renamed ρ Γ Δ h p) (goal_renamed ρ Γ Δ h q)
  goal_renamed ρ Γ Δ h {t} (goal_assumes e p q) = goal_assumes (form_renamed ρ t _ e) (clause_renamed ρ Γ Δ h p) (goal_renamed ρ Γ Δ h q)
  goal_renamed ρ Γ Δ h {t} (goal_all e p) = goal_all (form_renamed ρ t _ e) (goal_renamed (lift ρ) (universal ∷ Γ) (universal ∷ Δ) (moves_lift ρ Γ Δ universal h) p)
  goal_renamed ρ Γ Δ h {t} (goal_some e p) = goal_some (form_renamed ρ t _ e) (goal_renamed (lift ρ) (existential ∷ Γ) (existential ∷ Δ) (moves_lift ρ Γ Δ existential h) p)
  goal_renamed ρ Γ Δ h {t} (goal_not e p) = goal_not (form_renamed ρ t _ e) (goal_renamed ρ Γ Δ h p)
  goal_renamed ρ Γ Δ h {t} (goal_atom e p w) = goal_atom (form_renamed ρ t _ e) (text_renamed ρ Γ Δ h p) (atoms_renamed _ ρ t w)

  clause_renamed : (ρ : ℕ → ℕ) (Γ Δ : List Binder) → Moves ρ Γ Δ → {t : Term} → IsClauseText Γ t → IsClauseText Δ (rename ρ t)
  clause_renamed ρ Γ Δ h {t} (clause_both e p q) = clause_both (form_renamed ρ t _ e) (clause_renamed ρ Γ Δ h p) (clause_renamed ρ Γ Δ h q)
  clause_renamed ρ Γ Δ h {t} (clause_when e p q) = clause_when (form_renamed ρ t _ e) (goal_renamed ρ Γ Δ h p) (clause_renamed ρ Γ Δ h q)
  clause_renamed ρ Γ Δ h {t} (clause_all e p) = clause_all (form_renamed ρ t _ e) (clause_renamed (lift ρ) (existential ∷ Γ) (existential ∷ Δ) (moves_lift ρ Γ Δ existential h) p)
  clause_renamed ρ Γ Δ h {t} (clause_term i p w) = clause_term (transport IsTermAsClause (sym (form_renamed ρ t _ refl))
      (term_renamed ρ (connective_of t) i)) (text_renamed ρ Γ Δ h p) (atoms_renamed _ ρ t w)
