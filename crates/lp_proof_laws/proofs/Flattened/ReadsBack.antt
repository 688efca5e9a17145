-- Flattening reads back, for closed formulas and for sentences with type variables.
use Rattle.std.proofs.Common.{◌≡◌, ℕ, List, [], ◌∷◌, ◌++◌, length, Some, refl, sym, ◌∙◌, subst}
use Rattle.lp_calculus.specs.Types.{Ty}
use Rattle.lp_calculus.specs.Term.{Term, index}
use Rattle.lp_calculus.specs.Typing.{o_type, type_at}
use Rattle.lp_calculus.specs.Instance.{instance_term}
use Rattle.lp_calculus.specs.Closed.{IsClosedAt}
use Rattle.lp_calculus.proofs.Sigma.{subst-index}
use Rattle.lp_model.specs.Index.{instantiate}
use Rattle.lp_model.specs.Flat.{Goals, no_goals, Clauses, formula_of_goals, formula_of_clauses}
use Rattle.lp_model.specs.Flatten.{ClauseFormula, flat_goal, flat_clause}
use Rattle.lp_standard.specs.Schemes.{IsStandard}
use Rattle.lp_model.specs.Proofs.{Declared, IsFormula, IsSentence, assumed, PlainlyProvable, FocusableBy, Leaves, no_leaf}
use Rattle.lp_proof_laws.proofs.Uniform.Openings.{instantiate_subst, IsOpen, Fits, closed_open}
use Rattle.lp_proof_laws.proofs.Uniform.Assumptions.{Focuses, replaced_assumption, replaced_clause}
use Rattle.lp_proof_laws.proofs.Uniform.Settings.{IsSetting, without_leaves}
use Rattle.lp_proof_laws.proofs.Flattened.TypedFlat.{instance_flat}
use Rattle.lp_proof_laws.proofs.Flattened.FlatGoals.{open_truth, truth_proved}
use Rattle.lp_proof_laws.proofs.Flattened.Flattens.{flattened_goal, flattened_clause}

itself : (t : Term) → instantiate (λ i. index i) t ≡ t
itself t = instantiate_subst (λ i. index i) t ∙ subst-index t

nothing_to_fit : (d : Declared) (E : List Ty) → Fits d E [] (λ i. index i)
nothing_to_fit d E = record { at = λ i T e. absurd (cc) }

open_closed : (d : Declared) (t : Term) → IsFormula d [] t → IsOpen d [] t o_type
open_closed d t f = record { typed = f.typed; within = f.closed }

pub goals_read_back : (d : Declared) → IsStandard d → (n : ℕ) (t : Term) (gs : Goals) → flat_goal n d [] t no_goals ≡ Some gs → IsFormula d [] t →
    (E : List Ty) (P : List ClauseFormula) → (PlainlyProvable d E P t → PlainlyProvable d E P (formula_of_goals gs)) ×
    (PlainlyProvable d E P (formula_of_goals gs) → PlainlyProvable d E P t)
goals_read_back d std n t gs e f E P =
    let l = flattened_goal d (without_leaves d std) n [] t no_goals gs [] e (open_closed d t f) (open_truth d (without_leaves d std) []) in
    let w = nothing_to_fit d E in (
      λ p. subst (PlainlyProvable d E P) (itself (formula_of_goals gs)) (l.together E P (λ i. index i) w (subst (PlainlyProvable d E P) (sym (itself t)) p) (truth_proved d (without_leaves d std) E P)),
      λ p. subst (PlainlyProvable d E P) (itself t) (l.apart E P (λ i. index i) w (subst (PlainlyProvable d E P) (sym (itself (formula_of_goals gs))) p)).0,
    )

-- where one can focus on a clause, one can focus on its flattened clauses read as a formula, and the other way
pub to_flat : {L : Leaves} (d : Declared) → IsSetting L d → (n : ℕ) (c : Term) (cs : Clauses) → flat_clause n d [] c [] [] ≡ Some cs → IsFormula d [] c → (E : List Ty) → Focuses L d E c (formula_of_clauses cs)
unfolding Focuses
to_flat {L} d std n c cs e f E =
    let l = flattened_clause d std n [] c cs [] e (open_closed d c f) in
    λ F x R A i r. subst (λ z. FocusableBy L d F R z A) (itself (formula_of_clauses cs)) (l.to F R (λ i. index i) A (nothing_to_fit d F) i (subst (λ z. FocusableBy L d F R z A) (sym (itself c)) r))

pub from_flat : {L : Leaves} (d : Declared) → IsSetting L d → (n : ℕ) (c : Term) (cs : Clauses) → flat_clause n d [] c [] [] ≡ Some cs → IsFormula d [] c → (E : List Ty) → Focuses L d E (formula_of_clauses cs) c
unfolding Focuses
from_flat {L} d std n c cs e f E =
    let l = flattened_clause d std n [] c cs [] e (open_closed d c f) in
    λ F x R A i r. subst (λ z. FocusableBy L d F R z A) (itself c) (l.from F R (λ i. index i) A (nothing_to_fit d F) i (subst (λ z. FocusableBy L d F R z A) (sym (itself (formula_of_clauses cs))) r))

pub clauses_read_back : (d : Declared) → IsStandard d → (n : ℕ) (c : Term) (cs : Clauses) → flat_clause n d [] c [] [] ≡ Some cs → IsFormula d [] c →
    (E : List Ty) (P : List ClauseFormula) (G : Term) → (PlainlyProvable d E (P ++ assumed c ∷ []) G → PlainlyProvable d E
    (P ++ assumed (formula_of_clauses cs) ∷ []) G) × (PlainlyProvable d E (P ++ assumed (formula_of_clauses cs) ∷ []) G → PlainlyProvable d E
    (P ++ assumed c ∷ []) G)
clauses_read_back d std n c cs e f E P G =
    let l = flattened_clause d (without_leaves d std) n [] c cs [] e (open_closed d c f) in
    let kc = subst (λ z. IsClosedAt (length E) z) (itself c) (closed_open d E [] (λ i. index i) c o_type (nothing_to_fit d E) (open_closed d c f)).1 in
    let kf = subst (λ z. IsClosedAt (length E) z) (itself (formula_of_clauses cs)) (closed_open d E [] (λ i. index i) (formula_of_clauses cs) o_type (nothing_to_fit d E) l.opens).1 in (
      λ p. replaced_assumption no_leaf d E P c (formula_of_clauses cs) G kc kf (λ S m y H k h. h) (to_flat d (without_leaves d std) n c cs e f E) p,
      λ p. replaced_assumption no_leaf d E P (formula_of_clauses cs) c G kf kc (λ S m y H k h. h) (from_flat d (without_leaves d std) n c cs e f E) p,
    )

-- the same of a sentence with type variables: with types for these, its flattened clauses are those of the instance
abbrev read_back : ClauseFormula → Clauses → ClauseFormula
read_back D cs = record { type_vars = D.type_vars; formula = formula_of_clauses cs }

pub sentence_reads_back : (d : Declared) → IsStandard d → (n : ℕ) (D : ClauseFormula) (cs : Clauses) → flat_clause n d [] D.formula [] [] ≡ Some cs →
    IsSentence d D → (E : List Ty) (P R : List ClauseFormula) (G : Term) → (PlainlyProvable d E (P ++ D ∷ R) G → PlainlyProvable d E
    (P ++ read_back D cs ∷ R) G) × (PlainlyProvable d E (P ++ read_back D cs ∷ R) G → PlainlyProvable d E (P ++ D ∷ R) G)
sentence_reads_back d std n D cs e s E P R G = (
  λ p. replaced_clause no_leaf d E P R D (read_back D cs) G refl (λ S m y H k h. h) (λ ts l k.
      let i = instance_flat (type_at ts) d n D.formula cs e in
      subst (Focuses no_leaf d E (instance_term (type_at ts) D.formula)) i.2 (to_flat d (without_leaves d std) n (instance_term (type_at ts) D.formula) i.0 i.1 (s.instances ts l k) E)) p,
  λ p. replaced_clause no_leaf d E P R (read_back D cs) D G refl (λ S m y H k h. h) (λ ts l k.
      let i = instance_flat (type_at ts) d n D.formula cs e in
      subst (λ z. Focuses no_leaf d E z (instance_term (type_at ts) D.formula)) i.2 (from_flat d (without_leaves d std) n (instance_term (type_at ts) D.formula) i.0 i.1 (s.instances ts l k) E)) p,
)
