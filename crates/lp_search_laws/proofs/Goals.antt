-- Goals that are taken apart: those known at run time, by the form of their head-normal form, and flattened ones.
use Rattle.lp_proof_laws.proofs.Uniform.Settings.{IsSetting}
use Rattle.std.proofs.Common.{◌≡◌, ℕ, suc, List, [], ◌∷◌, ◌++◌, map, length, ◌∙◌, refl, sym, ap, subst as transport, arith, false, nat_eq, if◌then◌else◌, inl, inr, Some, None}
use Rattle.std.proofs.lemmas.Bool.Decides.{nat_tests}
use Rattle.lp_calculus.specs.Types.{Ty, instance}
use Rattle.lp_calculus.specs.Term.{Term, atom, abs, substitute, constant, logic}
use Rattle.lp_calculus.specs.Typing.{Typed, scheme_type, o_type}
use Rattle.lp_calculus.proofs.Steps.{within_reduces}
use Rattle.lp_model.specs.Look.{head_normal}
use Rattle.lp_lemmas.specs.Each.{EachOf}
use Rattle.lp_model.specs.Pair.{Closing, closed}
use Rattle.lp_model.specs.Proofs.{Declared, under, IsFormula, IsWitness, True, Leaves}
use Rattle.lp_standard.specs.Schemes.{IsStandard}
use Rattle.lp_standard.specs.Connectives.{truth, Connective, connective_of}
use Rattle.lp_standard.specs.Connectives as connective
use Rattle.lp_model.specs.Flat.{Goal, Atomic, Cut, Either, Exists, Forall, Assume, Not, Goals, no_goals, goals, goal_list, formula_of_goal, formula_of_goals, formula_of_clauses}
use Rattle.lp_model.specs.Flatten.{ClauseFormula}
use Rattle.lp_proof_laws.proofs.Uniform.Forms.{Shape, form_shape}
use Rattle.lp_proof_laws.proofs.Uniform.Roots.{connective}
use Rattle.lp_proof_laws.proofs.Uniform.Formulas.{parts}
use Rattle.lp_unify_laws.proofs.Looks.{head_reduces}
use Rattle.lp_search_laws.specs.Holds.{Holds, with_value, IsOther, IsUnused, next_eigen, FormHolds, IsTakenApart, GoalHolds}
use Rattle.lp_search_laws.proofs.Closed.{closed_reduces, formula_reduces}
use Rattle.lp_search_laws.proofs.Connectives.{reduces_on, reduces_back, both_holds, either_holds, pi_holds, sigma_holds, implied_holds}

no_types : (d : Declared) → IsStandard d → (ts : List Ty) → scheme_type ts (d 6) ≡ Some o_type → ts ≡ []
no_types d std [] e = refl
no_types d std (t ∷ ts) e =
    let q : nat_eq (suc (length ts)) 0 ≡ false = grind (arith, nat_tests) in
    let z : (if nat_eq (suc (length ts)) 0 then Some o_type else None) ≡ Some o_type = sym (ap (scheme_type (t ∷ ts)) (std.at 6 (omega arith))) ∙ e in
    let y : (if false then Some o_type else None) ≡ Some o_type = sym (ap (λ b. if b then Some o_type else None) q) ∙ z in
    absurd (cc)

shaped : {L : Leaves} (d : Declared) → IsSetting L d → (E : List Ty) (P : List ClauseFormula) (c : Closing) (x l : ℕ) (t : Term) (f : Connective) →
    Shape f t → IsTakenApart f → IsUnused x l t → IsFormula d E (closed c t) → (Holds L d E P c t → FormHolds L d E P c x l f) ×
    (FormHolds L d E P c x l f → Holds L d E P c t)
shaped {L} d std E P c x l t connective.True s a n f = ((λ p. tt), (λ p. record { proof = True; holds = inl is }))
  where
    typed : scheme_type (map (instance c.types) s.0) (d 6) ≡ Some o_type
    typed = transport (λ z. Typed (under d E) [] (closed c z) o_type) s.1 f.typed

    is : closed c t ≡ truth
    is = ap (closed c) s.1 ∙ ap (λ us. atom (constant 6 us)) (no_types d std.standard (map (instance c.types) s.0) typed)
shaped {L} d std E P c x l t (connective.And u v) s a n f =
    let h = both_holds d std E P c u v (transport (λ z. IsFormula d E (closed c z)) s f) in
    ((λ p. h.0 (transport (Holds L d E P c) s p)), (λ p. transport (Holds L d E P c) (sym s) (h.1 p)))
shaped {L} d std E P c x l t (connective.Or u v) s a n f =
    let h = either_holds d std E P c u v (transport (λ z. IsFormula d E (closed c z)) s f) in
    ((λ p. h.0 (transport (Holds L d E P c) s p)), (λ p. transport (Holds L d E P c) (sym s) (h.1 p)))
shaped {L} d std E P c x l t (connective.ForAll T b) s a n f =
    let h = pi_holds d std E P c T s.0 (transport (λ z. IsFormula d E (closed c z)) s.1 f) in (
      (λ p. transport (λ z. Holds L d (E ++ instance c.types T ∷ []) P c (substitute (next_eigen E) z)) (sym s.2) (h.0 (transport (Holds L d E P c) s.1 p))),
      (λ p. transport (Holds L d E P c) (sym s.1) (h.1 (transport (λ z. Holds L d (E ++ instance c.types T ∷ []) P c (substitute (next_eigen E) z)) s.2 p))),
    )
shaped {L} d std E P c x l t (connective.Exists T b) s a n f =
    let m = transport (IsUnused x l) s.1 n in
    let h = sigma_holds d std E P c x l T s.0 m.1 (transport (λ z. IsFormula d E (closed c z)) s.1 f) in (
      (λ p. transport (λ z. (w : Term) × IsWitness d E w (instance c.types T) × Holds L d E P (with_value c x l w) (substitute (atom (logic x l)) z)) (sym s.2) (h.0 (transport (Holds L d E P c) s.1 p))),
      (λ p. transport (Holds L d E P c) (sym s.1) (h.1 (transport (λ z. (w : Term) × IsWitness d E w (instance c.types T) × Holds L d E P (with_value c x l w) (substitute (atom (logic x l)) z)) s.2 p))),
    )
shaped {L} d std E P c x l t connective.Cut s a n f = absurd a
shaped {L} d std E P c x l t (connective.Implies u v) s a n f = absurd a
shaped {L} d std E P c x l t (connective.Not g) s a n f = absurd a
shaped {L} d std E P c x l t connective.Atomic s a n f = absurd a

pub run_time_goals : {L : Leaves} (d : Declared) → IsSetting L d → (E : List Ty) (P : List ClauseFormula) (c : Closing) (x l n : ℕ) (t u : Term) →
    head_normal n t ≡ Some u → IsTakenApart (connective_of u) → IsUnused x l t → IsFormula d E (closed c t) →
    (Holds L d E P c t → FormHolds L d E P c x l (connective_of u)) × (FormHolds L d E P c x l (connective_of u) → Holds L d E P c t)
run_time_goals {L} d std E P c x l n t u e a m f =
    let r = head_reduces n t u e in
    let q = closed_reduces c r in
    let h = shaped d std E P c x l u (connective_of u) (form_shape u) a (within_reduces (IsOther x l) 0 r m) (formula_reduces d E q f) in
    ((λ p. h.0 (reduces_on d E P f q p)), (λ p. reduces_back d E P f q (h.1 p)))

-- flattened goals
pub flat_goals : {L : Leaves} (d : Declared) → IsSetting L d → (E : List Ty) (P : List ClauseFormula) (c : Closing) (x l : ℕ) (g : Goal) → IsUnused x
    l (formula_of_goal g) → IsFormula d E (closed c (formula_of_goal g)) → (Holds L d E P c (formula_of_goal g) → GoalHolds L d E P c x l g) ×
    (GoalHolds L d E P c x l g → Holds L d E P c (formula_of_goal g))
flat_goals {L} d std E P c x l (Atomic t) m f = ((λ p. p), (λ p. p))
flat_goals {L} d std E P c x l Cut m f = ((λ p. tt), (λ p. record { proof = True; holds = inr refl }))
flat_goals {L} d std E P c x l (Either gs hs) m f = either_holds d std E P c (formula_of_goals gs) (formula_of_goals hs) f
flat_goals {L} d std E P c x l (Forall T gs) m f = pi_holds d std E P c T (abs (formula_of_goals gs)) f
flat_goals {L} d std E P c x l (Exists T gs) m f = sigma_holds d std E P c x l T (abs (formula_of_goals gs)) m.1 f
flat_goals {L} d std E P c x l (Not ws gs) m f = ((λ p. p), (λ p. p))
flat_goals {L} d std E P c x l (Assume ws cs gs) m f = implied_holds d std E P c (formula_of_clauses cs) (formula_of_goals gs) f

-- goals one behind the other
pub goals_in_turn : {L : Leaves} (d : Declared) → IsSetting L d → (E : List Ty) (P : List ClauseFormula) (c : Closing) (gs : Goals) → IsFormula d E
    (closed c (formula_of_goals gs)) → (Holds L d E P c (formula_of_goals gs) → EachOf (λ g. Holds L d E P c (formula_of_goal g)) (goal_list gs)) ×
    (EachOf (λ g. Holds L d E P c (formula_of_goal g)) (goal_list gs) → Holds L d E P c (formula_of_goals gs))
goals_in_turn {L} d std E P c no_goals f = ((λ p. tt), (λ p. record { proof = True; holds = inl refl }))
goals_in_turn {L} d std E P c (goals g no_goals) f = ((λ p. (p, tt)), (λ p. p.0))
goals_in_turn {L} d std E P c (goals g (goals h gs)) f =
    let b = both_holds d std E P c (formula_of_goal g) (formula_of_goals (goals h gs)) f in
    let q = parts d E 0 (closed c (formula_of_goal g)) (closed c (formula_of_goals (goals h gs))) (connective d std.standard 0 (omega arith)) f in
    let r = goals_in_turn d std E P c (goals h gs) q.1 in
    ((λ p. let z = b.0 p in (z.0, r.0 z.1)), (λ p. b.1 (p.0, r.1 p.1)))
