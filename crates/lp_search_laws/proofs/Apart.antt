-- A focus on a conjunction of clauses is one on one of them.
use Rattle.std.proofs.Common.{◌≡◌, ℕ, zero, suc, List, [], Some, refl, sym, subst, inl, inr, arith}
use Rattle.std.specs.Prelude.{slice_get, true, false}
use Rattle.lp_calculus.specs.Types.{Ty}
use Rattle.lp_calculus.specs.Term.{Term}
use Rattle.lp_calculus.specs.Spine.{head_of}
use Rattle.lp_standard.specs.Connectives.{truth, two}
use Rattle.lp_model.specs.Flat.{Clause, Clauses, no_clauses, clauses, clause_list, formula_of_clause, formula_of_clauses}
use Rattle.lp_model.specs.Flatten.{ClauseFormula}
use Rattle.lp_standard.specs.Schemes.{IsStandard}
use Rattle.lp_model.specs.Proofs.{Declared, IsFormula, IsAtomHead, Leaves, FocusableBy, FTake}
use Rattle.lp_proof_laws.proofs.Uniform.Formulas.{parts}
use Rattle.lp_proof_laws.proofs.Uniform.Roots.{connective}
use Rattle.lp_proof_laws.proofs.Uniform.FocusRoots.{truth_focus, both_focus}

-- a change of terms that keeps truth and conjunctions
pub record KeepsBoth (f : Term → Term) : Type 0 where
  pub truth : f truth ≡ truth
  pub both : (a b : Term) → f (two 0 [] a b) ≡ two 0 [] (f a) (f b)

pub record IsOneOf (L : Leaves) (d : Declared) (E : List Ty) (P : List ClauseFormula) (f : Term → Term) (cs : Clauses) (A : Term) : Type 0 where
  pub place : ℕ
  pub clause : Clause
  pub is : slice_get (clause_list cs) place ≡ Some clause
  pub focus : FocusableBy L d E P (f (formula_of_clause clause)) A

one_behind : {L : Leaves} (d : Declared) (E : List Ty) (P : List ClauseFormula) (f : Term → Term) (c : Clause) (cs : Clauses) (A : Term) → IsOneOf L d E P f cs A → IsOneOf L d E P f (clauses c cs) A
one_behind {L} d E P f c cs A o = record { place = suc o.place; clause = o.clause; is = o.is; focus = o.focus }

pub split_focus : {L : Leaves} (d : Declared) → IsStandard d → (E : List Ty) (P : List ClauseFormula) (f : Term → Term) → KeepsBoth f → (A : Term) →
    IsAtomHead (head_of A) → (cs : Clauses) → IsFormula d E (f (formula_of_clauses cs)) → FocusableBy L d E P (f (formula_of_clauses cs)) A → IsOneOf
    L d E P f cs A
split_focus {L} d std E P f k A h no_clauses i r = absurd (truth_focus d std E P A h (subst (IsFormula d E) k.truth i) (subst (λ z. FocusableBy L d E P z A) k.truth r))
split_focus {L} d std E P f k A h (clauses c no_clauses) i r = record { place = 0; clause = c; is = refl; focus = r }
split_focus {L} d std E P f k A h (clauses c (clauses e cs)) i r =
    let e' = k.both (formula_of_clause c) (formula_of_clauses (clauses e cs)) in
    let fine = subst (IsFormula d E) e' i in
    let ps = parts d E 0 (f (formula_of_clause c)) (f (formula_of_clauses (clauses e cs))) (connective d std 0 (omega arith)) fine in
    elim (both_focus d std E P A h (f (formula_of_clause c)) (f (formula_of_clauses (clauses e cs))) fine (subst (λ z. FocusableBy L d E P z A) e' r)) [
      | inl a ↦ record { place = 0; clause = c; is = refl; focus = a }
      | inr b ↦ one_behind d E P f c (clauses e cs) A (split_focus d std E P f k A h (clauses e cs) ps.1 b)
    ]

pub join_focus : {L : Leaves} (d : Declared) (E : List Ty) (P : List ClauseFormula) (f : Term → Term) → KeepsBoth f → (A : Term) (cs : Clauses)
    (j : ℕ) (c : Clause) → slice_get (clause_list cs) j ≡ Some c → FocusableBy L d E P (f (formula_of_clause c)) A → FocusableBy L d E P
    (f (formula_of_clauses cs)) A
join_focus {L} d E P f k A no_clauses j c e r = absurd (cc)
join_focus {L} d E P f k A (clauses b no_clauses) zero c e r = let g : b ≡ c = cc in subst (λ z. FocusableBy L d E P (f (formula_of_clause z)) A) (sym g) r
join_focus {L} d E P f k A (clauses b no_clauses) (suc j) c e r = absurd (cc)
join_focus {L} d E P f k A (clauses b (clauses h cs)) zero c e r =
    let g : b ≡ c = cc in
    let q = subst (λ z. FocusableBy L d E P (f (formula_of_clause z)) A) (sym g) r in
    record { focus = FTake false q.focus; holds = (f (formula_of_clause b), f (formula_of_clauses (clauses h cs)), k.both (formula_of_clause b) (formula_of_clauses (clauses h cs)), q.holds) }
join_focus {L} d E P f k A (clauses b (clauses h cs)) (suc j) c e r =
    let q = join_focus d E P f k A (clauses h cs) j c e r in
    record { focus = FTake true q.focus; holds = (f (formula_of_clause b), f (formula_of_clauses (clauses h cs)), k.both (formula_of_clause b) (formula_of_clauses (clauses h cs)), q.holds) }
