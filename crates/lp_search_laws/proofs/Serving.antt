-- Clauses may serve in the place of others where each focus on one of those is one on some of these: by induction on proof trees and their focuses together.
use Rattle.std.proofs.Common.{◌≡◌, ℕ, suc, ◌+◌, List, [], ◌∷◌, ◌++◌, length, Some, ◌∙◌, inl, inr, sym, subst, append-nil}
use Rattle.std.specs.Prelude.{slice_get, true, false}
use Rattle.lp_calculus.specs.Types.{Ty}
use Rattle.lp_calculus.specs.Term.{Term, atom, app, eigen}
use Rattle.lp_calculus.specs.Typing.{type_at}
use Rattle.lp_calculus.specs.Instance.{instance_term}
use Rattle.lp_calculus.specs.Closed.{AreClosed}
use Rattle.lp_calculus.specs.Spine.{head_of}
use Rattle.lp_model.specs.Flatten.{ClauseFormula}
use Rattle.lp_model.specs.Proofs.{Fails, Leaves, Declared, Proof, Conv, True, And, Left, Right, Witness, All, Assume, Equal, Arith, Back, Focus, FConv, FAll, FTake, FNeed, FHit, IsAtomHead, assumed, proves_by, focuses_by, ProvableBy, FocusableBy}
use Rattle.lp_proof_laws.proofs.Uniform.Contexts.{get_front, get_back, get_split}
use Rattle.lp_proof_laws.proofs.Uniform.Assumptions.{Extends, extends_self, extends_then, AreKept, kept_more, kept_eigens}

-- some clause of R is focused on for the atom
pub record Served (L : Leaves) (d : Declared) (E : List Ty) (Q R : List ClauseFormula) (A : Term) : Type 0 where
  pub place : ℕ
  pub clause : ClauseFormula
  pub is : slice_get R place ≡ Some clause
  pub types : List Ty
  pub count : length types ≡ clause.type_vars
  pub closed : AreClosed types
  pub focus : FocusableBy L d E Q (instance_term (type_at types) clause.formula) A

pub record Serves (L : Leaves) (d : Declared) (E : List Ty) (P R : List ClauseFormula) : Type 0 where
  pub at : (i : ℕ) (D : ClauseFormula) → slice_get P i ≡ Some D → (ts : List Ty) → length ts ≡ D.type_vars → AreClosed ts → (F : List Ty) → Extends E F → (Q : List ClauseFormula) (A : Term) → IsAtomHead (head_of A) → FocusableBy L d F Q (instance_term (type_at ts) D.formula) A → Served L d F Q R A

pub serves_eigens : {L : Leaves} (d : Declared) (E F : List Ty) (P R : List ClauseFormula) → Serves L d E P R → Serves L d (E ++ F) P R
serves_eigens {L} d E F P R s = record { at = λ i D e ts l k G x Q A h r. s.at i D e ts l k G (extends_then E F G x) Q A h r }

-- with more clauses
pub served_in_front : {L : Leaves} (d : Declared) (E : List Ty) (Q R S : List ClauseFormula) (A : Term) → Served L d E Q R A → Served L d E Q (R ++ S) A
served_in_front {L} d E Q R S A s = record { place = s.place; clause = s.clause; is = get_front R S s.place s.clause s.is; types = s.types; count = s.count; closed = s.closed; focus = s.focus }

pub served_behind : {L : Leaves} (d : Declared) (E : List Ty) (Q R S : List ClauseFormula) (A : Term) → Served L d E Q S A → Served L d E Q (R ++ S) A
served_behind {L} d E Q R S A s = record { place = length R + s.place; clause = s.clause; is = get_back R S s.place ∙ s.is; types = s.types; count = s.count; closed = s.closed; focus = s.focus }

pub serves_more : {L : Leaves} (d : Declared) (E : List Ty) (P R S : List ClauseFormula) → Serves L d E P R → Serves L d E (P ++ S) (R ++ S)
serves_more {L} d E P R S s = record {
  at = λ i D e ts l k F x Q A h r. elim (get_split P S i D e) [
    | inl a ↦ served_in_front d F Q R S A (s.at i D a ts l k F x Q A h r)
    | inr b ↦ served_behind d F Q R S A (record { place = b.0; clause = D; is = b.2; types = ts; count = l; closed = k; focus = r })
  ];
}

pub serves_first : {L : Leaves} (d : Declared) (E : List Ty) (P R S : List ClauseFormula) → Serves L d E R S → Serves L d E (P ++ R) (P ++ S)
serves_first {L} d E P R S s = record {
  at = λ i D e ts l k F x Q A h r. elim (get_split P R i D e) [
    | inl a ↦ served_in_front d F Q P S A (record { place = i; clause = D; is = a; types = ts; count = l; closed = k; focus = r })
    | inr b ↦ served_behind d F Q P S A (s.at b.0 D b.2 ts l k F x Q A h r)
  ];
}

-- what stands as a leaf among the clauses P stands so among the clauses R
module _ {L : Leaves} where
  mutual
    proof_by : (d : Declared) (E : List Ty) (P R : List ClauseFormula) (G : Term) (p : Proof) → Serves L d E P R → AreKept L E P R → proves_by L d E P G p → ProvableBy L d E R G
    proof_by d E P R G (Conv H p) s k h = let r = proof_by d E P R H p s k h.2 in record { proof = Conv H r.proof; holds = (h.0, h.1, r.holds) }
    proof_by d E P R G True s k h = record { proof = True; holds = h }
    proof_by d E P R G (And p q) s k h = let a = proof_by d E P R h.0 p s k h.3 in let b = proof_by d E P R h.1 q s k h.4 in record { proof = And a.proof b.proof; holds = (h.0, h.1, h.2, a.holds, b.holds) }
    proof_by d E P R G (Left p) s k h = let a = proof_by d E P R h.0 p s k h.3 in record { proof = Left a.proof; holds = (h.0, h.1, h.2, a.holds) }
    proof_by d E P R G (Right p) s k h = let a = proof_by d E P R h.1 p s k h.3 in record { proof = Right a.proof; holds = (h.0, h.1, h.2, a.holds) }
    proof_by d E P R G (Witness t p) s k h = let a = proof_by d E P R (app h.1 t) p s k h.4 in record { proof = Witness t a.proof; holds = (h.0, h.1, h.2, h.3, a.holds) }
    proof_by d E P R G (All p) s k h =
        let a = proof_by d (E ++ h.0 ∷ []) P R (app h.1 (atom (eigen (suc (length E))))) p (serves_eigens d E (h.0 ∷ []) P R s) (kept_eigens L E (h.0 ∷ []) P R k) h.3 in
        record { proof = All a.proof; holds = (h.0, h.1, h.2, a.holds) }
    proof_by d E P R G (Assume p) s k h =
        let a = proof_by d E (P ++ assumed h.0 ∷ []) (R ++ assumed h.0 ∷ []) h.1 p (serves_more d E P R (assumed h.0 ∷ []) s) (kept_more L E P R (assumed h.0) k) h.3 in
        record { proof = Assume a.proof; holds = (h.0, h.1, h.2, a.holds) }
    proof_by d E P R G (Fails f) s k h = record { proof = Fails f; holds = (h.0, h.1, subst (λ Q. L E Q h.0 f) (append-nil R) (k [] E (extends_self E) h.0 f (subst (λ Q. L E Q h.0 f) (sym (append-nil P)) h.2))) }
    proof_by d E P R G Equal s k h = record { proof = Equal; holds = h }
    proof_by d E P R G Arith s k h = record { proof = Arith; holds = h }
    proof_by d E P R G (Back i ts f) s k h =
        let a = focus_by d E P R (instance_term (type_at ts) h.0.formula) G f s k h.5 in
        let z = s.at i h.0 h.1 ts h.2 h.3 E (extends_self E) R G h.4 a in
        record { proof = Back z.place z.types z.focus.focus; holds = (z.clause, z.is, z.count, z.closed, h.4, z.focus.holds) }

    focus_by : (d : Declared) (E : List Ty) (P R : List ClauseFormula) (D A : Term) (f : Focus) → Serves L d E P R → AreKept L E P R → focuses_by L d E P D A f → FocusableBy L d E R D A
    focus_by d E P R D A (FConv H f) s k h = let r = focus_by d E P R H A f s k h.2 in record { focus = FConv H r.focus; holds = (h.0, h.1, r.holds) }
    focus_by d E P R D A (FAll t f) s k h = let r = focus_by d E P R (app h.1 t) A f s k h.4 in record { focus = FAll t r.focus; holds = (h.0, h.1, h.2, h.3, r.holds) }
    focus_by d E P R D A (FTake true f) s k h = let r = focus_by d E P R h.1 A f s k h.3 in record { focus = FTake true r.focus; holds = (h.0, h.1, h.2, r.holds) }
    focus_by d E P R D A (FTake false f) s k h = let r = focus_by d E P R h.0 A f s k h.3 in record { focus = FTake false r.focus; holds = (h.0, h.1, h.2, r.holds) }
    focus_by d E P R D A (FNeed p f) s k h = let a = proof_by d E P R h.0 p s k h.3 in let r = focus_by d E P R h.1 A f s k h.4 in record { focus = FNeed a.proof r.focus; holds = (h.0, h.1, h.2, a.holds, r.holds) }
    focus_by d E P R D A FHit s k h = record { focus = FHit; holds = h }

  pub served : (d : Declared) (E : List Ty) (P R : List ClauseFormula) (G : Term) → Serves L d E P R → AreKept L E P R → ProvableBy L d E P G → ProvableBy L d E R G
  served d E P R G s k p = proof_by d E P R G p.proof s k p.holds
