-- A proof whose leaves are of one kind is one with leaves of a wider kind.
use Rattle.std.proofs.Common.{List, [], length, true, false}
use Rattle.lp_calculus.specs.Types.{Ty}
use Rattle.lp_calculus.specs.Term.{Term}
use Rattle.lp_model.specs.Flatten.{ClauseFormula}
use Rattle.lp_model.specs.Answers.{Query, IsProvable}
use Rattle.lp_model.specs.Proofs.{Declared, Leaves, Failure, IsFailure, no_leaf, proves_by, focuses_by, Proof, Focus, Conv, True, And, Left, Right, Witness, All, Assume, Equal, Arith, Back, Fails, FConv, FAll, FTake, FNeed, FHit}
use Rattle.lp_cert.specs.Certified.{Ground, Certificate, Certifies}

module _ (d : Declared) (L M : Leaves) (wider : (E : List Ty) (P : List ClauseFormula) (G : Term) (f : Failure) → L E P G f → M E P G f) where
  mutual
    pub proof_wider : (E : List Ty) (P : List ClauseFormula) (G : Term) (p : Proof) → proves_by L d E P G p → proves_by M d E P G p
    proof_wider E P G (Conv H p) h = (h.0, h.1, proof_wider E P H p h.2)
    proof_wider E P G True h = h
    proof_wider E P G (And p q) h = (h.0, h.1, h.2, proof_wider E P h.0 p h.3, proof_wider E P h.1 q h.4)
    proof_wider E P G (Left p) h = (h.0, h.1, h.2, proof_wider E P h.0 p h.3)
    proof_wider E P G (Right p) h = (h.0, h.1, h.2, proof_wider E P h.1 p h.3)
    proof_wider E P G (Witness t p) h = (h.0, h.1, h.2, h.3, proof_wider E P _ p h.4)
    proof_wider E P G (All p) h = (h.0, h.1, h.2, proof_wider _ P _ p h.3)
    proof_wider E P G (Assume p) h = (h.0, h.1, h.2, proof_wider E _ h.1 p h.3)
    proof_wider E P G Equal h = h
    proof_wider E P G Arith h = h
    proof_wider E P G (Back i ts f) h = (h.0, h.1, h.2, h.3, h.4, focus_wider E P _ G f h.5)
    proof_wider E P G (Fails f) h = (h.0, h.1, wider E P h.0 f h.2)

    pub focus_wider : (E : List Ty) (P : List ClauseFormula) (D A : Term) (f : Focus) → focuses_by L d E P D A f → focuses_by M d E P D A f
    focus_wider E P D A (FConv H f) h = (h.0, h.1, focus_wider E P H A f h.2)
    focus_wider E P D A (FAll t f) h = (h.0, h.1, h.2, h.3, focus_wider E P _ A f h.4)
    focus_wider E P D A (FTake true f) h = (h.0, h.1, h.2, focus_wider E P h.1 A f h.3)
    focus_wider E P D A (FTake false f) h = (h.0, h.1, h.2, focus_wider E P h.0 A f h.3)
    focus_wider E P D A (FNeed p f) h = (h.0, h.1, h.2, proof_wider E P h.0 p h.3, focus_wider E P h.1 A f h.4)
    focus_wider E P D A FHit h = h

pub provable : (g : Ground) (q : Query) (c : Certificate) → Certifies g q c → IsProvable g.declared g.clauses q c.instance
provable g q c h = record {
  types = h.names.types;
  types_closed = h.names.types_closed;
  values = h.names.values;
  proved = record { proof = h.proof; holds = proof_wider g.declared no_leaf (IsFailure g.declared (length g.clauses)) (λ E P G f n. absurd n) [] g.clauses _ h.proof h.proved };
}
