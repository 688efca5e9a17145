-- More clauses prove as much, where no failing search is a leaf: by induction on proof trees and their focuses together. A formula that converts to a provable one is provable.
use Rattle.std.proofs.Common.{◌≡◌, ℕ, zero, suc, List, [], ◌∷◌, ◌++◌, length, Some, refl, ap, ◌∙◌, inl, inr}
use Rattle.std.specs.Prelude.{slice_get, true, false, ◌⊎◌}
use Rattle.lp_calculus.specs.Types.{Ty}
use Rattle.lp_calculus.specs.Term.{Term, atom, app, eigen}
use Rattle.lp_calculus.specs.Convert.{Converts}
use Rattle.lp_calculus.specs.Typing.{type_at}
use Rattle.lp_calculus.specs.Instance.{instance_term}
use Rattle.lp_model.specs.Flatten.{ClauseFormula}
use Rattle.lp_model.specs.Proofs.{Declared, IsFormula, Leaves, no_leaf, Failure, Provable, Proof, Conv, True, And, Left, Right, Witness, All, Assume, Equal, Arith, Back, Fails, Focus, FConv, FAll, FTake, FNeed, FHit, assumed, proves_by, focuses_by, ProvableBy, PlainlyProvable, FocusableBy, Stands}

get_last : (P : List ClauseFormula) (D : ClauseFormula) (i : ℕ) (D' : ClauseFormula) → slice_get (P ++ D ∷ []) i ≡ Some D' → (slice_get P i ≡ Some D') ⊎ (D ≡ D')
get_last [] D zero D' e = let f : D ≡ D' = cc in inr f
get_last [] D (suc i) D' e = cc
get_last (p ∷ P) D zero D' e = inl e
get_last (p ∷ P) D (suc i) D' e = get_last P D i D' e

last_front : (R : List ClauseFormula) (D : ClauseFormula) (j : ℕ) (D' : ClauseFormula) → slice_get R j ≡ Some D' → slice_get (R ++ D ∷ []) j ≡ Some D'
last_front [] D j D' e = cc
last_front (r ∷ R) D zero D' e = e
last_front (r ∷ R) D (suc j) D' e = last_front R D j D' e

last_here : (R : List ClauseFormula) (D : ClauseFormula) → slice_get (R ++ D ∷ []) (length R) ≡ Some D
last_here [] D = refl
last_here (r ∷ R) D = last_here R D

pub stands_more : (P R : List ClauseFormula) (D : ClauseFormula) → Stands P R → Stands (P ++ D ∷ []) (R ++ D ∷ [])
stands_more P R D h = record {
  at = λ i D' e. elim (get_last P D i D' e) [
    | inl a ↦ let j = h.at i D' a in (j.0, last_front R D j.0 D' j.1)
    | inr a ↦ (length R, last_here R D ∙ ap Some a)
  ];
}

-- clauses in the place of others: each of these stands among those, and so it is with one more, and what stands as a leaf among these stands so among those
module _ (L : Leaves) (Rel : List ClauseFormula → List ClauseFormula → Type 0) (stands : (P R : List ClauseFormula) → Rel P R → Stands P R) (more : (P R : List ClauseFormula) (D : ClauseFormula) → Rel P R → Rel (P ++ D ∷ []) (R ++ D ∷ []))
    (leaf : (E : List Ty) (P R : List ClauseFormula) (G : Term) (f : Failure) → Rel P R → L E P G f → L E R G f) where
  mutual
    proof_wider : (d : Declared) (E : List Ty) (P R : List ClauseFormula) (G : Term) (p : Proof) → Rel P R → proves_by L d E P G p → ProvableBy L d E R G
    proof_wider d E P R G (Conv H p) st h = let r = proof_wider d E P R H p st h.2 in record { proof = Conv H r.proof; holds = (h.0, h.1, r.holds) }
    proof_wider d E P R G True st h = record { proof = True; holds = h }
    proof_wider d E P R G (And p q) st h = let a = proof_wider d E P R h.0 p st h.3 in let b = proof_wider d E P R h.1 q st h.4 in record { proof = And a.proof b.proof; holds = (h.0, h.1, h.2, a.holds, b.holds) }
    proof_wider d E P R G (Left p) st h = let a = proof_wider d E P R h.0 p st h.3 in record { proof = Left a.proof; holds = (h.0, h.1, h.2, a.holds) }
    proof_wider d E P R G (Right p) st h = let a = proof_wider d E P R h.1 p st h.3 in record { proof = Right a.proof; holds = (h.0, h.1, h.2, a.holds) }
    proof_wider d E P R G (Witness t p) st h = let a = proof_wider d E P R (app h.1 t) p st h.4 in record { proof = Witness t a.proof; holds = (h.0, h.1, h.2, h.3, a.holds) }
    proof_wider d E P R G (All p) st h = let a = proof_wider d (E ++ h.0 ∷ []) P R (app h.1 (atom (eigen (suc (length E))))) p st h.3 in record { proof = All a.proof; holds = (h.0, h.1, h.2, a.holds) }
    proof_wider d E P R G (Assume p) st h = let a = proof_wider d E (P ++ assumed h.0 ∷ []) (R ++ assumed h.0 ∷ []) h.1 p (more P R (assumed h.0) st) h.3 in record { proof = Assume a.proof; holds = (h.0, h.1, h.2, a.holds) }
    proof_wider d E P R G Equal st h = record { proof = Equal; holds = h }
    proof_wider d E P R G Arith st h = record { proof = Arith; holds = h }
    proof_wider d E P R G (Back i ts f) st h = let j = (stands P R st).at i h.0 h.1 in let a = focus_wider d E P R (instance_term (type_at ts) h.0.formula) G f st h.5 in record { proof = Back j.0 ts a.focus; holds = (h.0, j.1, h.2, h.3, h.4, a.holds) }
    proof_wider d E P R G (Fails f) st h = record { proof = Fails f; holds = (h.0, h.1, leaf E P R h.0 f st h.2) }

    focus_wider : (d : Declared) (E : List Ty) (P R : List ClauseFormula) (D A : Term) (f : Focus) → Rel P R → focuses_by L d E P D A f → FocusableBy L d E R D A
    focus_wider d E P R D A (FConv H f) st h = let r = focus_wider d E P R H A f st h.2 in record { focus = FConv H r.focus; holds = (h.0, h.1, r.holds) }
    focus_wider d E P R D A (FAll t f) st h = let r = focus_wider d E P R (app h.1 t) A f st h.4 in record { focus = FAll t r.focus; holds = (h.0, h.1, h.2, h.3, r.holds) }
    focus_wider d E P R D A (FTake true f) st h = let r = focus_wider d E P R h.1 A f st h.3 in record { focus = FTake true r.focus; holds = (h.0, h.1, h.2, r.holds) }
    focus_wider d E P R D A (FTake false f) st h = let r = focus_wider d E P R h.0 A f st h.3 in record { focus = FTake false r.focus; holds = (h.0, h.1, h.2, r.holds) }
    focus_wider d E P R D A (FNeed p f) st h = let a = proof_wider d E P R h.0 p st h.3 in let r = focus_wider d E P R h.1 A f st h.4 in record { focus = FNeed a.proof r.focus; holds = (h.0, h.1, h.2, a.holds, r.holds) }
    focus_wider d E P R D A FHit st h = record { focus = FHit; holds = h }

  pub other_clauses : (d : Declared) (E : List Ty) (P R : List ClauseFormula) (G : Term) → Rel P R → ProvableBy L d E P G → ProvableBy L d E R G
  other_clauses d E P R G st h = proof_wider d E P R G h.proof st h.holds

pub wider : (d : Declared) (E : List Ty) (P R : List ClauseFormula) (G : Term) → Stands P R → PlainlyProvable d E P G → PlainlyProvable d E R G
wider d E P R G st h = other_clauses no_leaf Stands (λ P R s. s) stands_more (λ E P R G f s l. absurd l) d E P R G st h

pub by_conversion : {L : Leaves} (d : Declared) (E : List Ty) (P : List ClauseFormula) (G H : Term) → IsFormula d E H → Converts H G → ProvableBy L d E P H → ProvableBy L d E P G
by_conversion d E P G H f c h = record { proof = Conv H h.proof; holds = (f, c, h.holds) }

-- a proof with other leaves

mutual
  proof_by : (L M : Leaves) → ((n : List Ty) (P : List ClauseFormula) (G : Term) (f : Failure) → L n P G f → M n P G f) → (d : Declared) (E : List Ty) (P : List ClauseFormula) (G : Term) (p : Proof) → proves_by L d E P G p → proves_by M d E P G p
  proof_by L M m d E P G (Conv H p) h = (h.0, h.1, proof_by L M m d E P H p h.2)
  proof_by L M m d E P G True h = h
  proof_by L M m d E P G (And p q) h = (h.0, h.1, h.2, proof_by L M m d E P h.0 p h.3, proof_by L M m d E P h.1 q h.4)
  proof_by L M m d E P G (Left p) h = (h.0, h.1, h.2, proof_by L M m d E P h.0 p h.3)
  proof_by L M m d E P G (Right p) h = (h.0, h.1, h.2, proof_by L M m d E P h.1 p h.3)
  proof_by L M m d E P G (Witness t p) h = (h.0, h.1, h.2, h.3, proof_by L M m d E P (app h.1 t) p h.4)
  proof_by L M m d E P G (All p) h = (h.0, h.1, h.2, proof_by L M m d (E ++ h.0 ∷ []) P (app h.1 (atom (eigen (suc (length E))))) p h.3)
  proof_by L M m d E P G (Assume p) h = (h.0, h.1, h.2, proof_by L M m d E (P ++ assumed h.0 ∷ []) h.1 p h.3)
  proof_by L M m d E P G Equal h = h
  proof_by L M m d E P G Arith h = h
  proof_by L M m d E P G (Back i ts f) h = (h.0, h.1, h.2, h.3, h.4, focus_by L M m d E P (instance_term (type_at ts) h.0.formula) G f h.5)
  proof_by L M m d E P G (Fails f) h = (h.0, h.1, m E P h.0 f h.2)

  focus_by : (L M : Leaves) → ((n : List Ty) (P : List ClauseFormula) (G : Term) (f : Failure) → L n P G f → M n P G f) → (d : Declared) (E : List Ty) (P : List ClauseFormula) (D A : Term) (f : Focus) → focuses_by L d E P D A f → focuses_by M d E P D A f
  focus_by L M m d E P D A (FConv H f) h = (h.0, h.1, focus_by L M m d E P H A f h.2)
  focus_by L M m d E P D A (FAll t f) h = (h.0, h.1, h.2, h.3, focus_by L M m d E P (app h.1 t) A f h.4)
  focus_by L M m d E P D A (FTake true f) h = (h.0, h.1, h.2, focus_by L M m d E P h.1 A f h.3)
  focus_by L M m d E P D A (FTake false f) h = (h.0, h.1, h.2, focus_by L M m d E P h.0 A f h.3)
  focus_by L M m d E P D A (FNeed p f) h = (h.0, h.1, h.2, proof_by L M m d E P h.0 p h.3, focus_by L M m d E P h.1 A f h.4)
  focus_by L M m d E P D A FHit h = h

pub by_leaves : {L M : Leaves} → ((n : List Ty) (P : List ClauseFormula) (G : Term) (f : Failure) → L n P G f → M n P G f) → (d : Declared) (E : List Ty) (P : List ClauseFormula) (G : Term) → ProvableBy L d E P G → ProvableBy M d E P G
by_leaves {L} {M} m d E P G h = record { proof = h.proof; holds = proof_by L M m d E P G h.proof h.holds }

pub plain_proof : (d : Declared) (k : ℕ) (E : List Ty) (P : List ClauseFormula) (G : Term) → PlainlyProvable d E P G → Provable d k E P G
plain_proof d k E P G h = by_leaves (λ n Q H f x. absurd x) d E P G h
