-- A clause may be replaced by one on which one can focus instead, so by one that it converts to: by induction on proof trees and their focuses together.
use Rattle.std.proofs.Common.{◌≡◌, ℕ, zero, suc, List, [], ◌∷◌, ◌++◌, length, Some, refl, sym, ap, ◌∙◌, subst, inl, inr, append_assoc, append-nil}
use Rattle.std.specs.Prelude.{slice_get, true, false, ◌⊎◌}
use Rattle.lp_calculus.specs.Types.{Ty}
use Rattle.lp_calculus.specs.Term.{Term, atom, app, eigen}
use Rattle.lp_calculus.specs.Convert.{Converts}
use Rattle.lp_calculus.specs.Typing.{type_at}
use Rattle.lp_calculus.specs.Instance.{instance_term}
use Rattle.lp_calculus.specs.Closed.{AreClosed, IsClosedAt}
use Rattle.lp_calculus.specs.Spine.{head_of}
use Rattle.lp_model.specs.Flatten.{ClauseFormula}
use Rattle.lp_model.specs.Proofs.{Declared, IsFormula, Leaves, Failure, Proof, Conv, True, And, Left, Right, Witness, All, Assume, Equal, Arith, Back, Fails, Focus, FConv, FAll, FTake, FNeed, FHit, IsAtomHead, assumed, proves_by, focuses_by, ProvableBy, FocusableBy}
use Rattle.lp_proof_laws.proofs.Uniform.Formulas.{formula_eigens, closed_instance}

-- E' has more eigenconstants than E
pub record Extends (E F : List Ty) : Type 0 where
  pub rest : List Ty
  pub is : F ≡ E ++ rest

pub extends_self : (E : List Ty) → Extends E E
extends_self E = record { rest = []; is = sym (append-nil E) }

pub extends_then : (E F : List Ty) (G : List Ty) → Extends (E ++ F) G → Extends E G
extends_then E F G h = record { rest = F ++ h.rest; is = h.is ∙ append_assoc E F h.rest }

module _ (L : Leaves) where
  -- whoever focuses on the first clause for an atom can focus on the second one
  unfoldable pub Focuses : (d : Declared) (E : List Ty) (D R : Term) → Type 0
  Focuses d E D R = (F : List Ty) → Extends E F → (P : List ClauseFormula) → (A : Term) → IsAtomHead (head_of A) → FocusableBy L d F P D A → FocusableBy L d F P R A

  -- in the place of a clause stands the same one, or one on which one can focus instead
  record Replaced (d : Declared) (E : List Ty) (D R : ClauseFormula) : Type 0 where
    type_vars : R.type_vars ≡ D.type_vars
    stands : (D ≡ R) ⊎ ((ts : List Ty) → length ts ≡ D.type_vars → AreClosed ts → Focuses d E (instance_term (type_at ts) D.formula) (instance_term (type_at ts) R.formula))

  record StandAs (d : Declared) (E : List Ty) (P R : List ClauseFormula) : Type 0 where
    at : (i : ℕ) (D : ClauseFormula) → slice_get P i ≡ Some D → (D' : ClauseFormula) × (slice_get R i ≡ Some D') × Replaced d E D D'

  more_eigens : (d : Declared) (E F : List Ty) (P R : List ClauseFormula) → StandAs d E P R → StandAs d (E ++ F) P R
  unfolding Focuses
  more_eigens d E F P R st = record {
    at = λ i D e.
        let r = st.at i D e in (
          r.0,
          r.1,
          record {
            type_vars = r.2.type_vars;
            stands = elim r.2.stands [
              | inl s ↦ inl s
              | inr f ↦ inr (λ ts l k G g. f ts l k G (extends_then E F G g))
            ];
          },
        );
  }

  get_end : (d : Declared) (E : List Ty) (P R : List ClauseFormula) → length P ≡ length R → (A B : ClauseFormula) → Replaced d E A B →
      ((i : ℕ) (D : ClauseFormula) → slice_get P i ≡ Some D → (D' : ClauseFormula) × (slice_get R i ≡ Some D') × Replaced d E D D') → (i : ℕ)
      (D : ClauseFormula) → slice_get (P ++ A ∷ []) i ≡ Some D → (D' : ClauseFormula) × (slice_get (R ++ B ∷ []) i ≡ Some D') × Replaced d E D D'
  get_end d E [] [] l A B h f zero D e = let g : A ≡ D = cc in (B, refl, subst (λ X. Replaced d E X B) g h)
  get_end d E [] [] l A B h f (suc i) D e = cc
  get_end d E [] (r ∷ R) l A B h f i D e = cc
  get_end d E (p ∷ P) [] l A B h f i D e = cc
  get_end d E (p ∷ P) (r ∷ R) l A B h f zero D e = let q = f zero D e in (q.0, q.1, q.2)
  get_end d E (p ∷ P) (r ∷ R) l A B h f (suc i) D e = let m : length P ≡ length R = cc in get_end d E P R m A B h (λ j D' e'. f (suc j) D' e') i D e

  same_clause : (d : Declared) (E : List Ty) (D : ClauseFormula) → Replaced d E D D
  same_clause d E D = record { type_vars = refl; stands = inl refl }

  -- what stands as a leaf among these clauses, and more, stands so among those, at the eigenconstants E and more
  abbrev pub AreKept : (E : List Ty) (P R : List ClauseFormula) → Type 0
  AreKept E P R = (S : List ClauseFormula) (n : List Ty) → Extends E n → (H : Term) (f : Failure) → L n (P ++ S) H f → L n (R ++ S) H f

  pub kept_more : (E : List Ty) (P R : List ClauseFormula) (D : ClauseFormula) → AreKept E P R → AreKept E (P ++ D ∷ []) (R ++ D ∷ [])
  kept_more E P R D k S n x H f h = subst (λ Q. L n Q H f) (sym (append_assoc R (D ∷ []) S)) (k (D ∷ S) n x H f (subst (λ Q. L n Q H f) (append_assoc P (D ∷ []) S) h))

  pub kept_eigens : (E F : List Ty) (P R : List ClauseFormula) → AreKept E P R → AreKept (E ++ F) P R
  kept_eigens E F P R k S n x H f h = k S n (extends_then E F n x) H f h

  record Stand (d : Declared) (E : List Ty) (P R : List ClauseFormula) : Type 0 where
    long : length P ≡ length R
    stand : StandAs d E P R
    kept : AreKept E P R

  long_end : (P R : List ClauseFormula) (A B : ClauseFormula) → length P ≡ length R → length (P ++ A ∷ []) ≡ length (R ++ B ∷ [])
  long_end [] [] A B l = refl
  long_end [] (r ∷ R) A B l = cc
  long_end (p ∷ P) [] A B l = cc
  long_end (p ∷ P) (r ∷ R) A B l = let m : length P ≡ length R = cc in ap suc (long_end P R A B m)

  one_more : (d : Declared) (E : List Ty) (P R : List ClauseFormula) (A B : ClauseFormula) → Stand d E P R → Replaced d E A B → AreKept E (P ++ A ∷ []) (R ++ B ∷ []) → Stand d E (P ++ A ∷ []) (R ++ B ∷ [])
  one_more d E P R A B st h k = record { long = long_end P R A B st.long; stand = record { at = λ i D e. get_end d E P R st.long A B h (λ j D' e'. st.stand.at j D' e') i D e }; kept = k }

  same_more : (d : Declared) (E : List Ty) (P R : List ClauseFormula) (D : ClauseFormula) → Stand d E P R → Stand d E (P ++ D ∷ []) (R ++ D ∷ [])
  same_more d E P R D st = one_more d E P R D D st (same_clause d E D) (kept_more E P R D (λ S n x H f h. st.kept S n x H f h))

  mutual
    unfolding Focuses

    proof_as : (d : Declared) (E : List Ty) (P R : List ClauseFormula) (G : Term) (p : Proof) → Stand d E P R → proves_by L d E P G p → ProvableBy L d E R G
    proof_as d E P R G (Conv H p) st h = let r = proof_as d E P R H p st h.2 in record { proof = Conv H r.proof; holds = (h.0, h.1, r.holds) }
    proof_as d E P R G True st h = record { proof = True; holds = h }
    proof_as d E P R G (And p q) st h = let a = proof_as d E P R h.0 p st h.3 in let b = proof_as d E P R h.1 q st h.4 in record { proof = And a.proof b.proof; holds = (h.0, h.1, h.2, a.holds, b.holds) }
    proof_as d E P R G (Left p) st h = let a = proof_as d E P R h.0 p st h.3 in record { proof = Left a.proof; holds = (h.0, h.1, h.2, a.holds) }
    proof_as d E P R G (Right p) st h = let a = proof_as d E P R h.1 p st h.3 in record { proof = Right a.proof; holds = (h.0, h.1, h.2, a.holds) }
    proof_as d E P R G (Witness t p) st h = let a = proof_as d E P R (app h.1 t) p st h.4 in record { proof = Witness t a.proof; holds = (h.0, h.1, h.2, h.3, a.holds) }
    proof_as d E P R G (All p) st h =
        let a = proof_as d (E ++ h.0 ∷ []) P R (app h.1 (atom (eigen (suc (length E))))) p (record { long = st.long; stand = more_eigens d E (h.0 ∷ []) P R st.stand; kept = kept_eigens E (h.0 ∷ []) P R (λ S n x H f g. st.kept S n x H f g) }) h.3 in
        record { proof = All a.proof; holds = (h.0, h.1, h.2, a.holds) }
    proof_as d E P R G (Assume p) st h =
        let a = proof_as d E (P ++ assumed h.0 ∷ []) (R ++ assumed h.0 ∷ []) h.1 p (same_more d E P R (assumed h.0) st) h.3 in
        record { proof = Assume a.proof; holds = (h.0, h.1, h.2, a.holds) }
    proof_as d E P R G Equal st h = record { proof = Equal; holds = h }
    proof_as d E P R G Arith st h = record { proof = Arith; holds = h }
    proof_as d E P R G (Back i ts f) st h =
        let a = focus_as d E P R (instance_term (type_at ts) h.0.formula) G f st h.5 in
        let j = st.stand.at i h.0 h.1 in
        elim j.2.stands [
          | inl s ↦ record { proof = Back i ts a.focus; holds = (j.0, j.1, h.2 ∙ sym j.2.type_vars, h.3, h.4, subst (λ D. focuses_by L d E R (instance_term (type_at ts) D.formula) G a.focus) s a.holds) }
          | inr g ↦ let r = g ts h.2 h.3 E (extends_self E) R G h.4 a in record { proof = Back i ts r.focus; holds = (j.0, j.1, h.2 ∙ sym j.2.type_vars, h.3, h.4, r.holds) }
        ]
    proof_as d E P R G (Fails f) st h =
        record { proof = Fails f; holds = (h.0, h.1, subst (λ Q. L E Q h.0 f) (append-nil R) (st.kept [] E (extends_self E) h.0 f (subst (λ Q. L E Q h.0 f) (sym (append-nil P)) h.2))) }

    focus_as : (d : Declared) (E : List Ty) (P R : List ClauseFormula) (D A : Term) (f : Focus) → Stand d E P R → focuses_by L d E P D A f → FocusableBy L d E R D A
    focus_as d E P R D A (FConv H f) st h = let r = focus_as d E P R H A f st h.2 in record { focus = FConv H r.focus; holds = (h.0, h.1, r.holds) }
    focus_as d E P R D A (FAll t f) st h = let r = focus_as d E P R (app h.1 t) A f st h.4 in record { focus = FAll t r.focus; holds = (h.0, h.1, h.2, h.3, r.holds) }
    focus_as d E P R D A (FTake true f) st h = let r = focus_as d E P R h.1 A f st h.3 in record { focus = FTake true r.focus; holds = (h.0, h.1, h.2, r.holds) }
    focus_as d E P R D A (FTake false f) st h = let r = focus_as d E P R h.0 A f st h.3 in record { focus = FTake false r.focus; holds = (h.0, h.1, h.2, r.holds) }
    focus_as d E P R D A (FNeed p f) st h = let a = proof_as d E P R h.0 p st h.3 in let r = focus_as d E P R h.1 A f st h.4 in record { focus = FNeed a.proof r.focus; holds = (h.0, h.1, h.2, a.holds, r.holds) }
    focus_as d E P R D A FHit st h = record { focus = FHit; holds = h }

  all_same : (d : Declared) (E : List Ty) (P : List ClauseFormula) → Stand d E P P
  all_same d E P = record { long = refl; stand = record { at = λ i D e. (D, e, same_clause d E D) }; kept = λ S n x H f h. h }

  and_more : (d : Declared) (E : List Ty) (P R S : List ClauseFormula) → Stand d E P R → Stand d E (P ++ S) (R ++ S)
  and_more d E P R [] st = subst (λ Q. Stand d E Q (R ++ [])) (sym (append-nil P)) (subst (Stand d E P) (sym (append-nil R)) st)
  and_more d E P R (D ∷ S) st =
      subst (λ Q. Stand d E Q (R ++ D ∷ S)) (append_assoc P (D ∷ []) S) (subst (Stand d E ((P ++ D ∷ []) ++ S)) (append_assoc R (D ∷ []) S) (and_more d E (P ++ D ∷ []) (R ++ D ∷ []) S (same_more d E P R D st)))

  -- a clause among others in the place of another on which one can focus instead, with each types for their type variables
  pub replaced_clause : (d : Declared) (E : List Ty) (P S : List ClauseFormula) (D D' : ClauseFormula) (G : Term) → D'.type_vars ≡ D.type_vars →
      AreKept E (P ++ D ∷ []) (P ++ D' ∷ []) → ((ts : List Ty) → length ts ≡ D.type_vars → AreClosed ts → Focuses d E
      (instance_term (type_at ts) D.formula) (instance_term (type_at ts) D'.formula)) → ProvableBy L d E (P ++ D ∷ S) G → ProvableBy L d E
      (P ++ D' ∷ S) G
  replaced_clause d E P S D D' G v k f h =
      let st = and_more d E (P ++ D ∷ []) (P ++ D' ∷ []) S (one_more d E P P D D' (all_same d E P) (record { type_vars = v; stands = inr f }) k) in
      let p = subst (λ Q. ProvableBy L d E Q G) (sym (append_assoc P (D ∷ []) S)) h in
      subst (λ Q. ProvableBy L d E Q G) (append_assoc P (D' ∷ []) S) (proof_as d E ((P ++ D ∷ []) ++ S) ((P ++ D' ∷ []) ++ S) G p.proof st p.holds)

  -- an assumption in the place of another on which one can focus instead
  pub replaced_assumption : (d : Declared) (E : List Ty) (P : List ClauseFormula) (D D' G : Term) → IsClosedAt (length E) D → IsClosedAt (length E) D'
      → AreKept E (P ++ assumed D ∷ []) (P ++ assumed D' ∷ []) → Focuses d E D D' → ProvableBy L d E (P ++ assumed D ∷ []) G → ProvableBy L d E
      (P ++ assumed D' ∷ []) G
  replaced_assumption d E P D D' G f f' q c h =
      proof_as d E (P ++ assumed D ∷ []) (P ++ assumed D' ∷ []) G h.proof (one_more d E P P (assumed D) (assumed D') (all_same d E P) (record {
        type_vars = refl;
        stands = inr (λ ts l k.
            let e = closed_instance (length E) (type_at ts) D f in
            let e' = closed_instance (length E) (type_at ts) D' f' in
            subst (λ t. Focuses d E t (instance_term (type_at ts) D')) (sym e) (subst (Focuses d E D) (sym e') c));
      }) q) h.holds

  -- an assumption in the place of another that converts to it
  pub converted_assumption : (d : Declared) (E : List Ty) (P : List ClauseFormula) (D D' G : Term) → IsFormula d E D → IsFormula d E D' → AreKept E (P ++ assumed D ∷ []) (P ++ assumed D' ∷ []) → Converts D D' → ProvableBy L d E (P ++ assumed D ∷ []) G → ProvableBy L d E (P ++ assumed D' ∷ []) G
  unfolding Focuses
  converted_assumption d E P D D' G f f' q c h =
      replaced_assumption d E P D D' G f.closed f'.closed q (λ F x R A i r. record { focus = FConv D r.focus; holds = (subst (λ z. IsFormula d z D) (sym x.is) (formula_eigens d E x.rest D f), c, r.holds) }) h
