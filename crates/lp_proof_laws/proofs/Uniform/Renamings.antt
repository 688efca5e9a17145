-- Eigenconstants may be renamed, where no failing search is a leaf: by induction on proof trees and their focuses together, a quantified variable is opened with the new context's own
-- next eigenconstant.
use Rattle.std.proofs.Common.{◌≡◌, ℕ, zero, suc, ◌+◌, ◌≤◌, ◌<◌, List, [], ◌∷◌, ◌++◌, map, length, Some, refl, sym, ap, ◌∙◌, subst, arith, inl, inr}
use Rattle.std.specs.Prelude.{◌⊎◌, slice_get, true, false}
use Rattle.lp_calculus.specs.Types.{Ty}
use Rattle.lp_calculus.specs.Term.{Term, atom, app, eigen}
use Rattle.lp_calculus.specs.Convert.{Converts}
use Rattle.lp_calculus.specs.Typing.{eigen_type, type_at}
use Rattle.lp_calculus.specs.Instance.{instance_term}
use Rattle.lp_lemmas.specs.Each.{EachOf}
use Rattle.lp_model.specs.Flatten.{ClauseFormula}
use Rattle.lp_model.specs.Values.{Value, Number, Bytes, term_of}
use Rattle.lp_model.specs.Proofs.{Declared, Failure, Leaves, ProvableBy, FocusableBy, IsArith, IsImplication, Proof, Conv, True, And, Left, Right, Witness, All, Assume, Equal, Arith, Back, Fails, Focus, FConv, FAll, FTake, FNeed, FHit, assumed, proves_by, no_leaf, focuses_by, PlainlyProvable}
use Rattle.lp_model.specs.Renaming.{renamed, renamed_clause, HasLevel, IsRenaming}
use Rattle.lp_lemmas.proofs.Each.{each_append}
use Rattle.lp_proof_laws.proofs.Uniform.Contexts.{get_front, get_split}
use Rattle.lp_proof_laws.proofs.Uniform.Renamed.{closed_level, level_more, level_instance, renamed_same, instance_renamed, renamed_converts, renamed_formula, renamed_witness, renamed_head, renamed_value, wider, wider_new, wider_old}

-- no clause has an eigenconstant of a level above n
abbrev pub HaveLevel : ℕ → List ClauseFormula → Type 0
HaveLevel n P = EachOf (λ D. HasLevel n D.formula) P

level_end : (n : ℕ) (P : List ClauseFormula) (D : ClauseFormula) → HaveLevel n P → HasLevel n D.formula → HaveLevel n (P ++ D ∷ [])
level_end n P D h w = each_append (λ D. HasLevel n D.formula) P (D ∷ []) h (w, tt)

levels_more : (n m : ℕ) → n ≤ m → (P : List ClauseFormula) → HaveLevel n P → HaveLevel m P
levels_more n m l [] h = tt
levels_more n m l (D ∷ P) h = (level_more n m l D.formula h.0, levels_more n m l P h.1)

level_of : (n : ℕ) (P : List ClauseFormula) (i : ℕ) (D : ClauseFormula) → HaveLevel n P → slice_get P i ≡ Some D → HasLevel n D.formula
level_of n [] i D h e = cc
level_of n (C ∷ P) zero D h e = let f : C ≡ D = cc in subst (λ X. HasLevel n X.formula) f h.0
level_of n (C ∷ P) (suc i) D h e = level_of n P i D h.1 e

get_renamed : (ρ : ℕ → ℕ) (P : List ClauseFormula) (i : ℕ) (D : ClauseFormula) → slice_get P i ≡ Some D → slice_get (map (renamed_clause ρ) P) i ≡ Some (renamed_clause ρ D)
get_renamed ρ [] i D e = cc
get_renamed ρ (C ∷ P) zero D e = let f : C ≡ D = cc in ap (λ X. Some (renamed_clause ρ X)) f
get_renamed ρ (C ∷ P) (suc i) D e = get_renamed ρ P i D e

pub clauses_same : (ρ τ : ℕ → ℕ) (n : ℕ) → ((k : ℕ) → k ≤ n → ρ k ≡ τ k) → (P : List ClauseFormula) → HaveLevel n P → map (renamed_clause ρ) P ≡ map (renamed_clause τ) P
clauses_same ρ τ n h [] w = refl
clauses_same ρ τ n h (D ∷ P) w =
    let e : renamed_clause ρ D ≡ renamed_clause τ D = ap (λ t. record { type_vars = D.type_vars; formula = t }) (renamed_same ρ τ n h D.formula w.0) in
    let f = clauses_same ρ τ n h P w.1 in
    cc

renamed_end : (ρ : ℕ → ℕ) (P : List ClauseFormula) (D : ClauseFormula) → map (renamed_clause ρ) (P ++ D ∷ []) ≡ map (renamed_clause ρ) P ++ renamed_clause ρ D ∷ []
renamed_end ρ [] D = refl
renamed_end ρ (C ∷ P) D = ap (λ Q. renamed_clause ρ C ∷ Q) (renamed_end ρ P D)

-- the renaming goes on under one eigenconstant more
pub below_end : {A : Type 0} (E : List A) (k : ℕ) (T : A) → slice_get E k ≡ Some T → k < length E
below_end [] k T e = cc
below_end (x ∷ E) zero T e = omega arith
below_end (x ∷ E) (suc k) T e = let r = below_end E k T e in let q : suc k < suc (length E) = omega arith in q

pub length_end : (E : List Ty) (T : Ty) → length (E ++ T ∷ []) ≡ suc (length E)
length_end [] T = refl
length_end (x ∷ E) T = ap suc (length_end E T)

last_here : (F : List Ty) (T : Ty) → slice_get (F ++ T ∷ []) (length F) ≡ Some T
last_here [] T = refl
last_here (x ∷ F) T = last_here F T

eigen_front : (F : List Ty) (T A : Ty) (k : ℕ) → eigen_type F k ≡ Some A → eigen_type (F ++ T ∷ []) k ≡ Some A
eigen_front F T A zero e = cc
eigen_front F T A (suc k) e = get_front F (T ∷ []) k A e

wider_typed : (E F : List Ty) (ρ : ℕ → ℕ) (T : Ty) → IsRenaming E F ρ → (k : ℕ) (A : Ty) → eigen_type (E ++ T ∷ []) k ≡ Some A → eigen_type (F ++ T ∷ []) (wider ρ (length E) (length F) k) ≡ Some A
wider_typed E F ρ T h zero A e = cc
wider_typed E F ρ T h (suc k) A e =
    elim (get_split E (T ∷ []) k A e) [
      | inl a ↦ let l : suc k ≤ length E = below_end E k A a in subst (λ j. eigen_type (F ++ T ∷ []) j ≡ Some A) (wider_old ρ (length E) (length F) (suc k) l) (eigen_front F T A (ρ (suc k)) (h.typed (suc k) A a))
      | inr b ↦ at_end b.0 b.1 b.2
    ]
  where
    at_end : (y : ℕ) → k ≡ length E + y → slice_get (T ∷ []) y ≡ Some A → eigen_type (F ++ T ∷ []) (wider ρ (length E) (length F) (suc k)) ≡ Some A
    at_end zero q g =
        let s : suc (length E) ≡ suc k = omega (arith, q) in
        let f : T ≡ A = cc in
        subst (λ j. eigen_type (F ++ T ∷ []) (wider ρ (length E) (length F) j) ≡ Some A) s (subst (λ j. eigen_type (F ++ T ∷ []) j ≡ Some A) (sym (wider_new ρ (length E) (length F))) (last_here F T ∙ ap Some f))
    at_end (suc y) q g = cc

pub up_to_or_next : (k n : ℕ) → k ≤ suc n → (k ≤ n) ⊎ (k ≡ suc n)
up_to_or_next zero n l = inl (omega arith)
up_to_or_next (suc k) zero l = inr (omega (arith, l))
up_to_or_next (suc k) (suc n) l =
    elim (up_to_or_next k n (omega (arith, l))) [ inl a ↦ inl (omega (arith, a)) | inr e ↦ inr (ap suc e) ]

wider_level : (E F : List Ty) (ρ : ℕ → ℕ) → IsRenaming E F ρ → (k : ℕ) → k ≤ suc (length E) → wider ρ (length E) (length F) k ≤ suc (length F)
wider_level E F ρ h k l =
    elim (up_to_or_next k (length E) l) [
      | inl a ↦ subst (λ j. j ≤ suc (length F)) (wider_old ρ (length E) (length F) k a) (let r = h.level k a in omega (arith, r))
      | inr e ↦ subst (λ j. wider ρ (length E) (length F) j ≤ suc (length F)) (sym e) (subst (λ j. j ≤ suc (length F)) (sym (wider_new ρ (length E) (length F))) (omega arith))
    ]

wider_renaming : (E F : List Ty) (ρ : ℕ → ℕ) (T : Ty) → IsRenaming E F ρ → IsRenaming (E ++ T ∷ []) (F ++ T ∷ []) (wider ρ (length E) (length F))
wider_renaming E F ρ T h = record {
  typed = λ k A e. wider_typed E F ρ T h k A e;
  level = λ k l. rw (length_end F T) (wider_level E F ρ h k (subst (λ n. k ≤ n) (length_end E T) l));
}

arith_renamed : (ρ : ℕ → ℕ) (G : Term) → IsArith G → IsArith (renamed ρ G)
arith_renamed ρ G (inl a) = inl (a.0, renamed ρ a.1, renamed ρ a.2, a.3, ap (renamed ρ) a.4, renamed_value ρ a.2 a.3 a.5, subst (Converts (renamed ρ a.1)) (term_renamed a.3) (renamed_converts ρ a.1 (term_of a.3) a.6))
  where
    term_renamed : (v : Value) → renamed ρ (term_of v) ≡ term_of v
    term_renamed (Number z) = refl
    term_renamed (Bytes s) = refl
arith_renamed ρ G (inr a) = inr (a.0, renamed ρ a.1, renamed ρ a.2, a.3, a.4, a.5, a.6, ap (renamed ρ) a.7, renamed_value ρ a.1 _ a.8, renamed_value ρ a.2 _ a.9, a.10)

implication_renamed : (ρ : ℕ → ℕ) (G D A : Term) → IsImplication G D A → IsImplication (renamed ρ G) (renamed ρ D) (renamed ρ A)
implication_renamed ρ G D A (inl e) = inl (ap (renamed ρ) e)
implication_renamed ρ G D A (inr e) = inr (ap (renamed ρ) e)

implication_levels : (n : ℕ) (G D A : Term) → IsImplication G D A → HasLevel n G → HasLevel n D × HasLevel n A
implication_levels n G D A (inl e) h = let w = subst (HasLevel n) e h in (w.0.1, w.1)
implication_levels n G D A (inr e) h = let w = subst (HasLevel n) e h in (w.1, w.0.1)

-- renamings of one kind, which go on under one eigenconstant more, lead from leaves to leaves
pub record MovesLeaves (L M : Leaves) (W : List Ty → List Ty → (ℕ → ℕ) → Type 0) : Type 0 where
  pub renaming : (E F : List Ty) (ρ : ℕ → ℕ) → W E F ρ → IsRenaming E F ρ
  pub goes_on : (E F : List Ty) (ρ : ℕ → ℕ) (T : Ty) → W E F ρ → W (E ++ T ∷ []) (F ++ T ∷ []) (wider ρ (length E) (length F))
  pub leaf : (E F : List Ty) (ρ : ℕ → ℕ) → W E F ρ → (P : List ClauseFormula) (G : Term) (f : Failure) → HaveLevel (length E) P → HasLevel (length E) G → L E P G f → (g : Failure) × M F (map (renamed_clause ρ) P) (renamed ρ G) g

module _ {L M : Leaves} {W : List Ty → List Ty → (ℕ → ℕ) → Type 0} (moves : MovesLeaves L M W) where
  mutual
    proof_renamed : (d : Declared) (E F : List Ty) (ρ : ℕ → ℕ) → W E F ρ → (P : List ClauseFormula) (G : Term) (p : Proof) → HaveLevel (length E) P → HasLevel (length E) G → proves_by L d E P G p → ProvableBy M d F (map (renamed_clause ρ) P) (renamed ρ G)
    proof_renamed d E F ρ i P G (Conv H p) l m h =
        let r = proof_renamed d E F ρ i P H p l (closed_level (length E) H h.0.closed) h.2 in
        record { proof = Conv (renamed ρ H) r.proof; holds = (renamed_formula d E F ρ (moves.renaming E F ρ i) H h.0, renamed_converts ρ H G h.1, r.holds) }
    proof_renamed d E F ρ i P G True l m (inl e) = record { proof = True; holds = inl (ap (renamed ρ) e) }
    proof_renamed d E F ρ i P G True l m (inr e) = record { proof = True; holds = inr (ap (renamed ρ) e) }
    proof_renamed d E F ρ i P G (And p q) l m h =
        let w = subst (HasLevel (length E)) h.2 m in
        let a = proof_renamed d E F ρ i P h.0 p l w.0.1 h.3 in
        let b = proof_renamed d E F ρ i P h.1 q l w.1 h.4 in
        record { proof = And a.proof b.proof; holds = (renamed ρ h.0, renamed ρ h.1, ap (renamed ρ) h.2, a.holds, b.holds) }
    proof_renamed d E F ρ i P G (Left p) l m h =
        let w = subst (HasLevel (length E)) h.2 m in
        let a = proof_renamed d E F ρ i P h.0 p l w.0.1 h.3 in
        record { proof = Left a.proof; holds = (renamed ρ h.0, renamed ρ h.1, ap (renamed ρ) h.2, a.holds) }
    proof_renamed d E F ρ i P G (Right p) l m h =
        let w = subst (HasLevel (length E)) h.2 m in
        let a = proof_renamed d E F ρ i P h.1 p l w.1 h.3 in
        record { proof = Right a.proof; holds = (renamed ρ h.0, renamed ρ h.1, ap (renamed ρ) h.2, a.holds) }
    proof_renamed d E F ρ i P G (Witness t p) l m h =
        let w = subst (HasLevel (length E)) h.2 m in
        let a = proof_renamed d E F ρ i P (app h.1 t) p l (w.1, closed_level (length E) t h.3.closed) h.4 in
        record { proof = Witness (renamed ρ t) a.proof; holds = (h.0, renamed ρ h.1, ap (renamed ρ) h.2, renamed_witness d E F ρ (moves.renaming E F ρ i) t h.0 h.3, a.holds) }
    proof_renamed d E F ρ i P G (All p) l m h =
        let w = subst (HasLevel (length E)) h.2 m in
        let τ = wider ρ (length E) (length F) in
        let more : length E ≤ length (E ++ h.0 ∷ []) = rw (length_end E h.0) (omega arith) in
        let here : suc (length E) ≤ length (E ++ h.0 ∷ []) = rw (length_end E h.0) (omega arith) in
        let a = proof_renamed d (E ++ h.0 ∷ []) (F ++ h.0 ∷ []) τ (moves.goes_on E F ρ h.0 i) P (app h.1 (atom (eigen (suc (length E))))) p (levels_more (length E) (length (E ++ h.0 ∷ [])) more P l) (level_more (length E) (length (E ++ h.0 ∷ [])) more h.1 w.1, here) h.3 in
        let same : (k : ℕ) → k ≤ length E → ρ k ≡ τ k = λ k b. wider_old ρ (length E) (length F) k b in
        let s : renamed τ h.1 ≡ renamed ρ h.1 = sym (renamed_same ρ τ (length E) same h.1 w.1) in
        let c : map (renamed_clause τ) P ≡ map (renamed_clause ρ) P = sym (clauses_same ρ τ (length E) same P l) in
        record {
          proof = All a.proof;
          holds = (
            h.0,
            renamed ρ h.1,
            ap (renamed ρ) h.2,
            subst (λ Q. proves_by M d (F ++ h.0 ∷ []) Q (app (renamed ρ h.1) (atom (eigen (suc (length F))))) a.proof) c
                (subst (λ v. proves_by M d (F ++ h.0 ∷ []) (map (renamed_clause τ) P) (app v (atom (eigen (suc (length F))))) a.proof) s
                (subst (λ k. proves_by M d (F ++ h.0 ∷ []) (map (renamed_clause τ) P) (app (renamed τ h.1) (atom (eigen k))) a.proof)
                (wider_new ρ (length E) (length F)) a.holds)),
          );
        }
    proof_renamed d E F ρ i P G (Assume p) l m h =
        let w = implication_levels (length E) G h.0 h.1 h.2 m in
        let a = proof_renamed d E F ρ i (P ++ assumed h.0 ∷ []) h.1 p (level_end (length E) P (assumed h.0) l w.0) w.1 h.3 in
        record { proof = Assume a.proof; holds = (renamed ρ h.0, renamed ρ h.1, implication_renamed ρ G h.0 h.1 h.2, subst (λ Q. proves_by M d F Q (renamed ρ h.1) a.proof) (renamed_end ρ P (assumed h.0)) a.holds) }
    proof_renamed d E F ρ i P G Equal l m h = record { proof = Equal; holds = (h.0, renamed ρ h.1, renamed ρ h.2, ap (renamed ρ) h.3, renamed_converts ρ h.1 h.2 h.4) }
    proof_renamed d E F ρ i P G Arith l m h = record { proof = Arith; holds = arith_renamed ρ G h }
    proof_renamed d E F ρ i P G (Back c ts f) l m h =
        let w = level_instance (length E) (type_at ts) h.0.formula (level_of (length E) P c h.0 l h.1) in
        let a = focus_renamed d E F ρ i P (instance_term (type_at ts) h.0.formula) G f l w m h.5 in
        record {
          proof = Back c ts a.focus;
          holds = (renamed_clause ρ h.0, get_renamed ρ P c h.0 h.1, h.2, h.3, renamed_head ρ G h.4, subst (λ D. focuses_by M d F (map (renamed_clause ρ) P) D (renamed ρ G) a.focus) (instance_renamed ρ (type_at ts) h.0.formula) a.holds);
        }
    proof_renamed d E F ρ i P G (Fails f) l m h =
        let w = subst (HasLevel (length E)) h.1 m in
        let g = moves.leaf E F ρ i P h.0 f l w.1 h.2 in
        record { proof = Fails g.0; holds = (renamed ρ h.0, ap (renamed ρ) h.1, g.1) }

    focus_renamed : (d : Declared) (E F : List Ty) (ρ : ℕ → ℕ) → W E F ρ → (P : List ClauseFormula) (D A : Term) (f : Focus) → HaveLevel (length E) P → HasLevel (length E) D → HasLevel (length E) A → focuses_by L d E P D A f → FocusableBy M d F (map (renamed_clause ρ) P) (renamed ρ D) (renamed ρ A)
    focus_renamed d E F ρ i P D A (FConv H f) l m v h =
        let r = focus_renamed d E F ρ i P H A f l (closed_level (length E) H h.0.closed) v h.2 in
        record { focus = FConv (renamed ρ H) r.focus; holds = (renamed_formula d E F ρ (moves.renaming E F ρ i) H h.0, renamed_converts ρ H D h.1, r.holds) }
    focus_renamed d E F ρ i P D A (FAll t f) l m v h =
        let w = subst (HasLevel (length E)) h.2 m in
        let r = focus_renamed d E F ρ i P (app h.1 t) A f l (w.1, closed_level (length E) t h.3.closed) v h.4 in
        record { focus = FAll (renamed ρ t) r.focus; holds = (h.0, renamed ρ h.1, ap (renamed ρ) h.2, renamed_witness d E F ρ (moves.renaming E F ρ i) t h.0 h.3, r.holds) }
    focus_renamed d E F ρ i P D A (FTake true f) l m v h =
        let w = subst (HasLevel (length E)) h.2 m in
        let r = focus_renamed d E F ρ i P h.1 A f l w.1 v h.3 in
        record { focus = FTake true r.focus; holds = (renamed ρ h.0, renamed ρ h.1, ap (renamed ρ) h.2, r.holds) }
    focus_renamed d E F ρ i P D A (FTake false f) l m v h =
        let w = subst (HasLevel (length E)) h.2 m in
        let r = focus_renamed d E F ρ i P h.0 A f l w.0.1 v h.3 in
        record { focus = FTake false r.focus; holds = (renamed ρ h.0, renamed ρ h.1, ap (renamed ρ) h.2, r.holds) }
    focus_renamed d E F ρ i P D A (FNeed p f) l m v h =
        let w = implication_levels (length E) D h.0 h.1 h.2 m in
        let a = proof_renamed d E F ρ i P h.0 p l w.0 h.3 in
        let r = focus_renamed d E F ρ i P h.1 A f l w.1 v h.4 in
        record { focus = FNeed a.proof r.focus; holds = (renamed ρ h.0, renamed ρ h.1, implication_renamed ρ D h.0 h.1 h.2, a.holds, r.holds) }
    focus_renamed d E F ρ i P D A FHit l m v h = record { focus = FHit; holds = renamed_converts ρ D A h }

  pub proof_moved : (d : Declared) (E F : List Ty) (ρ : ℕ → ℕ) → W E F ρ → (P : List ClauseFormula) (G : Term) → HaveLevel (length E) P → HasLevel (length E) G → ProvableBy L d E P G → ProvableBy M d F (map (renamed_clause ρ) P) (renamed ρ G)
  proof_moved d E F ρ i P G l m h = proof_renamed d E F ρ i P G h.proof l m h.holds

plain_moves : MovesLeaves no_leaf no_leaf IsRenaming
plain_moves = record { renaming = λ E F ρ i. i; goes_on = wider_renaming; leaf = λ E F ρ i P G f l m h. absurd h }

pub provable_renamed : (d : Declared) (E F : List Ty) (ρ : ℕ → ℕ) → IsRenaming E F ρ → (P : List ClauseFormula) (G : Term) → HaveLevel (length E) P → HasLevel (length E) G → PlainlyProvable d E P G → PlainlyProvable d F (map (renamed_clause ρ) P) (renamed ρ G)
provable_renamed d E F ρ i P G l m h = proof_moved plain_moves d E F ρ i P G l m h
