-- The same goal from the same clauses is provable where it was, with leaves that stand for what is the same.
use Rattle.std.proofs.Common.{◌≡◌, List, [], ◌∷◌, ◌++◌, map, length, refl, sym, subst as transport, append-nil}
use Rattle.lp_calculus.specs.Types.{Ty}
use Rattle.lp_calculus.specs.Term.{Term}
use Rattle.lp_calculus.specs.Typing.{type_at, o_type}
use Rattle.lp_calculus.specs.Instance.{instance_term}
use Rattle.lp_calculus.specs.Closed.{IsClosedAt}
use Rattle.lp_calculus.proofs.Steps.{converts_sym}
use Rattle.lp_standard.specs.Schemes.{IsStandard}
use Rattle.lp_model.specs.Index.{instantiate}
use Rattle.lp_model.specs.Pair.{closed}
use Rattle.lp_model.specs.Flat.{Clause, no_goals, clause_list, formula_of_clauses}
use Rattle.lp_model.specs.Flatten.{ClauseFormula}
use Rattle.lp_model.specs.Proofs.{AreFlattened, Declared, Leaves, ProvableBy, Stands, assumed}
use Rattle.lp_proof_laws.proofs.Uniform.Assumptions.{Focuses, replaced_clause}
use Rattle.lp_proof_laws.proofs.Uniform.Formulas.{closed_instance}
use Rattle.lp_proof_laws.proofs.Uniform.Openings.{closed_open}
use Rattle.lp_proof_laws.proofs.Uniform.Settings.{IsSetting}
use Rattle.lp_proof_laws.proofs.Uniform.Uniforms.{by_conversion, other_clauses, stands_more}
use Rattle.lp_proof_laws.proofs.Flattened.FlatGoals.{open_truth, truth_proved}
use Rattle.lp_proof_laws.proofs.Flattened.Flattens.{flattened_goal, flattened_clause}
use Rattle.lp_search_laws.specs.Clauses.{sentence_of, assumed_at}
use Rattle.lp_search_laws.specs.Failed.{SameGoal, goal_converts, goal_flat, goal_back, goal_then, Order, InAny, SameClauses, unchanged, in_some_order, converted, each_apart, clause_flat, program_flat, sentence_flat, other_way, one_by_one}
use Rattle.lp_search_laws.proofs.Entries.{converted_focus}
use Rattle.lp_search_laws.proofs.FailedSearches.{KeepsSame, setting_of, kept_so, fits_wider}
use Rattle.lp_search_laws.proofs.Programs.{parts_serve, whole_serves, program_serves, sentences_serve}
use Rattle.lp_search_laws.proofs.Serving.{Serves, serves_eigens, serves_first, serves_more, served}

abbrev Both : List ClauseFormula → List ClauseFormula → Type 0
Both P R = Stands P R × Stands R P

both_more : (P R : List ClauseFormula) (D : ClauseFormula) → Both P R → Both (P ++ D ∷ []) (R ++ D ∷ [])
both_more P R D x = (stands_more P R D x.0, stands_more R P D x.1)

module _ {L : Leaves} (d : Declared) (std : IsStandard d) (o : Order) (C : List Clause) (same : KeepsSame o C L d) where
  setting : IsSetting L d
  setting = setting_of d same std

  abbrev Alike : (E : List Ty) (P R : List ClauseFormula) (G H : Term) → Type 0
  Alike E P R G H = (ProvableBy L d E P G → ProvableBy L d E R H) × (ProvableBy L d E R H → ProvableBy L d E P G)

  pub same_goal : (E : List Ty) (P : List ClauseFormula) (G H : Term) → SameGoal d E G H → Alike E P P G H
  same_goal E P G H (goal_converts f g v) = ((λ p. by_conversion d E P H G f v p), (λ p. by_conversion d E P G H g (converts_sym v) p))
  same_goal E P G H (goal_flat n B t gs Γ θ v w e x y) =
      let l = flattened_goal d setting n B t no_goals gs Γ e v (open_truth d setting Γ) in (
        (λ p. transport (ProvableBy L d E P) (sym y) (l.together E P θ w (transport (ProvableBy L d E P) x p) (truth_proved d setting E P))),
        (λ p. transport (ProvableBy L d E P) (sym x) (l.apart E P θ w (transport (ProvableBy L d E P) y p)).0),
      )
  same_goal E P G H (goal_back h) = let r = same_goal E P H G h in (r.1, r.0)
  same_goal E P G H (goal_then K h k) = let r = same_goal E P G K h in let s = same_goal E P K H k in ((λ p. s.0 (r.0 p)), (λ p. r.1 (s.1 p)))

  -- clauses in another order
  reordered : o ≡ InAny → (E : List Ty) (P R : List ClauseFormula) (G : Term) → Stands P R → Stands R P → ProvableBy L d E P G → ProvableBy L d E R G
  reordered a E P R G s r p = other_clauses L Both (λ P R x. x.0) both_more (λ E P R G f x l. same.clauses E P R G f (in_some_order a x.0 x.1) l) d E P R G (s, r) p

  -- one assumption in the place of another, where one can focus on each as on the other
  instead : (E : List Ty) (B S : List ClauseFormula) (A D G : Term) → IsClosedAt (length E) A → IsClosedAt (length E) D → SameClauses o d C E (B ++ assumed A ∷ []) (B ++ assumed D ∷ []) → Focuses L d E A D → ProvableBy L d E (B ++ assumed A ∷ S) G → ProvableBy L d E (B ++ assumed D ∷ S) G
  instead E B S A D G a k s f p = replaced_clause L d E B S (assumed A) (assumed D) G refl (kept_so d same E (B ++ assumed A ∷ []) (B ++ assumed D ∷ []) s) (λ ts l c.
      transport (λ z. Focuses L d E z (instance_term (type_at ts) D)) (sym (closed_instance (length E) (type_at ts) A a)) (transport (Focuses L d E A) (sym (closed_instance (length E) (type_at ts) D k)) f)) p

  -- clauses in the place of others in the midst of clauses
  served_amidst : (E : List Ty) (B X Y S : List ClauseFormula) (G : Term) → Serves L d E X Y → SameClauses o d C E (B ++ (X ++ S)) (B ++ (Y ++ S)) → ProvableBy L d E (B ++ (X ++ S)) G → ProvableBy L d E (B ++ (Y ++ S)) G
  served_amidst E B X Y S G s c p = served d E (B ++ (X ++ S)) (B ++ (Y ++ S)) G (serves_first d E B (X ++ S) (Y ++ S) (serves_more d E X Y S s)) (kept_so d same E (B ++ (X ++ S)) (B ++ (Y ++ S)) c) p

  module _ (E : List Ty) where
    clauses_alike : (P R B S : List ClauseFormula) (X Y : List ClauseFormula) (G : Term) → P ≡ B ++ (X ++ S) → R ≡ B ++ (Y ++ S) → Serves L d E X Y → Serves L d E Y X → SameClauses o d C E (B ++ (X ++ S)) (B ++ (Y ++ S)) → Alike E P R G G
    clauses_alike P R B S X Y G p q x y s = (
      (λ h. transport (λ Z. ProvableBy L d E Z G) (sym q) (served_amidst E B X Y S G x s (transport (λ Z. ProvableBy L d E Z G) p h))),
      (λ h. transport (λ Z. ProvableBy L d E Z G) (sym p) (served_amidst E B Y X S G y (other_way s) (transport (λ Z. ProvableBy L d E Z G) q h))),
    )

    assumptions_alike : (P R B S : List ClauseFormula) (A D G : Term) → P ≡ B ++ assumed A ∷ S → R ≡ B ++ assumed D ∷ S → IsClosedAt (length E) A → IsClosedAt (length E) D → SameClauses o d C E (B ++ assumed A ∷ []) (B ++ assumed D ∷ []) → Focuses L d E A D → Focuses L d E D A → Alike E P R G G
    assumptions_alike P R B S A D G p q a k s f g = (
      (λ h. transport (λ Z. ProvableBy L d E Z G) (sym q) (instead E B S A D G a k s f (transport (λ Z. ProvableBy L d E Z G) p h))),
      (λ h. transport (λ Z. ProvableBy L d E Z G) (sym p) (instead E B S D A G k a (other_way s) g (transport (λ Z. ProvableBy L d E Z G) q h))),
    )

    same_clauses : (P R : List ClauseFormula) (G : Term) → SameClauses o d C E P R → Alike E P R G G
    unfolding Focuses
    same_clauses P R G (unchanged e) = ((λ p. transport (λ Z. ProvableBy L d E Z G) e p), (λ p. transport (λ Z. ProvableBy L d E Z G) (sym e) p))
    same_clauses P R G (in_some_order a s r) = ((λ p. reordered a E P R G s r p), (λ p. reordered a E R P G r s p))
    same_clauses P R G (program_flat F S k s e p q) =
        clauses_alike P R [] S F (map sentence_of C) G p q (serves_eigens d [] E F (map sentence_of C) (program_serves d setting F C s e)) (serves_eigens d [] E (map sentence_of C) F (sentences_serve d setting F C s e)) (program_flat F S k s e refl refl)
    same_clauses P R G (converted B S A D f g p q v) =
        assumptions_alike P R B S A D G p q f.closed g.closed (converted B [] A D f g refl refl v) (converted_focus L d E A D f v) (converted_focus L d E D A g (converts_sym v))
    same_clauses P R G (each_apart B S c cs f p q) =
        clauses_alike P R B S (assumed (closed c (formula_of_clauses cs)) ∷ []) (assumed_at c (clause_list cs)) G p q (parts_serve d setting E B c cs f) (whole_serves d setting E B c cs f) (each_apart B S c cs f refl refl)
    same_clauses P R G (clause_flat B S n bs t cs Γ θ v w e p q) =
        let l = flattened_clause d setting n bs t cs Γ e v in
        assumptions_alike P R B S (instantiate θ t) (instantiate θ (formula_of_clauses cs)) G p q (closed_open d E Γ θ t o_type w v).1 (closed_open d E Γ θ (formula_of_clauses cs) o_type w l.opens).1 (clause_flat B [] n bs t cs Γ θ v w e refl refl)
        (λ F x Q A i h. l.to F Q θ A (fits_wider d E F x Γ θ w) i h) (λ F x Q A i h. l.from F Q θ A (fits_wider d E F x Γ θ w) i h)
    same_clauses P R G (sentence_flat B S n D cs a s e p q) =
        let flat : AreFlattened d (D ∷ []) (clause_list cs) = (n, cs, [], e, refl, sym (append-nil (clause_list cs))) in
        clauses_alike P R B S (D ∷ []) (map sentence_of (clause_list cs)) G p q (serves_eigens d [] E (D ∷ []) (map sentence_of (clause_list cs)) (program_serves d setting (D ∷ []) (clause_list cs) (s, tt) flat))
        (serves_eigens d [] E (map sentence_of (clause_list cs)) (D ∷ []) (sentences_serve d setting (D ∷ []) (clause_list cs) (s, tt) flat)) (sentence_flat B S n D cs a s e refl refl)
    same_clauses P R G (other_way h) = let r = same_clauses R P G h in (r.1, r.0)
    same_clauses P R G (one_by_one Q h k) = let r = same_clauses P Q G h in let s = same_clauses Q R G k in ((λ p. s.0 (r.0 p)), (λ p. r.1 (s.1 p)))

  -- both at once
  pub same_provable : (E : List Ty) (P R : List ClauseFormula) (G H : Term) → SameClauses o d C E P R → SameGoal d E G H → Alike E P R G H
  same_provable E P R G H s g = let x = same_clauses E P R G s in let y = same_goal E R G H g in ((λ p. y.0 (x.0 p)), (λ p. x.1 (y.1 p)))
