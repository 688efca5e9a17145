-- Inversion, connective by connective, with leaves that stand where formulas convert.
use Rattle.std.proofs.Common.{◌≡◌, ℕ, suc, ◌≤◌, List, [], ◌∷◌, ◌++◌, length, subst, arith, inl, inr}
use Rattle.std.specs.Prelude.{◌⊎◌}
use Rattle.lp_calculus.specs.Types.{Ty}
use Rattle.lp_calculus.specs.Term.{Term, atom, app, constant, eigen}
use Rattle.lp_standard.specs.Connectives.{two, pi_of, sigma_of, not_of}
use Rattle.lp_model.specs.Flatten.{ClauseFormula}
use Rattle.lp_standard.specs.Schemes.{IsStandard}
use Rattle.lp_model.specs.Proofs.{Declared, IsFormula, IsWitness, assumed, IsArith, Leaves, Failure, ProvableBy, RootedBy, trivially, both_sides, left_side, right_side, at_witness, for_all, under_assumption, equally, by_arithmetic, by_clause, by_failure}
use Rattle.lp_proof_laws.proofs.Uniform.Roots.{Converting, rooted_by}

no_arith_both : (A B : Term) → IsArith (two 0 [] A B) → ⊥
no_arith_both A B (inl h) = let e = h.4 in cc
no_arith_both A B (inr h) = go h.0 h.5 h.7
  where
    go : (c : ℕ) → 10 ≤ c → two 0 [] A B ≡ two c [] h.1 h.2 → ⊥
    go c l e = let f : 0 ≡ c = cc in omega arith

no_arith_either : (A B : Term) → IsArith (two 1 [] A B) → ⊥
no_arith_either A B (inl h) = let e = h.4 in cc
no_arith_either A B (inr h) = go h.0 h.5 h.7
  where
    go : (c : ℕ) → 10 ≤ c → two 1 [] A B ≡ two c [] h.1 h.2 → ⊥
    go c l e = let f : 1 ≡ c = cc in omega arith

no_arith_sigma : (T : Ty) (s : Term) → IsArith (sigma_of T s) → ⊥
no_arith_sigma T s (inl h) = let e = h.4 in cc
no_arith_sigma T s (inr h) = let e = h.7 in cc

no_arith_pi : (T : Ty) (s : Term) → IsArith (pi_of T s) → ⊥
no_arith_pi T s (inl h) = let e = h.4 in cc
no_arith_pi T s (inr h) = let e = h.7 in cc

no_arith_implied : (D A : Term) → IsArith (two 2 [] D A) → ⊥
no_arith_implied D A (inl h) = let e = h.4 in cc
no_arith_implied D A (inr h) = go h.0 h.5 h.7
  where
    go : (c : ℕ) → 10 ≤ c → two 2 [] D A ≡ two c [] h.1 h.2 → ⊥
    go c l e = let f : 2 ≡ c = cc in omega arith

no_arith_if : (A D : Term) → IsArith (two 3 [] A D) → ⊥
no_arith_if A D (inl h) = let e = h.4 in cc
no_arith_if A D (inr h) = go h.0 h.5 h.7
  where
    go : (c : ℕ) → 10 ≤ c → two 3 [] A D ≡ two c [] h.1 h.2 → ⊥
    go c l e = let f : 3 ≡ c = cc in omega arith

no_arith_denial : (H : Term) → IsArith (not_of H) → ⊥
no_arith_denial H (inl h) = let e = h.4 in cc
no_arith_denial H (inr h) = let e = h.7 in cc

module _ (L : Leaves) where
  pub both_root_by : (d : Declared) → IsStandard d → (E : List Ty) (P : List ClauseFormula) (A B : Term) → IsFormula d E (two 0 [] A B) → Converting L d P → ProvableBy L d E P (two 0 [] A B) → ProvableBy L d E P A × ProvableBy L d E P B
  both_root_by d std E P A B f kept p = go (rooted_by L d std E P (constant 0 []) (A ∷ B ∷ []) f kept p)
    where
      go : RootedBy L d E P (two 0 [] A B) → ProvableBy L d E P A × ProvableBy L d E P B
      go (trivially (inl e)) = cc
      go (trivially (inr e)) = cc
      go (both_sides X Y e p' q') = (let g : X ≡ A = cc in subst (ProvableBy L d E P) g p', let g : Y ≡ B = cc in subst (ProvableBy L d E P) g q')
      go (left_side X Y e p') = cc
      go (right_side X Y e p') = cc
      go (at_witness U r t e w p') = cc
      go (for_all U r e p') = cc
      go (under_assumption X Y (inl e) p') = cc
      go (under_assumption X Y (inr e) p') = cc
      go (equally U x y e v) = cc
      go (by_arithmetic h) = absurd (no_arith_both A B h)
      go (by_clause i D' ts e l k h r) = let m : 32 ≤ 0 = h in absurd (omega arith)
      go (by_failure K e f h) = cc

  pub either_root_by : (d : Declared) → IsStandard d → (E : List Ty) (P : List ClauseFormula) (A B : Term) → IsFormula d E (two 1 [] A B) → Converting L d P → ProvableBy L d E P (two 1 [] A B) → ProvableBy L d E P A ⊎ ProvableBy L d E P B
  either_root_by d std E P A B f kept p = go (rooted_by L d std E P (constant 1 []) (A ∷ B ∷ []) f kept p)
    where
      go : RootedBy L d E P (two 1 [] A B) → ProvableBy L d E P A ⊎ ProvableBy L d E P B
      go (trivially (inl e)) = cc
      go (trivially (inr e)) = cc
      go (both_sides X Y e p' q') = cc
      go (left_side X Y e p') = let g : X ≡ A = cc in inl (subst (ProvableBy L d E P) g p')
      go (right_side X Y e p') = let g : Y ≡ B = cc in inr (subst (ProvableBy L d E P) g p')
      go (at_witness U r t e w p') = cc
      go (for_all U r e p') = cc
      go (under_assumption X Y (inl e) p') = cc
      go (under_assumption X Y (inr e) p') = cc
      go (equally U x y e v) = cc
      go (by_arithmetic h) = absurd (no_arith_either A B h)
      go (by_clause i D' ts e l k h r) = let m : 32 ≤ 1 = h in absurd (omega arith)
      go (by_failure K e f h) = cc

  pub sigma_root_by : (d : Declared) → IsStandard d → (E : List Ty) (P : List ClauseFormula) (T : Ty) (s : Term) → IsFormula d E (sigma_of T s) → Converting L d P → ProvableBy L d E P (sigma_of T s) → (t : Term) × IsWitness d E t T × ProvableBy L d E P (app s t)
  sigma_root_by d std E P T s f kept p = go (rooted_by L d std E P (constant 5 (T ∷ [])) (s ∷ []) f kept p)
    where
      go : RootedBy L d E P (sigma_of T s) → (t : Term) × IsWitness d E t T × ProvableBy L d E P (app s t)
      go (trivially (inl e)) = cc
      go (trivially (inr e)) = cc
      go (both_sides X Y e p' q') = cc
      go (left_side X Y e p') = cc
      go (right_side X Y e p') = cc
      go (at_witness U r t e w p') = let g : U ≡ T = cc in let h : r ≡ s = cc in (t, subst (IsWitness d E t) g w, subst (λ z. ProvableBy L d E P (app z t)) h p')
      go (for_all U r e p') = cc
      go (under_assumption X Y (inl e) p') = cc
      go (under_assumption X Y (inr e) p') = cc
      go (equally U x y e v) = cc
      go (by_arithmetic h) = absurd (no_arith_sigma T s h)
      go (by_clause i D' ts e l k h r) = let m : 32 ≤ 5 = h in absurd (omega arith)
      go (by_failure K e f h) = cc

  pub pi_root_by : (d : Declared) → IsStandard d → (E : List Ty) (P : List ClauseFormula) (T : Ty) (s : Term) → IsFormula d E (pi_of T s) → Converting L d P → ProvableBy L d E P (pi_of T s) → ProvableBy L d (E ++ T ∷ []) P (app s (atom (eigen (suc (length E)))))
  pi_root_by d std E P T s f kept p = go (rooted_by L d std E P (constant 4 (T ∷ [])) (s ∷ []) f kept p)
    where
      go : RootedBy L d E P (pi_of T s) → ProvableBy L d (E ++ T ∷ []) P (app s (atom (eigen (suc (length E)))))
      go (trivially (inl e)) = cc
      go (trivially (inr e)) = cc
      go (both_sides X Y e p' q') = cc
      go (left_side X Y e p') = cc
      go (right_side X Y e p') = cc
      go (at_witness U r t e w p') = cc
      go (for_all U r e p') = let g : U ≡ T = cc in let h : r ≡ s = cc in subst (λ z. ProvableBy L d (E ++ z ∷ []) P (app s (atom (eigen (suc (length E)))))) g (subst (λ z. ProvableBy L d (E ++ U ∷ []) P (app z (atom (eigen (suc (length E)))))) h p')
      go (under_assumption X Y (inl e) p') = cc
      go (under_assumption X Y (inr e) p') = cc
      go (equally U x y e v) = cc
      go (by_arithmetic h) = absurd (no_arith_pi T s h)
      go (by_clause i D' ts e l k h r) = let m : 32 ≤ 4 = h in absurd (omega arith)
      go (by_failure K e f h) = cc

  pub implied_root_by : (d : Declared) → IsStandard d → (E : List Ty) (P : List ClauseFormula) (D A : Term) → IsFormula d E (two 2 [] D A) → Converting L d P → ProvableBy L d E P (two 2 [] D A) → ProvableBy L d E (P ++ assumed D ∷ []) A
  implied_root_by d std E P D A f kept p = go (rooted_by L d std E P (constant 2 []) (D ∷ A ∷ []) f kept p)
    where
      go : RootedBy L d E P (two 2 [] D A) → ProvableBy L d E (P ++ assumed D ∷ []) A
      go (trivially (inl e)) = cc
      go (trivially (inr e)) = cc
      go (both_sides X Y e p' q') = cc
      go (left_side X Y e p') = cc
      go (right_side X Y e p') = cc
      go (at_witness U r t e w p') = cc
      go (for_all U r e p') = cc
      go (under_assumption X Y (inl e) p') = let g : X ≡ D = cc in let h : Y ≡ A = cc in subst (λ z. ProvableBy L d E (P ++ assumed z ∷ []) A) g (subst (ProvableBy L d E (P ++ assumed X ∷ [])) h p')
      go (under_assumption X Y (inr e) p') = cc
      go (equally U x y e v) = cc
      go (by_arithmetic h) = absurd (no_arith_implied D A h)
      go (by_clause i D' ts e l k h r) = let m : 32 ≤ 2 = h in absurd (omega arith)
      go (by_failure K e f h) = cc

  pub if_root_by : (d : Declared) → IsStandard d → (E : List Ty) (P : List ClauseFormula) (A D : Term) → IsFormula d E (two 3 [] A D) → Converting L d P → ProvableBy L d E P (two 3 [] A D) → ProvableBy L d E (P ++ assumed D ∷ []) A
  if_root_by d std E P A D f kept p = go (rooted_by L d std E P (constant 3 []) (A ∷ D ∷ []) f kept p)
    where
      go : RootedBy L d E P (two 3 [] A D) → ProvableBy L d E (P ++ assumed D ∷ []) A
      go (trivially (inl e)) = cc
      go (trivially (inr e)) = cc
      go (both_sides X Y e p' q') = cc
      go (left_side X Y e p') = cc
      go (right_side X Y e p') = cc
      go (at_witness U r t e w p') = cc
      go (for_all U r e p') = cc
      go (under_assumption X Y (inl e) p') = cc
      go (under_assumption X Y (inr e) p') = let g : X ≡ D = cc in let h : Y ≡ A = cc in subst (λ z. ProvableBy L d E (P ++ assumed z ∷ []) A) g (subst (ProvableBy L d E (P ++ assumed X ∷ [])) h p')
      go (equally U x y e v) = cc
      go (by_arithmetic h) = absurd (no_arith_if A D h)
      go (by_clause i D' ts e l k h r) = let m : 32 ≤ 3 = h in absurd (omega arith)
      go (by_failure K e f h) = cc

  -- a negated formula has a proof by a leaf alone
  pub denial_root_by : (d : Declared) → IsStandard d → (E : List Ty) (P : List ClauseFormula) (H : Term) → IsFormula d E (not_of H) → Converting L d P → ProvableBy L d E P (not_of H) → (x : Failure) × L E P H x
  denial_root_by d std E P H f kept p = go (rooted_by L d std E P (constant 24 []) (H ∷ []) f kept p)
    where
      go : RootedBy L d E P (not_of H) → (x : Failure) × L E P H x
      go (trivially (inl e)) = cc
      go (trivially (inr e)) = cc
      go (both_sides X Y e p' q') = cc
      go (left_side X Y e p') = cc
      go (right_side X Y e p') = cc
      go (at_witness U r t e w p') = cc
      go (for_all U r e p') = cc
      go (under_assumption X Y (inl e) p') = cc
      go (under_assumption X Y (inr e) p') = cc
      go (equally U x y e v) = cc
      go (by_arithmetic h) = absurd (no_arith_denial H h)
      go (by_clause i D' ts e l k h r) = let m : 32 ≤ 24 = h in absurd (omega arith)
      go (by_failure K e x h) = let g : K ≡ H = cc in (x, subst (λ z. L E P z x) g h)
