-- Inversion of a focus on a clause for an atom, connective by connective.
use Rattle.std.proofs.Common.{◌≡◌, ℕ, ◌≤◌, ◌<◌, List, [], ◌∷◌, refl, sym, ap, ◌∙◌, subst, arith, inl, inr}
use Rattle.std.specs.Prelude.{◌⊎◌, true, false}
use Rattle.lp_calculus.specs.Types.{Ty}
use Rattle.lp_calculus.specs.Term.{Term, index, atom, abs, app, apply, Atom, constant}
use Rattle.lp_calculus.specs.Convert.{Converts, same}
use Rattle.lp_calculus.proofs.Steps.{converts_on, converts_sym, converts_app}
use Rattle.lp_calculus.proofs.Rigid.{heads_joint}
use Rattle.lp_calculus.specs.Spine.{head_of, arguments}
use Rattle.lp_standard.specs.Connectives.{truth, two, pi_of}
use Rattle.lp_model.specs.Flatten.{ClauseFormula}
use Rattle.lp_standard.specs.Schemes.{IsStandard}
use Rattle.lp_model.specs.Proofs.{Declared, Leaves, ProvableBy, FocusableBy, IsFormula, IsWitness, IsAtomHead, IsImplication, Focus, FConv, FAll, FTake, FNeed, FHit, focuses_by, Conv}
use Rattle.lp_proof_laws.proofs.Uniform.Forms.{apply_arguments}
use Rattle.lp_proof_laws.proofs.Uniform.Formulas.{parts, quantified}
use Rattle.lp_proof_laws.proofs.Uniform.Formulas as formulas
use Rattle.lp_proof_laws.proofs.Uniform.Roots.{OneJoint, TwoJoint, one_joint, two_joint, connective, pi_type}

-- how a clause is focused on, where the focus does not begin with a conversion
data RootedFocus (L : Leaves) (d : Declared) (E : List Ty) (P : List ClauseFormula) (D A : Term) : Type 0 where
  hits : Converts D A → RootedFocus L d E P D A
  instance_at : (T : Ty) → (s w : Term) → D ≡ pi_of T s → IsWitness d E w T → FocusableBy L d E P (app s w) A → RootedFocus L d E P D A
  takes_left : (B C : Term) → D ≡ two 0 [] B C → FocusableBy L d E P B A → RootedFocus L d E P D A
  takes_right : (B C : Term) → D ≡ two 0 [] B C → FocusableBy L d E P C A → RootedFocus L d E P D A
  needs : (G B : Term) → IsImplication D G B → ProvableBy L d E P G → FocusableBy L d E P B A → RootedFocus L d E P D A

-- no connective converts to an atom
pub no_hit : (c : ℕ) (ts : List Ty) (us : List Term) (A : Term) → c < 32 → IsAtomHead (head_of A) → Converts (apply (atom (constant c ts)) us) A → ⊥
no_hit c ts us A l h v = go (head_of A) refl h
  where
    go : (k : Term) → head_of A ≡ k → IsAtomHead k → ⊥
    go (atom b) e i =
        let w : Converts (apply (atom (constant c ts)) us) (apply (atom b) (arguments A)) = subst (Converts (apply (atom (constant c ts)) us)) (sym (apply_arguments A []) ∙ ap (λ k. apply k (arguments A)) e) v in
        let j = heads_joint (atom (constant c ts)) (atom b) us (arguments A) tt tt w in
        let m : 32 ≤ c = subst IsAtomHead (sym j.heads) i in
        omega arith
    go (index n) e i = absurd i
    go (abs t) e i = absurd i
    go (app t u) e i = absurd i

pub fconv : {L : Leaves} (d : Declared) (E : List Ty) (P : List ClauseFormula) (H D A : Term) → IsFormula d E H → Converts H D → FocusableBy L d E P H A → FocusableBy L d E P D A
fconv d E P H D A f c r = record { focus = FConv H r.focus; holds = (f, c, r.holds) }

pub pconv : {L : Leaves} (d : Declared) (E : List Ty) (P : List ClauseFormula) (H G : Term) → IsFormula d E H → Converts H G → ProvableBy L d E P H → ProvableBy L d E P G
pconv d E P H G f c r = record { proof = Conv H r.proof; holds = (f, c, r.holds) }

abbrev StrippedFocus : (L : Leaves) (d : Declared) (E : List Ty) (P : List ClauseFormula) (A : Term) → Term → Type 0
StrippedFocus L d E P A D = (H : Term) × Converts H D × IsFormula d E H × RootedFocus L d E P H A

abbrev Applied : Atom → List Term → Term
Applied a us = apply (atom a) us

module _ {L : Leaves} (d : Declared) (std : IsStandard d) (E : List Ty) (P : List ClauseFormula) (A : Term) where
  strip : (D : Term) (f : Focus) → IsFormula d E D → focuses_by L d E P D A f → StrippedFocus L d E P A D
  strip D (FConv H f) i h = let r = strip H f h.0 h.2 in (r.0, converts_on r.1 h.1, r.2, r.3)
  strip D (FAll t f) i h = (D, same D, i, instance_at h.0 h.1 t h.2 h.3 (record { focus = f; holds = h.4 }))
  strip D (FTake true f) i h = (D, same D, i, takes_right h.0 h.1 h.2 (record { focus = f; holds = h.3 }))
  strip D (FTake false f) i h = (D, same D, i, takes_left h.0 h.1 h.2 (record { focus = f; holds = h.3 }))
  strip D (FNeed p f) i h = (D, same D, i, needs h.0 h.1 h.2 (record { proof = p; holds = h.3 }) (record { focus = f; holds = h.4 }))
  strip D FHit i h = (D, same D, i, hits h)

  module _ (a : Atom) (us : List Term) where
    moves : (H : Term) → Converts H (Applied a us) → IsFormula d E H → RootedFocus L d E P H A → RootedFocus L d E P (Applied a us) A
    unfolding OneJoint TwoJoint
    moves H c f (hits v) = hits (converts_on (converts_sym c) v)
    moves H c f (instance_at T s w e i r) =
        let j = one_joint 4 (T ∷ []) s a us (subst (λ K. Converts K (Applied a us)) e c) in
        let fs = quantified d E 4 T s (pi_type d std T) (subst (IsFormula d E) e f) in
        instance_at T j.0 w j.1 i (fconv d E P (app s w) (app j.0 w) A (formulas.at_witness d E T s w fs i) (converts_app j.2 (same w)) r)
    moves H c f (takes_left B C e r) =
        let j = two_joint 0 [] B C a us (subst (λ K. Converts K (Applied a us)) e c) in
        let fs = parts d E 0 B C (connective d std 0 (omega arith)) (subst (IsFormula d E) e f) in
        takes_left j.0 j.1 j.2 (fconv d E P B j.0 A fs.0 j.3 r)
    moves H c f (takes_right B C e r) =
        let j = two_joint 0 [] B C a us (subst (λ K. Converts K (Applied a us)) e c) in
        let fs = parts d E 0 B C (connective d std 0 (omega arith)) (subst (IsFormula d E) e f) in
        takes_right j.0 j.1 j.2 (fconv d E P C j.1 A fs.1 j.4 r)
    moves H c f (needs G B (inl e) p r) =
        let j = two_joint 2 [] G B a us (subst (λ K. Converts K (Applied a us)) e c) in
        let fs = parts d E 2 G B (connective d std 2 (omega arith)) (subst (IsFormula d E) e f) in
        needs j.0 j.1 (inl j.2) (pconv d E P G j.0 fs.0 j.3 p) (fconv d E P B j.1 A fs.1 j.4 r)
    moves H c f (needs G B (inr e) p r) =
        let j = two_joint 3 [] B G a us (subst (λ K. Converts K (Applied a us)) e c) in
        let fs = parts d E 3 B G (connective d std 3 (omega arith)) (subst (IsFormula d E) e f) in
        needs j.1 j.0 (inr j.2) (pconv d E P G j.1 fs.1 j.4 p) (fconv d E P B j.0 A fs.0 j.3 r)

    rooted_focus : IsFormula d E (Applied a us) → FocusableBy L d E P (Applied a us) A → RootedFocus L d E P (Applied a us) A
    rooted_focus i r = let s = strip (Applied a us) r.focus i r.holds in moves s.0 s.1 s.2 s.3

  module _ (at : IsAtomHead (head_of A)) where
    pub truth_focus : IsFormula d E truth → FocusableBy L d E P truth A → ⊥
    truth_focus i r = go (rooted_focus (constant 6 []) [] i r)
      where
        go : RootedFocus L d E P truth A → ⊥
        go (hits v) = no_hit 6 [] [] A (omega arith) at v
        go (instance_at T s w e k q) = cc
        go (takes_left B C e q) = cc
        go (takes_right B C e q) = cc
        go (needs G B (inl e) p q) = cc
        go (needs G B (inr e) p q) = cc

    pub both_focus : (B C : Term) → IsFormula d E (two 0 [] B C) → FocusableBy L d E P (two 0 [] B C) A → FocusableBy L d E P B A ⊎ FocusableBy L d E P C A
    both_focus B C i r = go (rooted_focus (constant 0 []) (B ∷ C ∷ []) i r)
      where
        go : RootedFocus L d E P (two 0 [] B C) A → FocusableBy L d E P B A ⊎ FocusableBy L d E P C A
        go (hits v) = absurd (no_hit 0 [] (B ∷ C ∷ []) A (omega arith) at v)
        go (instance_at T s w e k q) = cc
        go (takes_left X Y e q) = let g : X ≡ B = cc in inl (subst (λ z. FocusableBy L d E P z A) g q)
        go (takes_right X Y e q) = let g : Y ≡ C = cc in inr (subst (λ z. FocusableBy L d E P z A) g q)
        go (needs X Y (inl e) p q) = cc
        go (needs X Y (inr e) p q) = cc

    pub pi_focus : (T : Ty) (s : Term) → IsFormula d E (pi_of T s) → FocusableBy L d E P (pi_of T s) A → (w : Term) × IsWitness d E w T × FocusableBy L d E P (app s w) A
    pi_focus T s i r = go (rooted_focus (constant 4 (T ∷ [])) (s ∷ []) i r)
      where
        go : RootedFocus L d E P (pi_of T s) A → (w : Term) × IsWitness d E w T × FocusableBy L d E P (app s w) A
        go (hits v) = absurd (no_hit 4 (T ∷ []) (s ∷ []) A (omega arith) at v)
        go (instance_at U x w e k q) = let g : U ≡ T = cc in let h : x ≡ s = cc in (w, subst (IsWitness d E w) g k, subst (λ z. FocusableBy L d E P (app z w) A) h q)
        go (takes_left X Y e q) = cc
        go (takes_right X Y e q) = cc
        go (needs X Y (inl e) p q) = cc
        go (needs X Y (inr e) p q) = cc

    pub implied_focus : (G B : Term) → IsFormula d E (two 2 [] G B) → FocusableBy L d E P (two 2 [] G B) A → ProvableBy L d E P G × FocusableBy L d E P B A
    implied_focus G B i r = go (rooted_focus (constant 2 []) (G ∷ B ∷ []) i r)
      where
        go : RootedFocus L d E P (two 2 [] G B) A → ProvableBy L d E P G × FocusableBy L d E P B A
        go (hits v) = absurd (no_hit 2 [] (G ∷ B ∷ []) A (omega arith) at v)
        go (instance_at U x w e k q) = cc
        go (takes_left X Y e q) = cc
        go (takes_right X Y e q) = cc
        go (needs X Y (inl e) p q) = let g : X ≡ G = cc in let h : Y ≡ B = cc in (subst (ProvableBy L d E P) g p, subst (λ z. FocusableBy L d E P z A) h q)
        go (needs X Y (inr e) p q) = cc

    pub if_focus : (B G : Term) → IsFormula d E (two 3 [] B G) → FocusableBy L d E P (two 3 [] B G) A → ProvableBy L d E P G × FocusableBy L d E P B A
    if_focus B G i r = go (rooted_focus (constant 3 []) (B ∷ G ∷ []) i r)
      where
        go : RootedFocus L d E P (two 3 [] B G) A → ProvableBy L d E P G × FocusableBy L d E P B A
        go (hits v) = absurd (no_hit 3 [] (B ∷ G ∷ []) A (omega arith) at v)
        go (instance_at U x w e k q) = cc
        go (takes_left X Y e q) = cc
        go (takes_right X Y e q) = cc
        go (needs X Y (inl e) p q) = cc
        go (needs X Y (inr e) p q) = let g : X ≡ G = cc in let h : Y ≡ B = cc in (subst (ProvableBy L d E P) g p, subst (λ z. FocusableBy L d E P z A) h q)
