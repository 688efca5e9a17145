-- The connectives under a closing: a goal is provable exactly where what stands in its place is.
use Rattle.lp_proof_laws.proofs.Uniform.Settings.{IsSetting}
use Rattle.std.proofs.Common.{◌≡◌, ℕ, List, [], ◌∷◌, ◌++◌, refl, subst as transport, arith, inl, inr}
use Rattle.std.specs.Prelude.{◌⊎◌, ◌≤◌}
use Rattle.lp_calculus.specs.Types.{Ty, instance}
use Rattle.lp_calculus.specs.Term.{Term, atom, app, substitute, constant, logic}
use Rattle.lp_calculus.specs.Convert.{Converts, ReducesTo}
use Rattle.lp_calculus.proofs.Steps.{converts_reduces, converts_sym}
use Rattle.lp_model.specs.Pair.{Closing, closed}
use Rattle.lp_model.specs.Proofs.{by_failure, Declared, IsFormula, IsWitness, IsArith, RootedBy, trivially, both_sides, left_side, right_side, at_witness, for_all, under_assumption, equally, by_arithmetic, by_clause, And, Left, Right, Witness, All, Assume, Equal, assumed, Leaves, ProvableBy}
use Rattle.lp_standard.specs.Connectives.{two, pi_of, sigma_of, body_of}
use Rattle.lp_model.specs.Flatten.{ClauseFormula}
use Rattle.lp_search_laws.specs.Holds.{Holds, with_value, IsUnused, next_eigen}
use Rattle.lp_search_laws.proofs.Closed.{closed_reduces, formula_reduces, body_opens, unused_closed, value_at}
use Rattle.lp_proof_laws.proofs.Uniform.Heads.{both_root_by, either_root_by, sigma_root_by, pi_root_by, implied_root_by}
use Rattle.lp_proof_laws.proofs.Uniform.Roots.{rooted_by, sigma_type, pi_type}
use Rattle.lp_proof_laws.proofs.Uniform.Uniforms.{by_conversion}
use Rattle.lp_proof_laws.proofs.Uniform.Formulas.{quantified, at_eigen}
use Rattle.lp_proof_laws.proofs.Uniform.Formulas as formulas

-- what a formula reduces to is provable exactly where it is
pub reduces_on : {L : Leaves} (d : Declared) (E : List Ty) (P : List ClauseFormula) {t u : Term} → IsFormula d E t → ReducesTo t u → ProvableBy L d E P t → ProvableBy L d E P u
reduces_on {L} d E P {t} {u} f r p = by_conversion d E P u t f (converts_reduces r) p

pub reduces_back : {L : Leaves} (d : Declared) (E : List Ty) (P : List ClauseFormula) {t u : Term} → IsFormula d E t → ReducesTo t u → ProvableBy L d E P u → ProvableBy L d E P t
reduces_back {L} d E P {t} {u} f r p = by_conversion d E P t u (formula_reduces d E r f) (converts_sym (converts_reduces r)) p

pub both_holds : {L : Leaves} (d : Declared) → IsSetting L d → (E : List Ty) (P : List ClauseFormula) (c : Closing) (a b : Term) → IsFormula d E
    (closed c (two 0 [] a b)) → (Holds L d E P c (two 0 [] a b) → Holds L d E P c a × Holds L d E P c b) ×
    (Holds L d E P c a × Holds L d E P c b → Holds L d E P c (two 0 [] a b))
both_holds {L} d std E P c a b f = (
  (λ p. both_root_by L d std.standard E P (closed c a) (closed c b) f (std.converting P) p),
  (λ p. record { proof = And p.0.proof p.1.proof; holds = (closed c a, closed c b, refl, p.0.holds, p.1.holds) }),
)

pub either_holds : {L : Leaves} (d : Declared) → IsSetting L d → (E : List Ty) (P : List ClauseFormula) (c : Closing) (a b : Term) → IsFormula d E
    (closed c (two 1 [] a b)) → (Holds L d E P c (two 1 [] a b) → Holds L d E P c a ⊎ Holds L d E P c b) ×
    (Holds L d E P c a ⊎ Holds L d E P c b → Holds L d E P c (two 1 [] a b))
either_holds {L} d std E P c a b f = ((λ p. either_root_by L d std.standard E P (closed c a) (closed c b) f (std.converting P) p), back)
  where
    back : Holds L d E P c a ⊎ Holds L d E P c b → Holds L d E P c (two 1 [] a b)
    back (inl p) = record { proof = Left p.proof; holds = (closed c a, closed c b, refl, p.holds) }
    back (inr p) = record { proof = Right p.proof; holds = (closed c a, closed c b, refl, p.holds) }

pub pi_holds : {L : Leaves} (d : Declared) → IsSetting L d → (E : List Ty) (P : List ClauseFormula) (c : Closing) (T : Ty) (a : Term) → IsFormula d E (closed c (pi_of T a)) →
    (Holds L d E P c (pi_of T a) → Holds L d (E ++ instance c.types T ∷ []) P c (substitute (next_eigen E) (body_of a))) × (Holds L d (E ++ instance c.types T ∷ []) P c (substitute (next_eigen E) (body_of a)) → Holds L d E P c (pi_of T a))
pi_holds {L} d std E P c T a f =
    let U = instance c.types T in
    let F = E ++ U ∷ [] in
    let g : IsFormula d F (app (closed c a) (next_eigen E)) = at_eigen d E U (closed c a) (quantified d E 4 U (closed c a) (pi_type d std.standard U) f) in
    let r : ReducesTo (app (closed c a) (next_eigen E)) (closed c (substitute (next_eigen E) (body_of a))) = closed_reduces c (body_opens a (next_eigen E)) in (
      (λ p. reduces_on d F P g r (pi_root_by L d std.standard E P U (closed c a) f (std.converting P) p)),
      (λ p. let q = reduces_back d F P g r p in record { proof = All q.proof; holds = (U, closed c a, refl, q.holds) }),
    )

pub sigma_holds : {L : Leaves} (d : Declared) → IsSetting L d → (E : List Ty) (P : List ClauseFormula) (c : Closing) (x l : ℕ) (T : Ty) (a : Term) → IsUnused x l a → IsFormula d E (closed c (sigma_of T a)) →
    (Holds L d E P c (sigma_of T a) → (w : Term) × IsWitness d E w (instance c.types T) × Holds L d E P (with_value c x l w) (substitute (atom (logic x l)) (body_of a))) ×
    ((w : Term) × IsWitness d E w (instance c.types T) × Holds L d E P (with_value c x l w) (substitute (atom (logic x l)) (body_of a)) → Holds L d E P c (sigma_of T a))
sigma_holds {L} d std E P c x l T a n f =
    let U = instance c.types T in
    let q = quantified d E 5 U (closed c a) (sigma_type d std.standard U) f in
    let r = (λ (w : Term). transport (λ z. ReducesTo z (closed (with_value c x l w) (substitute (atom (logic x l)) (body_of a)))) (λ i. app (unused_closed c x l w a n i) (value_at c x l w i)) (closed_reduces (with_value c x l w) (body_opens a (atom (logic x l))))) in (
      (λ p. let z = sigma_root_by L d std.standard E P U (closed c a) f (std.converting P) p in (z.0, z.1, reduces_on d E P (formulas.at_witness d E U (closed c a) z.0 q z.1) (r z.0) z.2)),
      (λ p. let z = reduces_back d E P (formulas.at_witness d E U (closed c a) p.0 q p.1) (r p.0) p.2 in record { proof = Witness p.0 z.proof; holds = (U, closed c a, refl, p.1, z.holds) }),
    )

pub implied_holds : {L : Leaves} (d : Declared) → IsSetting L d → (E : List Ty) (P : List ClauseFormula) (c : Closing) (a b : Term) → IsFormula d E
    (closed c (two 2 [] a b)) → (Holds L d E P c (two 2 [] a b) → Holds L d E (P ++ assumed (closed c a) ∷ []) c b) ×
    (Holds L d E (P ++ assumed (closed c a) ∷ []) c b → Holds L d E P c (two 2 [] a b))
implied_holds {L} d std E P c a b f = (
  (λ p. implied_root_by L d std.standard E P (closed c a) (closed c b) f (std.converting P) p),
  (λ p. record { proof = Assume p.proof; holds = (closed c a, closed c b, inl refl, p.holds) }),
)

-- equality
no_arith_equal : (T : Ty) (a b : Term) → IsArith (two 8 (T ∷ []) a b) → ⊥
no_arith_equal T a b (inl h) = let e = h.4 in cc
no_arith_equal T a b (inr h) = let e = h.7 in cc

equal_root : {L : Leaves} (d : Declared) → IsSetting L d → (E : List Ty) (P : List ClauseFormula) (T : Ty) (a b : Term) → IsFormula d E (two 8 (T ∷ []) a b) → ProvableBy L d E P (two 8 (T ∷ []) a b) → Converts a b
equal_root {L} d std E P T a b f p = go (rooted_by L d std.standard E P (constant 8 (T ∷ [])) (a ∷ b ∷ []) f (std.converting P) p)
  where
    go : RootedBy L d E P (two 8 (T ∷ []) a b) → Converts a b
    go (trivially (inl e)) = cc
    go (trivially (inr e)) = cc
    go (both_sides X Y e p' q') = cc
    go (left_side X Y e p') = cc
    go (right_side X Y e p') = cc
    go (at_witness U r t e w p') = cc
    go (for_all U r e p') = cc
    go (under_assumption X Y (inl e) p') = cc
    go (under_assumption X Y (inr e) p') = cc
    go (equally U x y e v) = let g : x ≡ a = cc in let h : y ≡ b = cc in transport (λ z. Converts a z) h (transport (λ z. Converts z y) g v)
    go (by_arithmetic h) = absurd (no_arith_equal T a b h)
    go (by_failure K e f h) = cc
    go (by_clause i D' ts e l k h r) = let m : 32 ≤ 8 = h in absurd (omega arith)

pub equal_holds : {L : Leaves} (d : Declared) → IsSetting L d → (E : List Ty) (P : List ClauseFormula) (c : Closing) (T : Ty) (a b : Term) → IsFormula
    d E (closed c (two 8 (T ∷ []) a b)) → (Holds L d E P c (two 8 (T ∷ []) a b) → Converts (closed c a) (closed c b)) ×
    (Converts (closed c a) (closed c b) → Holds L d E P c (two 8 (T ∷ []) a b))
equal_holds {L} d std E P c T a b f = (
  (λ p. equal_root d std E P (instance c.types T) (closed c a) (closed c b) f p),
  (λ e. record { proof = Equal; holds = (instance c.types T, closed c a, closed c b, refl, e) }),
)
