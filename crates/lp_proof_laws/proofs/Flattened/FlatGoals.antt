-- What each kind of flattened goal stands for: under closed terms for the indices, the flattened goals of a formula, with those behind it, are provable
-- exactly where the formula and those behind it are.
use Rattle.std.proofs.Common.{◌≡◌, ℕ, suc, List, [], ◌∷◌, ◌++◌, map, length, Some, refl, sym, ap, ◌∙◌, subst, arith, inl, inr, length-append, Bool}
use Rattle.lp_calculus.specs.Types.{Ty, arrow}
use Rattle.lp_calculus.specs.Term.{Term, atom, abs, app, shift, eigen}
use Rattle.lp_calculus.specs.Typing.{Typed, o_type, scheme_type}
use Rattle.lp_calculus.specs.Closed.{IsClosedType, IsClosedAt}
use Rattle.lp_calculus.proofs.Steps.{converts_sym}
use Rattle.lp_model.specs.Index.{instantiate}
use Rattle.lp_standard.specs.Connectives.{not_of, truth, cut, two, pi_of, sigma_of, body_of}
use Rattle.lp_model.specs.Flat.{Goal, Atomic, Cut, Either, Exists, Forall, Assume, Not, Goals, no_goals, goals, Clause, clause, Clauses, no_clauses, clauses, under_all, map_goal, map_goals, map_clause, map_clauses, same_type, raise_goals, all_of, formula_of_goal, formula_of_goals, formula_of_clause, formula_of_clauses, assuming, denied}
use Rattle.lp_model.specs.Flatten.{ClauseFormula}
use Rattle.lp_model.specs.Proofs.{Declared, under, IsAtomHead, assumed, True, And, Left, Right, Witness, All, Assume as by_assumption, Leaves, ProvableBy, FocusableBy, Fails}
use Rattle.lp_calculus.specs.Spine.{head_of}
use Rattle.lp_proof_laws.proofs.Uniform.Formulas.{quantified, at_witness, at_eigen, last_type}
use Rattle.lp_proof_laws.proofs.Uniform.Openings.{cons, IsOpen, Fits, open_formula, closed_open, fits_cons, fits_more, abs_at, body_at, past_shift, open_two, open_function, open_body, open_quantified}
use Rattle.lp_proof_laws.proofs.Uniform.Roots.{connective, sigma_type, pi_type}
use Rattle.lp_proof_laws.proofs.Uniform.Heads.{both_root_by, either_root_by, sigma_root_by, pi_root_by, implied_root_by, if_root_by, denial_root_by}
use Rattle.lp_proof_laws.proofs.Uniform.Settings.{IsSetting}
use Rattle.lp_model.specs.Flatten.{flat_goal, flat_clause}
use Rattle.lp_proof_laws.proofs.Uniform.FocusRoots.{pconv}
use Rattle.lp_proof_laws.proofs.Uniform.Assumptions.{Extends, Focuses, replaced_assumption}

-- raised goals read as the raised formula

map_same : (vs : List Ty) → map same_type vs ≡ vs
map_same [] = refl
map_same (v ∷ vs) = ap (λ us. v ∷ us) (map_same vs)

all_shift : (vs : List Ty) (from : ℕ) (t : Term) → all_of vs (shift (under_all suc vs from) 1 t) ≡ shift from 1 (all_of vs t)
all_shift [] from t = refl
all_shift (v ∷ vs) from t = all_shift vs from (pi_of v (abs t))

two_same : (c : ℕ) {A B X Y : Term} → A ≡ X → B ≡ Y → two c [] A B ≡ two c [] X Y
two_same c {A} {B} {X} {Y} e f = ap (λ z. two c [] z B) e ∙ ap (two c [] X) f

mutual
  pub goal_raise : (from : ℕ) (g : Goal) → formula_of_goal (map_goal suc (λ e t. shift e 1 t) same_type from g) ≡ shift from 1 (formula_of_goal g)
  goal_raise from (Atomic t) = refl
  goal_raise from Cut = refl
  goal_raise from (Either gs hs) = two_same 1 (goals_raise from gs) (goals_raise from hs)
  goal_raise from (Exists T gs) = ap (λ z. sigma_of T (abs z)) (goals_raise (suc from) gs)
  goal_raise from (Forall T gs) = ap (λ z. pi_of T (abs z)) (goals_raise (suc from) gs)
  goal_raise from (Assume w cs gs) = two_same 2 (clauses_raise from cs) (goals_raise from gs)
  goal_raise from (Not w gs) = ap not_of (goals_raise from gs)

  pub goals_raise : (from : ℕ) (gs : Goals) → formula_of_goals (map_goals suc (λ e t. shift e 1 t) same_type from gs) ≡ shift from 1 (formula_of_goals gs)
  goals_raise from no_goals = refl
  goals_raise from (goals g no_goals) = goal_raise from g
  goals_raise from (goals g (goals h gs)) = two_same 0 (goal_raise from g) (goals_raise from (goals h gs))

  pub clause_raise : (from : ℕ) (c : Clause) → formula_of_clause (map_clause suc (λ e t. shift e 1 t) same_type from c) ≡ shift from 1 (formula_of_clause c)
  clause_raise from (clause n vs h no_goals) = ap (λ z. all_of z (shift (under_all suc vs from) 1 h)) (map_same vs) ∙ all_shift vs from h
  clause_raise from (clause n vs h (goals g gs)) =
      ap (λ z. all_of z (two 2 [] (formula_of_goals (map_goals suc (λ e t. shift e 1 t) same_type (under_all suc vs from) (goals g gs)))
      (shift (under_all suc vs from) 1 h))) (map_same vs) ∙ ap (λ z. all_of vs (two 2 [] z (shift (under_all suc vs from) 1 h)))
      (goals_raise (under_all suc vs from) (goals g gs)) ∙ all_shift vs from (two 2 [] (formula_of_goals (goals g gs)) h)

  clauses_raise : (from : ℕ) (cs : Clauses) → formula_of_clauses (map_clauses suc (λ e t. shift e 1 t) same_type from cs) ≡ shift from 1 (formula_of_clauses cs)
  clauses_raise from no_clauses = refl
  clauses_raise from (clauses c no_clauses) = clause_raise from c
  clauses_raise from (clauses c (clauses e cs)) = two_same 0 (clause_raise from c) (clauses_raise from (clauses e cs))

pub formula_raise : (gs : Goals) → formula_of_goals (raise_goals 0 gs) ≡ shift 0 1 (formula_of_goals gs)
formula_raise gs = goals_raise 0 gs

module _ {L : Leaves} (d : Declared) (std : IsSetting L d) where
  pub open_truth : (Γ : List Ty) → IsOpen d Γ truth o_type
  open_truth Γ = record { typed = ap (scheme_type []) (std.standard.at 6 (omega arith)); within = tt }

  pub open_cut : (Γ : List Ty) → IsOpen d Γ cut o_type
  open_cut Γ = record { typed = ap (scheme_type []) (std.standard.at 7 (omega arith)); within = tt }

  pub truth_proved : (E : List Ty) (P : List ClauseFormula) → ProvableBy L d E P truth
  truth_proved E P = record { proof = True; holds = inl refl }

  -- the goals gs stand for the formula t and the goals behind it
  pub record GoalLaw (Γ : List Ty) (t : Term) (rest gs : Goals) : Type 0 where
    pub opens : IsOpen d Γ (formula_of_goals gs) o_type
    pub apart : (E : List Ty) (P : List ClauseFormula) (θ : ℕ → Term) → Fits d E Γ θ → ProvableBy L d E P (instantiate θ (formula_of_goals gs)) → ProvableBy L d E P (instantiate θ t) × ProvableBy L d E P (instantiate θ (formula_of_goals rest))
    pub together : (E : List Ty) (P : List ClauseFormula) (θ : ℕ → Term) → Fits d E Γ θ → ProvableBy L d E P (instantiate θ t) → ProvableBy L d E P (instantiate θ (formula_of_goals rest)) → ProvableBy L d E P (instantiate θ (formula_of_goals gs))

  -- with one goal in front
  pub in_front : (Γ : List Ty) (g : Goal) (rest : Goals) → IsOpen d Γ (formula_of_goal g) o_type → IsOpen d Γ (formula_of_goals rest) o_type → GoalLaw Γ (formula_of_goal g) rest (goals g rest)
  in_front Γ g no_goals o r = record { opens = o; apart = λ E P θ f p. (p, truth_proved E P); together = λ E P θ f p q. p }
  in_front Γ g (goals h hs) o r = record {
    opens = opens;
    apart = λ E P θ f p. both_root_by L d std.standard E P (instantiate θ (formula_of_goal g)) (instantiate θ (formula_of_goals (goals h hs))) (open_formula d E Γ θ _ f opens) (std.converting P) p;
    together = λ E P θ f p q. record { proof = And p.proof q.proof; holds = (_, _, refl, p.holds, q.holds) };
  }
    where
      opens : IsOpen d Γ (two 0 [] (formula_of_goal g) (formula_of_goals (goals h hs))) o_type
      opens = open_two d Γ 0 _ _ (connective d std.standard 0 (omega arith)) o r

  -- a formula provable where another is
  pub instead_of : (Γ : List Ty) (t u : Term) (rest gs : Goals) → GoalLaw Γ t rest gs →
      ((E : List Ty) (P : List ClauseFormula) (θ : ℕ → Term) → Fits d E Γ θ → ProvableBy L d E P (instantiate θ u) → ProvableBy L d E P
      (instantiate θ t)) → ((E : List Ty) (P : List ClauseFormula) (θ : ℕ → Term) → Fits d E Γ θ → ProvableBy L d E P (instantiate θ t) → ProvableBy L
      d E P (instantiate θ u)) → GoalLaw Γ u rest gs
  instead_of Γ t u rest gs l to from = record {
    opens = l.opens;
    apart = λ E P θ f p. let r = l.apart E P θ f p in (from E P θ f r.0, r.1);
    together = λ E P θ f p q. l.together E P θ f (to E P θ f p) q;
  }

  pub truth_law : (Γ : List Ty) (rest : Goals) → IsOpen d Γ (formula_of_goals rest) o_type → GoalLaw Γ truth rest rest
  truth_law Γ rest r = record { opens = r; apart = λ E P θ f p. (truth_proved E P, p); together = λ E P θ f p q. q }

  pub both_law : (Γ : List Ty) (a b : Term) (rest r gs : Goals) → IsOpen d Γ (two 0 [] a b) o_type → GoalLaw Γ b rest r → GoalLaw Γ a r gs → GoalLaw Γ (two 0 [] a b) rest gs
  both_law Γ a b rest r gs o l m = record {
    opens = m.opens;
    apart = λ E P θ f p.
        let x = m.apart E P θ f p in
        let y = l.apart E P θ f x.1 in
        (record { proof = And x.0.proof y.0.proof; holds = (_, _, refl, x.0.holds, y.0.holds) }, y.1);
    together = λ E P θ f p q.
        let x = both_root_by L d std.standard E P (instantiate θ a) (instantiate θ b) (open_formula d E Γ θ _ f o) (std.converting P) p in
        m.together E P θ f x.0 (l.together E P θ f x.1 q);
  }

  pub either_law : (Γ : List Ty) (a b : Term) (rest l r : Goals) → IsOpen d Γ (two 1 [] a b) o_type → IsOpen d Γ (formula_of_goals rest) o_type → GoalLaw Γ a no_goals l → GoalLaw Γ b no_goals r → GoalLaw Γ (two 1 [] a b) rest (goals (Either l r) rest)
  either_law Γ a b rest l r o rs x y = instead_of Γ (two 1 [] (formula_of_goals l) (formula_of_goals r)) (two 1 [] a b) rest (goals (Either l r) rest) (in_front Γ (Either l r) rest opens rs) to from
    where
      opens : IsOpen d Γ (two 1 [] (formula_of_goals l) (formula_of_goals r)) o_type
      opens = open_two d Γ 1 _ _ (connective d std.standard 1 (omega arith)) x.opens y.opens

      to : (E : List Ty) (P : List ClauseFormula) (θ : ℕ → Term) → Fits d E Γ θ → ProvableBy L d E P (instantiate θ (two 1 [] a b)) → ProvableBy L d E P (instantiate θ (two 1 [] (formula_of_goals l) (formula_of_goals r)))
      to E P θ f p = elim (either_root_by L d std.standard E P (instantiate θ a) (instantiate θ b) (open_formula d E Γ θ _ f o) (std.converting P) p) [
        | inl q ↦ let s = x.together E P θ f q (truth_proved E P) in record { proof = Left s.proof; holds = (_, _, refl, s.holds) }
        | inr q ↦ let s = y.together E P θ f q (truth_proved E P) in record { proof = Right s.proof; holds = (_, _, refl, s.holds) }
      ]

      from : (E : List Ty) (P : List ClauseFormula) (θ : ℕ → Term) → Fits d E Γ θ → ProvableBy L d E P (instantiate θ (two 1 [] (formula_of_goals l) (formula_of_goals r))) → ProvableBy L d E P (instantiate θ (two 1 [] a b))
      from E P θ f p = elim (either_root_by L d std.standard E P (instantiate θ (formula_of_goals l)) (instantiate θ (formula_of_goals r)) (open_formula d E Γ θ _ f opens) (std.converting P) p) [
        | inl q ↦ let s = (x.apart E P θ f q).0 in record { proof = Left s.proof; holds = (_, _, refl, s.holds) }
        | inr q ↦ let s = (y.apart E P θ f q).0 in record { proof = Right s.proof; holds = (_, _, refl, s.holds) }
      ]

  denial_is : (X : Ty) → scheme_type [] (d 24) ≡ Some (arrow X o_type) → X ≡ o_type
  denial_is X h = let e = sym (ap (scheme_type []) (std.standard.at 24 (omega arith))) ∙ h in cc

  pub open_argument : (Γ : List Ty) (g : Term) → IsOpen d Γ (not_of g) o_type → IsOpen d Γ g o_type
  open_argument Γ g o = record { typed = subst (Typed (under d []) Γ g) (denial_is o.typed.0 o.typed.1) o.typed.2; within = o.within.1 }

  -- a proof of either side is a failing search
  pub denied_law : (n : ℕ) (binders : List Bool) (Γ : List Ty) (g : Term) (rest gs : Goals) → flat_goal n d binders g no_goals ≡ Some gs → IsOpen d Γ
      (not_of g) o_type → IsOpen d Γ (formula_of_goals rest) o_type → IsOpen d Γ (formula_of_goals gs) o_type → GoalLaw Γ (not_of g) rest
      (goals (denied gs) rest)
  denied_law n binders Γ g rest gs e o rs os = instead_of Γ (not_of (formula_of_goals gs)) (not_of g) rest (goals (denied gs) rest) (in_front Γ (denied gs) rest opens rs)
      (λ E P θ f p. let x = denial_root_by L d std.standard E P (instantiate θ g) (open_formula d E Γ θ (not_of g) f o) (std.converting P) p in record { proof = Fails x.0; holds = (_, refl, (std.flat_goals n binders g gs e E Γ θ (open_argument Γ g o) f P x.0).0 x.1) })
      (λ E P θ f p. let x = denial_root_by L d std.standard E P (instantiate θ (formula_of_goals gs))
      (open_formula d E Γ θ (not_of (formula_of_goals gs)) f opens) (std.converting P) p in record
      { proof = Fails x.0; holds = (_, refl, (std.flat_goals n binders g gs e E Γ θ (open_argument Γ g o) f P x.0).1 x.1) })
    where
      opens : IsOpen d Γ (not_of (formula_of_goals gs)) o_type
      opens = record { typed = (o_type, subst (λ X. scheme_type [] (d 24) ≡ Some (arrow X o_type)) (denial_is o.typed.0 o.typed.1) o.typed.1, os.typed); within = (tt, os.within) }

  -- quantifiers

  eigen_fits : (E : List Ty) (T : Ty) → Typed (under d (E ++ T ∷ [])) [] (atom (eigen (suc (length E)))) T × IsClosedAt (length (E ++ T ∷ [])) (atom (eigen (suc (length E))))
  eigen_fits E T = (last_type E T, (let e = length-append E (T ∷ []) in omega arith))

  fits_new : (E Γ : List Ty) (θ : ℕ → Term) (T : Ty) → Fits d E Γ θ → Fits d (E ++ T ∷ []) (T ∷ Γ) (cons (atom (eigen (suc (length E)))) θ)
  fits_new E Γ θ T f = fits_cons d (E ++ T ∷ []) Γ θ (atom (eigen (suc (length E)))) T (fits_more d E (T ∷ []) Γ θ f) (eigen_fits E T)

  pub every_law : (Γ : List Ty) (T : Ty) (s : Term) (rest gs : Goals) → IsClosedType T → IsOpen d Γ (pi_of T s) o_type → IsOpen d Γ (formula_of_goals rest) o_type → GoalLaw (T ∷ Γ) (body_of s) no_goals gs → GoalLaw Γ (pi_of T s) rest (goals (Forall T gs) rest)
  every_law Γ T s rest gs k o rs l = instead_of Γ (pi_of T (abs (formula_of_goals gs))) (pi_of T s) rest (goals (Forall T gs) rest) (in_front Γ (Forall T gs) rest opens rs) to from
    where
      opens : IsOpen d Γ (pi_of T (abs (formula_of_goals gs))) o_type
      opens = open_quantified d Γ 4 T (formula_of_goals gs) (pi_type d std.standard T) k l.opens

      to : (E : List Ty) (P : List ClauseFormula) (θ : ℕ → Term) → Fits d E Γ θ → ProvableBy L d E P (instantiate θ (pi_of T s)) → ProvableBy L d E P (instantiate θ (pi_of T (abs (formula_of_goals gs))))
      to E P θ f p =
          let fine = open_formula d E Γ θ (pi_of T s) f o in
          let q = pi_root_by L d std.standard E P T (instantiate θ s) fine (std.converting P) p in
          let c : Term = atom (eigen (suc (length E))) in
          let fs = at_eigen d E T (instantiate θ s) (quantified d E 4 T (instantiate θ s) (pi_type d std.standard T) fine) in
          let g = fits_new E Γ θ T f in
          let b = pconv d (E ++ T ∷ []) P _ (instantiate (cons c θ) (body_of s)) fs (body_at s θ c) q in
          let r = l.together (E ++ T ∷ []) P (cons c θ) g b (truth_proved (E ++ T ∷ []) P) in
          let z = pconv d (E ++ T ∷ []) P _ (app (instantiate θ (abs (formula_of_goals gs))) c) (open_formula d (E ++ T ∷ []) (T ∷ Γ) (cons c θ) (formula_of_goals gs) g l.opens) (converts_sym (abs_at c θ (formula_of_goals gs))) r in
          record { proof = All z.proof; holds = (T, _, refl, z.holds) }

      from : (E : List Ty) (P : List ClauseFormula) (θ : ℕ → Term) → Fits d E Γ θ → ProvableBy L d E P (instantiate θ (pi_of T (abs (formula_of_goals gs)))) → ProvableBy L d E P (instantiate θ (pi_of T s))
      from E P θ f p =
          let fine = open_formula d E Γ θ (pi_of T (abs (formula_of_goals gs))) f opens in
          let q = pi_root_by L d std.standard E P T (instantiate θ (abs (formula_of_goals gs))) fine (std.converting P) p in
          let c : Term = atom (eigen (suc (length E))) in
          let fs = at_eigen d E T (instantiate θ (abs (formula_of_goals gs))) (quantified d E 4 T (instantiate θ (abs (formula_of_goals gs))) (pi_type d std.standard T) fine) in
          let g = fits_new E Γ θ T f in
          let b = pconv d (E ++ T ∷ []) P _ (instantiate (cons c θ) (formula_of_goals gs)) fs (abs_at c θ (formula_of_goals gs)) q in
          let r = (l.apart (E ++ T ∷ []) P (cons c θ) g b).0 in
          let ob = open_body d Γ T s (open_function d Γ 4 T s (pi_type d std.standard T) o) in
          let z = pconv d (E ++ T ∷ []) P _ (app (instantiate θ s) c) (open_formula d (E ++ T ∷ []) (T ∷ Γ) (cons c θ) (body_of s) g ob) (converts_sym (body_at s θ c)) r in
          record { proof = All z.proof; holds = (T, _, refl, z.holds) }

  pub exist_law : (Γ : List Ty) (T : Ty) (s : Term) (rest gs : Goals) → IsClosedType T → IsOpen d Γ (sigma_of T s) o_type → GoalLaw (T ∷ Γ) (body_of s) (raise_goals 0 rest) gs → GoalLaw Γ (sigma_of T s) rest (goals (Exists T gs) no_goals)
  exist_law Γ T s rest gs k o l = record { opens = opens; apart = apart; together = together }
    where
      opens : IsOpen d Γ (sigma_of T (abs (formula_of_goals gs))) o_type
      opens = open_quantified d Γ 5 T (formula_of_goals gs) (sigma_type d std.standard T) k l.opens

      behind : (w : Term) (θ : ℕ → Term) → instantiate (cons w θ) (formula_of_goals (raise_goals 0 rest)) ≡ instantiate θ (formula_of_goals rest)
      behind w θ = ap (instantiate (cons w θ)) (formula_raise rest) ∙ past_shift w θ (formula_of_goals rest)

      apart : (E : List Ty) (P : List ClauseFormula) (θ : ℕ → Term) → Fits d E Γ θ → ProvableBy L d E P (instantiate θ (sigma_of T (abs (formula_of_goals gs)))) → ProvableBy L d E P (instantiate θ (sigma_of T s)) × ProvableBy L d E P (instantiate θ (formula_of_goals rest))
      apart E P θ f p =
          let fine = open_formula d E Γ θ (sigma_of T (abs (formula_of_goals gs))) f opens in
          let q = sigma_root_by L d std.standard E P T (instantiate θ (abs (formula_of_goals gs))) fine (std.converting P) p in
          let w = q.0 in
          let g = fits_cons d E Γ θ w T f (q.1.typed, q.1.closed) in
          let fs = at_witness d E T (instantiate θ (abs (formula_of_goals gs))) w (quantified d E 5 T (instantiate θ (abs (formula_of_goals gs))) (sigma_type d std.standard T) fine) q.1 in
          let r = l.apart E P (cons w θ) g (pconv d E P _ (instantiate (cons w θ) (formula_of_goals gs)) fs (abs_at w θ (formula_of_goals gs)) q.2) in
          let ob = open_body d Γ T s (open_function d Γ 5 T s (sigma_type d std.standard T) o) in
          let z = pconv d E P _ (app (instantiate θ s) w) (open_formula d E (T ∷ Γ) (cons w θ) (body_of s) g ob) (converts_sym (body_at s θ w)) r.0 in
          (record { proof = Witness w z.proof; holds = (T, _, refl, q.1, z.holds) }, subst (ProvableBy L d E P) (behind w θ) r.1)

      together : (E : List Ty) (P : List ClauseFormula) (θ : ℕ → Term) → Fits d E Γ θ → ProvableBy L d E P (instantiate θ (sigma_of T s)) → ProvableBy L d E P (instantiate θ (formula_of_goals rest)) → ProvableBy L d E P (instantiate θ (sigma_of T (abs (formula_of_goals gs))))
      together E P θ f p y =
          let fine = open_formula d E Γ θ (sigma_of T s) f o in
          let q = sigma_root_by L d std.standard E P T (instantiate θ s) fine (std.converting P) p in
          let w = q.0 in
          let g = fits_cons d E Γ θ w T f (q.1.typed, q.1.closed) in
          let fs = at_witness d E T (instantiate θ s) w (quantified d E 5 T (instantiate θ s) (sigma_type d std.standard T) fine) q.1 in
          let r = l.together E P (cons w θ) g (pconv d E P _ (instantiate (cons w θ) (body_of s)) fs (body_at s θ w) q.2) (subst (ProvableBy L d E P) (sym (behind w θ)) y) in
          let z = pconv d E P _ (app (instantiate θ (abs (formula_of_goals gs))) w) (open_formula d E (T ∷ Γ) (cons w θ) (formula_of_goals gs) g l.opens) (converts_sym (abs_at w θ (formula_of_goals gs))) r in
          record { proof = Witness w z.proof; holds = (T, _, refl, q.1, z.holds) }

  -- the clauses cs stand for the formula D: one can focus on the one where one can on the other
  pub record ClauseLaw (Γ : List Ty) (D : Term) (cs : Clauses) : Type 0 where
    pub opens : IsOpen d Γ (formula_of_clauses cs) o_type
    pub to : (E : List Ty) (P : List ClauseFormula) (θ : ℕ → Term) (A : Term) → Fits d E Γ θ → IsAtomHead (head_of A) → FocusableBy L d E P (instantiate θ D) A → FocusableBy L d E P (instantiate θ (formula_of_clauses cs)) A
    pub from : (E : List Ty) (P : List ClauseFormula) (θ : ℕ → Term) (A : Term) → Fits d E Γ θ → IsAtomHead (head_of A) → FocusableBy L d E P (instantiate θ (formula_of_clauses cs)) A → FocusableBy L d E P (instantiate θ D) A

  fits_extends : (E F Γ : List Ty) (θ : ℕ → Term) → Fits d E Γ θ → Extends E F → Fits d F Γ θ
  fits_extends E F Γ θ f x = subst (λ z. Fits d z Γ θ) (sym x.is) (fits_more d E x.rest Γ θ f)

  -- the goal g under the clause c
  module _ (n : ℕ) (binders : List Bool) (Γ : List Ty) (c g : Term) (cs : Clauses) (gs : Goals) (flat : flat_clause n d binders c [] [] ≡ Some cs) (oc : IsOpen d Γ c o_type) (x : ClauseLaw Γ c cs) (y : GoalLaw Γ g no_goals gs) where
    under_flat : (E : List Ty) (P : List ClauseFormula) (θ : ℕ → Term) → Fits d E Γ θ → ProvableBy L d E (P ++ assumed (instantiate θ c) ∷ []) (instantiate θ g) → ProvableBy L d E (P ++ assumed (instantiate θ (formula_of_clauses cs)) ∷ []) (instantiate θ (formula_of_goals gs))
    unfolding Focuses
    under_flat E P θ f p =
        let q = y.together E (P ++ assumed (instantiate θ c) ∷ []) θ f p (truth_proved E (P ++ assumed (instantiate θ c) ∷ [])) in
        replaced_assumption L d E P (instantiate θ c) (instantiate θ (formula_of_clauses cs)) (instantiate θ (formula_of_goals gs))
        (closed_open d E Γ θ c o_type f oc).1 (closed_open d E Γ θ (formula_of_clauses cs) o_type f x.opens).1
        (std.flat_clauses n binders c cs flat E Γ θ oc f P).0 (λ F e R A i h. x.to F R θ A (fits_extends E F Γ θ f e) i h) q

    under_formula : (E : List Ty) (P : List ClauseFormula) (θ : ℕ → Term) → Fits d E Γ θ → ProvableBy L d E (P ++ assumed (instantiate θ (formula_of_clauses cs)) ∷ []) (instantiate θ (formula_of_goals gs)) → ProvableBy L d E (P ++ assumed (instantiate θ c) ∷ []) (instantiate θ g)
    unfolding Focuses
    under_formula E P θ f p =
        let q = replaced_assumption L d E P (instantiate θ (formula_of_clauses cs)) (instantiate θ c) (instantiate θ (formula_of_goals gs))
        (closed_open d E Γ θ (formula_of_clauses cs) o_type f x.opens).1 (closed_open d E Γ θ c o_type f oc).1
        (std.flat_clauses n binders c cs flat E Γ θ oc f P).1 (λ F e R A i h. x.from F R θ A (fits_extends E F Γ θ f e) i h) p in
        (y.apart E (P ++ assumed (instantiate θ c) ∷ []) θ f q).0

    open_implied : IsOpen d Γ (two 2 [] (formula_of_clauses cs) (formula_of_goals gs)) o_type
    open_implied = open_two d Γ 2 _ _ (connective d std.standard 2 (omega arith)) x.opens y.opens

    pub implied_law : (rest : Goals) → IsOpen d Γ (two 2 [] c g) o_type → IsOpen d Γ (formula_of_goals rest) o_type → GoalLaw Γ (two 2 [] c g) rest (goals (assuming cs gs) rest)
    implied_law rest o rs = instead_of Γ (two 2 [] (formula_of_clauses cs) (formula_of_goals gs)) (two 2 [] c g) rest (goals (assuming cs gs) rest) (in_front Γ (assuming cs gs) rest open_implied rs) (λ E P θ f p.
        let q = under_flat E P θ f (implied_root_by L d std.standard E P (instantiate θ c) (instantiate θ g) (open_formula d E Γ θ (two 2 [] c g) f o) (std.converting P) p) in
        record { proof = by_assumption q.proof; holds = (_, _, inl refl, q.holds) }) (λ E P θ f p.
        let q = under_formula E P θ f (implied_root_by L d std.standard E P (instantiate θ (formula_of_clauses cs)) (instantiate θ (formula_of_goals gs)) (open_formula d E Γ θ _ f open_implied) (std.converting P) p) in
        record { proof = by_assumption q.proof; holds = (_, _, inl refl, q.holds) })

    pub if_law : (rest : Goals) → IsOpen d Γ (two 3 [] g c) o_type → IsOpen d Γ (formula_of_goals rest) o_type → GoalLaw Γ (two 3 [] g c) rest (goals (assuming cs gs) rest)
    if_law rest o rs = instead_of Γ (two 2 [] (formula_of_clauses cs) (formula_of_goals gs)) (two 3 [] g c) rest (goals (assuming cs gs) rest) (in_front Γ (assuming cs gs) rest open_implied rs) (λ E P θ f p.
        let q = under_flat E P θ f (if_root_by L d std.standard E P (instantiate θ g) (instantiate θ c) (open_formula d E Γ θ (two 3 [] g c) f o) (std.converting P) p) in
        record { proof = by_assumption q.proof; holds = (_, _, inl refl, q.holds) }) (λ E P θ f p.
        let q = under_formula E P θ f (implied_root_by L d std.standard E P (instantiate θ (formula_of_clauses cs)) (instantiate θ (formula_of_goals gs)) (open_formula d E Γ θ _ f open_implied) (std.converting P) p) in
        record { proof = by_assumption q.proof; holds = (_, _, inr refl, q.holds) })
