-- A focus on one clause for an atom: terms for its variables one by one, the outermost first, then its goals, then its head.
use Rattle.lp_proof_laws.proofs.Uniform.Settings.{IsSetting}
use Rattle.std.proofs.Common.{◌≡◌, ℕ, zero, suc, List, [], ◌∷◌, map, length, ◌∙◌, refl, sym, ap, subst as transport, arith, inl, inr}
use Rattle.std.specs.Prelude.{true, false}
use mathlib.Core.Path.{fun_ext}
use Rattle.lp_calculus.specs.Types.{Ty, instance}
use Rattle.lp_calculus.specs.Term.{Term, abs, app, substitute}
use Rattle.lp_calculus.specs.Convert.{Converts, same, ReducesTo, done, then_step, here, by_beta}
use Rattle.lp_calculus.specs.Closed.{IsClosedAtom}
use Rattle.lp_calculus.specs.Fill.{Within}
use Rattle.lp_calculus.proofs.Fills.{subst_closed}
use Rattle.lp_calculus.proofs.Steps.{converts_on, converts_sym}
use Rattle.lp_model.specs.Index.{instantiate, lifted, at}
use Rattle.lp_calculus.specs.Spine.{head_of}
use Rattle.lp_model.specs.Pair.{Closing, closed}
use Rattle.lp_standard.specs.Connectives.{pi_of}
use Rattle.lp_model.specs.Flat.{Goals, no_goals, goals, clause, all_of, formula_of_goals, formula_of_clause}
use Rattle.lp_model.specs.Flatten.{ClauseFormula}
use Rattle.lp_model.specs.Proofs.{Declared, IsFormula, IsWitness, IsAtomHead, Focus, FConv, FAll, FTake, FNeed, FHit, focuses_by, True, Leaves, ProvableBy, FocusableBy}
use Rattle.lp_proof_laws.proofs.Uniform.Formulas.{quantified, at_witness}
use Rattle.lp_proof_laws.proofs.Uniform.Openings.{cons, instantiate_subst, open_lifted, abs_at}
use Rattle.lp_proof_laws.proofs.Uniform.Roots.{pi_type}
use Rattle.lp_proof_laws.proofs.Uniform.FocusRoots.{no_hit, fconv, pi_focus, implied_focus}
use Rattle.lp_search_laws.specs.Clauses.{AreWitnessesAt, Applies}
use Rattle.lp_search_laws.proofs.Closed.{formula_reduces}
use Rattle.lp_search_laws.proofs.ClosedClauses.{under_goals, closed_clause, atom_closed, atom_instantiated}

-- a focus on an atom is a hit
atom_hit : (L : Leaves) (d : Declared) (E : List Ty) (P : List ClauseFormula) (D H A : Term) → IsAtomHead (head_of H) → Converts D H → (f : Focus) → focuses_by L d E P D A f → Converts H A
atom_hit L d E P D H A i c (FConv K f) h = atom_hit _ d E P K H A i (converts_on h.1 c) f h.2
atom_hit L d E P D H A i c (FAll t f) h = absurd (no_hit 4 (h.0 ∷ []) (h.1 ∷ []) H (omega arith) i (transport (λ z. Converts z H) h.2 c))
atom_hit L d E P D H A i c (FTake true f) h = absurd (no_hit 0 [] (h.0 ∷ h.1 ∷ []) H (omega arith) i (transport (λ z. Converts z H) h.2 c))
atom_hit L d E P D H A i c (FTake false f) h = absurd (no_hit 0 [] (h.0 ∷ h.1 ∷ []) H (omega arith) i (transport (λ z. Converts z H) h.2 c))
atom_hit L d E P D H A i c (FNeed p f) h = elim h.2 [
  | inl e ↦ absurd (no_hit 2 [] (h.0 ∷ h.1 ∷ []) H (omega arith) i (transport (λ z. Converts z H) e c))
  | inr e ↦ absurd (no_hit 3 [] (h.1 ∷ h.0 ∷ []) H (omega arith) i (transport (λ z. Converts z H) e c))
]
atom_hit L d E P D H A i c FHit h = converts_on (converts_sym c) h

instantiate_closed : (P : _) (f : ℕ → Term) (t : Term) → Within P 0 t → instantiate f t ≡ t
instantiate_closed P f t w = instantiate_subst f t ∙ subst_closed P f 0 (λ i l. absurd (omega (arith, l))) t w

at_more : (t : Term) (ts : List Term) (i : ℕ) → cons t (at ts) i ≡ at (t ∷ ts) i
at_more t ts zero = refl
at_more t ts (suc i) = refl

put_first : (t : Term) (ts : List Term) (u : Term) → instantiate (cons t (at ts)) u ≡ instantiate (at (t ∷ ts)) u
put_first t ts u = ap (λ f. instantiate f u) (fun_ext (at_more t ts))

opens : (t : Term) (f : ℕ → Term) (u : Term) → ReducesTo (app (instantiate f (abs u)) t) (instantiate (cons t f) u)
opens t f u = then_step (here (by_beta (instantiate (lifted f) u) t)) (transport (ReducesTo (substitute t (instantiate (lifted f) u))) (open_lifted t f u) (done (substitute t (instantiate (lifted f) u))))

module _ {L : Leaves} (d : Declared) (std : IsSetting L d) (E : List Ty) (P : List ClauseFormula) (A : Term) (at_atom : IsAtomHead (head_of A)) where
  applied : (T : Ty) (t : Term) (f : ℕ → Term) (u : Term) → IsFormula d E (pi_of T (instantiate f (abs u))) → IsWitness d E t T → IsFormula d E (app (instantiate f (abs u)) t)
  applied T t f u i w = at_witness d E T (instantiate f (abs u)) t (quantified d E 4 T (instantiate f (abs u)) (pi_type d std.standard T) i) w

  pub all_formula : (vs : List Ty) (ws : List Term) (t : Term) → IsFormula d E (all_of vs t) → AreWitnessesAt d E ws vs → IsFormula d E (instantiate (at ws) t)
  all_formula [] [] t i w = transport (IsFormula d E) (sym (instantiate_closed (IsClosedAtom (length E)) (at []) t i.closed)) i
  all_formula [] (x ∷ ws) t i w = absurd w
  all_formula (T ∷ vs) [] t i w = absurd w
  all_formula (T ∷ vs) (x ∷ ws) t i w =
      let q = all_formula vs ws (pi_of T (abs t)) i w.1 in
      transport (IsFormula d E) (put_first x ws t) (formula_reduces d E (opens x (at ws) t) (applied T x (at ws) t q w.0))

  all_split : (vs : List Ty) (t : Term) → IsFormula d E (all_of vs t) → FocusableBy L d E P (all_of vs t) A → (ws : List Term) × AreWitnessesAt d E ws vs × FocusableBy L d E P (instantiate (at ws) t) A
  all_split [] t i r = ([], tt, transport (λ z. FocusableBy L d E P z A) (sym (instantiate_closed (IsClosedAtom (length E)) (at []) t i.closed)) r)
  all_split (T ∷ vs) t i r =
      let q = all_split vs (pi_of T (abs t)) i r in
      let f = all_formula vs q.0 (pi_of T (abs t)) i q.1 in
      let p = pi_focus d std.standard E P A at_atom T (instantiate (at q.0) (abs t)) f q.2 in
      let x = fconv d E P (app (instantiate (at q.0) (abs t)) p.0) (instantiate (cons p.0 (at q.0)) t) A (applied T p.0 (at q.0) t f p.1) (abs_at p.0 (at q.0) t) p.2 in
      (p.0 ∷ q.0, (p.1, q.1), transport (λ z. FocusableBy L d E P z A) (put_first p.0 q.0 t) x)

  all_join : (vs : List Ty) (ws : List Term) (t : Term) → IsFormula d E (all_of vs t) → AreWitnessesAt d E ws vs → FocusableBy L d E P (instantiate (at ws) t) A → FocusableBy L d E P (all_of vs t) A
  all_join [] [] t i w r = transport (λ z. FocusableBy L d E P z A) (instantiate_closed (IsClosedAtom (length E)) (at []) t i.closed) r
  all_join [] (x ∷ ws) t i w r = absurd w
  all_join (T ∷ vs) [] t i w r = absurd w
  all_join (T ∷ vs) (x ∷ ws) t i w r =
      let f = all_formula (T ∷ vs) (x ∷ ws) t i w in
      let y = transport (λ z. FocusableBy L d E P z A) (sym (put_first x ws t)) r in
      let g = transport (IsFormula d E) (sym (put_first x ws t)) f in
      let z = fconv d E P (instantiate (cons x (at ws)) t) (app (instantiate (at ws) (abs t)) x) A g (converts_sym (abs_at x (at ws) t)) y in
      all_join vs ws (pi_of T (abs t)) i w.1 (record { focus = FAll x z.focus; holds = (T, _, refl, w.0, z.holds) })

  goals_split : (c : Closing) (b : Goals) (h : Term) (f : ℕ → Term) → IsFormula d E (instantiate f (under_goals b (closed c (formula_of_goals b)) h)) → FocusableBy L d E P (instantiate f (under_goals b (closed c (formula_of_goals b)) h)) A →
      ProvableBy L d E P (instantiate f (closed c (formula_of_goals b))) × FocusableBy L d E P (instantiate f h) A
  goals_split c no_goals h f i r = (record { proof = True; holds = inl refl }, r)
  goals_split c (goals g gs) h f i r = implied_focus d std.standard E P A at_atom (instantiate f (closed c (formula_of_goals (goals g gs)))) (instantiate f h) i r

  goals_join : (c : Closing) (b : Goals) (h : Term) (f : ℕ → Term) → ProvableBy L d E P (instantiate f (closed c (formula_of_goals b))) → FocusableBy L d E P (instantiate f h) A → FocusableBy L d E P (instantiate f (under_goals b (closed c (formula_of_goals b)) h)) A
  goals_join c no_goals h f p r = r
  goals_join c (goals g gs) h f p r = record { focus = FNeed p.proof r.focus; holds = (_, _, inl refl, p.holds, r.holds) }

  module _ (c : Closing) (k : ℕ) (vs : List Ty) (h : Term) (b : Goals) (head : IsAtomHead (head_of h)) (fine : IsFormula d E (closed c (formula_of_clause (clause k vs h b)))) where
    abbrev inside : Term
    inside = under_goals b (closed c (formula_of_goals b)) (closed c h)

    is : closed c (formula_of_clause (clause k vs h b)) ≡ all_of (map (instance c.types) vs) inside
    is = closed_clause (IsClosedAtom (length E)) c k vs h b fine.closed

    formula : IsFormula d E (all_of (map (instance c.types) vs) inside)
    formula = transport (IsFormula d E) is fine

    pub focus_applies : FocusableBy L d E P (closed c (formula_of_clause (clause k vs h b))) A → Applies L d E P c vs h b A
    focus_applies r =
        let us = map (instance c.types) vs in
        let q = all_split us inside formula (transport (λ z. FocusableBy L d E P z A) is r) in
        let p = goals_split c b (closed c h) (at q.0) (all_formula us q.0 inside formula q.1) q.2 in
        let a = atom_instantiated (at q.0) (closed c h) (atom_closed c h head) in
        record { values = q.0; witnesses = q.1; head = atom_hit _ d E P _ (instantiate (at q.0) (closed c h)) A a (same _) p.1.focus p.1.holds; goals = p.0 }

    pub applies_focus : Applies L d E P c vs h b A → FocusableBy L d E P (closed c (formula_of_clause (clause k vs h b))) A
    applies_focus r =
        let us = map (instance c.types) vs in
        let y = goals_join c b (closed c h) (at r.values) r.goals (record { focus = FHit; holds = r.head }) in
        transport (λ z. FocusableBy L d E P z A) (sym is) (all_join us r.values inside formula r.witnesses y)
