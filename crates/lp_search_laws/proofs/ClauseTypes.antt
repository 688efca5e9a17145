-- A focus on a sentence of the program, with types for its type variables, and on an assumed clause, which has none of its own.
use Rattle.lp_proof_laws.proofs.Uniform.Settings.{IsSetting}
use Rattle.std.proofs.Common.{◌≡◌, ℕ, ◌<◌, List, [], length, ◌∙◌, refl, sym, ap, subst as transport, arith, true, false, if◌then◌else◌}
use Rattle.std.specs.Prelude.{nat_lt}
use Rattle.std.proofs.lemmas.Bool.Decides.{nat_tests}
use mathlib.Core.Path.{fun_ext}
use Rattle.lp_calculus.specs.Types.{Ty}
use Rattle.lp_calculus.specs.Term.{Term, Atom, atom, constant, integer, text, eigen, logic, param}
use Rattle.lp_calculus.specs.Fill.{close, at_variables}
use Rattle.lp_calculus.specs.Typing.{type_at}
use Rattle.lp_calculus.specs.Instance.{instance_term}
use Rattle.lp_calculus.specs.Closed.{AreClosed, IsClosedAtom}
use Rattle.lp_calculus.proofs.Fills.{fill_none}
use Rattle.lp_calculus.specs.Spine.{head_of}
use Rattle.lp_model.specs.Pair.{Closing, closed}
use Rattle.lp_model.specs.Flat.{Clause, clause, formula_of_clause}
use Rattle.lp_model.specs.Flatten.{ClauseFormula}
use Rattle.lp_model.specs.Proofs.{Declared, IsFormula, IsAtomHead, Leaves, FocusableBy}
use Rattle.lp_proof_laws.proofs.Uniform.Formulas.{formula_eigens, closed_instance}
use Rattle.lp_search_laws.specs.Clauses.{with_own, Applies, Serves, IsInFocus, sentence_of, assumed_as, IsProgramClause, IsAssumedClause}
use Rattle.lp_search_laws.proofs.InFocus.{focus_applies, applies_focus}

-- no variable stands in a closed term
no_variable : (n : ℕ) (σ : ℕ → ℕ → Term) (a : Atom) → IsClosedAtom n a → at_variables σ a ≡ atom a
no_variable n σ (constant c ts) h = refl
no_variable n σ (integer z) h = refl
no_variable n σ (text s) h = refl
no_variable n σ (eigen k) h = refl
no_variable n σ (logic x l) h = absurd h
no_variable n σ (param k T) h = refl

own_first : (k : ℕ) (ts : List Ty) (c : Closing) (i : ℕ) → i < k → (with_own k ts c).types i ≡ type_at ts i
own_first k ts c i l = let e : nat_lt i k ≡ true = grind (arith, nat_tests) in ap (λ b. if b then type_at ts i else c.types i) e

none_own : (ts : List Ty) (c : Closing) → with_own 0 ts c ≡ c
none_own ts c = ap (λ θ. record { types = θ; terms = c.terms }) (fun_ext (λ i. let e : nat_lt i 0 ≡ false = grind (arith, nat_tests) in ap (λ b. if b then type_at ts i else c.types i) e))

module _ {L : Leaves} (d : Declared) (std : IsSetting L d) (E : List Ty) (P : List ClauseFormula) (c : Closing) (A : Term) (at_atom : IsAtomHead (head_of A)) where
  own_instance : (x : Clause) (ts : List Ty) → IsProgramClause d x → length ts ≡ (sentence_of x).type_vars → AreClosed ts → closed (with_own (sentence_of x).type_vars ts c) (formula_of_clause x) ≡ instance_term (type_at ts) (formula_of_clause x)
  own_instance (clause k vs h b) ts p l t =
      ap (close c.terms) (p.own (with_own k ts c).types (type_at ts) (λ i j. own_first k ts c i j)) ∙
      fill_none (IsClosedAtom 0) (at_variables c.terms) (no_variable 0 c.terms) 0 (instance_term (type_at ts) (formula_of_clause (clause k vs h b))) (p.sentence.instances ts l t).closed

  own_formula : (x : Clause) (ts : List Ty) → IsProgramClause d x → length ts ≡ (sentence_of x).type_vars → AreClosed ts → IsFormula d E (closed (with_own (sentence_of x).type_vars ts c) (formula_of_clause x))
  own_formula (clause k vs h b) ts p l t =
      transport (IsFormula d E) (sym (own_instance (clause k vs h b) ts p l t)) (formula_eigens d [] E (instance_term (type_at ts) (formula_of_clause (clause k vs h b))) (p.sentence.instances ts l t))

  pub sentence_serves : (x : Clause) → IsProgramClause d x → IsInFocus L d E P (sentence_of x) A → Serves L d E P c x A
  sentence_serves (clause k vs h b) p r =
      let x = clause k vs h b in
      let e = own_instance x r.types p r.long r.types_closed in
      let f = own_formula x r.types p r.long r.types_closed in
      record { types = r.types; long = r.long; types_closed = r.types_closed; applies = focus_applies d std E P A at_atom (with_own k r.types c) k vs h b p.head f (transport (λ z. FocusableBy L d E P z A) (sym e) r.focus) }

  pub serves_sentence : (x : Clause) → IsProgramClause d x → Serves L d E P c x A → IsInFocus L d E P (sentence_of x) A
  serves_sentence (clause k vs h b) p r =
      let x = clause k vs h b in
      let e = own_instance x r.types p r.long r.types_closed in
      let f = own_formula x r.types p r.long r.types_closed in
      record { types = r.types; long = r.long; types_closed = r.types_closed; focus = transport (λ z. FocusableBy L d E P z A) e (applies_focus d std E P A at_atom (with_own k r.types c) k vs h b p.head f r.applies) }

  none_of_it : (k : ℕ) (ts : List Ty) → k ≡ 0 → with_own k ts c ≡ c
  none_of_it k ts e = ap (λ n. with_own n ts c) e ∙ none_own ts c

  pub assumed_serves : (x : Clause) → IsAssumedClause d E c x → IsInFocus L d E P (assumed_as c x) A → Serves L d E P c x A
  assumed_serves (clause k vs h b) p r =
      let e = closed_instance (length E) (type_at r.types) (closed c (formula_of_clause (clause k vs h b))) p.formula.closed in
      let a = focus_applies d std E P A at_atom c k vs h b p.head p.formula (transport (λ z. FocusableBy L d E P z A) e r.focus) in
      record { types = []; long = sym p.none_own; types_closed = tt; applies = transport (λ z. Applies L d E P z vs h b A) (sym (none_of_it k [] p.none_own)) a }

  pub serves_assumed : (x : Clause) → IsAssumedClause d E c x → Serves L d E P c x A → IsInFocus L d E P (assumed_as c x) A
  serves_assumed (clause k vs h b) p r =
      let e = closed_instance (length E) (type_at []) (closed c (formula_of_clause (clause k vs h b))) p.formula.closed in
      let a = transport (λ z. Applies L d E P z vs h b A) (none_of_it k r.types p.none_own) r.applies in
      record { types = []; long = refl; types_closed = tt; focus = transport (λ z. FocusableBy L d E P z A) (sym e) (applies_focus d std E P A at_atom c k vs h b p.head p.formula a) }
