-- The flattened clauses of a program in the place of its sentences: who focuses on a sentence focuses on one of its clauses, and the other way.
use Rattle.std.proofs.Common.{◌≡◌, ℕ, zero, suc, List, [], ◌∷◌, ◌++◌, map, length, Some, refl, sym, ap, ◌∙◌, subst as transport, inl, inr, arith, append_assoc}
use Rattle.std.proofs.lemmas.List.{map-append}
use Rattle.std.specs.Prelude.{slice_get, option_map}
use Rattle.lp_lemmas.proofs.Options.{and_then_some, option_map_some}
use Rattle.lp_calculus.specs.Types.{Ty}
use Rattle.lp_calculus.specs.Term.{Term}
use Rattle.lp_calculus.specs.Convert.{ReducesTo}
use Rattle.lp_calculus.specs.Typing.{type_at}
use Rattle.lp_calculus.specs.Instance.{instance_term}
use Rattle.lp_calculus.specs.Closed.{AreClosed}
use Rattle.lp_calculus.proofs.Steps.{converts_reduces, converts_sym}
use Rattle.lp_lemmas.specs.Each.{EachOf}
use Rattle.lp_model.specs.Pair.{Closing, closed}
use Rattle.lp_calculus.specs.Spine.{head_of}
use Rattle.lp_model.specs.Eigens.{beta_normal}
use Rattle.lp_standard.specs.Connectives.{two}
use Rattle.lp_model.specs.Flat.{Goals, no_goals, goals, Clause, clause, Clauses, no_clauses, clauses, clause_list, formula_of_clause, formula_of_clauses}
use Rattle.lp_model.specs.Flatten.{ClauseFormula, with_type_vars, flatten, flat_clause}
use Rattle.lp_standard.specs.Schemes.{IsStandard}
use Rattle.lp_model.specs.Proofs.{AreFlattened, Declared, IsFormula, IsSentence, IsAtomHead, assumed, Leaves, ProvableBy, FocusableBy}
use Rattle.lp_proof_laws.proofs.Uniform.Formulas.{formula_eigens, closed_instance, parts}
use Rattle.lp_proof_laws.proofs.Uniform.Roots.{connective}
use Rattle.lp_proof_laws.proofs.Uniform.FocusRoots.{fconv}
use Rattle.lp_proof_laws.proofs.Uniform.Contexts.{get_split}
use Rattle.lp_proof_laws.proofs.Uniform.Assumptions.{Extends, Focuses, AreKept}
use Rattle.lp_proof_laws.proofs.Flattened.TypedFlat.{instance_flat}
use Rattle.lp_proof_laws.proofs.Flattened.Flattens.{flattened_clause}
use Rattle.lp_proof_laws.proofs.Flattened.ReadsBack.{to_flat, from_flat}
use Rattle.lp_unify_laws.proofs.Looks.{beta_reduces}
use Rattle.lp_unify_laws.proofs.NewInstances.{reduces_instance}
use Rattle.lp_unify_laws.proofs.TypedInstances.{get_map}
use Rattle.lp_search_laws.specs.Clauses.{sentence_of, assumed_as, assumed_at}
use Rattle.lp_search_laws.proofs.AssumedLists.{got_assumed, get_assumed}
use Rattle.lp_search_laws.proofs.Closed.{formula_reduces}
use Rattle.lp_proof_laws.proofs.Uniform.Settings.{IsSetting, without_leaves}
use Rattle.lp_search_laws.proofs.Serving.{Served, Serves, served_in_front, served_behind, serves_more, serves_first, serves_eigens, served}
use Rattle.lp_search_laws.proofs.Apart.{KeepsBoth, IsOneOf, split_focus, join_focus}

types_keep : (θ : ℕ → Ty) → KeepsBoth (instance_term θ)
types_keep θ = record { truth = refl; both = λ a b. refl }

-- the count of type variables does not show in the formula
same_formula : (n k : ℕ) (vs : List Ty) (h : Term) (b : Goals) → formula_of_clause (clause n vs h b) ≡ formula_of_clause (clause k vs h b)
same_formula n k vs h no_goals = refl
same_formula n k vs h (goals g gs) = refl

formulas_of : (k : ℕ) (cs : Clauses) → formula_of_clauses (with_type_vars k cs) ≡ formula_of_clauses cs
formulas_of k no_clauses = refl
formulas_of k (clauses (clause n vs h b) no_clauses) = same_formula k n vs h b
formulas_of k (clauses (clause n vs h b) (clauses (clause m us j a) cs)) = λ i. two 0 [] (same_formula k n vs h b i) (formulas_of k (clauses (clause m us j a) cs) i)

type_vars_of : (k : ℕ) (cs : Clauses) (j : ℕ) (c : Clause) → slice_get (clause_list (with_type_vars k cs)) j ≡ Some c → (sentence_of c).type_vars ≡ k
type_vars_of k no_clauses j c e = absurd (cc)
type_vars_of k (clauses (clause n vs h b) cs) zero c e = let g : clause k vs h b ≡ c = cc in ap (λ z. (sentence_of z).type_vars) (sym g)
type_vars_of k (clauses (clause n vs h b) cs) (suc j) c e = type_vars_of k cs j c e

formula_is : (c : Clause) → (sentence_of c).formula ≡ formula_of_clause c
formula_is (clause k vs h b) = refl

-- what a formula is flattened to, by its beta-normal form
pub record IsFlattened (n : ℕ) (d : Declared) (D : ClauseFormula) (cs : Clauses) : Type 0 where
  pub form : Term
  pub plain : Clauses
  pub leads : ReducesTo D.formula form
  pub flat : flat_clause n d [] form [] [] ≡ Some plain
  pub is : with_type_vars D.type_vars plain ≡ cs

pub flattened : (n : ℕ) (d : Declared) (D : ClauseFormula) (cs : Clauses) → flatten n d D ≡ Some cs → IsFlattened n d D cs
flattened n d D cs e =
    let b = and_then_some (beta_normal n D.formula) (λ t. option_map (with_type_vars D.type_vars) (flat_clause n d [] t [] [])) cs e in
    let m = option_map_some (flat_clause n d [] b.0 [] []) (with_type_vars D.type_vars) cs b.2 in
    record { form = b.0; plain = m.0; leads = beta_reduces n D.formula b.0 b.1; flat = m.1; is = m.2 }

module _ {L : Leaves} (d : Declared) (std : IsSetting L d) (n : ℕ) (D : ClauseFormula) (cs : Clauses) (x : IsFlattened n d D cs) (s : IsSentence d D) where
  -- with types for its type variables
  module _ (ts : List Ty) (l : length ts ≡ D.type_vars) (k : AreClosed ts) where
    form_flat : (ds : Clauses) × (flat_clause n d [] (instance_term (type_at ts) x.form) [] [] ≡ Some ds) × (formula_of_clauses ds ≡ instance_term (type_at ts) (formula_of_clauses x.plain))
    form_flat = instance_flat (type_at ts) d n x.form x.plain x.flat

    form_fine : IsFormula d [] (instance_term (type_at ts) x.form)
    form_fine = formula_reduces d [] (reduces_instance (type_at ts) x.leads) (s.instances ts l k)

    read : formula_of_clauses form_flat.0 ≡ instance_term (type_at ts) (formula_of_clauses cs)
    read = form_flat.2 ∙ ap (instance_term (type_at ts)) (sym (formulas_of D.type_vars x.plain) ∙ ap formula_of_clauses x.is)

    clauses_fine : IsFormula d [] (instance_term (type_at ts) (formula_of_clauses cs))
    clauses_fine =
        let f = form_fine in
        let o = (flattened_clause d std n [] (instance_term (type_at ts) x.form) form_flat.0 [] form_flat.1 (record { typed = f.typed; within = f.closed })).opens in
        transport (IsFormula d []) read (record { typed = o.typed; closed = o.within })

    module _ (F : List Ty) (Q : List ClauseFormula) (A : Term) (at : IsAtomHead (head_of A)) where
      to_clauses : FocusableBy L d F Q (instance_term (type_at ts) D.formula) A → IsOneOf L d F Q (instance_term (type_at ts)) cs A
      unfolding Focuses
      to_clauses r =
          let θ = type_at ts in
          let v = fconv d F Q (instance_term θ D.formula) (instance_term θ x.form) A (formula_eigens d [] F (instance_term θ D.formula) (s.instances ts l k)) (converts_reduces (reduces_instance θ x.leads)) r in
          let w = to_flat d std n (instance_term θ x.form) form_flat.0 form_flat.1 form_fine [] F (record { rest = F; is = refl }) Q A at v in
          split_focus d std.standard F Q (instance_term θ) (types_keep θ) A at cs (formula_eigens d [] F (instance_term θ (formula_of_clauses cs)) clauses_fine) (transport (λ z. FocusableBy L d F Q z A) read w)

      from_clause : (j : ℕ) (c : Clause) → slice_get (clause_list cs) j ≡ Some c → FocusableBy L d F Q (instance_term (type_at ts) (formula_of_clause c)) A → FocusableBy L d F Q (instance_term (type_at ts) D.formula) A
      unfolding Focuses
      from_clause j c e r =
          let θ = type_at ts in
          let v = join_focus d F Q (instance_term θ) (types_keep θ) A cs j c e r in
          let w = from_flat d std n (instance_term θ x.form) form_flat.0 form_flat.1 form_fine [] F (record { rest = F; is = refl }) Q A at (transport (λ z. FocusableBy L d F Q z A) (sym read) v) in
          fconv d F Q (instance_term θ x.form) (instance_term θ D.formula) A (formula_eigens d [] F (instance_term θ x.form) form_fine) (converts_sym (converts_reduces (reduces_instance θ x.leads))) w

  vars_of : (j : ℕ) (c : Clause) → slice_get (clause_list cs) j ≡ Some c → (sentence_of c).type_vars ≡ D.type_vars
  vars_of j c e = type_vars_of D.type_vars x.plain j c (transport (λ z. slice_get (clause_list z) j ≡ Some c) (sym x.is) e)

  -- one of the sentence's clauses serves
  serving_clause : (ts : List Ty) → length ts ≡ D.type_vars → AreClosed ts → (F : List Ty) (Q : List ClauseFormula) (A : Term) → IsAtomHead (head_of A) → FocusableBy L d F Q (instance_term (type_at ts) D.formula) A → Served L d F Q (map sentence_of (clause_list cs)) A
  serving_clause ts l k F Q A h r =
      let o = to_clauses ts l k F Q A h r in
      record {
        place = o.place;
        clause = sentence_of o.clause;
        is = get_map sentence_of (clause_list cs) o.place ∙ ap (option_map sentence_of) o.is;
        types = ts;
        count = l ∙ sym (vars_of o.place o.clause o.is);
        closed = k;
        focus = transport (λ z. FocusableBy L d F Q (instance_term (type_at ts) z) A) (sym (formula_is o.clause)) o.focus;
      }

  serving_sentence : (i : ℕ) (K : ClauseFormula) → slice_get (map sentence_of (clause_list cs)) i ≡ Some K → (ts : List Ty) → length ts ≡ K.type_vars
      → AreClosed ts → (F : List Ty) (Q : List ClauseFormula) (A : Term) → IsAtomHead (head_of A) → FocusableBy L d F Q
      (instance_term (type_at ts) K.formula) A → Served L d F Q (D ∷ []) A
  serving_sentence i K e ts l k F Q A h r =
      let m = option_map_some (slice_get (clause_list cs) i) sentence_of K (sym (get_map sentence_of (clause_list cs) i) ∙ e) in
      let c = l ∙ ap (λ z. z.type_vars) (sym m.2) ∙ vars_of i m.0 m.1 in
      let q = transport (λ z. FocusableBy L d F Q (instance_term (type_at ts) z) A) (ap (λ z. z.formula) (sym m.2) ∙ formula_is m.0) r in
      record { place = 0; clause = D; is = refl; types = ts; count = c; closed = k; focus = from_clause ts c k F Q A h i m.0 m.1 q }

-- the whole program
module _ {L : Leaves} (d : Declared) (std : IsSetting L d) where
  pub program_serves : (F : List ClauseFormula) (P : List Clause) → EachOf (IsSentence d) F → AreFlattened d F P → Serves L d [] F (map sentence_of P)
  program_serves [] P s x = record { at = λ i D e. absurd (cc) }
  program_serves (D ∷ F) P s x =
      let cs = x.1 in
      let R = x.2 in
      let rest = program_serves F R s.1 x.4 in
      let y = flattened x.0 d D cs x.3 in
      transport (Serves L d [] (D ∷ F)) (sym (ap (map sentence_of) x.5 ∙ map-append sentence_of (clause_list cs) R)) (record { at = go x.0 cs R y rest })
    where
      go : (n : ℕ) (cs : Clauses) (R : List Clause) → IsFlattened n d D cs → Serves L d [] F (map sentence_of R) → (i : ℕ) (K : ClauseFormula) →
          slice_get (D ∷ F) i ≡ Some K → (ts : List Ty) → length ts ≡ K.type_vars → AreClosed ts → (G : List Ty) → Extends [] G →
          (Q : List ClauseFormula) (A : Term) → IsAtomHead (head_of A) → FocusableBy L d G Q (instance_term (type_at ts) K.formula) A → Served L d G Q
          (map sentence_of (clause_list cs) ++ map sentence_of R) A
      go n cs R y rest zero K e ts l k G g Q A h r =
          let q : K ≡ D = cc in
          served_in_front d G Q (map sentence_of (clause_list cs)) (map sentence_of R) A (serving_clause d std n D cs y s.0 ts (l ∙ ap (λ w. w.type_vars) q) k G Q A h (transport (λ w. FocusableBy L d G Q (instance_term (type_at ts) w.formula) A) q r))
      go n cs R y rest (suc i) K e ts l k G g Q A h r = served_behind d G Q (map sentence_of (clause_list cs)) (map sentence_of R) A (rest.at i K e ts l k G g Q A h r)

  pub sentences_serve : (F : List ClauseFormula) (P : List Clause) → EachOf (IsSentence d) F → AreFlattened d F P → Serves L d [] (map sentence_of P) F
  sentences_serve [] P s x = record { at = λ i D e. let q : slice_get (map sentence_of []) i ≡ Some D = ap (λ z. slice_get (map sentence_of z) i) (sym x) ∙ e in absurd (cc) }
  sentences_serve (D ∷ F) P s x =
      let cs = x.1 in
      let R = x.2 in
      let rest = sentences_serve F R s.1 x.4 in
      let y = flattened x.0 d D cs x.3 in
      transport (λ z. Serves L d [] z (D ∷ F)) (sym (ap (map sentence_of) x.5 ∙ map-append sentence_of (clause_list cs) R)) (record {
        at = λ i K e ts l k G g Q A h r. elim (get_split (map sentence_of (clause_list cs)) (map sentence_of R) i K e) [
          | inl a ↦ served_in_front d G Q (D ∷ []) F A (serving_sentence d std x.0 D cs y s.0 i K a ts l k G Q A h r)
          | inr b ↦ served_behind d G Q (D ∷ []) F A (rest.at b.0 K b.2 ts l k G g Q A h r)
        ];
      })

  -- what stands as a leaf among the sentences stands so among their flattened clauses, and the other way
  pub kept_behind : (E : List Ty) (P R Q : List ClauseFormula) → AreKept L E P R → AreKept L E (P ++ Q) (R ++ Q)
  kept_behind E P R Q k S m y H f h = transport (λ X. L m X H f) (sym (append_assoc R Q S)) (k (Q ++ S) m y H f (transport (λ X. L m X H f) (append_assoc P Q S) h))

  pub program_reads_back : (F : List ClauseFormula) (P : List Clause) → EachOf (IsSentence d) F → AreFlattened d F P → (E : List Ty) → AreKept L E F
      (map sentence_of P) × AreKept L E (map sentence_of P) F → (Q : List ClauseFormula) (G : Term) →
      (ProvableBy L d E (F ++ Q) G → ProvableBy L d E (map sentence_of P ++ Q) G) ×
      (ProvableBy L d E (map sentence_of P ++ Q) G → ProvableBy L d E (F ++ Q) G)
  program_reads_back F P s x E k Q G = (
    λ p. served d E (F ++ Q) (map sentence_of P ++ Q) G (serves_more d E F (map sentence_of P) Q (serves_eigens d [] E F (map sentence_of P) (program_serves F P s x))) (kept_behind E F (map sentence_of P) Q k.0) p,
    λ p. served d E (map sentence_of P ++ Q) (F ++ Q) G (serves_more d E (map sentence_of P) F Q (serves_eigens d [] E (map sentence_of P) F (sentences_serve F P s x))) (kept_behind E (map sentence_of P) F Q k.1) p,
  )

-- each flattened clause is a sentence
module _ (d : Declared) (std : IsStandard d) where
  each_fine : (k : ℕ) (cs : Clauses) → ((ts : List Ty) → length ts ≡ k → AreClosed ts → IsFormula d [] (instance_term (type_at ts) (formula_of_clauses cs))) → EachOf (λ c. IsSentence d (sentence_of c)) (clause_list (with_type_vars k cs))
  each_fine k no_clauses f = tt
  each_fine k (clauses (clause n vs h b) no_clauses) f = (record { instances = λ ts l a. transport (λ z. IsFormula d [] (instance_term (type_at ts) z)) (same_formula n k vs h b) (f ts l a) }, tt)
  each_fine k (clauses (clause n vs h b) (clauses e cs)) f =
      let g = (λ (ts : List Ty) (l : length ts ≡ k) (a : AreClosed ts). parts d [] 0 (instance_term (type_at ts) (formula_of_clause (clause n vs h b))) (instance_term (type_at ts) (formula_of_clauses (clauses e cs))) (connective d std 0 (omega arith)) (f ts l a)) in
      (record { instances = λ ts l a. transport (λ z. IsFormula d [] (instance_term (type_at ts) z)) (same_formula n k vs h b) (g ts l a).0 }, each_fine k (clauses e cs) (λ ts l a. (g ts l a).1))

  each_append : {A : Type 0} (X : A → Type 0) (xs ys : List A) → EachOf X xs → EachOf X ys → EachOf X (xs ++ ys)
  each_append X [] ys h k = k
  each_append X (x ∷ xs) ys h k = (h.0, each_append X xs ys h.1 k)

  pub clauses_are_sentences : (F : List ClauseFormula) (P : List Clause) → EachOf (IsSentence d) F → AreFlattened d F P → EachOf (λ c. IsSentence d (sentence_of c)) P
  clauses_are_sentences [] P s x = transport (EachOf (λ c. IsSentence d (sentence_of c))) (sym x) tt
  clauses_are_sentences (D ∷ F) P s x =
      let y = flattened x.0 d D x.1 x.3 in
      let here = transport (λ z. EachOf (λ c. IsSentence d (sentence_of c)) (clause_list z)) y.is
      (each_fine D.type_vars y.plain (λ ts l k. transport (λ z. IsFormula d [] (instance_term (type_at ts) z))
      (ap formula_of_clauses (sym y.is) ∙ formulas_of D.type_vars y.plain) (clauses_fine d (without_leaves d std) x.0 D x.1 y s.0 ts l k))) in
      transport (EachOf (λ c. IsSentence d (sentence_of c))) (sym x.5) (each_append (λ c. IsSentence d (sentence_of c)) (clause_list x.1) x.2 here (clauses_are_sentences F x.2 s.1 x.4))

-- assumptions
module _ {L : Leaves} (d : Declared) (std : IsSetting L d) where
  closing_keeps : (c : Closing) (θ : ℕ → Ty) → KeepsBoth (λ t. instance_term θ (closed c t))
  closing_keeps c θ = record { truth = refl; both = λ a b. refl }

  module _ (E : List Ty) (P : List ClauseFormula) (c : Closing) (cs : Clauses) (f : IsFormula d E (closed c (formula_of_clauses cs))) where
    abbrev whole : ClauseFormula
    whole = assumed (closed c (formula_of_clauses cs))

    fine_at : (ts : List Ty) (F : List Ty) → Extends E F → IsFormula d F (instance_term (type_at ts) (closed c (formula_of_clauses cs)))
    fine_at ts F x = transport (λ z. IsFormula d z (instance_term (type_at ts) (closed c (formula_of_clauses cs)))) (sym x.is)
        (formula_eigens d E x.rest (instance_term (type_at ts) (closed c (formula_of_clauses cs)))
        (transport (IsFormula d E) (sym (closed_instance (length E) (type_at ts) (closed c (formula_of_clauses cs)) f.closed)) f))

    pub parts_serve : Serves L d E (whole ∷ []) (assumed_at c (clause_list cs))
    parts_serve = record { at = go }
      where
        go : (i : ℕ) (K : ClauseFormula) → slice_get (whole ∷ []) i ≡ Some K → (ts : List Ty) → length ts ≡ K.type_vars → AreClosed ts → (F : List Ty)
            → Extends E F → (Q : List ClauseFormula) (A : Term) → IsAtomHead (head_of A) → FocusableBy L d F Q (instance_term (type_at ts) K.formula)
            A → Served L d F Q (assumed_at c (clause_list cs)) A
        go zero K e ts l k F x Q A h r =
            let q : K ≡ whole = cc in
            let o = split_focus d std.standard F Q (λ t. instance_term (type_at ts) (closed c t)) (closing_keeps c (type_at ts)) A h cs (fine_at ts F x) (transport (λ w. FocusableBy L d F Q (instance_term (type_at ts) w.formula) A) q r) in
            let g = get_assumed c (clause_list cs) o.place o.clause o.is in
            record { place = g.0; clause = assumed_as c o.clause; is = g.1; types = ts; count = l ∙ ap (λ w. w.type_vars) q; closed = k; focus = o.focus }
        go (suc i) K e ts l k F x Q A h r = absurd (cc)

    pub whole_serves : Serves L d E (assumed_at c (clause_list cs)) (whole ∷ [])
    whole_serves = record {
      at = λ i K e ts l k F x Q A h r.
          let m = got_assumed c (clause_list cs) i K e in
          let q = transport (λ w. FocusableBy L d F Q (instance_term (type_at ts) w.formula) A) (sym m.made) r in
          record { place = 0; clause = whole; is = refl; types = ts; count = l ∙ ap (λ w. w.type_vars) (sym m.made); closed = k; focus = join_focus d F Q (λ t. instance_term (type_at ts) (closed c t)) (closing_keeps c (type_at ts)) A cs m.place m.clause m.is q };
    }

    pub stand_apart : (G : Term) → (ProvableBy L d E (P ++ whole ∷ []) G → ProvableBy L d E (P ++ assumed_at c (clause_list cs)) G) × (ProvableBy L d E (P ++ assumed_at c (clause_list cs)) G → ProvableBy L d E (P ++ whole ∷ []) G)
    stand_apart G = (
      λ p. served d E (P ++ whole ∷ []) (P ++ assumed_at c (clause_list cs)) G (serves_first d E P (whole ∷ []) (assumed_at c (clause_list cs)) parts_serve) (std.apart E P c cs f) p,
      λ p. served d E (P ++ assumed_at c (clause_list cs)) (P ++ whole ∷ []) G (serves_first d E P (assumed_at c (clause_list cs)) (whole ∷ []) whole_serves) (std.together E P c cs f) p,
    )
