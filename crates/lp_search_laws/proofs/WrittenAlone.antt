-- What is not written in goals and clauses of a source does not matter: closings that give the same to what is written give the same to the whole.
use Rattle.std.proofs.Common.{◌≡◌, ℕ, zero, suc, ◌<◌, ◌+◌, ◌-◌, List, [], ◌∷◌, ◌++◌, map, refl, sym, ap, ◌∙◌, subst as transport, arith, Bool, true, false, inl, inr}
use Rattle.std.specs.Prelude.{nat_lt, if◌then◌else◌}
use Rattle.std.proofs.lemmas.Bool.Decides.{nat_tests}
use mathlib.Core.Path.{fun_ext}
use Rattle.lp_calculus.specs.Types.{Ty, instance}
use Rattle.lp_calculus.specs.Term.{Term, index, atom, abs, app, shift, Atom, constant, integer, text, eigen, logic, param}
use Rattle.lp_calculus.specs.Closed.{AllAtoms}
use Rattle.lp_calculus.specs.Convert.{Converts}
use Rattle.lp_calculus.specs.Fill.{fill, raise}
use Rattle.lp_calculus.specs.Instance.{instance_term}
use Rattle.lp_calculus.proofs.Steps.{converts_is, converts_on, converts_abs, converts_app, converts_shift}
use Rattle.lp_lemmas.specs.Each.{AnyOf, EachOf}
use Rattle.lp_lemmas.proofs.Each.{each_append}
use Rattle.lp_model.specs.Index.{instantiate, lifted}
use Rattle.lp_model.specs.Pair.{Closing, closed}
use Rattle.lp_model.specs.Flat.{Goal, Atomic, Cut, Either, Exists, Forall, Assume, Not, Goals, no_goals, goals, Clause, clause, Clauses, no_clauses, clauses, Written, clause_list, under_all, all_of, loose_in, collect_goal, collect_goals, collect_clauses, formula_of_goal, formula_of_goals, formula_of_clause, formula_of_clauses, type_goals, type_clauses}
use Rattle.lp_standard.specs.Connectives.{pi_of, two}
use Rattle.lp_proof_laws.specs.Filled.{IsSourceAtom, filled_goals, filled_clauses, filled_term}
use Rattle.lp_proof_laws.specs.Terms.{AreClausesOf}
use Rattle.lp_proof_laws.proofs.Flattened.Filled.{one_filling, one_filling_of_clauses}
use Rattle.lp_proof_laws.proofs.Flattened.Instantiated.{goals_instantiate, clauses_instantiate}
use Rattle.lp_proof_laws.proofs.Flattened.TypedFlat.{goals_formula, clauses_formula}
use Rattle.lp_search_laws.specs.Written.{IsOrigin, HasOrigin}
use Rattle.lp_search_laws.proofs.FormulaAtoms.{goals_atoms, clauses_atoms}
use Rattle.lp_search_laws.proofs.ClosedTerms.{closed_atom, closed_fill, lifted_fill}
use Rattle.lp_search_laws.proofs.Written.{each_same}

pub each_parts : {A : Type 0} (P : A → Type 0) (xs ys : List A) → EachOf P (xs ++ ys) → EachOf P xs × EachOf P ys
each_parts P [] ys h = (tt, h)
each_parts P (x ∷ xs) ys h = let r = each_parts P xs ys h.1 in ((h.0, r.0), r.1)

pub each_before_map : {A B : Type 0} (P : B → Type 0) (f : A → B) (xs : List A) → EachOf P (map f xs) → EachOf (λ a. P (f a)) xs
each_before_map P f [] h = tt
each_before_map P f (x ∷ xs) h = (h.0, each_before_map P f xs h.1)

-- terms that convert, for the indices that are loose
module _ where
  abbrev AtLoose : ℕ → (ℕ → Term) → (ℕ → Term) → ℕ → Type 0
  AtLoose d f g j = Converts (f (d + j)) (g (d + j))

  index_alike : (d : ℕ) (f g : ℕ → Term) (i : ℕ) → ((k : ℕ) → k < d → Converts (f k) (g k)) → EachOf (AtLoose d f g) (loose_in d (index i)) → Converts (f i) (g i)
  index_alike d f g i h w = go (nat_lt i d) refl w
    where
      go : (b : Bool) → nat_lt i d ≡ b → EachOf (AtLoose d f g) (if b then [] else (i - d) ∷ []) → Converts (f i) (g i)
      go true e v = h i (grind (arith, nat_tests, e))
      go false e v = let x : d + (i - d) ≡ i = grind (arith, nat_tests, e) in transport (λ k. Converts (f k) (g k)) x v.0

  lifted_below : (d : ℕ) (f g : ℕ → Term) → ((k : ℕ) → k < d → Converts (f k) (g k)) → (k : ℕ) → k < suc d → Converts (lifted f k) (lifted g k)
  lifted_below d f g h zero l = converts_is refl
  lifted_below d f g h (suc k) l = converts_shift (h k (omega (arith, l)))

  lifted_loose : (d : ℕ) (f g : ℕ → Term) (j : ℕ) → AtLoose d f g j → AtLoose (suc d) (lifted f) (lifted g) j
  lifted_loose d f g j h = let e : suc (d + j) ≡ suc d + j = omega arith in transport (λ k. Converts (lifted f k) (lifted g k)) e (converts_shift h)

  loose_alike : (d : ℕ) (f g : ℕ → Term) → ((k : ℕ) → k < d → Converts (f k) (g k)) → (t : Term) → EachOf (AtLoose d f g) (loose_in d t) → Converts (instantiate f t) (instantiate g t)
  loose_alike d f g h (index i) w = index_alike d f g i h w
  loose_alike d f g h (atom a) w = converts_is refl
  loose_alike d f g h (abs b) w = converts_abs (loose_alike (suc d) (lifted f) (lifted g) (lifted_below d f g h) b (each_same (AtLoose d f g) (AtLoose (suc d) (lifted f) (lifted g)) (lifted_loose d f g) (loose_in (suc d) b) w))
  loose_alike d f g h (app t u) w = let r = each_parts (AtLoose d f g) (loose_in d t) (loose_in d u) w in converts_app (loose_alike d f g h t r.0) (loose_alike d f g h u r.1)

-- a source under a closing, with terms for its indices
abbrev Source : Term → Type 0
Source t = AllAtoms IsSourceAtom t

source_filled : (F : Atom → Term) (g : Atom → Atom) → ((a : Atom) → IsSourceAtom a → F a ≡ atom (g a)) → (σ : ℕ → Term) (t : Term) → Source t → fill F (instantiate σ t) ≡ instantiate (λ i. fill F (σ i)) (fill F t)
source_filled F g e σ (index i) w = refl
source_filled F g e σ (atom a) w = e a w ∙ sym (ap (instantiate (λ i. fill F (σ i))) (e a w))
source_filled F g e σ (abs b) w = ap abs (source_filled (raise F) g (λ a v. ap (shift 0 1) (e a v)) (lifted σ) b w ∙ ap (λ τ. instantiate τ (fill (raise F) b)) (fun_ext (lifted_fill F σ)))
source_filled F g e σ (app t u) w = λ i. app (source_filled F g e σ t w.0 i) (source_filled F g e σ u w.1 i)

loose_filled : (F : Atom → Term) (g : Atom → Atom) → ((a : Atom) → IsSourceAtom a → F a ≡ atom (g a)) → (d : ℕ) (t : Term) → Source t → loose_in d (fill F t) ≡ loose_in d t
loose_filled F g e d (index i) w = refl
loose_filled F g e d (atom a) w = ap (loose_in d) (e a w)
loose_filled F g e d (abs b) w = loose_filled (raise F) g (λ a v. ap (shift 0 1) (e a v)) (suc d) b w
loose_filled F g e d (app t u) w = λ i. loose_filled F g e d t w.0 i ++ loose_filled F g e d u w.1 i

same_filled : (F G : Atom → Term) → ((a : Atom) → IsSourceAtom a → F a ≡ G a) → (t : Term) → Source t → fill F t ≡ fill G t
same_filled F G e (index i) w = refl
same_filled F G e (atom a) w = e a w
same_filled F G e (abs b) w = ap abs (same_filled (raise F) (raise G) (λ a v. ap (shift 0 1) (e a v)) b w)
same_filled F G e (app t u) w = λ i. app (same_filled F G e t w.0 i) (same_filled F G e u w.1 i)

instance_atoms : (θ : ℕ → Ty) (a : Atom) → IsSourceAtom a → Source (instance_term θ (atom a))
instance_atoms θ (constant c ts) h = tt
instance_atoms θ (integer z) h = tt
instance_atoms θ (text s) h = tt
instance_atoms θ (eigen k) h = tt
instance_atoms θ (logic x l) h = absurd h
instance_atoms θ (param k T) h = tt

instance_source : (θ : ℕ → Ty) (t : Term) → Source t → Source (instance_term θ t)
instance_source θ (index i) w = tt
instance_source θ (atom a) w = instance_atoms θ a w
instance_source θ (abs b) w = instance_source θ b w
instance_source θ (app t u) w = (instance_source θ t w.0, instance_source θ u w.1)

loose_instance : (θ : ℕ → Ty) (d : ℕ) (t : Term) → loose_in d (instance_term θ t) ≡ loose_in d t
loose_instance θ d (index i) = refl
loose_instance θ d (atom a) = refl
loose_instance θ d (abs b) = loose_instance θ (suc d) b
loose_instance θ d (app t u) = λ i. loose_instance θ d t i ++ loose_instance θ d u i

module _ (c z : Closing) (types : z.types ≡ c.types) where
  named : Atom → Atom
  named (constant k ts) = constant k (map (instance c.types) ts)
  named (integer y) = integer y
  named (text s) = text s
  named (eigen k) = eigen k
  named (logic x l) = logic x l
  named (param k T) = param k (instance c.types T)

  by_first : (a : Atom) → IsSourceAtom a → closed_atom c a ≡ atom (named a)
  unfolding named
  by_first (constant k ts) h = refl
  by_first (integer y) h = refl
  by_first (text s) h = refl
  by_first (eigen k) h = refl
  by_first (logic x l) h = absurd h
  by_first (param k T) h = refl

  by_second : (a : Atom) → IsSourceAtom a → closed_atom z a ≡ atom (named a)
  unfolding named
  by_second (constant k ts) h = ap (λ θ. atom (constant k (map (instance θ) ts))) types
  by_second (integer y) h = refl
  by_second (text s) h = refl
  by_second (eigen k) h = refl
  by_second (logic x l) h = absurd h
  by_second (param k T) h = ap (λ θ. atom (param k (instance θ T))) types

  abbrev Agree : Term → Type 0
  Agree t = Converts (closed c t) (closed z t)

  -- where they agree on the terms for the loose indices they do on the whole
  filled_alike : (θ : ℕ → Ty) (σ : ℕ → Term) (t : Term) → Source t → EachOf (λ i. Agree (σ i)) (loose_in 0 t) → Agree (filled_term θ σ t)
  filled_alike θ σ t w h =
      let x = instance_term θ t in
      let v = instance_source θ t w in
      let F = closed_atom c in
      let G = closed_atom z in
      let l : loose_in 0 (fill F x) ≡ loose_in 0 t = loose_filled F named by_first 0 x v ∙ loose_instance θ 0 t in
      let p : closed c (filled_term θ σ t) ≡ instantiate (λ i. fill F (σ i)) (fill F x) = closed_fill c (filled_term θ σ t) ∙ source_filled F named by_first σ x v in
      let q : closed z (filled_term θ σ t) ≡ instantiate (λ i. fill G (σ i)) (fill F x) = closed_fill z (filled_term θ σ t) ∙ source_filled G named by_second σ x v ∙ ap (instantiate (λ i. fill G (σ i))) (same_filled G F (λ a s. by_second a s ∙ sym (by_first a s)) x v) in
      let each = each_same (λ i. Agree (σ i)) (AtLoose 0 (λ i. fill F (σ i)) (λ i. fill G (σ i)))
      (λ i r. let e : i ≡ 0 + i = omega arith in transport (λ k. Converts (fill F (σ k)) (fill G (σ k))) e
      (transport (λ k. Converts k (fill G (σ i))) (closed_fill c (σ i)) (transport (Converts (closed c (σ i))) (closed_fill z (σ i)) r)))
      (loose_in 0 t) h in
      let r = loose_alike 0 (λ i. fill F (σ i)) (λ i. fill G (σ i)) (λ k b. absurd (omega (arith, b))) (fill F x) (transport (EachOf (AtLoose 0 (λ i. fill F (σ i)) (λ i. fill G (σ i)))) (sym l) each) in
      converts_on (converts_is p) (converts_on r (converts_is (sym q)))

-- what holds of each index that is collected holds of each that is loose in the formula
module _ (P : ℕ → Type 0) where
  all_loose : (vs : List Ty) (d : ℕ) (t : Term) → loose_in d (all_of vs t) ≡ loose_in (under_all suc vs d) t
  all_loose [] d t = refl
  all_loose (v ∷ vs) d t = all_loose vs d (pi_of v (abs t))

  loose_clause : (d n : ℕ) (vs : List Ty) (x : Term) (b : Goals) → (EachOf P (collect_goals loose_in (under_all suc vs d) b) → EachOf P
      (loose_in (under_all suc vs d) (formula_of_goals b))) → EachOf P (loose_in (under_all suc vs d) x ++ collect_goals loose_in (under_all suc vs d)
      b) → EachOf P (loose_in d (formula_of_clause (clause n vs x b)))
  loose_clause d n vs x no_goals f h = transport (EachOf P) (sym (all_loose vs d x)) (each_parts P (loose_in (under_all suc vs d) x) [] h).0
  loose_clause d n vs x (goals g gs) f h =
      let e = under_all suc vs d in
      let s = each_parts P (loose_in e x) (collect_goals loose_in e (goals g gs)) h in
      transport (EachOf P) (sym (all_loose vs d (two 2 [] (formula_of_goals (goals g gs)) x))) (each_append P (loose_in e (formula_of_goals (goals g gs))) (loose_in e x) (f s.1) s.0)

  mutual
    loose_goal : (d : ℕ) (g : Goal) → EachOf P (collect_goal loose_in d g) → EachOf P (loose_in d (formula_of_goal g))
    loose_goal d (Atomic t) h = h
    loose_goal d Cut h = tt
    loose_goal d (Either l r) h =
        let s = each_parts P (collect_goals loose_in d l) (collect_goals loose_in d r) h in
        each_append P (loose_in d (formula_of_goals l)) (loose_in d (formula_of_goals r)) (loose_goals d l s.0) (loose_goals d r s.1)
    loose_goal d (Exists T gs) h = loose_goals (suc d) gs h
    loose_goal d (Forall T gs) h = loose_goals (suc d) gs h
    loose_goal d (Assume w cs gs) h =
        let s = each_parts P (collect_clauses loose_in d cs) (collect_goals loose_in d gs) h in
        each_append P (loose_in d (formula_of_clauses cs)) (loose_in d (formula_of_goals gs)) (loose_clauses d cs s.0) (loose_goals d gs s.1)
    loose_goal d (Not w gs) h = loose_goals d gs h

    loose_goals : (d : ℕ) (gs : Goals) → EachOf P (collect_goals loose_in d gs) → EachOf P (loose_in d (formula_of_goals gs))
    loose_goals d no_goals h = tt
    loose_goals d (goals g no_goals) h = loose_goal d g (each_parts P (collect_goal loose_in d g) [] h).0
    loose_goals d (goals g (goals k gs)) h =
        let s = each_parts P (collect_goal loose_in d g) (collect_goals loose_in d (goals k gs)) h in
        each_append P (loose_in d (formula_of_goal g)) (loose_in d (formula_of_goals (goals k gs))) (loose_goal d g s.0) (loose_goals d (goals k gs) s.1)

    loose_clauses : (d : ℕ) (cs : Clauses) → EachOf P (collect_clauses loose_in d cs) → EachOf P (loose_in d (formula_of_clauses cs))
    loose_clauses d no_clauses h = tt
    loose_clauses d (clauses (clause n vs x b) no_clauses) h = loose_clause d n vs x b (loose_goals (under_all suc vs d) b) (each_parts P (loose_in (under_all suc vs d) x ++ collect_goals loose_in (under_all suc vs d) b) [] h).0
    loose_clauses d (clauses (clause n vs x b) (clauses k cs)) h =
        let s = each_parts P (loose_in (under_all suc vs d) x ++ collect_goals loose_in (under_all suc vs d) b) (collect_clauses loose_in d (clauses k cs)) h in
        each_append P (loose_in d (formula_of_clause (clause n vs x b))) (loose_in d (formula_of_clauses (clauses k cs))) (loose_clause d n vs x b (loose_goals (under_all suc vs d) b) s.0) (loose_clauses d (clauses k cs) s.1)

-- filled goals and clauses, as formulas
filled_formula : (θ : ℕ → Ty) (σ : ℕ → Term) (gs : Goals) → formula_of_goals (filled_goals θ σ gs) ≡ filled_term θ σ (formula_of_goals gs)
filled_formula θ σ gs = ap formula_of_goals (sym (one_filling θ σ gs)) ∙ goals_instantiate σ (type_goals θ gs) ∙ ap (instantiate σ) (goals_formula θ gs)

filled_clause_formula : (θ : ℕ → Ty) (σ : ℕ → Term) (cs : Clauses) → formula_of_clauses (filled_clauses θ σ cs) ≡ filled_term θ σ (formula_of_clauses cs)
filled_clause_formula θ σ cs = ap formula_of_clauses (sym (one_filling_of_clauses θ σ cs)) ∙ clauses_instantiate σ (type_clauses θ cs) ∙ ap (instantiate σ) (clauses_formula θ cs)

module _ (c z : Closing) (types : z.types ≡ c.types) where
  abbrev Same : Term → Type 0
  Same t = Converts (closed c t) (closed z t)

  pub goals_alike : (w : Written) (gs : Goals) → IsOrigin w gs → EachOf Same w.terms → Same (formula_of_goals gs)
  goals_alike w gs o h =
      let x = formula_of_goals o.flat in
      let each = each_before_map Same o.terms (collect_goals loose_in 0 o.flat) (transport (EachOf Same) o.terms_written h) in
      let r = filled_alike c z types o.types o.terms x (goals_atoms IsSourceAtom (λ c ts. tt) o.flat o.source) (loose_goals (λ i. Same (o.terms i)) 0 o.flat each) in
      transport Same (sym (ap formula_of_goals o.is ∙ filled_formula o.types o.terms o.flat)) r

  -- one of the clauses
  module _ (θ : ℕ → Ty) (σ : ℕ → Term) where
    among_alike : (k : Clause) (cs : Clauses) → AreClausesOf Source cs → EachOf (λ i. Same (σ i)) (collect_clauses loose_in 0 cs) → AnyOf (λ x. x ≡ k) (clause_list (filled_clauses θ σ cs)) → Same (formula_of_clause k)
    among_alike k no_clauses w h a = absurd a
    among_alike k (clauses (clause n vs x b) cs) w h a =
        let s = each_parts (λ i. Same (σ i)) (loose_in (under_all suc vs 0) x ++ collect_goals loose_in (under_all suc vs 0) b) (collect_clauses loose_in 0 cs) h in
        elim a [
          | inl e ↦
              let one = clauses (clause n vs x b) no_clauses in
              let r = filled_alike c z types θ σ (formula_of_clauses one) (clauses_atoms IsSourceAtom (λ c ts. tt) one (w.0, tt)) (loose_clauses (λ i. Same (σ i)) 0 one (each_append (λ i. Same (σ i)) (loose_in (under_all suc vs 0) x ++ collect_goals loose_in (under_all suc vs 0) b) [] s.0 tt)) in
              transport Same (sym (filled_clause_formula θ σ one) ∙ ap formula_of_clause e) r
          | inr e ↦ among_alike k cs w.1 s.1 e
        ]

  pub clause_alike : (k : Clause) (w : Written) → HasOrigin k w → EachOf Same w.terms → Same (formula_of_clause k)
  clause_alike k w o h =
      let y = o.origin in
      let all = transport (EachOf Same) o.terms h in
      let here = (each_parts Same o.written.terms o.terms_behind (each_parts Same o.terms_before (o.written.terms ++ o.terms_behind) all).1).0 in
      let each = each_before_map Same y.terms (collect_clauses loose_in 0 y.flat) (transport (EachOf Same) y.terms_written here) in
      among_alike y.types y.terms k y.flat y.source each (transport (λ g. AnyOf (λ x. x ≡ k) (clause_list g)) y.is o.among)
