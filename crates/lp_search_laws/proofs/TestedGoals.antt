-- The goals and the assumptions of a negated goal that was tested: up to reduction they have no type variable.
use Rattle.std.proofs.Common.{◌≡◌, ℕ, zero, suc, ◌<◌, ◌+◌, ◌-◌, List, [], ◌∷◌, ◌++◌, map, refl, sym, subst as transport, arith, Bool, true, false, inl, inr, Some}
use Rattle.std.specs.Prelude.{nat_lt, if◌then◌else◌}
use Rattle.std.proofs.lemmas.Bool.Decides.{nat_tests}
use Rattle.lp_calculus.specs.Types.{Ty, Tys, var, param as type_param, con, arrow, no_types, types, instance, instances}
use Rattle.lp_calculus.specs.Term.{Term, index, atom, abs, app, Atom, constant, integer, text, eigen, logic, param}
use Rattle.lp_lemmas.specs.Each.{AnyOf, EachOf}
use Rattle.lp_lemmas.proofs.Each.{each_append}
use Rattle.lp_model.specs.Index.{lifted}
use Rattle.lp_model.specs.Branch.{both_written}
use Rattle.lp_model.specs.Search.{has_variables}
use Rattle.lp_model.specs.Flat.{Goal, Atomic, Cut, Either, Exists, Forall, Assume, Not, Goals, no_goals, goals, Clause, clause, Clauses, no_clauses, clauses, Written, clause_list, under_all, loose_in, type_variables, types_variables, of_each, type_variables_in, collect_goal, collect_goals, collect_clauses, map_goal}
use Rattle.lp_proof_laws.specs.Filled.{filled_goals, filled_clauses, filled_term}
use Rattle.lp_search_laws.specs.Branches.{IsGoal, AreGoals, AreClauses, IsAssumable}
use Rattle.lp_search_laws.specs.Written.{IsOrigin, HasOrigin}
use Rattle.lp_search_laws.proofs.ComesOver.{IsOver, ComesOver}
use Rattle.lp_search_laws.proofs.KeptTasks.{IsGoalWith, AreGoalsWith, IsAssumedWith, AreClausesWith}
use Rattle.lp_search_laws.proofs.Reducts.{by_atoms, reduct_abs, reduct_app, reduct_raise}
use Rattle.lp_search_laws.proofs.Tested.{tested_over}
use Rattle.lp_search_laws.proofs.TypesOver.{Over, AreOver}
use Rattle.lp_search_laws.proofs.Written.{each_same}
use Rattle.lp_search_laws.proofs.WrittenAlone.{each_parts, each_before_map}

module _ (Q : ℕ → Type 0) (θ : ℕ → Ty) where
  abbrev R : Term → Type 0
  R t = ComesOver Q t

  abbrev T : ℕ → Type 0
  T i = Over Q (θ i)

  mutual
    type_filled : (A : Ty) → EachOf T (type_variables A) → Over Q (instance θ A)
    type_filled (var i) h = h.0
    type_filled (type_param k) h = tt
    type_filled (con c ts) h = types_filled ts h
    type_filled (arrow a b) h = let r = each_parts T (type_variables a) (type_variables b) h in (type_filled a r.0, type_filled b r.1)

    types_filled : (ts : Tys) → EachOf T (types_variables ts) → AreOver Q (instances θ ts)
    types_filled no_types h = tt
    types_filled (types t ts) h = let r = each_parts T (type_variables t) (types_variables ts) h in (type_filled t r.0, types_filled ts r.1)

  list_filled : (ts : List Ty) → EachOf T (of_each type_variables ts) → EachOf (Over Q) (map (instance θ) ts)
  list_filled [] h = tt
  list_filled (t ∷ ts) h = let r = each_parts T (type_variables t) (of_each type_variables ts) h in (type_filled t r.0, list_filled ts r.1)

  -- below d binders
  abbrev AtLoose : ℕ → (ℕ → Term) → ℕ → Type 0
  AtLoose d σ i = R (σ (d + i))

  abbrev Bound : ℕ → (ℕ → Term) → Type 0
  Bound d σ = (k : ℕ) → k < d → R (σ k)

  bound_lifted : (d : ℕ) (σ : ℕ → Term) → Bound d σ → Bound (suc d) (lifted σ)
  bound_lifted d σ h zero l = by_atoms (IsOver Q) (index 0) tt
  bound_lifted d σ h (suc k) l = reduct_raise (IsOver Q) 0 (σ k) (h k (omega (arith, l)))

  loose_lifted : (d : ℕ) (σ : ℕ → Term) (i : ℕ) → AtLoose d σ i → AtLoose (suc d) (lifted σ) i
  loose_lifted d σ i h = let e : suc (d + i) ≡ suc d + i = omega arith in transport (λ k. R (lifted σ k)) e (reduct_raise (IsOver Q) 0 (σ (d + i)) h)

  bound_all : (vs : List Ty) (d : ℕ) (σ : ℕ → Term) → Bound d σ → Bound (under_all suc vs d) (under_all lifted vs σ)
  bound_all [] d σ h = h
  bound_all (v ∷ vs) d σ h = bound_lifted (under_all suc vs d) (under_all lifted vs σ) (bound_all vs d σ h)

  loose_all : (vs : List Ty) (d : ℕ) (σ : ℕ → Term) (i : ℕ) → AtLoose d σ i → AtLoose (under_all suc vs d) (under_all lifted vs σ) i
  loose_all [] d σ i h = h
  loose_all (v ∷ vs) d σ i h = loose_lifted (under_all suc vs d) (under_all lifted vs σ) i (loose_all vs d σ i h)

  index_filled : (d : ℕ) (σ : ℕ → Term) (i : ℕ) → Bound d σ → EachOf (AtLoose d σ) (loose_in d (index i)) → R (σ i)
  index_filled d σ i h w = go (nat_lt i d) refl w
    where
      go : (b : Bool) → nat_lt i d ≡ b → EachOf (AtLoose d σ) (if b then [] else (i - d) ∷ []) → R (σ i)
      go true e v = h i (grind (arith, nat_tests, e))
      go false e v = let x : d + (i - d) ≡ i = grind (arith, nat_tests, e) in transport (λ k. R (σ k)) x v.0

  atom_filled : (σ : ℕ → Term) (a : Atom) → EachOf T (type_variables_in (atom a)) → R (filled_term θ σ (atom a))
  atom_filled σ (constant c ts) v = by_atoms (IsOver Q) (atom (constant c (map (instance θ) ts))) (tt, list_filled ts v)
  atom_filled σ (integer z) v = by_atoms (IsOver Q) (atom (integer z)) tt
  atom_filled σ (text s) v = by_atoms (IsOver Q) (atom (text s)) tt
  atom_filled σ (eigen k) v = by_atoms (IsOver Q) (atom (eigen k)) tt
  atom_filled σ (logic x l) v = by_atoms (IsOver Q) (atom (logic x l)) tt
  atom_filled σ (param k A) v = by_atoms (IsOver Q) (atom (param k (instance θ A))) (type_filled A v)

  term_filled : (d : ℕ) (σ : ℕ → Term) → Bound d σ → (t : Term) → EachOf (AtLoose d σ) (loose_in d t) → EachOf T (type_variables_in t) → R (filled_term θ σ t)
  term_filled d σ h (index i) w v = index_filled d σ i h w
  term_filled d σ h (atom a) w v = atom_filled σ a v
  term_filled d σ h (abs b) w v = reduct_abs (IsOver Q) (filled_term θ (lifted σ) b) (term_filled (suc d) (lifted σ) (bound_lifted d σ h) b (each_same (AtLoose d σ) (AtLoose (suc d) (lifted σ)) (loose_lifted d σ) (loose_in (suc d) b) w) v)
  term_filled d σ h (app t u) w v =
      let x = each_parts (AtLoose d σ) (loose_in d t) (loose_in d u) w in
      let y = each_parts T (type_variables_in t) (type_variables_in u) v in
      reduct_app (IsOver Q) (filled_term θ σ t) (filled_term θ σ u) (term_filled d σ h t x.0 y.0) (term_filled d σ h u x.1 y.1)

  -- goals and clauses of the form of those of a branch
  module _ (m : ℕ) where
    mutual
      goal_filled : (d : ℕ) (σ : ℕ → Term) → Bound d σ → (B : List Bool) (g : Goal) → EachOf (AtLoose d σ) (collect_goal loose_in d g) → EachOf T (collect_goal (λ d t. type_variables_in t) d g) →
          IsGoal m B (map_goal lifted (filled_term θ) (instance θ) σ g) → IsGoalWith R (map_goal lifted (filled_term θ) (instance θ) σ g)
      goal_filled d σ h B (Atomic t) w v k = term_filled d σ h t w v
      goal_filled d σ h B Cut w v k = tt
      goal_filled d σ h B (Either l r) w v k =
          let x = each_parts (AtLoose d σ) (collect_goals loose_in d l) (collect_goals loose_in d r) w in
          let y = each_parts T (collect_goals (λ d t. type_variables_in t) d l) (collect_goals (λ d t. type_variables_in t) d r) v in
          (goals_filled d σ h B l x.0 y.0 k.0, goals_filled d σ h B r x.1 y.1 k.1)
      goal_filled d σ h B (Exists A gs) w v k = goals_filled (suc d) (lifted σ) (bound_lifted d σ h) _ gs (each_same (AtLoose d σ) (AtLoose (suc d) (lifted σ)) (loose_lifted d σ) (collect_goals loose_in (suc d) gs) w) v k.1
      goal_filled d σ h B (Forall A gs) w v k = goals_filled (suc d) (lifted σ) (bound_lifted d σ h) _ gs (each_same (AtLoose d σ) (AtLoose (suc d) (lifted σ)) (loose_lifted d σ) (collect_goals loose_in (suc d) gs) w) v k.1
      goal_filled d σ h B (Assume u cs gs) w v k =
          let x = each_parts (AtLoose d σ) (collect_clauses loose_in d cs) (collect_goals loose_in d gs) w in
          let y = each_parts T (collect_clauses (λ d t. type_variables_in t) d cs) (collect_goals (λ d t. type_variables_in t) d gs) v in
          (clauses_filled d σ h B cs x.0 y.0 k.0, goals_filled d σ h B gs x.1 y.1 k.1)
      goal_filled d σ h B (Not u gs) w v k = goals_filled d σ h B gs w v k

      goals_filled : (d : ℕ) (σ : ℕ → Term) → Bound d σ → (B : List Bool) (gs : Goals) → EachOf (AtLoose d σ) (collect_goals loose_in d gs) → EachOf T (collect_goals (λ d t. type_variables_in t) d gs) →
          AreGoals m B (filled_goals θ σ gs) → AreGoalsWith R (filled_goals θ σ gs)
      goals_filled d σ h B no_goals w v k = tt
      goals_filled d σ h B (goals g gs) w v k =
          let x = each_parts (AtLoose d σ) (collect_goal loose_in d g) (collect_goals loose_in d gs) w in
          let y = each_parts T (collect_goal (λ d t. type_variables_in t) d g) (collect_goals (λ d t. type_variables_in t) d gs) v in
          (goal_filled d σ h B g x.0 y.0 k.0, goals_filled d σ h B gs x.1 y.1 k.1)

      clauses_filled : (d : ℕ) (σ : ℕ → Term) → Bound d σ → (B : List Bool) (cs : Clauses) → EachOf (AtLoose d σ) (collect_clauses loose_in d cs) → EachOf T (collect_clauses (λ d t. type_variables_in t) d cs) →
          AreClauses m B (filled_clauses θ σ cs) → AreClausesWith R (filled_clauses θ σ cs)
      clauses_filled d σ h B no_clauses w v k = tt
      clauses_filled d σ h B (clauses (clause n vs x b) cs) w v k =
          let e = under_all suc vs d in
          let τ = under_all lifted vs σ in
          let i = bound_all vs d σ h in
          let p = each_parts (AtLoose d σ) (loose_in e x ++ collect_goals loose_in e b) (collect_clauses loose_in d cs) w in
          let q = each_parts T (type_variables_in x ++ collect_goals (λ d t. type_variables_in t) e b) (collect_clauses (λ d t. type_variables_in t) d cs) v in
          let y = each_parts (AtLoose d σ) (loose_in e x) (collect_goals loose_in e b) p.0 in
          let z = each_parts T (type_variables_in x) (collect_goals (λ d t. type_variables_in t) e b) q.0 in (
            (
              k.0,
              term_filled e τ i x (each_same (AtLoose d σ) (AtLoose e τ) (loose_all vs d σ) (loose_in e x) y.0) z.0,
              goals_filled e τ i _ b (each_same (AtLoose d σ) (AtLoose e τ) (loose_all vs d σ) (collect_goals loose_in e b) y.1) z.1 k.1.3,
            ),
            clauses_filled d σ h B cs p.1 q.1 k.2,
          )

    -- one of the clauses
    among_filled : (σ : ℕ → Term) → Bound 0 σ → (c : Clause) (cs : Clauses) → EachOf (AtLoose 0 σ) (collect_clauses loose_in 0 cs) → EachOf T (collect_clauses (λ d t. type_variables_in t) 0 cs) →
        AnyOf (λ x. x ≡ c) (clause_list (filled_clauses θ σ cs)) → IsAssumable m c → IsAssumedWith R c
    among_filled σ h c no_clauses w v a k = absurd a
    among_filled σ h c (clauses (clause n vs x b) cs) w v a k =
        let e = under_all suc vs 0 in
        let p = each_parts (AtLoose 0 σ) (loose_in e x ++ collect_goals loose_in e b) (collect_clauses loose_in 0 cs) w in
        let q = each_parts T (type_variables_in x ++ collect_goals (λ d t. type_variables_in t) e b) (collect_clauses (λ d t. type_variables_in t) 0 cs) v in
        elim a [
          | inl i ↦
              let s = transport (IsAssumable m) (sym i) k in
              let one = clauses_filled 0 σ h [] (clauses (clause n vs x b) no_clauses)
              (each_append (AtLoose 0 σ) (loose_in e x ++ collect_goals loose_in e b) [] p.0 tt)
              (each_append T (type_variables_in x ++ collect_goals (λ d t. type_variables_in t) e b) [] q.0 tt)
              (s.0, s.1, tt) in
              transport (IsAssumedWith R) i one.0
          | inr i ↦ among_filled σ h c cs p.1 q.1 i k
        ]

-- none is bound at the top
none_bound : (Q : ℕ → Type 0) (σ : ℕ → Term) (k : ℕ) → k < 0 → ComesOver Q (σ k)
none_bound Q σ k l = absurd (omega (arith, l))

at_top : (Q : ℕ → Type 0) (σ : ℕ → Term) (is : List ℕ) → EachOf (λ i. ComesOver Q (σ i)) is → EachOf (λ i. ComesOver Q (σ (0 + i))) is
at_top Q σ is h = each_same (λ i. ComesOver Q (σ i)) (λ i. ComesOver Q (σ (0 + i))) (λ i r. let e : i ≡ 0 + i = omega arith in transport (λ k. ComesOver Q (σ k)) e r) is h

module _ (Q : ℕ → Type 0) (m : ℕ) where
  origin_over : (w : Written) (gs : Goals) → IsOrigin w gs → EachOf (ComesOver Q) w.terms → EachOf (Over Q) w.types → AreGoals m [] gs → AreGoalsWith (ComesOver Q) gs
  origin_over w gs o h v k =
      let is = collect_goals loose_in 0 o.flat in
      let js = collect_goals (λ d t. type_variables_in t) 0 o.flat in
      transport (AreGoalsWith (ComesOver Q)) (sym o.is) (goals_filled Q o.types m 0 o.terms (none_bound Q o.terms) [] o.flat
      (at_top Q o.terms is (each_before_map (ComesOver Q) o.terms is (transport (EachOf (ComesOver Q)) o.terms_written h)))
      (each_before_map (Over Q) o.types js (transport (EachOf (Over Q)) o.types_written v))
      (transport (AreGoals m []) o.is k))

  has_origin_over : (w : Written) (c : Clause) → HasOrigin c w → EachOf (ComesOver Q) w.terms → EachOf (Over Q) w.types → IsAssumable m c → IsAssumedWith (ComesOver Q) c
  has_origin_over w c h ts vs k =
      let o = h.origin in
      let is = collect_clauses loose_in 0 o.flat in
      let js = collect_clauses (λ d t. type_variables_in t) 0 o.flat in
      let x = (each_parts (ComesOver Q) h.written.terms h.terms_behind (each_parts (ComesOver Q) h.terms_before (h.written.terms ++ h.terms_behind) (transport (EachOf (ComesOver Q)) h.terms ts)).1).0 in
      let y = (each_parts (Over Q) h.written.types h.types_behind (each_parts (Over Q) h.types_before (h.written.types ++ h.types_behind) (transport (EachOf (Over Q)) h.types vs)).1).0 in
      among_filled Q o.types m o.terms (none_bound Q o.terms) c o.flat
      (at_top Q o.terms is (each_before_map (ComesOver Q) o.terms is (transport (EachOf (ComesOver Q)) o.terms_written x)))
      (each_before_map (Over Q) o.types js (transport (EachOf (Over Q)) o.types_written y))
      (transport (λ g. AnyOf (λ x. x ≡ c) (clause_list g)) o.is h.among) k

  each_origin_over : (w : Written) (A : List Clause) → EachOf (λ c. HasOrigin c w) A → EachOf (ComesOver Q) w.terms → EachOf (Over Q) w.types → EachOf (IsAssumable m) A → EachOf (IsAssumedWith (ComesOver Q)) A
  each_origin_over w [] o ts vs k = tt
  each_origin_over w (c ∷ A) o ts vs k = (has_origin_over w c o.0 ts vs k.0, each_origin_over w A o.1 ts vs k.1)

  -- of a negated goal that was tested
  pub tested_goals : (n : ℕ) (own written : Written) (gs : Goals) → IsOrigin own gs → has_variables n (both_written own written) ≡ Some false → AreGoals m [] gs → AreGoalsWith (ComesOver Q) gs
  tested_goals n own written gs o t k =
      let x = tested_over Q n (both_written own written) t in
      origin_over own gs o (each_parts (ComesOver Q) own.terms written.terms x.0).0 (each_parts (Over Q) own.types written.types x.1).0 k

  pub tested_clauses : (n : ℕ) (own written : Written) (A : List Clause) → EachOf (λ c. HasOrigin c written) A → has_variables n (both_written own written) ≡ Some false → EachOf (IsAssumable m) A → EachOf (IsAssumedWith (ComesOver Q)) A
  tested_clauses n own written A o t k =
      let x = tested_over Q n (both_written own written) t in
      each_origin_over written A o (each_parts (ComesOver Q) own.terms written.terms x.0).1 (each_parts (Over Q) own.types written.types x.1).1 k
