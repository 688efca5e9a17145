-- Flattened goals and clauses, read as formulas, flatten to themselves.
use Rattle.std.proofs.Common.{◌≡◌, ℕ, zero, suc, ◌+◌, ◌≤◌, List, [], ◌∷◌, ◌++◌, Option, Some, Bool, true, false, refl, sym, ap, ◌∙◌, subst, arith, append-nil}
use Rattle.std.specs.Prelude.{◌&&◌, option_map}
use Rattle.lp_calculus.specs.Types.{Ty}
use Rattle.lp_calculus.specs.Term.{Term, abs}
use Rattle.lp_calculus.specs.Spine.{head_of, arguments}
use Rattle.lp_model.specs.Look.{◌>>=◌}
use Rattle.lp_standard.specs.Connectives.{not_of, two, pi_of, sigma_of, Connective, connective_of}
use Rattle.lp_standard.specs.Connectives as connective
use Rattle.lp_standard.specs.Positive.{are_positive}
use Rattle.lp_model.specs.Flat.{Goal, Atomic, Cut, Either, Exists, Forall, Assume, Not, assuming, denied, Goals, no_goals, goals, Clause, clause, Clauses, no_clauses, clauses, add_clauses, all_of, formula_of_goal, formula_of_goals, formula_of_clause, formula_of_clauses, written_in_goals, written_in_clauses}
use Rattle.lp_model.specs.Flatten.{only, is_goal_head, is_clause_head, flat_goal, flat_goal_form, flat_list, flat_clause, flat_clause_form}
use Rattle.lp_model.specs.Proofs.{Declared}

abbrev pub falses : List Ty → List Bool → List Bool
falses [] B = B
falses (v ∷ vs) B = false ∷ falses vs B

abbrev pub IsExists : Goal → Type 0
IsExists (Atomic t) = ⊥
IsExists Cut = ⊥
IsExists (Either gs hs) = ⊥
IsExists (Exists T gs) = Unit {0}
IsExists (Forall T gs) = ⊥
IsExists (Assume w cs gs) = ⊥
IsExists (Not w gs) = ⊥

module _ (d : Declared) where
  -- goals and clauses as flattening makes them
  abbrev mutual
    pub IsFlat : List Bool → Goal → Type 0
    IsFlat B (Atomic t) = (connective_of t ≡ connective.Atomic) × ((is_goal_head (head_of t) && are_positive (arguments t)) ≡ true)
    IsFlat B Cut = Unit {0}
    IsFlat B (Either gs hs) = AreFlat B gs × AreFlat B hs
    IsFlat B (Exists T gs) = AreFlat (false ∷ B) gs
    IsFlat B (Forall T gs) = AreFlat (true ∷ B) gs
    IsFlat B (Assume w cs gs) = (w ≡ written_in_clauses cs) × ClausesFlat B cs × AreFlat B gs
    IsFlat B (Not w gs) = (w ≡ written_in_goals gs) × AreFlat B gs

    pub AreFlat : List Bool → Goals → Type 0
    AreFlat B no_goals = Unit {0}
    AreFlat B (goals g gs) = IsFlat B g × AreFlat B gs × (IsExists g → gs ≡ no_goals)

    pub ClauseFlat : List Bool → Clause → Type 0
    ClauseFlat B (clause n vs h b) = (n ≡ 0) × (connective_of h ≡ connective.Atomic) × ((is_clause_head d (falses vs B) (head_of h) && are_positive (arguments h)) ≡ true) × AreFlat (falses vs B) b

    -- there is one
    pub ClausesFlat : List Bool → Clauses → Type 0
    ClausesFlat B no_clauses = ⊥
    ClausesFlat B (clauses c no_clauses) = ClauseFlat B c
    ClausesFlat B (clauses c (clauses e cs)) = ClauseFlat B c × ClausesFlat B (clauses e cs)

  -- what comes with so much depth comes with more
  unfoldable pub Comes : {A : Type 0} → (ℕ → Option A) → A → Type 0
  Comes f a = (n : ℕ) × ((m : ℕ) → n ≤ m → f m ≡ Some a)

  only_true : {A : Type 0} (p : Bool) (a : A) → p ≡ true → only p a ≡ Some a
  only_true true a e = refl
  only_true false a e = cc

  -- one and two levels up
  goal_up : (B : List Bool) (t : Term) (rest gs : Goals) → Comes (λ n. flat_goal_form n d B t (connective_of t) rest) gs → Comes (λ n. flat_goal n d B t rest) gs
  unfolding Comes
  goal_up B t rest gs c = (suc c.0, go)
    where
      go : (m : ℕ) → suc c.0 ≤ m → flat_goal m d B t rest ≡ Some gs
      go zero l = absurd (omega arith)
      go (suc m) l = c.1 m (omega arith)

  clause_up : (B : List Bool) (t : Term) (vars : List Ty) (body : List Term) (cs : Clauses) → Comes (λ n. flat_clause_form n d B t (connective_of t) vars body) cs → Comes (λ n. flat_clause n d B t vars body) cs
  unfolding Comes
  clause_up B t vars body cs c = (suc c.0, go)
    where
      go : (m : ℕ) → suc c.0 ≤ m → flat_clause m d B t vars body ≡ Some cs
      go zero l = absurd (omega arith)
      go (suc m) l = c.1 m (omega arith)

  -- what a form needs, by the depth that is left
  form_up : {A : Type 0} (f g : ℕ → Option A) (a : A) → ((n : ℕ) → f (suc n) ≡ g n) → Comes g a → Comes f a
  unfolding Comes
  form_up f g a e c = (suc c.0, go)
    where
      go : (m : ℕ) → suc c.0 ≤ m → f m ≡ Some a
      go zero l = absurd (omega arith)
      go (suc m) l = e m ∙ c.1 m (omega arith)

  at_once : {A : Type 0} (a : A) → Comes (λ n. Some a) a
  unfolding Comes
  at_once a = (0, λ m l. refl)

  then_comes : {A C : Type 0} (x : ℕ → Option A) (k : ℕ → A → Option C) (a : A) (c : C) → Comes x a → Comes (λ n. k n a) c → Comes (λ n. x n >>= k n) c
  unfolding Comes
  then_comes x k a c p q = (p.0 + q.0, λ m l. ap (λ o. o >>= k m) (p.1 m (omega (arith, l))) ∙ q.1 m (omega (arith, l)))

  map_comes : {A C : Type 0} (x : ℕ → Option A) (k : A → C) (a : A) → Comes x a → Comes (λ n. option_map k (x n)) (k a)
  unfolding Comes
  map_comes x k a p = (p.0, λ m l. ap (option_map k) (p.1 m l))

  same_comes : {A : Type 0} (x : ℕ → Option A) (a b : A) → a ≡ b → Comes x a → Comes x b
  unfolding Comes
  same_comes x a b e p = (p.0, λ m l. p.1 m l ∙ ap Some e)

  all_up : (B : List Bool) (vars Us : List Ty) (t : Term) (cs : Clauses) → Comes (λ n. flat_clause n d (falses Us B) t (Us ++ vars) []) cs → Comes (λ n. flat_clause n d B (all_of Us t) vars []) cs
  all_up B vars [] t cs c = c
  all_up B vars (T ∷ Us) t cs c =
      all_up B vars Us (pi_of T (abs t)) cs (clause_up (falses Us B) (pi_of T (abs t)) (Us ++ vars) [] cs
      (form_up (λ n. flat_clause_form n d (falses Us B) (pi_of T (abs t)) (connective.ForAll T t) (Us ++ vars) []) (λ n. flat_clause n d (false ∷ falses Us B) t (T ∷ Us ++ vars) []) cs (λ n. refl) c))

  only_comes : {A : Type 0} (p : Bool) (a : A) → p ≡ true → Comes (λ n. only p a) a
  unfolding Comes
  only_comes p a e = (0, λ m l. only_true p a e)

  clause_same : (n : ℕ) (vs : List Ty) (h : Term) (b : Goals) → n ≡ 0 → clause 0 (vs ++ []) h b ≡ clause n vs h b
  clause_same n vs h b e = let q = append-nil vs in cc

  one_goal : (B : List Bool) (t : Term) (gs : Goals) → Comes (λ n. flat_goal n d B t no_goals) gs → Comes (λ n. flat_list n d B (t ∷ [])) gs
  one_goal B t gs c =
      form_up (λ n. flat_list n d B (t ∷ [])) (λ n. flat_list n d B [] >>= flat_goal n d B t) gs (λ n. refl)
      (then_comes (λ n. flat_list n d B []) (λ n. flat_goal n d B t) no_goals gs (form_up (λ n. flat_list n d B []) (λ n. Some no_goals) no_goals (λ n. refl) (at_once no_goals)) c)

  atom_comes : (B : List Bool) (h : Term) (vars : List Ty) (body : List Term) (gs : Goals) →
      (is_clause_head d B (head_of h) && are_positive (arguments h)) ≡ true → Comes (λ n. flat_list n d B body) gs → Comes
      (λ n. flat_clause_form n d B h connective.Atomic vars body) (clauses (clause 0 vars h gs) no_clauses)
  atom_comes B h vars body gs e c =
      form_up (λ n. flat_clause_form n d B h connective.Atomic vars body) (λ n. only (is_clause_head d B (head_of h) && are_positive (arguments h)) h >>= λ k. option_map (λ z. clauses (clause 0 vars k z) no_clauses) (flat_list n d B body)) _ (λ n. refl)
      (then_comes (λ n. only (is_clause_head d B (head_of h) && are_positive (arguments h)) h)
      (λ n k. option_map (λ z. clauses (clause 0 vars k z) no_clauses) (flat_list n d B body)) h (clauses (clause 0 vars h gs) no_clauses)
      (only_comes (is_clause_head d B (head_of h) && are_positive (arguments h)) h e)
      (map_comes (λ n. flat_list n d B body) (λ z. clauses (clause 0 vars h z) no_clauses) gs c))

  -- each reads back
  mutual
    -- one goal in front of others
    goal_again : (B : List Bool) (g : Goal) (rest : Goals) → IsFlat B g → (IsExists g → rest ≡ no_goals) → Comes (λ n. flat_goal n d B (formula_of_goal g) rest) (goals g rest)
    goal_again B (Atomic t) rest h x =
        goal_up B t rest (goals (Atomic t) rest) (subst (λ f. Comes (λ n. flat_goal_form n d B t f rest) (goals (Atomic t) rest)) (sym h.0)
        (form_up (λ n. flat_goal_form n d B t connective.Atomic rest) (λ n. only (is_goal_head (head_of t) && are_positive (arguments t)) (goals (Atomic t) rest)) (goals (Atomic t) rest) (λ n. refl) (only_comes (is_goal_head (head_of t) && are_positive (arguments t)) (goals (Atomic t) rest) h.1)))
    goal_again B Cut rest h x = goal_up B _ rest _ (form_up _ (λ n. Some (goals Cut rest)) (goals Cut rest) (λ n. refl) (at_once (goals Cut rest)))
    goal_again B (Either l r) rest h x =
        goal_up B (two 1 [] (formula_of_goals l) (formula_of_goals r)) rest _ (form_up (λ n. flat_goal_form n d B (two 1 [] (formula_of_goals l) (formula_of_goals r)) (connective.Or (formula_of_goals l) (formula_of_goals r)) rest)
        (λ n. flat_goal n d B (formula_of_goals l) no_goals >>= λ k. option_map (λ z. goals (Either k z) rest) (flat_goal n d B (formula_of_goals r) no_goals)) _ (λ n. refl)
        (then_comes (λ n. flat_goal n d B (formula_of_goals l) no_goals) (λ n k. option_map (λ z. goals (Either k z) rest) (flat_goal n d B (formula_of_goals r) no_goals)) l (goals (Either l r) rest) (goals_again B l h.0)
        (map_comes (λ n. flat_goal n d B (formula_of_goals r) no_goals) (λ z. goals (Either l z) rest) r (goals_again B r h.1))))
    goal_again B (Exists T gs) rest h x =
        subst (λ z. Comes (λ n. flat_goal n d B (sigma_of T (abs (formula_of_goals gs))) z) (goals (Exists T gs) z)) (sym (x tt))
        (goal_up B (sigma_of T (abs (formula_of_goals gs))) no_goals _ (form_up (λ n. flat_goal_form n d B (sigma_of T (abs (formula_of_goals gs))) (connective.Exists T (formula_of_goals gs)) no_goals)
        (λ n. option_map (λ z. goals (Exists T z) no_goals) (flat_goal n d (false ∷ B) (formula_of_goals gs) no_goals)) _ (λ n. refl)
        (map_comes (λ n. flat_goal n d (false ∷ B) (formula_of_goals gs) no_goals) (λ z. goals (Exists T z) no_goals) gs (goals_again (false ∷ B) gs h))))
    goal_again B (Forall T gs) rest h x =
        goal_up B (pi_of T (abs (formula_of_goals gs))) rest _ (form_up (λ n. flat_goal_form n d B (pi_of T (abs (formula_of_goals gs))) (connective.ForAll T (formula_of_goals gs)) rest)
        (λ n. option_map (λ z. goals (Forall T z) rest) (flat_goal n d (true ∷ B) (formula_of_goals gs) no_goals)) _ (λ n. refl)
        (map_comes (λ n. flat_goal n d (true ∷ B) (formula_of_goals gs) no_goals) (λ z. goals (Forall T z) rest) gs (goals_again (true ∷ B) gs h)))
    goal_again B (Assume w cs gs) rest h x =
        same_comes _ (goals (assuming cs gs) rest) (goals (Assume w cs gs) rest) (ap (λ v. goals (Assume v cs gs) rest) (sym h.0))
        (goal_up B (two 2 [] (formula_of_clauses cs) (formula_of_goals gs)) rest _ (form_up (λ n. flat_goal_form n d B (two 2 [] (formula_of_clauses cs) (formula_of_goals gs)) (connective.Implies (formula_of_clauses cs) (formula_of_goals gs)) rest)
        (λ n. flat_clause n d B (formula_of_clauses cs) [] [] >>= λ k. option_map (λ z. goals (assuming k z) rest) (flat_goal n d B (formula_of_goals gs) no_goals)) _ (λ n. refl)
        (then_comes (λ n. flat_clause n d B (formula_of_clauses cs) [] []) (λ n k. option_map (λ z. goals (assuming k z) rest) (flat_goal n d B (formula_of_goals gs) no_goals)) cs (goals (assuming cs gs) rest) (clauses_again B cs h.1)
        (map_comes (λ n. flat_goal n d B (formula_of_goals gs) no_goals) (λ z. goals (assuming cs z) rest) gs (goals_again B gs h.2)))))
    goal_again B (Not w gs) rest h x =
        same_comes _ (goals (denied gs) rest) (goals (Not w gs) rest) (ap (λ v. goals (Not v gs) rest) (sym h.0))
        (goal_up B (not_of (formula_of_goals gs)) rest _ (form_up (λ n. flat_goal_form n d B (not_of (formula_of_goals gs)) (connective.Not (formula_of_goals gs)) rest)
        (λ n. option_map (λ z. goals (denied z) rest) (flat_goal n d B (formula_of_goals gs) no_goals)) _ (λ n. refl)
        (map_comes (λ n. flat_goal n d B (formula_of_goals gs) no_goals) (λ z. goals (denied z) rest) gs (goals_again B gs h.1))))

    pub goals_again : (B : List Bool) (gs : Goals) → AreFlat B gs → Comes (λ n. flat_goal n d B (formula_of_goals gs) no_goals) gs
    goals_again B no_goals h = goal_up B _ no_goals _ (form_up _ (λ n. Some no_goals) no_goals (λ n. refl) (at_once no_goals))
    goals_again B (goals g no_goals) h = goal_again B g no_goals h.0 (λ x. refl)
    goals_again B (goals g (goals e gs)) h =
        goal_up B (two 0 [] (formula_of_goal g) (formula_of_goals (goals e gs))) no_goals _ (form_up (λ n. flat_goal_form n d B (two 0 [] (formula_of_goal g) (formula_of_goals (goals e gs))) (connective.And (formula_of_goal g) (formula_of_goals (goals e gs))) no_goals)
        (λ n. flat_goal n d B (formula_of_goals (goals e gs)) no_goals >>= flat_goal n d B (formula_of_goal g)) _ (λ n. refl)
        (then_comes (λ n. flat_goal n d B (formula_of_goals (goals e gs)) no_goals) (λ n. flat_goal n d B (formula_of_goal g)) (goals e gs) (goals g (goals e gs)) (goals_again B (goals e gs) h.1) (goal_again B g (goals e gs) h.0 h.2)))

    clause_again : (B : List Bool) (c : Clause) → ClauseFlat B c → Comes (λ n. flat_clause n d B (formula_of_clause c) [] []) (clauses c no_clauses)
    clause_again B (clause n vs h no_goals) w =
        same_comes _ (clauses (clause 0 (vs ++ []) h no_goals) no_clauses) _ (ap (λ z. clauses z no_clauses) (clause_same n vs h no_goals w.0))
        (all_up B [] vs h _ (clause_up (falses vs B) h (vs ++ []) [] _ (subst (λ f. Comes (λ n. flat_clause_form n d (falses vs B) h f (vs ++ []) []) (clauses (clause 0 (vs ++ []) h no_goals) no_clauses)) (sym w.1)
        (atom_comes (falses vs B) h (vs ++ []) [] no_goals w.2 (form_up (λ n. flat_list n d (falses vs B) []) (λ n. Some no_goals) no_goals (λ n. refl) (at_once no_goals))))))
    clause_again B (clause n vs h (goals g gs)) w =
        let f = formula_of_goals (goals g gs) in
        same_comes _ (clauses (clause 0 (vs ++ []) h (goals g gs)) no_clauses) _ (ap (λ z. clauses z no_clauses) (clause_same n vs h (goals g gs) w.0))
        (all_up B [] vs (two 2 [] f h) _ (clause_up (falses vs B) (two 2 [] f h) (vs ++ []) [] _
        (form_up (λ n. flat_clause_form n d (falses vs B) (two 2 [] f h) (connective.Implies f h) (vs ++ []) []) (λ n. flat_clause n d (falses vs B) h (vs ++ []) (f ∷ [])) _ (λ n. refl)
        (clause_up (falses vs B) h (vs ++ []) (f ∷ []) _ (subst (λ z. Comes (λ n. flat_clause_form n d (falses vs B) h z (vs ++ []) (f ∷ [])) (clauses (clause 0 (vs ++ []) h (goals g gs)) no_clauses)) (sym w.1)
        (atom_comes (falses vs B) h (vs ++ []) (f ∷ []) (goals g gs) w.2 (one_goal (falses vs B) f (goals g gs) (goals_again (falses vs B) (goals g gs) w.3))))))))

    pub clauses_again : (B : List Bool) (cs : Clauses) → ClausesFlat B cs → Comes (λ n. flat_clause n d B (formula_of_clauses cs) [] []) cs
    clauses_again B no_clauses h = absurd h
    clauses_again B (clauses c no_clauses) h = clause_again B c h
    clauses_again B (clauses c (clauses e cs)) h =
        clause_up B (two 0 [] (formula_of_clause c) (formula_of_clauses (clauses e cs))) [] [] _ (form_up (λ n. flat_clause_form n d B (two 0 [] (formula_of_clause c) (formula_of_clauses (clauses e cs))) (connective.And (formula_of_clause c) (formula_of_clauses (clauses e cs))) [] [])
        (λ n. flat_clause n d B (formula_of_clause c) [] [] >>= λ l. option_map (add_clauses l) (flat_clause n d B (formula_of_clauses (clauses e cs)) [] [])) _ (λ n. refl)
        (then_comes (λ n. flat_clause n d B (formula_of_clause c) [] []) (λ n l. option_map (add_clauses l) (flat_clause n d B (formula_of_clauses (clauses e cs)) [] [])) (clauses c no_clauses) (clauses c (clauses e cs)) (clause_again B c h.0)
        (map_comes (λ n. flat_clause n d B (formula_of_clauses (clauses e cs)) [] []) (add_clauses (clauses c no_clauses)) (clauses e cs) (clauses_again B (clauses e cs) h.1))))
