-- What flattening gives reads back as a formula that flattens to it.
use Rattle.std.proofs.Common.{◌≡◌, ℕ, zero, suc, ◌≤◌, List, [], ◌∷◌, ◌++◌, map, Some, Bool, true, false, refl, ap, subst}
use Rattle.std.specs.Prelude.{◌&&◌, option_map}
use Rattle.lp_calculus.specs.Types.{Ty}
use Rattle.lp_calculus.specs.Term.{Term, shift}
use Rattle.lp_calculus.specs.Spine.{head_of, arguments}
use Rattle.lp_standard.specs.Connectives.{Connective, connective_of}
use Rattle.lp_standard.specs.Connectives as connective
use Rattle.lp_standard.specs.Positive.{are_positive}
use Rattle.lp_lemmas.proofs.Options.{and_then_some, option_map_some}
use Rattle.lp_model.specs.Flat.{Atomic, Cut, Either, Exists, Forall, assuming, denied, Goals, no_goals, goals, clause, Clauses, no_clauses, clauses, add_clauses, raise_goals, formula_of_goals, formula_of_clauses}
use Rattle.lp_model.specs.Flatten.{only, is_goal_head, is_clause_head, flat_goal, flat_goal_form, flat_list, flat_clause, flat_clause_form}
use Rattle.lp_model.specs.Proofs.{Declared}
use Rattle.lp_proof_laws.proofs.Flattened.Again.{Comes, falses, AreFlat, ClausesFlat, goals_again, clauses_again}
use Rattle.lp_proof_laws.proofs.Flattened.Raised.{raise_first, goals_raised}

only_some : {A : Type 0} (p : Bool) (a b : A) → only p a ≡ Some b → (p ≡ true) × (a ≡ b)
only_some true a b e = let q : a ≡ b = cc in (refl, q)
only_some false a b e = absurd (cc)

module _ (d : Declared) where
  add_flat : (B : List Bool) (cs ds : Clauses) → ClausesFlat d B cs → ClausesFlat d B ds → ClausesFlat d B (add_clauses cs ds)
  add_flat B no_clauses ds h k = absurd h
  add_flat B (clauses c no_clauses) no_clauses h k = absurd k
  add_flat B (clauses c no_clauses) (clauses e ds) h k = (h, k)
  add_flat B (clauses c (clauses e cs)) ds h k = (h.0, add_flat B (clauses e cs) ds h.1 k)

  mutual
    goal_made : (n : ℕ) (B : List Bool) (t : Term) (rest gs : Goals) → flat_goal n d B t rest ≡ Some gs → AreFlat d B rest → AreFlat d B gs
    goal_made zero B t rest gs e h = absurd (cc)
    goal_made (suc n) B t rest gs e h = form_made n B t (connective_of t) refl rest gs e h

    form_made : (n : ℕ) (B : List Bool) (t : Term) (f : Connective) → connective_of t ≡ f → (rest gs : Goals) → flat_goal_form n d B t f rest ≡ Some gs → AreFlat d B rest → AreFlat d B gs
    form_made zero B t f q rest gs e h = absurd (cc)
    form_made (suc n) B t connective.True q rest gs e h = let s : rest ≡ gs = cc in subst (AreFlat d B) s h
    form_made (suc n) B t connective.Cut q rest gs e h = let s : goals Cut rest ≡ gs = cc in subst (AreFlat d B) s (tt, h, λ x. absurd x)
    form_made (suc n) B t (connective.And a b) q rest gs e h =
        let x = and_then_some (flat_goal n d B b rest) (flat_goal n d B a) gs e in
        goal_made n B a x.0 gs x.2 (goal_made n B b rest x.0 x.1 h)
    form_made (suc n) B t (connective.Or a b) q rest gs e h =
        let x = and_then_some (flat_goal n d B a no_goals) (λ l. option_map (λ r. goals (Either l r) rest) (flat_goal n d B b no_goals)) gs e in
        let y = option_map_some (flat_goal n d B b no_goals) (λ r. goals (Either x.0 r) rest) gs x.2 in
        subst (AreFlat d B) y.2 ((goal_made n B a no_goals x.0 x.1 tt, goal_made n B b no_goals y.0 y.1 tt), h, λ z. absurd z)
    form_made (suc n) B t (connective.Implies c g) q rest gs e h =
        let x = and_then_some (flat_clause n d B c [] []) (λ cs. option_map (λ hs. goals (assuming cs hs) rest) (flat_goal n d B g no_goals)) gs e in
        let y = option_map_some (flat_goal n d B g no_goals) (λ hs. goals (assuming x.0 hs) rest) gs x.2 in
        subst (AreFlat d B) y.2 ((refl, clause_made n B [] B refl c [] x.0 x.1, goal_made n B g no_goals y.0 y.1 tt), h, λ z. absurd z)
    form_made (suc n) B t (connective.ForAll T b) q rest gs e h =
        let y = option_map_some (flat_goal n d (true ∷ B) b no_goals) (λ hs. goals (Forall T hs) rest) gs e in
        subst (AreFlat d B) y.2 (goal_made n (true ∷ B) b no_goals y.0 y.1 tt, h, λ z. absurd z)
    form_made (suc n) B t (connective.Exists T b) q rest gs e h =
        let y = option_map_some (flat_goal n d (false ∷ B) b (raise_goals 0 rest)) (λ hs. goals (Exists T hs) no_goals) gs e in
        subst (AreFlat d B) y.2 (goal_made n (false ∷ B) b (raise_goals 0 rest) y.0 y.1 (goals_raised d 0 B (false ∷ B) (raise_first false B) rest h), tt, λ z. refl)
    form_made (suc n) B t (connective.Not g) q rest gs e h =
        let y = option_map_some (flat_goal n d B g no_goals) (λ hs. goals (denied hs) rest) gs e in
        subst (AreFlat d B) y.2 ((refl, goal_made n B g no_goals y.0 y.1 tt), h, λ z. absurd z)
    form_made (suc n) B t connective.Atomic q rest gs e h =
        let x = only_some (is_goal_head (head_of t) && are_positive (arguments t)) (goals (Atomic t) rest) gs e in
        subst (AreFlat d B) x.1 ((q, x.0), h, λ z. absurd z)

    list_made : (n : ℕ) (B : List Bool) (ts : List Term) (gs : Goals) → flat_list n d B ts ≡ Some gs → AreFlat d B gs
    list_made zero B ts gs e = absurd (cc)
    list_made (suc n) B [] gs e = let s : no_goals ≡ gs = cc in subst (AreFlat d B) s tt
    list_made (suc n) B (t ∷ ts) gs e =
        let x = and_then_some (flat_list n d B ts) (flat_goal n d B t) gs e in
        goal_made n B t x.0 gs x.2 (list_made n B ts x.0 x.1)

    -- the binders so far are those outside, and one for each variable
    clause_made : (n : ℕ) (O : List Bool) (vars : List Ty) (B : List Bool) → B ≡ falses vars O → (t : Term) (body : List Term) (cs : Clauses) → flat_clause n d B t vars body ≡ Some cs → ClausesFlat d O cs
    clause_made zero O vars B b t body cs e = absurd (cc)
    clause_made (suc n) O vars B b t body cs e = clause_form_made n O vars B b t (connective_of t) refl body cs e

    clause_form_made : (n : ℕ) (O : List Bool) (vars : List Ty) (B : List Bool) → B ≡ falses vars O → (t : Term) (f : Connective) → connective_of t ≡ f → (body : List Term) (cs : Clauses) → flat_clause_form n d B t f vars body ≡ Some cs → ClausesFlat d O cs
    clause_form_made zero O vars B b t f q body cs e = absurd (cc)
    clause_form_made (suc n) O vars B b t (connective.And x y) q body cs e =
        let l = and_then_some (flat_clause n d B x vars body) (λ l. option_map (add_clauses l) (flat_clause n d B y vars body)) cs e in
        let r = option_map_some (flat_clause n d B y vars body) (add_clauses l.0) cs l.2 in
        subst (ClausesFlat d O) r.2 (add_flat O l.0 r.0 (clause_made n O vars B b x body l.0 l.1) (clause_made n O vars B b y body r.0 r.1))
    clause_form_made (suc n) O vars B b t (connective.Implies g c) q body cs e = clause_made n O vars B b c (body ++ g ∷ []) cs e
    clause_form_made (suc n) O vars B b t (connective.ForAll T s) q body cs e = clause_made n O (T ∷ vars) (false ∷ B) (ap (λ z. false ∷ z) b) s (map (shift 0 1) body) cs e
    clause_form_made (suc n) O vars B b t connective.Atomic q body cs e =
        let x = and_then_some (only (is_clause_head d B (head_of t) && are_positive (arguments t)) t) (λ h. option_map (λ gs. clauses (clause 0 vars h gs) no_clauses) (flat_list n d B body)) cs e in
        let o = only_some (is_clause_head d B (head_of t) && are_positive (arguments t)) t x.0 x.1 in
        let y = option_map_some (flat_list n d B body) (λ gs. clauses (clause 0 vars x.0 gs) no_clauses) cs x.2 in
        subst (ClausesFlat d O) y.2 (subst (λ h. ClausesFlat d O (clauses (clause 0 vars h y.0) no_clauses)) o.1 (
          refl,
          q,
          subst (λ Z. (is_clause_head d Z (head_of t) && are_positive (arguments t)) ≡ true) b o.0,
          subst (λ Z. AreFlat d Z y.0) b (list_made n B body y.0 y.1),
        ))
    clause_form_made (suc n) O vars B b t connective.True q body cs e = absurd (cc)
    clause_form_made (suc n) O vars B b t connective.Cut q body cs e = absurd (cc)
    clause_form_made (suc n) O vars B b t (connective.Or x y) q body cs e = absurd (cc)
    clause_form_made (suc n) O vars B b t (connective.Exists T s) q body cs e = absurd (cc)
    clause_form_made (suc n) O vars B b t (connective.Not g) q body cs e = absurd (cc)

  pub goals_flatten_again : (n : ℕ) (B : List Bool) (t : Term) (gs : Goals) → flat_goal n d B t no_goals ≡ Some gs → (m : ℕ) × ((k : ℕ) → m ≤ k → flat_goal k d B (formula_of_goals gs) no_goals ≡ Some gs)
  unfolding Comes
  goals_flatten_again n B t gs e = goals_again d B gs (goal_made n B t no_goals gs e tt)

  pub clauses_flatten_again : (n : ℕ) (B : List Bool) (t : Term) (cs : Clauses) → flat_clause n d B t [] [] ≡ Some cs → (m : ℕ) × ((k : ℕ) → m ≤ k → flat_clause k d B (formula_of_clauses cs) [] [] ≡ Some cs)
  unfolding Comes
  clauses_flatten_again n B t cs e = clauses_again d B cs (clause_made n B [] B refl t [] cs e)
