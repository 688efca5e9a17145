-- Flattened goals and clauses of formulas without `not` have no negated goal.
use Rattle.std.proofs.Common.{◌≡◌, ℕ, zero, suc, List, [], ◌∷◌, ◌++◌, map, Some, Bool, true, false, refl, sym, subst as transport, inl, inr}
use Rattle.std.specs.Prelude.{◌&&◌, option_map}
use Rattle.lp_calculus.specs.Types.{Ty}
use Rattle.lp_calculus.specs.Term.{Term, shift}
use Rattle.lp_calculus.specs.Closed.{AllAtoms}
use Rattle.lp_calculus.specs.Spine.{head_of, arguments}
use Rattle.lp_lemmas.specs.Each.{EachOf}
use Rattle.lp_lemmas.proofs.Each.{each_append}
use Rattle.lp_lemmas.proofs.Options.{and_then_some, option_map_some}
use Rattle.lp_standard.specs.Connectives.{two, pi_of, sigma_of, not_of, body_of, Connective, connective_of}
use Rattle.lp_standard.specs.Connectives as connective
use Rattle.lp_standard.specs.Positive.{are_positive}
use Rattle.lp_model.specs.Flat.{Atomic, Cut, Either, Exists, Forall, assuming, Goals, no_goals, goals, clause, Clauses, no_clauses, clauses, add_clauses, raise_goals}
use Rattle.lp_model.specs.Flatten.{only, is_goal_head, is_clause_head, flat_goal, flat_goal_form, flat_list, flat_clause, flat_clause_form}
use Rattle.lp_model.specs.Proofs.{Declared}
use Rattle.lp_proof_laws.specs.Unnegated.{IsUnnegatedAtom}
use Rattle.lp_proof_laws.proofs.Uniform.Forms.{Shape, form_shape}
use Rattle.lp_search_laws.specs.Unnegated.{AreUnnegatedGoals, AreUnnegatedClauses}
use Rattle.lp_search_laws.proofs.Unnegated.{goals_mapped}
use Rattle.lp_search_laws.proofs.AtomsKept.{atoms_raise_each, atoms_body}
use Rattle.lp_search_laws.proofs.TypedFlats.{only_some, some_is}

abbrev U : Term → Type 0
U t = AllAtoms IsUnnegatedAtom t

added : (cs ds : Clauses) → AreUnnegatedClauses cs → AreUnnegatedClauses ds → AreUnnegatedClauses (add_clauses cs ds)
added no_clauses ds h k = k
added (clauses c cs) ds h k = (h.0, added cs ds h.1 k)

module _ (d : Declared) where
  mutual
    goal_flat : (n : ℕ) (B : List Bool) (t : Term) (rest gs : Goals) → flat_goal n d B t rest ≡ Some gs → U t → AreUnnegatedGoals rest → AreUnnegatedGoals gs
    goal_flat zero B t rest gs e o r = absurd (cc)
    goal_flat (suc n) B t rest gs e o r = form_flat n B t (connective_of t) (form_shape t) rest gs e o r

    form_flat : (n : ℕ) (B : List Bool) (t : Term) (f : Connective) → Shape f t → (rest gs : Goals) → flat_goal_form n d B t f rest ≡ Some gs → U t → AreUnnegatedGoals rest → AreUnnegatedGoals gs
    form_flat zero B t f s rest gs e o r = absurd (cc)
    form_flat (suc n) B t connective.True s rest gs e o r = transport AreUnnegatedGoals (some_is rest gs e) r
    form_flat (suc n) B t connective.Cut s rest gs e o r = transport AreUnnegatedGoals (some_is (goals Cut rest) gs e) (tt, r)
    form_flat (suc n) B t (connective.And a b) s rest gs e o r =
        let p = transport U s o in
        let q = and_then_some (flat_goal n d B b rest) (flat_goal n d B a) gs e in
        goal_flat n B a q.0 gs q.2 p.0.1 (goal_flat n B b rest q.0 q.1 p.1 r)
    form_flat (suc n) B t (connective.Or a b) s rest gs e o r =
        let p = transport U s o in
        let q = and_then_some (flat_goal n d B a no_goals) (λ l. option_map (λ m. goals (Either l m) rest) (flat_goal n d B b no_goals)) gs e in
        let z = option_map_some (flat_goal n d B b no_goals) (λ m. goals (Either q.0 m) rest) gs q.2 in
        transport AreUnnegatedGoals z.2 ((goal_flat n B a no_goals q.0 q.1 p.0.1 tt, goal_flat n B b no_goals z.0 z.1 p.1 tt), r)
    form_flat (suc n) B t (connective.Implies c g) (inl s) rest gs e o r =
        let p = transport U s o in
        let q = and_then_some (flat_clause n d B c [] []) (λ cs. option_map (λ hs. goals (assuming cs hs) rest) (flat_goal n d B g no_goals)) gs e in
        let z = option_map_some (flat_goal n d B g no_goals) (λ hs. goals (assuming q.0 hs) rest) gs q.2 in
        transport AreUnnegatedGoals z.2 ((clause_flat n B c [] [] q.0 q.1 p.0.1 tt, goal_flat n B g no_goals z.0 z.1 p.1 tt), r)
    form_flat (suc n) B t (connective.Implies c g) (inr s) rest gs e o r =
        let p = transport U s o in
        let q = and_then_some (flat_clause n d B c [] []) (λ cs. option_map (λ hs. goals (assuming cs hs) rest) (flat_goal n d B g no_goals)) gs e in
        let z = option_map_some (flat_goal n d B g no_goals) (λ hs. goals (assuming q.0 hs) rest) gs q.2 in
        transport AreUnnegatedGoals z.2 ((clause_flat n B c [] [] q.0 q.1 p.1 tt, goal_flat n B g no_goals z.0 z.1 p.0.1 tt), r)
    form_flat (suc n) B t (connective.ForAll T b) s rest gs e o r =
        let p = transport U s.1 o in
        let z = option_map_some (flat_goal n d (true ∷ B) b no_goals) (λ hs. goals (Forall T hs) rest) gs e in
        transport AreUnnegatedGoals z.2 (goal_flat n (true ∷ B) b no_goals z.0 z.1 (transport U (sym s.2) (atoms_body IsUnnegatedAtom s.0 p.1)) tt, r)
    form_flat (suc n) B t (connective.Exists T b) s rest gs e o r =
        let p = transport U s.1 o in
        let z = option_map_some (flat_goal n d (false ∷ B) b (raise_goals 0 rest)) (λ hs. goals (Exists T hs) no_goals) gs e in
        transport AreUnnegatedGoals z.2 (goal_flat n (false ∷ B) b (raise_goals 0 rest) z.0 z.1 (transport U (sym s.2) (atoms_body IsUnnegatedAtom s.0 p.1)) (goals_mapped _ _ _ zero rest r), tt)
    form_flat (suc n) B t (connective.Not g) s rest gs e o r = let p = transport U s o in absurd (p.0 refl)
    form_flat (suc n) B t connective.Atomic s rest gs e o r = transport AreUnnegatedGoals (only_some (is_goal_head (head_of t) && are_positive (arguments t)) (goals (Atomic t) rest) gs e).1 (tt, r)

    list_flat : (n : ℕ) (B : List Bool) (ts : List Term) (gs : Goals) → flat_list n d B ts ≡ Some gs → EachOf U ts → AreUnnegatedGoals gs
    list_flat zero B ts gs e h = absurd (cc)
    list_flat (suc n) B [] gs e h = transport AreUnnegatedGoals (some_is no_goals gs e) tt
    list_flat (suc n) B (t ∷ ts) gs e h =
        let q = and_then_some (flat_list n d B ts) (flat_goal n d B t) gs e in
        goal_flat n B t q.0 gs q.2 h.0 (list_flat n B ts q.0 q.1 h.1)

    clause_flat : (n : ℕ) (B : List Bool) (c : Term) (vs : List Ty) (ts : List Term) (cs : Clauses) → flat_clause n d B c vs ts ≡ Some cs → U c → EachOf U ts → AreUnnegatedClauses cs
    clause_flat zero B c vs ts cs e o h = absurd (cc)
    clause_flat (suc n) B c vs ts cs e o h = clause_form_flat n B c (connective_of c) (form_shape c) vs ts cs e o h

    clause_form_flat : (n : ℕ) (B : List Bool) (c : Term) (f : Connective) → Shape f c → (vs : List Ty) (ts : List Term) (cs : Clauses) → flat_clause_form n d B c f vs ts ≡ Some cs → U c → EachOf U ts → AreUnnegatedClauses cs
    clause_form_flat zero B c f s vs ts cs e o h = absurd (cc)
    clause_form_flat (suc n) B c connective.True s vs ts cs e o h = absurd (cc)
    clause_form_flat (suc n) B c connective.Cut s vs ts cs e o h = absurd (cc)
    clause_form_flat (suc n) B c (connective.Or a b) s vs ts cs e o h = absurd (cc)
    clause_form_flat (suc n) B c (connective.Not g) s vs ts cs e o h = absurd (cc)
    clause_form_flat (suc n) B c (connective.Exists T b) s vs ts cs e o h = absurd (cc)
    clause_form_flat (suc n) B c (connective.And a b) s vs ts cs e o h =
        let p = transport U s o in
        let q = and_then_some (flat_clause n d B a vs ts) (λ l. option_map (add_clauses l) (flat_clause n d B b vs ts)) cs e in
        let z = option_map_some (flat_clause n d B b vs ts) (add_clauses q.0) cs q.2 in
        transport AreUnnegatedClauses z.2 (added q.0 z.0 (clause_flat n B a vs ts q.0 q.1 p.0.1 h) (clause_flat n B b vs ts z.0 z.1 p.1 h))
    clause_form_flat (suc n) B c (connective.Implies g b) (inl s) vs ts cs e o h = let p = transport U s o in clause_flat n B b vs (ts ++ g ∷ []) cs e p.1 (each_append U ts (g ∷ []) h (p.0.1, tt))
    clause_form_flat (suc n) B c (connective.Implies g b) (inr s) vs ts cs e o h = let p = transport U s o in clause_flat n B b vs (ts ++ g ∷ []) cs e p.0.1 (each_append U ts (g ∷ []) h (p.1, tt))
    clause_form_flat (suc n) B c (connective.ForAll T b) s vs ts cs e o h =
        let p = transport U s.1 o in
        clause_flat n (false ∷ B) b (T ∷ vs) (map (shift 0 1) ts) cs e (transport U (sym s.2) (atoms_body IsUnnegatedAtom s.0 p.1)) (atoms_raise_each IsUnnegatedAtom 0 ts h)
    clause_form_flat (suc n) B c connective.Atomic s vs ts cs e o h =
        let q = and_then_some (only (is_clause_head d B (head_of c) && are_positive (arguments c)) c) (λ u. option_map (λ gs. clauses (clause 0 vs u gs) no_clauses) (flat_list n d B ts)) cs e in
        let z = option_map_some (flat_list n d B ts) (λ gs. clauses (clause 0 vs q.0 gs) no_clauses) cs q.2 in
        transport AreUnnegatedClauses z.2 (list_flat n B ts z.0 z.1 h, tt)

  pub goals_unnegated : (n : ℕ) (B : List Bool) (t : Term) (gs : Goals) → flat_goal n d B t no_goals ≡ Some gs → AllAtoms IsUnnegatedAtom t → AreUnnegatedGoals gs
  goals_unnegated n B t gs e o = goal_flat n B t no_goals gs e o tt

  pub clauses_unnegated : (n : ℕ) (B : List Bool) (c : Term) (cs : Clauses) → flat_clause n d B c [] [] ≡ Some cs → AllAtoms IsUnnegatedAtom c → AreUnnegatedClauses cs
  clauses_unnegated n B c cs e o = clause_flat n B c [] [] cs e o tt
