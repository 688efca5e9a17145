-- Flattening reads back: by induction on its depth, the flattened goals of a formula stand for it, and the flattened clauses of a clause stand for it.
use Rattle.std.proofs.Common.{◌≡◌, ℕ, zero, suc, List, [], ◌∷◌, ◌++◌, map, length, Option, Some, None, refl, sym, ap, ◌∙◌, subst, arith, inl, inr}
use Rattle.std.specs.Prelude.{◌&&◌, Bool, true, false, option_map, nat_eq, if◌then◌else◌}
use Rattle.std.proofs.lemmas.Bool.{ne_eqb}
use Rattle.lp_lemmas.proofs.Options.{and_then_some, option_map_some}
use Rattle.lp_calculus.specs.Types.{Ty, instance}
use Rattle.lp_calculus.specs.Term.{Term, atom, constant, shift}
use Rattle.lp_calculus.specs.Typing.{Scheme, o_type, scheme_type, type_at}
use Rattle.lp_calculus.specs.Closed.{AreClosed}
use Rattle.lp_calculus.specs.Spine.{head_of, arguments}
use Rattle.lp_lemmas.specs.Each.{EachOf}
use Rattle.lp_standard.specs.Connectives.{truth, cut, not_of, two, pi_of, sigma_of, body_of, Connective, connective_of}
use Rattle.lp_standard.specs.Connectives as connective
use Rattle.lp_standard.specs.Positive.{are_positive}
use Rattle.lp_model.specs.Flat.{Atomic, Cut, Either, Exists, Forall, Goals, no_goals, goals, clause, Clauses, no_clauses, clauses, add_clauses, raise_goals, all_of, formula_of_goals, assuming, denied}
use Rattle.lp_model.specs.Flatten.{only, is_goal_head, is_clause_head, flat_goal, flat_goal_form, flat_list, flat_clause, flat_clause_form}
use Rattle.lp_proof_laws.proofs.Uniform.Settings.{IsSetting}
use Rattle.lp_model.specs.Proofs.{Declared, Leaves}
use Rattle.lp_lemmas.proofs.Each.{each_append}
use Rattle.lp_proof_laws.proofs.Uniform.Forms.{Shape, form_shape}
use Rattle.lp_proof_laws.proofs.Uniform.Openings.{IsOpen, open_parts, open_function, open_body}
use Rattle.lp_proof_laws.proofs.Uniform.Roots.{connective, sigma_type, pi_type}
use Rattle.lp_proof_laws.proofs.Flattened.FlatGoals.{open_truth, open_cut, truth_proved, formula_raise, GoalLaw, in_front, truth_law, both_law, either_law, every_law, exist_law, open_argument, denied_law, ClauseLaw, implied_law, if_law}
use Rattle.lp_proof_laws.proofs.Flattened.FlatClauses.{imps, open_shift, open_shifts, both_clauses, implied_clauses, if_clauses, every_clauses, ListLaw, one_clause}

-- what came of options

only_some : {A : Type 0} (b : Bool) (a x : A) → only b a ≡ Some x → a ≡ x
only_some true a x e = let g : a ≡ x = cc in g
only_some false a x e = cc

some_is : {A : Type 0} (a x : A) → Some a ≡ Some x → a ≡ x
some_is a x e = let g : a ≡ x = cc in g

no_types : (T U : Ty) (o : Option Scheme) (ts : List Ty) → o ≡ Some (record { count = 0; body = U }) → scheme_type ts o ≡ Some T → ts ≡ []
no_types T U o [] e f = refl
no_types T U o (t ∷ ts) e f =
    let z : nat_eq (length (t ∷ ts)) 0 ≡ false = ne_eqb (length (t ∷ ts)) 0 (λ q. cc) in
    let g : ◌≡◌ {A = Option Ty} None (Some T) = sym (ap (λ b. if b then Some (instance (type_at (t ∷ ts)) U) else None) z) ∙ sym (ap (scheme_type (t ∷ ts)) e) ∙ f in
    cc

module _ {L : Leaves} (d : Declared) (std : IsSetting L d) where
  OpenIn : List Ty → Term → Type 0
  OpenIn Γ t = IsOpen d Γ t o_type

  law_of_equal : (Γ : List Ty) (t u : Term) (rest gs : Goals) → t ≡ u → GoalLaw d std Γ u rest gs → GoalLaw d std Γ t rest gs
  law_of_equal Γ t u rest gs e l = subst (λ z. GoalLaw d std Γ z rest gs) (sym e) l

  open_equal : (Γ : List Ty) (t u : Term) → t ≡ u → IsOpen d Γ t o_type → IsOpen d Γ u o_type
  open_equal Γ t u e o = subst (λ z. IsOpen d Γ z o_type) e o

  constant_alone : (Γ : List Ty) (c : ℕ) (ts : List Ty) → d c ≡ Some (record { count = 0; body = o_type }) → IsOpen d Γ (atom (constant c ts)) o_type → atom (constant c ts) ≡ atom (constant c [])
  constant_alone Γ c ts e o = ap (λ us. atom (constant c us)) (no_types o_type o_type (d c) ts e o.typed)

  empty_open : (vs Γ : List Ty) → EachOf (λ t. IsOpen d (vs ++ Γ) t o_type) []
  empty_open vs Γ = tt

  mutual
    goal_law : (n : ℕ) (binders : List Bool) (t : Term) (rest gs : Goals) (Γ : List Ty) → flat_goal n d binders t rest ≡ Some gs → IsOpen d Γ t o_type → IsOpen d Γ (formula_of_goals rest) o_type → GoalLaw d std Γ t rest gs
    goal_law zero binders t rest gs Γ e o r = absurd (cc)
    goal_law (suc n) binders t rest gs Γ e o r = form_law n binders t (connective_of t) (form_shape t) rest gs Γ e o r

    form_law : (n : ℕ) (binders : List Bool) (t : Term) (f : Connective) → Shape f t → (rest gs : Goals) (Γ : List Ty) → flat_goal_form n d binders t f rest ≡ Some gs → IsOpen d Γ t o_type → IsOpen d Γ (formula_of_goals rest) o_type → GoalLaw d std Γ t rest gs
    form_law zero binders t f s rest gs Γ e o r = absurd (cc)
    form_law (suc n) binders t connective.True s rest gs Γ e o r =
        let q = s.1 ∙ constant_alone Γ 6 s.0 (std.standard.at 6 (omega arith)) (open_equal Γ t (atom (constant 6 s.0)) s.1 o) in
        law_of_equal Γ t truth rest gs q (subst (GoalLaw d std Γ truth rest) (some_is rest gs e) (truth_law d std Γ rest r))
    form_law (suc n) binders t connective.Cut s rest gs Γ e o r =
        let q = s.1 ∙ constant_alone Γ 7 s.0 (std.standard.at 7 (omega arith)) (open_equal Γ t (atom (constant 7 s.0)) s.1 o) in
        law_of_equal Γ t cut rest gs q (subst (GoalLaw d std Γ cut rest) (some_is (goals Cut rest) gs e) (in_front d std Γ Cut rest (open_cut d std Γ) r))
    form_law (suc n) binders t (connective.And a b) s rest gs Γ e o r =
        let o' = open_equal Γ t (two 0 [] a b) s o in
        let p = open_parts d Γ 0 a b (connective d std.standard 0 (omega arith)) o' in
        let q = and_then_some (flat_goal n d binders b rest) (flat_goal n d binders a) gs e in
        let x = goal_law n binders b rest q.0 Γ q.1 p.1 r in
        let y = goal_law n binders a q.0 gs Γ q.2 p.0 x.opens in
        law_of_equal Γ t (two 0 [] a b) rest gs s (both_law d std Γ a b rest q.0 gs o' x y)
    form_law (suc n) binders t (connective.Or a b) s rest gs Γ e o r =
        let o' = open_equal Γ t (two 1 [] a b) s o in
        let p = open_parts d Γ 1 a b (connective d std.standard 1 (omega arith)) o' in
        let q = and_then_some (flat_goal n d binders a no_goals) (λ l. option_map (λ k. goals (Either l k) rest) (flat_goal n d binders b no_goals)) gs e in
        let z = option_map_some (flat_goal n d binders b no_goals) (λ k. goals (Either q.0 k) rest) gs q.2 in
        let x = goal_law n binders a no_goals q.0 Γ q.1 p.0 (open_truth d std Γ) in
        let y = goal_law n binders b no_goals z.0 Γ z.1 p.1 (open_truth d std Γ) in
        law_of_equal Γ t (two 1 [] a b) rest gs s (subst (GoalLaw d std Γ (two 1 [] a b) rest) z.2 (either_law d std Γ a b rest q.0 z.0 o' r x y))
    form_law (suc n) binders t (connective.Implies c g) (inl s) rest gs Γ e o r =
        let o' = open_equal Γ t (two 2 [] c g) s o in
        let p = open_parts d Γ 2 c g (connective d std.standard 2 (omega arith)) o' in
        let q = and_then_some (flat_clause n d binders c [] []) (λ cs. option_map (λ hs. goals (assuming cs hs) rest) (flat_goal n d binders g no_goals)) gs e in
        let z = option_map_some (flat_goal n d binders g no_goals) (λ hs. goals (assuming q.0 hs) rest) gs q.2 in
        let x = clause_law n binders c [] [] q.0 Γ q.1 tt p.0 tt in
        let y = goal_law n binders g no_goals z.0 Γ z.1 p.1 (open_truth d std Γ) in
        law_of_equal Γ t (two 2 [] c g) rest gs s (subst (GoalLaw d std Γ (two 2 [] c g) rest) z.2 (implied_law d std n binders Γ c g q.0 z.0 q.1 p.0 x y rest o' r))
    form_law (suc n) binders t (connective.Implies c g) (inr s) rest gs Γ e o r =
        let o' = open_equal Γ t (two 3 [] g c) s o in
        let p = open_parts d Γ 3 g c (connective d std.standard 3 (omega arith)) o' in
        let q = and_then_some (flat_clause n d binders c [] []) (λ cs. option_map (λ hs. goals (assuming cs hs) rest) (flat_goal n d binders g no_goals)) gs e in
        let z = option_map_some (flat_goal n d binders g no_goals) (λ hs. goals (assuming q.0 hs) rest) gs q.2 in
        let x = clause_law n binders c [] [] q.0 Γ q.1 tt p.1 tt in
        let y = goal_law n binders g no_goals z.0 Γ z.1 p.0 (open_truth d std Γ) in
        law_of_equal Γ t (two 3 [] g c) rest gs s (subst (GoalLaw d std Γ (two 3 [] g c) rest) z.2 (if_law d std n binders Γ c g q.0 z.0 q.1 p.1 x y rest o' r))
    form_law (suc n) binders t (connective.ForAll T b) s rest gs Γ e o r =
        let o' = open_equal Γ t (pi_of T s.0) s.1 o in
        let k = o'.within.0.0 in
        let z = option_map_some (flat_goal n d (true ∷ binders) b no_goals) (λ hs. goals (Forall T hs) rest) gs e in
        let ob = open_equal (T ∷ Γ) (body_of s.0) b (sym s.2) (open_body d Γ T s.0 (open_function d Γ 4 T s.0 (pi_type d std.standard T) o')) in
        let x = goal_law n (true ∷ binders) b no_goals z.0 (T ∷ Γ) z.1 ob (open_truth d std (T ∷ Γ)) in
        law_of_equal Γ t (pi_of T s.0) rest gs s.1 (subst (GoalLaw d std Γ (pi_of T s.0) rest) z.2 (every_law d std Γ T s.0 rest z.0 k o' r (subst (λ u. GoalLaw d std (T ∷ Γ) u no_goals z.0) s.2 x)))
    form_law (suc n) binders t (connective.Exists T b) s rest gs Γ e o r =
        let o' = open_equal Γ t (sigma_of T s.0) s.1 o in
        let k = o'.within.0.0 in
        let z = option_map_some (flat_goal n d (false ∷ binders) b (raise_goals 0 rest)) (λ hs. goals (Exists T hs) no_goals) gs e in
        let ob = open_equal (T ∷ Γ) (body_of s.0) b (sym s.2) (open_body d Γ T s.0 (open_function d Γ 5 T s.0 (sigma_type d std.standard T) o')) in
        let or = open_equal (T ∷ Γ) (shift 0 1 (formula_of_goals rest)) (formula_of_goals (raise_goals 0 rest)) (sym (formula_raise rest)) (open_shift d std Γ T (formula_of_goals rest) r) in
        let x = goal_law n (false ∷ binders) b (raise_goals 0 rest) z.0 (T ∷ Γ) z.1 ob or in
        law_of_equal Γ t (sigma_of T s.0) rest gs s.1 (subst (GoalLaw d std Γ (sigma_of T s.0) rest) z.2 (exist_law d std Γ T s.0 rest z.0 k o' (subst (λ u. GoalLaw d std (T ∷ Γ) u (raise_goals 0 rest) z.0) s.2 x)))
    form_law (suc n) binders t (connective.Not g) s rest gs Γ e o r =
        let o' = open_equal Γ t (not_of g) s o in
        let p = open_argument d std Γ g o' in
        let z = option_map_some (flat_goal n d binders g no_goals) (λ hs. goals (denied hs) rest) gs e in
        let x = goal_law n binders g no_goals z.0 Γ z.1 p (open_truth d std Γ) in
        law_of_equal Γ t (not_of g) rest gs s (subst (GoalLaw d std Γ (not_of g) rest) z.2 (denied_law d std n binders Γ g rest z.0 z.1 o' r x.opens))
    form_law (suc n) binders t connective.Atomic s rest gs Γ e o r =
        subst (GoalLaw d std Γ t rest) (only_some (is_goal_head (head_of t) && are_positive (arguments t)) (goals (Atomic t) rest) gs e) (in_front d std Γ (Atomic t) rest o r)

    list_law : (n : ℕ) (binders : List Bool) (ts : List Term) (gs : Goals) (vs Γ : List Ty) (k : AreClosed vs) → flat_list n d binders ts ≡ Some gs → (h : EachOf (λ t. IsOpen d (vs ++ Γ) t o_type) ts) → ListLaw d std vs Γ ts k h gs
    list_law zero binders ts gs vs Γ k e h = absurd (cc)
    list_law (suc n) binders [] gs vs Γ k e h = subst (ListLaw d std vs Γ [] k h) (some_is no_goals gs e) (record { opens = open_truth d std (vs ++ Γ); to = λ E P θ f p. truth_proved d std E P; from = λ E P θ f p. tt })
    list_law (suc n) binders (t ∷ ts) gs vs Γ k e h =
        let q = and_then_some (flat_list n d binders ts) (flat_goal n d binders t) gs e in
        let x = list_law n binders ts q.0 vs Γ k q.1 h.1 in
        let y = goal_law n binders t q.0 gs (vs ++ Γ) q.2 h.0 x.opens in
        record {
          opens = y.opens;
          to = λ E P θ f p. y.together E P θ f p.0 (x.to E P θ f p.1);
          from = λ E P θ f p. let z = y.apart E P θ f p in (z.0, x.from E P θ f z.1);
        }

    clause_law : (n : ℕ) (binders : List Bool) (c : Term) (vs : List Ty) (body : List Term) (cs : Clauses) (Γ : List Ty) → flat_clause n d binders c
        vs body ≡ Some cs → AreClosed vs → IsOpen d (vs ++ Γ) c o_type → EachOf (λ t. IsOpen d (vs ++ Γ) t o_type) body → ClauseLaw d std Γ
        (all_of vs (imps body c)) cs
    clause_law zero binders c vs body cs Γ e k o h = absurd (cc)
    clause_law (suc n) binders c vs body cs Γ e k o h = clause_form_law n binders c (connective_of c) (form_shape c) vs body cs Γ e k o h

    clause_form_law : (n : ℕ) (binders : List Bool) (c : Term) (f : Connective) → Shape f c → (vs : List Ty) (body : List Term) (cs : Clauses)
        (Γ : List Ty) → flat_clause_form n d binders c f vs body ≡ Some cs → AreClosed vs → IsOpen d (vs ++ Γ) c o_type → EachOf
        (λ t. IsOpen d (vs ++ Γ) t o_type) body → ClauseLaw d std Γ (all_of vs (imps body c)) cs
    clause_form_law zero binders c f s vs body cs Γ e k o h = absurd (cc)
    clause_form_law (suc n) binders c connective.True s vs body cs Γ e k o h = absurd (cc)
    clause_form_law (suc n) binders c connective.Cut s vs body cs Γ e k o h = absurd (cc)
    clause_form_law (suc n) binders c (connective.Or a b) s vs body cs Γ e k o h = absurd (cc)
    clause_form_law (suc n) binders c (connective.Not g) s vs body cs Γ e k o h = absurd (cc)
    clause_form_law (suc n) binders c (connective.Exists T b) s vs body cs Γ e k o h = absurd (cc)
    clause_form_law (suc n) binders c (connective.And a b) s vs body cs Γ e k o h =
        let o' = open_equal (vs ++ Γ) c (two 0 [] a b) s o in
        let p = open_parts d (vs ++ Γ) 0 a b (connective d std.standard 0 (omega arith)) o' in
        let q = and_then_some (flat_clause n d binders a vs body) (λ l. option_map (add_clauses l) (flat_clause n d binders b vs body)) cs e in
        let z = option_map_some (flat_clause n d binders b vs body) (add_clauses q.0) cs q.2 in
        let x = clause_law n binders a vs body q.0 Γ q.1 k p.0 h in
        let y = clause_law n binders b vs body z.0 Γ z.1 k p.1 h in
        subst (λ u. ClauseLaw d std Γ (all_of vs (imps body u)) cs) (sym s) (subst (ClauseLaw d std Γ (all_of vs (imps body (two 0 [] a b)))) z.2 (both_clauses d std vs Γ body k h a b q.0 z.0 o' x y))
    clause_form_law (suc n) binders c (connective.Implies g b) (inl s) vs body cs Γ e k o h =
        let o' = open_equal (vs ++ Γ) c (two 2 [] g b) s o in
        let p = open_parts d (vs ++ Γ) 2 g b (connective d std.standard 2 (omega arith)) o' in
        let x = clause_law n binders b vs (body ++ g ∷ []) cs Γ e k p.1 (each_append (λ t. IsOpen d (vs ++ Γ) t o_type) body (g ∷ []) h (p.0, tt)) in
        subst (λ u. ClauseLaw d std Γ (all_of vs (imps body u)) cs) (sym s) (implied_clauses d std vs Γ body k h g b cs x)
    clause_form_law (suc n) binders c (connective.Implies g b) (inr s) vs body cs Γ e k o h =
        let o' = open_equal (vs ++ Γ) c (two 3 [] b g) s o in
        let p = open_parts d (vs ++ Γ) 3 b g (connective d std.standard 3 (omega arith)) o' in
        let x = clause_law n binders b vs (body ++ g ∷ []) cs Γ e k p.0 (each_append (λ t. IsOpen d (vs ++ Γ) t o_type) body (g ∷ []) h (p.1, tt)) in
        subst (λ u. ClauseLaw d std Γ (all_of vs (imps body u)) cs) (sym s) (if_clauses d std vs Γ body k h g b cs o' x)
    clause_form_law (suc n) binders c (connective.ForAll T b) s vs body cs Γ e k o h =
        let o' = open_equal (vs ++ Γ) c (pi_of T s.0) s.1 o in
        let kt = o'.within.0.0 in
        let ob = open_equal (T ∷ (vs ++ Γ)) (body_of s.0) b (sym s.2) (open_body d (vs ++ Γ) T s.0 (open_function d (vs ++ Γ) 4 T s.0 (pi_type d std.standard T) o')) in
        let x = clause_law n (false ∷ binders) b (T ∷ vs) (map (shift 0 1) body) cs Γ e (kt, k) ob (open_shifts d std (vs ++ Γ) T body h) in
        let y = subst (λ u. ClauseLaw d std Γ (all_of (T ∷ vs) (imps (map (shift 0 1) body) u)) cs) s.2 x in
        subst (λ u. ClauseLaw d std Γ (all_of vs (imps body u)) cs) (sym s.1) (every_clauses d std vs Γ body k h T s.0 kt o' cs y)
    clause_form_law (suc n) binders c connective.Atomic s vs body cs Γ e k o h =
        let q = and_then_some (only (is_clause_head d binders (head_of c) && are_positive (arguments c)) c) (λ u. option_map (λ gs. clauses (clause 0 vs u gs) no_clauses) (flat_list n d binders body)) cs e in
        let z = option_map_some (flat_list n d binders body) (λ gs. clauses (clause 0 vs q.0 gs) no_clauses) cs q.2 in
        let u = only_some (is_clause_head d binders (head_of c) && are_positive (arguments c)) c q.0 q.1 in
        let l = list_law n binders body z.0 vs Γ k z.1 h in
        subst (ClauseLaw d std Γ (all_of vs (imps body c))) (ap (λ w. clauses (clause 0 vs w z.0) no_clauses) u ∙ z.2) (one_clause d std vs Γ body k h 0 z.0 c l o)

  pub flattened_goal : (n : ℕ) (binders : List Bool) (t : Term) (rest gs : Goals) (Γ : List Ty) → flat_goal n d binders t rest ≡ Some gs → IsOpen d Γ t o_type → IsOpen d Γ (formula_of_goals rest) o_type → GoalLaw d std Γ t rest gs
  flattened_goal n binders t rest gs Γ e o r = goal_law n binders t rest gs Γ e o r

  pub flattened_clause : (n : ℕ) (binders : List Bool) (c : Term) (cs : Clauses) (Γ : List Ty) → flat_clause n d binders c [] [] ≡ Some cs → IsOpen d Γ c o_type → ClauseLaw d std Γ c cs
  flattened_clause n binders c cs Γ e o = clause_law n binders c [] [] cs Γ e tt o tt
