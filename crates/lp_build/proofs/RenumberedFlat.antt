-- Goals and clauses with their kinds and constants renumbered: what is written in them stays, indices are raised as before, and flattening goes through.
use Rattle.std.proofs.Common.{◌≡◌, ◌∙◌, ◌++◌, ℕ, zero, suc, List, [], ◌∷◌, map, Bool, true, false, Option, refl, sym, ap}
use Rattle.std.specs.Prelude.{◌&&◌, option_map}
use Rattle.std.proofs.lemmas.List.{map-append}
use Rattle.lp_calculus.specs.Types.{Ty, Tys, var, param as type_param, con, arrow, no_types, types}
use Rattle.lp_calculus.specs.Term.{Term, index, atom, abs, app, shift, constant, integer, text, eigen, logic, param}
use Rattle.lp_calculus.specs.Typing.{Scheme}
use Rattle.lp_calculus.specs.Spine.{head_of, arguments}
use Rattle.lp_standard.specs.Constants.{is_declared}
use Rattle.lp_standard.specs.Connectives.{Connective, connective_of}
use Rattle.lp_standard.specs.Connectives as connective
use Rattle.lp_standard.specs.Positive.{are_positive}
use Rattle.lp_term.specs.Mapped.{Map, mapped, mapped_type, mapped_types}
use Rattle.lp_model.specs.Flat.{Goal, Goals, Clauses, Atomic, Cut, Either, Exists, Forall, Assume, Not, no_goals, goals, clause, no_clauses, clauses, add_clauses, under_all, map_goal, map_goals, map_clause, map_clauses, same_type, raise_goals, loose_in, type_variables, types_variables, of_each, type_variables_in, collect_goal, collect_goals, collect_clauses, denied, assuming}
use Rattle.lp_model.specs.Flatten.{ClauseFormula, heads_clauses, is_goal_head, is_clause_head, only, flat_goal, flat_goal_form, flat_list, flat_clause, flat_clause_form, with_type_vars, flatten}
use Rattle.lp_model.specs.Eigens.{beta_normal}
use Rattle.lp_build.proofs.RenumberedTerms.{moving, to, ty, KeepsLanguage, bind_to, map_to, to_shift, to_normal, to_head, to_arguments, to_goal_head, to_connective, to_all_positive, connective_to}

-- goals and clauses: what is below binders is changed as what is not
abbrev pub moved_term : Map → ℕ → Term → Term
moved_term m e t = mapped m t

abbrev pub same_depth : ℕ → ℕ
same_depth e = e

abbrev pub moved_goals : Map → ℕ → Goals → Goals
moved_goals m e gs = map_goals same_depth (moved_term m) (mapped_type m) e gs

abbrev pub moved_clauses : Map → ℕ → Clauses → Clauses
moved_clauses m e cs = map_clauses same_depth (moved_term m) (mapped_type m) e cs

no_deeper : {A : Type 0} (xs : List A) (e : ℕ) → under_all same_depth xs e ≡ e
no_deeper [] e = refl
no_deeper (x ∷ xs) e = no_deeper xs e

module _ (κ γ : ℕ → ℕ) (n : ℕ) where
  abbrev t' : Term → Term
  t' t = to κ γ n t

  abbrev T' : Ty → Ty
  T' T = ty κ γ n T

  abbrev goals' : Goals → Goals
  goals' gs = moved_goals (moving κ γ n) 0 gs

  abbrev clauses' : Clauses → Clauses
  clauses' cs = moved_clauses (moving κ γ n) 0 cs

  -- what is written
  loose_same : (d : ℕ) (t : Term) → loose_in d (t' t) ≡ loose_in d t
  loose_same d (index i) = refl
  loose_same d (atom (constant c ts)) = refl
  loose_same d (atom (integer z)) = refl
  loose_same d (atom (text s)) = refl
  loose_same d (atom (eigen k)) = refl
  loose_same d (atom (logic x l)) = refl
  loose_same d (atom (param k T)) = refl
  loose_same d (abs b) = loose_same (suc d) b
  loose_same d (app t u) = λ j. loose_same d t j ++ loose_same d u j

  mutual
    variables_same : (T : Ty) → type_variables (T' T) ≡ type_variables T
    variables_same (var i) = refl
    variables_same (type_param k) = refl
    variables_same (con c ts) = all_variables_same ts
    variables_same (arrow a b) = λ j. variables_same a j ++ variables_same b j

    all_variables_same : (ts : Tys) → types_variables (mapped_types (moving κ γ n) ts) ≡ types_variables ts
    all_variables_same no_types = refl
    all_variables_same (types t ts) = λ j. variables_same t j ++ all_variables_same ts j

  each_same : (ts : List Ty) → of_each type_variables (map T' ts) ≡ of_each type_variables ts
  each_same [] = refl
  each_same (t ∷ ts) = λ j. variables_same t j ++ each_same ts j

  types_same : (t : Term) → type_variables_in (t' t) ≡ type_variables_in t
  types_same (index i) = refl
  types_same (atom (constant c ts)) = each_same ts
  types_same (atom (integer z)) = refl
  types_same (atom (text s)) = refl
  types_same (atom (eigen k)) = refl
  types_same (atom (logic x l)) = refl
  types_same (atom (param k T)) = variables_same T
  types_same (abs b) = types_same b
  types_same (app t u) = λ j. types_same t j ++ types_same u j

  under_same : (up : ℕ → ℕ) (Ts : List Ty) (d : ℕ) → under_all up (map T' Ts) d ≡ under_all up Ts d
  under_same up [] d = refl
  under_same up (T ∷ Ts) d = ap up (under_same up Ts d)

  module _ (h : ℕ → Term → List ℕ) (stays : (d : ℕ) (t : Term) → h d (t' t) ≡ h d t) where
    mutual
      goal_collected : (d e : ℕ) (x : Goal) → collect_goal h d (map_goal same_depth (moved_term (moving κ γ n)) T' e x) ≡ collect_goal h d x
      goal_collected d e (Atomic t) = stays d t
      goal_collected d e Cut = refl
      goal_collected d e (Either gs hs) = λ j. goals_collected d e gs j ++ goals_collected d e hs j
      goal_collected d e (Exists T gs) = goals_collected (suc d) e gs
      goal_collected d e (Forall T gs) = goals_collected (suc d) e gs
      goal_collected d e (Assume w cs gs) = λ j. clauses_collected d e cs j ++ goals_collected d e gs j
      goal_collected d e (Not w gs) = goals_collected d e gs

      goals_collected : (d e : ℕ) (gs : Goals) → collect_goals h d (moved_goals (moving κ γ n) e gs) ≡ collect_goals h d gs
      goals_collected d e no_goals = refl
      goals_collected d e (goals x gs) = λ j. goal_collected d e x j ++ goals_collected d e gs j

      clauses_collected : (d e : ℕ) (cs : Clauses) → collect_clauses h d (moved_clauses (moving κ γ n) e cs) ≡ collect_clauses h d cs
      clauses_collected d e no_clauses = refl
      clauses_collected d e (clauses (clause k vs x b) cs) =
          λ j. ((ap (λ q. h q (t' x)) (under_same suc vs d) ∙ stays (under_all suc vs d) x) j
          ++ (ap (λ q. collect_goals h q (moved_goals (moving κ γ n) (under_all same_depth vs e) b)) (under_same suc vs d) ∙ goals_collected (under_all suc vs d) (under_all same_depth vs e) b) j)
          ++ clauses_collected d e cs j

  indices_stay : (is : List ℕ) → map t' (map index is) ≡ map index is
  indices_stay [] = refl
  indices_stay (i ∷ is) = ap (λ l. index i ∷ l) (indices_stay is)

  vars_stay : (is : List ℕ) → map T' (map var is) ≡ map var is
  vars_stay [] = refl
  vars_stay (i ∷ is) = ap (λ l. var i ∷ l) (vars_stay is)

  denied_to : (gs : Goals) → denied (goals' gs) ≡ map_goal same_depth (moved_term (moving κ γ n)) T' 0 (denied gs)
  denied_to gs = λ j. Not (record {
    terms = (ap (map index) (goals_collected loose_in loose_same 0 0 gs) ∙ sym (indices_stay (collect_goals loose_in 0 gs))) j;
    types = (ap (map var) (goals_collected (λ d t. type_variables_in t) (λ d. types_same) 0 0 gs) ∙ sym (vars_stay (collect_goals (λ d t. type_variables_in t) 0 gs))) j;
  }) (goals' gs)

  assuming_to : (cs : Clauses) (gs : Goals) → assuming (clauses' cs) (goals' gs) ≡ map_goal same_depth (moved_term (moving κ γ n)) T' 0 (assuming cs gs)
  assuming_to cs gs = λ j. Assume (record {
    terms = (ap (map index) (clauses_collected loose_in loose_same 0 0 cs) ∙ sym (indices_stay (collect_clauses loose_in 0 cs))) j;
    types = (ap (map var) (clauses_collected (λ d t. type_variables_in t) (λ d. types_same) 0 0 cs) ∙ sym (vars_stay (collect_clauses (λ d t. type_variables_in t) 0 cs))) j;
  }) (clauses' cs) (goals' gs)

  -- raised
  terms_raised : (d : ℕ) (ts : List Term) → map (shift d 1) (map t' ts) ≡ map t' (map (shift d 1) ts)
  terms_raised d [] = refl
  terms_raised d (t ∷ ts) = λ j. sym (to_shift κ γ n d 1 t) j ∷ terms_raised d ts j

  types_stay : (Ts : List Ty) → map same_type (map T' Ts) ≡ map T' (map same_type Ts)
  types_stay [] = refl
  types_stay (T ∷ Ts) = ap (λ l. T' T ∷ l) (types_stay Ts)

  depth_stays : (Ts : List Ty) (e : ℕ) → under_all same_depth (map same_type Ts) e ≡ under_all same_depth Ts e
  depth_stays [] e = refl
  depth_stays (T ∷ Ts) e = depth_stays Ts e

  abbrev raised : ℕ → Goals → Goals
  raised d gs = map_goals suc (λ d t. shift d 1 t) same_type d gs

  mutual
    goal_raised : (d e : ℕ) (x : Goal) → map_goal suc (λ d t. shift d 1 t) same_type d (map_goal same_depth (moved_term (moving κ γ n)) T' e x)
        ≡ map_goal same_depth (moved_term (moving κ γ n)) T' e (map_goal suc (λ d t. shift d 1 t) same_type d x)
    goal_raised d e (Atomic t) = ap Atomic (sym (to_shift κ γ n d 1 t))
    goal_raised d e Cut = refl
    goal_raised d e (Either gs hs) = λ j. Either (goals_raised d e gs j) (goals_raised d e hs j)
    goal_raised d e (Exists T gs) = ap (Exists (T' T)) (goals_raised (suc d) e gs)
    goal_raised d e (Forall T gs) = ap (Forall (T' T)) (goals_raised (suc d) e gs)
    goal_raised d e (Assume w cs gs) = λ j. Assume (record { terms = terms_raised d w.terms j; types = types_stay w.types j }) (clauses_raised d e cs j) (goals_raised d e gs j)
    goal_raised d e (Not w gs) = λ j. Not (record { terms = terms_raised d w.terms j; types = types_stay w.types j }) (goals_raised d e gs j)

    goals_raised : (d e : ℕ) (gs : Goals) → raised d (moved_goals (moving κ γ n) e gs) ≡ moved_goals (moving κ γ n) e (raised d gs)
    goals_raised d e no_goals = refl
    goals_raised d e (goals x gs) = λ j. goals (goal_raised d e x j) (goals_raised d e gs j)

    clauses_raised : (d e : ℕ) (cs : Clauses) → map_clauses suc (λ d t. shift d 1 t) same_type d (moved_clauses (moving κ γ n) e cs)
        ≡ moved_clauses (moving κ γ n) e (map_clauses suc (λ d t. shift d 1 t) same_type d cs)
    clauses_raised d e no_clauses = refl
    clauses_raised d e (clauses (clause k vs x b) cs) = λ j. clauses
        (clause k (types_stay vs j) ((ap (λ q. shift q 1 (t' x)) (under_same suc vs d) ∙ sym (to_shift κ γ n (under_all suc vs d) 1 x)) j)
        ((ap (λ q. raised q (moved_goals (moving κ γ n) (under_all same_depth vs e) b)) (under_same suc vs d)
        ∙ goals_raised (under_all suc vs d) (under_all same_depth vs e) b
        ∙ ap (λ q. moved_goals (moving κ γ n) q (raised (under_all suc vs d) b)) (sym (depth_stays vs e))) j))
        (clauses_raised d e cs j)

  added_to : (cs ds : Clauses) → add_clauses (clauses' cs) (clauses' ds) ≡ clauses' (add_clauses cs ds)
  added_to no_clauses ds = refl
  added_to (clauses c cs) ds = ap (clauses (map_clause same_depth (moved_term (moving κ γ n)) T' 0 c)) (added_to cs ds)

  only_to : {A B : Type 0} (f : A → B) (b c : Bool) (x : A) → c ≡ b → only c (f x) ≡ option_map f (only b x)
  only_to f true c x e = ap (λ z. only z (f x)) e
  only_to f false c x e = ap (λ z. only z (f x)) e

  -- flattening, over declared types in which a constant heads clauses where the other one does
  module _ (d d' : ℕ → Option Scheme) (keeps : KeepsLanguage γ) (heads : (c : ℕ) → (is_declared (γ c) && heads_clauses (d' (γ c))) ≡ (is_declared c && heads_clauses (d c))) where
    clause_head_to : (bs : List Bool) (h : Term) → is_clause_head d' bs (t' h) ≡ is_clause_head d bs h
    clause_head_to bs (index i) = refl
    clause_head_to bs (atom (constant c ts)) = heads c
    clause_head_to bs (atom (integer z)) = refl
    clause_head_to bs (atom (text s)) = refl
    clause_head_to bs (atom (eigen k)) = refl
    clause_head_to bs (atom (logic x l)) = refl
    clause_head_to bs (atom (param k T)) = refl
    clause_head_to bs (abs b) = refl
    clause_head_to bs (app t u) = refl

    goal_fits : (t : Term) → (is_goal_head (head_of (t' t)) && are_positive (arguments (t' t))) ≡ (is_goal_head (head_of t) && are_positive (arguments t))
    goal_fits t = λ j. (ap is_goal_head (to_head κ γ n t) ∙ to_goal_head κ γ n (head_of t)) j && (ap are_positive (to_arguments κ γ n t) ∙ to_all_positive κ γ n keeps (arguments t)) j

    clause_fits : (bs : List Bool) (t : Term) → (is_clause_head d' bs (head_of (t' t)) && are_positive (arguments (t' t))) ≡ (is_clause_head d bs (head_of t) && are_positive (arguments t))
    clause_fits bs t = λ j. (ap (is_clause_head d' bs) (to_head κ γ n t) ∙ clause_head_to bs (head_of t)) j && (ap are_positive (to_arguments κ γ n t) ∙ to_all_positive κ γ n keeps (arguments t)) j

    body_raised : (ts : List Term) → map (shift 0 1) (map t' ts) ≡ map t' (map (shift 0 1) ts)
    body_raised ts = terms_raised 0 ts

    abbrev a_clause : List Ty → Term → Goals → Clauses
    a_clause vars h gs = clauses (clause 0 vars h gs) no_clauses

    mutual
      goal_to : (k : ℕ) (bs : List Bool) (t : Term) (rest : Goals) → flat_goal k d' bs (t' t) (goals' rest) ≡ option_map goals' (flat_goal k d bs t rest)
      goal_to zero bs t rest = refl
      goal_to (suc k) bs t rest = ap (λ f. flat_goal_form k d' bs (t' t) f (goals' rest)) (to_connective κ γ n keeps t) ∙ goal_form_to k bs t (connective_of t) rest

      goal_form_to : (k : ℕ) (bs : List Bool) (t : Term) (f : Connective) (rest : Goals) → flat_goal_form k d' bs (t' t) (connective_to κ γ n f)
          (goals' rest) ≡ option_map goals' (flat_goal_form k d bs t f rest)
      goal_form_to zero bs t f rest = refl
      goal_form_to (suc k) bs t connective.True rest = refl
      goal_form_to (suc k) bs t connective.Cut rest = refl
      goal_form_to (suc k) bs t (connective.And a b) rest =
          bind_to goals' goals' (flat_goal k d bs b rest) (flat_goal k d' bs (t' b) (goals' rest)) (flat_goal k d bs a) (flat_goal k d' bs (t' a)) (goal_to k bs b rest) (λ gs. goal_to k bs a gs)
      goal_form_to (suc k) bs t (connective.Or a b) rest =
          bind_to goals' goals' (flat_goal k d bs a no_goals) (flat_goal k d' bs (t' a) no_goals) (λ l. option_map (λ r. goals (Either l r) rest) (flat_goal k d bs b no_goals))
          (λ l. option_map (λ r. goals (Either l r) (goals' rest)) (flat_goal k d' bs (t' b) no_goals)) (goal_to k bs a no_goals)
          (λ l. map_to goals' goals' (flat_goal k d bs b no_goals) (flat_goal k d' bs (t' b) no_goals) (λ r. goals (Either l r) rest)
          (λ r. goals (Either (goals' l) r) (goals' rest)) (goal_to k bs b no_goals) (λ r. refl))
      goal_form_to (suc k) bs t (connective.Implies c g) rest =
          bind_to clauses' goals' (flat_clause k d bs c [] []) (flat_clause k d' bs (t' c) [] []) (λ cs. option_map (λ gs. goals (assuming cs gs) rest) (flat_goal k d bs g no_goals))
          (λ cs. option_map (λ gs. goals (assuming cs gs) (goals' rest)) (flat_goal k d' bs (t' g) no_goals)) (clause_to k bs c [] [])
          (λ cs. map_to goals' goals' (flat_goal k d bs g no_goals) (flat_goal k d' bs (t' g) no_goals) (λ gs. goals (assuming cs gs) rest) (λ gs. goals (assuming (clauses' cs) gs) (goals' rest))
          (goal_to k bs g no_goals) (λ gs. ap (λ z. goals z (goals' rest)) (assuming_to cs gs)))
      goal_form_to (suc k) bs t (connective.ForAll T b) rest =
          map_to goals' goals' (flat_goal k d (true ∷ bs) b no_goals) (flat_goal k d' (true ∷ bs) (t' b) no_goals) (λ gs. goals (Forall T gs) rest) (λ gs. goals (Forall (T' T) gs) (goals' rest))
          (goal_to k (true ∷ bs) b no_goals) (λ gs. refl)
      goal_form_to (suc k) bs t (connective.Exists T b) rest =
          map_to goals' goals' (flat_goal k d (false ∷ bs) b (raise_goals 0 rest)) (flat_goal k d' (false ∷ bs) (t' b) (raise_goals 0 (goals' rest))) (λ gs. goals (Exists T gs) no_goals)
          (λ gs. goals (Exists (T' T) gs) no_goals) (ap (flat_goal k d' (false ∷ bs) (t' b)) (goals_raised 0 0 rest) ∙ goal_to k (false ∷ bs) b (raise_goals 0 rest)) (λ gs. refl)
      goal_form_to (suc k) bs t (connective.Not g) rest =
          map_to goals' goals' (flat_goal k d bs g no_goals) (flat_goal k d' bs (t' g) no_goals) (λ gs. goals (denied gs) rest) (λ gs. goals (denied gs) (goals' rest))
          (goal_to k bs g no_goals) (λ gs. ap (λ z. goals z (goals' rest)) (denied_to gs))
      goal_form_to (suc k) bs t connective.Atomic rest = only_to goals' (is_goal_head (head_of t) && are_positive (arguments t))
          (is_goal_head (head_of (t' t)) && are_positive (arguments (t' t))) (goals (Atomic t) rest) (goal_fits t)

      list_to : (k : ℕ) (bs : List Bool) (ts : List Term) → flat_list k d' bs (map t' ts) ≡ option_map goals' (flat_list k d bs ts)
      list_to zero bs ts = refl
      list_to (suc k) bs [] = refl
      list_to (suc k) bs (t ∷ ts) =
          bind_to goals' goals' (flat_list k d bs ts) (flat_list k d' bs (map t' ts)) (flat_goal k d bs t) (flat_goal k d' bs (t' t)) (list_to k bs ts) (λ gs. goal_to k bs t gs)

      clause_to : (k : ℕ) (bs : List Bool) (t : Term) (vars : List Ty) (body : List Term) → flat_clause k d' bs (t' t) (map T' vars) (map t' body) ≡
          option_map clauses' (flat_clause k d bs t vars body)
      clause_to zero bs t vars body = refl
      clause_to (suc k) bs t vars body = ap (λ f. flat_clause_form k d' bs (t' t) f (map T' vars) (map t' body)) (to_connective κ γ n keeps t) ∙ clause_form_to k bs t (connective_of t) vars body

      clause_form_to : (k : ℕ) (bs : List Bool) (t : Term) (f : Connective) (vars : List Ty) (body : List Term)
          → flat_clause_form k d' bs (t' t) (connective_to κ γ n f) (map T' vars) (map t' body) ≡ option_map clauses' (flat_clause_form k d bs t f vars body)
      clause_form_to zero bs t f vars body = refl
      clause_form_to (suc k) bs t (connective.And a b) vars body =
          bind_to clauses' clauses' (flat_clause k d bs a vars body) (flat_clause k d' bs (t' a) (map T' vars) (map t' body)) (λ l. option_map (add_clauses l) (flat_clause k d bs b vars body))
          (λ l. option_map (add_clauses l) (flat_clause k d' bs (t' b) (map T' vars) (map t' body))) (clause_to k bs a vars body)
          (λ l. map_to clauses' clauses' (flat_clause k d bs b vars body) (flat_clause k d' bs (t' b) (map T' vars) (map t' body)) (add_clauses l)
          (add_clauses (clauses' l)) (clause_to k bs b vars body) (λ r. added_to l r))
      clause_form_to (suc k) bs t (connective.Implies g c) vars body =
          ap (flat_clause k d' bs (t' c) (map T' vars)) (sym (map-append t' body (g ∷ []))) ∙ clause_to k bs c vars (body ++ g ∷ [])
      clause_form_to (suc k) bs t (connective.ForAll T b) vars body =
          ap (flat_clause k d' (false ∷ bs) (t' b) (map T' (T ∷ vars))) (body_raised body) ∙ clause_to k (false ∷ bs) b (T ∷ vars) (map (shift 0 1) body)
      clause_form_to (suc k) bs t connective.Atomic vars body =
          bind_to t' clauses' (only (is_clause_head d bs (head_of t) && are_positive (arguments t)) t) (only (is_clause_head d' bs (head_of (t' t)) && are_positive (arguments (t' t))) (t' t))
          (λ h. option_map (a_clause vars h) (flat_list k d bs body)) (λ h. option_map (a_clause (map T' vars) h) (flat_list k d' bs (map t' body)))
          (only_to t' (is_clause_head d bs (head_of t) && are_positive (arguments t)) (is_clause_head d' bs (head_of (t' t)) && are_positive (arguments (t' t))) t (clause_fits bs t))
          (λ h. map_to goals' clauses' (flat_list k d bs body) (flat_list k d' bs (map t' body)) (a_clause vars h) (a_clause (map T' vars) (t' h)) (list_to k bs body)
          (λ gs. ap (λ e. a_clause (map T' vars) (t' h) (moved_goals (moving κ γ n) e gs)) (sym (no_deeper vars 0))))
      clause_form_to (suc k) bs t connective.True vars body = refl
      clause_form_to (suc k) bs t connective.Cut vars body = refl
      clause_form_to (suc k) bs t (connective.Or a b) vars body = refl
      clause_form_to (suc k) bs t (connective.Exists T b) vars body = refl
      clause_form_to (suc k) bs t (connective.Not g) vars body = refl

    type_vars_to : (k : ℕ) (cs : Clauses) → with_type_vars k (clauses' cs) ≡ clauses' (with_type_vars k cs)
    type_vars_to k no_clauses = refl
    type_vars_to k (clauses (clause j vs h b) cs) = ap (clauses (clause k (map T' vs) (t' h) (moved_goals (moving κ γ n) (under_all same_depth vs 0) b))) (type_vars_to k cs)

    -- the flattened clauses of a formula
    pub flatten_to : (k : ℕ) (D : ClauseFormula) → flatten k d' (record { type_vars = D.type_vars; formula = t' D.formula }) ≡ option_map clauses' (flatten k d D)
    flatten_to k D =
        bind_to t' clauses' (beta_normal k D.formula) (beta_normal k (t' D.formula)) (λ t. option_map (with_type_vars D.type_vars) (flat_clause k d [] t [] []))
        (λ t. option_map (with_type_vars D.type_vars) (flat_clause k d' [] t [] [])) (to_normal κ γ n k D.formula)
        (λ t. map_to clauses' clauses' (flat_clause k d [] t [] []) (flat_clause k d' [] (t' t) [] []) (with_type_vars D.type_vars)
        (with_type_vars D.type_vars) (clause_to k [] t [] []) (λ cs. type_vars_to D.type_vars cs))
