-- A formula that has its form flattens.
use Rattle.std.proofs.Common.{◌≡◌, ℕ, zero, suc, ◌+◌, ◌≤◌, List, [], ◌∷◌, ◌++◌, map, Option, Some, None, Bool, true, false, refl, sym, ap, ◌∙◌, subst, arith}
use Rattle.std.specs.Prelude.{◌&&◌, not, option_map}
use Rattle.std.proofs.lemmas.Option.{same_Some}
use Rattle.lp_lemmas.proofs.Booleans.{and_true_left, and_true_right}
use Rattle.lp_calculus.specs.Types.{Ty}
use Rattle.lp_calculus.specs.Term.{Term, index, atom, abs, app, constant, shift}
use Rattle.lp_calculus.specs.Typing.{Scheme}
use Rattle.lp_calculus.specs.Convert.{leftmost_step, option_term, steps}
use Rattle.lp_calculus.specs.Spine.{head_of, arguments, arguments_and}
use Rattle.lp_standard.specs.Connectives.{Connective, connective_of, pi_of}
use Rattle.lp_standard.specs.Connectives as connective
use Rattle.lp_standard.specs.Positive.{is_positive, are_positive}
use Rattle.lp_model.specs.Look.{◌>>=◌}
use Rattle.lp_model.specs.Eigens.{beta_normal}
use Rattle.lp_model.specs.Flat.{Goals, no_goals, goals, Atomic, Cut, Either, Exists, Forall, assuming, denied, Clauses, clause, clauses, no_clauses, add_clauses, raise_goals, all_of}
use Rattle.lp_model.specs.Flatten.{only, is_goal_head, is_clause_head, flat_goal, flat_goal_form, flat_list, flat_clause, flat_clause_form, flatten, flatten_query, with_type_vars}
use Rattle.lp_lemmas.specs.Each.{EachOf}
use Rattle.lp_syntax.specs.declared.text.RawTerm.{RawTerm}
use Rattle.lp_term.specs.Nodes.{Nodes}
use Rattle.lp_model.specs.Readings.{formula_of}
use Rattle.lp_model.specs.declared.program.ClauseFormula as code
use Rattle.lp_sig.specs.declared.signature.Signature.{Signature}
use Rattle.lp_module.specs.Clauses.{AreClauses, IsFormed}
use Rattle.lp_module.specs.Schemes.{declared_schemes}
use Rattle.lp_module.specs.Form.{whole}
use Rattle.lp_solve.proofs.Texts.Fits.{atoms, both, fits, fits_by, good_fits}
use Rattle.lp_solve.proofs.Texts.Raising.{falses, fits_raised, fits_wider, none_wider, raise_first}

-- what comes to a value with enough depth
unfoldable pub Comes : {A : Type 0} → (ℕ → Option A) → Type 0
Comes {A} f = (a : A) × (n : ℕ) × ((m : ℕ) → n ≤ m → f m ≡ Some a)

up : {A : Type 0} (f g : ℕ → Option A) → ((n : ℕ) → f (suc n) ≡ g n) → Comes g → Comes f
unfolding Comes
up f g e (a, n, c) = (a, suc n, go)
  where
    go : (m : ℕ) → suc n ≤ m → f m ≡ Some a
    go zero l = absurd (omega arith)
    go (suc m) l = e m ∙ c m (omega arith)

once : {A : Type 0} (a : A) → Comes (λ n. Some a)
unfolding Comes
once a = (a, 0, λ m l. refl)

then : {A C : Type 0} (x : ℕ → Option A) (k : ℕ → A → Option C) → Comes x → ((a : A) → Comes (λ n. k n a)) → Comes (λ n. x n >>= k n)
unfolding Comes
then x k (a, n, c) h = let p = h a in (p.0, n + p.1, λ m l. ap (λ o. o >>= k m) (c m (omega (arith, l))) ∙ p.2 m (omega (arith, l)))

mapped : {A C : Type 0} (x : ℕ → Option A) (k : A → C) → Comes x → Comes (λ n. option_map k (x n))
unfolding Comes
mapped x k (a, n, c) = (k a, n, λ m l. ap (option_map k) (c m l))

only_true : {A : Type 0} (p : Bool) (a : A) → p ≡ true → only p a ≡ Some a
only_true true a e = refl
only_true false a e = cc

only_comes : {A : Type 0} (p : Bool) (a : A) → p ≡ true → Comes (λ n. only p a)
unfolding Comes
only_comes p a e = (a, 0, λ m l. only_true p a e)

-- arguments of a positive term
positive_arguments : (t : Term) (more : List Term) → is_positive t ≡ true → are_positive more ≡ true → are_positive (arguments_and t more) ≡ true
positive_arguments (index i) more e f = f
positive_arguments (atom a) more e f = f
positive_arguments (abs b) more e f = f
positive_arguments (app t u) more e f = positive_arguments t (u ∷ more) (and_true_left _ _ e) (both _ _ (and_true_right (is_positive t) _ e) f)

module _ (d : ℕ → Option Scheme) where
  more_by : (n m : ℕ) → ((g : Bool) (B : List Bool) (t : Term) → fits d n g B t ≡ true → fits d m g B t ≡ true) → (g : Bool) (B : List Bool)
      (t : Term) (f : Connective) → fits_by (fits d n) d g B t f ≡ true → fits_by (fits d m) d g B t f ≡ true
  more_by n m ih g B t connective.True e = e
  more_by n m ih g B t connective.Cut e = e
  more_by n m ih g B t (connective.And a b) e = both _ _ (ih g B a (and_true_left _ _ e)) (ih g B b (and_true_right (fits d n g B a) _ e))
  more_by n m ih g B t (connective.Or a b) e =
      let r = and_true_right g _ e in
      both _ _ (and_true_left g _ e) (both _ _ (ih g B a (and_true_left _ _ r)) (ih g B b (and_true_right (fits d n g B a) _ r)))
  more_by n m ih g B t (connective.Implies a b) e = both _ _ (ih (not g) B a (and_true_left _ _ e)) (ih g B b (and_true_right (fits d n (not g) B a) _ e))
  more_by n m ih g B t (connective.ForAll T b) e = ih g (g ∷ B) b e
  more_by n m ih g B t (connective.Exists T b) e = both _ _ (and_true_left g _ e) (ih g (false ∷ B) b (and_true_right g _ e))
  more_by n m ih g B t (connective.Not a) e = both _ _ (and_true_left g _ e) (ih true B a (and_true_right g _ e))
  more_by n m ih g B t connective.Atomic e = e

  pub fits_more : (n m : ℕ) → n ≤ m → (g : Bool) (B : List Bool) (t : Term) → fits d n g B t ≡ true → fits d m g B t ≡ true
  fits_more zero m l g B t e = cc
  fits_more (suc n) zero l g B t e = absurd (omega arith)
  fits_more (suc n) (suc m) l g B t e = more_by n m (fits_more n m (omega (arith, l))) g B t (connective_of t) e

  -- goals in the body of a clause
  abbrev AllFit : ℕ → List Bool → List Term → Type 0
  AllFit k B [] = Unit {0}
  AllFit k B (t ∷ ts) = (fits d k true B t ≡ true) × AllFit k B ts

  one_fits : (k : ℕ) (B : List Bool) (ts : List Term) (t : Term) → AllFit k B ts → fits d k true B t ≡ true → AllFit k B (ts ++ t ∷ [])
  one_fits k B [] t h e = (e, tt)
  one_fits k B (u ∷ us) t (h, more) e = (h, one_fits k B us t more e)

  all_raised : (k : ℕ) (B : List Bool) (ts : List Term) → AllFit k B ts → AllFit k (false ∷ B) (map (shift 0 1) ts)
  all_raised k B [] h = tt
  all_raised k B (t ∷ ts) (h, more) = (fits_raised d k true 0 B (false ∷ B) (raise_first false B) t h, all_raised k B ts more)

  module _ (k : ℕ) (goal : (B : List Bool) (t : Term) → fits d k true B t ≡ true → (rest : Goals) → Comes (λ n. flat_goal n d B t rest)) where
    list_flat : (B : List Bool) (ts : List Term) → AllFit k B ts → Comes (λ n. flat_list n d B ts)
    list_flat B [] h = up (λ n. flat_list n d B []) (λ n. Some no_goals) (λ n. refl) (once no_goals)
    list_flat B (t ∷ ts) (h, more) = up (λ n. flat_list n d B (t ∷ ts)) (λ n. flat_list n d B ts >>= flat_goal n d B t) (λ n. refl)
        (then (λ n. flat_list n d B ts) (λ n. flat_goal n d B t) (list_flat B ts more) (λ gs. goal B t h gs))

    clause_by : (j : ℕ) → j ≤ k → ((B : List Bool) (t : Term) → fits d j false B t ≡ true → (vars : List Ty) (body : List Term) → AllFit k B body → Comes (λ n. flat_clause n d B t vars body)) →
        (B : List Bool) (t : Term) (f : Connective) → fits_by (fits d j) d false B t f ≡ true → (vars : List Ty) (body : List Term) → AllFit k B body
        → Comes (λ n. flat_clause_form n d B t f vars body)
    clause_by j l ih B t connective.True e vars body h = absurd (cc)
    clause_by j l ih B t connective.Cut e vars body h = absurd (cc)
    clause_by j l ih B t (connective.And a b) e vars body h =
        up (λ n. flat_clause_form n d B t (connective.And a b) vars body) (λ n. flat_clause n d B a vars body >>= λ l. option_map (add_clauses l) (flat_clause n d B b vars body)) (λ n. refl)
        (then (λ n. flat_clause n d B a vars body) (λ n l. option_map (add_clauses l) (flat_clause n d B b vars body)) (ih B a (and_true_left _ _ e) vars body h)
        (λ cs. mapped (λ n. flat_clause n d B b vars body) (add_clauses cs) (ih B b (and_true_right (fits d j false B a) _ e) vars body h)))
    clause_by j l ih B t (connective.Or a b) e vars body h = absurd (cc)
    clause_by j l ih B t (connective.Implies g c) e vars body h =
        up (λ n. flat_clause_form n d B t (connective.Implies g c) vars body) (λ n. flat_clause n d B c vars (body ++ g ∷ [])) (λ n. refl)
        (ih B c (and_true_right (fits d j true B g) _ e) vars (body ++ g ∷ []) (one_fits k B body g h (fits_more j k l true B g (and_true_left _ _ e))))
    clause_by j l ih B t (connective.ForAll T b) e vars body h =
        up (λ n. flat_clause_form n d B t (connective.ForAll T b) vars body) (λ n. flat_clause n d (false ∷ B) b (T ∷ vars) (map (shift 0 1) body)) (λ n. refl)
        (ih (false ∷ B) b e (T ∷ vars) (map (shift 0 1) body) (all_raised k B body h))
    clause_by j l ih B t (connective.Exists T b) e vars body h = absurd (cc)
    clause_by j l ih B t (connective.Not a) e vars body h = absurd (cc)
    clause_by j l ih B t connective.Atomic e vars body h =
        up (λ n. flat_clause_form n d B t connective.Atomic vars body) (λ n. only (is_clause_head d B (head_of t) && are_positive (arguments t)) t
        >>= λ h. option_map (λ gs. clauses (clause 0 vars h gs) no_clauses) (flat_list n d B body)) (λ n. refl)
        (then (λ n. only (is_clause_head d B (head_of t) && are_positive (arguments t)) t) (λ n h. option_map (λ gs. clauses (clause 0 vars h gs) no_clauses) (flat_list n d B body))
        (only_comes _ t (both _ _ (and_true_right (is_positive t) _ e) (positive_arguments t [] (and_true_left _ _ e) refl)))
        (λ u. mapped (λ n. flat_list n d B body) (λ gs. clauses (clause 0 vars u gs) no_clauses) (list_flat B body h)))

    clause_flat : (j : ℕ) → j ≤ k → (B : List Bool) (t : Term) → fits d j false B t ≡ true → (vars : List Ty) (body : List Term) → AllFit k B body → Comes (λ n. flat_clause n d B t vars body)
    clause_flat zero l B t e vars body h = absurd (cc)
    clause_flat (suc j) l B t e vars body h =
        up (λ n. flat_clause n d B t vars body) (λ n. flat_clause_form n d B t (connective_of t) vars body) (λ n. refl)
        (clause_by j (omega (arith, l)) (clause_flat j (omega (arith, l))) B t (connective_of t) e vars body h)

  goal_by : (k : ℕ) → ((B : List Bool) (t : Term) → fits d k true B t ≡ true → (rest : Goals) → Comes (λ n. flat_goal n d B t rest)) → (B : List Bool)
      (t : Term) (f : Connective) → fits_by (fits d k) d true B t f ≡ true → (rest : Goals) → Comes (λ n. flat_goal_form n d B t f rest)
  goal_by k ih B t connective.True e rest = up (λ n. flat_goal_form n d B t connective.True rest) (λ n. Some rest) (λ n. refl) (once rest)
  goal_by k ih B t connective.Cut e rest = up (λ n. flat_goal_form n d B t connective.Cut rest) (λ n. Some (goals Cut rest)) (λ n. refl) (once (goals Cut rest))
  goal_by k ih B t (connective.And a b) e rest =
      up (λ n. flat_goal_form n d B t (connective.And a b) rest) (λ n. flat_goal n d B b rest >>= flat_goal n d B a) (λ n. refl)
      (then (λ n. flat_goal n d B b rest) (λ n. flat_goal n d B a) (ih B b (and_true_right (fits d k true B a) _ e) rest) (λ gs. ih B a (and_true_left _ _ e) gs))
  goal_by k ih B t (connective.Or a b) e rest =
      up (λ n. flat_goal_form n d B t (connective.Or a b) rest) (λ n. flat_goal n d B a no_goals >>= λ l. option_map (λ r. goals (Either l r) rest) (flat_goal n d B b no_goals)) (λ n. refl)
      (then (λ n. flat_goal n d B a no_goals) (λ n l. option_map (λ r. goals (Either l r) rest) (flat_goal n d B b no_goals)) (ih B a (and_true_left _ _ e) no_goals)
      (λ l. mapped (λ n. flat_goal n d B b no_goals) (λ r. goals (Either l r) rest) (ih B b (and_true_right (fits d k true B a) _ e) no_goals)))
  goal_by k ih B t (connective.Implies c g) e rest =
      up (λ n. flat_goal_form n d B t (connective.Implies c g) rest) (λ n. flat_clause n d B c [] [] >>= λ cs. option_map (λ gs. goals (assuming cs gs) rest) (flat_goal n d B g no_goals)) (λ n. refl)
      (then (λ n. flat_clause n d B c [] []) (λ n cs. option_map (λ gs. goals (assuming cs gs) rest) (flat_goal n d B g no_goals)) (clause_flat k ih k (omega arith) B c (and_true_left _ _ e) [] [] tt)
      (λ cs. mapped (λ n. flat_goal n d B g no_goals) (λ gs. goals (assuming cs gs) rest) (ih B g (and_true_right (fits d k false B c) _ e) no_goals)))
  goal_by k ih B t (connective.ForAll T b) e rest =
      up (λ n. flat_goal_form n d B t (connective.ForAll T b) rest) (λ n. option_map (λ gs. goals (Forall T gs) rest) (flat_goal n d (true ∷ B) b no_goals)) (λ n. refl)
      (mapped (λ n. flat_goal n d (true ∷ B) b no_goals) (λ gs. goals (Forall T gs) rest) (ih (true ∷ B) b e no_goals))
  goal_by k ih B t (connective.Exists T b) e rest =
      up (λ n. flat_goal_form n d B t (connective.Exists T b) rest) (λ n. option_map (λ gs. goals (Exists T gs) no_goals) (flat_goal n d (false ∷ B) b (raise_goals 0 rest))) (λ n. refl)
      (mapped (λ n. flat_goal n d (false ∷ B) b (raise_goals 0 rest)) (λ gs. goals (Exists T gs) no_goals) (ih (false ∷ B) b e (raise_goals 0 rest)))
  goal_by k ih B t (connective.Not a) e rest =
      up (λ n. flat_goal_form n d B t (connective.Not a) rest) (λ n. option_map (λ gs. goals (denied gs) rest) (flat_goal n d B a no_goals)) (λ n. refl)
      (mapped (λ n. flat_goal n d B a no_goals) (λ gs. goals (denied gs) rest) (ih B a e no_goals))
  goal_by k ih B t connective.Atomic e rest =
      up (λ n. flat_goal_form n d B t connective.Atomic rest) (λ n. only (is_goal_head (head_of t) && are_positive (arguments t)) (goals (Atomic t) rest)) (λ n. refl)
      (only_comes _ (goals (Atomic t) rest) (both _ _ (and_true_right (is_positive t) _ e) (positive_arguments t [] (and_true_left _ _ e) refl)))

  goal_flat : (k : ℕ) (B : List Bool) (t : Term) → fits d k true B t ≡ true → (rest : Goals) → Comes (λ n. flat_goal n d B t rest)
  goal_flat zero B t e rest = absurd (cc)
  goal_flat (suc k) B t e rest = up (λ n. flat_goal n d B t rest) (λ n. flat_goal_form n d B t (connective_of t) rest) (λ n. refl) (goal_by k (goal_flat k) B t (connective_of t) e rest)

-- the beta-normal form of a closed formula
step_closed : (T : Ty) (t : Term) (o : Option Term) → leftmost_step t ≡ o → leftmost_step (pi_of T (abs t)) ≡ option_term (λ s. pi_of T (abs s)) o
step_closed T t None e = ap (λ o. option_term (app (atom (constant 4 (T ∷ [])))) (option_term abs o)) e
step_closed T t (Some s) e = ap (λ o. option_term (app (atom (constant 4 (T ∷ [])))) (option_term abs o)) e

steps_closed : (T : Ty) (n : ℕ) (t s : Term) → steps leftmost_step n t ≡ Some s → steps leftmost_step n (pi_of T (abs t)) ≡ Some (pi_of T (abs s))
steps_closed T zero t s e = ap (λ u. Some (pi_of T (abs u))) (same_Some t s e)
steps_closed T (suc n) t s e = by (λ u. steps_closed T n u s) (leftmost_step t) refl e
  where
    by : ((u : Term) → steps leftmost_step n u ≡ Some s → steps leftmost_step n (pi_of T (abs u)) ≡ Some (pi_of T (abs s))) → (o : Option Term) →
        leftmost_step t ≡ o → elim o [ None ↦ None | Some u ↦ steps leftmost_step n u ] ≡ Some s → elim (leftmost_step (pi_of T (abs t)))
        [ None ↦ None | Some u ↦ steps leftmost_step n u ] ≡ Some (pi_of T (abs s))
    by ih None f h = absurd (cc)
    by ih (Some u) f h = ap (λ o. elim o [ None ↦ None | Some u ↦ steps leftmost_step n u ]) (step_closed T t (Some u) f) ∙ ih u h

all_closed : (Ts : List Ty) (n : ℕ) (t s : Term) → steps leftmost_step n t ≡ Some s → leftmost_step s ≡ None →
    (steps leftmost_step n (all_of Ts t) ≡ Some (all_of Ts s)) × (leftmost_step (all_of Ts s) ≡ None)
all_closed [] n t s e h = (e, h)
all_closed (T ∷ Ts) n t s e h = all_closed Ts n (pi_of T (abs t)) (pi_of T (abs s)) (steps_closed T n t s e) (step_closed T s None h)

normal_comes : (n : ℕ) (t s : Term) → steps leftmost_step n t ≡ Some s → leftmost_step s ≡ None → (m : ℕ) → suc n ≤ m → beta_normal m t ≡ Some s
normal_comes n t s e h zero l = absurd (omega arith)
normal_comes zero t s e h (suc m) l = ap (λ o. elim o [ None ↦ Some t | Some u ↦ beta_normal m u ]) (ap leftmost_step (same_Some t s e) ∙ h) ∙ e
normal_comes (suc n) t s e h (suc m) l = by (λ u f. normal_comes n u s f h m (omega (arith, l))) (leftmost_step t) e
  where
    by : ((u : Term) → steps leftmost_step n u ≡ Some s → beta_normal m u ≡ Some s) → (o : Option Term) → elim o
        [ None ↦ None | Some u ↦ steps leftmost_step n u ] ≡ Some s → elim o [ None ↦ Some t | Some u ↦ beta_normal m u ] ≡ Some s
    by ih None f = absurd (cc)
    by ih (Some u) f = ih u f

form_comes : (n : ℕ) (t s : Term) → steps leftmost_step n t ≡ Some s → leftmost_step s ≡ None → {A : Type 0} (f : ℕ → Term → Option A) → Comes (λ m. f m s) → Comes (λ m. beta_normal m t >>= f m)
unfolding Comes
form_comes n t s e h f (a, k, c) = (a, suc n + k, λ m l. ap (λ o. o >>= f m) (normal_comes n t s e h m (omega (arith, l))) ∙ c m (omega (arith, l)))

module _ (d : ℕ → Option Scheme) where
  closed_fits : (Ts : List Ty) (B : List Bool) (n : ℕ) (t : Term) → fits d n false (falses Ts B) t ≡ true → (m : ℕ) × (fits d m false B (all_of Ts t) ≡ true)
  closed_fits [] B n t e = (n, e)
  closed_fits (T ∷ Ts) B n t e = closed_fits Ts B (suc n) (pi_of T (abs t)) e

  -- the form of a formula, with its binders
  form_fits : (goal : Bool) (k : ℕ) (t : Term) (f : IsFormed d goal k t) → fits d (suc (atoms f.form)) goal [] f.form ≡ true
  form_fits goal k t f = good_fits d (suc (atoms f.form)) (whole goal f.form) (omega arith) (record { positive = f.positive; formed = f.formed })

  pub clause_flattens : (k : ℕ) (Ts : List Ty) (t : Term) → IsFormed d false k t → Comes (λ n. flatten n d (record { type_vars = k; formula = all_of Ts t }))
  clause_flattens k Ts t f =
      let (n, few, (steps_to, normal)) = f.within.short.normal in
      let closed = all_closed Ts n t f.form steps_to normal in
      let (j, fit) = closed_fits Ts [] (suc (atoms f.form)) f.form (fits_wider d (suc (atoms f.form)) false [] (falses Ts []) (none_wider d (falses Ts [])) f.form (form_fits false k t f)) in
      form_comes n (all_of Ts t) (all_of Ts f.form) closed.0 closed.1 (λ m u. option_map (with_type_vars k) (flat_clause m d [] u [] []))
      (mapped (λ m. flat_clause m d [] (all_of Ts f.form) [] []) (with_type_vars k) (clause_flat d j (goal_flat d j) j (omega arith) [] (all_of Ts f.form) fit [] [] tt))

  pub query_flattens : (k : ℕ) (t : Term) → IsFormed d true k t → Comes (λ n. flatten_query n d t)
  query_flattens k t f =
      let (n, few, (steps_to, normal)) = f.within.short.normal in
      form_comes n t f.form steps_to normal (λ m u. flat_goal m d [] u no_goals) (goal_flat d (suc (atoms f.form)) [] f.form (form_fits true k t f) no_goals)

pub once_flattened : {A : Type 0} {f : ℕ → Option A} → Comes f → (depth : ℕ) × (a : A) × (f depth ≡ Some a)
unfolding Comes
once_flattened (a, n, c) = (n, a, c n (omega arith))

-- the clauses of a module
pub clauses_flatten : (sig : Signature) (source : List ℕ) (b : Nodes) (raws : List RawTerm) (ks : List code.ClauseFormula) → AreClauses sig source b raws ks →
    EachOf (λ f. (depth : ℕ) × (cs : Clauses) × (flatten depth (declared_schemes sig) f ≡ Some cs)) (map (formula_of b) ks)
clauses_flatten sig source b [] [] h = tt
clauses_flatten sig source b [] (k ∷ ks) h = absurd (h)
clauses_flatten sig source b (r ∷ rs) [] h = absurd (h)
clauses_flatten sig source b (r ∷ rs) (k ∷ ks) (h, more) = (
  subst (λ t. (depth : ℕ) × (cs : Clauses) × (flatten depth (declared_schemes sig) (record { type_vars = k.type_vars; formula = t }) ≡ Some cs)) (sym h.closed)
      (once_flattened (clause_flattens (declared_schemes sig) k.type_vars h.typing.free h.typing.formula h.formed)),
  clauses_flatten sig source b rs ks more,
)
