-- Flattening commutes with types put for type variables, and so do flattened clauses read as formulas.
use Rattle.std.proofs.Common.{◌≡◌, ℕ, zero, suc, List, [], ◌∷◌, ◌++◌, map, Option, Some, None, sym, Bool, true, false, refl, ap, ◌∙◌, subst}
use Rattle.std.specs.Prelude.{◌&&◌, option_map}
use Rattle.lp_calculus.specs.Types.{Ty, instance}
use Rattle.lp_calculus.specs.Term.{Term, index, atom, abs, app, constant, integer, text, eigen, logic, param, shift}
use Rattle.lp_calculus.specs.Instance.{instance_term}
use Rattle.lp_calculus.specs.Spine.{head_of, arguments}
use Rattle.lp_model.specs.Look.{◌>>=◌}
use Rattle.lp_standard.specs.Connectives.{not_of, two, pi_of, sigma_of, Connective, connective_of}
use Rattle.lp_standard.specs.Connectives as connective
use Rattle.lp_standard.specs.Positive.{are_positive}
use Rattle.lp_model.specs.Flat.{Goal, Atomic, Cut, Either, Exists, Forall, Assume, Not, Written, assuming, denied, under_all, map_goal, map_goals, map_clause, same_type, type_clauses, Goals, no_goals, goals, Clause, clause, Clauses, no_clauses, clauses, add_clauses, map_clauses, raise_goals, type_goal, type_goals, type_clause, all_of, formula_of_goal, formula_of_goals, formula_of_clause, formula_of_clauses}
use Rattle.lp_model.specs.Flatten.{only, is_goal_head, is_clause_head, flat_goal, flat_goal_form, flat_list, flat_clause, flat_clause_form}
use Rattle.lp_model.specs.Proofs.{Declared}
use Rattle.lp_proof_laws.proofs.Flattened.TypedForms.{raise_term, shifts_typed, type_form, head_typed, arguments_typed, form_typed, positives_typed, goal_head_typed, under_stay, raise_typed}

-- what is written does not matter for how goals and clauses read
abbrev nothing : Written
nothing = record { terms = []; types = [] }

abbrev mutual
  bare_goal : Goal → Goal
  bare_goal (Atomic t) = Atomic t
  bare_goal Cut = Cut
  bare_goal (Either gs hs) = Either (bare_goals gs) (bare_goals hs)
  bare_goal (Exists T gs) = Exists T (bare_goals gs)
  bare_goal (Forall T gs) = Forall T (bare_goals gs)
  bare_goal (Assume w cs gs) = Assume nothing (bare_clauses cs) (bare_goals gs)
  bare_goal (Not w gs) = Not nothing (bare_goals gs)

  bare_goals : Goals → Goals
  bare_goals no_goals = no_goals
  bare_goals (goals g gs) = goals (bare_goal g) (bare_goals gs)

  bare_clause : Clause → Clause
  bare_clause (clause n vs h b) = clause n vs h (bare_goals b)

  bare_clauses : Clauses → Clauses
  bare_clauses no_clauses = no_clauses
  bare_clauses (clauses c cs) = clauses (bare_clause c) (bare_clauses cs)

two_same : (c : ℕ) {t s u v : Term} → t ≡ s → u ≡ v → two c [] t u ≡ two c [] s v
two_same c p q = cc

mutual
  goal_read : (g : Goal) → formula_of_goal (bare_goal g) ≡ formula_of_goal g
  goal_read (Atomic t) = refl
  goal_read Cut = refl
  goal_read (Either gs hs) = two_same 1 (goals_read gs) (goals_read hs)
  goal_read (Exists T gs) = ap (λ z. sigma_of T (abs z)) (goals_read gs)
  goal_read (Forall T gs) = ap (λ z. pi_of T (abs z)) (goals_read gs)
  goal_read (Assume w cs gs) = two_same 2 (clauses_read cs) (goals_read gs)
  goal_read (Not w gs) = ap not_of (goals_read gs)

  goals_read : (gs : Goals) → formula_of_goals (bare_goals gs) ≡ formula_of_goals gs
  goals_read no_goals = refl
  goals_read (goals g no_goals) = goal_read g
  goals_read (goals g (goals h gs)) = two_same 0 (goal_read g) (goals_read (goals h gs))

  clause_read : (c : Clause) → formula_of_clause (bare_clause c) ≡ formula_of_clause c
  clause_read (clause n vs h no_goals) = refl
  clause_read (clause n vs h (goals g gs)) = ap (λ z. all_of vs (two 2 [] z h)) (goals_read (goals g gs))

  clauses_read : (cs : Clauses) → formula_of_clauses (bare_clauses cs) ≡ formula_of_clauses cs
  clauses_read no_clauses = refl
  clauses_read (clauses c no_clauses) = clause_read c
  clauses_read (clauses c (clauses e cs)) = two_same 0 (clause_read c) (clauses_read (clauses e cs))

goals_with : {g h : Goal} {gs hs : Goals} → g ≡ h → gs ≡ hs → goals g gs ≡ goals h hs
goals_with p q = cc

clauses_with : {c e : Clause} {cs ds : Clauses} → c ≡ e → cs ≡ ds → clauses c cs ≡ clauses e ds
clauses_with p q = cc

either_with : {gs hs ks ls : Goals} → gs ≡ hs → ks ≡ ls → Either gs ks ≡ Either hs ls
either_with p q = cc

assume_with : {cs ds : Clauses} {gs hs : Goals} → cs ≡ ds → gs ≡ hs → Assume nothing cs gs ≡ Assume nothing ds hs
assume_with p q = cc

mutual
  goal_raised : (d : ℕ) (g : Goal) → bare_goal (map_goal suc raise_term same_type d g) ≡ map_goal suc raise_term same_type d (bare_goal g)
  goal_raised d (Atomic t) = refl
  goal_raised d Cut = refl
  goal_raised d (Either gs hs) = either_with (goals_raised d gs) (goals_raised d hs)
  goal_raised d (Exists T gs) = ap (Exists T) (goals_raised (suc d) gs)
  goal_raised d (Forall T gs) = ap (Forall T) (goals_raised (suc d) gs)
  goal_raised d (Assume w cs gs) = assume_with (clauses_raised d cs) (goals_raised d gs)
  goal_raised d (Not w gs) = ap (Not nothing) (goals_raised d gs)

  goals_raised : (d : ℕ) (gs : Goals) → bare_goals (map_goals suc raise_term same_type d gs) ≡ map_goals suc raise_term same_type d (bare_goals gs)
  goals_raised d no_goals = refl
  goals_raised d (goals g gs) = goals_with (goal_raised d g) (goals_raised d gs)

  clause_raised : (d : ℕ) (c : Clause) → bare_clause (map_clause suc raise_term same_type d c) ≡ map_clause suc raise_term same_type d (bare_clause c)
  clause_raised d (clause n vs h b) = ap (clause n (map same_type vs) (raise_term (under_all suc vs d) h)) (goals_raised (under_all suc vs d) b)

  clauses_raised : (d : ℕ) (cs : Clauses) → bare_clauses (map_clauses suc raise_term same_type d cs) ≡ map_clauses suc raise_term same_type d (bare_clauses cs)
  clauses_raised d no_clauses = refl
  clauses_raised d (clauses c cs) = clauses_with (clause_raised d c) (clauses_raised d cs)

bare_add : (cs ds : Clauses) → bare_clauses (add_clauses cs ds) ≡ add_clauses (bare_clauses cs) (bare_clauses ds)
bare_add no_clauses ds = refl
bare_add (clauses c cs) ds = ap (clauses (bare_clause c)) (bare_add cs ds)

-- the first are the second, with types put in, but for what is written
abbrev AreGoals : (ℕ → Ty) → Goals → Goals → Type 0
AreGoals θ hs gs = bare_goals hs ≡ bare_goals (type_goals θ gs)

abbrev AreClauses : (ℕ → Ty) → Clauses → Clauses → Type 0
AreClauses θ ds cs = bare_clauses ds ≡ bare_clauses (type_clauses θ cs)

raise_are : (θ : ℕ → Ty) (hs gs : Goals) → AreGoals θ hs gs → AreGoals θ (raise_goals 0 hs) (raise_goals 0 gs)
raise_are θ hs gs e = goals_raised 0 hs ∙ ap (map_goals suc raise_term same_type 0) e ∙ sym (goals_raised 0 (type_goals θ gs)) ∙ ap bare_goals (raise_typed θ 0 gs)

-- of two readings, the first with types put in before, the second with types put in behind
abbrev Typed : {A B : Type 0} → (B → A → Type 0) → Option B → Option A → Type 0
Typed R None None = Unit {0}
Typed R (Some b) (Some a) = R b a
Typed R None (Some a) = ⊥
Typed R (Some b) None = ⊥

typed_then : {A B C D : Type 0} (R : B → A → Type 0) (S : D → C → Type 0) (x : Option B) (y : Option A) (h : B → Option D) (k : A → Option C) → Typed R x y → ((b : B) (a : A) → R b a → Typed S (h b) (k a)) → Typed S (x >>= h) (y >>= k)
typed_then R S None None h k p q = tt
typed_then R S (Some b) (Some a) h k p q = q b a p
typed_then R S None (Some a) h k p q = absurd p
typed_then R S (Some b) None h k p q = absurd p

typed_map : {A B C D : Type 0} (R : B → A → Type 0) (S : D → C → Type 0) (x : Option B) (y : Option A) (h : B → D) (k : A → C) → Typed R x y → ((b : B) (a : A) → R b a → S (h b) (k a)) → Typed S (option_map h x) (option_map k y)
typed_map R S None None h k p q = tt
typed_map R S (Some b) (Some a) h k p q = q b a p
typed_map R S None (Some a) h k p q = absurd p
typed_map R S (Some b) None h k p q = absurd p

add_typed : (θ : ℕ → Ty) (cs ds : Clauses) → add_clauses (type_clauses θ cs) (type_clauses θ ds) ≡ type_clauses θ (add_clauses cs ds)
add_typed θ no_clauses ds = refl
add_typed θ (clauses c cs) ds = ap (clauses (type_clause θ c)) (add_typed θ cs ds)

maps_typed : (θ : ℕ → Ty) (ts : List Term) (t : Term) → map (instance_term θ) ts ++ instance_term θ t ∷ [] ≡ map (instance_term θ) (ts ++ t ∷ [])
maps_typed θ [] t = refl
maps_typed θ (u ∷ ts) t = ap (λ z. instance_term θ u ∷ z) (maps_typed θ ts t)

clause_head_typed : (θ : ℕ → Ty) (d : Declared) (bs : List Bool) (h : Term) → is_clause_head d bs (instance_term θ h) ≡ is_clause_head d bs h
clause_head_typed θ d bs (index i) = refl
clause_head_typed θ d bs (atom (constant c ts)) = refl
clause_head_typed θ d bs (atom (integer z)) = refl
clause_head_typed θ d bs (atom (text s)) = refl
clause_head_typed θ d bs (atom (eigen k)) = refl
clause_head_typed θ d bs (atom (logic x l)) = refl
clause_head_typed θ d bs (atom (param k t)) = refl
clause_head_typed θ d bs (abs b) = refl
clause_head_typed θ d bs (app t u) = refl

only_typed : {A B : Type 0} (R : B → A → Type 0) (p q : Bool) (a : A) (b : B) → p ≡ q → R b a → Typed R (only p b) (only q a)
only_typed R p true a b e g = rw e g
only_typed R p false a b e g = rw e tt

goal_test : (θ : ℕ → Ty) (t : Term) → (is_goal_head (head_of (instance_term θ t)) && are_positive (arguments (instance_term θ t))) ≡ (is_goal_head (head_of t) && are_positive (arguments t))
goal_test θ t =
    ap (λ p. p && are_positive (arguments (instance_term θ t))) (ap is_goal_head (head_typed θ t) ∙ goal_head_typed θ (head_of t)) ∙ ap (λ p. is_goal_head (head_of t) && p) (ap are_positive (arguments_typed θ t) ∙ positives_typed θ (arguments t))

clause_test : (θ : ℕ → Ty) (d : Declared) (bs : List Bool) (t : Term) → (is_clause_head d bs (head_of (instance_term θ t)) && are_positive (arguments (instance_term θ t))) ≡ (is_clause_head d bs (head_of t) && are_positive (arguments t))
clause_test θ d bs t =
    ap (λ p. p && are_positive (arguments (instance_term θ t))) (ap (is_clause_head d bs) (head_typed θ t) ∙ clause_head_typed θ d bs (head_of t)) ∙ ap (λ p. is_clause_head d bs (head_of t) && p) (ap are_positive (arguments_typed θ t) ∙ positives_typed θ (arguments t))

one_clause : (θ : ℕ → Ty) (vars : List Ty) (h : Term) (hs gs : Goals) → AreGoals θ hs gs → AreClauses θ (clauses (clause 0 (map (instance θ) vars) (instance_term θ h) hs) no_clauses) (clauses (clause 0 vars h gs) no_clauses)
one_clause θ vars h hs gs e = rw (under_stay vars zero) (ap (λ z. clauses (clause 0 (map (instance θ) vars) (instance_term θ h) z) no_clauses) e)

add_are : (θ : ℕ → Ty) (ks ls cs ds : Clauses) → AreClauses θ ks cs → AreClauses θ ls ds → AreClauses θ (add_clauses ks ls) (add_clauses cs ds)
add_are θ ks ls cs ds p q = bare_add ks ls ∙ ap (add_clauses (bare_clauses ks)) q ∙ ap (λ z. add_clauses z (bare_clauses (type_clauses θ ds))) p ∙ sym (bare_add (type_clauses θ cs) (type_clauses θ ds)) ∙ ap bare_clauses (add_typed θ cs ds)

mutual
  goal_typed : (θ : ℕ → Ty) (n : ℕ) (d : Declared) (bs : List Bool) (t : Term) (more rest : Goals) → AreGoals θ more rest → Typed (AreGoals θ) (flat_goal n d bs (instance_term θ t) more) (flat_goal n d bs t rest)
  goal_typed θ zero d bs t more rest r = tt
  goal_typed θ (suc n) d bs t more rest r = rw (form_typed θ t) (form_goal_typed θ n d bs t (connective_of t) more rest r)

  form_goal_typed : (θ : ℕ → Ty) (n : ℕ) (d : Declared) (bs : List Bool) (t : Term) (f : Connective) (more rest : Goals) → AreGoals θ more rest → Typed (AreGoals θ) (flat_goal_form n d bs (instance_term θ t) (type_form θ f) more) (flat_goal_form n d bs t f rest)
  form_goal_typed θ zero d bs t f more rest r = tt
  form_goal_typed θ (suc n) d bs t connective.True more rest r = r
  form_goal_typed θ (suc n) d bs t connective.Cut more rest r = ap (goals Cut) r
  form_goal_typed θ (suc n) d bs t (connective.And a b) more rest r =
      typed_then (AreGoals θ) (AreGoals θ) (flat_goal n d bs (instance_term θ b) more) (flat_goal n d bs b rest) (flat_goal n d bs (instance_term θ a)) (flat_goal n d bs a) (goal_typed θ n d bs b more rest r) (λ hs gs e. goal_typed θ n d bs a hs gs e)
  form_goal_typed θ (suc n) d bs t (connective.Or a b) more rest r =
      typed_then (AreGoals θ) (AreGoals θ) (flat_goal n d bs (instance_term θ a) no_goals) (flat_goal n d bs a no_goals) _ _ (goal_typed θ n d bs a no_goals no_goals refl) (λ k l p.
      typed_map (AreGoals θ) (AreGoals θ) (flat_goal n d bs (instance_term θ b) no_goals) (flat_goal n d bs b no_goals) (λ z. goals (Either k z) more) (λ z. goals (Either l z) rest) (goal_typed θ n d bs b no_goals no_goals refl) (λ x y q. goals_with (either_with p q) r))
  form_goal_typed θ (suc n) d bs t (connective.Implies c g) more rest r =
      typed_then (AreClauses θ) (AreGoals θ) (flat_clause n d bs (instance_term θ c) [] []) (flat_clause n d bs c [] []) _ _ (clause_typed θ n d bs c [] []) (λ ks cs p.
      typed_map (AreGoals θ) (AreGoals θ) (flat_goal n d bs (instance_term θ g) no_goals) (flat_goal n d bs g no_goals) (λ z. goals (assuming ks z) more) (λ z. goals (assuming cs z) rest) (goal_typed θ n d bs g no_goals no_goals refl) (λ x y q. goals_with (assume_with p q) r))
  form_goal_typed θ (suc n) d bs t (connective.ForAll T b) more rest r =
      typed_map (AreGoals θ) (AreGoals θ) (flat_goal n d (true ∷ bs) (instance_term θ b) no_goals) (flat_goal n d (true ∷ bs) b no_goals)
      (λ z. goals (Forall (instance θ T) z) more) (λ z. goals (Forall T z) rest) (goal_typed θ n d (true ∷ bs) b no_goals no_goals refl)
      (λ x y q. goals_with (ap (Forall (instance θ T)) q) r)
  form_goal_typed θ (suc n) d bs t (connective.Exists T b) more rest r =
      typed_map (AreGoals θ) (AreGoals θ) (flat_goal n d (false ∷ bs) (instance_term θ b) (raise_goals 0 more))
      (flat_goal n d (false ∷ bs) b (raise_goals 0 rest)) (λ z. goals (Exists (instance θ T) z) no_goals) (λ z. goals (Exists T z) no_goals)
      (goal_typed θ n d (false ∷ bs) b (raise_goals 0 more) (raise_goals 0 rest) (raise_are θ more rest r))
      (λ x y q. goals_with (ap (Exists (instance θ T)) q) refl)
  form_goal_typed θ (suc n) d bs t (connective.Not g) more rest r =
      typed_map (AreGoals θ) (AreGoals θ) (flat_goal n d bs (instance_term θ g) no_goals) (flat_goal n d bs g no_goals) (λ z. goals (denied z) more) (λ z. goals (denied z) rest) (goal_typed θ n d bs g no_goals no_goals refl) (λ x y q. goals_with (ap (Not nothing) q) r)
  form_goal_typed θ (suc n) d bs t connective.Atomic more rest r = only_typed (AreGoals θ) _ _ (goals (Atomic t) rest) (goals (Atomic (instance_term θ t)) more) (goal_test θ t) (ap (goals (Atomic (instance_term θ t))) r)

  list_typed : (θ : ℕ → Ty) (n : ℕ) (d : Declared) (bs : List Bool) (ts : List Term) → Typed (AreGoals θ) (flat_list n d bs (map (instance_term θ) ts)) (flat_list n d bs ts)
  list_typed θ zero d bs ts = tt
  list_typed θ (suc n) d bs [] = refl
  list_typed θ (suc n) d bs (t ∷ ts) =
      typed_then (AreGoals θ) (AreGoals θ) (flat_list n d bs (map (instance_term θ) ts)) (flat_list n d bs ts) (flat_goal n d bs (instance_term θ t)) (flat_goal n d bs t) (list_typed θ n d bs ts) (λ hs gs e. goal_typed θ n d bs t hs gs e)

  clause_typed : (θ : ℕ → Ty) (n : ℕ) (d : Declared) (bs : List Bool) (t : Term) (vars : List Ty) (body : List Term) → Typed (AreClauses θ) (flat_clause n d bs (instance_term θ t) (map (instance θ) vars) (map (instance_term θ) body)) (flat_clause n d bs t vars body)
  clause_typed θ zero d bs t vars body = tt
  clause_typed θ (suc n) d bs t vars body = rw (form_typed θ t) (form_clause_typed θ n d bs t (connective_of t) vars body)

  form_clause_typed : (θ : ℕ → Ty) (n : ℕ) (d : Declared) (bs : List Bool) (t : Term) (f : Connective) (vars : List Ty) (body : List Term) → Typed
      (AreClauses θ) (flat_clause_form n d bs (instance_term θ t) (type_form θ f) (map (instance θ) vars) (map (instance_term θ) body))
      (flat_clause_form n d bs t f vars body)
  form_clause_typed θ zero d bs t f vars body = tt
  form_clause_typed θ (suc n) d bs t (connective.And a b) vars body =
      typed_then (AreClauses θ) (AreClauses θ) (flat_clause n d bs (instance_term θ a) (map (instance θ) vars) (map (instance_term θ) body)) (flat_clause n d bs a vars body) _ _ (clause_typed θ n d bs a vars body) (λ k l p.
      typed_map (AreClauses θ) (AreClauses θ) (flat_clause n d bs (instance_term θ b) (map (instance θ) vars) (map (instance_term θ) body)) (flat_clause n d bs b vars body) (add_clauses k) (add_clauses l) (clause_typed θ n d bs b vars body) (λ x y q. add_are θ k x l y p q))
  form_clause_typed θ (suc n) d bs t (connective.Implies g c) vars body =
      rw (maps_typed θ body g) (clause_typed θ n d bs c vars (body ++ g ∷ []))
  form_clause_typed θ (suc n) d bs t (connective.ForAll T b) vars body =
      subst (λ z. Typed (AreClauses θ) (flat_clause n d (false ∷ bs) (instance_term θ b) (instance θ T ∷ map (instance θ) vars) z) (flat_clause n d (false ∷ bs) b (T ∷ vars) (map (shift 0 1) body))) (shifts_typed θ body) (clause_typed θ n d (false ∷ bs) b (T ∷ vars) (map (shift 0 1) body))
  form_clause_typed θ (suc n) d bs t connective.Atomic vars body =
      typed_then (λ u h. u ≡ instance_term θ h) (AreClauses θ) (only (is_clause_head d bs (head_of (instance_term θ t)) && are_positive
      (arguments (instance_term θ t))) (instance_term θ t)) (only (is_clause_head d bs (head_of t) && are_positive (arguments t)) t) _ _
      (only_typed (λ u h. u ≡ instance_term θ h) _ _ t (instance_term θ t) (clause_test θ d bs t) refl) (λ u h p.
      typed_map (AreGoals θ) (AreClauses θ) (flat_list n d bs (map (instance_term θ) body)) (flat_list n d bs body)
      (λ z. clauses (clause 0 (map (instance θ) vars) u z) no_clauses) (λ z. clauses (clause 0 vars h z) no_clauses) (list_typed θ n d bs body)
      (λ x y q. subst (λ w. AreClauses θ (clauses (clause 0 (map (instance θ) vars) w x) no_clauses) (clauses (clause 0 vars h y) no_clauses))
      (sym p) (one_clause θ vars h x y q)))
  form_clause_typed θ (suc n) d bs t connective.True vars body = tt
  form_clause_typed θ (suc n) d bs t connective.Cut vars body = tt
  form_clause_typed θ (suc n) d bs t (connective.Or a b) vars body = tt
  form_clause_typed θ (suc n) d bs t (connective.Exists T b) vars body = tt
  form_clause_typed θ (suc n) d bs t (connective.Not g) vars body = tt

-- read as formulas
all_typed : (θ : ℕ → Ty) (vs : List Ty) (t : Term) → all_of (map (instance θ) vs) (instance_term θ t) ≡ instance_term θ (all_of vs t)
all_typed θ [] t = refl
all_typed θ (v ∷ vs) t = all_typed θ vs (pi_of v (abs t))

mutual
  goal_formula : (θ : ℕ → Ty) (g : Goal) → formula_of_goal (type_goal θ g) ≡ instance_term θ (formula_of_goal g)
  goal_formula θ (Atomic t) = refl
  goal_formula θ Cut = refl
  goal_formula θ (Either gs hs) = two_same 1 (goals_formula θ gs) (goals_formula θ hs)
  goal_formula θ (Exists T gs) = ap (λ z. sigma_of (instance θ T) (abs z)) (goals_formula θ gs)
  goal_formula θ (Forall T gs) = ap (λ z. pi_of (instance θ T) (abs z)) (goals_formula θ gs)
  goal_formula θ (Assume w cs gs) = two_same 2 (clauses_formula θ cs) (goals_formula θ gs)
  goal_formula θ (Not w gs) = ap not_of (goals_formula θ gs)

  pub goals_formula : (θ : ℕ → Ty) (gs : Goals) → formula_of_goals (type_goals θ gs) ≡ instance_term θ (formula_of_goals gs)
  goals_formula θ no_goals = refl
  goals_formula θ (goals g no_goals) = goal_formula θ g
  goals_formula θ (goals g (goals h gs)) = two_same 0 (goal_formula θ g) (goals_formula θ (goals h gs))

  clause_formula : (θ : ℕ → Ty) (c : Clause) → formula_of_clause (type_clause θ c) ≡ instance_term θ (formula_of_clause c)
  clause_formula θ (clause n vs h no_goals) = all_typed θ vs h
  clause_formula θ (clause n vs h (goals g gs)) =
      rw (under_stay vs zero) (ap (all_of (map (instance θ) vs)) (two_same 2 (goals_formula θ (goals g gs)) (refl {a = instance_term θ h})) ∙ all_typed θ vs (two 2 [] (formula_of_goals (goals g gs)) h))

  pub clauses_formula : (θ : ℕ → Ty) (cs : Clauses) → formula_of_clauses (type_clauses θ cs) ≡ instance_term θ (formula_of_clauses cs)
  clauses_formula θ no_clauses = refl
  clauses_formula θ (clauses c no_clauses) = clause_formula θ c
  clauses_formula θ (clauses c (clauses e cs)) = two_same 0 (clause_formula θ c) (clauses_formula θ (clauses e cs))

-- flattening with types put in before gives what reads as what it gives with types put in behind

pub instance_flat : (θ : ℕ → Ty) (d : Declared) (n : ℕ) (c : Term) (cs : Clauses) → flat_clause n d [] c [] [] ≡ Some cs → (ds : Clauses) × (flat_clause n d [] (instance_term θ c) [] [] ≡ Some ds) × (formula_of_clauses ds ≡ instance_term θ (formula_of_clauses cs))
instance_flat θ d n c cs e = go (flat_clause n d [] (instance_term θ c) [] []) refl (subst (Typed (AreClauses θ) (flat_clause n d [] (instance_term θ c) [] [])) e (clause_typed θ n d [] c [] []))
  where
    go : (o : Option Clauses) → flat_clause n d [] (instance_term θ c) [] [] ≡ o → Typed (AreClauses θ) o (Some cs) → (ds : Clauses) × (flat_clause n d [] (instance_term θ c) [] [] ≡ Some ds) × (formula_of_clauses ds ≡ instance_term θ (formula_of_clauses cs))
    go None f r = absurd r
    go (Some ds) f r = (ds, f, sym (clauses_read ds) ∙ ap formula_of_clauses r ∙ clauses_read (type_clauses θ cs) ∙ clauses_formula θ cs)

pub instance_flat_goal : (θ : ℕ → Ty) (d : Declared) (n : ℕ) (t : Term) (gs : Goals) → flat_goal n d [] t no_goals ≡ Some gs → (hs : Goals) × (flat_goal n d [] (instance_term θ t) no_goals ≡ Some hs) × (formula_of_goals hs ≡ instance_term θ (formula_of_goals gs))
instance_flat_goal θ d n t gs e = go (flat_goal n d [] (instance_term θ t) no_goals) refl (subst (Typed (AreGoals θ) (flat_goal n d [] (instance_term θ t) no_goals)) e (goal_typed θ n d [] t no_goals no_goals refl))
  where
    go : (o : Option Goals) → flat_goal n d [] (instance_term θ t) no_goals ≡ o → Typed (AreGoals θ) o (Some gs) → (hs : Goals) × (flat_goal n d [] (instance_term θ t) no_goals ≡ Some hs) × (formula_of_goals hs ≡ instance_term θ (formula_of_goals gs))
    go None f r = absurd r
    go (Some hs) f r = (hs, f, sym (goals_read hs) ∙ ap formula_of_goals r ∙ goals_read (type_goals θ gs) ∙ goals_formula θ gs)
