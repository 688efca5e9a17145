-- What is written in raised goals and clauses is what was written, raised.
use Rattle.std.proofs.Common.{◌≡◌, ℕ, suc, ◌+◌, ◌-◌, List, [], ◌∷◌, ◌++◌, map, refl, sym, ap, ◌∙◌, arith}
use Rattle.std.specs.Prelude.{Bool, true, false, nat_lt, if◌then◌else◌}
use Rattle.std.proofs.lemmas.Bool.Decides.{nat_tests}
use Rattle.std.proofs.lemmas.List.{map-append, map-id}
use Rattle.lp_calculus.specs.Types.{Ty, var}
use Rattle.lp_calculus.specs.Term.{Term, index, atom, abs, app, shift}
use Rattle.lp_model.specs.Flat.{Goal, Atomic, Cut, Either, Exists, Forall, Assume, Not, Goals, no_goals, goals, clause, Clauses, no_clauses, clauses, under_all, map_goal, map_clauses, same_type, raise_goals, Written, map_written, loose_in, type_variables_in, collect_goal, collect_goals, collect_clauses, written_by, written_in_goals, written_in_clauses}

abbrev pub raise_clauses : (from : ℕ) → Clauses → Clauses
raise_clauses from cs = map_clauses suc (λ d t. shift d 1 t) same_type from cs

pub map_same : (vs : List Ty) → map same_type vs ≡ vs
map_same [] = refl
map_same (v ∷ vs) = ap (λ us. v ∷ us) (map_same vs)

under_from : (vs : List Ty) (d m k : ℕ) → m ≡ d + k → under_all suc vs m ≡ under_all suc vs d + k
under_from [] d m k e = e
under_from (v ∷ vs) d m k e = omega (arith, under_from vs d m k e)

same_append : {A B X Y : List ℕ} → A ≡ X → B ≡ Y → A ++ B ≡ X ++ Y
same_append {A} {B} {X} {Y} e f = ap (λ z. z ++ B) e ∙ ap (λ z. X ++ z) f

-- the fold over raised goals is that over the goals, changed by u, where it is so of each term
module _ (f : ℕ → Term → List ℕ) (u : ℕ → ℕ) (k : ℕ) (same : (d m : ℕ) → m ≡ d + k → (t : Term) → f d (shift m 1 t) ≡ map u (f d t)) where
  joined : {A B : List ℕ} (xs ys : List ℕ) → A ≡ map u xs → B ≡ map u ys → A ++ B ≡ map u (xs ++ ys)
  joined xs ys e h = same_append e h ∙ sym (map-append u xs ys)

  mutual
    goal_collected : (d m : ℕ) → m ≡ d + k → (g : Goal) → collect_goal f d (map_goal suc (λ e t. shift e 1 t) same_type m g) ≡ map u (collect_goal f d g)
    goal_collected d m e (Atomic t) = same d m e t
    goal_collected d m e Cut = refl
    goal_collected d m e (Either gs hs) = joined (collect_goals f d gs) (collect_goals f d hs) (goals_collected d m e gs) (goals_collected d m e hs)
    goal_collected d m e (Exists T gs) = goals_collected (suc d) (suc m) (omega (arith, e)) gs
    goal_collected d m e (Forall T gs) = goals_collected (suc d) (suc m) (omega (arith, e)) gs
    goal_collected d m e (Assume w cs gs) = joined (collect_clauses f d cs) (collect_goals f d gs) (clauses_collected d m e cs) (goals_collected d m e gs)
    goal_collected d m e (Not w gs) = goals_collected d m e gs

    pub goals_collected : (d m : ℕ) → m ≡ d + k → (gs : Goals) → collect_goals f d (raise_goals m gs) ≡ map u (collect_goals f d gs)
    goals_collected d m e no_goals = refl
    goals_collected d m e (goals g gs) = joined (collect_goal f d g) (collect_goals f d gs) (goal_collected d m e g) (goals_collected d m e gs)

    pub clauses_collected : (d m : ℕ) → m ≡ d + k → (cs : Clauses) → collect_clauses f d (raise_clauses m cs) ≡ map u (collect_clauses f d cs)
    clauses_collected d m e no_clauses = refl
    clauses_collected d m e (clauses (clause n vs h b) cs) =
        let p = under_all suc vs d in
        let q = under_all suc vs m in
        let i : under_all suc (map same_type vs) d ≡ p = ap (λ z. under_all suc z d) (map_same vs) in
        let j : q ≡ p + k = under_from vs d m k e in
        joined (f p h ++ collect_goals f p b) (collect_clauses f d cs)
        (ap (λ z. f z (shift q 1 h) ++ collect_goals f z (raise_goals q b)) i ∙ joined (f p h) (collect_goals f p b) (same p q j h) (goals_collected p q j b))
        (clauses_collected d m e cs)

-- the indices that are loose in a raised term

abbrev above : (k i : ℕ) → ℕ
above k i = if nat_lt i k then i else i + 1

loose_if : (d : ℕ) (c : Bool) (i j : ℕ) → loose_in d (if c then index i else index j) ≡ (if c then loose_in d (index i) else loose_in d (index j))
loose_if d true i j = refl
loose_if d false i j = refl

map_if : (u : ℕ → ℕ) (c : Bool) (i : ℕ) → map u (if c then [] else i ∷ []) ≡ (if c then [] else u i ∷ [])
map_if u true i = refl
map_if u false i = refl

loose_index : (k d m i : ℕ) → m ≡ d + k →
    (if nat_lt i m then (if nat_lt i d then [] else (i - d) ∷ []) else (if nat_lt (i + 1) d then [] else (i + 1 - d) ∷ [])) ≡ (if nat_lt i d then [] else above k (i - d) ∷ [])
loose_index k d m i e = grind (arith, nat_tests, e)

loose_shift : (k d m : ℕ) → m ≡ d + k → (t : Term) → loose_in d (shift m 1 t) ≡ map (above k) (loose_in d t)
loose_shift k d m e (index i) = loose_if d (nat_lt i m) i (i + 1) ∙ loose_index k d m i e ∙ sym (map_if (above k) (nat_lt i d) (i - d))
loose_shift k d m e (atom a) = refl
loose_shift k d m e (abs b) = loose_shift k (suc d) (suc m) (omega (arith, e)) b
loose_shift k d m e (app t u) = same_append (loose_shift k d m e t) (loose_shift k d m e u) ∙ sym (map-append (above k) (loose_in d t) (loose_in d u))

-- its type variables

no_type_variables : (c : Bool) (i j : ℕ) → type_variables_in (if c then index i else index j) ≡ []
no_type_variables true i j = refl
no_type_variables false i j = refl

type_variables_shift : (m : ℕ) (t : Term) → type_variables_in (shift m 1 t) ≡ type_variables_in t
type_variables_shift m (index i) = no_type_variables (nat_lt i m) i (i + 1)
type_variables_shift m (atom a) = refl
type_variables_shift m (abs b) = type_variables_shift (suc m) b
type_variables_shift m (app t u) = same_append (type_variables_shift m t) (type_variables_shift m u)

type_variables_stay : (d m : ℕ) (t : Term) → type_variables_in (shift m 1 t) ≡ map (λ j. j) (type_variables_in t)
type_variables_stay d m t = type_variables_shift m t ∙ sym (map-id (type_variables_in t))

-- each variable, raised

pub same_written : {A B : List Term} {X Y : List Ty} → A ≡ B → X ≡ Y → ◌≡◌ {A = Written} (record { terms = A; types = X }) (record { terms = B; types = Y })
same_written {A} {B} {X} {Y} e f = ap (λ z. record { terms = z; types = X }) e ∙ ap (λ z. record { terms = B; types = z }) f

index_if : (c : Bool) (i j : ℕ) → (if c then index i else index j) ≡ index (if c then i else j)
index_if true i j = refl
index_if false i j = refl

indices_raised : (k : ℕ) (is : List ℕ) → map (λ t. shift k 1 t) (map index is) ≡ map index (map (above k) is)
indices_raised k [] = refl
indices_raised k (i ∷ is) = ap (λ z. z ∷ map (λ t. shift k 1 t) (map index is)) (index_if (nat_lt i k) i (i + 1)) ∙ ap (λ z. index (above k i) ∷ z) (indices_raised k is)

by_raised : (k : ℕ) (is js up stay : List ℕ) → up ≡ map (above k) is → stay ≡ map (λ j. j) js → map_written (λ t. shift k 1 t) same_type (written_by is js) ≡ written_by up stay
by_raised k is js up stay e f = same_written (indices_raised k is ∙ ap (map index) (sym e)) (map_same (map var js) ∙ ap (map var) (sym (f ∙ map-id js)))

pub goals_written : (k : ℕ) (gs : Goals) → map_written (λ t. shift k 1 t) same_type (written_in_goals gs) ≡ written_in_goals (raise_goals k gs)
goals_written k gs =
    by_raised k (collect_goals loose_in 0 gs) (collect_goals (λ d t. type_variables_in t) 0 gs) (collect_goals loose_in 0 (raise_goals k gs)) (collect_goals (λ d t. type_variables_in t) 0 (raise_goals k gs))
    (goals_collected loose_in (above k) k (loose_shift k) 0 k (omega arith) gs)
    (goals_collected (λ d t. type_variables_in t) (λ j. j) k (λ d m e t. type_variables_stay d m t) 0 k (omega arith) gs)

pub clauses_written : (k : ℕ) (cs : Clauses) → map_written (λ t. shift k 1 t) same_type (written_in_clauses cs) ≡ written_in_clauses (raise_clauses k cs)
clauses_written k cs =
    by_raised k (collect_clauses loose_in 0 cs) (collect_clauses (λ d t. type_variables_in t) 0 cs) (collect_clauses loose_in 0 (raise_clauses k cs)) (collect_clauses (λ d t. type_variables_in t) 0 (raise_clauses k cs))
    (clauses_collected loose_in (above k) k (loose_shift k) 0 k (omega arith) cs)
    (clauses_collected (λ d t. type_variables_in t) (λ j. j) k (λ d m e t. type_variables_stay d m t) 0 k (omega arith) cs)
