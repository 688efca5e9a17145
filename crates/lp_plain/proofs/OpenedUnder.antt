-- Goals with terms for their indices, as the bindings read them.
use Rattle.std.proofs.Common.{◌≡◌, ℕ, zero, suc, List, [], ◌∷◌, map, refl, sym, ap, ◌∙◌}
use mathlib.Core.Path.{fun_ext}
use Rattle.lp_calculus.specs.Types.{Ty, instance}
use Rattle.lp_calculus.specs.Term.{Term, index, shift}
use Rattle.lp_model.specs.Flat.{Written, Goal, Atomic, Cut, Either, Exists, Forall, Assume, Not, Goals, no_goals, goals, Clause, clause, Clauses, no_clauses, clauses, goal_list, clause_list, under_all, map_written, same_type, map_goal, map_goals, map_clause, map_clauses, instantiate_goals}
use Rattle.lp_model.specs.Index.{lifted, instantiate}
use Rattle.lp_model.specs.Pair.{Closing, closed}
use Rattle.lp_model.specs.Search.{opened}
use Rattle.lp_pattern.specs.Stripping.{IsShut}
use Rattle.lp_plain.specs.Opening.{cons}
use Rattle.lp_plain.specs.Resuming.{goal_with}
use Rattle.lp_plain.proofs.Closings.{instance_under, shifted_under}
use Rattle.lp_plain.proofs.Mapped.{assume_same, clause_same, clauses_same, either_same, goals_same, not_same}

-- goals and clauses one by one

pub listed_goals : {E : Type 0} (under : E → E) (term : E → Term → Term) (ty : Ty → Ty) (e : E) (gs : Goals) → goal_list (map_goals under term ty e gs) ≡ map (map_goal under term ty e) (goal_list gs)
listed_goals under term ty e no_goals = refl
listed_goals under term ty e (goals g gs) = ap (λ l. map_goal under term ty e g ∷ l) (listed_goals under term ty e gs)

pub listed_clauses : {E : Type 0} (under : E → E) (term : E → Term → Term) (ty : Ty → Ty) (e : E) (cs : Clauses) → clause_list (map_clauses under term ty e cs) ≡ map (map_clause under term ty e) (clause_list cs)
listed_clauses under term ty e no_clauses = refl
listed_clauses under term ty e (clauses c cs) = ap (λ l. map_clause under term ty e c ∷ l) (listed_clauses under term ty e cs)

module _ (z : Closing) (s : IsShut z) where
  -- these values as the bindings read them
  abbrev Reads : (σ τ : ℕ → Term) → Type 0
  Reads σ τ = (i : ℕ) → closed z (σ i) ≡ τ i

  reads_lifted : (σ τ : ℕ → Term) → Reads σ τ → Reads (lifted σ) (lifted τ)
  reads_lifted σ τ h zero = refl
  reads_lifted σ τ h (suc i) = shifted_under z s 0 (σ i) ∙ ap (shift 0 1) (h i)

  term_under : (σ τ : ℕ → Term) → Reads σ τ → (t : Term) → closed z (instantiate σ t) ≡ instantiate τ (closed z t)
  term_under σ τ h t = instance_under z s σ t ∙ ap (λ f. instantiate f (closed z t)) (fun_ext h)

  terms_under : (σ τ : ℕ → Term) → Reads σ τ → (ts : List Term) → map (closed z) (map (instantiate σ) ts) ≡ map (instantiate τ) (map (closed z) ts)
  terms_under σ τ h [] = refl
  terms_under σ τ h (t ∷ ts) = let p = term_under σ τ h t in let q = terms_under σ τ h ts in λ i. p i ∷ q i

  types_under : (Ts : List Ty) → map (instance z.types) (map same_type Ts) ≡ map same_type (map (instance z.types) Ts)
  types_under [] = refl
  types_under (T ∷ Ts) = ap (λ l. instance z.types T ∷ l) (types_under Ts)

  written_under : (σ τ : ℕ → Term) → Reads σ τ → (w : Written) →
      map_written (closed z) (instance z.types) (map_written (instantiate σ) same_type w) ≡ map_written (instantiate τ) same_type (map_written (closed z) (instance z.types) w)
  written_under σ τ h w = let p = terms_under σ τ h w.terms in let q = types_under w.types in λ i. record { terms = p i; types = q i }

  below : (vs : List Ty) (σ τ : ℕ → Term) → Reads σ τ → Reads (under_all lifted vs σ) (under_all lifted (map (instance z.types) vs) τ)
  below [] σ τ h = h
  below (v ∷ vs) σ τ h = reads_lifted (under_all lifted vs σ) (under_all lifted (map (instance z.types) vs) τ) (below vs σ τ h)

  mutual
    goal_under : (j k : ℕ) (σ τ : ℕ → Term) → Reads σ τ → (g : Goal) →
        map_goal (λ u. u) (λ u t. closed z t) (instance z.types) j (map_goal lifted instantiate same_type σ g) ≡ map_goal lifted instantiate same_type τ (map_goal (λ u. u) (λ u t. closed z t) (instance z.types) k g)
    goal_under j k σ τ h (Atomic t) = ap Atomic (term_under σ τ h t)
    goal_under j k σ τ h Cut = refl
    goal_under j k σ τ h (Either gs hs) = either_same (goals_under j k σ τ h gs) (goals_under j k σ τ h hs)
    goal_under j k σ τ h (Exists T gs) = ap (Exists (instance z.types T)) (goals_under j k (lifted σ) (lifted τ) (reads_lifted σ τ h) gs)
    goal_under j k σ τ h (Forall T gs) = ap (Forall (instance z.types T)) (goals_under j k (lifted σ) (lifted τ) (reads_lifted σ τ h) gs)
    goal_under j k σ τ h (Assume w cs gs) = assume_same (written_under σ τ h w) (clauses_under j k σ τ h cs) (goals_under j k σ τ h gs)
    goal_under j k σ τ h (Not w gs) = not_same (written_under σ τ h w) (goals_under j k σ τ h gs)

    pub goals_under : (j k : ℕ) (σ τ : ℕ → Term) → Reads σ τ → (gs : Goals) →
        map_goals (λ u. u) (λ u t. closed z t) (instance z.types) j (instantiate_goals σ gs) ≡ instantiate_goals τ (map_goals (λ u. u) (λ u t. closed z t) (instance z.types) k gs)
    goals_under j k σ τ h no_goals = refl
    goals_under j k σ τ h (goals g gs) = goals_same (goal_under j k σ τ h g) (goals_under j k σ τ h gs)

    clause_under : (j k : ℕ) (σ τ : ℕ → Term) → Reads σ τ → (c : Clause) →
        map_clause (λ u. u) (λ u t. closed z t) (instance z.types) j (map_clause lifted instantiate same_type σ c) ≡ map_clause lifted instantiate same_type τ (map_clause (λ u. u) (λ u t. closed z t) (instance z.types) k c)
    clause_under j k σ τ h (clause n vs t b) =
        let r = below vs σ τ h in
        clause_same n (types_under vs) (term_under (under_all lifted vs σ) (under_all lifted (map (instance z.types) vs) τ) r t)
        (goals_under (under_all (λ u. u) (map same_type vs) j) (under_all (λ u. u) vs k) (under_all lifted vs σ) (under_all lifted (map (instance z.types) vs) τ) r b)

    clauses_under : (j k : ℕ) (σ τ : ℕ → Term) → Reads σ τ → (cs : Clauses) →
        map_clauses (λ u. u) (λ u t. closed z t) (instance z.types) j (map_clauses lifted instantiate same_type σ cs) ≡ map_clauses lifted instantiate same_type τ (map_clauses (λ u. u) (λ u t. closed z t) (instance z.types) k cs)
    clauses_under j k σ τ h no_clauses = refl
    clauses_under j k σ τ h (clauses c cs) = clauses_same (clause_under j k σ τ h c) (clauses_under j k σ τ h cs)

  -- goals that are opened with a term that the bindings read as it is
  pub opened_under : (u : Term) → closed z u ≡ u → (k : ℕ) (gs : Goals) → map (goal_with (closed z) (instance z.types)) (opened u gs) ≡ opened u (map_goals (λ v. v) (λ v t. closed z t) (instance z.types) k gs)
  opened_under u e k gs =
      sym (listed_goals (λ v. v) (λ v t. closed z t) (instance z.types) zero (instantiate_goals (cons u index) gs)) ∙ ap goal_list (goals_under zero k (cons u index) (cons u index) reads gs)
    where
      reads : Reads (cons u index) (cons u index)
      reads zero = e
      reads (suc i) = refl
