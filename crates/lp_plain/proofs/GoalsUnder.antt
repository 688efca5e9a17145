-- A reading of the bindings goes past terms for the indices of goals.
use Rattle.std.proofs.Common.{◌≡◌, ℕ, zero, suc, ◌+◌, List, [], ◌∷◌, map, length, refl, sym, ap, ◌∙◌, arith}
use Rattle.lp_calculus.specs.Types.{Ty, instance}
use Rattle.lp_calculus.specs.Term.{Term, shift}
use Rattle.lp_calculus.specs.Instance.{instance_term}
use Rattle.lp_term.specs.Spine.{LooseBelow}
use Rattle.lp_model.specs.Flat.{Written, Goal, Atomic, Cut, Either, Exists, Forall, Assume, Not, Goals, no_goals, goals, Clause, clause, Clauses, no_clauses, clauses, map_written, map_goal, map_goals, map_clause, map_clauses, same_type, under_all}
use Rattle.lp_model.specs.Index.{lifted, instantiate}
use Rattle.lp_model.specs.Pair.{Closing, closed}
use Rattle.lp_pattern.specs.Stripping.{IsShut}
use Rattle.lp_plain.specs.Followed.{LeadTo}
use Rattle.lp_plain.specs.Resuming.{AllTerms, AllOfGoal, AllOfGoals, AllOfClause, AllOfClauses}
use Rattle.lp_plain.proofs.Closings.{both_under, shifted_under, typed_loose}
use Rattle.lp_plain.proofs.Mapped.{assume_same, clause_same, clauses_same, either_same, goals_same, lifted_past, not_same}

lifted_leads : (z : Closing) → IsShut z → (n : ℕ) (τ ρ σ : ℕ → Term) → LeadTo z n τ ρ σ → LeadTo z (suc n) (lifted τ) (lifted ρ) (lifted σ)
lifted_leads z s n τ ρ σ h zero l = refl
lifted_leads z s n τ ρ σ h (suc i) l = ap (instantiate (lifted σ)) (shifted_under z s 0 (τ i)) ∙ lifted_past σ (closed z (τ i)) ∙ ap (shift 0 1) (h i (omega (arith, l))) ∙ sym (shifted_under z s 0 (ρ i))

-- below the variables of a clause
all_lead : (z : Closing) → IsShut z → (f g : Ty → Ty) (n : ℕ) (τ ρ σ : ℕ → Term) → LeadTo z n τ ρ σ → (vs : List Ty) →
    LeadTo z (length vs + n) (under_all lifted (map f vs) τ) (under_all lifted (map f vs) ρ) (under_all lifted (map g (map same_type (map f vs))) σ)
all_lead z s f g n τ ρ σ h [] i l = h i (omega (arith, l))
all_lead z s f g n τ ρ σ h (v ∷ vs) i l =
    lifted_leads z s (length vs + n) (under_all lifted (map f vs) τ) (under_all lifted (map f vs) ρ) (under_all lifted (map g (map same_type (map f vs))) σ) (all_lead z s f g n τ ρ σ h vs) i (omega (arith, l))

types_lead : (f g : Ty → Ty) (Ts : List Ty) → map same_type (map g (map same_type (map f Ts))) ≡ map g (map same_type (map f Ts))
types_lead f g [] = refl
types_lead f g (T ∷ Ts) = ap (λ l. g (f T) ∷ l) (types_lead f g Ts)

-- the loose indices are below this number
abbrev pub IsLooseAt : ℕ → Term → Type 0
IsLooseAt d t = LooseBelow d 0 t

module _ (z : Closing) (s : IsShut z) (θ : ℕ → Ty) where
  term_leads : (n : ℕ) (τ ρ σ : ℕ → Term) → LeadTo z n τ ρ σ → (t : Term) → LooseBelow n 0 t → instantiate σ (closed z (instantiate τ (instance_term θ t))) ≡ closed z (instantiate ρ (instance_term θ t))
  term_leads n τ ρ σ h t l = both_under z s n τ ρ σ h (instance_term θ t) (typed_loose θ n 0 t l)

  terms_lead : (n : ℕ) (τ ρ σ : ℕ → Term) → LeadTo z n τ ρ σ → (ts : List Term) → AllTerms IsLooseAt n ts → map (instantiate σ) (map (closed z) (map (instantiate τ) (map (instance_term θ) ts))) ≡ map (closed z) (map (instantiate ρ) (map (instance_term θ) ts))
  terms_lead n τ ρ σ h [] l = refl
  terms_lead n τ ρ σ h (t ∷ ts) l = let p = term_leads n τ ρ σ h t l.0 in let q = terms_lead n τ ρ σ h ts l.1 in λ i. p i ∷ q i

  written_leads : (n : ℕ) (τ ρ σ : ℕ → Term) → LeadTo z n τ ρ σ → (w : Written) → AllTerms IsLooseAt n w.terms →
      map_written (instantiate σ) same_type (map_written (closed z) (instance z.types) (map_written (instantiate τ) same_type (map_written (instance_term θ) (instance θ) w))) ≡
      map_written (closed z) (instance z.types) (map_written (instantiate ρ) same_type (map_written (instance_term θ) (instance θ) w))
  written_leads n τ ρ σ h w l = let p = terms_lead n τ ρ σ h w.terms l in let q = types_lead (instance θ) (instance z.types) w.types in λ i. record { terms = p i; types = q i }

  mutual
    goal_leads : (n e e' k k' : ℕ) (τ ρ σ : ℕ → Term) → LeadTo z n τ ρ σ → (g : Goal) → AllOfGoal IsLooseAt n g →
        map_goal lifted instantiate same_type σ (map_goal (λ u. u) (λ u x. closed z x) (instance z.types) e (map_goal lifted instantiate same_type τ (map_goal (λ u. u) (λ u x. instance_term θ x) (instance θ) k g))) ≡
        map_goal (λ u. u) (λ u x. closed z x) (instance z.types) e' (map_goal lifted instantiate same_type ρ (map_goal (λ u. u) (λ u x. instance_term θ x) (instance θ) k' g))
    goal_leads n e e' k k' τ ρ σ h (Atomic t) l = ap Atomic (term_leads n τ ρ σ h t l)
    goal_leads n e e' k k' τ ρ σ h Cut l = refl
    goal_leads n e e' k k' τ ρ σ h (Either gs hs) l = either_same (goals_lead n e e' k k' τ ρ σ h gs l.0) (goals_lead n e e' k k' τ ρ σ h hs l.1)
    goal_leads n e e' k k' τ ρ σ h (Exists T gs) l = ap (Exists (instance z.types (instance θ T))) (goals_lead (suc n) e e' k k' (lifted τ) (lifted ρ) (lifted σ) (lifted_leads z s n τ ρ σ h) gs l)
    goal_leads n e e' k k' τ ρ σ h (Forall T gs) l = ap (Forall (instance z.types (instance θ T))) (goals_lead (suc n) e e' k k' (lifted τ) (lifted ρ) (lifted σ) (lifted_leads z s n τ ρ σ h) gs l)
    goal_leads n e e' k k' τ ρ σ h (Assume w cs gs) l = assume_same (written_leads n τ ρ σ h w l.0) (clauses_lead n e e' k k' τ ρ σ h cs l.1) (goals_lead n e e' k k' τ ρ σ h gs l.2)
    goal_leads n e e' k k' τ ρ σ h (Not w gs) l = not_same (written_leads n τ ρ σ h w l.0) (goals_lead n e e' k k' τ ρ σ h gs l.1)

    pub goals_lead : (n e e' k k' : ℕ) (τ ρ σ : ℕ → Term) → LeadTo z n τ ρ σ → (gs : Goals) → AllOfGoals IsLooseAt n gs →
        map_goals lifted instantiate same_type σ (map_goals (λ u. u) (λ u x. closed z x) (instance z.types) e (map_goals lifted instantiate same_type τ (map_goals (λ u. u) (λ u x. instance_term θ x) (instance θ) k gs))) ≡
        map_goals (λ u. u) (λ u x. closed z x) (instance z.types) e' (map_goals lifted instantiate same_type ρ (map_goals (λ u. u) (λ u x. instance_term θ x) (instance θ) k' gs))
    goals_lead n e e' k k' τ ρ σ h no_goals l = refl
    goals_lead n e e' k k' τ ρ σ h (goals g gs) l = goals_same (goal_leads n e e' k k' τ ρ σ h g l.0) (goals_lead n e e' k k' τ ρ σ h gs l.1)

    clause_leads : (n e e' k k' : ℕ) (τ ρ σ : ℕ → Term) → LeadTo z n τ ρ σ → (c : Clause) → AllOfClause IsLooseAt n c →
        map_clause lifted instantiate same_type σ (map_clause (λ u. u) (λ u x. closed z x) (instance z.types) e (map_clause lifted instantiate same_type τ (map_clause (λ u. u) (λ u x. instance_term θ x) (instance θ) k c))) ≡
        map_clause (λ u. u) (λ u x. closed z x) (instance z.types) e' (map_clause lifted instantiate same_type ρ (map_clause (λ u. u) (λ u x. instance_term θ x) (instance θ) k' c))
    clause_leads n e e' k k' τ ρ σ h (clause j vs t b) l =
        let m = all_lead z s (instance θ) (instance z.types) n τ ρ σ h vs in
        let us = map (instance θ) vs in
        clause_same j (types_lead (instance θ) (instance z.types) vs)
        (term_leads (length vs + n) (under_all lifted us τ) (under_all lifted us ρ) (under_all lifted (map (instance z.types) (map same_type us)) σ) m t l.0)
        (goals_lead (length vs + n) (under_all (λ u. u) (map same_type us) e) (under_all (λ u. u) (map same_type us) e') (under_all (λ u. u) vs k) (under_all (λ u. u) vs k')
        (under_all lifted us τ) (under_all lifted us ρ) (under_all lifted (map (instance z.types) (map same_type us)) σ) m b l.1)

    clauses_lead : (n e e' k k' : ℕ) (τ ρ σ : ℕ → Term) → LeadTo z n τ ρ σ → (cs : Clauses) → AllOfClauses IsLooseAt n cs →
        map_clauses lifted instantiate same_type σ (map_clauses (λ u. u) (λ u x. closed z x) (instance z.types) e (map_clauses lifted instantiate same_type τ (map_clauses (λ u. u) (λ u x. instance_term θ x) (instance θ) k cs))) ≡
        map_clauses (λ u. u) (λ u x. closed z x) (instance z.types) e' (map_clauses lifted instantiate same_type ρ (map_clauses (λ u. u) (λ u x. instance_term θ x) (instance θ) k' cs))
    clauses_lead n e e' k k' τ ρ σ h no_clauses l = refl
    clauses_lead n e e' k k' τ ρ σ h (clauses c cs) l = clauses_same (clause_leads n e e' k k' τ ρ σ h c l.0) (clauses_lead n e e' k k' τ ρ σ h cs l.1)
