-- The goals of a program clause read in a branch as they are written, with new type variables.
use Rattle.std.proofs.Common.{◌≡◌, ℕ, suc, ◌+◌, ◌<◌, ◌≤◌, List, [], ◌∷◌, map, length, ap, ◌∙◌, refl, arith}
use Rattle.lp_calculus.specs.Types.{Ty, var, instance}
use Rattle.lp_calculus.specs.Term.{Term, index}
use Rattle.lp_calculus.specs.Instance.{instance_term}
use Rattle.lp_model.specs.Flat.{Written, Goal, Atomic, Cut, Either, Exists, Forall, Assume, Not, Goals, no_goals, goals, Clause, clause, Clauses, no_clauses, clauses, map_written, map_goal, map_goals, map_clause, map_clauses, same_type, under_all}
use Rattle.lp_model.specs.Index.{lifted, instantiate}
use Rattle.lp_model.specs.Pair.{Closing, closed}
use Rattle.lp_model.specs.Search.{renewed}
use Rattle.lp_pattern.specs.Stripping.{IsShut}
use Rattle.lp_plain.specs.Resuming.{AllTerms, AllOfGoal, AllOfGoals, AllOfClause, AllOfClauses, AllTys, TysOfGoal, TysOfGoals, TysOfClause, TysOfClauses}
use Rattle.lp_plain.specs.Written.{IsTypeBelow, IsWritten, WrittenAtom}
use Rattle.lp_plain.proofs.Closings.{lifted_same, loose_same, typed_loose}
use Rattle.lp_plain.proofs.Mapped.{assume_same, clause_same, clauses_same, either_same, goals_same, not_same}
use Rattle.lp_plain.proofs.ProgramHeads.{type_stays, written_stays}
use Rattle.lp_plain.proofs.TrialParts.{within_loose}

-- the first n indices stand for themselves
abbrev IsOwn : ℕ → (ℕ → Term) → Type 0
IsOwn n τ = (i : ℕ) → i < n → τ i ≡ index i

all_own : (f : Ty → Ty) (n : ℕ) (τ : ℕ → Term) → IsOwn n τ → (vs : List Ty) → IsOwn (length vs + n) (under_all lifted (map f vs) τ)
all_own f n τ h [] i l = h i (omega (arith, l))
all_own f n τ h (v ∷ vs) i l = lifted_same (length vs + n) (under_all lifted (map f vs) τ) (all_own f n τ h vs) i (omega (arith, l))

module _ (z : Closing) (s : IsShut z) (k next : ℕ) (free : (x : ℕ) → next ≤ x → z.types x ≡ var x) (ar : ℕ → ℕ) where
  term_stays : (n : ℕ) (τ : ℕ → Term) → IsOwn n τ → (t : Term) → IsWritten ar k n t → closed z (instantiate τ (instance_term (renewed k next) t)) ≡ instance_term (renewed k next) t
  term_stays n τ h t w =
      ap (closed z) (loose_same n τ h (instance_term (renewed k next) t) (typed_loose (renewed k next) 0 n t (within_loose (WrittenAtom ar k) 0 n n t (omega arith) w))) ∙ written_stays z s k next free ar n t w

  terms_stay : (n : ℕ) (τ : ℕ → Term) → IsOwn n τ → (ts : List Term) → AllTerms (IsWritten ar k) n ts → map (closed z) (map (instantiate τ) (map (instance_term (renewed k next)) ts)) ≡ map (instance_term (renewed k next)) ts
  terms_stay n τ h [] w = refl
  terms_stay n τ h (t ∷ ts) w = let p = term_stays n τ h t w.0 in let q = terms_stay n τ h ts w.1 in λ i. p i ∷ q i

  types_stay : (Ts : List Ty) → AllTys (IsTypeBelow k) Ts → map (instance z.types) (map same_type (map (instance (renewed k next)) Ts)) ≡ map (instance (renewed k next)) Ts
  types_stay [] w = refl
  types_stay (T ∷ Ts) w = let p = type_stays z s k next free T w.0 in let q = types_stay Ts w.1 in λ i. p i ∷ q i

  said_stays : (n : ℕ) (τ : ℕ → Term) → IsOwn n τ → (w : Written) → AllTerms (IsWritten ar k) n w.terms → AllTys (IsTypeBelow k) w.types →
      map_written (closed z) (instance z.types) (map_written (instantiate τ) same_type (map_written (instance_term (renewed k next)) (instance (renewed k next)) w)) ≡ map_written (instance_term (renewed k next)) (instance (renewed k next)) w
  said_stays n τ h w a b = let p = terms_stay n τ h w.terms a in let q = types_stay w.types b in λ i. record { terms = p i; types = q i }

  mutual
    goal_stays : (n e i j : ℕ) (τ : ℕ → Term) → IsOwn n τ → (g : Goal) → AllOfGoal (IsWritten ar k) n g → TysOfGoal (IsTypeBelow k) g →
        map_goal (λ u. u) (λ u x. closed z x) (instance z.types) e (map_goal lifted instantiate same_type τ (map_goal (λ u. u) (λ u x. instance_term (renewed k next) x) (instance (renewed k next)) i g)) ≡
        map_goal (λ u. u) (λ u x. instance_term (renewed k next) x) (instance (renewed k next)) j g
    goal_stays n e i j τ h (Atomic t) w b = ap Atomic (term_stays n τ h t w)
    goal_stays n e i j τ h Cut w b = refl
    goal_stays n e i j τ h (Either gs hs) w b = either_same (goals_stay n e i j τ h gs w.0 b.0) (goals_stay n e i j τ h hs w.1 b.1)
    goal_stays n e i j τ h (Exists T gs) w b = let p = type_stays z s k next free T b.0 in let q = goals_stay (suc n) e i j (lifted τ) (lifted_same n τ h) gs w b.1 in λ x. Exists (p x) (q x)
    goal_stays n e i j τ h (Forall T gs) w b = let p = type_stays z s k next free T b.0 in let q = goals_stay (suc n) e i j (lifted τ) (lifted_same n τ h) gs w b.1 in λ x. Forall (p x) (q x)
    goal_stays n e i j τ h (Assume v cs gs) w b = assume_same (said_stays n τ h v w.0 b.0) (clauses_stay n e i j τ h cs w.1 b.1) (goals_stay n e i j τ h gs w.2 b.2)
    goal_stays n e i j τ h (Not v gs) w b = not_same (said_stays n τ h v w.0 b.0) (goals_stay n e i j τ h gs w.1 b.1)

    pub goals_stay : (n e i j : ℕ) (τ : ℕ → Term) → IsOwn n τ → (gs : Goals) → AllOfGoals (IsWritten ar k) n gs → TysOfGoals (IsTypeBelow k) gs →
        map_goals (λ u. u) (λ u x. closed z x) (instance z.types) e (map_goals lifted instantiate same_type τ (map_goals (λ u. u) (λ u x. instance_term (renewed k next) x) (instance (renewed k next)) i gs)) ≡
        map_goals (λ u. u) (λ u x. instance_term (renewed k next) x) (instance (renewed k next)) j gs
    goals_stay n e i j τ h no_goals w b = refl
    goals_stay n e i j τ h (goals g gs) w b = goals_same (goal_stays n e i j τ h g w.0 b.0) (goals_stay n e i j τ h gs w.1 b.1)

    clause_stays : (n e i j : ℕ) (τ : ℕ → Term) → IsOwn n τ → (c : Clause) → AllOfClause (IsWritten ar k) n c → TysOfClause (IsTypeBelow k) c →
        map_clause (λ u. u) (λ u x. closed z x) (instance z.types) e (map_clause lifted instantiate same_type τ (map_clause (λ u. u) (λ u x. instance_term (renewed k next) x) (instance (renewed k next)) i c)) ≡
        map_clause (λ u. u) (λ u x. instance_term (renewed k next) x) (instance (renewed k next)) j c
    clause_stays n e i j τ h (clause m vs t b) w y =
        let us = map (instance (renewed k next)) vs in
        let o = all_own (instance (renewed k next)) n τ h vs in
        clause_same m (types_stay vs y.0) (term_stays (length vs + n) (under_all lifted us τ) o t w.0)
        (goals_stay (length vs + n) (under_all (λ u. u) (map same_type us) e) (under_all (λ u. u) vs i) (under_all (λ u. u) vs j) (under_all lifted us τ) o b w.1 y.1)

    clauses_stay : (n e i j : ℕ) (τ : ℕ → Term) → IsOwn n τ → (cs : Clauses) → AllOfClauses (IsWritten ar k) n cs → TysOfClauses (IsTypeBelow k) cs →
        map_clauses (λ u. u) (λ u x. closed z x) (instance z.types) e (map_clauses lifted instantiate same_type τ (map_clauses (λ u. u) (λ u x. instance_term (renewed k next) x) (instance (renewed k next)) i cs)) ≡
        map_clauses (λ u. u) (λ u x. instance_term (renewed k next) x) (instance (renewed k next)) j cs
    clauses_stay n e i j τ h no_clauses w b = refl
    clauses_stay n e i j τ h (clauses c cs) w b = clauses_same (clause_stays n e i j τ h c w.0 b.0) (clauses_stay n e i j τ h cs w.1 b.1)
