-- Flattened goals and clauses of a source are filled with its own variables, and what is written in them are these.
use Rattle.std.proofs.Common.{◌≡◌, ℕ, zero, suc, List, [], ◌∷◌, refl, sym, ap, ◌∙◌}
use Rattle.lp_calculus.specs.Types.{Ty, var, instance}
use Rattle.lp_calculus.specs.Term.{Term, index, atom, abs, app, shift, Atom}
use Rattle.lp_calculus.specs.Instance.{instance_term}
use Rattle.lp_calculus.specs.Closed.{AllAtoms}
use Rattle.lp_calculus.proofs.BetaEta.{shift_one}
use Rattle.lp_model.specs.Index.{instantiate, lifted}
use Rattle.lp_model.specs.Pair.{Pair}
use Rattle.lp_model.specs.Flat.{Goal, Atomic, Cut, Either, Exists, Forall, Assume, Not, Goals, no_goals, goals, Clause, clause, Clauses, no_clauses, clauses, Written, map_written, map_goal, map_goals, map_clause, map_clauses, under_all, written_in_goals, written_in_clauses}
use Rattle.lp_proof_laws.specs.Filled.{IsSourceAtom, filled_term}
use Rattle.lp_proof_laws.specs.Terms.{AreTermsOf, AreClausesOf}
use Rattle.lp_unify_laws.proofs.Identities.{instance_same, map_same, pair_same}
use Rattle.lp_search_laws.specs.Written.{IsOrigin, IsClauseOrigin}

-- each variable for itself
abbrev IsItself : (ℕ → Term) → Type 0
IsItself σ = (i : ℕ) → σ i ≡ index i

lifted_itself : (σ : ℕ → Term) → IsItself σ → IsItself (lifted σ)
lifted_itself σ h zero = refl
lifted_itself σ h (suc i) = ap (shift 0 1) (h i) ∙ shift_one (index i)

lifted_all : (vs : List Ty) (σ : ℕ → Term) → IsItself σ → IsItself (under_all lifted vs σ)
lifted_all [] σ h = h
lifted_all (v ∷ vs) σ h = lifted_itself (under_all lifted vs σ) (lifted_all vs σ h)

atom_itself : (a : Atom) → instance_term var (atom a) ≡ atom a
atom_itself a = ap (λ (p : Pair). p.left) (pair_same (record { left = atom a; right = atom a; level = 0 }))

atom_put : (σ : ℕ → Term) (a : Atom) → instantiate σ (atom a) ≡ atom a
atom_put σ a = refl

term_itself : (σ : ℕ → Term) → IsItself σ → (t : Term) → filled_term var σ t ≡ t
term_itself σ h (index i) = h i
term_itself σ h (atom a) = ap (instantiate σ) (atom_itself a) ∙ atom_put σ a
term_itself σ h (abs b) = ap abs (term_itself (lifted σ) (lifted_itself σ h) b)
term_itself σ h (app t u) = λ i. app (term_itself σ h t i) (term_itself σ h u i)

written_itself : (σ : ℕ → Term) → IsItself σ → (w : Written) → map_written (filled_term var σ) (instance var) w ≡ w
written_itself σ h w = λ i. record { terms = map_same (filled_term var σ) (term_itself σ h) w.terms i; types = map_same (instance var) instance_same w.types i }

mutual
  goal_itself : (σ : ℕ → Term) → IsItself σ → (g : Goal) → map_goal lifted (filled_term var) (instance var) σ g ≡ g
  goal_itself σ h (Atomic t) = ap Atomic (term_itself σ h t)
  goal_itself σ h Cut = refl
  goal_itself σ h (Either l r) = λ i. Either (goals_itself σ h l i) (goals_itself σ h r i)
  goal_itself σ h (Exists T gs) = λ i. Exists (instance_same T i) (goals_itself (lifted σ) (lifted_itself σ h) gs i)
  goal_itself σ h (Forall T gs) = λ i. Forall (instance_same T i) (goals_itself (lifted σ) (lifted_itself σ h) gs i)
  goal_itself σ h (Assume w cs gs) = λ i. Assume (written_itself σ h w i) (clauses_itself σ h cs i) (goals_itself σ h gs i)
  goal_itself σ h (Not w gs) = λ i. Not (written_itself σ h w i) (goals_itself σ h gs i)

  goals_itself : (σ : ℕ → Term) → IsItself σ → (gs : Goals) → map_goals lifted (filled_term var) (instance var) σ gs ≡ gs
  goals_itself σ h no_goals = refl
  goals_itself σ h (goals g gs) = λ i. goals (goal_itself σ h g i) (goals_itself σ h gs i)

  clause_itself : (σ : ℕ → Term) → IsItself σ → (c : Clause) → map_clause lifted (filled_term var) (instance var) σ c ≡ c
  clause_itself σ h (clause n vs t b) = λ i. clause n (map_same (instance var) instance_same vs i) (term_itself (under_all lifted vs σ) (lifted_all vs σ h) t i) (goals_itself (under_all lifted vs σ) (lifted_all vs σ h) b i)

  clauses_itself : (σ : ℕ → Term) → IsItself σ → (cs : Clauses) → map_clauses lifted (filled_term var) (instance var) σ cs ≡ cs
  clauses_itself σ h no_clauses = refl
  clauses_itself σ h (clauses c cs) = λ i. clauses (clause_itself σ h c i) (clauses_itself σ h cs i)

pub source_origin : (gs : Goals) → AreTermsOf (λ t. AllAtoms IsSourceAtom t) gs → IsOrigin (written_in_goals gs) gs
source_origin gs h = record { types = var; terms = index; flat = gs; source = h; is = sym (goals_itself index (λ i. refl) gs); terms_written = refl; types_written = refl }

pub source_clause_origin : (cs : Clauses) → AreClausesOf (λ t. AllAtoms IsSourceAtom t) cs → IsClauseOrigin (written_in_clauses cs) cs
source_clause_origin cs h = record { types = var; terms = index; flat = cs; source = h; is = sym (clauses_itself index (λ i. refl) cs); terms_written = refl; types_written = refl }
