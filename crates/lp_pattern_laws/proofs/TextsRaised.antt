-- Flattened goals of pattern text below one more existential variable.
use Rattle.std.proofs.Common.{◌≡◌, ℕ, zero, suc, ◌<◌, List, [], ◌∷◌, ◌++◌, map, length, sym, subst as transport, arith}
use Rattle.std.proofs.lemmas.Bool.Decides.{nat_tests}
use mathlib.Core.Path.{fun_ext}
use Rattle.lp_calculus.specs.Types.{Ty}
use Rattle.lp_calculus.specs.Term.{Term, shift}
use Rattle.lp_calculus.proofs.Fills.{within_rename}
use Rattle.lp_calculus.proofs.Plain.{bump, shift-rename}
use Rattle.lp_calculus.proofs.Sigma.{lift, rename}
use Rattle.lp_model.specs.Flat.{Goal, Atomic, Cut, Either, Exists, Forall, Assume, Not, Goals, no_goals, goals, Clause, clause, Clauses, no_clauses, clauses, under_all, map_goal, map_goals, map_clause, map_clauses, raise_goals, same_type}
use Rattle.lp_pattern_laws.specs.Binders.{Binder, universal, existential}
use Rattle.lp_pattern_laws.specs.Parts.{existentials}
use Rattle.lp_pattern_laws.specs.Goals.{IsTextAtom, IsWrittenText, IsGoalOf, AreGoalsOf, IsClauseOf, AreClausesOf, AreTextGoals}
use Rattle.lp_pattern_laws.proofs.Carried.{length_get, get_length}
use Rattle.lp_pattern_laws.proofs.Comes.{reduces_rename}
use Rattle.lp_pattern_laws.proofs.TextRenamed.{Moves, moves_lift, text_renamed}

written_renamed : (ρ : ℕ → ℕ) (Γ Δ : List Binder) → Moves ρ Γ Δ → (t : Term) → IsWrittenText Γ t → IsWrittenText Δ (rename ρ t)
written_renamed ρ Γ Δ h t w = record {
  within = within_rename IsTextAtom ρ (length Γ) (length Δ) below t w.within;
  form = rename ρ w.form;
  reduces = reduces_rename ρ w.reduces;
  pattern = text_renamed ρ Γ Δ h w.pattern;
}
  where
    below : (i : ℕ) → i < length Γ → ρ i < length Δ
    below i l = let g = get_length Γ i l in length_get Δ (ρ i) g.0 (h.binders i g.0 g.1)

lift_bump : (d i : ℕ) → lift (bump 1 d) i ≡ bump 1 (suc d) i
lift_bump d zero = grind (arith, nat_tests)
lift_bump d (suc i) = grind (arith, nat_tests)

abbrev IsRaised : ℕ → List Binder → List Binder → Type 0
IsRaised d Γ Δ = Moves (bump 1 d) Γ Δ

raised_under : (d : ℕ) (Γ Δ : List Binder) (x : Binder) → IsRaised d Γ Δ → IsRaised (suc d) (x ∷ Γ) (x ∷ Δ)
raised_under d Γ Δ x h = transport (λ ρ. Moves ρ (x ∷ Γ) (x ∷ Δ)) (fun_ext (lift_bump d)) (moves_lift (bump 1 d) Γ Δ x h)

raised_all : (vs : List Ty) (d : ℕ) (Γ Δ : List Binder) → IsRaised d Γ Δ → IsRaised (under_all suc vs d) (existentials vs ++ Γ) (existentials (map same_type vs) ++ Δ)
raised_all [] d Γ Δ h = h
raised_all (v ∷ vs) d Γ Δ h = raised_under (under_all suc vs d) (existentials vs ++ Γ) (existentials (map same_type vs) ++ Δ) existential (raised_all vs d Γ Δ h)

written_raised : (d : ℕ) (Γ Δ : List Binder) → IsRaised d Γ Δ → (t : Term) → IsWrittenText Γ t → IsWrittenText Δ (shift d 1 t)
written_raised d Γ Δ h t w = transport (IsWrittenText Δ) (sym (shift-rename d 1 t)) (written_renamed (bump 1 d) Γ Δ h t w)

mutual
  goal_raised : (d : ℕ) (Γ Δ : List Binder) → IsRaised d Γ Δ → (g : Goal) → IsGoalOf IsWrittenText Γ g → IsGoalOf IsWrittenText Δ (map_goal suc (λ k t. shift k 1 t) same_type d g)
  goal_raised d Γ Δ h (Atomic t) w = written_raised d Γ Δ h t w
  goal_raised d Γ Δ h Cut w = tt
  goal_raised d Γ Δ h (Either gs hs) w = (goals_raised d Γ Δ h gs w.0, goals_raised d Γ Δ h hs w.1)
  goal_raised d Γ Δ h (Exists T gs) w = goals_raised (suc d) (existential ∷ Γ) (existential ∷ Δ) (raised_under d Γ Δ existential h) gs w
  goal_raised d Γ Δ h (Forall T gs) w = goals_raised (suc d) (universal ∷ Γ) (universal ∷ Δ) (raised_under d Γ Δ universal h) gs w
  goal_raised d Γ Δ h (Assume x cs gs) w = (clauses_raised d Γ Δ h cs w.0, goals_raised d Γ Δ h gs w.1)
  goal_raised d Γ Δ h (Not x gs) w = goals_raised d Γ Δ h gs w

  goals_raised : (d : ℕ) (Γ Δ : List Binder) → IsRaised d Γ Δ → (gs : Goals) → AreGoalsOf IsWrittenText Γ gs → AreGoalsOf IsWrittenText Δ (map_goals suc (λ k t. shift k 1 t) same_type d gs)
  goals_raised d Γ Δ h no_goals w = tt
  goals_raised d Γ Δ h (goals g gs) w = (goal_raised d Γ Δ h g w.0, goals_raised d Γ Δ h gs w.1)

  clause_raised : (d : ℕ) (Γ Δ : List Binder) → IsRaised d Γ Δ → (c : Clause) → IsClauseOf IsWrittenText Γ c → IsClauseOf IsWrittenText Δ (map_clause suc (λ k t. shift k 1 t) same_type d c)
  clause_raised d Γ Δ h (clause n vs x b) w =
      let r = raised_all vs d Γ Δ h in (
        written_raised (under_all suc vs d) (existentials vs ++ Γ) (existentials (map same_type vs) ++ Δ) r x w.0,
        goals_raised (under_all suc vs d)
            (existentials vs ++ Γ) (existentials (map same_type vs) ++ Δ) r b w.1,
      )

  clauses_raised : (d : ℕ) (Γ Δ : List Binder) → IsRaised d Γ Δ → (cs : Clauses) → AreClausesOf IsWrittenText Γ cs → AreClausesOf IsWrittenText Δ (map_clauses suc (λ k t. shift k 1 t) same_type d cs)
  clauses_raised d Γ Δ h no_clauses w = tt
  clauses_raised d Γ Δ h (clauses c cs) w = (clause_raised d Γ Δ h c w.0, clauses_raised d Γ Δ h cs w.1)

-- one more variable in front
bump_first : (i : ℕ) → suc i ≡ bump 1 0 i
bump_first i = grind (arith, nat_tests)

pub moves_suc : (Γ : List Binder) (x : Binder) → Moves suc Γ (x ∷ Γ)
moves_suc Γ x = record { binders = λ i b e. e; rises = λ i j l. omega (arith, l) }

pub texts_raised : (Γ : List Binder) (x : Binder) (gs : Goals) → AreTextGoals Γ gs → AreTextGoals (x ∷ Γ) (raise_goals 0 gs)
texts_raised Γ x gs h = goals_raised 0 Γ (x ∷ Γ) (transport (λ ρ. Moves ρ Γ (x ∷ Γ)) (fun_ext bump_first) (moves_suc Γ x)) gs h
