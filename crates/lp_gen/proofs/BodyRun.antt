-- The body of a record, run to its end.
use Rattle.std.proofs.Common.{◌≡◌, ◌∙◌, ◌<◌, ◌≤◌, ℕ, suc, ◌+◌, max, List, [], ◌∷◌, ◌++◌, length, Bool, true, false, Some, ap, refl, arith}
use Rattle.std.specs.Prelude.{slice_get, sum_by}
use Rattle.std.specs.List.{list_any}
use Rattle.lp_calculus.specs.Types.{Ty}
use Rattle.lp_calculus.specs.Term.{Term}
use Rattle.lp_model.specs.Flat.{Goal, Goals, Clauses, Atomic, Cut, Either, Exists, Forall, Assume, Not, no_goals, goals, map_goals, same_type}
use Rattle.lp_code.specs.declared.instruction.Instr.{Instr}
use Rattle.lp_code.specs.declared.instruction.Instr.TheVariants as on
use Rattle.lp_code.specs.Length.{length_of}
use Rattle.lp_code.specs.Symbolic.{Built, held}
use Rattle.lp_code.specs.States.{Frame, State, Home, depth}
use Rattle.lp_code.specs.Steps.{Later}
use Rattle.lp_code.specs.Rules.{nesting_limit}
use Rattle.lp_code.specs.Denote.{Done, run}
use Rattle.lp_gen.specs.Sources.{goal_depth, goals_depth, clauses_depth}
use Rattle.lp_gen.specs.inner.Running.{ends_before}
use Rattle.lp_gen.specs.Steps.{Around}
use Rattle.lp_gen.specs.inner.TermLaw.{with_variables}
use Rattle.lp_gen.specs.inner.Bodies.{bare_goals, said_goals}
use Rattle.lp_gen.specs.inner.GoalCode.{GoalsCode}
use Rattle.lp_gen.specs.inner.BodyLaw.{GoalFits, GoalsFit, IsAround, AreLater, IsInside}
use Rattle.lp_gen.specs.inner.OpenGoals.{plain_goal, plain_goals}
use Rattle.lp_gen.proofs.BodySaid.{TellClauses, goals_say}
use Rattle.lp_gen.proofs.BodyCoded.{bare_plain}
use Rattle.lp_gen.proofs.BodyEnds.{ended_state, body_ends}

-- what is written in goals matters to none of this

mutual
  goal_fits_plain : (h : Home) (v : ℕ) (Γ : List Ty) (B : List Bool) (Q : ℕ → Type 0) (g : Goal) → GoalFits h v Γ B Q g → GoalFits h v Γ B Q (plain_goal g)
  goal_fits_plain h v Γ B Q (Atomic t) x = x
  goal_fits_plain h v Γ B Q Cut x = x
  goal_fits_plain h v Γ B Q (Either gs hs) x = (fits_plain h v Γ B Q gs x.0, fits_plain h v Γ B Q hs x.1)
  goal_fits_plain h v Γ B Q (Exists T gs) x = (x.0, fits_plain h v (T ∷ Γ) (false ∷ B) (Rattle.lp_gen.specs.inner.BodyLaw.one_more Q) gs x.1)
  goal_fits_plain h v Γ B Q (Forall T gs) x = (x.0, fits_plain h v (T ∷ Γ) (true ∷ B) (Rattle.lp_gen.specs.inner.BodyLaw.one_more Q) gs x.1)
  goal_fits_plain h v Γ B Q (Assume w cs gs) x = (x.0, fits_plain h v Γ B Q gs x.1)
  goal_fits_plain h v Γ B Q (Not w gs) x = fits_plain h v Γ B Q gs x

  fits_plain : (h : Home) (v : ℕ) (Γ : List Ty) (B : List Bool) (Q : ℕ → Type 0) (gs : Goals) → GoalsFit h v Γ B Q gs → GoalsFit h v Γ B Q (plain_goals gs)
  fits_plain h v Γ B Q no_goals x = tt
  fits_plain h v Γ B Q (goals g gs) x = (goal_fits_plain h v Γ B Q g x.0, fits_plain h v Γ B Q gs x.1)

mutual
  depth_plain_goal : (g : Goal) → goal_depth (plain_goal g) ≡ goal_depth g
  depth_plain_goal (Atomic t) = refl
  depth_plain_goal Cut = refl
  depth_plain_goal (Either gs hs) = λ i. suc (max (depth_plain gs i) (depth_plain hs i))
  depth_plain_goal (Exists T gs) = depth_plain gs
  depth_plain_goal (Forall T gs) = ap suc (depth_plain gs)
  depth_plain_goal (Assume w cs gs) = ap (λ n. suc (max (clauses_depth cs) n)) (depth_plain gs)
  depth_plain_goal (Not w gs) = ap suc (depth_plain gs)

  depth_plain : (gs : Goals) → goals_depth (plain_goals gs) ≡ goals_depth gs
  depth_plain no_goals = refl
  depth_plain (goals g gs) = λ i. max (depth_plain_goal g i) (depth_plain gs i)

pub body_run : (P : Around → (records levels : List ℕ) → Clauses → Type 0) (K : ℕ → List Ty → Ty) (h : Home) (later : Later) (vars : ℕ) →
    ((a : Around) (ns ls : List ℕ) (cs : Clauses) → P a ns ls cs → AreLater h vars (length ls) ns) → TellClauses h later vars P → slice_get h.records h.number ≡ Some h.self →
    (n n' k k' q q' : ℕ) (σ : ℕ → Term) (Γ : List Ty) (B : List Bool) (a : Around) (Q : ℕ → Type 0) (s : State) (gs : Goals) (is : List Instr) →
    GoalsCode P K vars a n n' k k' q q' (plain_goals gs) is →
    IsInside h is → IsAround h K vars n k q σ Γ B a Q s → GoalsFit h vars Γ B Q gs → n' ≤ h.self.types → k' ≤ h.self.registers → goals_depth gs ≤ nesting_limit → s.goals ≡ no_goals → s.frames ≡ [] →
    (u : State) × (said : Goals) × (run h later s (is ++ on.Proceed ∷ []) ≡ Done (ended_state u said)) × (bare_goals said ≡ said_goals σ a 0 gs) × (u.head_types ≡ s.head_types)
    × (u.head_arguments ≡ s.head_arguments) × ((r : ℕ) (b : Built) → r < k → held s.now.terms r ≡ Some b → held u.now.terms r ≡ Some b)
body_run P K h later vars records told self n n' k k' q q' σ Γ B a Q s gs is code inside x fit few low nest none closed =
    let shallow = depth_plain gs in
    let flat = ap depth closed in
    let zero_deep : depth [] ≡ 0 = refl in
    let w = goals_say P K h later vars records told self n n' k k' q q' σ Γ B a Q s (plain_goals gs) is code inside x (fits_plain h vars Γ B Q gs fit)
    few low (omega (arith, nest, shallow, flat, zero_deep))
    (ap (list_any (λ (f : Frame). ends_before (s.place + sum_by length_of is) f.block)) closed) in (
      w.state,
      w.said,
      body_ends h later vars n n' k k' s w.state is w.said w.more w.says none closed,
      w.bare ∙ ap (map_goals suc (with_variables σ a) same_type 0) (bare_plain gs),
      w.says.head_types_stay,
      w.says.arguments_stay,
      w.says.terms_keep,
    )
