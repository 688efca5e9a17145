-- PROCEED behind the goals of a body: the record is run to its end.
use Rattle.std.proofs.Common.{◌≡◌, ◌∙◌, ◌<◌, ℕ, List, [], ◌∷◌, ◌++◌, false, Some, None, ap, refl, arith}
use Rattle.std.specs.Prelude.{◌||◌, if◌then◌else◌, is_some, option_map}
use Rattle.std.specs.List.{list_any}
use Rattle.std.proofs.lemmas.Bool.{ne_eqb}
use Rattle.lp_model.specs.Flat.{Goals, no_goals, add_goals}
use Rattle.lp_code.specs.declared.instruction.Instr.{Instr}
use Rattle.lp_code.specs.declared.instruction.Instr.TheVariants as on
use Rattle.lp_code.specs.declared.rule.Rule.{Rule}
use Rattle.lp_code.specs.declared.rule.Rule.TheVariants as rule
use Rattle.lp_code.specs.States.{Captured, State, Home, depth, innermost_block, Ended, end_variables}
use Rattle.lp_code.specs.Steps.{Later, settled, passed, effect}
use Rattle.lp_code.specs.Rules.{is_passed}
use Rattle.lp_code.specs.Denote.{Done, rules, first_broken, broken_by_record, broken_by, unless_broken, run}
use Rattle.lp_gen.specs.inner.Bodies.{behind_code, GoalsSaid}
use Rattle.lp_gen.proofs.Denoting.{or_none, steps}
use Rattle.lp_gen.proofs.BlockEnds.{sigma_passes}

proceed_rules : (h : Home) (u : State) → list_any (is_passed u.place) u.frames ≡ false → innermost_block u.frames ≡ None → (r : Rule) → broken_by h u [] on.Proceed r ≡ false
proceed_rules h u room none rule.Register = refl
proceed_rules h u room none rule.Unset = refl
proceed_rules h u room none rule.Set = refl
proceed_rules h u room none rule.Constant = refl
proceed_rules h u room none rule.Typing = refl
proceed_rules h u room none rule.Index = refl
proceed_rules h u room none rule.Term = refl
proceed_rules h u room none rule.Order = refl
proceed_rules h u room none rule.Head = refl
proceed_rules h u room none rule.Block = or_none (list_any (is_passed u.place) u.frames) (is_some (innermost_block u.frames) || false) room (ap (λ o. is_some o || false) none)
proceed_rules h u room none rule.Clause = refl
proceed_rules h u room none rule.Key = refl

-- no instruction is left
pub ran_out : (h : Home) (later : Later) (s : State) → 0 < s.place → run h later s [] ≡ Done s
ran_out h later s low =
    ap (λ o. unless_broken o s.place (Done s)) (ap (λ t. if t then first_broken (broken_by_record h s) rules else None) (ne_eqb s.place 0 (λ z. absurd (omega (arith, z, low)))))

-- the state at the end
abbrev pub ended_state : State → Goals → State
ended_state u gs = passed on.Proceed (record u { goals = gs; frames = [] })

pub body_ends : (h : Home) (later : Later) (vars n m k l : ℕ) (s u : State) (is : List Instr) (gs : Goals) (more : List (ℕ × Captured)) → GoalsSaid h
    later vars n m k l s is gs more u → s.goals ≡ no_goals → s.frames ≡ [] →
    run h later s (is ++ on.Proceed ∷ []) ≡ Done (ended_state u gs)
body_ends h later vars n m k l s u is gs more x none closed =
    let deep : depth u.frames ≡ 0 = x.closes.deep ∙ ap depth closed in
    let ends : (◌≡◌ {A = Ended} (end_variables h.number u.goals u.frames) (record { goals = gs; frames = [] })) = x.closes.same ∙ (λ i. end_variables h.number (add_goals (none i) gs) (closed i)) in
    let room : list_any (is_passed u.place) u.frames ≡ false = x.closes.sides (is_passed u.place) (sigma_passes u.place) ∙ ap (list_any (is_passed u.place)) closed in
    let inner : innermost_block u.frames ≡ None = x.closes.innermost ∙ ap innermost_block closed in
    let t = ended_state u gs in
    let does : option_map (λ (z : State). settled h.number (depth z.frames) (passed on.Proceed z)) (effect h later u on.Proceed) ≡ Some t =
    (λ i. Some (settled h.number (depth (ends i).frames) (passed on.Proceed (record u { goals = (ends i).goals; frames = (ends i).frames })))) in
    x.runs on.Proceed [] ∙ ap (λ (z : State). run h later z (on.Proceed ∷ [])) (behind is deep)
    ∙ steps h later u t on.Proceed [] x.types_stand.sound (proceed_rules h u room inner) does ∙ ran_out h later t (omega arith)
  where
    behind : (is : List Instr) → depth u.frames ≡ 0 → behind_code h is u ≡ u
    behind [] deep = refl
    behind (i ∷ is) deep = ap (λ n. settled h.number n u) deep
