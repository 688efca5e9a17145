-- The code of a body whose steps are those of goals stands for these goals.
use Rattle.std.proofs.Common.{◌≡◌, ◌∙◌, ◌<◌, ◌+◌, ◌-◌, ◌^◌, ℕ, List, [], ◌++◌, length, Some, ap, refl, sym, subst}
use Rattle.std.proofs.lemmas.List.{append-nil}
use Rattle.indexmap.specs.IndexMap.{IndexMap}
use Rattle.lp_calculus.specs.Types.{Ty}
use Rattle.lp_model.specs.Flat.{Goal, Goals, Clauses, Atomic, Cut, Either, Exists, Forall, Assume, Not, no_goals, goals}
use Rattle.lp_code.specs.declared.instruction.Instr.{Instr}
use Rattle.lp_code.specs.Written.{nothing_written}
use Rattle.lp_gen.specs.declared.emitter.Emitter.{Emitter}
use Rattle.lp_gen.specs.declared.environment.Environment.{Environment}
use Rattle.lp_gen.specs.declared.environment.Variable.{Variable}
use Rattle.lp_gen.specs.declared.plan.Step.{Step}
use Rattle.lp_gen.specs.declared.tables.Tables.{Tables}
use Rattle.lp_gen.specs.Steps.{Around}
use Rattle.lp_gen.specs.inner.Listing.{around_of}
use Rattle.lp_gen.specs.inner.TermLaw.{AreSet}
use Rattle.lp_gen.specs.inner.Bodies.{new_level, bare_goal, bare_goals}
use Rattle.lp_gen.specs.inner.GoalCode.{GoalsCode}
use Rattle.lp_gen.specs.inner.OpenGoals.{walked, advance_all, goals_steps, plain_goal, plain_goals, EndsGoals, Mark, Start, Closes}
use Rattle.lp_gen.specs.inner.BodyCode.{Suppositions, HoldStarts, AssumedBy, steps_of, next_all, AreNext, start_at, StepsWritten}
use Rattle.lp_gen.proofs.StepsTaken.{goals_as, block_closes}
use Rattle.lp_gen.proofs.StepsWalked.{goals_walk}

-- what is written in goals is left out twice

mutual
  bare_plain_goal : (g : Goal) → bare_goal (plain_goal g) ≡ bare_goal g
  bare_plain_goal (Atomic t) = refl
  bare_plain_goal Cut = refl
  bare_plain_goal (Either gs hs) = λ i. Either (bare_plain gs i) (bare_plain hs i)
  bare_plain_goal (Exists T gs) = ap (Exists T) (bare_plain gs)
  bare_plain_goal (Forall T gs) = ap (Forall T) (bare_plain gs)
  bare_plain_goal (Assume w cs gs) = ap (Assume nothing_written (Rattle.lp_gen.specs.inner.Bodies.bare_clauses cs)) (bare_plain gs)
  bare_plain_goal (Not w gs) = ap (Not nothing_written) (bare_plain gs)

  pub bare_plain : (gs : Goals) → bare_goals (plain_goals gs) ≡ bare_goals gs
  bare_plain no_goals = refl
  bare_plain (goals g gs) = λ i. goals (bare_plain_goal g i) (bare_plain gs i)

-- no block is open at the end
all_closed : (P : Around → (records levels : List ℕ) → Clauses → Type 0) (K : ℕ → List Ty → Ty) (v : ℕ) (z : Start) (gs : Goals) (a : Around) (n k q : ℕ) (code : List Instr) (ms : List Mark) →
    Closes P K v z (walked gs []) a n k q code ms → (last : List Instr) × GoalsCode P K v z.around z.types n z.terms k z.next q gs last × (code ≡ z.code ++ last)
all_closed P K v z gs a n k q code ms x =
    let o = x.opens in (
      x.last,
      goals_as P K v x.around z.around x.types z.types n n x.terms z.terms k k x.next z.next q q gs x.last o.0 o.1 refl o.2 refl o.3 refl x.goals_are,
      x.code_is ∙ ap (λ l. l ++ x.last) o.4,
    )

pub body_coded : {S : Type 0} (t : Tables) (K : ℕ → List Ty → Ty) (e e' : Emitter) (env env' : Environment) (xs xs' : List (IndexMap ℕ Variable S))
    (steps : List Step) (cl : Suppositions) (q f : ℕ) (gs : Goals) → StepsWritten t K e e' env env' xs xs' steps →
    HoldStarts t.bank.now xs' f cl → steps_of t.bank.now cl steps ≡ goals_steps gs → EndsGoals gs → AreNext t q (f + length xs) steps → AreSet
    (around_of t.bank.now env) → new_level (around_of t.bank.now env) + length steps < 2 ^ 64 - 1 →
    (last : List Instr) × GoalsCode (AssumedBy t cl) K t.type_vars (around_of t.bank.now env) e.types e'.types e.registers e'.registers q (next_all t q steps) (plain_goals gs) last
    × (e'.code.items ≡ e.code.items ++ last)
body_coded t K e e' env env' xs xs' steps cl q f gs x kept is ends next set short =
    let b = t.bank.now in
    let w = goals_walk gs (walked no_goals []) ends in
    let adv : advance_all (steps_of b cl steps) (walked no_goals []) ≡ Some w.state = ap (λ l. advance_all l (walked no_goals [])) (is ∙ sym (append-nil (goals_steps gs))) ∙ w.runs [] in
    let y = x cl q f w.state kept next set short adv in
    let z = start_at (around_of b env) e q in
    let c = block_closes (AssumedBy t cl) K t.type_vars z w.state (around_of b env') e'.types e'.registers (next_all t q steps) e'.code.items y.0 y.1 in
    all_closed (AssumedBy t cl) K t.type_vars z (plain_goals gs) (around_of b env') e'.types e'.registers (next_all t q steps) e'.code.items y.0
    (subst (λ u. Closes (AssumedBy t cl) K t.type_vars z u (around_of b env') e'.types e'.registers (next_all t q steps) e'.code.items y.0) w.closes c)
