-- The search of a negated goal inside of another one.
use Rattle.std.specs.Prelude.{◌≡◌, ℕ, ◌+◌, ◌≤◌, false, [], ◌∷◌, length, Option, Some}
use Rattle.lp_model.specs.declared.ending.Ending.TheVariants.{Steps, OpenNot, Deep}
use Rattle.lp_model.specs.Branch.{Answer, Task, Go}
use Rattle.lp_model.specs.Pair.{Closing}
use Rattle.lp_model.specs.Search.{has_no_pairs}
use Rattle.lp_model.specs.Skeleton.{View, Denies}
use Rattle.lp_pattern.specs.Stripping.{IsShut}
use Rattle.lp_pattern.specs.Under.{IsReading}
use Rattle.lp_plain.specs.declared.choice.Denial.{Denial}
use Rattle.lp_plain.specs.declared.choice.Untried.{Untried}
use Rattle.lp_plain.specs.declared.machine.Machine.{Machine}
use Rattle.lp_plain.specs.declared.openness.Openness.{Openness}
use Rattle.lp_plain.specs.declared.openness.Openness.TheVariants.{Closed, Open}
use Rattle.lp_plain.specs.declared.openness.Standing.{Standing}
use Rattle.lp_plain.specs.declared.outcome.Turn.{Turn}
use Rattle.lp_plain.specs.declared.outcome.Turn.TheVariants.{On, Ended}
use Rattle.lp_plain.specs.Entries.{Around, IsBranchAt}
use Rattle.lp_plain.specs.Keeping.{HasOneMore}
use Rattle.lp_plain.specs.Stacks.{HaveTasks, IsMarkOf}
use Rattle.lp_plain.specs.Standings.{OfFree, OfStanding}

-- what the search returns to behind a negated goal
abbrev pub denial : Machine → (behind : Option ℕ) → Denial
denial m behind = record { behind = behind; around = m.denied; lost = m.counts.lost }

-- the search of a negated goal has begun: one step, counted on; its alternatives stand above the one that leads back, and no cut has removed one of them
pub record Begins (old new : Machine) (behind : Option ℕ) : Type 0 where
  pub step : new.counts.steps ≡ old.counts.steps + 1
  pub more : HasOneMore old.choices.items new.choices.items (Untried.Denied (denial old behind))
  pub inside : new.denied ≡ Some (length old.choices.items)
  pub lost : new.counts.lost ≡ false

-- the goals, with the clauses that are assumed around them, are found closed, open or too deep: under each closing that the bindings read
abbrev pub AreFound : Machine → Standing → Openness → Type 0
AreFound m goals o = (c : Closing) → IsReading m.bank m.bindings c → IsShut c → OfStanding m.table.frees.items m.standings.items (OfFree m.bank c m.scopes) (length m.standings.items) o goals

-- how the search goes on at a negated goal: by what is found of its goals, once a step may be taken
abbrev pub Takes : Turn → (goals : Standing) → (old new : Machine) → (behind : Option ℕ) → Type 0
Takes On goals old new behind = AreFound old goals Closed × Begins old new behind
Takes (Ended OpenNot) goals old new behind = AreFound old goals Open × (new.counts.steps ≡ old.counts.steps + 1)
Takes (Ended Deep) goals old new behind = AreFound old goals Openness.Deep × (new.counts.steps ≡ old.counts.steps + 1)
Takes (Ended Steps) goals old new behind = old.counts.limit ≤ old.counts.steps
Takes turn goals old new behind = ⊥

-- the view of a negated goal whose search begins: its task is at work, above no alternative of its own, in which a cut keeps none, and its answers are final
-- where no pair is residual
abbrev pub IsDenied : (new : Machine) → Around → View Task Answer → Type 0
IsDenied new a (Denies (Go d) f (Go b ∷ [])) = IsBranchAt new a d × (new.branch.pairs.items ≡ []) × (d.pairs ≡ []) × (f ≡ has_no_pairs) × HaveTasks
    new [] × IsMarkOf new [] (length new.choices.items) 0
IsDenied new a v = ⊥
