-- What `next` tells, as the definition's search tells it.
use Rattle.std.specs.Prelude.{◌≡◌, ℕ, List, [], ◌∷◌, map, Some}
use Rattle.lp_calculus.specs.Convert.{steps}
use Rattle.lp_calculus.specs.Term.{Term}
use Rattle.lp_term.specs.Nodes.{tree}
use Rattle.lp_model.specs.Branch as definition
use Rattle.lp_model.specs.Events as definition_events
use Rattle.lp_model.specs.Look.{weak_step}
use Rattle.lp_model.specs.Pair.{Pair}
use Rattle.lp_model.specs.Readings.{pair_of}
use Rattle.lp_model.specs.declared.answer.Answer.{Answer}
use Rattle.lp_model.specs.declared.answer.Event.{Event}
use Rattle.lp_model.specs.declared.answer.Event.TheVariants as told

-- some steps of reduction at its head lead from the one term to the other
abbrev pub IsReduct : Term → Term → Type 0
IsReduct t u = (k : ℕ) × (steps weak_step k t ≡ Some u)

-- pairs one by one, at the same level, but for such steps
abbrev pub ArePairReducts : List Pair → List Pair → Type 0
ArePairReducts [] [] = Unit {0}
ArePairReducts [] (q ∷ qs) = ⊥
ArePairReducts (p ∷ ps) [] = ⊥
ArePairReducts (p ∷ ps) (q ∷ qs) = (q.level ≡ p.level) × IsReduct p.left q.left × IsReduct p.right q.right × ArePairReducts ps qs

-- the answer is the definition's: its values, and its residual pairs but for reduction
pub record IsAnswerOf (x : definition.Answer) (a : Answer) : Type 0 where
  pub values : map (λ t. tree a.bank t.0) a.values.items ≡ x.values
  pub pairs : ArePairReducts x.pairs (map (pair_of a.bank) a.pairs.items)

-- so is the event
abbrev pub IsEventOf : definition_events.Event definition.Answer → Event → Type 0
IsEventOf (definition_events.Gave x) (told.Answer a) = IsAnswerOf x a
IsEventOf (definition_events.Gave x) (told.Ended f) = ⊥
IsEventOf (definition_events.Over e) (told.Answer a) = ⊥
IsEventOf (definition_events.Over e) (told.Ended f) = f ≡ e
