use Rattle.std.proofs.Common.{◌+◌, [], ◌∷◌, length, map}
use Rattle.lp_sig.specs.Walking.{Moves, waiting}
use Rattle.lp_sig.specs.declared.walk.Step.TheVariants.{Enter}
use Rattle.lp_sig.proofs.walk.Ways.steps_from.Given as goal

abbrev pub invariant-steps : goal.invariant-steps
invariant-steps l = Moves (map (λ out. out.items) l.self.ways.items) l.fn.marks.items (Enter l.root ∷ []) [] l.marks.items l.work.items l.steps.items

abbrev pub decreases-steps : goal.decreases-steps
decreases-steps l = length l.work.items + waiting l.marks.items (map (λ out. out.items) l.self.ways.items)
