use Rattle.std.proofs.Common.{◌≡◌, ◌≤◌, ◌++◌, reverse, drop, map, length}
use Rattle.lp_lambda.specs.declared.walk.Position.TheVariants.{Inside}
use Rattle.lp_lambda.specs.declared.walk.Task.TheVariants.{Visit}
use Rattle.lp_lambda.proofs.walk.Walk.visit_all.Given as goal

abbrev pub invariant-arguments : goal.invariant-arguments
invariant-arguments l = record {
  within : l.left ≤ length l.arguments;
  scope : l.self.scope ≡ l.initial.self.scope;
  items : l.self.work.items ≡ l.initial.self.work.items ++ reverse (map (Visit Inside) (drop l.left l.arguments));
}

abbrev pub decreases-arguments : goal.decreases-arguments
decreases-arguments l = l.left
