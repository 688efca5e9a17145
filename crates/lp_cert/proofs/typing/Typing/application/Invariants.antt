use Rattle.std.proofs.Common.{◌≡◌, ◌-◌, ◌++◌, length, map, drop}
use Rattle.lp_term.specs.Nodes.{Nodes, tree}
use Rattle.lp_cert.specs.inner.Derives.{IsTaskIn, argument_steps, steps_of}
use Rattle.std.specs.Prelude.{All}
use Rattle.lp_cert.specs.declared.typing.Task.TheVariants as task
use Rattle.lp_cert.proofs.typing.Typing.application.Given as goal

abbrev pub invariant-loop-at : goal.invariant-loop-at
invariant-loop-at l = record {
  constants : l.self.constants ≡ l.fn.self.constants;
  eigens : l.self.eigens ≡ l.fn.self.eigens;
  context : l.self.context ≡ l.fn.self.context;
  stack : l.self.stack ≡ l.fn.self.stack;
  pairs : l.self.pairs ≡ l.fn.self.pairs;
  next : l.self.next ≡ l.fn.self.next;
  tasks : (now : Nodes) → All (IsTaskIn now) l.fn.self.tasks.items → All (λ t. IsTaskIn now (task.Visit t)) l.fn.arguments → All (IsTaskIn now) l.self.tasks.items;
  steps : (b : Nodes) → steps_of b l.self.tasks.items ≡ argument_steps (map (λ t. tree b t.0) (drop (length l.fn.arguments - l.at) l.fn.arguments)) ++ steps_of b l.fn.self.tasks.items;
}
