use Rattle.std.proofs.Common.{ℕ, ◌+◌, ◌-◌}
use Rattle.lp_sig.specs.Words.{HasArguments}
use Rattle.lp_sig.proofs.expand.has_many_arguments.Given as goal

abbrev pub invariant-arguments : goal.invariant-arguments
invariant-arguments l = record {
  so : (m : ℕ) → HasArguments l.raw.nodes.items l.at m → HasArguments l.raw.nodes.items l.raw.root (m + l.count);
  back : (m : ℕ) → HasArguments l.raw.nodes.items l.raw.root (m + l.count) → HasArguments l.raw.nodes.items l.at m;
}

abbrev pub decreases-arguments : goal.decreases-arguments
decreases-arguments l = 256 - l.count
