use Rattle.std.proofs.Common.{◌≡◌, ◌<◌, ◌≤◌, ◌^◌, ◌-◌, ◌+◌, length, Some}
use Rattle.std.specs.Prelude.{All}
use Rattle.lp_calculus.specs.Convert.{head_step, steps}
use Rattle.lp_term.specs.Nodes.{tree, Extends}
use Rattle.lp_term.specs.Spine.{whole, LooseBelow}
use Rattle.lp_term.proofs.reduce.reduce_spine.Given as goal

abbrev pub invariant-steps : goal.invariant-steps
invariant-steps l = record {
  kept : Extends l.fn.bank l.bank;
  head : l.head.0 < length l.bank.terms;
  args : All (λ t. t.0 < length l.bank.terms) l.args.items;
  depth : l.fn.base + l.depth ≤ 2 ^ 62;
  loose : LooseBelow (2 ^ 32 + l.fn.base) 0 (whole l.bank l.depth l.head l.args.items);
  left : l.left ≤ l.fn.left;
  taken : steps head_step (l.fn.left - l.left) (tree l.fn.bank l.fn.term.0) ≡ Some (whole l.bank l.depth l.head l.args.items);
}

abbrev pub decreases-steps : goal.decreases-steps
decreases-steps l = l.left
