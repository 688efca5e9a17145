use Rattle.lp_term.specs.Nodes.{Extends}
use Rattle.lp_pattern.proofs.Pushing.{Agreed}
use Rattle.lp_pattern.proofs.rules.put_agreeing.Given as goal

abbrev pub invariant-loop-place : goal.invariant-loop-place
invariant-loop-place l = record {
  kept : Extends l.fn.bank l.bank;
  agreed : Agreed l.bank l.arguments.items l.ones l.others l.place;
}
