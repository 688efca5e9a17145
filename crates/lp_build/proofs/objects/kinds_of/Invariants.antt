use Rattle.lp_build.specs.Compiled.{AreExported, ArePaired, IsObjectKind}
use Rattle.lp_build.proofs.objects.kinds_of.Given as goal

abbrev pub invariant-loop-at : goal.invariant-loop-at
invariant-loop-at l = record {
  kinds : ArePaired IsObjectKind l.entries l.at l.kinds.items;
  exported : AreExported (λ k. k.exported) l.exported l.kinds.items;
}
