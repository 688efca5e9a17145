use Rattle.lp_term.specs.Memo.{AreMade}
use Rattle.lp_term.specs.Nodes.{Extends, Nodes}
use Rattle.lp_term.specs.Same.{same_map}
use Rattle.lp_build.specs.Compiled.{AreExported, ArePaired, IsObjectConstant}
use Rattle.lp_build.proofs.objects.constants_of.Given as goal

abbrev pub invariant-loop-at : goal.invariant-loop-at
invariant-loop-at l = record {
  made : AreMade same_map l.signature.bank l.bank l.changed;
  constants : (later : Nodes) → Extends l.bank later → ArePaired (IsObjectConstant l.signature later) l.entries l.at l.constants.items;
  exported : AreExported (λ c. c.exported) l.exported l.constants.items;
}
