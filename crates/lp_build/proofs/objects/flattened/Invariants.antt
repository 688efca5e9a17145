use Rattle.std.proofs.Common.{take}
use Rattle.lp_term.specs.Nodes.{Extends}
use Rattle.lp_module.specs.Sentences.{AreWithin}
use Rattle.lp_build.specs.Uncoded.{HaveFewIn}
use Rattle.lp_build.specs.inner.Coded.{AreFlat}
use Rattle.lp_build.proofs.objects.flattened.Given as goal

abbrev pub invariant-loop-formula : goal.invariant-loop-formula
invariant-loop-formula l = record {
  kept : Extends l.fn.bank l.bank;
  flat : AreWithin l.fn.bank l.formulas → AreFlat l.fn.bank l.bank (take l.formula-index l.formulas) l.clauses.items;
  few : AreWithin l.fn.bank l.formulas → HaveFewIn l.fn.bank (take l.formula-index l.formulas);
}
