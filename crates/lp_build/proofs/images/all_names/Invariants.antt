use Rattle.lp_build.specs.Compiled.{ArePaired, HasNamesOf}
use Rattle.lp_build.proofs.images.all_names.Given as goal

abbrev pub invariant-loop-at : goal.invariant-loop-at
invariant-loop-at l = ArePaired HasNamesOf l.modules.items l.at l.objects.items
