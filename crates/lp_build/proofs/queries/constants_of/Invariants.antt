use Rattle.std.proofs.Common.{List, map, take}
use Rattle.std.specs.List.{AllZip}
use Rattle.lp_sig.specs.Rows.{constant_row}
use Rattle.lp_module.specs.declared.copies.GlobalName.{GlobalName}
use Rattle.lp_build.specs.Queried.{IsConstantOf}
use Rattle.lp_build.specs.inner.Placed.{HasGlobals}
use Rattle.lp_build.proofs.queries.constants_of.Given as goal

abbrev pub invariant-loop-at : goal.invariant-loop-at
invariant-loop-at l = (names : List GlobalName) → HasGlobals l.places names → AllZip (IsConstantOf names) (map constant_row (take l.at l.entries)) (map constant_row l.constants.items)
