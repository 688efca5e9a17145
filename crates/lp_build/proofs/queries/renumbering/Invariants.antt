use Rattle.std.proofs.Common.{◌≡◌, ℕ, List, map, take}
use Rattle.std.specs.Prelude.{nat_eq, unwrap_or}
use Rattle.indexmap.specs.IndexMap.{get}
use Rattle.lp_sig.specs.Rows.{kind_row}
use Rattle.lp_module.specs.declared.copies.GlobalName.{GlobalName}
use Rattle.lp_build.specs.Queried.{kind_numbers}
use Rattle.lp_build.specs.inner.Placed.{HasGlobals}
use Rattle.lp_build.proofs.queries.renumbering.Given as goal

abbrev pub invariant-loop-at : goal.invariant-loop-at
invariant-loop-at l = (names : List GlobalName) → HasGlobals l.places names → (k : ℕ) → unwrap_or (get nat_eq l.numbers k) k ≡ kind_numbers names (map kind_row (take l.at l.entries)) k
