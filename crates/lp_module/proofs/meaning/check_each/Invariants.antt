use Rattle.std.proofs.Common.{ℕ, Option, take}
use Rattle.std.specs.Prelude.{All}
use Rattle.lp_calculus.specs.Typing.{Scheme}
use Rattle.lp_term.specs.Memo.{AreMade}
use Rattle.lp_term.specs.Same.{same_map}
use Rattle.lp_module.specs.inner.Judging.{AreHeads, AreMeasured}
use Rattle.lp_module.specs.inner.Typed.{IsFormedIn}
use Rattle.lp_module.proofs.meaning.check_each.Given as goal

abbrev pub invariant-loop-at : goal.invariant-loop-at
invariant-loop-at l = AreMeasured l.scratch l.measures × AreMade same_map l.bank l.scratch l.copied × ((d : ℕ → Option Scheme) → AreHeads d l.heads → All (IsFormedIn d l.bank) (take l.at l.sentences))
