use Rattle.std.proofs.Common.{List, Option}
use Rattle.lp_calculus.specs.Types.{Ty}
use Rattle.lp_code.specs.Symbolic.{Built}
use Rattle.lp_verify.specs.declared.types.Types.{Types}
use Rattle.lp_verify.specs.inner.Indices.{ListsGrow, store, StandFor}
use Rattle.lp_verify.specs.inner.Handed.{SameTerm, Alike}
use Rattle.lp_verify.proofs.TermsMade.{IsJoinedSoFar}
use Rattle.lp_verify.proofs.typing.all_joined.Given as goal

abbrev pub invariant-loop-other : goal.invariant-loop-other
invariant-loop-other l =
    ListsGrow l.fn.lists l.lists
    × ((x : Types) (ts : List (Option Ty)) (bs : List Built) → StandFor (store x l.fn.lists) l.fn.first ts → Alike (SameTerm (store x l.fn.lists)) l.fn.others bs → IsJoinedSoFar (store x l.lists) l.loose l.other-index ts bs)
