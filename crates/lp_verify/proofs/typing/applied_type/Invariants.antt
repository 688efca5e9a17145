use Rattle.std.proofs.Common.{List}
use Rattle.lp_calculus.specs.Types.{Ty}
use Rattle.lp_verify.specs.inner.FirstNumbers.{IsType, AreTypes}
use Rattle.lp_verify.proofs.TermsMade.{ofs, IsAppliedTo}
use Rattle.lp_verify.proofs.typing.applied_type.Given as goal

abbrev pub invariant-loop-argument : goal.invariant-loop-argument
invariant-loop-argument l = (T : Ty) (Us : List Ty) → IsType l.fn.types l.fn.function T → AreTypes l.fn.types (ofs l.fn.arguments) Us → IsAppliedTo l.fn.types T Us l.rest l.argument-index
