use Rattle.std.proofs.Common.{◌≤◌, length}
use Rattle.lp_verify.specs.inner.FirstNumbers.{AreFound, SameBank, FirstsStay}
use Rattle.lp_verify.proofs.types.Types.find_firsts.Given as goal

abbrev pub invariant-loop-number : goal.invariant-loop-number
invariant-loop-number l =
    let n = length l.fn.self.firsts.items in
    (n ≤ l.number) × SameBank l.fn.self l.self × (AreFound n l.fn.self → AreFound l.number l.self × FirstsStay n l.fn.self l.self)
