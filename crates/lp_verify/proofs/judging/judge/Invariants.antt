use Rattle.std.proofs.Common.{◌≡◌, drop}
use Rattle.lp_verify.specs.Judged.{AreShort}
use Rattle.lp_verify.specs.Scheme.{tables_in}
use Rattle.lp_verify.specs.inner.At.{FaultsGoOn, AreNamedBefore}
use Rattle.lp_verify.specs.inner.Alls.{AllsAre}
use Rattle.lp_verify.proofs.judging.judge.Given as goal

abbrev pub invariant-loop-record : goal.invariant-loop-record
invariant-loop-record l =
    (l.number ≡ l.record-index)
    × (AreShort l.fn.records → FaultsGoOn (tables_in l.fn.tables) l.fn.records l.shared l.record-index (drop l.record-index l.fn.records))
    × AreNamedBefore l.record-index l.fn.records l.shared.named
    × AllsAre l.fn.records l.record-index l.alls.records.items
