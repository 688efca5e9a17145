use Rattle.std.proofs.Common.{◌≡◌, drop}
use Rattle.lp_verify.specs.Named.{was_named}
use Rattle.lp_verify.specs.inner.Handed.{IsNamedSoFar}
use Rattle.lp_verify.specs.inner.Told.{are_fine}
use Rattle.lp_verify.proofs.record.Work.name.Given as goal

abbrev pub invariant-loop-number : goal.invariant-loop-number
invariant-loop-number l =
    let left = drop l.number-index l.fn.records in
    let home = l.fn.self.home in
    (are_fine home.number home.records.now (was_named l.named) l.fn.types l.fn.terms left ≡ are_fine home.number home.records.now (was_named l.fn.named) l.fn.types l.fn.terms l.fn.records)
    × IsNamedSoFar l.fn.records left l.fn.place l.fn.named l.named
