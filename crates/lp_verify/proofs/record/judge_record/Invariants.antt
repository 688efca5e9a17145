use Rattle.std.proofs.Common.{◌≡◌, ◌<◌, ℕ, List, Some, drop}
use Rattle.std.specs.Prelude.{◌^◌, slice_get}
use Rattle.lp_code.specs.States.{Captured}
use Rattle.lp_verify.specs.Judged.{bytes_of}
use Rattle.lp_verify.specs.Scheme.{tables_in}
use Rattle.lp_verify.specs.inner.At.{home_in, AreNamedBefore, HandedIn, KeepsTypes, NamesLeft, GoesOn}
use Rattle.lp_verify.specs.inner.Low.{HandedLow}
use Rattle.lp_verify.specs.inner.Alls.{AllsAre}
use Rattle.lp_verify.proofs.record.judge_record.Given as goal

abbrev pub invariant-loop-instr : goal.invariant-loop-instr
invariant-loop-instr l =
    let home = l.fn.home in
    let code = home.record.now.code.items in
    let left = drop l.instr-index code in
    (home_in l.work.home ≡ home_in home)
    × ((before : List (ℕ × Captured)) → slice_get home.records.now home.number ≡ Some home.record.now → HandedIn l.fn.shared home.records.now before →
    HandedLow before → AllsAre home.records.now home.number l.fn.alls.records.items → KeepsTypes (tables_in home.tables.now) l.fn.shared →
    AreNamedBefore home.number home.records.now l.fn.shared.named → bytes_of code < 2 ^ 32
    → GoesOn (home_in home) before code left l.work l.shared l.whole)
    × NamesLeft code left l.fn.shared.named l.shared.named
