use Rattle.std.proofs.Common.{◌≡◌, ◌≤◌, replicate}
use Rattle.lp_bytes.specs.Writing.{text_of, more}
use Rattle.lp_cert.proofs.terms.write_applications.Given as goal

abbrev pub invariant-loop : goal.invariant-loop
invariant-loop l = (l.counter ≤ l.count) × (text_of l.writer ≡ more (text_of l.fn.writer) (replicate l.counter 7))
