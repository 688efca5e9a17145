use Rattle.std.proofs.Common.{◌≡◌, ℕ, ◌+◌, ◌≤◌, List, length}
use Rattle.std.specs.Prelude.{filter}
use Rattle.lp_plain.specs.Candidates.{IsChain, nexts, passes}
use Rattle.lp_plain.specs.inner.Remaining.{program_rank}
use Rattle.lp_plain.proofs.candidates.program_from.Given as goal

abbrev pub invariant-rules : goal.invariant-rules
invariant-rules l = ((js : List ℕ) → IsChain (nexts l.rules.items) l.fn.from js → (ks : List ℕ) × IsChain (nexts l.rules.items) l.at ks × (filter (passes l.bank l.rules.items l.key) js ≡ filter (passes l.bank l.rules.items l.key) ks) × (length ks + l.passed ≡ length js)) × (program_rank l.at ≤ program_rank l.fn.from)
