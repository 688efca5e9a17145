use Rattle.std.proofs.Common.{◌≡◌, ℕ, drop}
use Rattle.std.specs.Prelude.{◌||◌, is_some}
use Rattle.std.specs.Ordering.{nat_cmp}
use Rattle.std.specs.BTreeMap.{get}
use Rattle.lp_code.specs.Steps.{is_made}
use Rattle.lp_verify.specs.inner.Known.{type_made_in}
use Rattle.lp_verify.proofs.record.types_made.Given as goal

abbrev pub invariant-loop-instr : goal.invariant-loop-instr
invariant-loop-instr l = (d : ℕ) → (is_some (get nat_cmp l.made d) || is_made type_made_in (drop l.instr-index l.fn.code) d) ≡ is_made type_made_in l.fn.code d
