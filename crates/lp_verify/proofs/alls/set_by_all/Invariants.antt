use Rattle.std.proofs.Common.{◌≡◌, ℕ, drop}
use Rattle.std.specs.Prelude.{◌||◌}
use Rattle.std.specs.Ordering.{nat_cmp}
use Rattle.std.specs.BTreeSet.{contains}
use Rattle.lp_code.specs.Denote.{is_set_by_all}
use Rattle.lp_verify.proofs.alls.set_by_all.Given as goal

abbrev pub invariant-loop-instr : goal.invariant-loop-instr
invariant-loop-instr l = (r : ℕ) → (is_set_by_all (drop l.instr-index l.fn.code) r || contains nat_cmp l.set r) ≡ is_set_by_all l.fn.code r
