use Rattle.std.proofs.Common.{ℕ, List, take}
use Rattle.std.specs.Prelude.{All}
use Rattle.lp_module.specs.Order.{Way, Leads}
use Rattle.lp_module.specs.Searching.{IsMarked, IsFound, FindsMore}
use Rattle.lp_module.proofs.circles.find_all.Given as goal

abbrev pub invariant-loop-at : goal.invariant-loop-at
invariant-loop-at l =
    FindsMore l.fn.marks.items l.fn.found.items l.marks.items l.found.items ×
    All (λ w. IsMarked l.marks.items w.1) (take l.at l.out.items) ×
    ((ways : List (List Way)) (from : ℕ) → All (λ w. Leads ways from w.1) l.out.items → IsFound ways from l.fn.marks.items l.fn.found.items → IsFound ways from l.marks.items l.found.items)
