use Rattle.std.proofs.Common.{◌≡◌, List, ◌++◌, map, length}
use Rattle.lp_model.specs.declared.clause.Goal.{Goal}
use Rattle.lp_model.specs.Flattened.{goals_of}
use Rattle.lp_normal.specs.Within.{highest, term_bound}
use Rattle.lp_plain.specs.Tables.{AreGoals}
use Rattle.lp_plain.specs.inner.Collecting.{goals_weight}
use Rattle.lp_plain.specs.inner.Tabling.{IsPut, Stays}
use Rattle.lp_plain.proofs.table.Table.add_list.Given as goal

abbrev pub invariant-goals : goal.invariant-goals
invariant-goals l =
    (done : List Goal) × (l.fn.goals ≡ done ++ l.rest) ×
    IsPut l.bank l.fn.self l.self l.fn.waiting.items l.waiting.items (goals_weight (goals_of l.bank done)) (λ c t. AreGoals l.bank c t (length l.fn.self.goals.items) (length l.self.goals.items) (goals_of l.bank done)) ×
    Stays (length l.bank.terms) (highest (map term_bound done)) l.fn.self l.self l.fn.waiting.items l.waiting.items

abbrev pub decreases-goals : goal.decreases-goals
decreases-goals l = length l.rest
