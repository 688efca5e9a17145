use Rattle.std.proofs.Common.{◌≡◌, List, ◌++◌, map, length}
use Rattle.lp_model.specs.declared.clause.Clause.{Clause}
use Rattle.lp_model.specs.Flattened.{clauses_of}
use Rattle.lp_normal.specs.Within.{highest, clause_term_bound}
use Rattle.lp_plain.specs.Tables.{AreRules}
use Rattle.lp_plain.specs.inner.Collecting.{clauses_weight}
use Rattle.lp_plain.specs.inner.Tabling.{IsPut, Stays}
use Rattle.lp_plain.proofs.table.Table.add_clauses.Given as goal

abbrev pub invariant-clauses : goal.invariant-clauses
invariant-clauses l =
    (l.self.goals ≡ l.fn.self.goals) ×
    ((done : List Clause) × (l.fn.clauses ≡ done ++ l.rest) ×
    IsPut l.bank l.fn.self l.self l.fn.waiting.items l.waiting.items (clauses_weight (clauses_of l.bank done)) (λ c t. AreRules l.bank c t (length l.fn.self.rules.items) (length l.self.rules.items) (clauses_of l.bank done)) ×
    Stays (length l.bank.terms) (highest (map clause_term_bound done)) l.fn.self l.self l.fn.waiting.items l.waiting.items)

abbrev pub decreases-clauses : goal.decreases-clauses
decreases-clauses l = length l.rest
