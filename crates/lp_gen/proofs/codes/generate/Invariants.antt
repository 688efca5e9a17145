use Rattle.std.proofs.Common.{◌≡◌, ◌<◌, ◌^◌, length}
use Rattle.std.specs.Prelude.{All, sum_by, take}
use Rattle.lp_model.specs.Flattened.{clauses_of}
use Rattle.lp_code.specs.Length.{length_of, AllFit}
use Rattle.lp_gen.specs.Limits.{clauses_records, ClausesFull}
use Rattle.lp_gen.specs.inner.Groups.{AreGroups}
use Rattle.lp_gen.proofs.codes.generate.Given as goal

abbrev pub invariant-loop-at : goal.invariant-loop-at
invariant-loop-at l =
    AllFit l.records.items × All (λ r. sum_by length_of r.code.items < 2 ^ 32) l.records.items × AreGroups l.bank l.constants 0 (take l.at l.clauses) l.records.items
    × (length l.records.items ≡ clauses_records (clauses_of l.bank (take l.at l.clauses))) × (ClausesFull l.bank l.constants (take l.at l.clauses) → ⊥)
