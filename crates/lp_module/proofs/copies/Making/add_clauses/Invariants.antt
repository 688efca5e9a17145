use Rattle.std.proofs.Common.{◌≡◌, ◌++◌, [], map, take}
use Rattle.lp_term.specs.Memo.{AreMade}
use Rattle.lp_term.specs.Nodes.{Extends}
use Rattle.lp_model.specs.Readings.{formula_of}
use Rattle.lp_module.specs.Making.{IsSoFar, IsMade}
use Rattle.lp_module.specs.Program.{map_of, in_copy}
use Rattle.lp_module.specs.inner.Assembling.{copy_of, AddsNames}
use Rattle.lp_module.proofs.copies.Making.add_clauses.Given as goal

abbrev pub invariant-loop-at : goal.invariant-loop-at
invariant-loop-at l =
    IsMade l.fn.self l.self × (l.self.next ≡ l.fn.self.next) × Extends l.fn.self.bank l.self.bank × AreMade (map_of (copy_of 0 l.copy)) l.copy.module.now.bank l.self.bank l.terms ×
    (IsSoFar l.fn.self → map (formula_of l.self.bank) l.self.clauses.items ≡ map (formula_of l.fn.self.bank) l.fn.self.clauses.items ++ map (in_copy (copy_of 0 l.copy)) (map (formula_of l.copy.module.now.bank) (take l.at l.copy.module.now.clauses.items))) ×
    AddsNames l.fn.self l.self [] [] []
