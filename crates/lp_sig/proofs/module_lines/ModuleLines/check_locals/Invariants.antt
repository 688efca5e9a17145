use Rattle.std.proofs.Common.{◌≡◌, take, false}
use Rattle.std.specs.Prelude.{All}
use Rattle.lp_sig.specs.Pieces.{spelled}
use Rattle.lp_sig.specs.ModuleFaults.{exports_constant}
use Rattle.lp_sig.proofs.module_lines.ModuleLines.check_locals.Given as goal

abbrev pub invariant-loop-name : goal.invariant-loop-name
invariant-loop-name l = All (λ s. exports_constant l.self.own.now (spelled l.self.source.now s) ≡ false) (take l.name-index l.names)
