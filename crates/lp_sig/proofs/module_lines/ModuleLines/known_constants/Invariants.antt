use Rattle.std.proofs.Common.{◌≡◌, ℕ, List, take, true}
use Rattle.std.specs.Prelude.{All}
use Rattle.lp_sig.specs.Pieces.{spelled}
use Rattle.lp_sig.specs.Said.{is_among}
use Rattle.lp_sig.specs.Sights.{HasKeys}
use Rattle.lp_sig.specs.ModuleFaults.{exports_constant, IsLocal}
use Rattle.lp_sig.proofs.module_lines.ModuleLines.known_constants.Given as goal

abbrev pub invariant-loop-name : goal.invariant-loop-name
invariant-loop-name l = (known : List (List ℕ)) → HasKeys l.self.said.now.constants known → All
    (IsLocal (exports_constant l.self.own.now) l.self.source.now (λ s. is_among (spelled l.self.source.now s) known ≡ true))
    (take l.name-index l.names)
