use Rattle.std.proofs.Common.{[], map, take}
use Rattle.lp_term.specs.Memo.{AreMade}
use Rattle.lp_infer.specs.Texts.{entry_scheme}
use Rattle.lp_module.specs.Making.{MakesNames}
use Rattle.lp_module.specs.Program.{map_of, constant_as, scheme_in, exported_among}
use Rattle.lp_module.specs.inner.Assembling.{copy_of, AddsNames}
use Rattle.lp_module.proofs.copies.Making.add_global_constants.Given as goal

abbrev pub invariant-loop-at : goal.invariant-loop-at
invariant-loop-at l =
    MakesNames l.fn.self l.self × AreMade (map_of (copy_of 0 l.root)) l.root.module.now.signature.bank l.self.bank l.types ×
    AddsNames l.fn.self l.self [] (map (constant_as 0) (exported_among 32 l.root.module.now.hidden_constants.items (take l.at l.root.module.now.signature.constants.items)))
    (map (λ e. scheme_in (copy_of 0 l.root) (entry_scheme l.root.module.now.signature.bank e)) (exported_among 32 l.root.module.now.hidden_constants.items (take l.at l.root.module.now.signature.constants.items)))
