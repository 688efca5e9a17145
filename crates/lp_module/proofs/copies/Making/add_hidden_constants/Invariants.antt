use Rattle.std.proofs.Common.{[], map}
use Rattle.lp_term.specs.Memo.{AreMade}
use Rattle.lp_infer.specs.Texts.{entry_scheme}
use Rattle.lp_module.specs.Making.{MakesNames}
use Rattle.lp_module.specs.Program.{map_of, constant_as, scheme_in, hidden_among}
use Rattle.lp_module.specs.inner.Assembling.{copy_of, AddsNames}
use Rattle.lp_module.proofs.copies.Making.add_hidden_constants.Given as goal

abbrev pub invariant-loop-number : goal.invariant-loop-number
invariant-loop-number l =
    MakesNames l.fn.self l.self × AreMade (map_of (copy_of 0 l.copy)) l.copy.module.now.signature.bank l.self.bank l.types ×
    AddsNames l.fn.self l.self [] (map (constant_as 1) (hidden_among 32 l.yielded l.copy.module.now.signature.constants.items))
    (map (λ e. scheme_in (copy_of 0 l.copy) (entry_scheme l.copy.module.now.signature.bank e)) (hidden_among 32 l.yielded l.copy.module.now.signature.constants.items))
