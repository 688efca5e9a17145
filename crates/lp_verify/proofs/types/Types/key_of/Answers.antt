use Rattle.std.proofs.Common.{◌∙◌, ap, refl, sym}
use Rattle.lp_lemmas.proofs.Lists.{map_composed}
use Rattle.lp_term.specs.Node.{con_node}
use Rattle.lp_term.specs.declared.node.TypeId.{TypeId}
use Rattle.lp_verify.specs.inner.FirstNumbers.{first_of, renumbered}
use Rattle.lp_verify.proofs.types.Types.key_of.Goals as goal

pub returns-in_ok-first_numbers-in-Con : goal.returns-in_ok-first_numbers-in-Con
returns-in_ok-first_numbers-in-Con c =
    let x = c.args.self.now in
    ap (con_node c.in-Con.kind) (c.in_ok-first_numbers-in-Con.ensures ∙ sym (map_composed (λ (t : TypeId). t.0) (first_of x) (λ (t : TypeId). first_of x t.0) (λ t. refl) c.in-Con.parts.now)) ∙ ap (renumbered (first_of x)) c.in-Con.ensures.node
