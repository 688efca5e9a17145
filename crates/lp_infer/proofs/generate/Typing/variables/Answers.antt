use Rattle.std.proofs.Common.{◌∙◌, ◌++◌, refl, ap}
use Rattle.lp_infer.proofs.Acting.{variables_made}
use Rattle.lp_infer.proofs.generate.Typing.variables.Goals as goal

pub returns : goal.returns
returns c =
    variables_made c.args.self.now c.new_variables.new.self _ c.args.count c.in_ok-vars.vars.items c.reverse.new.self.items c.in_ok-vars.ensures c.reverse.ensures.items refl
    (c.in_ok-extend_from_slice.ensures.items ∙ ap (λ l. c.new_variables.new.self.context.items ++ l) c.as_slice.ensures.value)
    (c.in_ok-extend_from_slice-2.ensures.items ∙ ap (λ l. c.new_variables.new.self.wanted.items ++ l) c.as_slice-2.ensures.value) refl refl refl
