use Rattle.std.proofs.Common.{◌∙◌, refl, sym, ap, subst}
use Rattle.std.proofs.lemmas.Result.{on_ok_weaker}
use Rattle.lp_calculus.specs.Types.{instance}
use Rattle.lp_calculus.specs.Typing.{type_at}
use Rattle.lp_standard.specs.Schemes.{standard_schemes, entry}
use Rattle.lp_infer.specs.Postfix.{scheme_or}
use Rattle.lp_term.specs.Within.{AreTypesOf}
use Rattle.lp_infer.specs.Copies.{trees_of}
use Rattle.lp_infer.proofs.Acting.{constant_made}
use Rattle.lp_infer.proofs.generate.Typing.standard.Goals as goal

pub returns : goal.returns
returns c =
    let scheme = scheme_or (entry standard_schemes c.args.number) in
    let known = subst (AreTypesOf c.new_variables.new.self.types) (sym c.as_slice.ensures.value) c.in_ok-arguments.ensures.known in
    on_ok_weaker c.constant.result (λ h.
    h c.args.self.now c.args.number scheme
    (constant_made c.args.self.now c.new_variables.new.self _ _ c.in_ok-arguments.arguments.items c.as_slice-2.result.now c.in_ok-id.id scheme _ c.in_ok-arguments.ensures c.as_slice-2.ensures.value c.standard_variables.ensures c.standard_instance.ensures.kept
    refl refl refl refl refl (c.in_ok-id.ensures.tree known)
    (ap (λ ids. instance (type_at (trees_of c.new_variables.new.self.types ids)) scheme.body) (c.as_slice.ensures.value ∙ sym c.as_slice-2.ensures.value)))) c.constant.ensures
