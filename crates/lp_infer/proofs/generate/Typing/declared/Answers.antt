use Rattle.std.proofs.Common.{◌∙◌, refl, sym, ap, subst}
use Rattle.std.proofs.lemmas.Result.{on_ok_weaker}
use Rattle.lp_calculus.specs.Types.{instance}
use Rattle.lp_calculus.specs.Typing.{Scheme, type_at}
use Rattle.lp_term.specs.Nodes.{type_tree}
use Rattle.lp_term.specs.Within.{AreTypesOf}
use Rattle.lp_infer.specs.Copies.{trees_of}
use Rattle.lp_infer.proofs.Acting.{constant_made}
use Rattle.lp_infer.proofs.generate.Typing.declared.Goals as goal

pub returns : goal.returns
returns c =
    let scheme : Scheme = record { count = c.args.count; body = type_tree c.args.signature.now.bank c.args.scheme.0 } in
    let known = subst (AreTypesOf c.new_variables.new.self.types) (sym c.as_slice.ensures.value) c.in_ok-arguments.ensures.known in
    on_ok_weaker c.constant.result (λ h number.
    h c.args.self.now number scheme
    (constant_made c.args.self.now c.new_variables.new.self _ _ c.in_ok-arguments.arguments.items c.as_slice-2.result.now c.in_ok-id.id scheme _ c.in_ok-arguments.ensures c.as_slice-2.ensures.value refl c.instance.ensures.kept
    refl refl refl refl refl (c.in_ok-id.ensures.tree known)
    (ap (λ ids. instance (type_at (trees_of c.new_variables.new.self.types ids)) (type_tree c.bank.result.now c.args.scheme.0)) (c.as_slice.ensures.value ∙ sym c.as_slice-2.ensures.value) ∙
    ap (λ b. instance (type_at (trees_of c.new_variables.new.self.types c.as_slice-2.result.now)) (type_tree b c.args.scheme.0)) c.bank.ensures))) c.constant.ensures
