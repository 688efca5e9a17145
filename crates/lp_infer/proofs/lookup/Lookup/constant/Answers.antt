use Rattle.std.proofs.Common.{◌∙◌, refl, sym, ap, option_map}
use Rattle.lp_infer.specs.Typing.{raw_constant}
use Rattle.lp_infer.specs.Texts.{read_constant, entry_scheme}
use Rattle.lp_infer.specs.declared.lookup.Step.TheVariants as step
use Rattle.lp_infer.proofs.Leaves.{leaf_pushed, declared_scheme}
use Rattle.lp_infer.proofs.lookup.Lookup.constant.Goals as goal

pub returns : goal.returns
returns c = λ text.
    leaf_pushed c.args.signature.now text _ c.args.self.now _ (step.Declared c.args.number c.in-Some.entry.now.type_vars c.in-Some.entry.now.scheme) (λ count. raw_constant c.args.number (entry_scheme c.args.signature.now.bank c.in-Some.entry.now)) c.in_ok-push.ensures.items
    (λ count.
    ap (λ s. read_constant c.args.number s c.args.self.now.variables.places.items)
    (declared_scheme c.args.signature.now c.args.name.now c.args.number c.in-Some.entry.now c.if-number-lt32.false (sym c.declared.ensures ∙ ap (option_map (λ e. e.now)) c.in-Some.is)))
    (λ count τ. refl) (λ n. tt) refl refl refl refl
