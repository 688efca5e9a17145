use Rattle.std.proofs.Common.{◌∙◌, ◌^◌, ◌<◌, refl, sym, subst}
use Rattle.lp_infer.specs.Texts.{variable_index}
use Rattle.lp_infer.specs.declared.lookup.Step.TheVariants as step
use Rattle.lp_infer.proofs.Leaves.{leaf_pushed, index_marked}
use Rattle.lp_infer.proofs.lookup.Lookup.push_variable.Goals as goal

pub returns : goal.returns
returns c = λ names H sig text.
    leaf_pushed sig text _ c.args.self.now _ (step.Variable c.depth.result c.args.number) (λ count. variable_index count names c.args.number) c.in_ok-push.ensures.items (λ count. refl)
    (λ count τ. index_marked names c.depth.result c.args.number count (c.depth.ensures ∙ H.depth)) (λ n. subst (λ d. d < 2 ^ 63) (sym c.depth.ensures) c.requires) refl refl refl refl
