use Rattle.std.proofs.Common.{◌≡◌, ◌∙◌, ◌++◌, ◌∷◌, [], ap, refl, arith, w64, to_z, of_z}
use Rattle.std.proofs.lemmas.Int.{to_z-of_z}
use Rattle.lp_infer.specs.Typing.{raw_integer}
use Rattle.lp_infer.specs.declared.lookup.Step.TheVariants as step
use Rattle.lp_infer.proofs.Leaves.{leaf_pushed}
use Rattle.lp_infer.proofs.lookup.Lookup.integer.Goals as goal

pub returns : goal.returns
returns c = λ sig text.
    leaf_pushed sig text _ c.args.self.now _ (step.Integer c.args.value) (λ count. raw_integer c.args.value)
    (c.in_ok-push.ensures.items ∙ ap (λ z. c.args.self.now.steps.items ++ step.Integer z ∷ [])
    (let same : to_z w64 (of_z w64 c.args.value) ≡ c.args.value = grind (arith, to_z-of_z) in same)) (λ count. refl) (λ count τ. refl) (λ n. tt)
    refl refl refl refl
