use Rattle.std.proofs.Common.{◌∙◌, ap, [], ◌∷◌}
use Rattle.lp_calculus.specs.Term.{app, atom, constant}
use Rattle.lp_module.proofs.sentences.put_pi.Goals as goal

pub returns-clause-tree : goal.returns-clause-tree
returns-clause-tree c =
    let h = c.in_ok-head.ensures.tree ∙ ap (λ T. atom (constant 4 (T ∷ []))) (c.in_ok-inner.ensures.kept.same_types c.args.at.0 c.requires.at) in
    let b = c.in_ok-head.ensures.kept.same_terms c.in_ok-inner.inner.0 c.in_ok-inner.ensures.within ∙ c.in_ok-inner.ensures.tree in
    c.in_ok-made.ensures.tree ∙ (λ i. app (h i) (b i))
