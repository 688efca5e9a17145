use Rattle.std.proofs.Common.{◌≡◌, ◌∙◌, false, refl, subst, map}
use Rattle.lp_term.specs.Nodes.{tree}
use Rattle.lp_model.specs.Flatten.{is_goal_head}
use Rattle.lp_module.proofs.Measuring.{heads_same}
use Rattle.lp_module.proofs.Parting.{applied, some_of}
use Rattle.lp_module.proofs.judge.is_goal_head.Goals as goal

pub returns-in-App : goal.returns-in-App
returns-in-App c =
    subst (λ t. false ≡ is_goal_head t) (c.in-App.ensures.tree ∙ c.head_of.ensures.tree ∙ heads_same (tree c.args.bank.now c.args.formula.0))
    (applied (λ t. false ≡ is_goal_head t) (λ t u. refl) (tree c.args.bank.now c.in-App.field-0.0) _ (some_of (tree c.args.bank.now) (map (λ t. t.0) c.in-App.field-1.now) c.in-App.ensures.within.2))
