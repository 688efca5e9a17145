use Rattle.std.proofs.Common.{◌≡◌, ◌∙◌, false, refl, subst, ap, map}
use Rattle.lp_term.specs.Nodes.{tree}
use Rattle.lp_model.specs.Flatten.{is_clause_head}
use Rattle.lp_module.proofs.Measuring.{heads_same}
use Rattle.lp_module.proofs.Parting.{applied, some_of}
use Rattle.lp_module.proofs.judge.is_clause_head.Goals as goal

pub returns-in-Index : goal.returns-in-Index
returns-in-Index c = λ d around h a. c.is_goal_variable.ensures around a ∙ ap (is_clause_head d around) (c.in-Index.ensures.tree ∙ c.head_of.ensures.tree ∙ heads_same (tree c.args.bank.now c.args.task.formula.0))

pub returns-in-Const : goal.returns-in-Const
returns-in-Const c = λ d around h a. c.can_head.ensures ∙ h c.in-Const.constant ∙ ap (is_clause_head d around) (c.in-Const.ensures.tree ∙ c.head_of.ensures.tree ∙ heads_same (tree c.args.bank.now c.args.task.formula.0))

pub returns-in-App : goal.returns-in-App
returns-in-App c = λ d around h a.
    subst (λ t. false ≡ is_clause_head d around t) (c.in-App.ensures.tree ∙ c.head_of.ensures.tree ∙ heads_same (tree c.args.bank.now c.args.task.formula.0))
    (applied (λ t. false ≡ is_clause_head d around t) (λ t u. refl) (tree c.args.bank.now c.in-App.field-0.0) _ (some_of (tree c.args.bank.now) (map (λ t. t.0) c.in-App.field-1.now) c.in-App.ensures.within.2))
