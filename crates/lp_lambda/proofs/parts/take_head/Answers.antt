use Rattle.std.proofs.Common.{map, ◌∙◌, sym}
use Rattle.lp_term.specs.Nodes.{tree}
use Rattle.lp_model.proofs.Connectives.{is_applied}
use Rattle.lp_lambda.specs.declared.walk.Binder.TheVariants.{Universal}
use Rattle.lp_lambda.proofs.Puts.{all_put, body_before}
use Rattle.lp_lambda.proofs.Taking.{index_taken, sigma_taken, constant_taken, abstraction_taken, application_taken, other_taken}
use Rattle.lp_lambda.proofs.parts.take_head.Goals as goal

pub returns-in_ok-keeps-in-Index : goal.returns-in_ok-keeps-in-Index
returns-in_ok-keeps-in-Index c =
    let b = c.args.bank.now in
    index_taken b c.args.walk.now _ (map (λ t. tree b t.0) c.args.arguments.now) (tree b c.args.head.0) c.in-Index.index _ c.in-Index.ensures.tree c.in_ok-keeps-in-Index.ensures

pub returns-then-is_sigma : goal.returns-then-is_sigma
returns-then-is_sigma c =
    let b = c.args.bank.now in
    sigma_taken b c.args.walk.now c.args.walk.now (map (λ t. tree b t.0) c.args.arguments.now) (tree b c.args.head.0) c.in-Const.constant _ c.in-Const.ensures.tree (sym c.is_sigma.ensures ∙ c.if-is_sigma.true)

pub returns-in_ok-visit_all-in-Const : goal.returns-in_ok-visit_all-in-Const
returns-in_ok-visit_all-in-Const c =
    let b = c.args.bank.now in
    let w = c.args.walk.now in
    let e = c.in_ok-visit_all-in-Const.ensures in
    constant_taken b w c.visit_all.new.self (map (λ t. tree b t.0) c.args.arguments.now) (all_put b w c.visit_all.new.self c.args.arguments.now c.requires.tasks e.scope e.work c.requires.arguments)
    (tree b c.args.head.0) c.in-Const.constant _ c.in-Const.ensures.tree (sym c.is_sigma.ensures ∙ c.if-is_sigma.false)

pub returns-in_ok-visit_under-in-Abs : goal.returns-in_ok-visit_under-in-Abs
returns-in_ok-visit_under-in-Abs c =
    let b = c.args.bank.now in
    let w = c.args.walk.now in
    let e = c.in_ok-visit_all-in-Abs.ensures in
    abstraction_taken b w c.visit_under.new.self (map (λ t. tree b t.0) c.args.arguments.now) (tree b c.args.head.0) (tree b c.in-Abs.body.0) c.in-Abs.ensures.tree
    (body_before b w c.visit_all-in-Abs.new.self c.args.arguments.now c.requires.tasks e.scope e.work c.requires.arguments c.visit_under.new.self Universal (tree b c.in-Abs.body.0) (λ a. c.in_ok-visit_under-in-Abs.ensures b a c.in-Abs.ensures.within))

pub returns-in-App : goal.returns-in-App
returns-in-App c =
    let b = c.args.bank.now in
    application_taken b c.args.walk.now c.args.walk.now (map (λ t. tree b t.0) c.args.arguments.now) (tree b c.args.head.0) (is_applied b (tree b c.args.head.0) (tree b c.in-App.field-0.0) c.in-App.field-1.now c.in-App.ensures.older.2 c.in-App.ensures.tree)

pub returns-in_ok-visit_all-in_default : goal.returns-in_ok-visit_all-in_default
returns-in_ok-visit_all-in_default c =
    let b = c.args.bank.now in
    let w = c.args.walk.now in
    let e = c.in_ok-visit_all-in_default.ensures in
    other_taken b w c.visit_all-in_default.new.self (map (λ t. tree b t.0) c.args.arguments.now) (all_put b w c.visit_all-in_default.new.self c.args.arguments.now c.requires.tasks e.scope e.work c.requires.arguments)
    b c.term_node.result (tree b c.args.head.0) c.term_node.ensures.tree c.in_default.not-Index c.in_default.not-Const c.in_default.not-Abs c.in_default.not-App
