use Rattle.lp_term.specs.Nodes.{tree}
use Rattle.std.proofs.Common.{map, ◌≡◌, ◌∙◌, sym, ap, subst}
use Rattle.std.specs.Option.{IfSome}
use Rattle.lp_term.specs.Walk.{sizes}
use Rattle.lp_model.specs.Shown.{entry_in}
use Rattle.lp_show.specs.Named.{all}
use Rattle.lp_show.specs.Operators.{of_entry, of_head, operands_size}
use Rattle.lp_show.specs.Scene.{scene_of, pieces}
use Rattle.lp_show.proofs.Stacks.{no_application}
use Rattle.lp_show.proofs.write.operator_of.Goals as goal

pub returns-in-Const-clause-form : goal.returns-in-Const-clause-form
returns-in-Const-clause-form c = λ d.
    let s = scene_of c.args.context.now in
    let e = entry_in (all c.args.context.now.names.now) c.in-Const.constant in
    ap (λ t. of_head (all c.args.context.now.names.now) t (pieces s d c.args.spine.now.arguments.items)) (sym c.in-Const.ensures.tree) ∙
    ap (λ ids. of_entry e (pieces s d ids)) (sym c.as_slice.ensures.value) ∙ c.operator_in.ensures.form e s d c.entry.ensures

pub returns-in-Const-clause-size : goal.returns-in-Const-clause-size
returns-in-Const-clause-size c =
    let s = scene_of c.args.context.now in
    subst (λ ids. IfSome c.operator_in.result (λ o. operands_size s o.operands ≡ sizes c.args.context.now.bank.now ids)) c.as_slice.ensures.value (c.operator_in.ensures.size s)

pub returns-in-App : goal.returns-in-App
returns-in-App c = absurd (no_application (tree c.args.context.now.bank.now) (map (λ t. t.0) c.in-App.field-1.now) (tree c.args.context.now.bank.now c.in-App.field-0.0) (tree c.args.context.now.bank.now c.args.spine.now.head.0) c.in-App.ensures.older.2 c.in-App.ensures.tree c.requires.spine.alone)
