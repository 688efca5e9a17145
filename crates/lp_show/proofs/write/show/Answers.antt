use Rattle.std.proofs.Common.{◌∙◌, refl, sym, ap, arith}
use Rattle.std.specs.Prelude.{unwrap_or}
use Rattle.lp_term.specs.Nodes.{tree}
use Rattle.lp_term.specs.Walk.{size, trees}
use Rattle.lp_model.specs.Shown.{applied}
use Rattle.lp_show.specs.Places.{placed}
use Rattle.lp_show.specs.Scene.{head_text, piece_of, pieces, scene_of}
use Rattle.lp_show.proofs.Pieces.{head_light, size_some, size_spine, spine_form, trees_nil}
use Rattle.lp_show.proofs.Writings.{writes_as}
use Rattle.lp_show.proofs.write.show.Goals as goal

pub returns-in-Some-operator_of-clause-written : goal.returns-in-Some-operator_of-clause-written
returns-in-Some-operator_of-clause-written c =
    let s = scene_of c.args.context.now in
    let b = c.args.context.now.bank.now in
    let d = c.args.depth in
    let spine = c.in_ok-spine.spine in
    let h = tree b spine.head.0 in
    let form = spine_form s d h (trees b spine.arguments.items) c.in_ok-spine.ensures.0.alone (λ e. c.in_default.ensures.no refl (trees_nil b spine.arguments.items e)) in
    writes_as s c.args.writer.now.out.items c.show_operated.new.out.items c.args.writer.now.tasks.items c.show_operated.new.tasks.items _ _ _ _
    (c.in_ok-show_operated.ensures s c.in-Some-operator_of.ensures.within c.requires.tasks)
    (ap (placed c.args.place) (sym (ap (piece_of s d) c.in_ok-spine.ensures.1 ∙ form ∙ ap (λ o. unwrap_or o (applied (head_text s d h) (pieces s d spine.arguments.items))) (c.in-Some-operator_of.ensures.form d))))
    (omega (arith, ap size c.in_ok-spine.ensures.1, size_spine b h spine.arguments.items, c.in-Some-operator_of.ensures.size, c.in-Some-operator_of.ensures.some, size_some h))

pub returns-clause-written : goal.returns-clause-written
returns-clause-written c =
    let s = scene_of c.args.context.now in
    let b = c.args.context.now.bank.now in
    let d = c.args.depth in
    let spine = c.in_ok-spine.spine in
    let h = tree b spine.head.0 in
    let form = spine_form s d h (trees b spine.arguments.items) c.in_ok-spine.ensures.0.alone (λ e. c.in_default.ensures.no refl (trees_nil b spine.arguments.items e)) in
    writes_as s c.args.writer.now.out.items c.show_applied.new.writer.out.items c.args.writer.now.tasks.items c.show_applied.new.writer.tasks.items _ _ _ _
    c.in_ok-show_applied.ensures.written
    (ap (placed c.args.place) (sym (ap (piece_of s d) c.in_ok-spine.ensures.1 ∙ form ∙ ap (λ o. unwrap_or o (applied (head_text s d h) (pieces s d spine.arguments.items))) (c.in_default-operator_of.ensures.form d))))
    (omega (arith, ap size c.in_ok-spine.ensures.1, size_spine b h spine.arguments.items, head_light h c.in_ok-spine.ensures.0.alone))
