use Rattle.std.proofs.Common.{◌∙◌, sym, arith}
use Rattle.lp_term.specs.Nodes.{tree}
use Rattle.lp_show.specs.Scene.{head_text, pieces, scene_of}
use Rattle.lp_show.proofs.Writings.{adds_both, applied_placed, written_between}
use Rattle.lp_show.proofs.write.show_applied.Goals as goal

pub put_head-requires-clause-tasks : goal.put_head-requires-clause-tasks
put_head-requires-clause-tasks c = let s = scene_of c.args.context.now in (c.in_ok-put_arguments.ensures s c.requires.spine.arguments).within ((c.in_ok-open.ensures.tasks s).within c.requires.tasks)

pub returns-clause-written : goal.returns-clause-written
returns-clause-written c =
    let s = scene_of c.args.context.now in
    let h = head_text s c.args.depth (tree c.args.context.now.bank.now c.args.spine.now.head.0) in
    let ps = pieces s c.args.depth c.args.spine.now.arguments.items in
    let both = adds_both s c.args.writer.now.tasks.items c.open.new.tasks.items c.put_arguments.new.tasks.items _ _ _ _ (c.in_ok-open.ensures.tasks s) (c.in_ok-put_arguments.ensures s c.requires.spine.arguments) in
    written_between s c.args.writer.now.out.items c.open.new.out.items c.put_head.new.writer.out.items c.args.writer.now.tasks.items c.put_arguments.new.tasks.items c.put_head.new.writer.tasks.items _ h _ _ _ _ _
    c.in_ok-open.ensures.text both c.in_ok-put_head.ensures.written
    (applied_placed c.args.place c.top_of.result c.wants_brackets.result h ps (c.top_of.ensures h s c.args.depth) c.wants_brackets.ensures) (omega arith)
