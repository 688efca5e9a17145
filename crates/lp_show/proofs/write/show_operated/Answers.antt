use Rattle.std.proofs.Common.{◌∙◌, sym, arith}
use Rattle.lp_show.specs.Operators.{operation}
use Rattle.lp_show.proofs.Writings.{enclosed, written_between}
use Rattle.lp_show.proofs.write.show_operated.Goals as goal

pub returns : goal.returns
returns c = λ s w a.
    let text = (operation s c.args.depth c.args.operator).text in
    written_between s c.args.out.now.items c.open.new.out.items c.put_operation.new.out.items c.args.tasks.now.items c.open.new.tasks.items c.put_operation.new.tasks.items _ text _ _ _ _ _
    c.in_ok-open.ensures.text (c.in_ok-open.ensures.tasks s) (c.in_ok-put_operation.ensures s w ((c.in_ok-open.ensures.tasks s).within a))
    (enclosed c.wants_brackets.result text ∙ sym (c.wants_brackets.ensures text)) (omega arith)
