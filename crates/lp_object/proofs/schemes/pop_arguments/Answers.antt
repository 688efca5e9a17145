use Rattle.std.proofs.Common.{◌-◌, length, ap, drop, reverse, ◌∙◌, arith}
use Rattle.std.proofs.lemmas.List.{take_all, length-drop}
use Rattle.lp_object.proofs.Stacked.{two_parts}
use Rattle.lp_object.proofs.schemes.pop_arguments.Goals as goal

pub returns-clause-taken : goal.returns-clause-taken
returns-clause-taken c =
    let start = c.saturating_sub-start.result in
    let all = c.deref.result.now in
    c.reverse.ensures.items ∙ ap reverse (c.in_ok-arguments.ensures.items ∙ take_all (length all - start) (drop start all) (omega (arith, length-drop start all)) ∙ ap (drop start) c.deref.ensures.value)
    ∙ (two_parts c.args.stack.now.items c.args.count c.saturating_sub-start.result (omega (arith, c.saturating_sub-start.ensures, c.len.ensures, c.from.ensures, c.args.stack.now.ok))).0

pub returns-clause-left : goal.returns-clause-left
returns-clause-left c =
    ap reverse c.truncate.ensures.items ∙ (two_parts c.args.stack.now.items c.args.count c.saturating_sub-start.result (omega (arith, c.saturating_sub-start.ensures, c.len.ensures, c.from.ensures, c.args.stack.now.ok))).1
