use Rattle.std.proofs.Common.{refl}
use Rattle.std.specs.HashMap.{values}
use Rattle.lp_term.specs.Nodes.{tree}
use Rattle.lp_term.proofs.Openings.{leaf_form, recalled_form, waits, part_within, found, went_in}
use Rattle.lp_term.proofs.form.step.Goals as goal

pub returns-then-not-has_more_nodes-clause-next : goal.returns-then-not-has_more_nodes-clause-next
returns-then-not-has_more_nodes-clause-next c = λ root a.
    let b = c.args.bank.now in
    let q = c.in-Some.ensures.items in
    found b root c.args.waiting.now.items c.args.top c.in_ok-next.next c.pop.new.self c.in-Some.part q a c.in_ok-next.ensures.id c.in_ok-next.ensures.left
    (c.in_ok-next.ensures.opened b (waits b c.args.top c.pop.new.self c.in-Some.part q c.requires.top) (part_within b c.args.top c.pop.new.self c.in-Some.part q c.requires.top)
    (leaf_form (tree b c.in-Some.part.0) (c.if-not-has_more_nodes.ensures.no_more refl)))

pub returns-in-Some-recall_form-clause-next : goal.returns-in-Some-recall_form-clause-next
returns-in-Some-recall_form-clause-next c = λ root a.
    let b = c.args.bank.now in
    let q = c.in-Some.ensures.items in
    let k = recalled_form b (values c.args.forms.now) c.requires.forms c.in-Some.part c.in-Some-recall_form.made c.in-Some-recall_form.ensures in
    found b root c.args.waiting.now.items c.args.top c.in_ok-next-2.next c.pop.new.self c.in-Some.part q a c.in_ok-next-2.ensures.id c.in_ok-next-2.ensures.left
    (c.in_ok-next-2.ensures.opened b (waits b c.args.top c.pop.new.self c.in-Some.part q c.requires.top) k.0 k.1)

pub returns-clause-next : goal.returns-clause-next
returns-clause-next c = λ root a.
    went_in c.args.bank.now root c.args.waiting.now.items c.push.new.self.items c.args.top c.in_ok-inner.inner c.pop.new.self c.in-Some.part c.in-Some.ensures.items c.requires.top a
    c.in_ok-push.ensures.items c.in_ok-inner.ensures.id c.in_ok-inner.ensures.opened c.in_ok-inner.ensures.work
