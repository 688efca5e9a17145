use Rattle.std.specs.HashMap.{values}
use Rattle.lp_term.proofs.Openings.{kept_form, forms_stay, went_out}
use Rattle.lp_term.proofs.form.go_out.Goals as goal

pub returns-in_default-clause-forms : goal.returns-in_default-clause-forms
returns-in_default-clause-forms c =
    c.in_ok-keep_form.ensures c.close.new.bank (forms_stay c.args.bank.now c.close.new.bank c.close.ensures.kept (values c.args.forms.now) c.requires.forms)
    (kept_form c.args.bank.now c.close.new.bank c.close.ensures.kept c.args.top.now.id c.in_ok-made.made c.requires.top.id c.in_ok-made.ensures.within c.in_ok-made.ensures.form)

pub returns-clause-forms : goal.returns-clause-forms
returns-clause-forms c =
    c.in_ok-keep_form.ensures c.close.new.bank (forms_stay c.args.bank.now c.close.new.bank c.close.ensures.kept (values c.args.forms.now) c.requires.forms)
    (kept_form c.args.bank.now c.close.new.bank c.close.ensures.kept c.args.top.now.id c.in_ok-made.made c.requires.top.id c.in_ok-made.ensures.within c.in_ok-made.ensures.form)

pub returns-clause-next : goal.returns-clause-next
returns-clause-next c = λ root a.
    went_out c.args.bank.now c.close.new.bank c.close.ensures.kept root c.args.waiting.now.items c.pop.new.self.items c.args.top.now c.in-Some.outer c.in_ok-next.next c.in_ok-made.made c.in-Some.ensures.items a
    c.in_ok-made.ensures.within c.in_ok-made.ensures.form c.requires.top.id c.in_ok-next.ensures.id c.in_ok-next.ensures.left c.in_ok-next.ensures.opened
