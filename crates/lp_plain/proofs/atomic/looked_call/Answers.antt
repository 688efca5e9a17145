use Rattle.std.proofs.Common.{None, Some, refl, subst, sym}
use Rattle.lp_term.proofs.Trees.{extends_same}
use Rattle.lp_plain.specs.declared.choice.Call.{Call}
use Rattle.lp_plain.specs.Calling.{IsLookedAs}
use Rattle.lp_plain.specs.HeadLooks.{LooksAt}
use Rattle.lp_plain.proofs.CallEnds.{plain_call}
use Rattle.lp_plain.proofs.atomic.looked_call.Goals as goal

pub returns-in_default-clause-only : goal.returns-in_default-clause-only
returns-in_default-clause-only c = record { bank = extends_same c.args.machine.now.bank; same = refl }

pub returns-in_default-clause-looks : goal.returns-in_default-clause-looks
returns-in_default-clause-looks c =
    let m = c.args.machine.now in
    let call = plain_call c.args.place c.args.goal c.args.head c.args.behind in
    subst (λ o. IsLookedAs m m call o (Some call)) (sym c.in_default.is) refl

pub returns-in_default-looked-clause-only : goal.returns-in_default-looked-clause-only
returns-in_default-looked-clause-only c = c.in_ok-looked.ensures.bank

pub returns-in_default-looked-clause-looks : goal.returns-in_default-looked-clause-looks
returns-in_default-looked-clause-looks c =
    let m = c.args.machine.now in
    let n = c.head_normal.new.machine in
    let call = plain_call c.args.place c.args.goal c.args.head c.args.behind in
    subst (λ o. IsLookedAs m n call o None) (sym c.in-Some.is) (subst (LooksAt m n c.in-Some.arg) c.in_default-looked.is c.in_ok-looked.ensures.looks)

pub returns-clause-only : goal.returns-clause-only
returns-clause-only c = c.in_ok-looked.ensures.bank

pub returns-clause-looks : goal.returns-clause-looks
returns-clause-looks c =
    let m = c.args.machine.now in
    let n = c.head_normal.new.machine in
    let call = plain_call c.args.place c.args.goal c.args.head c.args.behind in
    let made : Call = record { goal = c.args.goal; head = c.args.head; first = Some c.in-Some-looked.form; key = c.key_of-key.result; place = c.args.place; behind = c.args.behind } in
    subst (λ o. IsLookedAs m n call o (Some made)) (sym c.in-Some.is)
    (c.in-Some-looked.form, c.key_of-key.result, refl, subst (LooksAt m n c.in-Some.arg) c.in-Some-looked.is c.in_ok-looked.ensures.looks, c.key_of-key.ensures.key, c.key_of-key.ensures.within)
