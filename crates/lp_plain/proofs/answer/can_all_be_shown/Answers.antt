use Rattle.std.proofs.Common.{◌<◌, length, refl, sym, subst, arith, add-one, take}
use Rattle.std.specs.Prelude.{All}
use Rattle.std.proofs.lemmas.List.{take_all}
use Rattle.std.proofs.lemmas.List.Elements.{All-nil}
use Rattle.lp_lemmas.proofs.Lists.{get_read}
use Rattle.lp_model.specs.Whole.{CanBeShown}
use Rattle.lp_plain.proofs.AnswerTerms.{one_taken}
use Rattle.lp_plain.proofs.Within.{all_at}
use Rattle.lp_plain.proofs.answer.can_all_be_shown.Goals as goal

pub each-init : goal.each-init
each-init c = All-nil (CanBeShown c.args.bank.now)

pub each-preserved : goal.each-preserved
each-preserved c =
    let xs = c.args.ids.now.items in
    let lt : c.each.at < length xs = omega (arith, c.each-test.true, c.len-at-end.ensures, c.args.ids.now.ok) in
    let x = c.index.result.now in
    subst (λ i. All (CanBeShown c.args.bank.now) (take i xs)) (sym (add-one c.each.at))
    (one_taken (CanBeShown c.args.bank.now) xs c.each.at x (get_read xs xs c.each.at x x refl lt c.index.ensures) c.each.invariant (c.in_ok-shown.ensures.shown c.if-not-shown.false))

pub returns-clause-shown : goal.returns-clause-shown
returns-clause-shown c = λ e.
    let xs = c.args.ids.now.items in
    subst (All (CanBeShown c.args.bank.now)) (take_all c.each.at xs (omega (arith, c.each-test.false, c.len-at-end.ensures, c.args.ids.now.ok))) c.each.invariant

pub returns-clause-hidden : goal.returns-clause-hidden
returns-clause-hidden c = λ e. absurd (cc)

pub returns-then-not-shown-clause-shown : goal.returns-then-not-shown-clause-shown
returns-then-not-shown-clause-shown c = λ e. absurd (cc)

pub returns-then-not-shown-clause-hidden : goal.returns-then-not-shown-clause-hidden
returns-then-not-shown-clause-hidden c = λ e a.
    let xs = c.args.ids.now.items in
    let lt : c.each.at < length xs = omega (arith, c.each-test.true, c.len-at-end.ensures, c.args.ids.now.ok) in
    let x = c.index.result.now in
    c.in_ok-shown.ensures.hidden c.if-not-shown.true (all_at (CanBeShown c.args.bank.now) xs c.each.at x (get_read xs xs c.each.at x x refl lt c.index.ensures) a)
