use Rattle.std.proofs.Common.{suc, ◌<◌, ◌∙◌, ap, length, refl, sym, subst, arith, add-one, map}
use Rattle.std.proofs.lemmas.List.{take_all}
use Rattle.lp_lemmas.proofs.Lists.{get_read}
use Rattle.lp_term.specs.Nodes.{tree}
use Rattle.lp_model.specs.Pair.{closed}
use Rattle.lp_plain.specs.inner.Answering.{AreFilled}
use Rattle.lp_plain.proofs.AnswerTerms.{filled_more, none_filled}
use Rattle.lp_plain.proofs.answer.filled_terms.Goals as goal

pub each-init : goal.each-init
each-init c = none_filled c.args.bindings.now c.args.bank.now c.args.terms.now.items _ c.new-made.ensures.items

pub each-preserved : goal.each-preserved
each-preserved c =
    let ts = c.args.terms.now.items in
    let s = c.args.bindings.now in
    let b = c.args.bank.now in
    let lt : c.each.at < length ts = omega (arith, c.each-test.true, c.len-at-end.ensures, c.args.terms.now.ok) in
    let t = c.index.result.now in
    let f = c.in_ok-full.ensures in
    let d = c.filled.new.bank in
    subst (λ i. AreFilled s b d ts c.push.new.self.items i) (sym (add-one c.each.at))
    (subst (λ v. AreFilled s b d ts v (suc c.each.at)) (sym c.in_ok-push.ensures.items)
    (filled_more s b c.each.bank d ts c.each.made.items c.each.at t c.in_ok-full.full c.each.invariant f.kept (get_read ts ts c.each.at t t refl lt c.index.ensures) lt f.within f.filled))

pub returns-clause-kept : goal.returns-clause-kept
returns-clause-kept c = c.each.invariant.kept

pub returns-clause-within : goal.returns-clause-within
returns-clause-within c = c.each.invariant.within

pub returns-clause-count : goal.returns-clause-count
returns-clause-count c = let i = c.each.invariant in let a = i.count in let b = i.few in omega (arith, a, b, c.each-test.false, c.len-at-end.ensures, c.args.terms.now.ok)

pub returns-clause-filled : goal.returns-clause-filled
returns-clause-filled c = λ z r sh w.
    let ts = c.args.terms.now.items in
    c.each.invariant.are z r sh w ∙ ap (map (λ t. closed z (tree c.args.bank.now t.0))) (take_all c.each.at ts (omega (arith, c.each-test.false, c.len-at-end.ensures, c.args.terms.now.ok)))
