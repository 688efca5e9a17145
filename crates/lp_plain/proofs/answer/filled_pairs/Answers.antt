use Rattle.std.proofs.Common.{suc, ◌<◌, ◌∙◌, ap, length, refl, sym, subst, arith, add-one, map}
use Rattle.std.proofs.lemmas.List.{take_all}
use Rattle.lp_lemmas.proofs.Lists.{get_read}
use Rattle.lp_plain.specs.inner.Answering.{ArePairsFilled, pair_under}
use Rattle.lp_plain.proofs.AnswerTerms.{filled_pair_more, no_pairs_filled}
use Rattle.lp_plain.proofs.answer.filled_pairs.Goals as goal

pub each-init : goal.each-init
each-init c = no_pairs_filled c.args.bindings.now c.args.bank.now c.args.pairs.now.items _ c.new-made.ensures.items

pub each-preserved : goal.each-preserved
each-preserved c =
    let ps = c.args.pairs.now.items in
    let s = c.args.bindings.now in
    let b = c.args.bank.now in
    let lt : c.each.at < length ps = omega (arith, c.each-test.true, c.len-at-end.ensures, c.args.pairs.now.ok) in
    let p = c.index-pair.result.now in
    let f = c.in_ok-left.ensures in
    let g = c.in_ok-right.ensures in
    let m = c.filled.new.bank in
    let d = c.filled-in-each.new.bank in
    subst (λ i. ArePairsFilled s b d ps c.push.new.self.items i) (sym (add-one c.each.at))
    (subst (λ v. ArePairsFilled s b d ps v (suc c.each.at)) (sym c.in_ok-push.ensures.items)
    (filled_pair_more s b c.each.bank m d ps c.each.made.items c.each.at p (record { left = c.in_ok-left.left; right = c.in_ok-right.right; level = p.level }) c.each.invariant f.kept g.kept (get_read ps ps c.each.at p p refl lt c.index-pair.ensures) lt f.within g.within refl f.filled g.filled))

pub returns-clause-kept : goal.returns-clause-kept
returns-clause-kept c = c.each.invariant.kept

pub returns-clause-filled : goal.returns-clause-filled
returns-clause-filled c = λ z r sh w.
    let ps = c.args.pairs.now.items in
    c.each.invariant.are z r sh w ∙ ap (map (pair_under c.args.bank.now z)) (take_all c.each.at ps (omega (arith, c.each-test.false, c.len-at-end.ensures, c.args.pairs.now.ok)))
