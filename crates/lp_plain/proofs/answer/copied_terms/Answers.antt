use Rattle.std.proofs.Common.{suc, ◌<◌, ◌∙◌, ap, length, refl, sym, subst, arith, add-one, map}
use Rattle.std.proofs.lemmas.List.{take_all}
use Rattle.lp_lemmas.proofs.Lists.{get_read}
use Rattle.lp_term.specs.Nodes.{tree}
use Rattle.lp_term.specs.Same.{same_map}
use Rattle.lp_term.proofs.MapLaws.{same_is_map, same_term}
use Rattle.lp_plain.specs.inner.Answering.{AreCopied}
use Rattle.lp_plain.proofs.AnswerTerms.{copied_more, none_copied}
use Rattle.lp_plain.proofs.answer.copied_terms.Goals as goal

pub each-init : goal.each-init
each-init c = none_copied c.args.from.now c.args.to.now c.args.copies.now c.args.terms.now.items _ c.new-made.ensures.items

pub each-preserved : goal.each-preserved
each-preserved c =
    let ts = c.args.terms.now.items in
    let from = c.args.from.now in
    let to = c.args.to.now in
    let lt : c.each.at < length ts = omega (arith, c.each-test.true, c.len-at-end.ensures, c.args.terms.now.ok) in
    let t = c.index.result.now in
    let f = c.in_ok-copy.ensures in
    let d = c.copy.new.to in
    subst (λ i. AreCopied from to d c.args.copies.now c.copy.new.self ts c.push.new.self.items i) (sym (add-one c.each.at))
    (subst (λ v. AreCopied from to d c.args.copies.now c.copy.new.self ts v (suc c.each.at)) (sym c.in_ok-push.ensures.items)
    (copied_more from to c.each.to d c.args.copies.now c.each.copies c.copy.new.self ts c.each.made.items c.each.at t c.in_ok-copy.copy c.each.invariant f.kept (get_read ts ts c.each.at t t refl lt c.index.ensures) lt f.within
    (λ m. f.made same_map (same_is_map from c.each.to) m ∙ same_term (tree from t.0)) (λ m. f.memo same_map (same_is_map from c.each.to) m)))

pub returns-clause-kept : goal.returns-clause-kept
returns-clause-kept c = c.each.invariant.kept

pub returns-clause-within : goal.returns-clause-within
returns-clause-within c = c.each.invariant.within

pub returns-clause-memo : goal.returns-clause-memo
returns-clause-memo c = c.each.invariant.memo

pub returns-clause-count : goal.returns-clause-count
returns-clause-count c = let i = c.each.invariant in let a = i.count in let b = i.few in omega (arith, a, b, c.each-test.false, c.len-at-end.ensures, c.args.terms.now.ok)

pub returns-clause-copied : goal.returns-clause-copied
returns-clause-copied c = λ m.
    let ts = c.args.terms.now.items in
    c.each.invariant.are m ∙ ap (map (λ t. tree c.args.from.now t.0)) (take_all c.each.at ts (omega (arith, c.each-test.false, c.len-at-end.ensures, c.args.terms.now.ok)))
