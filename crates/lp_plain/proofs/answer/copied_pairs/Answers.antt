use Rattle.std.proofs.Common.{suc, ◌<◌, ◌∙◌, ap, length, refl, sym, subst, arith, add-one, map}
use Rattle.std.proofs.lemmas.List.{take_all}
use Rattle.lp_lemmas.proofs.Lists.{get_read}
use Rattle.lp_term.specs.Nodes.{tree}
use Rattle.lp_term.specs.Same.{same_map}
use Rattle.lp_term.proofs.MapLaws.{same_is_map, same_term}
use Rattle.lp_model.specs.Readings.{pair_of}
use Rattle.lp_plain.specs.inner.Answering.{ArePairsCopied}
use Rattle.lp_plain.proofs.AnswerTerms.{copied_pair_more, no_pairs_copied}
use Rattle.lp_plain.proofs.answer.copied_pairs.Goals as goal

pub each-init : goal.each-init
each-init c = no_pairs_copied c.args.from.now c.args.to.now c.args.copies.now c.args.pairs.now.items _ c.new-made.ensures.items

pub each-preserved : goal.each-preserved
each-preserved c =
    let ps = c.args.pairs.now.items in
    let from = c.args.from.now in
    let to = c.args.to.now in
    let lt : c.each.at < length ps = omega (arith, c.each-test.true, c.len-at-end.ensures, c.args.pairs.now.ok) in
    let p = c.index-pair.result.now in
    let f = c.in_ok-left.ensures in
    let g = c.in_ok-right.ensures in
    let m = c.copy.new.to in
    let d = c.copy-in-each.new.to in
    let one = c.copy.new.self in
    let last = c.copy-in-each.new.self in
    subst (λ i. ArePairsCopied from to d c.args.copies.now last ps c.push.new.self.items i) (sym (add-one c.each.at))
    (subst (λ v. ArePairsCopied from to d c.args.copies.now last ps v (suc c.each.at)) (sym c.in_ok-push.ensures.items)
    (copied_pair_more from to c.each.to m d c.args.copies.now c.each.copies one last ps c.each.made.items c.each.at p (record { left = c.in_ok-left.left; right = c.in_ok-right.right; level = p.level }) c.each.invariant f.kept g.kept
    (get_read ps ps c.each.at p p refl lt c.index-pair.ensures) lt f.within g.within refl (λ i. f.made same_map (same_is_map from c.each.to) i ∙ same_term (tree from p.left.0)) (λ i. g.made same_map (same_is_map from m) i ∙ same_term (tree from p.right.0))
    (λ i. f.memo same_map (same_is_map from c.each.to) i) (λ i. g.memo same_map (same_is_map from m) i)))

pub returns-clause-kept : goal.returns-clause-kept
returns-clause-kept c = c.each.invariant.kept

pub returns-clause-copied : goal.returns-clause-copied
returns-clause-copied c = λ m.
    let ps = c.args.pairs.now.items in
    c.each.invariant.are m ∙ ap (map (pair_of c.args.from.now)) (take_all c.each.at ps (omega (arith, c.each-test.false, c.len-at-end.ensures, c.args.pairs.now.ok)))

pub returns-clause-within : goal.returns-clause-within
returns-clause-within c = c.each.invariant.within
