use Rattle.std.proofs.Common.{◌≡◌, suc, ◌+◌, ◌∙◌, ap, arith, length, ◌-◌, ◌++◌, sym, subst, take}
use Rattle.std.proofs.Math.Seq.{take-suc}
use Rattle.std.proofs.lemmas.List.{length-take}
use Rattle.lp_term.proofs.Trees.{extends-trans}
use Rattle.lp_pattern.specs.Reading.{side_of}
use Rattle.lp_pattern.specs.Scanning.{AreTerms, low_eigens, allowed_places}
use Rattle.lp_term.proofs.Knowing.{take_whole}
use Rattle.lp_pattern.proofs.Pushing.{low_pushed, places_pushed}
use Rattle.lp_pattern.proofs.prune.put_allowed.Goals as goal

pub loop-k-preserved : goal.loop-k-preserved
loop-k-preserved c = record {
  kept = extends-trans c.args.bank.now c.loop-k.bank c.push_low.new.bank c.loop-k.invariant.kept c.in_ok-push_low.ensures.kept;
  terms = low_pushed c.loop-k.bank c.push_low.new.bank c.loop-k.arguments.items c.push_low.new.arguments.items c.args.level c.in-Some.k c.loop-k.yielded c.in_ok-push_low.ensures.pushed c.loop-k.invariant.terms;
}

pub loop-at-preserved : goal.loop-at-preserved
loop-at-preserved c =
    let n = length c.args.eigens.now in
    let low = low_eigens c.args.level c.args.side.now.eigens.items in
    let s = side_of c.args.side.now in
    let l = c.loop-at-test.true in
    let next : c.loop-at.at + 1 ≡ suc c.loop-at.at = omega arith in
    let all = length-take c.loop-at.at c.args.eigens.now in
    record {
      kept = extends-trans c.args.bank.now c.loop-at.bank c.push_place.new.bank c.loop-at.invariant.kept c.in_ok-push_place.ensures.kept;
      terms = subst (λ ks. AreTerms c.push_place.new.bank c.push_place.new.arguments.items (low ++ allowed_places s n ks)) (sym (ap (λ k. take k c.args.eigens.now) next ∙ take-suc c.args.eigens.now c.loop-at.at _ l))
          (places_pushed c.loop-at.bank c.push_place.new.bank c.loop-at.arguments.items c.push_place.new.arguments.items s n (n - 1 - c.loop-at.at) _ low (take c.loop-at.at c.args.eigens.now) (omega (arith, all, l)) c.in_ok-push_place.ensures.pushed c.loop-at.invariant.terms);
    }

pub returns-clause-terms : goal.returns-clause-terms
returns-clause-terms c =
    let low = low_eigens c.args.level c.args.side.now.eigens.items in
    subst (λ ks. AreTerms c.loop-at.bank c.loop-at.arguments.items (low ++ allowed_places (side_of c.args.side.now) (length c.args.eigens.now) ks)) (take_whole c.args.eigens.now c.loop-at.at (omega (arith, c.loop-at-test.false))) c.loop-at.invariant.terms
