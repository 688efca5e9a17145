use Rattle.lp_calculus.specs.Term.{Term}
use Rattle.std.proofs.Common.{◌≡◌, ℕ, suc, ◌+◌, ◌∙◌, [], ◌∷◌, ap, arith, refl, sym, take, true, subst as transport}
use Rattle.std.proofs.Math.Seq.{take-suc}
use Rattle.std.proofs.lemmas.List.{map-append}
use Rattle.lp_term.proofs.Knowing.{take_whole}
use Rattle.lp_term.proofs.Trees.{extends-trans}
use Rattle.lp_pattern.specs.Scanning.{AreTerms}
use Rattle.lp_pattern.specs.Settling.{index_in, eigen_or, eigens_in}
use Rattle.lp_pattern.proofs.Pushing.{one_more}
use Rattle.lp_pattern.proofs.settle.put_stand_ins.Goals as goal

pub loop-at-preserved : goal.loop-at-preserved
loop-at-preserved c =
    let l = c.loop-at-test.true in
    let at = c.loop-at.at in
    let next : at + 1 ≡ suc at = omega arith in
    let stand : ℕ → Term = λ k. eigen_or k (index_in c.args.side.now.eigens.items c.args.opened.level c.args.opened.depth k) in
    record {
      kept = extends-trans c.args.bank.now c.loop-at.bank c.put_stand_in.new.bank c.loop-at.invariant.kept c.in_ok-id.ensures.kept;
      terms = transport (λ ks. AreTerms c.put_stand_in.new.bank c.push.new.self.items (eigens_in c.args.side.now.eigens.items c.args.opened.level c.args.opened.depth ks)) (sym (ap (λ n. take n c.args.eigens.now) next ∙ take-suc c.args.eigens.now at _ l))
          (transport (AreTerms c.put_stand_in.new.bank c.push.new.self.items) (sym (map-append stand (take at c.args.eigens.now) (_ ∷ [])))
          (one_more c.loop-at.bank c.put_stand_in.new.bank c.loop-at.ids.items c.push.new.self.items c.in_ok-id.id true
          _ refl c.in_ok-id.ensures.kept c.in_ok-id.ensures.within c.in_ok-id.ensures.tree c.in_ok-push.ensures.items
          (eigens_in c.args.side.now.eigens.items c.args.opened.level c.args.opened.depth (take at c.args.eigens.now)) c.loop-at.invariant.terms));
    }

pub returns-clause-terms : goal.returns-clause-terms
returns-clause-terms c =
    transport (λ ks. AreTerms c.loop-at.bank c.loop-at.ids.items (eigens_in c.args.side.now.eigens.items c.args.opened.level c.args.opened.depth ks)) (take_whole c.args.eigens.now c.loop-at.at (omega (arith, c.loop-at-test.false))) c.loop-at.invariant.terms
