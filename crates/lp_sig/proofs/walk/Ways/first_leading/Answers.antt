use Rattle.std.proofs.Common.{map, refl}
use Rattle.lp_sig.proofs.Circles.{none_of_none, none_more, none_of_all, circle_at}
use Rattle.lp_sig.proofs.walk.Ways.first_leading.Goals as goal

pub loop-word-init : goal.loop-word-init
loop-word-init c = none_of_none (map (λ out. out.items) c.args.self.now.ways.items) _ c.args.to refl

pub loop-word-preserved : goal.loop-word-preserved
loop-word-preserved c = none_more (map (λ out. out.items) c.args.self.now.ways.items) c.args.words.now c.loop-word.word-index _ c.args.to c.loop-word-test.true c.loop-word.invariant (c.in_ok-lead_to.ensures.none c.if-branch.false)

pub returns-then-branch-clause-circle : goal.returns-then-branch-clause-circle
returns-then-branch-clause-circle c = circle_at (map (λ out. out.items) c.args.self.now.ways.items) c.args.words.now c.loop-word.word-index _ c.args.to c.loop-word-test.true c.loop-word.invariant (c.in_ok-lead_to.ensures.found c.if-branch.true)

pub returns-clause-none : goal.returns-clause-none
returns-clause-none c = none_of_all (map (λ out. out.items) c.args.self.now.ways.items) c.args.words.now c.loop-word.word-index c.args.to c.loop-word-test.false c.loop-word.invariant
