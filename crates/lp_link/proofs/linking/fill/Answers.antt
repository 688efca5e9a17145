use Rattle.std.proofs.Common.{ap, arith}
use Rattle.std.specs.Prelude.{set}
use Rattle.lp_link.proofs.Popped.{none_popped, one_popped}
use Rattle.lp_link.proofs.linking.fill.Goals as goal

pub returns-in_default : goal.returns-in_default
returns-in_default c = λ at rest e l. absurd (none_popped c.args.inside.now.items at rest (omega (arith, c.in_default.ensures.cases.0, c.args.inside.now.ok)) e)

pub returns-then-at-len : goal.returns-then-at-len
returns-then-at-len c = λ at rest e l. let p = one_popped c.args.inside.now.items c.pop.new.self.items c.in-Some.at at rest c.in-Some.ensures.items e
    in absurd (let q = p.0 in omega (arith, q, l, c.if-at-len.true))

pub returns : goal.returns
returns c = λ at rest e l. let p = one_popped c.args.inside.now.items c.pop.new.self.items c.in-Some.at at rest c.in-Some.ensures.items e in
    (p.1, ap (λ i. set c.args.firsts.now.items i c.args.own) p.0)
