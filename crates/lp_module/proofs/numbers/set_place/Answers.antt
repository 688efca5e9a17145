use Rattle.std.proofs.Common.{◌+◌, ◌-◌, get_or, refl, arith}
use Rattle.lp_module.proofs.Placing.{place_other, place_set}
use Rattle.lp_module.proofs.numbers.set_place.Goals as goal

pub returns-then-number-first-clause-set : goal.returns-then-number-first-clause-set
returns-then-number-first-clause-set c = λ i h. place_other c.args.number (c.args.first + i) c.args.place (get_or c.args.places.now.items i 0) (λ e. absurd (omega (arith, e, c.if-number-first.true)))

pub returns-then-at-len-clause-set : goal.returns-then-at-len-clause-set
returns-then-at-len-clause-set c = λ i h. place_set c.args.first c.args.number (c.args.number - c.args.first) c.args.place c.args.places.now.items refl (omega (arith, c.if-number-first.false)) (omega (arith, c.if-at-len.true, c.len.ensures, c.args.places.now.ok)) i

pub returns-else-at-len-clause-set : goal.returns-else-at-len-clause-set
returns-else-at-len-clause-set c = λ i h. place_other c.args.number (c.args.first + i) c.args.place (get_or c.args.places.now.items i 0) (λ e. absurd (omega (arith, e, h, c.if-number-first.false, c.if-at-len.false, c.len.ensures, c.args.places.now.ok)))
