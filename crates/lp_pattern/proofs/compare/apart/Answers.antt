use Rattle.std.proofs.Common.{ℕ, ◌∷◌, refl, false, arith}
use Rattle.lp_model.specs.Pair.{Closing}
use Rattle.lp_pattern.specs.Under.{IsReading, under}
use Rattle.lp_pattern.specs.Comparing.{IsPassed, compare_pairs, pair_at, pairs_under}
use Rattle.lp_term.proofs.Moves.{passed_up}
use Rattle.lp_pattern.proofs.Falls.{unit_falls}
use Rattle.lp_pattern.proofs.Tops.{apart_step, apart_spent}
use Rattle.lp_pattern.proofs.compare.apart.Goals as goal

pub returns-in_err-spend-clause-refused : goal.returns-in_err-spend-clause-refused
returns-in_err-spend-clause-refused c =
    passed_up c.from_residual.result c.in_err-spend.field-0.0
    (λ e. (r : Closing) → IsReading c.args.bank.now c.args.bindings.now r → (n : ℕ) → IsPassed e c.args.units.now
    (compare_pairs n (pair_at c.args.level (under c.args.bank.now r c.args.one.now.whole) (under c.args.bank.now r c.args.other.now.whole) ∷ pairs_under c.args.bank.now r c.args.left.now.items)))
    c.from_residual.ensures.1
    (λ r i n.
    apart_spent c.args.bank.now c.args.bindings.now r c.args.one.now c.args.other.now c.args.level n c.args.left.now.items i c.requires.looked_one c.requires.looked_other c.args.units.now c.in_err-spend.field-0.0
    c.requires.apart c.in_err-spend.ensures.refused.1 c.in_err-spend.ensures.refused.0)

pub returns-clause-compared : goal.returns-clause-compared
returns-clause-compared c = λ r i n.
    apart_step c.args.bank.now c.args.bindings.now r c.args.one.now c.args.other.now c.args.level n c.args.left.now.items i c.requires.looked_one c.requires.looked_other c.args.units.now c.spend.new.units false
    (compare_pairs n (pairs_under c.args.bank.now r c.args.left.now.items))
    c.requires.apart c.in_ok-spend.ensures.spent refl

pub returns-clause-fewer : goal.returns-clause-fewer
returns-clause-fewer c = omega (arith, c.in_ok-spend.ensures.spent)

pub returns-clause-falls : goal.returns-clause-falls
returns-clause-falls c = unit_falls _ _ _ _ (omega (arith, c.in_ok-spend.ensures.spent))
