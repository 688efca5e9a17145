use Rattle.std.proofs.Common.{ℕ, ◌∷◌, arith}
use Rattle.lp_model.specs.Pair.{Closing}
use Rattle.lp_pattern.specs.Under.{IsReading, under}
use Rattle.lp_pattern.specs.Comparing.{IsPassed, compare_pairs, pair_at, pairs_under}
use Rattle.lp_term.proofs.Moves.{passed_up}
use Rattle.lp_pattern.proofs.Falls.{unit_falls}
use Rattle.lp_pattern.proofs.Tops.{left_known, rigid_step, rigid_spent, rigid_passed}
use Rattle.lp_pattern.proofs.compare.both_rigid.Goals as goal

pub returns-clause-compared : goal.returns-clause-compared
returns-clause-compared c = λ r i n.
    rigid_step c.args.bank.now c.args.bindings.now r c.args.one.now c.args.other.now c.args.level n c.args.left.now.items i c.requires.looked_one c.requires.looked_other c.args.units.now c.spend.new.units
    c.have_same_head.new.units c.in_ok-is_same.is_same c.in_ok-same.same c.with_arguments.new.left.items c.requires.one c.requires.other c.in_ok-spend.ensures.spent (c.in_ok-is_same.ensures.compared r i)
    c.in_ok-same.ensures.same c.in_ok-same.ensures.pushed

pub returns-in_err-spend-clause-refused : goal.returns-in_err-spend-clause-refused
returns-in_err-spend-clause-refused c =
    passed_up c.from_residual.result c.in_err-spend.field-0.0
    (λ e. (r : Closing) → IsReading c.args.bank.now c.args.bindings.now r → (n : ℕ) → IsPassed e c.args.units.now
    (compare_pairs n (pair_at c.args.level (under c.args.bank.now r c.args.one.now.whole) (under c.args.bank.now r c.args.other.now.whole) ∷ pairs_under c.args.bank.now r c.args.left.now.items)))
    c.from_residual.ensures.1
    (λ r i n.
    rigid_spent c.args.bank.now c.args.bindings.now r c.args.one.now c.args.other.now c.args.level n c.args.left.now.items i c.requires.looked_one c.requires.looked_other c.args.units.now c.in_err-spend.field-0.0
    c.requires.one c.requires.other c.in_err-spend.ensures.refused.1 c.in_err-spend.ensures.refused.0)

pub returns-in_err-is_same-clause-refused : goal.returns-in_err-is_same-clause-refused
returns-in_err-is_same-clause-refused c =
    passed_up c.from_residual-in_err-is_same.result c.in_err-is_same.field-0.0
    (λ e. (r : Closing) → IsReading c.args.bank.now c.args.bindings.now r → (n : ℕ) → IsPassed e c.args.units.now
    (compare_pairs n (pair_at c.args.level (under c.args.bank.now r c.args.one.now.whole) (under c.args.bank.now r c.args.other.now.whole) ∷ pairs_under c.args.bank.now r c.args.left.now.items)))
    c.from_residual-in_err-is_same.ensures.1
    (λ r i n.
    rigid_passed c.args.bank.now c.args.bindings.now r c.args.one.now c.args.other.now c.args.level n c.args.left.now.items i c.requires.looked_one c.requires.looked_other c.args.units.now c.spend.new.units
    c.in_err-is_same.field-0.0 c.requires.one c.requires.other c.in_ok-spend.ensures.spent (c.in_err-is_same.ensures.refused r i))

pub returns-clause-left : goal.returns-clause-left
returns-clause-left c =
    left_known _ c.args.level c.in_ok-is_same.is_same c.args.one.now.arguments.items c.args.other.now.arguments.items c.args.left.now.items c.with_arguments.new.left.items c.requires.looked_one.arguments c.requires.looked_other.arguments
    c.requires.left c.in_ok-same.ensures.pushed c.in_ok-same.ensures.others

pub returns-clause-fewer : goal.returns-clause-fewer
returns-clause-fewer c = omega (arith, c.in_ok-spend.ensures.spent, c.in_ok-is_same.ensures.fewer)

pub returns-clause-falls : goal.returns-clause-falls
returns-clause-falls c = unit_falls _ _ _ _ (omega (arith, c.in_ok-spend.ensures.spent, c.in_ok-is_same.ensures.fewer))
