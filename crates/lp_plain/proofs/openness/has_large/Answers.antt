use Rattle.std.proofs.Common.{get_or, ◌∙◌, ap}
use Rattle.std.specs.Prelude.{◌||◌, ◌^◌}
use Rattle.std.proofs.lemmas.Bool.{lt-leb}
use Rattle.std.proofs.lemmas.List.Folds.{list_any_more}
use Rattle.lp_plain.specs.Standings.{is_large}
use Rattle.lp_plain.proofs.openness.has_large.Goals as goal

pub numbers-preserved : goal.numbers-preserved
numbers-preserved c =
    let n = get_or c.args.numbers.now c.numbers.number-index 0 in
    list_any_more is_large c.args.numbers.now c.numbers.number-index 0 c.numbers-test.true ∙ ap (λ y. y || is_large n) c.numbers.invariant ∙ lt-leb (2 ^ 32) n c.if-number-ge-MOST_LOOSE.false
