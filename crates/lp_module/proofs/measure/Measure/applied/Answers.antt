use Rattle.std.proofs.Common.{◌∙◌, arith}
use Rattle.std.specs.Prelude.{◌||◌}
use Rattle.lp_standard.specs.Positive.{is_positive}
use Rattle.lp_module.proofs.Measuring.{positive_both}
use Rattle.lp_module.proofs.measure.Measure.applied.Goals as goal

pub returns : goal.returns
returns c = λ t u m n. record {
  depth = omega (arith, c.max-depth.ensures, c.saturating_add-below.ensures, m.depth, n.depth);
  arguments = omega (arith, c.saturating_add-arguments.ensures, m.arguments);
  widest = omega (arith, c.max-widest.ensures, c.max-inside.ensures, c.saturating_add-arguments.ensures, m.widest, n.widest, m.arguments);
  connective = c.either-connective.ensures ∙ (λ i. m.connective i || n.connective i) ∙ positive_both (is_positive t) (is_positive u);
}
