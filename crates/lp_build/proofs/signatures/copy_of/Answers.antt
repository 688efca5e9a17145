use Rattle.std.proofs.Common.{◌∙◌, ap, map}
use Rattle.lp_sig.specs.Rows.{kind_row, constant_row, abbreviation_row, fixity_row}
use Rattle.lp_build.proofs.signatures.copy_of.Goals as goal

pub returns : goal.returns
returns c = record {
  types = c.in_ok-copy.ensures.types ∙ ap (λ b. b.types) c.bank.ensures;
  kinds = c.in_ok-copy.ensures.kinds ∙ ap (map kind_row) c.kinds.ensures;
  constants = c.in_ok-copy.ensures.constants ∙ ap (map constant_row) c.constants.ensures;
  abbreviations = c.in_ok-copy.ensures.abbreviations ∙ ap (map abbreviation_row) c.abbreviations.ensures;
  fixities = c.in_ok-copy.ensures.fixities ∙ ap (map fixity_row) c.fixities.ensures;
}
