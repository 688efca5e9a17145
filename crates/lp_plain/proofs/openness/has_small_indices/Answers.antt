use Rattle.std.proofs.Common.{◌∙◌, ap}
use Rattle.std.specs.List.{list_any}
use Rattle.std.proofs.lemmas.Bool.{not-true}
use Rattle.lp_term.specs.Nodes.{tree}
use Rattle.lp_plain.specs.Standings.{is_large}
use Rattle.lp_plain.proofs.Looks.{not_false}
use Rattle.lp_plain.proofs.Measuring.{told_small, told_large}
use Rattle.lp_plain.proofs.openness.has_small_indices.Goals as goal

pub returns-clause-small : goal.returns-clause-small
returns-clause-small c = told_small c.in_ok-free.free.variables.items (tree c.args.bank.now c.args.term.0) c.in_ok-free.ensures.variables c.has_large-large.result _ (c.has_large-large.ensures ∙ ap (list_any is_large) c.as_slice.ensures.value) (not-true c.has_large-large.result)

pub returns-clause-large : goal.returns-clause-large
returns-clause-large c = told_large c.in_ok-free.free.variables.items (tree c.args.bank.now c.args.term.0) c.in_ok-free.ensures.variables c.has_large-large.result _ (c.has_large-large.ensures ∙ ap (list_any is_large) c.as_slice.ensures.value) (not_false c.has_large-large.result)
