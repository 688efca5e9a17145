use Rattle.std.proofs.Common.{◌∙◌, ◌++◌, map, ap}
use Rattle.std.specs.Prelude.{codes, decimal}
use Rattle.lp_term.specs.Frame.{in_order}
use Rattle.lp_model.specs.Shown.{values_shown, variables_of_pairs, variables_of_values}
use Rattle.lp_show.specs.Glossary.{entries_of}
use Rattle.lp_show.specs.Named.{all}
use Rattle.lp_show.specs.Sides.{side_trees}
use Rattle.lp_show.proofs.Listings.{all_lines}
use Rattle.lp_show.proofs.lines.normal_lines.Goals as goal

pub push_values-requires-clause-idle : goal.push_values-requires-clause-idle
push_values-requires-clause-idle c = c.new-writer.ensures.idle (all c.in_ok-known.known)

pub returns : goal.returns
returns c =
    let shown = values_shown (map (λ n. n.items) c.args.names.now) (in_order c.args.bank.now c.args.forms.now.items) in
    let pairs = side_trees c.args.bank.now c.args.sides.now.items in
    all_lines (all c.in_ok-known.known) _ c.add_sides.new.seen.keys _ shown pairs (codes "answer " ++ (decimal c.args.number ++ codes "\n")) c.new-writer.result.out.items c.push_values.new.writer.out.items c.push_pairs.new.writer.out.items
    (c.new-writer.ensures.text ∙ c.in_ok-first_line.ensures) c.in_ok-push_values.ensures.text c.in_ok-push_pairs.ensures.text
    (c.in_ok-known.ensures.same ∙ ap entries_of c.as_slice.ensures.value)
    (c.in_ok-add_sides.ensures ∙ ap (λ l. variables_of_pairs l pairs) (c.in_ok-add_values.ensures ∙ ap (λ l. variables_of_values l shown) c.new-seen.ensures.empty))
