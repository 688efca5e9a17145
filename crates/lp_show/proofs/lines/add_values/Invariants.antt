use Rattle.std.proofs.Common.{◌≡◌, ◌≤◌, ◌-◌, drop, length, map}
use Rattle.lp_term.specs.Frame.{in_order}
use Rattle.lp_model.specs.Shown.{values_shown, variables_of_values}
use Rattle.lp_show.proofs.lines.add_values.Given as goal

abbrev pub invariant-values : goal.invariant-values
invariant-values l = record {
  within : l.at ≤ length l.names;
  same : variables_of_values l.seen.keys (values_shown (map (λ n. n.items) (drop l.at l.names)) (in_order l.bank (drop l.at l.forms.items))) ≡
      variables_of_values l.fn.seen.keys (values_shown (map (λ n. n.items) l.names) (in_order l.bank l.forms.items));
}

abbrev pub decreases-values : goal.decreases-values
decreases-values l = length l.names - l.at
