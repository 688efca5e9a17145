use Rattle.std.proofs.Common.{◌≡◌, ◌≤◌, ◌-◌, ◌++◌, drop, length, map}
use Rattle.lp_term.specs.Frame.{in_order}
use Rattle.lp_model.specs.Shown.{value_lines, values_shown}
use Rattle.lp_show.specs.Named.{all}
use Rattle.lp_show.specs.Written.{IsIdle}
use Rattle.lp_show.proofs.lines.push_values.Given as goal

abbrev pub invariant-values : goal.invariant-values
invariant-values l = record {
  within : l.at ≤ length l.names;
  idle : IsIdle (all l.context.names.now) l.writer;
  text : l.writer.out.items ++ value_lines (all l.context.names.now) l.context.seen.now.keys (values_shown (map (λ n. n.items) (drop l.at l.names)) (in_order l.context.bank.now (drop l.at l.forms.items))) ≡
      l.fn.writer.out.items ++ value_lines (all l.context.names.now) l.context.seen.now.keys (values_shown (map (λ n. n.items) l.names) (in_order l.context.bank.now l.forms.items));
}

abbrev pub decreases-values : goal.decreases-values
decreases-values l = length l.names - l.at
