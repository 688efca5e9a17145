use Rattle.std.proofs.Common.{◌<◌, ◌≤◌, ◌∙◌, ◌++◌, [], length, sym, ap, ap₂, subst, arith, append-nil}
use Rattle.std.specs.Prelude.{if◌then◌else◌}
use Rattle.lp_term.specs.Nodes.{tree}
use Rattle.lp_model.specs.Shown.{is_shown, value_lines, values_shown}
use Rattle.lp_show.specs.Lines.{value_line}
use Rattle.lp_show.specs.Named.{all}
use Rattle.lp_show.proofs.Formings.{from_here, none_left}
use Rattle.lp_show.proofs.Listings.{lines_next}
use Rattle.lp_show.proofs.lines.push_values.Goals as goal

pub push_value-requires : goal.push_value-requires
push_value-requires c =
    let lt : c.values.at < length c.args.forms.now.items = omega (arith, c.values-test.true, c.requires.names) in
    record {
      ready = c.requires.ready;
      value = subst (λ t. t.0 < length c.args.context.now.bank.now.terms) (sym c.index.ensures) (c.requires.forms c.values.at c.index.result.now lt);
      idle = c.values.invariant.idle;
    }

pub values-preserved : goal.values-preserved
values-preserved c =
    let b = c.args.context.now.bank.now in
    let es = all c.args.context.now.names.now in
    let vs = c.args.context.now.seen.now.keys in
    let i = c.values.at in
    let n = c.index-names-at.result in
    let t = c.index.result.now in
    let lt : i < length c.args.forms.now.items = omega (arith, c.values-test.true, c.requires.names) in
    record {
      within = omega (arith, c.values-test.true);
      idle = c.in_ok-push_value.ensures.idle;
      text =
          lines_next es vs c.values.writer.out.items c.push_value.new.writer.out.items n.items _ _ (tree b t.0) _ _ _ (from_here (λ n. n.items) c.args.names.now i n c.values-test.true c.index-names-at.is)
          (from_here (λ t. tree b t.0) c.args.forms.now.items i t lt c.index.ensures)
          (c.in_ok-push_value.ensures.text ∙ ap (λ m. c.values.writer.out.items ++ (if is_shown m then value_line es vs m (tree b t.0) else [])) c.as_slice.ensures.value) c.values.invariant.text;
    }

pub returns : goal.returns
returns c =
    let lt : length c.args.forms.now.items ≤ c.values.at = omega (arith, c.values-test.false, c.requires.names) in
    record {
      idle = c.values.invariant.idle;
      text =
          sym (append-nil c.values.writer.out.items) ∙
          sym (ap₂ (λ l m. c.values.writer.out.items ++ value_lines (all c.args.context.now.names.now) c.args.context.now.seen.now.keys (values_shown l m)) (none_left (λ n. n.items) c.args.names.now c.values.at c.values-test.false)
          (none_left (λ t. tree c.args.context.now.bank.now t.0) c.args.forms.now.items c.values.at lt)) ∙ c.values.invariant.text;
    }
