use Rattle.std.proofs.Common.{◌<◌, ◌≤◌, ◌∙◌, length, sym, ap, ap₂, subst, arith}
use Rattle.std.specs.Prelude.{if◌then◌else◌}
use Rattle.lp_term.specs.Nodes.{tree}
use Rattle.lp_model.specs.Shown.{is_shown, values_shown, variables_of_values, with_variables}
use Rattle.lp_show.proofs.Formings.{from_here, none_left}
use Rattle.lp_show.proofs.Listings.{variables_next}
use Rattle.lp_show.proofs.lines.add_values.Goals as goal

pub add_value-requires : goal.add_value-requires
add_value-requires c =
    let lt : c.values.at < length c.args.forms.now.items = omega (arith, c.values-test.true, c.requires.names) in
    subst (λ t. t.0 < length c.args.bank.now.terms) (sym c.index.ensures) (c.requires.forms c.values.at c.index.result.now lt)

pub values-preserved : goal.values-preserved
values-preserved c =
    let b = c.args.bank.now in
    let i = c.values.at in
    let n = c.index-names-at.result in
    let t = c.index.result.now in
    let lt : i < length c.args.forms.now.items = omega (arith, c.values-test.true, c.requires.names) in
    record {
      within = omega (arith, c.values-test.true);
      same =
          variables_next c.values.seen.keys c.add_value.new.seen.keys n.items _ _ (tree b t.0) _ _ _ (from_here (λ n. n.items) c.args.names.now i n c.values-test.true c.index-names-at.is)
          (from_here (λ t. tree b t.0) c.args.forms.now.items i t lt c.index.ensures)
          (c.in_ok-add_value.ensures ∙ ap (λ m. if is_shown m then with_variables c.values.seen.keys (tree b t.0) else c.values.seen.keys) c.as_slice.ensures.value) c.values.invariant.same;
    }

pub returns : goal.returns
returns c =
    let lt : length c.args.forms.now.items ≤ c.values.at = omega (arith, c.values-test.false, c.requires.names) in
    sym (ap₂ (λ l m. variables_of_values c.values.seen.keys (values_shown l m)) (none_left (λ n. n.items) c.args.names.now c.values.at c.values-test.false) (none_left (λ t. tree c.args.bank.now t.0) c.args.forms.now.items c.values.at lt)) ∙ c.values.invariant.same
