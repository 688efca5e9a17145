use Rattle.std.proofs.Common.{◌∙◌, length, map, refl, sym, ap, subst}
use Rattle.std.specs.Prelude.{All}
use Rattle.std.proofs.lemmas.List.Elements.{All-weaker}
use Rattle.lp_term.specs.Frame.{in_order}
use Rattle.lp_term.specs.Nodes.{tree}
use Rattle.lp_term.proofs.Trees.{extends-trans}
use Rattle.lp_term.proofs.Ways.{in_order_stay}
use Rattle.lp_model.specs.Whole.{CanPairBeShown}
use Rattle.lp_show.specs.Forms.{AreForms, AreSides, IsFirstDeep, pair_trees, sides_of}
use Rattle.lp_show.specs.Sides.{side_trees}
use Rattle.lp_show.proofs.Formings.{as_many, can_pair_later, length_of_map, pairs_stay}
use Rattle.lp_show.proofs.lines.answer.Goals as goal

pub pair_forms-requires : goal.pair_forms-requires
pair_forms-requires c =
    let b0 = c.args.answer.now.bank in
    let b1 = c.value_forms.new.bank in
    All-weaker (CanPairBeShown b0) (CanPairBeShown b1) (λ p h. can_pair_later b0 b1 p c.value_forms.ensures.kept h) c.args.answer.now.pairs.items c.requires.pairs

pub normal_lines-requires-clause-names : goal.normal_lines-requires-clause-names
normal_lines-requires-clause-names c =
    sym (length_of_map (λ n. n.items) c.args.names.now) ∙ as_many _ _ _ c.in-Ok.ensures.forms ∙ length_of_map (λ t. tree c.value_forms.new.bank t.0) c.in-Ok.forms.items

pub returns-in-Err : goal.returns-in-Err
returns-in-Err c = record {
  kept = c.value_forms.ensures.kept;
  values = refl;
  pairs = refl;
  text = tt;
  refused = c.in-Err.ensures.refused (sides_of (pair_trees c.args.answer.now.bank c.args.answer.now.pairs.items));
}

pub returns-in-Err-pair_forms-clause-refused : goal.returns-in-Err-pair_forms-clause-refused
returns-in-Err-pair_forms-clause-refused c =
    let b0 = c.args.answer.now.bank in
    let ps = c.args.answer.now.pairs.items in
    c.in-Ok.ensures.passed (sides_of (pair_trees b0 ps)) c.in-Err-pair_forms.refusal
    (subst (λ l. IsFirstDeep (sides_of l) c.in-Err-pair_forms.refusal) (pairs_stay b0 c.value_forms.new.bank ps c.value_forms.ensures.kept c.requires.pairs) c.in-Err-pair_forms.ensures.refused)

pub returns : goal.returns
returns c =
    let b0 = c.args.answer.now.bank in
    let b1 = c.value_forms.new.bank in
    let b2 = c.pair_forms.new.bank in
    let ps = c.args.answer.now.pairs.items in
    let x = c.value_forms.ensures.kept in
    let y = c.pair_forms.ensures.kept in
    record {
      kept = extends-trans b0 b1 b2 x y;
      values = refl;
      pairs = refl;
      text = (
        in_order b2 c.in-Ok.forms.items,
        (
          side_trees b2 c.in-Ok-pair_forms.sides.items,
          (
            subst (AreForms (map (λ n. n.items) c.args.names.now) (in_order b0 c.args.answer.now.values.items)) (sym (in_order_stay b1 b2 c.in-Ok.forms.items y c.in-Ok.ensures.within)) c.in-Ok.ensures.forms,
            subst (λ l. AreSides l (side_trees b2 c.in-Ok-pair_forms.sides.items)) (pairs_stay b0 b1 ps x c.requires.pairs) c.in-Ok-pair_forms.ensures.forms,
            c.in_ok-text.ensures,
          ),
        ),
      );
      refused = tt;
    }
