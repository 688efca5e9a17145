use Rattle.std.proofs.Common.{◌<◌, ◌≤◌, ◌∙◌, length, sym, ap, subst, arith}
use Rattle.lp_term.specs.Nodes.{tree}
use Rattle.lp_model.specs.Shown.{variables_of_pairs}
use Rattle.lp_show.specs.Sides.{IsSidesIn}
use Rattle.lp_show.proofs.Formings.{from_here, none_left}
use Rattle.lp_show.proofs.Listings.{variables_next_pair}
use Rattle.lp_show.proofs.lines.add_sides.Goals as goal

pub add_variables-requires : goal.add_variables-requires
add_variables-requires c =
    let lt : c.sides.at < length c.args.sides.now.items = omega (arith, c.sides-test.true, c.len.ensures, c.args.sides.now.ok) in
    (subst (IsSidesIn c.args.bank.now) (sym c.index-side.ensures) (c.requires c.sides.at c.index-side.result.now lt)).0

pub add_variables-requires-in-sides : goal.add_variables-requires-in-sides
add_variables-requires-in-sides c =
    let lt : c.sides.at < length c.args.sides.now.items = omega (arith, c.sides-test.true, c.len.ensures, c.args.sides.now.ok) in
    (subst (IsSidesIn c.args.bank.now) (sym c.index-side.ensures) (c.requires c.sides.at c.index-side.result.now lt)).1

pub sides-preserved : goal.sides-preserved
sides-preserved c =
    let b = c.args.bank.now in
    let s = c.index-side.result.now in
    let lt : c.sides.at < length c.args.sides.now.items = omega (arith, c.sides-test.true, c.len.ensures, c.args.sides.now.ok) in
    record {
      within = omega (arith, lt);
      same =
          variables_next_pair c.sides.seen.keys c.add_variables.new.seen.keys c.add_variables-in-sides.new.seen.keys (tree b s.left.0, tree b s.right.0) _ _ _
          (from_here (λ p. (tree b p.left.0, tree b p.right.0)) c.args.sides.now.items c.sides.at s lt c.index-side.ensures) c.in_ok-add_variables.ensures c.in_ok-add_variables-2.ensures c.sides.invariant.same;
    }

pub returns : goal.returns
returns c =
    let b = c.args.bank.now in
    let lt : length c.args.sides.now.items ≤ c.sides.at = omega (arith, c.sides-test.false, c.len.ensures, c.args.sides.now.ok) in
    sym (ap (variables_of_pairs c.sides.seen.keys) (none_left (λ p. (tree b p.left.0, tree b p.right.0)) c.args.sides.now.items c.sides.at lt)) ∙ c.sides.invariant.same
