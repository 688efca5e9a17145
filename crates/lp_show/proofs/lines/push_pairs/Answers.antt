use Rattle.std.proofs.Common.{◌<◌, ◌≤◌, ◌∙◌, ◌++◌, length, sym, ap, subst, arith, append-nil}
use Rattle.lp_term.specs.Nodes.{tree}
use Rattle.lp_model.specs.Shown.{pair_lines}
use Rattle.lp_show.specs.Named.{all}
use Rattle.lp_show.specs.Sides.{IsSidesIn}
use Rattle.lp_show.proofs.Formings.{from_here, none_left}
use Rattle.lp_show.proofs.Listings.{lines_next_pair}
use Rattle.lp_show.proofs.lines.push_pairs.Goals as goal

pub push_pair-requires : goal.push_pair-requires
push_pair-requires c =
    let lt : c.pairs.at < length c.args.sides.now.items = omega (arith, c.pairs-test.true, c.len.ensures, c.args.sides.now.ok) in
    record {
      ready = c.requires.ready;
      sides = subst (IsSidesIn c.args.context.now.bank.now) (sym c.index.ensures) (c.requires.sides c.pairs.at c.index.result.now lt);
      idle = c.pairs.invariant.idle;
    }

pub pairs-preserved : goal.pairs-preserved
pairs-preserved c =
    let b = c.args.context.now.bank.now in
    let s = c.index.result.now in
    let lt : c.pairs.at < length c.args.sides.now.items = omega (arith, c.pairs-test.true, c.len.ensures, c.args.sides.now.ok) in
    record {
      within = omega (arith, lt);
      idle = c.in_ok-push_pair.ensures.idle;
      text =
          lines_next_pair (all c.args.context.now.names.now) c.args.context.now.seen.now.keys c.pairs.writer.out.items c.push_pair.new.writer.out.items (tree b s.left.0, tree b s.right.0) _ _ _
          (from_here (λ p. (tree b p.left.0, tree b p.right.0)) c.args.sides.now.items c.pairs.at s lt c.index.ensures) c.in_ok-push_pair.ensures.text c.pairs.invariant.text;
    }

pub returns : goal.returns
returns c =
    let b = c.args.context.now.bank.now in
    let lt : length c.args.sides.now.items ≤ c.pairs.at = omega (arith, c.pairs-test.false, c.len.ensures, c.args.sides.now.ok) in
    record {
      idle = c.pairs.invariant.idle;
      text =
          sym (append-nil c.pairs.writer.out.items) ∙
          sym (ap (λ l. c.pairs.writer.out.items ++ pair_lines (all c.args.context.now.names.now) c.args.context.now.seen.now.keys l) (none_left (λ p. (tree b p.left.0, tree b p.right.0)) c.args.sides.now.items c.pairs.at lt)) ∙
          c.pairs.invariant.text;
    }
