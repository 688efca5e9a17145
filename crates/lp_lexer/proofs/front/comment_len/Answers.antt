use Rattle.std.proofs.Common.{arith, sym, ◌∙◌, ◌≢◌}
use Rattle.lp_lexer.proofs.Steps.{comment_opens, comment_nests, comment_goes, comment_done, not_both}
use Rattle.lp_lexer.proofs.front.comment_len.Goals as goal

pub over-preserved-then-c-eq42 : goal.over-preserved-then-c-eq42
over-preserved-then-c-eq42 c = record {
  sum = sym (comment_opens c.args.bytes.now c.over.n c.over.depth (omega arith) (search c.if-b-eq47.true) (search c.if-c-eq42.true)) ∙ c.over.invariant.sum;
  within = omega arith;
  low = omega arith;
  high = omega arith;
}

pub over-preserved-then-c-eq47 : goal.over-preserved-then-c-eq47
over-preserved-then-c-eq47 c = record {
  sum = sym (comment_nests c.args.bytes.now c.over.n c.over.depth (omega arith) (search c.if-b-eq42.true) (search c.if-c-eq47.true) (search c.if-depth-eq1.false)) ∙ c.over.invariant.sum;
  within = omega arith;
  low = let ne : c.over.depth ≢ 1 = c.if-depth-eq1.false in omega (arith, c.over.invariant.low);
  high = omega arith;
}

pub returns-clause-len : goal.returns-clause-len
returns-clause-len c = sym (comment_done c.args.bytes.now c.over.n c.over.depth (omega arith)) ∙ c.over.invariant.sum

pub over-preserved : goal.over-preserved
over-preserved c = record {
  sum = sym (comment_goes c.args.bytes.now c.over.n c.over.depth (omega arith) (not_both _ _ 47 42 c.else-b-eq47.either) (not_both _ _ 42 47 c.else-b-eq42.either)) ∙ c.over.invariant.sum;
  within = omega arith;
  low = omega arith;
  high = omega arith;
}
