use Rattle.std.proofs.Common.{arith, sym, ◌∙◌}
use Rattle.lp_lexer.proofs.Steps.{text_closes, text_lines, text_escapes, text_goes, text_bad, further_zero}
use Rattle.lp_lexer.proofs.front.text_end.Goals as goal

pub returns-then-b-eq34-clause-end : goal.returns-then-b-eq34-clause-end
returns-then-b-eq34-clause-end c = sym (text_closes c.args.bytes.now c.over.n c.over-test.true c.if-b-eq34.true) ∙ c.over.invariant.sum

pub returns-then-b-eq10-clause-end : goal.returns-then-b-eq10-clause-end
returns-then-b-eq10-clause-end c = sym (text_lines c.args.bytes.now c.over.n c.over-test.true c.if-b-eq10.true) ∙ c.over.invariant.sum

pub over-preserved-then-is_in : goal.over-preserved-then-is_in
over-preserved-then-is_in c = record {
  sum = sym (text_escapes c.args.bytes.now c.over.n (omega arith) c.if-b-eq92.true (sym c.is_in.ensures ∙ c.if-is_in.true)) ∙ c.over.invariant.sum;
  within = omega arith;
}

pub over-preserved : goal.over-preserved
over-preserved c = record {
  sum = sym (text_goes c.args.bytes.now c.over.n c.over-test.true c.if-b-eq34.false c.if-b-eq10.false c.if-b-eq92.false (sym c.is_in-in-over.ensures ∙ c.if-not-is_in.false)) ∙ c.over.invariant.sum;
  within = omega arith;
}

pub returns-then-not-is_in-clause-end : goal.returns-then-not-is_in-clause-end
returns-then-not-is_in-clause-end c = sym (text_bad c.args.bytes.now c.over.n c.over-test.true c.if-b-eq34.false c.if-b-eq10.false c.if-b-eq92.false (sym c.is_in-in-over.ensures ∙ c.if-not-is_in.true)) ∙ c.over.invariant.sum

pub over-init : goal.over-init
over-init c = record { sum = further_zero _; within = omega arith }
