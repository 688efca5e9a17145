use Rattle.std.proofs.Common.{arith, sym, ◌∙◌}
use Rattle.lp_lexer.proofs.Steps.{closes_at_quote, closes_at_line, closes_at_escape, closes_at}
use Rattle.lp_lexer.proofs.front.closes.Goals as goal

pub returns-then-b-eq34 : goal.returns-then-b-eq34
returns-then-b-eq34 c = sym (closes_at_quote c.args.bytes.now c.over.n c.over-test.true c.if-b-eq34.true) ∙ c.over.invariant.same

pub returns-then-b-eq10 : goal.returns-then-b-eq10
returns-then-b-eq10 c = sym (closes_at_line c.args.bytes.now c.over.n c.over-test.true c.if-b-eq10.true) ∙ c.over.invariant.same

pub over-preserved-then-is_escape : goal.over-preserved-then-is_escape
over-preserved-then-is_escape c =
    let w = c.is_escape.ensures.within c.if-is_escape.true in
    record {
      same = sym (closes_at_escape c.args.bytes.now c.over.n w (sym c.is_escape.ensures.is ∙ c.if-is_escape.true)) ∙ c.over.invariant.same;
      within = omega arith;
    }

pub over-preserved : goal.over-preserved
over-preserved c = record {
  same = sym (closes_at c.args.bytes.now c.over.n c.over-test.true c.if-b-eq34.false c.if-b-eq10.false (sym c.is_escape.ensures.is ∙ c.if-is_escape.false)) ∙ c.over.invariant.same;
  within = omega arith;
}
