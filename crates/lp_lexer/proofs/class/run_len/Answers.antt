use Rattle.std.proofs.Common.{arith, sym, ◌∙◌}
use Rattle.lp_lexer.proofs.Steps.{run_goes, each_more}
use Rattle.lp_lexer.proofs.class.run_len.Goals as goal

pub loop-n-preserved : goal.loop-n-preserved
loop-n-preserved c =
    let is = sym c.is_in.ensures ∙ c.if-is_in.true in
    record {
      sum = sym (run_goes c.args.class c.args.bytes.now c.loop-n.n (omega arith) is) ∙ c.loop-n.invariant.sum;
      within = omega arith;
      each = each_more c.args.class c.args.bytes.now c.loop-n.n (omega arith) c.loop-n.invariant.each is;
    }
