use Rattle.std.proofs.Common.{length, ap, sym, subst, ◌∙◌}
use Rattle.std.specs.Prelude.{All}
use Rattle.lp_model.specs.Whole.{CanBeShown}
use Rattle.lp_machine.specs.Held.{variables_of}
use Rattle.lp_model.specs.Whole.{IsTold}
use Rattle.lp_query.proofs.running.RunningSearching.next.Goals as goal

pub returns-in_ok-values-in-Answer-clause-told : goal.returns-in_ok-values-in-Answer-clause-told
returns-in_ok-values-in-Answer-clause-told g c =
    let whole = subst (IsTold (variables_of c.args.self.now.machine)) c.in-Answer.is c.in_ok-why.ensures.told in
    record {
      values = c.in_ok-values-in-Answer.ensures.count ∙ ap length c.as_slice-in-Answer.ensures.value;
      shown = c.in_ok-values-in-Answer.ensures.shown c.in-Answer.answer.bank (subst (All (CanBeShown c.in-Answer.answer.bank)) (sym c.as_slice.ensures.value) whole.shown);
      pairs = whole.pairs;
    }
