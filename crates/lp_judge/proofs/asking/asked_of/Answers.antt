use Rattle.std.proofs.Common.{inl, inr, subst}
use Rattle.std.specs.Prelude.{codes}
use Rattle.lp_lines.specs.Placed.{IsOfText}
use Rattle.lp_lines.proofs.Placing.{source_weaker}
use Rattle.lp_judge.proofs.Questions.{asked_of_files}
use Rattle.lp_judge.proofs.asking.asked_of.Goals as goal

pub returns-in-Err-clause-placed : goal.returns-in-Err-clause-placed
returns-in-Err-clause-placed c = λ told h. source_weaker _ _ (λ line k. inl k) c.in-Err.refusal (c.in-Err.ensures.placed told h)

pub returns-in-Err-ask-clause-placed : goal.returns-in-Err-ask-clause-placed
returns-in-Err-ask-clause-placed c = λ told h. source_weaker _ _ (λ line k. inr (subst (λ q. IsOfText (codes "query") q line) c.as_bytes.ensures.value k)) c.in-Err-ask.refusal c.in-Err-ask.ensures.placed

pub returns-in-Ok-first_not-clause-asked : goal.returns-in-Ok-first_not-clause-asked
returns-in-Ok-first_not-clause-asked c = λ read.
    asked_of_files c.args.sources.now c.args.query.now _ c.in-Ok.built c.ask.new.built c.in-Ok-ask.typed c.as_bytes.ensures.value (c.in-Ok.ensures.program read)
    (record {
      bank = c.ask.ensures.kept;
      constants = c.ask.ensures.constants;
      clauses = c.ask.ensures.clauses;
      kinds = c.ask.ensures.kinds;
      names = c.ask.ensures.names;
      signature = c.ask.ensures.signature;
      table = c.ask.ensures.table;
    }) c.in-Ok-ask.ensures.asked (c.in-Ok-first_not.ensures.none read)
