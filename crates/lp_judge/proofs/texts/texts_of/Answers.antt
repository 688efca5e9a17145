use Rattle.std.proofs.Common.{inl, inr, subst}
use Rattle.std.specs.Prelude.{codes}
use Rattle.lp_lines.specs.Placed.{IsOfText}
use Rattle.lp_lines.proofs.Placing.{source_weaker}
use Rattle.lp_load.specs.Asked.{IsAsked}
use Rattle.lp_judge.proofs.texts.texts_of.Goals as goal

pub returns-in-Err-clause-placed : goal.returns-in-Err-clause-placed
returns-in-Err-clause-placed c = λ told h. source_weaker _ _ (λ line k. inl k) c.in-Err.refusal (c.in-Err.ensures.placed told h)

pub returns-in-Err-ask-clause-placed : goal.returns-in-Err-ask-clause-placed
returns-in-Err-ask-clause-placed c = λ told h. source_weaker _ _ (λ line k. inr (subst (λ q. IsOfText (codes "query") q line) c.as_bytes.ensures.value k)) c.in-Err-ask.refusal c.in-Err-ask.ensures.placed

pub returns-in-Err-modules_of-clause-placed : goal.returns-in-Err-modules_of-clause-placed
returns-in-Err-modules_of-clause-placed c = λ told h. source_weaker _ _ (λ line k. inl k) c.in-Err-modules_of.refusal (c.in-Err-modules_of.ensures.placed told h)

pub returns-clause-texts : goal.returns-clause-texts
returns-clause-texts c = λ read. record {
  are = c.in-Ok-modules_of.ensures.meanings read;
  built = c.in-Ok.built;
  program = c.in-Ok.ensures.program read;
  asked = subst (λ q. IsAsked c.in-Ok.built.table c.in-Ok.built.signature q c.ask.new.built.assembled.program.bank c.in-Ok-ask.typed) c.as_bytes.ensures.value c.in-Ok-ask.ensures.asked;
}
