use Rattle.std.proofs.Common.{ap, sym, subst}
use Rattle.std.proofs.lemmas.Result.{on_ok_weaker}
use Rattle.lp_lemmas.proofs.Results.{on_ok_always}
use Rattle.lp_sig.specs.Said.{fixities_in, of_step}
use Rattle.lp_sig.specs.Abbreviations.{one_text}
use Rattle.lp_sig.specs.Holding.{Follows}
use Rattle.lp_sig.specs.Walking.{HasText}
use Rattle.lp_sig.specs.Knowing.{KnowsOperators}
use Rattle.lp_sig.specs.Declares.{Declares}
use Rattle.lp_sig.proofs.DeclaredConstants.{nothing_declares}
use Rattle.lp_sig.proofs.Seeing.{nothing_follows}
use Rattle.lp_sig.proofs.Spoken.{at_enter, at_declare}
use Rattle.lp_sig.proofs.texts.take.Goals as goal

pub returns-in-Enter-clause-operators : goal.returns-in-Enter-clause-operators
returns-in-Enter-clause-operators c = on_ok_always c.enter.result _ (λ said k. subst (KnowsOperators c.args.making.now.operators) (at_enter fixities_in c.args.sources.now c.args.texts.now c.args.step c.in-Enter.at said c.in-Enter.is) k)

pub returns-in-Declare-clause-operators : goal.returns-in-Declare-clause-operators
returns-in-Declare-clause-operators c = on_ok_weaker c.declare.result (λ h said k. subst (KnowsOperators c.declare.new.making.operators) (at_declare fixities_in c.args.sources.now c.args.texts.now c.args.step c.in-Declare.at said c.in-Declare.is) (h said k)) c.declare.ensures.operators

pub returns-in-Enter-clause-seen : goal.returns-in-Enter-clause-seen
returns-in-Enter-clause-seen c = on_ok_always c.enter.result _ (nothing_follows c.args.making.now (of_step one_text c.args.sources.now c.args.texts.now c.args.step) (ap (of_step one_text c.args.sources.now c.args.texts.now) c.in-Enter.is))

pub returns-in-Declare-clause-seen : goal.returns-in-Declare-clause-seen
returns-in-Declare-clause-seen c = on_ok_weaker c.declare.result (λ h. subst (λ s. Follows c.args.making.now c.declare.new.making (of_step one_text c.args.sources.now c.args.texts.now s)) (sym c.in-Declare.is) h) c.declare.ensures.seen

pub returns-in-Enter-clause-constants : goal.returns-in-Enter-clause-constants
returns-in-Enter-clause-constants c = on_ok_always c.enter.result _ (nothing_declares c.args.making.now (of_step one_text c.args.sources.now c.args.texts.now c.args.step) (ap (of_step one_text c.args.sources.now c.args.texts.now) c.in-Enter.is))

pub returns-in-Declare-clause-constants : goal.returns-in-Declare-clause-constants
returns-in-Declare-clause-constants c = on_ok_weaker c.declare.result (λ h. subst (λ s. Declares c.args.making.now c.declare.new.making (of_step one_text c.args.sources.now c.args.texts.now s)) (sym c.in-Declare.is) h) c.declare.ensures.constants

pub enter-requires-clause-source : goal.enter-requires-clause-source
enter-requires-clause-source c = (subst (HasText c.args.sources.now c.args.texts.now) c.in-Enter.is c.requires).source

pub enter-requires-clause-text : goal.enter-requires-clause-text
enter-requires-clause-text c = (subst (HasText c.args.sources.now c.args.texts.now) c.in-Enter.is c.requires).text

pub declare-requires-clause-source : goal.declare-requires-clause-source
declare-requires-clause-source c = (subst (HasText c.args.sources.now c.args.texts.now) c.in-Declare.is c.requires).source

pub declare-requires-clause-text : goal.declare-requires-clause-text
declare-requires-clause-text c = (subst (HasText c.args.sources.now c.args.texts.now) c.in-Declare.is c.requires).text
