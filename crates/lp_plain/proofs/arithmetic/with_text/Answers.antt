use Rattle.lp_standard.specs.Constants.{number}
use Rattle.lp_term.proofs.Trees.{extends_same}
use Rattle.lp_plain.proofs.ValuesGiven.{text_number, two_texts}
use Rattle.lp_plain.proofs.arithmetic.with_text.Goals as goal

pub returns-in-Number-clause-kept : goal.returns-in-Number-clause-kept
returns-in-Number-clause-kept c = extends_same c.args.bank.now

pub returns-in-Number-clause-gives : goal.returns-in-Number-clause-gives
returns-in-Number-clause-gives c = λ s y p i. text_number c.args.bank.now (number c.args.operation) s _ c.args.right c.in-Number.is y i

pub returns-in_ok-outcome-in-Text-clause-gives : goal.returns-in_ok-outcome-in-Text-clause-gives
returns-in_ok-outcome-in-Text-clause-gives c = λ s y p i.
    two_texts c.args.bank.now c.on_texts.new.bank (number c.args.operation) c.in_ok-outcome-in-Text.outcome s c.in-Text.other c.args.right c.in-Text.is (λ t q. c.in_ok-outcome-in-Text.ensures.gives s t p q) y i
