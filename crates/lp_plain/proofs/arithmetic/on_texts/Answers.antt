use Rattle.lp_term.proofs.Trees.{extends_same}
use Rattle.lp_plain.proofs.Operations.{other_strings}
use Rattle.lp_plain.proofs.ValuesGiven.{texts_joined}
use Rattle.lp_plain.proofs.arithmetic.on_texts.Goals as goal

pub returns-in_ok-both-in-Concatenate-clause-gives : goal.returns-in_ok-both-in-Concatenate-clause-gives
returns-in_ok-both-in-Concatenate-clause-gives c = λ s t p q.
    let e = c.in_ok-both-in-Concatenate.ensures in
    texts_joined c.joined.new.bank c.args.operation c.in_ok-both-in-Concatenate.both s t c.in-Concatenate.is (e.joined s t p q) e.within

pub returns-in_default-clause-gives : goal.returns-in_default-clause-gives
returns-in_default-clause-gives c = λ s t p q. other_strings c.args.operation s t c.in_default.not-Concatenate

pub returns-in_default-clause-kept : goal.returns-in_default-clause-kept
returns-in_default-clause-kept c = extends_same c.args.bank.now
