use Rattle.lp_plain.proofs.atomic.number.Goals as goal

pub returns : goal.returns
returns c = record { outcome = c.in_ok-outcome.outcome; evaluated = record { bank = c.in_ok-outcome.ensures.bank; value = c.in_ok-outcome.ensures.value }; is = c.number_of.ensures }
