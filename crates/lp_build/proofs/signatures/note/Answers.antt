use Rattle.lp_build.proofs.signatures.note.Goals as goal

pub returns-in_ok-push-in-Ok-clause-noted : goal.returns-in_ok-push-in-Ok-clause-noted
returns-in_ok-push-in-Ok-clause-noted c = λ none. (none, (c.in-Ok.signature, c.in-Ok.is, c.in_ok-push-in-Ok.ensures.items))
