use Rattle.std.proofs.lemmas.Result.{on_ok_weaker}
use Rattle.lp_verify.proofs.KeptRegisters.{turned_over}
use Rattle.lp_verify.proofs.effect.turn_over.Goals as goal

pub returns-clause-types : goal.returns-clause-types
returns-clause-types c = on_ok_weaker c.open.result (λ e. turned_over _ _ _ c.args.types.now c.close.new.types c.close.ensures.types e) c.open.ensures.types

pub returns-clause-terms : goal.returns-clause-terms
returns-clause-terms c = on_ok_weaker c.open.result (λ e. turned_over _ _ _ c.args.terms.now c.close.new.terms c.close.ensures.terms e) c.open.ensures.terms
