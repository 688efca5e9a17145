use Rattle.lp_verify.proofs.KeptRegisters.{opened}
use Rattle.std.proofs.lemmas.Result.{on_ok_weaker}
use Rattle.lp_verify.proofs.effect.open.Goals as goal

pub returns-clause-types : goal.returns-clause-types
returns-clause-types c = on_ok_weaker c.open.result (λ e. opened _ _ c.args.types.now c.height.result c.height.ensures e) c.open.ensures.types

pub returns-clause-terms : goal.returns-clause-terms
returns-clause-terms c = on_ok_weaker c.open.result (λ e. opened _ _ c.args.terms.now c.height-2.result c.height-2.ensures e) c.open.ensures.terms
