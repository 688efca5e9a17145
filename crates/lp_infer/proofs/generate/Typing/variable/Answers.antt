use Rattle.std.proofs.Common.{subst}
use Rattle.std.proofs.lemmas.Result.{on_ok_weaker}
use Rattle.lp_infer.specs.Running.{act}
use Rattle.lp_infer.specs.Postfix.{is_index}
use Rattle.lp_infer.specs.Making.{Acts}
use Rattle.lp_infer.proofs.generate.Typing.variable.Goals as goal

pub returns : goal.returns
returns c = on_ok_weaker c.index.result (λ h. subst (λ i. Acts c.args.self.now c.index.new.self (act (is_index i))) c.index_of-index.ensures h) c.index.ensures
