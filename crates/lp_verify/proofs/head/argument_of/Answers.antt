use Rattle.lp_verify.proofs.HeadTypes.{takes_told, takes_none}
use Rattle.lp_verify.proofs.head.argument_of.Goals as goal

pub returns-in-Some : goal.returns-in-Some
returns-in-Some c = λ T h. takes_told c.args.types.now T c.as_arrow.result c.in-Some.from _ c.in-Some.is (c.as_arrow.ensures T h)

pub returns-in-None : goal.returns-in-None
returns-in-None c = λ T h. takes_none c.args.types.now T c.as_arrow.result c.in-None.is (c.as_arrow.ensures T h)
