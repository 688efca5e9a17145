use Rattle.lp_verify.proofs.HeadTypes.{left_behind, left_same}
use Rattle.lp_verify.proofs.head.HeadSoFar.left_behind.Goals as goal

pub returns-in-Some : goal.returns-in-Some
returns-in-Some c = λ T n h. left_behind c.args.types.now T n c.args.self.now.left _ c.in-Some.to c.as_arrow.result c.in-Some.is c.as_arrow.ensures h

pub returns-in-None : goal.returns-in-None
returns-in-None c = λ T n h. left_same c.args.types.now T n c.args.self.now.left c.as_arrow.result c.in-None.is c.as_arrow.ensures h
