use Rattle.std.proofs.Common.{refl}
use Rattle.lp_cert.proofs.Keeping.{equated_same, equated_push}
use Rattle.lp_cert.proofs.typing.Typing.equate.Goals as goal

pub returns-then-left-right-clause-equated : goal.returns-then-left-right-clause-equated
returns-then-left-right-clause-equated c = equated_same c.args.self.now c.args.self.now c.args.left c.args.right refl refl

pub returns-clause-equated : goal.returns-clause-equated
returns-clause-equated c = equated_push c.args.self.now _ c.args.left c.args.right refl c.in_ok-push.ensures.items
