use Rattle.std.proofs.Common.{refl}
use Rattle.lp_term.proofs.Trees.{extends_same}
use Rattle.lp_infer.proofs.Acting.{push_acts}
use Rattle.lp_infer.proofs.generate.Typing.push.Goals as goal

pub returns : goal.returns
returns c = λ T is. push_acts c.args.self.now _ c.args.id T (extends_same c.args.self.now.types) refl refl refl refl c.in_ok-push.ensures.items is
