use Rattle.std.proofs.Common.{refl}
use Rattle.lp_infer.proofs.Acting.{constant_acts}
use Rattle.lp_infer.proofs.generate.Typing.constant.Goals as goal

pub returns : goal.returns
returns c = λ before number scheme C.
    constant_acts before c.args.self.now _ c.args.arguments.now c.args.id scheme number C refl refl refl refl c.in_ok-extend_from_slice.ensures.items c.in_ok-push.ensures.items
