use Rattle.std.proofs.Common.{refl}
use Rattle.lp_infer.proofs.generate.Typing.equate.Goals as goal

pub returns : goal.returns
returns c = record { types = refl; context = refl; pairs = c.in_ok-push.ensures.items; wanted = refl; stack = refl; next = refl }
