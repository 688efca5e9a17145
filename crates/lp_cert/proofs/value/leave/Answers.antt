use Rattle.std.proofs.Common.{refl}
use Rattle.lp_cert.proofs.Evaluating.{left_one, leaves_left, leaves_right}
use Rattle.lp_cert.proofs.value.leave.Goals as goal

pub returns-in-One-clause-leads : goal.returns-in-One-clause-leads
returns-in-One-clause-leads c = left_one c.args.texts.now.bytes.items c.args.innermost c.in-One.operation c.args.value c.on_one.result c.args.around.now.items c.in-One.is c.on_one.ensures

pub returns-in_ok-push-in-Left-clause-leads : goal.returns-in_ok-push-in-Left-clause-leads
returns-in_ok-push-in-Left-clause-leads c = λ b end g o h. leaves_left b end c.args.innermost c.in-Left.operation c.in-Left.right c.args.value c.args.around.now.items c.push.new.self.items o c.in-Left.is c.in_ok-push-in-Left.ensures.items h

pub returns-in-Right-clause-leads : goal.returns-in-Right-clause-leads
returns-in-Right-clause-leads c = leaves_right c.on_two.new.texts.bytes.items c.args.innermost c.in-Right.operation c.in-Right.left c.args.value c.on_two.result c.args.around.now.items c.args.around.now.items c.in-Right.is refl c.on_two.ensures.gives
