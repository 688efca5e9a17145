use Rattle.lp_module.proofs.Parting.{pushes_two}
use Rattle.lp_module.proofs.judge.Parts.push_both.Goals as goal

pub returns : goal.returns
returns c = λ b p l r i h k x y. pushes_two b c.args.self.now c.push.new.self c.push-2.new.self c.args.task c.args.goal c.args.left c.args.right p l r c.in_ok-push.ensures c.in_ok-push-2.ensures i h k x y
