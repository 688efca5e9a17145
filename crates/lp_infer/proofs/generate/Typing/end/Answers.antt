use Rattle.std.proofs.Common.{refl}
use Rattle.std.proofs.lemmas.Result.{on_ok_weaker}
use Rattle.lp_infer.proofs.Acting.{end_made}
use Rattle.lp_infer.proofs.generate.Typing.end.Goals as goal

pub returns : goal.returns
returns c = on_ok_weaker c.equate.result (λ q. end_made c.args.self.now _ c.equate.new.self c.in-Some.has c.in_ok-goal.goal c.pop.new.self.items c.in-Some.ensures.items c.put_constructor.ensures.kept (c.in_ok-goal.ensures.within, c.in_ok-goal.ensures.tree) refl refl refl refl q) c.equate.ensures
