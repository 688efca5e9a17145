use Rattle.std.proofs.Common.{refl}
use Rattle.lp_infer.proofs.Acting.{close_acts}
use Rattle.lp_infer.proofs.generate.Typing.close.Goals as goal

pub returns : goal.returns
returns c =
    close_acts c.args.self.now _ c.in-Some-pop.from c.in-Some.to c.in_ok-id.id c.pop-2.new.self.items c.pop.new.self.items c.in-Some-pop.ensures.items c.in-Some.ensures.items c.put_arrow.ensures.kept (c.in_ok-id.ensures.within, c.in_ok-id.ensures.tree) refl c.in_ok-push.ensures.items refl refl refl
