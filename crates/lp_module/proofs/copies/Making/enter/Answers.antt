use Rattle.std.proofs.Common.{refl}
use Rattle.lp_module.proofs.Entering.{enters_root, enters_below}
use Rattle.lp_module.proofs.copies.Making.enter.Goals as goal

pub returns-in_ok-push-in-None-clause-opened : goal.returns-in_ok-push-in-None-clause-opened
returns-in_ok-push-in-None-clause-opened c =
    enters_root c.args.self.now c.add_global_kinds.new.self c.add_global_constants.new.self c.args.around.now.items c.push.new.self.items c.as_slice.result.now (record { «module» = c.args.member; names = c.in_ok-names-in-None.names }) c.args.member.now _
    c.as_slice.ensures.value c.in-None.ensures.value c.in_ok-push-in-None.ensures.items refl c.in_ok-names-in-None.ensures c.in_ok-add_global_kinds-in-None.ensures.made.0 c.in_ok-add_global_kinds-in-None.ensures.names c.in_ok-add_global_constants-in-None.ensures.names

pub returns-in_ok-push-in-Some-clause-opened : goal.returns-in_ok-push-in-Some-clause-opened
returns-in_ok-push-in-Some-clause-opened c =
    enters_below c.args.self.now c.args.around.now.items c.push-in-Some.new.self.items c.as_slice.result.now (record { «module» = c.args.member; names = c.in_ok-names-in-Some.names }) c.in-Some.above.now c.args.member.now _
    c.as_slice.ensures.value c.in-Some.ensures.value c.in_ok-push-in-Some.ensures.items refl c.in_ok-names-in-Some.ensures
