use Rattle.std.proofs.Common.{refl}
use Rattle.lp_unify.proofs.Apart.{settling_made, settling_stays, variable_stays}
use Rattle.lp_unify.proofs.settle.visit_variable.Goals as goal

pub returns-clause-work : goal.returns-clause-work
returns-clause-work c =
    let o = c.args.store.now in
    let p = c.pattern_of.new.store in
    let z = c.put_pattern.new.store in
    let x = c.args.side.now.variable.0 in
    let ts = c.args.work.now.tasks.items in
    let ms = c.args.work.now.made.items in
    let h = variable_stays o p x c.in_ok-pattern.ensures c.requires.variable in
    settling_made z x ts ts ms _ c.in_ok-made.made refl c.in_ok-push.ensures.items c.in_ok-made.ensures.apart
    (settling_stays p z x ts ms c.in_ok-made.ensures.stays h (settling_stays o p x ts ms c.in_ok-pattern.ensures c.requires.variable c.requires.work))
