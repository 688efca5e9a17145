use Rattle.std.proofs.Common.{◌<◌, length, arith, refl}
use Rattle.lp_plain.proofs.ListReads.{read_at}
use Rattle.lp_plain.proofs.Indexes.{set_is}
use Rattle.lp_plain.proofs.candidates.link.Goals as goal

pub returns : goal.returns
returns c =
    let v = c.in-Some.ensures.variant.0 refl in
    let l : c.args.number < length c.args.rules.now.items = omega (arith, v, c.args.rules.now.ok) in
    set_is c.args.rules.now.items c.args.number c.in-Some.rule.now c.args.next (read_at c.args.rules.now.items c.args.rules.now.items c.args.number c.in-Some.rule.now _ refl l c.in-Some.ensures.value)
