use Rattle.std.proofs.Common.{◌≡◌, ◌++◌, ◌+◌, get_or, drop, subst}
use Rattle.std.specs.Prelude.{filter_map}
use Rattle.std.proofs.lemmas.List.{drop_more}
use Rattle.lp_verify.specs.Held.{value_in}
use Rattle.lp_verify.proofs.KeptRegisters.{one_collected}
use Rattle.lp_verify.proofs.registers.Registers.all.Goals as goal

pub loop-register-preserved : goal.loop-register-preserved
loop-register-preserved g c =
    let ds = c.args.registers.now in
    let n = c.loop-register.register-index in
    let f = value_in c.args.self.now in
    let vs = c.loop-register.values.items in
    one_collected f vs c.push_some.new.values.items (get_or ds n 0) (drop (n + 1) ds) ds c.get.result c.in_ok-push_some.ensures c.get.ensures (subst (λ l. vs ++ filter_map f l ≡ filter_map f ds) (drop_more ds n 0 c.loop-register-test.true) c.loop-register.invariant)
