use Rattle.std.proofs.Common.{◌≡◌, ◌∙◌, ◌+◌, ◌-◌, take, drop, refl, sym, ap, arith}
use Rattle.std.proofs.lemmas.Result.{on_ok_weaker}
use Rattle.lp_infer.proofs.FillingSteps.{constant_forms}
use Rattle.lp_infer.proofs.terms.Terms.constant.Goals as goal

pub returns-clause-formed : goal.returns-clause-formed
returns-clause-formed c = on_ok_weaker c.push.result (λ P scheme e.
    let used = c.args.self.now.used in
    let many : used + c.args.count - used ≡ scheme.count = omega (arith, e) in
    constant_forms c.args.bank.now c.put_constant.new.bank c.args.types.now _ c.args.self.now _ c.push.new.self c.args.number scheme c.in_ok-head.head c.in_ok-head.ensures.kept refl (ap (λ n. used + n) (sym e))
    (ap (λ n. take n (drop used c.args.types.now)) many) (c.in_ok-head.ensures.within, c.in_ok-head.ensures.tree) P) c.push.ensures

pub returns-clause-used : goal.returns-clause-used
returns-clause-used c = on_ok_weaker c.push.result (λ P. P.used) c.push.ensures
