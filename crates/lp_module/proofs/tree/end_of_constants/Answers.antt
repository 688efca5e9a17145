use Rattle.std.proofs.Common.{◌≡◌, ◌<◌, ◌-◌, ap, length, arith}
use Rattle.lp_base.specs.declared.limit.Limit.TheVariants as limit
use Rattle.lp_term.proofs.Moves.{passed_up}
use Rattle.lp_module.specs.Copies.{constants_end}
use Rattle.lp_module.specs.declared.fault.ModuleFault.TheVariants as fault
use Rattle.lp_module.proofs.Uses.{sum_begun, begun_passed}
use Rattle.lp_module.proofs.tree.end_of_constants.Goals as goal

pub returns-in_err-all-clause-refused : goal.returns-in_err-all-clause-refused
returns-in_err-all-clause-refused c =
    passed_up c.from_residual.result c.in_err-all.field-0.0 (λ e. (e ≡ fault.Limit limit.Names) × (1048576 < constants_end c.args.modules.now c.args.root c.args.order.now.items)) c.from_residual.ensures.1 (
      c.in_err-all.ensures.refused.0,
      begun_passed (λ x. length x.hidden_constants.items) (λ x. length x.signature.constants.items - length x.hidden_constants.items) 32 c.args.root
          c.args.modules.now c.args.order.now.items c.index-modules-root.result c.exported-exported.result c.requires.root c.index-modules-root.is
          (omega (arith, c.exported-exported.ensures, ap length c.constants.ensures, c.len.ensures, c.index-modules-root.result.hidden_constants.ok))
          c.in_err-all.ensures.refused.1,
    )

pub loop-at-init : goal.loop-at-init
loop-at-init c = (
  sum_begun (λ x. length x.hidden_constants.items) (λ x. length x.signature.constants.items - length x.hidden_constants.items) 32 c.args.root
      c.args.modules.now c.args.order.now.items c.index-modules-root.result c.exported-exported.result c.in_ok-all.all c.requires.root
      c.index-modules-root.is (omega (
        arith,
        c.exported-exported.ensures,
        ap length c.constants.ensures,
        c.len.ensures,
        c.index-modules-root.result.hidden_constants.ok,
      )) c.in_ok-all.ensures.sum.0,
  c.in_ok-all.ensures.sum.1,
)
