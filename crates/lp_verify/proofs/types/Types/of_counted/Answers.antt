use Rattle.std.proofs.Common.{◌∙◌, sym}
use Rattle.std.proofs.lemmas.Result.{IfOk-weaker}
use Rattle.lp_code.specs.Naming.{scheme_in}
use Rattle.lp_verify.proofs.UsedConstants.{types_same, wrong_count, right_count}
use Rattle.lp_verify.proofs.types.Types.of_counted.Goals as goal

pub returns-then-from-types-clause-grow : goal.returns-then-from-types-clause-grow
returns-then-from-types-clause-grow c = types_same c.args.self.now

pub returns-then-from-types-clause-made : goal.returns-then-from-types-clause-made
returns-then-from-types-clause-made c = wrong_count c.args.self.now c.args.constant (scheme_in c.args.bank.now c.args.scheme.type_vars c.args.scheme.body.0) c.args.types.now (λ e. c.if-from-types.true (c.from.ensures ∙ e))

pub returns-clause-made : goal.returns-clause-made
returns-clause-made c =
    let x = c.args.self.now in
    let y = c.of_constant.new.self in
    let s = scheme_in c.args.bank.now c.args.scheme.type_vars c.args.scheme.body.0 in
    IfOk-weaker c.of_constant.result _ _ (λ i m. right_count x y c.args.constant s c.args.types.now i (sym c.from.ensures ∙ c.if-from-types.false) m) c.of_constant.ensures.made
