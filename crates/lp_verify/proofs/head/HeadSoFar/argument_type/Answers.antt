use Rattle.std.proofs.Common.{◌∙◌, None, sym, subst}
use Rattle.lp_code.specs.Symbolic.{argument_type, result_type}
use Rattle.lp_verify.specs.inner.Stack.{Agree}
use Rattle.lp_verify.specs.inner.FirstNumbers.{IsType}
use Rattle.lp_verify.proofs.HeadTypes.{argument_now, argument_there, argument_missing}
use Rattle.lp_verify.proofs.head.HeadSoFar.argument_type.Goals as goal

pub returns-then-number-self : goal.returns-then-number-self
returns-then-number-self c = λ T whole left. argument_now c.args.types.now T c.args.number c.args.self.now.arguments c.argument_of.result (sym c.from-number.ensures ∙ c.if-number-self.true) (c.argument_of.ensures (result_type T c.args.self.now.arguments) left)

pub returns-in-Some : goal.returns-in-Some
returns-in-Some c = λ T whole left.
    let x = c.args.types.now in
    subst (λ n. Agree (IsType x) c.argument_of-in-Some.result (argument_type T n)) c.from-number.ensures (argument_there x T c.from-number.result c.left_at.result c.in-Some.left c.argument_of-in-Some.result c.in-Some.is (c.left_at.ensures T whole) c.argument_of-in-Some.ensures)

pub returns-in-None : goal.returns-in-None
returns-in-None c = λ T whole left.
    let x = c.args.types.now in
    subst (λ n. Agree (IsType x) None (argument_type T n)) c.from-number.ensures (argument_missing x T c.from-number.result c.left_at.result c.in-None.is (c.left_at.ensures T whole))
