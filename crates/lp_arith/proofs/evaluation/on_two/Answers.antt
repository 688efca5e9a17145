use Rattle.std.proofs.Common.{◌≡◌, arith, subst, w64, to_z, of_z}
use Rattle.std.proofs.lemmas.Int.{to_z-of_z}
use Rattle.lp_standard.specs.Constants.{number}
use Rattle.lp_model.specs.Values.{binary}
use Rattle.lp_arith.specs.Meaning.{IsValueIn}
use Rattle.lp_arith.proofs.Operations.{refused_passed, numbers_refuse}
use Rattle.lp_arith.proofs.evaluation.on_two.Goals as goal

pub returns-in_err-sum-in-Int-right-clause-gives : goal.returns-in_err-sum-in-Int-right-clause-gives
returns-in_err-sum-in-Int-right-clause-gives c = λ m n p q.
    let s = c.args.store.now in
    let e = c.in_err-sum-in-Int-right.field-0.0 in
    let a : to_z w64 (of_z w64 c.in-Int.one) ≡ c.in-Int.one = grind (arith, to_z-of_z) in
    let b : to_z w64 (of_z w64 c.in-Int-right.other) ≡ c.in-Int-right.other = grind (arith, to_z-of_z) in
    refused_passed s c.from_residual.result e (binary (number c.args.operation) m n) c.from_residual.ensures.1
    (numbers_refuse (number c.args.operation) c.in-Int.one c.in-Int-right.other _ _ e a b c.in_err-sum-in-Int-right.ensures m n (subst (λ x. IsValueIn s x m) c.in-Int.is p) (subst (λ x. IsValueIn s x n) c.in-Int-right.is q))
