use Rattle.std.proofs.Common.{◌≡◌, arith, subst, w64, to_z, of_z}
use Rattle.std.proofs.lemmas.Int.{to_z-of_z}
use Rattle.lp_standard.specs.Constants.{number}
use Rattle.lp_model.specs.Values.{unary}
use Rattle.lp_arith.specs.declared.value.ArithRefusal.TheVariants.{Memory}
use Rattle.lp_arith.specs.Meaning.{IsValueIn}
use Rattle.lp_arith.proofs.Operations.{refused_passed, number_gives, number_refuses, length_gives, length_refuses}
use Rattle.lp_arith.proofs.evaluation.on_one.Goals as goal

pub returns-in_ok-negative-in-Int-clause-gives : goal.returns-in_ok-negative-in-Int-clause-gives
returns-in_ok-negative-in-Int-clause-gives c = λ m p.
    let a : to_z w64 (of_z w64 c.in-Int.one) ≡ c.in-Int.one = grind (arith, to_z-of_z) in
    let b : to_z w64 (of_z w64 c.in_ok-negative-in-Int.negative) ≡ c.in_ok-negative-in-Int.negative = grind (arith, to_z-of_z) in
    number_gives c.args.store.now (number c.args.operation) c.in-Int.one _ c.in_ok-negative-in-Int.negative _ a b c.in_ok-negative-in-Int.ensures m (subst (λ x. IsValueIn c.args.store.now x m) c.in-Int.is p)

pub returns-in_err-negative-in-Int-clause-gives : goal.returns-in_err-negative-in-Int-clause-gives
returns-in_err-negative-in-Int-clause-gives c = λ m p.
    let e = c.in_err-negative-in-Int.field-0.0 in
    let a : to_z w64 (of_z w64 c.in-Int.one) ≡ c.in-Int.one = grind (arith, to_z-of_z) in
    refused_passed c.args.store.now c.from_residual.result e (unary (number c.args.operation) m) c.from_residual.ensures.1
    (number_refuses (number c.args.operation) c.in-Int.one _ e a c.in_err-negative-in-Int.ensures m (subst (λ x. IsValueIn c.args.store.now x m) c.in-Int.is p))

pub returns-in_ok-size-in-Text-clause-gives : goal.returns-in_ok-size-in-Text-clause-gives
returns-in_ok-size-in-Text-clause-gives c = λ m p.
    let b : to_z w64 (of_z w64 c.in_ok-size-in-Text.size) ≡ c.in_ok-size-in-Text.size = grind (arith, to_z-of_z) in
    length_gives c.args.store.now c.length_of.new.store (number c.args.operation) c.in_ok-count-in-Text.count c.in-Text.cell c.in_ok-size-in-Text.size _ b c.in_ok-count-in-Text.ensures.count c.in_ok-size-in-Text.ensures m
    (subst (λ x. IsValueIn c.args.store.now x m) c.in-Text.is p)

pub returns-in_err-size-in-Text-clause-gives : goal.returns-in_err-size-in-Text-clause-gives
returns-in_err-size-in-Text-clause-gives c = λ m p.
    let e = c.in_err-size-in-Text.field-0.0 in
    refused_passed c.length_of.new.store c.from_residual-in_err-size-in-Text.result e (unary (number c.args.operation) m) c.from_residual-in_err-size-in-Text.ensures.1
    (length_refuses c.args.store.now (number c.args.operation) c.in_ok-count-in-Text.count c.in-Text.cell e c.in_ok-count-in-Text.ensures.count c.in_err-size-in-Text.ensures m (subst (λ x. IsValueIn c.args.store.now x m) c.in-Text.is p))

pub returns-in_err-count-in-Text-clause-gives : goal.returns-in_err-count-in-Text-clause-gives
returns-in_err-count-in-Text-clause-gives c = λ m p.
    refused_passed c.length_of.new.store c.from_residual-in_err-count-in-Text.result Memory (unary (number c.args.operation) m) c.from_residual-in_err-count-in-Text.ensures.1 tt
