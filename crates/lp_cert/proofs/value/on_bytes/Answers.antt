use Rattle.std.proofs.Common.{◌∙◌, length, refl, subst, sym}
use Rattle.std.specs.Prelude.{FitsSigned}
use Rattle.std.specs.Int.{w64}
use Rattle.std.proofs.lemmas.Int.{to_z-of_z}
use Rattle.lp_cert.proofs.Evaluating.{by_size, no_size, size_overflows}
use Rattle.lp_cert.proofs.value.on_bytes.Goals as goal

pub returns-in-Ok : goal.returns-in-Ok
returns-in-Ok c = λ end.
    let f : FitsSigned w64 c.in-Ok.size = subst (FitsSigned w64) (sym c.in-Ok.ensures.1) c.in-Ok.ensures.0 in
    by_size end c.args.operation c.args.bytes.now _ (length c.args.bytes.now) (c.if-operation-size_of.false ∙ c.number-size_of.ensures.number) refl (c.in-Ok.ensures.0, to_z-of_z w64 c.in-Ok.size f ∙ c.in-Ok.ensures.1)

pub returns-then-operation-size_of : goal.returns-then-operation-size_of
returns-then-operation-size_of c = λ end. no_size c.args.operation c.args.bytes.now (λ e. c.if-operation-size_of.true (e ∙ sym c.number-size_of.ensures.number))

pub returns-in-Err : goal.returns-in-Err
returns-in-Err c = λ end. size_overflows c.args.operation c.args.bytes.now (c.if-operation-size_of.false ∙ c.number-size_of.ensures.number) c.in-Err.ensures
