use Rattle.std.proofs.Common.{◌∙◌, subst, sym}
use Rattle.std.specs.Prelude.{FitsSigned}
use Rattle.std.specs.Int.{w64}
use Rattle.std.proofs.lemmas.Int.{to_z-of_z}
use Rattle.lp_plain.proofs.Operations.{gives_size, no_size, other_length}
use Rattle.lp_plain.proofs.operation.on_length.Goals as goal

pub returns-in-Ok : goal.returns-in-Ok
returns-in-Ok c = λ s e.
    let f : FitsSigned w64 c.in-Ok.size = subst (FitsSigned w64) (sym c.in-Ok.ensures.1) c.in-Ok.ensures.0 in
    gives_size c.args.operation s c.args.count _ c.in-Size.is e c.in-Ok.ensures.0 (to_z-of_z w64 c.in-Ok.size f ∙ c.in-Ok.ensures.1)

pub returns-in-Err : goal.returns-in-Err
returns-in-Err c = λ s e. no_size c.args.operation s c.args.count c.in-Size.is e c.in-Err.ensures

pub returns-in_default : goal.returns-in_default
returns-in_default c = λ s e. other_length c.args.operation s c.in_default.not-Size
