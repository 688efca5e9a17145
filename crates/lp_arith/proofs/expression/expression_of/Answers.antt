use Rattle.std.proofs.Common.{refl, sym, subst}
use Rattle.lp_calculus.specs.Term.{Term}
use Rattle.lp_calculus.specs.Convert.{Reduces}
use Rattle.lp_store.specs.Reading.{Reads}
use Rattle.lp_lemmas.proofs.Results.{passed_up}
use Rattle.lp_arith.specs.Stands.{StandsExpression}
use Rattle.lp_arith.specs.inner.Frames.{IsExpression}
use Rattle.lp_arith.specs.inner.Refusals.{IsUnseen}
use Rattle.lp_arith.proofs.Looks.{looked, expression_stands}
use Rattle.lp_arith.proofs.Operations.{unseen}
use Rattle.lp_arith.proofs.expression.expression_of.Goals as goal

pub returns-clause-is : goal.returns-clause-is
returns-clause-is c = λ t r.
    let z = c.spine_of.new.store in
    subst (λ e. (y : Term) × Reduces t y × IsExpression z e y) (sym c.told.ensures)
    (looked z c.in_ok-spine.spine c.cell-cell.result c.cell-cell.ensures.cell c.in_ok-spine.ensures.top c.arguments.result.now c.arguments.ensures.cells t (c.in_ok-spine.ensures.spine t r))

pub returns-clause-stands : goal.returns-clause-stands
returns-clause-stands c =
    let z = c.spine_of.new.store in
    subst (StandsExpression z) (sym c.told.ensures) (expression_stands z c.in_ok-spine.spine.head c.cell-cell.result c.arguments.result.now c.in_ok-spine.ensures.there.0 c.arguments.ensures.within)

pub returns-in_err-spine-clause-refused : goal.returns-in_err-spine-clause-refused
returns-in_err-spine-clause-refused c =
    passed_up c.from_residual.result _ (λ e. (t : Term) → Reads c.args.store.now c.args.term.0 t → IsUnseen t e) c.from_residual.ensures.1 (λ t r. unseen t c.in_err-spine.field-0.0 _ (c.in_err-spine.ensures.refused t r) refl)
