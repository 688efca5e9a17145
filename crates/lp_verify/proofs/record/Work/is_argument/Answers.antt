use Rattle.lp_code.specs.Symbolic.{argument_type}
use Rattle.lp_code.specs.Steps.{head_built}
use Rattle.lp_code.specs.Rules.{has_type}
use Rattle.lp_verify.specs.inner.Indices.{store}
use Rattle.lp_verify.proofs.TermsMade.{head_argument, fine_makes}
use Rattle.lp_verify.proofs.record.Work.is_argument.Goals as goal

pub returns : goal.returns
returns c = λ l h s T b k t e f v.
    let x = c.args.types.now in
    let p = argument_type (head_built h s).type c.args.number in
    let a = head_argument x c.args.self.now h s c.args.number c.argument_type-found.result k c.argument_type-found.ensures in
    fine_makes (store x l) c.has_type-holds.result (has_type p T) b c.fine_where.result (c.has_type-holds.ensures x p T a t) (c.fine_where.ensures (store x l) b e f v)
