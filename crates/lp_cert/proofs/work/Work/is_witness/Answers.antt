use Rattle.std.proofs.Common.{◌∙◌, sym, refl}
use Rattle.lp_cert.proofs.Naming.{of_positive}
use Rattle.lp_cert.proofs.Going.{stays_on}
use Rattle.lp_cert.proofs.Refusing.{witness_negative, witness_untyped}
use Rattle.lp_cert.proofs.work.Work.is_witness.Goals as goal

pub returns-clause-witness : goal.returns-clause-witness
returns-clause-witness c =
    of_positive c.args.bank.now c.is_closed_of.new.bank _ _ c.args.term c.args.of c.is_closed_of.result c.is_closed_of.ensures.kept (sym c.in_ok-is_positive.ensures.positive ∙ c.if-not-branch.false) c.is_closed_of.ensures.closed c.is_closed_of.ensures.typed

pub returns-clause-stays : goal.returns-clause-stays
returns-clause-stays c = stays_on c.is_closed_of.result _ _ _ (record { theory = refl; eigens = refl; assumed = refl; tasks = refl }) c.is_closed_of.ensures.stays

pub returns-then-not-branch-clause-never : goal.returns-then-not-branch-clause-never
returns-then-not-branch-clause-never c = λ e s l m b g o. witness_negative c.args.bank.now c.args.self.now c.args.term c.args.of l (sym c.in_ok-is_positive.ensures.positive ∙ c.if-not-branch.true) b g o

pub returns-clause-never : goal.returns-clause-never
returns-clause-never c =
    let w = c.args.self.now in
    witness_untyped c.args.bank.now c.is_closed_of.new.bank w (record { alloc = w.alloc; theory = w.theory; known = c.is_positive.new.self; eigens = w.eigens; assumed = w.assumed; tasks = w.tasks }) c.args.term c.args.of c.is_closed_of.result refl refl c.is_closed_of.ensures.never
