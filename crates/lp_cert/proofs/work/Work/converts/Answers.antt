use Rattle.std.proofs.Common.{refl}
use Rattle.lp_cert.proofs.Going.{converts_where, stays_where}
use Rattle.lp_cert.proofs.Matching.{deep_later, differ_later}
use Rattle.lp_cert.proofs.work.Work.converts.Goals as goal

pub returns-clause-stays : goal.returns-clause-stays
returns-clause-stays c = stays_where c.compare.result _ _ (record { theory = refl; eigens = refl; assumed = refl; tasks = refl })

pub returns-clause-later : goal.returns-clause-later
returns-clause-later c = converts_where c.compare.result c.args.bank.now c.compare.new.bank c.args.left c.args.right c.compare.ensures.kept c.compare.ensures.same c.compare.ensures.inside

pub returns-clause-differ : goal.returns-clause-differ
returns-clause-differ c = differ_later c.compare.result c.args.bank.now c.compare.new.bank c.args.left c.args.right c.compare.ensures.kept c.compare.ensures.differ

pub returns-clause-deep : goal.returns-clause-deep
returns-clause-deep c = deep_later c.compare.result c.args.bank.now c.compare.new.bank c.args.left c.args.right c.compare.ensures.kept c.compare.ensures.deep
