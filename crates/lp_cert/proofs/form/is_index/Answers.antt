use Rattle.lp_cert.proofs.Endings.{no_index}
use Rattle.lp_term.specs.Nodes.{tree}
use Rattle.std.proofs.Common.{sym}
use Rattle.lp_cert.proofs.form.is_index.Goals as goal

pub returns-in-App-clause-differ : goal.returns-in-App-clause-differ
returns-in-App-clause-differ c = λ e q. no_index c.args.bank.now _ (tree c.args.bank.now c.args.term.0) c.in-App.field-1.now _ c.in-App.ensures.within.2 c.in-App.ensures.tree (sym q)
