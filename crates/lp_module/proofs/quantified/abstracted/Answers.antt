use Rattle.std.proofs.Common.{subst, map}
use Rattle.lp_term.specs.Facts.{IsNoAbstraction}
use Rattle.lp_term.specs.Nodes.{tree}
use Rattle.lp_module.proofs.Parting.{applied, some_of}
use Rattle.lp_module.proofs.quantified.abstracted.Goals as goal

pub returns-in-App-clause-none : goal.returns-in-App-clause-none
returns-in-App-clause-none c = λ e. subst IsNoAbstraction c.in-App.ensures.tree (applied IsNoAbstraction (λ t u. tt) (tree c.args.bank.now c.in-App.field-0.0) _ (some_of (tree c.args.bank.now) (map (λ t. t.0) c.in-App.field-1.now) c.in-App.ensures.within.2))
