use Rattle.std.proofs.Common.{sym, subst as transport, true≢false}
use Rattle.lp_calculus.specs.Term.{eigen, logic}
use Rattle.lp_term.specs.Nodes.{node_tree}
use Rattle.lp_term.specs.Shapes.{term_shape}
use Rattle.lp_term.specs.Facts.{AreFacts}
use Rattle.lp_term.proofs.bank.Bank.facts_of.Goals as goal

pub returns-in-Eigen : goal.returns-in-Eigen
returns-in-Eigen c =
    transport (λ n. AreFacts c.of_atom-in-Eigen.result (node_tree c.args.self.now (term_shape n))) (sym c.in-Eigen.is) (c.of_atom-in-Eigen.ensures (eigen c.in-Eigen.field-0) (λ e. absurd (true≢false (sym e))))

pub returns-in-Logic : goal.returns-in-Logic
returns-in-Logic c =
    transport (λ n. AreFacts c.of_atom-in-Logic.result (node_tree c.args.self.now (term_shape n))) (sym c.in-Logic.is) (c.of_atom-in-Logic.ensures (logic c.in-Logic.id c.in-Logic.level) (λ e. absurd (true≢false (sym e))))
