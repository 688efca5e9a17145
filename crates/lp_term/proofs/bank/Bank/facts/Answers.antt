use Rattle.std.proofs.Common.{◌≤◌, sym, subst as transport}
use Rattle.lp_term.specs.Facts.{AreFacts}
use Rattle.lp_term.proofs.Trees.{tree-past}
use Rattle.lp_term.proofs.bank.Bank.facts.Goals as goal

pub returns-then-id-term_count : goal.returns-then-id-term_count
returns-then-id-term_count c =
    let l = transport (λ n. n ≤ c.args.id.0) c.term_count.ensures.count c.if-id-term_count.true in
    transport (AreFacts c.of_index.result) (sym (tree-past c.args.self.now c.args.id.0 l)) c.of_index.ensures
