use Rattle.std.proofs.Common.{subst, sym}
use Rattle.lp_plain.specs.Entries.{IsListAt}
use Rattle.lp_plain.specs.WrittenTable.{PutsList}
use Rattle.lp_plain.proofs.OwnValues.{one_read}
use Rattle.lp_plain.proofs.attempt.put_body.Goals as goal

pub returns-clause-body : goal.returns-clause-body
returns-clause-body c = λ r e a gs es h b.
    let m = c.args.machine.now in
    let q = one_read m.table.rules.items c.args.rule r c.rule-found.result.now e c.rule-found.ensures in
    c.in_ok-goals.ensures.reads a gs es (subst (λ x. IsListAt m c.args.place x.body gs) q h) b

pub returns-clause-puts : goal.returns-clause-puts
returns-clause-puts c = λ r e.
    let m = c.args.machine.now in
    let q = one_read m.table.rules.items c.args.rule r c.rule-found.result.now e c.rule-found.ensures in
    subst (λ x. PutsList m c.put_list.new.self x.body c.args.place c.args.behind) (sym q) c.in_ok-goals.ensures.puts
