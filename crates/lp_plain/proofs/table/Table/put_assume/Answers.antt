use Rattle.std.proofs.Common.{length, arith}
use Rattle.lp_model.specs.Flattened.{goals_of, clauses_of}
use Rattle.lp_plain.proofs.Tabled.{assume_put}
use Rattle.lp_plain.proofs.Within.{stays_then, stays_behind}
use Rattle.lp_plain.proofs.table.Table.put_assume.Goals as goal

pub returns-clause-put : goal.returns-clause-put
returns-clause-put c =
    let b = c.args.bank.now in
    let f = c.in_ok-free.ensures in
    assume_put b _ _ _ _ _ _ _ (clauses_of b c.args.clauses.now) (goals_of b c.args.goals.now) c.in_ok-assumed.assumed c.in_ok-list.list c.in_ok-free.free c.in_ok-written.written c.in_ok-assumed.ensures.put (c.in_ok-list.ensures.put b)
    f.goals f.lists f.rules f.frees f.number c.in_ok-written.ensures

pub returns-clause-within : goal.returns-clause-within
returns-clause-within c =
    let n = length c.args.bank.now.terms in
    let f = c.in_ok-free.ensures in
    stays_behind n _ _ _ _ _ _ (stays_then n _ _ _ _ _ _ _ _ _ (λ h. omega (arith, h)) (λ h. omega (arith, h)) c.in_ok-assumed.ensures.within (c.in_ok-list.ensures.within n)) f.goals f.rules

pub returns-clause-flat : goal.returns-clause-flat
returns-clause-flat c = λ n. tt
