use Rattle.std.proofs.Common.{◌≤◌, map, length, sym, subst, arith}
use Rattle.lp_model.specs.Flattened.{clauses_of}
use Rattle.lp_normal.specs.Within.{highest, clause_term_bound}
use Rattle.lp_plain.specs.Tables.{AreClausesOf}
use Rattle.lp_plain.proofs.Tabled.{rules_on, put_first, put_counted, all_filled, all_kept}
use Rattle.lp_plain.proofs.Within.{table_stays, longer_list}
use Rattle.lp_plain.proofs.table.Table.put_clauses.Goals as goal

pub fill-requires : goal.fill-requires
fill-requires c =
    put_counted c.args.bank.now c.args.self.now c.add_clauses.new.self c.add_clauses.new.waiting.items _ c.len-first.result _
    (put_first c.args.bank.now c.args.self.now c.add_clauses.new.self c.new-waiting.result.items c.add_clauses.new.waiting.items _ _
    c.new-waiting.ensures.items c.in_ok-span.ensures.put) (omega (arith, c.len-first.ensures, c.args.self.now.lists.ok))

pub returns-clause-means : goal.returns-clause-means
returns-clause-means c =
    let b = c.args.bank.now in
    let p = (put_first c.args.bank.now c.args.self.now c.add_clauses.new.self c.new-waiting.result.items c.add_clauses.new.waiting.items _ _ c.new-waiting.ensures.items c.in_ok-span.ensures.put) in
    subst (λ l. AreClausesOf b c.fill.new.self c.in_ok-span.span (clauses_of b l)) c.as_slice.ensures.value
    (rules_on b _ _ _ _ (all_filled b c.args.self.now c.add_clauses.new.self c.fill.new.self c.add_clauses.new.waiting.items _ _ p c.len-first.result
    (omega (arith, c.len-first.ensures, c.args.self.now.lists.ok)) c.in_ok-fill.ensures.filled)
    c.in_ok-span.span.from c.in_ok-span.span.to (clauses_of b c.as_slice.result.now) p.means)

pub returns-clause-kept : goal.returns-clause-kept
returns-clause-kept c =
    all_kept c.args.bank.now c.args.self.now c.add_clauses.new.self c.fill.new.self c.add_clauses.new.waiting.items _ _
    (put_first c.args.bank.now c.args.self.now c.add_clauses.new.self c.new-waiting.result.items c.add_clauses.new.waiting.items _ _
    c.new-waiting.ensures.items c.in_ok-span.ensures.put) c.len-first.result (omega (arith, c.len-first.ensures, c.args.self.now.lists.ok))
    c.in_ok-fill.ensures.filled

pub returns-clause-within : goal.returns-clause-within
returns-clause-within c = λ i t.
    let n = length c.args.bank.now.terms in
    table_stays n _ _ _ _ _ _ c.new-waiting.ensures.items c.in_ok-span.ensures.within c.in_ok-fill.ensures.within
    (subst (λ l. highest (map clause_term_bound l) ≤ n) (sym c.as_slice.ensures.value) i.terms) t

pub returns-clause-ends : goal.returns-clause-ends
returns-clause-ends c =
    let l = longer_list c.add_clauses.new.self.rules.items c.fill.new.self.rules.items c.in_ok-fill.ensures.filled.rules in
    let e = c.in_ok-span.ensures.ends in
    omega (arith, l, e)

pub returns-clause-from : goal.returns-clause-from
returns-clause-from c = let e = c.in_ok-span.ensures.from in let a = e.0 in (omega (arith, a), e.1)
