use Rattle.lp_plain.proofs.Within.{longer_list}
use Rattle.std.proofs.Common.{◌≡◌, [], ◌∷◌, ◌++◌, length, refl, sym, ap, ◌∙◌, arith, append_assoc}
use Rattle.std.specs.Vec.{vec_len}
use Rattle.lp_normal.specs.Within.{clause_term_bound}
use Rattle.std.proofs.lemmas.List.{nil_from_length}
use Rattle.lp_plain.proofs.Tabled.{put_nothing, clauses_put, clauses_done}
use Rattle.lp_plain.proofs.Within.{stays_same, clauses_stay, stays_all}
use Rattle.lp_plain.proofs.table.Table.add_clauses.Goals as goal

pub clauses-init : goal.clauses-init
clauses-init c = (refl, ([], refl, put_nothing c.args.bank.now c.args.self.now c.args.waiting.now.items _ _ (omega arith) refl, stays_same _ _ _ _))

pub clauses-preserved : goal.clauses-preserved
clauses-preserved c =
    let i = c.clauses.invariant in (
      c.in_ok-add_clause.ensures.goals ∙ i.0,
      (
        i.1.0 ++ c.in-Some.clause.now ∷ [],
        i.1.1 ∙ ap (λ l. i.1.0 ++ l) c.in-Some.ensures.cases.0 ∙ sym (append_assoc i.1.0 (c.in-Some.clause.now ∷ []) c.in-Some.others.now),
        clauses_put c.args.bank.now _ _ _ _ _ _ (length c.args.self.now.rules.items) i.1.0 c.in-Some.clause.now i.1.2 c.in_ok-add_clause.ensures.put c.in_ok-add_clause.ensures.one,
        clauses_stay _ _ _ _ _ _ _ i.1.0 c.in-Some.clause.now i.1.3 c.in_ok-add_clause.ensures.within,
      ),
    )

pub returns-clause-put : goal.returns-clause-put
returns-clause-put c =
    let i = c.clauses.invariant in
    let from : c.len-from.result ≡ length c.args.self.now.rules.items = omega (arith, c.len-from.ensures, c.args.self.now.rules.ok) in
    let e : c.len-to.result ≡ vec_len c.clauses.self.rules = c.len-to.ensures in
    let to : c.len-to.result ≡ length c.clauses.self.rules.items = omega (arith, e, c.clauses.self.rules.ok) in
    clauses_done c.args.bank.now c.args.self.now c.clauses.self c.args.waiting.now.items c.clauses.waiting.items c.args.clauses.now i.1.0
    c.clauses.rest.now _ _ c.len-from.result c.len-to.result i.1.2 i.1.1
    (nil_from_length c.clauses.rest.now c.in_default.ensures.cases) from to

pub returns-clause-within : goal.returns-clause-within
returns-clause-within c =
    let i = c.clauses.invariant in
    stays_all clause_term_bound _ _ _ _ _ c.args.clauses.now i.1.0 c.clauses.rest.now i.1.3 i.1.1 (nil_from_length c.clauses.rest.now c.in_default.ensures.cases)

pub returns-clause-ends : goal.returns-clause-ends
returns-clause-ends c =
    let e : c.len-to.result ≡ vec_len c.clauses.self.rules = c.len-to.ensures in
    omega (arith, e, c.clauses.self.rules.ok)

pub returns-clause-from : goal.returns-clause-from
returns-clause-from c =
    let from : c.len-from.result ≡ length c.args.self.now.rules.items = omega (arith, c.len-from.ensures, c.args.self.now.rules.ok) in
    let e : c.len-to.result ≡ vec_len c.clauses.self.rules = c.len-to.ensures in
    let to : c.len-to.result ≡ length c.clauses.self.rules.items = omega (arith, e, c.clauses.self.rules.ok) in
    let l = longer_list c.args.self.now.rules.items c.clauses.self.rules.items c.clauses.invariant.1.2.rules in
    (from, omega (arith, from, to, l))
