use Rattle.std.proofs.Common.{◌≡◌, ◌<◌, ◌∙◌, Some, length, refl, subst, sym, ap, arith}
use Rattle.std.specs.Prelude.{All}
use Rattle.std.proofs.lemmas.List.{length-map}
use Rattle.std.proofs.lemmas.List.Elements.{All-weaker}
use Rattle.lp_term.proofs.Trees.{extends_same, extends-trans}
use Rattle.lp_model.specs.Flatten.{flatten_query}
use Rattle.lp_plain.specs.declared.table.Table.{Table}
use Rattle.lp_plain.specs.Candidates.{numbers, unlinked}
use Rattle.lp_plain.specs.Tables.{IsListOf, Never, shown}
use Rattle.lp_plain.specs.Within.{IsTableIn}
use Rattle.lp_plain.proofs.Later.{rules_later, table_later}
use Rattle.lp_plain.proofs.LaterIndex.{index_later, spans_below}
use Rattle.lp_plain.proofs.Programs.{empty_within, program_on, rules_relinked, table_relinked}
use Rattle.lp_plain.proofs.Tabled.{rules_on}
use Rattle.lp_plain.proofs.Within.{longer_list}
use Rattle.lp_plain.proofs.start.put_all.Goals as goal

pub returns-clause-kept : goal.returns-clause-kept
returns-clause-kept c = extends-trans c.args.bank.now c.put_program.new.bank c.flat_query.new.bank c.in_ok-spans.ensures.kept c.in_ok-goals.ensures.kept

pub returns-clause-within : goal.returns-clause-within
returns-clause-within c =
    let a = c.args.bank.now in
    let b = c.put_program.new.bank in
    let d = c.flat_query.new.bank in
    let t = c.put_program.new.table in
    let u : Table = record { goals = t.goals; lists = t.lists; rules = c.index_of.new.rules; frees = t.frees } in
    let e = c.new-table.ensures in
    let i : IsTableIn (length b.terms) t = c.in_ok-spans.ensures.within (empty_within (length a.terms) c.new-table.result e.goals e.rules) in
    c.in_ok-list.ensures.within c.in_ok-goals.ensures.within (table_later b d c.in_ok-goals.ensures.kept u (table_relinked (length b.terms) t u refl c.in_ok-index.ensures.same i))

pub returns-clause-program : goal.returns-clause-program
returns-clause-program c = λ j k css h.
    let a = c.args.bank.now in
    let b = c.put_program.new.bank in
    let d = c.flat_query.new.bank in
    let t = c.put_program.new.table in
    let u : Table = record { goals = t.goals; lists = t.lists; rules = c.index_of.new.rules; frees = t.frees } in
    let v = c.put_goals.new.self in
    let e = c.new-table.ensures in
    let z = empty_within (length a.terms) c.new-table.result e.goals e.rules in
    let i : IsTableIn (length b.terms) t = c.in_ok-spans.ensures.within z in
    let r = table_relinked (length b.terms) t u refl c.in_ok-index.ensures.same i in
    program_on b d t v (λ s cs p. rules_on d Never Never (shown u) (shown v) c.in_ok-list.ensures.kept s.from s.to cs
    (rules_later b d c.in_ok-goals.ensures.kept u r s.from s.to cs (rules_relinked b t u refl refl refl c.in_ok-index.ensures.same s.from s.to cs p))) c.in_ok-spans.spans.items css (c.in_ok-spans.ensures.program z j k css h)

pub returns-clause-query : goal.returns-clause-query
returns-clause-query c = λ l n k flat h.
    let b = c.put_program.new.bank in
    let d = c.flat_query.new.bank in
    let q = c.args.query.now.formula in
    let e = c.in_ok-goals.ensures.flattened n k flat d (subst (λ t. flatten_query n k t ≡ Some flat) (sym (c.in_ok-spans.ensures.kept.same_terms q.0 l)) h) (extends_same d) in
    subst (IsListOf d c.put_goals.new.self c.in_ok-list.list) e c.in_ok-list.ensures.means

pub returns-clause-index : goal.returns-clause-index
returns-clause-index c =
    let a = c.args.bank.now in
    let b = c.put_program.new.bank in
    let d = c.flat_query.new.bank in
    let t = c.put_program.new.table in
    let u : Table = record { goals = t.goals; lists = t.lists; rules = c.index_of.new.rules; frees = t.frees } in
    let e = c.new-table.ensures in
    let z = empty_within (length a.terms) c.new-table.result e.goals e.rules in
    let i : IsTableIn (length b.terms) t = c.in_ok-spans.ensures.within z in
    let r = table_relinked (length b.terms) t u refl c.in_ok-index.ensures.same i in
    let n : length t.rules.items ≡ length c.index_of.new.rules.items = sym (length-map t.rules.items unlinked) ∙ ap length (sym c.in_ok-index.ensures.same) ∙ length-map c.index_of.new.rules.items unlinked in
    index_later b d c.index_of.new.rules.items c.put_goals.new.self.rules.items _ (numbers c.in_ok-spans.spans.items) c.in_ok-goals.ensures.kept c.in_ok-list.ensures.kept.rules r.rules
    (subst (λ m. All (λ k. k < m) (numbers c.in_ok-spans.spans.items)) n (spans_below c.in_ok-spans.spans.items (length t.rules.items) c.in_ok-spans.ensures.ends)) c.in_ok-index.ensures.index

pub returns-clause-ends : goal.returns-clause-ends
returns-clause-ends c =
    let t = c.put_program.new.table in
    let rs = c.index_of.new.rules.items in
    let ks = numbers c.in_ok-spans.spans.items in
    let n : length t.rules.items ≡ length rs = sym (length-map t.rules.items unlinked) ∙ ap length (sym c.in_ok-index.ensures.same) ∙ length-map rs unlinked in
    let l = longer_list rs c.put_goals.new.self.rules.items c.in_ok-list.ensures.kept.rules in
    All-weaker (λ k. k < length t.rules.items) (λ k. k < length c.put_goals.new.self.rules.items) (λ k h. omega (arith, h, n, l)) ks (spans_below c.in_ok-spans.spans.items (length t.rules.items) c.in_ok-spans.ensures.ends)
