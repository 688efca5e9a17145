use Rattle.std.proofs.Common.{◌<◌, ◌≤◌, length, refl, sym, subst, arith, add-one}
use Rattle.std.proofs.lemmas.List.{take_all}
use Rattle.lp_lemmas.proofs.Lists.{get_read}
use Rattle.lp_plain.specs.Starts.{AreFlat}
use Rattle.lp_plain.proofs.Later.{table_later}
use Rattle.lp_plain.proofs.Programs.{none_put, one_put}
use Rattle.lp_plain.proofs.start.put_program.Goals as goal

pub formulas-init : goal.formulas-init
formulas-init c = none_put c.args.formulas.now.items c.args.bank.now c.args.table.now _ c.new-spans.ensures.items

pub formulas-preserved : goal.formulas-preserved
formulas-preserved c =
    let fs = c.args.formulas.now in
    let lt : c.formulas.at < length fs.items = omega (arith, c.formulas-test.true, c.len-at-end.ensures, fs.ok) in
    let f = c.index.result.now in
    let g = c.in_ok-clauses.ensures in
    let h = c.in_ok-span.ensures in
    one_put fs.items c.args.bank.now c.formulas.bank c.flat_clauses.new.bank c.args.table.now c.formulas.table c.put_clauses.new.self
    c.formulas.spans.items c.push.new.self.items c.formulas.at _ f c.in_ok-clauses.clauses.items c.in_ok-span.span
    c.formulas.invariant g.kept (get_read fs.items fs.items c.formulas.at f f refl lt c.index.ensures) g.flattened
    (λ i. h.within g.within (table_later c.formulas.bank c.flat_clauses.new.bank g.kept c.formulas.table i)) h.means h.kept
    c.in_ok-push.ensures.items (add-one c.formulas.at) h.ends h.from.0 h.from.1

pub returns-clause-kept : goal.returns-clause-kept
returns-clause-kept c = c.formulas.invariant.kept

pub returns-clause-within : goal.returns-clause-within
returns-clause-within c = c.formulas.invariant.within

pub returns-clause-program : goal.returns-clause-program
returns-clause-program c = λ i j d css h.
    let fs = c.args.formulas.now in
    let w : length fs.items ≤ c.formulas.at = omega (arith, c.formulas-test.false, c.len-at-end.ensures, fs.ok) in
    c.formulas.invariant.spans_are i j d css (subst (λ l. AreFlat d c.args.bank.now l css) (sym (take_all c.formulas.at fs.items w)) h)

pub returns-clause-ends : goal.returns-clause-ends
returns-clause-ends c = c.formulas.invariant.ends

pub returns-clause-order : goal.returns-clause-order
returns-clause-order c = c.formulas.invariant.order
