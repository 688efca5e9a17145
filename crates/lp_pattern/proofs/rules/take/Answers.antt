use Rattle.std.proofs.Common.{ap, sym, refl, ◌∙◌, Some}
use Rattle.lp_term.proofs.Trees.{extends-trans}
use Rattle.lp_pattern.specs.Refusing.{IsOfTerm}
use Rattle.lp_pattern.specs.Under.{under}
use Rattle.lp_pattern.proofs.Judging.{seen_pair}
use Rattle.lp_pattern.proofs.PairsGiven.{seen_from, deep_before}
use Rattle.lp_pattern.proofs.Results.{err_and, if_ok, if_err}
use Rattle.lp_pattern.proofs.Stacks.{under_kept, still_pairs}
use Rattle.lp_pattern.proofs.Taking.{left_far, right_far}
use Rattle.lp_pattern.proofs.Walking.{reading_kept, looked_stays, open_kept}
use Rattle.lp_pattern.proofs.rules.take.Goals as goal

pub take_seen-requires-clause-one : goal.take_seen-requires-clause-one
take_seen-requires-clause-one c = looked_stays c.look.new.bank c.look-2.new.bank c.args.bindings.now c.in_ok-one.one c.in_ok-other.ensures.kept c.in_ok-one.ensures.looked

pub returns-clause-judged : goal.returns-clause-judged
returns-clause-judged c =
    if_ok c.take_seen.result _ _
    (λ v f r i g p w n q e.
    let k = c.in_ok-one.ensures.kept in
    let m = c.in_ok-other.ensures.kept in
    let t = extends-trans c.args.bank.now c.look.new.bank c.look-2.new.bank k m in
    let x = reading_kept c.args.bank.now c.look.new.bank c.args.bindings.now r k i in
    let y = seen_pair c.args.bank.now c.look.new.bank c.look-2.new.bank r 1000000 c.args.pair c.in_ok-one.one c.in_ok-other.other k m c.requires.pair.1 c.in_ok-one.ensures.looked.known (c.in_ok-one.ensures.reached r i) (c.in_ok-other.ensures.reached r x) in
    f r (reading_kept c.args.bank.now c.look-2.new.bank c.args.bindings.now r t i) g n p (seen_from c.args.bank.now c.look-2.new.bank r c.in_ok-one.one c.in_ok-other.other c.args.pair p w y) q e)
    c.take_seen.ensures.judged

pub returns-clause-taken : goal.returns-clause-taken
returns-clause-taken c =
    if_ok c.take_seen.result _ _
    (λ v f r i lv p w h n q e.
    let k = c.in_ok-one.ensures.kept in
    let m = c.in_ok-other.ensures.kept in
    let t = extends-trans c.args.bank.now c.look.new.bank c.look-2.new.bank k m in
    let x = reading_kept c.args.bank.now c.look.new.bank c.args.bindings.now r k i.reading in
    let y = seen_pair c.args.bank.now c.look.new.bank c.look-2.new.bank r 1000000 c.args.pair c.in_ok-one.one c.in_ok-other.other k m c.requires.pair.1 c.in_ok-one.ensures.looked.known (c.in_ok-one.ensures.reached r i.reading) (c.in_ok-other.ensures.reached r x) in
    f r (open_kept c.args.bank.now c.look-2.new.bank c.args.bindings.now c.args.next.now r t i) lv n p (seen_from c.args.bank.now c.look-2.new.bank r c.in_ok-one.one c.in_ok-other.other c.args.pair p w y) h q e)
    c.take_seen.ensures.taken

pub returns-clause-refused : goal.returns-clause-refused
returns-clause-refused c =
    if_err c.take_seen.result _ _
    (λ e f r i lv p w h n.
    let k = c.in_ok-one.ensures.kept in
    let m = c.in_ok-other.ensures.kept in
    let t = extends-trans c.args.bank.now c.look.new.bank c.look-2.new.bank k m in
    let x = reading_kept c.args.bank.now c.look.new.bank c.args.bindings.now r k i.reading in
    let y = seen_pair c.args.bank.now c.look.new.bank c.look-2.new.bank r 1000000 c.args.pair c.in_ok-one.one c.in_ok-other.other k m c.requires.pair.1 c.in_ok-one.ensures.looked.known (c.in_ok-one.ensures.reached r i.reading) (c.in_ok-other.ensures.reached r x) in
    f r (open_kept c.args.bank.now c.look-2.new.bank c.args.bindings.now c.args.next.now r t i) lv n p (seen_from c.args.bank.now c.look-2.new.bank r c.in_ok-one.one c.in_ok-other.other c.args.pair p w y) h)
    c.take_seen.ensures.refused

pub returns-in_err-one-clause-refused : goal.returns-in_err-one-clause-refused
returns-in_err-one-clause-refused c =
    err_and c.from_residual.result (λ e. IsOfTerm c.in_err-one.field-0.0 e) _ c.from_residual.ensures.1
    (λ y o r i lv p w h n. left_far n c.args.next.now c.args.units.now p c.in_err-one.field-0.0 y o (deep_before 1000000 w.left.0 p.left (under c.args.bank.now r c.args.pair.left) c.in_err-one.field-0.0 w.left.1 (c.in_err-one.ensures.refused r i.reading)))

pub returns-in_err-other-clause-refused : goal.returns-in_err-other-clause-refused
returns-in_err-other-clause-refused c =
    err_and c.from_residual-in_err-other.result (λ e. IsOfTerm c.in_err-other.field-0.0 e) _ c.from_residual-in_err-other.ensures.1
    (λ y o r i lv p w h n.
    let z = under_kept c.args.bank.now c.look.new.bank r c.args.pair.right c.in_ok-one.ensures.kept c.requires.pair.1 in
    right_far n c.args.next.now c.args.units.now p p.right c.in_err-other.field-0.0 y o refl
    (deep_before 1000000 w.right.0 p.right (under c.look.new.bank r c.args.pair.right) c.in_err-other.field-0.0 (w.right.1 ∙ ap (λ x. Some x) (sym z)) (c.in_err-other.ensures.refused r (reading_kept c.args.bank.now c.look.new.bank c.args.bindings.now r c.in_ok-one.ensures.kept i.reading))))

pub take_seen-requires-clause-todo : goal.take_seen-requires-clause-todo
take_seen-requires-clause-todo c =
    still_pairs c.args.bank.now c.look-2.new.bank c.args.todo.now.items (extends-trans c.args.bank.now c.look.new.bank c.look-2.new.bank c.in_ok-one.ensures.kept c.in_ok-other.ensures.kept) c.requires.todo
