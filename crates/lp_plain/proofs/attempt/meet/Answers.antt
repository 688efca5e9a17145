use Rattle.std.proofs.Common.{refl}
use Rattle.lp_term.proofs.Trees.{extends-trans}
use Rattle.lp_plain.proofs.Equating.{bound_from}
use Rattle.lp_plain.proofs.Growing.{values_later}
use Rattle.lp_plain.proofs.Meeting.{for_rule, slices_met}
use Rattle.lp_plain.proofs.OwnValues.{one_read}
use Rattle.lp_plain.proofs.HeadPairs.{paired_from}
use Rattle.lp_plain.proofs.Trials.{pairs_later}
use Rattle.lp_plain.proofs.attempt.meet.Goals as goal

pub returns-clause-bound : goal.returns-clause-bound
returns-clause-bound c = bound_from c.args.machine.now _ c.term_pairs.new.bank (extends-trans c.args.machine.now.bank c.type_pairs.new.bank
    c.term_pairs.new.bank c.in_ok-types.ensures.kept c.in_ok-pairs.ensures.kept) c.in_ok-unified.ensures.bound

pub returns-clause-met : goal.returns-clause-met
returns-clause-met c = λ r e.
    let m = c.args.machine.now in
    let f = c.rule-found.result.now in
    let b = m.bank in
    let k = c.type_pairs.new.bank in
    let d = c.term_pairs.new.bank in
    for_rule m c.unify.new.machine c.args.goal c.args.args.now c.args.values c.args.level c.in_ok-unified.unified f r (one_read m.table.rules.items c.args.rule f r c.rule-found.ensures e)
    (slices_met m (record m { bank = d }) c.unify.new.machine f c.args.goal c.args.args.now c.args.values c.args.level c.in_ok-unified.unified
    c.in_ok-types.types.items c.as_slice.result.now c.in_ok-pairs.pairs.items c.as_slice-2.result.now c.as_slice.ensures.value
    c.as_slice-2.ensures.value
    (extends-trans b k d c.in_ok-types.ensures.kept c.in_ok-pairs.ensures.kept) refl refl (c.in_ok-types.ensures.pairs d c.in_ok-pairs.ensures.kept)
    (λ nb nv vs s v ar n w.
    paired_from b k d c.args.args.now c.args.level vs c.args.values.types f.pairs.items ar n c.in_ok-pairs.pairs.items c.in_ok-types.ensures.kept v w
    (λ h. c.in_ok-pairs.ensures.pairs nb nv vs s (values_later b k c.in_ok-types.ensures.kept vs v) ar n h))
    c.in_ok-unified.ensures.unified)

pub returns-clause-residual : goal.returns-clause-residual
returns-clause-residual c = λ s.
    let m = c.args.machine.now in
    c.in_ok-unified.ensures.residual
    (pairs_later m.bank c.term_pairs.new.bank m.branch.pairs.items (extends-trans m.bank c.type_pairs.new.bank c.term_pairs.new.bank c.in_ok-types.ensures.kept c.in_ok-pairs.ensures.kept) s)
