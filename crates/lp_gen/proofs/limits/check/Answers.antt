use Rattle.std.proofs.Common.{◌≡◌, ◌∙◌, [], ap, arith, refl}
use Rattle.std.proofs.lemmas.List.{nil_from_length}
use Rattle.lp_lemmas.proofs.Results.{passed_up}
use Rattle.lp_gen.specs.inner.Limiting.{counting_of, IsOver, source_counts, counts_left}
use Rattle.lp_gen.proofs.Works.{one_more}
use Rattle.lp_gen.proofs.LimitsLeft.{met_on, over_on}
use Rattle.lp_gen.proofs.limits.check.Goals as goal

pub sources-init : goal.sources-init
sources-init c =
    let f = source_counts c.args.bank.now (counting_of c.args.look) in
    let w = one_more f c.new-work.result.items c.push.new.self.items c.args.source c.in_ok-push.ensures.items in
    let n = ap (counts_left c.args.bank.now (counting_of c.args.look)) c.new-work.ensures.items in
    let none : counts_left c.args.bank.now (counting_of c.args.look) [] ≡ 0 = refl in
    (refl, omega (arith, w, n, none))

pub sources-preserved : goal.sources-preserved
sources-preserved c =
    let b = c.args.bank.now in
    let k = c.args.look in
    let i = c.sources.invariant in (
      c.take_up.ensures.look ∙ i.0,
      met_on b k c.sources.tally.look c.args.room c.sources.tally.room c.take_up.new.tally.room (source_counts b (counting_of k) c.args.source) c.sources.work.items c.pop.new.self.items c.take_up.new.work.items
          c.in-Some.next i.0 c.in-Some.ensures.items i.1 c.in_ok-take_up.ensures.met,
    )

pub returns-clause-within : goal.returns-clause-within
returns-clause-within c =
    let b = c.args.bank.now in
    let k = counting_of c.args.look in
    let e = nil_from_length c.sources.work.items (omega (arith, c.in_default.ensures.cases.0, c.sources.work.ok)) in
    let n = ap (counts_left b k) e in
    let none : counts_left b k [] ≡ 0 = refl in
    let i = c.sources.invariant.1 in
    omega (arith, n, none, i)

pub returns-in_err-take_up-clause-cause : goal.returns-in_err-take_up-clause-cause
returns-in_err-take_up-clause-cause c =
    let b = c.args.bank.now in
    let k = c.args.look in
    let i = c.sources.invariant in
    let e = c.in_err-take_up.field-0.0 in
    passed_up c.from_residual-in_err-take_up.result e (IsOver k c.args.room (source_counts b (counting_of k) c.args.source)) c.from_residual-in_err-take_up.ensures.1
    (over_on b k c.sources.tally.look c.args.room c.sources.tally.room (source_counts b (counting_of k) c.args.source) c.sources.work.items c.pop.new.self.items c.in-Some.next e i.0 c.in-Some.ensures.items i.1
    c.in_err-take_up.ensures.cause)
