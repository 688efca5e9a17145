use Rattle.std.proofs.Common.{◌≡◌, ◌∙◌, ◌++◌, ◌∷◌, [], append_assoc, length, ap, refl, sym, subst, arith}
use Rattle.std.proofs.lemmas.List.{append-nil, take_all}
use Rattle.std.proofs.lemmas.Option.{slice_get_read}
use Rattle.lp_lemmas.proofs.Results.{passed_up}
use Rattle.lp_gen.specs.inner.Fitting.{IsRefused}
use Rattle.lp_gen.specs.inner.Groups.{IsStartOf, AllWritten, PartFull}
use Rattle.lp_gen.proofs.Records.{fit_more, short_more}
use Rattle.lp_gen.proofs.GroupPut.{part_written}
use Rattle.lp_gen.proofs.AddFits.{refused_part}
use Rattle.lp_gen.proofs.codes.add_parts.Goals as goal

pub loop-at-init : goal.loop-at-init
loop-at-init c = (c.requires.fit, c.requires.short, ([], sym (append-nil c.args.records.now.items), (refl, c.new-starts.ensures.items)))

pub loop-at-preserved : goal.loop-at-preserved
loop-at-preserved c =
    let ps = c.args.parts.now in
    let i = c.loop-at.invariant.2 in
    let r = c.in_ok-record.record in (
      fit_more c.loop-at.records.items c.push.new.self.items r c.in_ok-push.ensures.items c.in_ok-record.ensures.fit c.loop-at.invariant.0,
      short_more c.loop-at.records.items c.push.new.self.items r c.in_ok-push.ensures.items c.in_ok-record.ensures.few c.loop-at.invariant.1,
      (
        i.0 ++ r ∷ [],
        c.in_ok-push.ensures.items ∙ ap (λ l. l ++ r ∷ []) i.1 ∙ append_assoc c.args.records.now.items i.0 (r ∷ []),
        part_written c.args.tables ps c.loop-at.at c.loop-at.starts.items c.append.new.self.items c.record_of.new.starts.items c.new-more.result.items
            c.as_slice.result.now i.0 c.index-parts-at.result r
            c.start_of-captured.result.now i.2 (slice_get_read ps (length ps) c.loop-at.at c.index-parts-at.result refl
            (omega (arith, c.loop-at-test.true)) c.index-parts-at.is) c.new-more.ensures.items
            c.in_ok-record.ensures.written c.as_slice.ensures.value (c.start_of-captured.ensures c.new-none.ensures.empty) c.in_ok-append.ensures.items,
      ),
    )

pub returns-clause-written : goal.returns-clause-written
returns-clause-written c =
    let ps = c.args.parts.now in
    let i = c.loop-at.invariant.2 in
    let last : c.loop-at.at ≡ length ps = omega (arith, c.loop-at-test.false, c.loop-at.auto.at-end) in
    (i.0, c.loop-at.starts.items, i.1, subst (λ l. AllWritten c.args.tables [] c.loop-at.starts.items l i.0) (take_all c.loop-at.at ps (omega (arith, last))) i.2)

pub returns-in_err-record-clause-lacks : goal.returns-in_err-record-clause-lacks
returns-in_err-record-clause-lacks c =
    let ps = c.args.parts.now in
    let i = c.loop-at.invariant.2 in
    let e = c.in_err-record.field-0.0 in
    passed_up c.from_residual.result e (IsRefused (PartFull c.args.tables ps)) c.from_residual.ensures.1
    (refused_part c.args.tables ps c.loop-at.at c.index-parts-at.result c.start_of-captured.result.now c.loop-at.starts.items i.0 e (slice_get_read ps (length ps) c.loop-at.at c.index-parts-at.result refl
    (omega (arith, c.loop-at-test.true)) c.index-parts-at.is) i.2
    (subst (λ l. IsStartOf l c.index-parts-at.result.within c.start_of-captured.result.now) c.as_slice.ensures.value (c.start_of-captured.ensures c.new-none.ensures.empty))
    c.in_err-record.ensures.lacks)
