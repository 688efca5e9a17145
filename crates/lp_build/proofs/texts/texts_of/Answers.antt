use Rattle.std.proofs.Common.{◌≡◌, ◌<◌, length, sym, subst, arith}
use Rattle.lp_build.specs.inner.Linked.{AreTextsSoFar}
use Rattle.std.specs.Prelude.{◌⊎◌}
use Rattle.lp_lemmas.proofs.Results.{passed_up}
use Rattle.lp_build.specs.Refused.{IsFirstText}
use Rattle.lp_build.specs.declared.fault.BuildFault.TheVariants as fault
use Rattle.lp_build.proofs.Texting.{first_text}
use Rattle.lp_build.proofs.texts.texts_of.Goals as goal

pub loop-place-init : goal.loop-place-init
loop-place-init c = λ few links. c.new-texts.ensures c.args.sources.now.files.items

pub loop-place-preserved : goal.loop-place-preserved
loop-place-preserved c = λ few links.
    let lt : c.loop-place.place < length c.args.sources.now.files.items = omega (arith, c.loop-place-test.true, c.len-place-end.ensures, c.args.sources.now.files.ok) in
    c.in_ok-add.ensures.texts (lt, sym c.index-file.ensures) (omega (arith, lt, few)) links (c.loop-place.invariant few links)

pub returns-clause-texts : goal.returns-clause-texts
returns-clause-texts c = λ few links.
    let files = c.args.sources.now.files.items in
    let n : c.loop-place.place ≡ length files = omega (arith, c.loop-place-test.false, c.loop-place.auto.place-end, c.len-place-end.ensures, c.args.sources.now.files.ok) in
    subst (λ n. AreTextsSoFar files n c.loop-place.texts) n (c.loop-place.invariant few links)

pub returns-in_err-add-clause-cause : goal.returns-in_err-add-clause-cause
returns-in_err-add-clause-cause c = λ few links.
    let files = c.args.sources.now.files.items in
    let lt : c.loop-place.place < length c.args.sources.now.files.items = omega (arith, c.loop-place-test.true, c.len-place-end.ensures, c.args.sources.now.files.ok) in
    passed_up c.from_residual.result c.in_err-add.field-0.0 (λ e. (e ≡ fault.Memory) ⊎ IsFirstText files e) c.from_residual.ensures.1
    (first_text files c.loop-place.place c.index-file.result.now c.loop-place.texts c.in_err-add.field-0.0 (c.loop-place.invariant few links) (lt, sym c.index-file.ensures)
    (c.in_err-add.ensures.cause (omega (arith, lt, few)) links))
