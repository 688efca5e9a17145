use Rattle.std.proofs.Common.{◌≡◌, ◌<◌, ◌≤◌, length, sym, subst, arith}
use Rattle.std.specs.Prelude.{◌^◌}
use Rattle.lp_lemmas.proofs.Results.{passed_up}
use Rattle.lp_build.specs.Refused.{IsSignaturesFault}
use Rattle.lp_build.specs.inner.Linked.{AreMade}
use Rattle.lp_build.specs.inner.Refusing.{AreLookedAt}
use Rattle.lp_build.proofs.Growing.{made_none, made_more, declared_at, ok_at}
use Rattle.lp_build.proofs.Refusing.{answered_at, circle_told, first_told, looked_more, looked_none, made_all, refused_at}
use Rattle.lp_build.proofs.signatures.elaborate_all.Goals as goal

pub loop-root-init : goal.loop-root-init
loop-root-init c = (
  λ few none. made_none c.args.group.now c.new-made.result.items c.new-made.ensures.items,
  λ few. looked_none c.args.group.now,
)

pub loop-root-preserved : goal.loop-root-preserved
loop-root-preserved c =
    let g = c.args.group.now in
    let lt = λ (few : length c.args.group.now.texts.items ≤ 2 ^ 32). (let l : c.loop-root.root < 2 ^ 32 = omega
    (arith, few, c.loop-root-test.true, c.len-root-end.ensures, c.args.group.now.texts.ok) in l) in (
      λ few none.
          let noted = c.in_ok-note.ensures.noted none in
          made_more g c.loop-root.made.items c.note.new.made.items c.loop-root.root noted.1.0 (c.loop-root.invariant.0 few noted.0) noted.1.2
          (declared_at g c.loop-root.root c.as_number.result noted.1.0 c.as_slice-names.result.now c.as_slice-sources.result.now
          c.as_slice-texts.result.now (c.as_number.ensures.same (lt few)) c.as_slice-names.ensures.value c.as_slice-sources.ensures.value
          c.as_slice-texts.ensures.value (ok_at c.elaborate-answer.result _ noted.1.0 noted.1.1 c.elaborate-answer.ensures.accepted)),
      λ few. looked_more g c.loop-root.root c.loop-root.refused c.note.new.refused c.elaborate-answer.result (c.loop-root.invariant.1 few) c.in_ok-note.ensures.taken
          (λ none. made_all g c.loop-root.made.items c.loop-root.root (c.loop-root.invariant.0 few none))
          (answered_at g c.loop-root.root c.elaborate-answer.result _ (λ s h. declared_at g c.loop-root.root c.as_number.result s c.as_slice-names.result.now c.as_slice-sources.result.now
          c.as_slice-texts.result.now (c.as_number.ensures.same (lt few)) c.as_slice-names.ensures.value c.as_slice-sources.ensures.value
          c.as_slice-texts.ensures.value h) c.elaborate-answer.ensures.accepted)
          (refused_at g c.loop-root.root c.as_number.result c.elaborate-answer.result c.as_slice-names.result.now c.as_slice-sources.result.now c.as_slice-texts.result.now
          (c.as_number.ensures.same (lt few)) c.as_slice-names.ensures.value c.as_slice-sources.ensures.value c.as_slice-texts.ensures.value c.elaborate-answer.ensures.refused),
    )

pub returns-in_err-note-clause-cause : goal.returns-in_err-note-clause-cause
returns-in_err-note-clause-cause c = λ few.
    let g = c.args.group.now in
    let lt : c.loop-root.root < 2 ^ 32 = omega (arith, few, c.loop-root-test.true, c.len-root-end.ensures, c.args.group.now.texts.ok) in
    passed_up c.from_residual.result c.in_err-note.field-0.0 (IsSignaturesFault g) c.from_residual.ensures.1
    (circle_told g c.loop-root.root c.loop-root.refused c.elaborate-answer.result c.in_err-note.field-0.0 (c.loop-root.invariant.1 few)
    (omega (arith, c.loop-root-test.true, c.len-root-end.ensures, c.args.group.now.texts.ok))
    (refused_at g c.loop-root.root c.as_number.result c.elaborate-answer.result c.as_slice-names.result.now c.as_slice-sources.result.now c.as_slice-texts.result.now
    (c.as_number.ensures.same lt) c.as_slice-names.ensures.value c.as_slice-sources.ensures.value c.as_slice-texts.ensures.value c.elaborate-answer.ensures.refused)
    c.in_err-note.ensures.told)

pub returns-in-Some-clause-cause : goal.returns-in-Some-clause-cause
returns-in-Some-clause-cause c = λ few.
    let g = c.args.group.now in
    let n : c.loop-root.root ≡ length c.args.group.now.texts.items = omega (arith, c.loop-root-test.false, c.loop-root.auto.root-end, c.len-root-end.ensures, c.args.group.now.texts.ok) in
    subst (IsSignaturesFault g) (sym c.signature_fault.ensures.same)
    (first_told g c.in-Some.fault c.loop-root.refused c.in-Some.is (subst (λ n. AreLookedAt g n c.loop-root.refused) n (c.loop-root.invariant.1 few)))

pub returns-in-None-clause-made : goal.returns-in-None-clause-made
returns-in-None-clause-made c = λ few.
    let n : c.loop-root.root ≡ length c.args.group.now.texts.items = omega (arith, c.loop-root-test.false, c.loop-root.auto.root-end, c.len-root-end.ensures, c.args.group.now.texts.ok) in
    subst (λ n. AreMade c.args.group.now c.loop-root.made.items n) n (c.loop-root.invariant.0 few c.in-None.is)
