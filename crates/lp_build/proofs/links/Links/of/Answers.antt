use Rattle.std.proofs.Common.{◌∙◌, ap, arith, subst, map, ◌<◌, length}
use Rattle.std.proofs.lemmas.List.{take_all}
use Rattle.lp_build.specs.Sights.{accum_sig_of, accumulate_of, named_by}
use Rattle.lp_build.specs.inner.Linked.{HasSignatures}
use Rattle.lp_build.proofs.Signing.{list_more}
use Rattle.lp_build.proofs.links.Links.of.Goals as goal

pub loop-at-preserved : goal.loop-at-preserved
loop-at-preserved c =
    let files = c.args.sources.now.files.items in
    let lt : c.loop-at.at < length files = omega (arith, c.loop-at-test.true, c.len-at-end.ensures, c.args.sources.now.files.ok) in
    let has = subst (λ fs. HasSignatures c.in_ok-signatures.signatures fs) c.as_slice-files.ensures.value c.in_ok-signatures.ensures in
    record {
      accum_sig = list_more (accum_sig_of files) files c.loop-at.at c.index-file.result.now c.in_ok-more.more c.loop-at.named.items c.push_both.new.named.items lt c.index-file.ensures
          (c.in_ok-more.ensures files has ∙ ap (λ s. named_by files s c.index-file.result.now.text.references.accum_sig.items)
          c.as_slice-source.ensures.value) c.in_ok-push_both.ensures.named c.loop-at.invariant.accum_sig;
      accumulate = list_more (accumulate_of files) files c.loop-at.at c.index-file.result.now c.in_ok-used.used c.loop-at.accumulated.items c.push_both.new.accumulated.items lt c.index-file.ensures
          (c.in_ok-used.ensures files has ∙ ap (λ s. named_by files s c.index-file.result.now.text.references.accumulate.items)
          c.as_slice-source.ensures.value) c.in_ok-push_both.ensures.accumulated c.loop-at.invariant.accumulate;
    }

pub returns : goal.returns
returns c =
    let files = c.args.sources.now.files.items in
    let all = take_all c.loop-at.at files (omega (arith, c.loop-at-test.false, c.len-at-end.ensures, c.args.sources.now.files.ok)) in
    record {
      signatures = subst (λ fs. HasSignatures c.in_ok-signatures.signatures fs) c.as_slice-files.ensures.value c.in_ok-signatures.ensures;
      accum_sig = c.loop-at.invariant.accum_sig ∙ ap (map (accum_sig_of files)) all;
      accumulate = c.loop-at.invariant.accumulate ∙ ap (map (accumulate_of files)) all;
    }
