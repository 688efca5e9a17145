use Rattle.std.proofs.Common.{◌≡◌, arith, ap, ◌∙◌, sym, map, take, ◌++◌, ◌∷◌, []}
use Rattle.std.specs.Prelude.{string_bytes}
use Rattle.std.proofs.lemmas.List.{map-append}
use Rattle.lp_sig.specs.Loading.{ways_in, ways_between, accum_words}
use Rattle.lp_sig.proofs.Naming.{text_more, no_more}
use Rattle.lp_sig.proofs.walk.Ways.of.Goals as goal

pub loop-at-preserved : goal.loop-at-preserved
loop-at-preserved c =
    let ns = map string_bytes c.args.names.now in
    let t = c.index-texts-at.result in
    let s = c.index-sources-at.result in
    let out : c.in_ok-out.out.items ≡ ways_in ns s.items (accum_words t.lines.items) = c.in_ok-out.ensures ns c.in_ok-numbers.ensures ∙ ap (λ b. ways_in ns b (accum_words t.lines.items)) c.as_slice.ensures.value in
    ap (map (λ v. v.items)) c.in_ok-push.ensures.items ∙ map-append (λ v. v.items) c.loop-at.ways.items (c.in_ok-out.out ∷ []) ∙
    ap (λ z. z ++ c.in_ok-out.out.items ∷ []) c.loop-at.invariant ∙
    ap (λ o. ways_between ns c.args.sources.now (take c.loop-at.at c.args.texts.now) ++ o ∷ []) out ∙
    sym (text_more ns c.args.sources.now c.args.texts.now c.loop-at.at s t
    (omega (arith, c.loop-at-test.true, c.loop-at.auto.at-end, c.min-at-end.ensures)) c.index-sources-at.is (omega (arith, c.loop-at-test.true, c.loop-at.auto.at-end, c.min-at-end.ensures)) c.index-texts-at.is)

pub returns : goal.returns
returns c = c.loop-at.invariant ∙ no_more (map string_bytes c.args.names.now) c.args.sources.now c.args.texts.now c.loop-at.at
    (λ l m. omega (arith, l, m, c.loop-at-test.false, c.loop-at.auto.at-end, c.min-at-end.ensures))
