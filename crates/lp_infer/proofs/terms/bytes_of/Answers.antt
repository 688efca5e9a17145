use Rattle.std.proofs.Common.{◌≡◌, ◌∙◌, sym, ap}
use Rattle.std.specs.Prelude.{slice_range}
use Rattle.std.proofs.lemmas.List.{map-id}
use Rattle.std.proofs.lemmas.Iterator.{YieldsList-from_slice}
use Rattle.std.proofs.lemmas.Iterator.Consumers.{YieldsList-end, YieldsList-from_copied}
use Rattle.lp_infer.specs.Texts.{unescaped}
use Rattle.lp_infer.proofs.FillingBytes.{all_spelled}
use Rattle.lp_infer.proofs.terms.bytes_of.Goals as goal

pub returns : goal.returns
returns c =
    let whole : c.loop-b.yielded ≡ c.in-Some.inner.now = sym (map-id c.loop-b.yielded) ∙ (YieldsList-end (YieldsList-from_copied (YieldsList-from_slice c.in-Some.inner.now cc)) c.loop-b.yielded _ c.loop-b.yielded_by _ _ c.in-None.is c.next.ensures.steps).0 in
    all_spelled c.loop-b.yielded c.loop-b.bytes.items c.loop-b.behind c.loop-b.invariant ∙ ap unescaped (whole ∙ c.in-Some.ensures.lookup.0.2) ∙ ap (λ n. unescaped (slice_range c.args.token.now 1 n)) c.saturating_sub.ensures
