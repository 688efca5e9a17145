use Rattle.std.proofs.Common.{◌≡◌, ◌∙◌, ◌++◌, ◌∷◌, [], map, sym, ap}
use Rattle.std.proofs.lemmas.List.{map-id, map-append}
use Rattle.std.proofs.lemmas.Iterator.{YieldsList-from_slice}
use Rattle.std.proofs.lemmas.Iterator.Consumers.{YieldsList-end, YieldsList-from_copied}
use Rattle.lp_gen.proofs.record.types_of_query.Goals as goal

pub loop-of-init : goal.loop-of-init
loop-of-init c = c.new-types.ensures.items

pub loop-of-preserved : goal.loop-of-preserved
loop-of-preserved c =
    c.in_ok-push.ensures.items ∙ ap (λ l. l ++ c.in-Some.of ∷ []) c.loop-of.invariant ∙ sym (map-append (λ v. v.1) c.loop-of.yielded ((c.in-Some.field-0-0, c.in-Some.of) ∷ []))

pub returns : goal.returns
returns c =
    let whole : c.loop-of.yielded ≡ c.args.query.now.vars.items = sym (map-id c.loop-of.yielded)
    ∙ (YieldsList-end (YieldsList-from_copied (YieldsList-from_slice c.args.query.now.vars.items cc)) c.loop-of.yielded _ c.loop-of.yielded_by _ _ c.in-None.is c.next.ensures.steps).0 in
    c.loop-of.invariant ∙ ap (map (λ v. v.1)) whole
