use Rattle.std.proofs.Common.{◌∙◌, ◌++◌, ◌∷◌, [], sym, ap, map, get_or, Some}
use Rattle.std.proofs.lemmas.List.{take_all, get_or_default, map_more}
use Rattle.lp_lemmas.proofs.Lists.{map_pushed}
use Rattle.lp_infer.specs.Noted.{known_at}
use Rattle.lp_infer.proofs.annotation.types_at.Goals as goal

pub loop-place-preserved : goal.loop-place-preserved
loop-place-preserved c =
    let known = known_at c.args.done.now in
    map_more known c.args.places.now c.loop-place.place-index 0 c.loop-place-test.true ∙
    ap (λ l. l ++ known (get_or c.args.places.now c.loop-place.place-index 0) ∷ []) c.loop-place.invariant ∙
    ap (λ o. map (λ t. Some t) c.loop-place.types.items ++ o ∷ []) (sym c.type_at.ensures ∙ c.in-Some.is) ∙
    sym (map_pushed (λ t. Some t) c.loop-place.types.items c.push.new.self.items c.in-Some.id c.in_ok-push.ensures.items)

pub returns-in_default : goal.returns-in_default
returns-in_default c = (
  get_or c.args.places.now c.loop-place.place-index 0,
  (c.loop-place.place-index, c.loop-place-test.true, get_or_default c.args.places.now c.loop-place.place-index (get_or c.args.places.now c.loop-place.place-index 0) 0 c.loop-place-test.true),
  sym c.type_at.ensures ∙ c.in_default.is,
)

pub returns : goal.returns
returns c = ap (map (known_at c.args.done.now)) (sym (take_all c.loop-place.place-index c.args.places.now c.loop-place-test.false)) ∙ c.loop-place.invariant
