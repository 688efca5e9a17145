use Rattle.std.proofs.Common.{◌≡◌, ◌++◌, ◌∷◌, [], ◌∙◌, sym, ap, subst, map, length, arith}
use Rattle.std.proofs.lemmas.List.{map-append, length-map}
use Rattle.lp_sig.specs.Places.{HasPlaces}
use Rattle.lp_sig.specs.Knowing.{kinded_row}
use Rattle.lp_sig.proofs.names.Names.add_kind.Goals as goal

pub returns-clause-kinds : goal.returns-clause-kinds
returns-clause-kinds c =
    let old = c.args.self.now.kinds.items in
    ap (map kinded_row) c.in_ok-push.ensures.items ∙ map-append kinded_row old _ ∙ ap (λ w. map kinded_row old ++ (w, c.args.arity) ∷ []) c.in_ok-key.ensures.items

pub returns-clause-places : goal.returns-clause-places
returns-clause-places c = λ found.
    let old = c.args.self.now.kinds.items in
    let l = length-map old (λ k. k.name.items) in
    let n : c.len-place.result ≡ length (map (λ k. k.name.items) old) = omega (arith, c.len-place.ensures, c.args.self.now.kinds.ok, l) in
    subst (HasPlaces c.add.new.self) (ap (λ w. map (λ k. k.name.items) old ++ w ∷ []) (sym c.in_ok-key.ensures.items) ∙ sym (map-append (λ k. k.name.items) old _) ∙ ap (map (λ k. k.name.items)) (sym c.in_ok-push.ensures.items))
    (c.in_ok-add.ensures.added (map (λ k. k.name.items) old) n found)
