use Rattle.std.proofs.Common.{◌≡◌, ◌++◌, ◌∷◌, [], ◌∙◌, sym, ap, subst, map, length, arith}
use Rattle.std.proofs.lemmas.List.{map-append, length-map}
use Rattle.std.proofs.lemmas.Result.{on_ok_weaker}
use Rattle.lp_lemmas.proofs.Results.{on_ok_always}
use Rattle.lp_sig.specs.Places.{HasPlaces}
use Rattle.lp_sig.specs.Knowing.{head_row}
use Rattle.lp_sig.proofs.names.Names.add_head.Goals as goal

pub returns-clause-heads : goal.returns-clause-heads
returns-clause-heads c =
    let old = c.args.self.now.heads.items in
    on_ok_always c.add.result _ (ap (map head_row) c.in_ok-push.ensures.items ∙ map-append head_row old _ ∙ ap (λ w. map head_row old ++ (w, c.args.parameters) ∷ []) c.in_ok-key.ensures.items)

pub returns-clause-places : goal.returns-clause-places
returns-clause-places c = on_ok_weaker c.add.result (λ h found.
    let old = c.args.self.now.heads.items in
    let l = length-map old (λ k. k.name.items) in
    let n : c.len-place.result ≡ length (map (λ k. k.name.items) old) = omega (arith, c.len-place.ensures, c.args.self.now.heads.ok, l) in
    subst (HasPlaces c.add.new.self) (ap (λ w. map (λ k. k.name.items) old ++ w ∷ []) (sym c.in_ok-key.ensures.items) ∙ sym (map-append (λ k. k.name.items) old _) ∙ ap (map (λ k. k.name.items)) (sym c.in_ok-push.ensures.items))
    (h (map (λ k. k.name.items) old) n found)) c.add.ensures.added
