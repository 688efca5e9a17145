-- One more spot behind others.
use Rattle.std.proofs.Common.{◌≡◌, ℕ, List, [], ◌∷◌, ◌++◌, map, length, Option, sym, ap, ◌∙◌}
use Rattle.std.proofs.lemmas.List.{length-map, map-append}
use Rattle.lp_base.specs.declared.place.Spot.{Spot}
use Rattle.lp_sig.specs.Pieces.{spelled}
use Rattle.lp_sig.specs.Places.{first_place}

pub one_spot_more : (text : List ℕ) (f : List ℕ → Option ℕ) (old new : List Spot) (s : Spot) (word : List ℕ) → new ≡ old ++ s ∷ [] → word ≡ spelled text s →
    ((name : List ℕ) → f name ≡ first_place name (map (spelled text) old ++ word ∷ [])) → (name : List ℕ) → f name ≡ first_place name (map (spelled text) new)
one_spot_more text f old new s word is same h name =
    h name ∙ ap (λ w. first_place name (map (spelled text) old ++ w ∷ [])) same ∙ ap (first_place name) (sym (map-append (spelled text) old (s ∷ [])) ∙ ap (map (spelled text)) (sym is))

pub as_many : (text : List ℕ) (old : List Spot) (n : ℕ) → n ≡ length old → n ≡ length (map (spelled text) old)
as_many text old n e = e ∙ sym (length-map old (spelled text))
