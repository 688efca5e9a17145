use Rattle.std.proofs.Common.{map, ap, ◌∙◌}
use Rattle.lp_sig.specs.Places.{first_place}
use Rattle.lp_sig.proofs.signature.Signature.of.Goals as goal

pub invariant_of-result : goal.invariant_of-result
invariant_of-result c = record {
  kinds_found = λ name. c.in_ok-kind_places.ensures name ∙ ap (λ es. first_place name (map (λ e. e.name.items) es)) c.as_slice.ensures.value;
  constants_found = λ name. c.in_ok-constant_places.ensures name ∙ ap (λ es. first_place name (map (λ e. e.name.items) es)) c.as_slice-2.ensures.value;
  abbreviations_found = λ name. c.in_ok-abbreviation_places.ensures name ∙ ap (λ es. first_place name (map (λ e. e.name.items) es)) c.as_slice-3.ensures.value;
  fixities_found = λ name. c.in_ok-fixity_places.ensures name ∙ ap (λ es. first_place name (map (λ e. e.name.items) es)) c.as_slice-4.ensures.value;
}
