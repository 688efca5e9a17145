use Rattle.std.proofs.Common.{◌∙◌, ap}
use Rattle.lp_places.specs.Places.{first_place}
use Rattle.lp_link.specs.Uses.{kind_names, constant_names}
use Rattle.lp_link.proofs.places.Member.new.Goals as goal

pub invariant_of-result : goal.invariant_of-result
invariant_of-result c = record {
  kinds_found = λ name. c.in_ok-kinds.ensures name ∙ ap (λ ks. first_place name (kind_names ks)) c.as_slice.ensures.value;
  constants_found = λ name. c.in_ok-constants.ensures name ∙ ap (λ cs. first_place name (constant_names cs)) c.as_slice-2.ensures.value;
}
