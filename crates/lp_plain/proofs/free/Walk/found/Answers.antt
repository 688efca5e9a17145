use Rattle.std.proofs.Common.{◌∙◌, sym, subst, nat_eq}
use Rattle.std.specs.List.{IsDistinct}
use Rattle.lp_plain.proofs.Sightings.{found_same, found_once}
use Rattle.lp_plain.proofs.free.Walk.found.Goals as goal

pub returns-clause-same : goal.returns-clause-same
returns-clause-same c = λ x. found_same (record { variables = c.in_ok-variables.variables; types = c.in_ok-types.types }) c.args.self.now (c.in_ok-variables.ensures.items ∙ c.as_slice.ensures.keys) (c.in_ok-types.ensures.items ∙ c.as_slice-2.ensures.keys) x

pub returns-clause-once : goal.returns-clause-once
returns-clause-once c = λ x. found_once (record { variables = c.in_ok-variables.variables; types = c.in_ok-types.types })
    (subst (IsDistinct nat_eq) (sym (c.in_ok-variables.ensures.items ∙ c.as_slice.ensures.keys)) c.as_slice.ensures.unique)
    (subst (IsDistinct nat_eq) (sym (c.in_ok-types.ensures.items ∙ c.as_slice-2.ensures.keys)) c.as_slice-2.ensures.unique) x
