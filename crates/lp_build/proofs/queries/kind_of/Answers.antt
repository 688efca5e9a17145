use Rattle.std.proofs.Common.{◌∙◌, ap, sym, refl}
use Rattle.lp_build.specs.Queried.{number_among}
use Rattle.lp_build.proofs.queries.kind_of.Goals as goal

pub returns : goal.returns
returns c = λ names has. record {
  name = c.in_ok-name.ensures.items ∙ c.as_slice-own.ensures.value;
  number = ap (number_among 8 names) (sym c.as_slice-own.ensures.value) ∙ c.in-Some.ensures names has;
  arity = refl;
}
