use Rattle.std.proofs.Common.{◌∙◌, refl}
use Rattle.lp_build.proofs.objects.object_kind.Goals as goal

pub returns-clause-kind : goal.returns-clause-kind
returns-clause-kind c = record { name = c.in_ok-name.ensures.items ∙ c.as_slice.ensures.value; arity = refl }
