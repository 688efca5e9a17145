use Rattle.std.proofs.Common.{map, ap, ◌∙◌}
use Rattle.lp_object.specs.Reading.{scope, types_made}
use Rattle.lp_object.specs.inner.Parts.{type_top_of}
use Rattle.lp_object.proofs.Firsts.{first_type}
use Rattle.lp_object.proofs.schemes.read_scheme.Goals as goal

pub returns-in-Some-clause-read : goal.returns-in-Some-clause-read
returns-in-Some-clause-read c = λ b y. first_type (scope c.args.width c.args.arities.now c.args.variables) _ _
    (map type_top_of c.in_ok-parts.parts.items) b _ _ c.in-Some.made c.in_ok-parts.ensures c.in-Some.ensures.items
    (c.in_ok-stack.ensures.made b y ∙ ap (λ ps. types_made (map type_top_of ps)) c.as_slice.ensures.value)
