use Rattle.std.proofs.Common.{◌<◌, length, map, ap, ◌∙◌}
use Rattle.lp_cert.specs.Arities.{counts_of}
use Rattle.lp_cert.specs.Reading.{types_made}
use Rattle.lp_cert.specs.inner.Parts.{type_top_of}
use Rattle.lp_lemmas.proofs.Elements.{All_popped}
use Rattle.lp_cert.proofs.Firsts.{first_type}
use Rattle.lp_cert.proofs.types.read_type.Goals as goal

pub returns-in-Some-clause-read : goal.returns-in-Some-clause-read
returns-in-Some-clause-read c = λ b y. first_type (counts_of c.args.arities.now) _ _ (map type_top_of c.in_ok-parts.parts.items) b _ _ c.in-Some.made c.in_ok-parts.ensures c.in-Some.ensures.items (c.in_ok-stack.ensures.made b y ∙ ap (λ ps. types_made (map type_top_of ps)) c.as_slice.ensures.value)

pub returns-in-Some-clause-inside : goal.returns-in-Some-clause-inside
returns-in-Some-clause-inside c = (All_popped (λ t. t.0 < length c.put_parts.new.bank.types) c.in_ok-stack.stack.items _ c.in-Some.made c.in-Some.ensures.items c.in_ok-stack.ensures.inside).1
