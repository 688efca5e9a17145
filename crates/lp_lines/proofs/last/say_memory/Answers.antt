use Rattle.lp_base.specs.declared.status.Status.TheVariants as variant
use Rattle.lp_lines.proofs.Refusing.{line_grows}
use Rattle.lp_lines.proofs.last.say_memory.Goals as goal

pub returns-clause-grows : goal.returns-clause-grows
returns-clause-grows g c = line_grows c.say.result variant.Memory c.as_bytes.result.now _ _ c.say.ensures.said c.say.ensures.prefix

pub returns-clause-said : goal.returns-clause-said
returns-clause-said g c = λ n. (c.say.ensures.said n).0
