use Rattle.lp_build.proofs.Copied.{copy_of_text}
use Rattle.lp_build.proofs.signatures.Signatures.copy_one.Goals as goal

pub returns : goal.returns
returns c = λ g h. (c.in_ok-copy_of.field-0, copy_of_text g c.args.number c.in-Some.signature.now c.in_ok-copy_of.field-0 c.in_ok-copy_of.ensures (c.in-Some.ensures g h), c.in_ok-push.ensures.items)
