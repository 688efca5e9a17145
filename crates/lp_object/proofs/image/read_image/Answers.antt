use Rattle.std.proofs.Common.{arith}
use Rattle.lp_object.proofs.Answered.{image_found_so, image_only_so}
use Rattle.lp_object.proofs.image.read_image.Goals as goal

pub returns-clause-found : goal.returns-clause-found
returns-clause-found c = image_found_so c.read_told.result c.args.bytes.now (λ i. omega (arith, c.type_inv.bytes i)) c.read_told.ensures.exact

pub returns-clause-only : goal.returns-clause-only
returns-clause-only c = image_only_so c.read_told.result c.args.bytes.now c.read_told.ensures.exact
