use Rattle.std.proofs.Common.{[]}
use Rattle.lp_sig.proofs.making.Making.new.Goals as goal

pub returns-clause-constants : goal.returns-clause-constants
returns-clause-constants c = c.new-3.ensures.known c.new-2.result.types.bank [] []

pub returns-clause-empty : goal.returns-clause-empty
returns-clause-empty c = c.new-3.ensures.empty
