use Rattle.lp_link.proofs.LinkedCode.{linked_denotes}
use Rattle.lp_link.proofs.laws.copies_denote.Goals as goal

pub returns : goal.returns
returns c = linked_denotes
