use Rattle.lp_lines.proofs.Refusing.{line_grows}
use Rattle.lp_judge.proofs.Checkings.{told_no_fault, told_of_search}
use Rattle.lp_judge.proofs.checking.say_checked.Goals as goal

pub refuse-requires : goal.refuse-requires
refuse-requires g c = told_no_fault c.requires.0 c.requires.1 _ _ c.requires.2

pub returns-clause-grows : goal.returns-clause-grows
returns-clause-grows g c = line_grows c.refuse.result c.args.told.status c.args.told.line.items _ _ c.refuse.ensures.said c.refuse.ensures.prefix

pub returns-clause-of_search : goal.returns-clause-of_search
returns-clause-of_search g c = told_of_search c.requires.0 c.requires.1 _ _ c.refuse.result c.requires.2 (λ n. (c.refuse.ensures.said n).0)
