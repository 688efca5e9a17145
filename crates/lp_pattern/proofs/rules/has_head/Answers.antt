use Rattle.std.proofs.Common.{◌∙◌}
use Rattle.lp_pattern.specs.Reading.{side_of}
use Rattle.lp_pattern.proofs.Judging.{head_variable, head_abstraction, head_rigid}
use Rattle.lp_pattern.proofs.rules.has_head.Goals as goal

pub returns-in-Variable : goal.returns-in-Variable
returns-in-Variable c = λ b r. c.is_variable.ensures ∙ head_variable b r (side_of c.args.side.now) c.args.looked.now _ _ c.in-Variable.is

pub returns-in-Abstraction : goal.returns-in-Abstraction
returns-in-Abstraction c = λ b r. head_abstraction b r (side_of c.args.side.now) c.args.looked.now _ c.in-Abstraction.is

pub returns-in-Rigid : goal.returns-in-Rigid
returns-in-Rigid c = λ b r. head_rigid b r (side_of c.args.side.now) c.args.looked.now c.in-Rigid.is
