use Rattle.std.proofs.Common.{subst}
use Rattle.lp_model.specs.Proofs.{IsAtomHead}
use Rattle.lp_cert.proofs.Going.{head_later}
use Rattle.lp_cert.proofs.Nodewise.{head_outside, not_atom_head}
use Rattle.lp_cert.proofs.goal.is_atom.Goals as goal

pub returns-clause-yes : goal.returns-clause-yes
returns-clause-yes c = λ e b g.
    let l = c.is_inside.ensures.inside c.if-not-is_inside.false in
    subst IsAtomHead (head_later c.args.bank.now b c.args.goal c.head_of.result g l (c.head_of.ensures.within l) c.head_of.ensures.tree) (c.is_atom_head.ensures.yes e b g)

pub returns-then-not-is_inside-clause-no : goal.returns-then-not-is_inside-clause-no
returns-then-not-is_inside-clause-no c = λ e. head_outside c.args.bank.now c.args.goal (c.is_inside.ensures.outside c.if-not-is_inside.true)

pub returns-clause-no : goal.returns-clause-no
returns-clause-no c = λ e. not_atom_head c.args.bank.now c.args.goal c.head_of.result c.head_of.ensures.tree (c.is_atom_head.ensures.no e)
