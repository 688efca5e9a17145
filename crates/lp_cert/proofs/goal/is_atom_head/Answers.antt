use Rattle.std.proofs.Common.{arith, subst, sym}
use Rattle.std.proofs.lemmas.Bool.Decides.{nat_tests}
use Rattle.lp_model.specs.Proofs.{IsAtomHead}
use Rattle.lp_cert.proofs.Later.{seen_later}
use Rattle.lp_cert.proofs.Endings.{no_atom_head}
use Rattle.lp_term.specs.Nodes.{tree}
use Rattle.lp_cert.proofs.goal.is_atom_head.Goals as goal

pub returns-in-Const-clause-yes : goal.returns-in-Const-clause-yes
returns-in-Const-clause-yes c = λ e b g. subst IsAtomHead (seen_later c.args.bank.now b c.args.head.0 _ g c.in-Const.ensures.node (λ q. absurd (cc)) c.in-Const.ensures.within c.in-Const.ensures.tree) (grind (arith, nat_tests, e))

pub returns-in-Eigen-clause-yes : goal.returns-in-Eigen-clause-yes
returns-in-Eigen-clause-yes c = λ e b g. subst IsAtomHead (seen_later c.args.bank.now b c.args.head.0 _ g c.in-Eigen.ensures.node (λ q. absurd (cc)) c.in-Eigen.ensures.within c.in-Eigen.ensures.tree) tt

pub returns-in-Const-clause-no : goal.returns-in-Const-clause-no
returns-in-Const-clause-no c = λ e k. let l = subst IsAtomHead (sym c.in-Const.ensures.tree) k in absurd (grind (arith, nat_tests, e, l))

pub returns-in-Index-clause-no : goal.returns-in-Index-clause-no
returns-in-Index-clause-no c = λ e k. subst IsAtomHead (sym c.in-Index.ensures.tree) k

pub returns-in-Int-clause-no : goal.returns-in-Int-clause-no
returns-in-Int-clause-no c = λ e k. subst IsAtomHead (sym c.in-Int.ensures.tree) k

pub returns-in-Text-clause-no : goal.returns-in-Text-clause-no
returns-in-Text-clause-no c = λ e k. subst IsAtomHead (sym c.in-Text.ensures.tree) k

pub returns-in-Logic-clause-no : goal.returns-in-Logic-clause-no
returns-in-Logic-clause-no c = λ e k. subst IsAtomHead (sym c.in-Logic.ensures.tree) k

pub returns-in-Param-clause-no : goal.returns-in-Param-clause-no
returns-in-Param-clause-no c = λ e k. subst IsAtomHead (sym c.in-Param.ensures.tree) k

pub returns-in-Abs-clause-no : goal.returns-in-Abs-clause-no
returns-in-Abs-clause-no c = λ e k. subst IsAtomHead (sym c.in-Abs.ensures.tree) k

pub returns-in-App-clause-no : goal.returns-in-App-clause-no
returns-in-App-clause-no c = λ e k. no_atom_head c.args.bank.now _ (tree c.args.bank.now c.args.head.0) c.in-App.field-1.now c.in-App.ensures.within.2 c.in-App.ensures.tree k
