use Rattle.std.proofs.Common.{refl}
use Rattle.lp_term.specs.Nodes.{tree}
use Rattle.lp_cert.proofs.Beginnings.{constant_tree}
use Rattle.lp_cert.proofs.Later.{seen_later}
use Rattle.lp_cert.proofs.Endings.{no_atom}
use Rattle.lp_calculus.specs.Term.{constant}
use Rattle.lp_cert.proofs.shape.one_applied.Goals as goal

pub returns-in-Const-clause-now : goal.returns-in-Const-clause-now
returns-in-Const-clause-now c = (constant_tree c.args.bank.now c.in-Const.constant c.in-Const.types.now (tree c.args.bank.now c.args.head.0) c.in-Const.ensures.tree, refl)

pub returns-in-Const-clause-later : goal.returns-in-Const-clause-later
returns-in-Const-clause-later c = λ b e. (
  constant_tree b c.in-Const.constant c.in-Const.types.now (tree b c.args.head.0) (seen_later c.args.bank.now b c.args.head.0 _ e c.in-Const.ensures.node (λ q. absurd (cc)) c.in-Const.ensures.within c.in-Const.ensures.tree),
  refl,
)

pub returns-in-App-clause-none : goal.returns-in-App-clause-none
returns-in-App-clause-none c = λ e n ts q. no_atom c.args.bank.now _ (tree c.args.bank.now c.args.head.0) c.in-App.field-1.now (constant n ts) c.in-App.ensures.within.2 c.in-App.ensures.tree q
