use Rattle.std.proofs.Common.{arith, inl, inr}
use Rattle.lp_term.specs.Nodes.{tree, type_tree}
use Rattle.lp_cert.proofs.Later.{seen_later}
use Rattle.lp_cert.proofs.Going.{trivial_seen}
use Rattle.lp_cert.proofs.Nodewise.{trivial_number, trivial_typed}
use Rattle.lp_cert.proofs.Endings.{no_atom}
use Rattle.lp_cert.proofs.goal.is_trivial.Goals as goal

pub returns-else-types-ne0-clause-yes : goal.returns-else-types-ne0-clause-yes
returns-else-types-ne0-clause-yes c = λ e b g.
    trivial_seen b (tree b c.args.goal.0) c.in-Const.constant c.in-Const.types.now (seen_later c.args.bank.now b c.args.goal.0 _ g c.in-Const.ensures.node (λ q. absurd (cc)) c.in-Const.ensures.within c.in-Const.ensures.tree) (omega (arith, c.if-types-ne0.false)) (c.is_true_or_cut.ensures.yes e)

pub returns-then-types-ne0-clause-no : goal.returns-then-types-ne0-clause-no
returns-then-types-ne0-clause-no c = λ e q. trivial_typed c.args.bank.now (tree c.args.bank.now c.args.goal.0) c.in-Const.constant c.in-Const.types.now (λ l. omega (arith, l, c.if-types-ne0.true)) c.in-Const.ensures.tree q

pub returns-else-types-ne0-clause-no : goal.returns-else-types-ne0-clause-no
returns-else-types-ne0-clause-no c = λ e q. c.is_true_or_cut.ensures.no e (trivial_number c.args.bank.now (tree c.args.bank.now c.args.goal.0) c.in-Const.constant c.in-Const.types.now c.in-Const.ensures.tree q)

pub returns-in-App-clause-no : goal.returns-in-App-clause-no
returns-in-App-clause-no c = λ e q. elim q [
  | inl k ↦ no_atom c.args.bank.now _ (tree c.args.bank.now c.args.goal.0) c.in-App.field-1.now _
      c.in-App.ensures.within.2 c.in-App.ensures.tree k
  | inr k ↦ no_atom c.args.bank.now _ (tree c.args.bank.now c.args.goal.0) c.in-App.field-1.now _
      c.in-App.ensures.within.2 c.in-App.ensures.tree k
]
