use Rattle.std.proofs.Common.{◌∙◌, refl}
use Rattle.lp_term.specs.Nodes.{tree}
use Rattle.lp_plain.specs.Renewal.{renewing}
use Rattle.lp_plain.proofs.RenewedTypes.{renewing_none}
use Rattle.lp_plain.proofs.Instances.{atom_stays, constant_stays, constant_renewed}
use Rattle.lp_plain.proofs.instance.renewed_atom.Goals as goal

pub returns-in-Int-clause-renewed : goal.returns-in-Int-clause-renewed
returns-in-Int-clause-renewed c = atom_stays (renewing c.args.types) _ (tree c.args.bank.now c.args.id.0) c.in-Int.ensures.tree (λ _. refl)

pub returns-in-Text-clause-renewed : goal.returns-in-Text-clause-renewed
returns-in-Text-clause-renewed c = atom_stays (renewing c.args.types) _ (tree c.args.bank.now c.args.id.0) c.in-Text.ensures.tree (λ _. refl)

pub returns-in-Eigen-clause-renewed : goal.returns-in-Eigen-clause-renewed
returns-in-Eigen-clause-renewed c = atom_stays (renewing c.args.types) _ (tree c.args.bank.now c.args.id.0) c.in-Eigen.ensures.tree (λ _. refl)

pub returns-in-Logic-clause-renewed : goal.returns-in-Logic-clause-renewed
returns-in-Logic-clause-renewed c = atom_stays (renewing c.args.types) _ (tree c.args.bank.now c.args.id.0) c.in-Logic.ensures.tree (λ _. refl)

pub returns-in-Param-clause-renewed : goal.returns-in-Param-clause-renewed
returns-in-Param-clause-renewed c = atom_stays (renewing c.args.types) _ (tree c.args.bank.now c.args.id.0) c.in-Param.ensures.tree (λ h. absurd h)

pub returns-then-types-eq0-clause-renewed : goal.returns-then-types-eq0-clause-renewed
returns-then-types-eq0-clause-renewed c = constant_stays (renewing c.args.types) c.in-Const.number _ (tree c.args.bank.now c.args.id.0) c.in-Const.ensures.tree (renewing_none c.args.types c.if-types-eq0.true)

pub returns-in_ok-new-in-Const-clause-renewed : goal.returns-in_ok-new-in-Const-clause-renewed
returns-in_ok-new-in-Const-clause-renewed c =
    constant_renewed (renewing c.args.types) c.args.bank.now c.in-Const.number c.in-Const.ids.now c.as_slice.result.now (tree c.args.bank.now c.args.id.0) (tree c.put_renewed.new.bank c.in_ok-new-in-Const.new.0) c.in-Const.ensures.tree
    c.in-Const.ensures.older (c.as_slice.ensures.value ∙ c.in_ok-old-in-Const.ensures.items) c.in_ok-new-in-Const.ensures.tree
