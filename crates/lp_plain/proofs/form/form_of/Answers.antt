use Rattle.std.proofs.Common.{map, ◌∙◌}
use Rattle.lp_term.specs.Nodes.{tree}
use Rattle.lp_term.specs.declared.node.TermId.{TermId}
use Rattle.lp_pattern.proofs.Names.{no_constant, no_eigen, no_logic}
use Rattle.lp_plain.proofs.FormFirsts.{constant_first, eigen_first}
use Rattle.lp_plain.proofs.GoalForms.{constant_is, eigen_is, flexible_is, other_is}
use Rattle.lp_plain.proofs.FormStands.{constant_stands, eigen_stands}
use Rattle.lp_plain.proofs.form.form_of.Goals as goal

pub returns-in-Const-clause-form : goal.returns-in-Const-clause-form
returns-in-Const-clause-form c =
    let b = c.args.bank.now in
    let s = c.in_ok-head in
    constant_is b (tree b c.args.goal.0) (tree b s.field-0.head.0) c.in-Const.number _ s.field-0.args.items c.as_slice.result.now c.of_constant.result s.ensures.head s.ensures.tree c.in-Const.ensures.tree c.as_slice.ensures.value c.of_constant.ensures

pub returns-clause-form : goal.returns-clause-form
returns-clause-form c =
    let b = c.args.bank.now in
    let s = c.in_ok-head in
    other_is b (tree b c.args.goal.0) (tree b s.field-0.head.0) _ _ c.term_node.result (map (λ (t : TermId). tree b t.0) s.field-0.args.items) s.ensures.head s.ensures.tree c.term_node.ensures.older c.term_node.ensures.tree
    (no_constant c.term_node.result c.in_default.not-Const) (no_eigen c.term_node.result c.in_default.not-Eigen) (no_logic c.term_node.result c.in_default.not-Logic)

pub returns-in-Eigen-clause-form : goal.returns-in-Eigen-clause-form
returns-in-Eigen-clause-form c =
    let b = c.args.bank.now in
    let s = c.in_ok-head in
    eigen_is b (tree b c.args.goal.0) (tree b s.field-0.head.0) c.in-Eigen.level s.field-0.args.items c.deref.result.now c.copied.result s.ensures.head s.ensures.tree c.in-Eigen.ensures.tree c.deref.ensures.value
    (c.copied.ensures ∙ c.first.ensures.value)

pub returns-in-Logic-clause-form : goal.returns-in-Logic-clause-form
returns-in-Logic-clause-form c =
    let b = c.args.bank.now in
    let s = c.in_ok-head in
    flexible_is b (tree b c.args.goal.0) (tree b s.field-0.head.0) _ _ (map (λ (t : TermId). tree b t.0) s.field-0.args.items) s.ensures.head s.ensures.tree c.in-Logic.ensures.tree

pub returns-in-Const-clause-within : goal.returns-in-Const-clause-within
returns-in-Const-clause-within c =
    let s = c.in_ok-head in
    constant_first c.args.bank.now c.in-Const.number s.field-0.args.items c.as_slice.result.now c.of_constant.result s.ensures.args c.as_slice.ensures.value c.of_constant.ensures

pub returns-in-Eigen-clause-within : goal.returns-in-Eigen-clause-within
returns-in-Eigen-clause-within c =
    let s = c.in_ok-head in
    eigen_first c.args.bank.now c.in-Eigen.level s.field-0.args.items c.deref.result.now c.copied.result s.ensures.args c.deref.ensures.value (c.copied.ensures ∙ c.first.ensures.value)

pub returns-in-Logic-clause-within : goal.returns-in-Logic-clause-within
returns-in-Logic-clause-within c = tt

pub returns-clause-within : goal.returns-clause-within
returns-clause-within c = tt

pub returns-in-Const-clause-stands : goal.returns-in-Const-clause-stands
returns-in-Const-clause-stands c = constant_stands _ c.in-Const.number c.in_ok-head.field-0.args.items c.as_slice.result.now c.of_constant.result c.as_slice.ensures.value c.of_constant.ensures c.in_ok-head.ensures.args

pub returns-in-Eigen-clause-stands : goal.returns-in-Eigen-clause-stands
returns-in-Eigen-clause-stands c = eigen_stands _ c.in-Eigen.level c.in_ok-head.field-0.args.items c.deref.result.now c.copied.result c.deref.ensures.value (c.copied.ensures ∙ c.first.ensures.value) c.in_ok-head.ensures.args
