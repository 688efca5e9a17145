use Rattle.std.proofs.Common.{◌∙◌, refl, ap, map, arith}
use Rattle.lp_calculus.specs.Term.{index, atom, abs, apply, integer, text, eigen, param}
use Rattle.lp_calculus.specs.Typing.{int_type, string_type}
use Rattle.lp_term.specs.Node.{index_node, int_node, text_node, eigen_node, typed_param_node, abs_node, app_node, logic_node}
use Rattle.lp_term.specs.Nodes.{tree, type_tree}
use Rattle.lp_term.proofs.Trees.{extends-trans}
use Rattle.lp_cert.specs.inner.Derives.{visiting}
use Rattle.lp_cert.proofs.Deriving.{step_as, step_any, step_pushes, constant_step, twice_terms}
use Rattle.lp_cert.proofs.Later.{seen_inside}
use Rattle.lp_cert.proofs.Visiting.{visit_any, visit_kind, visit_plain, visit_param, visit_logic, visit_as, visit_application, visit_constant, body_task, top_seen}
use Rattle.lp_cert.proofs.typing.Typing.visit.Goals as goal

pub returns-in-Index-clause-moves : goal.returns-in-Index-clause-moves
returns-in-Index-clause-moves c =
    step_as c.args.bank.now c.args.self.now c.index.new.self c.index.result (λ b. index c.in-Index.at) (λ b. tree b c.args.term.0)
    (λ b g. seen_inside c.args.bank.now b c.args.term.0 (index_node c.in-Index.at) g (c.is_inside.ensures.inside c.if-not-is_inside.false) c.in-Index.ensures.within c.in-Index.ensures.tree)
    (step_any c.args.bank.now c.args.self.now c.index.new.self c.index.result (λ b. visiting (index c.in-Index.at)) c.index.ensures.moves)

pub returns-in-Int-clause-moves : goal.returns-in-Int-clause-moves
returns-in-Int-clause-moves c =
    step_as c.kind.new.bank c.args.self.now c.kind.new.self c.kind.result (λ b. atom (integer c.in-Int.field-0)) (λ b. tree b c.args.term.0)
    (λ b g. seen_inside c.args.bank.now b c.args.term.0 (int_node c.in-Int.field-0) (extends-trans c.args.bank.now c.kind.new.bank b c.kind.ensures.kept g) (c.is_inside.ensures.inside c.if-not-is_inside.false) c.in-Int.ensures.within c.in-Int.ensures.tree)
    (step_pushes c.kind.new.bank c.args.self.now c.kind.new.self c.kind.result (λ b. int_type) (λ b. atom (integer c.in-Int.field-0)) (λ b g C. refl) c.kind.ensures.pushes)

pub returns-in-Text-clause-moves : goal.returns-in-Text-clause-moves
returns-in-Text-clause-moves c =
    step_as c.kind-in-Text.new.bank c.args.self.now c.kind-in-Text.new.self c.kind-in-Text.result (λ b. atom (text c.in-Text.field-0.now)) (λ b. tree b c.args.term.0)
    (λ b g. seen_inside c.args.bank.now b c.args.term.0 (text_node c.in-Text.field-0.now) (extends-trans c.args.bank.now c.kind-in-Text.new.bank b c.kind-in-Text.ensures.kept g) (c.is_inside.ensures.inside c.if-not-is_inside.false) c.in-Text.ensures.within c.in-Text.ensures.tree)
    (step_pushes c.kind-in-Text.new.bank c.args.self.now c.kind-in-Text.new.self c.kind-in-Text.result (λ b. string_type) (λ b. atom (text c.in-Text.field-0.now)) (λ b g C. refl) c.kind-in-Text.ensures.pushes)

pub returns-in-Eigen-clause-moves : goal.returns-in-Eigen-clause-moves
returns-in-Eigen-clause-moves c = step_as c.args.bank.now c.args.self.now c.eigen.new.self c.eigen.result (λ b. atom (eigen c.in-Eigen.level))
    (λ b. tree b c.args.term.0) (λ b g. seen_inside c.args.bank.now b c.args.term.0 (eigen_node c.in-Eigen.level) g
    (c.is_inside.ensures.inside c.if-not-is_inside.false) c.in-Eigen.ensures.within c.in-Eigen.ensures.tree) c.eigen.ensures.moves

pub returns-in-Param-clause-moves : goal.returns-in-Param-clause-moves
returns-in-Param-clause-moves c =
    step_as c.args.bank.now c.args.self.now c.closed.new.self c.closed.result (λ b. atom (param c.in-Param.field-0 (type_tree b c.in-Param.of.0))) (λ b. tree b c.args.term.0)
    (λ b g. seen_inside c.args.bank.now b c.args.term.0 (typed_param_node c.in-Param.field-0 c.in-Param.of.0) g (c.is_inside.ensures.inside c.if-not-is_inside.false) c.in-Param.ensures.within c.in-Param.ensures.tree)
    (step_pushes c.args.bank.now c.args.self.now c.closed.new.self c.closed.result (λ b. type_tree b c.in-Param.of.0) (λ b. atom (param c.in-Param.field-0 (type_tree b c.in-Param.of.0))) (λ b g C. refl) c.closed.ensures.pushes)

pub returns-in-Abs-clause-moves : goal.returns-in-Abs-clause-moves
returns-in-Abs-clause-moves c =
    step_as c.abstraction.new.bank c.args.self.now c.abstraction.new.self c.abstraction.result (λ b. abs (tree b c.in-Abs.body.0)) (λ b. tree b c.args.term.0)
    (λ b g. seen_inside c.args.bank.now b c.args.term.0 (abs_node c.in-Abs.body.0) (extends-trans c.args.bank.now c.abstraction.new.bank b c.abstraction.ensures.kept g) (c.is_inside.ensures.inside c.if-not-is_inside.false) c.in-Abs.ensures.within c.in-Abs.ensures.tree)
    c.abstraction.ensures.moves

pub returns-in-App-clause-moves : goal.returns-in-App-clause-moves
returns-in-App-clause-moves c =
    step_as c.args.bank.now c.args.self.now c.application.new.self c.application.result (λ b. apply (tree b c.in-App.head.0) (map (λ t. tree b t.0) c.in-App.arguments.now)) (λ b. tree b c.args.term.0)
    (λ b g. ap (apply (tree b c.in-App.head.0)) (twice_terms (tree b) c.in-App.arguments.now) ∙ seen_inside c.args.bank.now b c.args.term.0
    (app_node c.in-App.head.0 (map (λ t. t.0) c.in-App.arguments.now)) g (c.is_inside.ensures.inside c.if-not-is_inside.false)
    c.in-App.ensures.within c.in-App.ensures.tree)
    (step_any c.args.bank.now c.args.self.now c.application.new.self c.application.result (λ b. visiting (apply (tree b c.in-App.head.0) (map (λ t. tree b t.0) c.in-App.arguments.now))) c.application.ensures.moves)

pub returns-in_ok-copy-in-Const-clause-moves : goal.returns-in_ok-copy-in-Const-clause-moves
returns-in_ok-copy-in-Const-clause-moves c =
    constant_step c.args.bank.now c.constant.new.bank c.args.self.now c.constant.new.self c.constant.result c.args.term c.in-Const.number
    c.in-Const.types.now c.as_slice.result.now (c.as_slice.ensures.value ∙ c.in_ok-copy-in-Const.ensures.items) c.constant.ensures.kept
    (c.is_inside.ensures.inside c.if-not-is_inside.false) c.in-Const.ensures.within c.in-Const.ensures.tree c.constant.ensures.moves

pub returns-then-not-is_inside-clause-keeps : goal.returns-then-not-is_inside-clause-keeps
returns-then-not-is_inside-clause-keeps c = λ y h. absurd (omega (arith, h.0, c.is_inside.ensures.outside c.if-not-is_inside.true))

pub returns-in-Index-clause-keeps : goal.returns-in-Index-clause-keeps
returns-in-Index-clause-keeps c =
    visit_any c.args.bank.now c.args.self.now c.index.new.self c.index.result c.args.term (λ b. index c.in-Index.at)
    (λ b g. seen_inside c.args.bank.now b c.args.term.0 (index_node c.in-Index.at) g (c.is_inside.ensures.inside c.if-not-is_inside.false) c.in-Index.ensures.within c.in-Index.ensures.tree) c.index.ensures.keeps

pub returns-in-Int-clause-keeps : goal.returns-in-Int-clause-keeps
returns-in-Int-clause-keeps c =
    visit_kind c.args.bank.now c.kind.new.bank c.args.self.now c.kind.new.self c.kind.result c.args.term (λ b. atom (integer c.in-Int.field-0)) int_type c.kind.ensures.kept tt
    (λ b g. top_seen c.args.bank.now c.kind.new.bank b c.args.term (int_node c.in-Int.field-0) c.kind.ensures.kept g (c.is_inside.ensures.inside c.if-not-is_inside.false) c.in-Int.ensures.within c.in-Int.ensures.tree) (λ b C A e. cc) c.kind.ensures.held

pub returns-in-Text-clause-keeps : goal.returns-in-Text-clause-keeps
returns-in-Text-clause-keeps c =
    visit_kind c.args.bank.now c.kind-in-Text.new.bank c.args.self.now c.kind-in-Text.new.self c.kind-in-Text.result c.args.term (λ b. atom (text c.in-Text.field-0.now)) string_type c.kind-in-Text.ensures.kept tt
    (λ b g. top_seen c.args.bank.now c.kind-in-Text.new.bank b c.args.term (text_node c.in-Text.field-0.now) c.kind-in-Text.ensures.kept g (c.is_inside.ensures.inside c.if-not-is_inside.false) c.in-Text.ensures.within c.in-Text.ensures.tree) (λ b C A e. cc) c.kind-in-Text.ensures.held

pub returns-in-Eigen-clause-keeps : goal.returns-in-Eigen-clause-keeps
returns-in-Eigen-clause-keeps c =
    visit_plain c.args.bank.now c.args.bank.now c.args.self.now c.eigen.new.self c.eigen.result c.args.term (λ b. atom (eigen c.in-Eigen.level))
    (λ b g. seen_inside c.args.bank.now b c.args.term.0 (eigen_node c.in-Eigen.level) g (c.is_inside.ensures.inside c.if-not-is_inside.false) c.in-Eigen.ensures.within c.in-Eigen.ensures.tree) c.eigen.ensures.keeps

pub returns-in-Logic-clause-keeps : goal.returns-in-Logic-clause-keeps
returns-in-Logic-clause-keeps c = λ y h.
    visit_logic c.args.bank.now c.args.self.now _ c.args.term c.in-Logic.id c.in-Logic.level (λ b g. seen_inside c.args.bank.now b c.args.term.0 (logic_node c.in-Logic.id c.in-Logic.level) g (c.is_inside.ensures.inside c.if-not-is_inside.false) c.in-Logic.ensures.within c.in-Logic.ensures.tree)

pub returns-in-Param-clause-keeps : goal.returns-in-Param-clause-keeps
returns-in-Param-clause-keeps c =
    visit_param c.args.bank.now c.args.self.now c.closed.new.self c.closed.result c.args.term c.in-Param.field-0 c.in-Param.of
    (λ b g. seen_inside c.args.bank.now b c.args.term.0 (typed_param_node c.in-Param.field-0 c.in-Param.of.0) g (c.is_inside.ensures.inside c.if-not-is_inside.false) c.in-Param.ensures.within c.in-Param.ensures.tree) c.closed.ensures.held

pub returns-in-Abs-clause-keeps : goal.returns-in-Abs-clause-keeps
returns-in-Abs-clause-keeps c =
    visit_as c.args.bank.now c.abstraction.new.bank c.args.self.now c.abstraction.new.self c.abstraction.result c.args.term (λ b. abs (tree b c.in-Abs.body.0)) _
    (λ b g. top_seen c.args.bank.now c.abstraction.new.bank b c.args.term (abs_node c.in-Abs.body.0) c.abstraction.ensures.kept g (c.is_inside.ensures.inside c.if-not-is_inside.false) c.in-Abs.ensures.within c.in-Abs.ensures.tree)
    (λ h. body_task c.args.bank.now c.args.term c.in-Abs.body c.in-Abs.ensures.within c.in-Abs.ensures.tree h) c.abstraction.ensures.keeps

pub returns-in-App-clause-keeps : goal.returns-in-App-clause-keeps
returns-in-App-clause-keeps c =
    visit_application c.args.bank.now c.args.self.now c.application.new.self c.application.result c.args.term c.in-App.head c.in-App.arguments.now c.in-App.ensures.within.0 c.in-App.ensures.within.1
    (λ b g. ap (apply (tree b c.in-App.head.0)) (twice_terms (tree b) c.in-App.arguments.now) ∙ seen_inside c.args.bank.now b c.args.term.0
    (app_node c.in-App.head.0 (map (λ t. t.0) c.in-App.arguments.now)) g (c.is_inside.ensures.inside c.if-not-is_inside.false)
    c.in-App.ensures.within c.in-App.ensures.tree)
    c.application.ensures.keeps

pub returns-in_ok-copy-in-Const-clause-keeps : goal.returns-in_ok-copy-in-Const-clause-keeps
returns-in_ok-copy-in-Const-clause-keeps c =
    visit_constant c.args.bank.now c.constant.new.bank c.args.self.now c.constant.new.self c.constant.result c.args.term c.in-Const.number
    c.in-Const.types.now c.as_slice.result.now (c.as_slice.ensures.value ∙ c.in_ok-copy-in-Const.ensures.items) c.constant.ensures.kept
    (c.is_inside.ensures.inside c.if-not-is_inside.false) c.in-Const.ensures.within c.in-Const.ensures.tree c.constant.ensures.keeps
