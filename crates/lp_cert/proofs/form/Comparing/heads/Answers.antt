use Rattle.std.proofs.Common.{◌∙◌, ap, sym, ◌≡◌, arith, w64, to_z, of_z}
use Rattle.lp_calculus.specs.Term.{atom, constant, integer}
use Rattle.lp_term.specs.Nodes.{tree, type_tree}
use Rattle.lp_cert.proofs.Comparisons.{leads_from, twice}
use Rattle.lp_cert.proofs.Endings.{no_head}
use Rattle.lp_cert.proofs.Matching.{follows_from, plain_from, test_follows, without_application}
use Rattle.std.proofs.lemmas.Int.{to_z-of_z}
use Rattle.lp_cert.proofs.form.Comparing.heads.Goals as goal

pub returns-in-Const-clause-leads : goal.returns-in-Const-clause-leads
returns-in-Const-clause-leads c =
    leads_from c.args.bank.now c.args.self.now c.constant.new.self _ (tree c.args.bank.now c.args.left.0) (tree c.args.bank.now c.args.right.0) c.constant.result
    (ap (λ l. atom (constant c.in-Const.number l)) (sym (twice (type_tree c.args.bank.now) c.in-Const.types.now)) ∙ c.in-Const.ensures.tree) c.constant.ensures.leads

pub returns-in-Index-clause-follows : goal.returns-in-Index-clause-follows
returns-in-Index-clause-follows c = λ n k. test_follows c.args.bank.now c.args.self.now _ _ c.is_index.result (λ e. sym c.in-Index.ensures.tree ∙ c.is_index.ensures.same e) (λ e q. c.is_index.ensures.differ e (c.in-Index.ensures.tree ∙ q))

pub returns-in-Int-clause-follows : goal.returns-in-Int-clause-follows
returns-in-Int-clause-follows c = λ n k.
    let same : to_z w64 (of_z w64 c.in-Int.value) ≡ c.in-Int.value = grind (arith, to_z-of_z) in
    test_follows c.args.bank.now c.args.self.now _ _ c.is_integer.result (λ e. sym c.in-Int.ensures.tree ∙ ap (λ z. atom (integer z)) (sym same) ∙ c.is_integer.ensures.same e) (λ e q. c.is_integer.ensures.differ e (ap (λ z. atom (integer z)) same ∙ c.in-Int.ensures.tree ∙ q))

pub returns-in-Text-clause-follows : goal.returns-in-Text-clause-follows
returns-in-Text-clause-follows c = λ n k. test_follows c.args.bank.now c.args.self.now _ _ c.is_text.result (λ e. sym c.in-Text.ensures.tree ∙ c.is_text.ensures.same e) (λ e q. c.is_text.ensures.differ e (c.in-Text.ensures.tree ∙ q))

pub returns-in-Eigen-clause-follows : goal.returns-in-Eigen-clause-follows
returns-in-Eigen-clause-follows c = λ n k. test_follows c.args.bank.now c.args.self.now _ _ c.is_eigen.result (λ e. sym c.in-Eigen.ensures.tree ∙ c.is_eigen.ensures.same e) (λ e q. c.is_eigen.ensures.differ e (c.in-Eigen.ensures.tree ∙ q))

pub returns-in-Logic-clause-follows : goal.returns-in-Logic-clause-follows
returns-in-Logic-clause-follows c = λ n k. test_follows c.args.bank.now c.args.self.now _ _ c.is_logic.result (λ e. sym c.in-Logic.ensures.tree ∙ c.is_logic.ensures.same e) (λ e q. c.is_logic.ensures.differ e (c.in-Logic.ensures.tree ∙ q))

pub returns-in-Const-clause-follows : goal.returns-in-Const-clause-follows
returns-in-Const-clause-follows c =
    without_application c.constant.result _ _ (follows_from c.args.bank.now c.args.self.now c.constant.new.self _ (tree c.args.bank.now c.args.left.0) (tree c.args.bank.now c.args.right.0) c.constant.result
    (ap (λ l. atom (constant c.in-Const.number l)) (sym (twice (type_tree c.args.bank.now) c.in-Const.types.now)) ∙ c.in-Const.ensures.tree) c.constant.ensures.follows)

pub returns-in-Const-clause-plain : goal.returns-in-Const-clause-plain
returns-in-Const-clause-plain c =
    plain_from c.args.bank.now _ _ _ (tree c.args.bank.now c.args.left.0) c.constant.result
    (ap (λ l. atom (constant c.in-Const.number l)) (sym (twice (type_tree c.args.bank.now) c.in-Const.types.now)) ∙ c.in-Const.ensures.tree) c.constant.ensures.plain

pub returns-in-Param-clause-follows : goal.returns-in-Param-clause-follows
returns-in-Param-clause-follows c = without_application c.parameter.result _ _ (follows_from c.args.bank.now c.args.self.now c.parameter.new.self _ (tree c.args.bank.now c.args.left.0) (tree c.args.bank.now c.args.right.0) c.parameter.result c.in-Param.ensures.tree c.parameter.ensures.follows)

pub returns-in-Param-clause-plain : goal.returns-in-Param-clause-plain
returns-in-Param-clause-plain c = plain_from c.args.bank.now _ _ _ (tree c.args.bank.now c.args.left.0) c.parameter.result c.in-Param.ensures.tree c.parameter.ensures.plain

pub returns-in-Abs-clause-follows : goal.returns-in-Abs-clause-follows
returns-in-Abs-clause-follows c = without_application c.abstraction.result _ _ (follows_from c.args.bank.now c.args.self.now c.abstraction.new.self _ (tree c.args.bank.now c.args.left.0) (tree c.args.bank.now c.args.right.0) c.abstraction.result c.in-Abs.ensures.tree c.abstraction.ensures.follows)

pub returns-in-Abs-clause-plain : goal.returns-in-Abs-clause-plain
returns-in-Abs-clause-plain c = plain_from c.args.bank.now _ _ _ (tree c.args.bank.now c.args.left.0) c.abstraction.result c.in-Abs.ensures.tree c.abstraction.ensures.plain

pub returns-in-App-clause-follows : goal.returns-in-App-clause-follows
returns-in-App-clause-follows c = λ n k q. no_head c.args.bank.now _ (tree c.args.bank.now c.args.left.0) c.in-App.field-1.now c.in-App.ensures.within.2 c.in-App.ensures.tree n
