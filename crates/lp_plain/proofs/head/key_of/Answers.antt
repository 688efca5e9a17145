use Rattle.std.proofs.Common.{◌≡◌, ◌∙◌, Some, map, subst, sym, ap, arith, w64, to_z, of_z}
use Rattle.std.proofs.lemmas.Int.{to_z-of_z}
use Rattle.lp_calculus.specs.Term.{integer}
use Rattle.lp_term.specs.Nodes.{tree}
use Rattle.lp_term.specs.Spine.{IsNoApplication}
use Rattle.lp_plain.proofs.Spines.{head_alone, applied_ids}
use Rattle.lp_plain.proofs.KeysMeet.{key_is}
use Rattle.lp_plain.proofs.head.key_of.Goals as goal

pub returns-in-Const-clause-key : goal.returns-in-Const-clause-key
returns-in-Const-clause-key c = key_is (tree c.args.bank.now c.args.term.0) (tree c.args.bank.now c.head_of-head.result.0) _ c.in-Const.ensures.tree c.head_of-head.ensures.tree

pub returns-in-Int-clause-key : goal.returns-in-Int-clause-key
returns-in-Int-clause-key c =
    let same : to_z w64 (of_z w64 c.in-Int.value) ≡ c.in-Int.value = grind (arith, to_z-of_z) in
    key_is (tree c.args.bank.now c.args.term.0) (tree c.args.bank.now c.head_of-head.result.0) _ c.in-Int.ensures.tree c.head_of-head.ensures.tree ∙ ap (λ z. Some (integer z)) (sym same)

pub returns-in-Eigen-clause-key : goal.returns-in-Eigen-clause-key
returns-in-Eigen-clause-key c = key_is (tree c.args.bank.now c.args.term.0) (tree c.args.bank.now c.head_of-head.result.0) _ c.in-Eigen.ensures.tree c.head_of-head.ensures.tree

pub returns-in-Index-clause-key : goal.returns-in-Index-clause-key
returns-in-Index-clause-key c = key_is (tree c.args.bank.now c.args.term.0) (tree c.args.bank.now c.head_of-head.result.0) _ c.in-Index.ensures.tree c.head_of-head.ensures.tree

pub returns-in-Logic-clause-key : goal.returns-in-Logic-clause-key
returns-in-Logic-clause-key c = key_is (tree c.args.bank.now c.args.term.0) (tree c.args.bank.now c.head_of-head.result.0) _ c.in-Logic.ensures.tree c.head_of-head.ensures.tree

pub returns-in-Param-clause-key : goal.returns-in-Param-clause-key
returns-in-Param-clause-key c = key_is (tree c.args.bank.now c.args.term.0) (tree c.args.bank.now c.head_of-head.result.0) _ c.in-Param.ensures.tree c.head_of-head.ensures.tree

pub returns-in-Abs-clause-key : goal.returns-in-Abs-clause-key
returns-in-Abs-clause-key c = key_is (tree c.args.bank.now c.args.term.0) (tree c.args.bank.now c.head_of-head.result.0) _ c.in-Abs.ensures.tree c.head_of-head.ensures.tree

pub returns-in-Text-clause-key : goal.returns-in-Text-clause-key
returns-in-Text-clause-key c = (
  c.in-Text.field-0.now,
  sym c.in-Text.ensures.tree,
  key_is (tree c.args.bank.now c.args.term.0) (tree c.args.bank.now c.head_of-head.result.0) _ c.in-Text.ensures.tree c.head_of-head.ensures.tree,
)

pub returns-in-App-clause-key : goal.returns-in-App-clause-key
returns-in-App-clause-key c =
    let b = c.args.bank.now in
    absurd (applied_ids b (tree b c.in-App.field-0.0) (map (λ t. t.0) c.in-App.field-1.now) c.in-App.ensures.older.2
    (subst IsNoApplication (sym (c.in-App.ensures.tree ∙ c.head_of-head.ensures.tree)) (head_alone (tree b c.args.term.0))))

pub returns-in-Text-clause-within : goal.returns-in-Text-clause-within
returns-in-Text-clause-within c = λ h. c.head_of-head.ensures.within h
