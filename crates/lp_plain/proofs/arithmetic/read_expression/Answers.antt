use Rattle.std.proofs.Common.{◌≡◌, length, map, ◌∙◌, ap, arith, refl, w64, to_z, of_z}
use Rattle.std.proofs.lemmas.Int.{to_z-of_z}
use Rattle.lp_calculus.specs.Term.{atom, integer}
use Rattle.lp_term.specs.Nodes.{tree}
use Rattle.lp_standard.specs.Constants.{numbered}
use Rattle.lp_term.specs.declared.node.TermId.{TermId}
use Rattle.lp_pattern.proofs.Names.{no_constant, no_integer, no_text}
use Rattle.lp_plain.proofs.ReadExpressions.{constant_read, constant_stands, integer_read, integer_stands, other_read, text_read, text_stands}
use Rattle.lp_plain.proofs.arithmetic.read_expression.Goals as goal

pub returns-in-Int-clause-is : goal.returns-in-Int-clause-is
returns-in-Int-clause-is c =
    let b = c.args.bank.now in
    let s = c.in_ok-head in
    let e : to_z w64 (of_z w64 c.in-Int.value) ≡ c.in-Int.value = grind (arith, to_z-of_z) in
    integer_read b (tree b c.args.term.0) (tree b s.field-0.head.0) s.field-0.args.items c.as_slice.result.now c.leaf.result s.ensures.head s.ensures.tree c.as_slice.ensures.value _ (ap (λ z. atom (integer z)) e ∙ c.in-Int.ensures.tree) c.leaf.ensures

pub returns-in-Int-clause-stands : goal.returns-in-Int-clause-stands
returns-in-Int-clause-stands c = λ l. integer_stands (length c.args.bank.now.terms) _ c.as_slice.result.now c.leaf.result c.leaf.ensures

pub returns-in-Text-clause-is : goal.returns-in-Text-clause-is
returns-in-Text-clause-is c =
    let b = c.args.bank.now in
    let s = c.in_ok-head in
    text_read b (tree b c.args.term.0) (tree b s.field-0.head.0) s.field-0.args.items c.as_slice-in-Text.result.now c.leaf-in-Text.result s.ensures.head s.ensures.tree c.as_slice-in-Text.ensures.value _ s.field-0.head c.in-Text.ensures.tree refl
    c.leaf-in-Text.ensures

pub returns-in-Text-clause-stands : goal.returns-in-Text-clause-stands
returns-in-Text-clause-stands c = λ l. text_stands (length c.args.bank.now.terms) c.in_ok-head.field-0.head c.as_slice-in-Text.result.now c.leaf-in-Text.result c.leaf-in-Text.ensures (c.in_ok-head.ensures.within l)

pub returns-in-Const-clause-is : goal.returns-in-Const-clause-is
returns-in-Const-clause-is c =
    let b = c.args.bank.now in
    let s = c.in_ok-head in
    constant_read b (tree b c.args.term.0) (tree b s.field-0.head.0) s.field-0.args.items c.as_slice-in-Const.result.now c.applied.result s.ensures.head s.ensures.tree c.as_slice-in-Const.ensures.value c.in-Const.number _ c.in-Const.ensures.tree
    c.applied.ensures

pub returns-in-Const-clause-stands : goal.returns-in-Const-clause-stands
returns-in-Const-clause-stands c = λ l.
    constant_stands (length c.args.bank.now.terms) (numbered c.in-Const.number) c.in_ok-head.field-0.args.items c.as_slice-in-Const.result.now c.applied.result c.as_slice-in-Const.ensures.value c.applied.ensures c.in_ok-head.ensures.args

pub returns-clause-is : goal.returns-clause-is
returns-clause-is c =
    let b = c.args.bank.now in
    let s = c.in_ok-head in
    other_read b (tree b c.args.term.0) (tree b s.field-0.head.0) _ _ c.term_node.result (map (λ (t : TermId). tree b t.0) s.field-0.args.items) s.ensures.head s.ensures.tree c.term_node.ensures.older c.term_node.ensures.tree
    (no_constant c.term_node.result c.in_default.not-Const) (no_integer c.term_node.result c.in_default.not-Int) (no_text c.term_node.result c.in_default.not-Text)

pub returns-clause-stands : goal.returns-clause-stands
returns-clause-stands c = λ l. tt
