use Rattle.std.proofs.Common.{◌≡◌, length, w64, to_z, of_z, arith}
use Rattle.std.proofs.lemmas.Int.{to_z-of_z}
use Rattle.lp_term.specs.Nodes.{tree}
use Rattle.lp_gen.proofs.KeyOf.{constant_key, integer_key, text_key, other_key}
use Rattle.lp_gen.proofs.head.key_at.Goals as goal

pub returns-in-Const : goal.returns-in-Const
returns-in-Const c =
    let b = c.args.bank.now in
    constant_key (tree b c.args.argument.0) (tree b c.head_of.result.0) c.in-Const.number _ c.in-Const.ensures.tree c.head_of.ensures.tree

pub returns-in-Int : goal.returns-in-Int
returns-in-Int c =
    let b = c.args.bank.now in
    let same : to_z w64 (of_z w64 c.in-Int.value) ≡ c.in-Int.value = grind (arith, to_z-of_z) in
    integer_key (tree b c.args.argument.0) (tree b c.head_of.result.0) _ c.in-Int.value c.in-Int.ensures.tree same c.head_of.ensures.tree

pub returns-in_ok-text-in-Text : goal.returns-in_ok-text-in-Text
returns-in_ok-text-in-Text c =
    let b = c.args.bank.now in
    text_key (tree b c.args.argument.0) (tree b c.head_of.result.0) c.in_ok-text-in-Text.text c.in-Text.bytes.now c.in-Text.ensures.tree c.in_ok-text-in-Text.ensures.items c.head_of.ensures.tree

pub returns-in_default : goal.returns-in_default
returns-in_default c =
    let b = c.args.bank.now in
    other_key b (length b.types) c.head_of.result.0 c.term_node.result (tree b c.args.argument.0) (tree b c.head_of.result.0) c.in_default.not-Const
    c.in_default.not-Int c.in_default.not-Text c.term_node.ensures.older
    c.term_node.ensures.tree c.head_of.ensures.tree
