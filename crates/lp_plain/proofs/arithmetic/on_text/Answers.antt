use Rattle.std.proofs.Common.{◌≡◌, ap, length}
use Rattle.lp_standard.specs.Constants.{number}
use Rattle.lp_term.specs.Nodes.{tree}
use Rattle.lp_model.specs.Values.{Bytes, unary}
use Rattle.lp_pattern.proofs.Names.{no_text}
use Rattle.lp_plain.proofs.ValuesGiven.{no_text_there, same_text}
use Rattle.lp_plain.proofs.arithmetic.on_text.Goals as goal

pub returns-in-Text : goal.returns-in-Text
returns-in-Text c = λ s e.
    let b = c.args.bank.now in
    let q = same_text c.in-Text.bytes.now s (tree b c.args.part.0) c.in-Text.ensures.tree e in
    let l : length s ≡ length c.in-Text.bytes.now = ap length q in
    c.outcome_of.ensures b (unary (number c.args.operation) (Bytes s)) (c.on_length.ensures s l)

pub returns-in_default : goal.returns-in_default
returns-in_default c = λ s e.
    absurd (no_text_there c.args.bank.now _ _ c.term_node.result (tree c.args.bank.now c.args.part.0) s c.term_node.ensures.older c.term_node.ensures.tree (no_text c.term_node.result c.in_default.not-Text) e)
