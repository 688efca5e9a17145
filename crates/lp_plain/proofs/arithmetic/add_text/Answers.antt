use Rattle.std.proofs.Common.{◌∙◌, ◌++◌, ap, sym}
use Rattle.lp_term.specs.Nodes.{tree}
use Rattle.lp_pattern.proofs.Names.{no_text}
use Rattle.lp_plain.proofs.ValuesGiven.{no_text_there, same_text}
use Rattle.lp_plain.proofs.arithmetic.add_text.Goals as goal

pub returns-in_ok-extend_from_slice-in-Text : goal.returns-in_ok-extend_from_slice-in-Text
returns-in_ok-extend_from_slice-in-Text c = λ s e.
    c.in_ok-extend_from_slice-in-Text.ensures.items ∙ ap (λ l. c.args.out.now.items ++ l) (sym (same_text c.in-Text.bytes.now s (tree c.args.bank.now c.args.part.0) c.in-Text.ensures.tree e))

pub returns-in_default : goal.returns-in_default
returns-in_default c = λ s e.
    absurd (no_text_there c.args.bank.now _ _ c.term_node.result (tree c.args.bank.now c.args.part.0) s c.term_node.ensures.older c.term_node.ensures.tree (no_text c.term_node.result c.in_default.not-Text) e)
