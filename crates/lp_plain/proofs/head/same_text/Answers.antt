use Rattle.std.proofs.Common.{◌≡◌, ◌∙◌, length, ap}
use Rattle.lp_calculus.specs.Term.{atom, text}
use Rattle.lp_term.specs.Nodes.{tree}
use Rattle.lp_pattern.proofs.Names.{no_text}
use Rattle.lp_plain.specs.Candidates.{is_text_of}
use Rattle.lp_plain.proofs.Indexes.{other_text}
use Rattle.lp_plain.proofs.KeysMeet.{first_is_none, texts_meet}
use Rattle.lp_plain.proofs.head.same_text.Goals as goal

pub returns-in_default-clause-same : goal.returns-in_default-clause-same
returns-in_default-clause-same c = other_text c.args.bank.now c.args.one.0 c.args.other.0 _ _ c.term_node.result c.term_node.ensures.older c.term_node.ensures.tree (no_text c.term_node.result c.in_default.not-Text)

pub returns-in_default-clause-meet : goal.returns-in_default-clause-meet
returns-in_default-clause-meet c = first_is_none c.args.bank.now (length c.args.bank.now.types) c.args.one.0 c.term_node.result c.args.one c.args.other c.term_node.ensures.older c.term_node.ensures.tree c.in_default.not-Text

pub returns-in-Text-clause-same : goal.returns-in-Text-clause-same
returns-in-Text-clause-same c =
    let e : atom (text c.in-Text.left.now) ≡ tree c.args.bank.now c.args.one.0 = c.in-Text.ensures.tree in
    c.has_bytes.ensures ∙ ap (λ z. is_text_of z (tree c.args.bank.now c.args.other.0)) e

pub returns-in-Text-clause-meet : goal.returns-in-Text-clause-meet
returns-in-Text-clause-meet c = texts_meet c.args.bank.now c.args.one c.args.other c.in-Text.left.now c.has_bytes.result c.in-Text.ensures.tree c.has_bytes.ensures
