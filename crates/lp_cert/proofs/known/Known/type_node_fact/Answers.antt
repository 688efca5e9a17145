use Rattle.std.proofs.Common.{◌∙◌, ◌&&◌, map, sym}
use Rattle.lp_term.specs.Nodes.{type_tree}
use Rattle.lp_cert.proofs.Marking.{marked_types, parts_marked}
use Rattle.lp_cert.proofs.known.Known.type_node_fact.Goals as goal

pub returns-in-Con : goal.returns-in-Con
returns-in-Con c = rw c.in-Con.is (λ b k a. c.type_facts.ensures ∙ marked_types b c.args.self.now _ k a ∙ sym (parts_marked (map (type_tree b) (map (λ t. t.0) c.in-Con.parts.now))))

pub returns-in-Arrow : goal.returns-in-Arrow
returns-in-Arrow c = rw c.in-Arrow.is (λ b k a. c.both.ensures ∙ (λ j. (c.type_fact-taken.ensures ∙ k.types _ a.0) j && (c.type_fact-given.ensures ∙ k.types _ a.1) j))
