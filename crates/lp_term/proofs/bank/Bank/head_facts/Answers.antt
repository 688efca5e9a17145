use Rattle.std.proofs.Common.{◌≡◌, subst as transport, refl}
use Rattle.lp_term.specs.Shapes.{term_shape}
use Rattle.lp_term.specs.Node.{abs_node}
use Rattle.lp_term.specs.Facts.{IsNoAbstraction}
use Rattle.lp_term.specs.declared.node.TermNode.{TermNode}
use Rattle.lp_term.specs.declared.node.TermNode.TheVariants.{Abs}
use Rattle.lp_term.specs.declared.node.TermId.{TermId}
use Rattle.lp_term.proofs.Knowing.{top_no}
use Rattle.lp_term.proofs.bank.Bank.head_facts.Goals as goal

shape_no : (n : TermNode) → ((x : TermId) → n ≡ Abs x → ⊥) → (i : _) → term_shape n ≡ abs_node i → ⊥
shape_no (Abs x) h i e = h x refl
shape_no _ h i e = cc

pub returns-in_default : goal.returns-in_default
returns-in_default c = record {
  facts = c.facts-facts.ensures;
  head = λ e. transport IsNoAbstraction c.term_node.ensures.tree
      (top_no c.args.self.now _ _ (term_shape c.term_node.result) (shape_no c.term_node.result c.in_default.not-Abs) c.term_node.ensures.older);
}
