use Rattle.std.proofs.Common.{◌∙◌, sym, subst}
use Rattle.lp_term.specs.Nodes.{tree}
use Rattle.lp_cert.specs.Facts.{AreFacts}
use Rattle.lp_cert.proofs.Marking.{marked_types}
use Rattle.lp_cert.proofs.known.Known.term_node_fact.Goals as goal

pub returns-in-Const : goal.returns-in-Const
returns-in-Const c = rw c.in-Const.is (λ b k a. record {
  loose_is = c.constant_fact.ensures.loose;
  eigen_is = c.constant_fact.ensures.eigen;
  plain_is = c.constant_fact.ensures.plain ∙ marked_types b c.args.self.now _ k a;
  positive_is = c.constant_fact.ensures.positive;
})

pub returns-in-Abs : goal.returns-in-Abs
returns-in-Abs c = rw c.in-Abs.is (λ b k a. c.abstracted.ensures _ (subst (λ f. AreFacts f (tree b c.in-Abs.body.0)) (sym c.term_fact.ensures) (k.terms _ a)))
