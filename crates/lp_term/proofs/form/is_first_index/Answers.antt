use Rattle.std.proofs.Common.{◌∙◌, length}
use Rattle.lp_term.proofs.Contractions.{no_index}
use Rattle.lp_term.proofs.form.is_first_index.Goals as goal

pub returns-in_default : goal.returns-in_default
returns-in_default c = record {
  yes = λ z. absurd (cc);
  no = λ z e. no_index c.args.bank.now (length c.args.bank.now.types) c.args.id.0 c.term_node.result c.in_default.not-Index c.term_node.ensures.older (c.term_node.ensures.tree ∙ e);
}
