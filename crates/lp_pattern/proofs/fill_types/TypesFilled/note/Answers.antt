use Rattle.std.proofs.Common.{◌∙◌, nat_eq}
use Rattle.indexmap.proofs.CallerLemmas.{insert_entry-new}
use Rattle.lp_pattern.proofs.fill_types.TypesFilled.note.Goals as goal

pub returns-clause-added : goal.returns-clause-added
returns-clause-added c = λ e. c.in_ok-insert.ensures.entries ∙ insert_entry-new nat_eq c.args.self.now.made c.args.id.0 c.args.made e
