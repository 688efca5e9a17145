use Rattle.std.proofs.Common.{◌∙◌, nat_eq}
use Rattle.indexmap.proofs.CallerLemmas.{insert_entry-new}
use Rattle.lp_pattern.proofs.bindings.Bindings.put_type.Goals as goal

pub returns-clause-made : goal.returns-clause-made
returns-clause-made c = c.in_ok-insert.ensures.entries ∙ insert_entry-new nat_eq c.args.self.now.types c.args.variable c.args.to c.requires
