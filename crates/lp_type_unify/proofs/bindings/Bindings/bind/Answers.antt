use Rattle.std.proofs.Common.{◌∙◌, nat_eq}
use Rattle.indexmap.proofs.CallerLemmas.{insert_entry-new}
use Rattle.lp_type_unify.proofs.bindings.Bindings.bind.Goals as goal

pub returns-in-Ok-clause-made : goal.returns-in-Ok-clause-made
returns-in-Ok-clause-made c = c.in-Ok.ensures.entries ∙ insert_entry-new nat_eq c.args.self.now.made c.args.variable c.args.to c.requires
