use Rattle.std.proofs.Common.{◌∙◌, nat_eq, [], ◌∷◌}
use Rattle.indexmap.proofs.CallerLemmas.{insert_entry-new}
use Rattle.lp_pattern.proofs.Keeps.{goes_on_same}
use Rattle.lp_pattern.proofs.bindings.Bindings.put_term.Goals as goal

pub returns-clause-made : goal.returns-clause-made
returns-clause-made c = c.in_ok-insert.ensures.entries ∙ insert_entry-new nat_eq c.args.self.now.terms c.args.variable c.args.to c.requires

pub returns-clause-grown : goal.returns-clause-grown
returns-clause-grown c = record { terms = ((c.args.variable, c.args.to) ∷ [], returns-clause-made c); types = goes_on_same c.args.self.now.types.entries }
