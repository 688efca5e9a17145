-- Back at an alternative: what has come since it was put is gone.
use Rattle.std.specs.Prelude.{◌≡◌, List, take}
use Rattle.lp_plain.specs.declared.choice.Choice.{Choice}
use Rattle.lp_model.specs.Branch.{Branch}
use Rattle.lp_plain.specs.declared.machine.Machine.{Machine}
use Rattle.lp_plain.specs.Entries.{Around, IsBranchAt, IsChoiceAt}

-- goals, scopes, assumptions and bindings are those of then, and so are the next numbers; what is known of terms of the bank and the table stays
pub record IsRestored (old new : Machine) (c : Choice) : Type 0 where
  pub frames : new.frames.items ≡ take c.lengths.frames old.frames.items
  pub blocks : new.scopes.blocks.items ≡ take c.lengths.scopes.blocks old.scopes.blocks.items
  pub values : new.scopes.values.items ≡ take c.lengths.scopes.values old.scopes.values.items
  pub assumptions : new.assumptions.items ≡ take c.lengths.assumptions old.assumptions.items
  pub newest : new.newest.items ≡ take c.lengths.newest old.newest.items
  pub standings : new.standings.items ≡ take c.lengths.standings old.standings.items
  pub bound_terms : new.bindings.terms.entries ≡ take c.bindings.terms old.bindings.terms.entries
  pub bound_types : new.bindings.types.entries ≡ take c.bindings.types old.bindings.types.entries
  pub bank : new.bank ≡ old.bank
  pub table : new.table ≡ old.table
  pub index : new.index ≡ old.index
  pub next : new.branch.next ≡ c.next
  pub next_type : new.branch.next_type ≡ c.next_type
  pub pairs : new.branch.pairs.items ≡ c.pairs.items
  pub choices : new.choices ≡ old.choices
  pub counts : new.counts ≡ old.counts
  pub denied : new.denied ≡ old.denied

-- the newest alternative is taken
pub record IsTaken (old new : Machine) (c : Choice) (rest : List Choice) : Type 0 where
  pub frames : new.frames.items ≡ take c.lengths.frames old.frames.items
  pub blocks : new.scopes.blocks.items ≡ take c.lengths.scopes.blocks old.scopes.blocks.items
  pub values : new.scopes.values.items ≡ take c.lengths.scopes.values old.scopes.values.items
  pub assumptions : new.assumptions.items ≡ take c.lengths.assumptions old.assumptions.items
  pub newest : new.newest.items ≡ take c.lengths.newest old.newest.items
  pub standings : new.standings.items ≡ take c.lengths.standings old.standings.items
  pub bound_terms : new.bindings.terms.entries ≡ take c.bindings.terms old.bindings.terms.entries
  pub bound_types : new.bindings.types.entries ≡ take c.bindings.types old.bindings.types.entries
  pub bank : new.bank ≡ old.bank
  pub table : new.table ≡ old.table
  pub index : new.index ≡ old.index
  pub next : new.branch.next ≡ c.next
  pub next_type : new.branch.next_type ≡ c.next_type
  pub pairs : new.branch.pairs.items ≡ c.pairs.items
  pub choices : new.choices.items ≡ rest
  pub counts : new.counts ≡ old.counts
  pub denied : new.denied ≡ old.denied

-- the search goes on with the branch of this alternative, and those below it are left
pub record GoesBack (old new : Machine) (c : Choice) (rest : List Choice) : Type 0 where
  pub choices : new.choices.items ≡ rest
  pub counts : new.counts ≡ old.counts
  pub denied : new.denied ≡ old.denied
  pub branch : (a : Around) (b : Branch) → IsChoiceAt old a c b → IsBranchAt new a b
