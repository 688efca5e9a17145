-- What a move of a search leaves as it is.
use Rattle.std.specs.Prelude.{◌≡◌, List, [], ◌∷◌, ◌++◌}
use Rattle.lp_plain.specs.declared.choice.Choice.{Choice}
use Rattle.lp_plain.specs.declared.choice.Untried.{Untried}
use Rattle.lp_plain.specs.declared.choice.Untried.TheVariants.{Goals, Clauses, Denied}
use Rattle.lp_plain.specs.declared.machine.Machine.{Machine}

-- its alternatives, what is counted, the branch at work, and the negated goal that it is in
pub record KeepsCourse (old new : Machine) : Type 0 where
  pub choices : new.choices.items ≡ old.choices.items
  pub counts : new.counts ≡ old.counts
  pub denied : new.denied ≡ old.denied
  pub branch : new.branch ≡ old.branch

-- one alternative more, with this left to try
pub record HasOneMore (old new : List Choice) (untried : Untried) : Type 0 where
  pub choice : Choice
  pub more : new ≡ old ++ choice ∷ []
  pub left : choice.untried ≡ untried

-- the search is again the one around the negated goal of the alternative
abbrev pub IsAround : Untried → Machine → Type 0
IsAround (Denied d) m = (m.denied ≡ d.around) × (m.counts.lost ≡ d.lost)
IsAround (Goals g) m = Unit {0}
IsAround (Clauses k c) m = Unit {0}

-- what is known of terms: the bank, the bindings, the values of variables, the clauses and what is written in them, and where clauses are found
pub record KeepsKnown (old new : Machine) : Type 0 where
  pub bank : new.bank ≡ old.bank
  pub bindings : new.bindings ≡ old.bindings
  pub scopes : new.scopes ≡ old.scopes
  pub table : new.table ≡ old.table
  pub standings : new.standings ≡ old.standings
  pub index : new.index ≡ old.index
