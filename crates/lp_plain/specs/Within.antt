-- That the numbers of terms which a search keeps stand in its bank: those in the table, the values of variables, goals known at run time.
use Rattle.std.specs.Prelude.{ℕ, ◌<◌, All, length, Option, None, Some}
use Rattle.lp_plain.specs.declared.frame.Todo.{Todo}
use Rattle.lp_plain.specs.declared.head.Key.{Key}
use Rattle.lp_plain.specs.declared.machine.Machine.{Machine}
use Rattle.lp_plain.specs.declared.table.Flat.{Flat}
use Rattle.lp_plain.specs.declared.table.Rule.{Rule}
use Rattle.lp_plain.specs.declared.table.Table.{Table}
use Rattle.lp_plain.specs.Instances.{AreValues}

-- an atom is one of the first n terms
abbrev pub IsFlatIn : ℕ → Flat → Type 0
IsFlatIn n (Flat.Atom t) = t.0 < n
IsFlatIn n Flat.Cut = Unit {0}
IsFlatIn n (Flat.Either l r) = Unit {0}
IsFlatIn n (Flat.Some l) = Unit {0}
IsFlatIn n (Flat.All l) = Unit {0}
IsFlatIn n (Flat.Assume s l f) = Unit {0}
IsFlatIn n (Flat.Not l f) = Unit {0}

-- so is a text that is known by a term
abbrev pub IsKeyIn : ℕ → Option Key → Type 0
IsKeyIn n None = Unit {0}
IsKeyIn n (Some (Key.Constant c)) = Unit {0}
IsKeyIn n (Some (Key.Number z)) = Unit {0}
IsKeyIn n (Some (Key.Text t)) = t.0 < n
IsKeyIn n (Some (Key.Eigen k)) = Unit {0}

-- so are the terms of a clause's head
pub record IsRuleIn (n : ℕ) (r : Rule) : Type 0 where
  pub head : r.head.0 < n
  pub pairs : All (λ p. p.term.0 < n) r.pairs.items
  pub key : IsKeyIn n r.key

-- so are all terms in a table
pub record IsTableIn (n : ℕ) (t : Table) : Type 0 where
  pub goals : All (IsFlatIn n) t.goals.items
  pub rules : All (IsRuleIn n) t.rules.items

-- there are goals, or one that is known at run time
abbrev pub IsTodoIn : ℕ → Todo → Type 0
IsTodoIn n (Todo.Goals s) = s.from < s.to
IsTodoIn n (Todo.Term t) = t.0 < n

-- the table, the values of variables and the goals of a search are of its bank
pub record StandsIn (m : Machine) : Type 0 where
  pub table : IsTableIn (length m.bank.terms) m.table
  pub values : AreValues m.bank m.scopes.values.items
  pub frames : All (λ f. IsTodoIn (length m.bank.terms) f.todo) m.frames.items
