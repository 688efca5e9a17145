-- A quantified goal that is opened: a new variable or eigenconstant, and the place inside its scope.
use Rattle.std.specs.Prelude.{◌≡◌, ℕ, zero, suc, ◌+◌, ◌<◌, List, ◌∷◌, length}
use Rattle.lp_calculus.specs.Term.{Term, atom, eigen, logic}
use Rattle.lp_term.specs.Nodes.{tree}
use Rattle.lp_term.specs.Spine.{LooseBelow}
use Rattle.lp_term.specs.declared.node.TermId.{TermId}
use Rattle.lp_plain.specs.declared.frame.Place.{Place}
use Rattle.lp_plain.specs.declared.machine.Machine.{Machine}
use Rattle.lp_plain.specs.Assuming.{KeepsAssumed}
use Rattle.lp_plain.specs.Entries.{GrowsGoals, IsAt}
use Rattle.lp_plain.specs.Scopes.{Holds, blocks_of}
use Rattle.lp_plain.specs.Within.{StandsIn}

-- one more value for an index, the innermost one
abbrev pub cons : Term → (ℕ → Term) → ℕ → Term
cons u σ zero = u
cons u σ (suc i) = σ i

-- the term is the next logic variable, of this level
pub record IsNewVariable (old new : Machine) (level : ℕ) (t : TermId) : Type 0 where
  pub grows : GrowsGoals old new
  pub frames : new.frames ≡ old.frames
  pub assumed : KeepsAssumed old new
  pub standings : new.standings ≡ old.standings
  pub index : new.index ≡ old.index
  pub denied : new.denied ≡ old.denied
  pub choices : new.choices.items ≡ old.choices.items
  pub next : new.branch.next ≡ old.branch.next + 1
  pub next_type : new.branch.next_type ≡ old.branch.next_type
  pub within : t.0 < length new.bank.terms
  pub variable : tree new.bank t.0 ≡ atom (logic old.branch.next level)

-- the place is one level up, and the term the eigenconstant of that level
pub record IsRaised (old new : Machine) (place above : Place) (t : TermId) : Type 0 where
  pub grows : GrowsGoals old new
  pub frames : new.frames ≡ old.frames
  pub keeps : KeepsAssumed old new
  pub standings : new.standings ≡ old.standings
  pub index : new.index ≡ old.index
  pub denied : new.denied ≡ old.denied
  pub choices : new.choices.items ≡ old.choices.items
  pub branch : new.branch ≡ old.branch
  pub within : t.0 < length new.bank.terms
  pub eigen_is : tree new.bank t.0 ≡ atom (eigen (suc place.level))
  pub level : above.level ≡ suc place.level
  pub values : above.values ≡ place.values
  pub assumed : above.assumed ≡ place.assumed
  pub standing : above.standing ≡ place.standing
  pub mark : above.mark ≡ place.mark

-- the place inside the scope of one more variable, which has this value
pub record IsBoundBy (old new : Machine) (place inner : Place) (value : TermId) : Type 0 where
  pub bank : new.bank ≡ old.bank
  pub grows : GrowsGoals old new
  pub frames : new.frames ≡ old.frames
  pub keeps : KeepsAssumed old new
  pub standings : new.standings ≡ old.standings
  pub index : new.index ≡ old.index
  pub denied : new.denied ≡ old.denied
  pub choices : new.choices.items ≡ old.choices.items
  pub branch : new.branch ≡ old.branch
  pub opened : (σ : ℕ → Term) → IsAt old.bank (blocks_of old.scopes) place σ → IsAt new.bank (blocks_of new.scopes) inner (cons (tree old.bank value.0) σ)
  pub holds : (vs : List TermId) → Holds old.scopes.values.items old.scopes.blocks.items place.values.scope vs → Holds new.scopes.values.items new.scopes.blocks.items inner.values.scope (value ∷ vs)
  pub stands : value.0 < length old.bank.terms → LooseBelow 0 0 (tree old.bank value.0) → StandsIn old → StandsIn new
  pub types : inner.values.types ≡ place.values.types
  pub assumed : inner.assumed ≡ place.assumed
  pub standing : inner.standing ≡ place.standing
  pub level : inner.level ≡ place.level
  pub mark : inner.mark ≡ place.mark
