-- A goal of the table that is taken apart, as the definition takes it.
use Rattle.std.specs.Prelude.{◌≡◌, ℕ, ◌<◌, List, [], ◌∷◌, ◌++◌, ◌≤◌, All, length, take, Option}
use Rattle.lp_calculus.specs.Term.{Term}
use Rattle.lp_model.specs.Branch.{Answer, Branch, Entry, Task, Go}
use Rattle.lp_model.specs.Flat.{Goal, Atomic, Cut, Either, Exists, Forall, Assume, Not, Goals, no_goals, goals, Clause, goal_list, map_goal, same_type, type_goal}
use Rattle.lp_model.specs.Index.{instantiate, lifted}
use Rattle.lp_model.specs.Skeleton.{View}
use Rattle.lp_model.specs.declared.connective.Connective.{Connective}
use Rattle.lp_model.specs.declared.connective.Connective.TheVariants as known
use Rattle.lp_model.specs.Connected.{IsConnectiveIn, connective_in}
use Rattle.lp_model.specs.Search.{look, look_form, look_goal, with_goals}
use Rattle.lp_plain.specs.declared.choice.Choice.{Choice}
use Rattle.lp_plain.specs.declared.frame.Frame.{Frame}
use Rattle.lp_plain.specs.declared.frame.Place.{Place}
use Rattle.lp_plain.specs.declared.machine.Machine.{Machine}
use Rattle.lp_plain.specs.declared.table.Flat.{Flat}
use Rattle.lp_plain.specs.declared.types.Renewal.{Renewal}
use Rattle.lp_plain.specs.Apart.{one_apart}
use Rattle.lp_plain.specs.Assuming.{lists_of, ArePlaced, GrowsOn, IsLaterAround, IsPlaceAt}
use Rattle.lp_plain.specs.Entries.{Around, ArePartsOf, IsAt, IsBehind, IsBranchAt, entry_at, in_scope, placed}
use Rattle.lp_plain.specs.Renewal.{renewing}
use Rattle.lp_plain.specs.Scopes.{blocks_of, block_count, value_count}
use Rattle.lp_plain.specs.Tables.{AreGoals, IsGoal, Never, shown}
use Rattle.lp_plain.specs.Trying.{lists_at}
use Rattle.lp_plain.specs.Within.{StandsIn}
use Rattle.lp_plain.specs.declared.table.Span.{Span}

-- a goal of a clause with these values for its variables and new numbers for its type variables
abbrev pub goal_in : (ℕ → Term) → Renewal → Goal → Goal
goal_in σ r g = map_goal lifted instantiate same_type σ (type_goal (renewing r) g)

-- it is taken apart at no step
abbrev pub IsTakenApart : Goal → Type 0
IsTakenApart (Atomic t) = ⊥
IsTakenApart Cut = ⊥
IsTakenApart (Either gs hs) = Unit {0}
IsTakenApart (Exists T gs) = Unit {0}
IsTakenApart (Forall T gs) = Unit {0}
IsTakenApart (Assume w cs gs) = Unit {0}
IsTakenApart (Not w gs) = ⊥

-- one goal more was taken apart in a row, and nothing is lost
pub record GoesQuietly (old new : Machine) : Type 0 where
  pub on : GrowsOn old new
  pub row : old.counts.row < 1000000
  pub counts : new.counts ≡ one_apart old.counts

-- an alternative is within what there is, and its goals name what there was when it was put
pub record IsKept (m : Machine) (a : Around) (c : Choice) : Type 0 where
  pub frames : c.lengths.frames ≤ length m.frames.items
  pub blocks : c.lengths.scopes.blocks ≤ block_count m.scopes
  pub values : c.lengths.scopes.values ≤ value_count m.scopes
  pub assumptions : c.lengths.assumptions ≤ length m.assumptions.items
  pub newest : c.lengths.newest ≤ length m.newest.items
  pub standings : c.lengths.standings ≤ length m.standings.items
  pub placed : All (λ (f : Frame). IsPlaceAt (lists_at c m) a f.place) (take c.lengths.frames m.frames.items)

-- an alternative was put when there was what there is now, or more
pub record IsAbove (m : Machine) (c : Choice) : Type 0 where
  pub frames : length m.frames.items ≤ c.lengths.frames
  pub blocks : block_count m.scopes ≤ c.lengths.scopes.blocks
  pub values : value_count m.scopes ≤ c.lengths.scopes.values
  pub assumptions : length m.assumptions.items ≤ c.lengths.assumptions
  pub newest : length m.newest.items ≤ c.lengths.newest
  pub standings : length m.standings.items ≤ c.lengths.standings

-- an alternative that came is within what there is, and above what there was; its goals name what there was when it was put
abbrev pub KeepsNew : (old new : Machine) → Around → Type 0
KeepsNew old new a = (c : Choice) → new.choices.items ≡ old.choices.items ++ c ∷ [] → IsKept new a c × IsAbove old c

-- a goal is taken apart: the definition's tasks, one more in a row
pub record TakesOne (old new : Machine) (a : Around) (v : View Task Answer) : Type 0 where
  pub around : Around
  pub later : IsLaterAround (length old.newest.items) (length old.standings.items) a around
  pub placed : ArePlaced new around
  pub stands : StandsIn new
  pub parts : ArePartsOf old new around v
  pub kept : KeepsNew old new around
  pub quiet : GoesQuietly old new

-- so by what the table has of it
abbrev pub IsApartFlat : Flat → Type 0
IsApartFlat (Flat.Atom t) = ⊥
IsApartFlat Flat.Cut = ⊥
IsApartFlat (Flat.Either l r) = Unit {0}
IsApartFlat (Flat.Some l) = Unit {0}
IsApartFlat (Flat.All l) = Unit {0}
IsApartFlat (Flat.Assume s l f) = Unit {0}
IsApartFlat (Flat.Not l f) = ⊥

-- the first of the goals is taken apart
abbrev pub FirstIsApart : Goals → Type 0
FirstIsApart no_goals = ⊥
FirstIsApart (goals g gs) = IsTakenApart g

-- the goal of this place in front of those from a frame on becomes the definition's tasks, whichever goal the table's is
abbrev pub TakesApart : (old new : Machine) → Place → Flat → (behind : Option ℕ) → Type 0
TakesApart m n p flat o = (a : Around) (g : Goal) (σ : ℕ → Term) (b : Branch) → StandsIn m → ArePlaced m a → IsPlaceAt (lists_of m) a p → IsTakenApart
    g → IsGoal m.bank Never (shown m.table) flat g → IsAt m.bank (blocks_of m.scopes) p σ → IsBehind m a o b →
    (u k height : ℕ) (P : List Clause) → TakesOne m n a (look_goal u k P height (entry_at a p (goal_in σ p.values.types g)) b (goal_in σ p.values.types g))

-- the first goal is one that is taken apart
abbrev pub IsApartFirst : List Entry → Type 0
IsApartFirst [] = ⊥
IsApartFirst (e ∷ es) = IsTakenApart e.goal

-- a branch whose first goal is taken apart becomes the tasks of the definition's look at it
abbrev pub TakesBranch : (old new : Machine) → Type 0
TakesBranch m n = (a : Around) (b : Branch) → StandsIn m → ArePlaced m a → IsBranchAt m a b → IsApartFirst b.goals → (u k height : ℕ) (P : List Clause) → TakesOne m n a (look u k P height (Go b))

-- so do goals of the table in a place, in front of those from a frame on
abbrev pub TakesGoals : (old new : Machine) → Place → Span → (behind : Option ℕ) → Type 0
TakesGoals m n p s o = (a : Around) (b : Branch) (hs : Goals) (σ : ℕ → Term) → StandsIn m → ArePlaced m a → IsPlaceAt (lists_of m) a p → s.from < s.to
    → AreGoals m.bank Never (shown m.table) s.from s.to hs → IsAt m.bank (blocks_of m.scopes) p σ → IsBehind m a o b →
    let es : List Entry = placed a p (goal_list (in_scope σ p.values.types hs)) in IsApartFirst es → (u k height : ℕ) (P : List Clause) → TakesOne m n
    a (look u k P height (Go (with_goals b (es ++ b.goals))))

-- a goal that is known at run time and taken apart
abbrev pub IsApartForm : Connective → Type 0
IsApartForm (known.And l r) = Unit {0}
IsApartForm (known.Or l r) = Unit {0}
IsApartForm known.True = Unit {0}
IsApartForm (known.ForAll T s) = Unit {0}
IsApartForm (known.Exists T s) = Unit {0}
IsApartForm known.Cut = ⊥
IsApartForm (known.Implies c g) = ⊥
IsApartForm (known.Not g) = ⊥
IsApartForm known.Atomic = ⊥

-- it becomes the definition's tasks, in its place and in front of those from a frame on
abbrev pub TakesKnown : (old new : Machine) → Place → Connective → (behind : Option ℕ) → Type 0
TakesKnown m n p k o = (a : Around) (b : Branch) → StandsIn m → ArePlaced m a → IsPlaceAt (lists_of m) a p → IsConnectiveIn m.bank k → IsBehind m a o
    b → (u z height : ℕ) (P : List Clause) (t : Term) (g : Goal) →
    TakesOne m n a (look_form u z P height (entry_at a p g) b t (connective_in m.bank k))
