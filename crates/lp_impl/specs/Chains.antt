-- Assumptions as a list, newest first: clauses with their frames, and behind those of each assumption where it begins.
use Rattle.std.specs.Prelude.{◌≡◌, ℕ, suc, ◌≤◌, if◌then◌else◌, List, [], ◌∷◌, ◌++◌, map, slice_get, Option, Some, None}
use Rattle.lp_impl.specs.declared.head.Head.{Head}
use Rattle.lp_impl.specs.declared.assumptions.Assumed.{Assumed}
use Rattle.lp_impl.specs.declared.assumptions.Cursor.{Cursor}
use Rattle.lp_impl.specs.declared.assumptions.Start.{Start}
use Rattle.lp_impl.specs.declared.assumptions.Start.TheVariants.{Newest, From}
use Rattle.lp_impl.specs.declared.assumptions.Candidate.{Candidate}
use Rattle.lp_impl.specs.declared.assumptions.Entry.{Entry}
use Rattle.lp_impl.specs.Heads.{is_head}

-- what contracts see: all entries, and the number of the newest one that is open
pub record Held : Type 0 where
  pub entries : List Entry
  pub newest : Option ℕ

-- what an entry says: a clause, or where an assumption begins
pub record Said : Type 0 where
  pub assumed : Option Assumed
  pub frame : ℕ

abbrev pub said : Entry → Said
said e = record { assumed = e.assumed; frame = e.frame }

-- one more than the number, if there is one
abbrev pub reach : Option ℕ → ℕ
reach None = 0
reach (Some i) = suc i

-- from the entry of a number on they say these things, each entry behind a younger one
abbrev pub AreSaid : List Entry → Option ℕ → List Said → Type 0
AreSaid es o [] = o ≡ None
AreSaid es o (s ∷ ss) = (i : ℕ) × (e : Entry) × (o ≡ Some i) × (slice_get es i ≡ Some e) × (reach e.older ≤ i) × (s ≡ said e) × AreSaid es e.older ss

-- the open assumptions say these things
abbrev pub AreOpen : Held → List Said → Type 0
AreOpen a ss = AreSaid a.entries a.newest ss

-- a clause for a goal, and the frame in which it was assumed
pub record Found : Type 0 where
  pub clause : ℕ
  pub frame : ℕ

abbrev pub clause_for : Head → Option Assumed → Option ℕ
clause_for h None = None
clause_for h (Some a) = if is_head a.head h then Some a.clause else None

abbrev pub in_front : Option ℕ → (frame : ℕ) → List Found → List Found
in_front None f cs = cs
in_front (Some c) f cs = record { clause = c; frame = f } ∷ cs

-- the clauses for a goal of this predicate, in order
abbrev pub matching : Head → List Said → List Found
matching h [] = []
matching h (s ∷ ss) = in_front (clause_for h s.assumed) s.frame (matching h ss)

abbrev pub found_of : Candidate → Found
found_of c = record { clause = c.clause; frame = c.frame }

abbrev pub start_of : Start → Option ℕ → Option ℕ
start_of Newest newest = newest
start_of (From o) newest = o

-- what is left behind a place
abbrev pub AreBehind : Held → Cursor → List Said → Type 0
AreBehind a c ss = AreSaid a.entries (start_of c.start a.newest) ss

-- the clauses of an assumption, in order, and its beginning
abbrev pub clauses_said : (frame : ℕ) → List Assumed → List Said
clauses_said f cs = map (λ c. record { assumed = Some c; frame = f }) cs

abbrev pub begins : (frame : ℕ) → Said
begins f = record { assumed = None; frame = f }

-- all behind the newest assumption
abbrev pub without_newest : List Said → List Said
without_newest [] = []
without_newest (s ∷ ss) = behind s.assumed ss (without_newest ss)
  where
    behind : Option Assumed → List Said → List Said → List Said
    behind None here further = here
    behind (Some a) here further = further
