-- Objects that are read one after the other, with all that they use.
use Rattle.std.specs.Global.{Global}
use Rattle.std.specs.Prelude.{◌≡◌, ◌<◌, ◌++◌, ℕ, List, [], ◌∷◌, All, Contains, Option, None, Some, Vec, drop, length, slice_get}
use Rattle.lp_base.specs.Held.{Held}
use Rattle.lp_code.specs.declared.object.Object.{Object}
use Rattle.lp_files.specs.Made.{IsHeldObject}
use Rattle.lp_files.specs.Ordered.{HasName, uses_of}

-- one more object was read, of this name
abbrev pub AreMore : Option Held → (name : List ℕ) → (old new : List Object) → Type 0
AreMore told name old new = (o : Object) × (new ≡ old ++ o ∷ []) × (o.name.items ≡ name) × IsHeldObject told o

-- the names that an object uses, where there is one
abbrev pub names_by : Option Object → List (List ℕ)
names_by None = []
names_by (Some o) = uses_of o

-- what an object uses from a place on
abbrev pub names_from : List Object → (user place : ℕ) → List (List ℕ)
names_from os user place = drop place (names_by (slice_get os user))

-- what is left where these objects wait, the newest last, each with the place of its next use, and these names behind them
abbrev pub left_behind : List Object → (waiting : List (ℕ × ℕ)) → (rest : List (List ℕ)) → List (List ℕ)
left_behind os [] rest = rest
left_behind os (w ∷ ws) rest = left_behind os ws (names_from os w.0 w.1 ++ rest)

abbrev pub left_of : List Object → (waiting : List (ℕ × ℕ)) → List (List ℕ)
left_of os waiting = left_behind os waiting []

-- the objects that wait are there
abbrev pub AreThere : List Object → (waiting : List (ℕ × ℕ)) → Type 0
AreThere os waiting = All (λ (w : ℕ × ℕ). w.0 < length os) waiting

-- of these names those that come first have their objects, and the others are left
abbrev pub AreSkipped : List Object → (needs left : List (List ℕ)) → Type 0
AreSkipped os needs left = (first : List (List ℕ)) × (needs ≡ first ++ left) × All (HasName os) first

-- a name that an object uses and that none has
abbrev pub IsNew : List Object → (user : ℕ) → (name : List ℕ) → Type 0
IsNew os user name = ((o : Object) × (slice_get os user ≡ Some o) × Contains (uses_of o) name) × (HasName os name → ⊥)

-- what an object uses from a place on: all of it has its objects, or what stands before a name that is new
abbrev pub IsUnread : List Object → (user place : ℕ) → Option (ℕ × Vec ℕ Global) → Type 0
IsUnread os user place None = AreSkipped os (names_from os user place) []
IsUnread os user place (Some (next, name)) = AreSkipped os (names_from os user place) (name.items ∷ names_from os user next) × IsNew os user name.items

-- the same of all that is left
abbrev pub IsNext : List Object → (old new : List (ℕ × ℕ)) → Option (ℕ × Vec ℕ Global) → Type 0
IsNext os old new None = AreSkipped os (left_of os old) []
IsNext os old new (Some (user, name)) = AreSkipped os (left_of os old) (name.items ∷ left_of os new) × IsNew os user name.items
