-- What objects in order have.
use Rattle.std.specs.Prelude.{◌≡◌, ◌++◌, ℕ, List, [], ◌∷◌, Contains}
use Rattle.lp_lemmas.specs.Each.{AnyOf}
use Rattle.lp_code.specs.declared.object.Object.{Object}
use Rattle.lp_files.specs.Ordered.{HasName, uses_of}

-- the first object has this name
abbrev pub BeginsNamed : (name : List ℕ) → List Object → Type 0
BeginsNamed name os = (o : Object) × (more : List Object) × (os ≡ o ∷ more) × (o.name.items ≡ name)

-- all that they use is among them
abbrev pub HaveUsed : List Object → Type 0
HaveUsed os = (o : Object) (name : List ℕ) → Contains os o → Contains (uses_of o) name → HasName os name

-- one of the objects uses this name
abbrev pub UsesName : List Object → (name : List ℕ) → Type 0
UsesName os name = AnyOf (λ (o : Object). Contains (uses_of o) name) os

-- each of these is used by one before it, and has the name of none of those
abbrev pub AreNewBehind : (before : List Object) → List Object → Type 0
AreNewBehind before [] = Unit {0}
AreNewBehind before (o ∷ os) = UsesName before o.name.items × (HasName before o.name.items → ⊥) × AreNewBehind (before ++ o ∷ []) os

-- so is each but the first
abbrev pub AreUsedOnce : List Object → Type 0
AreUsedOnce [] = Unit {0}
AreUsedOnce (o ∷ os) = AreNewBehind (o ∷ []) os
