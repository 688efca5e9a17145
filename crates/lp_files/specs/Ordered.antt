-- The order in which objects are read: the root's, and right behind each object those that it uses.
use Rattle.std.specs.Global.{Global}
use Rattle.std.specs.Prelude.{◌≡◌, ◌++◌, ℕ, List, [], ◌∷◌, Vec, map}
use Rattle.lp_lemmas.specs.Each.{AnyOf}
use Rattle.lp_code.specs.declared.object.Object.{Object}

-- one of the objects has this name
abbrev pub HasName : List Object → (name : List ℕ) → Type 0
HasName os name = AnyOf (λ (o : Object). o.name.items ≡ name) os

-- the modules that an object uses, in order
abbrev pub uses_of : Object → List (List ℕ)
uses_of o = map (λ (u : Vec ℕ Global). u.items) o.uses.items

-- behind the objects before, where these names are needed in this order, all these objects are read, and then these names are left: an object that is there is not read
-- again, and what an object uses is needed right behind it, before all else
pub data Reads : (before : List Object) → (needs : List (List ℕ)) → (all : List Object) → (left : List (List ℕ)) → Type 0 where
  reads_none : {before : List Object} {needs : List (List ℕ)} → Reads before needs before needs
  is_there : {before all : List Object} {n : List ℕ} {needs left : List (List ℕ)} → HasName before n → Reads before needs all left → Reads before (n ∷ needs) all left
  is_read : {before all : List Object} {n : List ℕ} {needs left : List (List ℕ)} (o : Object) → (HasName before n → ⊥) → o.name.items ≡ n →
      Reads (before ++ o ∷ []) (uses_of o ++ needs) all left → Reads before (n ∷ needs) all left

-- these are the objects of a module and of all that it uses, in order: none that one of them uses is left out, and none stands twice
abbrev pub AreInOrder : (root : List ℕ) → List Object → Type 0
AreInOrder root os = Reads [] (root ∷ []) os []

-- these come first, and the next one to be read is that of a name
abbrev pub IsDue : (root : List ℕ) → List Object → (next : List ℕ) → Type 0
IsDue root os next = (left : List (List ℕ)) × Reads [] (root ∷ []) os (next ∷ left) × (HasName os next → ⊥)
