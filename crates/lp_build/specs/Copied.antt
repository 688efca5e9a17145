-- The copies of an image: those of the program of the same modules, with the same numbers.
use Rattle.std.specs.Prelude.{◌≡◌, ℕ, ◌+◌, ◌<◌, List, [], ◌∷◌, length, None, Some, slice_get}
use Rattle.lp_code.specs.declared.object.Object.{Object}
use Rattle.lp_link.specs.Linked as linked
use Rattle.lp_link.specs.Linked.{Linked, first_ends}
use Rattle.lp_module.specs.Program.{Copy}

-- a copy of an object, and one of its module: each kind and constant has in the image the number that it has in the program
pub record IsSame (o : Object) (c : Copy) (d : linked.Copy) : Type 0 where
  pub object : d.object ≡ o
  pub kinds : (i : ℕ) → i < length o.kinds.items → slice_get d.kinds i ≡ Some (c.kinds (8 + i))
  pub constants : (i : ℕ) → i < length o.constants.items → slice_get d.constants i ≡ Some (c.constants (32 + i))
  pub standard_kinds : (k : ℕ) → k < 8 → c.kinds k ≡ k
  pub standard_constants : (k : ℕ) → k < 32 → c.constants k ≡ k

-- so with each copy, in order
abbrev pub AreSame : List Object → List Copy → List linked.Copy → Type 0
AreSame os [] [] = Unit {0}
AreSame os [] (d ∷ ds) = ⊥
AreSame os (c ∷ cs) [] = ⊥
AreSame os (c ∷ cs) (d ∷ ds) = ((o : Object) × (slice_get os c.member ≡ Some o) × IsSame o c d) × AreSame os cs ds

-- the copies of a root among objects are these
pub record HasCopies (os : List Object) (root : ℕ) (cs : List Copy) : Type 0 where
  pub top : Object
  pub there : slice_get os root ≡ Some top
  pub end : linked.Ends
  pub copies : List linked.Copy
  pub are : Linked os None (root ∷ []) (first_ends top) copies end
  pub same : AreSame os cs copies
