-- Terms over indices, and closed terms for them.
use Rattle.std.specs.Prelude.{◌≡◌, ℕ, List, [], length, Some, slice_get}
use Rattle.lp_calculus.specs.Types.{Ty}
use Rattle.lp_calculus.specs.Term.{Term}
use Rattle.lp_calculus.specs.Fill.{Within}
use Rattle.lp_calculus.specs.Typing.{Typed}
use Rattle.lp_calculus.specs.Closed.{IsClosedAtom, IsClosedAt}
use Rattle.lp_model.specs.Proofs.{Declared, under}

-- a term over indices of these types
pub record IsOpen (d : Declared) (Γ : List Ty) (t : Term) (T : Ty) : Type 0 where
  pub typed : Typed (under d []) Γ t T
  pub within : Within (IsClosedAtom 0) (length Γ) t

-- closed terms for the indices, at the eigenconstants E
pub record Fits (d : Declared) (E Γ : List Ty) (θ : ℕ → Term) : Type 0 where
  pub at : (i : ℕ) (T : Ty) → slice_get Γ i ≡ Some T → Typed (under d E) [] (θ i) T × IsClosedAt (length E) (θ i)
