-- Further eigenconstants among those that are there, which stay in their order.
use Rattle.std.specs.Prelude.{ℕ, zero, suc, List, [], ◌∷◌, Option, Some, None}
use Rattle.lp_calculus.specs.Types.{Ty}
use Rattle.lp_calculus.specs.Closed.{IsClosedType}

-- of each eigenconstant, the first one first: it is a further one, of this type, or the next of the old ones; behind the last there are old ones alone
abbrev pub Additions : Type 0
Additions = List (Option Ty)

-- the types of all, by those of the old ones
abbrev pub widened : Additions → List Ty → List Ty
widened [] E = E
widened (Some T ∷ ads) E = T ∷ widened ads E
widened (None ∷ ads) [] = []
widened (None ∷ ads) (U ∷ E) = U ∷ widened ads E

-- how many there are, with so many old ones
abbrev pub wider : Additions → ℕ → ℕ
wider [] n = n
wider (Some T ∷ ads) n = suc (wider ads n)
wider (None ∷ ads) zero = zero
wider (None ∷ ads) (suc n) = suc (wider ads n)

-- where an old one stands
abbrev pub moved_to : Additions → ℕ → ℕ
moved_to ads zero = zero
moved_to ads (suc k) = suc (wider ads k)

-- so many old ones are told of
abbrev pub olds : Additions → ℕ
olds [] = zero
olds (Some T ∷ ads) = olds ads
olds (None ∷ ads) = suc (olds ads)

abbrev pub HaveClosedTypes : Additions → Type 0
HaveClosedTypes [] = Unit {0}
HaveClosedTypes (Some T ∷ ads) = IsClosedType T × HaveClosedTypes ads
HaveClosedTypes (None ∷ ads) = HaveClosedTypes ads
