-- What holds of all atoms of a term, and of closed types in a list; bindings one after the other.
use Rattle.std.proofs.Common.{◌≡◌, ℕ, zero, suc, List, [], ◌∷◌, ◌++◌, refl}
use Rattle.lp_calculus.specs.Types.{Ty}
use Rattle.lp_calculus.specs.Typing.{type_at}
use Rattle.lp_calculus.specs.Term.{Term, Atom, index, atom, abs, app}
use Rattle.lp_calculus.specs.Closed.{AllAtoms, AreClosed, IsClosedType}
use Rattle.lp_calculus.specs.Fill.{Binding, put, put_all}
use Rattle.lp_calculus.proofs.Sigma.{rename, lift}

pub AllAtoms_weaker : (P Q : Atom → Type 0) → ((a : Atom) → P a → Q a) → (t : Term) → AllAtoms P t → AllAtoms Q t
AllAtoms_weaker P Q f (index i) h = tt
AllAtoms_weaker P Q f (atom a) h = f a h
AllAtoms_weaker P Q f (abs b) h = AllAtoms_weaker P Q f b h
AllAtoms_weaker P Q f (app t u) h = (AllAtoms_weaker P Q f t h.0, AllAtoms_weaker P Q f u h.1)

pub AllAtoms_rename : (P : Atom → Type 0) (ρ : ℕ → ℕ) (t : Term) → AllAtoms P t → AllAtoms P (rename ρ t)
AllAtoms_rename P ρ (index i) h = tt
AllAtoms_rename P ρ (atom a) h = h
AllAtoms_rename P ρ (abs b) h = AllAtoms_rename P (lift ρ) b h
AllAtoms_rename P ρ (app t u) h = (AllAtoms_rename P ρ t h.0, AllAtoms_rename P ρ u h.1)

pub type_at_closed : (ts : List Ty) → AreClosed ts → (i : ℕ) → IsClosedType (type_at ts i)
type_at_closed [] k i = tt
type_at_closed (t ∷ ts) k zero = k.0
type_at_closed (t ∷ ts) k (suc i) = type_at_closed ts k.1 i

pub put_all_append : (bs cs : List Binding) (t : Term) → put_all (bs ++ cs) t ≡ put_all cs (put_all bs t)
put_all_append [] cs t = refl
put_all_append (b ∷ bs) cs t = put_all_append bs cs (put b t)
