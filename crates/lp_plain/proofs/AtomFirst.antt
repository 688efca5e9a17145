-- An atom and a negated goal in front.
use Rattle.std.proofs.Common.{ℕ, subst, Option}
use Rattle.lp_term.specs.Nodes.{Nodes}
use Rattle.lp_term.specs.declared.node.TermId.{TermId}
use Rattle.lp_calculus.specs.Term.{Term}
use Rattle.lp_model.specs.Branch.{Branch}
use Rattle.lp_model.specs.Flat.{Goal, Atomic, Cut, Either, Exists, Forall, Assume, Not}
use Rattle.lp_plain.specs.declared.frame.Place.{Place}
use Rattle.lp_plain.specs.declared.machine.Machine.{Machine}
use Rattle.lp_plain.specs.declared.table.Flat.{Flat}
use Rattle.lp_plain.specs.Entries.{Around}
use Rattle.lp_plain.specs.Moving.{IsAtGoal, IsPlain, IsPlainFirst}
use Rattle.lp_plain.specs.Tables.{IsGoal, Never, Shown, shown}
use Rattle.lp_plain.specs.Taking.{goal_in}

no_atom : (b : Nodes) (t : Shown) (u : TermId) (σ : ℕ → Term) (p : Place) (g : Goal) → IsGoal b Never t (Flat.Atom u) g → IsPlain (goal_in σ p.values.types g) → ⊥
no_atom b t u σ p (Atomic x) h k = k
no_atom b t u σ p Cut h k = cc
no_atom b t u σ p (Either gs hs) h k = let z = h.2 in cc
no_atom b t u σ p (Exists T gs) h k = let z = h.1 in cc
no_atom b t u σ p (Forall T gs) h k = let z = h.1 in cc
no_atom b t u σ p (Assume w cs gs) h k = let z = h.3 in cc
no_atom b t u σ p (Not w gs) h k = k

no_not : (b : Nodes) (t : Shown) (l n : ℕ) (σ : ℕ → Term) (p : Place) (g : Goal) → IsGoal b Never t (Flat.Not l n) g → IsPlain (goal_in σ p.values.types g) → ⊥
no_not b t l n σ p (Atomic x) h k = k
no_not b t l n σ p Cut h k = cc
no_not b t l n σ p (Either gs hs) h k = let z = h.2 in cc
no_not b t l n σ p (Exists T gs) h k = let z = h.1 in cc
no_not b t l n σ p (Forall T gs) h k = let z = h.1 in cc
no_not b t l n σ p (Assume w cs gs) h k = let z = h.3 in cc
no_not b t l n σ p (Not w gs) h k = k

pub atom_first : (m : Machine) (a : Around) (p : Place) (u : TermId) (o : Option ℕ) (raw : Branch) → IsAtGoal m a p (Flat.Atom u) o raw → IsPlainFirst raw.goals → ⊥
atom_first m a p u o raw at pf = no_atom m.bank (shown m.table) u at.values p at.goal at.is (subst IsPlainFirst at.goals pf)

pub not_first : (m : Machine) (a : Around) (p : Place) (l n : ℕ) (o : Option ℕ) (raw : Branch) → IsAtGoal m a p (Flat.Not l n) o raw → IsPlainFirst raw.goals → ⊥
not_first m a p l n o raw at pf = no_not m.bank (shown m.table) l n at.values p at.goal at.is (subst IsPlainFirst at.goals pf)
