-- A closed value can be put for an index anywhere.
use Rattle.std.proofs.Common.{ℕ, suc, arith}
use Rattle.lp_calculus.specs.Term.{Term, index, atom, abs, app}
use Rattle.lp_term.specs.Raise.{FitsRaised, FitsPut}
use Rattle.lp_term.specs.Spine.{LooseBelow}
use Rattle.lp_term.specs.Walk.{Everywhere}

closed_raises : (by d : ℕ) (v : Term) → LooseBelow 0 d v → Everywhere (FitsRaised by) d v
closed_raises by d (index i) h = λ l. absurd (omega (arith, h, l))
closed_raises by d (atom a) h = tt
closed_raises by d (abs b) h = closed_raises by (suc d) b h
closed_raises by d (app t u) h = (closed_raises by d t h.0, closed_raises by d u h.1)

pub closed_fits : (v : Term) → LooseBelow 0 0 v → (d : ℕ) (t : Term) → Everywhere (FitsPut v) d t
closed_fits v h d (index i) = λ e. closed_raises d 0 v h
closed_fits v h d (atom a) = tt
closed_fits v h d (abs b) = closed_fits v h (suc d) b
closed_fits v h d (app t u) = (closed_fits v h d t, closed_fits v h d u)
