-- A term whose loose indices are below a limit can be raised.
use Rattle.std.proofs.Common.{ℕ, ◌<◌, ◌≤◌, ◌^◌, length, arith}
use Rattle.lp_calculus.specs.Term.{Term}
use Rattle.lp_term.specs.Nodes.{Nodes, IsSound, tree}
use Rattle.lp_term.specs.Walk.{Everywhere}
use Rattle.lp_term.specs.Raise.{FitsRaised}
use Rattle.lp_term.specs.Spine.{LooseBelow, IsLoose, height}
use Rattle.lp_term.proofs.Loose.{everywhere_both, below_height, height_below}

fits : (v : Term) → LooseBelow 4294967296 0 v → height v < 2 ^ 62 → Everywhere (FitsRaised 1) 0 v
fits v l h = everywhere_both (IsLoose 4294967296) (λ e j. e ≤ height v) (FitsRaised 1) (λ e j a c g. omega arith) 0 v l (below_height (height v) 0 v (omega arith))

pub raised_fits : (b : Nodes) → IsSound b → (i : ℕ) → i < length b.terms → length b.terms < 2 ^ 62 → LooseBelow 4294967296 0 (tree b i) → Everywhere (FitsRaised 1) 0 (tree b i)
raised_fits b s i h few l = let k : height (tree b i) ≤ i = height_below b s i h in fits (tree b i) l (omega arith)
