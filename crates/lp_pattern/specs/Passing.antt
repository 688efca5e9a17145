-- Parts that pruning has passed, and those that are left.
use Rattle.std.specs.Prelude.{◌≡◌, ℕ, suc, ◌+◌, ◌≤◌, false, List, ◌∷◌, ◌++◌, map, reverse, Some}
use Rattle.lp_calculus.specs.Term.{Term, atom, abs, apply, eigen, substitute}
use Rattle.lp_calculus.specs.Convert.{steps}
use Rattle.lp_calculus.specs.Fill.{close}
use Rattle.lp_term.specs.Nodes.{Nodes}
use Rattle.lp_model.specs.Pair.{Closing}
use Rattle.lp_model.specs.Scan.{Side}
use Rattle.lp_model.specs.Look.{weak_step}
use Rattle.lp_pattern.specs.declared.scan.Visit.{Visit}
use Rattle.lp_pattern.specs.Behind.{at_number}
use Rattle.lp_pattern.specs.Cleaning.{IsClean}
use Rattle.lp_pattern.specs.Seen.{IsRigid}
use Rattle.lp_pattern.specs.Stripping.{read_at}
use Rattle.lp_pattern.specs.Visiting.{Part}

-- a term whose last open eigenconstant is k, outside each variable that is no pattern
abbrev pub outer : ℕ → Term → Part
outer k t = record { inside = false; last = k; term = t }

abbrev pub outers : ℕ → List Term → List Part
outers k ts = map (outer k) ts

-- from the one list of parts to the other: steps are taken at the top, an abstraction is opened, a rigid head gives way to its arguments, and what is clean is left out
pub data Passed (s : Side) : List Part → List Part → Type 0 where
  pass_none : {ps : List Part} → Passed s ps ps
  pass_steps : {ps rs : List Part} → (k j : ℕ) → (t u : Term) → (qs : List Part) → Passed s ps (outer k t ∷ qs) → steps weak_step j t ≡ Some u → rs ≡ outer k u ∷ qs → Passed s ps rs
  pass_abs : {ps rs : List Part} → (k j : ℕ) → (t b : Term) → (qs : List Part) → Passed s ps (outer k t ∷ qs) → steps weak_step j t ≡ Some (abs b) → rs ≡ outer (suc k) (substitute (atom (eigen (suc k))) b) ∷ qs → Passed s ps rs
  pass_rigid : {ps rs : List Part} → (k j : ℕ) → (t h : Term) → (ts : List Term) → (qs : List Part) → Passed s ps (outer k t ∷ qs) → steps weak_step j t ≡ Some (apply h ts) → IsRigid h → rs ≡ outers k ts ++ qs → Passed s ps rs
  pass_clean : {ps qs : List Part} → (k : ℕ) → (t : Term) → Passed s ps (outer k t ∷ qs) → s.pair ≤ k → IsClean s 0 t → Passed s ps qs

-- a term put for a variable in all parts
abbrev pub put_part : ℕ → Term → Part → Part
put_part y v p = record { inside = p.inside; last = p.last; term = close (at_number y v) p.term }

-- the parts at numbers of a bank, the last one first
abbrev pub outer_of : Nodes → Closing → Visit → Part
outer_of b c v = outer (v.opened.level + v.opened.depth) (read_at b c v.opened.level v.opened.depth v.term)

abbrev pub outers_of : Nodes → Closing → List Visit → List Part
outers_of b c vs = map (outer_of b c) (reverse vs)
