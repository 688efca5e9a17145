-- What a bank knows of a term beside its node.
use Rattle.std.specs.Prelude.{◌≡◌, ℕ, ◌<◌, ◌≤◌, ◌^◌, List, length, get_or, Option, Some, None, true, false}
use Rattle.lp_calculus.specs.Term.{Term, Atom, index, atom, abs, app, constant, integer, text, eigen, logic, param}
use Rattle.lp_calculus.specs.Convert.{leftmost_step}
use Rattle.lp_calculus.specs.Normal.{nodes}
use Rattle.lp_term.specs.Nodes.{Nodes, tree}
use Rattle.lp_term.specs.Spine.{LooseBelow}
use Rattle.lp_term.specs.declared.facts.Facts.{Facts}

abbrev pub IsNoAbstraction : Term → Type 0
IsNoAbstraction (index i) = Unit {0}
IsNoAbstraction (atom a) = Unit {0}
IsNoAbstraction (abs b) = ⊥
IsNoAbstraction (app t u) = Unit {0}

-- the loose indices are below the number, where there is one
abbrev pub IsReach : Option ℕ → Term → Type 0
IsReach None t = Unit {0}
IsReach (Some r) t = LooseBelow r 0 t

-- the term has so many nodes; more than fit 64 bits, where there is no number
abbrev pub AreNodes : Option ℕ → Term → Type 0
AreNodes None t = 2 ^ 64 ≤ nodes t
AreNodes (Some n) t = nodes t ≡ n

abbrev pub IsFixed : Atom → Type 0
IsFixed (constant c ts) = Unit {0}
IsFixed (integer z) = Unit {0}
IsFixed (text s) = Unit {0}
IsFixed (eigen k) = ⊥
IsFixed (logic x l) = ⊥
IsFixed (param k t) = Unit {0}

-- constants, literals and parameters on one another: no abstraction, no index, no eigenconstant and no variable
abbrev pub IsGround : Term → Type 0
IsGround (index i) = ⊥
IsGround (atom a) = IsFixed a
IsGround (abs b) = ⊥
IsGround (app t u) = IsGround t × IsGround u

pub record AreFacts (f : Facts) (t : Term) : Type 0 where
  pub reach : IsReach f.reach t
  pub normal : f.normal ≡ true → leftmost_step t ≡ None
  pub nodes : AreNodes f.nodes t
  pub ground : f.ground ≡ true → IsGround t

abbrev pub no_facts : Facts
no_facts = record { reach = None; normal = false; nodes = None; ground = false }

-- each term of a bank has the facts at its number
abbrev pub AreKnown : Nodes → List Facts → Type 0
AreKnown b fs = (i : ℕ) → i < length fs → AreFacts (get_or fs i no_facts) (tree b i)
