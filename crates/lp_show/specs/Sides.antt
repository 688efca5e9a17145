-- The sides of pairs as they are kept, and refusals of one value and of one pair.
use Rattle.std.specs.Prelude.{◌≡◌, ◌<◌, ℕ, true, List, [], ◌∷◌, length, map}
use Rattle.lp_calculus.specs.Term.{Term}
use Rattle.lp_term.specs.Nodes.{Nodes, tree}
use Rattle.lp_term.specs.declared.reduce.TermRefusal.{TermRefusal}
use Rattle.lp_term.specs.declared.reduce.TermRefusal.TheVariants.{Deep, Memory}
use Rattle.lp_model.specs.Shown.{is_shown}
use Rattle.lp_show.specs.declared.forms.Sides.{Sides}
use Rattle.lp_show.specs.Forms.{IsDeep, IsFirstDeep}

abbrev pub side_trees : Nodes → List Sides → List (Term × Term)
side_trees b ss = map (λ p. (tree b p.left.0, tree b p.right.0)) ss

abbrev pub IsSidesIn : Nodes → Sides → Type 0
IsSidesIn b p = (p.left.0 < length b.terms) × (p.right.0 < length b.terms)

-- a value that is shown is too large
abbrev pub IsDeepValue : List ℕ → Term → TermRefusal → Type 0
IsDeepValue name t (Deep k) = (is_shown name ≡ true) × IsDeep t (Deep k)
IsDeepValue name t Memory = Unit {0}

abbrev pub IsDeepPair : Term → Term → TermRefusal → Type 0
IsDeepPair t u e = IsFirstDeep (t ∷ u ∷ []) e
