-- The forms in which the values and the residual pairs of an answer are shown, and when one is too large.
use Rattle.std.specs.Prelude.{◌≡◌, ◌≤◌, ℕ, true, if◌then◌else◌, List, [], ◌∷◌, ◌++◌, map, ◌⊎◌}
use Rattle.lp_calculus.specs.Term.{Term}
use Rattle.lp_calculus.specs.Normal.{IsFormOf, nodes}
use Rattle.lp_term.specs.Nodes.{Nodes, tree}
use Rattle.lp_term.specs.Opened.{IsFormWithin, IsDeepForm}
use Rattle.lp_term.specs.declared.reduce.TermRefusal.{TermRefusal}
use Rattle.lp_term.specs.declared.reduce.TermRefusal.TheVariants.{Deep, Memory}
use Rattle.lp_model.specs.declared.answer.Pair as code
use Rattle.lp_model.specs.Shown.{is_shown}

-- s is the beta-eta normal form of t, at most 1,000,000 contractions away, with at most as many nodes
pub record IsShownForm (t s : Term) : Type 0 where
  pub form : IsFormOf t s
  pub counted : IsFormWithin 1000000 t s
  pub nodes : nodes s ≤ 1000000

-- the form that is not there
abbrev pub IsDeep : Term → TermRefusal → Type 0
IsDeep t e = IsDeepForm 1000000 1000000 t e

-- a form for each value that is shown; what stands in the place of the others does not matter
abbrev pub AreForms : (names : List (List ℕ)) → (values forms : List Term) → Type 0
AreForms (n ∷ ns) (t ∷ ts) (s ∷ ss) = (is_shown n ≡ true → IsShownForm t s) × AreForms ns ts ss
AreForms [] [] [] = Unit {0}
AreForms ns ts ss = ⊥

abbrev pub AreSides : (pairs forms : List (Term × Term)) → Type 0
AreSides (p ∷ ps) (q ∷ qs) = IsShownForm p.0 q.0 × IsShownForm p.1 q.1 × AreSides ps qs
AreSides [] [] = Unit {0}
AreSides ps qs = ⊥

-- the terms that are shown, in order
abbrev pub values_of : List (List ℕ) → List Term → List Term
values_of (n ∷ ns) (t ∷ ts) = if is_shown n then t ∷ values_of ns ts else values_of ns ts
values_of ns ts = []

abbrev pub sides_of : List (Term × Term) → List Term
sides_of [] = []
sides_of (p ∷ ps) = p.0 ∷ p.1 ∷ sides_of ps

-- of these terms one has no form within the limits, and each before it has one
abbrev pub IsFirstDeep : List Term → TermRefusal → Type 0
IsFirstDeep ts Memory = Unit {0}
IsFirstDeep [] (Deep k) = ⊥
IsFirstDeep (t ∷ ts) (Deep k) = IsDeep t (Deep k) ⊎ (((s : Term) × IsShownForm t s) × IsFirstDeep ts (Deep k))

abbrev pub pair_trees : Nodes → List code.Pair → List (Term × Term)
pair_trees b ps = map (λ p. (tree b p.left.0, tree b p.right.0)) ps
