-- What a rule must do with a pair: it keeps each solution and adds none.
use Rattle.std.specs.Prelude.{ℕ, ◌<◌, List, [], ◌∷◌}
use Rattle.lp_calculus.specs.Term.{Term, atom, logic}
use Rattle.lp_calculus.specs.Convert.{Converts}
use Rattle.lp_calculus.specs.Fill.{Binding, close, put_all, Within}
use Rattle.lp_model.specs.Pair.{Pair}
use Rattle.lp_unify_laws.specs.Levels.{IsPair, IsPairAtom, IsClosing, SolvedBy, AllSolvedBy}

-- what a closing gives to a variable through bindings
abbrev pub through : List Binding → (ℕ → ℕ → Term) → ℕ → ℕ → Term
through bs σ x l = close σ (put_all bs (atom (logic x l)))

abbrev pub ArePairs : ℕ → List Pair → Type 0
ArePairs next [] = Unit {0}
ArePairs next (p ∷ ps) = IsPair next p × ArePairs next ps

-- each value has only what may stand at the level of its variable
abbrev pub AreScoped : ℕ → List Binding → Type 0
AreScoped next [] = Unit {0}
AreScoped next (b ∷ bs) = Within (IsPairAtom next b.level) 0 b.value × AreScoped next bs

-- the closing gives, through the bindings, what the older one gave; `Good` is what typing says of a closing
pub record Keeps (Good : (ℕ → ℕ → Term) → Type 0) (next : ℕ) (bs : List Binding) (σ : ℕ → ℕ → Term) : Type 0 where
  pub closing : ℕ → ℕ → Term
  pub is_closing : IsClosing closing
  pub is_good : Good closing
  pub gives : (x l : ℕ) → x < next → Converts (σ x l) (through bs closing x l)

pub record IsGiven (next : ℕ) (p : Pair) (ps : List Pair) : Type 0 where
  pub pairs : ArePairs next ps
  pub keeps : (σ : ℕ → ℕ → Term) → IsClosing σ → SolvedBy σ p → AllSolvedBy σ ps
  pub solves : (σ : ℕ → ℕ → Term) → IsClosing σ → AllSolvedBy σ ps → SolvedBy σ p
