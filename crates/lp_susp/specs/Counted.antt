-- Head contractions that are counted, while parts of the term are reduced besides.
use Rattle.std.specs.Prelude.{◌≡◌, ℕ, zero, suc, Option, Some, IsSome, ◌⊎◌, ◌<◌}
use Rattle.lp_calculus.specs.Term.{Term, app}
use Rattle.lp_calculus.specs.Convert.{head_step, leftmost_step, steps, Reduces}
use Rattle.lp_calculus.specs.Normal.{nodes, IsBetaNormal}
use Rattle.lp_term.specs.declared.reduce.TermRefusal.{TermRefusal}
use Rattle.lp_term.specs.declared.reduce.TermRefusal.TheVariants.{Deep, Memory}

-- so many steps of a reduction, and reductions elsewhere between them, lead from one term to the other
pub data Counts (f : Term → Option Term) : ℕ → Term → Term → Type 0 where
  rests : (t : Term) → Counts f zero t t
  contracts : {n : ℕ} {t r u : Term} → f t ≡ Some r → Counts f n r u → Counts f (suc n) t u
  elsewhere : {n : ℕ} {t r u : Term} → Reduces t r → Counts f n r u → Counts f n t u

-- steps of leftmost head reduction are counted
abbrev pub Works : ℕ → Term → Term → Type 0
Works = Counts head_step

abbrev pub IsApplication : Term → Type 0
IsApplication t = (x : Term) × (y : Term) × (t ≡ app x y)

-- the limit is told, and after as many contractions as were left another one is there
abbrev pub IsStopped : (limit left : ℕ) → Term → TermRefusal → Type 0
IsStopped limit left t (Deep n) = (n ≡ limit) × (w : Term) × Works left t w × IsSome (head_step w)
IsStopped limit left t Memory = Unit {0}

-- the limit is told, and leftmost head reduction takes more steps than the limit
abbrev pub IsDeepOnlyWhere : ℕ → Term → TermRefusal → Type 0
IsDeepOnlyWhere limit t (Deep n) = (n ≡ limit) × IsSome (steps head_step (suc limit) t)
IsDeepOnlyWhere limit t Memory = Unit {0}

-- the limit is told, and leftmost reduction takes more steps than the limit, or each beta-normal form of the term has more nodes than the limit
abbrev pub IsDeepBeta : ℕ → Term → TermRefusal → Type 0
IsDeepBeta limit t (Deep n) = (n ≡ limit) × (IsSome (steps leftmost_step (suc limit) t) ⊎ ((s : Term) → Reduces t s → IsBetaNormal s → limit < nodes s))
IsDeepBeta limit t Memory = Unit {0}

-- the limit is told, and all that the term reduces to has more nodes than the limit
abbrev pub StaysLarge : ℕ → Term → TermRefusal → Type 0
StaysLarge limit t (Deep n) = (n ≡ limit) × ((s : Term) → Reduces t s → limit < nodes s)
StaysLarge limit t Memory = Unit {0}
