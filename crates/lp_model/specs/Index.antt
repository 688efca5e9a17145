-- Terms for the loose indices of a term: how a clause's variables get their terms.
use Rattle.std.specs.Prelude.{ℕ, zero, suc, List, slice_index_or}
use Rattle.lp_calculus.specs.Term.{Term, index, atom, abs, app, shift}

-- terms for indices, below one more abstraction
abbrev pub lifted : (ℕ → Term) → ℕ → Term
lifted f zero = index 0
lifted f (suc i) = shift 0 1 (f i)

-- each loose index of a term gives way to a term
abbrev pub instantiate : (ℕ → Term) → Term → Term
instantiate f (index i) = f i
instantiate f (atom a) = atom a
instantiate f (abs b) = abs (instantiate (lifted f) b)
instantiate f (app t u) = app (instantiate f t) (instantiate f u)

-- terms by number; past the end is never looked at
abbrev pub at : List Term → ℕ → Term
at ts x = slice_index_or ts x (index 0)
