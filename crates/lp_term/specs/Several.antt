-- Values for several indices: the first one for the first free index, the next one for the next index.
use Rattle.std.specs.Prelude.{ℕ, suc, ◌-◌, nat_lt, nat_eq, if◌then◌else◌, List, [], ◌∷◌}
use Rattle.lp_calculus.specs.Term.{Term, index, replace, shift, put_for}

-- under d abstractions, the values for the indices d, d + 1 and so on; the indices above them are lower by as many
abbrev pub put_each : List Term → ℕ → ℕ → Term
put_each [] d i = index i
put_each (u ∷ us) d i = if nat_lt i d then index i else (if nat_eq i d then shift 0 d u else put_each us d (i - 1))

-- substitutions one after the other under d abstractions: the last value first, under as many more as there are values before it
abbrev pub substitute_under : ℕ → List Term → Term → Term
substitute_under d [] b = b
substitute_under d (u ∷ us) b = replace (put_for u) d (substitute_under (suc d) us b)

-- the values, one after the other, for the indices of as many abstractions, of which the outermost is contracted first
abbrev pub substitute_each : (values : List Term) → (body : Term) → Term
substitute_each us b = substitute_under 0 us b
