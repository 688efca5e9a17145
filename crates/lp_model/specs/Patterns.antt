-- Lists of eigenconstants, as the arguments of a pattern.
use Rattle.std.specs.Prelude.{ℕ, nat_eq, Bool, false, ◌||◌, if◌then◌else◌, List, [], ◌∷◌}
use Rattle.lp_calculus.specs.Term.{Term, atom, eigen}

abbrev pub eigens : List ℕ → List Term
eigens [] = []
eigens (c ∷ cs) = atom (eigen c) ∷ eigens cs

abbrev pub member : ℕ → List ℕ → Bool
member k [] = false
member k (c ∷ cs) = nat_eq k c || member k cs

abbrev pub chosen : (ℕ → Bool) → List ℕ → List ℕ
chosen p [] = []
chosen p (c ∷ cs) = if p c then c ∷ chosen p cs else chosen p cs

-- the members that stand at the same place in both
abbrev pub agreeing : List ℕ → List ℕ → List ℕ
agreeing [] bs = []
agreeing (c ∷ cs) [] = []
agreeing (c ∷ cs) (d ∷ ds) = if nat_eq c d then c ∷ agreeing cs ds else agreeing cs ds
