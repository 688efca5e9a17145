-- Constants that are taken one after the other: two lists of them in a row are one, and so is one more behind the others.
use Rattle.std.proofs.Common.{ℕ, List, [], ◌∷◌, ◌++◌, sym, subst, append_assoc, append-nil}
use Rattle.lp_sig.specs.Rows.{Row}
use Rattle.lp_sig.specs.Abbreviations.{Seen}
use Rattle.lp_sig.specs.Constants.{Written, IsTakenConstant, AreTakenConstants}

module _ (from : ℕ) (z : Seen) where
  pub taken_then : (rows front back : List (Row Written)) → AreTakenConstants from z rows front → AreTakenConstants from z (rows ++ front) back → AreTakenConstants from z rows (front ++ back)
  taken_then rows [] back h k = subst (λ r. AreTakenConstants from z r back) (append-nil rows) k
  taken_then rows (x ∷ xs) back h k = (h.0, taken_then (rows ++ x ∷ []) xs back h.1 (subst (λ r. AreTakenConstants from z r back) (sym (append_assoc rows (x ∷ []) xs)) k))

  pub taken_one_more : (rows front : List (Row Written)) (row : Row Written) → AreTakenConstants from z rows front → IsTakenConstant from z (rows ++ front) row → AreTakenConstants from z rows (front ++ row ∷ [])
  taken_one_more rows front row h k = taken_then rows front (row ∷ []) h (k, tt)
