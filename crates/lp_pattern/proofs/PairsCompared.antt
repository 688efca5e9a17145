-- More steps change no answer of the comparison of pairs one after the other, and that of arguments is one of those.
use Rattle.std.proofs.Common.{ℕ, zero, suc, ◌≤◌, List, [], ◌∷◌, arith, Some}
use Rattle.lp_calculus.specs.Term.{Term}
use Rattle.lp_model.specs.Pair.{Pair}
use Rattle.lp_model.specs.Rule.{dearer, argument_pairs, compare, compare_all}
use Rattle.lp_pattern.specs.Comparing.{compare_pairs}
use Rattle.lp_unify_laws.proofs.MoreSteps.Scans.{Below, below_none, below_same, below_then, below_map}
use Rattle.lp_unify_laws.proofs.MoreSteps.Rules.{below_if, compare_more}

pub pairs_more : (n m : ℕ) → n ≤ m → (ps : List Pair) → Below (compare_pairs n ps) (compare_pairs m ps)
pairs_more n m h [] = below_same _
pairs_more n m h (p ∷ ps) =
    below_then (compare n p.level p.left p.right) (compare m p.level p.left p.right) _ _ (compare_more n m h p.level p.left p.right)
    (λ c. below_if c.same _ _ _ _ (below_map (compare_pairs n ps) (compare_pairs m ps) (dearer c.units) (pairs_more n m h ps)) (below_same (Some c)))

pub all_pairs : (n k : ℕ) (ts us : List Term) → Below (compare_all n k ts us) (compare_pairs n (argument_pairs k ts us))
all_pairs zero k ts us = below_none (compare_pairs zero (argument_pairs k ts us))
all_pairs (suc n) k [] us = below_same _
all_pairs (suc n) k (t ∷ ts) [] = below_same _
all_pairs (suc n) k (t ∷ ts) (u ∷ us) =
    below_then (compare n k t u) (compare (suc n) k t u) _ _ (compare_more n (suc n) (omega arith) k t u)
    (λ c. below_if c.same _ _ _ _
    (below_map (compare_all n k ts us) (compare_pairs (suc n) (argument_pairs k ts us)) (dearer c.units) (λ x e. pairs_more n (suc n) (omega arith) (argument_pairs k ts us) x (all_pairs n k ts us x e)))
    (below_same (Some c)))
