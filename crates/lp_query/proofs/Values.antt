-- The values at some places.
use Rattle.std.proofs.Common.{◌≡◌, ℕ, ◌<◌, List, [], ◌∷◌, ◌++◌, length, get_or}
use Rattle.std.specs.Prelude.{All}
use Rattle.lp_lemmas.proofs.Elements.{All_pushed}
use Rattle.lp_term.specs.declared.node.TermId.{TermId}

pub value_more : (P : TermId → Type 0) (values : List TermId) (places : List ℕ) (at : ℕ) (d : TermId) (n : ℕ) (all xs : List TermId) → all ≡ xs ++ get_or values (get_or places at n) d ∷ [] → at < length places
    → All (λ p. p < length values) places → All P values → All P xs → All P all
value_more P values places at d n all xs e h w v a = All_pushed P all xs (get_or values (get_or places at n) d) e a (v (get_or places at n) d (w at n h))
