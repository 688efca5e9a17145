-- One turn of the comparison of two types.
use Rattle.std.proofs.Common.{◌≡◌, ℕ, ◌*◌, ◌<◌, List, [], ◌∷◌, ◌++◌, Bool, true, false, refl, sym, ap, ◌∙◌, subst, true≢false, arith, Option, Some}
use Rattle.std.proofs.lemmas.List.Elements.{All-pop}
use Rattle.lp_term.specs.Nodes.{Nodes, type_tree}
use Rattle.lp_term.specs.declared.node.TypeId.{TypeId}
use Rattle.lp_link.specs.declared.differ.Pair.{Pair}
use Rattle.lp_link.specs.declared.differ.Pair.TheVariants.{Types}
use Rattle.lp_link.specs.Sizes.{type_size, pair_weighs, pair_work}
use Rattle.lp_link.specs.Differences.{same_type}
use Rattle.lp_link.specs.inner.Pairs.{IsSamePair, AreSamePairs, Compares}
use Rattle.lp_link.proofs.Works.{one_more, some_type}

pub smaller : (b : Nodes) (old rest : List Pair) (next : Pair) (t u : TypeId) → old ≡ rest ++ next ∷ [] → next ≡ Types t u → pair_work b rest < pair_work b old
smaller b old rest next t u e is =
    let w = one_more (pair_weighs b) rest old next e in
    let n : pair_weighs b next ≡ 3 * type_size (type_tree b t.0) = ap (pair_weighs b) is in
    omega (arith, w, n, some_type (type_tree b t.0))

module _ (K : ℕ → Option ℕ) (b a : Nodes) (x : Bool) (old rest : List Pair) (next : Pair) (e : old ≡ rest ++ next ∷ []) (all : x ≡ true → AreSamePairs K b a old) where
  pub rest_same : x ≡ true → AreSamePairs K b a rest
  rest_same h = (All-pop (IsSamePair K b a) old rest (Some next) e (all h)).0

  pub next_same : x ≡ true → IsSamePair K b a next
  next_same h = (All-pop (IsSamePair K b a) old rest (Some next) e (all h)).1

  module _ (t u : TypeId) (is : next ≡ Types t u) (new : List Pair) where
    types_same : x ≡ true → same_type K (type_tree b t.0) (type_tree a u.0) ≡ true
    types_same h = subst (IsSamePair K b a) is (next_same h)

    pub differs : (r : Bool) → Compares K b a (type_tree b t.0) (type_tree a u.0) rest new r → r ≡ false → x ≡ false
    differs true c n = absurd (true≢false n)
    differs false c n = never x (λ h. true≢false (sym (types_same h) ∙ c))
      where
        never : (x : Bool) → (x ≡ true → ⊥) → x ≡ false
        never true h = absurd (h refl)
        never false h = refl

    pub goes_on : (r : Bool) → Compares K b a (type_tree b t.0) (type_tree a u.0) rest new r → r ≡ true → x ≡ true → AreSamePairs K b a new
    goes_on false c n h = absurd (true≢false (sym n))
    goes_on true c n h = c.0 (types_same h) (rest_same h)
