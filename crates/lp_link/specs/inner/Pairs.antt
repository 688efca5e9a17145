-- Pairs of types that are still to be compared are alike.
use Rattle.std.specs.Prelude.{◌≡◌, ◌<◌, ◌*◌, ℕ, nat_eq, ◌&&◌, Bool, true, false, List, ◌++◌, length, map, All, Option, Some, None}
use Rattle.lp_lemmas.specs.Each.{AnyOf}
use Rattle.lp_calculus.specs.Types.{Ty, Tys, con, arrow, tys}
use Rattle.lp_term.specs.Nodes.{Nodes, type_tree}
use Rattle.lp_link.specs.declared.differ.Pair.{Pair}
use Rattle.lp_link.specs.declared.differ.Pair.TheVariants.{Types, Parts}
use Rattle.lp_link.specs.declared.differ.Edge.{Edge}
use Rattle.lp_link.specs.Differences.{kind_above, same_type, same_types}
use Rattle.lp_link.specs.Sizes.{type_size, pair_weighs}

abbrev pub same_pair : (kinds : ℕ → Option ℕ) → (below above : Nodes) → Pair → Bool
same_pair K b a (Types t u) = same_type K (type_tree b t.0) (type_tree a u.0)
same_pair K b a (Parts ts us) = same_types K (tys (map (type_tree b) (map (λ t. t.0) ts.now))) (tys (map (type_tree a) (map (λ u. u.0) us.now)))

abbrev pub IsSamePair : (kinds : ℕ → Option ℕ) → (below above : Nodes) → Pair → Type 0
IsSamePair K b a p = same_pair K b a p ≡ true

abbrev pub AreSamePairs : (kinds : ℕ → Option ℕ) → (below above : Nodes) → List Pair → Type 0
AreSamePairs K b a ps = All (IsSamePair K b a) ps

abbrev pub IsOtherPair : (kinds : ℕ → Option ℕ) → (below above : Nodes) → Pair → Type 0
IsOtherPair K b a p = same_pair K b a p ≡ false

-- one that is lighter
abbrev pub IsOtherBelow : (kinds : ℕ → Option ℕ) → (below above : Nodes) → ℕ → Pair → Type 0
IsOtherBelow K b a n p = (pair_weighs b p < n) × IsOtherPair K b a p

-- as many parts on both sides
abbrev pub IsEven : Pair → Type 0
IsEven (Types t u) = Unit {0}
IsEven (Parts ts us) = length ts.now ≡ length us.now

-- what is put on a list for a pair of so much weight: where the pair is not the same, something lighter that is put is not
pub record Leads (kinds : ℕ → Option ℕ) (below above : Nodes) (weight : ℕ) (same : Bool) (old new : List Pair) : Type 0 where
  pub put : List Pair
  pub behind : new ≡ old ++ put
  pub even : All IsEven put
  pub other : same ≡ false → AnyOf (IsOtherBelow kinds below above weight) put

-- the comparison of two types that are one or not: pairs that were met, and those that are left
pub record IsOpen (kinds : ℕ → Option ℕ) (below above : Nodes) (whole : Bool) (met : ℕ × ℕ → Bool) (left : List Pair) : Type 0 where
  pub same : whole ≡ true → AreSamePairs kinds below above left
  pub even : All IsEven left
  pub other : whole ≡ false → AnyOf (IsOtherPair kinds below above) left
  pub lighter : (t u : ℕ) → met (t, u) ≡ true → same_type kinds (type_tree below t) (type_tree above u) ≡ false → AnyOf (IsOtherBelow kinds below above (3 * type_size (type_tree below t))) left

abbrev pub pair_eq : ℕ × ℕ → ℕ × ℕ → Bool
pair_eq p q = nat_eq p.0 q.0 && nat_eq p.1 q.1

-- the kinds of an object in the one above
abbrev pub kinds_at : Edge → ℕ → Option ℕ
kinds_at e = kind_above e.below.now.object.now.kinds.items e.above.now.object.now.kinds.items

-- tops that are not alike are those of other types; else what comes next is alike if the types are one, and is not if they are not
abbrev pub Compares : (kinds : ℕ → Option ℕ) → (below above : Nodes) → Ty → Ty → (old new : List Pair) → Bool → Type 0
Compares K b a t u old new false = same_type K t u ≡ false
Compares K b a t u old new true = (same_type K t u ≡ true → AreSamePairs K b a old → AreSamePairs K b a new) × Leads K b a (3 * type_size t) (same_type K t u) old new

-- the sides of a function's type, and the kind and the parts of a type that a kind makes
abbrev pub IsSides : Ty → Option (Ty × Ty) → Type 0
IsSides t (Some s) = t ≡ arrow s.0 s.1
IsSides t None = (K : ℕ → Option ℕ) (a b : Ty) → same_type K (arrow a b) t ≡ false

abbrev pub IsParts : Ty → Option (ℕ × List Ty) → Type 0
IsParts t (Some s) = t ≡ con s.0 (tys s.1)
IsParts t None = (K : ℕ → Option ℕ) (k : ℕ) (ts : Tys) → same_type K (con k ts) t ≡ false
