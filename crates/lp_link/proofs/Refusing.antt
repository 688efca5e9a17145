-- The causes of refusals.
use Rattle.std.proofs.Common.{◌≡◌, ℕ, zero, suc, ◌+◌, ◌-◌, ◌<◌, ◌≤◌, List, [], ◌∷◌, length, map, get_or, refl, sym, ap, subst, ◌∙◌, inl, inr}
use Rattle.std.specs.Prelude.{◌⊎◌, All, Vec, slice_get, Some}
use Rattle.std.specs.Global.{Global}
use Rattle.std.proofs.lemmas.List.{get_or-map, length-map}
use Rattle.lp_lemmas.proofs.Lists.{get_map}
use Rattle.lp_base.specs.declared.limit.Limit.TheVariants as limit
use Rattle.lp_copies.specs.Copies.{Copies, IsTooMany}
use Rattle.lp_copies.specs.Trees.{lists_in}
use Rattle.lp_copies.specs.declared.fault.TreeRefusal.{TreeRefusal}
use Rattle.lp_copies.specs.declared.fault.TreeRefusal.TheVariants as tree
use Rattle.lp_code.specs.declared.object.Object.{Object}
use Rattle.lp_link.specs.declared.fault.LinkRefusal.{LinkRefusal}
use Rattle.lp_link.specs.declared.fault.LinkRefusal.TheVariants as refusal
use Rattle.lp_link.specs.declared.places.Member.{Member}
use Rattle.lp_link.specs.Uses.{uses_of}
use Rattle.lp_link.proofs.Uses.{uses_count}
use Rattle.lp_link.specs.Ends.{total, hidden_kinds, hidden_constants, kind_counts, constant_counts, kinds_end, constants_end}
use Rattle.lp_link.specs.Edges.{Edges}
use Rattle.lp_link.specs.Differences.{IsSameAbove}
use Rattle.lp_link.specs.Refusals.{refusal_of, HasFewCopies, HasFewNames, HasManyNames, AreSame, AreAllSame, Differs, IsLinkRefusal}
use Rattle.lp_link.specs.inner.Members.{AreSameMembers, AreAllCompared, Differing, IsCopiesRefusal, IsCompareRefusal}
use Rattle.lp_link.specs.declared.fault.Part.{Part}
use Rattle.lp_link.proofs.Edges.{edges_of, copies_below}

-- too many copies, as each call tells it
pub tree_told : (uses : List (List ℕ)) (root : ℕ) (r : TreeRefusal) → IsTooMany uses root r → IsCopiesRefusal uses root (refusal_of r)
tree_told uses root tree.TooMany h = h
tree_told uses root tree.Memory h = tt

pub tree_compared : (members : List Member) (uses : List (List ℕ)) (root : ℕ) (r : TreeRefusal) → IsTooMany uses root r → IsCompareRefusal members uses root (refusal_of r)
tree_compared members uses root tree.TooMany h = h
tree_compared members uses root tree.Memory h = tt

pub tree_refused : (os : List Object) (outs : List (Vec ℕ Global)) (root : ℕ) (r : TreeRefusal) → lists_in outs ≡ uses_of os → IsTooMany (lists_in outs) root r → IsLinkRefusal os root (refusal_of r)
tree_refused os outs root tree.TooMany is h = λ all c. h all (subst (λ l. Copies l (root ∷ []) all) (sym is) c)
tree_refused os outs root tree.Memory is h = tt

pub copies_refused : (os : List Object) (outs : List (Vec ℕ Global)) (root : ℕ) (e : LinkRefusal) → lists_in outs ≡ uses_of os → IsCopiesRefusal (lists_in outs) root e → IsLinkRefusal os root e
copies_refused os outs root (refusal.Limit limit.Copies) is h = λ all c. h all (subst (λ l. Copies l (root ∷ []) all) (sym is) c)
copies_refused os outs root (refusal.Limit limit.File) is h = absurd h
copies_refused os outs root (refusal.Limit limit.Image) is h = absurd h
copies_refused os outs root (refusal.Limit limit.Modules) is h = absurd h
copies_refused os outs root (refusal.Limit limit.Names) is h = absurd h
copies_refused os outs root (refusal.Limit limit.NameLength) is h = absurd h
copies_refused os outs root (refusal.Limit limit.Arguments) is h = absurd h
copies_refused os outs root (refusal.Limit limit.Nesting) is h = absurd h
copies_refused os outs root (refusal.Limit limit.NormalForm) is h = absurd h
copies_refused os outs root (refusal.Limit limit.Clauses) is h = absurd h
copies_refused os outs root (refusal.Limit limit.Registers) is h = absurd h
copies_refused os outs root (refusal.Limit limit.Text) is h = absurd h
copies_refused os outs root refusal.Memory is h = tt
copies_refused os outs root (refusal.Differ n p) is h = absurd h

there_mapped : {A B : Type 0} (f : A → B) (xs : List A) (ys : List B) (i : ℕ) (x : A) → map f xs ≡ ys → slice_get xs i ≡ Some x → slice_get ys i ≡ Some (f x)
there_mapped f xs ys i x e h = ap (λ l. slice_get l i) (sym e) ∙ get_map f xs i x h

-- objects in the place of members
from_mapped : {A B : Type 0} (f : A → B) (xs : List A) (i : ℕ) (y : B) → slice_get (map f xs) i ≡ Some y → (x : A) × ((slice_get xs i ≡ Some x) × (f x ≡ y))
from_mapped f [] i y e = cc
from_mapped f (x ∷ xs) zero y e = (x, (refl, cc))
from_mapped f (x ∷ xs) (suc i) y e = from_mapped f xs i y e

module _ (os : List Object) (members : List Member) (are : map (λ m. m.object.now) members ≡ os) where
  edge_same : (edge : ℕ × ℕ) → AreSameMembers members edge → AreSame os edge
  edge_same edge s = λ one other h k.
      let (m, (mh, ms)) = from_mapped (λ m. m.object.now) members edge.0 one (ap (λ l. slice_get l edge.0) are ∙ h) in
      let (n, (nh, ns)) = from_mapped (λ m. m.object.now) members edge.1 other (ap (λ l. slice_get l edge.1) are ∙ k) in
      subst (λ o. IsSameAbove o other) ms (subst (λ o. IsSameAbove m.object.now o) ns (s m n mh nh))

  edges_same : (edges : List (ℕ × ℕ)) → All (AreSameMembers members) edges → All (AreSame os) edges
  edges_same edges all i d h = edge_same (get_or edges i d) (all i d h)

  module _ (outs : List (Vec ℕ Global)) (root : ℕ) (is : lists_in outs ≡ uses_of os) where
    here : (edges : List (ℕ × ℕ)) → Edges (uses_of os) root (get_or (uses_of os) root []) edges → Edges (lists_in outs) root (get_or (lists_in outs) root []) edges
    here edges e = subst (λ l. Edges l root (get_or l root []) edges) (sym is) e

    pub all_same : AreAllCompared members (lists_in outs) root → AreAllSame os root
    all_same all = λ edges e. edges_same edges (all edges (here edges e))

    pub few_copies : (order : List ℕ) → Copies (lists_in outs) (root ∷ []) order → length order ≤ 4096 → HasFewCopies os root
    few_copies order c few = record { all = order; copies = subst (λ l. Copies l (root ∷ []) order) is c; few = few }

    root_edges : (order : List ℕ) → Copies (lists_in outs) (root ∷ []) order → (edges : List (ℕ × ℕ)) × Edges (uses_of os) root (get_or (uses_of os) root []) edges
    root_edges order c =
        let (below, b) = copies_below (lists_in outs) root (root ∷ []) order refl c in
        subst (λ l. (edges : List (ℕ × ℕ)) × Edges l root (get_or l root []) edges) is (edges_of (lists_in outs) root (get_or (lists_in outs) root []) below b)

    differs : (number : ℕ) (part : Part) (edges : List (ℕ × ℕ)) → Edges (uses_of os) root (get_or (uses_of os) root []) edges → Differing members edges number part → Differs os root number part
    differs number part edges e h = record {
      edges = edges;
      are = e;
      before = h.before;
      after = h.after;
      below = h.below;
      above = h.above;
      place = h.place;
      same = edges_same h.before h.same;
      number_is = h.is_other.number_is;
      one = h.is_other.one.object.now;
      one_there = there_mapped (λ m. m.object.now) members os h.below h.is_other.one are h.is_other.one_there;
      other = h.is_other.other.object.now;
      other_there = there_mapped (λ m. m.object.now) members os h.above h.is_other.other are h.is_other.other_there;
      part_is = h.is_other.part_is;
    }

    pub compare_refused : (order : List ℕ) (e : LinkRefusal) → Copies (lists_in outs) (root ∷ []) order → length order ≤ 4096 → IsCompareRefusal
        members (lists_in outs) root e → IsLinkRefusal os root e
    compare_refused order (refusal.Differ n p) c few h = (few_copies order c few, let (edges, e) = root_edges order c in differs n p edges e (h edges (here edges e)))
    compare_refused order (refusal.Limit limit.Copies) c few h = copies_refused os outs root (refusal.Limit limit.Copies) is h
    compare_refused order (refusal.Limit limit.File) c few h = absurd h
    compare_refused order (refusal.Limit limit.Image) c few h = absurd h
    compare_refused order (refusal.Limit limit.Modules) c few h = absurd h
    compare_refused order (refusal.Limit limit.Names) c few h = absurd h
    compare_refused order (refusal.Limit limit.NameLength) c few h = absurd h
    compare_refused order (refusal.Limit limit.Arguments) c few h = absurd h
    compare_refused order (refusal.Limit limit.Nesting) c few h = absurd h
    compare_refused order (refusal.Limit limit.NormalForm) c few h = absurd h
    compare_refused order (refusal.Limit limit.Clauses) c few h = absurd h
    compare_refused order (refusal.Limit limit.Registers) c few h = absurd h
    compare_refused order (refusal.Limit limit.Text) c few h = absurd h
    compare_refused order refusal.Memory c few h = tt

module _ (os : List Object) (root : ℕ) (top : Object) (here : root < length os) (is : top ≡ get_or os root top) where
  kinds_begin : (k : ℕ) → k ≡ 8 + (length top.kinds.items - hidden_kinds top.kinds.items) → k ≡ 8 + get_or (map (λ o. length o.kinds.items - hidden_kinds o.kinds.items) os) root 0
  kinds_begin k e =
      let g = get_or-map (λ o. length o.kinds.items - hidden_kinds o.kinds.items) os root top 0 here in
      e ∙ ap (λ o. 8 + (length o.kinds.items - hidden_kinds o.kinds.items)) is ∙ ap (λ n. 8 + n) (sym g)

  constants_begin : (c : ℕ) → c ≡ 32 + (length top.constants.items - hidden_constants top.constants.items) → c ≡ 32 + get_or
      (map (λ o. length o.constants.items - hidden_constants o.constants.items) os) root 0
  constants_begin c e =
      let g = get_or-map (λ o. length o.constants.items - hidden_constants o.constants.items) os root top 0 here in
      e ∙ ap (λ o. 32 + (length o.constants.items - hidden_constants o.constants.items)) is ∙ ap (λ n. 32 + n) (sym g)

  -- the numbers pass their end in the one order of copies that there is
  pub names_refused : (outs : List (Vec ℕ Global)) (order : List ℕ) (k c : ℕ) (ks cs : List ℕ) → lists_in outs ≡ uses_of os → ((all : List ℕ) → Copies (lists_in outs) (root ∷ []) all → all ≡ order) →
      k ≡ 8 + (length top.kinds.items - hidden_kinds top.kinds.items) → c ≡ 32 + (length top.constants.items - hidden_constants top.constants.items) → ks ≡ kind_counts os → cs ≡ constant_counts os →
      (1048576 < total k ks order) ⊎ (1048576 < total c cs order) → HasManyNames os root
  names_refused outs order k c ks cs of only begin first kinds constants passed = λ all copies.
      by all (only all (subst (λ l. Copies l (root ∷ []) all) (sym of) copies)) passed
    where
      by : (all : List ℕ) → all ≡ order → (1048576 < total k ks order) ⊎ (1048576 < total c cs order) → (1048576 < kinds_end os root all) ⊎ (1048576 < constants_end os root all)
      by all e (inl h) = inl (subst (λ l. 1048576 < kinds_end os root l) (sym e) (subst (λ n. 1048576 < total n (kind_counts os) order)
          (kinds_begin k begin) (subst (λ l. 1048576 < total k l order) kinds h)))
      by all e (inr h) = inr (subst (λ l. 1048576 < constants_end os root l) (sym e)
          (subst (λ n. 1048576 < total n (constant_counts os) order) (constants_begin c first) (subst (λ l. 1048576 < total c l order) constants h)))

  -- they do not
  pub few_names : (outs : List (Vec ℕ Global)) (order : List ℕ) (k c : ℕ) (ks cs : List ℕ) → lists_in outs ≡ uses_of os → ((all : List ℕ) → Copies (lists_in outs) (root ∷ []) all → all ≡ order) →
      k ≡ 8 + (length top.kinds.items - hidden_kinds top.kinds.items) → c ≡ 32 + (length top.constants.items - hidden_constants top.constants.items) → ks ≡ kind_counts os → cs ≡ constant_counts os →
      (total k ks order ≤ 1048576) × (total c cs order ≤ 1048576) → HasFewNames os root
  few_names outs order k c ks cs of only begin first kinds constants (few, fewer) = λ all copies.
      let e = only all (subst (λ l. Copies l (root ∷ []) all) (sym of) copies) in (
        subst (λ l. kinds_end os root l ≤ 1048576) (sym e) (subst (λ n. total n (kind_counts os) order ≤ 1048576) (kinds_begin k begin) (subst (λ l. total k l order ≤ 1048576) kinds few)),
        subst (λ l. constants_end os root l ≤ 1048576) (sym e) (subst (λ n. total n (constant_counts os) order ≤ 1048576) (constants_begin c first)
            (subst (λ l. total c l order ≤ 1048576) constants fewer)),
      )

-- an order of copies is within a count for each object
pub counts_within : (f : Object → ℕ) (os : List Object) (outs : List (Vec ℕ Global)) (order counts : List ℕ) → counts ≡ map f os → lists_in outs ≡
    uses_of os → All (λ m. m < length outs) order → All (λ m. m < length counts) order
counts_within f os outs order counts e is all = subst (λ n. All (λ m. m < n) order) (uses_count os outs is ∙ sym (length-map os f) ∙ ap length (sym e)) all

-- what holds of each object holds of that of each member
pub of_members : (P : Object → Type 0) (os : List Object) (members : List Member) → map (λ m. m.object.now) members ≡ os → All P os → All (λ m. P m.object.now) members
of_members P os members e all i d h = subst P (get_or-map (λ m. m.object.now) members i d d.object.now h)
    (subst (All P) (sym e) all i d.object.now (subst (λ n. i < n) (sym (length-map members (λ m. m.object.now))) h))
