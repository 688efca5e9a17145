-- What is seen at a number of a bank is seen there in each bank that it grows to.
use Rattle.std.proofs.Common.{◌≡◌, ℕ, zero, suc, ◌<◌, ◌≤◌, inl, inr, subst, List, [], ◌∷◌, length, sym, ◌∙◌, arith}
use Rattle.std.specs.Prelude.{◌⊎◌}
use Rattle.std.proofs.lemmas.List.Elements.{All-nil, All-cons, All-head, All-tail}
use Rattle.lp_lemmas.proofs.Lists.{map_agree_on}
use Rattle.lp_calculus.specs.Types.{var}
use Rattle.lp_calculus.specs.Term.{index, app}
use Rattle.lp_calculus.specs.Closed.{IsClosedType, IsClosedAt, AreClosed}
use Rattle.lp_term.specs.Node.{TypeShape, TermShape, TypeBelow, TermBelow, index_node, var_node}
use Rattle.lp_term.specs.Nodes.{Nodes, Extends, tree, type_tree, node_tree, type_node_tree, term_at, type_at}
use Rattle.lp_term.specs.declared.node.TypeId.{TypeId}
use Rattle.lp_term.proofs.Trees.{term_top_same, type_top_same, term_at-past, type_at-past, tree-past, type_tree-past, extends-trans}
use Rattle.lp_cert.specs.Facts.{AreInside}
use Rattle.lp_cert.specs.Same.{types_in}

below_or_not : (i n : ℕ) → (i < n) ⊎ (n ≤ i)
below_or_not i zero = inr (omega arith)
below_or_not zero (suc n) = inl (omega arith)
below_or_not (suc i) (suc n) = elim (below_or_not i n) [ inl l ↦ inl (omega (arith, l)) | inr l ↦ inr (omega (arith, l)) ]

-- a number that does not read as what stands outside is inside
pub term_inside : (b : Nodes) (i : ℕ) → (tree b i ≡ index 0 → ⊥) → i < length b.terms
term_inside b i differs = elim (below_or_not i (length b.terms)) [ inl l ↦ l | inr l ↦ absurd (differs (tree-past b i l)) ]

pub type_inside : (b : Nodes) (i : ℕ) → (type_tree b i ≡ var 0 → ⊥) → i < length b.types
type_inside b i differs = elim (below_or_not i (length b.types)) [ inl l ↦ l | inr l ↦ absurd (differs (type_tree-past b i l)) ]

pub closed_inside : (b : Nodes) (n i : ℕ) → IsClosedAt n (tree b i) → i < length b.terms
closed_inside b n i c = term_inside b i (λ e. let z : 0 < 0 = subst (IsClosedAt n) e c in omega (arith, z))

pub closed_type_inside : (b : Nodes) (i : ℕ) → IsClosedType (type_tree b i) → i < length b.types
closed_type_inside b i c = type_inside b i (λ e. subst IsClosedType e c)

pub closed_types_inside : (b : Nodes) (ids : List TypeId) → AreClosed (types_in b ids) → AreInside (length b.types) ids
closed_types_inside b [] c = All-nil (λ (t : TypeId). t.0 < length b.types)
closed_types_inside b (x ∷ xs) c = All-cons (λ (t : TypeId). t.0 < length b.types) x xs (closed_type_inside b x.0 c.0) (closed_types_inside b xs c.1)

type_node_inside : (b : Nodes) (i : ℕ) (s : TypeShape) → s ≡ type_at b i → (s ≡ var_node 0 → ⊥) → i < length b.types
type_node_inside b i s e differs = elim (below_or_not i (length b.types)) [ inl l ↦ l | inr l ↦ absurd (differs (e ∙ type_at-past b i l)) ]

pub seen_inside : (b c : Nodes) (i : ℕ) (s : TermShape) → Extends b c → i < length b.terms → TermBelow (length b.types) (length b.terms) s → node_tree b s ≡ tree b i → node_tree c s ≡ tree c i
seen_inside b c i s g l w e = term_top_same (type_tree c) (type_tree b) (tree c) (tree b) (length b.types) (length b.terms) g.same_types g.same_terms s w ∙ e ∙ sym (g.same_terms i l)

-- a node that is not what stands outside
node_inside : (b : Nodes) (i : ℕ) (s : TermShape) → s ≡ term_at b i → (s ≡ index_node 0 → ⊥) → i < length b.terms
node_inside b i s e differs = elim (below_or_not i (length b.terms)) [ inl l ↦ l | inr l ↦ absurd (differs (e ∙ term_at-past b i l)) ]

pub seen_later : (b c : Nodes) (i : ℕ) (s : TermShape) → Extends b c → s ≡ term_at b i → (s ≡ index_node 0 → ⊥) → TermBelow (length b.types) (length b.terms) s → node_tree b s ≡ tree b i → node_tree c s ≡ tree c i
seen_later b c i s g n differs w e = seen_inside b c i s g (node_inside b i s n differs) w e

pub type_seen_later : (b c : Nodes) (i : ℕ) (s : TypeShape) → Extends b c → s ≡ type_at b i → (s ≡ var_node 0 → ⊥) → TypeBelow (length b.types) s → type_node_tree b s ≡ type_tree b i → type_node_tree c s ≡ type_tree c i
type_seen_later b c i s g n differs w e = type_top_same (type_tree c) (type_tree b) (length b.types) g.same_types s w ∙ e ∙ sym (g.same_types i (type_node_inside b i s n differs))

-- types that stand in a bank
pub inside_later : (b c : Nodes) (ids : List TypeId) → Extends b c → AreInside (length b.types) ids → types_in c ids ≡ types_in b ids
inside_later b c ids g a = map_agree_on (λ (t : TypeId). t.0 < length b.types) (λ t. type_tree c t.0) (λ t. type_tree b t.0) (λ t l. g.same_types t.0 l) ids a

pub inside_more : (b c : Nodes) (ids : List TypeId) → Extends b c → AreInside (length b.types) ids → AreInside (length c.types) ids
inside_more b c [] g a = All-nil (λ (t : TypeId). t.0 < length c.types)
inside_more b c (x ∷ xs) g a =
    let P : TypeId → Type 0 = λ t. t.0 < length b.types in
    let here = All-head P x xs a in
    let more = g.more_types in
    All-cons (λ (t : TypeId). t.0 < length c.types) x xs (omega (arith, here, more)) (inside_more b c xs g (All-tail P x xs a))

-- an application that was put
pub applied_later : (b a d : Nodes) (h u made : ℕ) → Extends b a → Extends a d → h < length b.terms → u < length b.terms → made < length a.terms → tree a made ≡ app (tree b h) (tree b u) → tree d made ≡ app (tree d h) (tree d u)
applied_later b a d h u made g k l m n e =
    let t = extends-trans b a d g k in
    k.same_terms made n ∙ e ∙ (λ j. app (sym (t.same_terms h l) j) (sym (t.same_terms u m) j))
