-- Types of a signature that is seen, by their nodes.
use Rattle.std.proofs.Common.{◌≡◌, ℕ, ◌<◌, List, length, map, Option, Some, sym, ap, ◌∙◌, inl, inr}
use Rattle.std.specs.Prelude.{◌⊎◌, slice_get}
use Rattle.lp_calculus.specs.Types.{var, param, con, arrow, tys}
use Rattle.lp_term.specs.Node.{TypeShape, var_node, param_node, con_node, arrow_node}
use Rattle.lp_term.specs.Nodes.{Nodes, type_tree, type_node_tree}
use Rattle.lp_term.specs.declared.node.TypeId.{TypeId}
use Rattle.lp_sig.specs.Named.{named, kind_name}
use Rattle.lp_sig.specs.Sighted.{AreSeenTypes}
use Rattle.lp_sig.proofs.Sighting.{low_name, var_seen, con_seen, arrow_seen}

abbrev pub AreNamed : (ℕ → Option ℕ) → (names here : List (List ℕ)) → Type 0
AreNamed kinds names here = (k n : ℕ) → kinds k ≡ Some n → kind_name here n ≡ kind_name names k

-- the number here of a kind
number_here : (kinds : ℕ → Option ℕ) (names here : List (List ℕ)) (k n : ℕ) → ((k < 8) × (n ≡ k)) ⊎ (kinds k ≡ Some n) → AreNamed kinds names here → kind_name here n ≡ kind_name names k
number_here kinds names here k n (inl (l, e)) all = ap (kind_name here) e ∙ low_name names here k l
number_here kinds names here k n (inr e) all = all k n e

module _ (there old new : Nodes) (kinds : ℕ → Option ℕ) (made : List TypeId) (id : ℕ) (shape : TypeShape) (tree : type_node_tree there shape ≡ type_tree there id) where
  pub var_type : (n : ℕ) → shape ≡ var_node n → (t : TypeId) → (t.0 < length new.types) × (type_tree new t.0 ≡ var n) → (names here : List (List ℕ)) →
      AreNamed kinds names here → AreSeenTypes there old names here made →
      (t.0 < length new.types) × (named (kind_name here) (type_tree new t.0) ≡ named (kind_name names) (type_tree there id))
  var_type n is t h names here all seen = (h.0, ap (named (kind_name here)) h.1 ∙ var_seen there old names here made seen id shape tree n is)

  pub param_type : (n : ℕ) → shape ≡ param_node n → (t : TypeId) → (t.0 < length new.types) × (type_tree new t.0 ≡ param n) → (names here : List (List ℕ)) →
      AreNamed kinds names here → AreSeenTypes there old names here made →
      (t.0 < length new.types) × (named (kind_name here) (type_tree new t.0) ≡ named (kind_name names) (type_tree there id))
  param_type n is t h names here all seen = (h.0, ap (named (kind_name here)) h.1 ∙ ap (λ s. named (kind_name names) (type_node_tree there s)) (sym is) ∙ ap (named (kind_name names)) tree)

  pub con_type : (k n : ℕ) (ids parts : List TypeId) → shape ≡ con_node k (map (λ t. t.0) ids) → map (λ t. slice_get made t.0) ids ≡ map (λ t. Some t)
      parts → ((k < 8) × (n ≡ k)) ⊎ (kinds k ≡ Some n) → (t : TypeId) →
      (t.0 < length new.types) × (type_tree new t.0 ≡ con n (tys (map (type_tree old) (map (λ t. t.0) parts)))) → (names here : List (List ℕ)) →
      AreNamed kinds names here → AreSeenTypes there old names here made →
      (t.0 < length new.types) × (named (kind_name here) (type_tree new t.0) ≡ named (kind_name names) (type_tree there id))
  con_type k n ids parts is e number t h names here all seen =
      (h.0, ap (named (kind_name here)) h.1 ∙ con_seen there old names here made seen id shape tree k n ids parts is e (number_here kinds names here k n number all))

  pub arrow_type : (f g l r : TypeId) → shape ≡ arrow_node f.0 g.0 → slice_get made f.0 ≡ Some l → slice_get made g.0 ≡ Some r → (t : TypeId) →
      (t.0 < length new.types) × (type_tree new t.0 ≡ arrow (type_tree old l.0) (type_tree old r.0)) →
      (names here : List (List ℕ)) → AreNamed kinds names here → AreSeenTypes there old names here made → (t.0 < length new.types) ×
      (named (kind_name here) (type_tree new t.0) ≡ named (kind_name names) (type_tree there id))
  arrow_type f g l r is a b t h names here all seen = (h.0, ap (named (kind_name here)) h.1 ∙ arrow_seen there old names here made seen id shape tree f g l r is a b)
