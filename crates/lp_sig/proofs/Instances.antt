-- What is made of the copies of a node's parts is its copy: the node's tree with types for its variables.
use Rattle.std.proofs.Common.{◌≡◌, ℕ, zero, suc, ◌<◌, ◌≤◌, List, [], ◌∷◌, length, map, get_or, Option, Some, None, refl, sym, ap, ◌∙◌, arith}
use Rattle.std.specs.Prelude.{All, nat_eq}
use Rattle.std.specs.Map.{lookup}
use Rattle.std.proofs.lemmas.List.Elements.{All-head, All-tail}
use Rattle.lp_lemmas.proofs.Lists.{cons_equal, cons_tail}
use Rattle.indexmap.specs.IndexMap.{IndexMap}
use Rattle.lp_calculus.specs.Types.{Ty, Tys, con, arrow, tys, types, instance, instances}
use Rattle.lp_term.specs.Node.{TypeShape, var_node, param_node, con_node, arrow_node, TypeBelow}
use Rattle.lp_term.specs.Nodes.{Nodes, Extends, type_tree, type_node_tree}
use Rattle.lp_term.specs.declared.node.TypeId.{TypeId}
use Rattle.lp_sig.specs.Copying.{picked, filled, AreCopies}

two_types : (a x : Ty) (ps xs : Tys) → a ≡ x → ps ≡ xs → types a ps ≡ types x xs
two_types a x ps xs e f = cc

pub two_sides : (a x c z : Ty) → a ≡ x → c ≡ z → arrow a c ≡ arrow x z
two_sides a x c z e f = cc

first_same : (o : Option ℕ) (y : ℕ) (os : List (Option ℕ)) (ys : List (Option ℕ)) → o ∷ os ≡ Some y ∷ ys → o ≡ Some y
first_same o y os ys e = cc

pub nothing_copied : {S : Type 0} (b now : Nodes) (args : List TypeId) (made : IndexMap ℕ ℕ S) → made.entries ≡ [] → AreCopies b args now made
nothing_copied b now args made e x y h = let g : Some y ≡ None = sym h ∙ ap (λ es. lookup (nat_eq x) es) e in absurd (cc)

-- a type of the list is in the bank
pub known_within : (n : ℕ) (ts : List TypeId) (i : ℕ) (e : TypeId) → i < length ts → All (λ i. i < n) (map (λ t. t.0) ts) → (get_or ts i e).0 < n
known_within n [] i e h all = absurd (omega (arith, h))
known_within n (t ∷ ts) zero e h all = All-head (λ i. i < n) t.0 (map (λ t. t.0) ts) all
known_within n (t ∷ ts) (suc i) e h all = known_within n ts i e (omega (arith, h)) (All-tail (λ i. i < n) t.0 (map (λ t. t.0) ts) all)

same_trees : (b now : Nodes) (n : ℕ) (ids : List ℕ) → Extends b now → n ≤ length b.types → All (λ t. t < n) ids → map (type_tree now) ids ≡ map (type_tree b) ids
same_trees b now n [] x l all = refl
same_trees b now n (t ∷ ts) x l all =
    let h = All-head (λ t. t < n) t ts all in
    cons_equal (type_tree now t) (type_tree b t) (map (type_tree now) ts) (map (type_tree b) ts) (x.same_types t (omega (arith, h, l))) (same_trees b now n ts x l (All-tail (λ t. t < n) t ts all))

pub same_top : (b now : Nodes) (n : ℕ) (s : TypeShape) → Extends b now → n ≤ length b.types → TypeBelow n s → type_node_tree now s ≡ type_node_tree b s
same_top b now n (var_node i) x l p = refl
same_top b now n (param_node k) x l p = refl
same_top b now n (con_node c ids) x l p = ap (λ ts. con c (tys ts)) (same_trees b now n ids x l p)
same_top b now n (arrow_node f t) x l p =
    let h = p.0 in
    let k = p.1 in
    two_sides (type_tree now f) (type_tree b f) (type_tree now t) (type_tree b t) (x.same_types f (omega (arith, h, l))) (x.same_types t (omega (arith, k, l)))

-- the copies of a node's parts
module _ (b now : Nodes) (θ : ℕ → Ty) (find : ℕ → Option ℕ) (kept : (x y : ℕ) → find x ≡ Some y → (y < length now.types) × (type_tree now y ≡ instance θ (type_tree b x))) where
  copied_trees : (ids copies : List TypeId) → map (λ t. find t.0) ids ≡ map (λ c. Some c.0) copies → tys (map (type_tree now) (map (λ t. t.0) copies)) ≡ instances θ (tys (map (type_tree b) (map (λ t. t.0) ids)))
  copied_trees [] [] e = refl
  copied_trees [] (c ∷ cs) e = absurd (cc)
  copied_trees (t ∷ ts) [] e = absurd (cc)
  copied_trees (t ∷ ts) (c ∷ cs) e =
      let f = first_same (find t.0) c.0 (map (λ t. find t.0) ts) (map (λ c. Some c.0) cs) e in
      let g = cons_tail (find t.0) (Some c.0) (map (λ t. find t.0) ts) (map (λ c. Some c.0) cs) e in
      two_types (type_tree now c.0) (instance θ (type_tree b t.0)) (tys (map (type_tree now) (map (λ t. t.0) cs))) (instances θ (tys (map (type_tree b) (map (λ t. t.0) ts)))) (kept t.0 c.0 f).1 (copied_trees ts cs g)

module _ (b now : Nodes) (id : ℕ) (shape : TypeShape) (x : Extends b now) (h : id < length b.types) (older : TypeBelow id shape) (tree : type_node_tree now shape ≡ type_tree now id) where
  -- the tree at the start, seen through the node
  at_start : (s : TypeShape) → shape ≡ s → type_tree b id ≡ type_node_tree b s
  at_start s is = sym (x.same_types id h) ∙ sym tree ∙ same_top b now id shape x (omega (arith, h)) older ∙ ap (type_node_tree b) is

  pub var_copied : (args : List TypeId) (n : ℕ) (r : TypeId) → shape ≡ var_node n → r.0 < length b.types → type_tree b r.0 ≡ picked b args n (type_tree b id) → (r.0 < length now.types) × (type_tree now r.0 ≡ instance (filled b args) (type_tree b id))
  var_copied args n r is l e =
      let m = x.more_types in
      (omega (arith, l, m), x.same_types r.0 l ∙ e ∙ ap (picked b args n) (at_start (var_node n) is) ∙ sym (ap (instance (filled b args)) (at_start (var_node n) is)))

  pub param_copied : (θ : ℕ → Ty) (k : ℕ) → shape ≡ param_node k → (id < length now.types) × (type_tree now id ≡ instance θ (type_tree b id))
  param_copied θ k is =
      let m = x.more_types in
      (omega (arith, h, m), x.same_types id h ∙ at_start (param_node k) is ∙ sym (ap (instance θ) (at_start (param_node k) is)))

  module _ (θ : ℕ → Ty) (find : ℕ → Option ℕ) (kept : (x y : ℕ) → find x ≡ Some y → (y < length now.types) × (type_tree now y ≡ instance θ (type_tree b x))) where
    pub con_copied : (k : ℕ) (ids copies : List TypeId) → shape ≡ con_node k (map (λ t. t.0) ids) → map (λ t. find t.0) ids ≡ map (λ c. Some c.0) copies → con k (tys (map (type_tree now) (map (λ t. t.0) copies))) ≡ instance θ (type_tree b id)
    con_copied k ids copies is e = ap (con k) (copied_trees b now θ find kept ids copies e) ∙ sym (ap (instance θ) (at_start (con_node k (map (λ t. t.0) ids)) is))

    pub arrow_copied : (f t l r : TypeId) → shape ≡ arrow_node f.0 t.0 → find f.0 ≡ Some l.0 → find t.0 ≡ Some r.0 → arrow (type_tree now l.0) (type_tree now r.0) ≡ instance θ (type_tree b id)
    arrow_copied f t l r is e g =
        two_sides (type_tree now l.0) (instance θ (type_tree b f.0)) (type_tree now r.0) (instance θ (type_tree b t.0)) (kept f.0 l.0 e).1 (kept t.0 r.0 g).1 ∙ sym (ap (instance θ) (at_start (arrow_node f.0 t.0) is))
