-- Where each node stands once, equal types have equal numbers.
use Rattle.std.proofs.Common.{◌≡◌, ℕ, ◌<◌, ◌≤◌, List, [], ◌∷◌, length, map, refl, sym, ap, subst, ◌∙◌, arith}
use Rattle.std.specs.Prelude.{AllPairs, ◌≢◌, All}
use Rattle.std.proofs.lemmas.List.Elements.{All-head, All-tail}
use Rattle.lp_sig.proofs.Finds.{two_sides}
use Rattle.lp_lemmas.proofs.Lists.{cons_equal}
use Rattle.lp_calculus.specs.Types.{Ty, Tys, var, param, con, arrow, tys, no_types, types}
use Rattle.lp_term.specs.Node.{TypeShape, var_node, param_node, con_node, arrow_node, TypeBelow}
use Rattle.lp_term.specs.Nodes.{Nodes, IsSound, type_at, type_tree, type_node_tree}
use Rattle.lp_term.proofs.Trees.{type_tree-node, type_below}

-- the node of a tree
module _ (θ : ℕ → Ty) where
  record IsCon (s : TypeShape) (c : ℕ) (ts : Tys) : Type 0 where
    pub ids : List ℕ
    pub is : s ≡ con_node c ids
    pub parts : tys (map θ ids) ≡ ts

  record IsArrow (s : TypeShape) (x y : Ty) : Type 0 where
    pub left : ℕ
    pub right : ℕ
    pub is : s ≡ arrow_node left right
    pub from : θ left ≡ x
    pub to : θ right ≡ y

abbrev AreIn : ℕ → List ℕ → Type 0
AreIn n [] = Unit {0}
AreIn n (i ∷ is) = (i < n) × AreIn n is

are_in : (n m : ℕ) (is : List ℕ) → m ≤ n → All (λ t. t < m) is → AreIn n is
are_in n m [] l all = tt
are_in n m (i ∷ is) l all = let h = All-head (λ t. t < m) i is all in (omega (arith, h, l), are_in n m is l (All-tail (λ t. t < m) i is all))

module _ (b : Nodes) where
  is_var : (s : TypeShape) (n : ℕ) → type_node_tree b s ≡ var n → s ≡ var_node n
  is_var (var_node m) n e = let f : m ≡ n = cc in ap var_node f
  is_var (param_node k) n e = absurd (cc)
  is_var (con_node c ids) n e = absurd (cc)
  is_var (arrow_node x y) n e = absurd (cc)

  is_param : (s : TypeShape) (n : ℕ) → type_node_tree b s ≡ param n → s ≡ param_node n
  is_param (var_node m) n e = absurd (cc)
  is_param (param_node k) n e = let f : k ≡ n = cc in ap param_node f
  is_param (con_node c ids) n e = absurd (cc)
  is_param (arrow_node x y) n e = absurd (cc)

  is_con : (s : TypeShape) (c : ℕ) (ts : Tys) → type_node_tree b s ≡ con c ts → IsCon (type_tree b) s c ts
  is_con (var_node m) c ts e = absurd (cc)
  is_con (param_node k) c ts e = absurd (cc)
  is_con (con_node d ids) c ts e =
      let f : d ≡ c = cc in
      let g : tys (map (type_tree b) ids) ≡ ts = cc in
      record { ids = ids; is = ap (λ d. con_node d ids) f; parts = g }
  is_con (arrow_node x y) c ts e = absurd (cc)

  is_arrow : (s : TypeShape) (t u : Ty) → type_node_tree b s ≡ arrow t u → IsArrow (type_tree b) s t u
  is_arrow (var_node m) t u e = absurd (cc)
  is_arrow (param_node k) t u e = absurd (cc)
  is_arrow (con_node d ids) t u e = absurd (cc)
  is_arrow (arrow_node x y) t u e =
      let f : type_tree b x ≡ t = cc in
      let g : type_tree b y ≡ u = cc in
      record { left = x; right = y; is = refl; from = f; to = g }

  module _ (sound : IsSound b) (once : AllPairs (λ s t. s ≢ t) b.types) where
    one_place : (i j : ℕ) → i < length b.types → j < length b.types → type_at b i ≡ type_at b j → i ≡ j
    one_place i j h k e =
        let l : i < j → ⊥ = λ l. once i j (var_node 0) l k e in
        let m : j < i → ⊥ = λ m. once j i (var_node 0) m h (sym e) in
        omega (arith, l, m)

    node_is : (i : ℕ) (t : Ty) → i < length b.types → type_tree b i ≡ t → type_node_tree b (type_at b i) ≡ t
    node_is i t h e = type_tree-node b sound i h ∙ e

    parts_in : (i c : ℕ) (ids : List ℕ) → i < length b.types → type_at b i ≡ con_node c ids → AreIn (length b.types) ids
    parts_in i c ids h is = are_in (length b.types) i ids (omega (arith, h)) (subst (TypeBelow i) is (type_below b sound i h))

    mutual
      same_number : (t : Ty) (i j : ℕ) → i < length b.types → j < length b.types → type_tree b i ≡ t → type_tree b j ≡ t → i ≡ j
      same_number (var n) i j h k e f = one_place i j h k (is_var (type_at b i) n (node_is i (var n) h e) ∙ sym (is_var (type_at b j) n (node_is j (var n) k f)))
      same_number (param n) i j h k e f = one_place i j h k (is_param (type_at b i) n (node_is i (param n) h e) ∙ sym (is_param (type_at b j) n (node_is j (param n) k f)))
      same_number (con c ts) i j h k e f =
          let p = is_con (type_at b i) c ts (node_is i (con c ts) h e) in
          let q = is_con (type_at b j) c ts (node_is j (con c ts) k f) in
          one_place i j h k (p.is ∙ ap (con_node c) (same_list ts p.ids q.ids (parts_in i c p.ids h p.is) (parts_in j c q.ids k q.is) p.parts q.parts) ∙ sym q.is)
      same_number (arrow t u) i j h k e f =
          let p = is_arrow (type_at b i) t u (node_is i (arrow t u) h e) in
          let q = is_arrow (type_at b j) t u (node_is j (arrow t u) k f) in
          let x = subst (TypeBelow i) p.is (type_below b sound i h) in
          let y = subst (TypeBelow j) q.is (type_below b sound j k) in
          let l = x.0 in
          let m = x.1 in
          let n = y.0 in
          let o = y.1 in
          one_place i j h k (p.is ∙ two_sides p.left p.right q.left q.right (same_number t p.left q.left (omega (arith, l, h)) (omega (arith, n, k)) p.from q.from) (same_number u p.right q.right (omega (arith, m, h)) (omega (arith, o, k)) p.to q.to) ∙ sym q.is)

      same_list : (ts : Tys) (is js : List ℕ) → AreIn (length b.types) is → AreIn (length b.types) js → tys (map (type_tree b) is) ≡ ts → tys (map (type_tree b) js) ≡ ts → is ≡ js
      same_list no_types [] [] h k e f = refl
      same_list no_types [] (j ∷ js) h k e f = absurd (cc)
      same_list no_types (i ∷ is) js h k e f = absurd (cc)
      same_list (types t ts) [] js h k e f = absurd (cc)
      same_list (types t ts) (i ∷ is) [] h k e f = absurd (cc)
      same_list (types t ts) (i ∷ is) (j ∷ js) h k e f =
          let p : type_tree b i ≡ t = cc in
          let q : type_tree b j ≡ t = cc in
          let v : tys (map (type_tree b) is) ≡ ts = cc in
          let w : tys (map (type_tree b) js) ≡ ts = cc in
          cons_equal i j is js (same_number t i j h.0 k.0 p q) (same_list ts is js h.1 k.1 v w)

    -- equal types have equal numbers
    pub equal_numbers : (i j : ℕ) → i < length b.types → j < length b.types → type_tree b i ≡ type_tree b j → i ≡ j
    equal_numbers i j h k e = same_number (type_tree b j) i j h k e refl
