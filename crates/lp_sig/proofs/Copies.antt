-- What is left of a copy falls: the parts of a type have fewer nodes than it.
use Rattle.std.proofs.Common.{◌≡◌, ℕ, zero, suc, ◌+◌, ◌*◌, ◌<◌, ◌≤◌, List, [], ◌∷◌, ◌++◌, length, map, reverse, get_or, Option, Some, Bool, true, false, refl, sym, ap, subst, ◌∙◌, arith}
use Rattle.std.specs.Prelude.{All, nat_eq, ltb, if◌then◌else◌}
use Rattle.std.proofs.lemmas.Bool.{eqb-true, ltb-true, ltb-false}
use Rattle.std.proofs.lemmas.List.{reverse-append}
use Rattle.std.proofs.lemmas.List.Elements.{All-head, All-tail}
use Rattle.lp_calculus.specs.Types.{Ty, var, param, con, arrow, tys, instance}
use Rattle.lp_term.specs.Node.{TypeShape, var_node, con_node, arrow_node, TypeBelow}
use Rattle.lp_term.specs.Nodes.{Nodes, Extends, type_at, type_tree, type_node_tree}
use Rattle.lp_term.specs.declared.node.TypeId.{TypeId}
use Rattle.lp_term.proofs.Trees.{type_at-past}
use Rattle.lp_sig.specs.Copying.{type_size, type_sizes, total, cost, left, InRange, AreInRange, picked, filled}
use Rattle.lp_sig.specs.declared.interned.Task.{Task}
use Rattle.lp_sig.specs.declared.interned.Task.TheVariants.{Visit, Build}

-- a node with parts stands in the bank
pub con_inside : (b : Nodes) (id k : ℕ) (ids : List ℕ) → con_node k ids ≡ type_at b id → id < length b.types
con_inside b id k ids e = by (ltb id (length b.types)) refl
  where
    by : (t : Bool) → ltb id (length b.types) ≡ t → id < length b.types
    by true h = ltb-true id (length b.types) h
    by false h = let z : con_node k ids ≡ var_node 0 = e ∙ type_at-past b id (ltb-false id (length b.types) h) in absurd (cc)

pub arrow_inside : (b : Nodes) (id f t : ℕ) → arrow_node f t ≡ type_at b id → id < length b.types
arrow_inside b id f t e = by (ltb id (length b.types)) refl
  where
    by : (s : Bool) → ltb id (length b.types) ≡ s → id < length b.types
    by true h = ltb-true id (length b.types) h
    by false h = let z : arrow_node f t ≡ var_node 0 = e ∙ type_at-past b id (ltb-false id (length b.types) h) in absurd (cc)

pub some_nodes : (t : Ty) → 0 < type_size t
some_nodes (var i) = omega arith
some_nodes (param k) = omega arith
some_nodes (con c ts) = omega arith
some_nodes (arrow a b) = omega arith

total_append : (b : Nodes) (xs ys : List TypeId) → total b (xs ++ ys) ≡ total b xs + total b ys
total_append b [] ys = omega arith
total_append b (x ∷ xs) ys = let h = total_append b xs ys in omega (arith, h)

total_reverse : (b : Nodes) (xs : List TypeId) → total b (reverse xs) ≡ total b xs
total_reverse b [] = refl
total_reverse b (x ∷ xs) =
    let h = total_reverse b xs in
    let e = ap (total b) (reverse-append (x ∷ []) xs) in
    let f = total_append b (reverse xs) (x ∷ []) in
    omega (arith, h, e, f)

left_append : (b : Nodes) (xs ys : List Task) → left b (xs ++ ys) ≡ left b xs + left b ys
left_append b [] ys = omega arith
left_append b (x ∷ xs) ys = let h = left_append b xs ys in omega (arith, h)

left_visits : (b : Nodes) (ids : List TypeId) → left b (map (λ t. Visit t) ids) ≡ 2 * total b ids
left_visits b [] = omega arith
left_visits b (t ∷ ts) = let h = left_visits b ts in omega (arith, h)

in_range_both : (b : Nodes) (xs ys : List Task) → AreInRange b xs → AreInRange b ys → AreInRange b (xs ++ ys)
in_range_both b [] ys h k = k
in_range_both b (x ∷ xs) ys h k = (h.0, in_range_both b xs ys h.1 k)

in_range_front : (b : Nodes) (xs ys : List Task) → AreInRange b (xs ++ ys) → AreInRange b xs
in_range_front b [] ys h = tt
in_range_front b (x ∷ xs) ys h = (h.0, in_range_front b xs ys h.1)

in_range_last : (b : Nodes) (xs : List Task) (x : Task) → AreInRange b (xs ++ x ∷ []) → InRange b x
in_range_last b [] x h = h.0
in_range_last b (y ∷ ys) x h = in_range_last b ys x h.1

AreBelow : ℕ → List TypeId → Type 0
AreBelow n [] = Unit {0}
AreBelow n (t ∷ ts) = (t.0 < n) × AreBelow n ts

below : (n : ℕ) (ids : List TypeId) → All (λ t. t < n) (map (λ t. t.0) ids) → AreBelow n ids
unfolding AreBelow
below n [] h = tt
below n (t ∷ ts) h = (All-head (λ t. t < n) t.0 (map (λ t. t.0) ts) h, below n ts (All-tail (λ t. t < n) t.0 (map (λ t. t.0) ts) h))

below_both : (n : ℕ) (xs ys : List TypeId) → AreBelow n xs → AreBelow n ys → AreBelow n (xs ++ ys)
unfolding AreBelow
below_both n [] ys h k = k
below_both n (x ∷ xs) ys h k = (h.0, below_both n xs ys h.1 k)

below_reverse : (n : ℕ) (xs : List TypeId) → AreBelow n xs → AreBelow n (reverse xs)
unfolding AreBelow
below_reverse n [] h = tt
below_reverse n (x ∷ xs) h = subst (AreBelow n) (sym (reverse-append (x ∷ []) xs)) (below_both n (reverse xs) (x ∷ []) (below_reverse n xs h.1) (h.0, tt))

visits_in_range : (b : Nodes) (n : ℕ) (ids : List TypeId) → n ≤ length b.types → AreBelow n ids → AreInRange b (map (λ t. Visit t) ids)
unfolding AreBelow
visits_in_range b n [] l h = tt
visits_in_range b n (t ∷ ts) l h = (let m = h.0 in omega (arith, m, l), visits_in_range b n ts l h.1)

sizes_are : (b now : Nodes) (n : ℕ) (ids : List TypeId) → Extends b now → n ≤ length b.types → AreBelow n ids → type_sizes (tys (map (type_tree now) (map (λ t. t.0) ids))) ≡ total b ids
unfolding AreBelow
sizes_are b now n [] x l h = refl
sizes_are b now n (t ∷ ts) x l h =
    let m = h.0 in
    let e = ap type_size (x.same_types t.0 (omega (arith, m, l))) in
    let f = sizes_are b now n ts x l h.1 in
    omega (arith, e, f)

module _ (b now : Nodes) (id : ℕ) (shape : TypeShape) (x : Extends b now) (h : id < length b.types) (older : TypeBelow id shape) (tree : type_node_tree now shape ≡ type_tree now id) where
  size_is : type_size (type_node_tree now shape) ≡ type_size (type_tree b id)
  size_is = ap type_size (tree ∙ x.same_types id h)

  con_parts : (k : ℕ) (ids : List TypeId) → shape ≡ con_node k (map (λ t. t.0) ids) → AreBelow id ids × (suc (total b ids) ≡ type_size (type_tree b id))
  con_parts k ids is =
      let p = below id ids (subst (TypeBelow id) is older) in
      let s = sizes_are b now id ids x (omega (arith, h)) p in
      let e = ap (λ s. type_size (type_node_tree now s)) is in
      let g = size_is in
      (p, omega (arith, s, e, g))

  arrow_parts : (f t : TypeId) → shape ≡ arrow_node f.0 t.0 → (f.0 < id) × (t.0 < id) × (suc (type_size (type_tree b f.0) + type_size (type_tree b t.0)) ≡ type_size (type_tree b id))
  arrow_parts f t is =
      let p = subst (TypeBelow id) is older in
      let l = p.0 in
      let m = p.1 in
      let c = ap type_size (x.same_types f.0 (omega (arith, h, l))) in
      let d = ap type_size (x.same_types t.0 (omega (arith, h, m))) in
      let e = ap (λ s. type_size (type_node_tree now s)) is in
      let g = size_is in
      (l, m, omega (arith, c, d, e, g))

  -- the types that are met
  pub con_met : (old new : List TypeId) (k : ℕ) (ids : List TypeId) → shape ≡ con_node k (map (λ t. t.0) ids) → new ≡ old ++ reverse ids → total b new < total b old + type_size (type_tree b id)
  con_met old new k ids is more =
      let p = con_parts k ids is in
      let q = p.1 in
      let e = ap (total b) more in
      let f = total_append b old (reverse ids) in
      let g = total_reverse b ids in
      omega (arith, q, e, f, g)

  pub arrow_met : (old mid new : List TypeId) (f t : TypeId) → shape ≡ arrow_node f.0 t.0 → mid ≡ old ++ t ∷ [] → new ≡ mid ++ f ∷ [] → total b new < total b old + type_size (type_tree b id)
  arrow_met old mid new f t is one two =
      let p = arrow_parts f t is in
      let q = p.2 in
      let d = ap (total b) one in
      let e = ap (total b) two in
      let g = total_append b old (t ∷ []) in
      let i = total_append b mid (f ∷ []) in
      omega (arith, q, d, e, g, i)

  -- the tasks that come of a visit
  pub con_visited : (old mid new : List Task) (k : ℕ) (t : TypeId) (ids : List TypeId) → t.0 < length b.types → shape ≡ con_node k (map (λ t. t.0) ids) → mid ≡ old ++ Build t ∷ [] → new ≡ mid ++ map (λ t. Visit t) (reverse ids) → AreInRange b old →
      AreInRange b new × (left b new < left b old + 2 * type_size (type_tree b id))
  con_visited old mid new k t ids here is one two in_range =
      let p = con_parts k ids is in
      let q = p.1 in
      let d = ap (left b) one in
      let e = ap (left b) two in
      let f = left_append b old (Build t ∷ []) in
      let g = left_append b mid (map (λ t. Visit t) (reverse ids)) in
      let i = left_visits b (reverse ids) in
      let j = total_reverse b ids in (
        subst (AreInRange b) (sym two) (in_range_both b mid (map (λ t. Visit t) (reverse ids)) (subst (AreInRange b) (sym one) (in_range_both b old (Build t ∷ []) in_range (here, tt))) (visits_in_range b id (reverse ids) (omega (arith, h)) (below_reverse id ids p.0))),
        omega (arith, q, d, e, f, g, i, j),
      )

  pub arrow_visited : (old one two new : List Task) (i f t : TypeId) → i.0 < length b.types → shape ≡ arrow_node f.0 t.0 → one ≡ old ++ Build i ∷ [] → two ≡ one ++ Visit t ∷ [] → new ≡ two ++ Visit f ∷ [] → AreInRange b old →
      AreInRange b new × (left b new < left b old + 2 * type_size (type_tree b id))
  arrow_visited old one two new i f t here is first second third in_range =
      let p = arrow_parts f t is in
      let l = p.0 in
      let m = p.1 in
      let q = p.2 in
      let c = ap (left b) first in
      let d = ap (left b) second in
      let e = ap (left b) third in
      let g = left_append b old (Build i ∷ []) in
      let j = left_append b one (Visit t ∷ []) in
      let k = left_append b two (Visit f ∷ []) in (
        subst (AreInRange b) (sym third) (in_range_both b two (Visit f ∷ []) (subst (AreInRange b) (sym second) (in_range_both b one (Visit t ∷ []) (subst (AreInRange b) (sym first) (in_range_both b old (Build i ∷ []) in_range (here, tt))) (omega (arith, h, m), tt))) (omega (arith, h, l), tt)),
        omega (arith, q, c, d, e, g, j, k),
      )

-- nothing more is to be done
pub same_visited : (b : Nodes) (id : TypeId) (old : List Task) → AreInRange b old → AreInRange b old × (left b old < left b old + 2 * type_size (type_tree b id.0))
same_visited b id old r = (r, let p = some_nodes (type_tree b id.0) in omega (arith, p))

pub same_met : (b : Nodes) (id : TypeId) (old : List TypeId) → total b old < total b old + type_size (type_tree b id.0)
same_met b id old = let p = some_nodes (type_tree b id.0) in omega (arith, p)

-- one task is taken, and others come
pub task_taken : (b : Nodes) (all old new : List Task) (t : Task) → all ≡ old ++ t ∷ [] → left b new < left b old + cost b t → left b new < left b all
task_taken b all old new t off less = let e = ap (left b) off in let f = left_append b old (t ∷ []) in omega (arith, e, f, less)

pub type_taken : (b : Nodes) (all old new : List TypeId) (t : TypeId) → all ≡ old ++ t ∷ [] → total b new < total b old + type_size (type_tree b t.0) → total b new < total b all
type_taken b all old new t off less = let e = ap (total b) off in let f = total_append b old (t ∷ []) in omega (arith, e, f, less)

pub rest_in_range : (b : Nodes) (all old : List Task) (t : Task) → all ≡ old ++ t ∷ [] → AreInRange b all → AreInRange b old × InRange b t
rest_in_range b all old t off r = let s = subst (AreInRange b) off r in (in_range_front b old (t ∷ []) s, in_range_last b old t s)

-- the type that is put for a variable
pub pick_within : (b : Nodes) (ts : List TypeId) (n : ℕ) (d : Ty) (e : TypeId) → n < length ts → type_tree b (get_or ts n e).0 ≡ picked b ts n d
pick_within b [] n d e h = absurd (omega (arith, h))
pick_within b (t ∷ ts) zero d e h = refl
pick_within b (t ∷ ts) (suc n) d e h = pick_within b ts n d e (omega (arith, h))

pub pick_past : (b : Nodes) (ts : List TypeId) (n : ℕ) (d : Ty) → length ts ≤ n → d ≡ picked b ts n d
pick_past b [] n d h = refl
pick_past b (t ∷ ts) zero d h = absurd (omega (arith, h))
pick_past b (t ∷ ts) (suc n) d h = pick_past b ts n d (omega (arith, h))

-- one more copy is kept, where the bank may have grown
pub one_more_copy : (b now later : Nodes) (args : List TypeId) (old new : ℕ → Option ℕ) (x v : ℕ) → ((y : ℕ) → new y ≡ (if nat_eq x y then Some v else old y)) → Extends now later →
    ((a y : ℕ) → old a ≡ Some y → (y < length now.types) × (type_tree now y ≡ instance (filled b args) (type_tree b a))) → v < length later.types → type_tree later v ≡ instance (filled b args) (type_tree b x) →
    (a y : ℕ) → new a ≡ Some y → (y < length later.types) × (type_tree later y ≡ instance (filled b args) (type_tree b a))
one_more_copy b now later args old new x v put grown kept here tree a y is = by (nat_eq x a) refl (sym (put a) ∙ is)
  where
    some_same : (p q : ℕ) → Some p ≡ Some q → p ≡ q
    some_same p q e = cc

    by : (t : Bool) → nat_eq x a ≡ t → (if t then Some v else old a) ≡ Some y → (y < length later.types) × (type_tree later y ≡ instance (filled b args) (type_tree b a))
    by true e f =
        let s : v ≡ y = some_same v y f in
        let q : x ≡ a = eqb-true x a e in
        (subst (λ n. n < length later.types) s here, subst (λ n. type_tree later n ≡ instance (filled b args) (type_tree b a)) s (subst (λ n. type_tree later v ≡ instance (filled b args) (type_tree b n)) q tree))
    by false e f =
        let k = kept a y f in
        let h = k.0 in
        let m = grown.more_types in
        (omega (arith, h, m), grown.same_types y h ∙ k.1)
