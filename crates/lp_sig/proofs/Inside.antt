-- Types in the bank that stand for those of any numbers.
use Rattle.std.proofs.Common.{◌≡◌, ℕ, zero, suc, ◌<◌, ◌≤◌, List, [], ◌∷◌, ◌++◌, length, map, refl, sym, ap, subst, ◌∙◌, arith}
use Rattle.std.specs.Prelude.{All}
use Rattle.std.proofs.lemmas.List.{map-append}
use Rattle.std.proofs.lemmas.List.Elements.{All-nil, All-head, All-tail, All-push, All-weaker}
use mathlib.Core.Path.{fun_ext}
use Rattle.lp_lemmas.proofs.Lists.{cons_tail}
use Rattle.lp_calculus.specs.Types.{Ty, var, instance}
use Rattle.lp_term.specs.Nodes.{Nodes, Extends, type_tree}
use Rattle.lp_term.specs.declared.node.TypeId.{TypeId}
use Rattle.lp_term.proofs.Trees.{type_tree-past}
use Rattle.lp_sig.specs.Copying.{picked, filled}
use Rattle.lp_sig.specs.inner.Inside.{AreSame}

-- a number of the bank, and one past it
pub here_inside : (b now : Nodes) (count i : ℕ) → Extends b now → count ≡ length b.types → i < count → (i < length now.types) × (type_tree now i ≡ type_tree b i)
here_inside b now count i x e l = let m = x.more_types in (omega (arith, l, m, e), x.same_types i (omega (arith, l, e)))

pub here_past : (b now : Nodes) (count i j : ℕ) → count ≡ length b.types → count ≤ i → (j < length now.types) × (type_tree now j ≡ var 0) → (j < length now.types) × (type_tree now j ≡ type_tree b i)
here_past b now count i j e l h = (h.0, h.1 ∙ sym (type_tree-past b i (omega (arith, l, e))))

pub same_none : (b now : Nodes) (here : List TypeId) → here ≡ [] → AreSame b now [] here
same_none b now here e = subst (AreSame b now []) (sym e) (record { within = All-nil (λ i. i < length now.types); trees = refl })

same_first : (x y : Ty) (xs ys : List Ty) → x ∷ xs ≡ y ∷ ys → x ≡ y
same_first x y xs ys e = cc

trees_later : (mid now : Nodes) (ids : List TypeId) → Extends mid now → All (λ i. i < length mid.types) (map (λ t. t.0) ids) → map (type_tree now) (map (λ t. t.0) ids) ≡ map (type_tree mid) (map (λ t. t.0) ids)
trees_later mid now [] x all = refl
trees_later mid now (t ∷ ts) x all =
    let e = x.same_types t.0 (All-head (λ i. i < length mid.types) t.0 (map (λ t. t.0) ts) all) in
    let f = trees_later mid now ts x (All-tail (λ i. i < length mid.types) t.0 (map (λ t. t.0) ts) all) in
    λ i. e i ∷ f i

pub same_more : (b mid now : Nodes) (ids here new : List TypeId) (id one : TypeId) → new ≡ here ++ one ∷ [] → Extends mid now → (one.0 < length now.types) × (type_tree now one.0 ≡ type_tree b id.0) → AreSame b mid ids here → AreSame b now (ids ++ id ∷ []) new
same_more b mid now ids here new id one is x h s = subst (AreSame b now (ids ++ id ∷ [])) (sym is) (record {
  within = subst (All (λ i. i < length now.types)) (sym (map-append (λ t. t.0) here (one ∷ [])))
      (All-push (λ i. i < length now.types) (map (λ t. t.0) here) one.0 (All-weaker (λ i. i < length mid.types) (λ i. i < length now.types) (λ i l. let m = x.more_types in omega (arith, l, m)) (map (λ t. t.0) here) s.within) h.0);
  trees = ap (map (type_tree now)) (map-append (λ t. t.0) here (one ∷ [])) ∙ map-append (type_tree now) (map (λ t. t.0) here) (one.0 ∷ []) ∙
      (λ i. (trees_later mid now here x s.within ∙ s.trees) i ++ h.1 i ∷ []) ∙ sym (map-append (type_tree b) (map (λ t. t.0) ids) (id.0 ∷ [])) ∙ ap (map (type_tree b)) (sym (map-append (λ t. t.0) ids (id ∷ [])));
})

picked_same : (b c : Nodes) (xs ys : List TypeId) (n : ℕ) (d : Ty) → map (type_tree b) (map (λ t. t.0) xs) ≡ map (type_tree c) (map (λ t. t.0) ys) → picked b xs n d ≡ picked c ys n d
picked_same b c [] [] n d e = refl
picked_same b c [] (y ∷ ys) n d e = absurd (cc)
picked_same b c (x ∷ xs) [] n d e = absurd (cc)
picked_same b c (x ∷ xs) (y ∷ ys) zero d e = same_first (type_tree b x.0) (type_tree c y.0) (map (type_tree b) (map (λ t. t.0) xs)) (map (type_tree c) (map (λ t. t.0) ys)) e
picked_same b c (x ∷ xs) (y ∷ ys) (suc n) d e = picked_same b c xs ys n d (cons_tail (type_tree b x.0) (type_tree c y.0) (map (type_tree b) (map (λ t. t.0) xs)) (map (type_tree c) (map (λ t. t.0) ys)) e)

-- a type on the same types
pub instance_same : (b c : Nodes) (xs ys : List TypeId) (t u : Ty) → AreSame c b ys xs → t ≡ u → instance (filled b xs) t ≡ instance (filled c ys) u
instance_same b c xs ys t u s e = ap (λ θ. instance θ t) (fun_ext (λ n. picked_same b c xs ys n (var n) s.trees)) ∙ ap (instance (filled c ys)) e
