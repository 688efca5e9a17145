-- Whether a type of a bank ends in `o`.
use Rattle.std.proofs.Common.{◌≡◌, ◌∙◌, ◌<◌, ◌≤◌, ◌+◌, ℕ, zero, suc, length, Bool, true, false, Ok, Err, ap, refl, sym, subst, arith, inl, inr}
use Rattle.std.specs.Prelude.{◌⊎◌, nat_eq, Result}
use Rattle.std.proofs.lemmas.Bool.{ne_eqb}
use Rattle.lp_calculus.specs.Types.{Ty, Tys, con}
use Rattle.lp_model.specs.Flatten.{ends_in_o}
use Rattle.lp_term.specs.declared.node.TypeId.{TypeId}
use Rattle.lp_term.specs.Node.{TypeShape, var_node, param_node, con_node, arrow_node, TypeBelow}
use Rattle.lp_term.specs.Nodes.{Nodes, type_tree, type_node_tree}
use Rattle.lp_verify.specs.inner.FirstNumbers.{IsEndOf}

-- the type that a function gives is older, and ends alike
pub ends_on : (b : Nodes) (i : ℕ) (n : TypeShape) (r : Result TypeId Bool) (to : TypeId) → r ≡ Ok to → IsEndOf n r → TypeBelow i n → TypeBelow (length b.types) n
    → type_node_tree b n ≡ type_tree b i → (ends_in_o (type_tree b to.0) ≡ ends_in_o (type_tree b i)) × (to.0 < i) × (to.0 < length b.types)
ends_on b i n r to e h = by n (subst (IsEndOf n) e h)
  where
    by : (n : TypeShape) → IsEndOf n (Ok to) → TypeBelow i n → TypeBelow (length b.types) n → type_node_tree b n ≡ type_tree b i
        → (ends_in_o (type_tree b to.0) ≡ ends_in_o (type_tree b i)) × (to.0 < i) × (to.0 < length b.types)
    by (arrow_node x y) f older within tree =
        let p = older.1 in
        let q = within.1 in
        (ap (λ k. ends_in_o (type_tree b k)) f ∙ ap ends_in_o tree, omega (arith, f, p), omega (arith, f, q))
    by (con_node c ids) f older within tree = absurd f
    by (var_node k) f older within tree = absurd f
    by (param_node k) f older within tree = absurd f

-- another type says so itself
pub ends_here : (b : Nodes) (i : ℕ) (n : TypeShape) (r : Result TypeId Bool) (is : Bool) → r ≡ Err is → IsEndOf n r → type_node_tree b n ≡ type_tree b i → is ≡ ends_in_o (type_tree b i)
ends_here b i n r is e h = by n (subst (IsEndOf n) e h)
  where
    by_kind : (c : ℕ) (ts : Tys) → nat_eq c 0 ≡ ends_in_o (con c ts)
    by_kind zero ts = refl
    by_kind (suc c) ts = ne_eqb (suc c) 0 (λ e. omega (arith, e))

    by : (n : TypeShape) → IsEndOf n (Err is) → type_node_tree b n ≡ type_tree b i → is ≡ ends_in_o (type_tree b i)
    by (arrow_node x y) f tree = absurd f
    by (con_node c ids) f tree = f ∙ by_kind c _ ∙ ap ends_in_o tree
    by (var_node k) f tree = f ∙ ap ends_in_o tree
    by (param_node k) f tree = f ∙ ap ends_in_o tree

-- so far
abbrev pub IsOnWay : Nodes → (end counter : ℕ) → Type 0
IsOnWay b e n = (n ≡ 0) ⊎ (e + n ≤ length b.types)

pub further : (b : Nodes) (e n t : ℕ) → t < e → t < length b.types → IsOnWay b e n → IsOnWay b t (n + 1)
further b e n t l m (inl f) = inr (omega (arith, f, m))
further b e n t l m (inr f) = inr (omega (arith, f, l))

pub all_gone : (b : Nodes) (e n t : ℕ) → length b.types ≤ n → t < e → t < length b.types → IsOnWay b e n → ⊥
all_gone b e n t h l m (inl f) = omega (arith, f, h, m)
all_gone b e n t h l m (inr f) = omega (arith, f, h, l)
