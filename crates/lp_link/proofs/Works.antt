-- The work list of a comparison gets smaller.
use Rattle.std.proofs.Common.{◌≡◌, ℕ, ◌+◌, ◌*◌, ◌<◌, ◌≤◌, List, [], ◌∷◌, ◌++◌, map, sym, ap, ◌∙◌, arith, Bor}
use Rattle.std.specs.Prelude.{sum_by}
use Rattle.std.proofs.lemmas.List.Sums.{sum_by_push}
use Rattle.lp_calculus.specs.Types.{Ty, var, param as type_param, con, arrow, tys}
use Rattle.lp_term.specs.Nodes.{Nodes, type_tree}
use Rattle.lp_term.specs.declared.node.TypeId.{TypeId}
use Rattle.lp_term.proofs.Walks.{map_map}
use Rattle.lp_link.specs.declared.differ.Pair.{Pair}
use Rattle.lp_link.specs.declared.differ.Pair.TheVariants.{Parts}
use Rattle.lp_link.specs.Sizes.{type_size, types_size, pair_weighs, pair_work}

pub some_type : (T : Ty) → 0 < type_size T
some_type (var i) = omega arith
some_type (type_param k) = omega arith
some_type (con c ts) = omega arith
some_type (arrow a b) = omega arith

pub one_more : {A : Type 0} (f : A → ℕ) (old new : List A) (x : A) → new ≡ old ++ x ∷ [] → sum_by f new ≡ sum_by f old + f x
one_more f old new x e = ap (sum_by f) e ∙ sum_by_push f old x

pub two_more : {A : Type 0} (f : A → ℕ) (old mid new : List A) (x y : A) → mid ≡ old ++ x ∷ [] → new ≡ mid ++ y ∷ [] → sum_by f new ≡ sum_by f old + f x + f y
two_more f old mid new x y m e = omega (arith, one_more f old mid x m, one_more f mid new y e)

pub parts_work : (b : Nodes) (old new : List Pair) (ts us : Bor (List TypeId)) (k : ℕ) (t : Ty) → con k
    (tys (map (type_tree b) (map (λ t. t.0) ts.now))) ≡ t → new ≡ old ++ Parts ts us ∷ [] → pair_work b new + 1 ≤ pair_work b old + 3 * type_size t
parts_work b old new ts us k t e p =
    let w = one_more (pair_weighs b) old new (Parts ts us) p in
    let s : type_size t ≡ 1 + types_size (tys (map (λ t. type_tree b t.0) ts.now)) = ap type_size (sym e) ∙ ap (λ l. 1 + types_size (tys l)) (map_map (type_tree b) (λ t. t.0) ts.now) in
    omega (arith, w, s)
