-- Sums over the order of copies, and that each copy is of a module.
use Rattle.std.proofs.Common.{◌≡◌, ℕ, suc, ◌+◌, ◌<◌, ◌≤◌, List, [], ◌∷◌, length, drop, get_or, sym, ap, subst, arith}
use Rattle.std.specs.Prelude.{All, Vec, sum_by}
use Rattle.std.specs.Global.{Global}
use Rattle.std.proofs.lemmas.List.{drop_all, length-map}
use Rattle.std.proofs.lemmas.List.Sums.{sum_by-drop_more}
use Rattle.std.proofs.lemmas.List.Elements.{All-nil, All-cons, All-append}
use Rattle.lp_copies.specs.Copies.{Copies, no_copy, copy}
use Rattle.lp_copies.specs.Trees.{lists_in}

-- one more copy
pub sum_more : (g : ℕ → ℕ) (order : List ℕ) (i at all more whole : ℕ) → i < length order → at ≡ get_or order i at → more ≡ all + g at → all + sum_by g
    (drop i order) ≡ whole → more + sum_by g (drop (i + 1) order) ≡ whole
sum_more g order i at all more whole h is m e =
    let s = sum_by-drop_more g order i at h in
    let k : g (get_or order i at) ≡ g at = ap g (sym is) in
    omega (arith, s, k, m, e)

pub sum_passed : (g : ℕ → ℕ) (order : List ℕ) (i at all most whole : ℕ) → i < length order → at ≡ get_or order i at → most < all + g at → all + sum_by g (drop i order) ≡ whole → most < whole
sum_passed g order i at all most whole h is m e =
    let s = sum_by-drop_more g order i at h in
    let k : g (get_or order i at) ≡ g at = ap g (sym is) in
    omega (arith, s, k, m, e)

pub sum_done : (g : ℕ → ℕ) (order : List ℕ) (i all whole : ℕ) → length order ≤ i → all + sum_by g (drop i order) ≡ whole → all ≡ whole
sum_done g order i all whole h e = let z : sum_by g (drop i order) ≡ 0 = ap (sum_by g) (drop_all i order h) in omega (arith, z, e)

copies_within : (uses : List (List ℕ)) (todo all : List ℕ) → All (λ out. All (λ m. m < length uses) out) uses → All (λ m. m < length uses) todo → Copies uses todo all → All (λ m. m < length uses) all
copies_within uses todo all w t no_copy = All-nil (λ m. m < length uses)
copies_within uses todo all w t (copy m rest below others x b o is) =
    let h : m < length uses = t 0 m (omega arith) in
    subst (All (λ k. k < length uses)) (sym is) (All-append (λ k. k < length uses) below (m ∷ others)
    (copies_within uses (get_or uses m []) below w (w m [] h) b)
    (All-cons (λ k. k < length uses) m others h (copies_within uses rest others w (λ k d l. t (suc k) d (omega (arith, l))) o)))

-- each copy is of a module
pub order_within : (uses : List (List ℕ)) (root : ℕ) (order : List ℕ) → All (λ out. All (λ m. m < length uses) out) uses → root < length uses → Copies
    uses (root ∷ []) order → All (λ m. m < length uses) order
order_within uses root order w h c = copies_within uses (root ∷ []) order w (All-cons (λ m. m < length uses) root [] h (All-nil (λ m. m < length uses))) c

pub order_inside : (outs : List (Vec ℕ Global)) (root : ℕ) (order : List ℕ) → All (λ out. All (λ m. m < length outs) out) (lists_in outs) → root <
    length outs → Copies (lists_in outs) (root ∷ []) order → All (λ m. m < length outs) order
order_inside outs root order w h c =
    let l : length (lists_in outs) ≡ length outs = length-map outs (λ o. o.items) in
    subst (λ k. All (λ m. m < k) order) l (order_within (lists_in outs) root order (subst (λ k. All (λ out. All (λ m. m < k) out) (lists_in outs)) (sym l) w) (subst (λ k. root < k) (sym l) h) c)
