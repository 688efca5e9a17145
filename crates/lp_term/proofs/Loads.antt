-- Between contractions the open terms have less and less to be done.
use Rattle.std.proofs.Common.{◌≡◌, ℕ, zero, suc, ◌+◌, ◌-◌, ◌*◌, ◌<◌, ◌≤◌, List, [], ◌∷◌, ◌++◌, length, map, reverse, refl, sym, ap, ◌∙◌, arith, Some, Vec, Global}
use Rattle.std.specs.Prelude.{All}
use Rattle.std.proofs.lemmas.List.{reverse-append}
use Rattle.std.proofs.lemmas.List.Elements.{All-head, All-tail}
use Rattle.lp_calculus.specs.Term.{Term, index, atom, abs, app, apply}
use Rattle.lp_calculus.specs.Convert.{head_step, leftmost_step, steps}
use Rattle.lp_term.specs.Nodes.{Nodes, tree, Extends}
use Rattle.lp_term.specs.Walk.{trees, size, sizes}
use Rattle.lp_term.specs.Spine.{abstractions, whole}
use Rattle.lp_term.specs.Frame.{IsFrame, load}
use Rattle.lp_term.specs.declared.node.TermId.{TermId}
use Rattle.lp_term.specs.declared.normal.Frame.{Frame}
use Rattle.lp_term.proofs.Moves.{with_left, with_done, innermost}

pub size_some : (t : Term) → 0 < size t
size_some (index i) = omega arith
size_some (atom a) = omega arith
size_some (abs b) = omega arith
size_some (app t u) = omega arith

sum : List Term → ℕ
sum [] = 0
sum (t ∷ ts) = size t + sum ts

sum_append : (xs ys : List Term) → sum (xs ++ ys) ≡ sum xs + sum ys
unfolding sum
sum_append [] ys = omega arith
sum_append (x ∷ xs) ys = omega (arith, sum_append xs ys)

sum_reverse : (xs : List Term) → sum (reverse xs) ≡ sum xs
unfolding sum
sum_reverse [] = refl
sum_reverse (x ∷ xs) = omega (arith, ap sum (reverse-append (x ∷ []) xs), sum_append (reverse xs) (x ∷ []), sum_reverse xs)

sum_sizes : (b : Nodes) (ts : List TermId) → sum (map (λ t. tree b t.0) ts) ≡ sizes b ts
unfolding sum
sum_sizes b [] = refl
sum_sizes b (t ∷ ts) = omega (arith, sum_sizes b ts)

size_apply : (h : Term) (xs : List Term) → sum xs + size h ≤ size (apply h xs)
unfolding sum
size_apply h [] = omega arith
size_apply h (x ∷ xs) = omega (arith, size_apply (app h x) xs)

size_abstractions : (d : ℕ) (t : Term) → size t ≤ size (abstractions d t)
size_abstractions zero t = omega arith
size_abstractions (suc d) t = omega (arith, size_abstractions d (abs t))

-- a term that is opened without a step
pub opened_load : (b : Nodes) (t : Term) (d n : ℕ) (head : TermId) (args : List TermId) → n ≡ 0 → steps head_step n t ≡ Some (whole b d head args) → 1 + 2 * sizes b args < 2 * size t
opened_load b t d n head args z e =
    let k : Some t ≡ Some (whole b d head args) = ap (λ m. steps head_step m t) (sym z) ∙ e in
    let q : t ≡ whole b d head args = cc in
    omega (
      arith,
      ap size q,
      size_abstractions d (apply (tree b head.0) (trees b args)),
      size_apply (tree b head.0) (trees b args),
      sum_reverse (map (λ t. tree b t.0) args),
      sum_sizes b args,
      size_some (tree b head.0),
    )

load_append : (b : Nodes) (fs gs : List Frame) → load b (fs ++ gs) ≡ load b fs + load b gs
load_append b [] gs = omega arith
load_append b (f ∷ fs) gs = omega (arith, load_append b fs gs)

sizes_append : (b : Nodes) (xs ys : List TermId) → sizes b (xs ++ ys) ≡ sizes b xs + sizes b ys
sizes_append b [] ys = omega arith
sizes_append b (x ∷ xs) ys = omega (arith, sizes_append b xs ys)

sizes_stay : (b c : Nodes) → Extends b c → (ts : List TermId) → All (λ t. t.0 < length b.terms) ts → sizes c ts ≡ sizes b ts
sizes_stay b c x [] a = refl
sizes_stay b c x (t ∷ ts) a = λ j. size (x.same_terms t.0 (a 0 t (omega arith)) j) + sizes_stay b c x ts (All-tail (λ t. t.0 < length b.terms) t ts a) j

load_stays : (b c : Nodes) → Extends b c → (fs : List Frame) → All (IsFrame b) fs → load c fs ≡ load b fs
load_stays b c x [] a = refl
load_stays b c x (f ∷ fs) a = omega (arith, sizes_stay b c x f.left.items (All-head (IsFrame b) f fs a).left, load_stays b c x fs (All-tail (IsFrame b) f fs a))

load_last : (b : Nodes) (all fs : List Frame) (f : Frame) → all ≡ fs ++ f ∷ [] → load b all ≡ load b fs + (1 + 2 * sizes b f.left.items)
load_last b all fs f e = omega (arith, ap (load b) e, load_append b fs (f ∷ []))

-- an argument that is normal already
pub skipped_load : (b : Nodes) (all fs after : List Frame) (f : Frame) (v w : Vec TermId Global) (arg : TermId) → all ≡ fs ++ f ∷ [] → f.left.items ≡ v.items ++ arg ∷ [] →
    after ≡ fs ++ with_done (with_left f v) w ∷ [] → load b after < load b all
skipped_load b all fs after f v w arg e q k =
    omega (
      arith,
      load_last b all fs f e,
      load_last b after fs (with_done (with_left f v) w) k,
      ap (sizes b) q,
      sizes_append b v.items (arg ∷ []),
      size_some (tree b arg.0),
    )

-- an open term that is closed
pub shut_load : (b c : Nodes) (all fs gs after : List Frame) (f outer : Frame) (w : Vec TermId Global) → Extends b c → All (IsFrame b) all → all ≡ fs ++ f ∷ [] → fs ≡ gs ++ outer ∷ [] →
    after ≡ gs ++ with_done outer w ∷ [] → load c after < load b all
shut_load b c all fs gs after f outer w x a e g k =
    let i = innermost b all fs f e a in
    let j = innermost b fs gs outer g i.0 in
    omega (arith, load_last b all fs f e, load_last b fs gs outer g, load_last c after gs (with_done outer w) k, load_stays b c x gs j.0, sizes_stay b c x outer.left.items j.1.left)

-- an argument that is opened
pub deeper_load : (b c : Nodes) (all fs mid after : List Frame) (f inner : Frame) (v : Vec TermId Global) (arg : TermId) → Extends b c → All (IsFrame b) mid → all ≡ fs ++ f ∷ [] → f.left.items ≡ v.items ++ arg ∷ [] →
    mid ≡ fs ++ with_left f v ∷ [] → after ≡ mid ++ inner ∷ [] → 1 + 2 * sizes c inner.left.items < 2 * size (tree b arg.0) → load c after < load b all
deeper_load b c all fs mid after f inner v arg x a e q m k l =
    omega (
      arith,
      l,
      load_last b all fs f e,
      load_last b mid fs (with_left f v) m,
      load_last c after mid inner k,
      load_stays b c x mid a,
      ap (sizes b) q,
      sizes_append b v.items (arg ∷ []),
    )

-- moves without a step
pub on : (limit left now : ℕ) (t s r : Term) → left ≡ limit → t ≡ s → steps leftmost_step (left - now) s ≡ Some r → steps leftmost_step (limit - now) t ≡ Some r
on limit left now t s r l e h = ap (λ n. steps leftmost_step (n - now) t) (sym l) ∙ ap (steps leftmost_step (left - now)) e ∙ h

pub still : (limit left now : ℕ) (t s r : Term) → left ≡ limit → now ≡ left → t ≡ s → steps leftmost_step (left - now) s ≡ Some r → t ≡ r
still limit left now t s r l m e h =
    let z : left - now ≡ 0 = omega arith in
    let k : Some s ≡ Some r = ap (λ n. steps leftmost_step n s) (sym z) ∙ h in
    let q : s ≡ r = cc in
    e ∙ q
