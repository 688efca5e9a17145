-- The tasks of settling weigh less at each turn.
use Rattle.std.proofs.Common.{◌≡◌, ℕ, zero, suc, ◌+◌, ◌-◌, ◌*◌, ◌<◌, ◌≤◌, List, [], ◌∷◌, ◌++◌, length, reverse, refl, ap, sym, ◌∙◌, arith, subst as transport}
use Rattle.std.proofs.lemmas.List.{reverse-append, append_assoc}
use Rattle.std.proofs.Math.Nat.{mul-le-mul_right, suc-mul}
use Rattle.lp_term.specs.declared.node.TermId.{TermId}
use Rattle.lp_pattern.specs.declared.look.Looked.{Looked}
use Rattle.lp_pattern.specs.declared.opened.Opened.{Opened}
use Rattle.lp_pattern.specs.declared.settle.Application.{Application}
use Rattle.lp_pattern.specs.declared.settle.Task.{Task}
use Rattle.lp_pattern.specs.inner.Falling.{weight, tasks_weight, room_behind, tasks_left}
use Rattle.lp_pattern.specs.Settling.{IsPushed, visit_tasks}

weight_positive : (n : ℕ) → 1 ≤ weight n
weight_positive zero = omega arith
weight_positive (suc n) = let h = weight_positive n in omega (arith, h)

weight_append : (r : ℕ) (xs ys : List Task) → tasks_weight r (xs ++ ys) ≡ tasks_weight r xs + tasks_weight (room_behind r xs) ys
weight_append r [] ys = omega arith
weight_append r (Task.Visit t o ∷ xs) ys = let h = weight_append r xs ys in omega (arith, h)
weight_append r (Task.Abstract old body ∷ xs) ys = let h = weight_append (r - 1) xs ys in omega (arith, h)
weight_append r (Task.Apply a ∷ xs) ys = let h = weight_append (r - 1) xs ys in omega (arith, h)

room_append : (r : ℕ) (xs ys : List Task) → room_behind r (xs ++ ys) ≡ room_behind (room_behind r xs) ys
room_append r [] ys = refl
room_append r (Task.Visit t o ∷ xs) ys = room_append r xs ys
room_append r (Task.Abstract old body ∷ xs) ys = room_append (r - 1) xs ys
room_append r (Task.Apply a ∷ xs) ys = room_append (r - 1) xs ys

room_enough : (r : ℕ) (xs : List Task) → r ≤ room_behind r xs + length xs
room_enough r [] = omega arith
room_enough r (Task.Visit t o ∷ xs) = let h = room_enough r xs in omega (arith, h)
room_enough r (Task.Abstract old body ∷ xs) = let h = room_enough (r - 1) xs in omega (arith, h)
room_enough r (Task.Apply a ∷ xs) = let h = room_enough (r - 1) xs in omega (arith, h)

room_visits : (r : ℕ) (o : Opened) (ts : List TermId) → room_behind r (reverse (visit_tasks o ts)) ≡ r
room_visits r o [] = refl
room_visits r o (t ∷ ts) =
    let vs = visit_tasks o ts in
    ap (room_behind r) (reverse-append (Task.Visit t o ∷ []) vs) ∙ room_append r (reverse vs) (Task.Visit t o ∷ []) ∙ room_visits r o ts

weight_visits : (r : ℕ) (o : Opened) (ts : List TermId) → tasks_weight r (reverse (visit_tasks o ts)) ≡ length ts * weight r
weight_visits r o [] = omega arith
weight_visits r o (t ∷ ts) =
    let vs = visit_tasks o ts in
    let h = weight_visits r o ts in
    let e = ap (tasks_weight r) (reverse-append (Task.Visit t o ∷ []) vs) ∙ weight_append r (reverse vs) (Task.Visit t o ∷ []) in
    let w : tasks_weight (room_behind r (reverse vs)) (Task.Visit t o ∷ []) ≡ weight r + 0 = ap (λ x. weight x + 0) (room_visits r o ts) in
    let m : suc (length ts) * weight r ≡ length ts * weight r + weight r = suc-mul (length ts) (weight r) in
    omega (arith, h, e, w, m)

-- a weight by the room that is left
weight_of : (r : ℕ) → 0 < r → weight r ≡ 36893488147419103232 * weight (r - 1)
weight_of zero h = absurd (omega (arith, h))
weight_of (suc n) h = let e : n ≡ suc n - 1 = omega arith in ap (λ x. 36893488147419103232 * weight x) e

-- what stands before a visit, and the visit
visit_weight : (ts : List Task) (t : TermId) (o : Opened) → tasks_left (ts ++ Task.Visit t o ∷ []) ≡ tasks_left ts + weight (room_behind 18446744073709551616 ts)
visit_weight ts t o = let e = weight_append 18446744073709551616 ts (Task.Visit t o ∷ []) in omega (arith, e)

room_there : (ts : List Task) → length ts < 18446744073709551616 → 0 < room_behind 18446744073709551616 ts
room_there ts h = let e = room_enough 18446744073709551616 ts in omega (arith, h, e)

-- a visit that is done
pub visit_done : (ts : List Task) (t : TermId) (o : Opened) → tasks_left ts < tasks_left (ts ++ Task.Visit t o ∷ [])
visit_done ts t o =
    let e = visit_weight ts t o in
    let p = weight_positive (room_behind 18446744073709551616 ts) in
    omega (arith, e, p)

-- a body, and then its abstraction
pub body_left : (ts us vs : List Task) (old body next : TermId) (o q : Opened) (t : TermId) → length ts < 18446744073709551616 → us ≡ ts ++ Task.Abstract old body ∷ [] → vs ≡ us ++ Task.Visit next q ∷ [] →
    tasks_left vs < tasks_left (ts ++ Task.Visit t o ∷ [])
body_left ts us vs old body next o q t h e f =
    let r = room_behind 18446744073709551616 ts in
    let a = visit_weight ts t o in
    let b = weight_of r (room_there ts h) in
    let p = weight_positive (r - 1) in
    let m : tasks_left us ≡ tasks_left ts + 1 = ap tasks_left e ∙ weight_append 18446744073709551616 ts (Task.Abstract old body ∷ []) in
    let n : room_behind 18446744073709551616 us ≡ r - 1 = ap (room_behind 18446744073709551616) e ∙ room_append 18446744073709551616 ts (Task.Abstract old body ∷ []) in
    let g : tasks_left vs ≡ tasks_left us + weight (r - 1) = ap tasks_left f ∙ visit_weight us next q ∙ ap (λ x. tasks_left us + weight x) n in
    omega (arith, a, b, p, m, g)

-- the parts of a node, and then the node
pub parts_left : (r : Looked) (head : TermId) (o q : Opened) (old new : List Task) (t : TermId) → IsPushed r head o old new → length old < 18446744073709551616 → length r.arguments.items < 18446744073709551616 →
    tasks_left new < tasks_left (old ++ Task.Visit t q ∷ [])
parts_left r head o q old new t p h k =
    let room = room_behind 18446744073709551616 old in
    let ids = r.arguments.items in
    let us = old ++ Task.Apply p.0 ∷ [] in
    let w = weight (room - 1) in
    let a = visit_weight old t q in
    let b = weight_of room (room_there old h) in
    let s = weight_positive (room - 1) in
    let m : tasks_left us ≡ tasks_left old + 1 = weight_append 18446744073709551616 old (Task.Apply p.0 ∷ []) in
    let n : room_behind 18446744073709551616 us ≡ room - 1 = room_append 18446744073709551616 old (Task.Apply p.0 ∷ []) in
    let g : tasks_left new ≡ tasks_left us + length ids * w =
    ap tasks_left p.5 ∙ weight_append 18446744073709551616 us (reverse (visit_tasks o ids)) ∙ ap (λ x. tasks_left us + tasks_weight x (reverse (visit_tasks o ids))) n ∙ ap (λ x. tasks_left us + x) (weight_visits (room - 1) o ids) in
    let l : length ids * w ≤ 18446744073709551616 * w = mul-le-mul_right w (omega (arith, k)) in
    omega (arith, a, b, s, m, g, l)

-- a node that was put together
pub abstract_done : (ts : List Task) (old body : TermId) → tasks_left ts < tasks_left (ts ++ Task.Abstract old body ∷ [])
abstract_done ts old body = let e = weight_append 18446744073709551616 ts (Task.Abstract old body ∷ []) in omega (arith, e)

pub apply_done : (ts : List Task) (a : Application) → tasks_left ts < tasks_left (ts ++ Task.Apply a ∷ [])
apply_done ts a = let e = weight_append 18446744073709551616 ts (Task.Apply a ∷ []) in omega (arith, e)

-- another term weighs as much
pub visit_as : (ts : List Task) (t u : TermId) (o : Opened) (n : ℕ) → n < tasks_left (ts ++ Task.Visit u o ∷ []) → n < tasks_left (ts ++ Task.Visit t o ∷ [])
visit_as ts t u o n h =
    let e = visit_weight ts t o in
    let f = visit_weight ts u o in
    omega (arith, e, f, h)
