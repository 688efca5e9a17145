-- The tasks of an evaluation have the values that they need, and each step leaves less to do.
use Rattle.std.proofs.Common.{◌≡◌, ℕ, suc, ◌+◌, ◌-◌, ◌*◌, ◌≤◌, List, [], ◌∷◌, ◌++◌, length, reverse, refl, sym, ap, ◌∙◌, subst, arith, Option, Some, None}
use Rattle.lp_lemmas.proofs.Lists.{length_push_suc, reverse_pushed}
use Rattle.lp_plain.specs.declared.arithmetic.Expression.{Expression}
use Rattle.lp_plain.specs.declared.arithmetic.Expression.TheVariants as expression
use Rattle.lp_plain.specs.declared.arithmetic.Outcome.{Outcome}
use Rattle.lp_plain.specs.declared.arithmetic.Outcome.TheVariants as code
use Rattle.lp_plain.specs.declared.arithmetic.Step.{Step}
use Rattle.lp_plain.specs.declared.arithmetic.Task.{Task}
use Rattle.lp_plain.specs.declared.arithmetic.Task.TheVariants as task
use Rattle.lp_plain.specs.declared.arithmetic.Value.{Value}
use Rattle.lp_plain.specs.inner.Evaluating.{GoesServed, IsCounted, IsKept, IsPut, IsStep, Serves, cost_of}

pushed_length : {A : Type 0} (all xs : List A) (x : A) → all ≡ xs ++ x ∷ [] → length all ≡ suc (length xs)
pushed_length all xs x e = ap length e ∙ length_push_suc xs x

-- what is put of an expression
pub put_serves : (e : Expression) (o : Option Outcome) (ts us : List Task) (vs ws : List Value) → IsPut e o ts us vs ws → o ≡ None → Serves
    (reverse ts) (length vs + 1) → Serves (reverse us) (length ws)
put_serves (expression.Leaf v) o ts us vs ws h n s =
    let l = pushed_length ws vs v h.2 in
    let k : length vs + 1 ≡ length ws = omega (arith, l) in
    subst (λ x. Serves (reverse x) (length ws)) (sym h.1) (subst (Serves (reverse ts)) k s)
put_serves (expression.Two c l r) o ts us vs ws h n s =
    let one = ts ++ task.Two c ∷ [] in
    let two = one ++ task.Visit r ∷ [] in
    let all : reverse us ≡ task.Visit l ∷ task.Visit r ∷ task.Two c ∷ reverse ts =
    reverse_pushed us two (task.Visit l) h.1 ∙ ap (λ x. task.Visit l ∷ x) (reverse_pushed two one (task.Visit r) refl ∙ ap (λ x. task.Visit r ∷ x) (reverse_pushed one ts (task.Two c) refl)) in
    let k : length vs + 1 ≡ length vs + 1 + 1 - 1 = omega arith in
    subst (λ x. Serves x (length ws)) (sym all) (subst (λ x. Serves (task.Visit l ∷ task.Visit r ∷ task.Two c ∷ reverse ts) (length x)) (sym h.2) (omega arith, subst (Serves (reverse ts)) k s))
put_serves (expression.One c a) o ts us vs ws h n s =
    let one = ts ++ task.One c ∷ [] in
    let all : reverse us ≡ task.Visit a ∷ task.One c ∷ reverse ts = reverse_pushed us one (task.Visit a) h.1 ∙ ap (λ x. task.Visit a ∷ x) (reverse_pushed one ts (task.One c) refl) in
    subst (λ x. Serves x (length ws)) (sym all) (subst (λ x. Serves (task.Visit a ∷ task.One c ∷ reverse ts) (length x)) (sym h.2) (omega arith, s))
put_serves expression.Other o ts us vs ws h n s = absurd (cc)

pub put_more : (e : Expression) (o : Option Outcome) (ts us : List Task) (vs ws : List Value) → IsPut e o ts us vs ws → o ≡ None → length us ≤ length ts + 3
put_more (expression.Leaf v) o ts us vs ws h n = let k = ap length h.1 in omega (arith, k)
put_more (expression.Two c l r) o ts us vs ws h n =
    let one = ts ++ task.Two c ∷ [] in
    let two = one ++ task.Visit r ∷ [] in
    let x = length_push_suc ts (task.Two c) in
    let y = length_push_suc one (task.Visit r) in
    let z = pushed_length us two (task.Visit l) h.1 in
    omega (arith, x, y, z)
put_more (expression.One c a) o ts us vs ws h n =
    let x = length_push_suc ts (task.One c) in
    let z = pushed_length us (ts ++ task.One c ∷ []) (task.Visit a) h.1 in
    omega (arith, x, z)
put_more expression.Other o ts us vs ws h n = absurd (cc)

-- what is kept of an operation
pub kept_one : (o : Outcome) (e : Option Outcome) (vs ws : List Value) → IsKept o e vs ws → e ≡ None → length ws ≡ suc (length vs)
kept_one (code.Is v) e vs ws h n = pushed_length ws vs v h.1
kept_one (code.Faults f) e vs ws h n = absurd (cc)
kept_one code.Deep e vs ws h n = absurd (cc)

-- an operation was done on the last two values, or on the last one
pub two_left : (o : Outcome) (e : Option Outcome) (vs us ys ws : List Value) (x y : Value) → vs ≡ us ++ x ∷ [] → us ≡ ys ++ y ∷ [] → IsKept o e ys ws → e ≡ None → length ws + 1 ≡ length vs
two_left o e vs us ys ws x y p q h n =
    let a = pushed_length vs us x p in
    let b = pushed_length us ys y q in
    let c = kept_one o e ys ws h n in
    omega (arith, a, b, c)

pub one_left : (o : Outcome) (e : Option Outcome) (vs ys ws : List Value) (x : Value) → vs ≡ ys ++ x ∷ [] → IsKept o e ys ws → e ≡ None → length ws ≡ length vs
one_left o e vs ys ws x p h n =
    let a = pushed_length vs ys x p in
    let c = kept_one o e ys ws h n in
    omega (arith, a, c)

pub two_serves : (ts : List Task) (n k : ℕ) → k + 1 ≡ n → Serves ts (n - 1) → Serves ts k
two_serves ts n k e s = let q : n - 1 ≡ k = omega (arith, e) in subst (Serves ts) q s

-- a step by a task
pub step_served : (x : Task) (ts us : List Task) (ws : List Value) (i k : ℕ) (end : Option Outcome) (s : Step) → IsStep end k s → IsCounted x i
    (Some k) → (end ≡ None → Serves (reverse us) (length ws)) → (end ≡ None → length us ≤ length ts + 3 * cost_of x) →
    GoesServed s i (ts ++ x ∷ []) us ws
step_served x ts us ws i k None s e c g l =
    let a = c.0 in
    let b = c.1 in
    let m = l refl in
    let p = length_push_suc ts x in
    let w = cost_of x in
    subst (λ z. GoesServed z i (ts ++ x ∷ []) us ws) (sym e) (g refl, omega (arith, a, b, m, p))
step_served x ts us ws i k (Some o) s e c g l = subst (λ z. GoesServed z i (ts ++ x ∷ []) us ws) (sym e) tt
