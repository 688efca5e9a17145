-- Trees of integers, strings and operations: they are normal, and have the value that the definition gives them. What an operation on parts reduces to.
use Rattle.std.proofs.Common.{◌≡◌, ℕ, List, refl, ap, ◌∙◌, subst, if◌then◌else◌, Option, Some, None}
use Rattle.lp_calculus.specs.Types.{Ty}
use Rattle.lp_calculus.specs.Term.{Term, atom, app, constant}
use Rattle.lp_calculus.specs.Convert.{Anywhere, BetaEta, by_beta, beta, BetaStep, here, in_abs, in_head, in_argument, done, then_step, Reduces, ReducesTo, option_term, or_else, leftmost_step}
use Rattle.lp_calculus.specs.Normal.{IsNormal, IsBetaNormal}
use Rattle.lp_standard.specs.Connectives.{two}
use Rattle.lp_model.specs.declared.ending.Fault.TheVariants.{NotClosed}
use Rattle.lp_model.specs.Values.{Value, Is, Faults, both, single, value, HasValue}
use Rattle.lp_susp.proofs.Sizes.{normal_only}
use Rattle.lp_arith.specs.inner.Frames.{Valued, of_number, of_text, of_two, of_one}

pub value_of : {t : Term} {v : Value} → Valued t v → value t ≡ Is v
value_of (of_number z) = refl
value_of (of_text s) = refl
value_of (of_two c ts {a} {b} {x} {y} t p q e) = ap (λ o. if o then both c (value a) (value b) else Faults NotClosed) t ∙ ap (λ o. both c o (value b)) (value_of p) ∙ ap (both c (Is x)) (value_of q) ∙ e
value_of (of_one c ts {a} t p e) = ap (λ o. if o then single c (value a) else Faults NotClosed) t ∙ ap (single c) (value_of p) ∙ e

pub valued_normal : {t : Term} {v : Value} → Valued t v → IsNormal t
valued_normal (of_number z) s (here x) = elim x [ ]
valued_normal (of_text b) s (here x) = elim x [ ]
valued_normal (of_two k ts t p q e) s (here x) = elim x [ ]
valued_normal (of_two k ts t p q e) s (in_head u (here x)) = elim x [ ]
valued_normal (of_two k ts t p q e) s (in_head u (in_head w (here x))) = elim x [ ]
valued_normal (of_two k ts t p q e) s (in_head u (in_argument w x)) = valued_normal p _ x
valued_normal (of_two k ts t p q e) s (in_argument u x) = valued_normal q _ x
valued_normal (of_one k ts t p e) s (here x) = elim x [ ]
valued_normal (of_one k ts t p e) s (in_head u (here x)) = elim x [ ]
valued_normal (of_one k ts t p e) s (in_argument u x) = valued_normal p _ x

pub valued_settled : {t : Term} {v : Value} → Valued t v → leftmost_step t ≡ None
valued_settled (of_number z) = refl
valued_settled (of_text s) = refl
valued_settled (of_two c ts {a} {b} t p q e) =
    ap (λ o. or_else (option_term (λ s. app s b) (option_term (app (atom (constant c ts))) o)) (option_term (app (app (atom (constant c ts)) a)) (leftmost_step b))) (valued_settled p) ∙
    ap (option_term (app (app (atom (constant c ts)) a))) (valued_settled q)
valued_settled (of_one c ts t p e) = ap (option_term (app (atom (constant c ts)))) (valued_settled p)

-- beta steps are steps
beta_any : {t s : Term} → BetaStep t s → Anywhere BetaEta t s
beta_any (here (beta b u)) = here (by_beta b u)
beta_any (in_abs p) = in_abs (beta_any p)
beta_any (in_head u p) = in_head u (beta_any p)
beta_any (in_argument t p) = in_argument t (beta_any p)

pub reduces_to : {t s : Term} → Reduces t s → ReducesTo t s
reduces_to (done t) = done t
reduces_to (then_step p ps) = then_step (beta_any p) (reduces_to ps)

-- what reduces to a tree has its value
pub has_value : {t x : Term} {v : Value} → Reduces t x → Valued x v → HasValue t v
has_value {x = x} r p = record { form = x; is_form = (reduces_to r, valued_normal p); is = value_of p }

-- what an operation on parts reduces to

one_after : {c : ℕ} {ts : List Ty} {x m s : Term} → BetaStep (app (atom (constant c ts)) x) m → ((v : Term) → m ≡ app (atom (constant c ts)) v → (y : Term) × (s ≡ app (atom (constant c ts)) y) × Reduces v y) → (y : Term) × (s ≡ app (atom (constant c ts)) y) × Reduces x y
one_after (here q) h = elim q [ ]
one_after (in_head u (here q)) h = elim q [ ]
one_after (in_argument t {v = v} q) h = let k = h v refl in (k.0, k.1, then_step q k.2)

pub one_reduces : {w s : Term} → Reduces w s → (c : ℕ) (ts : List Ty) (x : Term) → w ≡ app (atom (constant c ts)) x → (y : Term) × (s ≡ app (atom (constant c ts)) y) × Reduces x y
one_reduces (done t) c ts x e = (x, e, done x)
one_reduces (then_step {s = m} p ps) c ts x e = one_after (subst (λ z. BetaStep z m) e p) (λ v q. one_reduces ps c ts v q)

two_after : {c : ℕ} {ts : List Ty} {a b m s : Term} → BetaStep (two c ts a b) m → ((u v : Term) → m ≡ two c ts u v → (x : Term) × (y : Term) × (s ≡ two c ts x y) × Reduces u x × Reduces v y) → (x : Term) × (y : Term) × (s ≡ two c ts x y) × Reduces a x × Reduces b y
two_after (here q) h = elim q [ ]
two_after (in_head u (here q)) h = elim q [ ]
two_after (in_head u (in_head w (here q))) h = elim q [ ]
two_after {b = b} (in_head u (in_argument t {v = v} q)) h = let k = h v b refl in (k.0, k.1, k.2, then_step q k.3, k.4)
two_after {a = a} (in_argument t {v = v} q) h = let k = h a v refl in (k.0, k.1, k.2, k.3, then_step q k.4)

pub two_reduces : {w s : Term} → Reduces w s → (c : ℕ) (ts : List Ty) (a b : Term) → w ≡ two c ts a b → (x : Term) × (y : Term) × (s ≡ two c ts x y) × Reduces a x × Reduces b y
two_reduces (done t) c ts a b e = (a, b, e, done a, done b)
two_reduces (then_step {s = m} p ps) c ts a b e = two_after (subst (λ z. BetaStep z m) e p) (λ u v q. two_reduces ps c ts u v q)

none_of : (f : Term → Term) (o : Option Term) → option_term f o ≡ None → o ≡ None
none_of f None e = refl
none_of f (Some x) e = absurd (cc)

none_first : (o p : Option Term) → or_else o p ≡ None → o ≡ None
none_first None p e = refl
none_first (Some x) p e = absurd (cc)

none_second : (o p : Option Term) → or_else o p ≡ None → p ≡ None
none_second None p e = e
none_second (Some x) p e = absurd (cc)

-- the parts of what is normal are normal
pub one_normal : (c : ℕ) (ts : List Ty) (x : Term) → IsBetaNormal (app (atom (constant c ts)) x) → IsBetaNormal x
one_normal c ts x e = none_of (app (atom (constant c ts))) (leftmost_step x) e

pub left_normal : (c : ℕ) (ts : List Ty) (a b : Term) → IsBetaNormal (two c ts a b) → IsBetaNormal a
left_normal c ts a b e =
    none_of (app (atom (constant c ts))) (leftmost_step a)
    (none_of (λ s. app s b) (leftmost_step (app (atom (constant c ts)) a)) (none_first (option_term (λ s. app s b) (leftmost_step (app (atom (constant c ts)) a))) (option_term (app (app (atom (constant c ts)) a)) (leftmost_step b)) e))

pub right_normal : (c : ℕ) (ts : List Ty) (a b : Term) → IsBetaNormal (two c ts a b) → IsBetaNormal b
right_normal c ts a b e =
    none_of (app (app (atom (constant c ts)) a)) (leftmost_step b)
    (none_second (option_term (λ s. app s b) (leftmost_step (app (atom (constant c ts)) a))) (option_term (app (app (atom (constant c ts)) a)) (leftmost_step b)) e)

-- a tree stays as it is
pub tree_only : {x y : Term} {v : Value} → Valued x v → Reduces x y → y ≡ x
tree_only p r = normal_only r (valued_settled p)
