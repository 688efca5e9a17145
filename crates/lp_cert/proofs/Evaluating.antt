-- What the operations on values give.
use Rattle.std.proofs.Common.{◌≡◌, ℕ, zero, suc, ◌+◌, ◌-◌, ◌<◌, ◌≤◌, ◌⊎◌, inl, inr, nat_eq, Bool, List, [], ◌∷◌, ◌++◌, length, take, drop, reverse, refl, sym, ap, subst, ◌∙◌, arith, Option, Some, None, true, false, ◌&&◌}
use Rattle.std.specs.Prelude.{ℤ, pos, negsuc, neg_ℤ, ◌+ℤ◌, ◌-ℤ◌, ◌*ℤ◌, int_le, int_lt, int_div, int_rem, FitsSigned, SomeIff, MatchOption, Result, Ok, Err, IfOk, IfSome, nat_le, nat_lt, if◌then◌else◌, slice_range}
use lib.Signed.{mag_rem}
use Rattle.std.specs.Int.{w64, CanDivide, IsNonZero}
use Rattle.std.proofs.lemmas.Bool.Decides.{nat_tests}
use Rattle.std.proofs.lemmas.List.{take-append-le, drop-append-le, length-drop, length-append, append_assoc}
use Rattle.std.proofs.Math.Seq.{take-add, take-append_seam, drop-append_seam}
use Rattle.std.proofs.Math.Path.{transport}
use Rattle.lp_lemmas.proofs.Lists.{reverse_pushed}
use Rattle.lp_base.specs.declared.memory.Memory.{Memory}
use Rattle.lp_calculus.specs.Types.{Ty}
use Rattle.lp_calculus.specs.Term.{Term, index, atom, abs, app, constant, integer, text, eigen, logic, param}
use Rattle.lp_standard.specs.Connectives.{two}
use Rattle.lp_standard.specs.Numbers as standard
use Rattle.lp_term.specs.Nodes.{Nodes, tree}
use Rattle.lp_term.specs.declared.node.TermId.{TermId}
use Rattle.lp_model.specs.declared.ending.Fault.{Fault}
use Rattle.lp_model.specs.declared.ending.Fault.TheVariants.{Overflow, ZeroDivisor, NotClosed}
use Rattle.lp_model.specs.Values.{Value, Number, Bytes, Outcome, Is, Faults, number, bound, is_zero, divided, remainder, binary, unary, both, single, is_two_place, is_one_place, value}
use Rattle.lp_cert.specs.Same.{types_in}
use Rattle.lp_cert.specs.Shape.{IsOne, IsTwo}
use Rattle.lp_cert.specs.declared.shape.One.{One}
use Rattle.lp_cert.specs.declared.shape.Two.{Two}
use Rattle.lp_cert.specs.declared.value.Span.{Span}
use Rattle.lp_cert.specs.declared.value.Value as code
use Rattle.lp_cert.specs.declared.value.Value.TheVariants as code_of
use Rattle.lp_cert.specs.declared.value.State.{State}
use Rattle.lp_cert.specs.declared.value.State.TheVariants as state
use Rattle.lp_cert.specs.declared.value.Around.{Around}
use Rattle.lp_cert.specs.declared.value.Around.TheVariants as around
use Rattle.lp_cert.specs.inner.Evaluated.{text_in, value_in, Begins, state_from, Gives, HasNone, IsApplication, within, Leads}

-- integers of 64 bits

within_bound : (z : ℤ) → FitsSigned w64 z → (int_le (neg_ℤ (pos bound)) z && int_lt z (pos bound)) ≡ true
within_bound (pos n) h = let e : nat_lt n bound ≡ true = (let f = h.sfits in grind (arith, nat_tests, f)) in e
within_bound (negsuc n) h = let e : nat_le n 9223372036854775807 ≡ true = (let f = h.sfits in grind (arith, nat_tests, f)) in rw e refl

fits : (z : ℤ) → FitsSigned w64 z → number z ≡ Is (Number z)
fits z h = ap (λ t. if t then Is (Number z) else Faults Overflow) (within_bound z h)

not_zero : (z : ℤ) → IsNonZero w64 z → is_zero z ≡ false
not_zero (pos n) h =
    let e : nat_le n 0 ≡ false = grind (arith, nat_tests, h) in
    let f : nat_le 0 n ≡ true = grind (arith, nat_tests) in
    rw (f, e) refl
not_zero (negsuc n) h = refl

divides : (a b : ℤ) → CanDivide w64 a b → divided a b ≡ Is (Number (int_div a b))
divides a b h = ap (λ t. if t then Faults ZeroDivisor else number (int_div a b)) (not_zero b h.0) ∙ fits (int_div a b) h.1

remains : (a b : ℤ) → CanDivide w64 a b → remainder a b ≡ number (int_rem a b)
remains a b h =
    ap (λ t. if t then Faults ZeroDivisor else (elim (number (int_div a b)) as (λ x. Outcome) [ Is v ↦ number (int_rem a b) | Faults f ↦ Faults f ])) (not_zero b h.0) ∙
    ap (λ (o : Outcome). elim o as (λ x. Outcome) [ Is v ↦ number (int_rem a b) | Faults f ↦ Faults f ]) (fits (int_div a b) h.1)

-- and where there is none

below_or : (m n : ℕ) → (m < n) ⊎ (n ≤ m)
below_or m n = grind (arith)

unfits : (z : ℤ) → (FitsSigned w64 z → ⊥) → number z ≡ Faults Overflow
unfits (pos n) h = elim (below_or n bound) [ inl l ↦ absurd (h (record { sfits = omega (arith, l) })) | inr l ↦ (let e : nat_lt n bound ≡ false = grind (arith, nat_tests, l) in rw e refl) ]
unfits (negsuc n) h = elim (below_or n bound) [ inl l ↦ absurd (h (record { sfits = omega (arith, l) })) | inr l ↦ (let e : nat_le n 9223372036854775807 ≡ false = grind (arith, nat_tests, l) in rw e refl) ]

nonzero : (z : ℤ) → FitsSigned w64 z → is_zero z ≡ false → IsNonZero w64 z
nonzero (pos zero) f e = absurd (cc)
nonzero (pos (suc n)) f e = let s = f.sfits in omega (arith, s)
nonzero (negsuc n) f e = let s = f.sfits in omega (arith, s)

undivided : (a b : ℤ) → FitsSigned w64 b → (CanDivide w64 a b → ⊥) → HasNone (divided a b)
undivided a b f h = go (is_zero b) refl
  where
    go : (t : Bool) → is_zero b ≡ t → HasNone (if t then Faults ZeroDivisor else number (int_div a b))
    go true e = (ZeroDivisor, refl)
    go false e = (Overflow, unfits (int_div a b) (λ k. h (nonzero b f e, k)))

unremained : (a b : ℤ) → FitsSigned w64 b → (CanDivide w64 a b → ⊥) → HasNone (remainder a b)
unremained a b f h = go (is_zero b) refl
  where
    go : (t : Bool) → is_zero b ≡ t → HasNone (if t then Faults ZeroDivisor else (elim (number (int_div a b)) as (λ x. Outcome) [ Is v ↦ number (int_rem a b) | Faults f ↦ Faults f ]))
    go true e = (ZeroDivisor, refl)
    go false e = (Overflow, ap (λ (o : Outcome). elim o as (λ x. Outcome) [ Is v ↦ number (int_rem a b) | Faults f ↦ Faults f ]) (unfits (int_div a b) (λ k. h (nonzero b f e, k))))

-- a number that is there is the outcome
fits_gives : (end : List ℕ) (r : Option ℤ) (z : ℤ) → SomeIff r (FitsSigned w64 z) z → Gives end (state_from r) (number z)
fits_gives end None z h = (Overflow, unfits z h)
fits_gives end (Some x) z h = fits z h.0 ∙ ap (λ y. Is (Number y)) (sym h.1)

divides_gives : (end : List ℕ) (r : Option ℤ) (a b : ℤ) → FitsSigned w64 b → SomeIff r (CanDivide w64 a b) (int_div a b) → Gives end (state_from r) (divided a b)
divides_gives end None a b q h = undivided a b q h
divides_gives end (Some x) a b q h = divides a b h.0 ∙ ap (λ y. Is (Number y)) (sym h.1)

rem_fits : (a b : ℤ) → FitsSigned w64 a → FitsSigned w64 (int_rem a b)
rem_fits a b h = record { sfits = let m = mag_rem a b in let f = h.sfits in omega (arith, m, f) }

remains_gives : (end : List ℕ) (r : Option ℤ) (a b : ℤ) → FitsSigned w64 b → SomeIff r (CanDivide w64 a b) (int_rem a b) → FitsSigned w64 (int_rem a b) → Gives end (state_from r) (remainder a b)
remains_gives end None a b q h f = unremained a b q h
remains_gives end (Some x) a b q h f = remains a b h.0 ∙ fits (int_rem a b) f ∙ ap (λ y. Is (Number y)) (sym h.1)

-- x and y are a and b, read again from their bits
module _ (end : List ℕ) (c : ℕ) (a b x y : ℤ) (ea : x ≡ a) (eb : y ≡ b) (r : Option ℤ) (s : State) (is : s ≡ state_from r) where
  as_state : (o : Outcome) → Gives end (state_from r) o → Gives end s o
  as_state o g = subst (λ x. Gives end x o) (sym is) g

  of_two : (k : ℕ) → c ≡ k → Gives end s (binary k (Number x) (Number y)) → Gives end s (binary c (Number a) (Number b))
  of_two k e g = transport (λ j. Gives end s (binary (sym e j) (Number (ea j)) (Number (eb j)))) g

  pub by_sum : c ≡ standard.Add → SomeIff r (FitsSigned w64 (x +ℤ y)) (x +ℤ y) → Gives end s (binary c (Number a) (Number b))
  by_sum e h = of_two standard.Add e (as_state (number (x +ℤ y)) (fits_gives end r (x +ℤ y) h))

  pub by_difference : c ≡ standard.Subtract → SomeIff r (FitsSigned w64 (x -ℤ y)) (x -ℤ y) → Gives end s (binary c (Number a) (Number b))
  by_difference e h = of_two standard.Subtract e (as_state (number (x -ℤ y)) (fits_gives end r (x -ℤ y) h))

  pub by_product : c ≡ standard.Multiply → SomeIff r (FitsSigned w64 (x *ℤ y)) (x *ℤ y) → Gives end s (binary c (Number a) (Number b))
  by_product e h = of_two standard.Multiply e (as_state (number (x *ℤ y)) (fits_gives end r (x *ℤ y) h))

  pub by_quotient : c ≡ standard.Divide → FitsSigned w64 b → SomeIff r (CanDivide w64 x y) (int_div x y) → Gives end s (binary c (Number a) (Number b))
  by_quotient e q h = of_two standard.Divide e (as_state (divided x y) (divides_gives end r x y (subst (FitsSigned w64) (sym eb) q) h))

  pub by_remainder : c ≡ standard.Remainder → FitsSigned w64 b → SomeIff r (CanDivide w64 x y) (int_rem x y) → FitsSigned w64 a → Gives end s (binary c (Number a) (Number b))
  by_remainder e q h f = of_two standard.Remainder e (as_state (remainder x y) (remains_gives end r x y (subst (FitsSigned w64) (sym eb) q) h (rem_fits x y (subst (FitsSigned w64) (sym ea) f))))

  pub by_negation : c ≡ standard.Negate → SomeIff r (FitsSigned w64 (neg_ℤ x)) (neg_ℤ x) → Gives end s (unary c (Number a))
  by_negation e h = transport (λ j. Gives end s (unary (sym e j) (Number (ea j)))) (as_state (number (neg_ℤ x)) (fits_gives end r (neg_ℤ x) h))

pub by_size : (end : List ℕ) (c : ℕ) (bytes : List ℕ) (z : ℤ) (n : ℕ) → c ≡ standard.Size → n ≡ length bytes → FitsSigned w64 (pos n) × (z ≡ pos n) → Gives end (state.Known (code_of.Number z)) (unary c (Bytes bytes))
by_size end c bytes z n e m h =
    subst (λ x. Gives end (state.Known (code_of.Number z)) (unary x (Bytes bytes))) (sym e)
    (ap (λ k. number (pos k)) (sym m) ∙ fits (pos n) h.0 ∙ ap (λ y. Is (Number y)) (sym h.1))

pub by_joining : (end : List ℕ) (c : ℕ) (s t u : Span) → c ≡ standard.Concatenate → text_in end u ≡ text_in end s ++ text_in end t → Gives end (state.Known (code_of.Text u)) (binary c (Bytes (text_in end s)) (Bytes (text_in end t)))
by_joining end c s t u e j = subst (λ x. Gives end (state.Known (code_of.Text u)) (binary x (Bytes (text_in end s)) (Bytes (text_in end t)))) (sym e) (ap (λ bs. Is (Bytes bs)) (sym j))

-- strings of the texts

nothing : (n : ℕ) (xs : List ℕ) → xs ≡ [] → drop n xs ≡ []
nothing zero xs e = e
nothing (suc n) [] e = refl
nothing (suc n) (x ∷ xs) e = absurd (cc)

drop_twice : (xs : List ℕ) (m n k : ℕ) → k ≡ m + n → drop n (drop m xs) ≡ drop k xs
drop_twice xs zero n k e = ap (λ j. drop j xs) (let z : n ≡ k = omega (arith, e) in z)
drop_twice [] (suc m) n k e = nothing n [] refl ∙ sym (nothing k [] refl)
drop_twice (x ∷ xs) (suc m) n zero e = absurd (omega (arith, e))
drop_twice (x ∷ xs) (suc m) n (suc k) e = drop_twice xs m n k (omega (arith, e))

slices_join : (xs : List ℕ) (a m c : ℕ) → a ≤ m → m ≤ c → slice_range xs a c ≡ slice_range xs a m ++ slice_range xs m c
slices_join xs a m c l k =
    let e : c - a ≡ (m - a) + (c - m) = omega (arith, l, k) in
    ap (λ n. take n (drop a xs)) e ∙ take-add (m - a) (c - m) (drop a xs) ∙ ap (λ ys. take (m - a) (drop a xs) ++ take (c - m) ys) (drop_twice xs a (m - a) m (omega (arith, l)))

found_later : (bs more end : List ℕ) (a c : ℕ) → a ≤ c → c ≤ length bs → end ≡ bs ++ more → slice_range end a c ≡ slice_range bs a c
found_later bs more end a c l k e =
    ap (λ xs. slice_range xs a c) e ∙ ap (take (c - a)) (drop-append-le a bs more (omega (arith, l, k))) ∙
    take-append-le (c - a) (drop a bs) more (let q = length-drop a bs in omega (arith, q, l, k))

put_there : (bs xs more all end : List ℕ) (n : ℕ) → all ≡ bs ++ xs → n ≡ length all → end ≡ all ++ more → slice_range end (length bs) n ≡ xs
put_there bs xs more all end n e m f =
    ap (λ ys. slice_range ys (length bs) n) (f ∙ ap (λ ys. ys ++ more) e ∙ append_assoc bs xs more) ∙
    ap (take (n - length bs)) (drop-append_seam bs (xs ++ more)) ∙
    ap (λ k. take k (xs ++ more)) (let q = ap length e in let r = length-append bs xs in omega (arith, m, q, r)) ∙
    take-append_seam xs more

pub text_found : {B : Type 0} (now : B → List ℕ) (A : Type 0) (all bs : List ℕ) (s : Span) (r : Option B) → all ≡ bs →
    MatchOption r A (λ x. (s.from ≤ s.to) × (s.to ≤ length all) × (now x ≡ slice_range all s.from s.to) × (length (now x) + s.from ≡ s.to)) → IfSome r (λ x. (end : List ℕ) → Begins bs end → text_in end s ≡ now x)
text_found now A all bs s None e h = tt
text_found now A all bs s (Some x) e h = λ end g. found_later all g.0 end s.from s.to h.0 h.1 (g.1 ∙ ap (λ ys. ys ++ g.0) (sym e)) ∙ sym h.2

pub text_put : (bs xs all : List ℕ) (s : Span) → s.from ≡ length bs → s.to ≡ length all → all ≡ bs ++ xs → (end : List ℕ) → Begins all end → text_in end s ≡ xs
text_put bs xs all s f t e end g = ap (λ n. slice_range end n s.to) f ∙ put_there bs xs g.0 all end s.to e t g.1

pub begins_more : (bs xs all end : List ℕ) → all ≡ bs ++ xs → Begins all end → Begins bs end
begins_more bs xs all end e g = (xs ++ g.0, g.1 ∙ ap (λ ys. ys ++ g.0) e ∙ append_assoc bs xs g.0)

pub begins_itself : (bs : List ℕ) → Begins bs bs
begins_itself bs = ([], sym (append_nil bs))
  where
    append_nil : (xs : List ℕ) → xs ++ [] ≡ xs
    append_nil [] = refl
    append_nil (x ∷ xs) = ap (λ ys. x ∷ ys) (append_nil xs)

pub texts_follow : (end : List ℕ) (s t : Span) → (s.from ≤ s.to) × (s.to ≡ t.from) × (t.from ≤ t.to) → text_in end (record { from = s.from; to = t.to }) ≡ text_in end s ++ text_in end t
texts_follow end s t h =
    let k = h.1 in let m = h.2 in
    slices_join end s.from s.to t.to h.0 (omega (arith, k, m)) ∙ ap (λ n. slice_range end s.from s.to ++ slice_range end n t.to) h.1

-- an operation whose operands are looked at

pub enters_two : (b : Nodes) (end : List ℕ) (t : Term) (o : Outcome) (y : Two) (old new : List Around) → is_two_place y.constant ≡ true → new ≡ old ++ around.Left y.constant y.right ∷ [] → IsTwo b t y →
    o ≡ within b end (reverse old) (value t) → o ≡ within b end (reverse new) (value (tree b y.left.0))
enters_two b end t o y old new two e i h =
    h ∙ ap (within b end (reverse old)) (ap value i ∙ ap (λ t. if t then both y.constant (value (tree b y.left.0)) (value (tree b y.right.0)) else Faults NotClosed) two) ∙
    ap (λ fs. within b end fs (value (tree b y.left.0))) (sym (reverse_pushed new old (around.Left y.constant y.right) e))

pub enters_one : (b : Nodes) (end : List ℕ) (t : Term) (o : Outcome) (y : One) (old new : List Around) → is_one_place y.constant ≡ true → new ≡ old ++ around.One y.constant ∷ [] → IsOne b t y →
    o ≡ within b end (reverse old) (value t) → o ≡ within b end (reverse new) (value (tree b y.on.0))
enters_one b end t o y old new one e i h =
    h ∙ ap (within b end (reverse old)) (ap value i ∙ ap (λ t. if t then single y.constant (value (tree b y.on.0)) else Faults NotClosed) one) ∙
    ap (λ fs. within b end fs (value (tree b y.on.0))) (sym (reverse_pushed new old (around.One y.constant) e))

-- where a part has no value, the whole has none
fault_passes : (b : Nodes) (end : List ℕ) (fs : List Around) (f : Fault) → within b end fs (Faults f) ≡ Faults f
fault_passes b end [] f = refl
fault_passes b end (around.One c ∷ fs) f = fault_passes b end fs f
fault_passes b end (around.Left c t ∷ fs) f = fault_passes b end fs f
fault_passes b end (around.Right c v ∷ fs) f = fault_passes b end fs f

pub none_leads : (b : Nodes) (end : List ℕ) (fs : List Around) (o p : Outcome) → HasNone p → o ≡ within b end fs p → HasNone o
none_leads b end fs o p n e = (n.0, e ∙ ap (within b end fs) n.1 ∙ fault_passes b end fs n.0)

pub two_refused : (b : Nodes) (t : Term) (y : Two) → is_two_place y.constant ≡ false → IsTwo b t y → HasNone (value t)
two_refused b t y e i = (NotClosed, ap value i ∙ ap (λ t. if t then both y.constant (value (tree b y.left.0)) (value (tree b y.right.0)) else Faults NotClosed) e)

pub one_refused : (b : Nodes) (t : Term) (y : One) → is_one_place y.constant ≡ false → IsOne b t y → HasNone (value t)
one_refused b t y e i = (NotClosed, ap value i ∙ ap (λ t. if t then single y.constant (value (tree b y.on.0)) else Faults NotClosed) e)

-- an application without an operation at its top
applied_twice : (t a u : Term) → ((n : ℕ) (ts : List Ty) → t ≡ atom (constant n ts) → ⊥) → value (app (app t a) u) ≡ Faults NotClosed
applied_twice (index i) a u h = refl
applied_twice (atom (constant n ts)) a u h = absurd (h n ts refl)
applied_twice (atom (integer z)) a u h = refl
applied_twice (atom (text s)) a u h = refl
applied_twice (atom (eigen k)) a u h = refl
applied_twice (atom (logic x l)) a u h = refl
applied_twice (atom (param k T)) a u h = refl
applied_twice (abs b) a u h = refl
applied_twice (app t v) a u h = refl

applied_once : (t u : Term) → ((n : ℕ) (ts : List Ty) → t ≡ atom (constant n ts) → ⊥) → ((n : ℕ) (ts : List Ty) (v : Term) → t ≡ app (atom (constant n ts)) v → ⊥) → value (app t u) ≡ Faults NotClosed
applied_once (index i) u h k = refl
applied_once (atom (constant n ts)) u h k = absurd (h n ts refl)
applied_once (atom (integer z)) u h k = refl
applied_once (atom (text s)) u h k = refl
applied_once (atom (eigen x)) u h k = refl
applied_once (atom (logic x l)) u h k = refl
applied_once (atom (param x T)) u h k = refl
applied_once (abs b) u h k = refl
applied_once (app t v) u h k = applied_twice t v u (λ n ts e. k n ts v (ap (λ x. app x v) e))

pub application_refused : (t : Term) → IsApplication t → ((n : ℕ) (ts : List Ty) (u v : Term) → t ≡ two n ts u v → ⊥) → ((n : ℕ) (ts : List Ty) (u : Term) → t ≡ app (atom (constant n ts)) u → ⊥) → HasNone (value t)
application_refused (index i) a h k = absurd a
application_refused (atom x) a h k = absurd a
application_refused (abs b) a h k = absurd a
application_refused (app t u) a h k = (NotClosed, applied_once t u (λ n ts e. k n ts u (ap (λ x. app x u) e)) (λ n ts v e. h n ts v u (ap (λ x. app x u) e)))

-- operations on other values than theirs
differs : (c k : ℕ) → (c ≡ k → ⊥) → nat_eq c k ≡ false
differs c k h = grind (arith, nat_tests, h)

pub no_numbers : (c : ℕ) (a b : ℤ) → (c ≡ standard.Add → ⊥) → (c ≡ standard.Subtract → ⊥) → (c ≡ standard.Multiply → ⊥) → (c ≡ standard.Divide → ⊥) → (c ≡ standard.Remainder → ⊥) → HasNone (binary c (Number a) (Number b))
no_numbers c a b h k l m n = (NotClosed, rw (differs c standard.Add h, differs c standard.Subtract k, differs c standard.Multiply l, differs c standard.Divide m, differs c standard.Remainder n) refl)

pub no_bytes : (c : ℕ) (x y : List ℕ) → (c ≡ standard.Concatenate → ⊥) → HasNone (binary c (Bytes x) (Bytes y))
no_bytes c x y h = (NotClosed, rw (differs c standard.Concatenate h) refl)

pub no_negation : (c : ℕ) (a : ℤ) → (c ≡ standard.Negate → ⊥) → HasNone (unary c (Number a))
no_negation c a h = (NotClosed, rw (differs c standard.Negate h) refl)

pub no_size : (c : ℕ) (x : List ℕ) → (c ≡ standard.Size → ⊥) → HasNone (unary c (Bytes x))
no_size c x h = (NotClosed, rw (differs c standard.Size h) refl)

pub size_overflows : (c : ℕ) (x : List ℕ) → c ≡ standard.Size → (FitsSigned w64 (pos (length x)) → ⊥) → HasNone (unary c (Bytes x))
size_overflows c x e h = subst (λ k. HasNone (unary k (Bytes x))) (sym e) (Overflow, unfits (pos (length x)) h)

-- the outcome of a part is what it leads to
pub given_leads : (b : Nodes) (end : List ℕ) (s : State) (fs : List Around) (o p : Outcome) → Gives end s p → o ≡ within b end fs p → Leads b end s fs o
given_leads b end (state.Visit t) fs o p g e = absurd g
given_leads b end (state.Known v) fs o p g e = e ∙ ap (within b end fs) g
given_leads b end state.None fs o p g e = none_leads b end fs o p g e

-- operands that are looked at
pub text_left_gives : (new : List ℕ) (r : Result State Memory) (c : ℕ) (l v : code.Value) (x : Span) → l ≡ code_of.Text x → IfOk r (λ s. (end : List ℕ) → Begins new end → Gives end s (binary c (Bytes (text_in end x)) (value_in end v))) →
    IfOk r (λ s. (end : List ℕ) → Begins new end → Gives end s (binary c (value_in end l) (value_in end v)))
text_left_gives new (Err z) c l v x e g = tt
text_left_gives new (Ok s) c l v x e g = λ end h. subst (λ u. Gives end s (binary c (value_in end u) (value_in end v))) (sym e) (g end h)

pub text_right_gives : (new : List ℕ) (r : Result State Memory) (c : ℕ) (v : code.Value) (x y : Span) → v ≡ code_of.Text y → IfOk r (λ s. (end : List ℕ) → Begins new end → Gives end s (binary c (Bytes (text_in end x)) (Bytes (text_in end y)))) →
    IfOk r (λ s. (end : List ℕ) → Begins new end → Gives end s (binary c (Bytes (text_in end x)) (value_in end v)))
text_right_gives new (Err z) c v x y e g = tt
text_right_gives new (Ok s) c v x y e g = λ end h. subst (λ u. Gives end s (binary c (Bytes (text_in end x)) (value_in end u))) (sym e) (g end h)

pub number_is : (end : List ℕ) (v : code.Value) (x a : ℤ) → x ≡ a → v ≡ code_of.Number a → Number x ≡ value_in end v
number_is end v x a e f = ap Number e ∙ ap (value_in end) (sym f)

-- the innermost of what stands around a part, and the part's value
leaves_one : (b : Nodes) (end : List ℕ) (f : Around) (c : ℕ) (v : code.Value) (s : State) (fs : List Around) (o : Outcome) → f ≡ around.One c → Gives end s (unary c (value_in end v)) → o ≡ within b end (f ∷ fs) (Is (value_in end v)) → Leads b end s fs o
leaves_one b end f c v s fs o e g h = given_leads b end s fs o (unary c (value_in end v)) g (h ∙ ap (λ x. within b end (x ∷ fs) (Is (value_in end v))) e)

pub leaves_left : (b : Nodes) (end : List ℕ) (f : Around) (c : ℕ) (t : TermId) (v : code.Value) (old new : List Around) (o : Outcome) → f ≡ around.Left c t → new ≡ old ++ around.Right c v ∷ [] →
    o ≡ within b end (f ∷ reverse old) (Is (value_in end v)) → o ≡ within b end (reverse new) (value (tree b t.0))
leaves_left b end f c t v old new o e p h =
    h ∙ ap (λ x. within b end (x ∷ reverse old) (Is (value_in end v))) e ∙ same (value (tree b t.0)) ∙ ap (λ fs. within b end fs (value (tree b t.0))) (sym (reverse_pushed new old (around.Right c v) p))
  where
    same : (p : Outcome) → within b end (reverse old) (both c (Is (value_in end v)) p) ≡ within b end (reverse old) (both c (Is (value_in end v)) p)
    same p = refl

pub leaves_right : (new : List ℕ) (f : Around) (c : ℕ) (l v : code.Value) (r : Result State Memory) (old all : List Around) → f ≡ around.Right c l → all ≡ old →
    IfOk r (λ s. (end : List ℕ) → Begins new end → Gives end s (binary c (value_in end l) (value_in end v))) →
    IfOk r (λ s. (b : Nodes) (end : List ℕ) → Begins new end → (o : Outcome) → o ≡ within b end (f ∷ reverse old) (Is (value_in end v)) → Leads b end s (reverse all) o)
leaves_right new f c l v (Err x) old all e p g = tt
leaves_right new f c l v (Ok s) old all e p g = λ b end h o q.
    subst (λ xs. Leads b end s (reverse xs) o) (sym p)
    (given_leads b end s (reverse old) o (binary c (value_in end l) (value_in end v)) (g end h) (q ∙ ap (λ x. within b end (x ∷ reverse old) (Is (value_in end v))) e))

pub two_enters : (r : Result State Memory) (bank : Nodes) (t : Term) (y : Two) (old new : List Around) → IsTwo bank t y →
    IfOk r (λ s. (b : Nodes) (end : List ℕ) (t : Term) (o : Outcome) → IsTwo b t y → o ≡ within b end (reverse old) (value t) → Leads b end s (reverse new) o) → IfOk r (λ s. (end : List ℕ) (o : Outcome) → o ≡ within bank end (reverse old) (value t) → Leads bank end s (reverse new) o)
two_enters (Err x) bank t y old new i k = tt
two_enters (Ok s) bank t y old new i k = λ end o h. k bank end t o i h

pub one_enters : (r : Result State Memory) (bank : Nodes) (t : Term) (y : One) (old new : List Around) → IsOne bank t y →
    IfOk r (λ s. (b : Nodes) (end : List ℕ) (t : Term) (o : Outcome) → IsOne b t y → o ≡ within b end (reverse old) (value t) → Leads b end s (reverse new) o) → IfOk r (λ s. (end : List ℕ) (o : Outcome) → o ≡ within bank end (reverse old) (value t) → Leads bank end s (reverse new) o)
one_enters (Err x) bank t y old new i k = tt
one_enters (Ok s) bank t y old new i k = λ end o h. k bank end t o i h

pub enters_on : (r : Result State Memory) (bytes : List ℕ) (bank : Nodes) (t : Term) (old new : List Around) → IfOk r (λ s. (end : List ℕ) (o : Outcome) → o ≡ within bank end (reverse old) (value t) → Leads bank end s (reverse new) o) →
    IfOk r (λ s. (end : List ℕ) → Begins bytes end → (o : Outcome) → o ≡ within bank end (reverse old) (value t) → Leads bank end s (reverse new) o)
enters_on (Err x) bytes bank t old new k = tt
enters_on (Ok s) bytes bank t old new k = λ end g o h. k end o h

-- what stands around nothing, and around one more
pub none_around : (b : Nodes) (end : List ℕ) (fs : List Around) (p : Outcome) → fs ≡ [] → p ≡ within b end (reverse fs) p
none_around b end fs p e = ap (λ xs. within b end (reverse xs) p) (sym e)

pub one_around : (b : Nodes) (end : List ℕ) (fs rest : List Around) (f : Around) (o p : Outcome) → fs ≡ rest ++ f ∷ [] → o ≡ within b end (reverse fs) p → o ≡ within b end (f ∷ reverse rest) p
one_around b end fs rest f o p e h = h ∙ ap (λ xs. within b end xs p) (reverse_pushed fs rest f e)

-- the part at work
pub at_work : (b : Nodes) (end : List ℕ) (s u : State) (fs : List Around) (o : Outcome) → s ≡ u → Leads b end s fs o → Leads b end u fs o
at_work b end s u fs o e h = subst (λ x. Leads b end x fs o) e h

-- values of different kinds
pub number_not_text : (end : List ℕ) (c : ℕ) (a : ℤ) (v : code.Value) (s : Span) → v ≡ code_of.Text s → HasNone (binary c (Number a) (value_in end v))
number_not_text end c a v s e = (NotClosed, ap (λ x. binary c (Number a) (value_in end x)) e)

pub text_not_number : (end : List ℕ) (c : ℕ) (x : List ℕ) (v : code.Value) (z : ℤ) → v ≡ code_of.Number z → HasNone (binary c (Bytes x) (value_in end v))
text_not_number end c x v z e = (NotClosed, ap (λ y. binary c (Bytes x) (value_in end y)) e)

pub none_is : (o : Outcome) (v : Value) → HasNone o → o ≡ Is v → ⊥
none_is o v n e = absurd (let q = n.1 in cc)

pub text_no_number : (end : List ℕ) (v : code.Value) (s : Span) (o : Outcome) (z : ℤ) → o ≡ Is (value_in end v) → v ≡ code_of.Text s → o ≡ Is (Number z) → ⊥
text_no_number end v s o z e t q = absurd (let p = e ∙ ap (λ x. Is (value_in end x)) t in cc)

pub texts_once : (x y : List ℕ) → atom (text x) ≡ atom (text y) → x ≡ y
texts_once x y e = cc

pub given_that : (r : Result State Memory) (A : Type 0) (P : State → Type 0) → A → IfOk r (λ s. A → P s) → IfOk r P
given_that (Err x) A P a h = tt
given_that (Ok s) A P a h = h a

pub whatever : (r : Result State Memory) (A : Type 0) (P : State → Type 0) → IfOk r P → IfOk r (λ s. A → P s)
whatever (Err x) A P h = tt
whatever (Ok s) A P h = λ a. h

pub left_one : (new : List ℕ) (f : Around) (c : ℕ) (v : code.Value) (r : Result State Memory) (old : List Around) → f ≡ around.One c → IfOk r (λ s. (end : List ℕ) → Begins new end → Gives end s (unary c (value_in end v))) →
    IfOk r (λ s. (b : Nodes) (end : List ℕ) → Begins new end → (o : Outcome) → o ≡ within b end (f ∷ reverse old) (Is (value_in end v)) → Leads b end s (reverse old) o)
left_one new f c v (Err x) old e g = tt
left_one new f c v (Ok s) old e g = λ b end h o q. leaves_one b end f c v s (reverse old) o e (g end h) q
