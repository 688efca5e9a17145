-- The connective of a raised formula (as in lp_normal, which keeps it to itself).
use Rattle.std.proofs.Common.{◌≡◌, ℕ, suc, ◌+◌, ◌≤◌, List, [], ◌∷◌, map, refl, sym, ap, ◌∙◌, arith}
use Rattle.std.specs.Prelude.{Bool, true, false, nat_eq, nat_lt, if◌then◌else◌}
use Rattle.std.proofs.lemmas.Bool.Decides.{nat_tests}
use mathlib.Core.Path.{fun_ext}
use Rattle.lp_calculus.specs.Types.{Ty}
use Rattle.lp_calculus.specs.Term.{Term, index, atom, abs, app, constant, integer, text, eigen, logic, param, raised, shift}
use Rattle.lp_calculus.proofs.Sigma.{rename, rename-rename}
use Rattle.lp_calculus.proofs.Plain.{bump, shift-rename}
use Rattle.lp_calculus.specs.Spine.{head_of, arguments_and}
use Rattle.lp_standard.specs.Connectives.{body_of, Connective, connective_of_constant, connective_at, connective_of}
use Rattle.lp_standard.specs.Connectives as connective

-- two shifts, the one inside the other

bump_bump : (j k by i : ℕ) → j ≤ k → bump by (suc k) (bump 1 j i) ≡ bump 1 j (bump by k i)
bump_bump j k by i h = grind (arith, nat_tests)

shift_shift : (j k by : ℕ) (t : Term) → j ≤ k → shift (suc k) by (shift j 1 t) ≡ shift j 1 (shift k by t)
shift_shift j k by t h =
    shift-rename (suc k) by (shift j 1 t) ∙ ap (rename (bump by (suc k))) (shift-rename j 1 t) ∙ rename-rename (bump 1 j) (bump by (suc k)) t ∙
    ap (λ ρ. rename ρ t) (fun_ext (λ i. bump_bump j k by i h)) ∙
    sym (shift-rename j 1 (shift k by t) ∙ ap (rename (bump 1 j)) (shift-rename k by t) ∙ rename-rename (bump by k) (bump 1 j) t)

-- the connective of a raised formula

abbrev pub shifted : (k by : ℕ) → Connective → Connective
shifted k by connective.True = connective.True
shifted k by connective.Cut = connective.Cut
shifted k by (connective.And a b) = connective.And (shift k by a) (shift k by b)
shifted k by (connective.Or a b) = connective.Or (shift k by a) (shift k by b)
shifted k by (connective.Implies c g) = connective.Implies (shift k by c) (shift k by g)
shifted k by (connective.ForAll T b) = connective.ForAll T (shift (suc k) by b)
shifted k by (connective.Exists T b) = connective.Exists T (shift (suc k) by b)
shifted k by (connective.Not g) = connective.Not (shift k by g)
shifted k by connective.Atomic = connective.Atomic

shift_if : (k by : ℕ) (c : Bool) (x y : Connective) → shifted k by (if c then x else y) ≡ (if c then shifted k by x else shifted k by y)
shift_if k by true x y = refl
shift_if k by false x y = refl

if_same : {x y u v : Connective} (c : Bool) → x ≡ u → y ≡ v → (if c then x else y) ≡ (if c then u else v)
if_same true e f = e
if_same false e f = f

body_raised : (k by i : ℕ) → body_of (raised by k i) ≡ app (shift 0 1 (raised by k i)) (index 0)
body_raised k by i = go (nat_lt i k)
  where
    go : (c : Bool) → body_of (if c then index i else index (i + by)) ≡ app (shift 0 1 (if c then index i else index (i + by))) (index 0)
    go true = refl
    go false = refl

zero_stays : (k by : ℕ) → index 0 ≡ raised by (suc k) 0
zero_stays k by = grind (arith, nat_tests)

under_body : (k by : ℕ) (t : Term) → app (shift 0 1 (shift k by t)) (index 0) ≡ shift (suc k) by (app (shift 0 1 t) (index 0))
under_body k by t = ap (λ z. app z (index 0)) (sym (shift_shift 0 k by t (omega arith))) ∙ ap (app (shift (suc k) by (shift 0 1 t))) (zero_stays k by)

body_shift : (k by : ℕ) (t : Term) → body_of (shift k by t) ≡ shift (suc k) by (body_of t)
body_shift k by (abs b) = refl
body_shift k by (index i) = body_raised k by i ∙ under_body k by (index i)
body_shift k by (atom a) = ap (app (atom a)) (zero_stays k by)
body_shift k by (app t u) = under_body k by (app t u)

form_constant : (k by c : ℕ) (ts : List Ty) (us : List Term) → connective_of_constant c ts (map (shift k by) us) ≡ shifted k by (connective_of_constant c ts us)
form_constant k by c ts [] =
    sym (shift_if k by (nat_eq c 6) connective.True (if nat_eq c 7 then connective.Cut else connective.Atomic) ∙ if_same (nat_eq c 6) refl
    (shift_if k by (nat_eq c 7) connective.Cut connective.Atomic))
form_constant k by c (T ∷ []) (a ∷ []) =
    if_same (nat_eq c 4) (ap (connective.ForAll T) (body_shift k by a)) (if_same (nat_eq c 5) (ap (connective.Exists T) (body_shift k by a)) refl ∙
    sym (shift_if k by (nat_eq c 5) (connective.Exists T (body_of a)) connective.Atomic)) ∙
    sym (shift_if k by (nat_eq c 4) (connective.ForAll T (body_of a)) (if nat_eq c 5 then connective.Exists T (body_of a) else connective.Atomic))
form_constant k by c [] (a ∷ b ∷ []) =
    sym (shift_if k by (nat_eq c 0) (connective.And a b) (if nat_eq c 1 then connective.Or a b else
    (if nat_eq c 2 then connective.Implies a b else (if nat_eq c 3 then connective.Implies b a else connective.Atomic))) ∙
    if_same (nat_eq c 0) refl (shift_if k by (nat_eq c 1) (connective.Or a b) (if nat_eq c 2 then connective.Implies a b else (if nat_eq c 3 then connective.Implies b a else connective.Atomic)) ∙
    if_same (nat_eq c 1) refl (shift_if k by (nat_eq c 2) (connective.Implies a b) (if nat_eq c 3 then connective.Implies b a else connective.Atomic) ∙
    if_same (nat_eq c 2) refl (shift_if k by (nat_eq c 3) (connective.Implies b a) connective.Atomic))))
form_constant k by c [] (a ∷ []) = sym (shift_if k by (nat_eq c 24) (connective.Not a) connective.Atomic)
form_constant k by c (T ∷ U ∷ ts) (a ∷ []) = refl
form_constant k by c (T ∷ []) (a ∷ b ∷ []) = refl
form_constant k by c (T ∷ U ∷ ts) (a ∷ b ∷ []) = refl
form_constant k by c [] (a ∷ b ∷ x ∷ us) = refl
form_constant k by c (T ∷ []) (a ∷ b ∷ x ∷ us) = refl
form_constant k by c (T ∷ U ∷ ts) (a ∷ b ∷ x ∷ us) = refl

index_form : (k by i : ℕ) (us : List Term) → connective_at (head_of (raised by k i)) (arguments_and (raised by k i) us) ≡ connective.Atomic
index_form k by i us = go (nat_lt i k)
  where
    go : (c : Bool) → connective_at (head_of (if c then index i else index (i + by))) (arguments_and (if c then index i else index (i + by)) us) ≡ connective.Atomic
    go true = refl
    go false = refl

form_spine : (k by : ℕ) (t : Term) (us : List Term) → connective_at (head_of (shift k by t)) (arguments_and (shift k by t) (map (shift k by) us)) ≡
    shifted k by (connective_at (head_of t) (arguments_and t us))
form_spine k by (index i) us = index_form k by i (map (shift k by) us)
form_spine k by (atom (constant c ts)) us = form_constant k by c ts us
form_spine k by (atom (integer z)) us = refl
form_spine k by (atom (text s)) us = refl
form_spine k by (atom (eigen x)) us = refl
form_spine k by (atom (logic x l)) us = refl
form_spine k by (atom (param x T)) us = refl
form_spine k by (abs b) us = refl
form_spine k by (app t u) us = form_spine k by t (u ∷ us)

pub form_shift : (k by : ℕ) (t : Term) → connective_of (shift k by t) ≡ shifted k by (connective_of t)
form_shift k by t = form_spine k by t []
