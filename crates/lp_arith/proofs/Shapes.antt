-- Terms by their heads as expressions, and what is none: all that it reduces to has no value.
use Rattle.std.proofs.Common.{◌≡◌, ℕ, zero, suc, ◌+◌, ◌<◌, ◌≤◌, nat_lt, List, [], ◌∷◌, ◌++◌, length, map, refl, sym, ap, ◌∙◌, subst, arith, Bool, true, false, if◌then◌else◌, Option, Some, None}
use Rattle.std.proofs.lemmas.Bool.Decides.{nat_tests}
use Rattle.lp_lemmas.proofs.Lists.{get_below}
use Rattle.lp_calculus.specs.Types.{Ty}
use Rattle.lp_calculus.specs.Term.{Term, index, atom, abs, app, apply, constant, integer, text, eigen, logic, param}
use Rattle.lp_calculus.specs.Convert.{BetaStep, here, in_abs, in_head, in_argument, beta, done, then_step, Reduces, head_step}
use Rattle.lp_calculus.specs.Spine.{head_of}
use Rattle.lp_standard.specs.Constants.{number, numbered, language, reserved}
use Rattle.lp_standard.specs.declared.constant.Constant.{Constant}
use Rattle.lp_standard.specs.declared.constant.Constant.TheVariants as fixed
use Rattle.lp_model.specs.declared.ending.Fault.TheVariants as fault
use Rattle.lp_model.specs.Values.{Faults, both, single, is_two_place, is_one_place, value}
use Rattle.lp_model.proofs.Numbers.{number_back}
use Rattle.lp_store.specs.declared.cell.CellId.{CellId}
use Rattle.lp_store.specs.Contents.{Contents}
use Rattle.lp_store.specs.Reading.{Reads, ReadAll, none, more}
use Rattle.lp_term.specs.Spine.{IsNoApplication}
use Rattle.lp_susp.specs.Frames.{IsNeutral}
use Rattle.lp_susp.proofs.Heads.{none-head}
use Rattle.lp_susp.proofs.Plugs.{neutral_beta, none_head_neutral}
use Rattle.lp_arith.specs.Meaning.{HasFault}
use Rattle.lp_arith.specs.inner.ByOperation.{one_by, two_by, operation_by, applied_by}
use Rattle.lp_arith.specs.inner.Frames.{IsExpression}

-- how many arguments a head has that makes an expression with them
abbrev pub fits : Term → ℕ → Bool
fits (atom (integer z)) zero = true
fits (atom (text s)) zero = true
fits (atom (constant c ts)) (suc zero) = is_one_place c
fits (atom (constant c ts)) (suc (suc zero)) = is_two_place c
fits _ n = false

abbrev count : Term → ℕ
count (index i) = 0
count (atom a) = 0
count (abs b) = 0
count (app t u) = suc (count t)

-- no expression, and neither is anything that it reduces to
abbrev IsOpen : Term → Type 0
IsOpen (index i) = Unit {0}
IsOpen (atom a) = fits (atom a) 0 ≡ false
IsOpen (abs b) = Unit {0}
IsOpen (app t u) = IsNeutral t × (fits (head_of t) (suc (count t)) ≡ false)

same_head : {t s : Term} → IsNeutral t → BetaStep t s → (head_of s ≡ head_of t) × (count s ≡ count t)
same_head h (here (beta b u)) = absurd h
same_head h (in_abs p) = absurd h
same_head h (in_head u p) = let k = same_head h p in (k.0, ap suc k.1)
same_head h (in_argument t p) = (refl, refl)

open_beta : {t s : Term} → IsOpen t → BetaStep t s → IsOpen s
open_beta h (here (beta b u)) = absurd h.0
open_beta h (in_abs p) = tt
open_beta h (in_head {t = t} {s = s} u p) =
    let k = same_head h.0 p in
    (neutral_beta h.0 p, ap (λ n. fits (head_of s) (suc n)) k.1 ∙ ap (λ x. fits x (suc (count t))) k.0 ∙ h.1)
open_beta h (in_argument t p) = h

open_reduces : {t s : Term} → IsOpen t → Reduces t s → IsOpen s
open_reduces h (done t) = h
open_reduces h (then_step p ps) = open_reduces (open_beta h p) ps

open_value : (t : Term) → IsOpen t → value t ≡ Faults fault.NotClosed
open_value (index i) h = refl
open_value (abs b) h = refl
open_value (atom (constant c ts)) h = refl
open_value (atom (integer z)) h = absurd (cc)
open_value (atom (text s)) h = absurd (cc)
open_value (atom (eigen k)) h = refl
open_value (atom (logic x l)) h = refl
open_value (atom (param k T)) h = refl
open_value (app (index i) a) h = refl
open_value (app (abs b) a) h = refl
open_value (app (atom (constant c ts)) a) h = ap (λ o. if o then single c (value a) else Faults fault.NotClosed) h.1
open_value (app (atom (integer z)) a) h = refl
open_value (app (atom (text s)) a) h = refl
open_value (app (atom (eigen k)) a) h = refl
open_value (app (atom (logic x l)) a) h = refl
open_value (app (atom (param k T)) a) h = refl
open_value (app (app (index i) a) b) h = refl
open_value (app (app (abs d) a) b) h = refl
open_value (app (app (app f d) a) b) h = refl
open_value (app (app (atom (constant c ts)) a) b) h = ap (λ o. if o then both c (value a) (value b) else Faults fault.NotClosed) h.1
open_value (app (app (atom (integer z)) a) b) h = refl
open_value (app (app (atom (text s)) a) b) h = refl
open_value (app (app (atom (eigen k)) a) b) h = refl
open_value (app (app (atom (logic x l)) a) b) h = refl
open_value (app (app (atom (param k T)) a) b) h = refl

open_app : (t u : Term) (us : List Term) → IsNeutral t → fits (head_of t) (suc (count t) + length us) ≡ false → IsOpen (apply (app t u) us)
open_app t u [] h e = (let q : suc (count t) + 0 ≡ suc (count t) = omega arith in (h, sym (ap (fits (head_of t)) q) ∙ e))
open_app t u (w ∷ us) h e = (let q : suc (suc (count t)) + length us ≡ suc (count t) + suc (length us) = omega arith in open_app (app t u) w us h (ap (fits (head_of t)) q ∙ e))

lone_head : (h : Term) → IsNoApplication h → head_of h ≡ h
lone_head (index i) l = refl
lone_head (atom a) l = refl
lone_head (abs b) l = refl
lone_head (app t u) l = absurd l

lone_count : (h : Term) → IsNoApplication h → count h ≡ 0
lone_count (index i) l = refl
lone_count (atom a) l = refl
lone_count (abs b) l = refl
lone_count (app t u) l = absurd l

open_apply : (h : Term) (us : List Term) → head_step (apply h us) ≡ None → IsNoApplication h → fits h (length us) ≡ false → IsOpen (apply h us)
open_apply (index i) [] n l e = tt
open_apply (atom a) [] n l e = e
open_apply (abs b) [] n l e = tt
open_apply (app t u) [] n l e = absurd l
open_apply h (u ∷ us) n l e =
    let q : suc (count h) + length us ≡ suc (length us) = omega (arith, lone_count h l) in
    open_app h u us (none_head_neutral h us u n) (ap (fits (head_of h)) q ∙ ap (λ x. fits x (suc (length us))) (lone_head h l) ∙ e)

pub no_value : (h : Term) (us : List Term) → head_step (apply h us) ≡ None → IsNoApplication h → fits h (length us) ≡ false → HasFault (apply h us) fault.NotClosed
no_value h us n l e = λ s r k. open_value s (open_reduces (open_apply h us n l e) r)

-- an operation on its operands

pub no_operation : (c : ℕ) (ts : List Ty) (us : List Term) → fits (atom (constant c ts)) (length us) ≡ false → HasFault (apply (atom (constant c ts)) us) fault.NotClosed
no_operation c ts us e = no_value (atom (constant c ts)) us (none-head (atom (constant c ts)) us tt) tt e

one_told : (s : Contents) (k : Constant) (ts : List Ty) (a : CellId) (u : Term) → Reads s a.0 u → IsExpression s (one_by k a) (app (atom (constant (number k) ts)) u)
one_told s fixed.Negate ts a u p = (ts, u, refl, p, refl)
one_told s fixed.Size ts a u p = (ts, u, refl, p, refl)
one_told s _ ts a u p = no_operation _ ts (u ∷ []) refl

two_told : (s : Contents) (k : Constant) (ts : List Ty) (a b : CellId) (u w : Term) → Reads s a.0 u → Reads s b.0 w → IsExpression s (two_by k a b) (app (app (atom (constant (number k) ts)) u) w)
two_told s fixed.Add ts a b u w p q = (ts, u, w, refl, p, q, refl)
two_told s fixed.Subtract ts a b u w p q = (ts, u, w, refl, p, q, refl)
two_told s fixed.Multiply ts a b u w p q = (ts, u, w, refl, p, q, refl)
two_told s fixed.Divide ts a b u w p q = (ts, u, w, refl, p, q, refl)
two_told s fixed.Remainder ts a b u w p q = (ts, u, w, refl, p, q, refl)
two_told s fixed.Concatenate ts a b u w p q = (ts, u, w, refl, p, q, refl)
two_told s _ ts a b u w p q = no_operation _ ts (u ∷ w ∷ []) refl

operation_told : (s : Contents) (k : Constant) (ts : List Ty) (ids : List CellId) (us : List Term) → ReadAll s (map (λ t. t.0) ids) us → IsExpression s (operation_by k ids) (apply (atom (constant (number k) ts)) us)
operation_told s k ts [] _ none = no_operation (number k) ts [] refl
operation_told s k ts (a ∷ []) _ (more {t = u} p none) = one_told s k ts a u p
operation_told s k ts (a ∷ b ∷ []) _ (more {t = u} p (more {t = w} q none)) = two_told s k ts a b u w p q
operation_told s k ts (a ∷ b ∷ c ∷ ids) _ (more {t = u} p (more {t = w} q (more {t = v} {ts = us} o r))) = no_operation (number k) ts (u ∷ w ∷ v ∷ us) refl

-- a number that is none of a constant, on whatever it is put
pub at_least : (n : ℕ) → numbered n ≡ None → 26 ≤ n
at_least n e = go (nat_lt n 26) refl
  where
    go : (t : Bool) → nat_lt n 26 ≡ t → 26 ≤ n
    go false f = grind (f, arith, nat_tests)
    go true f =
        let h : n < 26 = grind (f, arith, nat_tests) in
        let k = get_below (language ++ reserved) n h in
        let q : None ≡ Some k.0 = sym e ∙ k.1 in
        absurd (cc)

no_number : (n : ℕ) → numbered n ≡ None → (ts : List Ty) (m : ℕ) → fits (atom (constant n ts)) m ≡ false
no_number n e ts zero = refl
no_number n e ts (suc zero) = (let h = at_least n e in grind (h, arith, nat_tests))
no_number n e ts (suc (suc zero)) = (let h = at_least n e in grind (h, arith, nat_tests))
no_number n e ts (suc (suc (suc m))) = refl

pub applied_told : (s : Contents) (n : ℕ) (ts : List Ty) (ids : List CellId) (us : List Term) → ReadAll s (map (λ t. t.0) ids) us → IsExpression s (applied_by (numbered n) ids) (apply (atom (constant n ts)) us)
applied_told s n ts ids us p = go (numbered n) refl
  where
    go : (o : Option Constant) → numbered n ≡ o → IsExpression s (applied_by o ids) (apply (atom (constant n ts)) us)
    go None e = no_operation n ts us (no_number n e ts (length us))
    go (Some k) e = subst (λ m. IsExpression s (operation_by k ids) (apply (atom (constant m ts)) us)) (sym (number_back n k e)) (operation_told s k ts ids us p)
