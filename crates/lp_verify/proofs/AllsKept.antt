-- The registers that an ALL sets, record by record.
use Rattle.std.proofs.Common.{◌≡◌, ◌∙◌, ◌<◌, ◌≤◌, ◌+◌, ℕ, zero, suc, List, [], ◌∷◌, ◌++◌, length, get_or, Bool, true, false, Option, Some, None, ap, refl, sym, subst, arith, inl, inr}
use Rattle.std.specs.Prelude.{◌⊎◌, nat_eq, nat_lt, ◌||◌, ◌&&◌, slice_get}
use Rattle.std.specs.Ordering.{nat_cmp}
use Rattle.std.specs.BTreeSet.{BTreeSet, contains}
use Rattle.std.proofs.lemmas.Bool.{lt-ltb, le-ltb}
use Rattle.lp_lemmas.proofs.Lists.{get_push, get_read, length_push_suc}
use Rattle.lp_lemmas.proofs.Numbers.{below_suc}
use Rattle.lp_calculus.specs.Term.{Term, index, atom, abs, app, logic, constant, integer, text, eigen, param}
use Rattle.lp_code.specs.declared.instruction.Instr.{Instr}
use Rattle.lp_code.specs.declared.instruction.Instr.TheVariants as on
use Rattle.lp_code.specs.declared.record.Record.{Record}
use Rattle.lp_code.specs.Denote.{is_set_by_all, sets_by_all, is_all_variable}
use Rattle.lp_verify.specs.declared.built.Head.{Head}
use Rattle.lp_verify.specs.declared.built.Head.TheVariants as head
use Rattle.lp_verify.specs.inner.Handed.{variable_of, variable_in}
use Rattle.lp_verify.specs.inner.Low.{IsLow}
use Rattle.lp_verify.specs.inner.Alls.{sets_one_by_all, has_in, has_all, AllsAre}

pub no_alls : (rs : List Record) → AllsAre rs 0 []
no_alls rs = (refl, λ k r. sym (ap (λ b. b && sets_by_all (slice_get rs k) r) (le-ltb k 0 (omega arith))))

-- what comes first in a longer list
same_front : {A : Type 0} (xs ys : List A) (i : ℕ) → i < length xs → slice_get (xs ++ ys) i ≡ slice_get xs i
same_front [] ys i l = absurd (omega (arith, l))
same_front (x ∷ xs) ys zero l = refl
same_front (x ∷ xs) ys (suc i) l = same_front xs ys i (omega (arith, l))

past_end : {A : Type 0} (xs : List A) (i : ℕ) → length xs ≤ i → slice_get xs i ≡ None
past_end [] i l = refl
past_end (x ∷ xs) zero l = absurd (omega (arith, l))
past_end (x ∷ xs) (suc i) l = past_end xs i (omega (arith, l))

compared : (k n : ℕ) → (k < n) ⊎ ((k ≡ n) ⊎ (n < k))
compared zero zero = inr (inl refl)
compared zero (suc n) = inl (omega arith)
compared (suc k) zero = inr (inr (omega arith))
compared (suc k) (suc n) = elim (compared k n) [
  | inl l ↦ inl (omega (arith, l))
  | inr (inl e) ↦ inr (inl (ap (λ n. suc n) e))
  | inr (inr l) ↦ inr (inr (omega (arith, l)))
]

pub alls_more : (all : List Record) (n : ℕ) (r : Record) (old new : List (BTreeSet ℕ)) → AllsAre all n old → n < length all → r ≡ get_or all n r
    → (set : BTreeSet ℕ) × (new ≡ old ++ set ∷ []) × ((q : ℕ) → contains nat_cmp set q ≡ is_set_by_all r.code.items q) → AllsAre all (n + 1) new
alls_more all n r old new a l is s =
    let count : length new ≡ suc (length old) = ap length s.1 ∙ length_push_suc old s.0 in
    let before = a.0 in
    (omega (arith, count, before), λ k q. ap (λ sets. has_all sets k q) s.1 ∙ by_place k q (compared k n))
  where
    by_place : (k q : ℕ) → (k < n) ⊎ ((k ≡ n) ⊎ (n < k)) → has_all (old ++ s.0 ∷ []) k q ≡ (nat_lt k (n + 1) && sets_by_all (slice_get all k) q)
    by_place k q (inl m) =
        let before = a.0 in
        ap (λ o. has_in o q) (same_front old (s.0 ∷ []) k (omega (arith, m, before))) ∙ a.1 k q ∙ (λ j. lt-ltb k n m j && sets_by_all (slice_get all k) q)
        ∙ sym (λ j. lt-ltb k (n + 1) (omega (arith, m)) j && sets_by_all (slice_get all k) q)
    by_place k q (inr (inl e)) =
        ap (λ k. has_in (slice_get (old ++ s.0 ∷ []) k) q) (e ∙ sym a.0) ∙ ap (λ o. has_in o q) (get_push old s.0) ∙ s.2 q
        ∙ sym (ap (λ o. sets_by_all o q) (ap (slice_get all) e ∙ get_read all all n r r refl l is)) ∙ sym (λ j. lt-ltb k (n + 1) (omega (arith, e)) j && sets_by_all (slice_get all k) q)
    by_place k q (inr (inr m)) =
        let before = a.0 in
        let longer = length_push_suc old s.0 in
        ap (λ o. has_in o q) (past_end (old ++ s.0 ∷ []) k (omega (arith, m, before, longer))) ∙ sym (λ j. le-ltb k (n + 1) (omega (arith, m)) j && sets_by_all (slice_get all k) q)

-- a register is set by an ALL of the instructions so far, or of those that are left
pub set_more : (i : Instr) (is : List Instr) (r : ℕ) → is_set_by_all (i ∷ is) r ≡ (sets_one_by_all i r || is_set_by_all is r)
set_more (on.TyCon d k ts) is r = refl
set_more (on.TyArr d x y) is r = refl
set_more (on.TyNew d) is r = refl
set_more (on.New d t) is r = refl
set_more (on.PutConst d c ts) is r = refl
set_more (on.PutInt d z) is r = refl
set_more (on.PutStr d z) is r = refl
set_more (on.PutIndex d x t) is r = refl
set_more (on.PutAbs d x t) is r = refl
set_more (on.PutApp d f rs) is r = refl
set_more (on.GetType j t) is r = refl
set_more (on.GetVar x d) is r = refl
set_more (on.Get x q) is r = refl
set_more (on.GetConst x c ts) is r = refl
set_more (on.GetInt x z) is r = refl
set_more (on.GetStr x z) is r = refl
set_more on.Neck is r = refl
set_more (on.Call c ts rs) is r = refl
set_more (on.CallTerm q) is r = refl
set_more (on.Equal t l q) is r = refl
set_more (on.Is t l q) is r = refl
set_more (on.Less l q) is r = refl
set_more (on.Greater l q) is r = refl
set_more (on.AtMost l q) is r = refl
set_more (on.AtLeast l q) is r = refl
set_more on.Cut is r = refl
set_more (on.Sigma d t) is r = refl
set_more (on.All d t) is r = refl
set_more on.EndAll is r = refl
set_more (on.Assume ns ts rs) is r = refl
set_more on.EndAssume is r = refl
set_more (on.Either n) is r = refl
set_more (on.Jump n) is r = refl
set_more on.Proceed is r = refl
set_more on.Not is r = refl
set_more on.EndNot is r = refl

-- the variable of an ALL, among the records before one
pub is_all_there : (rs : List Record) (n : ℕ) (sets : List (BTreeSet ℕ)) (r k : ℕ) (t : Term) → AllsAre rs n sets → Some (r, k) ≡ variable_of t → IsLow n t → has_all sets k r ≡ is_all_variable rs t
is_all_there rs n sets r k (atom (logic q h)) a e low =
    let same : (r, k) ≡ (q, h) = some_pair (r, k) (q, h) e in
    ap (λ p. has_all sets p.1 p.0) same ∙ a.1 h q ∙ (λ j. lt-ltb h n low j && sets_by_all (slice_get rs h) q)
  where
    some_pair : (x y : ℕ × ℕ) → Some x ≡ Some y → x ≡ y
    some_pair x y e = cc
is_all_there rs n sets r k (atom (constant c ts)) a e low = absurd (cc)
is_all_there rs n sets r k (atom (integer z)) a e low = absurd (cc)
is_all_there rs n sets r k (atom (text s)) a e low = absurd (cc)
is_all_there rs n sets r k (atom (eigen h)) a e low = absurd (cc)
is_all_there rs n sets r k (atom (param h T)) a e low = absurd (cc)
is_all_there rs n sets r k (index i) a e low = absurd (cc)
is_all_there rs n sets r k (abs b) a e low = absurd (cc)
is_all_there rs n sets r k (app t u) a e low = absurd (cc)

pub is_no_variable : (rs : List Record) (t : Term) → None ≡ variable_of t → false ≡ is_all_variable rs t
is_no_variable rs (atom (logic q h)) e = absurd (cc)
is_no_variable rs (atom (constant c ts)) e = refl
is_no_variable rs (atom (integer z)) e = refl
is_no_variable rs (atom (text s)) e = refl
is_no_variable rs (atom (eigen h)) e = refl
is_no_variable rs (atom (param h T)) e = refl
is_no_variable rs (index i) e = refl
is_no_variable rs (abs b) e = refl
is_no_variable rs (app t u) e = refl

pub one_set : (i : Instr) (is : List Instr) (r : ℕ) (old new all : Bool) → new ≡ (sets_one_by_all i r || old) → (is_set_by_all (i ∷ is) r || old) ≡ all → (is_set_by_all is r || new) ≡ all
one_set i is r old new all e h = ap (λ n. is_set_by_all is r || n) e ∙ moved (sets_one_by_all i r) (is_set_by_all is r) old ∙ ap (λ b. b || old) (sym (set_more i is r)) ∙ h
  where
    moved : (a b o : Bool) → (b || (a || o)) ≡ ((a || b) || o)
    moved true true o = refl
    moved true false o = refl
    moved false true o = refl
    moved false false o = refl
