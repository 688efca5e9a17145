-- The numbers of a record's type variables: of ascending registers each one's place is how many are below it.
use Rattle.std.proofs.Common.{◌≡◌, ◌∙◌, ◌<◌, ◌≤◌, ℕ, zero, suc, List, [], ◌∷◌, ◌++◌, length, Bool, true, false, ap, refl, sym, subst, arith, inl, inr}
use Rattle.std.specs.Prelude.{nat_eq, nat_lt, ◌||◌, ◌⊎◌, if◌then◌else◌}
use Rattle.std.proofs.lemmas.Bool.{ne_eqb, eq-eqb, lt-ltb, le-ltb}
use Rattle.std.specs.Prelude.{is_some, slice_get, cond, ◌+◌}
use Rattle.std.specs.List.{list_any}
use Rattle.std.specs.Ordering.{nat_cmp, eq_by_cmp}
use Rattle.std.specs.declared.cmp.Ordering.TheVariants.{Less, Equal, Greater}
use Rattle.std.specs.List.{AllByRecursion}
use Rattle.std.specs.List.Sorted.{IsStrictlySortedBy}
use Rattle.std.specs.BTreeMap.{BTreeMap, get, is_at}
use Rattle.std.proofs.lemmas.Bool.{eqb-true, ltb-true}
use Rattle.std.proofs.Common.{Some}
use Rattle.lp_lemmas.proofs.Numbers.{nat_eq_comm, below_suc}
use Rattle.lp_code.specs.declared.instruction.Instr.{Instr}
use Rattle.lp_code.specs.declared.instruction.Instr.TheVariants as on
use Rattle.lp_code.specs.declared.record.Record.{Record}
use Rattle.lp_code.specs.States.{member, passing}
use Rattle.lp_code.specs.Steps.{is_made, is_own_type}
use Rattle.lp_verify.specs.inner.Known.{type_made_in, AreAbove, AreNumbered, HasOwnTypes}
use Rattle.lp_verify.proofs.KeyLaws.{at_same}

-- those below a number
abbrev pub below : ℕ → List ℕ → List ℕ
below n [] = []
below n (r ∷ rs) = if nat_lt r n then r ∷ below n rs else below n rs

none_below : (n m : ℕ) (rs : List ℕ) → n ≤ m → AreAbove m rs → below n rs ≡ []
none_below n m [] l a = refl
none_below n m (r ∷ rs) l a =
    let low = a.0 in
    ap (λ b. if b then r ∷ below n rs else below n rs) (le-ltb r n (omega (arith, l, low))) ∙ none_below n (suc r) rs (omega (arith, l, low)) a.1

no_member : (n m : ℕ) (rs : List ℕ) → n < m → AreAbove m rs → member n rs ≡ false
no_member n m [] l a = refl
no_member n m (r ∷ rs) l a =
    let low = a.0 in
    ap (λ b. b || member n rs) (ne_eqb n r (λ e. omega (arith, e, l, low))) ∙ no_member n (suc r) rs (omega (arith, l, low)) a.1

compared : (r n : ℕ) → (r < n) ⊎ ((r ≡ n) ⊎ (n < r))
compared zero zero = inr (inl refl)
compared zero (suc n) = inl (omega arith)
compared (suc r) zero = inr (inr (omega arith))
compared (suc r) (suc n) = elim (compared r n) [
  | inl l ↦ inl (omega (arith, l))
  | inr (inl e) ↦ inr (inl (ap (λ n. suc n) e))
  | inr (inr l) ↦ inr (inr (omega (arith, l)))
]

below_more : (n m : ℕ) (rs : List ℕ) → AreAbove m rs → below (suc n) rs ≡ below n rs ++ (if member n rs then n ∷ [] else [])
below_more n m [] a = refl
below_more n m (r ∷ rs) a = elim (compared r n) [
  | inl l ↦ smaller (below_more n (suc r) rs a.1) l
  | inr (inl e) ↦ same e
  | inr (inr l) ↦ larger l
]
  where
    smaller : below (suc n) rs ≡ below n rs ++ (if member n rs then n ∷ [] else []) → r < n → below (suc n) (r ∷ rs) ≡ below n (r ∷ rs) ++ (if member n (r ∷ rs) then n ∷ [] else [])
    smaller go l =
        let f : nat_lt r (suc n) ≡ true = lt-ltb r (suc n) (omega (arith, l)) in
        let g : nat_lt r n ≡ true = lt-ltb r n l in
        let h : nat_eq n r ≡ false = ne_eqb n r (λ e. omega (arith, e, l)) in
        ap (λ b. if b then r ∷ below (suc n) rs else below (suc n) rs) f ∙ ap (λ l. r ∷ l) go
        ∙ sym (λ j. (if g j then r ∷ below n rs else below n rs) ++ (if h j || member n rs then n ∷ [] else []))

    same : r ≡ n → below (suc n) (r ∷ rs) ≡ below n (r ∷ rs) ++ (if member n (r ∷ rs) then n ∷ [] else [])
    same e =
        let f : nat_lt r (suc n) ≡ true = lt-ltb r (suc n) (omega (arith, e)) in
        let g : nat_lt r n ≡ false = le-ltb r n (omega (arith, e)) in
        let h : nat_eq n r ≡ true = eq-eqb n r (sym e) in
        let p : below (suc n) rs ≡ [] = none_below (suc n) (suc r) rs (omega (arith, e)) a.1 in
        let q : below n rs ≡ [] = none_below n (suc r) rs (omega (arith, e)) a.1 in
        ap (λ b. if b then r ∷ below (suc n) rs else below (suc n) rs) f ∙ (λ j. e j ∷ p j)
        ∙ sym (λ j. (if g j then r ∷ below n rs else q j) ++ (if h j || member n rs then n ∷ [] else []))

    larger : n < r → below (suc n) (r ∷ rs) ≡ below n (r ∷ rs) ++ (if member n (r ∷ rs) then n ∷ [] else [])
    larger l =
        let f : nat_lt r (suc n) ≡ false = le-ltb r (suc n) (omega (arith, l)) in
        let g : nat_lt r n ≡ false = le-ltb r n (omega (arith, l)) in
        let h : nat_eq n r ≡ false = ne_eqb n r (λ e. omega (arith, e, l)) in
        let p : below (suc n) rs ≡ [] = none_below (suc n) (suc r) rs (omega (arith, l)) a.1 in
        let q : below n rs ≡ [] = none_below n (suc r) rs (omega (arith, l)) a.1 in
        let k : member n rs ≡ false = no_member n (suc r) rs (omega (arith, l)) a.1 in
        ap (λ b. if b then r ∷ below (suc n) rs else below (suc n) rs) f ∙ p
        ∙ sym (λ j. (if g j then r ∷ below n rs else q j) ++ (if h j || k j then n ∷ [] else []))

-- the numbers below one that are among these are these below it
pub passing_below : (n : ℕ) (rs : List ℕ) (test : ℕ → Bool) → AreAbove 0 rs → ((r : ℕ) → test r ≡ member r rs) → passing n test ≡ below n rs
passing_below zero rs test a t = sym (none_below zero zero rs (omega arith) a)
passing_below (suc n) rs test a t = (λ j. passing_below n rs test a t j ++ (if t n j then n ∷ [] else [])) ∙ sym (below_more n 0 rs a)

-- those before one that stands there are those below it
pub place_is : (m : ℕ) (front : List ℕ) (d : ℕ) (back : List ℕ) → AreAbove m (front ++ d ∷ back) → below d (front ++ d ∷ back) ≡ front
place_is m [] d back a =
    ap (λ b. if b then d ∷ below d back else below d back) (le-ltb d d (omega arith)) ∙ none_below d (suc d) back (omega arith) a.1
place_is m (r ∷ front) d back a =
    ap (λ b. if b then r ∷ below d (front ++ d ∷ back) else below d (front ++ d ∷ back)) (lt-ltb r d (least (suc r) front a.1)) ∙ ap (λ l. r ∷ l) (place_is (suc r) front d back a.1)
  where
    least : (m : ℕ) (front : List ℕ) → AreAbove m (front ++ d ∷ back) → m ≤ d
    least m [] a = a.0
    least m (q ∷ front) a = let l = least (suc q) front a.1 in let k = a.0 in omega (arith, l, k)

-- of ascending registers the one behind so many has their number
pub own_number : (front : List ℕ) (d : ℕ) (back : List ℕ) (test : ℕ → Bool) → AreAbove 0 (front ++ d ∷ back) → ((r : ℕ) → test r ≡ member r (front ++ d ∷ back)) → length (passing d test) ≡ length front
own_number front d back test a t = ap length (passing_below d (front ++ d ∷ back) test a t ∙ place_is 0 front d back a)

-- the type variables that a record makes itself
same_made : (f g : Instr → List ℕ) → ((i : Instr) → f i ≡ g i) → (is : List Instr) (d : ℕ) → is_made f is d ≡ is_made g is d
same_made f g h [] d = refl
same_made f g h (i ∷ is) d = λ j. if member d (h i j) then true else same_made f g h is d j

pub own_is : (r : Record) (d : ℕ) → is_own_type r d ≡ is_made type_made_in r.code.items d
own_is r d = same_made _ type_made_in (λ i. elim i [
  | on.TyCon x0 x1 x2 ↦ refl
  | on.TyArr x0 x1 x2 ↦ refl
  | on.TyNew x0 ↦ refl
  | on.New x0 x1 ↦ refl
  | on.PutConst x0 x1 x2 ↦ refl
  | on.PutInt x0 x1 ↦ refl
  | on.PutStr x0 x1 ↦ refl
  | on.PutIndex x0 x1 x2 ↦ refl
  | on.PutAbs x0 x1 x2 ↦ refl
  | on.PutApp x0 x1 x2 ↦ refl
  | on.GetType x0 x1 ↦ refl
  | on.GetVar x0 x1 ↦ refl
  | on.Get x0 x1 ↦ refl
  | on.GetConst x0 x1 x2 ↦ refl
  | on.GetInt x0 x1 ↦ refl
  | on.GetStr x0 x1 ↦ refl
  | on.Neck ↦ refl
  | on.Call x0 x1 x2 ↦ refl
  | on.CallTerm x0 ↦ refl
  | on.Equal x0 x1 x2 ↦ refl
  | on.Is x0 x1 x2 ↦ refl
  | on.Less x0 x1 ↦ refl
  | on.Greater x0 x1 ↦ refl
  | on.AtMost x0 x1 ↦ refl
  | on.AtLeast x0 x1 ↦ refl
  | on.Cut ↦ refl
  | on.Sigma x0 x1 ↦ refl
  | on.All x0 x1 ↦ refl
  | on.EndAll ↦ refl
  | on.Assume x0 x1 x2 ↦ refl
  | on.EndAssume ↦ refl
  | on.Either x0 ↦ refl
  | on.Jump x0 ↦ refl
  | on.Proceed ↦ refl
  | on.Not ↦ refl
  | on.EndNot ↦ refl
]) r.code.items d

-- one instruction more of the code
pub nothing_noted : (i : Instr) (d : ℕ) (b : Bool) → ((r : ℕ) → i ≡ on.TyNew r → ⊥) → b ≡ (member d (type_made_in i) || b)
nothing_noted (on.TyCon x0 x1 x2) d b n = refl
nothing_noted (on.TyArr x0 x1 x2) d b n = refl
nothing_noted (on.TyNew x0) d b n = absurd (n x0 refl)
nothing_noted (on.New x0 x1) d b n = refl
nothing_noted (on.PutConst x0 x1 x2) d b n = refl
nothing_noted (on.PutInt x0 x1) d b n = refl
nothing_noted (on.PutStr x0 x1) d b n = refl
nothing_noted (on.PutIndex x0 x1 x2) d b n = refl
nothing_noted (on.PutAbs x0 x1 x2) d b n = refl
nothing_noted (on.PutApp x0 x1 x2) d b n = refl
nothing_noted (on.GetType x0 x1) d b n = refl
nothing_noted (on.GetVar x0 x1) d b n = refl
nothing_noted (on.Get x0 x1) d b n = refl
nothing_noted (on.GetConst x0 x1 x2) d b n = refl
nothing_noted (on.GetInt x0 x1) d b n = refl
nothing_noted (on.GetStr x0 x1) d b n = refl
nothing_noted on.Neck d b n = refl
nothing_noted (on.Call x0 x1 x2) d b n = refl
nothing_noted (on.CallTerm x0) d b n = refl
nothing_noted (on.Equal x0 x1 x2) d b n = refl
nothing_noted (on.Is x0 x1 x2) d b n = refl
nothing_noted (on.Less x0 x1) d b n = refl
nothing_noted (on.Greater x0 x1) d b n = refl
nothing_noted (on.AtMost x0 x1) d b n = refl
nothing_noted (on.AtLeast x0 x1) d b n = refl
nothing_noted on.Cut d b n = refl
nothing_noted (on.Sigma x0 x1) d b n = refl
nothing_noted (on.All x0 x1) d b n = refl
nothing_noted on.EndAll d b n = refl
nothing_noted (on.Assume x0 x1 x2) d b n = refl
nothing_noted on.EndAssume d b n = refl
nothing_noted (on.Either x0) d b n = refl
nothing_noted (on.Jump x0) d b n = refl
nothing_noted on.Proceed d b n = refl
nothing_noted on.Not d b n = refl
nothing_noted on.EndNot d b n = refl

pub type_noted : (i : Instr) (r d : ℕ) (old new : BTreeMap ℕ ℕ) (v : ℕ) → i ≡ on.TyNew r → get nat_cmp new d ≡ (if is_at (nat_cmp r) d then Some v else get nat_cmp old d) → is_some (get nat_cmp new d) ≡ (member d (type_made_in i) || is_some (get nat_cmp old d))
type_noted i r d old new v e u = subst (λ i. is_some (get nat_cmp new d) ≡ (member d (type_made_in i) || is_some (get nat_cmp old d))) (sym e) (ap is_some u ∙ ap (λ b. is_some (if b then Some v else get nat_cmp old d)) (at_same r d) ∙ by_test (nat_eq d r))
  where
    by_test : (b : Bool) → is_some (if b then Some v else get nat_cmp old d) ≡ ((b || false) || is_some (get nat_cmp old d))
    by_test true = refl
    by_test false = refl

made_one : (b c : Bool) (d : ℕ) (i : Instr) (is : List Instr) → b ≡ (member d (type_made_in i) || c) → (b || is_made type_made_in is d) ≡ (c || is_made type_made_in (i ∷ is) d)
made_one b c d i is e = ap (λ b. b || is_made type_made_in is d) e ∙ by_test (member d (type_made_in i)) c
  where
    by_test : (t c : Bool) → ((t || c) || is_made type_made_in is d) ≡ (c || (if t then true else is_made type_made_in is d))
    by_test true true = refl
    by_test true false = refl
    by_test false c = refl

pub made_more : (b c : Bool) (d : ℕ) (i : Instr) (is left all : List Instr) → left ≡ i ∷ is → b ≡ (member d (type_made_in i) || c) → (c || is_made type_made_in left d) ≡ is_made type_made_in all d → (b || is_made type_made_in is d) ≡ is_made type_made_in all d
made_more b c d i is left all e f g = made_one b c d i is f ∙ ap (λ l. c || is_made type_made_in l d) (sym e) ∙ g

-- ascending keys
less_is : (x y : ℕ) → nat_cmp x y ≡ Less → x < y
less_is x y e = by_order (nat_lt x y) (nat_eq x y) refl e
  where
    by_order : (a b : Bool) → nat_lt x y ≡ a → cond a Less (cond b Equal Greater) ≡ Less → x < y
    by_order true b q e = ltb-true x y q
    by_order false true q e = absurd (cc)
    by_order false false q e = absurd (cc)

all_above : (x : ℕ) (xs : List ℕ) → AllByRecursion (λ y. nat_cmp x y ≡ Less) xs → AllByRecursion (λ y. suc x ≤ y) xs
all_above x [] a = tt
all_above x (y ∷ xs) a = (let l = less_is x y a.0 in omega (arith, l), all_above x xs a.1)

above_all : (n : ℕ) (xs : List ℕ) → AllByRecursion (λ y. n ≤ y) xs → IsStrictlySortedBy nat_cmp xs → AreAbove n xs
unfolding IsStrictlySortedBy
above_all n [] a s = tt
above_all n (x ∷ xs) a s = (a.0, above_all (suc x) xs (all_above x xs s.0) s.1)

all_low : (xs : List ℕ) → AllByRecursion (λ y. 0 ≤ y) xs
all_low [] = tt
all_low (x ∷ xs) = (omega arith, all_low xs)

pub keys_above : (xs : List ℕ) → IsStrictlySortedBy nat_cmp xs → AreAbove 0 xs
keys_above xs s = above_all 0 xs (all_low xs) s

pub member_is : (q : ℕ) (xs : List ℕ) → list_any (eq_by_cmp nat_cmp q) xs ≡ member q xs
member_is q [] = refl
member_is q (x ∷ xs) = let r = member_is q xs in λ j. (at_same q x ∙ nat_eq_comm x q) j || r j

-- where a member stands
pub record Stands (d : ℕ) (rs : List ℕ) : Type 0 where
  pub front : List ℕ
  pub back : List ℕ
  pub parts : rs ≡ front ++ d ∷ back
  pub at : slice_get rs (length front) ≡ Some d

pub stands : (d : ℕ) (rs : List ℕ) → member d rs ≡ true → Stands d rs
stands d [] e = absurd (cc)
stands d (r ∷ rs) e = by_test (nat_eq d r) refl e (stands d rs)
  where
    by_test : (b : Bool) → nat_eq d r ≡ b → (b || member d rs) ≡ true → (member d rs ≡ true → Stands d rs) → Stands d (r ∷ rs)
    by_test true q e go = record { front = []; back = rs; parts = ap (λ x. x ∷ rs) (sym (eqb-true d r q)); at = ap (λ x. Some x) (sym (eqb-true d r q)) }
    by_test false q e go = let s = go e in record { front = r ∷ s.front; back = s.back; parts = ap (λ l. r ∷ l) s.parts; at = s.at }

least_at : (m : ℕ) (rs : List ℕ) (n r : ℕ) → AreAbove m rs → slice_get rs n ≡ Some r → m ≤ r
least_at m [] n r a e = absurd (cc)
least_at m (x ∷ rs) zero r a e = let q : x ≡ r = some_same x r e in let l = a.0 in omega (arith, l, q)
  where
    some_same : (x r : ℕ) → Some x ≡ Some r → x ≡ r
    some_same x r e = cc
least_at m (x ∷ rs) (suc n) r a e = let k = least_at (suc x) rs n r a.1 e in let l = a.0 in omega (arith, k, l)

ascend : (m : ℕ) (rs : List ℕ) (k n d r : ℕ) → AreAbove m rs → slice_get rs k ≡ Some d → slice_get rs n ≡ Some r → k < n → d < r
ascend m [] k n d r a e f l = absurd (cc)
ascend m (x ∷ rs) zero zero d r a e f l = absurd (omega (arith, l))
ascend m (x ∷ rs) zero (suc n) d r a e f l = let q : x ≡ d = some_same x d e in let k = least_at (suc x) rs n r a.1 f in omega (arith, q, k)
  where
    some_same : (x r : ℕ) → Some x ≡ Some r → x ≡ r
    some_same x r e = cc
ascend m (x ∷ rs) (suc k) zero d r a e f l = absurd (omega (arith, l))
ascend m (x ∷ rs) (suc k) (suc n) d r a e f l = ascend (suc x) rs k n d r a.1 e f (omega (arith, l))

pub number_more : (rs : List ℕ) (n r v : ℕ) (old new : BTreeMap ℕ ℕ) → AreAbove 0 rs → slice_get rs n ≡ Some r → v ≡ n → ((d : ℕ) → get nat_cmp new d ≡ (if is_at (nat_cmp r) d then Some v else get nat_cmp old d)) → AreNumbered rs n old → AreNumbered rs (n + 1) new
number_more rs n r v old new a at number update go k d l e = elim (below_suc n k (omega (arith, l))) [
  | inl b ↦
      let less = ascend 0 rs k n d r a e at b in
      update d ∙ ap (λ b. if b then Some v else get nat_cmp old d) (at_same r d ∙ ne_eqb d r (λ q. omega (arith, q, less))) ∙ go k d b e
  | inr q ↦
      let same : r ≡ d = some_same r d (sym at ∙ ap (slice_get rs) (sym q) ∙ e) in
      update d ∙ ap (λ b. if b then Some v else get nat_cmp old d) (at_same r d ∙ eq-eqb d r (sym same)) ∙ ap (λ n. Some n) (number ∙ sym q)
]
  where
    some_same : (x r : ℕ) → Some x ≡ Some r → x ≡ r
    some_same x r e = cc

front_short : (front : List ℕ) (d : ℕ) (back rs : List ℕ) → rs ≡ front ++ d ∷ back → length front < length rs
front_short [] d back rs e = let l = ap length e in omega (arith, l)
front_short (r ∷ front) d back rs e = let l = ap length e in let k = front_short front d back (front ++ d ∷ back) refl in omega (arith, l, k)

pub own_numbers : (r : Record) (rs : List ℕ) (made numbers : BTreeMap ℕ ℕ) → ((d : ℕ) → is_some (get nat_cmp made d) ≡ is_made type_made_in r.code.items d) → ((q : ℕ) → is_some (get nat_cmp made q) ≡ member q rs) → AreAbove 0 rs → AreNumbered rs (length rs) numbers → HasOwnTypes r numbers
own_numbers r rs made numbers is has above numbered d own =
    let test : (q : ℕ) → is_own_type r q ≡ member q rs = λ q. own_is r q ∙ sym (is q) ∙ has q in
    let s = stands d rs (sym (test d) ∙ own) in
    let place = own_number s.front d s.back (is_own_type r) (subst (AreAbove 0) s.parts above) (λ q. test q ∙ ap (member q) s.parts) in
    numbered (length s.front) d (front_short s.front d s.back rs s.parts) s.at ∙ ap (λ n. Some n) (sym place)
