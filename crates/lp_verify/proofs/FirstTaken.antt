-- The number of the instruction that takes a register's term first, noted from the last instruction of a head on.
use Rattle.std.proofs.Common.{◌≡◌, ◌∙◌, ◌≤◌, ◌<◌, ◌+◌, ℕ, ℤ, zero, suc, List, [], ◌∷◌, ◌++◌, length, take, drop, append_assoc, Bool, true, false, Option, Some, None, ap, refl, sym, subst, arith}
use Rattle.std.specs.Prelude.{nat_eq, nat_lt, not, ◌||◌, ◌&&◌, if◌then◌else◌, cond, slice_get, Vec}
use Rattle.std.specs.Global.{Global}
use Rattle.std.specs.List.{list_any}
use Rattle.std.specs.Ordering.{nat_cmp}
use Rattle.std.specs.BTreeMap.{BTreeMap, get, is_at}
use Rattle.std.specs.Map.{lookup}
use Rattle.lp_lemmas.proofs.Lists.{append_nil_sym}
use Rattle.std.proofs.lemmas.Bool.{eqb-true, lt-ltb, le-ltb, ltb-true, ltb-false}
use Rattle.lp_code.specs.declared.instruction.Instr.{Instr}
use Rattle.lp_code.specs.declared.instruction.Instr.TheVariants as on
use Rattle.lp_code.specs.Operands.{term_set}
use Rattle.lp_code.specs.States.{member}
use Rattle.lp_verify.specs.inner.Outline.{body_behind}
use Rattle.lp_verify.specs.inner.Taken.{parts, takes, passed_by, taken_from, before_neck, is_before, AreFirstTaken}
use Rattle.lp_verify.proofs.KeyLaws.{at_same}

-- the earlier of two
pub first_stays : (a b n : ℕ) → a < b → nat_lt a n ≡ (nat_lt b n || nat_lt a n)
first_stays a b n l = by (nat_lt b n) refl
  where
    by : (t : Bool) → nat_lt b n ≡ t → nat_lt a n ≡ (nat_lt b n || nat_lt a n)
    by true e = let m = ltb-true b n e in lt-ltb a n (omega (arith, l, m)) ∙ sym (ap (λ t. t || nat_lt a n) e)
    by false e = sym (ap (λ t. t || nat_lt a n) e)

pub number_stays : (a b n : ℕ) → b ≤ a → nat_lt b n ≡ (nat_lt b n || nat_lt a n)
number_stays a b n l = by (nat_lt a n) refl
  where
    either : (t : Bool) → t ≡ (t || false)
    either true = refl
    either false = refl

    by : (t : Bool) → nat_lt a n ≡ t → nat_lt b n ≡ (nat_lt b n || nat_lt a n)
    by true e = let m = ltb-true a n e in (let below : nat_lt b n ≡ true = lt-ltb b n (omega (arith, l, m)) in below ∙ sym (ap (λ t. t || nat_lt a n) below))
    by false e = either (nat_lt b n) ∙ sym (ap (λ t. nat_lt b n || t) e)

pub only_number : (b n : ℕ) → nat_lt b n ≡ (nat_lt b n || false)
only_number b n = either (nat_lt b n)
  where
    either : (t : Bool) → t ≡ (t || false)
    either true = refl
    either false = refl

-- one register is noted
pub one_noted : (old new : BTreeMap ℕ ℕ) (d number first : ℕ) → ((x : ℕ) → get nat_cmp new x ≡ cond (is_at (nat_cmp d) x) (Some first) (get nat_cmp old x))
    → ((n : ℕ) → nat_lt first n ≡ (nat_lt number n || is_before n (get nat_cmp old d)))
    → (x n : ℕ) → is_before n (get nat_cmp new x) ≡ ((nat_eq x d && nat_lt number n) || is_before n (get nat_cmp old x))
one_noted old new d number first put earlier x n = ap (is_before n) (put x ∙ ap (λ t. cond t (Some first) (get nat_cmp old x)) (at_same d x)) ∙ by (nat_eq x d) refl
  where
    by : (t : Bool) → nat_eq x d ≡ t → is_before n (cond t (Some first) (get nat_cmp old x)) ≡ ((t && nat_lt number n) || is_before n (get nat_cmp old x))
    by true e = earlier n ∙ ap (λ y. nat_lt number n || is_before n (get nat_cmp old y)) (sym (eqb-true x d e))
    by false e = refl

-- several are noted, one behind the other: those so far, and those that are left
abbrev pub AreNotedSoFar : (old now : BTreeMap ℕ ℕ) → (number : ℕ) → (all left : List ℕ) → Type 0
AreNotedSoFar old now k all left = (x n : ℕ) → ((member x left && nat_lt k n) || is_before n (get nat_cmp now x)) ≡ ((member x all && nat_lt k n) || is_before n (get nat_cmp old x))

pub noted_more : (old now next : BTreeMap ℕ ℕ) (k d : ℕ) (all left : List ℕ) → ((x n : ℕ) → is_before n (get nat_cmp next x) ≡ ((nat_eq x d && nat_lt k n) || is_before n (get nat_cmp now x)))
    → AreNotedSoFar old now k all (d ∷ left) → AreNotedSoFar old next k all left
noted_more old now next k d all left step h x n = ap (λ t. (member x left && nat_lt k n) || t) (step x n) ∙ moved (member x left) (nat_eq x d) (nat_lt k n) (is_before n (get nat_cmp now x)) ∙ h x n
  where
    moved : (a b l o : Bool) → ((a && l) || ((b && l) || o)) ≡ (((b || a) && l) || o)
    moved true true true o = refl
    moved true true false o = refl
    moved true false true o = refl
    moved true false false o = refl
    moved false true true o = refl
    moved false true false o = refl
    moved false false true o = refl
    moved false false false o = refl

-- what an instruction passes on
abbrev pub Passes : (i : Instr) (k : ℕ) (old new : BTreeMap ℕ ℕ) → Type 0
Passes i k old new = (f : ℕ → ℕ → Bool) → ((x n : ℕ) → is_before n (get nat_cmp old x) ≡ f n x) → (x n : ℕ) → is_before n (get nat_cmp new x) ≡ passed_by i k n (f n) x

pub passes_same : (i j : Instr) (k : ℕ) (old new : BTreeMap ℕ ℕ) → i ≡ j → Passes j k old new → Passes i k old new
passes_same i j k old new e h = subst (λ i. Passes i k old new) (sym e) h

one_taken : (a l o : Bool) → ((a && l) || o) ≡ (((a || false) && l) || (false || o))
one_taken true l o = refl
one_taken false l o = refl

pub get_passes : (i r k : ℕ) (old new : BTreeMap ℕ ℕ) → ((x n : ℕ) → is_before n (get nat_cmp new x) ≡ ((nat_eq x r && nat_lt k n) || is_before n (get nat_cmp old x))) → Passes (on.Get i r) k old new
get_passes i r k old new step f h x n = step x n ∙ ap (λ o. (nat_eq x r && nat_lt k n) || o) (h x n) ∙ one_taken (nat_eq x r) (nat_lt k n) (f n x)

pub get_var_passes : (i d k : ℕ) (old new : BTreeMap ℕ ℕ) → ((x n : ℕ) → is_before n (get nat_cmp new x) ≡ ((nat_eq x d && nat_lt k n) || is_before n (get nat_cmp old x)))
    → Passes (on.GetVar i d) k old new
get_var_passes i d k old new step f h x n = step x n ∙ ap (λ o. (nat_eq x d && nat_lt k n) || o) (h x n) ∙ taken_made (nat_eq x d) (nat_lt k n) (f n x)
  where
    taken_made : (a l o : Bool) → ((a && l) || o) ≡ (((a || false) && l) || (false || o))
    taken_made true l o = refl
    taken_made false l o = refl

-- the register that is set is in a term that is taken, or not
made_first : (made : ℕ) (old : BTreeMap ℕ ℕ) (f : ℕ → ℕ → Bool) (o : Option ℕ) → o ≡ get nat_cmp old made → ((x n : ℕ) → is_before n (get nat_cmp old x) ≡ f n x) → (n : ℕ) → is_before n o ≡ f n made
made_first made old f o e h n = ap (is_before n) e ∙ h made n

one_part : (a m o : Bool) → ((a && m) || o) ≡ (((a || false) && (m || false)) || o)
one_part true true o = refl
one_part true false o = refl
one_part false m o = refl

pub abs_passes : (d b t k first : ℕ) (o : Option ℕ) (old new : BTreeMap ℕ ℕ) → o ≡ get nat_cmp old d → o ≡ Some first
    → ((x n : ℕ) → is_before n (get nat_cmp new x) ≡ ((nat_eq x b && nat_lt first n) || is_before n (get nat_cmp old x))) → Passes (on.PutAbs d b t) k old new
abs_passes d b t k first o old new e is step f h x n =
    step x n ∙ (λ j. (nat_eq x b && (ap (is_before n) (sym is) ∙ made_first d old f o e h n) j) || h x n j) ∙ one_part (nat_eq x b) (f n d) (f n x)

nothing_passes : (a o : Bool) → o ≡ ((a && false) || o)
nothing_passes true o = refl
nothing_passes false o = refl

pub abs_nothing : (d b t k : ℕ) (o : Option ℕ) (old : BTreeMap ℕ ℕ) → o ≡ get nat_cmp old d → o ≡ None → Passes (on.PutAbs d b t) k old old
abs_nothing d b t k o old e is f h x n =
    h x n ∙ nothing_passes (member x (b ∷ [])) (f n x) ∙ sym (λ j. (member x (b ∷ []) && (sym (made_first d old f o e h n) ∙ ap (is_before n) is) j) || f n x)
    ∙ widen (member x (b ∷ [])) (f n d) (f n x)
  where
    widen : (a m o : Bool) → ((a && m) || o) ≡ ((a && (m || false)) || o)
    widen true true o = refl
    widen true false o = refl
    widen false m o = refl

pub app_passes : (d g k first : ℕ) (v : Vec ℕ Global) (rs : List ℕ) (o : Option ℕ) (old mid new : BTreeMap ℕ ℕ) → rs ≡ v.items → o ≡ get nat_cmp old d → o ≡ Some first
    → ((x n : ℕ) → is_before n (get nat_cmp mid x) ≡ ((member x rs && nat_lt first n) || is_before n (get nat_cmp old x)))
    → ((x n : ℕ) → is_before n (get nat_cmp new x) ≡ ((nat_eq x g && nat_lt first n) || is_before n (get nat_cmp mid x))) → Passes (on.PutApp d g v) k old new
app_passes d g k first v rs o old mid new items e is all one f h x n =
    let m : nat_lt first n ≡ f n d = ap (is_before n) (sym is) ∙ made_first d old f o e h n in
    one x n ∙ ap (λ t. (nat_eq x g && nat_lt first n) || t) (all x n) ∙ (λ j. (nat_eq x g && m j) || ((member x (items j) && m j) || h x n j)) ∙ both (nat_eq x g) (member x v.items) (f n d) (f n x)
  where
    both : (a b m o : Bool) → ((a && m) || ((b && m) || o)) ≡ (((a || b) && (m || false)) || o)
    both true true true o = refl
    both true true false o = refl
    both true false true o = refl
    both true false false o = refl
    both false true true o = refl
    both false true false o = refl
    both false false m o = refl

pub app_nothing : (d g k : ℕ) (v : Vec ℕ Global) (o : Option ℕ) (old : BTreeMap ℕ ℕ) → o ≡ get nat_cmp old d → o ≡ None → Passes (on.PutApp d g v) k old old
app_nothing d g k v o old e is f h x n =
    h x n ∙ nothing_passes (member x (g ∷ v.items)) (f n x) ∙ sym (λ j. (member x (g ∷ v.items) && (sym (made_first d old f o e h n) ∙ ap (is_before n) is) j) || f n x)
    ∙ widen (member x (g ∷ v.items)) (f n d) (f n x)
  where
    widen : (a m o : Bool) → ((a && m) || o) ≡ ((a && (m || false)) || o)
    widen true true o = refl
    widen true false o = refl
    widen false m o = refl

pub other_passes : (i : Instr) (k : ℕ) (old : BTreeMap ℕ ℕ) → ((x r : ℕ) → i ≡ on.Get x r → ⊥) → ((x d : ℕ) → i ≡ on.GetVar x d → ⊥) → ((d b t : ℕ) → i ≡ on.PutAbs d b t → ⊥)
    → ((d g : ℕ) (v : Vec ℕ Global) → i ≡ on.PutApp d g v → ⊥) → Passes i k old old
other_passes (on.TyCon d0 d1 ts) k old n0 n1 n2 n3 f h x n = h x n
other_passes (on.TyArr d0 d1 d2) k old n0 n1 n2 n3 f h x n = h x n
other_passes (on.TyNew d0) k old n0 n1 n2 n3 f h x n = h x n
other_passes (on.New d0 d1) k old n0 n1 n2 n3 f h x n = h x n
other_passes (on.PutConst d0 d1 ts) k old n0 n1 n2 n3 f h x n = h x n
other_passes (on.PutInt d0 z) k old n0 n1 n2 n3 f h x n = h x n
other_passes (on.PutStr d0 z) k old n0 n1 n2 n3 f h x n = h x n
other_passes (on.PutIndex d0 d1 d2) k old n0 n1 n2 n3 f h x n = h x n
other_passes (on.PutAbs d0 d1 d2) k old n0 n1 n2 n3 f h x n = absurd (n2 d0 d1 d2 refl)
other_passes (on.PutApp d0 d1 v) k old n0 n1 n2 n3 f h x n = absurd (n3 d0 d1 v refl)
other_passes (on.GetType d0 d1) k old n0 n1 n2 n3 f h x n = h x n
other_passes (on.GetVar d0 d1) k old n0 n1 n2 n3 f h x n = absurd (n1 d0 d1 refl)
other_passes (on.Get d0 d1) k old n0 n1 n2 n3 f h x n = absurd (n0 d0 d1 refl)
other_passes (on.GetConst d0 d1 ts) k old n0 n1 n2 n3 f h x n = h x n
other_passes (on.GetInt d0 z) k old n0 n1 n2 n3 f h x n = h x n
other_passes (on.GetStr d0 z) k old n0 n1 n2 n3 f h x n = h x n
other_passes on.Neck k old n0 n1 n2 n3 f h x n = h x n
other_passes (on.Call d0 ts rs) k old n0 n1 n2 n3 f h x n = h x n
other_passes (on.CallTerm d0) k old n0 n1 n2 n3 f h x n = h x n
other_passes (on.Equal d0 d1 d2) k old n0 n1 n2 n3 f h x n = h x n
other_passes (on.Is d0 d1 d2) k old n0 n1 n2 n3 f h x n = h x n
other_passes (on.Less d0 d1) k old n0 n1 n2 n3 f h x n = h x n
other_passes (on.Greater d0 d1) k old n0 n1 n2 n3 f h x n = h x n
other_passes (on.AtMost d0 d1) k old n0 n1 n2 n3 f h x n = h x n
other_passes (on.AtLeast d0 d1) k old n0 n1 n2 n3 f h x n = h x n
other_passes on.Cut k old n0 n1 n2 n3 f h x n = h x n
other_passes (on.Sigma d0 d1) k old n0 n1 n2 n3 f h x n = h x n
other_passes (on.All d0 d1) k old n0 n1 n2 n3 f h x n = h x n
other_passes on.EndAll k old n0 n1 n2 n3 f h x n = h x n
other_passes (on.Assume ns ts rs) k old n0 n1 n2 n3 f h x n = h x n
other_passes on.EndAssume k old n0 n1 n2 n3 f h x n = h x n
other_passes (on.Either d0) k old n0 n1 n2 n3 f h x n = h x n
other_passes (on.Jump d0) k old n0 n1 n2 n3 f h x n = h x n
other_passes on.Proceed k old n0 n1 n2 n3 f h x n = h x n
other_passes on.Not k old n0 n1 n2 n3 f h x n = h x n
other_passes on.EndNot k old n0 n1 n2 n3 f h x n = h x n

-- the instructions before the first NECK
abbrev pub IsBeforeNeck : (code : List Instr) → ℕ → Type 0
IsBeforeNeck code n = before_neck code ≡ take n code ++ before_neck (drop n code)

taken_more : (code : List Instr) (n : ℕ) (i : Instr) → drop n code ≡ i ∷ drop (n + 1) code → take (n + 1) code ≡ take n code ++ i ∷ []
taken_more [] zero i e = absurd (cc)
taken_more [] (suc n) i e = absurd (cc)
taken_more (c ∷ code) zero i e = ap (λ x. x ∷ []) (same c i e)
  where
    same : (c i : Instr) {is js : List Instr} → c ∷ is ≡ i ∷ js → c ≡ i
    same c i e = cc
taken_more (c ∷ code) (suc n) i e = let k : suc n + 1 ≡ suc (n + 1) = omega arith in ap (λ m. take m (c ∷ code)) k ∙ ap (λ l. c ∷ l) (taken_more code n i (e ∙ ap (λ m. i ∷ drop m (c ∷ code)) k))

pub neck_passed : (code : List Instr) (n : ℕ) (i : Instr) → drop n code ≡ i ∷ drop (n + 1) code → body_behind i false ≡ false → IsBeforeNeck code n → IsBeforeNeck code (n + 1)
neck_passed code n i e f h =
    h ∙ ap (λ l. take n code ++ before_neck l) e ∙ ap (λ b. take n code ++ (if b then [] else i ∷ before_neck (drop (n + 1) code))) f
    ∙ sym (append_assoc (take n code) (i ∷ []) (before_neck (drop (n + 1) code)))
    ∙ ap (λ l. l ++ before_neck (drop (n + 1) code)) (sym (taken_more code n i e))

pub neck_found : (code : List Instr) (n : ℕ) (i : Instr) → drop n code ≡ i ∷ drop (n + 1) code → body_behind i false ≡ true → IsBeforeNeck code n → take n code ≡ before_neck code
neck_found code n i e f h = append_nil_sym (take n code) ∙ sym (h ∙ ap (λ l. take n code ++ before_neck l) e ∙ ap (λ b. take n code ++ (if b then [] else i ∷ before_neck (drop (n + 1) code))) f)

pub no_neck : (code : List Instr) (n : ℕ) → drop n code ≡ [] → IsBeforeNeck code n → take n code ≡ before_neck code
no_neck code n e h = append_nil_sym (take n code) ∙ sym (h ∙ ap (λ l. take n code ++ before_neck l) e)

-- the head, from its end on
pub one_passed : (is : List Instr) (k : ℕ) (i : Instr) (old new : BTreeMap ℕ ℕ) → drop k is ≡ i ∷ drop (k + 1) is → AreFirstTaken (k + 1) (drop (k + 1) is) old → Passes i k old new
    → AreFirstTaken k (drop k is) new
one_passed is k i old new e h p x n =
    let next : k + 1 ≡ suc k = omega arith in
    p (λ n x. taken_from (suc k) n (drop (k + 1) is) x) (subst (λ q. AreFirstTaken q (drop (k + 1) is) old) next h) x n ∙ sym (ap (λ l. taken_from k n l x) e)

pub at_front : {A : Type 0} (xs : List A) (n k : ℕ) (x : A) → k < n → slice_get xs k ≡ Some x → drop k (take n xs) ≡ x ∷ drop (k + 1) (take n xs)
at_front xs zero k x l e = absurd (omega (arith, l))
at_front [] (suc n) k x l e = absurd (cc)
at_front (y ∷ xs) (suc n) zero x l e = ap (λ z. z ∷ take n xs) (same y x e)
  where
    same : {A : Type 0} (y x : A) → Some y ≡ Some x → y ≡ x
    same y x e = cc
at_front (y ∷ xs) (suc n) (suc k) x l e = let q : suc k + 1 ≡ suc (k + 1) = omega arith in at_front xs n k x (omega (arith, l)) e ∙ ap (λ m. x ∷ drop m (y ∷ take n xs)) (sym q)

end_taken : {A : Type 0} (xs : List A) (n : ℕ) → drop n (take n xs) ≡ []
end_taken xs zero = refl
end_taken [] (suc n) = refl
end_taken (x ∷ xs) (suc n) = end_taken xs n

pub none_first : (code : List Instr) (n : ℕ) (m : BTreeMap ℕ ℕ) → take n code ≡ before_neck code → m.entries ≡ [] → AreFirstTaken n (drop n (before_neck code)) m
none_first code n m e none x q = ap (λ es. is_before q (lookup (is_at (nat_cmp x)) es)) none ∙ ap (λ l. taken_from n q l x) (sym (end_taken code n) ∙ ap (drop n) e)

pub one_first : (code : List Instr) (n k next : ℕ) (i : Instr) (old new : BTreeMap ℕ ℕ) → take n code ≡ before_neck code → k < n → next ≡ k + 1 → slice_get code k ≡ Some i → Passes i k old new
    → AreFirstTaken next (drop next (before_neck code)) old → AreFirstTaken k (drop k (before_neck code)) new
one_first code n k next i old new e l f at p h =
    one_passed (before_neck code) k i old new (subst (λ is. drop k is ≡ i ∷ drop (k + 1) is) e (at_front code n k i l at)) (subst (λ q. AreFirstTaken q (drop q (before_neck code)) old) f h) p
