-- Where the instructions stand: what is kept by offset is what the definition counts from an EITHER or a JUMP on.
use Rattle.std.proofs.Common.{◌≡◌, ◌∙◌, ◌≤◌, ◌<◌, ℕ, suc, ◌+◌, ◌-◌, List, [], ◌∷◌, ◌++◌, length, Bool, true, false, Option, Some, None, ap, refl, sym, arith, inl, inr}
use Rattle.std.specs.Prelude.{nat_eq, nat_lt, nat_le, not, ◌||◌, if◌then◌else◌, is_some, slice_get, unwrap_or, ◌⊎◌}
use Rattle.std.specs.List.{list_any}
use Rattle.std.specs.Prelude.{◌^◌, cond}
use Rattle.std.specs.Ordering.{nat_cmp}
use Rattle.std.specs.BTreeMap.{BTreeMap, get, is_at}
use Rattle.std.specs.Map.{lookup}
use Rattle.std.proofs.Common.{zero-add}
use Rattle.lp_verify.proofs.KeyLaws.{at_same}
use Rattle.std.proofs.lemmas.Bool.{ne_eqb, eq-eqb, eqb-true, eqb-false, lt-ltb, le-ltb, ltb-true, ltb-false, leb-true, leb-false}
use Rattle.lp_code.specs.declared.instruction.Instr.{Instr}
use Rattle.lp_code.specs.declared.instruction.Instr.TheVariants as on
use Rattle.lp_code.specs.Length.{length_of}
use Rattle.lp_code.specs.States.{State}
use Rattle.lp_code.specs.Rules.{ends_with_jump, begins_behind, has_none, nesting_limit, breaks_nesting}
use Rattle.lp_code.specs.Denote.{ends_with_proceed}
use Rattle.lp_verify.specs.declared.blocks.Block as kept
use Rattle.lp_verify.specs.declared.blocks.Block.TheVariants as open_block
use Rattle.lp_verify.specs.Judged.{bytes_of}
use Rattle.lp_verify.specs.inner.Sides.{sides_of, sides_run, sides_acted, starts_from, is_jump, is_turn, nests_badly, is_proceed, before_those, PlacesSoFar}
use Rattle.lp_verify.proofs.Sides.{sides_deep, same_left, same_all, same_assumption, same_negation, same_none}

pub some_bytes : (i : Instr) → 1 ≤ length_of i
some_bytes (on.TyCon d k ts) = omega arith
some_bytes (on.TyArr d a b) = omega arith
some_bytes (on.TyNew d) = omega arith
some_bytes (on.New d t) = omega arith
some_bytes (on.PutConst d c ts) = omega arith
some_bytes (on.PutInt d z) = omega arith
some_bytes (on.PutStr d b) = omega arith
some_bytes (on.PutIndex d i t) = omega arith
some_bytes (on.PutAbs d b t) = omega arith
some_bytes (on.PutApp d f rs) = omega arith
some_bytes (on.GetType j t) = omega arith
some_bytes (on.GetVar i d) = omega arith
some_bytes (on.Get i r) = omega arith
some_bytes (on.GetConst i c ts) = omega arith
some_bytes (on.GetInt i z) = omega arith
some_bytes (on.GetStr i b) = omega arith
some_bytes on.Neck = omega arith
some_bytes (on.Call c ts rs) = omega arith
some_bytes (on.CallTerm r) = omega arith
some_bytes (on.Equal t l r) = omega arith
some_bytes (on.Is t l r) = omega arith
some_bytes (on.Less l r) = omega arith
some_bytes (on.Greater l r) = omega arith
some_bytes (on.AtMost l r) = omega arith
some_bytes (on.AtLeast l r) = omega arith
some_bytes on.Cut = omega arith
some_bytes (on.Sigma d t) = omega arith
some_bytes (on.All d t) = omega arith
some_bytes on.EndAll = omega arith
some_bytes (on.Assume ns ts rs) = omega arith
some_bytes on.EndAssume = omega arith
some_bytes (on.Either n) = omega arith
some_bytes (on.Jump n) = omega arith
some_bytes on.Proceed = omega arith
some_bytes on.Not = omega arith
some_bytes on.EndNot = omega arith

-- no instruction begins before the first one
pub none_before : (p q : ℕ) (is : List Instr) → q < p → starts_from p is q ≡ None
none_before p q [] h = refl
none_before p q (i ∷ is) h =
    ap (λ b. if b then Some (is_jump i) else starts_from (p + length_of i) is q) (ne_eqb q p (λ e. omega (arith, h, e))) ∙ none_before (p + length_of i) q is (omega (arith, h))

-- behind those that were run
pub starts_behind : (p q r : ℕ) (run left : List Instr) → p + bytes_of run ≡ r → r ≤ q → starts_from p (run ++ left) q ≡ starts_from r left q
starts_behind p q r [] left e h = let z : p ≡ r = omega (arith, e) in ap (λ n. starts_from n left q) z
starts_behind p q r (i ∷ run) left e h =
    let some = some_bytes i in
    let count : p + (length_of i + bytes_of run) ≡ r = e in
    ap (λ b. if b then Some (is_jump i) else starts_from (p + length_of i) (run ++ left) q) (ne_eqb q p (λ z. omega (arith, h, z, some, count)))
    ∙ starts_behind (p + length_of i) q r run left (omega (arith, count)) h

-- an instruction is a JUMP or is passed
abbrev IsPassed : Instr → Type 0
IsPassed i = (is_jump i ≡ false) × ((n : ℕ) (is : List Instr) → ends_with_jump n (i ∷ is) ≡ (if nat_le n (length_of i) then false else ends_with_jump (n - length_of i) is))

jump_or_passed : (i : Instr) → ((m : ℕ) × (i ≡ on.Jump m)) ⊎ IsPassed i
jump_or_passed (on.TyCon d k ts) = inr (refl, λ n is. refl)
jump_or_passed (on.TyArr d a b) = inr (refl, λ n is. refl)
jump_or_passed (on.TyNew d) = inr (refl, λ n is. refl)
jump_or_passed (on.New d t) = inr (refl, λ n is. refl)
jump_or_passed (on.PutConst d c ts) = inr (refl, λ n is. refl)
jump_or_passed (on.PutInt d z) = inr (refl, λ n is. refl)
jump_or_passed (on.PutStr d b) = inr (refl, λ n is. refl)
jump_or_passed (on.PutIndex d x t) = inr (refl, λ n is. refl)
jump_or_passed (on.PutAbs d b t) = inr (refl, λ n is. refl)
jump_or_passed (on.PutApp d g rs) = inr (refl, λ n is. refl)
jump_or_passed (on.GetType j t) = inr (refl, λ n is. refl)
jump_or_passed (on.GetVar x d) = inr (refl, λ n is. refl)
jump_or_passed (on.Get x r) = inr (refl, λ n is. refl)
jump_or_passed (on.GetConst x c ts) = inr (refl, λ n is. refl)
jump_or_passed (on.GetInt x z) = inr (refl, λ n is. refl)
jump_or_passed (on.GetStr x b) = inr (refl, λ n is. refl)
jump_or_passed on.Neck = inr (refl, λ n is. refl)
jump_or_passed (on.Call c ts rs) = inr (refl, λ n is. refl)
jump_or_passed (on.CallTerm r) = inr (refl, λ n is. refl)
jump_or_passed (on.Equal t l r) = inr (refl, λ n is. refl)
jump_or_passed (on.Is t l r) = inr (refl, λ n is. refl)
jump_or_passed (on.Less l r) = inr (refl, λ n is. refl)
jump_or_passed (on.Greater l r) = inr (refl, λ n is. refl)
jump_or_passed (on.AtMost l r) = inr (refl, λ n is. refl)
jump_or_passed (on.AtLeast l r) = inr (refl, λ n is. refl)
jump_or_passed on.Cut = inr (refl, λ n is. refl)
jump_or_passed (on.Sigma d t) = inr (refl, λ n is. refl)
jump_or_passed (on.All d t) = inr (refl, λ n is. refl)
jump_or_passed on.EndAll = inr (refl, λ n is. refl)
jump_or_passed (on.Assume ns ts rs) = inr (refl, λ n is. refl)
jump_or_passed on.EndAssume = inr (refl, λ n is. refl)
jump_or_passed (on.Either n) = inr (refl, λ n is. refl)
jump_or_passed (on.Jump n) = inl (n, refl)
jump_or_passed on.Proceed = inr (refl, λ n is. refl)
jump_or_passed on.Not = inr (refl, λ n is. refl)
jump_or_passed on.EndNot = inr (refl, λ n is. refl)

not_within : (n : ℕ) (is : List Instr) → n < 5 → ends_with_jump n is ≡ false
not_within n [] h = refl
not_within n (i ∷ is) h = elim (jump_or_passed i) [
  | inl (m, e) ↦ ap (λ j. ends_with_jump n (j ∷ is)) e ∙ ap (λ b. if b then true else (if nat_lt n 5 then false else ends_with_jump (n - 5) is)) (ne_eqb n 5 (λ e. omega (arith, h, e))) ∙ ap (λ b. if b then false else ends_with_jump (n - 5) is) (lt-ltb n 5 h)
  | inr k ↦ k.1 n is ∙ either_way (nat_le n (length_of i)) (not_within (n - length_of i) is (omega (arith, h)))
]
  where
    either_way : {e : Bool} (b : Bool) → e ≡ false → (if b then false else e) ≡ false
    either_way true h = refl
    either_way false h = h

-- a JUMP that ends so many bytes
jump_at : (n p q m : ℕ) (is : List Instr) (b : Bool) → nat_eq n 5 ≡ b → q + 5 ≡ p + n → 5 ≤ n → (5 ≤ n → ends_with_jump (n - 5) is ≡ unwrap_or (starts_from (p + 5) is q) false)
    → (if b then true else (if nat_lt n 5 then false else ends_with_jump (n - 5) is)) ≡ unwrap_or (if nat_eq q p then Some true else starts_from (p + 5) is q) false
jump_at n p q m is true h e l go =
    let five = eqb-true n 5 h in
    sym (ap (λ b. unwrap_or (if b then Some true else starts_from (p + 5) is q) false) (eq-eqb q p (omega (arith, e, five))))
jump_at n p q m is false h e l go =
    ap (λ b. if b then false else ends_with_jump (n - 5) is) (le-ltb n 5 l) ∙ go l
    ∙ sym (ap (λ b. unwrap_or (if b then Some true else starts_from (p + 5) is q) false) (ne_eqb q p (λ z. eqb-false n 5 h (omega (arith, e, z)))))

pass_at : (n p q l : ℕ) (j : Bool) (is : List Instr) (b c : Bool) → j ≡ false → nat_le n l ≡ b → nat_eq q p ≡ c → q + 5 ≡ p + n → 1 ≤ l → (l < n → ends_with_jump (n - l) is ≡ unwrap_or (starts_from (p + l) is q) false)
    → (if b then false else ends_with_jump (n - l) is) ≡ unwrap_or (if c then Some j else starts_from (p + l) is q) false
pass_at n p q l j is true true a h k e o go = sym a
pass_at n p q l j is true false a h k e o go = let small = leb-true n l h in sym (ap (λ o. unwrap_or o false) (none_before (p + l) q is (omega (arith, small, e))))
pass_at n p q l j is false true a h k e o go = let big = leb-false n l h in let same = eqb-true q p k in not_within (n - l) is (omega (arith, big, same, e, o)) ∙ sym a
pass_at n p q l j is false false a h k e o go = let big = leb-false n l h in go big

at_jump : (n p q m : ℕ) (is : List Instr) → q + 5 ≡ p + n → (b : Bool) → nat_lt n 5 ≡ b → (5 ≤ n → ends_with_jump (n - 5) is ≡ unwrap_or (starts_from (p + 5) is q) false)
    → ends_with_jump n (on.Jump m ∷ is) ≡ unwrap_or (starts_from p (on.Jump m ∷ is) q) false
at_jump n p q m is e true h go =
    let l = ltb-true n 5 h in
    not_within n (on.Jump m ∷ is) l ∙ sym (ap (λ o. unwrap_or o false) (none_before p q (on.Jump m ∷ is) (omega (arith, l, e))))
at_jump n p q m is e false h go = jump_at n p q m is (nat_eq n 5) refl e (ltb-false n 5 h) go

found : (n p q : ℕ) (is : List Instr) → q + 5 ≡ p + n → ends_with_jump n is ≡ unwrap_or (starts_from p is q) false
found n p q [] e = refl
found n p q (i ∷ is) e = elim (jump_or_passed i) [
  | inl (m, f) ↦ ap (λ j. ends_with_jump n (j ∷ is)) f ∙ at_jump n p q m is e (nat_lt n 5) refl (λ l. found (n - 5) (p + 5) q is (omega (arith, e, l))) ∙ sym (ap (λ j. unwrap_or (starts_from p (j ∷ is) q) false) f)
  | inr k ↦ k.1 n is ∙ pass_at n p q (length_of i) (is_jump i) is (nat_le n (length_of i)) (nat_eq q p) k.0 refl refl e (some_bytes i) (λ l. found (n - length_of i) (p + length_of i) q is (omega (arith, e, l)))
]

either_found : (n p : ℕ) (is : List Instr) → unwrap_or (starts_from p (on.Either n ∷ is) (p + n)) false ≡ ends_with_jump n is
either_found n p is = by_place (nat_eq (p + n) p) refl
  where
    by_place : (b : Bool) → nat_eq (p + n) p ≡ b → unwrap_or (if b then Some false else starts_from (p + 5) is (p + n)) false ≡ ends_with_jump n is
    by_place true h = let z = eqb-true (p + n) p h in sym (not_within n is (omega (arith, z)))
    by_place false h = sym (found n (p + 5) (p + n) is (omega arith))

-- an instruction begins behind so many bytes
begin_at : (n p q l : ℕ) (j : Bool) (is : List Instr) (b c : Bool) → nat_eq n 0 ≡ b → nat_lt n l ≡ c → q ≡ p + n → (l ≤ n → begins_behind (n - l) is ≡ is_some (starts_from (p + l) is q))
    → (if b then true else (if c then false else begins_behind (n - l) is)) ≡ is_some (if nat_eq q p then Some j else starts_from (p + l) is q)
begin_at n p q l j is true c h k e go = let z = eqb-true n 0 h in sym (ap (λ b. is_some (if b then Some j else starts_from (p + l) is q)) (eq-eqb q p (omega (arith, e, z))))
begin_at n p q l j is false true h k e go =
    let small = ltb-true n l k in
    sym (ap (λ b. is_some (if b then Some j else starts_from (p + l) is q)) (ne_eqb q p (λ z. eqb-false n 0 h (omega (arith, e, z)))) ∙ ap is_some (none_before (p + l) q is (omega (arith, e, small))))
begin_at n p q l j is false false h k e go =
    go (ltb-false n l k) ∙ sym (ap (λ b. is_some (if b then Some j else starts_from (p + l) is q)) (ne_eqb q p (λ z. eqb-false n 0 h (omega (arith, e, z)))))

begins_found : (n p q : ℕ) (is : List Instr) → q ≡ p + n → begins_behind n is ≡ is_some (starts_from p is q)
begins_found n p q [] e = refl
begins_found n p q (i ∷ is) e = begin_at n p q (length_of i) (is_jump i) is (nat_eq n 0) (nat_lt n (length_of i)) refl refl e (λ l. begins_found (n - length_of i) (p + length_of i) q is (omega (arith, e, l)))

jump_begins : (n p : ℕ) (is : List Instr) → is_some (starts_from p (on.Jump n ∷ is) (p + 5 + n)) ≡ begins_behind n is
jump_begins n p is =
    ap (λ b. is_some (if b then Some true else starts_from (p + 5) is (p + 5 + n))) (ne_eqb (p + 5 + n) p (λ e. omega (arith, e))) ∙ sym (begins_found n (p + 5) (p + 5 + n) is refl)

-- the rule on blocks at work is that of the definition
pub same_nesting : (s : State) (is : List Instr) (i : Instr) (starts : ℕ → Option Bool) (last : Bool) → last ≡ has_none is → (is_turn i ≡ true → (q : ℕ) → s.place ≤ q → starts q ≡ starts_from s.place (i ∷ is) q)
    → nests_badly s.place starts last (sides_of s.frames) i ≡ breaks_nesting s is i
same_nesting s is (on.TyCon d k ts) starts last e at = refl
same_nesting s is (on.TyArr d a b) starts last e at = refl
same_nesting s is (on.TyNew d) starts last e at = refl
same_nesting s is (on.New d t) starts last e at = refl
same_nesting s is (on.PutConst d c ts) starts last e at = refl
same_nesting s is (on.PutInt d z) starts last e at = refl
same_nesting s is (on.PutStr d b) starts last e at = refl
same_nesting s is (on.PutIndex d x t) starts last e at = refl
same_nesting s is (on.PutAbs d b t) starts last e at = refl
same_nesting s is (on.PutApp d g rs) starts last e at = refl
same_nesting s is (on.GetType j t) starts last e at = refl
same_nesting s is (on.GetVar x d) starts last e at = refl
same_nesting s is (on.Get x r) starts last e at = refl
same_nesting s is (on.GetConst x c ts) starts last e at = refl
same_nesting s is (on.GetInt x z) starts last e at = refl
same_nesting s is (on.GetStr x b) starts last e at = refl
same_nesting s is on.Neck starts last e at = refl
same_nesting s is (on.Call c ts rs) starts last e at = refl
same_nesting s is (on.CallTerm r) starts last e at = refl
same_nesting s is (on.Equal t l r) starts last e at = refl
same_nesting s is (on.Is t l r) starts last e at = refl
same_nesting s is (on.Less l r) starts last e at = refl
same_nesting s is (on.Greater l r) starts last e at = refl
same_nesting s is (on.AtMost l r) starts last e at = refl
same_nesting s is (on.AtLeast l r) starts last e at = refl
same_nesting s is on.Cut starts last e at = refl
same_nesting s is (on.Sigma d t) starts last e at = refl
same_nesting s is (on.All d t) starts last e at = ap (nat_le nesting_limit) (sym (sides_deep s.frames))
same_nesting s is on.EndAll starts last e at = ap (λ b. not b) (same_all s.frames)
same_nesting s is (on.Assume ns ts rs) starts last e at = ap (nat_le nesting_limit) (sym (sides_deep s.frames))
same_nesting s is on.EndAssume starts last e at = ap (λ b. not b) (same_assumption s.frames)
same_nesting s is (on.Either n) starts last e at = (λ j. (ap (nat_le nesting_limit) (sym (sides_deep s.frames))) j || not ((ap (λ o. unwrap_or o false) (at refl (s.place + n) (omega arith)) ∙ either_found n s.place is) j))
same_nesting s is (on.Jump n) starts last e at = (λ j. not (same_left (s.place + 5) s.frames j) || not ((ap is_some (at refl (s.place + 5 + n) (omega arith)) ∙ jump_begins n s.place is) j))
same_nesting s is on.Proceed starts last e at = (λ j. same_none s.frames j || not (e j))
same_nesting s is on.Not starts last e at = ap (nat_le nesting_limit) (sym (sides_deep s.frames))
same_nesting s is on.EndNot starts last e at = ap (λ b. not b) (same_negation s.frames)

-- where the rule is kept, the blocks are those of the definition
jump_ran : (p n : ℕ) (starts : ℕ → Option Bool) (last : Bool) (ss : List kept.Block) → nests_badly p starts last ss (on.Jump n) ≡ false → sides_run (on.Jump n) p ss ≡ sides_acted (on.Jump n) p ss
jump_ran p n starts last [] h = absurd (cc)
jump_ran p n starts last (s ∷ ss) h = refl

all_ran : (p : ℕ) (starts : ℕ → Option Bool) (last : Bool) (ss : List kept.Block) → nests_badly p starts last ss on.EndAll ≡ false → sides_run on.EndAll p ss ≡ sides_acted on.EndAll p ss
all_ran p starts last [] h = refl
all_ran p starts last (open_block.All ∷ ss) h = refl
all_ran p starts last (open_block.Assumption ∷ ss) h = refl
all_ran p starts last (open_block.Negation ∷ ss) h = refl
all_ran p starts last (open_block.Right n ∷ ss) h = refl
all_ran p starts last (open_block.Left n ∷ ss) h = absurd (cc)

assumption_ran : (p : ℕ) (starts : ℕ → Option Bool) (last : Bool) (ss : List kept.Block) → nests_badly p starts last ss on.EndAssume ≡ false → sides_run on.EndAssume p ss ≡ sides_acted on.EndAssume p ss
assumption_ran p starts last [] h = refl
assumption_ran p starts last (open_block.All ∷ ss) h = refl
assumption_ran p starts last (open_block.Assumption ∷ ss) h = refl
assumption_ran p starts last (open_block.Negation ∷ ss) h = refl
assumption_ran p starts last (open_block.Right n ∷ ss) h = refl
assumption_ran p starts last (open_block.Left n ∷ ss) h = absurd (cc)

negation_ran : (p : ℕ) (starts : ℕ → Option Bool) (last : Bool) (ss : List kept.Block) → nests_badly p starts last ss on.EndNot ≡ false → sides_run on.EndNot p ss ≡ sides_acted on.EndNot p ss
negation_ran p starts last [] h = refl
negation_ran p starts last (open_block.All ∷ ss) h = refl
negation_ran p starts last (open_block.Assumption ∷ ss) h = refl
negation_ran p starts last (open_block.Negation ∷ ss) h = refl
negation_ran p starts last (open_block.Right n ∷ ss) h = refl
negation_ran p starts last (open_block.Left n ∷ ss) h = absurd (cc)

pub ran_acted : (i : Instr) (p : ℕ) (starts : ℕ → Option Bool) (last : Bool) (ss : List kept.Block) → nests_badly p starts last ss i ≡ false → sides_run i p ss ≡ sides_acted i p ss
ran_acted (on.TyCon d k ts) p starts last ss h = refl
ran_acted (on.TyArr d a b) p starts last ss h = refl
ran_acted (on.TyNew d) p starts last ss h = refl
ran_acted (on.New d t) p starts last ss h = refl
ran_acted (on.PutConst d c ts) p starts last ss h = refl
ran_acted (on.PutInt d z) p starts last ss h = refl
ran_acted (on.PutStr d b) p starts last ss h = refl
ran_acted (on.PutIndex d x t) p starts last ss h = refl
ran_acted (on.PutAbs d b t) p starts last ss h = refl
ran_acted (on.PutApp d g rs) p starts last ss h = refl
ran_acted (on.GetType j t) p starts last ss h = refl
ran_acted (on.GetVar x d) p starts last ss h = refl
ran_acted (on.Get x r) p starts last ss h = refl
ran_acted (on.GetConst x c ts) p starts last ss h = refl
ran_acted (on.GetInt x z) p starts last ss h = refl
ran_acted (on.GetStr x b) p starts last ss h = refl
ran_acted on.Neck p starts last ss h = refl
ran_acted (on.Call c ts rs) p starts last ss h = refl
ran_acted (on.CallTerm r) p starts last ss h = refl
ran_acted (on.Equal t l r) p starts last ss h = refl
ran_acted (on.Is t l r) p starts last ss h = refl
ran_acted (on.Less l r) p starts last ss h = refl
ran_acted (on.Greater l r) p starts last ss h = refl
ran_acted (on.AtMost l r) p starts last ss h = refl
ran_acted (on.AtLeast l r) p starts last ss h = refl
ran_acted on.Cut p starts last ss h = refl
ran_acted (on.Sigma d t) p starts last ss h = refl
ran_acted (on.All d t) p starts last ss h = refl
ran_acted on.EndAll p starts last ss h = all_ran p starts last ss h
ran_acted (on.Assume ns ts rs) p starts last ss h = refl
ran_acted on.EndAssume p starts last ss h = assumption_ran p starts last ss h
ran_acted (on.Either n) p starts last ss h = refl
ran_acted (on.Jump n) p starts last ss h = jump_ran p n starts last ss h
ran_acted on.Proceed p starts last ss h = refl
ran_acted on.Not p starts last ss h = refl
ran_acted on.EndNot p starts last ss h = negation_ran p starts last ss h

-- the last instruction
pub last_is : (m n : ℕ) (is : List Instr) → m + suc (length is) ≡ n → nat_eq (m + 1) n ≡ has_none is
last_is m n [] e = let z : m + suc 0 ≡ n = e in eq-eqb (m + 1) n (omega (arith, z))
last_is m n (i ∷ is) e = let z : m + suc (suc (length is)) ≡ n = e in ne_eqb (m + 1) n (λ w. omega (arith, z, w))

pub turn_there : (run : List Instr) (i : Instr) (is : List Instr) → is_turn i ≡ true → list_any is_turn (run ++ i ∷ is) ≡ true
turn_there [] i is h = ap (λ b. b || list_any is_turn is) h
turn_there (j ∷ run) i is h = ap (λ b. is_turn j || b) (turn_there run i is h) ∙ or_true (is_turn j)
  where
    or_true : (b : Bool) → (b || true) ≡ true
    or_true true = refl
    or_true false = refl

pub bytes_more : (run : List Instr) (i : Instr) → bytes_of (run ++ i ∷ []) ≡ bytes_of run + length_of i
bytes_more [] i = omega arith
bytes_more (j ∷ run) i = let h = bytes_more run i in ap (λ n. length_of j + n) h ∙ omega arith

-- the last instruction of all
one_ends : (i : Instr) → ends_with_proceed (i ∷ []) ≡ is_proceed (Some i)
one_ends (on.TyCon d k ts) = refl
one_ends (on.TyArr d a b) = refl
one_ends (on.TyNew d) = refl
one_ends (on.New d t) = refl
one_ends (on.PutConst d c ts) = refl
one_ends (on.PutInt d z) = refl
one_ends (on.PutStr d b) = refl
one_ends (on.PutIndex d x t) = refl
one_ends (on.PutAbs d b t) = refl
one_ends (on.PutApp d g rs) = refl
one_ends (on.GetType j t) = refl
one_ends (on.GetVar x d) = refl
one_ends (on.Get x r) = refl
one_ends (on.GetConst x c ts) = refl
one_ends (on.GetInt x z) = refl
one_ends (on.GetStr x b) = refl
one_ends on.Neck = refl
one_ends (on.Call c ts rs) = refl
one_ends (on.CallTerm r) = refl
one_ends (on.Equal t l r) = refl
one_ends (on.Is t l r) = refl
one_ends (on.Less l r) = refl
one_ends (on.Greater l r) = refl
one_ends (on.AtMost l r) = refl
one_ends (on.AtLeast l r) = refl
one_ends on.Cut = refl
one_ends (on.Sigma d t) = refl
one_ends (on.All d t) = refl
one_ends on.EndAll = refl
one_ends (on.Assume ns ts rs) = refl
one_ends on.EndAssume = refl
one_ends (on.Either n) = refl
one_ends (on.Jump n) = refl
one_ends on.Proceed = refl
one_ends on.Not = refl
one_ends on.EndNot = refl

more_end : (i j : Instr) (is : List Instr) → ends_with_proceed (i ∷ j ∷ is) ≡ ends_with_proceed (j ∷ is)
more_end (on.TyCon d k ts) w is = refl
more_end (on.TyArr d a b) w is = refl
more_end (on.TyNew d) w is = refl
more_end (on.New d t) w is = refl
more_end (on.PutConst d c ts) w is = refl
more_end (on.PutInt d z) w is = refl
more_end (on.PutStr d b) w is = refl
more_end (on.PutIndex d x t) w is = refl
more_end (on.PutAbs d b t) w is = refl
more_end (on.PutApp d g rs) w is = refl
more_end (on.GetType j t) w is = refl
more_end (on.GetVar x d) w is = refl
more_end (on.Get x r) w is = refl
more_end (on.GetConst x c ts) w is = refl
more_end (on.GetInt x z) w is = refl
more_end (on.GetStr x b) w is = refl
more_end on.Neck w is = refl
more_end (on.Call c ts rs) w is = refl
more_end (on.CallTerm r) w is = refl
more_end (on.Equal t l r) w is = refl
more_end (on.Is t l r) w is = refl
more_end (on.Less l r) w is = refl
more_end (on.Greater l r) w is = refl
more_end (on.AtMost l r) w is = refl
more_end (on.AtLeast l r) w is = refl
more_end on.Cut w is = refl
more_end (on.Sigma d t) w is = refl
more_end (on.All d t) w is = refl
more_end on.EndAll w is = refl
more_end (on.Assume ns ts rs) w is = refl
more_end on.EndAssume w is = refl
more_end (on.Either n) w is = refl
more_end (on.Jump n) w is = refl
more_end on.Proceed w is = refl
more_end on.Not w is = refl
more_end on.EndNot w is = refl

pub proceed_is : (is : List Instr) → is_proceed (slice_get is (length is - 1)) ≡ ends_with_proceed is
proceed_is [] = refl
proceed_is (i ∷ []) = sym (one_ends i)
proceed_is (i ∷ j ∷ is) =
    let more : suc (suc (length is)) - 1 ≡ suc (length is) = omega arith in
    let less : length is ≡ suc (length is) - 1 = omega arith in
    ap (λ n. is_proceed (slice_get (i ∷ j ∷ is) n)) more ∙ ap (λ n. is_proceed (slice_get (j ∷ is) n)) less ∙ proceed_is (j ∷ is) ∙ sym (more_end i j is)

-- the places are noted, one instruction behind the other
pub none_noted : (all : List Instr) (m : BTreeMap ℕ Bool) → m.entries ≡ [] → PlacesSoFar all all 0 m
none_noted all m e =
    let none : (q : ℕ) → get nat_cmp m q ≡ None = λ q. ap (λ es. lookup (is_at (nat_cmp q)) es) e in
    (zero-add (bytes_of all), λ q. sym (ap (λ o. before_those o (starts_from 0 all q)) (none q)), λ q l. none q)

noted_at : (b c j : Bool) (o p : Option Bool) → b ≡ c → (c ≡ true → o ≡ None) → before_those o (if c then Some j else p) ≡ before_those (cond b (Some j) o) p
noted_at true true j o p e h = ap (λ o. before_those o (Some j)) (h refl)
noted_at false false j o p e h = refl
noted_at true false j o p e h = absurd (cc)
noted_at false true j o p e h = absurd (cc)

pub one_noted : (all : List Instr) (i : Instr) (is : List Instr) (p q : ℕ) (m n : BTreeMap ℕ Bool) → bytes_of all < 2 ^ 32 → PlacesSoFar all (i ∷ is) p m → ((k : ℕ) → get nat_cmp n k ≡ cond (is_at (nat_cmp p) k) (Some (is_jump i)) (get nat_cmp m k))
    → (p + length_of i < 2 ^ 64 → q ≡ p + length_of i) → PlacesSoFar all is q n
one_noted all i is p q m n short so put moves =
    let some = some_bytes i in
    let count : p + (length_of i + bytes_of is) ≡ bytes_of all = so.0 in
    let next : q ≡ p + length_of i = moves (omega (arith, short, count)) in (
      omega (arith, next, count),
      λ k. so.1 k ∙ noted_at (is_at (nat_cmp p) k) (nat_eq k p) (is_jump i) (get nat_cmp m k) (starts_from (p + length_of i) is k) (at_same p k) (λ h. let e = eqb-true k p h in so.2 k (omega (arith, e)))
          ∙ (λ j. before_those (sym (put k) j) (starts_from (sym next j) is k)),
      λ k l. put k ∙ ap (λ b. cond b (Some (is_jump i)) (get nat_cmp m k)) (at_same p k ∙ ne_eqb k p (λ e. omega (arith, e, l, next, some))) ∙ so.2 k (omega (arith, l, next)),
    )

pub all_noted : (all left : List Instr) (p : ℕ) (m : BTreeMap ℕ Bool) → left ≡ [] → PlacesSoFar all left p m → (q : ℕ) → get nat_cmp m q ≡ starts_from 0 all q
all_noted all left p m e so q = sym (so.1 q ∙ ap (λ l. before_those (get nat_cmp m q) (starts_from p l q)) e ∙ nothing_behind (get nat_cmp m q))
  where
    nothing_behind : (o : Option Bool) → before_those o None ≡ o
    nothing_behind None = refl
    nothing_behind (Some b) = refl
