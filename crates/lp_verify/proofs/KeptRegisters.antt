-- Registers as they are kept: what setting one, and leaving a block, does to what stands there now and before each open block.
use Rattle.std.proofs.Common.{◌≡◌, ◌∙◌, ◌≤◌, ◌<◌, ℕ, zero, suc, ◌+◌, List, [], ◌∷◌, ◌++◌, append_assoc, map, length, take, drop, Bool, true, false, Option, Some, None, ap, refl, sym, subst, arith, inl, inr}
use Rattle.std.specs.Prelude.{nat_eq, nat_lt, nat_le, min, ◌||◌, ◌⊎◌, cond, not, if◌then◌else◌, is_some, is_none, slice_set, slice_get, filter_map}
use Rattle.std.specs.Option.{option_to_list}
use Rattle.std.specs.List.{cons_option}
use Rattle.std.specs.Ordering.{nat_cmp}
use Rattle.std.specs.BTreeMap.{is_at}
use Rattle.std.specs.List.{list_any}
use Rattle.std.proofs.lemmas.List.{take-append-drop, take-append-le, length-take, length-set, drop_all}
use Rattle.std.proofs.lemmas.Bool.{ne_eqb, eq-eqb, eqb-true, eqb-false, leb-true, leb-false, ltb-true, lt-ltb}
use Rattle.std.proofs.lemmas.Option.{slice_get_within}
use Rattle.lp_lemmas.proofs.Lists.{append_nil_sym, length_push_suc, cons_head, cons_tail, take_suc}
use Rattle.lp_lemmas.proofs.Booleans.{or_false_left, or_true_left}
use Rattle.lp_code.specs.declared.instruction.Instr.{Instr}
use Rattle.lp_code.specs.Symbolic.{held}
use Rattle.lp_code.specs.States.{member}
use Rattle.lp_code.specs.Denote.{from_zero, started}
use Rattle.lp_verify.specs.declared.registers.Registers.{Registers}
use Rattle.lp_verify.specs.declared.blocks.Block as kept
use Rattle.lp_verify.specs.declared.blocks.Frame as kept_frame
use Rattle.lp_verify.specs.Listed.{listed}
use Rattle.lp_verify.specs.Held.{was_set, value_in, is_lacking}
use Rattle.lp_verify.specs.inner.Sides.{ends_at, ends_there, innermost_side, innermost_frame, frames_around, around}
use Rattle.lp_verify.specs.inner.Stack.{AreOnce, IsKept, value_at, Agree, AreHeld, IsStack, IsFilled, IsFilledSoFar, IsMade, IsCut, heights_around, IsLeft, Turning, stays, opens, leaves, turns_over, turning, IsTurned, IsStacked, IsSettled, IsStackRun, doubled, without_inner, stack_turned, stack_settled, with_first, IsOne}
use Rattle.lp_verify.proofs.Joined.{or_false}
use Rattle.lp_verify.proofs.KeyLaws.{at_same}
use Rattle.lp_verify.proofs.KeptBlocks.{none_is}
use Rattle.lp_verify.proofs.Members.{member_append, once_front, once_apart, once_pushed, from_zero_has, once_from_zero, some_below, started_at}

take_every : {A : Type 0} (xs : List A) → take (length xs) xs ≡ xs
take_every [] = refl
take_every (x ∷ xs) = ap (λ l. x ∷ l) (take_every xs)

-- what stood at a height at which nothing changed
value_same : {T : Type 0} (b c : Bool) (o p : Option T) → b ≡ c → (c ≡ true → o ≡ p) → (if b then o else None) ≡ (if c then p else None)
value_same true true o p e h = h refl
value_same false false o p e h = refl
value_same true false o p e h = absurd (cc)
value_same false true o p e h = absurd (cc)

-- all that is set now
value_now : {T : Type 0} (rs : Registers T) → IsKept rs → (r : ℕ) → value_at (length rs.trail.items) rs r ≡ value_in rs r
value_now rs k r = ap (λ l. if member r l then value_in rs r else None) (take_every rs.trail.items) ∙ by_test (member r rs.trail.items) (value_in rs r) (k.trail_is r)
  where
    by_test : {T : Type 0} (b : Bool) (o : Option T) → is_some o ≡ b → (if b then o else None) ≡ o
    by_test true o e = refl
    by_test false None e = refl
    by_test false (Some v) e = absurd (cc)

-- a list of heights and values, where nothing below the top changed
abbrev IsSameBelow : {T : Type 0} → ℕ → (old new : Registers T) → Type 0
IsSameBelow top old new = (h : ℕ) → h ≤ top → (r : ℕ) → value_at h new r ≡ value_at h old r

held_same : {T B : Type 0} (R : T → B → Type 0) (n : ℕ) (old new : Registers T) (top : ℕ) (hs : List ℕ) (xss : List (List (Option B))) → IsSameBelow top old new → AreHeld R n old top hs xss → AreHeld R n new top hs xss
held_same R n old new top [] [] same a = tt
held_same R n old new top [] (xs ∷ xss) same a = absurd a
held_same R n old new top (h ∷ hs) [] same a = absurd a
held_same R n old new top (h ∷ hs) (xs ∷ xss) same a = (
  a.0,
  a.1,
  λ r. subst (λ o. Agree R o (held xs r)) (sym (same h a.0 r)) (a.2 r),
  held_same R n old new h hs xss (λ k l. same k (let m : h ≤ top = a.0 in omega (arith, l, m))) a.3,
)

-- a block is opened
stack_opened : {T B : Type 0} (R : T → B → Type 0) (n : ℕ) (rs : Registers T) (hs : List ℕ) (xss : List (List (Option B))) → IsStack R n rs hs xss → IsStack R n rs (length rs.trail.items ∷ hs) (doubled xss)
stack_opened R n rs hs [] s = absurd s.1
stack_opened R n rs hs (xs ∷ xss) s = (s.0, (omega arith, s.1.1, s.1.2, (omega arith, s.1.1, s.1.2, s.1.3)))

-- the trail is cut off
here_or_there : (b c d : Bool) → (b || c) ≡ true → (c ≡ true → d ≡ true) → (b || d) ≡ true
here_or_there true c d m h = refl
here_or_there false c d m h = h m

cut_same : {T : Type 0} (h : ℕ) (old new : Registers T) → IsKept old → IsCut h old new → IsSameBelow h old new
cut_same h old new k c j l r =
    let ts = old.trail.items in
    value_same (member r (take j new.trail.items)) (member r (take j ts)) (value_in new r) (value_in old r) (ap (λ l. member r (take j l)) c.0 ∙ ap (member r) (take_less j h ts l)) (λ m.
    let front : member r (take h ts) ≡ true = take_more j h ts l r m in
    c.1 r ∙ ap (λ b. if b then None else value_in old r) (once_apart (take h ts) (drop h ts) (subst AreOnce (sym (take-append-drop h ts)) k.once) r front))
  where
    take_less : (j h : ℕ) (xs : List ℕ) → j ≤ h → take j (take h xs) ≡ take j xs
    take_less zero h xs l = refl
    take_less (suc j) zero xs l = absurd (omega (arith, l))
    take_less (suc j) (suc h) [] l = refl
    take_less (suc j) (suc h) (x ∷ xs) l = ap (λ l. x ∷ l) (take_less j h xs (omega (arith, l)))

    take_more : (j h : ℕ) (xs : List ℕ) → j ≤ h → (r : ℕ) → member r (take j xs) ≡ true → member r (take h xs) ≡ true
    take_more zero h xs l r m = absurd (cc)
    take_more (suc j) zero xs l r m = absurd (omega (arith, l))
    take_more (suc j) (suc h) [] l r m = absurd (cc)
    take_more (suc j) (suc h) (x ∷ xs) l r m = here_or_there (nat_eq r x) (member r (take j xs)) (member r (take h xs)) m (λ m. take_more j h xs (omega (arith, l)) r m)

cut_kept : {T : Type 0} (h : ℕ) (old new : Registers T) → IsKept old → IsCut h old new → IsKept new
cut_kept h old new k c =
    let ts = old.trail.items in
    let parts : take h ts ++ drop h ts ≡ ts = take-append-drop h ts in
    let once : AreOnce (take h ts ++ drop h ts) = subst AreOnce (sym parts) k.once in
    record {
      trail_is = λ r. ap is_some (c.1 r)
          ∙ cut_at (member r (take h ts)) (member r (drop h ts)) (value_in old r) (k.trail_is r ∙ ap (member r) (sym parts) ∙ member_append r (take h ts) (drop h ts)) (λ m. once_apart (take h ts) (drop h ts) once r m) ∙ sym (ap (member r) c.0);
      once = subst AreOnce (sym c.0) (once_front (take h ts) (drop h ts) once);
      ever = λ r m. c.2 r ∙ k.ever r (ap (member r) (sym parts) ∙ member_append r (take h ts) (drop h ts) ∙ ap (λ b. b || member r (drop h ts)) (ap (member r) (sym c.0) ∙ m));
    }
  where
    cut_at : {T : Type 0} (f b : Bool) (o : Option T) → is_some o ≡ (f || b) → (f ≡ true → b ≡ false) → is_some (if b then None else o) ≡ f
    cut_at true true o e h = absurd (let z = h refl in cc)
    cut_at true false o e h = e
    cut_at false true o e h = refl
    cut_at false false o e h = e

-- a block is left
stack_left : {T B : Type 0} (R : T → B → Type 0) (n : ℕ) (old new : Registers T) (hs : List ℕ) (xss : List (List (Option B))) → IsStack R n old hs xss → IsLeft hs old new → IsStack R n new (heights_around hs) (without_inner xss)
stack_left R n old new hs [] s l = absurd s.1
stack_left R n old new [] (xs ∷ []) s l = subst (λ o. IsStack R n o [] (xs ∷ [])) (sym l) s
stack_left R n old new [] (xs ∷ ys ∷ xss) s l = absurd s.1.3
stack_left R n old new (h ∷ hs) (xs ∷ []) s l = absurd s.1.3
stack_left R n old new (h ∷ hs) (xs ∷ ys ∷ xss) s l =
    let fits : h ≤ length old.trail.items = s.1.3.0 in
    let len : length new.trail.items ≡ h = ap length l.0 ∙ length-take h old.trail.items ∙ omega (arith, fits) in
    let low : AreHeld R n new h (h ∷ hs) (ys ∷ xss) = held_same R n old new h (h ∷ hs) (ys ∷ xss) (cut_same h old new s.0 l) (omega arith, s.1.3.1, s.1.3.2, s.1.3.3) in
    (cut_kept h old new s.0 l, subst (λ k. AreHeld R n new k (k ∷ hs) (ys ∷ xss)) (sym len) low)

stack_turns : {T B : Type 0} (R : T → B → Type 0) (n : ℕ) (old new : Registers T) (t : Turning) (hs ks : List ℕ) (xss : List (List (Option B))) → IsStack R n old hs xss → IsTurned t hs old ks new → IsStack R n new ks (stack_turned t xss)
stack_turns R n old new stays hs ks xss s t = subst (λ k. IsStack R n new k xss) (sym t.0) (subst (λ o. IsStack R n o hs xss) (sym t.1) s)
stack_turns R n old new opens hs ks xss s t = subst (λ k. IsStack R n new k (doubled xss)) (sym t.0) (subst (λ o. IsStack R n o (length old.trail.items ∷ hs) (doubled xss)) (sym t.1) (stack_opened R n old hs xss s))
stack_turns R n old new leaves hs ks xss s t = subst (λ k. IsStack R n new k (without_inner xss)) (sym t.0) (stack_left R n old new hs xss s t.1)
stack_turns R n old new turns_over hs ks xss s t =
    subst (λ k. IsStack R n new k (doubled (without_inner xss))) (sym t.0) (stack_opened R n new (heights_around hs) (without_inner xss) (stack_left R n old new hs xss s t.1))

-- what was ever set stays so
left_ever : {T : Type 0} (hs : List ℕ) (old new : Registers T) → IsLeft hs old new → (r : ℕ) → was_set new r ≡ was_set old r
left_ever [] old new l r = ap (λ (o : Registers _). was_set o r) l
left_ever (h ∷ hs) old new l r = l.2 r

turned_ever : {T : Type 0} (t : Turning) (hs ks : List ℕ) (old new : Registers T) → IsTurned t hs old ks new → (r : ℕ) → was_set new r ≡ was_set old r
turned_ever stays hs ks old new t r = ap (λ (o : Registers _). was_set o r) t.1
turned_ever opens hs ks old new t r = ap (λ (o : Registers _). was_set o r) t.1
turned_ever leaves hs ks old new t r = left_ever hs old new t.1 r
turned_ever turns_over hs ks old new t r = left_ever hs old new t.1 r

settled_ever : {T : Type 0} (p : ℕ) (ss : List kept.Block) (hs ks : List ℕ) (old new : Registers T) → IsSettled p ss hs old ks new → (r : ℕ) → was_set new r ≡ was_set old r
settled_ever p [] hs ks old new t r = ap (λ (o : Registers _). was_set o r) t.1
settled_ever p (s ∷ ss) hs ks old new t r = by_end (ends_at p s) refl (λ mid k. settled_ever p ss (heights_around hs) ks mid new k r)
  where
    by_end : (b : Bool) → ends_at p s ≡ b → ((mid : Registers _) → IsSettled p ss (heights_around hs) mid ks new → was_set new r ≡ was_set mid r) → was_set new r ≡ was_set old r
    by_end true e go = let l = t.0 e in go l.0 l.2 ∙ left_ever hs old l.0 l.1 r
    by_end false e go = ap (λ (o : Registers _). was_set o r) (t.1 e).1

pub run_ever : {T : Type 0} (i : Instr) (ds : List ℕ) (v : T) (p : ℕ) (ss : List kept.Block) (hs ks : List ℕ) (old new : Registers T) → IsStackRun i ds v p ss hs old ks new → (r : ℕ) → was_set new r ≡ (was_set old r || member r ds)
run_ever i ds v p ss hs ks old new x r =
    settled_ever p ss x.heights ks x.made new x.settled r ∙ x.stacked.makes.2 r ∙ ap (λ b. b || member r ds) (turned_ever (turning i) hs x.heights old x.stacked.turned x.stacked.turns r)

-- a register is set that never was
made_same : {T : Type 0} (ds : List ℕ) (v : T) (old new : Registers T) → IsMade ds v old new → ((r : ℕ) → member r ds ≡ true → member r old.trail.items ≡ false) → IsSameBelow (length old.trail.items) old new
made_same ds v old new m fresh h l r =
    let ts = old.trail.items in
    value_same (member r (take h new.trail.items)) (member r (take h ts)) (value_in new r) (value_in old r) (ap (λ l. member r (take h l)) m.0 ∙ ap (member r) (take-append-le h ts ds l))
    (λ f. m.1 r ∙ ap (λ b. if b then Some v else value_in old r) (not_made (member r ds) refl (taken h ts r f)))
  where
    taken : (h : ℕ) (xs : List ℕ) (r : ℕ) → member r (take h xs) ≡ true → member r xs ≡ true
    taken h xs r f = ap (member r) (sym (take-append-drop h xs)) ∙ member_append r (take h xs) (drop h xs) ∙ ap (λ b. b || member r (drop h xs)) f

    not_made : (b : Bool) → member r ds ≡ b → member r old.trail.items ≡ true → member r ds ≡ false
    not_made true e f = let z = fresh r e in absurd (cc)
    not_made false e f = e

-- the values that stand there then
next_same : (r d : ℕ) (t : Bool) → nat_eq r d ≡ t → nat_eq r d ≡ nat_eq (suc r) (suc d)
next_same r d true e = let z = eqb-true r d e in e ∙ sym (eq-eqb (suc r) (suc d) (omega (arith, z)))
next_same r d false e = e ∙ sym (ne_eqb (suc r) (suc d) (λ z. eqb-false r d e (omega (arith, z))))

pub set_value : {B : Type 0} (xs : List (Option B)) (d : ℕ) (b : B) → d < length xs → (r : ℕ) → held (slice_set xs d (Some b)) r ≡ (if nat_eq r d then Some b else held xs r)
set_value [] d b l r = absurd (omega (arith, l))
set_value (x ∷ xs) zero b l zero = refl
set_value (x ∷ xs) zero b l (suc r) = sym (ap (λ t. if t then Some b else held xs r) (ne_eqb (suc r) 0 (λ e. omega (arith, e))))
set_value (x ∷ xs) (suc d) b l zero = sym (ap (λ t. if t then Some b else x) (ne_eqb 0 (suc d) (λ e. omega (arith, e))))
set_value (x ∷ xs) (suc d) b l (suc r) = set_value xs d b (omega (arith, l)) r ∙ ap (λ t. if t then Some b else held xs r) (next_same r d (nat_eq r d) refl)

put_agrees : {T B : Type 0} (R : T → B → Type 0) (c : Bool) (v : T) (b : B) (o : Option T) (p : Option B) → R v b → Agree R o p → Agree R (if c || false then Some v else o) (if c then Some b else p)
put_agrees R true v b o p h a = h
put_agrees R false v b o p h a = a

stack_made : {T B : Type 0} (R : T → B → Type 0) (n : ℕ) (old new : Registers T) (hs : List ℕ) (xss : List (List (Option B))) (ds : List ℕ) (v : T) (b : B)
    → IsOne ds → IsStack R n old hs xss → list_any (nat_le n) ds ≡ false → list_any (was_set old) ds ≡ false → R v b → IsMade ds v old new → IsStack R n new hs (with_first ds b xss)
stack_made R n old new hs [] ds v b one s low fresh h m = absurd s.1
stack_made R n old new hs (xs ∷ xss) [] v b one s low fresh h m =
    let t : new.trail.items ≡ old.trail.items = m.0 ∙ sym (append_nil_sym old.trail.items) in
    let same : (k : ℕ) (r : ℕ) → value_at k new r ≡ value_at k old r = λ k r. (λ j. if member r (take k (t j)) then m.1 r j else None) in
    let kept : IsKept new = record { trail_is = λ r. ap is_some (m.1 r) ∙ s.0.trail_is r ∙ ap (member r) (sym t); once = subst AreOnce (sym t) s.0.once; ever = λ r e. m.2 r ∙ or_false (was_set old r) ∙ s.0.ever r (ap (member r) (sym t) ∙ e) } in
    (kept, subst (λ l. AreHeld R n new (length l) (length l ∷ hs) (xs ∷ xss)) (sym t) (held_same R n old new (length old.trail.items) (length old.trail.items ∷ hs) (xs ∷ xss) (λ k l r. same k r) s.1))
stack_made R n old new hs (xs ∷ xss) (d ∷ []) v b one s low fresh h m =
    let ts = old.trail.items in
    let unset : was_set old d ≡ false = or_false_left (was_set old d) false fresh in
    let not_there : member d ts ≡ false = absent (member d ts) refl unset in
    let t : new.trail.items ≡ ts ++ d ∷ [] = m.0 in
    let len : length new.trail.items ≡ suc (length ts) = ap length t ∙ length_push_suc ts d in
    let below : d < n = not_past d (or_false_left (nat_le n d) false low) in
    let wide : n ≤ length xs = s.1.1 in
    let kept : IsKept new =
    record {
      trail_is = λ r. ap is_some (m.1 r) ∙ put_there (nat_eq r d) (value_in old r) v ∙ ap (λ b. b || (nat_eq r d || false)) (s.0.trail_is r) ∙ sym (ap (member r) t ∙ member_append r ts (d ∷ []));
      once = subst AreOnce (sym t) (once_pushed ts d s.0.once not_there);
      ever = λ r e. m.2 r ∙ still (member r ts) (was_set old r) (nat_eq r d || false) (s.0.ever r) (sym (member_append r ts (d ∷ [])) ∙ ap (member r) (sym t) ∙ e);
    } in
    let same : IsSameBelow (length ts) old new = made_same (d ∷ []) v old new m (λ r e. ap (λ k. member k ts) (is_there r (or_true_left (nat_eq r d) false e refl)) ∙ not_there) in
    let now : (r : ℕ) → value_at (suc (length ts)) new r ≡ (if nat_eq r d || false then Some v else value_at (length ts) old r) =
    λ r. ap (λ k. value_at k new r) (sym len) ∙ value_now new kept r ∙ m.1 r ∙ ap (λ o. if nat_eq r d || false then Some v else o) (sym (value_now old s.0 r)) in (
      kept,
      subst (λ k. AreHeld R n new k (k ∷ hs) (slice_set xs d (Some b) ∷ xss)) (sym len) (
        omega arith,
        (let l = length-set xs d (Some b) in omega (arith, l, wide)),
        λ r. subst (λ o. Agree R o (held (slice_set xs d (Some b)) r)) (sym (now r))
            (subst (λ o. Agree R (if nat_eq r d || false then Some v else value_at (length ts) old r) o) (sym (set_value xs d b (omega (arith, below, wide)) r)) (put_agrees R (nat_eq r d) v b (value_at (length ts) old r) (held xs r) h (s.1.2 r))),
        raised R n new (length ts) (suc (length ts)) hs xss (omega arith) (held_same R n old new (length ts) hs xss same s.1.3),
      ),
    )
  where
    absent : (b : Bool) → member d old.trail.items ≡ b → was_set old d ≡ false → member d old.trail.items ≡ false
    absent true e u = let z = s.0.ever d e in absurd (cc)
    absent false e u = e

    not_past : (d : ℕ) → nat_le n d ≡ false → d < n
    not_past d e = leb-false n d e

    is_there : (r : ℕ) → nat_eq r d ≡ true → r ≡ d
    is_there r e = eqb-true r d e

    put_there : {T : Type 0} (c : Bool) (o : Option T) (v : T) → is_some (if c || false then Some v else o) ≡ (is_some o || (c || false))
    put_there true None v = refl
    put_there true (Some w) v = refl
    put_there false None v = refl
    put_there false (Some w) v = refl

    still : (a b c : Bool) → (a ≡ true → b ≡ true) → (a || c) ≡ true → (b || c) ≡ true
    still true b c f e = ap (λ b. b || c) (f refl)
    still false true c f e = refl
    still false false c f e = e

    raised : {T B : Type 0} (R : T → B → Type 0) (n : ℕ) (rs : Registers T) (low high : ℕ) (hs : List ℕ) (xss : List (List (Option B))) → low ≤ high → AreHeld R n rs low hs xss → AreHeld R n rs high hs xss
    raised R n rs low high [] [] l a = tt
    raised R n rs low high [] (ys ∷ yss) l a = absurd a
    raised R n rs low high (k ∷ ks) [] l a = absurd a
    raised R n rs low high (k ∷ ks) (ys ∷ yss) l a = (let m : k ≤ low = a.0 in omega (arith, m, l), a.1, a.2, a.3)
stack_made R n old new hs (xs ∷ xss) (d ∷ e ∷ ds) v b one s low fresh h m = absurd one

-- right sides that end are left
stack_settles : {T B : Type 0} (R : T → B → Type 0) (n : ℕ) (p : ℕ) (ss : List kept.Block) (hs ks : List ℕ) (old new : Registers T) (xss : List (List (Option B))) → IsStack R n old hs xss → IsSettled p ss hs old ks new → IsStack R n new ks (stack_settled p ss xss)
stack_settles R n p [] hs ks old new xss s t = subst (λ k. IsStack R n new k xss) (sym t.0) (subst (λ o. IsStack R n o hs xss) (sym t.1) s)
stack_settles R n p (x ∷ ss) hs ks old new xss s t = by_end (ends_at p x) refl (λ mid a k. stack_settles R n p ss (heights_around hs) ks mid new (without_inner xss) a k)
  where
    by_end : (b : Bool) → ends_at p x ≡ b → ((mid : Registers _) → IsStack R n mid (heights_around hs) (without_inner xss) → IsSettled p ss (heights_around hs) mid ks new → IsStack R n new ks (stack_settled p ss (without_inner xss)))
        → IsStack R n new ks (if b then stack_settled p ss (without_inner xss) else xss)
    by_end true e go = let l = t.0 e in go l.0 (stack_left R n old l.0 hs xss s l.1) l.2
    by_end false e go = let q = t.1 e in subst (λ k. IsStack R n new k xss) (sym q.0) (subst (λ o. IsStack R n o hs xss) (sym q.1) s)

-- an instruction was run, which sets one register or none, below the count, that never was set
pub stack_runs : {T B : Type 0} (R : T → B → Type 0) (n : ℕ) (i : Instr) (ds : List ℕ) (v : T) (p : ℕ) (ss : List kept.Block) (hs ks : List ℕ) (old new : Registers T) (xss : List (List (Option B))) (b : B)
    → list_any (nat_le n) ds ≡ false → list_any (was_set old) ds ≡ false → IsStack R n old hs xss → IsStackRun i ds v p ss hs old ks new → R v b → IsStack R n new ks (stack_settled p ss (with_first ds b (stack_turned (turning i) xss)))
stack_runs R n i ds v p ss hs ks old new xss b low fresh s x h =
    let y = x.stacked in
    let turned = stack_turns R n old y.turned (turning i) hs x.heights xss s y.turns in
    let same : list_any (was_set y.turned) ds ≡ list_any (was_set old) ds = λ j. list_any (λ r. turned_ever (turning i) hs x.heights old y.turned y.turns r j) ds in
    let made = stack_made R n y.turned x.made x.heights (stack_turned (turning i) xss) ds v b y.one turned low (same ∙ fresh) h y.makes in
    stack_settles R n p ss x.heights ks x.made new (with_first ds b (stack_turned (turning i) xss)) made x.settled

-- values that agree go on to agree
agree_weaker : {T B : Type 0} (R S : T → B → Type 0) → ((t : T) (b : B) → R t b → S t b) → (o : Option T) (p : Option B) → Agree R o p → Agree S o p
agree_weaker R S f None None a = tt
agree_weaker R S f (Some t) None a = absurd a
agree_weaker R S f None (Some b) a = absurd a
agree_weaker R S f (Some t) (Some b) a = f t b a

held_weaker : {T B : Type 0} (R S : T → B → Type 0) → ((t : T) (b : B) → R t b → S t b) → (n : ℕ) (rs : Registers T) (top : ℕ) (hs : List ℕ) (xss : List (List (Option B))) → AreHeld R n rs top hs xss → AreHeld S n rs top hs xss
held_weaker R S f n rs top [] [] a = tt
held_weaker R S f n rs top [] (xs ∷ xss) a = absurd a
held_weaker R S f n rs top (h ∷ hs) [] a = absurd a
held_weaker R S f n rs top (h ∷ hs) (xs ∷ xss) a = (a.0, a.1, λ r. agree_weaker R S f (value_at h rs r) (held xs r) (a.2 r), held_weaker R S f n rs h hs xss a.3)

pub stack_weaker : {T B : Type 0} (R S : T → B → Type 0) → ((t : T) (b : B) → R t b → S t b) → (n : ℕ) (rs : Registers T) (hs : List ℕ) (xss : List (List (Option B))) → IsStack R n rs hs xss → IsStack S n rs hs xss
stack_weaker R S f n rs hs xss s = (s.0, held_weaker R S f n rs (length rs.trail.items) (length rs.trail.items ∷ hs) xss s.1)

-- what is told of registers that are read
pub same_values : {T B : Type 0} (R : T → B → Type 0) (n : ℕ) (rs : Registers T) (hs : List ℕ) (xs : List (Option B)) (xss : List (List (Option B))) → IsStack R n rs hs (xs ∷ xss) → (r : ℕ) → Agree R (value_in rs r) (held xs r)
same_values R n rs hs xs xss s r = subst (λ o. Agree R o (held xs r)) (value_now rs s.0 r) (s.1.2 r)

pub same_lacking : {T B : Type 0} (R : T → B → Type 0) (n : ℕ) (rs : Registers T) (hs : List ℕ) (xs : List (Option B)) (xss : List (List (Option B))) → IsStack R n rs hs (xs ∷ xss) → (r : ℕ) → is_lacking rs r ≡ is_none (held xs r)
same_lacking R n rs hs xs xss s r = by_value R (value_in rs r) (held xs r) (same_values R n rs hs xs xss s r)
  where
    by_value : {T B : Type 0} (R : T → B → Type 0) (o : Option T) (p : Option B) → Agree R o p → is_none o ≡ is_none p
    by_value R None None a = refl
    by_value R (Some t) None a = absurd a
    by_value R None (Some b) a = absurd a
    by_value R (Some t) (Some b) a = refl

-- the registers of a record that begins
pub stack_begins : {T B : Type 0} (R : T → B → Type 0) (n m : ℕ) (rs : Registers T) (ts : List T) (bs : List B) → IsFilled ts rs →
    ((r : ℕ) → was_set rs r ≡ nat_lt r n) → length ts ≤ n → m ≤ length (started bs m) → ((r : ℕ) → Agree R (slice_get ts r) (slice_get bs r)) →
    IsStack R m rs [] (started bs m ∷ [])
stack_begins R n m rs ts bs f ever few wide alike =
    let t : rs.trail.items ≡ from_zero (length ts) = f.0 in
    let kept : IsKept rs =
    record {
      trail_is = λ r. ap is_some (f.1 r) ∙ some_below ts r ∙ sym (ap (member r) t ∙ from_zero_has r (length ts));
      once = subst AreOnce (sym t) (once_from_zero (length ts));
      ever = λ r e. ever r ∙ lower r (length ts) n few (sym (ap (member r) t ∙ from_zero_has r (length ts)) ∙ e);
    } in
    (kept, (omega arith, wide, λ r. subst (λ o. Agree R o (held (started bs m) r)) (sym (value_now rs kept r ∙ f.1 r)) (subst (Agree R (slice_get ts r)) (sym (started_at bs m r)) (alike r)), tt))
  where
    lower : (r k n : ℕ) → k ≤ n → nat_lt r k ≡ true → nat_lt r n ≡ true
    lower r k n l e = let b = ltb-true r k e in lt-ltb r n (omega (arith, b, l))

-- right sides that end are left one by one
pub settled_on : {T : Type 0} (p : ℕ) (ss ts : List kept.Block) (hs js ks : List ℕ) (old mid new : Registers T) → ends_there p (innermost_side ss) ≡ true → ts ≡ around ss → IsTurned leaves hs old js mid → IsSettled p ts js mid ks new → IsSettled p ss hs old ks new
settled_on p [] ts hs js ks old mid new e f t s = absurd (cc)
settled_on p (x ∷ ss) ts hs js ks old mid new e f t s = (
  λ e. (mid, t.1, subst (λ j. IsSettled p ss j mid ks new) t.0 (subst (λ l. IsSettled p l js mid ks new) f s)),
  λ g. absurd (cc),
)

pub settled_here : {T : Type 0} (p : ℕ) (ss : List kept.Block) (hs : List ℕ) (rs : Registers T) → ends_there p (innermost_side ss) ≡ false → IsSettled p ss hs rs hs rs
settled_here p [] hs rs e = (refl, refl)
settled_here p (x ∷ ss) hs rs e = (λ g. absurd (cc), λ g. (refl, refl))

-- registers that are set one by one
pub put_value : {T : Type 0} (d r : ℕ) (v : T) (b : Bool) (o : Option T) → b ≡ nat_eq r d → cond b (Some v) o ≡ (if nat_eq r d || false then Some v else o)
put_value d r v b o e = ap (λ b. cond b (Some v) o) e ∙ by_test (nat_eq r d) v o
  where
    by_test : {T : Type 0} (c : Bool) (v : T) (o : Option T) → cond c (Some v) o ≡ (if c || false then Some v else o)
    by_test true v o = refl
    by_test false v o = refl

-- the trail is cut off, one register behind the other
pub nothing_cut : {T : Type 0} (rs : Registers T) → IsCut (length rs.trail.items) rs rs
nothing_cut rs = (sym (take_every rs.trail.items), λ r. ap (λ l. if member r l then None else value_in rs r) (sym (drop_all (length rs.trail.items) rs.trail.items (omega arith))), λ r. refl)

pub one_cut : {T : Type 0} (first old new : Registers T) (d : ℕ) → IsCut (length old.trail.items) first old → old.trail.items ≡ new.trail.items ++ d ∷ [] → ((r : ℕ) → value_in new r ≡ cond (is_at (nat_cmp d) r) None (value_in old r)) → ((r : ℕ) → was_set new r ≡ was_set old r)
    → IsCut (length new.trail.items) first new
one_cut first old new d c t v e =
    let xs = new.trail.items in
    let fs = first.trail.items in
    let n = length xs in
    let len : length old.trail.items ≡ suc n = ap length t ∙ length_push_suc xs d in
    let at : take (suc n) fs ≡ xs ++ d ∷ [] = sym (ap (λ k. take k fs) len) ∙ sym c.0 ∙ t in
    let parts = cut_last xs d fs at in (
      sym parts.0,
      λ r. v r ∙ ap (λ b. cond b None (value_in old r)) (at_same d r) ∙ ap (cond (nat_eq r d) None) (c.1 r ∙ ap (λ k. if member r (drop k fs) then None else value_in first r) len)
          ∙ by_test (nat_eq r d) (member r (drop (suc n) fs)) (value_in first r) ∙ ap (λ l. if member r l then None else value_in first r) (sym parts.1),
      λ r. e r ∙ c.2 r,
    )
  where
    cut_last : (xs : List ℕ) (d : ℕ) (fs : List ℕ) → take (suc (length xs)) fs ≡ xs ++ d ∷ [] → (take (length xs) fs ≡ xs) × (drop (length xs) fs ≡ d ∷ drop (suc (length xs)) fs)
    cut_last [] d [] h = absurd (cc)
    cut_last [] d (f ∷ fs) h = (refl, ap (λ x. x ∷ fs) (cons_head f d [] [] h))
    cut_last (x ∷ xs) d [] h = absurd (cc)
    cut_last (x ∷ xs) d (f ∷ fs) h =
        let p = cut_last xs d fs (cons_tail f x (take (suc (length xs)) fs) (xs ++ d ∷ []) h) in
        let q = cons_head f x (take (suc (length xs)) fs) (xs ++ d ∷ []) h in
        (λ i. q i ∷ p.0 i, p.1)

    by_test : {T : Type 0} (b c : Bool) (o : Option T) → cond b None (if c then None else o) ≡ (if b || c then None else o)
    by_test true c o = refl
    by_test false c o = refl

pub cut_there : {T : Type 0} (h : ℕ) (first old : Registers T) → min h (length first.trail.items) ≤ length old.trail.items → length old.trail.items ≤ h → IsCut (length old.trail.items) first old → IsCut h first old
cut_there h first old low high c =
    let fs = first.trail.items in
    let n = length old.trail.items in
    let below : n ≤ length fs = let e = ap length c.0 ∙ length-take n fs in omega (arith, e) in
    elim (same_or_all h n (length fs) (nat_le h (length fs)) refl low high below) [
      | inl e ↦ subst (λ k. IsCut k first old) e c
      | inr l ↦ (c.0 ∙ same_take n h fs l.0 l.1, λ r. c.1 r ∙ ap (λ l. if member r l then None else value_in first r) (same_drop n h fs l.0 l.1), c.2)
    ]
  where
    same_or_all : (h n m : ℕ) (b : Bool) → nat_le h m ≡ b → min h m ≤ n → n ≤ h → n ≤ m → (n ≡ h) ⊎ ((m ≤ n) × (m ≤ h))
    same_or_all h n m true e low high below = let l = leb-true h m e in inl (omega (arith, l, low, high))
    same_or_all h n m false e low high below = let l = leb-false h m e in inr (omega (arith, l, low), omega (arith, l))

    take_past : (n : ℕ) (fs : List ℕ) → length fs ≤ n → take n fs ≡ fs
    take_past zero [] l = refl
    take_past zero (f ∷ fs) l = absurd (omega (arith, l))
    take_past (suc n) [] l = refl
    take_past (suc n) (f ∷ fs) l = ap (λ xs. f ∷ xs) (take_past n fs (omega (arith, l)))

    same_take : (n h : ℕ) (fs : List ℕ) → length fs ≤ n → length fs ≤ h → take n fs ≡ take h fs
    same_take n h fs l k = take_past n fs l ∙ sym (take_past h fs k)

    same_drop : (n h : ℕ) (fs : List ℕ) → length fs ≤ n → length fs ≤ h → drop n fs ≡ drop h fs
    same_drop n h fs l k = drop_all n fs l ∙ sym (drop_all h fs k)

-- registers that are filled one by one
pub none_filled : {T : Type 0} (ts : List T) (rs : Registers T) → rs.trail.items ≡ [] → ((r : ℕ) → value_in rs r ≡ None) → IsFilledSoFar 0 ts rs
none_filled ts rs e h = (e, h)

pub one_filled : {T : Type 0} (n d : ℕ) (t : T) (ts : List T) (old new : Registers T) → slice_get ts n ≡ Some t → d ≡ n → IsFilledSoFar n ts old → new.trail.items ≡ old.trail.items ++ d ∷ [] → ((r : ℕ) → value_in new r ≡ (if member r (d ∷ []) then Some t else value_in old r))
    → IsFilledSoFar (n + 1) ts new
one_filled n d t ts old new g e f trail value =
    let next : suc n ≡ n + 1 = omega arith in
    let within = slice_get_within ts n t g in
    let len : length (take n ts) ≡ n = length-take n ts ∙ omega (arith, within) in
    subst (λ k. IsFilledSoFar k ts new) next (
      trail ∙ (λ j. f.0 j ++ e j ∷ []),
      λ r. value r ∙ ap (λ k. if nat_eq r k || false then Some t else value_in old r) e ∙ ap (λ o. if nat_eq r n || false then Some t else o) (f.1 r)
          ∙ ap (λ k. if nat_eq r k || false then Some t else slice_get (take n ts) r) (sym len) ∙ sym (get_pushed (take n ts) t r) ∙ ap (λ l. slice_get l r) (sym (take_suc ts n t g)),
    )
  where
    get_pushed : {T : Type 0} (xs : List T) (y : T) (r : ℕ) → slice_get (xs ++ y ∷ []) r ≡ (if nat_eq r (length xs) || false then Some y else slice_get xs r)
    get_pushed [] y zero = refl
    get_pushed [] y (suc r) = sym (ap (λ b. if b || false then Some y else None) (ne_eqb (suc r) 0 (λ e. omega (arith, e))))
    get_pushed (x ∷ xs) y zero = sym (ap (λ b. if b || false then Some y else Some x) (ne_eqb 0 (suc (length xs)) (λ e. omega (arith, e))))
    get_pushed (x ∷ xs) y (suc r) = get_pushed xs y r ∙ ap (λ b. if b || false then Some y else slice_get xs r) (next_same r (length xs) (nat_eq r (length xs)) refl)

pub all_filled : {T : Type 0} (n : ℕ) (ts : List T) (rs : Registers T) → n ≡ length ts → IsFilledSoFar n ts rs → IsFilled ts rs
all_filled n ts rs e f = (f.0 ∙ ap from_zero e, λ r. f.1 r ∙ ap (λ k. slice_get (take k ts) r) e ∙ ap (λ l. slice_get l r) (take_every ts))

-- values that are read one by one
pub one_collected : {T : Type 0} (f : ℕ → Option T) (vs ws : List T) (d : ℕ) (ds all : List ℕ) (o : Option T) → ws ≡ vs ++ option_to_list o → o ≡ f d → vs ++ filter_map f (d ∷ ds) ≡ filter_map f all → ws ++ filter_map f ds ≡ filter_map f all
one_collected f vs ws d ds all o w e h =
    ap (λ l. l ++ filter_map f ds) w ∙ append_assoc vs (option_to_list o) (filter_map f ds) ∙ ap (λ l. vs ++ l) (as_list o (filter_map f ds) ∙ ap (λ o. cons_option o (filter_map f ds)) e) ∙ h
  where
    as_list : {T : Type 0} (o : Option T) (ts : List T) → option_to_list o ++ ts ≡ cons_option o ts
    as_list None ts = refl
    as_list (Some t) ts = refl

-- one register more is looked at
pub lacks_here : {T : Type 0} (rs : Registers T) (d : ℕ) (ds all left : List ℕ) (o : Option T) (b : Bool) → left ≡ d ∷ ds → list_any (is_lacking rs) left ≡ list_any (is_lacking rs) all → o ≡ value_in rs d → is_some o ≡ not b → b ≡ true → true ≡ list_any (is_lacking rs) all
lacks_here rs d ds all left o b at inv e n t = sym (sym inv ∙ ap (list_any (is_lacking rs)) at ∙ ap (λ b. b || list_any (is_lacking rs) ds) (ap is_none (sym e) ∙ sym (none_is o b n) ∙ t))

pub lacks_behind : {T : Type 0} (rs : Registers T) (d : ℕ) (ds all left : List ℕ) (o : Option T) (b : Bool) → left ≡ d ∷ ds → list_any (is_lacking rs) left ≡ list_any (is_lacking rs) all → o ≡ value_in rs d → is_some o ≡ not b → b ≡ false
    → list_any (is_lacking rs) ds ≡ list_any (is_lacking rs) all
lacks_behind rs d ds all left o b at inv e n t = sym (ap (λ b. b || list_any (is_lacking rs) ds) (ap is_none (sym e) ∙ sym (none_is o b n) ∙ t)) ∙ ap (list_any (is_lacking rs)) (sym at) ∙ inv

-- frames are put and taken
pub left_frame : {T : Type 0} (f : kept_frame.Frame → ℕ) (fs gs : List kept_frame.Frame) (o : Option kept_frame.Frame) (x : kept_frame.Frame) (old new : Registers T) → o ≡ innermost_frame fs → gs ≡ frames_around fs → o ≡ Some x → IsCut (f x) old new
    → IsTurned leaves (map f fs) old (map f gs) new
left_frame f [] gs o x old new e g h c = absurd (cc)
left_frame f (y ∷ fs) gs o x old new e g h c = (ap (map f) g, subst (λ k. IsCut k old new) (ap f (some_frame x y (sym h ∙ e))) c)
  where
    some_frame : (x y : kept_frame.Frame) → Some x ≡ Some y → x ≡ y
    some_frame x y e = cc

pub no_frame : {T : Type 0} (f : kept_frame.Frame → ℕ) (fs gs : List kept_frame.Frame) (o : Option kept_frame.Frame) (rs : Registers T) → o ≡ innermost_frame fs → gs ≡ frames_around fs → o ≡ None → IsTurned leaves (map f fs) rs (map f gs) rs
no_frame f [] gs o rs e g h = (ap (map f) g, refl)
no_frame f (y ∷ fs) gs o rs e g h = absurd (cc)

pub turned_over : {T : Type 0} (hs js ks : List ℕ) (old new : Registers T) → IsTurned leaves hs old js new → IsTurned opens js new ks new → IsTurned turns_over hs old ks new
turned_over hs js ks old new l o = (o.0 ∙ ap (λ l. length new.trail.items ∷ l) l.0, l.1)

pub opened : {T : Type 0} (hs ks : List ℕ) (rs : Registers T) (n : ℕ) → n ≡ length rs.trail.items → ks ≡ n ∷ hs → IsTurned opens hs rs ks rs
opened hs ks rs n e h = (h ∙ ap (λ n. n ∷ hs) e, refl)

-- the register that an instruction sets
pub acted_on : {T : Type 0} (i : Instr) (o : Option ℕ) (ds hs ks : List ℕ) (old mid new : Registers T) (v : T) → listed o ≡ ds → IsTurned (turning i) hs old ks mid → IsMade (listed o) v mid new → IsStacked i ds v hs old ks new
acted_on i o ds hs ks old mid new v e t m = record { one = subst IsOne e (one_listed o); turned = mid; turns = t; makes = subst (λ ds. IsMade ds v mid new) e m }
  where
    one_listed : (o : Option ℕ) → IsOne (listed o)
    one_listed None = tt
    one_listed (Some r) = tt
