-- Greater limits change nothing of a run that ends since it has no more: steps, goals that may be taken apart in a row, and looks that are the same or, under the
-- smaller limit, end the search as too deep.
use Rattle.std.proofs.Common.{◌≡◌, ℕ, zero, suc, ◌≤◌, List, [], ◌∷◌, ◌++◌, length, Some, refl, sym, ap, subst, ◌∙◌, arith}
use Rattle.std.specs.Prelude.{◌-◌, ◌||◌, nat_lt, Bool, true, false, if◌then◌else◌}
use Rattle.lp_model.specs.declared.ending.Ending.{Ending}
use Rattle.lp_model.specs.declared.ending.Ending.TheVariants.{NoMore, NoMoreCut, Enough, Steps, Flexible, Arithmetic, OpenNot, Deep}
use Rattle.lp_model.specs.Skeleton.{GoalName, View, Gives, Opens, Parts, Takes, Cuts, Denies, Halts, Lacks, State, Note, GoalNote, CutNote, AnswerNote, named, not_constant, back, back_for_more, oldest, Goes, Tells, Stops, Told, Inner, Refuted, Held, Broke, Lasts, starts_within, move_denied, move_view, move_at, later, inner_end, inner_after, inner, told_after, run}
use Rattle.lp_search_laws.proofs.Stack.Inners.{BreaksRightly, inner_rightly}

-- a search that is refuted or held
abbrev pub IsDecided : Inner → Type 0
IsDecided (Refuted k ns p) = Unit {0}
IsDecided (Held k ns p) = Unit {0}
IsDecided (Broke k ns e) = ⊥
IsDecided (Lasts k ns) = ⊥

-- the second comes to the same, and leaves as many goals that may be taken apart or more
abbrev pub IsWithin : Inner → Inner → Type 0
IsWithin (Refuted k ns p) r = (q : ℕ) × (p ≤ q) × (r ≡ Refuted k ns q)
IsWithin (Held k ns p) r = (q : ℕ) × (p ≤ q) × (r ≡ Held k ns q)
IsWithin (Broke k ns e) r = ⊥
IsWithin (Lasts k ns) r = ⊥

-- the first look stops as too deep, at once or in the first of the tasks that it leaves, or it is the second one
pub data Shallower {T A : Type 0} (Dead : T → Type 0) (v w : View T A) : Type 0 where
  same_view : v ≡ w → Shallower Dead v w
  opens_dead : (t : T) (ts : List T) → Dead t → v ≡ Opens (t ∷ ts) → Shallower Dead v w
  takes_dead : (name : GoalName) (t : T) (ts us : List T) → Dead t → v ≡ Takes name (t ∷ ts) → w ≡ Takes name us → Shallower Dead v w

later_decided : (j : ℕ) (ns : List Note) (r : Inner) → IsDecided (later j ns r) → IsDecided r
later_decided j ns (Refuted k ms p) h = tt
later_decided j ns (Held k ms p) h = tt
later_decided j ns (Broke k ms e) h = h
later_decided j ns (Lasts k ms) h = h

later_within : (j : ℕ) (ns : List Note) (r r' : Inner) → IsWithin r r' → IsWithin (later j ns r) (later j ns r')
later_within j ns (Refuted k ms p) r' h = (h.0, h.1, ap (later j ns) h.2)
later_within j ns (Held k ms p) r' h = (h.0, h.1, ap (later j ns) h.2)
later_within j ns (Broke k ms e) r' h = h
later_within j ns (Lasts k ms) r' h = h

end_within : (p q : ℕ) → p ≤ q → (e : Ending) → IsDecided (inner_end p e) → IsWithin (inner_end p e) (inner_end q e)
end_within p q l NoMore h = (q, l, refl)
end_within p q l NoMoreCut h = absurd h
end_within p q l Enough h = absurd h
end_within p q l Steps h = absurd h
end_within p q l Flexible h = absurd h
end_within p q l (Arithmetic f) h = absurd h
end_within p q l OpenNot h = absurd h
end_within p q l Deep h = absurd h

answer_within : (b : Bool) (p q : ℕ) → p ≤ q → IsDecided (if b then Held 0 [] p else Broke 0 [] OpenNot) → IsWithin (if b then Held 0 [] p else Broke 0 [] OpenNot) (if b then Held 0 [] q else Broke 0 [] OpenNot)
answer_within true p q l h = (q, l, refl)
answer_within false p q l h = absurd h

module _ {T A : Type 0} (L M : ℕ → T → View T A) (Dead : T → Type 0) (dead : (height : ℕ) (t : T) → Dead t → L height t ≡ Halts Deep) (shallower : (height : ℕ) (t : T) → Shallower Dead (L height t) (M height t)) where
  abbrev st : (n k g u p : ℕ) (lost : Bool) (stack : List T) → State T
  st n k g u p lost stack = record { steps = n; answers = k; given = g; rows = u; row = p; lost = lost; stack = stack }

  dead_move : (go : (A → Bool) → State T → Inner) (n k g u p : ℕ) (lost : Bool) (t : T) (rest : List T) → Dead t → move_at go L n (suc k) g u p lost (t ∷ rest) ≡ Stops Deep
  dead_move go n k g u p true t rest d = ap (move_view go n k g u p true rest) (dead (length rest) t d)
  dead_move go n k g u p false t rest d = ap (move_view go n k g u p false rest) (dead (length rest) t d)

  dead_inner : (j : ℕ) (f : A → Bool) (n k g u p : ℕ) (lost : Bool) (t : T) (rest : List T) → Dead t → IsDecided (inner L j f (st n (suc k) g u p lost (t ∷ rest))) → ⊥
  dead_inner zero f n k g u p lost t rest d h = h
  dead_inner (suc j) f n k g u p lost t rest d h = subst (λ v. IsDecided (inner_after (inner L j f) f p v)) (dead_move (inner L j) n k g u p lost t rest d) h

  dead_run : (j m : ℕ) (n k g u p : ℕ) (lost : Bool) (t : T) (rest : List T) → Dead t → (run L j m (st n (suc k) g u p lost (t ∷ rest))).ending ≡ Some NoMore → ⊥
  dead_run j zero n k g u p lost t rest d h = cc
  dead_run j (suc m) n k g u p lost t rest d h = let q = subst (λ v. (told_after (run L j m) v).ending ≡ Some NoMore) (dead_move (inner L j) n k g u p lost t rest d) h in cc

  Inners : (j : ℕ) → Type 0
  Inners j = (f : A → Bool) (n n' k g u u' p p' : ℕ) (lost : Bool) (stack : List T) → n ≤ n' → u ≤ u' → p ≤ p' → IsDecided (inner L j f (st n k g u p lost stack)) → IsWithin (inner L j f (st n k g u p lost stack)) (inner M j f (st n' k g u' p' lost stack))

  module _ (j : ℕ) (f : A → Bool) (ih : Inners j) where
    denied_within : (q q' n n' k g u u' : ℕ) (lost : Bool) (ts rest : List T) (r r' : Inner) → (IsDecided r → IsWithin r r') → n ≤ n' → u ≤ u' →
        IsDecided (inner_after (inner L j f) f q (move_denied {Task = T} {Answer = A} n k g u lost ts rest r)) → IsWithin
        (inner_after (inner L j f) f q (move_denied {Task = T} {Answer = A} n k g u lost ts rest r))
        (inner_after (inner M j f) f q' (move_denied {Task = T} {Answer = A} n' k g u' lost ts rest r'))
    unfolding Inners
    denied_within q q' n n' k g u u' lost ts rest (Refuted c ns p) r' b l l' h =
        let x = b tt in
        let a : n - c ≤ n' - c = omega arith in
        let d = later_decided (suc c) (GoalNote (named not_constant) ∷ ns ++ back ts rest) (inner L j f (st (n - c) (suc k) g u p lost (ts ++ rest))) h in
        subst (λ z. IsWithin (inner_after (inner L j f) f q (move_denied {Task = T} {Answer = A} n k g u lost ts rest (Refuted c ns p))) (inner_after (inner M j f) f q' (move_denied {Task = T} {Answer = A} n' k g u' lost ts rest z))) (sym x.2)
        (later_within (suc c) (GoalNote (named not_constant) ∷ ns ++ back ts rest) (inner L j f (st (n - c) (suc k) g u p lost (ts ++ rest))) (inner M j f (st (n' - c) (suc k) g u' x.0 lost (ts ++ rest))) (ih f (n - c) (n' - c) (suc k) g u u' p x.0 lost (ts ++ rest) a l' x.1 d))
    denied_within q q' n n' k g u u' lost ts rest (Held c ns p) r' b l l' h =
        let x = b tt in
        let a : n - c ≤ n' - c = omega arith in
        let d = later_decided (suc c) (GoalNote (named not_constant) ∷ ns ++ back [] rest) (inner L j f (st (n - c) (suc k) g u p lost rest)) h in
        subst (λ z. IsWithin (inner_after (inner L j f) f q (move_denied {Task = T} {Answer = A} n k g u lost ts rest (Held c ns p))) (inner_after (inner M j f) f q' (move_denied {Task = T} {Answer = A} n' k g u' lost ts rest z))) (sym x.2)
        (later_within (suc c) (GoalNote (named not_constant) ∷ ns ++ back [] rest) (inner L j f (st (n - c) (suc k) g u p lost rest)) (inner M j f (st (n' - c) (suc k) g u' x.0 lost rest)) (ih f (n - c) (n' - c) (suc k) g u u' p x.0 lost rest a l' x.1 d))
    denied_within q q' n n' k g u u' lost ts rest (Broke c ns e) r' b l l' h = absurd h
    denied_within q q' n n' k g u u' lost ts rest (Lasts c ns) r' b l l' h = absurd h

    goes : (i : ℕ) (ns : List Note) (n n' k g u u' p p' : ℕ) (lost : Bool) (stack : List T) → n ≤ n' → u ≤ u' → p ≤ p' → IsDecided
        (later i ns (inner L j f (st n k g u p lost stack))) → IsWithin (later i ns (inner L j f (st n k g u p lost stack)))
        (later i ns (inner M j f (st n' k g u' p' lost stack)))
    unfolding Inners
    goes i ns n n' k g u u' p p' lost stack a b c h =
        later_within i ns (inner L j f (st n k g u p lost stack)) (inner M j f (st n' k g u' p' lost stack)) (ih f n n' k g u u' p p' lost stack a b c (later_decided i ns (inner L j f (st n k g u p lost stack)) h))

    view_within : (q q' n n' k g u u' p p' : ℕ) (lost : Bool) (rest : List T) (v : View T A) → q ≤ q' → n ≤ n' → u ≤ u' → p ≤ p' → IsDecided (inner_after (inner L j f) f q (move_view (inner L j) n k g u p lost rest v)) →
        IsWithin (inner_after (inner L j f) f q (move_view (inner L j) n k g u p lost rest v)) (inner_after (inner M j f) f q' (move_view (inner M j) n' k g u' p' lost rest v))
    unfolding Inners
    view_within q q' n n' k g u u' p p' lost rest (Gives a) lq ln lu lp h = answer_within (f a) q q' lq h
    view_within q q' n n' k g u u' p p' lost rest (Opens ts) lq ln lu lp h = goes 0 (back ts rest) n n' (suc k) g u u' p p' lost (ts ++ rest) ln lu lp h
    view_within q q' n n' k g u u' zero p' lost rest (Parts ts) lq ln lu lp h = absurd h
    view_within q q' n n' k g u u' (suc p) zero lost rest (Parts ts) lq ln lu lp h = absurd (omega arith)
    view_within q q' n n' k g u u' (suc p) (suc p') lost rest (Parts ts) lq ln lu lp h = goes 0 (back ts rest) n n' (suc k) g u u' p p' lost (ts ++ rest) ln lu (omega arith) h
    view_within q q' zero n' k g u u' p p' lost rest (Takes name ts) lq ln lu lp h = absurd h
    view_within q q' (suc n) zero k g u u' p p' lost rest (Takes name ts) lq ln lu lp h = absurd (omega arith)
    view_within q q' (suc n) (suc n') k g u u' p p' lost rest (Takes name ts) lq ln lu lp h = goes 1 (GoalNote name ∷ back ts rest) n n' (suc k) g u u' u u' lost (ts ++ rest) (omega arith) lu lu h
    view_within q q' zero n' k g u u' p p' lost rest (Cuts m ts) lq ln lu lp h = absurd h
    view_within q q' (suc n) zero k g u u' p p' lost rest (Cuts m ts) lq ln lu lp h = absurd (omega arith)
    view_within q q' (suc n) (suc n') k g u u' p p' lost rest (Cuts m ts) lq ln lu lp h =
        goes 1 (CutNote ∷ back ts (oldest m rest)) n n' (suc k) g u u' u u' (lost || nat_lt m (length rest)) (ts ++ oldest m rest) (omega arith) lu lu h
    view_within q q' zero n' k g u u' p p' lost rest (Denies t i ts) lq ln lu lp h = absurd h
    view_within q q' (suc n) zero k g u u' p p' lost rest (Denies t i ts) lq ln lu lp h = absurd (omega arith)
    view_within q q' (suc n) (suc n') k g u u' p p' lost rest (Denies t i ts) lq ln lu lp h =
        denied_within q q' n n' k g u u' lost ts rest (inner L j i (starts_within u t n 1)) (inner M j i (starts_within u' t n' 1)) (ih i n n' 1 0 u u' u u' false (t ∷ []) (omega arith) lu lu) (omega arith) lu h
    view_within q q' n n' k g u u' p p' lost rest (Halts e) lq ln lu lp h = end_within q q' lq e h
    view_within q q' n n' k g u u' p p' lost rest Lacks lq ln lu lp h = absurd h

    looked_within : (q q' n n' k g u u' p p' : ℕ) (lost : Bool) (rest : List T) (v w : View T A) → Shallower Dead v w → q ≤ q' → n ≤ n' → u ≤ u' → p ≤ p' → IsDecided (inner_after (inner L j f) f q (move_view (inner L j) n k g u p lost rest v)) →
        IsWithin (inner_after (inner L j f) f q (move_view (inner L j) n k g u p lost rest v)) (inner_after (inner M j f) f q' (move_view (inner M j) n' k g u' p' lost rest w))
    looked_within q q' n n' k g u u' p p' lost rest v w (same_view e) lq ln lu lp h =
        subst (λ z. IsWithin (inner_after (inner L j f) f q (move_view (inner L j) n k g u p lost rest v)) (inner_after (inner M j f) f q' (move_view (inner M j) n' k g u' p' lost rest z))) e (view_within q q' n n' k g u u' p p' lost rest v lq ln lu lp h)
    looked_within q q' n n' k g u u' p p' lost rest v w (opens_dead t ts d e) lq ln lu lp h =
        let o = subst (λ z. IsDecided (inner_after (inner L j f) f q (move_view (inner L j) n k g u p lost rest z))) e h in
        absurd (dead_inner j f n k g u p lost t (ts ++ rest) d (later_decided 0 (back (t ∷ ts) rest) (inner L j f (st n (suc k) g u p lost (t ∷ ts ++ rest))) o))
    looked_within q q' zero n' k g u u' p p' lost rest v w (takes_dead name t ts us d e e') lq ln lu lp h =
        absurd (subst (λ z. IsDecided (inner_after (inner L j f) f q (move_view (inner L j) zero k g u p lost rest z))) e h)
    looked_within q q' (suc n) n' k g u u' p p' lost rest v w (takes_dead name t ts us d e e') lq ln lu lp h =
        let o = subst (λ z. IsDecided (inner_after (inner L j f) f q (move_view (inner L j) (suc n) k g u p lost rest z))) e h in
        absurd (dead_inner j f n k g u u lost t (ts ++ rest) d (later_decided 1 (GoalNote name ∷ back (t ∷ ts) rest) (inner L j f (st n (suc k) g u u lost (t ∷ ts ++ rest))) o))

    at_within : (q q' n n' k g u u' p p' : ℕ) (lost : Bool) (stack : List T) → q ≤ q' → n ≤ n' → u ≤ u' → p ≤ p' → IsDecided (inner_after (inner L j f) f q (move_at (inner L j) L n k g u p lost stack)) →
        IsWithin (inner_after (inner L j f) f q (move_at (inner L j) L n k g u p lost stack)) (inner_after (inner M j f) f q' (move_at (inner M j) M n' k g u' p' lost stack))
    at_within q q' n n' zero g u u' p p' lost stack lq ln lu lp h = absurd h
    at_within q q' n n' (suc k) g u u' p p' true [] lq ln lu lp h = absurd h
    at_within q q' n n' (suc k) g u u' p p' false [] lq ln lu lp h = (q', lq, refl)
    at_within q q' n n' (suc k) g u u' p p' true (t ∷ rest) lq ln lu lp h = looked_within q q' n n' k g u u' p p' true rest (L (length rest) t) (M (length rest) t) (shallower (length rest) t) lq ln lu lp h
    at_within q q' n n' (suc k) g u u' p p' false (t ∷ rest) lq ln lu lp h = looked_within q q' n n' k g u u' p p' false rest (L (length rest) t) (M (length rest) t) (shallower (length rest) t) lq ln lu lp h

  inner_within : (j : ℕ) → Inners j
  unfolding Inners
  inner_within zero = λ f n n' k g u u' p p' lost stack ln lu lp h. absurd h
  inner_within (suc j) = λ f n n' k g u u' p p' lost stack ln lu lp h. at_within j f (inner_within j) p p' n n' k g u u' p p' lost stack lp ln lu lp h

  -- runs
  module _ (j m : ℕ) (ih : (n n' k g u u' p p' : ℕ) (lost : Bool) (stack : List T) → n ≤ n' → u ≤ u' → p ≤ p' → (run L j m (st n k g u p lost stack)).ending ≡ Some NoMore → run M j m (st n' k g u' p' lost stack) ≡ run L j m (st n k g u p lost stack)) where
    run_goes : (i : ℕ) (ns : List Note) (n n' k g u u' p p' : ℕ) (lost : Bool) (stack : List T) → n ≤ n' → u ≤ u' → p ≤ p' → (run L j m (st n k g u p lost stack)).ending ≡ Some NoMore →
        told_after (run M j m) (Goes i ns (st n' k g u' p' lost stack)) ≡ told_after (run L j m) (Goes i ns (st n k g u p lost stack))
    run_goes i ns n n' k g u u' p p' lost stack a b c h = ap (λ (t : Told A). told_after (λ x. t) (Goes i ns (st n k g u p lost stack))) (ih n n' k g u u' p p' lost stack a b c h)

    run_denied : (n n' k g u u' : ℕ) (lost : Bool) (ts rest : List T) (r r' : Inner) → (IsDecided r → IsWithin r r') → BreaksRightly r → n ≤ n' → u ≤ u' → (told_after (run L j m) (move_denied n k g u lost ts rest r)).ending ≡ Some NoMore →
        told_after (run M j m) (move_denied n' k g u' lost ts rest r') ≡ told_after (run L j m) (move_denied n k g u lost ts rest r)
    run_denied n n' k g u u' lost ts rest (Refuted c ns p) r' b w l l' h =
        let x = b tt in
        let a : n - c ≤ n' - c = omega arith in
        ap (λ z. told_after (run M j m) (move_denied n' k g u' lost ts rest z)) x.2 ∙ run_goes (suc c) (GoalNote (named not_constant) ∷ ns ++ back ts rest) (n - c) (n' - c) (suc k) g u u' p x.0 lost (ts ++ rest) a l' x.1 h
    run_denied n n' k g u u' lost ts rest (Held c ns p) r' b w l l' h =
        let x = b tt in
        let a : n - c ≤ n' - c = omega arith in
        ap (λ z. told_after (run M j m) (move_denied n' k g u' lost ts rest z)) x.2 ∙ run_goes (suc c) (GoalNote (named not_constant) ∷ ns ++ back [] rest) (n - c) (n' - c) (suc k) g u u' p x.0 lost rest a l' x.1 h
    run_denied n n' k g u u' lost ts rest (Broke c ns e) r' b w l l' h = let q : e ≡ NoMore = cc in absurd (w q)
    run_denied n n' k g u u' lost ts rest (Lasts c ns) r' b w l l' h = cc

    run_view : (n n' k g u u' p p' : ℕ) (lost : Bool) (rest : List T) (v : View T A) → n ≤ n' → u ≤ u' → p ≤ p' → (told_after (run L j m) (move_view (inner L j) n k g u p lost rest v)).ending ≡ Some NoMore →
        told_after (run M j m) (move_view (inner M j) n' k g u' p' lost rest v) ≡ told_after (run L j m) (move_view (inner L j) n k g u p lost rest v)
    unfolding Inners
    run_view n n' k g u u' p p' lost rest (Gives a) ln lu lp h =
        ap (λ (t : Told A). told_after (λ x. t) (Tells a (AnswerNote (suc g) ∷ back_for_more k rest) (st n k (suc g) u u lost rest))) (ih n n' k (suc g) u u' u u' lost rest ln lu lu h)
    run_view n n' k g u u' p p' lost rest (Opens ts) ln lu lp h = run_goes 0 (back ts rest) n n' (suc k) g u u' p p' lost (ts ++ rest) ln lu lp h
    run_view n n' k g u u' zero p' lost rest (Parts ts) ln lu lp h = cc
    run_view n n' k g u u' (suc p) zero lost rest (Parts ts) ln lu lp h = absurd (omega arith)
    run_view n n' k g u u' (suc p) (suc p') lost rest (Parts ts) ln lu lp h = run_goes 0 (back ts rest) n n' (suc k) g u u' p p' lost (ts ++ rest) ln lu (omega arith) h
    run_view zero n' k g u u' p p' lost rest (Takes name ts) ln lu lp h = cc
    run_view (suc n) zero k g u u' p p' lost rest (Takes name ts) ln lu lp h = absurd (omega arith)
    run_view (suc n) (suc n') k g u u' p p' lost rest (Takes name ts) ln lu lp h = run_goes 1 (GoalNote name ∷ back ts rest) n n' (suc k) g u u' u u' lost (ts ++ rest) (omega arith) lu lu h
    run_view zero n' k g u u' p p' lost rest (Cuts i ts) ln lu lp h = cc
    run_view (suc n) zero k g u u' p p' lost rest (Cuts i ts) ln lu lp h = absurd (omega arith)
    run_view (suc n) (suc n') k g u u' p p' lost rest (Cuts i ts) ln lu lp h =
        run_goes 1 (CutNote ∷ back ts (oldest i rest)) n n' (suc k) g u u' u u' (lost || nat_lt i (length rest)) (ts ++ oldest i rest) (omega arith) lu lu h
    run_view zero n' k g u u' p p' lost rest (Denies t i ts) ln lu lp h = cc
    run_view (suc n) zero k g u u' p p' lost rest (Denies t i ts) ln lu lp h = absurd (omega arith)
    run_view (suc n) (suc n') k g u u' p p' lost rest (Denies t i ts) ln lu lp h =
        run_denied n n' k g u u' lost ts rest (inner L j i (starts_within u t n 1)) (inner M j i (starts_within u' t n' 1)) (inner_within j i n n' 1 0 u u' u u' false (t ∷ []) (omega arith) lu lu) (inner_rightly L j i (starts_within u t n 1)) (omega arith) lu h
    run_view n n' k g u u' p p' lost rest (Halts e) ln lu lp h = refl
    run_view n n' k g u u' p p' lost rest Lacks ln lu lp h = cc

    run_looked : (n n' k g u u' p p' : ℕ) (lost : Bool) (rest : List T) (v w : View T A) → Shallower Dead v w → n ≤ n' → u ≤ u' → p ≤ p' → (told_after (run L j m) (move_view (inner L j) n k g u p lost rest v)).ending ≡ Some NoMore →
        told_after (run M j m) (move_view (inner M j) n' k g u' p' lost rest w) ≡ told_after (run L j m) (move_view (inner L j) n k g u p lost rest v)
    run_looked n n' k g u u' p p' lost rest v w (same_view e) ln lu lp h = ap (λ z. told_after (run M j m) (move_view (inner M j) n' k g u' p' lost rest z)) (sym e) ∙ run_view n n' k g u u' p p' lost rest v ln lu lp h
    run_looked n n' k g u u' p p' lost rest v w (opens_dead t ts d e) ln lu lp h =
        let o = subst (λ z. (told_after (run L j m) (move_view (inner L j) n k g u p lost rest z)).ending ≡ Some NoMore) e h in
        absurd (dead_run j m n k g u p lost t (ts ++ rest) d o)
    run_looked zero n' k g u u' p p' lost rest v w (takes_dead name t ts us d e e') ln lu lp h =
        let o = subst (λ z. (told_after (run L j m) (move_view (inner L j) zero k g u p lost rest z)).ending ≡ Some NoMore) e h in
        cc
    run_looked (suc n) n' k g u u' p p' lost rest v w (takes_dead name t ts us d e e') ln lu lp h =
        let o = subst (λ z. (told_after (run L j m) (move_view (inner L j) (suc n) k g u p lost rest z)).ending ≡ Some NoMore) e h in
        absurd (dead_run j m n k g u u lost t (ts ++ rest) d o)

    run_at : (n n' k g u u' p p' : ℕ) (lost : Bool) (stack : List T) → n ≤ n' → u ≤ u' → p ≤ p' → (told_after (run L j m) (move_at (inner L j) L n k g u p lost stack)).ending ≡ Some NoMore →
        told_after (run M j m) (move_at (inner M j) M n' k g u' p' lost stack) ≡ told_after (run L j m) (move_at (inner L j) L n k g u p lost stack)
    run_at n n' zero g u u' p p' lost stack ln lu lp h = refl
    run_at n n' (suc k) g u u' p p' true [] ln lu lp h = refl
    run_at n n' (suc k) g u u' p p' false [] ln lu lp h = refl
    run_at n n' (suc k) g u u' p p' true (t ∷ rest) ln lu lp h = run_looked n n' k g u u' p p' true rest (L (length rest) t) (M (length rest) t) (shallower (length rest) t) ln lu lp h
    run_at n n' (suc k) g u u' p p' false (t ∷ rest) ln lu lp h = run_looked n n' k g u u' p p' false rest (L (length rest) t) (M (length rest) t) (shallower (length rest) t) ln lu lp h

  pub run_within : (j m n n' k g u u' p p' : ℕ) (lost : Bool) (stack : List T) → n ≤ n' → u ≤ u' → p ≤ p' → (run L j m (st n k g u p lost stack)).ending ≡ Some NoMore → run M j m (st n' k g u' p' lost stack) ≡ run L j m (st n k g u p lost stack)
  run_within j zero n n' k g u u' p p' lost stack ln lu lp h = cc
  run_within j (suc m) n n' k g u u' p p' lost stack ln lu lp h = run_at j m (λ n1 n2 k1 g1 u1 u2 p1 p2 lost1 stack1 a b c e. run_within j m n1 n2 k1 g1 u1 u2 p1 p2 lost1 stack1 a b c e) n n' k g u u' p p' lost stack ln lu lp h
