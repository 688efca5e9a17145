-- Looks with more steps: where each look is the same, or the one with fewer steps lacks them, at once or in the first of the tasks that it leaves, a run that is
-- over is the same, and so is the search of a negated goal.
use Rattle.std.proofs.Common.{◌≡◌, ℕ, zero, suc, List, [], ◌∷◌, ◌++◌, length, Some, refl, sym, ap, subst, ◌∙◌}
use Rattle.std.specs.Prelude.{Bool, true, false}
use Rattle.lp_model.specs.declared.ending.Ending.{Ending}
use Rattle.lp_model.specs.Skeleton.{GoalName, View, Opens, Takes, Lacks, State, GoalNote, back, Move, Goes, Tells, Stops, Breaks, Waits, Told, Inner, move_view, move_at, inner_after, inner, told_after, run}
use Rattle.lp_search_laws.proofs.Stack.Inners.{IsOver, IsMade, Follows, later_over, view_follows, made_where_over, after_follows}

-- the second look has more steps than the first one; a dead task is one at which the first looks lack steps
pub data Fewer {T A : Type 0} (Dead : T → Type 0) (v w : View T A) : Type 0 where
  same_look : v ≡ w → Fewer Dead v w
  lacks : v ≡ Lacks → Fewer Dead v w
  opens_dead : (t : T) (ts : List T) → Dead t → v ≡ Opens (t ∷ ts) → Fewer Dead v w
  takes_dead : (name : GoalName) (t : T) (ts us : List T) → Dead t → v ≡ Takes name (t ∷ ts) → w ≡ Takes name us → Fewer Dead v w

module _ {T A : Type 0} (L M : ℕ → T → View T A) (Dead : T → Type 0) (dead : (height : ℕ) (t : T) → Dead t → L height t ≡ Lacks) (fewer : (height : ℕ) (t : T) → Fewer Dead (L height t) (M height t)) where
  abbrev state_with : (n k g u p : ℕ) (lost : Bool) (stack : List T) → State T
  state_with n k g u p lost stack = record { steps = n; answers = k; given = g; rows = u; row = p; lost = lost; stack = stack }

  dead_move : (go : (A → Bool) → State T → Inner) (n k g u p : ℕ) (lost : Bool) (t : T) (rest : List T) → Dead t → move_at go L n (suc k) g u p lost (t ∷ rest) ≡ Waits 0 []
  dead_move go n k g u p true t rest d = ap (move_view go n k g u p true rest) (dead (length rest) t d)
  dead_move go n k g u p false t rest d = ap (move_view go n k g u p false rest) (dead (length rest) t d)

  dead_inner : (j : ℕ) (f : A → Bool) (n k g u p : ℕ) (lost : Bool) (t : T) (rest : List T) → Dead t → IsOver (inner L j f (state_with n (suc k) g u p lost (t ∷ rest))) → ⊥
  unfolding IsOver
  dead_inner zero f n k g u p lost t rest d h = h
  dead_inner (suc j) f n k g u p lost t rest d h = subst (λ v. IsOver (inner_after (inner L j f) f p v)) (dead_move (inner L j) n k g u p lost t rest d) h

  dead_run : (j m : ℕ) (n k g u p : ℕ) (lost : Bool) (t : T) (rest : List T) (e : Ending) → Dead t → (run L j m (state_with n (suc k) g u p lost (t ∷ rest))).ending ≡ Some e → ⊥
  dead_run j zero n k g u p lost t rest e d h = cc
  dead_run j (suc m) n k g u p lost t rest e d h = let q = subst (λ v. (told_after (run L j m) v).ending ≡ Some e) (dead_move (inner L j) n k g u p lost t rest d) h in cc

  -- the search of a negated goal
  module _ (j : ℕ) (f : A → Bool) (ih : (h : A → Bool) (s : State T) → Follows (inner L j h s) (inner M j h s)) where
    inner_view : (q : ℕ) (n k g u p : ℕ) (lost : Bool) (rest : List T) (v w : View T A) → Fewer Dead v w → IsOver
        (inner_after (inner L j f) f q (move_view (inner L j) n k g u p lost rest v)) → inner_after (inner M j f) f q
        (move_view (inner M j) n k g u p lost rest w) ≡ inner_after (inner L j f) f q (move_view (inner L j) n k g u p lost rest v)
    unfolding IsOver
    inner_view q n k g u p lost rest v w (same_look e) h =
        ap (λ z. inner_after (inner M j f) f q (move_view (inner M j) n k g u p lost rest z)) (sym e) ∙
        ap (inner_after (inner M j f) f q) (view_follows (inner L j) (inner M j) ih n k g u p lost rest v (made_where_over (inner L j f) f q (move_view (inner L j) n k g u p lost rest v) h)) ∙
        after_follows (inner L j f) (inner M j f) f q (ih f) (move_view (inner L j) n k g u p lost rest v) h
    inner_view q n k g u p lost rest v w (lacks e) h = absurd (subst (λ z. IsOver (inner_after (inner L j f) f q (move_view (inner L j) n k g u p lost rest z))) e h)
    inner_view q n k g u p lost rest v w (opens_dead t ts d e) h =
        let o = subst (λ z. IsOver (inner_after (inner L j f) f q (move_view (inner L j) n k g u p lost rest z))) e h in
        absurd (dead_inner j f n k g u p lost t (ts ++ rest) d (later_over 0 (back (t ∷ ts) rest) (inner L j f (state_with n (suc k) g u p lost (t ∷ ts ++ rest))) o))
    inner_view q zero k g u p lost rest v w (takes_dead name t ts us d e e') h = ap (λ z. inner_after (inner M j f) f q (move_view (inner M j) zero k g u p lost rest z)) e' ∙ sym (ap (λ z. inner_after (inner L j f) f q (move_view (inner L j) zero k g u p lost rest z)) e)
    inner_view q (suc n) k g u p lost rest v w (takes_dead name t ts us d e e') h =
        let o = subst (λ z. IsOver (inner_after (inner L j f) f q (move_view (inner L j) (suc n) k g u p lost rest z))) e h in
        absurd (dead_inner j f n k g u u lost t (ts ++ rest) d (later_over 1 (GoalNote name ∷ back (t ∷ ts) rest) (inner L j f (state_with n (suc k) g u u lost (t ∷ ts ++ rest))) o))

    inner_at : (q : ℕ) (n k g u p : ℕ) (lost : Bool) (stack : List T) → IsOver (inner_after (inner L j f) f q
        (move_at (inner L j) L n k g u p lost stack)) → inner_after (inner M j f) f q (move_at (inner M j) M n k g u p lost stack) ≡ inner_after
        (inner L j f) f q (move_at (inner L j) L n k g u p lost stack)
    inner_at q n zero g u p lost stack h = refl
    inner_at q n (suc k) g u p true [] h = refl
    inner_at q n (suc k) g u p false [] h = refl
    inner_at q n (suc k) g u p true (t ∷ rest) h = inner_view q n k g u p true rest (L (length rest) t) (M (length rest) t) (fewer (length rest) t) h
    inner_at q n (suc k) g u p false (t ∷ rest) h = inner_view q n k g u p false rest (L (length rest) t) (M (length rest) t) (fewer (length rest) t) h

  pub inner_same : (j : ℕ) (f : A → Bool) (s : State T) → Follows (inner L j f s) (inner M j f s)
  unfolding IsOver
  inner_same zero f s h = absurd h
  inner_same (suc j) f s h = inner_at j f (λ g s'. inner_same j g s') s.row s.steps s.answers s.given s.rows s.row s.lost s.stack h

  -- runs
  module _ (j m : ℕ) (e : Ending) (ih : (s : State T) → (run L j m s).ending ≡ Some e → run M j m s ≡ run L j m s) where
    told_same : (v : Move T A) → (told_after (run L j m) v).ending ≡ Some e → told_after (run M j m) v ≡ told_after (run L j m) v
    told_same (Goes k ns s) h = ap (λ (t : Told A). told_after (λ x. t) (Goes k ns s)) (ih s h)
    told_same (Tells a ns s) h = ap (λ (t : Told A). told_after (λ x. t) (Tells a ns s)) (ih s h)
    told_same (Stops x) h = refl
    told_same (Breaks k ns x) h = refl
    told_same (Waits k ns) h = refl

    made : (v : Move T A) → (told_after (run L j m) v).ending ≡ Some e → IsMade v
    unfolding IsMade
    made (Goes k ns s) h = tt
    made (Tells a ns s) h = tt
    made (Stops x) h = tt
    made (Breaks k ns x) h = tt
    made (Waits k ns) h = cc

    run_view : (n k g u p : ℕ) (lost : Bool) (rest : List T) (v w : View T A) → Fewer Dead v w →
        (told_after (run L j m) (move_view (inner L j) n k g u p lost rest v)).ending ≡ Some e → told_after (run M j m)
        (move_view (inner M j) n k g u p lost rest w) ≡ told_after (run L j m) (move_view (inner L j) n k g u p lost rest v)
    run_view n k g u p lost rest v w (same_look q) h =
        ap (λ z. told_after (run M j m) (move_view (inner M j) n k g u p lost rest z)) (sym q) ∙
        ap (told_after (run M j m)) (view_follows (inner L j) (inner M j) (λ f s. inner_same j f s) n k g u p lost rest v (made (move_view (inner L j) n k g u p lost rest v) h)) ∙
        told_same (move_view (inner L j) n k g u p lost rest v) h
    run_view n k g u p lost rest v w (lacks q) h = let o = subst (λ z. (told_after (run L j m) (move_view (inner L j) n k g u p lost rest z)).ending ≡ Some e) q h in cc
    run_view n k g u p lost rest v w (opens_dead t ts d q) h =
        let o = subst (λ z. (told_after (run L j m) (move_view (inner L j) n k g u p lost rest z)).ending ≡ Some e) q h in
        absurd (dead_run j m n k g u p lost t (ts ++ rest) e d o)
    run_view zero k g u p lost rest v w (takes_dead name t ts us d q q') h = ap (λ z. told_after (run M j m) (move_view (inner M j) zero k g u p lost rest z)) q' ∙ sym (ap (λ z. told_after (run L j m) (move_view (inner L j) zero k g u p lost rest z)) q)
    run_view (suc n) k g u p lost rest v w (takes_dead name t ts us d q q') h =
        let o = subst (λ z. (told_after (run L j m) (move_view (inner L j) (suc n) k g u p lost rest z)).ending ≡ Some e) q h in
        absurd (dead_run j m n k g u u lost t (ts ++ rest) e d o)

    run_at : (n k g u p : ℕ) (lost : Bool) (stack : List T) → (told_after (run L j m) (move_at (inner L j) L n k g u p lost stack)).ending ≡ Some e → told_after (run M j m) (move_at (inner M j) M n k g u p lost stack) ≡ told_after (run L j m) (move_at (inner L j) L n k g u p lost stack)
    run_at n zero g u p lost stack h = refl
    run_at n (suc k) g u p true [] h = refl
    run_at n (suc k) g u p false [] h = refl
    run_at n (suc k) g u p true (t ∷ rest) h = run_view n k g u p true rest (L (length rest) t) (M (length rest) t) (fewer (length rest) t) h
    run_at n (suc k) g u p false (t ∷ rest) h = run_view n k g u p false rest (L (length rest) t) (M (length rest) t) (fewer (length rest) t) h

  pub run_same : (j m : ℕ) (s : State T) (e : Ending) → (run L j m s).ending ≡ Some e → run M j m s ≡ run L j m s
  run_same j zero s e h = refl
  run_same j (suc m) s e h = run_at j m e (λ s' h'. run_same j m s' e h') s.steps s.answers s.given s.rows s.row s.lost s.stack h
