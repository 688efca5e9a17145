-- Two searches alongside: where each look of the one is the image of the other's, and the searches of negated goals come to the same, so is each run.
use Rattle.std.proofs.Common.{◌≡◌, ℕ, zero, suc, List, [], ◌∷◌, ◌++◌, map, length, refl, sym, ap, ◌∙◌}
use Rattle.std.specs.Prelude.{◌-◌, ◌||◌, nat_lt, drop, Bool, true, false}
use Rattle.std.proofs.lemmas.List.{map-append, length-map}
use Rattle.lp_model.specs.Skeleton.{View, Gives, Opens, Parts, Takes, Cuts, Denies, Halts, Lacks, State, Move, Goes, Tells, Stops, Breaks, Waits, Inner, Note, AnswerNote, GoalNote, CutNote, Told, oldest, back, back_for_more, Refuted, Held, Broke, Lasts, named, not_constant, starts_within, move_denied, move_view, move_at, move, inner, told_after, run}

module _ {T A T0 A0 : Type 0} (f : T → T0) (g : A → A0) where
  abbrev pub state_map : State T → State T0
  state_map s = record { steps = s.steps; answers = s.answers; given = s.given; rows = s.rows; row = s.row; lost = s.lost; stack = map f s.stack }

  abbrev pub told_map : Told A → Told A0
  told_map t = record { answers = map g t.answers; notes = t.notes; steps = t.steps; ending = t.ending }

  back_map : (left rest : List T) → back (map f left) (map f rest) ≡ back left rest
  back_map [] [] = refl
  back_map [] (t ∷ rest) = refl
  back_map (t ∷ left) rest = refl

  back_for_more_map : (k : ℕ) (rest : List T) → back_for_more k (map f rest) ≡ back_for_more k rest
  back_for_more_map zero rest = refl
  back_for_more_map (suc k) rest = back_map [] rest

  drop_map : (n : ℕ) (xs : List T) → drop n (map f xs) ≡ map f (drop n xs)
  drop_map zero xs = refl
  drop_map (suc n) [] = refl
  drop_map (suc n) (x ∷ xs) = drop_map n xs

  pub oldest_map : (m : ℕ) (xs : List T) → oldest m (map f xs) ≡ map f (oldest m xs)
  oldest_map m xs = ap (λ k. drop (k - m) (map f xs)) (length-map xs f) ∙ drop_map (length xs - m) xs

  move_map : Move T A → Move T0 A0
  move_map (Goes k ns s) = Goes k ns (state_map s)
  move_map (Tells a ns s) = Tells (g a) ns (state_map s)
  move_map (Stops e) = Stops e
  move_map (Breaks k ns e) = Breaks k ns e
  move_map (Waits k ns) = Waits k ns

  goes_stack : (k : ℕ) (ns ns' : List Note) (n a v u p : ℕ) (l : Bool) (xs ys : List T0) → ns ≡ ns' → xs ≡ ys → ◌≡◌ {A = Move T0 A0}
      (Goes k ns (record { steps = n; answers = a; given = v; rows = u; row = p; lost = l; stack = xs }))
      (Goes k ns' (record { steps = n; answers = a; given = v; rows = u; row = p; lost = l; stack = ys }))
  goes_stack k ns ns' n a v u p l xs ys e h = ap (λ z. Goes k z (record { steps = n; answers = a; given = v; rows = u; row = p; lost = l; stack = xs })) e ∙ ap (λ z. Goes k ns' (record { steps = n; answers = a; given = v; rows = u; row = p; lost = l; stack = z })) h

  denied_map : (n k g' u : ℕ) (lost : Bool) (ts rest : List T) (r : Inner) → move_denied {Answer = A0} n k g' u lost (map f ts) (map f rest) r ≡ move_map (move_denied n k g' u lost ts rest r)
  unfolding move_map
  denied_map n k g' u lost ts rest (Refuted j ns p) = goes_stack (suc j) _ _ (n - j) (suc k) g' u p lost _ _ (ap (λ ms. GoalNote (named not_constant) ∷ ns ++ ms) (back_map ts rest)) (sym (map-append f ts rest))
  denied_map n k g' u lost ts rest (Held j ns p) = goes_stack (suc j) _ _ (n - j) (suc k) g' u p lost _ _ (ap (λ ms. GoalNote (named not_constant) ∷ ns ++ ms) (back_map [] rest)) refl
  denied_map n k g' u lost ts rest (Broke j ns e) = refl
  denied_map n k g' u lost ts rest (Lasts j ns) = refl

  -- the searches of negated goals, with a change of the tasks that they begin with, and of the answers that are final
  module _ (inside : T → T0) (final : (A → Bool) → A0 → Bool) where
    abbrev pub images : View T A → View T0 A0
    images (Gives a) = Gives (g a)
    images (Opens ts) = Opens (map f ts)
    images (Parts ts) = Parts (map f ts)
    images (Takes name ts) = Takes name (map f ts)
    images (Cuts m ts) = Cuts m (map f ts)
    images (Denies t is_final ts) = Denies (inside t) (final is_final) (map f ts)
    images (Halts e) = Halts e
    images Lacks = Lacks

    -- the search of a negated goal comes to the same
    abbrev pub Agree : ((A → Bool) → State T → Inner) → ((A0 → Bool) → State T0 → Inner) → View T A → Type 0
    Agree go go0 (Gives a) = Unit {0}
    Agree go go0 (Opens ts) = Unit {0}
    Agree go go0 (Parts ts) = Unit {0}
    Agree go go0 (Takes name ts) = Unit {0}
    Agree go go0 (Cuts m ts) = Unit {0}
    Agree go go0 (Denies t is_final ts) = (rows steps : ℕ) → go0 (final is_final) (starts_within rows (inside t) steps 1) ≡ go is_final (starts_within rows t steps 1)
    Agree go go0 (Halts e) = Unit {0}
    Agree go go0 Lacks = Unit {0}

    view_step : (go : (A → Bool) → State T → Inner) (go0 : (A0 → Bool) → State T0 → Inner) (n k v u p : ℕ) (lost : Bool) (rest : List T) (w : View T A) → Agree go go0 w → move_view go0 n k v u p lost (map f rest) (images w) ≡ move_map (move_view go n k v u p lost rest w)
    unfolding move_map
    view_step go go0 n k v u p lost rest (Gives a) h = ap (λ (ns : List Note). Tells (g a) (AnswerNote (suc v) ∷ ns) (record { steps = n; answers = k; given = suc v; rows = u; row = u; lost = lost; stack = map f rest })) (back_for_more_map k rest)
    view_step go go0 n k v u p lost rest (Opens ts) h = goes_stack 0 _ _ n (suc k) v u p lost _ _ (back_map ts rest) (sym (map-append f ts rest))
    view_step go go0 n k v u zero lost rest (Parts ts) h = refl
    view_step go go0 n k v u (suc p) lost rest (Parts ts) h = goes_stack 0 _ _ n (suc k) v u p lost _ _ (back_map ts rest) (sym (map-append f ts rest))
    view_step go go0 zero k v u p lost rest (Takes name ts) h = refl
    view_step go go0 (suc n) k v u p lost rest (Takes name ts) h = goes_stack 1 _ _ n (suc k) v u u lost _ _ (ap (λ ns. GoalNote name ∷ ns) (back_map ts rest)) (sym (map-append f ts rest))
    view_step go go0 zero k v u p lost rest (Cuts m ts) h = refl
    view_step go go0 (suc n) k v u p lost rest (Cuts m ts) h =
        let e = oldest_map m rest in
        ap (λ j. Goes 1 (CutNote ∷ back (map f ts) (oldest m (map f rest))) (record
        { steps = n; answers = suc k; given = v; rows = u; row = u; lost = lost || nat_lt m j; stack = map f ts ++ oldest m (map f rest) }))
        (length-map rest f) ∙ goes_stack 1 _ _ n (suc k) v u u (lost || nat_lt m (length rest)) _ _
        (ap (λ ns. CutNote ∷ ns) (ap (back (map f ts)) e ∙ back_map ts (oldest m rest)))
        (ap (λ xs. map f ts ++ xs) e ∙ sym (map-append f ts (oldest m rest)))
    view_step go go0 zero k v u p lost rest (Denies t x ts) h = refl
    view_step go go0 (suc n) k v u p lost rest (Denies t x ts) h = ap (move_denied n k v u lost (map f ts) (map f rest)) (h u n) ∙ denied_map n k v u lost ts rest (go x (starts_within u t n 1))
    view_step go go0 n k v u p lost rest (Halts e) h = refl
    view_step go go0 n k v u p lost rest Lacks h = refl

    module _ (look : ℕ → T → View T A) (look0 : ℕ → T0 → View T0 A0) (same : (height : ℕ) (t : T) → look0 height (f t) ≡ images (look height t)) (agree : (j height : ℕ) (t : T) → Agree (inner look j) (inner look0 j) (look height t)) where
      at_step : (go : (A → Bool) → State T → Inner) (go0 : (A0 → Bool) → State T0 → Inner) (n k v u p : ℕ) (lost : Bool) (ts : List T) → ((height : ℕ) (t : T) → Agree go go0 (look height t)) → move_at go0 look0 n k v u p lost (map f ts) ≡ move_map (move_at go look n k v u p lost ts)
      unfolding move_map
      at_step go go0 n zero v u p lost ts h = refl
      at_step go go0 n (suc k) v u p true [] h = refl
      at_step go go0 n (suc k) v u p false [] h = refl
      at_step go go0 n (suc k) v u p true (t ∷ ts) h = ap (λ i. move_view go0 n k v u p true (map f ts) (look0 i (f t))) (length-map ts f) ∙ ap (move_view go0 n k v u p true (map f ts)) (same (length ts) t) ∙ view_step go go0 n k v u p true ts (look (length ts) t) (h (length ts) t)
      at_step go go0 n (suc k) v u p false (t ∷ ts) h = ap (λ i. move_view go0 n k v u p false (map f ts) (look0 i (f t))) (length-map ts f) ∙ ap (move_view go0 n k v u p false (map f ts)) (same (length ts) t) ∙ view_step go go0 n k v u p false ts (look (length ts) t) (h (length ts) t)

      told_step : (go : State T → Told A) (go0 : State T0 → Told A0) → ((s : State T) → go0 (state_map s) ≡ told_map (go s)) → (m : Move T A) → told_after go0 (move_map m) ≡ told_map (told_after go m)
      unfolding move_map
      told_step go go0 ih (Goes k ns s) = ap (λ (t : Told A0). told_after (λ x. t) (Goes k ns (state_map s))) (ih s)
      told_step go go0 ih (Tells a ns s) = ap (λ (t : Told A0). told_after (λ x. t) (Tells (g a) ns (state_map s))) (ih s)
      told_step go go0 ih (Stops e) = refl
      told_step go go0 ih (Breaks k ns e) = refl
      told_step go go0 ih (Waits k ns) = refl

      pub alongside : (j n : ℕ) (s : State T) → run look0 j n (state_map s) ≡ told_map (run look j n s)
      alongside j zero s = refl
      alongside j (suc n) s =
          ap (told_after (run look0 j n)) (at_step (inner look j) (inner look0 j) s.steps s.answers s.given s.rows s.row s.lost s.stack (agree j)) ∙ told_step (run look j n) (run look0 j n) (λ x. alongside j n x) (move (inner look j) look s)
