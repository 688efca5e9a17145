-- Events in a row make up a run: what comes before an event is told first, and each answer leaves one fewer.
use Rattle.std.proofs.Common.{◌≡◌, ℕ, zero, suc, ◌<◌, List, [], ◌∷◌, ◌++◌, length, Option, Some, ◌+◌, ◌≤◌, refl, sym, ap, subst, ◌∙◌, arith, append_assoc, append-nil}
use Rattle.std.specs.Prelude.{Bool, true, false}
use Rattle.lp_model.specs.declared.ending.Ending.{Ending}
use Rattle.lp_model.specs.declared.ending.Ending.TheVariants.{NoMore, NoMoreCut, Enough, Steps, Deep}
use Rattle.lp_model.specs.Skeleton.{View, Gives, Opens, Parts, Takes, Cuts, Denies, Halts, Lacks, State, GoalNote, named, not_constant, Move, Goes, Tells, Stops, Breaks, Waits, Inner, Refuted, Held, Broke, Lasts, starts_within, move_denied, move_view, move_at, move, inner, Told, told_after, run}
use Rattle.lp_search_laws.proofs.Stack.Inners.{IsMade, move_more}
use Rattle.lp_search_laws.proofs.Stack.Ends.{stays_over}
use Rattle.lp_model.specs.Events.{Event, Gave, Over, first_after, first, Advances, Gathers}

module _ {T A : Type 0} (look : ℕ → T → View T A) where
  pair_left : (x y : Event A) (s t : State T) → ◌≡◌ {A = Option (Event A × State T)} (Some (x, s)) (Some (y, t)) → (x ≡ y) × (s ≡ t)
  pair_left x y s t h =
      let e : ◌≡◌ {A = Event A × State T} (x, s) (y, t) = cc in
      (ap (λ (z : Event A × State T). z.0) e, ap (λ (z : Event A × State T). z.1) e)

  -- a run from s is, after its first answer, a run from t
  Resumes : (j : ℕ) → State T → A → State T → ℕ → Type 0
  Resumes j s a t k = (m : ℕ) × ((run look j m s).answers ≡ a ∷ (run look j k t).answers) × ((run look j m s).ending ≡ (run look j k t).ending)

  -- with more moves in negated goals' searches, a move that is made is the same
  made_more : (i j : ℕ) → i ≤ j → (s : State T) (v : Move T A) → move (inner look i) look s ≡ v → IsMade v → move (inner look j) look s ≡ v
  made_more i j l s v e h = move_more look i j l s (subst IsMade (sym e) h) ∙ e

  gave_by : (i j n : ℕ) → i ≤ j → (s t : State T) (a : A) (v : Move T A) → move (inner look i) look s ≡ v → ((u : State T) → first look i n u ≡ Some (Gave a, t) → (k : ℕ) → Resumes j u a t k) → first_after s (first look i n) v ≡ Some (Gave a, t) → (k : ℕ) → Resumes j s a t k
  unfolding Resumes IsMade
  gave_by i j n l s t a (Goes x ns u) e ih h k =
      let r = ih u h k in
      let e' = made_more i j l s (Goes x ns u) e tt in
      (suc r.0, ap (λ w. (told_after (run look j r.0) w).answers) e' ∙ r.1, ap (λ w. (told_after (run look j r.0) w).ending) e' ∙ r.2)
  gave_by i j n l s t a (Tells b ns u) e ih h k =
      let p = pair_left _ _ _ _ h in
      let f : b ≡ a = cc in
      let e' = made_more i j l s (Tells b ns u) e tt in
      (suc k, ap (λ w. (told_after (run look j k) w).answers) e' ∙ ap (λ (x : A). x ∷ (run look j k u).answers) f ∙ ap (λ (x : State T). a ∷ (run look j k x).answers) p.1, ap (λ w. (told_after (run look j k) w).ending) e' ∙ ap (λ (x : State T). (run look j k x).ending) p.1)
  gave_by i j n l s t a (Stops b) e ih h k = let p = pair_left _ _ _ _ h in let q = p.0 in cc
  gave_by i j n l s t a (Breaks x ns b) e ih h k = let p = pair_left _ _ _ _ h in let q = p.0 in cc
  gave_by i j n l s t a (Waits x ns) e ih h k = cc

  gave_run : (i j n : ℕ) → i ≤ j → (s t : State T) (a : A) → first look i n s ≡ Some (Gave a, t) → (k : ℕ) → Resumes j s a t k
  gave_run i j zero l s t a h k = cc
  gave_run i j (suc n) l s t a h k = gave_by i j n l s t a (move (inner look i) look s) refl (λ u h' k'. gave_run i j n l u t a h' k') h k

  Finishes : (j : ℕ) → State T → Ending → Type 0
  Finishes j s e = (m : ℕ) × ((run look j m s).answers ≡ []) × ((run look j m s).ending ≡ Some e)

  over_by : (i j n : ℕ) → i ≤ j → (s t : State T) (o : Ending) (v : Move T A) → move (inner look i) look s ≡ v → ((u : State T) → first look i n u ≡ Some (Over o, t) → Finishes j u o) → first_after s (first look i n) v ≡ Some (Over o, t) → Finishes j s o
  unfolding Finishes IsMade
  over_by i j n l s t o (Goes x ns u) e ih h =
      let r = ih u h in
      let e' = made_more i j l s (Goes x ns u) e tt in
      (suc r.0, ap (λ w. (told_after (run look j r.0) w).answers) e' ∙ r.1, ap (λ w. (told_after (run look j r.0) w).ending) e' ∙ r.2)
  over_by i j n l s t o (Tells b ns u) e ih h = let p = pair_left _ _ _ _ h in let q = p.0 in cc
  over_by i j n l s t o (Stops b) e ih h =
      let p = pair_left _ _ _ _ h in
      let q = p.0 in
      let f : b ≡ o = cc in
      let e' = made_more i j l s (Stops b) e tt in
      (1, ap (λ w. (told_after (run look j 0) w).answers) e', ap (λ w. (told_after (run look j 0) w).ending) e' ∙ ap Some f)
  over_by i j n l s t o (Breaks x ns b) e ih h =
      let p = pair_left _ _ _ _ h in
      let q = p.0 in
      let f : b ≡ o = cc in
      let e' = made_more i j l s (Breaks x ns b) e tt in
      (1, ap (λ w. (told_after (run look j 0) w).answers) e', ap (λ w. (told_after (run look j 0) w).ending) e' ∙ ap Some f)
  over_by i j n l s t o (Waits x ns) e ih h = cc

  over_run : (i j n : ℕ) → i ≤ j → (s t : State T) (o : Ending) → first look i n s ≡ Some (Over o, t) → Finishes j s o
  over_run i j zero l s t o h = cc
  over_run i j (suc n) l s t o h = over_by i j n l s t o (move (inner look i) look s) refl (λ u h'. over_run i j n l u t o h') h

  -- each answer leaves one fewer
  module _ (go : State T → Option (Event A × State T)) (s : State T) (ih : (u : State T) (a : A) (x : State T) → go u ≡ Some (Gave a, x) → x.answers < u.answers) where
    stop_gives : (o : Ending) (a : A) (x : State T) → first_after s go (Stops o) ≡ Some (Gave a, x) → ⊥
    stop_gives o a x h = let p = pair_left _ _ _ _ h in let q = p.0 in cc

    break_gives : (x : ℕ) (ns : List _) (o : Ending) (a : A) (y : State T) → first_after s go (Breaks x ns o) ≡ Some (Gave a, y) → ⊥
    break_gives x ns o a y h = let p = pair_left _ _ _ _ h in let q = p.0 in cc

    wait_gives : (x : ℕ) (ns : List _) (a : A) (y : State T) → first_after s go (Waits x ns) ≡ Some (Gave a, y) → ⊥
    wait_gives x ns a y h = cc

    fewer_denied : (n k g u : ℕ) (lost : Bool) (ts rest : List T) (r : Inner) → (a : A) (x : State T) → first_after s go (move_denied n k g u lost ts rest r) ≡ Some (Gave a, x) → x.answers < suc k
    fewer_denied n k g u lost ts rest (Refuted i ns p) a x h = ih _ a x h
    fewer_denied n k g u lost ts rest (Held i ns p) a x h = ih _ a x h
    fewer_denied n k g u lost ts rest (Broke i ns e) a x h = absurd (break_gives (suc i) (GoalNote (named not_constant) ∷ ns) e a x h)
    fewer_denied n k g u lost ts rest (Lasts i ns) a x h = absurd (wait_gives (suc i) (GoalNote (named not_constant) ∷ ns) a x h)

    fewer_view : (i n k g u p : ℕ) (lost : Bool) (rest : List T) (w : View T A) → (a : A) (x : State T) → first_after s go (move_view (inner look i) n k g u p lost rest w) ≡ Some (Gave a, x) → x.answers < suc k
    fewer_view i n k g u p lost rest (Gives b) a x h = let q = pair_left _ _ _ _ h in let e = ap (λ (y : State T). y.answers) q.1 in omega arith
    fewer_view i n k g u p lost rest (Opens ts) a x h = ih _ a x h
    fewer_view i n k g u zero lost rest (Parts ts) a x h = absurd (stop_gives Deep a x h)
    fewer_view i n k g u (suc p) lost rest (Parts ts) a x h = ih _ a x h
    fewer_view i zero k g u p lost rest (Takes name ts) a x h = absurd (stop_gives Steps a x h)
    fewer_view i (suc n) k g u p lost rest (Takes name ts) a x h = ih _ a x h
    fewer_view i zero k g u p lost rest (Cuts m ts) a x h = absurd (stop_gives Steps a x h)
    fewer_view i (suc n) k g u p lost rest (Cuts m ts) a x h = ih _ a x h
    fewer_view i zero k g u p lost rest (Denies t f ts) a x h = absurd (stop_gives Steps a x h)
    fewer_view i (suc n) k g u p lost rest (Denies t f ts) a x h = fewer_denied n k g u lost ts rest (inner look i f (starts_within u t n 1)) a x h
    fewer_view i n k g u p lost rest (Halts o) a x h = absurd (stop_gives o a x h)
    fewer_view i n k g u p lost rest Lacks a x h = absurd (wait_gives 0 [] a x h)

    fewer_at : (i n k g u p : ℕ) (lost : Bool) (ts : List T) (a : A) (x : State T) → first_after s go (move_at (inner look i) look n k g u p lost ts) ≡ Some (Gave a, x) → x.answers < k
    fewer_at i n zero g u p lost ts a x h = absurd (stop_gives Enough a x h)
    fewer_at i n (suc k) g u p true [] a x h = absurd (stop_gives NoMoreCut a x h)
    fewer_at i n (suc k) g u p false [] a x h = absurd (stop_gives NoMore a x h)
    fewer_at i n (suc k) g u p true (t ∷ ts) a x h = fewer_view i n k g u p true ts (look (length ts) t) a x h
    fewer_at i n (suc k) g u p false (t ∷ ts) a x h = fewer_view i n k g u p false ts (look (length ts) t) a x h

  fewer : (i n : ℕ) (s : State T) (a : A) (x : State T) → first look i n s ≡ Some (Gave a, x) → x.answers < s.answers
  fewer i zero s a x h = cc
  fewer i (suc n) s a x h = fewer_at (first look i n) s (λ u a' x' h'. fewer i n u a' x' h') i s.steps s.answers s.given s.rows s.row s.lost s.stack a x h

  pub gives_fewer : (t u : State T) (a : A) → Advances look t (Gave a) u → u.answers < t.answers
  gives_fewer t u a d = fewer d.inner_moves d.moves t a u d.gives

  -- nothing told yet
  pub gathers_none : (s : State T) → Gathers look s [] s
  gathers_none s = record { enough = 0; runs = λ j l k. (k, refl, refl) }

  pub gathers_more : (s t u : State T) (told : List A) (a : A) → Gathers look s told t → Advances look t (Gave a) u → Gathers look s (told ++ a ∷ []) u
  unfolding Resumes
  gathers_more s t u told a c d = record {
    enough = c.enough + d.inner_moves;
    runs = λ j l k.
        let l1 : c.enough ≤ j = omega arith in
        let l2 : d.inner_moves ≤ j = omega arith in
        let r = gave_run d.inner_moves j d.moves l2 t u a d.gives k in
        let q = c.runs j l1 r.0 in
        (q.0, q.1 ∙ ap (λ xs. told ++ xs) r.1 ∙ sym (append_assoc told (a ∷ []) (run look j k u).answers), q.2 ∙ r.2);
  }

  -- a run that is over has told what was gathered
  pub gathers_over : (s t u : State T) (told : List A) (e : Ending) → Gathers look s told t → Advances look t (Over e) u → (n : ℕ) × ((run look n n s).answers ≡ told) × ((run look n n s).ending ≡ Some e)
  unfolding Finishes
  gathers_over s t u told e c d =
      let j = c.enough + d.inner_moves in
      let l1 : c.enough ≤ j = omega arith in
      let l2 : d.inner_moves ≤ j = omega arith in
      let r = over_run d.inner_moves j d.moves l2 t u e d.gives in
      let q = c.runs j l1 r.0 in
      let n = j + q.0 in
      let l3 : j ≤ n = omega arith in
      let l4 : q.0 ≤ n = omega arith in
      let same = stays_over look j n q.0 n l3 l4 s e (q.2 ∙ r.2) in
      (n, ap (λ (t : Told A). t.answers) same ∙ q.1 ∙ ap (λ xs. told ++ xs) r.1 ∙ append-nil told, ap (λ (t : Told A). t.ending) same ∙ q.2 ∙ r.2)

  -- a run that is not over yet
  pub gathers_prefix : (s t : State T) (told : List A) → Gathers look s told t → (j n : ℕ) × ((run look j n s).answers ≡ told)
  gathers_prefix s t told c = let q = c.runs c.enough (let e : c.enough ≤ c.enough = omega arith in e) 0 in (c.enough, q.0, q.1 ∙ append-nil told)
