-- What is told from event to event, one after the other, is what a run tells.
use Rattle.std.proofs.Common.{◌≡◌, ℕ, zero, suc, ◌+◌, ◌≤◌, List, [], ◌∷◌, ◌++◌, length, Option, Some, refl, sym, ap, subst, ◌∙◌, arith, append_assoc}
use Rattle.std.specs.Prelude.{Bool, true, false}
use Rattle.lp_model.specs.Events.{Advances, Event, Gave, Over, first, first_after}
use Rattle.lp_model.specs.Skeleton.{Breaks, Broke, Cuts, Denies, Gives, Goes, Halts, Held, Inner, Lacks, Lasts, Move, Note, Opens, Parts, Refuted, State, Stops, Takes, Tells, View, Waits, inner, move, move_at, move_denied, move_view, run, starts_within, told_after}
use Rattle.lp_model.specs.declared.ending.Ending.{Ending}
use Rattle.lp_search_laws.proofs.Stack.Ends.{stays_over}
use Rattle.lp_search_laws.proofs.Stack.Inners.{IsMade, move_more}
use Rattle.lp_plain.specs.Stepping.{Relays, notes_after, notes_told, notes_until, own_note, run_told, steps_after, steps_until, way_back}

-- of the notes of an answer those behind its own are of the way back
abbrev TellsRightly : {T A : Type 0} → Move T A → Type 0
TellsRightly (Goes k ns t) = Unit {0}
TellsRightly (Tells a ns t) = ns ≡ own_note ns ++ way_back t.given t.answers t.stack
TellsRightly (Stops e) = Unit {0}
TellsRightly (Breaks k ns e) = Unit {0}
TellsRightly (Waits k ns) = Unit {0}

module _ {T A : Type 0} (look : ℕ → T → View T A) where
  pair_same : (x y : Event A) (s t : State T) → ◌≡◌ {A = Option (Event A × State T)} (Some (x, s)) (Some (y, t)) → (x ≡ y) × (s ≡ t)
  pair_same x y s t h =
      let e : ◌≡◌ {A = Event A × State T} (x, s) (y, t) = cc in
      (ap (λ (z : Event A × State T). z.0) e, ap (λ (z : Event A × State T). z.1) e)

  -- each answer is told so
  module _ (go : (A → Bool) → State T → Inner) where
    denied_rightly : (n k g u : ℕ) (lost : Bool) (ts rest : List T) (r : Inner) → TellsRightly (move_denied {Task = T} {Answer = A} n k g u lost ts rest r)
    denied_rightly n k g u lost ts rest (Refuted j ns p) = tt
    denied_rightly n k g u lost ts rest (Held j ns p) = tt
    denied_rightly n k g u lost ts rest (Broke j ns e) = tt
    denied_rightly n k g u lost ts rest (Lasts j ns) = tt

    view_rightly : (n k g u p : ℕ) (lost : Bool) (rest : List T) (v : View T A) → TellsRightly (move_view go n k g u p lost rest v)
    view_rightly n k g u p lost rest (Gives a) = refl
    view_rightly n k g u p lost rest (Opens ts) = tt
    view_rightly n k g u zero lost rest (Parts ts) = tt
    view_rightly n k g u (suc p) lost rest (Parts ts) = tt
    view_rightly zero k g u p lost rest (Takes name ts) = tt
    view_rightly (suc n) k g u p lost rest (Takes name ts) = tt
    view_rightly zero k g u p lost rest (Cuts m ts) = tt
    view_rightly (suc n) k g u p lost rest (Cuts m ts) = tt
    view_rightly zero k g u p lost rest (Denies t f ts) = tt
    view_rightly (suc n) k g u p lost rest (Denies t f ts) = denied_rightly n k g u lost ts rest (go f (starts_within u t n 1))
    view_rightly n k g u p lost rest (Halts e) = tt
    view_rightly n k g u p lost rest Lacks = tt

    at_rightly : (n k g u p : ℕ) (lost : Bool) (ts : List T) → TellsRightly (move_at go look n k g u p lost ts)
    at_rightly n zero g u p lost ts = tt
    at_rightly n (suc k) g u p true [] = tt
    at_rightly n (suc k) g u p false [] = tt
    at_rightly n (suc k) g u p true (t ∷ ts) = view_rightly n k g u p true ts (look (length ts) t)
    at_rightly n (suc k) g u p false (t ∷ ts) = view_rightly n k g u p false ts (look (length ts) t)

  rightly : (i : ℕ) (s : State T) (v : Move T A) → move (inner look i) look s ≡ v → TellsRightly v
  rightly i s v e = subst TellsRightly e (at_rightly (inner look i) s.steps s.answers s.given s.rows s.row s.lost s.stack)

  -- with more moves in searches of negated goals a move that is made is the same
  made_more : (i j : ℕ) → i ≤ j → (s : State T) (v : Move T A) → move (inner look i) look s ≡ v → IsMade v → move (inner look j) look s ≡ v
  made_more i j l s v e h = move_more look i j l s (subst IsMade (sym e) h) ∙ e

  -- until an answer
  Resumes : (j : ℕ) → (s : State T) → (steps : ℕ) → (notes : List Note) → (t : State T) → ℕ → Type 0
  Resumes j s n ns t k = (m : ℕ) × ((run look j m s).notes ≡ ns ++ run_told look j k t) × ((run look j m s).steps ≡ n + (run look j k t).steps) × ((run look j m s).ending ≡ (run look j k t).ending)

  gave_by : (i j n : ℕ) → i ≤ j → (s t : State T) (a : A) (k : ℕ) (v : Move T A) → move (inner look i) look s ≡ v →
      ((u : State T) → first look i n u ≡ Some (Gave a, t) → Resumes j u (steps_until look i n u) (notes_until look i n u) t k) → first_after s (first look i n) v ≡ Some (Gave a, t) →
      Resumes j s (steps_after (steps_until look i n) v) (notes_after (notes_until look i n) v) t k
  unfolding Resumes IsMade
  gave_by i j n l s t a k (Goes x ns u) e ih h =
      let r = ih u h in
      let e' = made_more i j l s (Goes x ns u) e tt in
      let more : x + (run look j r.0 u).steps ≡ x + steps_until look i n u + (run look j k t).steps = (let q = r.2 in omega (arith, q)) in (
        suc r.0,
        ap (λ w. (told_after (run look j r.0) w).notes) e' ∙ ap (λ l. ns ++ l) r.1 ∙ sym (append_assoc ns (notes_until look i n u) (run_told look j k t)),
        ap (λ w. (told_after (run look j r.0) w).steps) e' ∙ more,
        ap (λ w. (told_after (run look j r.0) w).ending) e' ∙ r.3,
      )
  gave_by i j n l s t a k (Tells b ns u) e ih h =
      let p = pair_same (Gave b) (Gave a) u t h in
      let e' = made_more i j l s (Tells b ns u) e tt in
      let rest = (run look j k u).notes in
      let none : (run look j k u).steps ≡ 0 + (run look j k u).steps = omega arith in (
        suc k,
        ap (λ w. (told_after (run look j k) w).notes) e' ∙ ap (λ l. l ++ rest) (rightly i s (Tells b ns u) e) ∙ append_assoc (own_note ns) (way_back u.given u.answers u.stack) rest ∙
            ap (λ x. own_note ns ++ run_told look j k x) p.1,
        ap (λ w. (told_after (run look j k) w).steps) e' ∙ none ∙ ap (λ (x : State T). 0 + (run look j k x).steps) p.1,
        ap (λ w. (told_after (run look j k) w).ending) e' ∙ ap (λ (x : State T). (run look j k x).ending) p.1,
      )
  gave_by i j n l s t a k (Stops b) e ih h = absurd (let q = (pair_same (Over b) (Gave a) s t h).0 in cc)
  gave_by i j n l s t a k (Breaks x ns b) e ih h = absurd (let q = (pair_same (Over b) (Gave a) s t h).0 in cc)
  gave_by i j n l s t a k (Waits x ns) e ih h = absurd (cc)

  gave_run : (i j n : ℕ) → i ≤ j → (s t : State T) (a : A) (k : ℕ) → first look i n s ≡ Some (Gave a, t) → Resumes j s (steps_until look i n s) (notes_until look i n s) t k
  gave_run i j zero l s t a k h = absurd (cc)
  gave_run i j (suc n) l s t a k h = gave_by i j n l s t a k (move (inner look i) look s) refl (λ u q. gave_run i j n l u t a k q) h

  -- until the end
  Finishes : (j : ℕ) → (s : State T) → (steps : ℕ) → (notes : List Note) → Ending → Type 0
  Finishes j s n ns e = (m : ℕ) × ((run look j m s).notes ≡ ns) × ((run look j m s).steps ≡ n) × ((run look j m s).ending ≡ Some e)

  over_by : (i j n : ℕ) → i ≤ j → (s t : State T) (o : Ending) (v : Move T A) → move (inner look i) look s ≡ v →
      ((u : State T) → first look i n u ≡ Some (Over o, t) → Finishes j u (steps_until look i n u) (notes_until look i n u) o) → first_after s (first look i n) v ≡ Some (Over o, t) →
      Finishes j s (steps_after (steps_until look i n) v) (notes_after (notes_until look i n) v) o
  unfolding Finishes IsMade
  over_by i j n l s t o (Goes x ns u) e ih h =
      let r = ih u h in
      let e' = made_more i j l s (Goes x ns u) e tt in (
        suc r.0,
        ap (λ w. (told_after (run look j r.0) w).notes) e' ∙ ap (λ l. ns ++ l) r.1,
        ap (λ w. (told_after (run look j r.0) w).steps) e' ∙ ap (λ y. x + y) r.2,
        ap (λ w. (told_after (run look j r.0) w).ending) e' ∙ r.3,
      )
  over_by i j n l s t o (Tells b ns u) e ih h = absurd (let q = (pair_same (Gave b) (Over o) u t h).0 in cc)
  over_by i j n l s t o (Stops b) e ih h =
      let q = (pair_same (Over b) (Over o) s t h).0 in
      let f : b ≡ o = cc in
      let e' = made_more i j l s (Stops b) e tt in
      (1, ap (λ w. (told_after (run look j 0) w).notes) e', ap (λ w. (told_after (run look j 0) w).steps) e', ap (λ w. (told_after (run look j 0) w).ending) e' ∙ ap (λ x. Some x) f)
  over_by i j n l s t o (Breaks x ns b) e ih h =
      let q = (pair_same (Over b) (Over o) s t h).0 in
      let f : b ≡ o = cc in
      let e' = made_more i j l s (Breaks x ns b) e tt in
      (1, ap (λ w. (told_after (run look j 0) w).notes) e', ap (λ w. (told_after (run look j 0) w).steps) e', ap (λ w. (told_after (run look j 0) w).ending) e' ∙ ap (λ x. Some x) f)
  over_by i j n l s t o (Waits x ns) e ih h = absurd (cc)

  over_run : (i j n : ℕ) → i ≤ j → (s t : State T) (o : Ending) → first look i n s ≡ Some (Over o, t) → Finishes j s (steps_until look i n s) (notes_until look i n s) o
  over_run i j zero l s t o h = absurd (cc)
  over_run i j (suc n) l s t o h = over_by i j n l s t o (move (inner look i) look s) refl (λ u q. over_run i j n l u t o q) h

  pub relays_none : (s : State T) → Relays look s 0 [] s
  relays_none s = record { enough = 0; runs = λ j l k. (k, refl, (let n = (run look j k s).steps in omega arith), refl) }

  pub relays_more : (s t u : State T) (n : ℕ) (ns : List Note) (a : A) → Relays look s n ns t → (d : Advances look t (Gave a) u) →
      Relays look s (n + steps_until look d.inner_moves d.moves t) (ns ++ notes_told look d.inner_moves d.moves t) u
  unfolding Resumes
  relays_more s t u n ns a c d = record {
    enough = c.enough + d.inner_moves;
    runs = λ j l k.
        let l1 : c.enough ≤ j = omega (arith, l) in
        let l2 : d.inner_moves ≤ j = omega (arith, l) in
        let r = gave_run d.inner_moves j d.moves l2 t u a k d.gives in
        let q = c.runs j l1 r.0 in
        let way = way_back t.given t.answers t.stack in
        let mine = notes_until look d.inner_moves d.moves t in (
          q.0,
          q.1 ∙ ap (λ l. ns ++ (way ++ l)) r.1 ∙ ap (λ l. ns ++ l) (sym (append_assoc way mine (run_told look j k u))) ∙ sym (append_assoc ns (way ++ mine) (run_told look j k u)),
          (let x = q.2 in let y = r.2 in omega (arith, x, y)),
          q.3 ∙ r.3,
        );
  }

  pub relays_over : (s t u : State T) (n : ℕ) (ns : List Note) (e : Ending) → Relays look s n ns t → (d : Advances look t (Over e) u) →
      (m : ℕ) × (run_told look m m s ≡ ns ++ notes_told look d.inner_moves d.moves t) × ((run look m m s).steps ≡ n + steps_until look d.inner_moves d.moves t) × ((run look m m s).ending ≡ Some e)
  unfolding Finishes
  relays_over s t u n ns e c d =
      let j = c.enough + d.inner_moves in
      let l1 : c.enough ≤ j = omega arith in
      let l2 : d.inner_moves ≤ j = omega arith in
      let r = over_run d.inner_moves j d.moves l2 t u e d.gives in
      let q = c.runs j l1 r.0 in
      let m = j + q.0 in
      let l3 : j ≤ m = omega arith in
      let l4 : q.0 ≤ m = omega arith in
      let same = stays_over look j m q.0 m l3 l4 s e (q.3 ∙ r.3) in
      let way = way_back t.given t.answers t.stack in (
        m,
        ap (λ w. way_back s.given s.answers s.stack ++ w.notes) same ∙ q.1 ∙ ap (λ l. ns ++ (way ++ l)) r.1,
        ap (λ w. w.steps) same ∙ q.2 ∙ ap (λ y. n + y) r.2,
        ap (λ w. w.ending) same ∙ q.3 ∙ r.3,
      )
