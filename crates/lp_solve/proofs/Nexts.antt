-- A run by its next event.
use Rattle.std.proofs.Common.{◌≡◌, ℕ, zero, suc, [], ◌∷◌, Option, Some, None, refl, ap, ◌∙◌}
use Rattle.lp_model.specs.declared.ending.Ending.{Ending}
use Rattle.lp_model.specs.Branch.{Answer, Task}
use Rattle.lp_model.specs.Events.{Event, Gave, Over, first, first_after}
use Rattle.lp_model.specs.Skeleton.{View, State, Move, Goes, Tells, Stops, Breaks, Waits, move, inner, run, told_after}

abbrev One : Type 0
One = Event Answer × State Task

pair_left : (x y : Event Answer) (s t : State Task) → ◌≡◌ {A = Option One} (Some (x, s)) (Some (y, t)) → (x ≡ y) × (s ≡ t)
pair_left x y s t h = let e : ◌≡◌ {A = One} (x, s) (y, t) = cc in (ap (λ (z : One). z.0) e, ap (λ (z : One). z.1) e)

module _ (look : ℕ → Task → View Task Answer) (j : ℕ) where
  -- nothing is told in so many moves
  abbrev pub HasNone : ℕ → State Task → Type 0
  HasNone n s = ((run look j n s).answers ≡ []) × ((run look j n s).ending ≡ None)

  none_by : (n : ℕ) (s : State Task) (v : Move Task Answer) → ((u : State Task) → first look j n u ≡ None → HasNone n u) → first_after s (first look j n) v ≡ None →
      ((told_after (run look j n) v).answers ≡ []) × ((told_after (run look j n) v).ending ≡ None)
  none_by n s (Goes k ns u) ih h = ih u h
  none_by n s (Tells a ns u) ih h = absurd (cc)
  none_by n s (Stops e) ih h = absurd (cc)
  none_by n s (Breaks k ns e) ih h = absurd (cc)
  none_by n s (Waits k ns) ih h = (refl, refl)

  pub none_first : (n : ℕ) (s : State Task) → first look j n s ≡ None → HasNone n s
  none_first zero s h = (refl, refl)
  none_first (suc n) s h = none_by n s (move (inner look j) look s) (λ u e. none_first n u e) h

  -- an answer comes first, and leaves this state
  abbrev pub HasFirst : ℕ → State Task → Answer → State Task → Type 0
  HasFirst n s a t = (k : ℕ) × ((run look j n s).answers ≡ a ∷ (run look j k t).answers) × ((run look j n s).ending ≡ (run look j k t).ending)

  gave_by : (n : ℕ) (s t : State Task) (a : Answer) (v : Move Task Answer) → ((u : State Task) → first look j n u ≡ Some (Gave a, t) → HasFirst n u a t) →
      first_after s (first look j n) v ≡ Some (Gave a, t) →
      (k : ℕ) × ((told_after (run look j n) v).answers ≡ a ∷ (run look j k t).answers) × ((told_after (run look j n) v).ending ≡ (run look j k t).ending)
  gave_by n s t a (Goes k ns w) ih h = ih w h
  gave_by n s t a (Tells b ns w) ih h =
      let p = pair_left _ _ _ _ h in
      let f : b ≡ a = cc in
      (n, ap (λ (x : Answer). x ∷ (run look j n w).answers) f ∙ ap (λ (x : State Task). a ∷ (run look j n x).answers) p.1, ap (λ (x : State Task). (run look j n x).ending) p.1)
  gave_by n s t a (Stops b) ih h = let p = pair_left _ _ _ _ h in let q = p.0 in absurd (cc)
  gave_by n s t a (Breaks k ns b) ih h = let p = pair_left _ _ _ _ h in let q = p.0 in absurd (cc)
  gave_by n s t a (Waits k ns) ih h = absurd (cc)

  pub gave_first : (n : ℕ) (s t : State Task) (a : Answer) → first look j n s ≡ Some (Gave a, t) → HasFirst n s a t
  gave_first zero s t a h = absurd (cc)
  gave_first (suc n) s t a h = gave_by n s t a (move (inner look j) look s) (λ u e. gave_first n u t a e) h

  -- the search is over
  abbrev pub HasEnd : ℕ → State Task → Ending → Type 0
  HasEnd n s o = ((run look j n s).answers ≡ []) × ((run look j n s).ending ≡ Some o)

  over_by : (n : ℕ) (s t : State Task) (o : Ending) (v : Move Task Answer) → ((u : State Task) → first look j n u ≡ Some (Over o, t) → HasEnd n u o) →
      first_after s (first look j n) v ≡ Some (Over o, t) →
      ((told_after (run look j n) v).answers ≡ []) × ((told_after (run look j n) v).ending ≡ Some o)
  over_by n s t o (Goes k ns w) ih h = ih w h
  over_by n s t o (Tells b ns w) ih h = let p = pair_left _ _ _ _ h in let q = p.0 in absurd (cc)
  over_by n s t o (Stops b) ih h = let p = pair_left _ _ _ _ h in let q = p.0 in let f : b ≡ o = cc in (refl, ap Some f)
  over_by n s t o (Breaks k ns b) ih h = let p = pair_left _ _ _ _ h in let q = p.0 in let f : b ≡ o = cc in (refl, ap Some f)
  over_by n s t o (Waits k ns) ih h = absurd (cc)

  pub over_first : (n : ℕ) (s t : State Task) (o : Ending) → first look j n s ≡ Some (Over o, t) → HasEnd n s o
  over_first zero s t o h = absurd (cc)
  over_first (suc n) s t o h = over_by n s t o (move (inner look j) look s) (λ u e. over_first n u t o e) h
