-- The ends of a search: no answer is wanted, and a search that is over stays so.
use Rattle.std.proofs.Common.{◌≡◌, ◌⊎◌, ℕ, zero, suc, ◌+◌, ◌<◌, ◌≤◌, List, [], ◌++◌, refl, sym, ap, inl, inr, ◌∙◌, subst, arith, Option, Some}
use Rattle.std.specs.Prelude.{Bool}
use Rattle.lp_model.specs.declared.ending.Ending.{Ending}
use Rattle.lp_model.specs.declared.ending.Ending.TheVariants.{Enough}
use Rattle.lp_model.specs.Branch.{Answer, Task}
use Rattle.lp_model.specs.Events.{Advances, Event, Gave, Over, first, first_after}
use Rattle.lp_model.specs.Skeleton.{Breaks, Goes, Inner, Move, Note, State, Stops, Tells, View, Waits, back, inner, move, move_at}
use Rattle.lp_search_laws.proofs.Stack.Inners.{IsMade, move_more}
use Rattle.lp_plain.specs.Moving.{both, quiet}
use Rattle.lp_plain.specs.Stepping.{notes_after, notes_told, notes_until, steps_after, steps_until, way_back}
use Rattle.lp_plain.specs.inner.Following.{tally_told, until}
use Rattle.lp_plain.proofs.Following.{pair_left, tally_is}

in_order : (a b : ℕ) → (a ≤ b) ⊎ (b ≤ a)
in_order zero b = inl (omega arith)
in_order (suc a) zero = inr (omega arith)
in_order (suc a) (suc b) = elim (in_order a b) [ inl l ↦ inl (omega (arith, l)) | inr l ↦ inr (omega (arith, l)) ]

module _ (see : ℕ → Task → View Task Answer) where
  -- no answer is wanted
  stops_enough : (go : (Answer → Bool) → State Task → Inner) (n k g u p : ℕ) (lost : Bool) (ts : List Task) → k ≡ 0 → move_at go see n k g u p lost ts ≡ Stops Enough
  stops_enough go n zero g u p lost ts e = refl
  stops_enough go n (suc k) g u p lost ts e = absurd (cc)

  pub enough_over : (s : State Task) → s.answers ≡ 0 → (x : Event Answer) (u : State Task) → Advances see s x u → (x ≡ Over Enough) × (u ≡ s)
  enough_over s e x u d = go d.moves d.gives
    where
      go : (i : ℕ) → first see d.inner_moves i s ≡ Some (x, u) → (x ≡ Over Enough) × (u ≡ s)
      go zero q = absurd (cc)
      go (suc i) q =
          let j = d.inner_moves in
          let r = pair_left (Over Enough) x s u (sym (ap (first_after s (first see j i)) (stops_enough (inner see j) s.steps s.answers s.given s.rows s.row s.lost s.stack e)) ∙ q) in
          (sym r.0, sym r.1)

  -- so nothing is told
  way_none : (g : ℕ) (ts : List Task) → way_back g 0 ts ≡ []
  way_none zero ts = refl
  way_none (suc g) ts = refl

  enough_until : (s : State Task) → s.answers ≡ 0 → (j i : ℕ) → until see j i s ≡ quiet
  enough_until s e j zero = refl
  enough_until s e j (suc i) = λ o.
      let v = stops_enough (inner see j) s.steps s.answers s.given s.rows s.row s.lost s.stack e o in
      record { steps = steps_after (steps_until see j i) v; notes = notes_after (notes_until see j i) v }

  pub enough_told : (s : State Task) → s.answers ≡ 0 → (j i : ℕ) → tally_told see j i s ≡ quiet
  enough_told s e j i =
      ap (λ l. record { steps = steps_until see j i s; notes = l ++ notes_until see j i s }) (ap (λ n. way_back s.given n s.stack) e ∙ way_none s.given s.stack) ∙
      enough_until s e j i

  -- the way back from an answer comes first
  pub told_first : (s : State Task) → s.given ≡ 0 → (j i : ℕ) → tally_told see j i s ≡ until see j i s
  told_first s e j i = λ o. record { steps = steps_until see j i s; notes = way_back (e o) s.answers s.stack ++ notes_until see j i s }

  way_some : (g n : ℕ) (ts : List Task) → 0 < g → 0 < n → way_back g n ts ≡ back [] ts
  way_some zero n ts h k = absurd (omega (arith, h))
  way_some (suc g) zero ts h k = absurd (omega (arith, k))
  way_some (suc g) (suc n) ts h k = refl

  pub told_later : (s : State Task) → 0 < s.given → 0 < s.answers → (j i : ℕ) → both (record { steps = 0; notes = back [] s.stack }) (until see j i s) ≡ tally_told see j i s
  told_later s g k j i =
      tally_is (0 + steps_until see j i s) (steps_until see j i s) (back [] s.stack ++ notes_until see j i s) (notes_told see j i s) (omega arith)
      (ap (λ l. l ++ notes_until see j i s) (sym (way_some s.given s.answers s.stack g k)))

  -- a move that ends all
  pub data EndsWith (e : Ending) (v : Move Task Answer) : Type 0 where
    by_stop : v ≡ Stops e → EndsWith e v
    by_break : (k : ℕ) (ns : List Note) → v ≡ Breaks k ns e → EndsWith e v

  ends_made : (e : Ending) (v : Move Task Answer) → EndsWith e v → IsMade v
  unfolding IsMade
  ends_made e v (by_stop q) = subst IsMade (sym q) tt
  ends_made e v (by_break k ns q) = subst IsMade (sym q) tt

  over_event : (e f : Ending) (s t : State Task) → ◌≡◌ {A = Option (Event Answer × State Task)} (Some (Over e, s)) (Some (Over f, t)) → (e ≡ f) × (s ≡ t)
  over_event e f s t h = let r = pair_left (Over e) (Over f) s t h in ((let q = r.0 in cc), r.1)

  -- the move at the state behind an end
  move_at_end : (j i : ℕ) (s t : State Task) (e : Ending) → ((u : State Task) → first see j i u ≡ Some (Over e, t) → EndsWith e
      (move (inner see j) see t)) → (v : Move Task Answer) → move (inner see j) see s ≡ v →
      first_after s (first see j i) v ≡ Some (Over e, t) → EndsWith e (move (inner see j) see t)
  move_at_end j i s t e ih (Goes k ns u) q h = ih u h
  move_at_end j i s t e ih (Tells a ns u) q h = absurd (let r = (pair_left (Gave a) (Over e) u t h).0 in cc)
  move_at_end j i s t e ih (Stops f) q h = let r = over_event f e s t h in subst (λ z. EndsWith e (move (inner see j) see z)) r.1 (by_stop (q ∙ ap (λ o. Stops o) r.0))
  move_at_end j i s t e ih (Breaks k ns f) q h = let r = over_event f e s t h in subst (λ z. EndsWith e (move (inner see j) see z)) r.1 (by_break k ns (q ∙ ap (λ o. Breaks k ns o) r.0))
  move_at_end j i s t e ih (Waits k ns) q h = absurd (cc)

  last_move : (j i : ℕ) (s t : State Task) (e : Ending) → first see j i s ≡ Some (Over e, t) → EndsWith e (move (inner see j) see t)
  last_move j zero s t e h = absurd (cc)
  last_move j (suc i) s t e h = move_at_end j i s t e (λ u g. last_move j i u t e g) (move (inner see j) see s) refl h

  -- that is made with other moves for negated goals, or waits, and then nothing comes
  module _ (e : Ending) (j : ℕ) (t : State Task) (ends : EndsWith e (move (inner see j) see t)) (i : ℕ) where
    fewer : (v : Move Task Answer) → move (inner see i) see t ≡ v → i ≤ j → EndsWith e v ⊎ ((k : ℕ) × (ns : List Note) × (v ≡ Waits k ns))
    unfolding IsMade
    fewer (Goes k ns u) q l = inl (subst (EndsWith e) (move_more see i j l t (subst IsMade (sym q) tt) ∙ q) ends)
    fewer (Tells a ns u) q l = inl (subst (EndsWith e) (move_more see i j l t (subst IsMade (sym q) tt) ∙ q) ends)
    fewer (Stops f) q l = inl (subst (EndsWith e) (move_more see i j l t (subst IsMade (sym q) tt) ∙ q) ends)
    fewer (Breaks k ns f) q l = inl (subst (EndsWith e) (move_more see i j l t (subst IsMade (sym q) tt) ∙ q) ends)
    fewer (Waits k ns) q l = inr (k, ns, refl)

    same_end : (v : Move Task Answer) → move (inner see i) see t ≡ v → EndsWith e v ⊎ ((k : ℕ) × (ns : List Note) × (v ≡ Waits k ns))
    same_end v q = elim (in_order i j) [
      | inl l ↦ fewer v q l
      | inr l ↦ inl (subst (EndsWith e) (sym (move_more see j i l t (ends_made e (move (inner see j) see t) ends)) ∙ q) ends)
    ]

    event_at_end : (m : ℕ) (v : Move Task Answer) → EndsWith e v → (x : Event Answer) (u : State Task) → first_after t (first see i m) v ≡ Some (x, u) → x ≡ Over e
    event_at_end m v (by_stop q) x u h = sym (pair_left (Over e) x t u (sym (ap (first_after t (first see i m)) q) ∙ h)).0
    event_at_end m v (by_break k ns q) x u h = sym (pair_left (Over e) x t u (sym (ap (first_after t (first see i m)) q) ∙ h)).0

  -- a search that is over stays so
  pub over_stays : (s t : State Task) (e : Ending) → Advances see s (Over e) t → (x : Event Answer) (u : State Task) → Advances see t x u → x ≡ Over e
  over_stays s t e d x u f = go f.moves f.gives
    where
      go : (m : ℕ) → first see f.inner_moves m t ≡ Some (x, u) → x ≡ Over e
      go zero q = absurd (cc)
      go (suc m) q =
          let j = d.inner_moves in
          let i = f.inner_moves in
          let ends = last_move j d.moves s t e d.gives in
          elim (same_end e j t ends i (move (inner see i) see t) refl) [
            | inl w ↦ event_at_end e j t ends i m (move (inner see i) see t) w x u q
            | inr w ↦ absurd (let r = sym (ap (first_after t (first see i m)) w.2) ∙ q in cc)
          ]
