-- What a turn tells first is the beginning of what is told until the next event.
use Rattle.std.proofs.Common.{◌≡◌, ℕ, zero, suc, ◌+◌, ◌<◌, ◌≤◌, List, [], ◌∷◌, ◌++◌, sym, ap, subst, ◌∙◌, inl, inr, arith, Some}
use Rattle.std.specs.Prelude.{◌^◌, ◌-◌, Bool, None}
use Rattle.lp_model.specs.Branch.{Answer, Task}
use Rattle.lp_model.specs.Events.{Advances, Event, first, first_after}
use Rattle.lp_model.specs.Flat.{Clause}
use Rattle.lp_model.specs.Search.{has_no_pairs, look}
use Rattle.lp_model.specs.Skeleton.{Breaks, Broke, Goes, Held, Inner, Lasts, Move, Note, Refuted, State, Stops, Tells, View, Waits, back, inner, inner_after, later, move}
use Rattle.lp_model.specs.Unify.{unit_limit}
use Rattle.lp_model.specs.declared.program.Declared.{Declared as Named}
use Rattle.lp_watch.specs.Crowd.{Place}
use Rattle.lp_plain.specs.declared.machine.Machine.{Machine}
use Rattle.lp_plain.specs.declared.outcome.Turn.{Turn}
use Rattle.lp_plain.specs.declared.search.Search.{Search}
use Rattle.lp_plain.specs.Between.{IsBetween, answered, begins, goes_on, is_over}
use Rattle.lp_plain.specs.Hearing.{HearsPart, back_in}
use Rattle.lp_plain.specs.Moving.{Tally, Waiting, both}
use Rattle.lp_plain.specs.Stepping.{notes_after, notes_until, steps_after, steps_until}
use Rattle.lp_plain.specs.inner.Beginning.{CountsFirst, HearsFirst, TellsFirst}
use Rattle.lp_plain.specs.inner.Between.{IsToTell}
use Rattle.lp_plain.specs.inner.Following.{Comes, ComesOf, Course, Stands, seen_in, tally_told}
use Rattle.lp_plain.proofs.Between.{course, first_stands, later_stands, tally, to_tell}
use Rattle.lp_plain.proofs.ChoicesBack.{back_same}
use Rattle.lp_plain.proofs.EventMoves.{told_first, told_later}
use Rattle.lp_plain.proofs.Following.{wanted}
use Rattle.lp_plain.proofs.HeardParts.{part_more, part_none}

module _ (c : Course) (n : Note) where
  abbrev see : ℕ → Task → View Task Answer
  see = seen_in c

  -- a step is counted, and the note told first
  abbrev BeginsWith : (steps : ℕ) → List Note → Type 0
  BeginsWith k ns = (1 ≤ k) × (ms : List Note) × (ns ≡ n ∷ ms)

  -- in the outermost search
  first_told : (j i : ℕ) (s : State Task) (v : Move Task Answer) → TellsFirst n v → first_after s (first see j i) v ≡ Some (c.event, c.after) →
      BeginsWith (steps_after (steps_until see j i) v) (notes_after (notes_until see j i) v)
  first_told j i s (Goes k ns t) h e = ((let l = h.0 in omega (arith, l)), h.1 ++ notes_until see j i t, ap (λ l. l ++ notes_until see j i t) h.2)
  first_told j i s (Tells a ns t) h e = absurd h
  first_told j i s (Stops f) h e = absurd h
  first_told j i s (Breaks k ns f) h e = h
  first_told j i s (Waits k ns) h e = absurd (cc)

  -- in that of a negated goal
  later_told : (behind : Tally → State Task → Type 0) (w : Waiting) (m k : ℕ) (ns ms : List Note) (x : Tally) (r : Inner) → 1 ≤ k → ns ≡ n ∷ ms → ComesOf c behind w m x (later k ns r) → BeginsWith x.steps x.notes
  later_told behind w m k ns ms x (Refuted j us p) l e h = ((let q = ap (λ (t : Tally). t.steps) h.1 in omega (arith, l, q)), (ms ++ us) ++ h.0.notes, ap (λ (t : Tally). t.notes) h.1 ∙ ap (λ l. (l ++ us) ++ h.0.notes) e)
  later_told behind w m k ns ms x (Held j us p) l e h =
      ((let q = ap (λ (t : Tally). t.steps) h.1 in omega (arith, l, q)), ((ms ++ us) ++ back [] w.rest) ++ h.0.notes, ap (λ (t : Tally). t.notes) h.1 ∙ ap (λ l. ((l ++ us) ++ back [] w.rest) ++ h.0.notes) e)
  later_told behind w m k ns ms x (Broke j us f) l e h = ((let q = ap (λ (t : Tally). t.steps) h.1 in omega (arith, l, q)), ms ++ us, ap (λ (t : Tally). t.notes) h.1 ∙ ap (λ l. l ++ us) e)
  later_told behind w m k ns ms x (Lasts j us) l e h = absurd h

  inner_told : (behind : Tally → State Task → Type 0) (w : Waiting) (m i p : ℕ) (x : Tally) (v : Move Task Answer) → TellsFirst n v →
      ComesOf c behind w m x (inner_after (inner see i has_no_pairs) has_no_pairs p v) → BeginsWith x.steps x.notes
  inner_told behind w m i p x (Goes k ns t) h o = later_told behind w m k ns h.1 x (inner see i has_no_pairs t) h.0 h.2 o
  inner_told behind w m i p x (Tells a ns t) h o = absurd h
  inner_told behind w m i p x (Stops f) h o = absurd h
  inner_told behind w m i p x (Breaks k ns f) h o = ((let q = ap (λ (t : Tally). t.steps) o.1 in let l = h.0 in omega (arith, l, q)), h.1, ap (λ (t : Tally). t.notes) o.1 ∙ h.2)
  inner_told behind w m i p x (Waits k ns) h o = absurd o

  begins_with : (ws : List Waiting) (x : Tally) (s : State Task) → Comes c ws x s → ((go : (Answer → Bool) → State Task → Inner) → TellsFirst n (move go see s)) → BeginsWith x.steps x.notes
  begins_with [] x s h f = go h.3.moves h.3.gives (ap (λ (t : Tally). t.steps) h.4) (ap (λ (t : Tally). t.notes) h.4)
    where
      go : (i : ℕ) → first see h.3.inner_moves i s ≡ Some (c.event, c.after) → x.steps ≡ steps_until see h.3.inner_moves i s →
          x.notes ≡ notes_until see h.3.inner_moves i s → BeginsWith x.steps x.notes
      go zero q k e = absurd (cc)
      go (suc i) q k e =
          let r = first_told h.3.inner_moves i s (move (inner see h.3.inner_moves) see s) (f (inner see h.3.inner_moves)) q in
          ((let l = r.0 in omega (arith, l, k)), r.1, e ∙ r.2)
  begins_with (w ∷ ws) x s h f = go h.2 h.3
    where
      go : (j : ℕ) → ComesOf c (λ y t. Comes c ws y t) w s.steps x (inner see j has_no_pairs s) → BeginsWith x.steps x.notes
      go zero o = absurd o
      go (suc i) o = inner_told (λ y t. Comes c ws y t) w s.steps i s.row x (move (inner see i) see s) (f (inner see i)) o

-- a turn that tells at most that
pub first_part : (c : Course) (cs : List Named) (ws : List Waiting) (x : Tally) (s : State Task) (old new : List Place) → Comes c ws x s → HearsFirst cs old new s → HearsPart cs x.notes old new
first_part c cs ws x s old new h (inl e) = part_none cs x.notes old new e
first_part c cs ws x s old new h (inr (n, f, p)) =
    let w = wanted c ws x s h in
    let r = begins_with c n ws x s h (λ go. f w.0 w.1 go c.enough c.program) in
    subst (λ ns. HearsPart cs ns old new) (sym r.2) (part_more cs (n ∷ []) r.1 old new p)

pub first_within : (c : Course) (ws : List Waiting) (x : Tally) (s : State Task) (m n : Machine) → Comes c ws x s → CountsFirst m n s → n.counts.steps ≤ m.counts.steps + x.steps
first_within c ws x s m n h (inl e) = omega (arith, e)
first_within c ws x s m n h (inr (e, y, f)) =
    let w = wanted c ws x s h in
    let l = (begins_with c y ws x s h (λ go. f w.0 w.1 go c.enough c.program)).0 in
    omega (arith, e, l)

-- counted from an earlier state
pub counts_from : (m n q : Machine) (s : State Task) → n.counts.steps ≡ m.counts.steps → CountsFirst n q s → CountsFirst m q s
counts_from m n q s e (inl h) = inl (h ∙ e)
counts_from m n q s e (inr (h, x, f)) = inr (h ∙ ap (λ k. k + 1) e, x, f)

-- the steps of a part
pub both_within : (x y z : Tally) (a b d : ℕ) → x ≡ both y z → b ≡ a + y.steps → d ≤ b + z.steps → d ≤ a + x.steps
both_within x y z a b d e p l = let q = ap (λ (t : Tally). t.steps) e in omega (arith, q, p, l)

-- from one event to the next one
module _ (P : List Clause) (n : ℕ) (s : Search) (t : State Task) (x : Event Answer) (v : State Task) (d : Advances (look unit_limit n P) t x v) (Part : Tally → Type 0)
    (none : s.ended ≡ None) (more : s.given < s.answers) (fits : s.answers ≤ 2 ^ 64 - 1) where
  abbrev until_then : Tally
  until_then = tally P n s t x v d

  abbrev whole : Tally
  whole = tally_told (look unit_limit n P) d.inner_moves d.moves t

  pub first_begins : s.given ≡ 0 → ((k : Course) (z : Tally) → IsToTell s k → Stands k z Turn.On s.machine → Part z) → IsBetween P n s t → Part whole
  first_begins z f (goes_on qv e hv g (begins y st) cl ty) =
      subst Part (sym (told_first (look unit_limit n P) t (g.given ∙ z) d.inner_moves d.moves))
      (f (course P n s t x v d qv) until_then (to_tell P n s t x v d qv hv g ty cl more fits none) (first_stands P n s t x v d qv hv g ty cl more st))
  first_begins z f (goes_on qv e hv g (answered y bk) cl ty) = absurd (omega (arith, z, y))
  first_begins z f (is_over e q o) = absurd (cc)

  pub later_begins : 0 < s.given → ((k : Course) (z : Tally) → IsToTell s k → Stands k z Turn.Back s.machine → Part (both (record { steps = 0; notes = back_in s.machine }) z)) → IsBetween P n s t → Part whole
  later_begins z f (goes_on qv e hv g (answered y bk) cl ty) =
      let wanted : 0 < t.answers = (let a = g.left in omega (arith, a, more)) in
      let given : 0 < t.given = (let a = g.given in omega (arith, a, z)) in
      subst Part
      (ap (λ l. both (record { steps = 0; notes = l }) until_then) (back_same qv s.machine t bk) ∙ told_later (look unit_limit n P) t given wanted d.inner_moves d.moves)
      (f (course P n s t x v d qv) until_then (to_tell P n s t x v d qv hv g ty cl more fits none) (later_stands P n s t x v d qv hv g ty cl more bk))
  later_begins z f (goes_on qv e hv g (begins y st) cl ty) = absurd (omega (arith, z, y))
  later_begins z f (is_over e q o) = absurd (cc)
