-- Turns one after the other: what was told adds up, and what stands at the next turn is still to be told.
use Rattle.std.proofs.Common.{◌≡◌, ◌+◌, List, [], ◌++◌, refl, subst, sym, ap, ◌∙◌, arith}
use Rattle.std.proofs.lemmas.List.{append-nil}
use Rattle.lp_model.specs.Skeleton.{Note}
use Rattle.lp_model.specs.declared.program.Declared.{Declared as Named}
use Rattle.lp_watch.specs.Crowd.{Place}
use Rattle.lp_plain.specs.declared.machine.Machine.{Machine}
use Rattle.lp_plain.specs.declared.outcome.Turn.{Turn}
use Rattle.lp_plain.specs.Hearing.{Hears, HeardBy, back_behind}
use Rattle.lp_plain.specs.Moving.{Tally, both, quiet}
use Rattle.lp_plain.specs.inner.Following.{Course, Follows, Leaves, Passes, Rests, Stands}
use Rattle.lp_plain.proofs.Following.{both_more, none_both, tally_is}
use Rattle.lp_plain.proofs.Hearing.{heard_more, heard_none, hears_more, plus_none}

-- notes alone
abbrev notes_alone : List Note → Tally
notes_alone ns = record { steps = 0; notes = ns }

both_none : (y : Tally) → y ≡ both y (notes_alone [])
both_none y = tally_is y.steps (y.steps + 0) y.notes (y.notes ++ []) (omega arith) (sym (append-nil y.notes))

-- of a turn that does not go back none is told
pub no_way_back : (turn : Turn) (m : Machine) → (turn ≡ Turn.Back → ⊥) → back_behind turn m ≡ []
no_way_back Turn.On m h = refl
no_way_back Turn.Back m h = absurd (h refl)
no_way_back Turn.Answered m h = refl
no_way_back (Turn.Ended e) m h = refl

-- the way back was told
pub told_leaves : (c : Course) (x y : Tally) (turn : Turn) (n : Machine) → Leaves c x y turn n → Rests c x (both y (notes_alone (back_behind turn n))) turn n
told_leaves c x y Turn.On n h = (h.0, h.1 ∙ ap (λ z. both z h.0) (both_none y), h.2)
told_leaves c x y Turn.Back n h = (h.0, h.1 ∙ sym (both_more y (notes_alone (back_behind Turn.Back n)) h.0), h.2)
told_leaves c x y Turn.Answered n h = (h.0, h.1 ∙ ap (λ z. both z h.0) (both_none y), h.2)
told_leaves c x y (Turn.Ended e) n h = λ few. let r = h few in (r.0, r.1 ∙ both_none y)

module _ (c : Course) (cs : List Named) where
  pub follows_passes : (x : Tally) (m n : Machine) (old mid new : List Place) (turn : Turn) → Follows c cs x m n old mid turn → Hears cs (back_behind turn n) mid new → Passes c cs x m n old new turn
  follows_passes x m n old mid new turn h k = (
    both h.0 (notes_alone (back_behind turn n)),
    ((let a = h.1.0 in omega (arith, a)), hears_more cs h.0.notes (back_behind turn n) old mid new h.1.1 k),
    told_leaves c x h.0 turn n h.2,
  )

  -- a turn in which nothing is told
  pub quiet_passes : (x : Tally) (m n : Machine) (old new : List Place) (turn : Turn) → n.counts.steps ≡ m.counts.steps → Leaves c x quiet turn n →
      Hears cs (back_behind turn n) old new → Passes c cs x m n old new turn
  quiet_passes x m n old new turn e h k = follows_passes x m n old old new turn (quiet, heard_none cs m n old e, h) k

  rests_more : (x y z y' : Tally) (turn : Turn) (n : Machine) → x ≡ both y z → Rests c z y' turn n → Rests c x (both y y') turn n
  rests_more x y z y' Turn.On n e h = (h.0, e ∙ ap (both y) h.1 ∙ sym (both_more y y' h.0), h.2)
  rests_more x y z y' Turn.Back n e h = (h.0, e ∙ ap (both y) h.1 ∙ sym (both_more y y' h.0), h.2)
  rests_more x y z y' Turn.Answered n e h = (h.0, e ∙ ap (both y) h.1 ∙ sym (both_more y y' h.0), h.2)
  rests_more x y z y' (Turn.Ended f) n e h = λ few. let r = h few in (r.0, e ∙ ap (both y) r.1)

  -- the next turn
  pub passes_more : (x y z : Tally) (m n q : Machine) (old mid new : List Place) (turn : Turn) → x ≡ both y z → HeardBy cs m n old mid y → Passes c cs
      z n q mid new turn → Passes c cs x m q old new turn
  passes_more x y z m n q old mid new turn e h k = (both y k.0, heard_more cs y k.0 m n q old mid new h k.1, rests_more x y z k.0 turn q e k.2)

  -- before the first one
  pub passes_first : (x : Tally) (m : Machine) (old : List Place) (turn : Turn) → Stands c x turn m → Passes c cs x m m old old turn
  passes_first x m old Turn.On h = (quiet, (plus_none m.counts.steps, refl), (x, sym (none_both x), h))
  passes_first x m old Turn.Back h = (quiet, (plus_none m.counts.steps, refl), (x, sym (none_both x), h))
  passes_first x m old Turn.Answered h = (quiet, (plus_none m.counts.steps, refl), (x, sym (none_both x), h))
  passes_first x m old (Turn.Ended e) h = (quiet, (plus_none m.counts.steps, refl), h)

  -- behind those before
  pub passes_on : (x : Tally) (m n q : Machine) (old mid new : List Place) (turn next : Turn) → turn ≡ Turn.On → Passes c cs x m n old mid turn →
      ((z : Tally) → Stands c z Turn.On n → Passes c cs z n q mid new next) → Passes c cs x m q old new next
  passes_on x m n q old mid new turn next e h f =
      let p = subst (Passes c cs x m n old mid) e h in passes_more x p.0 p.2.0 m n q old mid new next p.2.1 p.1 (f p.2.0 p.2.2)

  pub passes_back : (x : Tally) (m n q : Machine) (old mid new : List Place) (turn next : Turn) → turn ≡ Turn.Back → Passes c cs x m n old mid turn →
      ((z : Tally) → Stands c z Turn.Back n → Passes c cs z n q mid new next) → Passes c cs x m q old new next
  passes_back x m n q old mid new turn next e h f =
      let p = subst (Passes c cs x m n old mid) e h in passes_more x p.0 p.2.0 m n q old mid new next p.2.1 p.1 (f p.2.0 p.2.2)
