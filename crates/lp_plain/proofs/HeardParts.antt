-- Beginnings of what is told: they come behind what was heard, and stay beginnings whatever comes behind them.
use Rattle.std.proofs.Common.{◌≡◌, ◌⊎◌, ℕ, ◌-◌, ◌<◌, ◌≤◌, List, [], ◌∷◌, ◌++◌, length, sym, ap, subst, inl, inr, Result, Ok, Err, OnOk, OnErr, None}
use Rattle.lp_standard.specs.Constants.{first_declared, numbered}
use Rattle.lp_model.specs.Skeleton.{BackNote, GoalNote, Note, named, variable}
use Rattle.lp_model.specs.declared.program.Declared.{Declared}
use Rattle.lp_watch.specs.Crowd.{Place, ReachesPart, crowd_after}
use Rattle.lp_watch.specs.Notes.{Event, goal}
use Rattle.lp_plain.specs.declared.form.Form.{Form}
use Rattle.lp_plain.specs.declared.machine.Machine.{Machine}
use Rattle.lp_plain.specs.declared.outcome.Turn.{Turn}
use Rattle.lp_plain.specs.Hearing.{HearsPart, Hears, back_behind, back_in, form_name, note_in}
use Rattle.lp_plain.specs.Moving.{Tally, both}
use Rattle.lp_plain.specs.Stacks.{base_of}
use Rattle.lp_plain.specs.inner.Following.{Course, Leaves}
use Rattle.lp_plain.proofs.Hearing.{back_some, unknown_text}

module _ (cs : List Declared) where
  pub part_none : (ns : List Note) (old new : List Place) → new ≡ old → HearsPart cs ns old new
  part_none [] old new e = e
  part_none (n ∷ ns) old new e = inl e

  pub part_more : (ns ms : List Note) (old new : List Place) → HearsPart cs ns old new → HearsPart cs (ns ++ ms) old new
  part_more [] ms old new h = part_none ms old new h
  part_more (n ∷ ns) ms old new (inl h) = inl h
  part_more (n ∷ ns) ms old new (inr (inl h)) = inr (inl h)
  part_more (n ∷ ns) ms old new (inr (inr h)) = inr (inr (part_more ns ms (crowd_after (note_in cs n) old) new h))

  pub part_behind : (ns ms : List Note) (old mid new : List Place) → Hears cs ns old mid → HearsPart cs ms mid new → HearsPart cs (ns ++ ms) old new
  part_behind [] ms old mid new h k = subst (λ x. HearsPart cs ms x new) h k
  part_behind (n ∷ ns) ms old mid new h k = inr (inr (part_behind ns ms (crowd_after (note_in cs n) old) mid new h k))

  pub parts_behind : (x y z : Tally) (old mid new : List Place) → x ≡ both y z → Hears cs y.notes old mid → HearsPart cs z.notes mid new → HearsPart cs x.notes old new
  parts_behind x y z old mid new e h k = subst (λ ns. HearsPart cs ns old new) (sym (ap (λ (t : Tally). t.notes) e)) (part_behind y.notes z.notes old mid new h k)

  -- one note
  abbrev HearsEvent : Event → (old new : List Place) → Type 0
  HearsEvent e old new = (new ≡ old) ⊎ (ReachesPart e old new ⊎ (new ≡ crowd_after e old))

  pub told_part : {A E : Type 0} (r : Result A E) (n : Note) (e : Event) (old new : List Place) → e ≡ note_in cs n → OnOk r (new ≡ crowd_after e old) → OnErr r (ReachesPart e old new) →
      HearsPart cs (n ∷ []) old new
  told_part (Ok x) n e old new q h k = subst (λ z. HearsEvent z old new) q (inr (inr h))
  told_part (Err x) n e old new q h k = subst (λ z. HearsEvent z old new) q (inr (inl k))

  -- a constant that has no name
  pub part_unknown : (old new : List Place) (c : ℕ) → numbered c ≡ None → length cs ≤ c - first_declared → HearsPart cs (GoalNote variable ∷ []) old new → HearsPart cs (GoalNote (named c) ∷ []) old new
  part_unknown old new c e l h = subst (λ bs. HearsEvent (goal bs) old new) (sym (unknown_text cs c e l)) h

  -- the goal by its form
  pub part_as : (old new : List Place) (f g : Form) → f ≡ g → HearsPart cs (GoalNote (form_name f) ∷ []) old new → HearsPart cs (GoalNote (form_name g) ∷ []) old new
  part_as old new f g e h = subst (λ (x : Form). HearsPart cs (GoalNote (form_name x) ∷ []) old new) e h

  -- the way back
  pub part_back : (m : Machine) (old new : List Place) → base_of m.denied < length m.choices.items → HearsPart cs (BackNote ∷ []) old new → HearsPart cs (back_in m) old new
  part_back m old new l h = subst (λ ns. HearsPart cs ns old new) (sym (back_some m l)) h

  -- a turn, and then its way back
  pub turn_part : (c : Course) (x y : Tally) (turn : Turn) (n : Machine) (old mid new : List Place) → Leaves c x y turn n → Hears cs y.notes old mid → HearsPart cs (back_behind turn n) mid new →
      HearsPart cs x.notes old mid → HearsPart cs x.notes old new
  turn_part c x y Turn.On n old mid new h k b p = subst (HearsPart cs x.notes old) (sym b) p
  turn_part c x y Turn.Back n old mid new h k b p =
      parts_behind x y (both (record { steps = 0; notes = back_in n }) h.0) old mid new h.1 k (part_more (back_in n) h.0.notes mid new b)
  turn_part c x y Turn.Answered n old mid new h k b p = subst (HearsPart cs x.notes old) (sym b) p
  turn_part c x y (Turn.Ended e) n old mid new h k b p = subst (HearsPart cs x.notes old) (sym b) p
