-- What is heard adds up.
use Rattle.std.proofs.Common.{◌≡◌, ℕ, zero, suc, ◌+◌, ◌-◌, ◌<◌, ◌≤◌, arith, List, [], ◌∷◌, ◌++◌, drop, length, map, refl, sym, ap, subst, ◌∙◌, None}
use Rattle.std.proofs.lemmas.Option.{slice_get_past}
use Rattle.std.specs.Prelude.{codes}
use Rattle.lp_standard.specs.Constants.{first_declared, numbered}
use Rattle.lp_model.specs.Skeleton.{BackNote, GoalNote, Note, back, named, variable}
use Rattle.lp_model.specs.declared.program.Declared.{Declared}
use Rattle.lp_watch.specs.Crowd.{Place, crowd_after}
use Rattle.lp_watch.specs.Notes.{goal}
use Rattle.lp_watch.specs.Told.{crowd_after_all}
use Rattle.lp_model.specs.declared.ending.Ending.TheVariants.{NoMore, NoMoreCut, Enough, Steps, Flexible, Arithmetic, OpenNot, Deep}
use Rattle.lp_plain.specs.declared.machine.Counts.{Counts}
use Rattle.lp_plain.specs.declared.machine.Machine.{Machine}
use Rattle.lp_plain.specs.declared.outcome.Turn.{Turn}
use Rattle.lp_plain.specs.Apart.{IsApart}
use Rattle.lp_plain.specs.Hearing.{Hears, HeardBy, back_in, constant_text, form_name, note_in, text_shown}
use Rattle.lp_plain.specs.Stacks.{base_of}
use Rattle.lp_plain.specs.declared.form.Form.{Form}
use Rattle.lp_plain.specs.Moving.{Tally, both, quiet}

-- no step more
pub plus_none : (k : ℕ) → k ≡ k + 0
plus_none k = omega arith

-- a goal that is taken apart takes no step
pub apart_steps : (turn : Turn) (a b : Counts) → IsApart turn a b → b.steps ≡ a.steps
apart_steps Turn.On a b h = ap (λ z. z.steps) h.1
apart_steps Turn.Back a b h = absurd h
apart_steps Turn.Answered a b h = absurd h
apart_steps (Turn.Ended NoMore) a b h = absurd h
apart_steps (Turn.Ended NoMoreCut) a b h = absurd h
apart_steps (Turn.Ended Enough) a b h = absurd h
apart_steps (Turn.Ended Steps) a b h = absurd h
apart_steps (Turn.Ended Flexible) a b h = absurd h
apart_steps (Turn.Ended (Arithmetic f)) a b h = absurd h
apart_steps (Turn.Ended OpenNot) a b h = absurd h
apart_steps (Turn.Ended Deep) a b h = ap (λ z. z.steps) h.1

module _ (cs : List Declared) where
  both_heard : (ns ms : List Note) (old : List Place) → crowd_after_all (map (note_in cs) (ns ++ ms)) old ≡ crowd_after_all (map (note_in cs) ms) (crowd_after_all (map (note_in cs) ns) old)
  both_heard [] ms old = refl
  both_heard (n ∷ ns) ms old = both_heard ns ms (crowd_after (note_in cs n) old)

  pub hears_none : (old : List Place) → Hears cs [] old old
  hears_none old = refl

  pub hears_more : (ns ms : List Note) (old mid new : List Place) → Hears cs ns old mid → Hears cs ms mid new → Hears cs (ns ++ ms) old new
  hears_more ns ms old mid new h k = k ∙ ap (crowd_after_all (map (note_in cs) ms)) h ∙ sym (both_heard ns ms old)

  -- what was heard by one after the other
  pub heard_more : (x y : Tally) (m n q : Machine) (old mid new : List Place) → HeardBy cs m n old mid x → HeardBy cs n q mid new y → HeardBy cs m q old new (both x y)
  heard_more x y m n q old mid new h k = ((let a = h.0 in let b = k.0 in omega (arith, a, b)), hears_more x.notes y.notes old mid new h.1 k.1)

  pub heard_none : (m n : Machine) (old : List Place) → n.counts.steps ≡ m.counts.steps → HeardBy cs m n old old quiet
  heard_none m n old e = (e ∙ plus_none m.counts.steps, refl)

  -- a constant that has no name
  pub unknown_text : (c : ℕ) → numbered c ≡ None → length cs ≤ c - first_declared → constant_text cs c (numbered c) ≡ codes "_"
  unknown_text c e l = ap (constant_text cs c) e ∙ ap text_shown (slice_get_past cs (c - first_declared) l)

  pub heard_unknown : (old new : List Place) (c : ℕ) → numbered c ≡ None → length cs ≤ c - first_declared → Hears cs (GoalNote variable ∷ []) old new → Hears cs (GoalNote (named c) ∷ []) old new
  heard_unknown old new c e l h = h ∙ ap (λ bs. crowd_after (goal bs) old) (sym (unknown_text c e l))

  -- the goal by its form
  pub heard_as : (old new : List Place) (f g : Form) → f ≡ g → Hears cs (GoalNote (form_name f) ∷ []) old new → Hears cs (GoalNote (form_name g) ∷ []) old new
  heard_as old new f g e h = subst (λ (x : Form). Hears cs (GoalNote (form_name x) ∷ []) old new) e h

-- the way back, where the search at work has an alternative
drop_some : {A : Type 0} (b : ℕ) (xs : List A) → b < length xs → back [] (drop b xs) ≡ BackNote ∷ []
drop_some zero [] l = absurd (omega (arith, l))
drop_some zero (x ∷ xs) l = refl
drop_some (suc b) [] l = absurd (omega (arith, l))
drop_some (suc b) (x ∷ xs) l = drop_some b xs (omega (arith, l))

drop_none : {A : Type 0} (b : ℕ) (xs : List A) → length xs ≤ b → back [] (drop b xs) ≡ []
drop_none zero [] l = refl
drop_none zero (x ∷ xs) l = absurd (omega (arith, l))
drop_none (suc b) [] l = refl
drop_none (suc b) (x ∷ xs) l = drop_none b xs (omega (arith, l))

pub back_some : (m : Machine) → base_of m.denied < length m.choices.items → back_in m ≡ BackNote ∷ []
back_some m l = drop_some (base_of m.denied) m.choices.items l

pub heard_back : (cs : List Declared) (m : Machine) (old new : List Place) → base_of m.denied < length m.choices.items → Hears cs (BackNote ∷ []) old new → Hears cs (back_in m) old new
heard_back cs m old new l h = subst (λ ns. Hears cs ns old new) (sym (back_some m l)) h

pub heard_no_back : (cs : List Declared) (m : Machine) (old : List Place) → length m.choices.items ≤ base_of m.denied → Hears cs (back_in m) old old
heard_no_back cs m old l = subst (λ ns. Hears cs ns old old) (sym (drop_none (base_of m.denied) m.choices.items l)) refl
