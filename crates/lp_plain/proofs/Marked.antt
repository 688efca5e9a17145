-- Marks of goals stay while frames come, and those that are put in front have that of their place.
use Rattle.std.proofs.Common.{◌≡◌, ℕ, ◌≤◌, List, [], ◌∷◌, ◌++◌, length, take, drop, refl, sym, ap, ◌∙◌, subst, arith, Option, Some}
use Rattle.std.specs.Prelude.{slice_get}
use Rattle.std.proofs.Math.Seq.{take-append_seam}
use Rattle.std.proofs.lemmas.List.{length-append, take-append-drop, take-append-le}
use Rattle.std.proofs.lemmas.Option.{slice_get_within}
use Rattle.lp_lemmas.proofs.Lists.{get_append, get_push}
use Rattle.lp_term.specs.Nodes.{Nodes}
use Rattle.lp_model.specs.Branch.{Entry, entries}
use Rattle.lp_model.specs.Flat.{Goal}
use Rattle.lp_pattern.specs.Growing.{GoesOn}
use Rattle.lp_plain.specs.declared.choice.Choice.{Choice}
use Rattle.lp_plain.specs.declared.choice.Untried.{Untried}
use Rattle.lp_plain.specs.declared.frame.Frame.{Frame}
use Rattle.lp_plain.specs.declared.frame.Place.{Place}
use Rattle.lp_plain.specs.declared.machine.Machine.{Machine}
use Rattle.lp_plain.specs.Apart.{apart}
use Rattle.lp_plain.specs.Entries.{Around, AreEntries, no_frame, a_frame, HasAlternative, KeepsGoals, placed}
use Rattle.lp_plain.specs.Marks.{HasMarks, no_mark, a_mark, Marks, PutsAside, PutsMarks, SetsAside}
use Rattle.lp_plain.specs.Scopes.{Blocks}
use Rattle.lp_plain.specs.Tables.{Shown}

pub marks_more : (l u : ℕ) (fs more : List Frame) {o : Option ℕ} → HasMarks l u fs o → HasMarks l u (fs ++ more) o
marks_more l u fs more (no_mark e) = no_mark e
marks_more l u fs more (a_mark i f e g h k r) =
    let w = slice_get_within fs i f g in
    a_mark i f e (get_append fs more i f g) h k (subst (λ z. HasMarks l u z f.behind) (sym (take-append-le i fs more (omega (arith, w)))) r)

pub marks_on : (l u : ℕ) (fs gs : List Frame) (o : Option ℕ) → GoesOn fs gs → HasMarks l u fs o → HasMarks l u gs o
marks_on l u fs gs o g h = subst (λ z. HasMarks l u z o) (sym g.1) (marks_more l u fs g.0 h)

pub mark_put : (l u : ℕ) (fs gs : List Frame) (f : Frame) → gs ≡ fs ++ f ∷ [] → l ≤ f.place.mark → f.place.mark ≤ u → HasMarks l u fs f.behind → HasMarks l u gs (Some (length fs))
mark_put l u fs gs f e h k r = subst (λ z. HasMarks l u z (Some (length fs))) (sym e)
    (a_mark (length fs) f refl (get_push fs f) h k (subst (λ z. HasMarks l u z f.behind) (sym (take-append_seam fs (f ∷ []))) r))

pub marks_wider : (l u w : ℕ) {fs : List Frame} {o : Option ℕ} → u ≤ w → HasMarks l u fs o → HasMarks l w fs o
marks_wider l u w k (no_mark e) = no_mark e
marks_wider l u w k (a_mark i f e g h j r) = a_mark i f e g h (omega (arith, j, k)) (marks_wider l u w k r)

-- marks that read the same for such goals
module _ (a d : Around) (l u : ℕ) (agree : (k : ℕ) → l ≤ k → k ≤ u → d.mark k ≡ a.mark k) (same_assumed : d.assumed ≡ a.assumed) (same_written : d.written ≡ a.written) where
  placed_marked : (p : Place) (gs : List Goal) → l ≤ p.mark → p.mark ≤ u → placed a p gs ≡ placed d p gs
  placed_marked p gs h k = λ i. entries gs (sym same_assumed i p.assumed) (sym same_written i p.standing) p.level (sym (agree p.mark h k) i)

  same_frame : (fs : List Frame) (i j : ℕ) (f g : Frame) {o : Option ℕ} → o ≡ Some i → o ≡ Some j → slice_get fs i ≡ Some f → slice_get fs j ≡ Some g → (i ≡ j) × (f ≡ g)
  same_frame fs i j f g p q x y = let e : i ≡ j = cc in (e, (let z : Some f ≡ Some g = sym x ∙ ap (slice_get fs) e ∙ y in cc))

  pub entries_marked : (b : Nodes) (t : Shown) (s : Blocks) {fs : List Frame} {o : Option ℕ} {es : List Entry} → HasMarks l u fs o → AreEntries b t s a fs o es → AreEntries b t s d fs o es
  entries_marked b t s h (no_frame e z) = no_frame e z
  entries_marked b t s (no_mark q) (a_frame i f gs rest e g k r z) = absurd (cc)
  entries_marked b t s {fs} (a_mark j w q x y v h) (a_frame i f gs rest e g k r z) =
      let n = same_frame fs j i w f q e x g in
      let lo = subst (λ (c : Frame). l ≤ c.place.mark) n.1 y in
      let hi = subst (λ (c : Frame). c.place.mark ≤ u) n.1 v in
      let m = subst (λ (c : Frame). HasMarks l u (take i fs) c.behind) n.1 (subst (λ c. HasMarks l u (take c fs) w.behind) n.0 h) in
      a_frame i f gs rest e g k (entries_marked b t s m r) (z ∙ ap (λ c. c ++ rest) (placed_marked f.place gs lo hi))

-- an alternative of goals that were put before it
pub marks_aside : (l u : ℕ) (n o r : Machine) (c : Choice) (front from : Option ℕ) (h : HasAlternative n o (Untried.Goals front)) → h.choice ≡ c →
    c.untried ≡ Untried.Goals from → KeepsGoals n r → HasMarks l u n.frames.items front → HasMarks l u (take c.lengths.frames r.frames.items) from
marks_aside l u n o r c front from h e q k m =
    let f : front ≡ from = (let x : Untried.Goals front ≡ Untried.Goals from = sym h.left ∙ ap (λ z. z.untried) e ∙ q in cc) in
    let t : n.frames.items ≡ take c.lengths.frames r.frames.items = sym (ap (λ z. take z r.frames.items)
    (ap (λ z. z.lengths.frames) (sym e) ∙ h.frames) ∙ ap (take (length n.frames.items)) k.frames.1 ∙ take-append_seam n.frames.items k.frames.0)
    in
    subst (λ z. HasMarks l u z from) t (subst (HasMarks l u n.frames.items) f m)

-- so where a goal was counted before
pub marks_apart : (m c n : Machine) (p : Place) (o r : Option ℕ) → c ≡ apart m → PutsMarks c n p o r → PutsMarks m n p o r
marks_apart m c n p o r e g = subst (λ z. PutsMarks z n p o r) e g

pub aside_apart : (m c n : Machine) (p : Place) (o : Option ℕ) → c ≡ apart m → PutsAside c n p o → PutsAside m n p o
aside_apart m c n p o e g = subst (λ z. PutsAside z n p o) e g

-- those of the goals behind a frame, and its own
pub mark_of : (l u : ℕ) (fs : List Frame) (number : ℕ) (f : Frame) → slice_get fs number ≡ Some f → HasMarks l u fs (Some number) → (l ≤ f.place.mark) × (f.place.mark ≤ u) × HasMarks l u fs f.behind
mark_of l u fs number f got (no_mark e) = absurd (cc)
mark_of l u fs number f got (a_mark i g e x h k r) =
    let n : number ≡ i = cc in
    let same : g ≡ f = (let y : Some g ≡ Some f = sym x ∙ ap (slice_get fs) (sym n) ∙ got in cc) in (
      subst (λ (z : Frame). l ≤ z.place.mark) same h,
      subst (λ (z : Frame). z.place.mark ≤ u) same k,
      subst (λ z. HasMarks l u z f.behind) (take-append-drop i fs) (marks_more l u (take i fs) (drop i fs) (subst (λ (z : Frame). HasMarks l u (take i fs) z.behind) same r)),
    )

pub branch_marked : (m n : Machine) (number : ℕ) (f : Frame) (r : Option ℕ) → m.branch.goals ≡ Some number → slice_get m.frames.items number ≡ Some f
    → PutsMarks m n f.place f.behind r → (l u : ℕ) → Marks l u m m.branch.goals → Marks l u n r
branch_marked m n number f r g got k l u h =
    let z = mark_of l u m.frames.items number f got (subst (λ o. HasMarks l u m.frames.items o) g h) in
    k l u z.2 z.0 z.1

-- no alternative came
pub none_pushed : {X : Type 0} (xs : List X) (x : X) → xs ≡ xs ++ x ∷ [] → ⊥
none_pushed xs x e = let z = ap length e in let l = length-append xs (x ∷ []) in omega (arith, z, l)

pub none_aside : (m n : Machine) (p : Place) (o : Option ℕ) → n.choices.items ≡ m.choices.items → PutsAside m n p o
none_aside m n p o e c q = absurd (none_pushed m.choices.items c (sym e ∙ q))

pub branch_aside : (m n : Machine) (number : ℕ) (f : Frame) → m.branch.goals ≡ Some number → slice_get m.frames.items number ≡ Some f → PutsAside m n f.place f.behind → SetsAside m n
branch_aside m n number f g got k c e from q l u h =
    let z = mark_of l u m.frames.items number f got (subst (λ o. HasMarks l u m.frames.items o) g h) in
    k c e from q l u z.2 z.0 z.1
