-- A turn in which a goal is taken apart keeps what is known of marks.
use Rattle.std.proofs.Common.{◌≡◌, ℕ, zero, suc, ◌+◌, ◌≤◌, List, [], ◌∷◌, ◌++◌, length, take, drop, sym, ap, ◌∙◌, subst, arith, Option, None, inl, inr}
use Rattle.std.specs.Prelude.{◌⊎◌}
use Rattle.std.proofs.lemmas.List.{length-append}
use Rattle.lp_pattern.specs.Growing.{GoesOn}
use Rattle.lp_model.specs.Branch.{Answer, Task, Go, Try, Stop, Lack}
use Rattle.lp_model.specs.Skeleton.{View, Gives, Opens, Parts, Takes, Cuts, Denies, Halts, Lacks, State}
use Rattle.lp_plain.specs.declared.choice.Choice.{Choice}
use Rattle.lp_plain.specs.declared.choice.Untried.{Untried}
use Rattle.lp_plain.specs.declared.machine.Machine.{Machine}
use Rattle.lp_plain.specs.Entries.{Around}
use Rattle.lp_plain.specs.Marks.{AreMarked, HasMarks, IsMarked, Marks, SetsAside}
use Rattle.lp_plain.specs.Searching.{IsStateOf, StandForAll}
use Rattle.lp_plain.specs.Stacks.{base_of}
use Rattle.lp_plain.specs.Taking.{IsApartFirst, TakesBranch, TakesOne}
use Rattle.lp_plain.proofs.Alternatives.{taken_same}
use Rattle.lp_plain.proofs.Marked.{marks_wider}
use Rattle.lp_plain.proofs.QuietMoves.{drop_push, kept_of}

-- alternatives while frames come

all_marked_on : (m n : Machine) (a : Around) → GoesOn m.frames.items n.frames.items → (cs : List Choice) (below : ℕ) (tss : List (List Task)) →
    StandForAll m a cs below tss → (l k : ℕ) → AreMarked m l k cs → AreMarked n l k cs
all_marked_on m n a g [] below tss s l k h = tt
all_marked_on m n a g (c ∷ cs) below [] s l k h = absurd s
all_marked_on m n a g (c ∷ cs) below (ts ∷ tss) s l k h =
    let same = taken_same c.lengths.frames m.frames.items n.frames.items g (kept_of m a c below s.0).frames in
    (λ from e. subst (λ z. HasMarks l k z from) (sym same) (h.0 from e), all_marked_on m n a g cs (below + length ts) tss s.1 l (suc k) h.1)

mark_push : (n : Machine) (l k : ℕ) (cs : List Choice) (c : Choice) → AreMarked n l k cs →
    ((from : Option ℕ) → c.untried ≡ Untried.Goals from → HasMarks l (k + length cs) (take c.lengths.frames n.frames.items) from) → AreMarked n l k
    (cs ++ c ∷ [])
mark_push n l k [] c h f = (λ from e. (let z : k + 0 ≡ k = omega arith in subst (λ z. HasMarks l z (take c.lengths.frames n.frames.items) from) z (f from e)), tt)
mark_push n l k (x ∷ cs) c h f = (
  h.0,
  mark_push n l (suc k) cs c h.1 (λ from e. (let z : k + suc (length cs) ≡ suc k + length cs = omega arith in subst
      (λ z. HasMarks l z (take c.lengths.frames n.frames.items) from) z (f from e))),
)

pub drop_length : {X : Type 0} (n : ℕ) (xs : List X) → n ≤ length xs → n + length (drop n xs) ≡ length xs
drop_length zero xs l = let z : 0 + length xs ≡ length xs = omega arith in z
drop_length (suc n) [] l = absurd (omega (arith, l))
drop_length (suc n) (x ∷ xs) l =
    let r : n + length (drop n xs) ≡ length xs = drop_length n xs (omega (arith, l)) in
    let z : suc n + length (drop n xs) ≡ suc (length xs) = omega (arith, r) in
    z

-- one alternative more, or none
one_or_none : (m n : Machine) (a : Around) (v : View Task Answer) → TakesOne m n a v → (n.choices.items ≡ m.choices.items) ⊎ ((c : Choice) × (n.choices.items ≡ m.choices.items ++ c ∷ []))
one_or_none m n a (Parts (Go b ∷ [])) t = inl t.parts.1
one_or_none m n a (Parts (Go b ∷ Go d ∷ [])) t = inr (t.parts.1.0, t.parts.1.1)
one_or_none m n a (Parts []) t = absurd t.parts
one_or_none m n a (Parts (Try c x y b j ∷ ts)) t = absurd t.parts
one_or_none m n a (Parts (Stop x ∷ ts)) t = absurd t.parts
one_or_none m n a (Parts (Lack ∷ ts)) t = absurd t.parts
one_or_none m n a (Parts (Go b ∷ Try c x y d j ∷ ts)) t = absurd t.parts
one_or_none m n a (Parts (Go b ∷ Stop x ∷ ts)) t = absurd t.parts
one_or_none m n a (Parts (Go b ∷ Lack ∷ ts)) t = absurd t.parts
one_or_none m n a (Parts (Go b ∷ Go d ∷ x ∷ ts)) t = absurd t.parts
one_or_none m n a (Gives x) t = absurd t.parts
one_or_none m n a (Opens ts) t = absurd t.parts
one_or_none m n a (Takes x ts) t = absurd t.parts
one_or_none m n a (Cuts x ts) t = absurd t.parts
one_or_none m n a (Denies x y ts) t = absurd t.parts
one_or_none m n a (Halts x) t = absurd t.parts
one_or_none m n a Lacks t = absurd t.parts

module _ (m n : Machine) (a : Around) (s : State Task) (h : IsStateOf m a s) (im : IsMarked m) (d : n.denied ≡ m.denied)
    (g : GoesOn m.frames.items n.frames.items) (mk : (l u : ℕ) → Marks l u m m.branch.goals → Marks l u n n.branch.goals) (sa : SetsAside m n) where
  abbrev base : ℕ
  base = base_of m.denied

  abbrev others : List Choice
  others = drop base m.choices.items

  older : AreMarked n base base others
  older = all_marked_on m n a g others 0 h.others h.search.alternatives base base im.others

  here : Marks base (length m.choices.items) n n.branch.goals
  here = mk base (length m.choices.items) im.here

  based : (Marks base (length n.choices.items) n n.branch.goals) → AreMarked n base base (drop base n.choices.items) → IsMarked n
  based x y = record {
    here = subst (λ z. Marks (base_of z) (length n.choices.items) n n.branch.goals) (sym d) x;
    others = subst (λ z. AreMarked n (base_of z) (base_of z) (drop (base_of z) n.choices.items)) (sym d) y;
  }

  by_choices : (n.choices.items ≡ m.choices.items) ⊎ ((c : Choice) × (n.choices.items ≡ m.choices.items ++ c ∷ [])) → IsMarked n
  by_choices (inl e) = based (subst (λ z. Marks base (length z) n n.branch.goals) (sym e) here) (subst (λ z. AreMarked n base base (drop base z)) (sym e) older)
  by_choices (inr q) =
      let c = q.0 in
      let e = q.1 in
      let l = h.search.base in
      let len = ap length e ∙ length-append m.choices.items (c ∷ []) in
      based (marks_wider base (length m.choices.items) (length n.choices.items) (omega (arith, len)) here)
      (subst (AreMarked n base base) (sym (drop_push base m.choices.items c l) ∙ ap (drop base) (sym e))
      (mark_push n base base others c older (λ from u. subst (λ z. HasMarks base z (take c.lengths.frames n.frames.items) from)
      (sym (drop_length base m.choices.items l)) (sa c e from u base (length m.choices.items) im.here))))

pub marked_turn : (m n : Machine) (a : Around) (s : State Task) (h : IsStateOf m a s) → IsMarked m → TakesBranch m n → IsApartFirst h.at_work.goals →
    ((l u : ℕ) → Marks l u m m.branch.goals → Marks l u n n.branch.goals) → SetsAside m n → IsMarked n
marked_turn m n a s h im t f mk sa =
    let x = t a h.at_work h.search.stands h.search.placed h.search.branch f 0 0 0 [] in
    by_choices m n a s h im x.quiet.on.denied x.quiet.on.frames mk sa (one_or_none m n a _ x)

-- where no alternative is, and no negated goal around
pub first_marked : (m : Machine) → m.choices.items ≡ [] → m.denied ≡ None → Marks 0 0 m m.branch.goals → IsMarked m
first_marked m c d h = record {
  here = subst (λ z. Marks (base_of z) (length m.choices.items) m m.branch.goals) (sym d) (subst (λ (z : List Choice). Marks 0 (length z) m m.branch.goals) (sym c) h);
  others = subst (λ z. AreMarked m (base_of z) (base_of z) (drop (base_of z) m.choices.items)) (sym d) (subst (AreMarked m 0 0) (sym c) tt);
}
