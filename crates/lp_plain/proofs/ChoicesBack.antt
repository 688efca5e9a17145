-- The search has an alternative to go back to where the definition's has one.
use Rattle.std.proofs.Common.{◌≡◌, ℕ, List, [], ◌∷◌, ◌++◌, refl, sym, ap, ◌∙◌, subst}
use Rattle.lp_calculus.specs.Term.{Term}
use Rattle.lp_model.specs.Branch.{Branch, Entry, Task}
use Rattle.lp_model.specs.Flat.{Clause}
use Rattle.lp_model.specs.Pair.{Closing}
use Rattle.lp_model.specs.Skeleton.{BackNote, State, back}
use Rattle.lp_plain.specs.declared.candidates.Candidate.{Candidate}
use Rattle.lp_plain.specs.declared.choice.Choice.{Choice}
use Rattle.lp_plain.specs.declared.machine.Machine.{Machine}
use Rattle.lp_plain.specs.Entries.{Around}
use Rattle.lp_plain.specs.Hearing.{back_in, choices_in}
use Rattle.lp_plain.specs.Moving.{AreAlternatives, HasAlternatives, IsBack, IsTasksOf, Query, mark_in, of_call, of_side, tries_under}
use Rattle.lp_plain.specs.Searching.{StandForAll, StandsFor, a_side, some_tries}
use Rattle.lp_plain.specs.Stacks.{base_of, stack_of}
use Rattle.lp_plain.specs.Trying.{AreCandidates, tries_of}
use Rattle.lp_plain.specs.Assuming.{Lists}

abbrev IsSome : List Task → Type 0
IsSome [] = ⊥
IsSome (t ∷ ts) = Unit {0}

-- the tasks of an alternative are some
some_raw : (m : Machine) (a : Around) (c : Choice) (k : ℕ) (rs : List Task) → StandsFor m a c k rs → IsSome rs
some_raw m a c k rs (a_side b i j e) = subst IsSome (sym e) tt
some_raw m a c k rs (some_tries t e b d cs i j q) = subst IsSome (sym q) tt

some_under : (l : Lists) (z : Closing) (xs : List Candidate) (cs : List Clause) (t g : Term) (e f : Entry) (b d : Branch) (j k : ℕ) → AreCandidates l
    xs cs → IsSome (tries_of t e b j cs) → IsSome (tries_under z xs cs g f d k)
some_under l z [] [] t g e f b d j k a h = h
some_under l z [] (c ∷ cs) t g e f b d j k a h = absurd a
some_under l z (x ∷ xs) [] t g e f b d j k a h = absurd a
some_under l z (x ∷ xs) (c ∷ cs) t g e f b d j k a h = tt

some_of : (qv : Query) (m : Machine) (c : Choice) (z : Closing) (f : ℕ → ℕ) (l u : ℕ) (rs ts : List Task) → IsTasksOf qv m c z f l u rs ts → IsSome rs → IsSome ts
some_of qv m c z f l u rs ts (of_side lv b d p q h) s = subst IsSome (sym q) tt
some_of qv m c z f l u rs ts (of_call lv call one xs cs t e g b d k un are p q pl br kn) s = subst IsSome (sym q) (some_under _ z xs cs t _ e g b d k k are.are (subst IsSome p s))

back_some : (us ts : List Task) → IsSome ts → back [] (us ++ ts) ≡ BackNote ∷ []
back_some [] [] s = absurd s
back_some [] (t ∷ ts) s = refl
back_some (u ∷ us) ts s = refl

-- the stack has them
back_all : (qv : Query) (m : Machine) (a : Around) (f : ℕ → ℕ) (l k j : ℕ) (cs : List Choice) (rss tss : List (List Task)) → StandForAll m a cs j rss
    → AreAlternatives qv m f l k cs rss tss → back [] cs ≡ back [] (stack_of tss)
back_all qv m a f l k j [] [] [] s h = refl
back_all qv m a f l k j [] [] (ts ∷ tss) s h = absurd h
back_all qv m a f l k j [] (rs ∷ rss) tss s h = absurd s
back_all qv m a f l k j (c ∷ cs) [] tss s h = absurd s
back_all qv m a f l k j (c ∷ cs) (rs ∷ rss) [] s h = absurd h
back_all qv m a f l k j (c ∷ cs) (rs ∷ rss) (ts ∷ tss) s h = sym (back_some (stack_of tss) ts (some_of qv m c h.0.closing f l k rs ts h.0.tasks (some_raw m a c j rs s.0)))

pub back_above : (qv : Query) (m : Machine) (a : Around) (ts : List Task) → HasAlternatives qv m a ts → back_in m ≡ back [] ts
back_above qv m a ts h =
    let b = base_of m.denied in
    back_all qv m a (mark_in b h.raws) b b 0 (choices_in m) h.raws h.others h.done.alternatives h.are ∙ ap (back []) (sym h.is)

pub back_same : (qv : Query) (m : Machine) (s : State Task) → IsBack qv m s → back_in m ≡ back [] s.stack
back_same qv m s h = back_above qv m h.around s.stack h.above
