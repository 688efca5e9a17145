-- Choice points as marks of a store.
use Rattle.std.proofs.Common.{◌≡◌, ◌≤◌, ℕ, Result, Ok, Err, OnOk, OnErr, List, [], ◌∷◌, ◌++◌, length, take, drop, reverse, refl, sym, ap, ◌∙◌, subst, take-append-drop}
use Rattle.std.proofs.lemmas.List.{reverse-append}
use Rattle.std.proofs.Math.Seq.{take-length}
use Rattle.lp_lemmas.proofs.Lists.{reverse_pushed}
use Rattle.lp_store.specs.declared.cell.Mark.{Mark}
use Rattle.lp_store.specs.Contents.{Contents, as_at}
use Rattle.lp_store.specs.Change.{IsMark, IsNoLater, KeepsMarks, lengths}
use Rattle.lp_choice.specs.declared.point.ChoicePoint.{ChoicePoint}
use Rattle.lp_choice.specs.declared.point.Untried.{Untried}
use Rattle.lp_unify.specs.Frames.{Goes}
use Rattle.lp_machine.specs.Kept.{Held, AreNoLater, AreMarksBack, AreMarks, IsKeptAs}

kept_back : (s z : Contents) → KeepsMarks s z → (ps : List ChoicePoint) → AreMarksBack s ps → AreMarksBack z ps
kept_back s z k [] h = tt
kept_back s z k (p ∷ ps) (m, o, r) = ((k p.store m).0, o, kept_back s z k ps r)

-- what keeps the marks of a store keeps those of choice points
pub marks_kept : (s z : Contents) (ps : List ChoicePoint) → KeepsMarks s z → AreMarks s ps → AreMarks z ps
marks_kept s z ps k h = kept_back s z k (reverse ps) h

pub goes_kept : (s z : Contents) (ps : List ChoicePoint) → Goes s z → AreMarks s ps → AreMarks z ps
goes_kept s z ps g h = marks_kept s z ps g.marks h

no_later : (s : Contents) (ps : List ChoicePoint) → AreMarksBack s ps → AreNoLater (lengths s) ps
no_later s [] h = tt
no_later s (p ∷ ps) (m, o, r) = (record { cells = m.cells; items = m.items; bytes = m.bytes; envs = m.envs; trail = m.trail }, no_later s ps r)

-- one more choice point of the store as it is
pub one_pushed : (s : Contents) (ps all : List ChoicePoint) (p : ChoicePoint) → all ≡ ps ++ p ∷ [] → p.store ≡ lengths s → IsMark p.store s → AreMarks s ps → AreMarks s all
one_pushed s ps all p e l m h =
    subst (AreMarksBack s) (sym (reverse_pushed all ps p e)) (m, subst (λ z. AreNoLater z (reverse ps)) (sym l) (no_later s (reverse ps) h), h)

-- the newest choice point, and those behind it
pub newest_first : (s : Contents) (ps all : List ChoicePoint) (p : ChoicePoint) → all ≡ ps ++ p ∷ [] → AreMarks s all → IsMark p.store s × AreNoLater p.store (reverse ps) × AreMarks s ps
newest_first s ps all p e h = subst (AreMarksBack s) (reverse_pushed all ps p e) h

undone_back : (s z : Contents) (m : Mark) → ((k : Mark) → IsNoLater k m → IsMark k s → IsMark k z × (as_at k z ≡ as_at k s)) → (ps : List ChoicePoint) → AreNoLater m ps → AreMarksBack s ps → AreMarksBack z ps
undone_back s z m f [] n h = tt
undone_back s z m f (p ∷ ps) (a, n) (k, o, r) = ((f p.store a k).0, o, undone_back s z m f ps n r)

-- after the store went back to the newest choice point
pub gone_back : (s z : Contents) (ps all : List ChoicePoint) (p : ChoicePoint) → all ≡ ps ++ p ∷ [] → ((k : Mark) → IsNoLater k p.store → IsMark k s → IsMark k z × (as_at k z ≡ as_at k s)) → AreMarks s all → AreMarks z ps
gone_back s z ps all p e f h = let n = newest_first s ps all p e h in undone_back s z p.store f (reverse ps) n.1 n.2

behind_marks : (s : Contents) (xs ys : List ChoicePoint) → AreMarksBack s (xs ++ ys) → AreMarksBack s ys
behind_marks s [] ys h = h
behind_marks s (x ∷ xs) ys (m, o, r) = behind_marks s xs ys r

-- the oldest ones alone
pub oldest_marks : (s : Contents) (ps : List ChoicePoint) (n : ℕ) → AreMarks s ps → AreMarks s (take n ps)
oldest_marks s ps n h = behind_marks s (reverse (drop n ps)) (reverse (take n ps))
    (subst (AreMarksBack s) (ap reverse (sym (take-append-drop n ps)) ∙ reverse-append (take n ps) (drop n ps)) h)

-- by what came of a call
pub by_outcome : {T E A B P : Type 0} (r : Result T E) → OnOk r A → OnErr r B → (A → P) → (B → P) → P
by_outcome (Ok x) a b f g = f a
by_outcome (Err e) a b f g = g b

pub on_ok_then : {T E A B : Type 0} (r : Result T E) → OnOk r A → (A → B) → OnOk r B
on_ok_then (Ok x) a f = f a
on_ok_then (Err e) a f = tt

pub kept_from : (old now new : Held) (level goals : ℕ) (untried : Untried) (p : ChoicePoint) → now ≡ old → IsKeptAs now new level goals untried p → IsKeptAs old new level goals untried p
kept_from old now new level goals untried p e k = subst (λ z. IsKeptAs z new level goals untried p) e k

pub all_taken : {A : Type 0} (xs : List A) (n : ℕ) → n ≡ length xs → take n xs ≡ xs
all_taken xs n e = ap (λ k. take k xs) e ∙ take-length xs
