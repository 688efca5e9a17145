-- What many notes do to the watchers, in closed form: who is still there, and what each has. Induction along the notes.
use Rattle.std.proofs.Common.{◌≡◌, ℕ, zero, suc, ◌-◌, List, [], ◌∷◌, ◌++◌, length, map, filter, Option, Some, None, option_map, true, false, Bool, cond, refl, sym, ◌∙◌, ap, arith}
use Rattle.std.specs.List.{flat_map}
use Rattle.std.proofs.lemmas.List.{append_assoc, append-nil, take_all}
use Rattle.lp_watch.specs.Notes.{Event}
use Rattle.lp_watch.specs.Reports.{report_of}
use Rattle.lp_watch.specs.Seen.{Seen, seen_after, stays}
use Rattle.lp_watch.specs.Crowd.{after, crowd_after, Place, here, gone, reports, still_here, text_at}
use Rattle.lp_watch.specs.Told.{after_all, count_all, crowd_after_all, seen_after_all, stays_for, taken}

-- one more note at the end
pub crowd_one_more : (notes : List Event) (e : Event) (places : List Place) → crowd_after_all (notes ++ e ∷ []) places ≡ crowd_after e (crowd_after_all notes places)
crowd_one_more [] e places = refl
crowd_one_more (n ∷ notes) e places = crowd_one_more notes e (crowd_after n places)

-- what each note added
pub tally_is : (notes : List Event) (s : Seen) → (seen_after_all notes s).tally ≡ count_all s.tally notes
tally_is [] s = refl
tally_is (e ∷ notes) s = tally_is notes (seen_after e s)

pub told_is : (notes : List Event) (s : Seen) → (seen_after_all notes s).told ≡ option_map (λ told. told ++ notes) s.told
told_is [] s = none_more s.told
  where
    none_more : (o : Option (List Event)) → o ≡ option_map (λ told. told ++ []) o
    none_more None = refl
    none_more (Some told) = ap (λ l. Some l) (sym (append-nil told))
told_is (e ∷ notes) s = told_is notes (seen_after e s) ∙ both s.told
  where
    both : (o : Option (List Event)) → option_map (λ told. told ++ notes) (option_map (λ told. told ++ e ∷ []) o) ≡ option_map (λ told. told ++ e ∷ notes) o
    both None = refl
    both (Some told) = ap (λ l. Some l) (append_assoc told (e ∷ []) notes)

pub left_is : (notes : List Event) (s : Seen) → (seen_after_all notes s).left ≡ option_map (λ n. n - length notes) s.left
left_is [] s = none_less s.left
  where
    none_less : (o : Option ℕ) → o ≡ option_map (λ n. n - 0) o
    none_less None = refl
    none_less (Some n) = ap (λ k. Some k) (omega arith)
left_is (e ∷ notes) s = left_is notes (seen_after e s) ∙ both s.left
  where
    both : (o : Option ℕ) → option_map (λ n. n - length notes) (option_map (λ n. n - 1) o) ≡ option_map (λ n. n - suc (length notes)) o
    both None = refl
    both (Some n) = ap (λ k. Some k) (omega arith)

-- a watcher that is there after a note is there after k more exactly where it was to stay for all of them
pub stays_longer : (k : ℕ) (left : Option ℕ) → stays left ≡ true → stays_for k (option_map (λ n. n - 1) left) ≡ stays_for (suc k) left
stays_longer zero None h = refl
stays_longer zero (Some n) h = sym h
stays_longer (suc k) None h = refl
stays_longer (suc k) (Some n) h = grind arith

pub stays_no_longer : (k : ℕ) (left : Option ℕ) → stays left ≡ false → stays_for (suc k) left ≡ false
stays_no_longer k None h = absurd (cc)
stays_no_longer k (Some n) h = grind (arith, h)

-- a place after one note and then after others
notes_taken : (e : Event) (notes : List Event) (left : Option ℕ) → stays left ≡ true → e ∷ taken notes (option_map (λ n. n - 1) left) ≡ taken (e ∷ notes) left
notes_taken e notes None h = refl
notes_taken e notes (Some zero) h = absurd (cc)
notes_taken e notes (Some (suc zero)) h = absurd (cc)
notes_taken e notes (Some (suc (suc n))) h = ap (λ k. e ∷ taken notes (Some k)) one_less
  where
    one_less : suc (suc n) - 1 ≡ suc n
    one_less = omega arith

one_taken : (e : Event) (notes : List Event) (left : Option ℕ) → stays left ≡ false → taken (e ∷ notes) left ≡ e ∷ []
one_taken e notes None h = absurd (cc)
one_taken e notes (Some zero) h = refl
one_taken e notes (Some (suc zero)) h = refl
one_taken e notes (Some (suc (suc n))) h = absurd (grind (arith, h))

place_noted : (e : Event) (notes : List Event) (p : Place) → after_all notes (after e p) ≡ after_all (e ∷ notes) p
place_noted e notes (gone text) = refl
place_noted e notes (here s) = go (stays s.left) refl
  where
    go : (b : Bool) → stays s.left ≡ b → after_all notes (after e (here s)) ≡ after_all (e ∷ notes) (here s)
    go true h =
        rw (h, stays_longer (length notes) s.left h)
        (ap (λ l. cond (stays_for (suc (length notes)) s.left) (here (seen_after_all notes (seen_after e s))) (gone (report_of (seen_after_all l s)))) (notes_taken e notes s.left h))
    go false h = rw (h, stays_no_longer (length notes) s.left h, one_taken e notes s.left h) refl

pub places_noted : (notes : List Event) (places : List Place) → crowd_after_all notes places ≡ map (after_all notes) places
places_noted [] places = sym (none_more places)
  where
    none_more : (places : List Place) → map (after_all []) places ≡ places
    none_more [] = refl
    none_more (gone text ∷ places) = ap (λ l. gone text ∷ l) (none_more places)
    none_more (here s ∷ places) = ap (λ l. here s ∷ l) (none_more places)
places_noted (e ∷ notes) places = places_noted notes (crowd_after e places) ∙ both places
  where
    both : (places : List Place) → map (after_all notes) (crowd_after e places) ≡ map (after_all (e ∷ notes)) places
    both [] = refl
    both (p ∷ places) = ap (λ q. q ∷ map (after_all notes) (crowd_after e places)) (place_noted e notes p) ∙ ap (λ l. after_all (e ∷ notes) p ∷ l) (both places)

-- after these notes exactly those are there that were to stay for so many, in the old order, each with all of them
pub who_stays_is : (notes : List Event) (seen : List Seen) →
    still_here (crowd_after_all notes (map here seen)) ≡ map (seen_after_all notes) (filter (λ s. stays_for (length notes) s.left) seen)
who_stays_is notes seen = ap still_here (places_noted notes (map here seen)) ∙ those_here notes seen
  where
    one_here : (notes : List Event) (s : Seen) (seen : List Seen) → still_here (map (after_all notes) (map here seen)) ≡ map (seen_after_all notes) (filter (λ s. stays_for (length notes) s.left) seen)
        → (b : Bool) → stays_for (length notes) s.left ≡ b →
        still_here (after_all notes (here s) ∷ map (after_all notes) (map here seen)) ≡ map (seen_after_all notes) (filter (λ s. stays_for (length notes) s.left) (s ∷ seen))
    one_here notes s seen rest true h = rw h (ap (λ l. seen_after_all notes s ∷ l) rest)
    one_here notes s seen rest false h = rw h rest

    those_here : (notes : List Event) (seen : List Seen) → still_here (map (after_all notes) (map here seen)) ≡ map (seen_after_all notes) (filter (λ s. stays_for (length notes) s.left) seen)
    those_here notes [] = refl
    those_here notes (s ∷ seen) = one_here notes s seen (those_here notes seen) (stays_for (length notes) s.left) refl

-- who is still there has taken all
all_taken : (notes : List Event) (left : Option ℕ) → stays_for (length notes) left ≡ true → notes ≡ taken notes left
all_taken notes None h = refl
all_taken [] (Some zero) h = refl
all_taken [] (Some (suc n)) h = refl
all_taken (e ∷ notes) (Some zero) h = absurd (grind (arith, h))
all_taken (e ∷ notes) (Some (suc n)) h = sym (take_all (suc n) (e ∷ notes) (grind (arith, h)))

one_report : (notes : List Event) (s : Seen) (b : Bool) → stays_for (length notes) s.left ≡ b → text_at (after_all notes (here s)) ≡ report_of (seen_after_all (taken notes s.left) s)
one_report notes s true h = rw h (ap (λ l. report_of (seen_after_all l s)) (all_taken notes s.left h))
one_report notes s false h = rw h refl

pub reports_are : (notes : List Event) (seen : List Seen) → reports (crowd_after_all notes (map here seen)) ≡ flat_map (λ s. report_of (seen_after_all (taken notes s.left) s)) seen
reports_are notes seen = ap reports (places_noted notes (map here seen)) ∙ those seen
  where
    those : (seen : List Seen) → reports (map (after_all notes) (map here seen)) ≡ flat_map (λ s. report_of (seen_after_all (taken notes s.left) s)) seen
    those [] = refl
    those (s ∷ seen) = ap (λ l. l ++ reports (map (after_all notes) (map here seen))) (one_report notes s (stays_for (length notes) s.left) refl)
        ∙ ap (λ l. report_of (seen_after_all (taken notes s.left) s) ++ l) (those seen)
