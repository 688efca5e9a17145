-- One note goes along the places of a crowd: what holds between the part that has it and the part that is still to
-- get it, and how each step keeps that.
use Rattle.std.specs.Global.{Global}
use Rattle.std.proofs.Common.{◌≡◌, ℕ, ◌+◌, ◌≤◌, List, [], ◌∷◌, ◌++◌, length, map, Option, Some, None, Vec, true, false, refl, sym, ◌∙◌, ap, arith}
use Rattle.std.proofs.lemmas.List.{append_assoc, append-nil, map-append, length-append}
use Rattle.lp_watch.specs.Notes.{Event}
use Rattle.lp_watch.specs.Reports.{report_of}
use Rattle.lp_watch.specs.Seen.{Seen, seen_after, stays}
use Rattle.lp_watch.specs.Crowd.{after, crowd_after, ReachesPart, Place, here, gone, places, open_places}

pub open_append : (A B : List (Option (Vec ℕ Global))) → open_places (A ++ B) ≡ open_places A + open_places B
open_append [] B = omega arith
open_append (Some t ∷ A) B = open_append A B
open_append (None ∷ A) B = let rest = open_append A B in omega arith

-- where the first texts are those of the first watchers, the places are theirs and then those of the others
pub places_append : {W : Type 0} (seen : W → Seen) (A B : List (Option (Vec ℕ Global))) (U : List W) (V : List Seen) → open_places A ≡ length U
    → places (A ++ B) (map seen U ++ V) ≡ places A (map seen U) ++ places B V
places_append seen [] B [] V e = refl
places_append seen [] B (u ∷ U) V e = absurd (omega arith)
places_append seen (Some t ∷ A) B U V e = ap (λ l. gone t.items ∷ l) (places_append seen A B U V e)
places_append seen (None ∷ A) B [] V e = absurd (omega arith)
places_append seen (None ∷ A) B (u ∷ U) V e = ap (λ l. here (seen u) ∷ l) (places_append seen A B U V (omega arith))

-- the texts A and the watchers U have the note, the texts B and the watchers V are still to get it
pub record Walk {W : Type 0} (seen : W → Seen) (e : Event) (before : List Place) (A B : List (Option (Vec ℕ Global))) (U V : List W) : Type 0 where
  pub balanced : open_places A ≡ length U
  pub enough : length V ≤ open_places B
  pub first : List Place
  pub parts : before ≡ first ++ places B (map seen V)
  pub have_it : places A (map seen U) ≡ crowd_after e first

pub walk_starts : {W : Type 0} (seen : W → Seen) (e : Event) (B : List (Option (Vec ℕ Global))) (V : List W) → length V ≤ open_places B → Walk seen e (places B (map seen V)) [] B [] V
walk_starts seen e B V h = record { balanced = refl; enough = h; first = []; parts = refl; have_it = refl }

-- the places up to the next one, where it becomes this one
at_end : {W : Type 0} (seen : W → Seen) (e : Event) (A : List (Option (Vec ℕ Global))) (U : List W) (B : List (Option (Vec ℕ Global))) (V : List Seen) (first : List Place) (p : Place) →
    open_places A ≡ length U → places A (map seen U) ≡ crowd_after e first → places B V ≡ after e p ∷ [] → places (A ++ B) (map seen U ++ V) ≡ crowd_after e (first ++ p ∷ [])
at_end seen e A U B V first p balanced have_it last =
    places_append seen A B U V balanced ∙ ap (λ l. l ++ places B V) have_it ∙ ap (λ l. crowd_after e first ++ l) last ∙ sym (map-append (after e) first (p ∷ []))

-- over a place whose watcher is gone
pub walk_skips : {W : Type 0} (seen : W → Seen) (e : Event) (before : List Place) (A B : List (Option (Vec ℕ Global))) (U V : List W) (t : Vec ℕ Global)
    → Walk seen e before A (Some t ∷ B) U V → Walk seen e before (A ++ Some t ∷ []) B U V
walk_skips {W} seen e before A B U V t walk = record {
  balanced = open_append A (Some t ∷ []) ∙ omega (arith, walk.balanced);
  enough = walk.enough;
  first = walk.first ++ gone t.items ∷ [];
  parts = walk.parts ∙ sym (append_assoc walk.first (gone t.items ∷ []) (places B (map seen V)));
  have_it = ap (places (A ++ Some t ∷ [])) (sym (append-nil (map seen U))) ∙ at_end seen e A U (Some t ∷ []) [] walk.first (gone t.items) walk.balanced walk.have_it refl;
}

-- over a watcher that takes more
pub walk_stays : {W : Type 0} (seen : W → Seen) (e : Event) (before : List Place) (A B : List (Option (Vec ℕ Global))) (U V : List W) (w v : W)
    → Walk seen e before A (None ∷ B) U (w ∷ V) → stays (seen w).left ≡ true → seen v ≡ seen_after e (seen w) → Walk seen e before (A ++ None ∷ []) B (U ++ v ∷ []) V
walk_stays {W} seen e before A B U V w v walk takes noted = record {
  balanced = open_append A (None ∷ []) ∙ ap (λ n. n + 1) walk.balanced ∙ sym (length-append U (v ∷ []));
  enough = omega (arith, walk.enough);
  first = walk.first ++ here (seen w) ∷ [];
  parts = walk.parts ∙ sym (append_assoc walk.first (here (seen w) ∷ []) (places B (map seen V)));
  have_it = ap (places (A ++ None ∷ [])) (map-append seen U (v ∷ []))
      ∙ at_end seen e A U (None ∷ []) (seen v ∷ []) walk.first (here (seen w)) walk.balanced walk.have_it (ap (λ s. here s ∷ []) noted ∙ ap (λ p. p ∷ []) (sym (stay e (seen w) takes)));
}
  where
    stay : (e : Event) (s : Seen) → stays s.left ≡ true → after e (here s) ≡ here (seen_after e s)
    stay e s takes = rw takes refl

-- over a watcher that was done, and left its text
pub walk_leaves : {W : Type 0} (seen : W → Seen) (e : Event) (before : List Place) (A B : List (Option (Vec ℕ Global))) (U V : List W) (w v : W) (t : Vec ℕ Global)
    → Walk seen e before A (None ∷ B) U (w ∷ V) → stays (seen w).left ≡ false → seen v ≡ seen_after e (seen w) → t.items ≡ report_of (seen v) → Walk seen e before (A ++ Some t ∷ []) B U V
walk_leaves {W} seen e before A B U V w v t walk done noted gave = record {
  balanced = open_append A (Some t ∷ []) ∙ omega (arith, walk.balanced);
  enough = omega (arith, walk.enough);
  first = walk.first ++ here (seen w) ∷ [];
  parts = walk.parts ∙ sym (append_assoc walk.first (here (seen w) ∷ []) (places B (map seen V)));
  have_it = ap (places (A ++ Some t ∷ [])) (sym (append-nil (map seen U)))
      ∙ at_end seen e A U (Some t ∷ []) [] walk.first (here (seen w)) walk.balanced walk.have_it (ap (λ l. gone l ∷ []) (gave ∙ ap report_of noted) ∙ ap (λ p. p ∷ []) (sym (leave e (seen w) done)));
}
  where
    leave : (e : Event) (s : Seen) → stays s.left ≡ false → after e (here s) ≡ gone (report_of (seen_after e s))
    leave e s done = rw done refl

-- places without watchers stay as they are
all_gone : (e : Event) (B : List (Option (Vec ℕ Global))) → places B [] ≡ crowd_after e (places B [])
all_gone e [] = refl
all_gone e (Some t ∷ B) = ap (λ l. gone t.items ∷ l) (all_gone e B)
all_gone e (None ∷ B) = all_gone e B

-- where no watcher is left to get the note, all places have it
pub walk_over : {W : Type 0} (seen : W → Seen) (e : Event) (before : List Place) (A B : List (Option (Vec ℕ Global))) (U : List W)
    → Walk seen e before A B U [] → places (A ++ B) (map seen U) ≡ crowd_after e before
walk_over {W} seen e before A B U walk =
    ap (places (A ++ B)) (sym (append-nil (map seen U))) ∙ places_append seen A B U [] walk.balanced ∙ ap (λ l. l ++ places B []) walk.have_it
    ∙ ap (λ l. crowd_after e walk.first ++ l) (all_gone e B) ∙ sym (map-append (after e) walk.first (places B [])) ∙ ap (crowd_after e) (sym walk.parts)

-- where the next watcher could not take the note
pub walk_stops : {W : Type 0} (seen : W → Seen) (e : Event) (before : List Place) (A B : List (Option (Vec ℕ Global))) (U V now : List W)
    → Walk seen e before A B U V → map seen now ≡ map seen U ++ map seen V → ReachesPart e before (places (A ++ B) (map seen now))
walk_stops seen e before A B U V now walk is =
    (walk.first, [], places B (map seen V), walk.parts, ap (places (A ++ B)) is ∙ places_append seen A B U (map seen V) walk.balanced ∙ ap (λ l. l ++ places B (map seen V)) walk.have_it)

-- where the next watcher took the note, and could not give its text
pub walk_stops_after : {W : Type 0} (seen : W → Seen) (e : Event) (before : List Place) (A B : List (Option (Vec ℕ Global))) (U V now : List W) (w v : W)
    → Walk seen e before A (None ∷ B) U (w ∷ V) → seen v ≡ seen_after e (seen w) → map seen now ≡ map seen U ++ seen v ∷ map seen V → ReachesPart e before (places (A ++ None ∷ B) (map seen now))
walk_stops_after seen e before A B U V now w v walk noted is = (
  walk.first,
  seen w ∷ [],
  places B (map seen V),
  walk.parts,
  ap (places (A ++ None ∷ B)) is ∙ places_append seen A (None ∷ B) U (seen v ∷ map seen V) walk.balanced ∙ ap (λ l. l ++ here (seen v) ∷ places B (map seen V)) walk.have_it
      ∙ ap (λ s. crowd_after e walk.first ++ here s ∷ places B (map seen V)) noted,
)
